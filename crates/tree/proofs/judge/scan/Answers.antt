-- `tree::judge::scan` meets its contract: each turn takes one entry. Assumes nothing.
use mathlib.Core.Bool.{Bool, true, true≢false}
use mathlib.Core.Path.{◌≡◌, refl, sym, ◌∙◌, subst, subst₂}
use mathlib.Core.List.{List}
use Prim.Native.Nat.{ℕ, ◌+◌}
use native.Mathlib.Omega.{arith}
use lib.ListN.{length, get_or, set, length-set}
use Rattle.tree.proofs.Accepted.{good_length}
use Rattle.tree.proofs.Scan.{Scanning, some-marks, scan_start, scan_skip, scan_mark, scan_bad, scan_good, scan_repeated, scan_missing}
use Rattle.tree.proofs.judge.scan.Goals as goal
use Rattle.tree.proofs.judge.scan.Goals.{then-e-ne65535+else-n-e, else-e-ne65535}

pub bounds-named-0 : goal.bounds-named-0
bounds-named-0 c = some-marks c.args.table.now _ c.requires.table_value c.requires.unmarked

pub loop-entry-init : goal.loop-entry-init
loop-entry-init c = (refl, scan_start c.args.table.now _ c.requires.table_value c.requires.unmarked)

pub returns-then-n-e : goal.returns-then-n-e
returns-then-n-e c =
    record {
      bad = scan_bad c.args.table.now c.loop-entry.entry-index c.loop-entry-test.true c.if-e-ne65535.true c.if-n-e.true;
      repeated = λ e. absurd (true≢false e);
      missing = λ e. absurd (true≢false e);
    }

-- what holds of the values that a branch gives holds where the branches meet
carried : (P : List Bool → ℕ → Bool → Type 0) {l l' : List Bool} {k k' : ℕ} {r r' : Bool} → l ≡ l' → k ≡ k' → r ≡ r' → P l' k' r' → P l k r
carried P {l' = l'} {k = k} {r = r} p q e h = subst (λ (x : List Bool). P x k r) (sym p) (subst₂ (P l') (sym q) (sym e) h)

pub loop-entry-preserved : goal.loop-entry-preserved
loop-entry-preserved c =
    let t = c.args.table.now in
    let i = c.loop-entry.entry-index in
    let S = c.loop-entry.invariant.1 in
    let inside = c.loop-entry-test.true in
    let P : List Bool → ℕ → Bool → Type 0 = λ l k r. (length l ≡ length (set c.args.named.now 0 true)) × Scanning t l k r (i + 1) in
    elim c.if-e-ne65535.branch [
      | then-e-ne65535+else-n-e w ↦ carried P w.named-is w.names-is w.repeated-is (
        length-set c.loop-entry.named (get_or t i 0) true ∙ c.loop-entry.invariant.0,
        scan_mark t c.loop-entry.named c.loop-entry.names c.loop-entry.repeated i S inside w.if-n-e.false,
      )
      | else-e-ne65535 w ↦ carried P w.named-is w.names-is w.repeated-is (
        c.loop-entry.invariant.0,
        scan_skip t c.loop-entry.named c.loop-entry.names c.loop-entry.repeated i S inside w.if-e-ne65535.false
            (omega (arith, (good_length t c.requires.table_value).2)),
      )
    ]

pub returns : goal.returns
returns c =
    let p = c.loop-entry in
    record {
      bad = scan_good c.args.table.now p.named p.names p.repeated p.entry-index p.invariant.1 c.loop-entry-test.false;
      repeated = λ e. scan_repeated c.args.table.now p.named p.names p.repeated p.entry-index p.invariant.1 c.loop-entry-test.false c.requires.table_value;
      missing = λ e. scan_missing c.args.table.now p.named p.names p.repeated p.entry-index p.invariant.1 c.loop-entry-test.false;
    }
