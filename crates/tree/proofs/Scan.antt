-- One pass over the entries of a table, in lists: which nodes are marked as named, how many entries named one, and whether one of them named
-- a marked node. Assumes nothing.
use mathlib.Core.Path.{◌≡◌, refl, sym, ap, ◌∙◌, subst}
use mathlib.Core.Logic.{◌⊎◌, inl, inr, ⊎_elim}
use mathlib.Core.Bool.{Bool, true, false, ◌||◌}
use mathlib.Core.List.{List, [], ◌∷◌, ◌++◌}
use Prim.Native.Nat.{ℕ, zero, suc, ◌+◌, ◌≤◌, ◌<◌}
use native.Mathlib.Nat.{not-suc-le-zero, le_of_suc-le-suc}
use native.Mathlib.Numerals.{add-one}
use native.Mathlib.Omega.{arith}
use lib.Dec.{ltb}
use lib.ListN.{length, get_or, take, set, length-set}
use lib.Seq.{take-suc, take_all, get_or-set_same, get_or-set_other}
use borrow.Author.Tests.{lt-ltb, le-ltb, ltb-true, ltb-false}
use Rattle.tree.specs.Numbers.{is, count}
use Rattle.tree.specs.Table.{none, nodes}
use Rattle.tree.specs.WellFormed.{bad_length, bad_entry, named_twice, unnamed}
use Rattle.tree.specs.Steps.{Unmarked}
use Rattle.tree.proofs.Counting.{is_same, is-other, is-cases, count-append, All, all_append, sum_below, sum_below-one, sum_below-add, sum_below-mono, sum_below_cong, sum_below-outside, sum_below-once, sum_below_lacking}
use Rattle.refusal.proofs.Truth.{true-or-false}
use Rattle.tree.proofs.Tests.{all-at}
use Rattle.tree.proofs.Linked.{Names}
use Rattle.tree.proofs.Accepted.{good_length, entries-named, named-entries, once-named, named-once, all_named, stray}

-- what stands inside a list does not depend on the default
pub get_d_any {ℓ} : {A : Type ℓ} (l : List A) (i : ℕ) (d e : A) → i < length l → get_or l i d ≡ get_or l i e
get_d_any [] i d e h = absurd (not-suc-le-zero h)
get_d_any (x ∷ l) zero d e h = refl
get_d_any (x ∷ l) (suc i) d e h = get_d_any l i d e (le_of_suc-le-suc h)

-- how often v is named by the first i entries; the root counts as named from the start
abbrev pub naming : List ℕ → ℕ → ℕ → ℕ
naming t i v = is v 0 + count v (take i t)

-- whether a node was named again: one was, or none was
abbrev Again : List ℕ → ℕ → Bool → Type 0
Again t i true = (v : ℕ) × (v < nodes t) × (2 ≤ naming t i v)
Again t i false = (v : ℕ) → v < nodes t → naming t i v ≤ 1

-- where the pass has come to
pub record Scanning (t : List ℕ) (named : List Bool) (names : ℕ) (repeated : Bool) (i : ℕ) : Type 0 where
  pub size : nodes t ≤ length named
  pub within : i ≤ length t
  pub good : All (Names (nodes t)) (take i t)
  pub few : names ≤ 1 + i
  pub marks : (v : ℕ) → v < nodes t → get_or named v false ≡ ltb 0 (naming t i v)
  pub sum : names ≡ sum_below (nodes t) (naming t i)
  pub again : Again t i repeated

module _ (t : List ℕ) (marks : List Bool) (ok : bad_length t ≡ false) (U : Unmarked (nodes t) marks) where
  some : 0 < nodes t
  some = omega (arith, (good_length t ok).0, (good_length t ok).1)

  pub some-marks : 0 < length marks
  some-marks = omega (arith, some, U.enough)

  pub scan_start : Scanning t (set marks 0 true) 1 false 0
  scan_start =
      record {
        size = omega (arith, length-set marks 0 true);
        within = omega arith;
        good = tt;
        few = omega arith;
        marks = first-set;
        sum = sym (sum_below_cong (nodes t) (naming t 0) (λ v. is v 0) (λ v h. omega arith) ∙ sum_below-once (nodes t) 0 some);
        again = λ v h. ⊎_elim (λ s. omega arith) (λ s. omega arith) (is-cases v 0);
      }
    where
      first-set : (v : ℕ) → v < nodes t → get_or (set marks 0 true) v false ≡ ltb 0 (naming t 0 v)
      first-set v h =
          ⊎_elim (λ s. ap (λ (x : ℕ). get_or (set marks 0 true) x false) s.0 ∙ get_or-set_same marks 0 true false some-marks ∙ sym (lt-ltb 0 (naming t 0 v) (omega arith)))
          (λ s. get_or-set_other marks 0 v true false s.0 ∙ U.clear v h ∙ sym (le-ltb 0 (naming t 0 v) (omega arith)))
          (is-cases v 0)

module _ (t : List ℕ) (named : List Bool) (names : ℕ) (repeated : Bool) (i : ℕ) (S : Scanning t named names repeated i) (inside : i < length t) where
  taken : take (i + 1) t ≡ take i t ++ (get_or t i 0 ∷ [])
  taken = ap (λ (k : ℕ). take k t) (add-one i) ∙ take-suc t i 0 inside

  counted : (v : ℕ) → naming t (i + 1) v ≡ naming t i v + is v (get_or t i 0)
  counted v = omega (arith, ap (count v) taken, count-append v (take i t) (get_or t i 0 ∷ []))

  as_before : (v : ℕ) → is v (get_or t i 0) ≡ 0 → naming t i v ≡ naming t (i + 1) v
  as_before v o = omega (arith, counted v)

  summed : sum_below (nodes t) (naming t (i + 1)) ≡ names + sum_below (nodes t) (λ v. is v (get_or t i 0))
  summed =
      sum_below_cong (nodes t) (naming t (i + 1)) (λ v. naming t i v + is v (get_or t i 0)) (λ v h. counted v)
      ∙ sum_below-add (nodes t) (naming t i) (λ v. is v (get_or t i 0))
      ∙ ap (λ (k : ℕ). k + sum_below (nodes t) (λ v. is v (get_or t i 0))) (sym S.sum)

  -- an entry that names no node
  pub scan_skip : get_or t i 0 ≡ none → nodes t ≤ 1024 → Scanning t named names repeated (i + 1)
  scan_skip e few =
      record {
        size = S.size;
        within = omega arith;
        good = subst (All (Names (nodes t))) (sym taken) (all_append (Names (nodes t)) (take i t) (get_or t i 0 ∷ []) S.good (inr e, tt));
        few = omega arith;
        marks = λ v h. S.marks v h ∙ ap (ltb 0) (same v h);
        sum = omega (arith, summed, sum_below-outside (nodes t) (get_or t i 0) (omega arith));
        again = still repeated S.again;
      }
    where
      same : (v : ℕ) → v < nodes t → naming t i v ≡ naming t (i + 1) v
      same v h = as_before v (is-other v (get_or t i 0) (λ p. omega arith))

      still : (r : Bool) → Again t i r → Again t (i + 1) r
      still true a = (a.0, a.1, omega (arith, same a.0 a.1))
      still false a = λ v h. omega (arith, same v h, a v h)

  -- an entry that names a node
  pub scan_mark : get_or t i 0 < nodes t
      → Scanning t (set named (get_or t i 0) true) (names + 1) (repeated || get_or named (get_or t i 0) false) (i + 1)
  scan_mark below =
      record {
        size = omega (arith, length-set named (get_or t i 0) true);
        within = omega arith;
        good = subst (All (Names (nodes t))) (sym taken) (all_append (Names (nodes t)) (take i t) (get_or t i 0 ∷ []) S.good (inl below, tt));
        few = omega arith;
        marks = marks;
        sum = omega (arith, summed, sum_below-once (nodes t) (get_or t i 0) below);
        again = again repeated (get_or named (get_or t i 0) false) S.again (S.marks (get_or t i 0) below);
      }
    where
      marks : (v : ℕ) → v < nodes t → get_or (set named (get_or t i 0) true) v false ≡ ltb 0 (naming t (i + 1) v)
      marks v h =
          ⊎_elim (λ s.
          ap (λ (x : ℕ). get_or (set named (get_or t i 0) true) x false) s.0
          ∙ get_or-set_same named (get_or t i 0) true false (omega arith)
          ∙ sym (lt-ltb 0 (naming t (i + 1) v) (omega (arith, counted v))))
          (λ s. get_or-set_other named (get_or t i 0) v true false s.0 ∙ S.marks v h ∙ ap (ltb 0) (as_before v s.1))
          (is-cases v (get_or t i 0))

      again : (r m : Bool) → Again t i r → m ≡ ltb 0 (naming t i (get_or t i 0)) → Again t (i + 1) (r || m)
      again true m a e = (a.0, a.1, omega (arith, counted a.0))
      again false true a e =
          (get_or t i 0, below, omega (arith, counted (get_or t i 0), is_same (get_or t i 0) (get_or t i 0) refl, ltb-true 0 (naming t i (get_or t i 0)) (sym e)))
      again false false a e = λ v h.
          ⊎_elim (λ s. omega (arith, counted v, ap (naming t i) s.0, ltb-false 0 (naming t i (get_or t i 0)) (sym e)))
          (λ s. omega (arith, counted v, a v h))
          (is-cases v (get_or t i 0))

-- an entry that is neither none nor a node's
pub scan_bad : (t : List ℕ) (i : ℕ) → i < length t → (get_or t i 0 ≡ none → ⊥) → nodes t ≤ get_or t i 0 → true ≡ bad_entry t
scan_bad t i h some large =
    ⊎_elim (λ e. sym e)
    (λ e. absurd (⊎_elim (λ k. omega (arith, get_d_any t i 0 none h)) (λ k. some (get_d_any t i 0 none h ∙ k))
    (all-at (Names (nodes t)) t none (entries-named t e) i h)))
    (true-or-false (bad_entry t))

-- past the last entry
module _ (t : List ℕ) (named : List Bool) (names : ℕ) (repeated : Bool) (i : ℕ) (S : Scanning t named names repeated i) (over : length t ≤ i) where
  whole : take i t ≡ t
  whole = take_all i t over

  pub scan_good : false ≡ bad_entry t
  scan_good = sym (named-entries t (subst (All (Names (nodes t))) whole S.good))

  pub scan_repeated : bad_length t ≡ false → repeated ≡ named_twice t
  scan_repeated ok = go repeated S.again (true-or-false (named_twice t))
    where
      go : (r : Bool) → Again t i r → (named_twice t ≡ true) ⊎ (named_twice t ≡ false) → r ≡ named_twice t
      go true a (inl e) = sym e
      go true a (inr e) = absurd (omega (arith, ap (count a.0) whole, named-once t e a.0 a.1))
      go false a e = sym (once-named t (omega (arith, (good_length t ok).0, (good_length t ok).1)) (λ w h. omega (arith, ap (count w) whole, a w h)))

  pub scan_missing : repeated ≡ false → ltb names (nodes t) ≡ unnamed t
  scan_missing r =
      ⊎_elim (λ e.
      let s = stray t e in
      lt-ltb names (nodes t) (omega (
        arith,
        S.sum,
        sum_below_lacking (nodes t) (naming t i) (subst (Again t i) r S.again) s.0 s.1
            (omega (arith, ap (count s.0) whole, is-other s.0 0 s.2)),
      ))
      ∙ sym e)
      (λ e.
      le-ltb names (nodes t) (omega (
        arith,
        S.sum,
        sum_below-one (nodes t),
        sum_below-mono (nodes t) (λ v. 1) (naming t i) (λ v h. omega (arith, ap (count v) whole, all_named t e v h)),
      ))
      ∙ sym e)
      (true-or-false (unnamed t))
