-- Texts stored one behind the other are one text stored. Assumes nothing.
use mathlib.Core.Path.{◌≡◌, refl, sym, ap, ◌∙◌}
use Prim.Native.Nat.{ℕ, suc, ◌+◌, ◌≤◌}
use native.Mathlib.Omega.{arith}
use mathlib.Core.List.{List, [], ◌∷◌, ◌++◌, append_assoc}
use lib.ListN.{length, set, take, drop, length-append}
use lib.Seq.{sets, sets-eq, set_comm, drop-drop}
use borrow.Rule.Slice.PartMut.{put_mid}
use Rattle.refusal.proofs.After.{sets_append}
use Rattle.lines.specs.Steps.{Put}

-- a byte past a text may be stored before the text is
pub sets_late : (old : List ℕ) (at k x : ℕ) (text : List ℕ) → at + length text ≤ k → sets (set old k x) at text ≡ set (sets old at text) k x
sets_late old at k x [] far = refl
sets_late old at k x (y ∷ text) far =
    let other : k ≡ at → ⊥ = λ e. omega arith in
    let further : suc at + length text ≤ k = omega arith in
    ap (λ (l : List ℕ). sets l (suc at) text) (set_comm old k at x y other) ∙ sets_late (set old at y) (suc at) k x text further

-- a text that is copied into a part of its length
pub sets_copied : (text old : List ℕ) (at : ℕ) → at + length text ≤ length old → put_mid at (length text) old text ≡ sets old at text
sets_copied text old at fits =
    ap (λ (end : List ℕ). take at old ++ (text ++ end)) (drop-drop (length text) at old)
    ∙ sym (append_assoc (take at old) text (drop (at + length text) old))
    ∙ sym (sets-eq text old at fits)

-- two texts
pub put_then : {at next last : ℕ} {a b old mid new : List ℕ} → Put at a old next mid → Put next b mid last new → Put at (a ++ b) old last new
put_then {at = at} {a = a} {b = b} {old = old} first second = record {
  place = omega (arith, length-append a b);
  buffer = second.buffer ∙ rw (first.buffer, first.place) (sets_append old at a b);
}
