-- A part of a text at a place. Assumes nothing.
use mathlib.Core.Path.{◌≡◌, sym, ap, ◌∙◌}
use Prim.Native.Nat.{ℕ, ◌+◌, ◌<◌}
use native.Mathlib.Nat.{add-zero}
use native.Mathlib.Omega.{arith}
use mathlib.Core.List.{List, ◌∷◌, ◌++◌}
use lib.ListN.{length, get_or, drop, length-drop}
use lib.Seq.{drop-drop, drop-append_seam, get_or-drop}

module _ (text : List ℕ) (at : ℕ) where
  pub at-within : (x : ℕ) (l : List ℕ) → drop at text ≡ x ∷ l → at < length text
  at-within x l e = omega (arith, length-drop at text, ap length e)

  pub at_byte : (x : ℕ) (l : List ℕ) → drop at text ≡ x ∷ l → get_or text at 0 ≡ x
  at_byte x l e = ap (λ (k : ℕ). get_or text k 0) (sym (add-zero at)) ∙ sym (get_or-drop at text 0 0) ∙ ap (λ (m : List ℕ). get_or m 0 0) e

  pub at-past : (part more : List ℕ) → drop at text ≡ part ++ more → drop (at + length part) text ≡ more
  at-past part more e = sym (drop-drop (length part) at text) ∙ ap (drop (length part)) e ∙ drop-append_seam part more
