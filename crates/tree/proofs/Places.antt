-- A place of a list: the list from there on; where a number stands. Each place counts once, so a number that occurs once stands at one
-- place. Assumes nothing.
use mathlib.Core.Path.{◌≡◌, refl, sym, ap, ◌∙◌}
use mathlib.Core.List.{List, [], ◌∷◌}
use Prim.Native.Nat.{ℕ, zero, suc, ◌+◌, ◌≤◌, ◌<◌}
use native.Mathlib.Nat.{not-suc-le-zero, le_of_suc-le-suc}
use native.Mathlib.Numerals.{add-one}
use native.Mathlib.Omega.{arith}
use lib.ListN.{length, get_or, drop}
use lib.Seq.{drop-cons}
use Rattle.tree.specs.Numbers.{count}
use Rattle.tree.proofs.Counting.{is_same}

pub from_place : (l : List ℕ) (i d : ℕ) → i < length l → drop i l ≡ get_or l i d ∷ drop (i + 1) l
from_place l i d within = drop-cons l i d within ∙ ap (λ (k : ℕ). get_or l i d ∷ drop k l) (sym (add-one i))

module _ (w d : ℕ) where
  pub count_at : (l : List ℕ) (i : ℕ) → i < length l → get_or l i d ≡ w → 1 ≤ count w l
  count_at [] i h e = absurd (not-suc-le-zero h)
  count_at (x ∷ l) zero h e = omega (arith, is_same w x (sym e))
  count_at (x ∷ l) (suc i) h e = omega (arith, count_at l i (le_of_suc-le-suc h) e)

  pub one_place : (l : List ℕ) → count w l ≤ 1 → (i j : ℕ) → i < length l → j < length l → get_or l i d ≡ w → get_or l j d ≡ w → i ≡ j
  one_place [] c i j hi hj ei ej = absurd (not-suc-le-zero hi)
  one_place (x ∷ l) c zero zero hi hj ei ej = refl
  one_place (x ∷ l) c zero (suc j) hi hj ei ej = absurd (omega (arith, is_same w x (sym ei), count_at l j (le_of_suc-le-suc hj) ej))
  one_place (x ∷ l) c (suc i) zero hi hj ei ej = absurd (omega (arith, is_same w x (sym ej), count_at l i (le_of_suc-le-suc hi) ei))
  one_place (x ∷ l) c (suc i) (suc j) hi hj ei ej = ap suc (one_place l (omega arith) i j (le_of_suc-le-suc hi) (le_of_suc-le-suc hj) ei ej)
