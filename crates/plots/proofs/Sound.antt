-- Dots that are not refused: as many as nodes, on levels 0 to 7, rising. Assumes nothing.
use mathlib.Core.Path.{◌≡◌, refl, sym, ap, ap₂, ◌∙◌}
use mathlib.Core.Bool.{Bool, true, false, not, ◌&&◌, ◌||◌, false≢true}
use mathlib.Core.List.{List, [], ◌∷◌}
use Prim.Native.Nat.{ℕ, zero, suc, ◌*◌, ◌<◌}
use native.Mathlib.Omega.{arith}
use lib.Dec.{eqb}
use lib.IntN.{ℤ, pos, negsuc}
use lib.Signed.{le_z}
use lib.ListN.{length}
use borrow.Author.Tests.{eqb-true, eq-eqb, leb-true, le-leb, not-false}
use Rattle.refusal.proofs.Truth.{or-false, or-false-left, or-false-right, and_right}
use Rattle.tree.specs.Numbers.{any}
use Rattle.tree.proofs.Counting.{All, all-weaken}
use Rattle.tree.proofs.Tests.{any_false, all_any}
use Rattle.rule.proofs.ReadingOrder.{Pairwise}
use Rattle.plots.specs.Points.{points_of, rises}
use Rattle.plots.specs.declared.Point.{Point}
use Rattle.plots.specs.Dots.{level_wrong, dots_wrong}
use Rattle.plots.proofs.Order.{Before, rising, pairwise_rises}

-- a point is on level l, from 0 to 7
abbrev pub OnLevel : Point → Type 0
OnLevel a = (l : ℕ) × (l < 8) × (a.level ≡ pos l)

pub record Sound (n : ℕ) (dots : List ℤ) : Type 0 where
  pub entries : length dots ≡ 2 * n
  pub levels : All OnLevel (points_of dots)
  pub rise : Pairwise Before (points_of dots)

pub level-right : (a : Point) → level_wrong a ≡ false → OnLevel a
level-right a e = go a.level refl (not-false (le_z (pos 0) a.level && le_z a.level (pos 7)) e)
  where
    go : (z : ℤ) → a.level ≡ z → (le_z (pos 0) a.level && le_z a.level (pos 7)) ≡ true → OnLevel a
    go (pos l) s t = (
      l,
      omega (arith, leb-true l 7 (and_right (le_z (pos 0) (pos l)) (le_z (pos l) (pos 7)) (ap (λ (z : ℤ). le_z (pos 0) z && le_z z (pos 7)) (sym s) ∙ t))),
      s,
    )
    go (negsuc l) s t = absurd (false≢true (ap (λ (z : ℤ). le_z (pos 0) z && le_z z (pos 7)) (sym s) ∙ t))

pub right-level : (a : Point) → OnLevel a → level_wrong a ≡ false
right-level a on =
    ap (λ (z : ℤ). not (le_z (pos 0) z && le_z z (pos 7))) on.2
    ∙ ap₂ (λ (b c : Bool). not (b && c)) (le-leb 0 on.0 (omega arith)) (le-leb on.0 7 (omega (arith, on.1)))

module _ (n : ℕ) (dots : List ℤ) where
  pub sound : dots_wrong n dots ≡ false → Sound n dots
  unfolding dots_wrong
  sound e =
      let counted = not (eqb (length dots) (2 * n)) in
      let leveled = any level_wrong (points_of dots) in
      let front = or-false-left (counted || leveled) (not (rises (points_of dots))) e in
      record {
        entries = eqb-true (length dots) (2 * n) (not-false (eqb (length dots) (2 * n)) (or-false-left counted leveled front));
        levels = all-weaken (λ a. level_wrong a ≡ false) OnLevel level-right (points_of dots) (any_false level_wrong (points_of dots) (or-false-right counted leveled front));
        rise = rising (points_of dots) (not-false (rises (points_of dots)) (or-false-right (counted || leveled) (not (rises (points_of dots))) e));
      }

  pub sound-right : Sound n dots → dots_wrong n dots ≡ false
  unfolding dots_wrong
  sound-right S =
      or-false
      (or-false (ap (λ (b : Bool). not b) (eq-eqb (length dots) (2 * n) S.entries))
      (all_any level_wrong (points_of dots) (all-weaken OnLevel (λ a. level_wrong a ≡ false) right-level (points_of dots) S.levels)))
      (ap (λ (b : Bool). not b) (pairwise_rises (points_of dots) S.rise))

pub points-length : (n : ℕ) (dots : List ℤ) → length dots ≡ 2 * n → length (points_of dots) ≡ n
points-length n [] e = omega arith
points-length n (l ∷ []) e = absurd (omega arith)
points-length zero (l ∷ x ∷ dots) e = absurd (omega arith)
points-length (suc n) (l ∷ x ∷ dots) e = ap suc (points-length n dots (omega arith))
