-- The separation is bad, or 1 to 1,024. Assumes nothing.
use mathlib.Core.Path.{◌≡◌, refl, ap, ap₂, ◌∙◌}
use mathlib.Core.Logic.{◌⊎◌, inl, inr}
use mathlib.Core.Bool.{Bool, true, false, not, ◌&&◌}
use Prim.Native.Nat.{ℕ, ◌≤◌, ◌<◌}
use lib.Dec.{leb}
use borrow.Author.Tests.{leb-true, le-leb, lt-leb, not-false}
use Rattle.refusal.proofs.Truth.{and_left, and_right}
use Rattle.distance.specs.Needed.{bad_separation}

module _ (D : ℕ) where
  pub separation-bad : (D < 1) ⊎ (1024 < D) → bad_separation D ≡ true
  unfolding bad_separation
  separation-bad (inl h) = ap (λ (b : Bool). not (b && leb D 1024)) (lt-leb 1 D h)
  separation-bad (inr h) = ap (λ (b : Bool). not (leb 1 D && b)) (lt-leb D 1024 h) ∙ off (leb 1 D)
    where
      off : (b : Bool) → not (b && false) ≡ true
      off true = refl
      off false = refl

  pub separation-good : 1 ≤ D → D ≤ 1024 → bad_separation D ≡ false
  unfolding bad_separation
  separation-good h k = ap₂ (λ (a b : Bool). not (a && b)) (le-leb 1 D h) (le-leb D 1024 k)

  pub good-separation : bad_separation D ≡ false → (1 ≤ D) × (D ≤ 1024)
  unfolding bad_separation
  good-separation e =
      let b = not-false (leb 1 D && leb D 1024) e in
      (leb-true 1 D (and_left (leb 1 D) (leb D 1024) b), leb-true D 1024 (and_right (leb 1 D) (leb D 1024) b))
