-- Whose is a node: its ancestor where that is a child joined so far, and the default where the ancestor is out of date. Assumes nothing.
use mathlib.Core.Path.{◌≡◌, refl, ap, ap₂, ◌∙◌}
use mathlib.Core.Logic.{⊎_elim}
use mathlib.Core.Bool.{Bool, true, false, cond}
use Prim.Native.Nat.{ℕ, ◌+◌, ◌≤◌, ◌<◌}
use native.Mathlib.Omega.{arith}
use lib.Dec.{ltb}
use borrow.Author.Tests.{lt-ltb, le-ltb, ltb-true, ltb-false}
use lib.IntN.{ℤ, pos, negsuc}
use Rattle.tree.proofs.Counting.{below_or_not}
use Rattle.contours.specs.Rows.{Outside}
use Rattle.descent.specs.Descent.{owner_of}

-- ---- its three cases

module _ (k f c default : ℕ) where
  pub owner-left : k < f → owner_of (pos k) f c default ≡ default
  owner-left h = ap (λ (b : Bool). cond b default (cond (ltb k c) k default)) (lt-ltb k f h)

  pub owner_at : f ≤ k → k < c → owner_of (pos k) f c default ≡ k
  owner_at g h = ap₂ (λ (a b : Bool). cond a default (cond b k default)) (le-ltb k f g) (lt-ltb k c h)

  pub owner-right : f ≤ k → c ≤ k → owner_of (pos k) f c default ≡ default
  owner-right g h = ap₂ (λ (a b : Bool). cond a default (cond b k default)) (le-ltb k f g) (le-ltb k c h)

-- ---- as the engine's invariant has them

pub owner-child : (z : ℤ) (f i c default : ℕ) → z ≡ pos (f + i) → f + i < c → owner_of z f c default ≡ f + i
owner-child z f i c default e h = ap (λ (x : ℤ). owner_of x f c default) e ∙ owner_at (f + i) f c default (omega arith) h

pub owner-default : (z : ℤ) (f end c default : ℕ) → Outside f end z → c ≤ end → owner_of z f c default ≡ default
owner-default (negsuc k) f end c default o h = refl
owner-default (pos k) f end c default o h =
    ⊎_elim
    (λ l. owner-left k f c default l.0)
    (λ l. ⊎_elim (λ r. absurd (o k l.0 (inside r.0) refl)) (λ r. owner-right k f c default l.0 r.0) (below_or_not k c))
    (below_or_not k f)
  where
    inside : k < c → k < end
    inside g = omega arith

-- ---- the owner is one of the children from f to c, where the default is

abbrev Between : ℕ → ℕ → ℕ → Type 0
Between f c i = (f ≤ i) × (i < c)

pub owner_range : (z : ℤ) (f c default : ℕ) → f ≤ default → default < c → (f ≤ owner_of z f c default) × (owner_of z f c default < c)
owner_range (pos k) f c default low high = go (ltb k f) (ltb k c) refl refl
  where
    go : (s t : Bool) → ltb k f ≡ s → ltb k c ≡ t → Between f c (cond s default (cond t k default))
    go true t p q = (low, high)
    go false true p q = (ltb-false k f p, ltb-true k c q)
    go false false p q = (low, high)
owner_range (negsuc k) f c default low high = (low, high)
