-- What the numbering left stays while its fields do, what a position needs is read by the position itself, and no two nodes need much.
-- Assumes nothing.
use mathlib.Core.Path.{◌≡◌, ◌∙◌, subst}
use mathlib.Core.List.{List}
use Prim.Native.Nat.{ℕ, suc, ◌-◌, ◌*◌, ◌≤◌, ◌<◌}
use native.Mathlib.Omega.{arith}
use lib.IntN.{ℤ, pos}
use lib.ListN.{length}
use Rattle.distance.specs.Needed.{Distance, needed}
use Rattle.tree.specs.Forest.{Forest}
use Rattle.level_order.specs.Fields.{get, NODE, FIRST, COUNT, NEED, PLACE}
use Rattle.level_order.specs.Numbered.{Accepted, Numbered}

module _ {f : Forest} {D : Distance} {n : ℕ} {before : List ℤ} (N : Numbered f D n before) where
  pub numbered-kept : (work : List ℤ) → 16 * n ≤ length work → ((g p : ℕ) → g < PLACE → get work g p ≡ get before g p) → Numbered f D n work
  numbered-kept work size same =
      record {
        size = size;
        node = λ p h. same NODE p (omega arith) ∙ N.node p h;
        first = λ p h. same FIRST p (omega arith) ∙ N.first p h;
        count = λ p h. same COUNT p (omega arith) ∙ N.count p h;
        need = λ p h. same NEED (suc p) (omega arith) ∙ N.need p h;
      }

  pub needed-at : (b : ℕ) → 0 < b → b < n → get before NEED b ≡ pos (D (b - 1) b)
  needed-at b some h =
      let next : suc (b - 1) ≡ b = omega arith in
      subst (λ (p : ℕ). get before NEED p ≡ pos (D (b - 1) p)) next (N.need (b - 1) (omega arith))

pub accepted-most : {t : List ℕ} {D : ℕ} {hs : List ℕ} → Accepted t D hs → (a b : ℕ) → needed D hs a b ≤ 1536
accepted-most A a b = omega (arith, A.high, A.narrow a, A.narrow b)
