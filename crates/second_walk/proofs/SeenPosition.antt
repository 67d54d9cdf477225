-- The level of a position that has been seen is read as an unsigned number. Assumes nothing.
use mathlib.Core.Path.{◌≡◌, ◌∙◌}
use mathlib.Core.List.{List}
use Prim.Native.Nat.{ℕ}
use native.Mathlib.Omega.{arith}
use lib.Dec.{T}
use lib.IntN.{ℤ, nat_abs}
use lib.Signed.{non_neg}
use mir.Syntax.{w16, w32}
use mir.Val.{Fits, to_z, of_z}
use Rattle.level_order.specs.Fields.{get, LEVEL}
use Rattle.level_order.proofs.Signed32.{unsigned, castable}
use Rattle.second_walk.specs.SecondWalk.{Seen}

module _ {work : List ℤ} {p v l : ℕ} (S : Seen work p v l) {z : ℤ} (e : z ≡ get work LEVEL p) where
  pub level-number : nat_abs (to_z w32 (of_z w32 z)) ≡ l
  level-number = unsigned z l (e ∙ S.level) (omega arith)

  pub level-fits : T (non_neg (to_z w32 (of_z w32 z))) × Fits w16 (nat_abs (to_z w32 (of_z w32 z)))
  level-fits = castable z l (e ∙ S.level) (omega arith) w16 (record { fits = omega arith })
