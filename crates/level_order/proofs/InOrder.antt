-- The positions of a forest, and of an accepted table's tree, are in level order. Assumes nothing.
use mathlib.Core.Path.{◌≡◌, subst}
use mathlib.Core.List.{List}
use Prim.Native.Nat.{ℕ}
use native.Mathlib.Omega.{arith}
use Rattle.tree.specs.Table.{nodes}
use Rattle.tree.specs.Forest.{Forest, tree_of, size}
use Rattle.tree.specs.WellFormed.{table_number}
use Rattle.tree.proofs.Stands.{accepted-size}
use Rattle.level_order.specs.LevelOrder.{first_at}
use Rattle.level_order.proofs.FirstAt.{first_at-past, first_at-next, first_at-end}
use Rattle.level_order.proofs.Positions.{Ordered}

pub forest-ordered : (f : Forest) → Ordered (first_at f) (size f)
forest-ordered f = record { later = first_at-past f; mono = λ p h. first_at-next f p; last = first_at-end f (size f) (omega arith) }

pub ordered : (t : List ℕ) → table_number t ≡ 0 → Ordered (first_at (tree_of t)) (nodes t)
ordered t accepted = subst (Ordered (first_at (tree_of t))) (accepted-size t accepted) (forest-ordered (tree_of t))
