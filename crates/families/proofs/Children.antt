-- The children of a position, as a numbered slice has them: what is read of it is small, and is their run. Assumes nothing.
use mathlib.Core.Path.{◌≡◌, ap}
use mathlib.Core.List.{List}
use Prim.Native.Nat.{ℕ, suc, ◌-◌, ◌≤◌, ◌<◌}
use native.Mathlib.Omega.{arith}
use lib.IntN.{ℤ}
use Rattle.distance.specs.Needed.{Distance}
use Rattle.tree.specs.Table.{nodes}
use Rattle.tree.specs.Forest.{tree_of}
use Rattle.tree.specs.WellFormed.{table_number}
use Rattle.tree.proofs.Stands.{accepted-numbers}
use Rattle.rule.specs.Join.{above0}
use Rattle.level_order.specs.LevelOrder.{first_at}
use Rattle.level_order.specs.Fields.{FIRST, COUNT}
use Rattle.level_order.specs.Numbered.{Numbered}
use Rattle.level_order.proofs.Positions.{within}
use Rattle.level_order.proofs.InOrder.{ordered}
use Rattle.descent.specs.Descent.{Reads, first_of_children, past_children}

module _ (t : List ℕ) (accepted : table_number t ≡ 0) {D : Distance} {work : List ℤ} (N : Numbered (tree_of t) D (nodes t) work) (p : ℕ) (h : p < nodes t) where
  abbrev first : ℕ → ℕ
  first = first_at (tree_of t)

  few : first (suc p) ≤ 1024
  few = omega (arith, within first (nodes t) (ordered t accepted) (suc p) h, (accepted-numbers t accepted).few)

  up : first p ≤ first (suc p)
  up = (ordered t accepted).mono p h

  pub first_reads : Reads work FIRST p
  first_reads = record { inside = omega (arith, N.size, h); small = (first p, omega (arith, few, up), N.first p h) }

  pub count-reads : Reads work COUNT p
  count-reads = record { inside = omega (arith, N.size, h); small = (first (suc p) - first p, omega (arith, few), N.count p h) }

  pub first-value : first_of_children work p ≡ first p
  first-value = ap above0 (N.first p h)

  pub past_value : past_children work p ≡ first (suc p)
  past_value = omega (arith, first-value, ap above0 (N.count p h), up)
