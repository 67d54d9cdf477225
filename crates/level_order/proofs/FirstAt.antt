-- The position of the first child: past its parent, never going back, and for the last position the number of nodes. Assumes nothing.
use mathlib.Core.Path.{◌≡◌, ap}
use mathlib.Core.Logic.{⊎_elim}
use Prim.Native.Nat.{ℕ, suc, ◌+◌, ◌≤◌, ◌<◌}
use native.Mathlib.Omega.{arith}
use Rattle.tree.specs.Forest.{Forest, size, children, siblings}
use Rattle.tree.proofs.Counting.{below_or_not}
use Rattle.level_order.specs.LevelOrder.{waiting, first_at}
use Rattle.level_order.proofs.Waiting.{root_count, root_count-join, waiting_none, waiting-node, waiting-next}

module _ (f : Forest) where
  module _ (p : ℕ) (h : p < size f) where
    -- the node at position p, and the others that wait, and then its children
    pub first_at-others : first_at f p ≡ suc (p + root_count (siblings (waiting p f)))
    first_at-others = omega (arith, ap root_count (waiting-node p f h))

    pub first_at-suc : first_at f (suc p) ≡ first_at f p + root_count (children (waiting p f))
    first_at-suc =
        omega (arith, first_at-others, ap root_count (waiting-next p f h), root_count-join (siblings (waiting p f)) (children (waiting p f)))

    pub first_at-past : p < first_at f p
    first_at-past = omega (arith, first_at-others)

  pub first_at-end : (p : ℕ) → size f ≤ p → first_at f p ≡ p
  first_at-end p h = omega (arith, ap root_count (waiting_none p f h))

  pub first_at-next : (p : ℕ) → first_at f p ≤ first_at f (suc p)
  first_at-next p =
      ⊎_elim (λ e. omega (arith, first_at-suc p e.0)) (λ e. omega (arith, first_at-end p e.0, first_at-end (suc p) (omega (arith, e.0)))) (below_or_not p (size f))
