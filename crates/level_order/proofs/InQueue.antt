-- The queue: the roots of the forest that waits are the nodes at the next positions, and the children of a node stand together. Assumes nothing.
use mathlib.Core.Path.{◌≡◌, refl, ap, ◌∙◌}
use mathlib.Core.List.{List}
use Prim.Native.Nat.{ℕ, zero, suc, ◌+◌, ◌<◌}
use native.Mathlib.Nat.{not-suc-le-zero}
use native.Mathlib.Omega.{arith}
use lib.ListN.{get_or, get_or-append}
use lib.Seq.{get_or-append-add}
use Rattle.tree.specs.Forest.{Forest, nil, node, join, size, roots, entry, children, siblings}
use Rattle.level_order.specs.LevelOrder.{waiting, node_at, first_at}
use Rattle.level_order.proofs.Waiting.{root_count, root_count-join, waiting-add, waiting-next}
use Rattle.level_order.proofs.FirstAt.{first_at-others}
use Rattle.tree.proofs.Joined.{roots-join}

-- the roots of a forest have the first positions
pub root-at : (i : ℕ) (f : Forest) (d : ℕ) → i < root_count f → node_at f i ≡ get_or (roots f) i d
root-at zero nil d h = absurd (not-suc-le-zero h)
root-at zero (node v below after) d h = refl
root-at (suc i) nil d h = absurd (not-suc-le-zero h)
root-at (suc i) (node v below after) d h =
    root-at i (join after below) d (omega (arith, root_count-join after below))
    ∙ ap (λ (l : List ℕ). get_or l i d) (roots-join after below)
    ∙ get_or-append (roots after) (roots below) d i (omega arith)

-- when position p is taken, the nodes at the positions from p up to, and without, `first_at f p` are the roots of what waits
pub queue_at : (f : Forest) (p i d : ℕ) → i < root_count (waiting p f) → node_at f (p + i) ≡ get_or (roots (waiting p f)) i d
queue_at f p i d h = ap entry (waiting-add p i f) ∙ root-at i (waiting p f) d h

-- the children of the node at position p stand from `first_at f p` on
pub child-at : (f : Forest) (p i d : ℕ) → p < size f → i < root_count (children (waiting p f))
    → node_at f (first_at f p + i) ≡ get_or (roots (children (waiting p f))) i d
child-at f p i d h k =
    let others = siblings (waiting p f) in
    let below = children (waiting p f) in
    let place : first_at f p + i ≡ suc p + (root_count others + i) = omega (arith, first_at-others f p h) in
    let next = waiting-next p f h in
    ap (node_at f) place
    ∙ queue_at f (suc p) (root_count others + i) d (omega (arith, ap root_count next, root_count-join others below))
    ∙ ap (λ (g : Forest). get_or (roots g) (root_count others + i) d) next
    ∙ ap (λ (l : List ℕ). get_or l (root_count others + i) d) (roots-join others below)
    ∙ get_or-append-add (roots others) (roots below) i d
