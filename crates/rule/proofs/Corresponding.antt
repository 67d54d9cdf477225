-- Corresponding nodes of two trees are below their counts of nodes. Assumes nothing.
use mathlib.Core.Path.{◌≡◌}
use mathlib.Core.List.{List}
use Prim.Native.Nat.{ℕ, ◌<◌}
use Rattle.tree.specs.Table.{nodes}
use Rattle.tree.specs.Forest.{Forest, nil, node, preorder}
use Rattle.tree.specs.Shape.{corresponding, under}
use Rattle.tree.specs.WellFormed.{table_number}
use Rattle.tree.proofs.Counting.{All, Below, all_append, all_left, all_right}
use Rattle.tree.proofs.Parts.{part-below}
use Rattle.tree.proofs.Stands.{accepted-numbers}
use Rattle.rule.proofs.Promises.{part_at}

pub below-corresponding : (n m : ℕ) (f g : Forest) → Below n (preorder f) → Below m (preorder g) → All (λ p. (p.0 < n) × (p.1 < m)) (corresponding f g)
below-corresponding n m nil g a b = tt
below-corresponding n m (node v f h) nil a b = tt
below-corresponding n m (node v f h) (node w f' h') a b = (
  (a.0, b.0),
  all_append (λ p. (p.0 < n) × (p.1 < m)) (corresponding f f') (corresponding h h')
      (below-corresponding n m f f' (all_left (λ x. x < n) (preorder f) (preorder h) a.1) (all_left (λ x. x < m) (preorder f') (preorder h') b.1))
      (below-corresponding n m h h' (all_right (λ x. x < n) (preorder f) (preorder h) a.1) (all_right (λ x. x < m) (preorder f') (preorder h') b.1)),
)

pub below-under : (t : List ℕ) → table_number t ≡ 0 → (v : ℕ) → v < nodes t → Below (nodes t) (preorder (under t v))
below-under t e v h =
    let p = part_at t e v h in
    all_left (λ x. x < nodes t) (preorder (under t v)) (preorder p.0) (part-below (nodes t) p.1 (accepted-numbers t e).below).1
