-- The mirrored table: it is accepted, and stands for the mirrored tree. Assumes nothing.
use mathlib.Core.Path.{◌≡◌, refl, ap, ◌∙◌}
use mathlib.Core.List.{List}
use Prim.Native.Nat.{ℕ, ◌+◌, ◌<◌}
use native.Mathlib.Omega.{arith}
use Rattle.tree.specs.Numbers.{count}
use Rattle.tree.specs.Table.{nodes}
use Rattle.tree.specs.Forest.{Forest, nil, node, tree_of, preorder, entry, siblings}
use Rattle.tree.specs.WellFormed.{table_number}
use Rattle.tree.specs.Operations.{mirror_onto, mirror, mirrored}
use Rattle.tree.proofs.Counting.{count-append, Below, all_append, all_left, all_right}
use Rattle.tree.proofs.Stands.{Numbers, accepted-numbers}
use Rattle.tree.proofs.TableOf.{table_of-accepted, table_of-tree}

count-mirror_onto : (w : ℕ) (f done : Forest) → count w (preorder (mirror_onto f done)) ≡ count w (preorder f) + count w (preorder done)
count-mirror_onto w nil done = omega arith
count-mirror_onto w (node v f g) done =
    omega (
      arith,
      count-mirror_onto w g (node v (mirror_onto f nil) done),
      count-mirror_onto w f nil,
      count-append w (preorder f) (preorder g),
      count-append w (preorder (mirror_onto f nil)) (preorder done),
    )

below-mirror_onto : (n : ℕ) (f done : Forest) → Below n (preorder f) → Below n (preorder done) → Below n (preorder (mirror_onto f done))
below-mirror_onto n nil done b d = d
below-mirror_onto n (node v f g) done b d =
    below-mirror_onto n g (node v (mirror_onto f nil) done) (all_right (λ x. x < n) (preorder f) (preorder g) b.1) (
      b.0,
      all_append (λ x. x < n) (preorder (mirror_onto f nil)) (preorder done)
          (below-mirror_onto n f nil (all_left (λ x. x < n) (preorder f) (preorder g) b.1) tt) d,
    )

pub mirror-numbers : (n : ℕ) (f : Forest) → Numbers n f → Numbers n (mirror f)
unfolding mirror
mirror-numbers n f N =
    record {
      some = N.some;
      few = N.few;
      below = below-mirror_onto n f nil N.below tt;
      each = λ v h. omega (arith, count-mirror_onto v f nil, N.each v h);
      root = root f N.alone ∙ N.root;
      alone = alone f N.alone;
    }
  where
    root : (f : Forest) → siblings f ≡ nil → entry (mirror_onto f nil) ≡ entry f
    root nil e = refl
    root (node v f g) e = ap (λ (x : Forest). entry (mirror_onto x (node v (mirror_onto f nil) nil))) e

    alone : (f : Forest) → siblings f ≡ nil → siblings (mirror_onto f nil) ≡ nil
    alone nil e = refl
    alone (node v f g) e = ap (λ (x : Forest). siblings (mirror_onto x (node v (mirror_onto f nil) nil))) e

pub mirrored-accepted : (t : List ℕ) → table_number t ≡ 0 → table_number (mirrored t) ≡ 0
unfolding mirrored
mirrored-accepted t e = table_of-accepted (nodes t) (mirror (tree_of t)) (mirror-numbers (nodes t) (tree_of t) (accepted-numbers t e))

pub mirrored-tree : (t : List ℕ) → table_number t ≡ 0 → tree_of (mirrored t) ≡ mirror (tree_of t)
unfolding mirrored
mirrored-tree t e = table_of-tree (nodes t) (mirror (tree_of t)) (mirror-numbers (nodes t) (tree_of t) (accepted-numbers t e))
