-- The tree read off a table has just the nodes that are reached from node 0, so that condition 14 asks what the paper asks. Assumes nothing.
use mathlib.Core.Path.{◌≡◌, sym, ◌∙◌, subst}
use mathlib.Core.Logic.{◌↔◌}
use mathlib.Core.Bool.{true}
use mathlib.Core.List.{List}
use Prim.Native.Nat.{ℕ, ◌≤◌, ◌<◌}
use native.Mathlib.Omega.{arith}
use Rattle.tree.specs.Numbers.{count, member}
use Rattle.tree.specs.Table.{nodes, first_child, next_sibling}
use Rattle.tree.specs.Forest.{Forest, nil, node, tree_of, preorder, entry}
use Rattle.tree.specs.WellFormed.{Passed, Step, to_first_child, to_next_sibling, Reached, at-start, by-step}
use Rattle.tree.proofs.Counting.{is_same, count-append, All, all_append, Below, all_left, all_right}
use Rattle.tree.proofs.Tests.{count-member, member-all}
use Rattle.tree.proofs.Reading.{Agrees}
use Rattle.tree.proofs.Linked.{Linked, tree-agrees, tree-entry, tree-below}
use Rattle.tree.proofs.Accepted.{linked}
use Rattle.tree.proofs.Parts.{Part, locate, part-agrees, part_count}

-- ---- every node of the tree is reached

-- the first root, if there is one, is reached
abbrev Starts : List ℕ → Forest → Type 0
Starts t nil = Unit {0}
Starts t (node v f g) = Reached t 0 v

reached_in : (t : List ℕ) (f : Forest) → Agrees t f → Below (nodes t) (preorder f) → Starts t f → All (Reached t 0) (preorder f)
reached_in t nil a b s = tt
reached_in t (node v f g) a b s =
    let left = all_left (λ x. x < nodes t) (preorder f) (preorder g) b.1 in
    let right = all_right (λ x. x < nodes t) (preorder f) (preorder g) b.1 in
    (s, all_append (Reached t 0) (preorder f) (preorder g) (reached_in t f a.2 left (below f a.0 left)) (reached_in t g a.3 right (beside g a.1 right)))
  where
    below : (f : Forest) → first_child t v ≡ entry f → Below (nodes t) (preorder f) → Starts t f
    below nil e b = tt
    below (node w f g) e b = by-step s (to_first_child e b.0)

    beside : (g : Forest) → next_sibling t v ≡ entry g → Below (nodes t) (preorder g) → Starts t g
    beside nil e b = tt
    beside (node w f g) e b = by-step s (to_next_sibling e b.0)

-- ---- every node that is reached is in the tree

module _ (t : List ℕ) (L : Linked t) where
  -- a forest whose first root has a number below n has that node
  starts : (w : ℕ) → w < nodes t → (f : Forest) → entry f ≡ w → 1 ≤ count w (preorder f)
  starts w h nil e = absurd (omega arith)
  starts w h (node v f g) e = omega (arith, is_same w v (sym e))

  stays : (v : ℕ) → Reached t 0 v → 1 ≤ count v (preorder (tree_of t))
  stays v at-start = starts 0 L.some (tree_of t) (tree-entry t L)
  stays v (by-step {u = u} r s) = one (locate (tree_of t) u (stays u r)) s
    where
      one : (g : Forest) × (h : Forest) × Part (node u g h) (tree_of t) → Step t u v → 1 ≤ count v (preorder (tree_of t))
      one p (to_first_child e h) =
          omega (
            arith,
            part_count v p.2,
            starts v h p.0 (sym (part-agrees t p.2 (tree-agrees t L)).0 ∙ e),
            count-append v (preorder p.0) (preorder p.1),
          )
      one p (to_next_sibling e h) =
          omega (
            arith,
            part_count v p.2,
            starts v h p.1 (sym (part-agrees t p.2 (tree-agrees t L)).1 ∙ e),
            count-append v (preorder p.0) (preorder p.1),
          )

-- where conditions 1 to 4 do not hold, a node is in the tree exactly when it is reached from node 0
pub reached-exactly : (t : List ℕ) → Passed t → (v : ℕ) → member v (preorder (tree_of t)) ≡ true ↔ Reached t 0 v
reached-exactly t p v =
    let L = linked t p in
    let every = reached_in t (tree_of t) (tree-agrees t L) (tree-below t L) (root (tree_of t) (tree-entry t L)) in
    (member-all (Reached t 0) v (preorder (tree_of t)) every, λ r. count-member v (preorder (tree_of t)) (stays t L v r))
  where
    root : (f : Forest) → entry f ≡ 0 → Starts t f
    root nil e = tt
    root (node v f g) e = subst (Reached t 0) (sym e) at-start
