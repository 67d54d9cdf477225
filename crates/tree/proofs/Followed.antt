-- Following an entry of an accepted table: a node leads to its first child and its next sibling, and none to nothing. Assumes nothing.
use mathlib.Core.Path.{◌≡◌, sym, ap, ◌∙◌, subst₂}
use mathlib.Core.List.{List}
use Prim.Native.Nat.{ℕ, ◌+◌, ◌*◌, ◌<◌}
use native.Mathlib.Omega.{arith}
use lib.ListN.{length, get_or}
use borrow.Author.Tests.{le-ltb}
use Rattle.tree.specs.Table.{none, nodes, first_child, next_sibling}
use Rattle.tree.specs.Forest.{Forest, nil, node, forest, tree_of, entry}
use Rattle.tree.specs.WellFormed.{table_number}
use Rattle.tree.proofs.Reading.{from-nil}
use Rattle.tree.proofs.Linked.{Linked, read_back}
use Rattle.tree.proofs.Accepted.{linked}
use Rattle.tree.proofs.Parts.{Part, whole, in_children, in_siblings, locate, part-agrees, part-below, part-size, part_trans}
use Rattle.tree.proofs.Scan.{get_d_any}
use Rattle.tree.proofs.Stands.{passed, accepted-agrees, accepted-numbers, accepted-size}

module _ (t : List ℕ) (e : table_number t ≡ 0) where
  pub accepted-linked : Linked t
  accepted-linked = linked t (passed t e)

  -- ---- node v's row, as the code reads it

  pub first-inside : (v : ℕ) → v < nodes t → 2 * v < length t
  first-inside v h = omega arith

  pub second-inside : (v : ℕ) → v < nodes t → 2 * v + 1 < length t
  second-inside v h = omega arith

  pub first_read : (v : ℕ) → v < nodes t → get_or t (2 * v) 0 ≡ first_child t v
  first_read v h = get_d_any t (2 * v) 0 none (first-inside v h)

  pub second-read : (v : ℕ) → v < nodes t → get_or t (2 * v + 1) 0 ≡ next_sibling t v
  second-read v h = get_d_any t (2 * v + 1) 0 none (second-inside v h)

  -- ---- what an entry leads to

  -- a part of the tree is what its first root's number leads to
  read : {f : Forest} → Part f (tree_of t) → forest t (entry f) ≡ f
  unfolding forest
  read {f} p =
      read_back t accepted-linked.few f (part-agrees t p (accepted-agrees t e)) (part-below (nodes t) p (accepted-numbers t e).below)
      (nodes t) (omega (arith, part-size p, accepted-size t e))

  -- each node heads a part of the tree: the node, what its first child leads to, and what its next sibling leads to
  pub followed_part : (v : ℕ) → v < nodes t → Part (node v (forest t (first_child t v)) (forest t (next_sibling t v))) (tree_of t)
  followed_part v h =
      let p = locate (tree_of t) v (omega (arith, (accepted-numbers t e).each v h)) in
      let a = part-agrees t p.2 (accepted-agrees t e) in
      subst₂ (λ (f g : Forest). Part (node v f g) (tree_of t))
      (sym (ap (forest t) a.0 ∙ read (part_trans (in_children whole) p.2)))
      (sym (ap (forest t) a.1 ∙ read (part_trans (in_siblings whole) p.2))) p.2

  pub followed_node : (v : ℕ) → v < nodes t → forest t v ≡ node v (forest t (first_child t v)) (forest t (next_sibling t v))
  followed_node v h = read (followed_part v h)

  pub followed_none : forest t none ≡ nil
  unfolding forest
  followed_none = from-nil t (nodes t) none (le-ltb none (nodes t) (omega (arith, accepted-linked.few)))
