-- Tables: an accepted table's levels in Renumber's order are its tree's sequence, and its renumbered table stands at one place of the
-- list. Assumes nothing.
use mathlib.Core.Path.{◌≡◌, refl, sym, ap, ap₂, ◌∙◌, subst⁻¹}
use mathlib.Core.Logic.{⊎_elim}
use mathlib.Core.List.{List, [], ◌∷◌, ◌++◌, map, map-append, map-map}
use Prim.Native.Nat.{ℕ, suc, ◌≤◌, ◌<◌}
use native.Mathlib.Nat.{eq-zero-or-pos}
use native.Mathlib.Omega.{arith}
use Rattle.tree.specs.Numbers.{count}
use Rattle.tree.specs.Table.{nodes}
use Rattle.tree.specs.Forest.{Forest, nil, node, tree_of, size, preorder, roots, table_of}
use Rattle.tree.specs.Levels.{levels, level_in, level}
use Rattle.tree.specs.Shape.{same_shape}
use Rattle.tree.specs.WellFormed.{table_number}
use Rattle.tree.specs.Operations.{number_from, renumbered, old_numbers}
use Rattle.tree.proofs.Counting.{is_same, count-append}
use Rattle.tree.proofs.Tests.{count-member, counted-all}
use Rattle.tree.proofs.Stands.{Numbers, numbers-size, one-root, accepted-numbers}
use Rattle.tree.proofs.TableOf.{table_of-tree}
use Rattle.tree.proofs.LevelOf.{level-root, level-child, level-sibling}
use Rattle.tree.proofs.Renumbered.{shape_number_from}
use Rattle.small_trees.specs.Sequence.{level_sequence, levels_from, tree_of_levels}
use Rattle.small_trees.specs.SmallTrees.{tree_at, most_nodes, OnePlace, OneTable}
use Rattle.small_trees.proofs.Trees.{tree_of-sequence, shape_levels}
use Rattle.small_trees.proofs.AllComplete.{at-levels, tree-place}
use Rattle.small_trees.proofs.Answer.{at-numbers}

-- ---- levels in preorder

map_members : (g h : ℕ → ℕ) (l : List ℕ) → ((x : ℕ) → 1 ≤ count x l → g x ≡ h x) → map g l ≡ map h l
map_members g h [] e = refl
map_members g h (x ∷ l) e =
    ap₂ ◌∷◌ (e x (omega (arith, is_same x x refl))) (map_members g h l (λ y k. e y (omega arith)))

levels-lower : (l : ℕ) (f : Forest) → map suc (levels_from l f) ≡ levels_from (suc l) f
levels-lower l nil = refl
levels-lower l (node v f g) =
    ap (λ (r : List ℕ). suc l ∷ r)
    (map-append suc (levels_from (suc l) f) (levels_from l g) ∙ ap₂ ◌++◌ (levels-lower (suc l) f) (levels-lower l g))

levels_in-order : (f : Forest) → ((x : ℕ) → count x (preorder f) ≤ 1) → map (level_in (levels f)) (preorder f) ≡ levels_from 0 f
levels_in-order nil once = refl
levels_in-order (node v f g) once =
    let L : ℕ → ℕ = level_in (levels (node v f g)) in
    ap₂ ◌∷◌
    (level-root v (node v f g) (count-member v (roots (node v f g)) (omega (arith, is_same v v refl))))
    (map-append L (preorder f) (preorder g)
    ∙ ap₂ ◌++◌
    (map_members L (λ x. suc (level_in (levels f) x)) (preorder f) (λ x h. level-child v f g x (once x) h)
    ∙ sym (map-map suc (level_in (levels f)) (preorder f))
    ∙ ap (map suc) (levels_in-order f (λ x. omega (arith, once x, count-append x (preorder f) (preorder g))))
    ∙ levels-lower 0 f)
    (map_members L (level_in (levels g)) (preorder g) (λ x h. level-sibling v f g x (once x) h)
    ∙ levels_in-order g (λ x. omega (arith, once x, count-append x (preorder f) (preorder g)))))

module _ (t : List ℕ) (e : table_number t ≡ 0) where
  N : Numbers (nodes t) (tree_of t)
  N = accepted-numbers t e

  pub sequence-table : level_sequence t ≡ levels_from 0 (tree_of t)
  unfolding level_sequence level old_numbers
  sequence-table = levels_in-order (tree_of t) once
    where
      once : (x : ℕ) → count x (preorder (tree_of t)) ≤ 1
      once x =
          ⊎_elim (λ z. omega arith)
          (λ some. omega (arith, N.each x (counted-all (λ y. y < nodes t) (preorder (tree_of t)) N.below x some)))
          (eq-zero-or-pos (count x (preorder (tree_of t))))

  -- and the tree of that sequence is the table's, renumbered
  pub tree_of-table : tree_of_levels (level_sequence t) ≡ number_from 0 (tree_of t)
  tree_of-table = ap tree_of_levels sequence-table ∙ tree_of-sequence (tree_of t)

  pub table-place : OnePlace (nodes t) (tree_of t)
  table-place =
      let r = one-root (nodes t) (tree_of t) N in
      subst⁻¹ (OnePlace (nodes t)) r.1 (tree-place (nodes t) 0 r.0 (ap size (sym r.1) ∙ numbers-size (nodes t) (tree_of t) N))

  pub one_table : nodes t ≤ most_nodes → OneTable t
  unfolding renumbered
  one_table few =
      let o = table-place in
      record {
        place = o.place;
        within = o.within;
        sequence =
            sym (at-levels (nodes t) o.place o.within)
            ∙ ap (levels_from 0) o.here
            ∙ shape_levels 0 (number_from 0 (tree_of t)) (tree_of t) (shape_number_from 0 (tree_of t))
            ∙ sym sequence-table;
        table = ap (table_of (nodes t)) o.here;
        only = λ p h same.
            let there = sym (table_of-tree (nodes t) (tree_at (nodes t) p) (at-numbers (nodes t) p few h)) ∙ ap tree_of same
            ∙ ap tree_of (ap (table_of (nodes t)) (sym o.here))
            ∙ table_of-tree (nodes t) (tree_at (nodes t) o.place) (at-numbers (nodes t) o.place few o.within) in
            o.only p h (ap (λ (f : Forest). same_shape f (tree_of t)) (there ∙ o.here) ∙ shape_number_from 0 (tree_of t));
      }
