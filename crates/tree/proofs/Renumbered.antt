-- The renumbered table: it is accepted, stands for the tree numbered in preorder, and has the shape of the table that it comes from; each
-- new number corresponds to the old number that the map gives. Assumes nothing.
use mathlib.Core.Path.{◌≡◌, refl, sym, ap, ap₂, ◌∙◌, subst, subst⁻¹}
use mathlib.Core.Bool.{true, ◌&&◌}
use mathlib.Core.List.{List, [], ◌∷◌, ◌++◌}
use Prim.Native.Nat.{ℕ, zero, suc, ◌+◌, ◌≤◌}
use native.Mathlib.Nat.{zero-add, add-zero, suc-add}
use native.Mathlib.Numerals.{add-one}
use native.Mathlib.Omega.{arith}
use lib.ListN.{length}
use Rattle.tree.specs.Numbers.{count, up_to, run}
use Rattle.tree.specs.Table.{nodes}
use Rattle.tree.specs.Forest.{Forest, nil, node, tree_of, size, preorder}
use Rattle.tree.specs.Levels.{Pair}
use Rattle.tree.specs.Shape.{same_shape, corresponding}
use Rattle.tree.specs.WellFormed.{table_number}
use Rattle.tree.specs.Operations.{number_from, renumbered, old_numbers}
use Rattle.tree.proofs.Counting.{Below, below-up_to, count-up_to}
use Rattle.tree.proofs.Reading.{size-preorder}
use Rattle.tree.proofs.Stands.{Numbers, numbers-size, one-root, accepted-numbers}
use Rattle.tree.proofs.TableOf.{table_of-accepted, table_of-tree}

-- ---- m numbers from k on

pub run-append : (k a b : ℕ) → run k (a + b) ≡ run k a ++ run (k + a) b
run-append k zero b = ap₂ run (sym (add-zero k)) (zero-add b)
run-append k (suc a) b =
    ap (run k) (suc-add a b) ∙ ap (λ (r : List ℕ). k ∷ r) (run-append (k + 1) a b ∙ ap (λ (j : ℕ). run (k + 1) a ++ run j b) (omega arith))

pub run-up_to : (n : ℕ) → up_to n ≡ run 0 n
run-up_to zero = refl
run-up_to (suc n) =
    ap (λ (l : List ℕ). l ++ (n ∷ [])) (run-up_to n)
    ∙ ap (λ (j : ℕ). run 0 n ++ (j ∷ [])) (sym (zero-add n))
    ∙ sym (run-append 0 n 1)
    ∙ ap (run 0) (add-one n)

-- ---- the numbered forest

pub preorder-number_from : (k : ℕ) (f : Forest) → preorder (number_from k f) ≡ run k (size f)
preorder-number_from k nil = refl
preorder-number_from k (node v f g) =
    ap (λ (r : List ℕ). k ∷ r)
    (ap₂ ◌++◌ (preorder-number_from (k + 1) f) (preorder-number_from (k + 1 + size f) g) ∙ sym (run-append (k + 1) (size f) (size g)))

pub shape_number_from : (k : ℕ) (f : Forest) → same_shape (number_from k f) f ≡ true
shape_number_from k nil = refl
shape_number_from k (node v f g) = ap₂ ◌&&◌ (shape_number_from (k + 1) f) (shape_number_from (k + 1 + size f) g)

size-number_from : (k : ℕ) (f : Forest) → size (number_from k f) ≡ size f
size-number_from k nil = refl
size-number_from k (node v f g) = omega (arith, size-number_from (k + 1) f, size-number_from (k + 1 + size f) g)

-- numbered twice is numbered once
pub number_from-again : (j k : ℕ) (f : Forest) → number_from j (number_from k f) ≡ number_from j f
number_from-again j k nil = refl
number_from-again j k (node v f g) =
    ap₂ (node j) (number_from-again (j + 1) (k + 1) f)
    (number_from-again (j + 1 + size (number_from (k + 1) f)) (k + 1 + size f) g
    ∙ ap (λ (n : ℕ). number_from (j + 1 + n) g) (size-number_from (k + 1) f))

-- each number, from k on, with the element of the list at its place
abbrev pub numbered_from : ℕ → List ℕ → List Pair
numbered_from k [] = []
numbered_from k (x ∷ l) = (k, x) ∷ numbered_from (k + 1) l

numbered_from-append : (k : ℕ) (l m : List ℕ) → numbered_from k (l ++ m) ≡ numbered_from k l ++ numbered_from (k + length l) m
numbered_from-append k [] m = ap (λ (j : ℕ). numbered_from j m) (sym (add-zero k))
numbered_from-append k (x ∷ l) m =
    ap (λ (r : List Pair). (k, x) ∷ r) (numbered_from-append (k + 1) l m ∙ ap (λ (j : ℕ). numbered_from (k + 1) l ++ numbered_from j m) (omega arith))

pub corresponding-number_from : (k : ℕ) (f : Forest) → corresponding (number_from k f) f ≡ numbered_from k (preorder f)
corresponding-number_from k nil = refl
corresponding-number_from k (node v f g) =
    ap (λ (r : List Pair). (k, v) ∷ r)
    (ap₂ ◌++◌ (corresponding-number_from (k + 1) f) (corresponding-number_from (k + 1 + size f) g)
    ∙ ap (λ (j : ℕ). numbered_from (k + 1) (preorder f) ++ numbered_from (k + 1 + j) (preorder g)) (size-preorder f)
    ∙ sym (numbered_from-append (k + 1) (preorder f) (preorder g)))

-- a tree whose nodes hold whatever they hold, numbered from 0 on
pub tree-numbers : (n v : ℕ) (f : Forest) → size (node v f nil) ≡ n → n ≤ 1024 → Numbers n (number_from 0 (node v f nil))
tree-numbers n v f e few =
    record {
      some = omega arith;
      few = few;
      below = subst (Below n) order (below-up_to n);
      each = λ v h. ap (count v) (sym order) ∙ count-up_to n v h;
      root = refl;
      alone = refl;
    }
  where
    order : up_to n ≡ preorder (number_from 0 (node v f nil))
    order = run-up_to n ∙ ap (run 0) (sym e) ∙ sym (preorder-number_from 0 (node v f nil))

pub number_from-numbers : (n : ℕ) (f : Forest) → Numbers n f → Numbers n (number_from 0 f)
number_from-numbers n f N =
    let r = one-root n f N in
    subst⁻¹ (λ (g : Forest). Numbers n (number_from 0 g)) r.1 (tree-numbers n 0 r.0 (ap size (sym r.1) ∙ numbers-size n f N) N.few)

-- ---- the renumbered table

module _ (t : List ℕ) (e : table_number t ≡ 0) where
  pub renumbered-accepted : table_number (renumbered t) ≡ 0
  unfolding renumbered
  renumbered-accepted =
      table_of-accepted (nodes t) (number_from 0 (tree_of t)) (number_from-numbers (nodes t) (tree_of t) (accepted-numbers t e))

  pub renumbered-tree : tree_of (renumbered t) ≡ number_from 0 (tree_of t)
  unfolding renumbered
  renumbered-tree = table_of-tree (nodes t) (number_from 0 (tree_of t)) (number_from-numbers (nodes t) (tree_of t) (accepted-numbers t e))

  pub renumbered_shape : same_shape (tree_of (renumbered t)) (tree_of t) ≡ true
  renumbered_shape = ap (λ (f : Forest). same_shape f (tree_of t)) renumbered-tree ∙ shape_number_from 0 (tree_of t)

  -- the nodes that correspond are each new number and the old number at its place in the map
  pub renumbered-map : corresponding (tree_of (renumbered t)) (tree_of t) ≡ numbered_from 0 (old_numbers t)
  unfolding old_numbers
  renumbered-map = ap (λ (f : Forest). corresponding f (tree_of t)) renumbered-tree ∙ corresponding-number_from 0 (tree_of t)

  -- read in preorder, the new numbers count up from 0
  pub renumbered-order : preorder (tree_of (renumbered t)) ≡ up_to (nodes t)
  renumbered-order =
      ap preorder renumbered-tree ∙ preorder-number_from 0 (tree_of t)
      ∙ ap (run 0) (numbers-size (nodes t) (tree_of t) (accepted-numbers t e)) ∙ sym (run-up_to (nodes t))
