-- A tree and its level sequence: each is told by the other. Assumes nothing.
use mathlib.Core.Path.{◌≡◌, refl, sym, ap, ap₂, ◌∙◌}
use mathlib.Core.Logic.{⊎_elim}
use mathlib.Core.Bool.{Bool, true, cond, ◌&&◌, false≢true}
use mathlib.Core.List.{List, [], ◌∷◌, ◌++◌, append_assoc, append-nil}
use Prim.Native.Nat.{ℕ, zero, suc, ◌+◌, ◌≤◌, ◌<◌}
use native.Mathlib.Nat.{add-zero, eq-or-lt_of_le, le_of_suc-le-suc}
use native.Mathlib.Omega.{arith}
use lib.Dec.{eqb, leb}
use lib.ListN.{length, length-append}
use borrow.Author.Tests.{lt-ltb, le-ltb, eq-eqb, ne_eqb, le-leb, leb-true, eqb-true}
use Rattle.refusal.proofs.Truth.{and_left, and_right}
use Rattle.tree.specs.Forest.{Forest, nil, node, size}
use Rattle.tree.specs.Shape.{same_shape}
use Rattle.tree.specs.Operations.{number_from}
use Rattle.small_trees.specs.Sequence.{levels_from, goes_on, is_sequence, forest_on, tree_of_levels}

-- ---- one level at a time

module _ (l k m : ℕ) (ms : List ℕ) where
  on_level : Bool → Bool → Forest
  on_level less same = cond less nil (cond same (node k (forest_on (suc l) (k + 1) ms) (forest_on l (k + 1) ms)) (forest_on l (k + 1) ms))

  pub smaller_ends : m < l → forest_on l k (m ∷ ms) ≡ nil
  unfolding on_level
  smaller_ends h = ap (λ (b : Bool). on_level b (eqb m l)) (lt-ltb m l h)

  pub equal_stands : m ≡ l → forest_on l k (m ∷ ms) ≡ node k (forest_on (suc l) (k + 1) ms) (forest_on l (k + 1) ms)
  unfolding on_level
  equal_stands e = ap₂ on_level (le-ltb m l (omega arith)) (eq-eqb m l e)

  pub greater-passed : l < m → forest_on l k (m ∷ ms) ≡ forest_on l (k + 1) ms
  unfolding on_level
  greater-passed h = ap₂ on_level (le-ltb m l (omega arith)) (ne_eqb m l (λ e. omega arith))

pub goes_on_lem : (before l : ℕ) (ls : List ℕ) → goes_on before (l ∷ ls) ≡ true → (1 ≤ l) × (l ≤ suc before) × (goes_on l ls ≡ true)
goes_on_lem before l ls e =
    let both = and_left (leb 1 l && leb l (suc before)) (goes_on l ls) e in (
      leb-true 1 l (and_left (leb 1 l) (leb l (suc before)) both),
      leb-true l (suc before) (and_right (leb 1 l) (leb l (suc before)) both),
      and_right (leb 1 l && leb l (suc before)) (goes_on l ls) e,
    )

pub going_on : (before l : ℕ) (ls : List ℕ) → 1 ≤ l → l ≤ suc before → goes_on l ls ≡ true → goes_on before (l ∷ ls) ≡ true
going_on before l ls some few e =
    ap₂ (λ (a b : Bool). a && b && goes_on l ls) (le-leb 1 l some) (le-leb l (suc before) few) ∙ e

-- ---- the tree of a tree's sequence

-- the nodes below level l are passed over
passed : (l m k : ℕ) (f : Forest) (rest : List ℕ) → l < m → forest_on l k (levels_from m f ++ rest) ≡ forest_on l (k + size f) rest
passed l m k nil rest h = ap (λ (j : ℕ). forest_on l j rest) (sym (add-zero k))
passed l m k (node v f g) rest h =
    greater-passed l k m (levels_from (suc m) f ++ levels_from m g ++ rest) h
    ∙ ap (forest_on l (k + 1)) (append_assoc (levels_from (suc m) f) (levels_from m g) rest)
    ∙ passed l (suc m) (k + 1) f (levels_from m g ++ rest) (omega arith)
    ∙ passed l m (k + 1 + size f) g rest h
    ∙ ap (λ (j : ℕ). forest_on l j rest) (omega arith)

-- a list in which nothing of level l or below comes before a smaller level
Ends : ℕ → List ℕ → Type 0
Ends l rest = (i k : ℕ) → l ≤ i → forest_on i k rest ≡ nil

whole : (l k : ℕ) (f : Forest) (rest : List ℕ) → Ends l rest → forest_on l k (levels_from l f ++ rest) ≡ number_from k f
unfolding Ends
whole l k nil rest ends = ends l k (omega arith)
whole l k (node v f g) rest ends =
    equal_stands l k l (levels_from (suc l) f ++ levels_from l g ++ rest) refl
    ∙ ap₂ (node k)
    (ap (forest_on (suc l) (k + 1)) (append_assoc (levels_from (suc l) f) (levels_from l g) rest)
    ∙ whole (suc l) (k + 1) f (levels_from l g ++ rest) (next g))
    (ap (forest_on l (k + 1)) (append_assoc (levels_from (suc l) f) (levels_from l g) rest)
    ∙ passed l (suc l) (k + 1) f (levels_from l g ++ rest) (omega arith)
    ∙ whole l (k + 1 + size f) g rest ends)
  where
    next : (g : Forest) → Ends (suc l) (levels_from l g ++ rest)
    next nil i j h = ends i j (omega arith)
    next (node w a b) i j h = smaller_ends i j l (levels_from (suc l) a ++ levels_from l b ++ rest) (omega arith)

pub tree_of-sequence : (f : Forest) → tree_of_levels (levels_from 0 f) ≡ number_from 0 f
unfolding tree_of_levels Ends
tree_of-sequence f = ap (forest_on 0 0) (sym (append-nil (levels_from 0 f))) ∙ whole 0 0 f [] (λ i k h. refl)

-- ---- the sequence of a sequence's tree

-- the sequences of the forests on levels j, j − 1 and so on down to 1
down : ℕ → ℕ → List ℕ → List ℕ
down zero k s = []
down (suc j) k s = levels_from (suc j) (forest_on (suc j) k s) ++ down j k s

down-none : (j k : ℕ) → down j k [] ≡ []
unfolding down
down-none zero k = refl
down-none (suc j) k = down-none j k

-- levels greater than the first have no node before it
down-greater : (j k m : ℕ) (ms : List ℕ) → m ≤ j → down j k (m ∷ ms) ≡ down m k (m ∷ ms)
unfolding down
down-greater zero k zero ms h = refl
down-greater zero k (suc m) ms h = absurd (omega arith)
down-greater (suc j) k m ms h =
    ⊎_elim (λ e. ap (λ (i : ℕ). down i k (m ∷ ms)) (sym e))
    (λ l.
    ap (λ (f : Forest). levels_from (suc j) f ++ down j k (m ∷ ms)) (smaller_ends (suc j) k m ms l)
    ∙ down-greater j k m ms (le_of_suc-le-suc l))
    (eq-or-lt_of_le h)

-- levels smaller than the first pass it over
down_smaller : (j k m : ℕ) (ms : List ℕ) → j < m → down j k (m ∷ ms) ≡ down j (k + 1) ms
unfolding down
down_smaller zero k m ms h = refl
down_smaller (suc j) k m ms h =
    ap₂ (λ (f : Forest) (l : List ℕ). levels_from (suc j) f ++ l) (greater-passed (suc j) k m ms h) (down_smaller j k m ms (omega arith))

down-all : (before k : ℕ) (s : List ℕ) → goes_on before s ≡ true → down (suc before) k s ≡ s
unfolding down
down-all before k [] e = down-none (suc before) k
down-all before k (zero ∷ ms) e = absurd (omega (arith, (goes_on_lem before zero ms e).0))
down-all before k (suc p ∷ ms) e =
    down-greater (suc before) k (suc p) ms (goes_on_lem before (suc p) ms e).1
    ∙ ap₂ (λ (f : Forest) (l : List ℕ). levels_from (suc p) f ++ l) (equal_stands (suc p) k (suc p) ms refl) (down_smaller p k (suc p) ms (omega arith))
    ∙ ap (λ (l : List ℕ). suc p ∷ l)
    (append_assoc (levels_from (suc (suc p)) (forest_on (suc (suc p)) (k + 1) ms)) (levels_from (suc p) (forest_on (suc p) (k + 1) ms)) (down p (k + 1) ms)
    ∙ down-all (suc p) (k + 1) ms (goes_on_lem before (suc p) ms e).2)

-- no further node stands on level 0
one-root : (before k : ℕ) (s : List ℕ) → goes_on before s ≡ true → forest_on 0 k s ≡ nil
one-root before k [] e = refl
one-root before k (m ∷ ms) e =
    let on = goes_on_lem before m ms e in
    greater-passed 0 k m ms on.0 ∙ one-root m (k + 1) ms on.2

pub sequence-first : (l : ℕ) (ls : List ℕ) → is_sequence (l ∷ ls) ≡ true → (l ≡ 0) × (goes_on l ls ≡ true)
unfolding is_sequence
sequence-first l ls e = (eqb-true l 0 (and_left (eqb l 0) (goes_on l ls) e), and_right (eqb l 0) (goes_on l ls) e)

pub tree-root : (s : List ℕ) → is_sequence s ≡ true → (below : Forest) × (tree_of_levels s ≡ node 0 below nil)
unfolding is_sequence tree_of_levels
tree-root [] e = absurd (false≢true e)
tree-root (l ∷ ls) e =
    let on = sequence-first l ls e in
    (forest_on 1 1 ls, equal_stands 0 0 l ls on.0 ∙ ap (node 0 (forest_on 1 1 ls)) (one-root l 1 ls on.1))

pub sequence-of_tree : (s : List ℕ) → is_sequence s ≡ true → levels_from 0 (tree_of_levels s) ≡ s
unfolding is_sequence tree_of_levels down
sequence-of_tree [] e = absurd (false≢true e)
sequence-of_tree (l ∷ ls) e =
    let on = sequence-first l ls e in
    ap (levels_from 0) (equal_stands 0 0 l ls on.0 ∙ ap (node 0 (forest_on 1 1 ls)) (one-root l 1 ls on.1))
    ∙ ap₂ ◌∷◌ (sym on.0) (down-all 0 1 ls (ap (λ (b : ℕ). goes_on b ls) (sym on.0) ∙ on.1))

-- ---- the sequence of a tree is a sequence

goes-forest : (before l : ℕ) (f : Forest) (rest : List ℕ) → l ≤ before → ((b : ℕ) → l ≤ b → goes_on b rest ≡ true)
    → goes_on before (levels_from (suc l) f ++ rest) ≡ true
goes-forest before l nil rest h on = on before h
goes-forest before l (node v f g) rest h on =
    going_on before (suc l) (levels_from (suc (suc l)) f ++ levels_from (suc l) g ++ rest) (omega arith) (omega arith)
    (ap (goes_on (suc l)) (append_assoc (levels_from (suc (suc l)) f) (levels_from (suc l) g) rest)
    ∙ goes-forest (suc l) (suc l) f (levels_from (suc l) g ++ rest) (omega arith) (λ b k. goes-forest b l g rest (omega arith) on))

pub tree-sequence : (v : ℕ) (below : Forest) → is_sequence (levels_from 0 (node v below nil)) ≡ true
unfolding is_sequence
tree-sequence v below = goes-forest 0 0 below [] (omega arith) (λ b h. refl)

pub length-levels : (l : ℕ) (f : Forest) → length (levels_from l f) ≡ size f
length-levels l nil = refl
length-levels l (node v f g) =
    omega (arith, length-levels (suc l) f, length-levels l g, length-append (levels_from (suc l) f) (levels_from l g))

-- forests of one shape have one sequence
pub shape_levels : (l : ℕ) (f g : Forest) → same_shape f g ≡ true → levels_from l f ≡ levels_from l g
shape_levels l nil nil e = refl
shape_levels l nil (node w a b) e = absurd (false≢true e)
shape_levels l (node v f g) nil e = absurd (false≢true e)
shape_levels l (node v f g) (node w a b) e =
    ap (λ (r : List ℕ). l ∷ r)
    (ap₂ ◌++◌ (shape_levels (suc l) f a (and_left (same_shape f a) (same_shape g b) e)) (shape_levels l g b (and_right (same_shape f a) (same_shape g b) e)))
