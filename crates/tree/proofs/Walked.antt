-- Levels and tree order: what is read off the tree of an accepted table is what the level-by-level walk of the table meets. Assumes nothing.
use mathlib.Core.Path.{◌≡◌, refl, sym, ap, ap₂, ◌∙◌}
use mathlib.Core.List.{List, [], ◌∷◌, ◌++◌}
use Prim.Native.Nat.{ℕ, zero, suc, ◌≤◌, ◌<◌}
use native.Mathlib.Nat.{not-suc-le-zero}
use native.Mathlib.Omega.{arith}
use Rattle.tree.specs.Numbers.{flat_map}
use Rattle.tree.specs.Table.{nodes, first_child}
use Rattle.tree.specs.Forest.{Forest, nil, node, join, forest, forest_from, tree_of, size, preorder, roots}
use Rattle.tree.specs.Levels.{children_of, walk_from, walk, beside, levels}
use Rattle.tree.specs.WellFormed.{table_number}
use Rattle.tree.proofs.Counting.{Below, all_left, all_right}
use Rattle.tree.proofs.Joined.{size-join, roots-join, beside-nil, levels-join}
use Rattle.tree.proofs.Reading.{Agrees}
use Rattle.tree.proofs.Linked.{read_back}
use Rattle.tree.proofs.Stands.{one-root, accepted-agrees, accepted-numbers, accepted-size}

-- ---- the forest one level down

abbrev pub one_down : Forest → Forest
one_down nil = nil
one_down (node v f g) = join f (one_down g)

size-one_down : (f : Forest) → size (one_down f) ≤ size f
size-one_down nil = omega arith
size-one_down (node v f g) = omega (arith, size-join f (one_down g), size-one_down g)

-- the first level is the roots, and the others are the levels of the forest one level down
pub levels-down : (v : ℕ) (f g : Forest) → levels (node v f g) ≡ roots (node v f g) ∷ levels (one_down (node v f g))
levels-down v f nil = ap (λ (l : List (List ℕ)). (v ∷ []) ∷ l) (sym (levels-join f nil ∙ beside-nil (levels f)))
levels-down v f (node w g h) =
    ap (beside ((v ∷ []) ∷ levels f)) (levels-down w g h)
    ∙ ap (λ (l : List (List ℕ)). (v ∷ roots (node w g h)) ∷ l) (sym (levels-join f (one_down (node w g h))))

-- ---- the walk

-- at every node of the forest the table names its children
abbrev pub Leads : List ℕ → Forest → Type 0
Leads t nil = Unit {0}
Leads t (node v f g) = (forest t (first_child t v) ≡ f) × Leads t f × Leads t g

pub leads-join : (t : List ℕ) (f g : Forest) → Leads t f → Leads t g → Leads t (join f g)
leads-join t nil g a b = b
leads-join t (node v f h) g a b = (a.0, a.1, leads-join t h g a.2 b)

leads-down : (t : List ℕ) (f : Forest) → Leads t f → Leads t (one_down f)
leads-down t nil a = tt
leads-down t (node v f g) a = leads-join t f (one_down g) a.1 (leads-down t g a.2)

children-down : (t : List ℕ) (f : Forest) → Leads t f → flat_map (children_of t) (roots f) ≡ roots (one_down f)
unfolding children_of
children-down t nil a = refl
children-down t (node v f g) a = ap₂ ◌++◌ (ap roots a.0) (children-down t g a.2) ∙ sym (roots-join f (one_down g))

pub walk-levels : (t : List ℕ) (k : ℕ) (f : Forest) → Leads t f → size f ≤ k → walk_from k t (roots f) ≡ levels f
walk-levels t zero nil a h = refl
walk-levels t zero (node v f g) a h = absurd (not-suc-le-zero h)
walk-levels t (suc k) nil a h = refl
walk-levels t (suc k) (node v f g) a h =
    ap (λ (l : List (List ℕ)). roots (node v f g) ∷ l)
    (ap (walk_from k t) (children-down t (node v f g) a)
    ∙ walk-levels t k (one_down (node v f g)) (leads-down t (node v f g) a) (omega (arith, size-join f (one_down g), size-one_down g)))
    ∙ sym (levels-down v f g)

-- ---- an accepted table

leads : (t : List ℕ) → nodes t ≤ 1024 → (f : Forest) → Agrees t f → Below (nodes t) (preorder f) → size f ≤ nodes t → Leads t f
unfolding forest
leads t few nil a b h = tt
leads t few (node v f g) a b h =
    let left = all_left (λ x. x < nodes t) (preorder f) (preorder g) b.1 in
    let right = all_right (λ x. x < nodes t) (preorder f) (preorder g) b.1 in (
      ap (forest_from (nodes t) t) a.0 ∙ read_back t few f a.2 left (nodes t) (omega arith),
      leads t few f a.2 left (omega arith),
      leads t few g a.3 right (omega arith),
    )

pub accepted-leads : (t : List ℕ) → table_number t ≡ 0 → Leads t (tree_of t)
accepted-leads t e =
    let N = accepted-numbers t e in
    leads t N.few (tree_of t) (accepted-agrees t e) N.below (omega (arith, accepted-size t e))

-- the walk of an accepted table meets the levels of its tree
pub accepted-walk : (t : List ℕ) → table_number t ≡ 0 → walk t ≡ levels (tree_of t)
unfolding walk
accepted-walk t e =
    ap (λ (f : Forest). walk_from (nodes t) t (roots f)) (sym (one-root (nodes t) (tree_of t) (accepted-numbers t e)).1)
    ∙ walk-levels t (nodes t) (tree_of t) (accepted-leads t e) (omega (arith, accepted-size t e))
