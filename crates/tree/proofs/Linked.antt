-- Tables in which every entry names a node or none and no node is named twice: the tree read off such a table is whole, agrees with the
-- table, and has no node twice. Assumes nothing.
use mathlib.Core.Path.{◌≡◌, refl, sym, ap, ap₂, ◌∙◌, subst}
use mathlib.Core.Logic.{◌⊎◌, inl, inr, ⊎_elim}
use mathlib.Core.Bool.{true}
use mathlib.Core.List.{List}
use Prim.Native.Nat.{ℕ, zero, suc, ◌+◌, ◌*◌, ◌≤◌, ◌<◌}
use native.Mathlib.Nat.{not-suc-le-zero, mul-le-mul_right}
use native.Mathlib.Omega.{arith}
use lib.Dec.{ltb}
use lib.ListN.{length}
use borrow.Author.Tests.{lt-ltb, le-ltb}
use Rattle.tree.specs.Numbers.{is, count}
use Rattle.tree.specs.Table.{none, nodes, first_child, next_sibling}
use Rattle.tree.specs.Forest.{Forest, nil, node, forest_from, forest, tree_of, size, preorder, entry, children, siblings}
use Rattle.tree.proofs.Counting.{all_left, all_right, Below, sum_below-mono, sum_over, sum_over-counts, Distinct, distinct-length}
use Rattle.tree.proofs.Reading.{Agrees, names, named-by-rows, from-node, from-nil, from-below, one_further, whole-or-long, size-preorder}

-- the entry names a node of the n, or none
abbrev pub Names : ℕ → ℕ → Type 0
Names n e = (e < n) ⊎ (e ≡ none)

-- what conditions 1 to 4 leave
pub record Linked (t : List ℕ) : Type 0 where
  pub even : length t ≡ 2 * nodes t
  pub some : 0 < nodes t
  pub few : nodes t ≤ 1024
  pub child : (v : ℕ) → v < nodes t → Names (nodes t) (first_child t v)
  pub sibling : (v : ℕ) → v < nodes t → Names (nodes t) (next_sibling t v)
  pub alone : next_sibling t 0 ≡ none
  pub once : (w : ℕ) → w < nodes t → is w 0 + count w t ≤ 1

-- ---- forests and entries

node_injective : {v w : ℕ} {f g f' g' : Forest} → node v f g ≡ node w f' g' → (f ≡ f') × (g ≡ g')
node_injective e = (ap children e, ap siblings e)

-- a forest of numbers below n is read back off a table that agrees with it, given as many steps as it has nodes
pub read_back : (t : List ℕ) → nodes t ≤ 1024 → (f : Forest) → Agrees t f → Below (nodes t) (preorder f)
    → (k : ℕ) → size f ≤ k → forest_from k t (entry f) ≡ f
read_back t few nil a b k h = from-nil t k none (le-ltb none (nodes t) (omega arith))
read_back t few (node v f g) a b zero h = absurd (not-suc-le-zero h)
read_back t few (node v f g) a b (suc k) h =
    from-node t k v (lt-ltb v (nodes t) b.0)
    ∙ ap₂ (node v)
    (ap (forest_from k t) a.0 ∙ read_back t few f a.2 (all_left (λ x. x < nodes t) (preorder f) (preorder g) b.1) k (omega arith))
    (ap (forest_from k t) a.1 ∙ read_back t few g a.3 (all_right (λ x. x < nodes t) (preorder f) (preorder g) b.1) k (omega arith))

module _ (t : List ℕ) (L : Linked t) where
  -- ---- no node is met twice

  few-names : (w : ℕ) → (l : List ℕ) → Below (nodes t) l → Distinct (nodes t) l → sum_over (names t w) l ≤ count w t
  few-names w l b d =
      omega (
        arith,
        sum_over-counts (names t w) (nodes t) l b,
        named-by-rows t L.even w,
        sum_below-mono (nodes t) (λ x. count x l * names t w x) (names t w) each,
      )
    where
      each : (x : ℕ) → x < nodes t → count x l * names t w x ≤ names t w x
      each x h = omega (arith, mul-le-mul_right (names t w x) (d x h))

  pub distinct_from : (k : ℕ) → Distinct (nodes t) (preorder (forest_from k t 0))
  distinct_from zero w h = omega arith
  distinct_from (suc k) w h =
      omega (arith, one_further t w h k 0, L.once w h, few-names w (preorder (forest_from k t 0)) (from-below t k 0) (distinct_from k))

  -- ---- the tree is whole

  pub size-from : (k : ℕ) → size (forest_from k t 0) ≤ nodes t
  size-from k =
      omega (arith, size-preorder (forest_from k t 0), distinct-length (nodes t) (preorder (forest_from k t 0)) (from-below t k 0) (distinct_from k))

  whole : forest_from (suc (nodes t)) t 0 ≡ forest_from (nodes t) t 0
  whole = ⊎_elim (λ e. e) (λ h. absurd (omega (arith, size-from (suc (nodes t))))) (whole-or-long t (nodes t) 0)

  -- where a further step adds nothing, the forest agrees with the table
  agrees_from : (k v : ℕ) → Names (nodes t) v → forest_from (suc k) t v ≡ forest_from k t v
      → Agrees t (forest_from k t v) × (entry (forest_from k t v) ≡ v)
  agrees_from zero v (inl h) e = absurd (omega (arith, ap size (sym (from-node t zero v (lt-ltb v (nodes t) h)) ∙ e)))
  agrees_from zero v (inr h) e = (tt, sym h)
  agrees_from (suc k) v (inr h) e =
      subst (λ (f : Forest). Agrees t f × (entry f ≡ v))
      (sym (from-nil t (suc k) v (le-ltb v (nodes t) (omega arith)))) (tt, sym h)
  agrees_from (suc k) v (inl h) e =
      let test : ltb v (nodes t) ≡ true = lt-ltb v (nodes t) h in
      let same = node_injective (sym (from-node t (suc k) v test) ∙ e ∙ from-node t k v test) in
      let below = agrees_from k (first_child t v) (L.child v h) same.0 in
      let beside = agrees_from k (next_sibling t v) (L.sibling v h) same.1 in
      subst (λ (f : Forest). Agrees t f × (entry f ≡ v)) (sym (from-node t k v test))
      ((sym below.1, sym beside.1, below.0, beside.0), refl)

  pub tree-agrees : Agrees t (tree_of t)
  unfolding tree_of forest
  tree-agrees = (agrees_from (nodes t) 0 (inl L.some) whole).0

  pub tree-entry : entry (tree_of t) ≡ 0
  unfolding tree_of forest
  tree-entry = (agrees_from (nodes t) 0 (inl L.some) whole).1

  pub tree-below : Below (nodes t) (preorder (tree_of t))
  unfolding tree_of forest
  tree-below = from-below t (nodes t) 0

  pub tree-distinct : Distinct (nodes t) (preorder (tree_of t))
  unfolding tree_of forest
  tree-distinct = distinct_from (nodes t)

  pub tree-size : size (tree_of t) ≤ nodes t
  unfolding tree_of forest
  tree-size = size-from (nodes t)
