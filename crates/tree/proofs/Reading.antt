-- The forest that is read off a table: how often a node occurs in it, that it is whole where no node is named twice, and that it then
-- agrees with the table. Assumes nothing.
use mathlib.Core.Path.{◌≡◌, refl, sym, ap, ap₂, ◌∙◌, subst}
use mathlib.Core.Logic.{◌⊎◌, inl, inr, ⊎_elim}
use mathlib.Core.Bool.{Bool, true, false}
use mathlib.Core.List.{List, [], ◌∷◌}
use Prim.Native.Nat.{ℕ, zero, suc, ◌+◌, ◌*◌, ◌≤◌, ◌<◌}
use native.Mathlib.Omega.{arith}
use lib.Dec.{ltb}
use lib.ListN.{length, get_or, length-append}
use Rattle.tree.specs.Numbers.{is, count}
use Rattle.tree.specs.Table.{none, nodes, first_child, next_sibling}
use Rattle.tree.specs.Forest.{Forest, nil, node, forest_from, size, preorder, entry}
use Rattle.tree.proofs.Counting.{is-other, below_or_not, count-append, all_append, Below, sum_below, sum_over, sum_over-append}

-- ---- forests

pub size-preorder : (f : Forest) → size f ≡ length (preorder f)
size-preorder nil = refl
size-preorder (node v f g) = omega (arith, size-preorder f, size-preorder g, length-append (preorder f) (preorder g))

-- the table's entries are those that the forest says
abbrev pub Agrees : List ℕ → Forest → Type 0
Agrees t nil = Unit {0}
Agrees t (node v f g) = (first_child t v ≡ entry f) × (next_sibling t v ≡ entry g) × Agrees t f × Agrees t g

-- ---- how often a number is named

sum_below-front : (n : ℕ) (f : ℕ → ℕ) → sum_below (suc n) f ≡ f 0 + sum_below n (λ i. f (suc i))
sum_below-front zero f = refl
sum_below-front (suc n) f = omega (arith, sum_below-front n f)

count-places : (w : ℕ) (t : List ℕ) → count w t ≡ sum_below (length t) (λ i. is w (get_or t i none))
count-places w [] = refl
count-places w (x ∷ t) = omega (arith, count-places w t, sum_below-front (length t) (λ i. is w (get_or (x ∷ t) i none)))

sum_below-pairs : (n : ℕ) (f : ℕ → ℕ) → sum_below (2 * n) f ≡ sum_below n (λ x. f (2 * x) + f (2 * x + 1))
sum_below-pairs zero f = refl
sum_below-pairs (suc n) f =
    ap (λ (m : ℕ). sum_below m f) (double n)
    ∙ ap₂ ◌+◌ (ap f (one n)) refl
    ∙ omega (arith, sum_below-pairs n f)
  where
    double : (n : ℕ) → 2 * suc n ≡ suc (suc (2 * n))
    double n = omega arith

    one : (n : ℕ) → suc (2 * n) ≡ 2 * n + 1
    one n = omega arith

-- how often node x's two entries name w
abbrev pub names : List ℕ → ℕ → ℕ → ℕ
names t w x = is w (first_child t x) + is w (next_sibling t x)

pub named-by-rows : (t : List ℕ) → length t ≡ 2 * nodes t → (w : ℕ) → sum_below (nodes t) (names t w) ≡ count w t
named-by-rows t e w =
    sym (count-places w t ∙ ap (λ (m : ℕ). sum_below m (λ i. is w (get_or t i none))) e ∙ sum_below-pairs (nodes t) (λ i. is w (get_or t i none)))

module _ (t : List ℕ) where
  pub from-node : (k v : ℕ) → ltb v (nodes t) ≡ true
      → forest_from (suc k) t v ≡ node v (forest_from k t (first_child t v)) (forest_from k t (next_sibling t v))
  from-node k v e =
      ap (λ (b : Bool). elim b as (λ _. Forest) [ true ↦ node v (forest_from k t (first_child t v)) (forest_from k t (next_sibling t v)) | false ↦ nil ]) e

  pub from-nil : (k v : ℕ) → ltb v (nodes t) ≡ false → forest_from k t v ≡ nil
  from-nil zero v e = refl
  from-nil (suc k) v e =
      ap (λ (b : Bool). elim b as (λ _. Forest) [ true ↦ node v (forest_from k t (first_child t v)) (forest_from k t (next_sibling t v)) | false ↦ nil ]) e

  -- every node that is met is below n
  pub from-below : (k v : ℕ) → Below (nodes t) (preorder (forest_from k t v))
  from-below zero v = tt
  from-below (suc k) v =
      ⊎_elim (λ h. subst (λ (f : Forest). Below (nodes t) (preorder f)) (sym (from-node k v h.1)) (
        h.0,
        all_append (λ x. x < nodes t) (preorder (forest_from k t (first_child t v))) (preorder (forest_from k t (next_sibling t v)))
            (from-below k (first_child t v)) (from-below k (next_sibling t v)),
      ))
      (λ h. subst (λ (f : Forest). Below (nodes t) (preorder f)) (sym (from-nil (suc k) v h.1)) tt)
      (below_or_not v (nodes t))

  -- One step further, a node occurs once for the start and once for each entry of a node met so far that names it.
  pub one_further : (w : ℕ) → w < nodes t → (k v : ℕ)
      → count w (preorder (forest_from (suc k) t v)) ≡ is w v + sum_over (names t w) (preorder (forest_from k t v))
  one_further w hw zero v =
      ⊎_elim (λ h. ap (λ (f : Forest). count w (preorder f)) (from-node zero v h.1))
      (λ h. ap (λ (f : Forest). count w (preorder f)) (from-nil 1 v h.1) ∙ omega (arith, is-other w v (λ e. omega arith)))
      (below_or_not v (nodes t))
  one_further w hw (suc k) v =
      ⊎_elim (λ h.
      ap (λ (f : Forest). count w (preorder f)) (from-node (suc k) v h.1)
      ∙ omega (
        arith,
        one_further w hw k (first_child t v),
        one_further w hw k (next_sibling t v),
        count-append w (preorder (forest_from (suc k) t (first_child t v))) (preorder (forest_from (suc k) t (next_sibling t v))),
        sum_over-append (names t w) (preorder (forest_from k t (first_child t v))) (preorder (forest_from k t (next_sibling t v))),
        ap (λ (f : Forest). sum_over (names t w) (preorder f)) (from-node k v h.1),
      ))
      (λ h.
      ap (λ (f : Forest). count w (preorder f)) (from-nil (suc (suc k)) v h.1)
      ∙ omega (arith, is-other w v (λ e. omega arith), ap (λ (f : Forest). sum_over (names t w) (preorder f)) (from-nil (suc k) v h.1)))
      (below_or_not v (nodes t))

  -- either a further step adds nothing, or there are as many nodes as steps
  pub whole-or-long : (k v : ℕ) → (forest_from (suc k) t v ≡ forest_from k t v) ⊎ (suc k ≤ size (forest_from (suc k) t v))
  whole-or-long zero v =
      ⊎_elim (λ h. inr (omega (arith, ap size (from-node zero v h.1))))
      (λ h. inl (from-nil 1 v h.1))
      (below_or_not v (nodes t))
  whole-or-long (suc k) v =
      ⊎_elim (λ h.
      ⊎_elim (λ p.
      ⊎_elim (λ q. inl (from-node (suc k) v h.1 ∙ ap₂ (node v) p q ∙ sym (from-node k v h.1)))
      (λ q. inr (omega (arith, ap size (from-node (suc k) v h.1))))
      (whole-or-long k (next_sibling t v)))
      (λ p. inr (omega (arith, ap size (from-node (suc k) v h.1))))
      (whole-or-long k (first_child t v)))
      (λ h. inl (from-nil (suc (suc k)) v h.1 ∙ sym (from-nil (suc k) v h.1)))
      (below_or_not v (nodes t))
