-- Every ordered tree of n nodes occurs at one place of the list of n, the star first and the chain last: for every n by the list's own
-- structure. Only the counts of the eight lists are computed. Assumes nothing.
use mathlib.Core.Path.{◌≡◌, refl, sym, ap, ◌∙◌}
use mathlib.Core.Logic.{⊎_elim}
use mathlib.Core.Bool.{true, false, false≢true}
use mathlib.Core.List.{List, [], ◌∷◌, ◌++◌, append-nil}
use Prim.Native.Nat.{ℕ, zero, suc, ◌-◌, ◌≤◌, ◌<◌}
use native.Mathlib.Nat.{eq-or-lt_of_le, eq-zero-or-pos, lt_of_not-le, lt_trans, le_of_suc-le-suc}
use native.Mathlib.Omega.{arith}
use lib.ListN.{length, get_or}
use Rattle.tree.specs.Forest.{Forest, nil, node, size}
use Rattle.tree.specs.Operations.{number_from}
use Rattle.tree.proofs.Renumbered.{shape_number_from}
use Rattle.small_trees.specs.Sequence.{levels_from, goes_on, is_sequence, tree_of_levels, comes_before}
use Rattle.small_trees.specs.SmallTrees.{further, sequences, tree_count, sequence_at, tree_at, most_nodes, OnePlace, leaves, star, chain, Complete, counts, AllComplete}
use Rattle.small_trees.proofs.Trees.{goes_on_lem, sequence-first, tree_of-sequence, sequence-of_tree, tree-sequence, length-levels, shape_levels}
use Rattle.small_trees.proofs.Listed.{before_equal, not-greater, not_itself, listed}

-- ---- places

module _ (n : ℕ) where
  pub at-sequence : (p : ℕ) → p < tree_count n → is_sequence (sequence_at n p) ≡ true
  unfolding tree_count sequence_at
  at-sequence p h = ((listed n).holds p h).0

  pub at_length : (p : ℕ) → p < tree_count n → length (sequence_at n p) ≡ n
  unfolding tree_count sequence_at
  at_length p h = ((listed n).holds p h).1

  pub at-levels : (p : ℕ) → p < tree_count n → levels_from 0 (tree_at n p) ≡ sequence_at n p
  unfolding tree_at
  at-levels p h = sequence-of_tree (sequence_at n p) (at-sequence p h)

  pub at-sorted : (p q : ℕ) → p < q → q < tree_count n → comes_before (sequence_at n p) (sequence_at n q) ≡ true
  unfolding tree_count sequence_at
  at-sorted = (listed n).sorted

  place_of : (s : List ℕ) → is_sequence s ≡ true → length s ≡ n → (p : ℕ) × (p < tree_count n) × (sequence_at n p ≡ s)
  unfolding tree_count sequence_at
  place_of = (listed n).all

  -- a smaller place has another sequence
  other : (p q : ℕ) → p < q → q < tree_count n → sequence_at n p ≡ sequence_at n q → ⊥
  other p q h k e =
      false≢true (sym (not_itself (sequence_at n q)) ∙ ap (λ (s : List ℕ). comes_before s (sequence_at n q)) (sym e) ∙ at-sorted p q h k)

  pub one_place : (p q : ℕ) → p < tree_count n → q < tree_count n → sequence_at n p ≡ sequence_at n q → p ≡ q
  one_place p q h k e =
      ⊎_elim (λ same. same) (λ l. absurd (other p q l k e)) (eq-or-lt_of_le (le_of_suc-le-suc (lt_of_not-le (λ l. other q p l h (sym e)))))

  pub tree-place : (v : ℕ) (below : Forest) → size (node v below nil) ≡ n → OnePlace n (node v below nil)
  unfolding tree_at
  tree-place v below e =
      let tree : Forest = node v below nil in
      let r = place_of (levels_from 0 tree) (tree-sequence v below) (length-levels 0 tree ∙ e) in
      record {
        place = r.0;
        within = r.1;
        here = ap tree_of_levels r.2 ∙ tree_of-sequence tree;
        only = λ p h same. one_place p r.0 h r.1 (sym (at-levels p h) ∙ shape_levels 0 (tree_at n p) tree same ∙ sym r.2);
      }

-- ---- the star and the chain

star-least : (before : ℕ) (s : List ℕ) → goes_on before s ≡ true → comes_before s (levels_from 1 (leaves (length s))) ≡ false
star-least before [] e = refl
star-least before (l ∷ ls) e =
    let on = goes_on_lem before l ls e in
    ⊎_elim (λ same. before_equal l 1 ls (levels_from 1 (leaves (length ls))) (sym same) ∙ star-least l ls on.2)
    (λ h. not-greater l 1 ls (levels_from 1 (leaves (length ls))) h)
    (eq-or-lt_of_le on.0)

chain-greatest : (before : ℕ) (s : List ℕ) → goes_on before s ≡ true → comes_before (levels_from (suc before) (chain (length s))) s ≡ false
chain-greatest before [] e = refl
chain-greatest before (l ∷ ls) e =
    let on = goes_on_lem before l ls e in
    let rest : List ℕ = levels_from (suc (suc before)) (chain (length ls)) ++ [] in
    ⊎_elim (λ same.
    before_equal (suc before) l rest ls (sym same)
    ∙ ap (λ (r : List ℕ). comes_before r ls)
    (append-nil (levels_from (suc (suc before)) (chain (length ls))) ∙ ap (λ (b : ℕ). levels_from (suc b) (chain (length ls))) (sym same))
    ∙ chain-greatest l ls on.2)
    (λ h. not-greater (suc before) l rest ls h)
    (eq-or-lt_of_le on.1)

-- no sequence comes before the star's, and the chain's before none
least : (s : List ℕ) → is_sequence s ≡ true → comes_before s (levels_from 0 (star (length s))) ≡ false
unfolding is_sequence
least [] e = absurd (false≢true e)
least (l ∷ ls) e =
    let on = sequence-first l ls e in
    before_equal l 0 ls (levels_from 1 (leaves (length ls)) ++ []) on.0
    ∙ ap (comes_before ls) (append-nil (levels_from 1 (leaves (length ls))))
    ∙ star-least l ls on.1

greatest : (s : List ℕ) → is_sequence s ≡ true → comes_before (levels_from 0 (chain (length s))) s ≡ false
unfolding is_sequence
greatest [] e = absurd (false≢true e)
greatest (l ∷ ls) e =
    let on = sequence-first l ls e in
    before_equal 0 l (levels_from 1 (chain (length ls)) ++ []) ls (sym on.0)
    ∙ ap (λ (r : List ℕ). comes_before r ls) (append-nil (levels_from 1 (chain (length ls))))
    ∙ chain-greatest 0 ls (ap (λ (b : ℕ). goes_on b ls) (sym on.0) ∙ on.1)

size-leaves : (m : ℕ) → size (leaves m) ≡ m
size-leaves zero = refl
size-leaves (suc m) = omega (arith, size-leaves m)

size-chain : (m : ℕ) → size (chain m) ≡ m
size-chain zero = refl
size-chain (suc m) = omega (arith, size-chain m)

module _ (m : ℕ) where
  abbrev n : ℕ
  n = suc m

  star-place : OnePlace n (star n)
  star-place = tree-place n 0 (leaves m) (omega (arith, size-leaves m))

  chain-place : OnePlace n (chain n)
  chain-place = tree-place n 0 (chain m) (omega (arith, size-chain m))

  -- the sequence at the place of a tree
  sequence-there : (v : ℕ) (below : Forest) (o : OnePlace n (node v below nil)) → sequence_at n o.place ≡ levels_from 0 (node v below nil)
  sequence-there v below o = sym (at-levels n o.place o.within) ∙ ap (levels_from 0) o.here ∙ shape_levels 0 (number_from 0 (node v below nil)) (node v below nil) (shape_number_from 0 (node v below nil))

  star-zero : star-place.place ≡ 0
  star-zero =
      let o = star-place in
      ⊎_elim (λ e. e)
      (λ h.
      let some : 0 < tree_count n = lt_trans h o.within in
      absurd (false≢true
      (sym (least (sequence_at n 0) (at-sequence n 0 some))
      ∙ ap (λ (k : ℕ). comes_before (sequence_at n 0) (levels_from 0 (star k))) (at_length n 0 some)
      ∙ ap (comes_before (sequence_at n 0)) (sym (sequence-there 0 (leaves m) o))
      ∙ at-sorted n 0 o.place h o.within)))
      (eq-zero-or-pos o.place)

  chain-end : suc chain-place.place ≡ tree_count n
  chain-end =
      let o = chain-place in
      ⊎_elim (λ e. e)
      (λ h.
      let last : ℕ = suc o.place in
      absurd (false≢true
      (sym (greatest (sequence_at n last) (at-sequence n last h))
      ∙ ap (λ (k : ℕ). comes_before (levels_from 0 (chain k)) (sequence_at n last)) (at_length n last h)
      ∙ ap (λ (s : List ℕ). comes_before s (sequence_at n last)) (sym (sequence-there 0 (chain m) o))
      ∙ at-sorted n o.place last (omega arith) h)))
      (eq-or-lt_of_le o.within)

  pub complete : (trees : ℕ) → tree_count n ≡ trees → Complete n trees
  complete trees e = record {
    count = e;
    each = tree-place n;
    star-first = ap (tree_at n) (sym star-zero) ∙ star-place.here;
    chain-last = ap (tree_at n) (omega (arith, chain-end)) ∙ chain-place.here;
    rising = λ p q h k. at-sorted n p q h (omega arith);
  }

-- ---- the eight lists

pub all-complete : AllComplete
unfolding tree_count sequences further
all-complete zero h k = absurd (omega arith)
all-complete (suc m) h k =
    let last : m ≡ suc m - 1 = omega arith in
    complete m (get_or counts (suc m - 1) 0) (counted m k ∙ ap (λ (i : ℕ). get_or counts i 0) last)
  where
    counted : (m : ℕ) → suc m ≤ most_nodes → tree_count (suc m) ≡ get_or counts m 0
    counted zero h = refl
    counted (suc zero) h = refl
    counted (suc (suc zero)) h = refl
    counted (suc (suc (suc zero))) h = refl
    counted (suc (suc (suc (suc zero)))) h = refl
    counted (suc (suc (suc (suc (suc zero))))) h = refl
    counted (suc (suc (suc (suc (suc (suc zero)))))) h = refl
    counted (suc (suc (suc (suc (suc (suc (suc zero))))))) h = refl
    counted (suc (suc (suc (suc (suc (suc (suc (suc m)))))))) h = absurd (omega arith)
