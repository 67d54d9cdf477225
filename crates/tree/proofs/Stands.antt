-- A table that agrees with a tree on the numbers below n is accepted and stands for that tree. Assumes nothing.
use mathlib.Core.Path.{◌≡◌, refl, sym, ap, ap₂, ◌∙◌, subst}
use mathlib.Core.Logic.{◌⊎◌, inl, inr, ⊎_elim}
use mathlib.Core.Bool.{false}
use mathlib.Core.List.{List}
use Prim.Native.Nat.{ℕ, zero, suc, ◌+◌, ◌*◌, ◌/◌, ◌%◌, ◌≤◌, ◌<◌}
use native.Mathlib.Omega.{arith}
use lib.ListN.{length, get_or}
use Rattle.refusal.proofs.Laws.{first-none, none_first}
use Rattle.tree.specs.Numbers.{is, count, up_to}
use Rattle.tree.specs.Table.{none, nodes, first_child, next_sibling}
use Rattle.tree.specs.Forest.{Forest, nil, node, forest_from, forest, tree_of, size, preorder, entry, siblings}
use Rattle.tree.specs.WellFormed.{not_reached, table_conditions, table_number, Passed}
use Rattle.tree.proofs.Counting.{is-other, count-append, Below, all_left, all_right, sum_over, sum_over-append, sum_over-same, sum_over-up_to, below-up_to, count-up_to, distinct-length, covering_length}
use Rattle.tree.proofs.Tests.{at_all, counted-all}
use Rattle.tree.proofs.Reading.{Agrees, names, named-by-rows, size-preorder}
use Rattle.tree.proofs.Linked.{Names, read_back, tree-below, tree-distinct, tree-agrees, tree-entry}
use Rattle.tree.proofs.Accepted.{linked, length-good, named-entries, alone-root, once-named, named-all, all-reached, size-reached}
use Rattle.tree.proofs.Parts.{locate, part-agrees, part-below}

-- f is a tree of one root, node 0, on just the numbers below n
pub record Numbers (n : ℕ) (f : Forest) : Type 0 where
  pub some : 0 < n
  pub few : n ≤ 1024
  pub below : Below n (preorder f)
  pub each : (v : ℕ) → v < n → count v (preorder f) ≡ 1
  pub root : entry f ≡ 0
  pub alone : siblings f ≡ nil

pub numbers-size : (n : ℕ) (f : Forest) → Numbers n f → size f ≡ n
numbers-size n f N =
    omega (
      arith,
      size-preorder f,
      distinct-length n (preorder f) N.below (λ v h. omega (arith, N.each v h)),
      covering_length n (preorder f) (λ v h. omega (arith, N.each v h)),
    )

-- so it is node 0 over the forest of its children
pub one-root : (n : ℕ) (f : Forest) → Numbers n f → (below : Forest) × (f ≡ node 0 below nil)
one-root n f N = go f N.root N.alone
  where
    go : (f : Forest) → entry f ≡ 0 → siblings f ≡ nil → (below : Forest) × (f ≡ node 0 below nil)
    go nil root alone = absurd (omega arith)
    go (node v below after) root alone = (below, ap₂ (λ (w : ℕ) (g : Forest). node w below g) root alone)

-- ---- an accepted table

pub passed : (t : List ℕ) → table_number t ≡ 0 → Passed t
unfolding table_number table_conditions
passed t e =
    let h = first-none (table_conditions t) (omega arith) e in
    record { size = h.0; entries = h.1.0; root = h.1.1.0; named = h.1.1.1.0 }

pub accepted-agrees : (t : List ℕ) → table_number t ≡ 0 → Agrees t (tree_of t)
accepted-agrees t e = tree-agrees t (linked t (passed t e))

-- where every node is reached, the tree has each number below n just once
pub reached-numbers : (t : List ℕ) → Passed t → not_reached t ≡ false → Numbers (nodes t) (tree_of t)
reached-numbers t p e =
    let L = linked t p in
    record {
      some = L.some;
      few = L.few;
      below = tree-below t L;
      each = λ v h. omega (arith, tree-distinct t L v h, all-reached t e v h);
      root = tree-entry t L;
      alone = single (tree_of t) (tree-entry t L) (tree-agrees t L) L.alone L.few (tree-below t L);
    }
  where
    single : (f : Forest) → entry f ≡ 0 → Agrees t f → next_sibling t 0 ≡ none → nodes t ≤ 1024 → Below (nodes t) (preorder f) → siblings f ≡ nil
    single nil r a s few b = refl
    single (node v f nil) r a s few b = refl
    single (node v f (node w g h)) r a s few b =
        absurd (omega (arith, (all_right (λ x. x < nodes t) (preorder f) (preorder (node w g h)) b.1).0, sym a.1 ∙ ap (next_sibling t) r ∙ s))

pub accepted-numbers : (t : List ℕ) → table_number t ≡ 0 → Numbers (nodes t) (tree_of t)
unfolding table_number table_conditions
accepted-numbers t e = reached-numbers t (passed t e) (first-none (table_conditions t) (omega arith) e).1.1.1.1.1.0

-- so a number that occurs is below n, and none occurs twice
pub accepted-inside : (t : List ℕ) → table_number t ≡ 0 → (v : ℕ) → 1 ≤ count v (preorder (tree_of t)) → v < nodes t
accepted-inside t e = counted-all (λ v. v < nodes t) (preorder (tree_of t)) (accepted-numbers t e).below

pub accepted-once : (t : List ℕ) → table_number t ≡ 0 → (v : ℕ) → count v (preorder (tree_of t)) ≤ 1
accepted-once t e v = go (count v (preorder (tree_of t))) (λ h. omega (arith, (accepted-numbers t e).each v (accepted-inside t e v h)))
  where
    go : (k : ℕ) → (1 ≤ k → k ≤ 1) → k ≤ 1
    go zero h = omega arith
    go (suc k) h = h (omega arith)

pub accepted-size : (t : List ℕ) → table_number t ≡ 0 → size (tree_of t) ≡ nodes t
accepted-size t e = numbers-size (nodes t) (tree_of t) (accepted-numbers t e)

pub accepted-length : (t : List ℕ) → table_number t ≡ 0 → length t ≡ 2 * nodes t
accepted-length t e = (linked t (passed t e)).even

-- ---- a table that agrees with a tree

-- an entry that names a part of a forest of numbers below n
entry-names : (n : ℕ) (f : Forest) → Below n (preorder f) → Names n (entry f)
entry-names n nil b = inr refl
entry-names n (node v f g) b = inl b.0

-- a node of the forest is named once, by the entry that leads to it
named_in : (t : List ℕ) (w : ℕ) → w < 1024 → (f : Forest) → Agrees t f → is w (entry f) + sum_over (names t w) (preorder f) ≡ count w (preorder f)
named_in t w h nil a = omega (arith, is-other w none (λ e. omega arith))
named_in t w h (node v f g) a =
    omega (
      arith,
      named_in t w h f a.2,
      named_in t w h g a.3,
      ap (is w) a.0,
      ap (is w) a.1,
      count-append w (preorder f) (preorder g),
      sum_over-append (names t w) (preorder f) (preorder g),
    )

module _ (t : List ℕ) (f : Forest) (even : length t ≡ 2 * nodes t) (N : Numbers (nodes t) f) (a : Agrees t f) where
  row_at : (v : ℕ) → v < nodes t → (g : Forest) × (h : Forest) × (first_child t v ≡ entry g) × (next_sibling t v ≡ entry h)
      × Below (nodes t) (preorder g) × Below (nodes t) (preorder h)
  row_at v h =
      let r = locate f v (omega (arith, N.each v h)) in
      let b = part-below (nodes t) r.2 N.below in
      let p = part-agrees t r.2 a in (
        r.0,
        r.1,
        p.0,
        p.1,
        all_left (λ x. x < nodes t) (preorder r.0) (preorder r.1) b.1,
        all_right (λ x. x < nodes t) (preorder r.0) (preorder r.1) b.1,
      )

  entry_at : (i : ℕ) → i < length t → Names (nodes t) (get_or t i none)
  entry_at i h = ⊎_elim left right (even-or_odd i)
    where
      even-or_odd : (i : ℕ) → (i ≡ 2 * (i / 2)) ⊎ (i ≡ 2 * (i / 2) + 1)
      even-or_odd i = go (i % 2) refl
        where
          go : (r : ℕ) → i % 2 ≡ r → (i ≡ 2 * (i / 2)) ⊎ (i ≡ 2 * (i / 2) + 1)
          go zero e = inl (omega arith)
          go (suc r) e = inr (omega arith)

      left : i ≡ 2 * (i / 2) → Names (nodes t) (get_or t i none)
      left e =
          let r = row_at (i / 2) (omega arith) in
          subst (Names (nodes t)) (sym (ap (λ (k : ℕ). get_or t k none) e ∙ r.2)) (entry-names (nodes t) r.0 r.4)

      right : i ≡ 2 * (i / 2) + 1 → Names (nodes t) (get_or t i none)
      right e =
          let r = row_at (i / 2) (omega arith) in
          subst (Names (nodes t)) (sym (ap (λ (k : ℕ). get_or t k none) e ∙ r.3)) (entry-names (nodes t) r.1 r.5)

  once-at : (w : ℕ) → w < nodes t → is w 0 + count w t ≡ 1
  once-at w h =
      omega (
        arith,
        named-by-rows t even w,
        sum_over-up_to (names t w) (nodes t),
        sum_over-same (names t w) (nodes t) (up_to (nodes t)) (preorder f) (below-up_to (nodes t)) N.below
            (λ x k. count-up_to (nodes t) x k ∙ sym (N.each x k)),
        named_in t w (omega arith) f a,
        ap (is w) N.root,
        N.each w h,
      )

  stands-passed : Passed t
  stands-passed =
      record {
        size = length-good t (omega arith, omega arith, omega arith);
        entries = named-entries t (at_all (Names (nodes t)) t none entry_at);
        root = alone-root t (next f N.root N.alone a);
        named = once-named t N.some (λ w h. omega (arith, once-at w h));
      }
    where
      next : (f : Forest) → entry f ≡ 0 → siblings f ≡ nil → Agrees t f → next_sibling t 0 ≡ none
      next nil r s a = absurd (omega arith)
      next (node v g h) r s a = ap (next_sibling t) (sym r) ∙ a.1 ∙ ap entry s

  pub stands-tree : tree_of t ≡ f
  unfolding tree_of forest
  stands-tree =
      ap (forest_from (nodes t) t) (sym N.root)
      ∙ read_back t N.few f a N.below (nodes t) (omega (arith, numbers-size (nodes t) f N))

  pub stands-accepted : table_number t ≡ 0
  unfolding table_number table_conditions
  stands-accepted =
      let p = stands-passed in
      none_first (table_conditions t)
      (p.size, (p.entries, (p.root, (p.named, (named-all t (λ w h. omega (arith, once-at w h)), (size-reached t (linked t p) (ap size stands-tree ∙ numbers-size (nodes t) f N), tt))))))
