-- The table of a tree: its rows, that it agrees with the tree, and that no other table of its length does. Assumes nothing.
use mathlib.Core.Path.{◌≡◌, refl, sym, ap, ◌∙◌, subst}
use mathlib.Core.Logic.{⊎_elim}
use mathlib.Core.List.{List, [], ◌∷◌, ◌++◌, append_assoc}
use Prim.Native.Nat.{ℕ, zero, suc, ◌+◌, ◌*◌, ◌/◌, ◌%◌, ◌<◌}
use native.Mathlib.Nat.{not-suc-le-zero}
use native.Mathlib.Omega.{arith}
use lib.ListN.{length, get_or, length-append, get_or-append}
use lib.Seq.{ext_get_or, get_or-append-add}
use Rattle.tree.specs.Numbers.{up_to, flat_map}
use Rattle.tree.specs.Table.{none, nodes, first_child, next_sibling}
use Rattle.tree.specs.Forest.{Forest, nil, node, tree_of, preorder, entry, children, siblings, starting_at, table_of}
use Rattle.tree.specs.WellFormed.{table_number}
use Rattle.tree.proofs.Counting.{is-cases, Below, all_left, all_right}
use Rattle.tree.proofs.Reading.{Agrees}
use Rattle.tree.proofs.Parts.{Part, whole, in_children, in_siblings, locate, part-agrees, part_trans, starting_part}
use Rattle.tree.proofs.Stands.{Numbers, accepted-agrees, accepted-numbers, accepted-length, stands-tree, stands-accepted}

pub flat_map-append {ℓ κ} : {A : Type ℓ} {B : Type κ} (f : A → List B) (l m : List A) → flat_map f (l ++ m) ≡ flat_map f l ++ flat_map f m
flat_map-append f [] m = refl
flat_map-append f (x ∷ l) m = ap (λ (r : List _). f x ++ r) (flat_map-append f l m) ∙ sym (append_assoc (f x) (flat_map f l) (flat_map f m))

-- ---- rows of two entries

module _ (first second : ℕ → ℕ) where
  abbrev pub rows : ℕ → List ℕ
  rows n = flat_map (λ v. first v ∷ second v ∷ []) (up_to n)

  rows-suc : (n : ℕ) → rows (suc n) ≡ rows n ++ (first n ∷ second n ∷ [])
  rows-suc n = flat_map-append (λ v. first v ∷ second v ∷ []) (up_to n) (n ∷ [])

  pub length-rows : (n : ℕ) → length (rows n) ≡ 2 * n
  length-rows zero = refl
  length-rows (suc n) = omega (arith, length-rows n, ap length (rows-suc n), length-append (rows n) (first n ∷ second n ∷ []))

  -- entry k of row v
  row-entry : (n v k : ℕ) → v < n → k < 2 → get_or (rows n) (2 * v + k) none ≡ get_or (first v ∷ second v ∷ []) k none
  row-entry zero v k h hk = absurd (not-suc-le-zero h)
  row-entry (suc n) v k h hk =
      ap (λ (l : List ℕ). get_or l (2 * v + k) none) (rows-suc n)
      ∙ ⊎_elim (λ s.
      ap (λ (i : ℕ). get_or (rows n ++ (first n ∷ second n ∷ [])) i none) (omega (arith, length-rows n))
      ∙ get_or-append-add (rows n) (first n ∷ second n ∷ []) k none
      ∙ ap (λ (w : ℕ). get_or (first w ∷ second w ∷ []) k none) (sym s.0))
      (λ s.
      get_or-append (rows n) (first n ∷ second n ∷ []) none (2 * v + k) (inside s.0)
      ∙ row-entry n v k (less s.0) hk)
      (is-cases v n)
    where
      less : (v ≡ n → ⊥) → v < n
      less d = omega arith

      inside : (v ≡ n → ⊥) → 2 * v + k < length (rows n)
      inside d = omega (arith, length-rows n)

  pub rows-first : (n v : ℕ) → v < n → first_child (rows n) v ≡ first v
  rows-first n v h = ap (λ (i : ℕ). get_or (rows n) i none) (omega arith) ∙ row-entry n v 0 h (omega arith)

  pub rows-second : (n v : ℕ) → v < n → next_sibling (rows n) v ≡ second v
  rows-second n v h = row-entry n v 1 h (omega arith)

-- ---- two tables with equal rows

pub same_rows : (n : ℕ) (t u : List ℕ) → length t ≡ 2 * n → length u ≡ 2 * n
    → ((v : ℕ) → v < n → (first_child t v ≡ first_child u v) × (next_sibling t v ≡ next_sibling u v)) → t ≡ u
same_rows n t u lt lu same = ext_get_or none t u (lt ∙ sym lu) each
  where
    each : (i : ℕ) → i < length t → get_or t i none ≡ get_or u i none
    each i h = go (i % 2) refl
      where
        at : (k : ℕ) → i ≡ k → get_or t k none ≡ get_or u k none → get_or t i none ≡ get_or u i none
        at k e p = ap (λ (j : ℕ). get_or t j none) e ∙ p ∙ ap (λ (j : ℕ). get_or u j none) (sym e)

        go : (r : ℕ) → i % 2 ≡ r → get_or t i none ≡ get_or u i none
        go zero e = at (2 * (i / 2)) (omega arith) (same (i / 2) (omega arith)).0
        go (suc r) e = at (2 * (i / 2) + 1) (omega arith) (same (i / 2) (omega arith)).1

-- ---- the table of a tree

module _ (n : ℕ) (f : Forest) (N : Numbers n f) where
  pub length-table_of : length (table_of n f) ≡ 2 * n
  unfolding table_of
  length-table_of = length-rows (λ v. entry (children (starting_at v f))) (λ v. entry (siblings (starting_at v f))) n

  pub nodes-table_of : nodes (table_of n f) ≡ n
  nodes-table_of = omega (arith, length-table_of)

  part-row : (v : ℕ) (g h : Forest) → v < n → Part (node v g h) f
      → (first_child (table_of n f) v ≡ entry g) × (next_sibling (table_of n f) v ≡ entry h)
  unfolding table_of
  part-row v g h k p =
      let e = starting_part v g h p (omega (arith, N.each v k)) in (
        rows-first (λ v. entry (children (starting_at v f))) (λ v. entry (siblings (starting_at v f))) n v k ∙ ap (λ (x : Forest). entry (children x)) e,
        rows-second (λ v. entry (children (starting_at v f))) (λ v. entry (siblings (starting_at v f))) n v k ∙ ap (λ (x : Forest). entry (siblings x)) e,
      )

  pub table_of-agrees : Agrees (table_of n f) f
  table_of-agrees = each f whole N.below
    where
      each : (g : Forest) → Part g f → Below n (preorder g) → Agrees (table_of n f) g
      each nil p b = tt
      each (node v g h) p b =
          let r = part-row v g h b.0 p in (
            r.0,
            r.1,
            each g (part_trans (in_children whole) p) (all_left (λ x. x < n) (preorder g) (preorder h) b.1),
            each h (part_trans (in_siblings whole) p) (all_right (λ x. x < n) (preorder g) (preorder h) b.1),
          )

  -- a table that agrees with the tree is its table
  pub table_of_unique : (t : List ℕ) → length t ≡ 2 * n → Agrees t f → t ≡ table_of n f
  table_of_unique t l a = same_rows n t (table_of n f) l length-table_of each
    where
      each : (v : ℕ) → v < n → (first_child t v ≡ first_child (table_of n f) v) × (next_sibling t v ≡ next_sibling (table_of n f) v)
      each v h =
          let r = locate f v (omega (arith, N.each v h)) in
          let p = part-agrees t r.2 a in
          let q = part-row v r.0 r.1 h r.2 in
          (p.0 ∙ sym q.0, p.1 ∙ sym q.1)

  pub table_of-accepted : table_number (table_of n f) ≡ 0
  table_of-accepted =
      stands-accepted (table_of n f) f (omega (arith, length-table_of)) (subst (λ (m : ℕ). Numbers m f) (sym nodes-table_of) N) table_of-agrees

  pub table_of-tree : tree_of (table_of n f) ≡ f
  table_of-tree =
      stands-tree (table_of n f) f (omega (arith, length-table_of)) (subst (λ (m : ℕ). Numbers m f) (sym nodes-table_of) N) table_of-agrees

-- an accepted table is the table of its tree
pub accepted-table : (t : List ℕ) → table_number t ≡ 0 → t ≡ table_of (nodes t) (tree_of t)
accepted-table t e = table_of_unique (nodes t) (tree_of t) (accepted-numbers t e) t (accepted-length t e) (accepted-agrees t e)
