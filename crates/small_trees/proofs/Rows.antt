-- The table of a sequence's tree, row by row from the last node to the first. Assumes nothing.
use mathlib.Core.Path.{◌≡◌, refl, sym, ap, ap₂, ◌∙◌, subst, subst⁻¹}
use mathlib.Core.Logic.{⊎_elim}
use mathlib.Core.Bool.{true}
use mathlib.Core.List.{List, [], ◌∷◌, ◌++◌, append_assoc}
use Prim.Native.Nat.{ℕ, zero, suc, ◌+◌, ◌*◌, ◌≤◌, ◌<◌}
use native.Mathlib.Nat.{not-suc-le-zero, le_of_suc-le-suc, eq-or-lt_of_le}
use native.Mathlib.Numerals.{add-one}
use native.Mathlib.Omega.{arith}
use lib.ListN.{length, get_or, set, drop, length-append, length-set, replicate, get_or-replicate, drop_of_length-le}
use lib.Seq.{sets, length-sets, get_or_at, drop-cons, drop-length, get_or-set_same, get_or-set_other, drop-set-lt}
use Rattle.tree.specs.Table.{none}
use Rattle.tree.specs.Forest.{size, entry, table_of}
use Rattle.tree.specs.Operations.{number_from}
use Rattle.tree.proofs.Reading.{Agrees}
use Rattle.tree.proofs.Stands.{Numbers}
use Rattle.tree.proofs.TableOf.{table_of_unique}
use Rattle.tree.proofs.Renumbered.{tree-numbers}
use Rattle.small_trees.specs.Sequence.{goes_on, is_sequence, forest_on, tree_of_levels}
use Rattle.small_trees.specs.SmallTrees.{most_nodes}
use Rattle.small_trees.specs.Steps.{Linkable}
use Rattle.small_trees.proofs.Trees.{smaller_ends, equal_stands, greater-passed, goes_on_lem, sequence-first, tree-root, tree_of-sequence, sequence-of_tree, length-levels}
use Rattle.small_trees.proofs.Listed.{three}

-- ---- the rows of a sequence

-- the entry of the first node on level l that comes before any smaller level
abbrev pub next_on : ℕ → ℕ → List ℕ → ℕ
next_on l k s = entry (forest_on l k s)

abbrev pub rows_of : ℕ → List ℕ → List ℕ
rows_of k [] = []
rows_of k (l ∷ s) = next_on (suc l) (k + 1) s ∷ next_on l (k + 1) s ∷ rows_of (k + 1) s

length-rows : (k : ℕ) (s : List ℕ) → length (rows_of k s) ≡ 2 * length s
length-rows k [] = refl
length-rows k (l ∷ s) = omega (arith, length-rows (k + 1) s)

-- a table in which the rows stand behind those of the nodes before k
rows_agree : (s : List ℕ) (l k : ℕ) (t before : List ℕ) → t ≡ before ++ rows_of k s → length before ≡ 2 * k → Agrees t (forest_on l k s)
rows_agree [] l k t before is e = tt
rows_agree (m ∷ s) l k t before is e =
    ⊎_elim (λ same.
    subst⁻¹ (Agrees t) (equal_stands l k m s same) (
      first same,
      second same,
      rows_agree s (suc l) (k + 1) t (before ++ x ∷ y ∷ []) behind size,
      rows_agree s l (k + 1) t (before ++ x ∷ y ∷ []) behind size,
    ))
    (λ d.
    ⊎_elim (λ h. subst⁻¹ (Agrees t) (smaller_ends l k m s h) tt)
    (λ h. subst⁻¹ (Agrees t) (greater-passed l k m s h) (rows_agree s l (k + 1) t (before ++ x ∷ y ∷ []) behind size)) d)
    (three m l)
  where
    x : ℕ
    x = next_on (suc m) (k + 1) s

    y : ℕ
    y = next_on m (k + 1) s

    behind : t ≡ before ++ x ∷ y ∷ [] ++ rows_of (k + 1) s
    behind = is ∙ sym (append_assoc before (x ∷ y ∷ []) (rows_of (k + 1) s))

    size : length (before ++ x ∷ y ∷ []) ≡ 2 * (k + 1)
    size = omega (arith, e, length-append before (x ∷ y ∷ []))

    first : m ≡ l → get_or t (2 * k) none ≡ next_on (suc l) (k + 1) s
    first same =
        ap (λ (u : List ℕ). get_or u (2 * k) none) is
        ∙ get_or_at before x (y ∷ rows_of (k + 1) s) none (2 * k) e
        ∙ ap (λ (i : ℕ). next_on (suc i) (k + 1) s) same

    second : m ≡ l → get_or t (2 * k + 1) none ≡ next_on l (k + 1) s
    second same =
        ap (λ (u : List ℕ). get_or u (2 * k + 1) none) (is ∙ sym (append_assoc before (x ∷ []) (y ∷ rows_of (k + 1) s)))
        ∙ get_or_at (before ++ x ∷ []) y (rows_of (k + 1) s) none (2 * k + 1) (omega (arith, e, length-append before (x ∷ [])))
        ∙ ap (λ (i : ℕ). next_on i (k + 1) s) same

-- ---- the tree of a sequence is numbered as by Renumber

module _ (s : List ℕ) (g : is_sequence s ≡ true) where
  pub numbered : number_from 0 (tree_of_levels s) ≡ tree_of_levels s
  numbered = sym (tree_of-sequence (tree_of_levels s)) ∙ ap tree_of_levels (sequence-of_tree s g)

  pub size-tree : size (tree_of_levels s) ≡ length s
  size-tree = sym (length-levels 0 (tree_of_levels s)) ∙ ap length (sequence-of_tree s g)

  pub tree_of-numbers : length s ≤ 1024 → Numbers (length s) (tree_of_levels s)
  tree_of-numbers few =
      let r = tree-root s g in
      subst (Numbers (length s)) (ap (number_from 0) (sym r.1) ∙ numbered)
      (tree-numbers (length s) 0 r.0 (ap size (sym r.1) ∙ size-tree) few)

  pub rows-table : length s ≤ 1024 → rows_of 0 s ≡ table_of (length s) (tree_of_levels s)
  unfolding tree_of_levels
  rows-table few =
      table_of_unique (length s) (tree_of_levels s) (tree_of-numbers few) (rows_of 0 s) (length-rows 0 s)
      (rows_agree s 0 0 (rows_of 0 s) [] refl refl)

-- ---- a node's level, and the levels behind it

goes_at : (before : ℕ) (s : List ℕ) → goes_on before s ≡ true → (v : ℕ) → v < length s
    → (goes_on (get_or s v 0) (drop (suc v) s) ≡ true) × (get_or s v 0 ≤ suc (before + v))
goes_at before [] g v h = absurd (not-suc-le-zero h)
goes_at before (l ∷ ls) g zero h =
    let on = goes_on_lem before l ls g in
    (on.2, omega (arith, on.1))
goes_at before (l ∷ ls) g (suc v) h =
    let on = goes_on_lem before l ls g in
    let at = goes_at l ls on.2 v (le_of_suc-le-suc h) in
    (at.0, omega (arith, on.1, at.1))

-- node v's level is at most v
sequence_at_lem : (s : List ℕ) → is_sequence s ≡ true → (v : ℕ) → v < length s → (goes_on (get_or s v 0) (drop (suc v) s) ≡ true) × (get_or s v 0 ≤ v)
unfolding is_sequence
sequence_at_lem [] g v h = absurd (not-suc-le-zero h)
sequence_at_lem (l ∷ ls) g zero h =
    let on = sequence-first l ls g in
    (on.1, omega (arith, on.0))
sequence_at_lem (l ∷ ls) g (suc v) h =
    let on = sequence-first l ls g in
    let at = goes_at l ls on.1 v (le_of_suc-le-suc h) in
    (at.0, omega (arith, on.0, at.1))

-- no node comes next on a level that is not reached at once
too_deep : (before j k : ℕ) (s : List ℕ) → goes_on before s ≡ true → suc before < j → next_on j k s ≡ none
too_deep before j k [] g h = refl
too_deep before j k (l ∷ ls) g h =
    let on = goes_on_lem before l ls g in
    ap entry (smaller_ends j k l ls (omega (arith, on.1)))

-- ---- the loop from the last node to the first

-- the rows from a node on are stored, and for each level the node that comes next on it is known
pub record Linking (levels table next : List ℕ) (node : ℕ) : Type 0 where
  pub most : node ≤ length levels
  pub room : length table ≡ 2 * length levels
  pub nine : length next ≡ 9
  pub ahead : (j : ℕ) → j < 9 → get_or next j 0 ≡ next_on j node (drop node levels)
  pub rows : drop (2 * node) table ≡ rows_of node (drop node levels)

module _ (levels table : List ℕ) (L : Linkable levels table) where
  pub link_start : Linking levels table (replicate 9 none) (length levels)
  link_start = record {
    most = omega arith;
    room = L.room;
    nine = refl;
    ahead = λ j h. get_or-replicate 9 j none 0 h ∙ ap (next_on j (length levels)) (sym end);
    rows = drop_of_length-le table {i = 2 * length levels} (omega (arith, L.room)) ∙ ap (rows_of (length levels)) (sym end);
  }
    where
      end : drop (length levels) levels ≡ []
      end = drop-length levels

  pub link-level : (v : ℕ) → v < length levels → get_or levels v 0 < most_nodes
  link-level v h = omega (arith, L.few, (sequence_at_lem levels L.sequence v h).1)

  pub link-end : (stored next : List ℕ) (node : ℕ) → Linking levels stored next node → node ≡ 0 → stored ≡ table_of (length levels) (tree_of_levels levels)
  link-end stored next zero K none = K.rows ∙ rows-table levels L.sequence (omega (arith, L.few))
  link-end stored next (suc node) K none = absurd (omega arith)

  module _ (stored next : List ℕ) (node v : ℕ) (K : Linking levels stored next node) (e : node ≡ v + 1) where
    level : ℕ
    level = get_or levels v 0

    rest : List ℕ
    rest = drop (suc v) levels

    inside : v < length levels
    inside = omega (arith, K.most)

    here : drop v levels ≡ level ∷ rest
    unfolding level rest
    here = drop-cons levels v 0 inside

    behind : drop node levels ≡ rest
    unfolding rest
    behind = ap (λ (i : ℕ). drop i levels) (e ∙ add-one v)

    known : (j : ℕ) → j < 9 → get_or next j 0 ≡ next_on j (v + 1) rest
    known j h = K.ahead j h ∙ ap₂ (next_on j) e behind

    ahead-next : (j : ℕ) → j < 9 → get_or (sets next level (v ∷ none ∷ [])) j 0 ≡ next_on j v (level ∷ rest)
    unfolding level rest
    ahead-next j h =
        ⊎_elim same (λ d. ⊎_elim shallower (λ l. ⊎_elim (λ i. one (sym i)) deeper (eq-or-lt_of_le l)) d) (three j level)
      where
        same : j ≡ level → get_or (sets next level (v ∷ none ∷ [])) j 0 ≡ next_on j v (level ∷ rest)
        same i =
            get_or-set_other (set next level v) (suc level) j none 0 (λ x. omega arith)
            ∙ ap (λ (k : ℕ). get_or (set next level v) k 0) i
            ∙ get_or-set_same next level v 0 (omega (arith, K.nine))
            ∙ ap entry (sym (equal_stands j v level rest (sym i)))

        shallower : j < level → get_or (sets next level (v ∷ none ∷ [])) j 0 ≡ next_on j v (level ∷ rest)
        shallower l =
            get_or-set_other (set next level v) (suc level) j none 0 (λ x. omega arith)
            ∙ get_or-set_other next level j v 0 (λ x. omega arith)
            ∙ known j h
            ∙ ap entry (sym (greater-passed j v level rest l))

        one : j ≡ suc level → get_or (sets next level (v ∷ none ∷ [])) j 0 ≡ next_on j v (level ∷ rest)
        one i =
            ap (λ (k : ℕ). get_or (sets next level (v ∷ none ∷ [])) k 0) i
            ∙ get_or-set_same (set next level v) (suc level) none 0 (omega (arith, K.nine, length-set next level v))
            ∙ ap entry (sym (smaller_ends j v level rest (omega arith)))

        deeper : suc level < j → get_or (sets next level (v ∷ none ∷ [])) j 0 ≡ next_on j v (level ∷ rest)
        deeper l =
            get_or-set_other (set next level v) (suc level) j none 0 (λ x. omega arith)
            ∙ get_or-set_other next level j v 0 (λ x. omega arith)
            ∙ known j h
            ∙ too_deep level j (v + 1) rest (sequence_at_lem levels L.sequence v inside).0 l
            ∙ ap entry (sym (smaller_ends j v level rest (omega arith)))

    -- two stores in front of what is stored
    two_stores : (x y : ℕ) → drop (2 * v) (sets stored (2 * v) (x ∷ y ∷ [])) ≡ x ∷ y ∷ drop (2 * node) stored
    two_stores x y =
        let t : List ℕ = set (set stored (2 * v) x) (suc (2 * v)) y in
        let size : length t ≡ 2 * length levels = length-set (set stored (2 * v) x) (suc (2 * v)) y ∙ length-set stored (2 * v) x ∙ K.room in
        drop-cons t (2 * v) 0 (omega (arith, size, inside))
        ∙ ap₂ ◌∷◌
        (get_or-set_other (set stored (2 * v) x) (suc (2 * v)) (2 * v) y 0 (λ i. omega arith)
        ∙ get_or-set_same stored (2 * v) x 0 (omega (arith, K.room, inside)))
        (drop-cons t (suc (2 * v)) 0 (omega (arith, size, inside))
        ∙ ap₂ ◌∷◌
        (get_or-set_same (set stored (2 * v) x) (suc (2 * v)) y 0 (omega (arith, length-set stored (2 * v) x, K.room, inside)))
        (drop-set-lt (suc (suc (2 * v))) (set stored (2 * v) x) (suc (2 * v)) y (omega arith)
        ∙ drop-set-lt (suc (suc (2 * v))) stored (2 * v) x (omega arith)
        ∙ ap (λ (i : ℕ). drop i stored) twice))
      where
        twice : suc (suc (2 * v)) ≡ 2 * node
        twice = omega arith

    row : List ℕ
    row = get_or next (level + 1) 0 ∷ get_or next level 0 ∷ []

    one_further : Linking levels (sets stored (2 * v) row) (sets next level (v ∷ none ∷ [])) v
    unfolding level rest row
    one_further = record {
      most = omega (arith, inside);
      room = length-sets stored (2 * v) row ∙ K.room;
      nine = length-sets next level (v ∷ none ∷ []) ∙ K.nine;
      ahead = λ j h. ahead-next j h ∙ ap (next_on j v) (sym here);
      rows =
          two_stores (get_or next (level + 1) 0) (get_or next level 0)
          ∙ ap₂ (λ (x y : ℕ). x ∷ y ∷ drop (2 * node) stored)
          (known (level + 1) (omega (arith, link-level v inside)) ∙ ap (λ (i : ℕ). next_on i (v + 1) rest) (add-one level))
          (known level (omega (arith, link-level v inside)))
          ∙ ap (λ (l : List ℕ). next_on (suc level) (v + 1) rest ∷ next_on level (v + 1) rest ∷ l) (K.rows ∙ ap₂ rows_of e behind)
          ∙ ap (rows_of v) (sym here);
    }

    pub link-next : (stored' next' : List ℕ)
        → stored' ≡ sets stored (2 * v) (get_or next (get_or levels v 0 + 1) 0 ∷ get_or next (get_or levels v 0) 0 ∷ [])
        → next' ≡ sets next (get_or levels v 0) (v ∷ none ∷ [])
        → Linking levels stored' next' v
    unfolding level row
    link-next stored' next' a b =
        subst⁻¹ (λ (t : List ℕ). Linking levels t next' v) a (subst⁻¹ (λ (n : List ℕ). Linking levels (sets stored (2 * v) row) n v) b one_further)
