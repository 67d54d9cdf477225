-- A place among the ways to go on: the next level, counted off level by level, and the levels in a row. Assumes nothing.
use mathlib.Core.Path.{◌≡◌, refl, sym, ap, ap₂, ◌∙◌, subst}
use mathlib.Core.Bool.{Bool, false, not, ◌||◌}
use mathlib.Core.List.{List, [], ◌∷◌, ◌++◌, map, append-nil}
use Prim.Native.Nat.{ℕ, zero, suc, ◌+◌, ◌-◌, ◌*◌, ◌/◌, ◌%◌, ◌≤◌, ◌<◌}
use native.Mathlib.Nat.{not-suc-le-zero, le_of_suc-le-suc}
use native.Mathlib.Omega.{arith}
use lib.Dec.{eqb, ltb}
use lib.ListN.{length, get_or, set, drop, length-append, length-map, length-set}
use lib.Seq.{drop-cons, drop-append-add, drop-append-le, get_or-drop, sets, drop-length}
use borrow.Author.Tests.{eqb-true, le-ltb, not-false}
use Rattle.refusal.specs.After.{overwrite}
use Rattle.refusal.proofs.After.{sets_start}
use Rattle.tree.specs.Numbers.{up_to, any}
use Rattle.tree.proofs.Tests.{any_false, up_to-all}
use Rattle.small_trees.specs.SmallTrees.{further, sequences, tree_count, sequence_at}
use Rattle.small_trees.specs.Steps.{Ways, Choice, Chosen, InList}
use Rattle.small_trees.specs.declared.levels.Branch.{Branch}
use Rattle.small_trees.specs.declared.levels.TheConstants.{WAYS}
use Rattle.small_trees.proofs.Listed.{branches}
use Rattle.small_trees.proofs.AllComplete.{at_length}

-- ---- the table of counts

-- entry 8m + l is the count of the ways to go on for m levels behind level l, or m + l is above 7
abbrev pub right : List ℕ → ℕ → Bool
right table k = ltb 7 (k / 8 + k % 8) || eqb (get_or table k 0) (length (further (k / 8) (k % 8)))

ways-at : (table : List ℕ) → any (λ k. not (right table k)) (up_to 64) ≡ false
    → (m l : ℕ) → m + l < 8 → get_or table (8 * m + l) 0 ≡ length (further m l)
ways-at table all m l h =
    let k : ℕ = 8 * m + l in
    let row : k / 8 ≡ m = omega arith in
    let column : k % 8 ≡ l = omega arith in
    eqb-true (get_or table k 0) (length (further m l))
    (ap (λ (b : Bool). b || eqb (get_or table k 0) (length (further m l))) (sym (le-ltb 7 (m + l) (le_of_suc-le-suc h)))
    ∙ ap₂ (λ (i j : ℕ). ltb 7 (i + j) || eqb (get_or table k 0) (length (further i j))) (sym row) (sym column)
    ∙ not-false (right table k) (up_to-all (λ i. not (right table i) ≡ false) 64 (any_false (λ i. not (right table i)) (up_to 64) all) k (omega arith)))

pub right-ways : (table : List ℕ) → length table ≡ 64 → any (λ k. not (right table k)) (up_to 64) ≡ false → Ways table
right-ways table size all = record { size = size; count = ways-at table all }

-- the code's table
pub counts-right : Ways WAYS
unfolding further
counts-right = right-ways WAYS refl refl

-- ---- the next level

pub get_or_within : (f : List ℕ → List ℕ) (l : List (List ℕ)) (i : ℕ) → i < length l → get_or (map f l) i [] ≡ f (get_or l i [])
get_or_within f [] i h = absurd (not-suc-le-zero h)
get_or_within f (x ∷ l) zero h = refl
get_or_within f (x ∷ l) (suc i) h = get_or_within f l i (le_of_suc-le-suc h)

pub drop-map : (f : List ℕ → List ℕ) (i : ℕ) (l : List (List ℕ)) → drop i (map f l) ≡ map f (drop i l)
drop-map f zero l = refl
drop-map f (suc i) [] = refl
drop-map f (suc i) (x ∷ l) = drop-map f i l

-- the ways with a smaller next level are counted off: from the place on, the list is what is left of those with this level and greater ones
pub record Counted (more behind place level rest : ℕ) : Type 0 where
  pub left : ℕ
  pub some : 1 ≤ level
  pub levels : level + left ≡ suc (suc behind)
  pub within : rest < length (branches more level left)
  pub ahead : drop place (further (suc more) behind) ≡ drop rest (branches more level left)

module _ (more behind place : ℕ) where
  pub count-start : Choice more behind place → Counted more behind place 1 place
  unfolding further
  count-start c = record { left = suc behind; some = omega arith; levels = omega arith; within = c.within; ahead = refl }

  module _ (level rest : ℕ) (C : Counted more behind place level rest) where
    head : List (List ℕ)
    head = map (λ s. level ∷ s) (further more level)

    pub level-deep : level ≤ suc behind
    level-deep = go C.left C.levels C.within
      where
        go : (left : ℕ) → level + left ≡ suc (suc behind) → rest < length (branches more level left) → level ≤ suc behind
        go zero e h = absurd (not-suc-le-zero h)
        go (suc left) e h = omega arith

    pub count_next : length (further more level) ≤ rest → Counted more behind place (level + 1) (rest - length (further more level))
    unfolding head
    count_next h = go C.left C.levels C.within C.ahead
      where
        go : (left : ℕ) → level + left ≡ suc (suc behind) → rest < length (branches more level left)
            → drop place (further (suc more) behind) ≡ drop rest (branches more level left)
            → Counted more behind place (level + 1) (rest - length (further more level))
        go zero e w g = absurd (not-suc-le-zero w)
        go (suc left) e w g =
            let size = length-map (further more level) (λ s. level ∷ s) in
            let split : rest ≡ length head + (rest - length (further more level)) = omega (arith, size) in
            record {
              left = left;
              some = omega arith;
              levels = omega arith;
              within = omega (arith, size, length-append head (branches more (level + 1) left));
              ahead =
                  g
                  ∙ ap (λ (i : ℕ). drop i (head ++ branches more (level + 1) left)) split
                  ∙ drop-append-add head (branches more (level + 1) left) (rest - length (further more level));
            }

    pub chosen : rest < length (further more level) → Chosen more behind place (record { level = level; place = rest })
    unfolding head
    chosen h = go C.left C.within C.ahead
      where
        go : (left : ℕ) → rest < length (branches more level left) → drop place (further (suc more) behind) ≡ drop rest (branches more level left)
            → Chosen more behind place (record { level = level; place = rest })
        go zero w g = absurd (not-suc-le-zero w)
        go (suc left) w g =
            let others = branches more (level + 1) left in
            record {
              after = others;
              ahead =
                  g
                  ∙ drop-append-le rest head others (omega (arith, length-map (further more level) (λ s. level ∷ s)))
                  ∙ ap (λ (l : List (List ℕ)). l ++ others) (drop-map (λ s. level ∷ s) rest (further more level));
              within = h;
              some = C.some;
              deep = level-deep;
            }

    -- the greatest level takes what is left
    pub last_within : behind < level → rest < length (further more level)
    unfolding head
    last_within h = go C.left C.levels C.within
      where
        go : (left : ℕ) → level + left ≡ suc (suc behind) → rest < length (branches more level left) → rest < length (further more level)
        go zero e w = absurd (not-suc-le-zero w)
        go (suc zero) e w = omega (arith, ap length (append-nil head), length-map (further more level) (λ s. level ∷ s))
        go (suc (suc left)) e w = absurd (omega arith)

    pub chosen-last : behind < level → Chosen more behind place (record { level = behind + 1; place = rest })
    chosen-last h =
        let deep : level ≡ behind + 1 = omega (arith, level-deep) in
        subst (λ (l : ℕ). Chosen more behind place (record { level = l; place = rest })) deep (chosen (last_within h))

-- the way at the place itself
chosen-here : (more behind place : ℕ) (b : Branch) → Chosen more behind place b
    → get_or (further (suc more) behind) place [] ≡ b.level ∷ get_or (further more b.level) b.place []
chosen-here more behind place b C =
    let here : place ≡ place + 0 = omega arith in
    ap (λ (i : ℕ). get_or (further (suc more) behind) i []) here
    ∙ sym (get_or-drop place (further (suc more) behind) 0 [])
    ∙ ap (λ (l : List (List ℕ)). get_or l 0 []) C.ahead
    ∙ ap (λ (l : List (List ℕ)). get_or (map (λ s. b.level ∷ s) l ++ C.after) 0 []) (drop-cons (further more b.level) b.place [] C.within)

-- ---- the levels in a row

-- there are as many sequences as ways to go on behind level 0
pub count-ways : (n : ℕ) → 1 ≤ n → tree_count n ≡ length (further (n - 1) 0)
unfolding tree_count sequences
count-ways zero h = absurd (not-suc-le-zero h)
count-ways (suc m) h =
    let last : m ≡ suc m - 1 = omega arith in
    length-map (further m 0) (λ s. 0 ∷ s) ∙ ap (λ (k : ℕ). length (further k 0)) last

sequence-place : (n place : ℕ) → place < tree_count n → (1 ≤ n) × (sequence_at n place ≡ 0 ∷ get_or (further (n - 1) 0) place [])
unfolding tree_count sequence_at sequences
sequence-place zero place h = absurd (not-suc-le-zero h)
sequence-place (suc m) place h =
    let last : m ≡ suc m - 1 = omega arith in (
      omega arith,
      get_or_within (λ s. 0 ∷ s) (further m 0) place (omega (arith, length-map (further m 0) (λ s. 0 ∷ s)))
          ∙ ap (λ (k : ℕ). 0 ∷ get_or (further k 0) place []) last,
    )

-- the levels before a node are stored, and the rest is the way to go on at a place
pub record Filling (place n : ℕ) (levels : List ℕ) (behind rest node : ℕ) : Type 0 where
  pub same : length levels ≡ n
  pub some : 1 ≤ node
  pub most : node ≤ n
  pub shallow : behind < node
  pub within : rest < length (further (n - node) behind)
  pub whole : sets levels node (get_or (further (n - node) behind) rest []) ≡ sequence_at n place

module _ (place : ℕ) (levels : List ℕ) (L : InList place levels) where
  abbrev n : ℕ
  n = length levels

  pub some_level : 1 ≤ n
  some_level = (sequence-place n place L.within).0

  pub fill_start : Filling place n (set levels 0 0) 0 place 1
  unfolding overwrite
  fill_start =
      let here = (sequence-place n place L.within).1 in
      let size : length (sequence_at n place) ≡ n = at_length n place L.within in
      record {
        same = length-set levels 0 0;
        some = omega arith;
        most = some_level;
        shallow = omega arith;
        within = omega (arith, L.within, count-ways n some_level);
        whole =
            ap (sets levels 0) (sym here)
            ∙ sets_start (sequence_at n place) levels (omega (arith, size))
            ∙ ap (λ (k : ℕ). sequence_at n place ++ drop k levels) size
            ∙ ap (λ (l : List ℕ). sequence_at n place ++ l) (drop-length levels)
            ∙ append-nil (sequence_at n place);
      }

module _ (place n : ℕ) (levels : List ℕ) (behind rest node : ℕ) (F : Filling place n levels behind rest node) where
  pub fill_end : n ≤ node → levels ≡ sequence_at n place
  unfolding further
  fill_end h =
      let none_left : n - node ≡ 0 = omega arith in
      ap (sets levels node) (sym (no_more (n - node) rest none_left F.within)) ∙ F.whole
    where
      no_more : (k rest : ℕ) → k ≡ 0 → rest < length (further k behind) → get_or (further k behind) rest [] ≡ []
      no_more zero zero e w = refl
      no_more zero (suc r) e w = absurd (omega arith)
      no_more (suc k) r e w = absurd (omega arith)
