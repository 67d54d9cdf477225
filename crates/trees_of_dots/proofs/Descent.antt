-- The levels at a place, one after the other, as long as the dots on each level suffice. From the place on, the list begins with the
-- sequences that go on from the levels stored so far; where one level is too many, all these are passed. Assumes nothing.
use mathlib.Core.Path.{◌≡◌, refl, sym, ap, ap₂, ◌∙◌, subst⁻¹}
use mathlib.Core.Logic.{⊎_elim}
use mathlib.Core.List.{List, [], ◌∷◌, ◌++◌, map, map-append, map-map, append-nil, append_assoc}
use Prim.Native.Nat.{ℕ, zero, suc, ◌+◌, ◌-◌, ◌≤◌, ◌<◌}
use native.Mathlib.Nat.{not-suc-le-zero}
use native.Mathlib.Numerals.{add-one}
use native.Mathlib.Omega.{arith}
use lib.ListN.{length, get_or, set, take, drop, length-append, length-drop, length-map, length-set, get_or-append}
use lib.Seq.{get_or-drop, get_or-set_same, get_or-set_other, take-length, take-suc-set}
use Rattle.tree.specs.Numbers.{is, count}
use Rattle.tree.proofs.Counting.{count-append, is_same, is-cases}
use Rattle.small_trees.specs.SmallTrees.{further, sequences, tree_count, sequence_at, most_nodes}
use Rattle.small_trees.specs.Steps.{Chosen}
use Rattle.small_trees.specs.declared.levels.Branch.{Branch}
use Rattle.small_trees.proofs.Ways.{drop-map, get_or_within}
use Rattle.trees_of_dots.specs.Steps.{Descends, Passed}

-- the levels before a node are stored, and `left` is what they leave of the profile
pub record Descending (n place : ℕ) (profile left levels : List ℕ) (behind rest node : ℕ) : Type 0 where
  pub same : length levels ≡ n
  pub size : length left ≡ 8
  pub some : 1 ≤ node
  pub most : node ≤ n
  pub shallow : behind < node
  pub within : rest < length (further (n - node) behind)
  pub after : List (List ℕ)
  pub ahead : drop place (sequences n) ≡ map (λ s. take node levels ++ s) (drop rest (further (n - node) behind)) ++ after
  pub used : (l : ℕ) → 1 ≤ l → get_or left l 0 + count l (take node levels) ≡ get_or profile l 0

-- ---- the root

pub some_level : (place : ℕ) (profile levels : List ℕ) → Descends place profile levels → 1 ≤ length levels
unfolding tree_count sequences
some_level place profile levels P = go (length levels) P.within
  where
    go : (n : ℕ) → place < tree_count n → 1 ≤ n
    go zero h = absurd (not-suc-le-zero h)
    go (suc n) h = omega arith

pub descend_start : (place : ℕ) (profile levels : List ℕ) → Descends place profile levels
    → Descending (length levels) place profile profile (set levels 0 0) 0 place 1
unfolding tree_count sequences
descend_start place profile levels P = go (length levels) refl P.within
  where
    go : (n : ℕ) → length levels ≡ n → place < tree_count n → Descending n place profile profile (set levels 0 0) 0 place 1
    go zero e h = absurd (not-suc-le-zero h)
    go (suc m) e h =
        let first : take 1 (set levels 0 0) ≡ 0 ∷ [] = take-suc-set levels 0 0 (omega arith) in
        let last : suc m - 1 ≡ m = omega arith in
        record {
          same = length-set levels 0 0 ∙ e;
          size = P.size;
          some = omega arith;
          most = omega arith;
          shallow = omega arith;
          within = subst⁻¹ (λ (k : ℕ). place < length (further k 0)) last (omega (arith, length-map (further m 0) (λ s. 0 ∷ s)));
          after = [];
          ahead =
              drop-map (λ s. 0 ∷ s) place (further m 0)
              ∙ ap₂ (λ (k : ℕ) (p : List ℕ). map (λ s. p ++ s) (drop place (further k 0))) (sym last) (sym first)
              ∙ sym (append-nil (map (λ s. take 1 (set levels 0 0) ++ s) (drop place (further (suc m - 1) 0))));
          used = λ l k. ap (λ (p : List ℕ). get_or profile l 0 + count l p) first ∙ none l k;
        }
      where
        none : (l : ℕ) → 1 ≤ l → get_or profile l 0 + (is l 0 + 0) ≡ get_or profile l 0
        none l k = ⊎_elim (λ s. absurd (omega (arith, s.0))) (λ s. omega (arith, s.1)) (is-cases l 0)

-- ---- the next level

module _ (n place : ℕ) (profile left levels : List ℕ) (behind rest node : ℕ) (G : Descending n place profile left levels behind rest node) where
  module _ (less : node < n) where
    one_more : n - node ≡ suc (n - 1 - node)
    one_more = omega arith

    module _ (b : Branch) (C : Chosen (n - 1 - node) behind rest b) where
      -- the stored levels, and this one
      abbrev longer : List ℕ
      longer = take node levels ++ b.level ∷ []

      -- what is left of the ways to go on from it
      abbrev ways : List (List ℕ)
      ways = drop b.place (further (n - 1 - node) b.level)

      abbrev others : List (List ℕ)
      others = map (λ s. take node levels ++ s) C.after ++ G.after

      chosen-ahead : drop place (sequences n) ≡ map (λ s. longer ++ s) ways ++ others
      chosen-ahead =
          G.ahead
          ∙ ap (λ (k : ℕ). map (λ s. take node levels ++ s) (drop rest (further k behind)) ++ G.after) one_more
          ∙ ap (λ (l : List (List ℕ)). map (λ s. take node levels ++ s) l ++ G.after) C.ahead
          ∙ ap (λ (l : List (List ℕ)). l ++ G.after)
          (map-append (λ s. take node levels ++ s) (map (λ s. b.level ∷ s) ways) C.after
          ∙ ap (λ (l : List (List ℕ)). l ++ map (λ s. take node levels ++ s) C.after)
          (map-map (λ s. take node levels ++ s) (λ s. b.level ∷ s) ways
          ∙ ap (λ (f : List ℕ → List ℕ). map f ways) (λ i s. sym (append_assoc (take node levels) (b.level ∷ []) s) i)))
          ∙ append_assoc (map (λ s. longer ++ s) ways) (map (λ s. take node levels ++ s) C.after) G.after

      pub level-small : n ≤ most_nodes → b.level < 8
      level-small few = omega (arith, C.deep, G.shallow)

      -- the dots suffice
      pub descend_next : n ≤ most_nodes → 1 ≤ get_or left b.level 0
          → Descending n place profile (set left b.level (get_or left b.level 0 - 1)) (set levels node b.level) b.level b.place (node + 1)
      descend_next few enough =
          let next : take (node + 1) (set levels node b.level) ≡ longer =
          ap (λ (k : ℕ). take k (set levels node b.level)) (add-one node) ∙ take-suc-set levels node b.level (omega (arith, G.same)) in
          let fewer : n - (node + 1) ≡ n - 1 - node = omega arith in
          record {
            same = length-set levels node b.level ∙ G.same;
            size = length-set left b.level (get_or left b.level 0 - 1) ∙ G.size;
            some = omega arith;
            most = omega arith;
            shallow = omega (arith, C.deep, G.shallow);
            within = subst⁻¹ (λ (k : ℕ). b.place < length (further k b.level)) fewer C.within;
            after = others;
            ahead =
                chosen-ahead
                ∙ ap₂ (λ (k : ℕ) (p : List ℕ). map (λ s. p ++ s) (drop b.place (further k b.level)) ++ others) (sym fewer) (sym next);
            used = λ l k. ap (λ (p : List ℕ). get_or (set left b.level (get_or left b.level 0 - 1)) l 0 + count l p) next ∙ taken l k;
          }
        where
          taken : (l : ℕ) → 1 ≤ l → get_or (set left b.level (get_or left b.level 0 - 1)) l 0 + count l longer ≡ get_or profile l 0
          taken l k =
              ⊎_elim
              (λ s.
              omega (
                arith,
                G.used l k,
                count-append l (take node levels) (b.level ∷ []),
                s.1,
                ap (λ (i : ℕ). get_or (set left b.level (get_or left b.level 0 - 1)) i 0) s.0,
                get_or-set_same left b.level (get_or left b.level 0 - 1) 0 (omega (arith, G.size, level-small few)),
                ap (λ (i : ℕ). get_or left i 0) s.0,
              ))
              (λ s.
              omega (
                arith,
                G.used l k,
                count-append l (take node levels) (b.level ∷ []),
                s.1,
                get_or-set_other left b.level l (get_or left b.level 0 - 1) 0 s.0,
              ))
              (is-cases l b.level)

      -- they do not: all that goes on from this level is passed
      pub descend_passed : n ≤ most_nodes → get_or left b.level 0 ≡ 0 → Passed n place profile (length (further (n - 1 - node) b.level) - b.place)
      unfolding tree_count sequence_at
      descend_passed few none =
          record {
            onward = omega (arith, C.within);
            inside =
                omega (
                  arith,
                  C.within,
                  many,
                  length-drop place (sequences n),
                  ap length chosen-ahead,
                  length-append (map (λ s. longer ++ s) ways) others,
                  length-map ways (λ s. longer ++ s),
                );
            skipped = λ q h k. (
              b.level,
              level-small few,
              subst⁻¹ (λ (s : List ℕ). get_or profile b.level 0 < count b.level s) (at q h k) (exceeds (get_or ways (q - place) [])),
            );
          }
        where
          many : length ways ≡ length (further (n - 1 - node) b.level) - b.place
          many = length-drop b.place (further (n - 1 - node) b.level)

          exceeds : (s : List ℕ) → get_or profile b.level 0 < count b.level (longer ++ s)
          exceeds s =
              omega (
                arith,
                count-append b.level longer s,
                count-append b.level (take node levels) (b.level ∷ []),
                is_same b.level b.level refl,
                G.used b.level C.some,
              )

          at : (q : ℕ) → place ≤ q → q < place + (length (further (n - 1 - node) b.level) - b.place) → sequence_at n q ≡ longer ++ get_or ways (q - place) []
          at q h k =
              let split : q ≡ place + (q - place) = omega arith in
              let inner : q - place < length ways = omega (arith, many) in
              ap (λ (i : ℕ). get_or (sequences n) i []) split
              ∙ sym (get_or-drop place (sequences n) (q - place) [])
              ∙ ap (λ (l : List (List ℕ)). get_or l (q - place) []) chosen-ahead
              ∙ get_or-append (map (λ s. longer ++ s) ways) others [] (q - place) (omega (arith, length-map ways (λ s. longer ++ s)))
              ∙ get_or_within (λ s. longer ++ s) ways (q - place) inner

  -- ---- the end

  pub descend_end : n ≤ node → levels ≡ sequence_at n place
  unfolding sequence_at further
  descend_end h = sym (here (n - node) (omega arith) G.within G.ahead)
    where
      whole : take node levels ≡ levels
      whole = let all : node ≡ length levels = omega (arith, G.same, G.most) in ap (λ (k : ℕ). take k levels) all ∙ take-length levels

      here : (k : ℕ) → k ≡ 0 → rest < length (further k behind)
          → drop place (sequences n) ≡ map (λ s. take node levels ++ s) (drop rest (further k behind)) ++ G.after → sequence_at n place ≡ levels
      here zero e w a = go rest w a
        where
          go : (r : ℕ) → r < 1 → drop place (sequences n) ≡ map (λ s. take node levels ++ s) (drop r ([] ∷ [])) ++ G.after → sequence_at n place ≡ levels
          go zero w a =
              let first : place ≡ place + 0 = omega arith in
              ap (λ (i : ℕ). get_or (sequences n) i []) first
              ∙ sym (get_or-drop place (sequences n) 0 [])
              ∙ ap (λ (l : List (List ℕ)). get_or l 0 []) a
              ∙ append-nil (take node levels)
              ∙ whole
          go (suc r) w a = absurd (omega arith)
      here (suc k) e w a = absurd (omega arith)
