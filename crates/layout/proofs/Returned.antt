-- What an accepted call of a layout returns, plain or with an extra space: the record, the order and the distance of neighbours, the extremes,
-- and equal shapes in one call or in two of one separation and one extra space. Assumes nothing.
use mathlib.Core.Path.{◌≡◌, refl, sym, ap, ◌∙◌, subst, subst₂}
use mathlib.Core.Logic.{inl, inr, ⊎_elim}
use mathlib.Core.Bool.{true}
use mathlib.Core.List.{List, ◌∷◌, ◌++◌}
use Prim.Native.Nat.{ℕ, ◌+◌, ◌-◌, ◌*◌, ◌/◌, ◌≤◌, ◌<◌}
use native.Mathlib.Nat.{le_refl, mul-le-mul_right}
use native.Mathlib.Omega.{arith}
use lib.IntN.{ℤ, pos, nat_abs, ◌+ℤ◌}
use lib.ListN.{length, get_or, drop, length-map, get_or-append}
use lib.Seq.{drop_at}
use lib.Signed.{◌≤ℤ◌}
use Rattle.refusal.specs.After.{overwrite, after}
use Rattle.refusal.proofs.After.{after-accepted, overwrite-split}
use Rattle.distance.specs.Needed.{half_width, needed, widest}
use Rattle.distance.proofs.HalfWidths.{needed-at_most}
use Rattle.tree.specs.Numbers.{up_to}
use Rattle.tree.specs.Table.{nodes}
use Rattle.tree.specs.Levels.{Pair, level, neighbours}
use Rattle.tree.specs.Shape.{corresponding, corresponding_under, same_ordered_shape, under}
use Rattle.tree.specs.WellFormed.{table_number}
use Rattle.tree.proofs.Counting.{All, below_or_not, all_both}
use Rattle.tree.proofs.Tests.{all-at}
use Rattle.rule.specs.Join.{Spacing, spaced}
use Rattle.rule.specs.Record.{flat, pair_count}
use Rattle.rule.specs.Result.{Slices, Answer, LaidOut, Layout, place, places_of, levels_of}
use Rattle.rule.proofs.Flat.{length-flat, pair_at, flat-at}
use Rattle.rule.proofs.PairCounts.{pair_index}
use Rattle.rule.proofs.Promises.{neighbours-count, neighbours-apart, shapes_equal}
use Rattle.rule.proofs.Signed.{raised}
use Rattle.rule.proofs.Extremes.{least-bounds, greatest-bounds, least-met, greatest-met, width_bound, small-place}
use Rattle.rule.proofs.ReadingOrder.{LeftBy, ReadBefore, not_itself, neighbours-read}
use Rattle.rule.proofs.SideBySide.{SideBySide, beside-told, neighbours-beside, beside-neighbours}
use Rattle.rule.proofs.Corresponding.{below-corresponding, below-under}
use Rattle.layout.specs.Operation.{Taken}
use Rattle.layout.proofs.Answers.{taken, laid_by, few-needed}
use Rattle.second_walk.proofs.EntryForEach.{map-up_to, length-up_to}

-- ---- one call

-- a call that was not refused: what it was given, and what it gave
pub record Call (t : List ℕ) (D : ℕ) (hs : List ℕ) (extra : ℕ) (s : Slices) (a : Answer) (u : Slices) : Type 0 where
  pub given : Taken t D hs extra s
  pub laid : LaidOut 0 (spaced (needed D hs) extra) t s a u

-- of the layout
pub layout-call : {t : List ℕ} {D : ℕ} {hs : List ℕ} {s : Slices} {a : Answer} {u : Slices} → Layout t D hs s a u → a.number ≡ 0 → Call t D hs 0 s a u
layout-call {t} {D} {hs} {s} L e = let zero_number = sym L.number ∙ e in record { given = taken t D hs s zero_number; laid = laid_by zero_number L }

-- the place and the level that stand in the slices, by node number, and the pair at each index of the record
abbrev pub place_of : Slices → ℕ → ℤ
place_of u v = get_or u.places v (pos 0)

abbrev pub level_of : Slices → ℕ → ℕ
level_of u v = get_or u.levels v 0

abbrev pub pair_of : Slices → ℕ → Pair
pair_of u i = pair_at u.the_record i

module _ {t : List ℕ} {D : ℕ} {hs : List ℕ} {extra : ℕ} {s : Slices} {a : Answer} {u : Slices} (C : Call t D hs extra s a u) where
  abbrev L : LaidOut 0 (spaced (needed D hs) extra) t s a u
  L = C.laid

  -- what keeps the nodes apart
  abbrev N : Spacing
  N = spaced (needed D hs) extra

  pub accepted : table_number t ≡ 0
  accepted = C.given.table

  written : {A : Type 0} (new old now : List A) → now ≡ after 0 new old → now ≡ new ++ drop (length new) old
  unfolding overwrite
  written {A} new old now e = e ∙ after-accepted 0 new old refl

  pub place-returned : (v : ℕ) → v < nodes t → place_of u v ≡ place N t v
  unfolding places_of
  place-returned v h =
      ap (λ (l : List ℤ). get_or l v (pos 0)) (written (places_of N t) s.places u.places L.places)
      ∙ get_or-append (places_of N t) (drop (length (places_of N t)) s.places) (pos 0) v (omega (arith, h, length-map (up_to (nodes t)) (place N t), length-up_to (nodes t)))
      ∙ map-up_to (place N t) (pos 0) (nodes t) v h

  pub level-returned : (v : ℕ) → v < nodes t → level_of u v ≡ level t v
  unfolding levels_of
  level-returned v h =
      ap (λ (l : List ℕ). get_or l v 0) (written (levels_of t) s.levels u.levels L.levels)
      ∙ get_or-append (levels_of t) (drop (length (levels_of t)) s.levels) 0 v (omega (arith, h, length-map (up_to (nodes t)) (level t), length-up_to (nodes t)))
      ∙ map-up_to (level t) 0 (nodes t) v h

  -- no place is far from the root's, which is 0
  pub near-returned : (v : ℕ) → v < nodes t → nat_abs (place_of u v) ≤ 1569792 + 511 * extra
  near-returned v h =
      subst (λ (z : ℤ). nat_abs z ≤ 1569792 + 511 * extra) (sym (place-returned v h)) (small-place N t accepted 1536 (few-needed C.given) (le_refl 1536) v h)

  pair_count_lem : a.pairs ≡ length (neighbours t)
  pair_count_lem = L.pairs

  recorded-length : length (flat (neighbours t)) ≡ 2 * a.pairs
  recorded-length = length-flat (neighbours t) ∙ ap (λ (k : ℕ). 2 * k) (sym pair_count_lem)

  -- The record is the neighbours, level by level from the top and left to right on each level; entries past the pairs are untouched.
  pub record_returned : u.the_record ≡ flat (neighbours t) ++ drop (2 * a.pairs) s.the_record
  record_returned = L.the_record ∙ after-accepted 0 _ _ refl ∙ overwrite-split (2 * a.pairs) (flat (neighbours t)) s.the_record recorded-length

  pub rest-returned : drop (2 * a.pairs) u.the_record ≡ drop (2 * a.pairs) s.the_record
  rest-returned = ap (drop (2 * a.pairs)) record_returned ∙ drop_at (flat (neighbours t)) (drop (2 * a.pairs) s.the_record) (2 * a.pairs) recorded-length

  -- the pair at each index
  pub pair_returned : (d : Pair) (i : ℕ) → i < a.pairs → pair_of u i ≡ get_or (neighbours t) i d
  pair_returned d i h =
      ap (λ (l : List ℕ). pair_at l i) record_returned ∙ flat-at (neighbours t) (drop (2 * a.pairs) s.the_record) d i (omega (arith, pair_count_lem))

  pub recorded-returned : (x y : ℕ) → 1 ≤ pair_count x y (neighbours t) → (i : ℕ) × (i < a.pairs) × (pair_of u i ≡ (x, y))
  recorded-returned x y c =
      let m = pair_index x y (neighbours t) (0, 0) c in
      let inside : m.0 < a.pairs = omega (arith, m.1, pair_count_lem) in
      (m.0, inside, pair_returned (0, 0) m.0 inside ∙ m.2)

  -- pairs of the drawing, and of what the slices hold
  left-returned : (d v w : ℕ) → v < nodes t → w < nodes t → LeftBy (place N t) d v w → LeftBy (place_of u) d v w
  left-returned d v w h k = subst₂ (λ (x y : ℤ). (x +ℤ pos d) ≤ℤ y) (sym (place-returned v h)) (sym (place-returned w k))

  some : 1 ≤ D
  some = C.given.some

  least-needed : (v w : ℕ) → D ≤ N.need v w
  least-needed v w = omega arith

  some-needed : (v w : ℕ) → 1 ≤ N.need v w
  some-needed v w = omega (arith, some)

  beside_at : (i : ℕ) → i < a.pairs → SideBySide (λ v. v < nodes t) (level t) (place N t) (get_or (neighbours t) i (0, 0)).0 (get_or (neighbours t) i (0, 0)).1
  beside_at i h = all-at _ (neighbours t) (0, 0) (neighbours-beside N t some-needed accepted) i (omega (arith, pair_count_lem))

  -- of two pairs the earlier one stands on a higher level, or on the same level and at least the separation further left
  pub reading-order-returned : (i j : ℕ) → i < j → j < a.pairs → ReadBefore (level_of u) (place_of u) D (pair_of u i) (pair_of u j)
  reading-order-returned i j h k =
      subst₂ (ReadBefore (level_of u) (place_of u) D) (sym (pair_returned (0, 0) i (omega arith))) (sym (pair_returned (0, 0) j k))
      (told (get_or (neighbours t) i (0, 0)) (get_or (neighbours t) j (0, 0)) (inside i (omega arith)) (inside j k)
      (neighbours-read N D least-needed t accepted (0, 0) i j h (omega (arith, pair_count_lem))))
    where
      inside : (i : ℕ) → i < a.pairs → (get_or (neighbours t) i (0, 0)).0 < nodes t
      inside i h = (beside_at i h).left_in

      told : (p q : Pair) → p.0 < nodes t → q.0 < nodes t → ReadBefore (level t) (place N t) D p q → ReadBefore (level_of u) (place_of u) D p q
      told p q h k (inl above) = inl (omega (arith, level-returned p.0 h, level-returned q.0 k))
      told p q h k (inr beside) = inr (level-returned p.0 h ∙ beside.0 ∙ sym (level-returned q.0 k), left-returned D p.0 q.0 h k beside.1)

  -- each pair once
  pub once-returned : (i j : ℕ) → i < a.pairs → j < a.pairs → pair_of u i ≡ pair_of u j → i ≡ j
  once-returned i j h k e =
      ⊎_elim (λ m. absurd (apart_from i j m.0 k e)) (λ m. ⊎_elim (λ n. absurd (apart_from j i n.0 h (sym e))) (λ n. omega arith) (below_or_not j i)) (below_or_not i j)
    where
      apart_from : (i j : ℕ) → i < j → j < a.pairs → pair_of u i ≡ pair_of u j → ⊥
      apart_from i j m k e =
          not_itself (level_of u) (place_of u) D some (pair_of u j)
          (subst (λ (p : Pair). ReadBefore (level_of u) (place_of u) D p (pair_of u j)) e (reading-order-returned i j m k))

  -- The record names two nodes exactly when they stand side by side: on one level, the first left of the second, and none between them.
  abbrev pub Beside : ℕ → ℕ → Type 0
  Beside x y = SideBySide (λ v. v < nodes t) (level_of u) (place_of u) x y

  pub named-returned : (i : ℕ) → i < a.pairs → Beside (pair_of u i).0 (pair_of u i).1
  named-returned i h =
      let B = beside_at i h in
      subst (λ (p : Pair). Beside p.0 p.1) (sym (pair_returned (0, 0) i h))
      (beside-told _ _ (level t) (level_of u) (place N t) (place_of u) _ _ (λ v k. (sym (level-returned v k), sym (place-returned v k))) (λ v k m. k) B.left_in B.right_in B)

  pub beside-returned : (x y : ℕ) → Beside x y → (i : ℕ) × (i < a.pairs) × (pair_of u i ≡ (x, y))
  beside-returned x y B =
      let drawn = beside-told _ _ (level_of u) (level t) (place_of u) (place N t) x y (λ v k. (level-returned v k, place-returned v k)) (λ v k m. k) B.left_in B.right_in B in
      recorded-returned x y (beside-neighbours N t some-needed accepted x y drawn)

  -- pairs = nodes - levels
  pub pairs-returned : a.pairs + a.levels ≡ a.nodes
  pairs-returned =
      omega (arith, pair_count_lem, L.level_count, L.nodes, neighbours-count t accepted)

  -- neighbours stand in tree order, at least the distance apart that they need
  pub apart-returned : All (λ p. (place_of u p.0 +ℤ pos (needed D hs p.0 p.1)) ≤ℤ (place_of u p.1)) (neighbours t)
  apart-returned =
      all_both _ _ _ (λ p B. left-returned (needed D hs p.0 p.1) p.0 p.1 B.left_in B.right_in) (neighbours t)
      (neighbours-beside N t some-needed accepted) (neighbours-apart N t accepted)

  -- least and greatest are the places of two nodes, and no place is outside them
  pub least-returned : ((v : ℕ) → v < nodes t → a.least ≤ℤ place_of u v) × ((v : ℕ) × (v < nodes t) × (place_of u v ≡ a.least))
  least-returned =
      let e = L.least in
      let m = least-met N t accepted in (
        (λ v h. subst₂ (λ (x y : ℤ). x ≤ℤ y) (sym e) (sym (place-returned v h)) (least-bounds N t accepted v h)),
        (m.0, m.1, place-returned m.0 m.1 ∙ m.2 ∙ sym e),
      )

  pub greatest-returned : ((v : ℕ) → v < nodes t → place_of u v ≤ℤ a.greatest) × ((v : ℕ) × (v < nodes t) × (place_of u v ≡ a.greatest))
  greatest-returned =
      let e = L.greatest in
      let m = greatest-met N t accepted in (
        (λ v h. subst₂ (λ (x y : ℤ). x ≤ℤ y) (sym (place-returned v h)) (sym e) (greatest-bounds N t accepted v h)),
        (m.0, m.1, place-returned m.0 m.1 ∙ m.2 ∙ sym e),
      )

  -- the drawing is at most n - 1 times the sum of the separation and twice the greatest half-width wide, and half that many times the extra space
  pub width-returned : a.greatest ≤ℤ (a.least +ℤ pos ((nodes t - 1) * (D + 2 * widest (nodes t) hs) + (nodes t - 1) / 2 * extra))
  width-returned =
      let W = D + 2 * widest (nodes t) hs in
      let fewer : nodes t - 2 ≤ nodes t - 1 = omega arith in
      let halves : (nodes t - 2) / 2 ≤ (nodes t - 1) / 2 = omega arith in
      rw (L.greatest, L.least)
      (raised _ _ _ ((nodes t - 1) * W + (nodes t - 1) / 2 * extra) (width_bound N t accepted W (needed-at_most hs D (nodes t)))
      (omega (arith, mul-le-mul_right W fewer, mul-le-mul_right extra halves)))

-- ---- two calls of one separation and one extra space, or one call taken twice

-- every two corresponding nodes differ by one shift in place and one difference in depth
pub record ReturnedEqually (places places' : ℕ → ℤ) (levels levels' : ℕ → ℕ) (ps : List Pair) : Type 0 where
  pub shift : ℤ
  pub depth : ℤ
  pub shifted : All (λ p. places' p.1 ≡ places p.0 +ℤ shift) ps
  pub deeper : All (λ p. pos (levels' p.1) ≡ pos (levels p.0) +ℤ depth) ps

module _ {D extra : ℕ} {t hs : List ℕ} {s : Slices} {a : Answer} {u : Slices} (C : Call t D hs extra s a u)
    {t' hs' : List ℕ} {s' : Slices} {a' : Answer} {u' : Slices} (C' : Call t' D hs' extra s' a' u') where
  -- The two nodes have one ordered shape, and every two corresponding nodes below them one half-width.
  pub shapes_returned : (v w : ℕ) → v < nodes t → w < nodes t' → same_ordered_shape t v t' w ≡ true
      → All (λ p. half_width hs p.0 ≡ half_width hs' p.1) (corresponding (under t v) (under t' w))
      → ReturnedEqually (place_of u) (place_of u') (level_of u) (level_of u') (corresponding_under t v t' w)
  unfolding corresponding_under
  shapes_returned v w hv hw same equal =
      let E = shapes_equal (spaced (λ x y. D + x + y) extra) (half_width hs) (half_width hs') t t' (accepted C) (accepted C') v w hv hw same equal in
      let inside : All (λ p. (p.0 < nodes t) × (p.1 < nodes t')) ((v, w) ∷ corresponding (under t v) (under t' w)) = (
        (hv, hw),
        below-corresponding (nodes t) (nodes t') (under t v) (under t' w) (below-under t (accepted C) v hv) (below-under t' (accepted C') w hw),
      ) in
      record {
        shift = E.shift;
        depth = E.depth;
        shifted = all_both (λ p. (p.0 < nodes t) × (p.1 < nodes t')) _ _
            (λ p b h. place-returned C' p.1 b.1 ∙ h ∙ ap (λ (x : ℤ). x +ℤ E.shift) (sym (place-returned C p.0 b.0)))
            ((v, w) ∷ corresponding (under t v) (under t' w)) inside E.places;
        deeper = all_both (λ p. (p.0 < nodes t) × (p.1 < nodes t')) _ _
            (λ p b h. ap pos (level-returned C' p.1 b.1) ∙ h ∙ ap (λ (x : ℕ). pos x +ℤ E.depth) (sym (level-returned C p.0 b.0)))
            ((v, w) ∷ corresponding (under t v) (under t' w)) inside E.levels;
      }
