-- The extremes of a table's drawing: the least and the greatest place bound every place, the root stands at 0 between them, and they lie at
-- most n - 2 times apart what two nodes need, and half that many times the extra space, so that every place and every difference of two places
-- is small. Assumes nothing.
use mathlib.Core.Path.{◌≡◌, refl, sym, ap, ◌∙◌, subst, subst⁻¹, subst₂}
use mathlib.Core.Logic.{⊎_elim}
use mathlib.Core.Bool.{Bool, true, false, cond}
use mathlib.Core.List.Memᴰ
use mathlib.Core.List.{List, [], ◌∷◌, ◌++◌, map}
use Prim.Native.Nat.{ℕ, zero, suc, ◌+◌, ◌-◌, ◌*◌, ◌/◌, ◌≤◌, ◌<◌}
use native.Mathlib.Nat.{not-suc-le-zero, mul-le-mul_right}
use native.Mathlib.Omega.{arith}
use lib.IntN.{ℤ, pos, nat_abs, ◌+ℤ◌, ◌-ℤ◌}
use lib.Signed.{◌≤ℤ◌, le_z}
use Rattle.distance.specs.Needed.{needed, widest}
use Rattle.distance.proofs.HalfWidths.{needed-at_most}
use Rattle.tree.specs.Numbers.{up_to}
use Rattle.tree.specs.Table.{nodes}
use Rattle.tree.specs.Forest.{Forest, nil, node, tree_of, size}
use Rattle.tree.specs.WellFormed.{table_number}
use Rattle.tree.proofs.Counting.{All, all_map, all-weaken}
use Rattle.tree.proofs.Tests.{all-up_to, up_to-all}
use Rattle.tree.proofs.Stands.{one-root, accepted-numbers, accepted-size}
use Rattle.rule.specs.Drawing.{Drawing, dot, dots}
use Rattle.rule.specs.Join.{Spacing, plain, added}
use Rattle.rule.specs.Rule.{draw, drawn}
use Rattle.rule.specs.Result.{place, places_of, lesser, greater, least_of, greatest_of}
use Rattle.rule.proofs.Signed.{one-part, parts_add, parts_sub, parts_eq, parts_le, raised, AtMost, le_z_true, le_z_false, nat_abs_parts}
use Rattle.tree.proofs.Joined.{Some, some}
use Rattle.rule.proofs.OnLevel.{OnLevel, top}
use Rattle.rule.proofs.Lookup.{dot-place}
use Rattle.rule.proofs.Width.{Narrow}
use Rattle.rule.proofs.Span.{span, span_small, narrow-tree}
use Rattle.rule.proofs.Shapes.{spaced_by}
use Rattle.rule.proofs.Own.{own, own-inside, draw-own}
use Rattle.rule.proofs.Promises.{stands_at}

-- ---- the least and the greatest of a list

-- what holds of each of the two holds of the lesser and of the greater
either : (P : ℤ → Type 0) (b : Bool) (x y : ℤ) → P x → P y → P (cond b x y)
either P true x y p q = p
either P false x y p q = q

lesser-le : (x y : ℤ) → AtMost (lesser x y) x × AtMost (lesser x y) y
lesser-le x y = go (le_z x y) refl
  where
    go : (b : Bool) → le_z x y ≡ b → AtMost (cond b x y) x × AtMost (cond b x y) y
    go true e = (omega arith, le_z_true x y e)
    go false e = (omega (arith, le_z_false x y e), omega arith)

greater-ge : (x y : ℤ) → AtMost x (greater x y) × AtMost y (greater x y)
greater-ge x y = go (le_z x y) refl
  where
    go : (b : Bool) → le_z x y ≡ b → AtMost x (cond b y x) × AtMost y (cond b y x)
    go true e = (le_z_true x y e, omega arith)
    go false e = (omega arith, omega (arith, le_z_false x y e))

-- the least and the greatest are in the list
least_in : (P : ℤ → Type 0) (l : List ℤ) → Some l → All P l → P (least_of l)
least_in P [] s a = elim s [ ]
least_in P (x ∷ []) s a = a.0
least_in P (x ∷ y ∷ l) s a = either P (le_z x (least_of (y ∷ l))) x (least_of (y ∷ l)) a.0 (least_in P (y ∷ l) some a.1)

greatest_in : (P : ℤ → Type 0) (l : List ℤ) → Some l → All P l → P (greatest_of l)
greatest_in P [] s a = elim s [ ]
greatest_in P (x ∷ []) s a = a.0
greatest_in P (x ∷ y ∷ l) s a = either P (le_z x (greatest_of (y ∷ l))) (greatest_of (y ∷ l)) x (greatest_in P (y ∷ l) some a.1) a.0

-- and bound every element
pub least-le : (l : List ℤ) → All (λ x. AtMost (least_of l) x) l
least-le [] = tt
least-le (x ∷ []) = (omega arith, tt)
least-le (x ∷ y ∷ l) =
    let h = lesser-le x (least_of (y ∷ l)) in
    (h.0, all-weaken (λ z. AtMost (least_of (y ∷ l)) z) (λ z. AtMost (lesser x (least_of (y ∷ l))) z) (λ z k. omega arith) (y ∷ l) (least-le (y ∷ l)))

pub greatest-ge : (l : List ℤ) → All (λ x. AtMost x (greatest_of l)) l
greatest-ge [] = tt
greatest-ge (x ∷ []) = (omega arith, tt)
greatest-ge (x ∷ y ∷ l) =
    let h = greater-ge x (greatest_of (y ∷ l)) in
    (h.0, all-weaken (λ z. AtMost z (greatest_of (y ∷ l))) (λ z. AtMost z (greater x (greatest_of (y ∷ l)))) (λ z k. omega arith) (y ∷ l) (greatest-ge (y ∷ l)))

-- ---- a function over the numbers below n

all-places : (f : ℕ → ℤ) (P : ℤ → Type 0) (n : ℕ) → ((v : ℕ) → v < n → P (f v)) → All P (map f (up_to n))
all-places f P n h = all_map f (λ v. P (f v)) P (λ v p. p) (up_to n) (all-up_to (λ v. P (f v)) n h)

places-all : (f : ℕ → ℤ) (P : ℤ → Type 0) (n : ℕ) → All P (map f (up_to n)) → (v : ℕ) → v < n → P (f v)
places-all f P n a = up_to-all (λ v. P (f v)) n (unmap (up_to n) a)
  where
    unmap : (l : List ℕ) → All P (map f l) → All (λ v. P (f v)) l
    unmap [] a = tt
    unmap (v ∷ l) a = (a.0, unmap l a.1)

some-places : (f : ℕ → ℤ) (n : ℕ) → 0 < n → Some (map f (up_to n))
some-places f zero h = absurd (not-suc-le-zero h)
some-places f (suc n) h = front (up_to n)
  where
    front : (l : List ℕ) → Some (map f (l ++ (n ∷ [])))
    front [] = some
    front (x ∷ l) = some

-- ---- a table's drawing

module _ (D : Spacing) (t : List ℕ) (accepted : table_number t ≡ 0) where
  few : 0 < nodes t
  few = (accepted-numbers t accepted).some

  -- the root stands at 0
  pub root-place : place D t 0 ≡ pos 0
  unfolding drawn added
  root-place =
      dot-place D t accepted (dot 0 0 (pos 0)) 0
      (subst⁻¹ (λ (f : Forest). OnLevel (dot 0 0 (pos 0)) 0 (dots 0 (pos 0) (draw D f))) (one-root (nodes t) (tree_of t) (accepted-numbers t accepted)).1
      (top (Memᴰ.head refl)))

  pub least-bounds : (v : ℕ) → v < nodes t → least_of (places_of D t) ≤ℤ place D t v
  unfolding places_of
  least-bounds v h = parts_le _ _ (places-all (place D t) (λ x. AtMost (least_of (map (place D t) (up_to (nodes t)))) x) (nodes t) (least-le (map (place D t) (up_to (nodes t)))) v h)

  pub greatest-bounds : (v : ℕ) → v < nodes t → place D t v ≤ℤ greatest_of (places_of D t)
  unfolding places_of
  greatest-bounds v h = parts_le _ _ (places-all (place D t) (λ x. AtMost x (greatest_of (map (place D t) (up_to (nodes t))))) (nodes t) (greatest-ge (map (place D t) (up_to (nodes t)))) v h)

  -- and each is the place of some node
  pub least-met : (v : ℕ) × (v < nodes t) × (place D t v ≡ least_of (places_of D t))
  unfolding places_of
  least-met =
      least_in (λ x. (v : ℕ) × (v < nodes t) × (place D t v ≡ x)) (map (place D t) (up_to (nodes t))) (some-places (place D t) (nodes t) few)
      (all-places (place D t) (λ x. (v : ℕ) × (v < nodes t) × (place D t v ≡ x)) (nodes t) (λ v h. (v, h, refl)))

  pub greatest-met : (v : ℕ) × (v < nodes t) × (place D t v ≡ greatest_of (places_of D t))
  unfolding places_of
  greatest-met =
      greatest_in (λ x. (v : ℕ) × (v < nodes t) × (place D t v ≡ x)) (map (place D t) (up_to (nodes t))) (some-places (place D t) (nodes t) few)
      (all-places (place D t) (λ x. (v : ℕ) × (v < nodes t) × (place D t v ≡ x)) (nodes t) (λ v h. (v, h, refl)))

  pub least-at_most_0 : least_of (places_of D t) ≤ℤ pos 0
  least-at_most_0 = subst (λ (x : ℤ). least_of (places_of D t) ≤ℤ x) root-place (least-bounds 0 few)

  pub greatest-at-least_0 : pos 0 ≤ℤ greatest_of (places_of D t)
  greatest-at-least_0 = subst (λ (x : ℤ). x ≤ℤ greatest_of (places_of D t)) root-place (greatest-bounds 0 few)

  -- Where no two of the table's nodes need more than W,
  module _ (W : ℕ) (most : (a b : ℕ) → a < nodes t → b < nodes t → D.need a b ≤ W) where
    -- none stands further right of another than the nodes below the root may span
    pub places-near : (v w : ℕ) → v < nodes t → w < nodes t → AtMost (place D t v) (place D t w +ℤ pos (span W D.extra (nodes t - 1)))
    unfolding drawn
    places-near v w hv hw =
        let S = stands_at D t accepted v hv in
        let R = stands_at D t accepted w hw in
        subst₂ (λ (x y : ℤ). AtMost x (y +ℤ pos (span W D.extra (nodes t - 1)))) (sym (dot-place D t accepted (dot 0 v S.place) S.level S.root))
        (sym (dot-place D t accepted (dot 0 w R.place) R.level R.root))
        (near (dot 0 v S.place) (dot 0 w R.place) S.level R.level S.root R.root)
      where
        tree : (below : Forest) × (tree_of t ≡ node 0 below nil)
        tree = one-root (nodes t) (tree_of t) (accepted-numbers t accepted)

        counted : size tree.0 ≡ nodes t - 1
        counted = omega (arith, accepted-size t accepted, ap size tree.1)

        N : Spacing
        N = spaced_by (own (nodes t)) D

        near : Narrow (span W D.extra (nodes t - 1)) (dots 0 (pos 0) (draw D (tree_of t)))
        near =
            subst₂ (λ (k : ℕ) (d : Drawing). Narrow (span W D.extra k) (dots 0 (pos 0) d)) counted (sym (draw-own t accepted D ∙ ap (draw N) tree.1))
            (narrow-tree N W (λ a b. most (own (nodes t) a) (own (nodes t) b) (own-inside t accepted a) (own-inside t accepted b)) 0 tree.0)

    -- so the whole drawing is at most n - 2 times W wide, and half that many times the extra space
    pub width_bound : greatest_of (places_of D t) ≤ℤ (least_of (places_of D t) +ℤ pos ((nodes t - 2) * W + (nodes t - 2) / 2 * D.extra))
    width_bound =
        let g = greatest-met in
        let l = least-met in
        let twice : nodes t - 1 - 1 ≡ nodes t - 2 = omega arith in
        rw (← g.2, ← l.2, ← twice, ← span-is (nodes t - 1)) (parts_le _ _ (places-near g.0 l.0 g.1 l.1))
      where
        span-is : (m : ℕ) → span W D.extra m ≡ (m - 1) * W + (m - 1) / 2 * D.extra
        span-is zero = omega arith
        span-is (suc m) = let less : m ≡ suc m - 1 = omega arith in ap (λ (k : ℕ). k * W + k / 2 * D.extra) less

    -- and every place, and every difference of two places, is at most 1,022 * 1,536 in size, and 511 times the extra space
    pub small-difference : W ≤ 1536 → (v w : ℕ) → v < nodes t → w < nodes t → nat_abs (place D t v -ℤ place D t w) ≤ 1569792 + 511 * D.extra
    small-difference hW v w hv hw =
        let wide = span_small W D.extra 1022 (nodes t - 1) (omega (arith, (accepted-numbers t accepted).few)) hW in
        let difference = parts_sub (place D t v) (place D t w) in
        let right = places-near v w hv hw in
        let left = places-near w v hw hv in
        let past-right = parts_add (place D t w) (pos (span W D.extra (nodes t - 1))) in
        let past-left = parts_add (place D t v) (pos (span W D.extra (nodes t - 1))) in
        let parts = nat_abs_parts (place D t v -ℤ place D t w) in
        ⊎_elim (λ z. omega arith) (λ z. omega arith) (one-part (place D t v -ℤ place D t w))

    pub small-place : W ≤ 1536 → (v : ℕ) → v < nodes t → nat_abs (place D t v) ≤ 1569792 + 511 * D.extra
    small-place hW v h =
        subst (λ (z : ℤ). nat_abs z ≤ 1569792 + 511 * D.extra) (ap (λ (x : ℤ). place D t v -ℤ x) root-place ∙ less_zero (place D t v)) (small-difference hW v 0 h few)
      where
        less_zero : (z : ℤ) → z -ℤ pos 0 ≡ z
        less_zero z = parts_eq (z -ℤ pos 0) z (omega (arith, parts_sub z (pos 0)))

-- a sheet's drawing is at most n - 1 times the sum of the separation and twice the greatest half-width wide
pub sheet-width : (D : ℕ) (hs t : List ℕ) → table_number t ≡ 0
    → greatest_of (places_of (plain (needed D hs)) t) ≤ℤ (least_of (places_of (plain (needed D hs)) t) +ℤ pos ((nodes t - 1) * (D + 2 * widest (nodes t) hs)))
sheet-width D hs t accepted =
    let W = D + 2 * widest (nodes t) hs in
    let fewer : nodes t - 2 ≤ nodes t - 1 = omega arith in
    raised _ _ _ ((nodes t - 1) * W) (width_bound (plain (needed D hs)) t accepted W (needed-at_most hs D (nodes t))) (omega (arith, mul-le-mul_right W fewer))
