-- The layout of an accepted table as points. Read level by level from the top and left to right, they rise; so the layout's set of points is
-- that of a rising list in one case alone, and then it has as many points on each level as the tree has nodes. Assumes nothing.
use mathlib.Core.Path.{◌≡◌, refl, sym, ap, ◌∙◌, subst, subst⁻¹}
use mathlib.Core.Logic.{inl, inr, ⊎_elim}
use mathlib.Core.Bool.{Bool, true, ◌&&◌}
use mathlib.Core.List.Memᴰ
use mathlib.Core.List.{List, [], ◌∷◌, map, map-append, map-map, Memᴰ}
use Prim.Native.Nat.{ℕ, suc, ◌+◌, ◌≤◌, ◌<◌}
use native.Mathlib.Nat.{le_refl}
use native.Mathlib.Omega.{arith}
use lib.IntN.{ℤ, pos, nat_abs, ◌+ℤ◌}
use lib.ListN.{length, length-map}
use Rattle.refusal.proofs.Truth.{true-or-false}
use Rattle.tree.specs.Numbers.{up_to, is, count, flat_map}
use Rattle.tree.specs.Table.{nodes}
use Rattle.tree.specs.Forest.{tree_of, preorder}
use Rattle.tree.specs.Levels.{level, levels, together, side_by_side, neighbours}
use Rattle.tree.specs.WellFormed.{table_number}
use Rattle.tree.specs.Operations.{old_numbers}
use Rattle.tree.proofs.Counting.{All, is_same, all_append, all_left, all_right, all-weaken, all_both, all_map, sum_over, sum_over-same, count-up_to, below-up_to}
use Rattle.tree.proofs.Tests.{in_cons, counted-all}
use Rattle.tree.proofs.Stands.{accepted-numbers, accepted-inside, accepted-size}
use Rattle.tree.proofs.LevelOf.{count-levels}
use Rattle.tree.proofs.Leveled.{Leveled, all-counted, accepted-leveled}
use Rattle.tree.proofs.Joined.{length-levels}
use Rattle.rule.specs.Result.{place}
use Rattle.rule.proofs.Signed.{Under, at_most, parts_add}
use Rattle.rule.proofs.ReadingOrder.{Pairwise, pairwise_append, LeftBy, Apart, rising, neighbours-at-least}
use Rattle.plots.specs.Points.{point, all_among, same_set, apart, node_point, laid_out, in_reading_order, table_fits, Within, SameSet}
use Rattle.plots.specs.declared.Point.{Point}
use Rattle.plots.specs.Dots.{levels_in}
use Rattle.plots.proofs.Order.{Before}
use Rattle.plots.proofs.Sets.{set_same, same_set_lem, all-within, within_all, within_equal}

-- ---- the points of a list of nodes

module _ (f : ℕ → Point) where
  mapped_member : (l : List ℕ) (a : Point) → Memᴰ a (map f l) → (v : ℕ) × (1 ≤ count v l) × (a ≡ f v)
  mapped_member [] a m = absurd (Memᴰ.not-nil m)
  mapped_member (x ∷ l) a m =
      ⊎_elim (λ e. (x, omega (arith, is_same x x refl), e))
      (λ k. let r = mapped_member l a k in (r.0, omega (arith, r.1), r.2)) (Memᴰ.cases_cons m)

  member_mapped : (l : List ℕ) (v : ℕ) → 1 ≤ count v l → Memᴰ (f v) (map f l)
  member_mapped [] v h = absurd (omega arith)
  member_mapped (x ∷ l) v h = ⊎_elim (λ e. Memᴰ.head (ap f e)) (λ k. Memᴰ.tail (member_mapped l v k)) (in_cons v x l h)

  -- two lists with the same nodes have the same points
  mapped_within : (l m : List ℕ) → ((v : ℕ) → 1 ≤ count v l → 1 ≤ count v m) → Within (map f l) (map f m)
  mapped_within l m h a k = let r = mapped_member l a k in subst⁻¹ (λ (p : Point). Memᴰ p (map f m)) r.2 (member_mapped m r.0 (h r.0 r.1))

  pub mapped_same : (l m : List ℕ) → ((v : ℕ) → 1 ≤ count v l → 1 ≤ count v m) → ((v : ℕ) → 1 ≤ count v m → 1 ≤ count v l) → SameSet (map f l) (map f m)
  mapped_same l m there back = record { there = mapped_within l m there; back = mapped_within m l back }

-- what holds of every level from i on, for as many as there are, holds of every node's
pub leveled-all : (lev : ℕ → ℕ) (P : ℕ → Type 0) (i : ℕ) (ls : List (List ℕ)) → ((k : ℕ) → i ≤ k → k < i + length ls → P k) → Leveled lev i ls
    → All (λ v. P (lev v)) (together ls)
leveled-all lev P i [] h k = tt
leveled-all lev P i (l ∷ ls) h k =
    all_append (λ v. P (lev v)) l (together ls) (all-weaken (λ v. lev v ≡ i) (λ v. P (lev v)) (λ v e. subst⁻¹ P e (h i (le_refl i) (omega arith))) l k.0)
    (leveled-all lev P (suc i) ls (λ j a b. h j (omega arith) (omega arith)) k.1)

-- ---- in reading order

module _ (lev : ℕ → ℕ) (spot : ℕ → ℤ) (D : ℕ) (some : 1 ≤ D) where
  abbrev stands : ℕ → Point
  stands v = point (pos (lev v)) (spot v)

  left-under : (a b : ℕ) → LeftBy spot D a b → Under (spot a) (spot b)
  left-under a b h = omega (arith, at_most (spot a +ℤ pos D) (spot b) h, parts_add (spot a) (pos D))

  one_level : (i : ℕ) (l : List ℕ) → All (λ v. lev v ≡ i) l → Pairwise (LeftBy spot D) l → Pairwise Before (map stands l)
  one_level i [] h r = tt
  one_level i (a ∷ l) h r = (
    all_map stands (λ b. (lev b ≡ i) × LeftBy spot D a b) (Before (stands a)) (λ b k. inr (ap pos (h.0 ∙ sym k.0), left-under a b k.1)) l
        (all_both (λ b. lev b ≡ i) (LeftBy spot D a) _ (λ b k m. (k, m)) l h.1 r.0),
    one_level i l h.1 r.1,
  )

  levels-rise : (i : ℕ) (ls : List (List ℕ)) → Leveled lev i ls → All (Apart spot D) (flat_map side_by_side ls) → Pairwise Before (map stands (together ls))
  levels-rise i [] h s = tt
  levels-rise i (l ∷ ls) h s =
      subst (Pairwise Before) (sym (map-append stands l (together ls)))
      (pairwise_append Before (map stands l) (map stands (together ls))
      (one_level i l h.0 (rising spot D l (all_left (Apart spot D) (side_by_side l) (flat_map side_by_side ls) s)))
      (levels-rise (suc i) ls h.1 (all_right (Apart spot D) (side_by_side l) (flat_map side_by_side ls) s))
      (all_map stands (λ a. lev a ≡ i) (λ p. All (Before p) (map stands (together ls)))
      (λ a e. all_map stands (λ b. suc i ≤ lev b) (Before (stands a)) (λ b k. inl (omega arith)) (together ls) (leveled-all lev (λ k. suc i ≤ k) (suc i) ls (λ k a b. a) h.1)) l h.0))

module _ (D : ℕ) (some : 1 ≤ D) (t : List ℕ) (accepted : table_number t ≡ 0) where
  order : List ℕ
  order = together (levels (tree_of t))

  in_order : (v : ℕ) → v < nodes t → 1 ≤ count v order
  unfolding order
  in_order v h = omega (arith, count-levels v (tree_of t), (accepted-numbers t accepted).each v h)

  order_in : (v : ℕ) → 1 ≤ count v order → v < nodes t
  unfolding order
  order_in v h = accepted-inside t accepted v (omega (arith, count-levels v (tree_of t)))

  pub reading-rises : Pairwise Before (in_reading_order D t)
  unfolding in_reading_order neighbours
  reading-rises =
      levels-rise (level t) (place (apart D) t) D some 0 (levels (tree_of t)) (accepted-leveled t accepted)
      (neighbours-at-least (apart D) D (λ a b. le_refl D) t accepted)

  pub length-reading : length (in_reading_order D t) ≡ nodes t
  unfolding in_reading_order
  length-reading = length-map (together (levels (tree_of t))) (node_point D t) ∙ length-levels (tree_of t) ∙ accepted-size t accepted

  pub reading-laid : SameSet (in_reading_order D t) (laid_out D t)
  unfolding in_reading_order laid_out order
  reading-laid =
      mapped_same (node_point D t) order (up_to (nodes t)) (λ v h. omega (arith, count-up_to (nodes t) v (order_in v h)))
      (λ v h. in_order v (counted-all (λ u. u < nodes t) (up_to (nodes t)) (below-up_to (nodes t)) v h))

  -- how many nodes stand on a level
  pub reading-levels : (l : ℕ) → count l (levels_in (in_reading_order D t)) ≡ count l (map (level t) (old_numbers t))
  unfolding in_reading_order old_numbers
  reading-levels l =
      ap (count l) (map-map (λ (p : Point). nat_abs p.level) (node_point D t) (together (levels (tree_of t))))
      ∙ counted (level t) (together (levels (tree_of t)))
      ∙ sum_over-same (λ v. is l (level t v)) (nodes t) (together (levels (tree_of t))) (preorder (tree_of t))
      (all-counted (λ v. v < nodes t) (together (levels (tree_of t))) (λ v h. accepted-inside t accepted v (omega (arith, count-levels v (tree_of t)))))
      (accepted-numbers t accepted).below (λ v h. count-levels v (tree_of t))
      ∙ sym (counted (level t) (preorder (tree_of t)))
    where
      counted : (g : ℕ → ℕ) (vs : List ℕ) → count l (map g vs) ≡ sum_over (λ v. is l (g v)) vs
      counted g [] = refl
      counted g (v ∷ vs) = ap (λ (k : ℕ). is l (g v) + k) (counted g vs)

  -- ---- held against a rising list of as many points

  module _ (points : List Point) (rise : Pairwise Before points) (many : length points ≡ nodes t) where
    all-reading : all_among points (laid_out D t) ≡ true → in_reading_order D t ≡ points
    all-reading e =
        within_equal points (in_reading_order D t) reading-rises rise (λ a m. all-within points (laid_out D t) e a (reading-laid.there a m)) (omega (arith, length-reading))

    -- the table fits just where the points are its layout in reading order
    pub fits-reading : table_fits D points t ≡ true → in_reading_order D t ≡ points
    unfolding table_fits
    fits-reading e = all-reading (within_all points (laid_out D t) (set_same (laid_out D t) points e).there)

    pub reading-fits : in_reading_order D t ≡ points → table_fits D points t ≡ true
    unfolding table_fits
    reading-fits e =
        same_set_lem (laid_out D t) points
        (record {
          there = λ a m. subst (Memᴰ a) e (reading-laid.back a m);
          back = λ a m. reading-laid.there a (subst (Memᴰ a) (sym e) m);
        })

    -- it is enough that every node's point is among them
    pub among-fits : all_among points (laid_out D t) ≡ table_fits D points t
    unfolding table_fits same_set
    among-fits =
        ⊎_elim (λ e. e ∙ sym (reading-fits (all-reading e))) (λ e. e ∙ ap (λ (b : Bool). b && all_among (laid_out D t) points) (sym e))
        (true-or-false (all_among points (laid_out D t)))
