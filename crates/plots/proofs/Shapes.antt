-- The layout of an accepted table as a plot: its dots are right, and renumbering the table changes none of its points. Assumes nothing.
use mathlib.Core.Path.{◌≡◌, refl, sym, ap, ap₂, ◌∙◌, subst, subst⁻¹}
use mathlib.Core.Logic.{⊎_elim}
use mathlib.Core.Bool.{true, false, true≢false}
use mathlib.Core.List.{List, [], ◌∷◌, map, append-nil}
use Prim.Native.Nat.{ℕ, ◌+◌, ◌*◌, ◌≤◌, ◌<◌}
use native.Mathlib.Omega.{arith}
use lib.IntN.{ℤ, pos, ◌+ℤ◌, +ℤ_idl, +ℤ_idr}
use lib.ListN.{length}
use Rattle.refusal.proofs.Truth.{true-or-false, and_left}
use Rattle.tree.specs.Numbers.{up_to, run}
use Rattle.tree.specs.Table.{nodes, first_child}
use Rattle.tree.specs.Forest.{nil, node, forest, tree_of}
use Rattle.tree.specs.Levels.{Pair, level, levels, level_count, together}
use Rattle.tree.specs.Shape.{same_shape, corresponding, corresponding_under, same_ordered_shape, under}
use Rattle.tree.specs.WellFormed.{table_number}
use Rattle.tree.specs.Operations.{number_from, renumbered, old_numbers}
use Rattle.tree.proofs.Counting.{All, all_both, all_map, count-up_to, below-up_to}
use Rattle.tree.proofs.Tests.{counted-all}
use Rattle.tree.proofs.Stands.{accepted-numbers, accepted-inside, accepted-size}
use Rattle.tree.proofs.Followed.{accepted-linked, followed_node, followed_none}
use Rattle.tree.proofs.Leveled.{accepted-leveled}
use Rattle.tree.proofs.LevelOf.{root-level}
use Rattle.tree.proofs.Reading.{size-preorder}
use Rattle.tree.proofs.TableOf.{nodes-table_of}
use Rattle.tree.proofs.Renumbered.{run-up_to, numbered_from, number_from-numbers, renumbered-accepted, renumbered_shape, renumbered-map}
use Rattle.rule.specs.Result.{place}
use Rattle.rule.proofs.Extremes.{root-place}
use Rattle.rule.proofs.Promises.{DrawnEqually, shapes_equal, neighbours-count}
use Rattle.rule.proofs.ReadingOrder.{Pairwise}
use Rattle.plots.specs.Points.{point, points_of, entries_of, same_set, apart, node_point, laid_out, in_reading_order, plot_of, table_fits, SameSet}
use Rattle.plots.specs.declared.Point.{Point}
use Rattle.plots.specs.Dots.{dots_wrong}
use Rattle.plots.proofs.Order.{Before}
use Rattle.plots.proofs.Sets.{set_same, same_set_lem}
use Rattle.plots.proofs.Laid.{mapped_same, leveled-all, reading-rises, length-reading, reading-laid}
use Rattle.plots.proofs.Sound.{OnLevel, sound-right}

-- ---- sets

-- two lists of the same points have the same set as a third, or neither has
pub same_test : (ps qs rs : List Point) → SameSet ps qs → same_set ps rs ≡ same_set qs rs
same_test ps qs rs S =
    ⊎_elim (λ e. e ∙ sym (along ps qs S e))
    (λ e. e ∙ sym (⊎_elim (λ f. absurd (true≢false (sym (along qs ps (record { there = S.back; back = S.there }) f) ∙ e))) (λ f. f) (true-or-false (same_set qs rs))))
    (true-or-false (same_set ps rs))
  where
    along : (ps qs : List Point) → SameSet ps qs → same_set ps rs ≡ true → same_set qs rs ≡ true
    along ps qs S e =
        let R = set_same ps rs e in
        same_set_lem qs rs (record { there = λ a m. R.there a (S.back a m); back = λ a m. S.there a (R.back a m) })

-- ---- the dots of a plot

points-entries : (ps : List Point) → points_of (entries_of ps) ≡ ps
points-entries [] = refl
points-entries (a ∷ ps) = ap (λ (l : List Point). a ∷ l) (points-entries ps)

length-entries : (ps : List Point) → length (entries_of ps) ≡ 2 * length ps
length-entries [] = refl
length-entries (a ∷ ps) = omega (arith, length-entries ps)

module _ (D : ℕ) (some : 1 ≤ D) (t : List ℕ) (accepted : table_number t ≡ 0) where
  pub plot-points : points_of (plot_of D t) ≡ in_reading_order D t
  unfolding plot_of
  plot-points = points-entries (in_reading_order D t)

  -- they are the layout's points
  pub plot-laid : SameSet (laid_out D t) (points_of (plot_of D t))
  plot-laid =
      let r = reading-laid D some t accepted in
      subst⁻¹ (SameSet (laid_out D t)) plot-points (record { there = r.back; back = r.there })

  -- and right, on 1 to 8 nodes
  pub plot-right : nodes t ≤ 8 → dots_wrong (nodes t) (plot_of D t) ≡ false
  unfolding plot_of in_reading_order level_count
  plot-right few =
      sound-right (nodes t) (plot_of D t)
      (record {
        entries = length-entries (in_reading_order D t) ∙ ap (λ (k : ℕ). 2 * k) (length-reading D some t accepted);
        levels = subst⁻¹ (All OnLevel) plot-points
            (all_map (node_point D t) (λ v. level t v < 8) OnLevel (λ v h. (level t v, h, refl)) (together (levels (tree_of t)))
            (leveled-all (level t) (λ k. k < 8) 0 (levels (tree_of t)) (λ k a b. omega (arith, neighbours-count t accepted)) (accepted-leveled t accepted)));
        rise = subst⁻¹ (Pairwise Before) plot-points (reading-rises D some t accepted);
      })

-- ---- tables of one shape

-- an accepted table's tree is node 0 over its children
headed : (t : List ℕ) → table_number t ≡ 0 → tree_of t ≡ node 0 (under t 0) nil
unfolding tree_of under
headed t e =
    followed_node t e 0 (accepted-numbers t e).some
    ∙ ap (node 0 (forest t (first_child t 0))) (ap (forest t) (accepted-linked t e).alone ∙ followed_none t e)

-- the points of the nodes of a list, by their places in it
told-by-pairs : (f g : ℕ → Point) (k : ℕ) (l : List ℕ) → All (λ p. g p.1 ≡ f p.0) (numbered_from k l) → map g l ≡ map f (run k (length l))
told-by-pairs f g k [] h = refl
told-by-pairs f g k (x ∷ l) h = ap₂ ◌∷◌ h.0 (told-by-pairs f g (k + 1) l h.1)

same_numbers : (ps : List Pair) → All (λ p. ◌≡◌ {A = ℕ} 0 0) ps
same_numbers [] = tt
same_numbers (p ∷ ps) = (refl, same_numbers ps)

module _ (D : ℕ) (t : List ℕ) (accepted : table_number t ≡ 0) where
  abbrev again : List ℕ
  again = renumbered t

  again-accepted : table_number again ≡ 0
  again-accepted = renumbered-accepted t accepted

  pub nodes-again : nodes again ≡ nodes t
  unfolding renumbered
  nodes-again = nodes-table_of (nodes t) (number_from 0 (tree_of t)) (number_from-numbers (nodes t) (tree_of t) (accepted-numbers t accepted))

  -- each new number and the old one, all the way down
  pairs : corresponding_under again 0 t 0 ≡ numbered_from 0 (old_numbers t)
  unfolding corresponding_under
  pairs =
      ap (λ (l : List Pair). (0, 0) ∷ l) (sym (append-nil (corresponding (under again 0) (under t 0))))
      ∙ ap₂ corresponding (sym (headed again again-accepted)) (sym (headed t accepted))
      ∙ renumbered-map t accepted

  same_shape_lem : same_ordered_shape again 0 t 0 ≡ true
  unfolding same_ordered_shape
  same_shape_lem =
      and_left (same_shape (under again 0) (under t 0)) true
      (sym (ap₂ same_shape (headed again again-accepted) (headed t accepted)) ∙ renumbered_shape t accepted)

  equally : DrawnEqually (apart D) again 0 (apart D) t 0
  equally =
      shapes_equal (apart D) (λ v. 0) (λ v. 0) again t again-accepted accepted 0 0 (accepted-numbers again again-accepted).some (accepted-numbers t accepted).some
      same_shape_lem (same_numbers (corresponding (under again 0) (under t 0)))

  -- both roots stand at 0 on level 0
  no_shift : equally.shift ≡ pos 0
  unfolding corresponding_under
  no_shift =
      sym (+ℤ_idl equally.shift)
      ∙ ap (λ (z : ℤ). z +ℤ equally.shift) (sym (root-place (apart D) again again-accepted))
      ∙ sym equally.places.0
      ∙ root-place (apart D) t accepted

  no-depth : equally.depth ≡ pos 0
  unfolding corresponding_under
  no-depth =
      sym (+ℤ_idl equally.depth)
      ∙ ap (λ (k : ℕ). pos k +ℤ equally.depth) (sym (root-level again again-accepted))
      ∙ sym equally.levels.0
      ∙ ap pos (root-level t accepted)

  same_points : All (λ p. node_point D t p.1 ≡ node_point D again p.0) (corresponding_under again 0 t 0)
  same_points =
      all_both (λ p. place (apart D) t p.1 ≡ place (apart D) again p.0 +ℤ equally.shift) (λ p. pos (level t p.1) ≡ pos (level again p.0) +ℤ equally.depth) _
      (λ p x l.
      ap₂ point (l ∙ ap (λ (z : ℤ). pos (level again p.0) +ℤ z) no-depth ∙ +ℤ_idr (pos (level again p.0)))
      (x ∙ ap (λ (z : ℤ). place (apart D) again p.0 +ℤ z) no_shift ∙ +ℤ_idr (place (apart D) again p.0)))
      (corresponding_under again 0 t 0) equally.places equally.levels

  -- the renumbered table's layout, by old numbers
  laid-again : map (node_point D t) (old_numbers t) ≡ laid_out D again
  unfolding laid_out old_numbers
  laid-again =
      told-by-pairs (node_point D again) (node_point D t) 0 (old_numbers t) (subst (All (λ p. node_point D t p.1 ≡ node_point D again p.0)) pairs same_points)
      ∙ ap (λ (k : ℕ). map (node_point D again) (run 0 k)) (sym (size-preorder (tree_of t)) ∙ accepted-size t accepted ∙ sym nodes-again)
      ∙ ap (map (node_point D again)) (sym (run-up_to (nodes again)))

  pub laid-renumbered : SameSet (laid_out D again) (laid_out D t)
  unfolding laid_out old_numbers
  laid-renumbered =
      subst (λ (l : List Point). SameSet l (laid_out D t)) laid-again
      (mapped_same (node_point D t) (old_numbers t) (up_to (nodes t)) (λ v h. omega (arith, count-up_to (nodes t) v (accepted-inside t accepted v h)))
      (λ v h. omega (arith, (accepted-numbers t accepted).each v (counted-all (λ u. u < nodes t) (up_to (nodes t)) (below-up_to (nodes t)) v h))))

  -- so it fits where its renumbered form does
  pub fits-renumbered : (points : List Point) → table_fits D points again ≡ table_fits D points t
  unfolding table_fits
  fits-renumbered points = same_test (laid_out D again) (laid_out D t) points laid-renumbered
