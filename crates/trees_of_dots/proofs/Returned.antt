-- Of what a call of `trees_of_dots` returns, in its values. Assumes nothing.
use mathlib.Core.Path.{◌≡◌, refl, sym, ap, ap₂, ◌∙◌, subst, subst⁻¹}
use mathlib.Core.Logic.{⊎_elim}
use mathlib.Core.Bool.{Bool, true, false, cond, true≢false}
use mathlib.Core.List.{List, [], ◌∷◌}
use Prim.Native.Nat.{ℕ, ◌≤◌, ◌<◌}
use Rattle.std.proofs.Common.{Option, Some, None}
use native.Mathlib.Omega.{arith}
use lib.IntN.{ℤ}
use lib.ListN.{length}
use Rattle.refusal.proofs.After.{granted-accepted, granted-refused}
use Rattle.distance.specs.Needed.{half_width}
use Rattle.distance.proofs.Separation.{separation-good}
use Rattle.tree.specs.Numbers.{up_to, run, count}
use Rattle.tree.specs.Table.{nodes}
use Rattle.tree.specs.Forest.{table_of}
use Rattle.tree.specs.WellFormed.{table_number}
use Rattle.tree.proofs.Counting.{below_or_not, below-up_to, count-up_to, count-outside}
use Rattle.tree.proofs.Renumbered.{run-up_to}
use Rattle.tree.proofs.Stands.{accepted-numbers}
use Rattle.rule.specs.Result.{Slices, Answer, Layout}
use Rattle.layout.proofs.Answers.{taken}
use Rattle.layout.proofs.Returned as layout
use Rattle.small_trees.specs.SmallTrees.{tree_count, tree_at, most_nodes}
use Rattle.plots.specs.Points.{points_of, SameSet, laid_out, plot_of, table_fits}
use Rattle.plots.specs.declared.Point.{Point}
use Rattle.plots.specs.Dots.{dots_wrong, points_at}
use Rattle.trees_of_dots.specs.TreesOfDots.{fits, those, fitting_places, answer_of, refusal, Says, answer, Found, TreesOfDots, values_of, TreesOfDotsValues, FoundAgain}
use Rattle.trees_of_dots.specs.Steps.{Plot}
use Rattle.trees_of_dots.specs.declared.Trees.{Trees}
use Rattle.trees_of_dots.specs.declared.Values.{Values}
use Rattle.plots.proofs.Sets.{set_same, same_set_lem}
use Rattle.trees_of_dots.proofs.Numbers.{number_0, accepted, number-says}
use Rattle.trees_of_dots.proofs.Drawn.{drawn-points}
use Rattle.trees_of_dots.proofs.Listed.{at-accepted, at-nodes}
use Rattle.trees_of_dots.proofs.Those.{those-first, those-none, those-count}
use Rattle.plots.proofs.Shapes.{plot-laid, plot-right}
use Rattle.trees_of_dots.proofs.Tables.{place_of, place-within, fits-place}

-- what `trees_of_dots` answers, in its values
pub told : (n : ℕ) (dots : List ℤ) (D : ℕ) (r : Found) → TreesOfDots n dots D r → TreesOfDotsValues n dots D (values_of r.number r.fitting)
told n dots D r F = record { values = ap₂ values_of F.number F.fitting }

-- a tree fits just where its layout has the points, as a set
module _ (D : ℕ) (points : List Point) (t : List ℕ) where
  pub fits_told : table_fits D points t ≡ true → SameSet (laid_out D t) points
  unfolding table_fits
  fits_told = set_same (laid_out D t) points

  pub told-fits : SameSet (laid_out D t) points → table_fits D points t ≡ true
  unfolding table_fits
  told-fits = same_set_lem (laid_out D t) points

-- ---- a call

module _ (n : ℕ) (dots : List ℤ) (D : ℕ) (v : Values) (call : TreesOfDotsValues n dots D v) where
  number-kept : (k : ℕ) (f : Option Trees) → (values_of k f).number ≡ k
  number-kept k (Some trees) = refl
  number-kept k None = refl

  pub number-returned : v.number ≡ refusal n dots D
  number-returned = ap (λ (w : Values). w.number) call.values ∙ number-kept (refusal n dots D) (answer n dots D)

  -- its number says what it says of n, the dots and the separation
  pub says-returned : Says n dots D v.number
  says-returned = subst⁻¹ (Says n dots D) number-returned (number-says n dots D)

  -- a refusal carries none
  pub refused-returned : (v.number ≡ 0 → ⊥) → v ≡ values_of v.number None
  refused-returned other =
      call.values
      ∙ ap₂ values_of (sym number-returned)
      (granted-refused (refusal n dots D) (answer_of (fitting_places n D (points_of dots))) None (λ e. other (number-returned ∙ e)))

  module _ (ok : v.number ≡ 0) where
    none : refusal n dots D ≡ 0
    none = sym number-returned ∙ ok

    P : Plot n dots D
    P = accepted n dots D none

    abbrev points : List Point
    points = points_of dots

    -- the places of the trees that fit: each of the list is there once where it fits, and no other is
    abbrev pub places : List ℕ
    places = fitting_places n D points

    pub places-returned : (p : ℕ) → p < tree_count n → count p places ≡ cond (fits n D points p) 1 0
    unfolding fitting_places
    places-returned p h =
        those-count (fits n D points) p (up_to (tree_count n)) ∙ ap (λ (k : ℕ). cond (fits n D points p) k 0) (count-up_to (tree_count n) p h)

    pub no-others-returned : (p : ℕ) → tree_count n ≤ p → count p places ≡ 0
    unfolding fitting_places
    no-others-returned p h =
        those-count (fits n D points) p (up_to (tree_count n))
        ∙ ap (λ (k : ℕ). cond (fits n D points p) k 0) (count-outside (tree_count n) (up_to (tree_count n)) (below-up_to (tree_count n)) p h)
        ∙ nothing (fits n D points p)
      where
        nothing : (b : Bool) → ◌≡◌ {A = ℕ} (cond b 0 0) 0
        nothing true = refl
        nothing false = refl

    answered : v ≡ values_of 0 (answer_of places)
    answered = call.values ∙ ap₂ values_of none (granted-accepted (refusal n dots D) (answer_of places) None none)

    -- how many there are
    pub count-returned : v.count ≡ length places
    count-returned = ap (λ (w : Values). w.count) answered ∙ go places
      where
        go : (l : List ℕ) → (values_of 0 (answer_of l)).count ≡ length l
        go [] = refl
        go (x ∷ l) = refl

    -- the lowest: it fits, and none below it does
    pub lowest-returned : 1 ≤ v.count → (v.lowest < tree_count n) × (fits n D points v.lowest ≡ true) × ((q : ℕ) → q < v.lowest → fits n D points q ≡ false)
    unfolding fitting_places
    lowest-returned some = go places refl
      where
        all : those (fits n D points) (run 0 (tree_count n)) ≡ places
        all = ap (those (fits n D points)) (sym (run-up_to (tree_count n)))

        go : (l : List ℕ) → places ≡ l → (v.lowest < tree_count n) × (fits n D points v.lowest ≡ true) × ((q : ℕ) → q < v.lowest → fits n D points q ≡ false)
        go [] e = absurd (omega (arith, some, count-returned, ap length e))
        go (x ∷ l) e =
            let least : v.lowest ≡ x = ap (λ (w : Values). w.lowest) answered ∙ ap (λ (m : List ℕ). (values_of 0 (answer_of m)).lowest) e in
            let r = those-first (fits n D points) 0 (tree_count n) x l (all ∙ e) in
            (omega (arith, r.1), ap (fits n D points) least ∙ r.2, λ q h. r.3 q (omega arith) (omega arith))

    -- where the count is 0, no tree of the list fits
    none-listed : v.count ≡ 0 → (p : ℕ) → p < tree_count n → fits n D points p ≡ false
    unfolding fitting_places
    none-listed zero p h =
        those-none (fits n D points) 0 (tree_count n) (ap (those (fits n D points)) (sym (run-up_to (tree_count n))) ∙ empty places (omega (arith, count-returned))) p (omega arith) (omega arith)
      where
        empty : (l : List ℕ) → length l ≡ 0 → l ≡ []
        empty [] e = refl
        empty (x ∷ l) e = absurd (omega arith)

    -- the place of a table of n nodes
    fits-listed : (t : List ℕ) (e : table_number t ≡ 0) → (same : nodes t ≡ n) → (p : ℕ) × (p < tree_count n) × (fits n D points p ≡ table_fits D points t)
    fits-listed t e same =
        let few : nodes t ≤ most_nodes = omega (arith, P.few) in
        subst (λ (k : ℕ). (p : ℕ) × (p < tree_count k) × (fits k D points p ≡ table_fits D points t)) same
        (place_of t e few, place-within t e few, fits-place t e few D points)

    -- none just where no tree of n nodes fits at all
    pub none-returned : v.count ≡ 0 → (t : List ℕ) → table_number t ≡ 0 → nodes t ≡ n → table_fits D points t ≡ false
    none-returned zero t e same = let r = fits-listed t e same in sym r.2 ∙ none-listed zero r.0 r.1

    pub returned-none : ((t : List ℕ) → table_number t ≡ 0 → nodes t ≡ n → table_fits D points t ≡ false) → v.count ≡ 0
    unfolding fits
    returned-none unfit =
        ⊎_elim (λ h. omega (arith, h.0))
        (λ h.
        let l = lowest-returned h.0 in
        absurd
        (true≢false
        (sym l.1 ∙ unfit (table_of n (tree_at n v.lowest)) (at-accepted n v.lowest P.few l.0) (at-nodes n v.lowest P.few l.0))))
        (below_or_not v.count 1)

    -- a place that fits is counted, and is not below the lowest
    pub at-least-returned : (p : ℕ) → p < tree_count n → fits n D points p ≡ true → (1 ≤ v.count) × (v.lowest ≤ p)
    at-least-returned p h here =
        let some : 1 ≤ v.count = ⊎_elim (λ k. absurd (true≢false (sym here ∙ none-listed (omega (arith, k.0)) p h))) (λ k. k.0) (below_or_not v.count 1) in
        (some, ⊎_elim (λ k. absurd (true≢false (sym here ∙ (lowest-returned some).2 p k.0))) (λ k. k.0) (below_or_not p v.lowest))

-- ---- a layout that is handed back as dots

module _ (D : ℕ) (some : 1 ≤ D) (small : D ≤ 1024) (t : List ℕ) (e : table_number t ≡ 0) (few : nodes t ≤ most_nodes) where
  -- from any dots that are right and have the layout's points as a set,
  pub found_returned : (dots : List ℤ) → dots_wrong (nodes t) dots ≡ false → SameSet (laid_out D t) (points_of dots) → (v : Values) → TreesOfDotsValues (nodes t) dots D v
      → FoundAgain (nodes t) D dots (place_of t e few) v
  found_returned dots right same v call =
      let ok : v.number ≡ 0 = number-returned (nodes t) dots D v call ∙ number_0 (nodes t) dots D (accepted-numbers t e).some few right (separation-good D some small) in
      let here = fits-place t e few D (points_of dots) ∙ told-fits D (points_of dots) t same in
      let r = at-least-returned (nodes t) dots D v call ok (place_of t e few) (place-within t e few) here in
      record { number = ok; within = place-within t e few; here = here; counted = r.0; lowest = r.1 }

  -- and so from its plot
  pub plot-returned : (v : Values) → TreesOfDotsValues (nodes t) (plot_of D t) D v → FoundAgain (nodes t) D (plot_of D t) (place_of t e few) v
  plot-returned = found_returned (plot_of D t) (plot-right D some t e few) (plot-laid D some t e)

-- the same of what an accepted call of the layout leaves, where no node has a half-width above 0
pub laid-returned : (t : List ℕ) (D : ℕ) (hs : List ℕ) (s : Slices) (a : Answer) (u : Slices) (L : Layout t D hs s a u) (ok : a.number ≡ 0)
    → ((v : ℕ) → v < nodes t → half_width hs v ≡ 0) → (few : nodes t ≤ most_nodes) (dots : List ℤ) → dots_wrong (nodes t) dots ≡ false
    → SameSet (points_at (nodes t) u.levels u.places) (points_of dots) → (v : Values) → TreesOfDotsValues (nodes t) dots D v
    → FoundAgain (nodes t) D dots (place_of t (layout.accepted (layout.layout-call L ok)) few) v
laid-returned t D hs s a u L ok none few dots right same v call =
    let T = taken t D hs s (sym L.number ∙ ok) in
    found_returned D T.some T.small t (layout.accepted (layout.layout-call L ok)) few dots right
    (subst (λ (l : List Point). SameSet l (points_of dots)) (drawn-points t D hs s a u L ok none) same) v call
