-- The tables of the trees of the list: they are accepted, and their levels are the sequences of the list. So a tree with more nodes on a
-- level than there are dots does not fit. Assumes nothing.
use mathlib.Core.Path.{◌≡◌, sym, ap, ◌∙◌, subst⁻¹}
use mathlib.Core.Logic.{⊎_elim}
use mathlib.Core.Bool.{Bool, true, false, false≢true}
use mathlib.Core.List.{List, [], ◌∷◌, ◌++◌}
use Prim.Native.Nat.{ℕ, ◌+◌, ◌*◌, ◌≤◌, ◌<◌}
use native.Mathlib.Nat.{le_refl}
use native.Mathlib.Omega.{arith}
use lib.IntN.{ℤ}
use lib.ListN.{length, get_or, take}
use lib.Seq.{take_at}
use Rattle.refusal.proofs.Truth.{true-or-false}
use Rattle.distance.proofs.Separation.{good-separation}
use Rattle.tree.specs.Numbers.{count}
use Rattle.tree.specs.Table.{nodes}
use Rattle.tree.specs.Forest.{table_of}
use Rattle.tree.specs.WellFormed.{table_number}
use Rattle.tree.proofs.Counting.{is_same}
use Rattle.tree.proofs.Stands.{Numbers}
use Rattle.tree.proofs.TableOf.{table_of-accepted, table_of-tree, nodes-table_of, length-table_of}
use Rattle.small_trees.specs.Sequence.{level_sequence, levels_from, is_sequence, tree_of_levels}
use Rattle.small_trees.specs.SmallTrees.{tree_count, sequence_at, tree_at, most_nodes}
use Rattle.small_trees.proofs.Trees.{sequence-first}
use Rattle.small_trees.proofs.AllComplete.{at-sequence, at_length, at-levels}
use Rattle.small_trees.proofs.Answer.{at-numbers}
use Rattle.small_trees.proofs.Rows.{tree_of-numbers}
use Rattle.small_trees.proofs.Tables.{sequence-table}
use Rattle.plots.specs.Points.{points_of, table_fits}
use Rattle.plots.specs.declared.Point.{Point}
use Rattle.plots.specs.Dots.{levels_in, Profile}
use Rattle.trees_of_dots.specs.TreesOfDots.{fits}
use Rattle.trees_of_dots.specs.Steps.{Plot, Drawable, Exceeds, Passed, TriedAt}
use Rattle.plots.proofs.Sound.{Sound, sound, points-length}
use Rattle.plots.proofs.Laid.{reading-levels, fits-reading}

-- ---- the table of a sequence

module _ (levels : List ℕ) (ok : is_sequence levels ≡ true) (few : length levels ≤ most_nodes) where
  numbers : Numbers (length levels) (tree_of_levels levels)
  numbers = tree_of-numbers levels ok (omega (arith, few))

  pub length-table : length (table_of (length levels) (tree_of_levels levels)) ≡ 2 * length levels
  length-table = length-table_of (length levels) (tree_of_levels levels) numbers

  pub table_drawable : (dots : List ℤ) (D : ℕ) → Plot (length levels) dots D → Drawable (table_of (length levels) (tree_of_levels levels)) dots D
  table_drawable dots D P =
      record {
        accepted = table_of-accepted (length levels) (tree_of_levels levels) numbers;
        plot = subst⁻¹ (λ (n : ℕ). Plot n dots D) (nodes-table_of (length levels) (tree_of_levels levels) numbers) P;
      }

-- ---- the table at a place

-- a sequence has its root on level 0
rooted : (s : List ℕ) → is_sequence s ≡ true → 1 ≤ count 0 s
unfolding is_sequence
rooted [] e = absurd (false≢true e)
rooted (l ∷ ls) e = omega (arith, is_same 0 l (sym (sequence-first l ls e).0))

module _ (n place : ℕ) (few : n ≤ most_nodes) (within : place < tree_count n) where
  abbrev pub table_at : List ℕ
  table_at = table_of n (tree_at n place)

  pub at-accepted : table_number table_at ≡ 0
  at-accepted = table_of-accepted n (tree_at n place) (at-numbers n place few within)

  pub at-nodes : nodes table_at ≡ n
  at-nodes = nodes-table_of n (tree_at n place) (at-numbers n place few within)

  pub at-sequence-levels : level_sequence table_at ≡ sequence_at n place
  at-sequence-levels =
      sequence-table table_at at-accepted ∙ ap (levels_from 0) (table_of-tree n (tree_at n place) (at-numbers n place few within)) ∙ at-levels n place within

  -- it fits where the table of its levels does
  pub fits-levels : (D : ℕ) (points : List Point) (levels : List ℕ) → levels ≡ sequence_at n place
      → table_fits D points (table_of (length levels) (tree_of_levels levels)) ≡ fits n D points place
  unfolding fits tree_at
  fits-levels D points levels e =
      ap (λ (s : List ℕ). table_fits D points (table_of (length s) (tree_of_levels s))) e
      ∙ ap (λ (k : ℕ). table_fits D points (table_of k (tree_of_levels (sequence_at n place)))) (at_length n place within)

  -- and not where it has more nodes on a level than there are dots
  module _ (dots : List ℤ) (D : ℕ) (P : Plot n dots D) (profile : List ℕ) (counted : Profile (points_of dots) profile) where
    pub exceeds_unfit : Exceeds profile (sequence_at n place) → fits n D (points_of dots) place ≡ false
    unfolding fits level_sequence
    exceeds_unfit over = ⊎_elim (λ e. absurd (clash e)) (λ e. e) (true-or-false (fits n D (points_of dots) place))
      where
        S : Sound n dots
        S = sound n dots P.right

        clash : table_fits D (points_of dots) table_at ≡ true → ⊥
        clash e =
            let l = over.0 in
            let some = (good-separation D P.apart).0 in
            let same = fits-reading D some table_at at-accepted (points_of dots) S.rise (points-length n dots S.entries ∙ sym at-nodes) e in
            omega (
              arith,
              over.2,
              counted.count-on l over.1,
              ap (λ (ps : List Point). count l (levels_in ps)) same,
              reading-levels D some table_at at-accepted l,
              ap (count l) at-sequence-levels,
            )

    -- nor where there is no dot for the root
    pub rootless_unfit : get_or profile 0 0 ≡ 0 → fits n D (points_of dots) place ≡ false
    rootless_unfit none = exceeds_unfit (0, omega arith, omega (arith, rooted (sequence_at n place) (at-sequence n place within)))

-- ---- a place that is tried

module _ (n D : ℕ) (dots : List ℤ) (place : ℕ) (P : Plot n dots D) where
  -- its sequence is passed, with those that begin alike
  pub tried-passed : (profile : List ℕ) → Profile (points_of dots) profile → (step : ℕ) → Passed n place profile step
      → TriedAt n D (points_of dots) place (record { fits = false; step = step })
  tried-passed profile counted step S =
      record { here = unfit place (le_refl place) (omega (arith, S.onward)); onward = S.onward; inside = S.inside; between = λ q h k. unfit q (omega arith) k }
    where
      unfit : (q : ℕ) → place ≤ q → q < place + step → fits n D (points_of dots) q ≡ false
      unfit q h k = exceeds_unfit n q P.few (omega (arith, S.inside)) dots D P profile counted (S.skipped q h k)

  -- its levels are stored
  pub tried-stored : place < tree_count n → (levels : List ℕ) → levels ≡ sequence_at n place → (fit : Bool)
      → fit ≡ table_fits D (points_of dots) (table_of (length levels) (tree_of_levels levels)) → TriedAt n D (points_of dots) place (record { fits = fit; step = 1 })
  tried-stored within levels e fit is-fit = record {
    here = sym (is-fit ∙ fits-levels n place P.few within D (points_of dots) levels e);
    onward = le_refl 1;
    inside = omega (arith, within);
    between = λ q h k. absurd (omega arith);
  }

-- of a longer row, the first n levels
pub first_levels : (n place : ℕ) (stored rest : List ℕ) → place < tree_count n → stored ≡ sequence_at n place → take n (stored ++ rest) ≡ sequence_at n place
first_levels n place stored rest within e = take_at stored rest n (ap length e ∙ at_length n place within) ∙ e
