-- The sheets P1 to P12 and one with wide labels: for each its table, separation and half-widths, and the whole of what a layout gives for it, every slice entry for entry, checked
-- by one computation. Assumes nothing.
use mathlib.Core.Path.{◌≡◌, refl}
use mathlib.Core.List.{List, [], ◌∷◌, ◌++◌, map}
use Prim.Native.Nat.{ℕ, zero, suc, ◌+◌, ◌*◌}
use lib.IntN.{ℤ, pos, neg_ℤ}
use lib.ListN.{replicate}
use Rattle.distance.specs.Needed.{needed, bad_separation, bad_half_widths}
use Rattle.tree.specs.Table.{none, nodes}
use Rattle.tree.specs.Forest.{forest, tree_of}
use Rattle.tree.specs.Levels.{level, level_count, neighbours}
use Rattle.tree.specs.WellFormed.{bad_length, bad_entry, root_has_sibling, named_twice, unnamed, not_reached, table_conditions}
use Rattle.refusal.specs.After.{overwrite, after}
use Rattle.rule.specs.Join.{evenly, added, plain}
use Rattle.rule.specs.Rule.{drawn}
use Rattle.rule.specs.Result.{place, places_of, levels_of, Slices, Answer, Layout, short_results, short_work, layout_number}
use Rattle.rule.proofs.Fixed.{answered, returned, fixed}

pub record Sheet : Type 0 where
  pub table : List ℕ
  pub separation : ℕ
  pub half_widths : List ℕ

-- what a call gives: its answer, and the slices afterwards
pub record Outcome : Type 0 where
  pub answer : Answer
  pub slices : Slices

-- slices that are just long enough for n nodes, with 9 in every entry
pub lent : ℕ → Slices
lent n = record { places = replicate n (pos 9); levels = replicate n 9; the_record = replicate (2 * n) 9; work = replicate (16 * n) (pos 9) }

pub outcome : Sheet → Outcome
unfolding lent
outcome s =
    let given = lent (nodes s.table) in
    let k = layout_number s.table s.separation s.half_widths given in
    let by = plain (needed s.separation s.half_widths) in
    record { answer = answered k by s.table; slices = returned k by s.table given }

-- a sheet whose half-widths are 0
sheet : List ℕ → ℕ → Sheet
sheet t D = record { table = t; separation = D; half_widths = replicate (nodes t) 0 }

refused : ℕ → ℕ → Outcome
unfolding lent
refused k n =
    record { answer = record { number = k; nodes = 0; levels = 0; least = pos 0; greatest = pos 0; pairs = 0 }; slices = lent n }

-- the entries of the record past its pairs, two for each level, are as they were
drawing : ℕ → ℕ → ℤ → ℤ → ℕ → List ℤ → List ℕ → List ℕ → Outcome
drawing n levels least greatest pairs places nodeLevels measured =
    record {
      answer = record { number = 0; nodes = n; levels = levels; least = least; greatest = greatest; pairs = pairs };
      slices = record {
        places = places;
        levels = nodeLevels;
        the_record = measured ++ replicate (2 * levels) 9;
        work = replicate (16 * n) (pos 0);
      };
    }

-- a leaf with a further sibling, and a last leaf
inner : ℕ → List ℕ
inner next = none ∷ next ∷ []

outer : List ℕ
outer = none ∷ none ∷ []

-- m leaves in a row, numbered from k
leaves : ℕ → ℕ → List ℕ
unfolding outer inner
leaves k zero = []
leaves k (suc zero) = outer
leaves k (suc (suc m)) = inner (k + 1) ++ leaves (k + 1) (suc m)

minus : ℕ → ℤ
minus n = neg_ℤ (pos n)

-- P1 to P12
pub sheets : List Sheet
unfolding sheet leaves
sheets =
    sheet (none ∷ none ∷ []) 5
    ∷ sheet (1 ∷ none ∷ 2 ∷ none ∷ none ∷ none ∷ []) 5
    ∷ sheet (1 ∷ none ∷ leaves 1 2) 10
    ∷ sheet (1 ∷ none ∷ leaves 1 2) 3
    ∷ sheet (1 ∷ none ∷ leaves 1 3) 1
    ∷ sheet (1 ∷ none ∷ 2 ∷ 7 ∷ leaves 2 5 ++ (none ∷ 8 ∷ none ∷ 9 ∷ 10 ∷ none ∷ leaves 10 5)) 4
    ∷ sheet (1 ∷ none ∷ 2 ∷ 10 ∷ 3 ∷ none ∷ leaves 3 7 ++ (11 ∷ 14 ∷ leaves 11 3) ++ (15 ∷ none ∷ none ∷ 16 ∷ 17 ∷ 22 ∷ leaves 17 5 ++ (none ∷ none ∷ []))) 2
    ∷ sheet [] 1
    ∷ sheet (none ∷ 1 ∷ none ∷ none ∷ []) 1
    ∷ sheet (0 ∷ none ∷ []) 1
    ∷ sheet (none ∷ none ∷ none ∷ none ∷ []) 1
    ∷ sheet (none ∷ none ∷ []) 0
    ∷ []

-- what each gives; in P1 to P7 places, levels and the record are written out
pub expected : List Outcome
unfolding drawing refused minus
expected =
    drawing 1 1 (pos 0) (pos 0) 0
    (pos 0 ∷ [])
    (0 ∷ [])
    []
    ∷ drawing 3 3 (pos 0) (pos 0) 0
    (pos 0 ∷ pos 0 ∷ pos 0 ∷ [])
    (0 ∷ 1 ∷ 2 ∷ [])
    []
    ∷ drawing 3 2 (minus 5) (pos 5) 1
    (pos 0 ∷ minus 5 ∷ pos 5 ∷ [])
    (0 ∷ 1 ∷ 1 ∷ [])
    (1 ∷ 2 ∷ [])
    ∷ drawing 3 2 (minus 1) (pos 2) 1
    (pos 0 ∷ minus 1 ∷ pos 2 ∷ [])
    (0 ∷ 1 ∷ 1 ∷ [])
    (1 ∷ 2 ∷ [])
    ∷ drawing 4 2 (minus 1) (pos 1) 2
    (pos 0 ∷ minus 1 ∷ pos 0 ∷ pos 1 ∷ [])
    (0 ∷ 1 ∷ 1 ∷ 1 ∷ [])
    (1 ∷ 2 ∷ 2 ∷ 3 ∷ [])
    ∷ drawing 15 3 (minus 18) (pos 18) 12
    (pos 0 ∷ minus 10 ∷ minus 18 ∷ minus 14 ∷ minus 10 ∷ minus 6 ∷ minus 2 ∷ minus 4 ∷ pos 3 ∷ pos 10 ∷ pos 2 ∷ pos 6 ∷ pos 10 ∷ pos 14 ∷ pos 18 ∷ [])
    (0 ∷ 1 ∷ 2 ∷ 2 ∷ 2 ∷ 2 ∷ 2 ∷ 1 ∷ 1 ∷ 1 ∷ 2 ∷ 2 ∷ 2 ∷ 2 ∷ 2 ∷ [])
    (1 ∷ 7 ∷ 7 ∷ 8 ∷ 8 ∷ 9 ∷ 2 ∷ 3 ∷ 3 ∷ 4 ∷ 4 ∷ 5 ∷ 5 ∷ 6 ∷ 6 ∷ 10 ∷ 10 ∷ 11 ∷ 11 ∷ 12 ∷ 12 ∷ 13 ∷ 13 ∷ 14 ∷ [])
    ∷ drawing 23 4 (minus 12) (pos 10) 19
    (pos 0 ∷ minus 6 ∷ minus 6 ∷ minus 12 ∷ minus 10 ∷ minus 8 ∷ minus 6 ∷ minus 4 ∷ minus 2 ∷ pos 0 ∷ minus 1 ∷ minus 3 ∷ minus 1 ∷ pos 1 ∷ pos 6 ∷ pos 4 ∷ pos 6 ∷ pos 2 ∷ pos 4 ∷ pos 6 ∷ pos 8 ∷ pos 10 ∷ pos 8 ∷ [])
    (0 ∷ 1 ∷ 2 ∷ 3 ∷ 3 ∷ 3 ∷ 3 ∷ 3 ∷ 3 ∷ 3 ∷ 1 ∷ 2 ∷ 2 ∷ 2 ∷ 1 ∷ 2 ∷ 2 ∷ 3 ∷ 3 ∷ 3 ∷ 3 ∷ 3 ∷ 2 ∷ [])
    (1 ∷ 10 ∷ 10 ∷ 14 ∷ 2 ∷ 11 ∷ 11 ∷ 12 ∷ 12 ∷ 13 ∷ 13 ∷ 15 ∷ 15 ∷ 16 ∷ 16 ∷ 22 ∷ 3 ∷ 4 ∷ 4 ∷ 5 ∷ 5 ∷ 6 ∷ 6 ∷ 7 ∷ 7 ∷ 8 ∷ 8 ∷ 9 ∷ 9 ∷ 17 ∷ 17 ∷ 18 ∷ 18 ∷ 19 ∷ 19 ∷ 20 ∷ 20 ∷ 21 ∷ [])
    ∷ refused 1 0
    ∷ refused 3 2
    ∷ refused 4 1
    ∷ refused 5 2
    ∷ refused 6 1
    ∷ []

pub checked : map outcome sheets ≡ expected
unfolding outcome sheets expected drawing refused minus lent leaves inner outer sheet forest tree_of level level_count neighbours bad_length bad_entry root_has_sibling named_twice unnamed not_reached table_conditions evenly added drawn place places_of levels_of bad_separation bad_half_widths short_results short_work layout_number overwrite after
checked = refl

-- whatever meets the layout's contract gives that outcome
pub called : (s : Sheet) (a : Answer) (u : Slices) → Layout s.table s.separation s.half_widths (lent (nodes s.table)) a u → record { answer = a; slices = u } ≡ outcome s
unfolding outcome
called s a u L =
    let f = fixed L in
    λ i. record { answer = f.0 i; slices = f.1 i }

-- P6 with wide labels: node 7 needs 10 on either side, and where the two families meet nodes 6 and 10 need 11, a conflict of 6.
pub wide : Sheet
unfolding leaves
wide =
    record {
      table = 1 ∷ none ∷ 2 ∷ 7 ∷ leaves 2 5 ++ (none ∷ 8 ∷ none ∷ 9 ∷ 10 ∷ none ∷ leaves 10 5);
      separation = 4;
      half_widths = 0 ∷ 0 ∷ 0 ∷ 0 ∷ 0 ∷ 0 ∷ 2 ∷ 6 ∷ 0 ∷ 0 ∷ 5 ∷ 0 ∷ 0 ∷ 0 ∷ 0 ∷ [];
    }

pub wide-expected : Outcome
unfolding drawing minus
wide-expected =
    drawing 15 3 (minus 24) (pos 26) 12
    (pos 0 ∷ minus 15 ∷ minus 24 ∷ minus 20 ∷ minus 16 ∷ minus 12 ∷ minus 6 ∷ minus 3 ∷ pos 9 ∷ pos 15 ∷ pos 5 ∷ pos 14 ∷ pos 18 ∷ pos 22 ∷ pos 26 ∷ [])
    (0 ∷ 1 ∷ 2 ∷ 2 ∷ 2 ∷ 2 ∷ 2 ∷ 1 ∷ 1 ∷ 1 ∷ 2 ∷ 2 ∷ 2 ∷ 2 ∷ 2 ∷ [])
    (1 ∷ 7 ∷ 7 ∷ 8 ∷ 8 ∷ 9 ∷ 2 ∷ 3 ∷ 3 ∷ 4 ∷ 4 ∷ 5 ∷ 5 ∷ 6 ∷ 6 ∷ 10 ∷ 10 ∷ 11 ∷ 11 ∷ 12 ∷ 12 ∷ 13 ∷ 13 ∷ 14 ∷ [])

pub wide-checked : outcome wide ≡ wide-expected
unfolding outcome wide wide-expected drawing minus lent leaves inner outer forest tree_of level level_count neighbours bad_length bad_entry root_has_sibling named_twice unnamed not_reached table_conditions evenly added drawn place places_of levels_of bad_separation bad_half_widths short_results short_work layout_number overwrite after
wide-checked = refl

-- 17 is tried after 6 and before 7: a half-width of 257, and no room for results
pub seventeen_tried : (layout_number (none ∷ none ∷ []) 0 (257 ∷ []) (lent 0) ≡ 6) × (layout_number (none ∷ none ∷ []) 1 (257 ∷ []) (lent 0) ≡ 17)
    × (layout_number (none ∷ none ∷ []) 1 (256 ∷ 257 ∷ []) (lent 0) ≡ 7)
unfolding lent forest tree_of bad_length bad_entry root_has_sibling named_twice unnamed not_reached table_conditions bad_separation bad_half_widths short_results short_work layout_number
seventeen_tried = (refl, refl, refl)
