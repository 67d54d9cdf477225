-- The trees of a list that fit the dots of a plot, the conditions 20, 22 and 6, and what the operation promises.
use Rattle.std.specs.Prelude.{ℕ, suc, ◌≤◌, ◌<◌, ◌≡◌, Bool, true, false, cond, List, [], ◌∷◌, ℤ, Option, Some, None, Result, Ok, Err, length}
use Rattle.refusal.specs.First.{Condition, ◌⇐◌, first}
use Rattle.refusal.specs.After.{granted}
use Rattle.refusal.specs.Number.{number}
use Rattle.refusal.specs.declared.Refusal.{Refusal}
use Rattle.distance.specs.Needed.{bad_separation}
use Rattle.tree.specs.Numbers.{up_to}
use Rattle.tree.specs.Forest.{table_of}
use Rattle.small_trees.specs.SmallTrees.{tree_count, tree_at, most_nodes, size_wrong}
use Rattle.plots.specs.Points.{points_of, table_fits}
use Rattle.plots.specs.declared.Point.{Point}
use Rattle.plots.specs.Dots.{dots_wrong}
use Rattle.trees_of_dots.specs.declared.Trees.{Trees}
use Rattle.trees_of_dots.specs.declared.Values.{Values}

-- ---- the trees that fit

-- the tree at a place of the list of n nodes fits
unfoldable pub fits : ℕ → ℕ → List Point → ℕ → Bool
unfolding table_fits
fits n D points p = table_fits D points (table_of n (tree_at n p))

-- the elements that pass a test
abbrev pub those : {A : Type 0} → (A → Bool) → List A → List A
those test [] = []
those test (x ∷ xs) = cond (test x) (x ∷ those test xs) (those test xs)

-- the places of the trees that fit, from the lowest on
unfoldable pub fitting_places : ℕ → ℕ → List Point → List ℕ
unfolding fits
fitting_places n D points = those (fits n D points) (up_to (tree_count n))

-- the lowest place, and how many there are
abbrev pub answer_of : List ℕ → Option Trees
answer_of [] = None
answer_of (p ∷ ps) = Some (record { lowest = p; count = suc (length ps) })

-- ---- the operation

-- 22 is `dots_wrong` of `plots`, 6 `bad_separation` of `distance`
abbrev pub conditions : ℕ → List ℤ → ℕ → List Condition
conditions n dots D = 20 ⇐ size_wrong n ∷ 22 ⇐ dots_wrong n dots ∷ 6 ⇐ bad_separation D ∷ []

-- the number that the operation gives
unfoldable pub refusal : ℕ → List ℤ → ℕ → ℕ
refusal n dots D = first (conditions n dots D)

-- what each number says
pub data Says (n : ℕ) (dots : List ℤ) (D : ℕ) : ℕ → Type 0 where
  no_size : (1 ≤ n → n ≤ most_nodes → ⊥) → Says n dots D 20
  no-dots : 1 ≤ n → n ≤ most_nodes → dots_wrong n dots ≡ true → Says n dots D 22
  no-separation : 1 ≤ n → n ≤ most_nodes → dots_wrong n dots ≡ false → (1 ≤ D → D ≤ 1024 → ⊥) → Says n dots D 6
  taken : 1 ≤ n → n ≤ most_nodes → dots_wrong n dots ≡ false → 1 ≤ D → D ≤ 1024 → Says n dots D 0

-- a refusal carries none
abbrev pub answer : ℕ → List ℤ → ℕ → Option Trees
answer n dots D = granted (refusal n dots D) (answer_of (fitting_places n D (points_of dots))) None

-- what a call gives: a number, and the trees that it found
pub record Found : Type 0 where
  pub number : ℕ
  pub fitting : Option Trees

-- of a result: 0 where nothing was refused, and none where something was
abbrev pub found_of : Result (Option Trees) Refusal → Found
found_of (Ok fitting) = record { number = 0; fitting = fitting }
found_of (Err refusal) = record { number = number refusal; fitting = None }

pub record TreesOfDots (n : ℕ) (dots : List ℤ) (D : ℕ) (r : Found) : Type 0 where
  pub number : r.number ≡ refusal n dots D
  pub fitting : r.fitting ≡ answer n dots D

-- the number and the values of each case of the answer: the lowest place and the count, or 0 and 0
abbrev pub values_of : ℕ → Option Trees → Values
values_of number (Some trees) = record { number = number; lowest = trees.lowest; count = trees.count }
values_of number None = record { number = number; lowest = 0; count = 0 }

-- what a call gives, in these
pub record TreesOfDotsValues (n : ℕ) (dots : List ℤ) (D : ℕ) (v : Values) : Type 0 where
  pub values : v ≡ values_of (refusal n dots D) (answer n dots D)

-- of a call that is given a tree's layout as dots: it finds the tree at that place of the list among those that fit
pub record FoundAgain (n D : ℕ) (dots : List ℤ) (place : ℕ) (v : Values) : Type 0 where
  pub number : v.number ≡ 0
  pub within : place < tree_count n
  pub here : fits n D (points_of dots) place ≡ true
  pub counted : 1 ≤ v.count
  pub lowest : v.lowest ≤ place
