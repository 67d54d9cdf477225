-- The search, place by place: what was found so far is the answer of the places that were tried. Assumes nothing.
use mathlib.Core.Path.{◌≡◌, refl, sym, ap, ◌∙◌}
use mathlib.Core.Bool.{Bool, true, false, cond}
use mathlib.Core.List.{List, [], ◌∷◌, ◌++◌, append-nil}
use Prim.Native.Nat.{ℕ, suc, ◌+◌, ◌≤◌, ◌<◌}
use Rattle.std.proofs.Common.{Option, Some, None}
use native.Mathlib.Omega.{arith}
use lib.IntN.{ℤ}
use lib.ListN.{length, get_or, length-append}
use Rattle.tree.specs.Numbers.{up_to}
use Rattle.second_walk.proofs.EntryForEach.{length-up_to}
use Rattle.small_trees.specs.SmallTrees.{tree_count}
use Rattle.plots.specs.Points.{points_of}
use Rattle.plots.specs.declared.Point.{Point}
use Rattle.plots.specs.Dots.{Profile}
use Rattle.trees_of_dots.specs.TreesOfDots.{fits, those, fitting_places, answer_of}
use Rattle.trees_of_dots.specs.Steps.{Plot, TriedAt, with_place, count_of}
use Rattle.trees_of_dots.specs.declared.Trees.{Trees}
use Rattle.trees_of_dots.specs.declared.search.Tried.{Tried}
use Rattle.trees_of_dots.proofs.Listed.{rootless_unfit}
use Rattle.trees_of_dots.proofs.Those.{those-few, those-onward, none-those}

-- ---- the answer

pub answer-more : (l : List ℕ) (p : ℕ) → answer_of (l ++ p ∷ []) ≡ with_place (answer_of l) p
answer-more [] p = refl
answer-more (x ∷ l) p = ap (λ (k : ℕ). Some (record { lowest = x; count = k })) (ap suc (length-append l (p ∷ [])) ∙ one (length l))
  where
    one : (k : ℕ) → suc (k + 1) ≡ suc k + 1
    one k = omega arith

pub answer-count : (l : List ℕ) → count_of (answer_of l) ≡ length l
answer-count [] = refl
answer-count (x ∷ l) = refl

-- the places below this one are tried
pub record Searched (n D : ℕ) (points : List Point) (found : Option Trees) (place : ℕ) : Type 0 where
  pub within : place ≤ tree_count n
  pub so_far : found ≡ answer_of (those (fits n D points) (up_to place))

module _ (n D : ℕ) (points : List Point) where
  pub search_none : ((q : ℕ) → q < tree_count n → fits n D points q ≡ false) → None ≡ answer_of (fitting_places n D points)
  unfolding fitting_places
  search_none none = sym (ap answer_of (none-those (fits n D points) (tree_count n) none))

  module _ (found : Option Trees) (place : ℕ) (S : Searched n D points found place) where
    -- no more were found than tried
    pub found_few : count_of found ≤ place
    found_few =
        omega (
          arith,
          ap count_of S.so_far,
          answer-count (those (fits n D points) (up_to place)),
          those-few (fits n D points) (up_to place),
          length-up_to place,
        )

    module _ (r : Tried) (T : TriedAt n D points place r) where
      tried : those (fits n D points) (up_to (place + r.step)) ≡ those (fits n D points) (up_to place) ++ cond r.fits (place ∷ []) []
      tried =
          those-onward (fits n D points) place r.step T.onward T.between
          ∙ ap (λ (b : Bool). those (fits n D points) (up_to place) ++ cond b (place ∷ []) []) T.here

      pub search_found : r.fits ≡ true → Searched n D points (with_place found place) (place + r.step)
      search_found e =
          record {
            within = T.inside;
            so_far =
                ap (λ (f : Option Trees). with_place f place) S.so_far
                ∙ sym (answer-more (those (fits n D points) (up_to place)) place)
                ∙ sym (ap answer_of (tried ∙ ap (λ (b : Bool). those (fits n D points) (up_to place) ++ cond b (place ∷ []) []) e));
          }

      pub search_missed : r.fits ≡ false → Searched n D points found (place + r.step)
      search_missed e =
          record {
            within = T.inside;
            so_far =
                S.so_far
                ∙ sym
                (ap answer_of
                (tried ∙ ap (λ (b : Bool). those (fits n D points) (up_to place) ++ cond b (place ∷ []) []) e ∙ append-nil (those (fits n D points) (up_to place))));
          }

    pub search_end : tree_count n ≤ place → found ≡ answer_of (fitting_places n D points)
    unfolding fitting_places
    search_end h =
        let all : place ≡ tree_count n = omega (arith, S.within) in
        S.so_far ∙ ap (λ (k : ℕ). answer_of (those (fits n D points) (up_to k))) all

-- without a dot for the root no tree fits
pub unrooted : (n D : ℕ) (dots : List ℤ) (profile : List ℕ) → Plot n dots D → Profile (points_of dots) profile → get_or profile 0 0 ≡ 0
    → answer_of (fitting_places n D (points_of dots)) ≡ None
unrooted n D dots profile P counted none = sym (search_none n D (points_of dots) (λ q h. rootless_unfit n q P.few h dots D P profile counted none))
