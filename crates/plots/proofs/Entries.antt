-- The dots of a slice, two entries at a time. Assumes nothing.
use mathlib.Core.Path.{◌≡◌, refl, sym, ap, ap₂, ◌∙◌}
use mathlib.Core.Bool.{Bool, true, false, not, ◌&&◌, ◌||◌}
use mathlib.Core.List.{List, [], ◌∷◌, map}
use Prim.Native.Nat.{ℕ, zero, suc, ◌+◌, ◌*◌, ◌/◌, ◌≤◌, ◌<◌}
use native.Mathlib.Numerals.{add-one}
use native.Mathlib.Omega.{arith}
use lib.IntN.{ℤ, pos, negsuc}
use lib.ListN.{length, get_or, take, drop, drop_of_length-le}
use lib.Seq.{drop-cons}
use borrow.Author.Tests.{eq-eqb, ne_eqb}
use Rattle.std.specs.Simd.{first_chunks}
use Rattle.std.specs.List.{list_any, list_all, zip}
use Rattle.tree.specs.Numbers.{any, run}
use Rattle.tree.proofs.Renumbered.{run-up_to}
use Rattle.plots.specs.Points.{point, point_of, points_of, comes_before, rises_from, rises, same_point, is_among, all_among}
use Rattle.plots.specs.declared.Point.{Point}
use Rattle.plots.specs.Dots.{level_wrong, dots_wrong, points_at}

-- ---- in pairs

pub pair-points : (dots : List ℤ) (n : ℕ) → 2 * n ≤ length dots → length dots < 2 * n + 2 → points_of dots ≡ map point_of (first_chunks 2 n dots)
pair-points [] zero e h = refl
pair-points (l ∷ []) zero e h = refl
pair-points (l ∷ x ∷ dots) zero e h = absurd (omega arith)
pair-points [] (suc n) e h = absurd (omega arith)
pair-points (l ∷ []) (suc n) e h = absurd (omega arith)
pair-points (l ∷ x ∷ dots) (suc n) e h = ap (λ (ps : List Point). point l x ∷ ps) (pair-points dots n (omega arith) (omega arith))

-- the points of the pairs of a slice
pub points_in : (dots : List ℤ) (pairs : List (List ℤ)) → pairs ≡ first_chunks 2 (length dots / 2) dots → map point_of pairs ≡ points_of dots
points_in dots pairs e = ap (map point_of) e ∙ sym (pair-points dots (length dots / 2) (omega arith) (omega arith))

-- ---- judging the dots, one after the other

-- of the dots behind point a, one has a wrong level or does not come after the one before it
abbrev pub wrong_from : Point → List Point → Bool
wrong_from a [] = false
wrong_from a (b ∷ points) = (level_wrong b || not (comes_before a b)) || wrong_from b points

wrong-rises : (a : Point) (points : List Point) → wrong_from a points ≡ (any level_wrong points || not (rises_from a points))
wrong-rises a [] = refl
wrong-rises a (b ∷ points) =
    ap (λ (t : Bool). (level_wrong b || not (comes_before a b)) || t) (wrong-rises b points)
    ∙ sorted (level_wrong b) (comes_before a b) (any level_wrong points) (rises_from b points)
  where
    sorted : (w c v r : Bool) → ((w || not c) || (v || not r)) ≡ ((w || v) || not (c && r))
    sorted true c v r = refl
    sorted false true v r = refl
    sorted false false true r = refl
    sorted false false false r = refl

-- before all dots
abbrev pub start : Point
start = point (negsuc 0) (pos 0)

wrong_start : (points : List Point) → wrong_from start points ≡ (any level_wrong points || not (rises points))
wrong_start [] = refl
wrong_start (b ∷ points) = wrong-rises start (b ∷ points) ∙ first b.level refl
  where
    -- a level that is not wrong is below none that comes before all
    first : (l : ℤ) → b.level ≡ l
        → ((level_wrong b || any level_wrong points) || not (comes_before start b && rises_from b points)) ≡ ((level_wrong b || any level_wrong points) || not (rises_from b points))
    first (pos n) e = ap (λ (t : Bool). (level_wrong b || any level_wrong points) || not (t && rises_from b points)) (ap (λ (l : ℤ). comes_before start (point l b.place)) e)
    first (negsuc n) e =
        let wrong : level_wrong b ≡ true = ap (λ (l : ℤ). level_wrong (point l b.place)) e in
        ap (λ (t : Bool). (t || any level_wrong points) || not (comes_before start b && rises_from b points)) wrong
        ∙ sym (ap (λ (t : Bool). (t || any level_wrong points) || not (rises_from b points)) wrong)

module _ (n : ℕ) (dots : List ℤ) where
  pub wrong-length : (length dots ≡ 2 * n → ⊥) → dots_wrong n dots ≡ true
  unfolding dots_wrong
  wrong-length d =
      ap (λ (t : Bool). (not t || any level_wrong (points_of dots)) || not (rises (points_of dots))) (ne_eqb (length dots) (2 * n) d)

  pub wrong-dots : length dots ≡ 2 * n → wrong_from start (points_of dots) ≡ dots_wrong n dots
  unfolding dots_wrong
  wrong-dots e =
      wrong_start (points_of dots)
      ∙ sym (ap (λ (t : Bool). (not t || any level_wrong (points_of dots)) || not (rises (points_of dots))) (eq-eqb (length dots) (2 * n) e))

-- the dots of so many pairs are judged: the rest, behind the last of them, tells whether the dots are wrong
pub record Judged (n : ℕ) (dots : List ℤ) (pairs : List (List ℤ)) (last : Point) (i : ℕ) : Type 0 where
  pub rest : wrong_from last (map point_of (drop i pairs)) ≡ dots_wrong n dots

module _ (n : ℕ) (dots : List ℤ) (pairs : List (List ℤ)) where
  pub judged_start : length dots ≡ 2 * n → pairs ≡ first_chunks 2 (length dots / 2) dots → Judged n dots pairs start 0
  judged_start e front = record { rest = ap (wrong_from start) (points_in dots pairs front) ∙ wrong-dots n dots e }

  module _ (last : Point) (i : ℕ) (J : Judged n dots pairs last i) where
    -- one pair further
    module _ (next : Point) (h : i < length pairs) (read : next ≡ point_of (get_or pairs i [])) where
      one_more : ((level_wrong next || not (comes_before last next)) || wrong_from next (map point_of (drop (suc i) pairs))) ≡ dots_wrong n dots
      one_more =
          ap (λ (p : Point). (level_wrong p || not (comes_before last p)) || wrong_from p (map point_of (drop (suc i) pairs))) read
          ∙ sym (ap (λ (l : List (List ℤ)). wrong_from last (map point_of l)) (drop-cons pairs i [] h))
          ∙ J.rest

      pub judged_wrong : (level_wrong next || not (comes_before last next)) ≡ true → true ≡ dots_wrong n dots
      judged_wrong wrong = ap (λ (t : Bool). t || wrong_from next (map point_of (drop (suc i) pairs))) (sym wrong) ∙ one_more

      pub judged_next : (level_wrong next || not (comes_before last next)) ≡ false → Judged n dots pairs next (i + 1)
      judged_next right =
          record {
            rest = ap (λ (k : ℕ). wrong_from next (map point_of (drop k pairs))) (add-one i)
                ∙ ap (λ (t : Bool). t || wrong_from next (map point_of (drop (suc i) pairs))) (sym right) ∙ one_more;
          }

    pub judged_end : length pairs ≤ i → false ≡ dots_wrong n dots
    judged_end h = ap (λ (l : List (List ℤ)). wrong_from last (map point_of l)) (sym (drop_of_length-le pairs h)) ∙ J.rest

-- ---- looking for points

-- the dots of pairs, gone through one by one
any-pairs : (pairs : List (List ℤ)) (a : Point) → list_any (λ pair. same_point a (point_of pair)) pairs ≡ is_among (map point_of pairs) a
any-pairs [] a = refl
any-pairs (pair ∷ pairs) a = ap (λ (t : Bool). same_point a (point_of pair) || t) (any-pairs pairs a)

-- the points that levels and places tell side by side
abbrev pub told : ℕ × ℤ → Point
told seen = point (pos seen.0) seen.1

all-told : (pairs : List (List ℤ)) (seen : List (ℕ × ℤ))
    → list_all (λ (p : ℕ × ℤ). list_any (λ pair. same_point (told p) (point_of pair)) pairs) seen ≡ all_among (map point_of pairs) (map told seen)
all-told pairs [] = refl
all-told pairs (p ∷ seen) = ap₂ ◌&&◌ (any-pairs pairs (told p)) (all-told pairs seen)

module _ (levels : List ℕ) (places : List ℤ) where
  told-from : (m v : ℕ) → v + m ≤ length levels → v + m ≤ length places
      → map told (zip (take m (drop v levels)) (take m (drop v places))) ≡ map (λ k. point (pos (get_or levels k 0)) (get_or places k (pos 0))) (run v m)
  told-from zero v h k = refl
  told-from (suc m) v h k =
      ap₂ (λ (ls : List ℕ) (xs : List ℤ). map told (zip (take (suc m) ls) (take (suc m) xs))) (drop-cons levels v 0 (omega arith)) (drop-cons places v (pos 0) (omega arith))
      ∙ ap (λ (ps : List Point). point (pos (get_or levels v 0)) (get_or places v (pos 0)) ∷ ps)
      (ap (λ (i : ℕ). map told (zip (take m (drop i levels)) (take m (drop i places)))) (sym (add-one v)) ∙ told-from m (v + 1) (omega arith) (omega arith))

  pub all_listed : (n : ℕ) (dots : List ℤ) (pairs : List (List ℤ)) → pairs ≡ first_chunks 2 (length dots / 2) dots → n ≤ length levels → n ≤ length places
      → list_all (λ (p : ℕ × ℤ). list_any (λ pair. same_point (told p) (point_of pair)) pairs) (zip (take n levels) (take n places))
      ≡ all_among (points_of dots) (points_at n levels places)
  all_listed n dots pairs front h k =
      all-told pairs (zip (take n levels) (take n places))
      ∙ ap₂ all_among (points_in dots pairs front)
      (told-from n 0 (omega arith) (omega arith) ∙ ap (map (λ v. point (pos (get_or levels v 0)) (get_or places v (pos 0)))) (sym (run-up_to n)))
