-- How many dots stand on each level: the loop that counts them. Assumes nothing.
use mathlib.Core.Path.{◌≡◌, refl, sym, ap, ◌∙◌, subst, subst⁻¹}
use mathlib.Core.Logic.{⊎_elim}
use mathlib.Core.List.{List, [], ◌∷◌, map}
use Prim.Native.Nat.{ℕ, suc, ◌+◌, ◌/◌, ◌≤◌, ◌<◌}
use native.Mathlib.Nat.{zero-add}
use native.Mathlib.Numerals.{add-one}
use native.Mathlib.Omega.{arith}
use lib.IntN.{ℤ, pos, nat_abs}
use lib.ListN.{length, get_or, set, replicate, drop, length-set, length-map, get_or-replicate, drop_of_length-le}
use lib.Seq.{drop-cons, get_or-set_same, get_or-set_other}
use Rattle.std.specs.Simd.{first_chunks}
use Rattle.tree.specs.Numbers.{is, count}
use Rattle.tree.proofs.Counting.{All, is_same, is-cases}
use Rattle.plots.specs.Points.{point_of, points_of}
use Rattle.plots.specs.declared.Point.{Point}
use Rattle.plots.specs.Dots.{levels_in, Profile}
use Rattle.plots.proofs.Entries.{points_in}
use Rattle.plots.proofs.Sound.{OnLevel, Sound, points-length}

count_most : (x : ℕ) (l : List ℕ) → count x l ≤ length l
count_most x [] = omega arith
count_most x (y ∷ l) = ⊎_elim (λ e. omega (arith, e.1, count_most x l)) (λ e. omega (arith, e.1, count_most x l)) (is-cases x y)

-- the dots of the pairs before the i-th are counted
pub record Counting (pairs : List (List ℤ)) (profile : List ℕ) (i : ℕ) : Type 0 where
  pub size : length profile ≡ 8
  pub few : length pairs ≤ 8
  pub left : All OnLevel (map point_of (drop i pairs))
  pub added : (l : ℕ) → l < 8 → get_or profile l 0 + count l (levels_in (map point_of (drop i pairs))) ≡ count l (levels_in (map point_of pairs))

pub count-start : (n : ℕ) (dots : List ℤ) (pairs : List (List ℤ)) → n ≤ 8 → Sound n dots → pairs ≡ first_chunks 2 (length dots / 2) dots → Counting pairs (replicate 8 0) 0
count-start n dots pairs few S front =
    let points = points_in dots pairs front in
    record {
      size = refl;
      few = omega (arith, points-length n dots S.entries, ap length points, length-map pairs point_of);
      left = subst (All OnLevel) (sym points) S.levels;
      added = λ l h. ap (λ (k : ℕ). k + count l (levels_in (map point_of pairs))) (get_or-replicate 8 l 0 0 h) ∙ zero-add (count l (levels_in (map point_of pairs)));
    }

module _ (pairs : List (List ℤ)) (profile : List ℕ) (i : ℕ) (C : Counting pairs profile i) where
  module _ (more : i < length pairs) (level : ℤ) (read : level ≡ (point_of (get_or pairs i [])).level) where
    here : drop i pairs ≡ get_or pairs i [] ∷ drop (suc i) pairs
    here = drop-cons pairs i [] more

    left-next : All OnLevel (map point_of (get_or pairs i [] ∷ drop (suc i) pairs))
    left-next = subst (λ (l : List (List ℤ)). All OnLevel (map point_of l)) here C.left

    on : level ≡ pos left-next.0.0
    on = read ∙ left-next.0.2

    pub level_small : nat_abs level < 8
    level_small = subst⁻¹ (λ (z : ℤ). nat_abs z < 8) on left-next.0.1

    counted_next : (l : ℕ) → l < 8 → get_or profile l 0 + (is l (nat_abs level) + count l (levels_in (map point_of (drop (suc i) pairs)))) ≡ count l (levels_in (map point_of pairs))
    counted_next l h =
        ap (λ (z : ℤ). get_or profile l 0 + (is l (nat_abs z) + count l (levels_in (map point_of (drop (suc i) pairs))))) read
        ∙ ap (λ (ps : List (List ℤ)). get_or profile l 0 + count l (levels_in (map point_of ps))) (sym here)
        ∙ C.added l h

    pub room : get_or profile (nat_abs level) 0 < 8
    room =
        omega (
          arith,
          counted_next (nat_abs level) level_small,
          is_same (nat_abs level) (nat_abs level) refl,
          count_most (nat_abs level) (levels_in (map point_of pairs)),
          length-map (map point_of pairs) (λ (a : Point). nat_abs a.level),
          length-map pairs point_of,
          C.few,
        )

    pub count_next : Counting pairs (set profile (nat_abs level) (get_or profile (nat_abs level) 0 + 1)) (i + 1)
    count_next = subst⁻¹ (Counting pairs (set profile (nat_abs level) (get_or profile (nat_abs level) 0 + 1))) (add-one i) (record {
      size = length-set profile (nat_abs level) (get_or profile (nat_abs level) 0 + 1) ∙ C.size;
      few = C.few;
      left = left-next.1;
      added = λ l h.
          ⊎_elim
          (λ e.
          omega (
            arith,
            counted_next l h,
            e.1,
            ap (λ (k : ℕ). get_or (set profile (nat_abs level) (get_or profile (nat_abs level) 0 + 1)) k 0) e.0,
            get_or-set_same profile (nat_abs level) (get_or profile (nat_abs level) 0 + 1) 0 (omega (arith, C.size, level_small)),
            ap (λ (k : ℕ). get_or profile k 0) e.0,
          ))
          (λ e. omega (arith, counted_next l h, e.1, get_or-set_other profile (nat_abs level) l (get_or profile (nat_abs level) 0 + 1) 0 e.0))
          (is-cases l (nat_abs level));
    })

  pub count-end : (dots : List ℤ) → pairs ≡ first_chunks 2 (length dots / 2) dots → length pairs ≤ i → Profile (points_of dots) profile
  count-end dots front h = subst (λ (ps : List Point). Profile ps profile) (points_in dots pairs front) (record {
    size = C.size;
    count-on = λ l k. omega (arith, C.added l k, ap (λ (ps : List (List ℤ)). count l (levels_in (map point_of ps))) (drop_of_length-le pairs h));
  })
