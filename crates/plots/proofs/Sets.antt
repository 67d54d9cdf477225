-- Sets of points: the tests said of members, and a rising list that is told by its set. Assumes nothing.
use mathlib.Core.Path.{◌≡◌, refl, sym, ap, ap₂, ◌∙◌, subst}
use mathlib.Core.Logic.{inl, inr, ⊎_elim}
use mathlib.Core.Bool.{Bool, true, ◌||◌, false≢true, ◌&&◌}
use mathlib.Core.List.Memᴰ
use mathlib.Core.List.{List, [], ◌∷◌, Memᴰ}
use Prim.Native.Nat.{◌≤◌}
use native.Mathlib.Omega.{arith}
use lib.ListN.{length}
use Rattle.refusal.proofs.Truth.{true-or-false, and_left, and_right, or-true}
use Rattle.tree.proofs.Counting.{All}
use Rattle.rule.proofs.ReadingOrder.{Pairwise}
use Rattle.plots.specs.Points.{same_point, is_among, all_among, same_set, Within, SameSet}
use Rattle.plots.specs.declared.Point.{Point}
use Rattle.plots.proofs.Order.{same_point_lem, point-same, Before, never_itself, before-further}

-- ---- the tests

pub among-member : (ps : List Point) (a : Point) → is_among ps a ≡ true → Memᴰ a ps
among-member [] a e = absurd (false≢true e)
among-member (b ∷ ps) a e =
    ⊎_elim (λ s. Memᴰ.head (same_point_lem a b s))
    (λ s. Memᴰ.tail (among-member ps a (ap (λ (t : Bool). t || is_among ps a) (sym s) ∙ e)))
    (true-or-false (same_point a b))

pub member-among : (ps : List Point) (a : Point) → Memᴰ a ps → is_among ps a ≡ true
member-among [] a m = absurd (Memᴰ.not-nil m)
member-among (b ∷ ps) a m =
    ⊎_elim (λ e. or-true (inl (point-same a b e))) (λ k. or-true {a = same_point a b} (inr (member-among ps a k))) (Memᴰ.cases_cons m)

pub all-within : (qs ps : List Point) → all_among qs ps ≡ true → Within ps qs
all-within qs [] e a m = absurd (Memᴰ.not-nil m)
all-within qs (b ∷ ps) e a m =
    ⊎_elim (λ s. Memᴰ.cast s (among-member qs b (and_left (is_among qs b) (all_among qs ps) e)))
    (all-within qs ps (and_right (is_among qs b) (all_among qs ps) e) a) (Memᴰ.cases_cons m)

pub within_all : (qs ps : List Point) → Within ps qs → all_among qs ps ≡ true
within_all qs [] h = refl
within_all qs (b ∷ ps) h =
    ap₂ ◌&&◌ (member-among qs b (h b (Memᴰ.head refl))) (within_all qs ps (λ a m. h a (Memᴰ.tail m)))

module _ (ps qs : List Point) where
  pub set_same : same_set ps qs ≡ true → SameSet ps qs
  unfolding same_set
  set_same e =
      record {
        there = all-within qs ps (and_left (all_among qs ps) (all_among ps qs) e);
        back = all-within ps qs (and_right (all_among qs ps) (all_among ps qs) e);
      }

  pub same_set_lem : SameSet ps qs → same_set ps qs ≡ true
  unfolding same_set
  same_set_lem S = ap₂ ◌&&◌ (within_all qs ps S.there) (within_all ps qs S.back)

-- ---- rising lists

all-member : (P : Point → Type 0) (ps : List Point) → All P ps → (a : Point) → Memᴰ a ps → P a
all-member P [] h a m = absurd (Memᴰ.not-nil m)
all-member P (b ∷ ps) h a m = ⊎_elim (λ e. subst P (sym e) h.0) (all-member P ps h.1 a) (Memᴰ.cases_cons m)

-- of two rising lists, the one in the other
module _ (p : Point) (ps : List Point) (q : Point) (qs : List Point) (P : Pairwise Before (p ∷ ps)) (Q : Pairwise Before (q ∷ qs))
    (inside : Within (p ∷ ps) (q ∷ qs)) where
  -- where both begin with one point, the rest of the one is in the rest of the other
  same_first : p ≡ q → Within ps qs
  same_first e a m =
      ⊎_elim (λ s. absurd (never_itself p (subst (Before p) (s ∙ sym e) (all-member (Before p) ps P.0 a m)))) (λ k. k)
      (Memᴰ.cases_cons (inside a (Memᴰ.tail m)))

  -- where the one's first point comes later in the other, all of the one is there
  later_first : Memᴰ p qs → Within (p ∷ ps) qs
  later_first h a m =
      ⊎_elim (λ s. Memᴰ.cast s h)
      (λ k. ⊎_elim (λ s. absurd (never_itself q (subst (Before q) s (before-further q p a (all-member (Before q) qs Q.0 p h) (all-member (Before p) ps P.0 a k))))) (λ j. j)
      (Memᴰ.cases_cons (inside a m)))
      (Memᴰ.cases_cons m)

pub within-length : (qs ps : List Point) → Pairwise Before ps → Pairwise Before qs → Within ps qs → length ps ≤ length qs
within-length qs [] P Q h = omega arith
within-length [] (p ∷ ps) P Q h = absurd (Memᴰ.not-nil (h p (Memᴰ.head refl)))
within-length (q ∷ qs) (p ∷ ps) P Q h =
    ⊎_elim (λ e. omega (arith, within-length qs ps P.1 Q.1 (same_first p ps q qs P Q h e)))
    (λ m. omega (arith, within-length qs (p ∷ ps) P Q.1 (later_first p ps q qs P Q h m)))
    (Memᴰ.cases_cons (h p (Memᴰ.head refl)))

-- a rising list in another that is no longer is that list
pub within_equal : (qs ps : List Point) → Pairwise Before ps → Pairwise Before qs → Within ps qs → length qs ≤ length ps → ps ≡ qs
within_equal [] [] P Q h few = refl
within_equal (q ∷ qs) [] P Q h few = absurd (omega arith)
within_equal [] (p ∷ ps) P Q h few = absurd (Memᴰ.not-nil (h p (Memᴰ.head refl)))
within_equal (q ∷ qs) (p ∷ ps) P Q h few =
    ⊎_elim (λ e. ap₂ ◌∷◌ e (within_equal qs ps P.1 Q.1 (same_first p ps q qs P Q h e) (omega arith)))
    (λ m. absurd (omega (arith, within-length qs (p ∷ ps) P Q.1 (later_first p ps q qs P Q h m))))
    (Memᴰ.cases_cons (h p (Memᴰ.head refl)))
