-- The order of points, by level and then place, and lists that rise in it. Assumes nothing.
use mathlib.Core.Path.{◌≡◌, refl, sym, ap, ap₂, ◌∙◌, subst}
use mathlib.Core.Logic.{◌⊎◌, inl, inr, ⊎_elim}
use mathlib.Core.Bool.{Bool, true, false, ◌&&◌, ◌||◌, true≢false, false≢true}
use mathlib.Core.List.{List, [], ◌∷◌}
use native.Mathlib.Omega.{arith}
use lib.IntN.{ℤ, pos, negsuc}
use lib.Signed.{lt_z}
use borrow.Author.Tests.{ltb-true, ltb-false, eqb-true, eq-eqb}
use Rattle.refusal.proofs.Truth.{true-or-false, and_left, and_right, or-true}
use Rattle.tree.proofs.Counting.{All, all-weaken}
use Rattle.rule.proofs.Signed.{AtMost, Under}
use Rattle.rule.proofs.ReadingOrder.{Pairwise}
use Rattle.plots.specs.Points.{equal_z, comes_before, rises_from, rises, same_point}
use Rattle.plots.specs.declared.Point.{Point}

-- ---- tests of signed numbers

pub lt_z_true : (x y : ℤ) → lt_z x y ≡ true → Under x y
lt_z_true (pos a) (pos b) e = omega (arith, ltb-true a b e)
lt_z_true (pos a) (negsuc b) e = absurd (false≢true e)
lt_z_true (negsuc a) (pos b) e = omega arith
lt_z_true (negsuc a) (negsuc b) e = omega (arith, ltb-true b a e)

pub lt_z_false : (x y : ℤ) → lt_z x y ≡ false → AtMost y x
lt_z_false (pos a) (pos b) e = omega (arith, ltb-false a b e)
lt_z_false (pos a) (negsuc b) e = omega arith
lt_z_false (negsuc a) (pos b) e = absurd (true≢false e)
lt_z_false (negsuc a) (negsuc b) e = omega (arith, ltb-false b a e)

pub under_lt_z : (x y : ℤ) → Under x y → lt_z x y ≡ true
under_lt_z x y h = ⊎_elim (λ e. e) (λ e. absurd (omega (arith, lt_z_false x y e))) (true-or-false (lt_z x y))

pub equal_z-true : (x y : ℤ) → equal_z x y ≡ true → x ≡ y
equal_z-true (pos a) (pos b) e = ap pos (eqb-true a b e)
equal_z-true (pos a) (negsuc b) e = absurd (false≢true e)
equal_z-true (negsuc a) (pos b) e = absurd (false≢true e)
equal_z-true (negsuc a) (negsuc b) e = ap negsuc (eqb-true a b e)

equal_z_itself : (x : ℤ) → equal_z x x ≡ true
equal_z_itself (pos a) = eq-eqb a a refl
equal_z_itself (negsuc a) = eq-eqb a a refl

pub equal_equal_z : (x y : ℤ) → x ≡ y → equal_z x y ≡ true
equal_equal_z x y e = ap (equal_z x) (sym e) ∙ equal_z_itself x

-- ---- points

pub same_point_lem : (a b : Point) → same_point a b ≡ true → a ≡ b
same_point_lem a b e =
    ap₂ (λ (l x : ℤ). record { level = l; place = x })
    (equal_z-true a.level b.level (and_left (equal_z a.level b.level) (equal_z a.place b.place) e))
    (equal_z-true a.place b.place (and_right (equal_z a.level b.level) (equal_z a.place b.place) e))

pub point-same : (a b : Point) → a ≡ b → same_point a b ≡ true
point-same a b e = ap (same_point a) (sym e) ∙ ap₂ ◌&&◌ (equal_z_itself a.level) (equal_z_itself a.place)

-- a comes before b
abbrev pub Before : Point → Point → Type 0
Before a b = Under a.level b.level ⊎ ((a.level ≡ b.level) × Under a.place b.place)

pub comes_before_lem : (a b : Point) → comes_before a b ≡ true → Before a b
comes_before_lem a b e = go (lt_z a.level b.level) refl
  where
    go : (t : Bool) → lt_z a.level b.level ≡ t → Before a b
    go true f = inl (lt_z_true a.level b.level f)
    go false f =
        let g : (equal_z a.level b.level && lt_z a.place b.place) ≡ true =
        ap (λ (t : Bool). t || (equal_z a.level b.level && lt_z a.place b.place)) (sym f) ∙ e in
        inr (
          equal_z-true a.level b.level (and_left (equal_z a.level b.level) (lt_z a.place b.place) g),
          lt_z_true a.place b.place (and_right (equal_z a.level b.level) (lt_z a.place b.place) g),
        )

pub before_comes : (a b : Point) → Before a b → comes_before a b ≡ true
before_comes a b (inl above) = or-true (inl (under_lt_z a.level b.level above))
before_comes a b (inr beside) =
    or-true {a = lt_z a.level b.level}
    (inr (ap₂ ◌&&◌ (equal_equal_z a.level b.level beside.0) (under_lt_z a.place b.place beside.1)))

pub never_itself : (a : Point) → Before a a → ⊥
never_itself a (inl above) = omega arith
never_itself a (inr beside) = omega (arith, beside.1)

pub before-further : (a b c : Point) → Before a b → Before b c → Before a c
before-further a b c (inl h) (inl k) = inl (omega arith)
before-further a b c (inl h) (inr k) = inl (subst (λ (l : ℤ). Under a.level l) k.0 h)
before-further a b c (inr h) (inl k) = inl (subst (λ (l : ℤ). Under l c.level) (sym h.0) k)
before-further a b c (inr h) (inr k) = inr (h.0 ∙ k.0, omega (arith, h.1, k.1))

-- ---- lists that rise

pub rising-from : (a : Point) (ps : List Point) → rises_from a ps ≡ true → All (Before a) ps × Pairwise Before ps
rising-from a [] e = (tt, tt)
rising-from a (b ∷ ps) e =
    let h = comes_before_lem a b (and_left (comes_before a b) (rises_from b ps) e) in
    let r = rising-from b ps (and_right (comes_before a b) (rises_from b ps) e) in
    ((h, all-weaken (Before b) (Before a) (λ c k. before-further a b c h k) ps r.0), r)

pub rising : (ps : List Point) → rises ps ≡ true → Pairwise Before ps
rising [] e = tt
rising (a ∷ ps) e = rising-from a ps e

from-rising : (a : Point) (ps : List Point) → All (Before a) ps → Pairwise Before ps → rises_from a ps ≡ true
from-rising a [] h r = refl
from-rising a (b ∷ ps) h r = ap₂ ◌&&◌ (before_comes a b h.0) (from-rising b ps r.0 r.1)

pub pairwise_rises : (ps : List Point) → Pairwise Before ps → rises ps ≡ true
pairwise_rises [] r = refl
pairwise_rises (a ∷ ps) r = from-rising a ps r.0 r.1
