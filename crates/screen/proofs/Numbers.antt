-- What the tests of a float say of the number that it is. Assumes nothing.
use mathlib.Core.Path.{◌≡◌, sym, ap, ap₂, ◌∙◌}
use mathlib.Core.Bool.{Bool, true, false, not, ◌&&◌, false≢true}
use Prim.Native.Nat.{ℕ, zero, suc, ◌*◌, ◌%◌, ◌≤◌, ◌<◌}
use native.Mathlib.Nat.{mul-one, mul-pos, mul-mod_left, mul-le-mul_right}
use native.Mathlib.Omega.{arith}
use lib.Dec.{eqb}
use lib.IntN.{ℤ, pos, nat_abs, pos-ne-negsuc}
use lib.Ieee.{Float, nan, inf, fin, up, down}
use lib.Ieee.Fits.{down_pos}
use borrow.Author.Tests.{eqb-true, eq-eqb, le-leb, not-true}
use Rattle.refusal.proofs.Truth.{and_left, and_right}
use Rattle.screen.specs.Fraction.{signed, Equals, equals}
use Rattle.screen.specs.Screen.{is_centre}
use Rattle.screen.proofs.Signed.{size-signed, size-times}
use Rattle.screen.proofs.Exact.{equals_of}
use Rattle.screen.proofs.Conditions.{centre-is}

-- ---- a fraction above 0

pub equals-true : (x : Float) (a b : ℕ) → equals x a b ≡ true → Equals x (pos a) b
equals-true nan a b e = absurd (false≢true e)
equals-true (inf s) a b e = absurd (false≢true e)
equals-true (fin s m d) a b e =
    ap₂ signed (not-true s (and_left (not s) (eqb (m * up d * b) (a * down d)) e)) (eqb-true (m * up d * b) (a * down d) (and_right (not s) (eqb (m * up d * b) (a * down d)) e))

pub true-equals : (x : Float) (a b : ℕ) → 0 < a → Equals x (pos a) b → equals x a b ≡ true
true-equals nan a b some e = elim e [ ]
true-equals (inf _) a b some e = elim e [ ]
true-equals (fin s m d) a b some e = go s (m * up d * b) (a * down d) (mul-pos some (down_pos d)) e
  where
    go : (s : Bool) (p q : ℕ) → 0 < q → signed s p ≡ pos q → (not s && eqb p q) ≡ true
    go false p q h e = eq-eqb p q (ap nat_abs e)
    go true zero q h e = absurd (omega (arith, ap nat_abs e))
    go true (suc p) q h e = absurd (pos-ne-negsuc q p (sym e))

-- ---- a centre

-- a whole number of at most 2,097,152 in size
pub record Centre (x : Float) : Type 0 where
  pub whole : ℤ
  pub is : Equals x whole 1
  pub most : nat_abs whole ≤ 2097152

pub centre-true : (x : Float) → is_centre x ≡ true → Centre x
centre-true x e =
    let C = centre-is x e in
    record { whole = signed C.sign C.size; is = equals_of x C.sign C.size 1 C.value; most = omega (arith, size-signed C.sign C.size, C.most) }

pub true-centre : (x : Float) → Centre x → is_centre x ≡ true
unfolding is_centre
true-centre nan C = absurd C.is
true-centre (inf s) C = absurd C.is
true-centre (fin s m d) C =
    let size : m * up d ≡ nat_abs C.whole * down d =
    sym (mul-one (m * up d)) ∙ sym (size-signed s (m * up d * 1)) ∙ ap nat_abs C.is ∙ size-times C.whole (down d)
    in
    ap₂ ◌&&◌ (le-leb (m * up d) (2097152 * down d) (rw size (mul-le-mul_right (down d) C.most)))
    (eq-eqb (m * up d % down d) 0 (rw size (mul-mod_left (nat_abs C.whole) (down d))))
