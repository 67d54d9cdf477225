-- Comparisons of floats are comparisons of fractions. Assumes nothing.
use mathlib.Core.Path.{◌≡◌, refl, sym, ap, ap₂, ◌∙◌}
use mathlib.Core.Logic.{◌⊎◌, inl, inr, ⊎_elim}
use mathlib.Core.Bool.{Bool, true, false, not, ◌&&◌, ◌||◌, beq, and-true}
use Prim.Native.Nat.{ℕ, ◌+◌, ◌*◌, ◌<◌}
use native.Mathlib.Nat.{mul-one, zero-mul, mul-pos, mul_right_comm, eq_of_mul-eq-mul_right, eq-or-lt_of_le}
use native.Mathlib.Omega.{arith}
use lib.Dec.{ltb, leb, eqb}
use lib.IntN.{ℤ}
use lib.Ieee.{Float, nan, inf, fin, up, down, neg, lt, le, eq}
use lib.Ieee.Fits.{up_pos, down_pos}
use lib.Ieee.Exact.{HasValue}
use borrow.Author.Tests.{lt-ltb, le-ltb, leb-true, leb-false, eq-eqb, ne_eqb, eqb-true}
use Rattle.refusal.proofs.Truth.{and_left, or-true}
use Rattle.screen.specs.Fraction.{equals}

-- ---- equal

-- of two sizes, the second above 0: with signs, the second not negative
same_size : (s : Bool) (a b : ℕ) → 0 < b → (eqb a b && (beq s false || eqb a 0)) ≡ (not s && eqb a b)
same_size false a b some = and-true (eqb a b)
same_size true a b some = go (eqb a b) refl
  where
    go : (t : Bool) → eqb a b ≡ t → (t && eqb a 0) ≡ false
    go true e = ne_eqb a 0 (λ z. omega (arith, eqb-true a b e))
    go false e = refl

-- below or equal, where t tells whether they are equal
at_most : (a b : ℕ) (t : Bool) → (a ≡ b → t ≡ true) → ((a ≡ b → ⊥) → t ≡ false) → (ltb a b || (t && true)) ≡ leb a b
at_most a b t same differ = go (leb a b) refl
  where
    go : (l : Bool) → leb a b ≡ l → (ltb a b || (t && true)) ≡ l
    go true e =
        ⊎_elim (λ k. or-true {a = ltb a b} (inr (and-true t ∙ same k))) (λ k. or-true {b = t && true} (inl (lt-ltb a b k)))
        (eq-or-lt_of_le (leb-true a b e))
    go false e =
        let h = leb-false a b e in
        ap₂ (λ (x y : Bool). x || (y && true)) (le-ltb a b (omega arith)) (differ (λ k. omega arith))

-- x is at least -y and at most y
abbrev pub within : Float → Float → Bool
within x y = le (neg y) x && le x y

module _ (n : ℕ) (d : ℤ) (some : 0 < n) where
  above : (e : ℤ) → 0 < n * up d * down e
  above e = mul-pos (mul-pos some (up_pos d)) (down_pos e)

  pub eq-equals : (x : Float) → eq x (fin false n d) ≡ equals x (n * up d) (down d)
  unfolding eq
  eq-equals nan = refl
  eq-equals (inf s) = refl
  eq-equals (fin s m e) = same_size s (m * up e * down d) (n * up d * down e) (above e)

  pub within-size : (s : Bool) (m : ℕ) (e : ℤ) → within (fin s m e) (fin false n d) ≡ leb (m * up e * down d) (n * up d * down e)
  unfolding le lt eq neg
  within-size false m e =
      let a = n * up d * down e in
      let b = m * up e * down d in
      ap₂ ◌&&◌ (or-true (inl (lt-ltb 0 (a + b) (omega (arith, above e))))) (at_most b a (eqb b a) (eq-eqb b a) (ne_eqb b a))
  within-size true m e =
      let a = n * up d * down e in
      let b = m * up e * down d in
      ap₂ ◌&&◌ (at_most b a (eqb a b) (λ k. eq-eqb a b (sym k)) (λ k. ne_eqb a b (λ j. k (sym j))))
      (or-true (inl (lt-ltb 0 (b + a) (omega (arith, above e)))))
      ∙ and-true (leb b a)

-- ---- a float, and a whole number b

-- equal only where the float is b in size
pub eq-size : (y : Float) (t : Bool) (b : ℕ) (s : Bool) (m : ℕ) (e : ℤ) → HasValue y t b 1 → eq y (fin s m e) ≡ true → b * down e ≡ m * up e
unfolding eq
eq-size nan t b s m e y-is equal = elim y-is [ ]
eq-size (inf _) t b s m e y-is equal = elim y-is [ ]
eq-size (fin u n d) t b s m e y-is equal =
    let crossed : n * up d * down e ≡ m * up e * down d = eqb-true (n * up d * down e) (m * up e * down d) (and_left (eqb (n * up d * down e) (m * up e * down d)) _ equal) in
    eq_of_mul-eq-mul_right (down d) (down_pos d) (b * down e) (m * up e)
    (mul_right_comm b (down e) (down d) ∙ ap (λ (k : ℕ). k * down e) (sym y-is.1 ∙ mul-one (n * up d)) ∙ crossed)

-- and equal where it has the sign too, or is 0
pub eq-whole : (y : Float) (t : Bool) (b : ℕ) (s : Bool) (m : ℕ) (e : ℤ) → HasValue y t b 1 → b * down e ≡ m * up e → (t ≡ s) ⊎ (b ≡ 0) → eq y (fin s m e) ≡ true
unfolding eq
eq-whole nan t b s m e y-is same sign = elim y-is [ ]
eq-whole (inf _) t b s m e y-is same sign = elim y-is [ ]
eq-whole (fin u n d) t b s m e y-is same sign =
    let size : n * up d ≡ b * down d = sym (mul-one (n * up d)) ∙ y-is.1 in
    let crossed : n * up d * down e ≡ m * up e * down d = ap (λ (k : ℕ). k * down e) size ∙ mul_right_comm b (down d) (down e) ∙ ap (λ (k : ℕ). k * down d) same in
    let nothing : b ≡ 0 → n * up d * down e ≡ 0 = λ none. rw (size, none, zero-mul, zero-mul) in
    ap₂ ◌&&◌ (eq-eqb (n * up d * down e) (m * up e * down d) crossed)
    (or-true (⊎_elim (λ k. inl (ap (λ (r : Bool). beq r s) (y-is.0 ∙ k) ∙ beq_self s)) (λ k. inr (eq-eqb (n * up d * down e) 0 (nothing k))) sign))
  where
    beq_self : (b : Bool) → beq b b ≡ true
    beq_self true = refl
    beq_self false = refl
