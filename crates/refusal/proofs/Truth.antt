-- Laws of or, and, and the two truth values. Assumes nothing.
use mathlib.Core.Path.{◌≡◌, refl, sym, ap, ap₂}
use mathlib.Core.Logic.{◌⊎◌, inl, inr}
use mathlib.Core.Bool.{Bool, true, false, ◌||◌, ◌&&◌, true≢false}

pub true-or-false : (b : Bool) → (b ≡ true) ⊎ (b ≡ false)
true-or-false true = inl refl
true-or-false false = inr refl

pub or-false-left : (a b : Bool) → (a || b) ≡ false → a ≡ false
or-false-left false b e = refl
or-false-left true b e = e

pub or-false-right : (a b : Bool) → (a || b) ≡ false → b ≡ false
or-false-right false b e = e
or-false-right true b e = absurd (true≢false e)

pub or-false : {a b : Bool} → a ≡ false → b ≡ false → (a || b) ≡ false
or-false p q = ap₂ ◌||◌ p q

pub or-true : {a b : Bool} → (a ≡ true) ⊎ (b ≡ true) → (a || b) ≡ true
or-true {b = b} (inl e) = ap (λ (x : Bool). x || b) e
or-true {a = true} (inr e) = refl
or-true {a = false} (inr e) = e

pub and_left : (a b : Bool) → (a && b) ≡ true → a ≡ true
and_left true b e = refl
and_left false b e = e

pub and_right : (a b : Bool) → (a && b) ≡ true → b ≡ true
and_right true b e = e
and_right false b e = absurd (true≢false (sym e))
