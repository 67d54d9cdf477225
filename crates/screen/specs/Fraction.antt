-- The number that a float is. `fin s m e` is m times 2 to the power of e, negative where s is true, and 2 to the power of e is the
-- fraction up e / down e. A NaN and the infinities are no numbers.
use Rattle.std.specs.Prelude.{◌≡◌, Bool, true, false, not, ◌&&◌, ℕ, ◌*◌, ◌/◌, ◌%◌, leb, eqb, ℤ, pos, negsuc, neg_ℤ, ◌*ℤ◌, nat_abs, Float}
use Rattle.std.specs.Float.{nan, inf, fin, binary64}
use Rattle.std.specs.Float.Ieee.{up, down, round}

abbrev pub signed : Bool → ℕ → ℤ
signed false n = pos n
signed true n = neg_ℤ (pos n)

-- x is the fraction k / d
abbrev pub Equals : Float → ℤ → ℕ → Type 0
Equals nan k d = ⊥
Equals (inf s) k d = ⊥
Equals (fin s m e) k d = signed s (m * up e * d) ≡ k *ℤ pos (down e)

-- x is the fraction a / b, which is above 0
abbrev pub equals : Float → ℕ → ℕ → Bool
equals nan a b = false
equals (inf s) a b = false
equals (fin s m e) a b = not s && eqb (m * up e * b) (a * down e)

-- x is a whole number, of at most `most` in size
abbrev pub is_whole : ℕ → Float → Bool
is_whole most nan = false
is_whole most (inf s) = false
is_whole most (fin s m e) = leb (m * up e) (most * down e) && eqb (m * up e % down e) 0

-- x times d without what stands after the point; that number itself where it is whole
abbrev pub whole_part : ℕ → Float → ℤ
whole_part d nan = pos 0
whole_part d (inf s) = pos 0
whole_part d (fin s m e) = signed s (m * up e * d / down e)

abbrev pub negative : ℤ → Bool
negative (pos n) = false
negative (negsuc n) = true

-- the float nearest to k / d
abbrev pub nearest : ℤ → ℕ → Float
nearest k d = round binary64 (negative k) (nat_abs k) d
