-- The label at a place of a text: digit by digit, and of a number's digits. Assumes nothing.
use mathlib.Core.Path.{◌≡◌, refl, sym, ap, ◌∙◌}
use Prim.Native.Nat.{ℕ, suc, ◌+◌, ◌-◌, ◌*◌, ◌≤◌, ◌<◌}
use native.Mathlib.Omega.{arith}
use mathlib.Core.Bool.{Bool, true, false, cond}
use mathlib.Core.List.{List, [], ◌∷◌, ◌++◌}
use lib.ListN.{length, get_or, drop}
use Rattle.lines.specs.Decimal.{zero_byte, decimal, value_after}
use Rattle.lines.proofs.ReadBack.{read_back}
use Rattle.tree.proofs.Counting.{All}
use Rattle.tree.proofs.Places.{from_place}
use Rattle.newick.specs.Text.{most_label}
use Rattle.newick.specs.Reading.{is_digit}
use Rattle.newick.specs.Steps.{leading, label_after, label_at, LabelHere}
use Rattle.newick.proofs.Digits.{decimal-digits}

-- ---- by what the test says of the first byte

leading-first : (b : Bool) (byte : ℕ) (bytes : List ℕ) → is_digit byte ≡ b → leading (byte ∷ bytes) ≡ cond b (suc (leading bytes)) 0
unfolding leading
leading-first b byte bytes h = ap (λ (b : Bool). cond b (suc (leading bytes)) 0) h

label-first : (b : Bool) (m byte : ℕ) (bytes : List ℕ) → is_digit byte ≡ b
    → label_after m (byte ∷ bytes) ≡ cond b (label_after (10 * m + (byte - zero_byte)) bytes) m
unfolding label_after
label-first b m byte bytes h = ap (λ (b : Bool). cond b (label_after (10 * m + (byte - zero_byte)) bytes) m) h

-- digits only make a number greater
label-grows : (m : ℕ) (bytes : List ℕ) → m ≤ label_after m bytes
unfolding label_after
label-grows m [] = omega arith
label-grows m (byte ∷ bytes) = go (is_digit byte) (label-grows (10 * m + (byte - zero_byte)) bytes)
  where
    go : (b : Bool) → 10 * m + (byte - zero_byte) ≤ label_after (10 * m + (byte - zero_byte)) bytes
        → m ≤ cond b (label_after (10 * m + (byte - zero_byte)) bytes) m
    go true h = omega arith
    go false h = omega arith

-- and of the byte at a place
module _ (b : Bool) (text : List ℕ) (end : ℕ) (within : end < length text) (h : is_digit (get_or text end 0) ≡ b) where
  leading_at : leading (drop end text) ≡ cond b (suc (leading (drop (end + 1) text))) 0
  leading_at = ap leading (from_place text end 0 within) ∙ leading-first b (get_or text end 0) (drop (end + 1) text) h

  label_at_lem : (m : ℕ) → label_after m (drop end text) ≡ cond b (label_after (10 * m + (get_or text end 0 - zero_byte)) (drop (end + 1) text)) m
  label_at_lem m = ap (label_after m) (from_place text end 0 within) ∙ label-first b m (get_or text end 0) (drop (end + 1) text) h

-- ---- the loop over a label's digits

-- with the digits before `end` passed, and `value` the number that they stand for
abbrev pub Passed : List ℕ → ℕ → ℕ → ℕ → Type 0
Passed text at value end = (label_after value (drop end text) ≡ label_at text at) × (end + leading (drop end text) ≡ at + leading (drop at text))

-- a turn of the loop, at a digit
pub record DigitTurn (text : List ℕ) (at value end : ℕ) : Type 0 where
  pub fits : 10 * value + (get_or text end 0 - zero_byte) ≤ most_label
  pub falls : leading (drop (end + 1) text) < leading (drop end text)
  pub again : Passed text at (10 * value + (get_or text end 0 - zero_byte)) (end + 1)

module _ (text : List ℕ) (at value end : ℕ) (here : LabelHere text at) (passed : Passed text at value end) where
  pub passed-within : end < length text
  passed-within = omega (arith, here.ends, passed.1)

  pub passed_turn : is_digit (get_or text end 0) ≡ true → DigitTurn text at value end
  passed_turn h = record {
    fits = omega (arith, here.fits, again.0, label-grows (10 * value + (get_or text end 0 - zero_byte)) (drop (end + 1) text));
    falls = omega (arith, one_less);
    again = again;
  }
    where
      one_less : leading (drop end text) ≡ suc (leading (drop (end + 1) text))
      one_less = leading_at true text end passed-within h

      again : Passed text at (10 * value + (get_or text end 0 - zero_byte)) (end + 1)
      again = (sym (label_at_lem true text end passed-within h value) ∙ passed.0, omega (arith, one_less, passed.1))

  pub passed-label : is_digit (get_or text end 0) ≡ false → value ≡ label_at text at
  passed-label h = sym (label_at_lem false text end passed-within h value) ∙ passed.0

  pub passed-end : is_digit (get_or text end 0) ≡ false → end ≡ at + leading (drop at text)
  passed-end h = omega (arith, leading_at false text end passed-within h, passed.1)

-- ---- a number's digits

leading-digits : (digits more : List ℕ) → All (λ byte. is_digit byte ≡ true) digits → leading (digits ++ more) ≡ length digits + leading more
leading-digits [] more a = omega arith
leading-digits (byte ∷ digits) more a = omega (arith, leading-first true byte (digits ++ more) a.0, leading-digits digits more a.1)

label-digits : (m : ℕ) (digits more : List ℕ) → All (λ byte. is_digit byte ≡ true) digits
    → label_after m (digits ++ more) ≡ label_after (value_after m digits) more
unfolding value_after
label-digits m [] more a = refl
label-digits m (byte ∷ digits) more a = label-first true m byte (digits ++ more) a.0 ∙ label-digits (10 * m + (byte - zero_byte)) digits more a.1

-- where a number's digits stand at a place, and then a byte that is no digit
module _ (text : List ℕ) (at v byte : ℕ) (more : List ℕ) (here : drop at text ≡ decimal v ++ byte ∷ more) (ends : is_digit byte ≡ false) where
  pub leading-here : leading (drop at text) ≡ length (decimal v)
  leading-here = omega (arith, ap leading here ∙ leading-digits (decimal v) (byte ∷ more) (decimal-digits v), leading-first false byte more ends)

  pub label-here : label_at text at ≡ v
  label-here =
      ap (label_after 0) here
      ∙ label-digits 0 (decimal v) (byte ∷ more) (decimal-digits v)
      ∙ ap (λ (m : ℕ). label_after m (byte ∷ more)) (read_back v)
      ∙ label-first false v byte more ends
