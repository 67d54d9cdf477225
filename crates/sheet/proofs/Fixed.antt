-- The words that the layout fixes: when one agrees and when it differs, and what is fixed in block 0 and in a block of rows.
-- Assumes nothing.
use mathlib.Core.Path.{◌≡◌, refl, sym, ap, ◌∙◌}
use Prim.Native.Nat.{ℕ, zero, suc, ◌+◌, ◌-◌, ◌≤◌, ◌<◌}
use native.Mathlib.Numerals.{sub-one}
use native.Mathlib.Omega.{arith}
use mathlib.Core.Bool.{Bool, true, false, cond}
use mathlib.Core.List.{List}
use mathlib.Core.Option.{none, some}
use lib.Dec.{eqb}
use borrow.Author.Tests.{lt-ltb, le-ltb, eq-eqb, ne_eqb, eqb-true}
use Rattle.blocks.specs.Block.{weighted_place, word_at}
use Rattle.sheet.specs.Layout.{first_word, header_mark, header_words, row_word, rows_in, count_word, used_words, fixed, agrees, fixed_hold, laid_out}
use Rattle.blocks.proofs.Below.{every-at}

module _ (count used : ℕ) (block : List ℕ) where
  -- a used word: word 1 is the count, and the others are free
  pub used-agrees : (k : ℕ) → k < used → word_at block 1 ≡ count → agrees (fixed count used k) (word_at block k) ≡ true
  used-agrees k l h = rw (lt-ltb k used l) (go (eqb k 1) refl)
    where
      go : (b : Bool) → eqb k 1 ≡ b → agrees (cond b (some count) none) (word_at block k) ≡ true
      go true e = eq-eqb _ _ (ap (word_at block) (eqb-true k 1 e) ∙ h)
      go false e = refl

  pub count_differs : (word_at block 1 ≡ count → ⊥) → agrees (fixed count used 1) (word_at block 1) ≡ false
  count_differs h = ne_eqb _ _ h

  -- an unused word is compared with 0
  pub unused : (k : ℕ) → 1 < used → used ≤ k → agrees (fixed count used k) (word_at block k) ≡ eqb (word_at block k) 0
  unused k l m =
      let late : k ≡ 1 → ⊥ = omega arith in
      rw (ne_eqb k 1 late, le-ltb k used m)

  -- what follows for a block where every fixed word agrees
  pub count_held : fixed_hold count used block ≡ true → word_at block 1 ≡ count
  unfolding fixed_hold
  count_held h = eqb-true _ _ (every-at weighted_place _ h 1 (omega arith))

  pub unused-held : 1 < used → (k : ℕ) → used ≤ k → k < weighted_place → fixed_hold count used block ≡ true → word_at block k ≡ 0
  unfolding fixed_hold
  unused-held least k l m h = eqb-true _ _ (sym (unused k least l) ∙ every-at weighted_place _ h k m)

module _ (n : ℕ) (block : List ℕ) where
  pub laid-header : fixed_hold header_mark (first_word + header_words) block ≡ laid_out n 0 block
  unfolding count_word used_words
  laid-header = refl

  pub laid-rows : (b rows : ℕ) → 1 ≤ b → rows ≡ rows_in n (b - 1) → fixed_hold rows (row_word rows) block ≡ laid_out n b block
  unfolding count_word used_words
  laid-rows zero rows h isRows = absurd (omega arith)
  laid-rows (suc b) rows h isRows = rw (isRows, sub-one)
