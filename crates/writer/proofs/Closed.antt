-- A block whose used words are stored, filled up with zeros and closed, is the block of these words. Assumes nothing.
use Rattle.std.proofs.Common.{◌≡◌, ℕ, ◌+◌, ◌-◌, ◌%◌, ◌<◌, ◌≤◌, List, [], ◌∷◌, length, get_or, replicate, sym, refl, ap, ◌∙◌, ap₂, append_assoc, le_of_eq, lt_of_lt_of_le, arith}
use Rattle.blocks.specs.Block.{block_bytes, word_limit, weighted_place, word_at, listed, word_sum, weighted_sum, closes, closing, padded, weighed, closed}
use Rattle.blocks.proofs.Words.{sum_cong, weighted_cong, sum_more, length-padded, length_whole, before-weighted, at-weighted}
use Rattle.writer.specs.Steps.{store_words, zeroed, check_words, close_block, block_over}
use Rattle.writer.proofs.Stored.{store_more, stored-start, word-stored}

module _ (words old : List ℕ) (fits : length words ≤ weighted_place) (room : block_bytes ≤ length old) where
  filled : zeroed (length words) (store_words old 0 words) ≡ store_words old 0 (padded words)
  unfolding padded
  filled = store_more old 0 words (replicate (weighted_place - length words) 0) (length words) (omega arith)

  -- a block that starts with words is read as these
  word-filled : (k : ℕ) → k < weighted_place → word_at (store_words old 0 (padded words)) k ≡ get_or (padded words) k 0
  word-filled k l =
      let size = length-padded words fits in
      ap (λ (block : List ℕ). word_at block k) (stored-start (padded words) old (omega arith))
      ∙ word-stored (padded words) old k (lt_of_lt_of_le l (le_of_eq (sym size)))

  weighted-filled : weighted_sum (word_at (store_words old 0 (padded words))) ≡ weighted_sum (listed (padded words))
  weighted-filled = weighted_cong _ _ word-filled

  -- so its check words are theirs
  check_filled : check_words (word_at (store_words old 0 (padded words))) ≡ weighted_sum (listed (padded words)) ∷ closing (weighed (padded words)) ∷ []
  unfolding closing
  check_filled =
      let word : ℕ → ℕ = word_at (store_words old 0 (padded words)) in
      let before = sum_cong weighted_place word (listed (weighed (padded words))) (λ k l. word-filled k l ∙ sym (before-weighted words fits k l)) in
      let sum = sum_more weighted_place (listed (weighed (padded words))) _ _ ((word_sum weighted_place word + weighted_sum word) % word_limit) before
      (weighted-filled ∙ sym (at-weighted words fits)) refl
      in
      ap₂ (λ (w c : ℕ). w ∷ c ∷ []) weighted-filled (ap closes sum)

  pub block_closed : close_block (zeroed (length words) (store_words old 0 words)) ≡ block_over words old
  unfolding close_block block_over closed weighed
  block_closed =
      let size = length-padded words fits in
      let whole = length_whole words fits in
      let weighted : ℕ = weighted_sum (listed (padded words)) in
      ap close_block filled
      ∙ ap (store_words (store_words old 0 (padded words)) weighted_place) check_filled
      ∙ store_more old 0 (padded words) (weighted ∷ closing (weighed (padded words)) ∷ []) weighted_place (omega arith)
      ∙ ap (store_words old 0) (sym (append_assoc (padded words) (weighted ∷ []) (closing (weighed (padded words)) ∷ [])))
      ∙ stored-start (closed (weighed (padded words))) old (omega arith)

-- the same in steps
pub block_written : (words old stored zeros last : List ℕ) (used : ℕ) → used ≡ length words → used ≤ weighted_place → block_bytes ≤ length old
    → stored ≡ store_words old 0 words
    → zeros ≡ zeroed used stored
    → last ≡ close_block zeros
    → last ≡ block_over words old
block_written words old stored zeros last used size fits room isStored isZeros is_last =
    is_last ∙ rw (isZeros, isStored, size) (block_closed words old (rw (← size) fits) room)
