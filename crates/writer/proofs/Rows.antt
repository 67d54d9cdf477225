-- The rows of a block, stored one after the other, and the zeros behind them. Assumes nothing.
use Rattle.std.proofs.Common.{◌≡◌, ℕ, ◌+◌, ◌-◌, ◌*◌, ◌<◌, ◌≤◌, List, length, replicate, take, drop, zero, suc, ◌++◌, append_assoc, sym, refl, ap, ◌∙◌, arith}
use lib.ListN.{length-replicate}
use lib.Seq.{sets, sets-eq, drop-drop}
use borrow.Rule.Slice.PartMut.{put_mid}
use Rattle.blocks.specs.Block.{block_bytes, weighted_place, bytes_of}
use Rattle.sheet.specs.Layout.{first_word, row_words, row_word, node_word, block_rows, rows_in}
use Rattle.sheet.specs.File.{row}
use Rattle.blocks.proofs.Below.{joined-more, length-joined}
use Rattle.sheet.proofs.Places.{row_at}
use Rattle.writer.specs.Steps.{store_words, rows_from, zeroed}
use Rattle.writer.proofs.Stored.{stored_next}

module _ (table tapes half_widths : List ℕ) (first : ℕ) where
  pub length-rows : (k : ℕ) → length (rows_from table tapes half_widths first k) ≡ row_words * k
  unfolding row
  length-rows k = length-joined row_words (λ i. row table tapes half_widths (first + i)) (λ i. refl) k

  -- the row of one node more
  pub rows_more : (block current last : List ℕ) (k : ℕ) → current ≡ store_words block first_word (rows_from table tapes half_widths first k)
      → last ≡ store_words current (row_word k) (row table tapes half_widths (first + k))
      → last ≡ store_words block first_word (rows_from table tapes half_widths first (k + 1))
  rows_more block current last k isCurrent is_last =
      stored_next block first_word (rows_from table tapes half_widths first k) (row table tapes half_widths (first + k)) current last (row_word k)
      (omega (arith, length-rows k)) isCurrent is_last
      ∙ ap (store_words block first_word) (sym (joined-more k (λ i. row table tapes half_widths (first + i))))

-- node r stands in the block of rows whose first node is `first`
module _ (n b first r : ℕ) (begins : first ≡ block_rows * b) (from : first ≤ r) (to : r < first + rows_in n b) where
  pub row_word_lem : node_word r ≡ row_word (r - first)
  row_word_lem =
      let here : r ≡ block_rows * b + (r - first) = omega arith in
      ap node_word here ∙ row_at b (r - first) (omega arith)

  -- a further one
  pub one_further : r < n - 1 → node_word r < row_word (block_rows - 1) → r + 1 < first + rows_in n b
  one_further left inside = omega (arith, row_word_lem)

-- zeros are words of 0
bytes-zeros : (n : ℕ) → bytes_of (replicate n 0) ≡ replicate (2 * n) 0
unfolding bytes_of
bytes-zeros zero = refl
bytes-zeros (suc n) =
    let more : 2 * suc n ≡ suc (suc (2 * n)) = omega arith in
    rw (more, bytes-zeros n) refl

-- so a part of a block that is filled with them has these words
pub zeros_filled : (block : List ℕ) (used : ℕ) → block_bytes ≤ length block → used ≤ weighted_place
    → put_mid (2 * used) (2 * weighted_place - 2 * used) block (replicate (2 * weighted_place - 2 * used) 0) ≡ zeroed used block
unfolding store_words
zeros_filled block used whole fits =
    let from : ℕ = 2 * used in
    let count : ℕ = 2 * weighted_place - 2 * used in
    let zeros : List ℕ = replicate count 0 in
    let size : length zeros ≡ count = length-replicate {A = ℕ} count 0 in
    let twice : 2 * (weighted_place - used) ≡ count = omega arith in
    let words : bytes_of (replicate (weighted_place - used) 0) ≡ zeros = bytes-zeros (weighted_place - used) ∙ ap (λ (n : ℕ). replicate n 0) twice in
    ap (λ (rest : List ℕ). take from block ++ (zeros ++ rest)) (drop-drop count from block)
    ∙ sym (append_assoc (take from block) zeros (drop (from + count) block))
    ∙ ap (λ (n : ℕ). (take from block ++ zeros) ++ drop (from + n) block) (sym size)
    ∙ sym (sets-eq zeros block from (omega (arith, size)))
    ∙ ap (sets block from) (sym words)
