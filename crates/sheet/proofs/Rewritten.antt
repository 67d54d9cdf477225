-- The other way round: an accepted file of bytes is the file of what is read from it. Assumes nothing.
use mathlib.Core.Path.{◌≡◌, refl, sym, ap, ap₂, ◌∙◌}
use Prim.Native.Nat.{ℕ, zero, suc, ◌+◌, ◌*◌, ◌/◌, ◌%◌, ◌<◌}
use native.Mathlib.Nat.{le_of_eq, lt_of_lt_of_le, add-zero}
use native.Mathlib.Omega.{arith}
use mathlib.Core.List.{List, ◌∷◌}
use lib.ListN.{length, get_or, get_or-eq_default}
use lib.Seq.{take_all}
use borrow.Author.Tests.{eqb-true}
use Rattle.blocks.specs.Below.{joined}
use Rattle.blocks.specs.Block.{block_words, block_bytes, block_count, weighted_place, closing_place, word_at, bytes_of, block_at, in_place, EachBelow}
use Rattle.sheet.specs.Layout.{block_rows, row_words, blocks_for, node_block, node_word, rows_in, count_word, used_words}
use Rattle.sheet.specs.Read.{nodes_of, separation_of, node_pair, node_single, table_of, tapes_of, half_widths_of, refusal}
use Rattle.sheet.specs.File.{row, content, block_of, file_of}
use Rattle.sheet.proofs.Answer.{Accepted, accepted}
use Rattle.blocks.proofs.Below.{split, joined_cong, get_or-joined, parts_joined}
use Rattle.blocks.proofs.Words.{length-block, block-below, bytes-words, word_below, length_whole, whole_unique}
use Rattle.sheet.proofs.Fixed.{count_held, unused-held}
use Rattle.sheet.proofs.Written.{length-body, used-least, body-fits}

module _ (file : List ℕ) (n : ℕ) where
  -- the words of node r's row, as they were read
  first_word : (j r : ℕ) → r < n → get_or (joined n (node_pair file j)) (2 * r) 0 ≡ word_at (block_at file (node_block r)) (node_word r + j)
  first_word j r l =
      ap (λ (k : ℕ). get_or (joined n (node_pair file j)) k 0) (sym (add-zero (2 * r)))
      ∙ get_or-joined 2 (node_pair file j) (λ k. refl) n r 0 l (omega arith)

  second_word : (j r : ℕ) → r < n → get_or (joined n (node_pair file j)) (2 * r + 1) 0 ≡ word_at (block_at file (node_block r)) (node_word r + (j + 1))
  second_word j r l =
      let word : node_word r + j + 1 ≡ node_word r + (j + 1) = omega arith in
      get_or-joined 2 (node_pair file j) (λ k. refl) n r 1 l (omega arith) ∙ ap (word_at (block_at file (node_block r))) word

  single-word : (j r : ℕ) → r < n → get_or (joined n (node_single file j)) r 0 ≡ word_at (block_at file (node_block r)) (node_word r + j)
  single-word j r l =
      let place : r ≡ 1 * r + 0 = omega arith in
      ap (λ (k : ℕ). get_or (joined n (node_single file j)) k 0) place
      ∙ get_or-joined 1 (node_single file j) (λ k. refl) n r 0 l (omega arith)

  row_word_lem : (r j : ℕ) → r < n → j < row_words
      → get_or (row (table_of file n) (tapes_of file n) (half_widths_of file n) r) j 0 ≡ word_at (block_at file (node_block r)) (node_word r + j)
  unfolding row
  row_word_lem r zero l m = first_word 0 r l
  row_word_lem r (suc zero) l m = second_word 0 r l
  row_word_lem r (suc (suc zero)) l m = first_word 2 r l
  row_word_lem r (suc (suc (suc zero))) l m = second_word 2 r l
  row_word_lem r (suc (suc (suc (suc zero)))) l m = single-word 4 r l
  row_word_lem r (suc (suc (suc (suc (suc j))))) l m = absurd (omega arith)

module _ (file : List ℕ) (tableLength tapesLength halfWidthsLength : ℕ) (held : Accepted file tableLength tapesLength halfWidthsLength) where
  abbrev n : ℕ
  n = nodes_of file

  abbrev D : ℕ
  D = separation_of file

  abbrev table : List ℕ
  table = table_of file n

  abbrev tapes : List ℕ
  tapes = tapes_of file n

  abbrev half_widths : List ℕ
  half_widths = half_widths_of file n

  -- the used words of block b, from what was read
  abbrev body : ℕ → List ℕ
  body b = b ∷ count_word n b ∷ content n D table tapes half_widths b

  used-word : (b : ℕ) → b < blocks_for n → (i : ℕ) → suc (suc i) < used_words n b → get_or (body b) (suc (suc i)) 0 ≡ word_at (block_at file b) (suc (suc i))
  unfolding content used_words row
  used-word zero l zero m = refl
  used-word zero l (suc zero) m = refl
  used-word zero l (suc (suc i)) m = absurd (omega arith)
  used-word (suc b) l i m =
      let q : ℕ = i / row_words in
      let j : ℕ = i % row_words in
      let whole : i ≡ row_words * q + j = omega arith in
      let few : q < rows_in n b = omega arith in
      let node : block_rows * b + q < n = omega arith in
      let block : node_block (block_rows * b + q) ≡ suc b = omega arith in
      let word : node_word (block_rows * b + q) + j ≡ suc (suc i) = omega arith in
      ap (λ (k : ℕ). get_or (content n D table tapes half_widths (suc b)) k 0) whole
      ∙ get_or-joined row_words (λ k. row table tapes half_widths (block_rows * b + k)) (λ k. refl) (rows_in n b) q j few (omega arith)
      ∙ row_word_lem file n (block_rows * b + q) j node (omega arith)
      ∙ ap₂ (λ (c k : ℕ). word_at (block_at file c) k) block word

  module _ (fits : EachBelow 256 file) (b : ℕ) (l : b < blocks_for n) where
    there : b < block_count file
    there = omega arith

    body-word : (k : ℕ) → k < weighted_place → get_or (body b) k 0 ≡ word_at (block_at file b) k
    unfolding in_place
    body-word zero m = sym (eqb-true _ _ (held.file-sound.places b there))
    body-word (suc zero) m = sym (count_held (count_word n b) (used_words n b) (block_at file b) (held.file-sound.layout b there))
    body-word (suc (suc i)) m =
        split (used_words n b) (suc (suc i))
        (λ h.
        get_or-eq_default (body b) 0 {n = suc (suc i)} (omega (arith, length-body n D table tapes half_widths b))
        ∙ sym (unused-held (count_word n b) (used_words n b) (block_at file b)
        (used-least n D table tapes half_widths b) (suc (suc i)) h m (held.file-sound.layout b there)))
        (λ h. used-word b l i h)

    block-word : (k : ℕ) → k < block_words → get_or (block_of n D table tapes half_widths b) k 0 ≡ word_at (block_at file b) k
    unfolding block_of
    block-word =
        whole_unique (body b) (body-fits n D table tapes half_widths b) (block_at file b) body-word (held.file-sound.checks b there)
        (word_below (block_at file b) closing_place (block-below file b fits))

    block-again : bytes_of (block_of n D table tapes half_widths b) ≡ block_at file b
    unfolding block_of
    block-again =
        let words : List ℕ = block_of n D table tapes half_widths b in
        let size : length words ≡ block_words = length_whole (body b) (body-fits n D table tapes half_widths b) in
        let whole : length (block_at file b) ≡ block_bytes = length-block file b (omega arith) in
        bytes-words words (block_at file b) (omega arith) (block-below file b fits) (λ k m. block-word k (lt_of_lt_of_le m (le_of_eq size)))

  rewritten : EachBelow 256 file → file_of n D table tapes half_widths ≡ file
  unfolding file_of block_at
  rewritten fits =
      joined_cong (blocks_for n) _ (block_at file) (λ b l. block-again fits b l)
      ∙ parts_joined block_bytes (blocks_for n) file
      ∙ take_all (block_bytes * blocks_for n) file (le_of_eq held.file-sound.blocks)

-- what is read from an accepted file, written again, is that file
pub read-and-written : (file : List ℕ) (tableLength tapesLength halfWidthsLength : ℕ) → EachBelow 256 file
    → refusal file tableLength tapesLength halfWidthsLength ≡ 0
    → file_of (nodes_of file) (separation_of file) (table_of file (nodes_of file)) (tapes_of file (nodes_of file)) (half_widths_of file (nodes_of file)) ≡ file
read-and-written file t s w fits e = rewritten file t s w (accepted file t s w e) fits
