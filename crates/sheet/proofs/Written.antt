-- The blocks of a sheet's file, as the reader sees them: sound, in their places, laid out right, with every row where the layout
-- has it; and that the file tells nothing of tapes past two entries a node, and of half-widths past one. Assumes nothing.
use mathlib.Core.Path.{◌≡◌, refl, ap, ap₂, ◌∙◌}
use Prim.Native.Nat.{ℕ, zero, suc, ◌+◌, ◌*◌, ◌/◌, ◌%◌, ◌≤◌, ◌<◌}
use native.Mathlib.Omega.{arith}
use mathlib.Core.Bool.{true}
use mathlib.Core.List.{List, [], ◌∷◌}
use lib.ListN.{length, get_or, take, get_or-eq_default}
use lib.Seq.{get_or-take}
use borrow.Author.Tests.{eq-eqb}
use Rattle.blocks.specs.Block.{block_bytes, weighted_place, word_at, bytes_of, block_at, sound, in_place, padded, weighed, closed}
use Rattle.sheet.specs.Layout.{block_rows, row_words, blocks_for, node_block, node_word, rows_in, count_word, used_words, fixed_hold, laid_out}
use Rattle.sheet.specs.Read.{node_pair, node_single}
use Rattle.sheet.specs.File.{row, content, block_of, file_of}
use Rattle.sheet.specs.Steps.{pair_of}
use Rattle.blocks.proofs.Below.{split, every_holds, joined_cong, length-joined, joined_at, get_or-joined}
use Rattle.sheet.proofs.Fixed.{used-agrees, unused}
use Rattle.blocks.proofs.Words.{length-bytes, word_bytes, length_whole, get_or_whole, whole-sound}

module _ (n separation : ℕ) (table tapes half_widths : List ℕ) where
  -- the used words of block b
  abbrev body : ℕ → List ℕ
  body b = b ∷ count_word n b ∷ content n separation table tapes half_widths b

  abbrev file : List ℕ
  file = file_of n separation table tapes half_widths

  pub length-body : (b : ℕ) → length (body b) ≡ used_words n b
  unfolding content used_words row
  length-body zero = refl
  length-body (suc b) = omega (arith, length-joined row_words (λ i. row table tapes half_widths (block_rows * b + i)) (λ k. refl) (rows_in n b))

  used-fits : (b : ℕ) → used_words n b ≤ weighted_place
  unfolding used_words
  used-fits zero = omega arith
  used-fits (suc b) = omega arith

  pub used-least : (b : ℕ) → 1 < used_words n b
  unfolding used_words
  used-least zero = omega arith
  used-least (suc b) = omega arith

  pub body-fits : (b : ℕ) → length (body b) ≤ weighted_place
  body-fits b = omega (arith, length-body b, used-fits b)

  pub block_size : (b : ℕ) → length (bytes_of (block_of n separation table tapes half_widths b)) ≡ block_bytes
  unfolding block_of
  block_size b = omega (arith, length-bytes (block_of n separation table tapes half_widths b), length_whole (body b) (body-fits b))

  pub length-file : length file ≡ block_bytes * blocks_for n
  unfolding file_of
  length-file = length-joined block_bytes (λ b. bytes_of (block_of n separation table tapes half_widths b)) block_size (blocks_for n)

  module _ (b : ℕ) (l : b < blocks_for n) where
    block_read : block_at file b ≡ bytes_of (block_of n separation table tapes half_widths b)
    unfolding block_at file_of
    block_read = joined_at block_bytes (λ b. bytes_of (block_of n separation table tapes half_widths b)) block_size (blocks_for n) b l

    -- word k of block b, before the check words
    pub word_read : (k : ℕ) → k < weighted_place → word_at (block_at file b) k ≡ get_or (body b) k 0
    unfolding block_of
    word_read k m = rw block_read (word_bytes (block_of n separation table tapes half_widths b) k ∙ get_or_whole (body b) (body-fits b) k m)

    pub check_read : sound (block_at file b) ≡ true
    unfolding block_of
    check_read = rw block_read (whole-sound (body b) (body-fits b))

    pub place_read : in_place b (block_at file b) ≡ true
    unfolding in_place
    place_read = eq-eqb _ _ (word_read 0 (omega arith))

    pub laid-read : laid_out n b (block_at file b) ≡ true
    unfolding fixed_hold
    laid-read =
        every_holds weighted_place _
        (λ k m.
        split (used_words n b) k
        (λ h.
        unused (count_word n b) (used_words n b) (block_at file b) k (used-least b) h
        ∙ eq-eqb _ _ (word_read k m ∙ get_or-eq_default (body b) 0 {n = k} (omega (arith, length-body b))))
        (λ h. used-agrees (count_word n b) (used_words n b) (block_at file b) k h (word_read 1 (omega arith))))

  -- word j of node r's row
  module _ (r j : ℕ) (node : r < n) (field : j < row_words) where
    row_read : (word : ℕ) → word ≡ node_word r + j → word_at (block_at file (node_block r)) word ≡ get_or (row table tapes half_widths r) j 0
    unfolding content row
    row_read word e =
        let b : ℕ = r / block_rows in
        let block : node_block r ≡ suc b = omega arith in
        let place : word ≡ suc (suc (row_words * (r % block_rows) + j)) = omega arith in
        let whole : block_rows * b + r % block_rows ≡ r = omega arith in
        rw (block, place)
        (word_read (suc b) (omega arith) (suc (suc (row_words * (r % block_rows) + j))) (omega arith)
        ∙ get_or-joined row_words (λ i. row table tapes half_widths (block_rows * b + i)) (λ k. refl) (rows_in n b) (r % block_rows) j (omega arith) field
        ∙ ap (λ (node : ℕ). get_or (row table tapes half_widths node) j 0) whole)

  pub links-read : (r : ℕ) → r < n → node_pair file 0 r ≡ pair_of table r
  unfolding row
  links-read r node = ap₂ (λ (x y : ℕ). x ∷ y ∷ []) (row_read r 0 node (omega arith) _ refl) (row_read r 1 node (omega arith) _ (omega arith))

  pub tape_read : (r : ℕ) → r < n → node_pair file 2 r ≡ pair_of tapes r
  unfolding row
  tape_read r node = ap₂ (λ (x y : ℕ). x ∷ y ∷ []) (row_read r 2 node (omega arith) _ refl) (row_read r 3 node (omega arith) _ (omega arith))

  pub half_width-read : (r : ℕ) → r < n → node_single file 4 r ≡ get_or half_widths r 0 ∷ []
  unfolding row
  half_width-read r node = ap (λ (x : ℕ). x ∷ []) (row_read r 4 node (omega arith) _ refl)

  -- of the tapes only two entries a node are looked at, and of the half-widths one
  row_unseen : (r : ℕ) → r < n → row table tapes half_widths r ≡ row table (take (2 * n) tapes) (take n half_widths) r
  unfolding row
  row_unseen r node =
      rw (get_or-take (2 * n) tapes (2 * r) 0 (omega arith), get_or-take (2 * n) tapes (2 * r + 1) 0 (omega arith), get_or-take n half_widths r 0 node)

  content_unseen : (b : ℕ) → content n separation table tapes half_widths b ≡ content n separation table (take (2 * n) tapes) (take n half_widths) b
  unfolding content
  content_unseen zero = refl
  content_unseen (suc b) =
      joined_cong (rows_in n b) _ _ (λ i l. let node : block_rows * b + i < n = omega arith in row_unseen (block_rows * b + i) node)

  pub entries_unseen : file ≡ file_of n separation table (take (2 * n) tapes) (take n half_widths)
  unfolding file_of block_of
  entries_unseen =
      joined_cong (blocks_for n) _ _ (λ b l. ap (λ (used : List ℕ). bytes_of (closed (weighed (padded (b ∷ count_word n b ∷ used))))) (content_unseen b))
