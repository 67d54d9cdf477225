-- The paper's example: the root with tape 500 and its leaves 501 and 502, D = 3, half-widths 0. Its blocks with their check words,
-- 23 and 65,506 and then 15,029 and 49,001, and what reading its file gives, all by computation. Assumes nothing.
use mathlib.Core.Path.{◌≡◌, refl}
use Prim.Native.Nat.{ℕ, ◌*◌}
use mathlib.Core.Bool.{true, false}
use mathlib.Core.List.{List, [], ◌∷◌, ◌++◌}
use lib.ListN.{length, replicate}
use Rattle.blocks.specs.Below.{total, every, joined}
use Rattle.blocks.specs.Block.{block_bytes, word_at, bytes_of, block_at, word_sum, weighted_sum, sound, closing, in_place, padded, weighed, closed}
use Rattle.sheet.specs.Layout.{most_nodes, blocks_for, count_word, used_words, fixed_hold}
use Rattle.sheet.specs.Read.{refusal}
use Rattle.sheet.specs.File.{row, content, block_of, file_of, ReadBack}

-- first child and next sibling of each node; 65,535 is none
abbrev pub links : List ℕ
links = 1 ∷ 65535 ∷ 65535 ∷ 2 ∷ 65535 ∷ 65535 ∷ []

-- the tape numbers, low word and high word
abbrev pub tapes : List ℕ
tapes = 500 ∷ 0 ∷ 501 ∷ 0 ∷ 502 ∷ 0 ∷ []

-- the half-widths
abbrev pub half_widths : List ℕ
half_widths = 0 ∷ 0 ∷ 0 ∷ []

pub header_words_lem : block_of 3 3 links tapes half_widths 0 ≡ 0 ∷ 1 ∷ 3 ∷ 3 ∷ replicate 250 0 ++ 23 ∷ 65506 ∷ []
unfolding total word_sum weighted_sum closing count_word content padded weighed closed block_of
header_words_lem = refl

pub rows_words : block_of 3 3 links tapes half_widths 1 ≡
    1 ∷ 3 ∷ 1 ∷ 65535 ∷ 500 ∷ 0 ∷ 0 ∷ 65535 ∷ 2 ∷ 501 ∷ 0 ∷ 0 ∷ 65535 ∷ 65535 ∷ 502 ∷ 0 ∷ 0 ∷ replicate 237 0 ++ 15029 ∷ 49001 ∷ []
unfolding total joined word_sum weighted_sum closing count_word row content padded weighed closed block_of
rows_words = refl

pub file-length : length (file_of 3 3 links tapes half_widths) ≡ 1024
unfolding total joined bytes_of closing count_word row content padded weighed closed block_of file_of
file-length = refl

pub example_read : ReadBack 3 3 links tapes half_widths 6 6 3
unfolding total every joined word_at bytes_of block_at word_sum weighted_sum sound closing in_place count_word used_words fixed_hold row content padded weighed closed block_of file_of refusal
example_read = record { number = refl; nodes = refl; separation-back = refl; table-back = refl; tapes-back = refl; half_widths-back = refl }

-- 50 nodes take two blocks, 51 take three, 1,024 take twenty-two; and the length that condition 9 names
pub block-counts : (blocks_for 50 ≡ 2) × (blocks_for 51 ≡ 3) × (blocks_for 1024 ≡ 22)
block-counts = (refl, refl, refl)

pub greatest-length : block_bytes * blocks_for most_nodes ≡ 11264
greatest-length = refl

-- the layout fixes word 253, and neither check word
pub fixed-cases : (fixed_hold 0 4 (bytes_of (replicate 253 0 ++ 1 ∷ 0 ∷ 0 ∷ [])) ≡ false) × (fixed_hold 0 4 (bytes_of (replicate 254 0 ++ 1 ∷ 0 ∷ [])) ≡ true) × (fixed_hold 0 4 (bytes_of (replicate 255 0 ++ 1 ∷ [])) ≡ true)
unfolding every word_at bytes_of fixed_hold
fixed-cases = (refl, refl, refl)
