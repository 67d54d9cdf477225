-- The paper's example, the root with tape 500 and its leaves 501 and 502, D = 3, half-widths 0: whatever meets the contract writes its two
-- blocks and leaves the bytes past them, and on it the conditions are seen in their order. By computation. Assumes nothing.
use Rattle.std.proofs.Common.{◌≡◌, ℕ, List, [], ◌∷◌, ◌++◌, take, replicate, refl, ap₂}
use Rattle.refusal.specs.After.{overwrite, after}
use Rattle.tree.specs.Forest.{forest, tree_of}
use Rattle.tree.specs.WellFormed.{bad_length, bad_entry, root_has_sibling, named_twice, unnamed, not_reached, table_conditions}
use Rattle.distance.specs.Needed.{bad_separation, bad_half_widths}
use Rattle.blocks.specs.Below.{total, joined}
use Rattle.blocks.specs.Block.{bytes_of, word_sum, weighted_sum, closing, padded, weighed, closed}
use Rattle.sheet.specs.Layout.{count_word}
use Rattle.sheet.specs.File.{row, content, block_of, file_of}
use Rattle.sheet.proofs.Example.{links, tapes, half_widths, header_words_lem, rows_words}
use Rattle.writer.specs.Write.{sheet_file, write_number, SheetWritten}
use Rattle.writer.specs.Write.{Answer}

-- its words, with 23 and 65,506, and 15,029 and 49,001, as check words
abbrev header : List ℕ
header = 0 ∷ 1 ∷ 3 ∷ 3 ∷ replicate 250 0 ++ 23 ∷ 65506 ∷ []

abbrev rows : List ℕ
rows = 1 ∷ 3 ∷ 1 ∷ 65535 ∷ 500 ∷ 0 ∷ 0 ∷ 65535 ∷ 2 ∷ 501 ∷ 0 ∷ 0 ∷ 65535 ∷ 65535 ∷ 502 ∷ 0 ∷ 0 ∷ replicate 237 0 ++ 15029 ∷ 49001 ∷ []

pub example_file : sheet_file links 3 tapes half_widths ≡ bytes_of header ++ bytes_of rows
unfolding joined file_of
example_file = ap₂ (λ (a b : List ℕ). bytes_of a ++ bytes_of b) header_words_lem rows_words

-- the number with this separation, so many entries of the tapes, these half-widths, and an output of so many bytes
abbrev numbered : ℕ → ℕ → List ℕ → ℕ → ℕ
numbered separation entries widths room = write_number links separation (take entries tapes) widths (replicate room 9)

-- 17 stands between 13 and 7; a half-width of 257 gives it, one of 256 does not, and one past the third is not looked at
pub example_numbers : (numbered 3 6 half_widths 1024 ≡ 0) × (numbered 3 6 half_widths 1023 ≡ 7) × (numbered 3 6 (0 ∷ 0 ∷ []) 1023 ≡ 17)
    × (numbered 3 5 (0 ∷ 0 ∷ []) 1023 ≡ 13) × (numbered 0 5 (0 ∷ 0 ∷ []) 1023 ≡ 6) × (numbered 3 6 (0 ∷ 0 ∷ 257 ∷ []) 1024 ≡ 17)
    × (numbered 3 6 (256 ∷ 256 ∷ 256 ∷ 257 ∷ []) 1024 ≡ 0)
unfolding write_number table_conditions bad_length bad_entry root_has_sibling named_twice unnamed not_reached tree_of forest bad_separation bad_half_widths total joined bytes_of word_sum weighted_sum closing count_word row content padded weighed closed block_of file_of
example_numbers = (refl, refl, refl, refl, refl, refl, refl)

-- of an output of 1,026 bytes that all hold 9, two are left
pub example_written : (a : Answer) (out' : List ℕ) → SheetWritten links 3 tapes half_widths (replicate 1026 9) a out'
    → (a ≡ record { number = 0; bytes = 1024 }) × (out' ≡ bytes_of header ++ bytes_of rows ++ 9 ∷ 9 ∷ [])
unfolding write_number table_conditions bad_length bad_entry root_has_sibling named_twice unnamed not_reached tree_of forest bad_separation bad_half_widths total joined bytes_of word_sum weighted_sum closing count_word row content padded weighed closed block_of file_of overwrite after
example_written a out' written =
    let number : a.number ≡ 0 = written.number in
    let bytes : a.bytes ≡ 1024 = written.bytes in
    ((λ i. record { number = number i; bytes = bytes i }), written.out-after)
