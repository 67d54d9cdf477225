-- What a file may be that is not to be read: one with a word changed or with two words side by side swapped, as the bytes have it, and one
-- from before word 254 was a check.
use Rattle.std.specs.Prelude.{◌≡◌, ℕ, ◌+◌, ◌*◌, ◌≤◌, ◌<◌, List, [], ◌∷◌}
use Rattle.std.proofs.lemmas.List.Edits.{sets}
use Rattle.blocks.specs.Block.{block_bytes, closing_place, block_at, word_at, bytes_of}
use Rattle.sheet.specs.Layout.{most_nodes, most_separation, first_word, header_words}
use Rattle.sheet.specs.Read.{nodes_of, separation_of, Answer}

-- word k of block b of a file
abbrev pub file_word : List ℕ → ℕ → ℕ → ℕ
file_word file b k = word_at (block_at file b) k

-- a file with w as word k of block b: the word's two bytes are replaced
unfoldable pub with_word : List ℕ → ℕ → ℕ → ℕ → List ℕ
with_word file b k w = sets file (block_bytes * b + 2 * k) (bytes_of (w ∷ []))

-- a file with words k and k + 1 of block b swapped
abbrev pub swapped : List ℕ → ℕ → ℕ → List ℕ
swapped file b k = with_word (with_word file b k (file_word file b (k + 1))) b (k + 1) (file_word file b k)

-- what a call gives that sees it: 10, and nothing changed
pub record Seen (table tapes half_widths : List ℕ) (answer : Answer) (table' tapes' halfWidths' : List ℕ) : Type 0 where
  pub refused : answer ≡ record { number = 10; nodes = 0; separation = 0 }
  pub table_kept : table' ≡ table
  pub tapes-kept : tapes' ≡ tapes
  pub half_widths-kept : halfWidths' ≡ half_widths

-- the header of a file from before word 254 was a check: place 0, word 1 at most 1, n and D, and 0 up to the closing word
pub record OldHeader (file : List ℕ) : Type 0 where
  pub place : file_word file 0 0 ≡ 0
  pub mark : file_word file 0 1 ≤ 1
  pub nodes-least : 1 ≤ nodes_of file
  pub nodes-most : nodes_of file ≤ most_nodes
  pub separation-most : separation_of file ≤ most_separation
  pub others : (k : ℕ) → first_word + header_words ≤ k → k < closing_place → file_word file 0 k ≡ 0
