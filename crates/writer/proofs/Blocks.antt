-- The blocks of a file, written one after the other. Assumes nothing.
use Rattle.std.proofs.Common.{◌≡◌, ℕ, ◌+◌, ◌-◌, ◌*◌, ◌<◌, ◌≤◌, min, List, [], ◌∷◌, length, sym, refl, ap, ◌∙◌, le_refl, add-one, arith}
use borrow.Rule.Slice.PartMut.{mid_of, put_mid}
use Rattle.refusal.specs.After.{overwrite}
use Rattle.refusal.proofs.After.{length-overwrite, overwrite-again, overwrite-more}
use Rattle.blocks.specs.Below.{joined}
use Rattle.blocks.specs.Block.{block_bytes, bytes_of}
use Rattle.sheet.specs.Layout.{header_mark, block_rows, blocks_for, node_block, rows_in, count_word}
use Rattle.sheet.specs.File.{content, block_of, file_of}
use Rattle.blocks.proofs.Below.{joined-more, length-joined}
use Rattle.sheet.proofs.Written.{block_size}
use Rattle.writer.specs.Steps.{rows_from, block_over}

module _ (n D : ℕ) (table tapes half_widths : List ℕ) where
  -- the first blocks of the file
  abbrev pub front : ℕ → List ℕ
  front count = joined count (λ b. bytes_of (block_of n D table tapes half_widths b))

  pub length_front : (count : ℕ) → length (front count) ≡ block_bytes * count
  length_front count = length-joined block_bytes (λ b. bytes_of (block_of n D table tapes half_widths b)) (block_size n D table tapes half_widths) count

  -- the output keeps its length while blocks are written to it
  pub length-written : (count : ℕ) (old : List ℕ) → block_bytes * count ≤ length old → length (overwrite (front count) old) ≡ length old
  length-written count old room = length-overwrite (front count) old (omega (arith, length_front count))

  header-first : (old : List ℕ) → block_over (0 ∷ header_mark ∷ n ∷ D ∷ []) old ≡ overwrite (front 1) old
  unfolding block_over joined block_of count_word content
  header-first old = refl

  -- the block of rows after block b
  block-next : (b : ℕ) (old : List ℕ) → block_over ((b + 1) ∷ rows_in n b ∷ rows_from table tapes half_widths (block_rows * b) (rows_in n b)) old
      ≡ overwrite (bytes_of (block_of n D table tapes half_widths (b + 1))) old
  unfolding block_over block_of count_word content
  block-next b old = rw (add-one b)

  pub block_more : (b place first : ℕ) (old current last : List ℕ) → place ≡ b + 1 → first ≡ block_rows * b → block_bytes * place ≤ length old
      → current ≡ overwrite (front place) old
      → last
      ≡ block_over (place ∷ rows_in n b ∷ rows_from table tapes half_widths first (rows_in n b))
      (mid_of (block_bytes * place) (length current - block_bytes * place) current)
      → put_mid (block_bytes * place) (length current - block_bytes * place) current last ≡ overwrite (front (place + 1)) old
  block_more b place first old current last isPlace isFirst room isCurrent is_last =
      overwrite-more (front place) (bytes_of (block_of n D table tapes half_widths place)) old current last (block_bytes * place) (length_front place) room
      isCurrent (is_last ∙ rw (isPlace, isFirst) (block-next b _))
      ∙ ap (λ (new : List ℕ). overwrite new old) (sym (joined-more place (λ k. bytes_of (block_of n D table tapes half_widths k))))

  -- the loop begins with the header written, and ends with all blocks
  pub blocks-begun : (old first : List ℕ) → first ≡ block_over (0 ∷ header_mark ∷ n ∷ D ∷ []) old → first ≡ overwrite (front 1) first
  blocks-begun old first isFirst =
      let header = isFirst ∙ header-first old in
      header ∙ sym (ap (overwrite (front 1)) header ∙ overwrite-again (front 1) (front 1) old (le_refl (length (front 1))))

  pub blocks-ended : (count : ℕ) (old first current : List ℕ) → count ≡ blocks_for n → first ≡ block_over (0 ∷ header_mark ∷ n ∷ D ∷ []) old
      → current ≡ overwrite (front count) first
      → current ≡ overwrite (file_of n D table tapes half_widths) old
  unfolding file_of
  blocks-ended count old first current all isFirst isCurrent =
      isCurrent
      ∙ ap (overwrite (front count)) (isFirst ∙ header-first old)
      ∙ overwrite-again (front count) (front 1) old (omega (arith, length_front 1, length_front count))
      ∙ ap (λ (k : ℕ). overwrite (front k) old) all

-- the nodes before a block of rows are written: those of full blocks, or all
abbrev pub Whole : ℕ → ℕ → Type 0
Whole n m = m ≡ min n (block_rows * (blocks_for m - 1))

-- a further block begins with the next node
module _ (n m : ℕ) (whole : Whole n m) (left : m < n) where
  pub begins : m ≡ block_rows * (node_block m - 1)
  begins = omega arith

  pub place-begun : blocks_for m ≡ node_block m
  place-begun = omega arith

-- and ends, with its rows written
module _ (n b first m : ℕ) (begun : first ≡ block_rows * b) (left : first < n) (ended : m ≡ first + rows_in n b) where
  pub fewer-left : n - m < n - first
  fewer-left = omega arith

  pub place-ended : blocks_for m ≡ b + 2
  place-ended = omega arith

  pub whole-ended : Whole n m
  whole-ended = omega (arith, place-ended)
