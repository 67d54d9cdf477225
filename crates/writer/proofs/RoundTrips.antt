-- Of what calls return: reading what was written gives the sheet back, and writing what was read gives the file back where its tree
-- passes and its half-widths are at most 256. Assumes nothing.
use Rattle.std.proofs.Common.{◌≡◌, ℕ, zero, suc, ◌*◌, ◌<◌, ◌≤◌, false, List, [], ◌∷◌, ◌++◌, length, take, drop, sym, refl, ap, ◌∙◌, ap₂, arith, length-take-le, drop_at, le-ltb}
use Rattle.refusal.specs.First.{Condition, ◌⇐◌, first}
use Rattle.refusal.specs.After.{overwrite}
use Rattle.refusal.proofs.After.{granted-accepted, after-accepted, overwrite-split, take-overwrite, length-overwrite}
use Rattle.tree.specs.Table.{nodes}
use Rattle.tree.specs.WellFormed.{table_conditions, table_number}
use Rattle.tree.proofs.Number.{table-refused, table-passed}
use Rattle.tree.proofs.Stands.{accepted-numbers, accepted-length}
use Rattle.distance.specs.Needed.{half_width, bad_separation, bad_half_widths}
use Rattle.distance.proofs.Separation.{separation-good}
use Rattle.distance.proofs.HalfWidths.{narrow_good, first_alike}
use Rattle.blocks.specs.Block.{block_bytes, EachBelow}
use Rattle.sheet.specs.Layout.{blocks_for}
use Rattle.sheet.specs.Read.{nodes_of, separation_of, table_of, tapes_of, half_widths_of, number_read, SheetRead}
use Rattle.sheet.specs.File.{file_of, Contents}
use Rattle.sheet.specs.Read.{Answer}
use Rattle.sheet.proofs.Answer.{Accepted, accepted}
use Rattle.sheet.proofs.Rewritten.{read-and-written}
use Rattle.sheet.proofs.RoundTrip.{read-written}
use Rattle.sheet.proofs.Reading.{length_pairs, length_singles}
use Rattle.sheet.proofs.Written.{length-file, entries_unseen}
use Rattle.writer.specs.Write.{sheet_file, own_conditions, write_number, SheetWritten}
use Rattle.writer.specs.Write.{Answer as WriterAnswer}
use Rattle.writer.proofs.Answer.{Taken, taken}

-- ---- what an accepted call wrote

module _ (table : List ℕ) (D : ℕ) (tapes half_widths out : List ℕ) (a : WriterAnswer) (out' : List ℕ)
    (written : SheetWritten table D tapes half_widths out a out') (zero_number : a.number ≡ 0) where
  number : write_number table D tapes half_widths out ≡ 0
  number = sym written.number ∙ zero_number

  abbrev T : Taken table D tapes half_widths out
  T = taken table D tapes half_widths out number

  abbrev file : List ℕ
  file = sheet_file table D tapes half_widths

  -- the count is the file's length
  pub bytes-written : a.bytes ≡ length file
  bytes-written = written.bytes ∙ granted-accepted _ _ 0 number

  -- which is 512 for each block
  pub blocks-written : a.bytes ≡ block_bytes * blocks_for (nodes table)
  blocks-written = bytes-written ∙ length-file (nodes table) D table tapes half_widths

  out_written : out' ≡ overwrite file out
  out_written = written.out-after ∙ after-accepted _ file out number

  -- the first bytes of the output are the file, and those past it are untouched
  pub file-written : take a.bytes out' ≡ file
  file-written = ap (take a.bytes) out_written ∙ take-overwrite a.bytes file out (sym bytes-written)

  pub rest-written : drop a.bytes out' ≡ drop a.bytes out
  rest-written =
      ap (drop a.bytes) (out_written ∙ overwrite-split a.bytes file out (sym bytes-written))
      ∙ drop_at file (drop a.bytes out) a.bytes (sym bytes-written)

  -- the tapes and the half-widths that were looked at
  abbrev pub tapes_seen : List ℕ
  tapes_seen = take (2 * nodes table) tapes

  abbrev pub half_widths_seen : List ℕ
  half_widths_seen = take (nodes table) half_widths

  held : Contents (nodes table) D table tapes_seen half_widths_seen
  held =
      let numbers = accepted-numbers table T.table-accepted in
      record {
        nodes-least = numbers.some;
        nodes-most = numbers.few;
        separation-least = T.some;
        separation-most = T.small;
        table-size = accepted-length table T.table-accepted;
        tapes-size = length-take-le (2 * nodes table) tapes T.tapes-room;
        half_widths-size = length-take-le (nodes table) half_widths T.half_widths-room;
      }

  -- reading it, into slices with room, gives the sheet back
  pub written_then_read : (old-table old-tapes old-half-widths table' tapes' halfWidths' : List ℕ) (r : Answer) → 2 * nodes table ≤ length old-table
      → 2 * nodes table ≤ length old-tapes
      → nodes table ≤ length old-half-widths
      → SheetRead (take a.bytes out') old-table old-tapes old-half-widths r table' tapes' halfWidths'
      → (r ≡ record { number = 0; nodes = nodes table; separation = D }) × (table' ≡ overwrite table old-table) × (tapes' ≡ overwrite tapes_seen old-tapes)
      × (halfWidths' ≡ overwrite half_widths_seen old-half-widths)
  written_then_read old-table old-tapes old-half-widths table' tapes' halfWidths' r table-room tapes-room half_widths-room read =
      let read-it = rw (file-written, entries_unseen (nodes table) D table tapes half_widths) at read in
      read-written (nodes table) D table tapes_seen half_widths_seen held old-table old-tapes old-half-widths table' tapes' halfWidths' r table-room tapes-room
      half_widths-room read-it

-- ---- entries of the tapes past two a node, and of the half-widths past one, are not looked at

module _ (table : List ℕ) (D : ℕ) (tapes other-tapes half_widths other-half-widths out : List ℕ) (enough : 2 * nodes table ≤ length tapes)
    (other-enough : 2 * nodes table ≤ length other-tapes) (widths-enough : nodes table ≤ length half_widths)
    (other-widths-enough : nodes table ≤ length other-half-widths) (same-tapes : take (2 * nodes table) tapes ≡ take (2 * nodes table) other-tapes)
    (same-half-widths : take (nodes table) half_widths ≡ take (nodes table) other-half-widths) where
  same-file : sheet_file table D tapes half_widths ≡ sheet_file table D other-tapes other-half-widths
  same-file =
      entries_unseen (nodes table) D table tapes half_widths
      ∙ ap₂ (file_of (nodes table) D table) same-tapes same-half-widths
      ∙ sym (entries_unseen (nodes table) D table other-tapes other-half-widths)

  same_number : write_number table D tapes half_widths out ≡ write_number table D other-tapes other-half-widths out
  unfolding write_number
  same_number =
      rw (
        le-ltb _ _ enough,
        le-ltb _ _ other-enough,
        first_alike (nodes table) half_widths other-half-widths widths-enough other-widths-enough same-half-widths,
        same-file,
      )

  pub past_unseen : (a : WriterAnswer) (out' : List ℕ) → SheetWritten table D tapes half_widths out a out'
      → SheetWritten table D other-tapes other-half-widths out a out'
  past_unseen a out' written = record {
    number = written.number ∙ same_number;
    bytes = rw (same_number, same-file) at written.bytes;
    out-after = rw (same_number, same-file) at written.out-after;
  }

-- ---- what an accepted call of the reader gave, written

module _ (bytes old-table old-tapes old-half-widths : List ℕ) (r : Answer) (table' tapes' halfWidths' : List ℕ) (fits : EachBelow 256 bytes)
    (read : SheetRead bytes old-table old-tapes old-half-widths r table' tapes' halfWidths') (zero_number : r.number ≡ 0) where
  number_read_lem : number_read bytes old-table old-tapes old-half-widths ≡ 0
  number_read_lem = sym read.number ∙ zero_number

  abbrev A : Accepted bytes (length old-table) (length old-tapes) (length old-half-widths)
  A = accepted bytes (length old-table) (length old-tapes) (length old-half-widths) number_read_lem

  abbrev n : ℕ
  n = nodes_of bytes

  nodes-read : r.nodes ≡ n
  nodes-read = read.nodes ∙ granted-accepted _ n 0 number_read_lem

  separation-read : r.separation ≡ separation_of bytes
  separation-read = read.separation ∙ granted-accepted _ (separation_of bytes) 0 number_read_lem

  -- the table that was read: two entries for each of the nodes
  abbrev pub table_read : List ℕ
  table_read = take (2 * r.nodes) table'

  table_read_lem : table_read ≡ table_of bytes n
  table_read_lem =
      ap (λ (k : ℕ). take (2 * k) table') nodes-read
      ∙ ap (take (2 * n)) (read.table-after ∙ after-accepted _ (table_of bytes n) old-table number_read_lem)
      ∙ take-overwrite (2 * n) (table_of bytes n) old-table (length_pairs bytes 0 n)

  tapes_overwritten : tapes' ≡ overwrite (tapes_of bytes n) old-tapes
  tapes_overwritten = read.tapes-after ∙ after-accepted _ (tapes_of bytes n) old-tapes number_read_lem

  tapes-read : take (2 * n) tapes' ≡ tapes_of bytes n
  tapes-read = ap (take (2 * n)) tapes_overwritten ∙ take-overwrite (2 * n) (tapes_of bytes n) old-tapes (length_pairs bytes 2 n)

  half_widths_overwritten : halfWidths' ≡ overwrite (half_widths_of bytes n) old-half-widths
  half_widths_overwritten = read.half_widths-after ∙ after-accepted _ (half_widths_of bytes n) old-half-widths number_read_lem

  half_widths-read : take n halfWidths' ≡ half_widths_of bytes n
  half_widths-read =
      ap (take n) half_widths_overwritten ∙ take-overwrite n (half_widths_of bytes n) old-half-widths (length_singles bytes 4 n)

  size : nodes table_read ≡ n
  size = omega (arith, ap length table_read_lem, length_pairs bytes 0 n)

  -- the file of what was read is the file that was read
  file-again : sheet_file table_read r.separation tapes' halfWidths' ≡ bytes
  file-again =
      rw (size, separation-read, table_read_lem, entries_unseen n (separation_of bytes) (table_of bytes n) tapes' halfWidths', tapes-read, half_widths-read)
      (read-and-written bytes (length old-table) (length old-tapes) (length old-half-widths) fits number_read_lem)

  tapes-enough : 2 * nodes table_read ≤ length tapes'
  tapes-enough =
      let room : length (tapes_of bytes n) ≤ length old-tapes = omega (arith, length_pairs bytes 2 n, A.tapes-room) in
      omega (arith, size, A.tapes-room, ap length tapes_overwritten, length-overwrite (tapes_of bytes n) old-tapes room)

  half_widths-enough : r.nodes ≤ length halfWidths'
  half_widths-enough =
      let room : length (half_widths_of bytes n) ≤ length old-half-widths = omega (arith, length_singles bytes 4 n, A.half_widths-room) in
      omega (arith, nodes-read, A.half_widths-room, ap length half_widths_overwritten, length-overwrite (half_widths_of bytes n) old-half-widths room)

  good : bad_separation r.separation ≡ false
  good = separation-good r.separation (rw separation-read A.file-sound.separation-some) (rw separation-read A.file-sound.separation-most)

  module _ (out : List ℕ) (a : WriterAnswer) (out' : List ℕ) (room : length bytes ≤ length out)
      (written : SheetWritten table_read r.separation tapes' halfWidths' out a out') where
    -- what the reader does not judge, and the writer does: the tree and the half-widths
    abbrev pub unjudged : List Condition
    unjudged = table_conditions table_read ++ (17 ⇐ bad_half_widths r.nodes halfWidths' ∷ [])

    -- with room, that alone decides on the number
    pub number-again : a.number ≡ first unjudged
    unfolding write_number
    number-again = written.number ∙ go (table_number table_read) refl
      where
        own : List Condition
        own = own_conditions table_read r.separation tapes' halfWidths' out

        go : (k : ℕ) → table_number table_read ≡ k → write_number table_read r.separation tapes' halfWidths' out ≡ first unjudged
        go zero e =
            let long : length (sheet_file table_read r.separation tapes' halfWidths') ≤ length out = omega (arith, ap length file-again) in
            table-passed table_read own e
            ∙ simp (good, le-ltb _ _ tapes-enough, le-ltb _ _ long) (ap (λ (k : ℕ). first (17 ⇐ bad_half_widths k halfWidths' ∷ [])) (size ∙ sym nodes-read))
            ∙ sym (table-passed table_read _ e)
        go (suc k) e =
            let refused : table_number table_read ≡ 0 → ⊥ = λ z. omega arith in
            table-refused table_read own _ refl refused ∙ sym (table-refused table_read _ _ refl refused)

    -- where the tree passes and each half-width is at most 256, the bytes are the same
    pub read_then_written : table_number table_read ≡ 0 → ((v : ℕ) → v < r.nodes → half_width halfWidths' v ≤ 256)
        → (a ≡ record { number = 0; bytes = length bytes }) × (out' ≡ overwrite bytes out)
    read_then_written passes narrow =
        let number : a.number ≡ 0 = number-again ∙ table-passed table_read _ passes ∙ simp (narrow_good halfWidths' r.nodes half_widths-enough narrow) in
        let count : a.bytes ≡ length bytes = bytes-written _ _ _ _ _ a out' written number ∙ ap length file-again in (
          (λ i. record { number = number i; bytes = count i }),
          out_written _ _ _ _ _ a out' written number ∙ ap (λ (file : List ℕ). overwrite file out) file-again,
        )
