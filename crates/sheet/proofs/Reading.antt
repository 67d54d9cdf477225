-- The rows of nodes, read one after the other: what the slices hold. Assumes nothing.
use mathlib.Core.Path.{◌≡◌, sym, ap, refl, ◌∙◌}
use Prim.Native.Nat.{ℕ, ◌+◌, ◌*◌, ◌≤◌, ◌<◌}
use native.Mathlib.Nat.{le_refl, zero-add, one-mul, mul-le-mul_left}
use native.Mathlib.Omega.{arith}
use mathlib.Core.List.{List, ◌++◌}
use lib.ListN.{length, length-append}
use lib.Seq.{sets}
use Rattle.refusal.specs.After.{overwrite}
use Rattle.refusal.proofs.After.{length-overwrite, overwrite-again, sets_append, sets_start}
use Rattle.blocks.specs.Below.{joined}
use Rattle.sheet.specs.Read.{node_pair, node_single}
use Rattle.sheet.specs.Steps.{Room, RowRead, RowsRead}
use Rattle.blocks.proofs.Below.{joined-more, length-joined}

-- entries stored behind those at a slice's start
stored-behind : (new more old : List ℕ) (at : ℕ) → length new ≡ at → at + length more ≤ length old
    → sets (overwrite new old) at more ≡ overwrite (new ++ more) old
stored-behind new more old at size room =
    rw (← size, ← sets_start new old (omega arith), ← sets_start (new ++ more) old (omega (arith, length-append new more)), ← zero-add (length new))
    (sets_append old 0 new more)

-- c words of each row, in the slice that they are read into
module _ (c : ℕ) (entry : ℕ → List ℕ) (each : (r : ℕ) → length (entry r) ≡ c) where
  -- the slice keeps its length
  length-read : (r : ℕ) (old : List ℕ) → c * r ≤ length old → length (overwrite (joined r entry) old) ≡ length old
  length-read r old room = length-overwrite (joined r entry) old (omega (arith, length-joined c entry each r))

  -- the words of one node more
  entry_more : (r at : ℕ) (old : List ℕ) → c * r ≡ at → at + c ≤ length old
      → sets (overwrite (joined r entry) old) at (entry r) ≡ overwrite (joined (r + 1) entry) old
  entry_more r at old place room =
      rw (joined-more r entry) (stored-behind (joined r entry) (entry r) old at (length-joined c entry each r ∙ place) (omega (arith, each r)))

  -- what is read again
  entries-again : (r n : ℕ) (old : List ℕ) → r ≤ n → overwrite (joined n entry) (overwrite (joined r entry) old) ≡ overwrite (joined n entry) old
  entries-again r n old fits =
      overwrite-again (joined n entry) (joined r entry) old
      (omega (arith, length-joined c entry each r, length-joined c entry each n, mul-le-mul_left c fits))

-- words j and j + 1 of the rows, and word j alone
pub length_pairs : (file : List ℕ) (j r : ℕ) → length (joined r (node_pair file j)) ≡ 2 * r
length_pairs file j r = length-joined 2 (node_pair file j) (λ i. refl) r

pub length_singles : (file : List ℕ) (j r : ℕ) → length (joined r (node_single file j)) ≡ r
length_singles file j r = length-joined 1 (node_single file j) (λ i. refl) r ∙ one-mul r

module _ (file : List ℕ) (r : ℕ) (table tapes half_widths table' tapes' halfWidths' : List ℕ)
    (read : RowsRead file r table tapes half_widths table' tapes' halfWidths') where
  -- the slices keep their length
  pub table_kept : 2 * r ≤ length table → length table' ≡ length table
  table_kept room = ap length read.table-after ∙ length-read 2 (node_pair file 0) (λ i. refl) r table room

  pub tapes-kept : 2 * r ≤ length tapes → length tapes' ≡ length tapes
  tapes-kept room = ap length read.tapes-after ∙ length-read 2 (node_pair file 2) (λ i. refl) r tapes room

  pub half_widths-kept : r ≤ length half_widths → length halfWidths' ≡ length half_widths
  half_widths-kept room = ap length read.half_widths-after ∙ length-read 1 (node_single file 4) (λ i. refl) r half_widths (omega arith)

  -- the room stays
  pub room-kept : (k n : ℕ) → k ≤ n → r ≤ n → Room n file table tapes half_widths → Room k file table' tapes' halfWidths'
  room-kept k n few fits room =
      record {
        blocks = omega arith;
        in_table = omega (arith, table_kept (omega arith));
        in_tapes = omega (arith, tapes-kept (omega arith));
        in_half_widths = omega (arith, half_widths-kept (omega arith));
      }

  -- the row of one node more
  pub row_more : (n : ℕ) (table'' tapes'' halfWidths'' : List ℕ) → r < n → Room n file table tapes half_widths
      → RowRead file r table' tapes' halfWidths' table'' tapes'' halfWidths''
      → RowsRead file (r + 1) table tapes half_widths table'' tapes'' halfWidths''
  row_more n table'' tapes'' halfWidths'' l room row =
      record {
        table-after = row.table-after ∙ rw read.table-after (entry_more 2 (node_pair file 0) (λ i. refl) r (2 * r) table refl (omega arith));
        tapes-after = row.tapes-after ∙ rw read.tapes-after (entry_more 2 (node_pair file 2) (λ i. refl) r (2 * r) tapes refl (omega arith));
        half_widths-after =
            row.half_widths-after ∙ rw read.half_widths-after (entry_more 1 (node_single file 4) (λ i. refl) r r half_widths (one-mul r) (omega arith));
      }

  -- the rows of further nodes
  pub rows_more : (n : ℕ) (table'' tapes'' halfWidths'' : List ℕ) → r ≤ n → RowsRead file n table' tapes' halfWidths' table'' tapes'' halfWidths''
      → RowsRead file n table tapes half_widths table'' tapes'' halfWidths''
  rows_more n table'' tapes'' halfWidths'' fits more =
      record {
        table-after = more.table-after ∙ rw read.table-after (entries-again 2 (node_pair file 0) (λ i. refl) r n table fits);
        tapes-after = more.tapes-after ∙ rw read.tapes-after (entries-again 2 (node_pair file 2) (λ i. refl) r n tapes fits);
        half_widths-after = more.half_widths-after ∙ rw read.half_widths-after (entries-again 1 (node_single file 4) (λ i. refl) r n half_widths fits);
      }

  -- the slices as they are have the rows that were read
  pub rows-there : RowsRead file r table' tapes' halfWidths' table' tapes' halfWidths'
  rows-there =
      record {
        table-after = rw read.table-after (sym (entries-again 2 (node_pair file 0) (λ i. refl) r r table (le_refl r)));
        tapes-after = rw read.tapes-after (sym (entries-again 2 (node_pair file 2) (λ i. refl) r r tapes (le_refl r)));
        half_widths-after = rw read.half_widths-after (sym (entries-again 1 (node_single file 4) (λ i. refl) r r half_widths (le_refl r)));
      }

-- before the first row
pub none_read : (file table tapes half_widths : List ℕ) → RowsRead file 0 table tapes half_widths table tapes half_widths
unfolding overwrite joined
none_read file table tapes half_widths = record { table-after = refl; tapes-after = refl; half_widths-after = refl }
