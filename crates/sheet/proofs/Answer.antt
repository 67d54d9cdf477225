-- What the number says of the file and the slices, and the promise of `read_sheet` for a refusal and for an acceptance.
-- Assumes nothing.
use mathlib.Core.Path.{◌≡◌, refl, sym, ap, ◌∙◌}
use Prim.Native.Nat.{ℕ, zero, suc, ◌*◌, ◌%◌, ◌≤◌, ◌<◌}
use native.Mathlib.Omega.{arith}
use mathlib.Core.Bool.{Bool, true, false, not, cond}
use mathlib.Core.List.{List, [], ◌∷◌, ◌++◌}
use lib.Dec.{eqb, ltb, leb}
use lib.ListN.{length}
use borrow.Author.Tests.{ltb-false, le-ltb, leb-true, eqb-true, not-false}
use Rattle.refusal.specs.First.{Condition, ◌⇐◌, first}
use Rattle.refusal.proofs.After.{granted-refused, after-accepted, after-refused}
use Rattle.refusal.proofs.Laws.{first-refused, first-passed, first-none, none_first}
use Rattle.refusal.proofs.Truth.{or-false-left, or-false-right, or-false, and_left, and_right}
use Rattle.blocks.specs.Block.{block_bytes, block_count, block_at, sound, in_place}
use Rattle.sheet.specs.Layout.{most_nodes, most_separation, blocks_for, laid_out}
use Rattle.sheet.specs.Steps.{RowsRead}
use Rattle.blocks.proofs.Below.{every-at}
use Rattle.sheet.specs.Read.{nodes_of, separation_of, some_block_fails, length_wrong, within, room_wrong, file_conditions, conditions, file_number, refusal, number_read, SheetRead}

pub long-enough : (bytes : ℕ) → length_wrong bytes ≡ false → block_bytes * 2 ≤ bytes
long-enough bytes h =
    let short = or-false-right (not (eqb (bytes % block_bytes) 0)) _ h in
    ltb-false bytes (block_bytes * 2) (or-false-left (ltb bytes (block_bytes * 2)) _ short)

-- a test that fails for no block holds for each
each-block : (test : ℕ → List ℕ → Bool) (file : List ℕ) → some_block_fails test file ≡ false → (b : ℕ) → b < block_count file
    → test b (block_at file b) ≡ true
each-block test file h = every-at (block_count file) (λ b. test b (block_at file b)) (not-false _ h)

-- what is known of a file that can be read
pub record Readable (file : List ℕ) : Type 0 where
  pub header : block_bytes * 2 ≤ length file
  pub checks : (b : ℕ) → b < block_count file → sound (block_at file b) ≡ true
  pub places : (b : ℕ) → b < block_count file → in_place b (block_at file b) ≡ true
  pub nodes-most : nodes_of file ≤ most_nodes
  pub separation-some : 1 ≤ separation_of file
  pub separation-most : separation_of file ≤ most_separation
  pub blocks : length file ≡ block_bytes * blocks_for (nodes_of file)
  pub layout : (b : ℕ) → b < block_count file → laid_out (nodes_of file) b (block_at file b) ≡ true

in_range_lem : (greatest x : ℕ) → not (within greatest x) ≡ false → (1 ≤ x) × (x ≤ greatest)
in_range_lem greatest x e =
    let h = not-false (within greatest x) e in
    (leb-true 1 x (and_left (leb 1 x) (leb x greatest) h), leb-true x greatest (and_right (leb 1 x) (leb x greatest) h))

pub readable : (file : List ℕ) → file_number file ≡ 0 → Readable file
unfolding file_number
readable file e =
    let h = first-none (file_conditions file) (omega arith) e in
    let laid = h.1.1.1.0 in
    let separation = or-false-right (not (within most_nodes (nodes_of file))) _ laid in
    let size = or-false-right (not (within most_separation (separation_of file))) _ separation in
    let range = in_range_lem most_separation (separation_of file) (or-false-left (not (within most_separation (separation_of file))) _ separation) in
    record {
      header = long-enough (length file) h.0;
      checks = each-block (λ b block. sound block) file h.1.0;
      places = each-block in_place file h.1.1.0;
      nodes-most = (in_range_lem most_nodes (nodes_of file) (or-false-left (not (within most_nodes (nodes_of file))) _ laid)).1;
      separation-some = range.0;
      separation-most = range.1;
      blocks = eqb-true _ _ (not-false _ (or-false-left (not (eqb (length file) (block_bytes * blocks_for (nodes_of file)))) _ size));
      layout = each-block (laid_out (nodes_of file)) file (or-false-right (not (eqb (length file) (block_bytes * blocks_for (nodes_of file)))) _ size);
    }

-- with slices for 1,024 nodes, the file decides
pub file-decides : (file : List ℕ) (tableLength tapesLength halfWidthsLength : ℕ) → 2 * most_nodes ≤ tableLength → 2 * most_nodes ≤ tapesLength
    → most_nodes ≤ halfWidthsLength
    → refusal file tableLength tapesLength halfWidthsLength ≡ file_number file
unfolding refusal file_number
file-decides file tableLength tapesLength halfWidthsLength table tapes half_widths = go (file_number file) refl
  where
    room : List Condition
    room = 7 ⇐ room_wrong (nodes_of file) tableLength tapesLength halfWidthsLength ∷ []

    go : (k : ℕ) → file_number file ≡ k → first (file_conditions file ++ room) ≡ first (file_conditions file)
    go zero e =
        let most = (readable file e).nodes-most in
        first-passed (file_conditions file) room (first-none (file_conditions file) (omega arith) e)
        ∙ ap (λ (b : Bool). cond b 7 0)
        (or-false (le-ltb tableLength (2 * nodes_of file) (omega arith))
        (or-false (le-ltb tapesLength (2 * nodes_of file) (omega arith)) (le-ltb halfWidthsLength (nodes_of file) (omega arith))))
        ∙ sym e
    go (suc k) e = first-refused (file_conditions file) room (λ z. omega arith)

-- what is known of an accepted file and of the slices
pub record Accepted (file : List ℕ) (tableLength tapesLength halfWidthsLength : ℕ) : Type 0 where
  pub file-sound : Readable file
  pub table-room : 2 * nodes_of file ≤ tableLength
  pub tapes-room : 2 * nodes_of file ≤ tapesLength
  pub half_widths-room : nodes_of file ≤ halfWidthsLength

pub accepted : (file : List ℕ) (tableLength tapesLength halfWidthsLength : ℕ) → refusal file tableLength tapesLength halfWidthsLength ≡ 0
    → Accepted file tableLength tapesLength halfWidthsLength
unfolding refusal file_number
accepted file t s w e =
    let h = first-none (conditions file t s w) (omega arith) e in
    let room = h.1.1.1.1.0 in
    let others = or-false-right (ltb t (2 * nodes_of file)) _ room in
    record {
      file-sound = readable file (none_first (file_conditions file) (h.0, (h.1.0, (h.1.1.0, (h.1.1.1.0, tt)))));
      table-room = ltb-false t (2 * nodes_of file) (or-false-left (ltb t (2 * nodes_of file)) _ room);
      tapes-room = ltb-false s (2 * nodes_of file) (or-false-left (ltb s (2 * nodes_of file)) _ others);
      half_widths-room = ltb-false w (nodes_of file) (or-false-right (ltb s (2 * nodes_of file)) _ others);
    }

module _ (file table tapes half_widths : List ℕ) where
  pub refused-read : (number : ℕ) → (number ≡ 0 → ⊥) → number ≡ number_read file table tapes half_widths
      → SheetRead file table tapes half_widths (record { number = number; nodes = 0; separation = 0 }) table tapes half_widths
  refused-read number h e =
      let refused : number_read file table tapes half_widths ≡ 0 → ⊥ = rw (← e) h in
      record {
        number = e;
        nodes = rw granted-refused;
        separation = rw granted-refused;
        table-after = rw after-refused;
        tapes-after = rw after-refused;
        half_widths-after = rw after-refused;
      }

  pub accepted-read : (nodes separation : ℕ) (table' tapes' halfWidths' : List ℕ) → number_read file table tapes half_widths ≡ 0 → nodes ≡ nodes_of file
      → separation ≡ separation_of file
      → RowsRead file nodes table tapes half_widths table' tapes' halfWidths'
      → SheetRead file table tapes half_widths (record { number = 0; nodes = nodes; separation = separation }) table' tapes' halfWidths'
  accepted-read nodes separation table' tapes' halfWidths' e isNodes isSeparation rows = record {
    number = sym e;
    nodes = rw e isNodes;
    separation = rw e isSeparation;
    table-after = rw (after-accepted, ← isNodes) rows.table-after;
    tapes-after = rw (after-accepted, ← isNodes) rows.tapes-after;
    half_widths-after = rw (after-accepted, ← isNodes) rows.half_widths-after;
  }
