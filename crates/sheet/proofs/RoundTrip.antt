-- Reading the file of a sheet is accepted and gives the sheet back. Assumes nothing.
use mathlib.Core.Path.{◌≡◌, ap, ◌∙◌}
use Prim.Native.Nat.{ℕ, ◌*◌, ◌%◌, ◌≤◌, ◌<◌}
use native.Mathlib.Omega.{arith}
use mathlib.Core.Bool.{Bool, true, false, not}
use mathlib.Core.List.{List}
use lib.ListN.{length}
use borrow.Author.Tests.{eq-eqb, le-ltb, le-leb}
use Rattle.refusal.specs.After.{overwrite}
use Rattle.refusal.proofs.After.{after-accepted}
use Rattle.blocks.specs.Block.{block_bytes, block_count, block_at, sound, in_place}
use Rattle.sheet.specs.Layout.{most_nodes, most_separation, blocks_for, laid_out}
use Rattle.sheet.specs.Read.{nodes_of, separation_of, table_of, tapes_of, half_widths_of, some_block_fails, length_wrong, check_wrong, place_wrong, layout_wrong, room_wrong, refusal, SheetRead}
use Rattle.sheet.specs.File.{content, file_of, Contents, ReadBack}
use Rattle.sheet.specs.Read.{Answer}
use Rattle.blocks.proofs.Below.{every_holds, joined_cong}
use Rattle.sheet.proofs.Pairs.{pairs-joined, singles_joined}
use Rattle.sheet.proofs.Written.{length-file, word_read, check_read, place_read, laid-read, links-read, tape_read, half_width-read}

module _ (n separation : ℕ) (table tapes half_widths : List ℕ) (held : Contents n separation table tapes half_widths) where
  abbrev file : List ℕ
  file = file_of n separation table tapes half_widths

  count : block_count file ≡ blocks_for n
  count = omega (arith, length-file n separation table tapes half_widths)

  nodes-back : nodes_of file ≡ n
  unfolding content
  nodes-back = word_read n separation table tapes half_widths 0 (omega arith) 2 (omega arith)

  separation-back : separation_of file ≡ separation
  unfolding content
  separation-back = word_read n separation table tapes half_widths 0 (omega arith) 3 (omega arith)

  length-right : length_wrong (length file) ≡ false
  length-right =
      let size = length-file n separation table tapes half_widths in
      let multiple : length file % block_bytes ≡ 0 = omega arith in
      let least : block_bytes * 2 ≤ length file = omega arith in
      let most : length file ≤ block_bytes * blocks_for most_nodes = omega arith in
      rw (eq-eqb _ _ multiple, le-ltb _ _ least, le-ltb _ _ most)

  -- what holds of each block of the file
  all_blocks : (test : ℕ → List ℕ → Bool) → ((b : ℕ) → b < blocks_for n → test b (block_at file b) ≡ true) → some_block_fails test file ≡ false
  all_blocks test h = ap not (every_holds (block_count file) (λ b. test b (block_at file b)) (λ b l. h b (omega (arith, count))))

  check_right : check_wrong file ≡ false
  check_right = all_blocks (λ b block. sound block) (check_read n separation table tapes half_widths)

  place-right : place_wrong file ≡ false
  place-right = all_blocks in_place (place_read n separation table tapes half_widths)

  layout-right : layout_wrong file ≡ false
  layout-right =
      let least = held.nodes-least in
      let most = held.nodes-most in
      rw (
        nodes-back,
        separation-back,
        le-leb 1 n least,
        le-leb n most_nodes most,
        le-leb 1 separation held.separation-least,
        le-leb separation most_separation held.separation-most,
        eq-eqb _ _ (length-file n separation table tapes half_widths),
      )
      (all_blocks (laid_out n) (laid-read n separation table tapes half_widths))

  table-back : table_of file n ≡ table
  table-back = joined_cong n _ _ (links-read n separation table tapes half_widths) ∙ pairs-joined n table held.table-size

  tapes-back : tapes_of file n ≡ tapes
  tapes-back = joined_cong n _ _ (tape_read n separation table tapes half_widths) ∙ pairs-joined n tapes held.tapes-size

  half_widths-back : half_widths_of file n ≡ half_widths
  half_widths-back = joined_cong n _ _ (half_width-read n separation table tapes half_widths) ∙ singles_joined n half_widths held.half_widths-size

  module _ (tableLength tapesLength halfWidthsLength : ℕ) (table-room : 2 * n ≤ tableLength) (tapes-room : 2 * n ≤ tapesLength)
      (half_widths-room : n ≤ halfWidthsLength) where
    room-right : room_wrong (nodes_of file) tableLength tapesLength halfWidthsLength ≡ false
    room-right = rw (nodes-back, le-ltb _ _ table-room, le-ltb _ _ tapes-room, le-ltb _ _ half_widths-room)

    accepted : refusal file tableLength tapesLength halfWidthsLength ≡ 0
    unfolding refusal
    accepted = rw (length-right, check_right, place-right, layout-right, room-right)

    -- reading gives the contents back
    pub round_trip : ReadBack n separation table tapes half_widths tableLength tapesLength halfWidthsLength
    round_trip = record {
      number = accepted;
      nodes = nodes-back;
      separation-back = separation-back;
      table-back = table-back;
      tapes-back = tapes-back;
      half_widths-back = half_widths-back;
    }

  -- so the operation, reading the file into slices with room, answers with the contents
  pub read-written : (old-table old-tapes old-half-widths table' tapes' halfWidths' : List ℕ) (answer : Answer) → 2 * n ≤ length old-table
      → 2 * n ≤ length old-tapes
      → n ≤ length old-half-widths
      → SheetRead file old-table old-tapes old-half-widths answer table' tapes' halfWidths'
      → (answer ≡ record { number = 0; nodes = n; separation = separation }) × (table' ≡ overwrite table old-table) × (tapes' ≡ overwrite tapes old-tapes)
      × (halfWidths' ≡ overwrite half_widths old-half-widths)
  read-written old-table old-tapes old-half-widths table' tapes' halfWidths' answer t s w read =
      let zero_number = accepted (length old-table) (length old-tapes) (length old-half-widths) t s w in
      let number : answer.number ≡ 0 = read.number ∙ zero_number in
      let nodes : answer.nodes ≡ n = read.nodes ∙ rw zero_number nodes-back in
      let separated : answer.separation ≡ separation = read.separation ∙ rw zero_number separation-back in (
        (λ i. record { number = number i; nodes = nodes i; separation = separated i }),
        read.table-after ∙ rw (after-accepted, nodes-back, table-back),
        read.tapes-after ∙ rw (after-accepted, nodes-back, tapes-back),
        read.half_widths-after ∙ rw (after-accepted, nodes-back, half_widths-back),
      )
