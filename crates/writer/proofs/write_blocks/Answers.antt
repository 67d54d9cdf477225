-- `write_blocks` writes the header and then the blocks of rows. The invariant: the walk stands at the row of a node, the blocks of the nodes
-- before it are whole, and the output starts with them. Assumes nothing.
use Rattle.std.proofs.Common.{◌≡◌, ℕ, ◌+◌, ◌-◌, ◌*◌, ◌<◌, ◌≤◌, List, length, sym, ap, ◌∙◌, le_refl, lt_of_le_of_lt, mul-le-mul_left, arith}
use borrow.Rule.Slice.PartMut.{mid_len}
use Rattle.refusal.specs.After.{overwrite}
use Rattle.tree.specs.Table.{nodes}
use Rattle.tree.proofs.Stands.{accepted-numbers, accepted-length}
use Rattle.blocks.specs.Block.{block_bytes}
use Rattle.sheet.specs.Layout.{block_rows, blocks_for}
use Rattle.sheet.specs.Walk.{OnRow}
use Rattle.sheet.specs.declared.walk.RowPlace.{RowPlace}
use Rattle.sheet.proofs.Written.{length-file}
use Rattle.writer.specs.Write.{sheet_file}
use Rattle.writer.specs.Rows.{node_count}
use Rattle.writer.proofs.Blocks.{front, length-written, blocks-begun, block_more, blocks-ended, Whole, begins, place-begun, fewer-left, place-ended, whole-ended}
use Rattle.writer.proofs.write_blocks.Goals as goal

-- what is known of the parameters
module _ (table : List ℕ) (D : ℕ) (tapes widths old : List ℕ) (fits : length (sheet_file table D tapes widths) ≤ length old) where
  room : block_bytes * blocks_for (nodes table) ≤ length old
  room = omega (arith, length-file (nodes table) D table tapes widths)

  -- at the loop's head
  module _ (at : RowPlace) (begun out : List ℕ) (header-size : length begun ≡ length old) (on_row : OnRow at) (whole : Whole (nodes table) at.node)
      (written : out ≡ overwrite (front (nodes table) D table tapes widths (blocks_for at.node)) begun) where
    same_size : length out ≡ length old
    same_size =
        ap length written
        ∙ length-written (nodes table) D table tapes widths (blocks_for at.node) begun (omega (arith, room, header-size))
        ∙ header-size

    -- where a node is left, its block begins with it
    module _ (left : at.node < nodes table) where
      first : at.node ≡ block_rows * (at.block - 1)
      first = begins _ _ whole left ∙ rw on_row.block

      place : at.block ≡ blocks_for at.node
      place = on_row.block ∙ sym (place-begun _ _ whole left)

      front-written : out ≡ overwrite (front (nodes table) D table tapes widths at.block) begun
      front-written = written ∙ ap (λ (count : ℕ). overwrite (front (nodes table) D table tapes widths count) begun) (sym place)

      within : block_bytes * at.block + block_bytes ≤ length out
      within = omega (arith, room, same_size, place, first)

pub write_header-requires : goal.write_header-requires
write_header-requires c =
    let few = (accepted-numbers c.args.rows.tree.entries.now c.args.rows.tree.well_formed).few in
    (omega arith, omega (arith, room _ _ _ _ _ c.requires))

pub loop-at-init : goal.loop-at-init
loop-at-init c =
    let a = c.args in
    let first = c.first_row-at.ensures in (
      first.1,
      rw first.0 (omega arith),
      rw first.0 (blocks-begun (node_count a.rows) a.separation a.rows.tree.entries.now a.rows.tapes.now a.rows.widths.now a.out.now _ (rw c.nodes-n.ensures at c.write_header.ensures)),
    )

pub overflow_mul-start : goal.overflow_mul-start
overflow_mul-start c =
    let few = (accepted-numbers c.args.rows.tree.entries.now c.args.rows.tree.well_formed).few in
    let few-blocks : c.loop-at.at.block ≤ 1024 = omega (arith, c.loop-at.invariant.0.block, few, c.loop-at-test.true) in
    record { fits = lt_of_le_of_lt (mul-le-mul_left _ few-blocks) (omega arith) }

pub slice_bounds-write_block-count : goal.slice_bounds-write_block-count
slice_bounds-write_block-count c =
    let inv = c.loop-at.invariant in
    omega (arith, within _ _ _ _ _ c.requires _ _ _ c.write_header.auto.block inv.0 inv.1 inv.2 (omega arith))

pub slice_bounds-write_block-start : goal.slice_bounds-write_block-start
slice_bounds-write_block-start c =
    let inv = c.loop-at.invariant in
    omega (arith, within _ _ _ _ _ c.requires _ _ _ c.write_header.auto.block inv.0 inv.1 inv.2 (omega arith))

pub write_block-at-requires : goal.write_block-at-requires
write_block-at-requires c =
    let inv = c.loop-at.invariant in
    let left : c.loop-at.at.node < node_count c.args.rows = omega arith in
    let few = (accepted-numbers c.args.rows.tree.entries.now c.args.rows.tree.well_formed).few in
    let even = accepted-length c.args.rows.tree.entries.now c.args.rows.tree.well_formed in
    record {
      begun = record {
        on_row = inv.0;
        first = first _ _ _ _ _ c.requires _ _ _ c.write_header.auto.block inv.0 inv.1 inv.2 left;
        left = omega arith;
        few = omega arith;
        in_table = omega arith;
        in_tapes = c.args.rows.enough.0;
        in_half_widths = c.args.rows.enough.1;
      };
      block_bytes_in_bounds =
          omega (
            arith,
            within _ _ _ _ _ c.requires _ _ _ c.write_header.auto.block inv.0 inv.1 inv.2 left,
            mid_len (block_bytes * c.loop-at.at.block) (length c.loop-at.out) c.loop-at.out (le_refl _),
          );
    }

pub loop-at-smaller : goal.loop-at-smaller
loop-at-smaller c =
    let inv = c.loop-at.invariant in
    let left : c.loop-at.at.node < node_count c.args.rows = omega arith in
    let begun = first _ _ _ _ _ c.requires _ _ _ c.write_header.auto.block inv.0 inv.1 inv.2 left in
    fewer-left _ _ _ _ begun left c.write_block-at.ensures.past.node

pub loop-at-preserved : goal.loop-at-preserved
loop-at-preserved c =
    let a = c.args in
    let n = node_count a.rows in
    let at = c.loop-at.at in
    let inv = c.loop-at.invariant in
    let left : c.loop-at.at.node < node_count c.args.rows = omega arith in
    let past = c.write_block-at.ensures.past in
    let fits = c.requires in
    let size = c.write_header.auto.block in
    let begun = first _ _ _ _ _ fits _ _ _ size inv.0 inv.1 inv.2 left in
    let here = place _ _ _ _ _ fits _ _ _ size inv.0 inv.1 inv.2 left in
    let inside = within _ _ _ _ _ fits _ _ _ size inv.0 inv.1 inv.2 left in
    let same = same_size _ _ _ _ _ fits _ _ _ size inv.0 inv.1 inv.2 in
    let next : blocks_for c.write_block-at.result.node ≡ at.block + 1 = place-ended _ _ _ _ begun left past.node ∙ omega (arith, here) in (
      past.on_row,
      whole-ended _ _ _ _ begun left past.node,
      rw next
          (block_more n a.separation a.rows.tree.entries.now a.rows.tapes.now a.rows.widths.now (at.block - 1) at.block at.node _ c.loop-at.out _ (omega (arith, here)) begun
          (omega (arith, inside, same, size)) (front-written _ _ _ _ _ fits _ _ _ size inv.0 inv.1 inv.2 left) c.write_block-at.ensures.block_after),
    )

pub blocks_for-requires : goal.blocks_for-requires
blocks_for-requires c =
    let few = (accepted-numbers c.args.rows.tree.entries.now c.args.rows.tree.well_formed).few in
    omega arith

pub overflow_mul-result : goal.overflow_mul-result
overflow_mul-result c =
    let few = (accepted-numbers c.args.rows.tree.entries.now c.args.rows.tree.well_formed).few in
    omega (arith, c.blocks_for.ensures, few)

pub shape_of-out : goal.shape_of-out
shape_of-out c =
    let inv = c.loop-at.invariant in
    same_size _ _ _ _ _ c.requires _ _ _ c.write_header.auto.block inv.0 inv.1 inv.2

pub returns : goal.returns
returns c =
    let a = c.args in
    let n = node_count a.rows in
    let all : blocks_for c.loop-at.at.node ≡ blocks_for n = omega arith in
    record {
      count = omega (arith, c.blocks_for.ensures, length-file n a.separation a.rows.tree.entries.now a.rows.tapes.now a.rows.widths.now);
      out-after =
          blocks-ended n a.separation a.rows.tree.entries.now a.rows.tapes.now a.rows.widths.now _ a.out.now _ _ all (rw c.nodes-n.ensures at c.write_header.ensures) c.loop-at.invariant.2;
    }
