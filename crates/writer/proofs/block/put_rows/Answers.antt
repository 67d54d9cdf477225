-- `block::put_rows` stores the rows of a block. The invariant: the walk stands at the row of one of its nodes, and the rows before it are
-- stored. Assumes nothing.
use Rattle.std.proofs.Common.{◌≡◌, ℕ, ◌+◌, ◌-◌, ◌<◌, ◌≤◌, List, length, sym, ap, ◌∙◌, arith}
use Rattle.blocks.specs.Below.{joined}
use Rattle.sheet.specs.Layout.{first_word, block_rows, row_word, node_word}
use Rattle.sheet.specs.File.{row}
use Rattle.writer.specs.Steps.{store_words, rows_of, rows_from}
use Rattle.writer.specs.Rows.{node_count}
use Rattle.writer.proofs.Stored.{store_none, length-stored}
use Rattle.writer.proofs.Rows.{rows_more, row_word_lem, one_further}
use Rattle.writer.proofs.block.put_rows.Goals as goal

-- one row more is stored, which makes k
row-stored : (table tapes half_widths old current last : List ℕ) (first node k : ℕ)
    → current ≡ store_words old first_word (rows_from table tapes half_widths first (node - first))
    → first ≤ node
    → node + 1 ≡ first + k
    → node_word node ≡ row_word (node - first)
    → last ≡ store_words current (node_word node) (row table tapes half_widths node)
    → last ≡ store_words old first_word (rows_from table tapes half_widths first k)
row-stored table tapes half_widths old current last first node k isCurrent from count here stored =
    let that_node : first + (node - first) ≡ node = omega arith in
    let all : k ≡ node - first + 1 = omega arith in
    rw all (rows_more table tapes half_widths first old current last (node - first) isCurrent (rw (← here, that_node) stored))

pub loop-at-init : goal.loop-at-init
unfolding joined
loop-at-init c =
    let from = c.args.from in
    let none : from.node - from.node ≡ 0 = omega arith in
    let at = c.requires.begun.on_row in
    (record { block = at.block; word = omega arith }, omega arith, omega arith, rw none (sym (store_none _ first_word)))

pub put_row-requires : goal.put_row-requires
put_row-requires c =
    let inv = c.loop-at.invariant in
    let same : length c.loop-at.block ≡ length c.args.block.now = ap length inv.3 ∙ length-stored _ first_word _ in
    record { on_row = (inv.0, omega arith); node = omega arith }

pub next_row-at-requires : goal.next_row-at-requires
next_row-at-requires c = (c.loop-at.invariant.0, omega (arith, c.requires.begun))

pub loop-at-smaller : goal.loop-at-smaller
loop-at-smaller c = omega (arith, c.next_row-at.ensures)

pub loop-at-preserved : goal.loop-at-preserved
loop-at-preserved c =
    let inv = c.loop-at.invariant in
    let begins = c.requires.begun.first in
    let next = c.next_row-at.ensures in
    let inside : node_word c.loop-at.at.node < row_word (block_rows - 1) = rw (← inv.0.word) (omega arith) in
    let one = one_further _ _ _ _ begins inv.1 inv.2 (omega arith) inside in (
      next.1,
      omega arith,
      rw next.0 one,
      row-stored _ _ _ _ _ _ _ _ _ inv.3 inv.1 (omega arith) (row_word_lem _ _ _ _ begins inv.1 inv.2) c.put_row.ensures,
    )

pub put_row-requires-2 : goal.put_row-requires-2
put_row-requires-2 c =
    let inv = c.loop-at.invariant in
    let same : length c.loop-at.block ≡ length c.args.block.now = ap length inv.3 ∙ length-stored _ first_word _ in
    record { on_row = (inv.0, omega arith); node = omega arith }

pub next_row-requires : goal.next_row-requires
next_row-requires c = (c.loop-at.invariant.0, omega (arith, c.requires.begun))

pub shape_of-block : goal.shape_of-block
shape_of-block c = rw (c.put_row-2.ensures, length-stored) (ap length c.loop-at.invariant.3 ∙ length-stored _ first_word _)

pub returns : goal.returns
returns c =
    let inv = c.loop-at.invariant in
    let begins = c.requires.begun.first in
    let next = c.next_row.ensures in
    -- the loop is left at the block's last row
    let ended : c.loop-at.at.node + 1 ≡ c.args.from.node + rows_of (node_count c.args.rows) c.args.from =
    grind (arith, row_word_lem _ _ _ _ begins inv.1 inv.2, inv.0.word, c.loop-at-test.branch)
    in
    record {
      past = record { on_row = next.1; node = next.0 ∙ ended };
      block_after = row-stored _ _ _ _ _ _ _ _ _ inv.3 inv.1 ended (row_word_lem _ _ _ _ begins inv.1 inv.2) c.put_row-2.ensures;
    }
