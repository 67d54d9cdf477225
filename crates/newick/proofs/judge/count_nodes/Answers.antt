-- The loop of the first pass. Assumes nothing.
use native.Mathlib.Omega.{arith}
use Rattle.newick.proofs.Counted.{broken_here, step_here, ended_here, unended_here, counts_here}
use Rattle.newick.proofs.judge.count_nodes.Goals as goal

pub returns-in_err-scan : goal.returns-in_err-scan
returns-in_err-scan c =
    let l = c.loop-byte in
    rw c.from_residual.ensures (broken_here c.args.text.now l.scan l.byte-index l.invariant.same_end c.loop-byte-test.true c.in_err-scan.ensures)

pub loop-byte-preserved : goal.loop-byte-preserved
loop-byte-preserved c =
    let l = c.loop-byte in
    let next = c.in_ok-scan in
    record {
      same_end = step_here c.args.text.now l.scan l.byte-index l.invariant.same_end c.loop-byte-test.true next.scan next.ensures;
      few = omega (arith, counts_here l.scan next.scan _ next.ensures);
    }

pub returns-in-Ended : goal.returns-in-Ended
returns-in-Ended c =
    let l = c.loop-byte in
    ended_here c.args.text.now l.scan l.byte-index l.invariant.same_end c.loop-byte-test.false l.auto.byte-index-end _ c.in-Ended.is

pub returns-in_default : goal.returns-in_default
returns-in_default c =
    let l = c.loop-byte in
    unended_here c.args.text.now l.scan l.byte-index l.invariant.same_end c.loop-byte-test.false l.auto.byte-index-end c.in_default.not-Ended
