-- The loop of the first pass: what is left of the text takes the state to where the whole text takes the first, and the counts are no
-- greater than the bytes passed. Assumes nothing.
use Rattle.std.proofs.Common.{◌≡◌, ◌≤◌, drop}
use Rattle.newick.specs.Steps.{steps, counts}
use Rattle.newick.proofs.judge.count_nodes.Given as goal

abbrev pub invariant-loop-byte : goal.invariant-loop-byte
invariant-loop-byte l = record {
  same_end : steps l.scan (drop l.byte-index l.text) ≡ steps l.initial.scan l.text;
  few : counts l.scan ≤ l.byte-index;
}
