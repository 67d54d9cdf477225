-- `tree::judge::scan` meets its contract: each turn takes one entry. Assumes nothing.
use mathlib.Core.Path.{◌≡◌}
use lib.ListN.{length}
use Rattle.tree.proofs.Scan.{Scanning}
use Rattle.tree.proofs.judge.scan.Given as goal

abbrev pub invariant-loop-entry : goal.invariant-loop-entry
invariant-loop-entry l = (length l.named ≡ length l.initial.named) × Scanning l.table l.named l.names l.repeated l.entry-index
