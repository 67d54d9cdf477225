-- The loop that counts off the smaller levels. Assumes nothing.
use Rattle.std.proofs.Common.{ℕ, ◌≡◌, ◌+◌, arith}
use mathlib.Core.Path.{subst}
use Rattle.small_trees.specs.Steps.{Chosen}
use Rattle.small_trees.proofs.Ways.{count-start, count_next, chosen, chosen-last}
use Rattle.small_trees.proofs.levels.choose.Goals as goal
use Rattle.small_trees.proofs.levels.choose.Goals.{else-loop-level-test, then-loop-level-test+else-rest-count+else-level-level-end}

one_more : {more behind place rest level : ℕ} → behind + 1 ≡ level → Chosen more behind place (record { level = behind + 1; place = rest })
    → Chosen more behind place (record { level = level; place = rest })
one_more {more} {behind} {place} {rest} same last = subst (λ (l : ℕ). Chosen more behind place (record { level = l; place = rest })) same last

pub loop-level-init : goal.loop-level-init
loop-level-init c = count-start _ _ _ c.requires

pub returns-then-rest-count : goal.returns-then-rest-count
returns-then-rest-count c = chosen _ _ _ _ _ c.loop-level.invariant (omega arith)

pub loop-level-preserved : goal.loop-level-preserved
loop-level-preserved c = rw c.ways-count.ensures (count_next _ _ _ _ _ c.loop-level.invariant (omega arith))

pub returns : goal.returns
returns c =
    elim c.loop-level-test.branch [
      | else-loop-level-test w ↦ rw w.rest-is (one_more (omega arith) (chosen-last _ _ _ _ _ c.loop-level.invariant (omega arith)))
      | then-loop-level-test+else-rest-count+else-level-level-end w ↦
          rw (w.rest-is, w.ways-count.ensures)
          (one_more (omega arith) (chosen-last _ _ _ _ _ (count_next _ _ _ _ _ c.loop-level.invariant (omega arith)) (omega arith)))
    ]
