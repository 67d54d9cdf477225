-- `layout::draw` meets its contract. Assumes nothing.
use Rattle.std.proofs.Common.{ℕ, ◌*◌, ◌≤◌, length, replicate, pos, ap, ◌∙◌, arith}
use lib.Seq.{length-take-le}
use Rattle.tree.specs.Table.{nodes}
use Rattle.tree.proofs.Stands.{accepted-numbers}
use Rattle.level_order.proofs.Fielded.{accepted-most}
use Rattle.layout.proofs.Standing.{ready}
use Rattle.layout.proofs.Answers.{first_ones, laid-accepted}
use Rattle.layout.proofs.Stored.{laid-stored}
use Rattle.layout.proofs.draw.Goals as goal

pub invariant_of-tree-clause-high : goal.invariant_of-tree-clause-high
invariant_of-tree-clause-high c = λ p q. accepted-most (first_ones c.requires) _ _

pub number-requires-clause-accepted : goal.number-requires-clause-accepted
number-requires-clause-accepted c = first_ones c.requires

pub second_walk-settled-requires-clause-accepted : goal.second_walk-settled-requires-clause-accepted
second_walk-settled-requires-clause-accepted c = first_ones c.requires

pub second_walk-settled-requires-clause-ready : goal.second_walk-settled-requires-clause-ready
second_walk-settled-requires-clause-ready c =
    let N = c.number.ensures in
    let F = c.families.ensures in
    ready _ c.args.table.now c.requires.table c.number.new.work c.families.new.work N.numbered N.parents F.placed (omega (arith, N.size, F.size, c.requires.work)) F.numbering

pub overflow_cast-result : goal.overflow_cast-result
overflow_cast-result c = omega (arith, (accepted-numbers c.args.table.now c.requires.table).few)

pub returns : goal.returns
returns c =
    let W = c.second_walk-settled in
    let n = nodes c.args.table.now in
    let room : 16 * n ≤ length W.new.work = omega (arith, c.requires.work) in
    let cleared = c.fill.ensures.after (λ y h. h) ∙ ap (λ (k : ℕ). replicate k (pos 0)) (length-take-le (16 * n) W.new.work room) in
    laid-stored (λ e. c.requires)
    (laid-accepted c.requires W.new.places W.new.levels W.new.measured c.families.new.work W.new.work c.fill.new.self _ _ _ _ W.ensures
    (c.families.ensures.rest ∙ c.number.ensures.rest) cleared)
