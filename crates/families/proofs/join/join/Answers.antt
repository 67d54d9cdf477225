-- `families::join::join` meets its contract. Assumes nothing.
use Rattle.std.proofs.Common.{sym, ap, ◌∙◌, subst, arith}
use Rattle.families.proofs.Joining.{joins_of, joining, few, small_n, start-here}
use Rattle.families.proofs.Worked.{Worked, worked-first}
use Rattle.families.proofs.Turn.{last-modest, need-modest, level-now, steps-now, contour-lower, fewer-lower, sum-modest, level-wide, threads-wide, place-held, joined-now, level-met, need-met, close-modest, moved-held, worked-now}
use Rattle.families.proofs.join.join.Goals as goal

pub begin-stand-requires-clause-few : goal.begin-stand-requires-clause-few
begin-stand-requires-clause-few c =
    let K = joining (joins_of c.args.tree.now c.requires.rowed c.requires.waiting c.requires.inside) in
    omega (arith, small_n K, few K)

pub begin-stand-requires-clause-place : goal.begin-stand-requires-clause-place
begin-stand-requires-clause-place c = last-modest (joining (joins_of c.args.tree.now c.requires.rowed c.requires.waiting c.requires.inside))

pub begin-stand-requires-clause-need : goal.begin-stand-requires-clause-need
begin-stand-requires-clause-need c = need-modest (joining (joins_of c.args.tree.now c.requires.rowed c.requires.waiting c.requires.inside))

pub contours-init : goal.contours-init
contours-init c =
    let H = joins_of c.args.tree.now c.requires.rowed c.requires.waiting c.requires.inside in
    (H, subst (Worked (joining H) c.args.work.now) (sym c.begin-stand.ensures) (worked-first (joining H)))

-- ---- a turn

pub ended-requires : goal.ended-requires
ended-requires c = (level-now c.contours.invariant.1).looked

pub descend-stand-requires-clause-looked : goal.descend-stand-requires-clause-looked
descend-stand-requires-clause-looked c = (level-now c.contours.invariant.1).looked

pub descend-stand-requires-clause-steps : goal.descend-stand-requires-clause-steps
descend-stand-requires-clause-steps c = steps-now c.contours.invariant.1 (sym c.ended.ensures ∙ c.if-ended.false)

pub descend-stand-requires-clause-few : goal.descend-stand-requires-clause-few
descend-stand-requires-clause-few c = (level-now c.contours.invariant.1).few.0

pub meet-requires-clause-level : goal.meet-requires-clause-level
meet-requires-clause-level c = level-met (contour-lower c.contours.invariant.1 (sym c.ended.ensures ∙ c.if-ended.false) c.descend-stand.ensures)

pub meet-requires-clause-need : goal.meet-requires-clause-need
meet-requires-clause-need c = need-met (contour-lower c.contours.invariant.1 (sym c.ended.ensures ∙ c.if-ended.false) c.descend-stand.ensures)

pub meet-requires-clause-modest : goal.meet-requires-clause-modest
meet-requires-clause-modest c = close-modest (contour-lower c.contours.invariant.1 (sym c.ended.ensures ∙ c.if-ended.false) c.descend-stand.ensures)

pub overflow_add-stand : goal.overflow_add-stand
overflow_add-stand c =
    (moved-held (contour-lower c.contours.invariant.1 (sym c.ended.ensures ∙ c.if-ended.false) c.descend-stand.ensures) c.meet.ensures.amount).fits

pub contours-smaller : goal.contours-smaller
contours-smaller c =
    fewer-lower c.contours.invariant.1 (sym c.ended.ensures ∙ c.if-ended.false) c.descend-stand.ensures

pub contours-preserved : goal.contours-preserved
contours-preserved c = (
  c.contours.invariant.0,
  worked-now (contour-lower c.contours.invariant.1 (sym c.ended.ensures ∙ c.if-ended.false) c.descend-stand.ensures) c.meet.ensures.amount c.meet.ensures.gathered,
)

-- ---- past the loop

pub widened-requires-clause-modest : goal.widened-requires-clause-modest
widened-requires-clause-modest c = sum-modest c.contours.invariant.1

pub thread-default-requires-clause-level : goal.thread-default-requires-clause-level
thread-default-requires-clause-level c = level-wide c.contours.invariant.1 c.widened.ensures

pub thread-default-requires-clause-threads : goal.thread-default-requires-clause-threads
thread-default-requires-clause-threads c = threads-wide c.contours.invariant.1 c.widened.ensures

pub overflow_add-start : goal.overflow_add-start
overflow_add-start c =
    let K = joining c.contours.invariant.0 in
    (place-held c.contours.invariant.1 c.widened.ensures (ap (λ r. r.left) c.begin-stand.ensures ∙ start-here K)).fits

pub returns : goal.returns
returns c =
    let K = joining c.contours.invariant.0 in
    joined-now c.contours.invariant.1 c.widened.ensures (ap (λ r. r.left) c.begin-stand.ensures ∙ start-here K)
    (sym c.ended.ensures ∙ c.if-ended.true) c.thread-default.ensures.default c.thread-default.ensures.threaded c.put.ensures
