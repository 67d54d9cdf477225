-- `shifts::execute` meets its contract. Assumes nothing.
use mathlib.Core.Path.{◌≡◌, refl, sym, ap, ◌∙◌}
use mathlib.Core.Bool.{true}
use mathlib.Core.List.{List}
use Prim.Native.Nat.{ℕ, ◌-◌, ◌<◌}
use native.Mathlib.Omega.{arith}
use lib.IntN.{ℤ, pos, ◌+ℤ◌, ◌-ℤ◌, +ℤ_assoc}
use lib.Signed.{non_neg, quot_z, mag}
use Rattle.rule.proofs.Signed.{nat_abs_add, nat_abs_sub}
use Rattle.level_order.specs.Fields.{get, put, PLACE, SHIFT, CHANGE}
use Rattle.level_order.proofs.Signed32.{stored, Held, told, held, plus, minus}
use Rattle.shifts.specs.Shifts.{half}
use Rattle.shifts.proofs.Executing.{Executing, Turn, turn, half-read, half-small, sum-small, place-small, shift-small, rate-next, after, same-shift, same-change, execute_turn}
use Rattle.shifts.proofs.execute.Goals as goal

module _ {f end : ℕ} {before work : List ℤ} {sum rate : ℤ} {q : ℕ} (T : Turn f end before work sum rate q) (last : non_neg (get before PLACE (end - 1)) ≡ true) where
  -- m is read as the last place, and x as the position's
  module _ (m x : ℤ) (fits-m : mag m < 2147483648) (is-m : m ≡ get before PLACE (end - 1)) (fits-x : mag x < 2147483648) (is-x : x ≡ get work PLACE q) where
    middle : Held (quot_z (stored m) (pos 2)) (pos (half before end))
    middle =
        held (ap (λ (z : ℤ). quot_z z (pos 2)) (told fits-m is-m) ∙ half-read before end last) (omega (arith, half-small T.done.given))

    shifted : Held (stored x +ℤ sum) (get work PLACE q +ℤ sum)
    shifted = plus (told fits-x is-x) refl (omega (arith, nat_abs_add (get work PLACE q) sum, place-small T, sum-small T))

    centred : Held (stored (stored x +ℤ sum) -ℤ stored (quot_z (stored m) (pos 2))) ((get work PLACE q +ℤ sum) -ℤ pos (half before end))
    centred =
        minus shifted.read middle.read
        (omega (
          arith,
          nat_abs_sub (get work PLACE q +ℤ sum) (pos (half before end)),
          nat_abs_add (get work PLACE q) sum,
          place-small T,
          sum-small T,
          half-small T.done.given,
        ))

    written : (w : List ℤ) → w ≡ put work PLACE q (stored (stored (stored x +ℤ sum) -ℤ stored (quot_z (stored m) (pos 2)))) → w ≡ after T
    written w e = e ∙ ap (put work PLACE q) centred.read

  -- once the place is written, r is read as the change
  module _ (w : List ℤ) (placed : w ≡ after T) (r : ℤ) (fits-r : mag r < 2147483648) (is-r : r ≡ get w CHANGE q) where
    rates : Held (rate +ℤ stored r) (rate +ℤ get before CHANGE q)
    rates =
        plus {u = rate} refl (told fits-r (is-r ∙ ap (λ (l : List ℤ). get l CHANGE q) placed ∙ same-change T)) (omega (arith, rate-next T))

    -- and s as the shift
    module _ (s : ℤ) (fits-s : mag s < 2147483648) (is-s : s ≡ get w SHIFT q) where
      moves : Held (stored s +ℤ stored (rate +ℤ stored r)) (get before SHIFT q +ℤ (rate +ℤ get before CHANGE q))
      moves =
          plus (told fits-s (is-s ∙ ap (λ (l : List ℤ). get l SHIFT q) placed ∙ same-shift T)) rates.read
          (omega (arith, nat_abs_add (get before SHIFT q) (rate +ℤ get before CHANGE q), shift-small T, rate-next T))

      sums : Held (sum +ℤ stored (stored s +ℤ stored (rate +ℤ stored r))) (sum +ℤ (get before SHIFT q +ℤ (rate +ℤ get before CHANGE q)))
      sums =
          plus {u = sum} refl moves.read
          (omega (
            arith,
            nat_abs_add sum (get before SHIFT q +ℤ (rate +ℤ get before CHANGE q)),
            nat_abs_add (get before SHIFT q) (rate +ℤ get before CHANGE q),
            sum-small T,
            shift-small T,
            rate-next T,
          ))

      turned : Executing f end before w (stored (sum +ℤ stored (stored s +ℤ stored (rate +ℤ stored r)))) (stored (rate +ℤ stored r)) q
      turned =
          execute_turn T w _ _ placed rates.read (sums.read ∙ sym (+ℤ_assoc sum (get before SHIFT q) (rate +ℤ get before CHANGE q)))

pub overflow_add-place : goal.overflow_add-place
overflow_add-place c =
    (shifted (turn c.loop-p.invariant c.loop-p-test.true) c.requires.last c.get-middle.result c.get-place.result c.get-middle.type_inv c.get-middle.ensures
    c.get-place.type_inv c.get-place.ensures).fits

pub overflow_sub-place : goal.overflow_sub-place
overflow_sub-place c =
    (centred (turn c.loop-p.invariant c.loop-p-test.true) c.requires.last c.get-middle.result c.get-place.result c.get-middle.type_inv c.get-middle.ensures
    c.get-place.type_inv c.get-place.ensures).fits

pub overflow_add-rate : goal.overflow_add-rate
overflow_add-rate c =
    let T = turn c.loop-p.invariant c.loop-p-test.true in
    (rates T c.requires.last c.put.new.work
    (written T c.requires.last c.get-middle.result c.get-place.result c.get-middle.type_inv c.get-middle.ensures c.get-place.type_inv c.get-place.ensures _ c.put.ensures)
    c.get-rate.result c.get-rate.type_inv c.get-rate.ensures).fits

pub overflow_add-sum : goal.overflow_add-sum
overflow_add-sum c =
    let T = turn c.loop-p.invariant c.loop-p-test.true in
    (moves T c.requires.last c.put.new.work
    (written T c.requires.last c.get-middle.result c.get-place.result c.get-middle.type_inv c.get-middle.ensures c.get-place.type_inv c.get-place.ensures _ c.put.ensures)
    c.get-rate.result c.get-rate.type_inv c.get-rate.ensures c.get.result c.get.type_inv c.get.ensures).fits

pub overflow_add-sum-in-loop-p : goal.overflow_add-sum-in-loop-p
overflow_add-sum-in-loop-p c =
    let T = turn c.loop-p.invariant c.loop-p-test.true in
    (sums T c.requires.last c.put.new.work
    (written T c.requires.last c.get-middle.result c.get-place.result c.get-middle.type_inv c.get-middle.ensures c.get-place.type_inv c.get-place.ensures _ c.put.ensures)
    c.get-rate.result c.get-rate.type_inv c.get-rate.ensures c.get.result c.get.type_inv c.get.ensures).fits

pub loop-p-preserved : goal.loop-p-preserved
loop-p-preserved c =
    let T = turn c.loop-p.invariant c.loop-p-test.true in
    turned T c.requires.last c.put.new.work
    (written T c.requires.last c.get-middle.result c.get-place.result c.get-middle.type_inv c.get-middle.ensures c.get-place.type_inv c.get-place.ensures _ c.put.ensures)
    c.get-rate.result c.get-rate.type_inv c.get-rate.ensures c.get.result c.get.type_inv c.get.ensures
