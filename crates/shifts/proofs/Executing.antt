-- The pass that carries the gathered moves out: what holds before each turn, and that its numbers stay small. Assumes nothing.
use mathlib.Core.Path.{◌≡◌, refl, sym, ap, ap₂, ◌∙◌, subst}
use mathlib.Core.Bool.{true}
use mathlib.Core.List.{List}
use Prim.Native.Nat.{ℕ, zero, suc, ◌+◌, ◌-◌, ◌*◌, ◌/◌, ◌≤◌, ◌<◌}
use native.Mathlib.Omega.{arith}
use lib.Dec.{T}
use lib.IntN.{ℤ, pos, negsuc, ◌+ℤ◌, ◌-ℤ◌, nat_abs}
use lib.Signed.{non_neg, quot_z}
use lib.ListN.{length}
use Rattle.tree.proofs.Counting.{from_more}
use Rattle.rule.specs.Join.{above0}
use Rattle.level_order.specs.Fields.{get, put, PLACE, SHIFT, CHANGE}
use Rattle.contours.specs.Gather.{Carried, carry, gather, pending}
use Rattle.shifts.specs.Shifts.{half, Bounded, Executed}
use Rattle.level_order.proofs.Cells.{put-length, put_same, put-field, put-position, put_rest}
use Rattle.rule.proofs.Signed.{nat_abs_add, nat_abs_parts}

-- what the pass carries before position p, over the positions from p to end
abbrev pub carried_to : List ℤ → ℕ → ℕ → Carried
carried_to before end p = gather (get before SHIFT) (get before CHANGE) end (end - p)

-- what the pass is given
pub record Pass (f end : ℕ) (before : List ℤ) : Type 0 where
  pub low : 0 < f
  pub some : f < end
  pub few : end ≤ 1024
  pub room : 16 * end ≤ length before
  pub bounded : Bounded f end before

-- positions p to end are done
pub record Executing (f end : ℕ) (before : List ℤ) (work : List ℤ) (sum rate : ℤ) (p : ℕ) : Type 0 where
  pub given : Pass f end before
  pub low : f ≤ p
  pub high : p ≤ end
  pub sums : sum ≡ (carried_to before end p).sum
  pub rates : rate ≡ (carried_to before end p).rate
  pub executed : Executed p end before work

-- one position further
next-carried : (before : List ℤ) (end q : ℕ) → suc q ≤ end
    → carried_to before end q ≡ carry (get before SHIFT q) (get before CHANGE q) (carried_to before end (suc q))
next-carried before end q h =
    let more : end - q ≡ suc (end - suc q) = omega arith in
    let back : end - suc (end - suc q) ≡ q = omega arith in
    ap (gather (get before SHIFT) (get before CHANGE) end) more
    ∙ ap (λ (x : ℕ). carry (get before SHIFT x) (get before CHANGE x) (carried_to before end (suc q))) back

rate-after : {f end : ℕ} {before : List ℤ} → Bounded f end before → (m : ℕ) → m + f ≤ end → nat_abs (gather (get before SHIFT) (get before CHANGE) end m).rate ≤ 2094592 * m
rate-after B zero h = omega arith
rate-after {end = end} {before = before} B (suc m) h =
    omega (
      arith,
      rate-after B m (omega arith),
      nat_abs_add (gather (get before SHIFT) (get before CHANGE) end m).rate (get before CHANGE (end - suc m)),
      B.changes (end - suc m) (omega arith) (omega arith),
    )

pub half-small : {f end : ℕ} {before : List ℤ} → Pass f end before → half before end ≤ 1047296
half-small {end = end} {before = before} G =
    omega (arith, nat_abs_parts (get before PLACE (end - 1)), G.bounded.places (end - 1) (omega (arith, G.some)) (omega (arith, G.some)))

-- ---- a turn at position q

pub record Turn (f end : ℕ) (before work : List ℤ) (sum rate : ℤ) (q : ℕ) : Type 0 where
  pub done : Executing f end before work sum rate (suc q)
  pub above : f ≤ q

pub turn : {f end : ℕ} {before work : List ℤ} {sum rate : ℤ} {p : ℕ} → Executing f end before work sum rate p → f < p → Turn f end before work sum rate (p - 1)
turn {f} {end} {before} {work} {sum} {rate} {p} I h =
    let next : p ≡ suc (p - 1) = omega arith in
    record { done = subst (Executing f end before work sum rate) next I; above = omega arith }

module _ {f end : ℕ} {before work : List ℤ} {sum rate : ℤ} {q : ℕ} (T : Turn f end before work sum rate q) where
  abbrev I : Executing f end before work sum rate (suc q)
  I = T.done

  abbrev moved : ℤ
  moved = (get work PLACE q +ℤ sum) -ℤ pos (half before end)

  abbrev pub after : List ℤ
  after = put work PLACE q moved

  pub inside : 16 * suc q ≤ length work
  inside = omega (arith, I.high, I.executed.size, I.given.room)

  other : (k j : ℕ) → k < 16 → (j ≡ q → ⊥) → get after k j ≡ get work k j
  other k j h d = put-position work PLACE q moved (omega arith) k j h d

  abbrev Done : ℕ → Type 0
  Done j = get after PLACE j ≡ (get before PLACE j +ℤ pending (get before SHIFT) (get before CHANGE) end j) -ℤ pos (half before end)

  done_at : Done q
  done_at =
      put_same work PLACE q moved (omega (arith, inside))
      ∙ ap₂ (λ (x y : ℤ). (x +ℤ y) -ℤ pos (half before end)) (I.executed.left PLACE q (omega arith) (omega arith)) I.sums

  done : (j : ℕ) → q ≤ j → j < end → Done j
  done = from_more (λ j. j < end → Done j) q (λ h. done_at) (λ j g h. other PLACE j (omega arith) (λ e. omega arith) ∙ I.executed.place j g h)

  moves : Executed q end before after
  moves =
      record {
        place = done;
        field = λ k j h d. put-field work PLACE q moved (omega arith) k j h d ∙ I.executed.field k j h d;
        left = λ k j h g. other k j h (λ e. omega arith) ∙ I.executed.left k j h (omega arith);
        right = λ k j h g. other k j h (λ e. omega (arith, I.high)) ∙ I.executed.right k j h g;
        size = put-length work PLACE q moved ∙ I.executed.size;
        rest = λ n h. put_rest work PLACE q moved (omega arith) n (omega (arith, I.high)) ∙ I.executed.rest n h;
      }

  pub same-shift : get after SHIFT q ≡ get before SHIFT q
  same-shift = moves.field SHIFT q (omega arith) (λ e. omega arith)

  pub same-change : get after CHANGE q ≡ get before CHANGE q
  same-change = moves.field CHANGE q (omega arith) (λ e. omega arith)

  pub execute_turn : (w : List ℤ) (sum' rate' : ℤ) → w ≡ after → rate' ≡ rate +ℤ get before CHANGE q
      → sum' ≡ (sum +ℤ get before SHIFT q) +ℤ (rate +ℤ get before CHANGE q) → Executing f end before w sum' rate' q
  execute_turn w sum' rate' stored d e =
      let carried : carried_to before end q ≡ carry (get before SHIFT q) (get before CHANGE q) (carried_to before end (suc q)) = next-carried before end q I.high in
      record {
        given = I.given;
        low = T.above;
        high = omega (arith, I.high);
        sums = e ∙ ap₂ (λ (x y : ℤ). (x +ℤ get before SHIFT q) +ℤ (y +ℤ get before CHANGE q)) I.sums I.rates ∙ sym (ap (λ g. g.sum) carried);
        rates = d ∙ ap (λ (x : ℤ). x +ℤ get before CHANGE q) I.rates ∙ sym (ap (λ g. g.rate) carried);
        executed = subst (Executed q end before) (sym stored) moves;
      }

  -- ---- its numbers stay small

  pub sum-small : nat_abs sum ≤ 2094592
  sum-small = omega (arith, ap nat_abs I.sums, I.given.bounded.moves q T.above I.high)

  pub place-small : nat_abs (get work PLACE q) ≤ 2094592
  place-small = omega (arith, ap nat_abs (I.executed.left PLACE q (omega arith) (omega arith)), I.given.bounded.places q T.above I.high)

  pub rate-next : nat_abs (rate +ℤ get before CHANGE q) ≤ 2142767616
  rate-next =
      omega (
        arith,
        nat_abs_add rate (get before CHANGE q),
        ap nat_abs I.rates,
        rate-after I.given.bounded (end - suc q) (omega (arith, I.low, I.high)),
        I.given.bounded.changes q T.above I.high,
        I.high,
        I.given.few,
        I.given.low,
        T.above,
      )

  pub shift-small : nat_abs (get before SHIFT q) ≤ 2094592
  shift-small = I.given.bounded.shifts q T.above I.high

-- the middle as the code computes it
pub half-read : (before : List ℤ) (end : ℕ) → non_neg (get before PLACE (end - 1)) ≡ true → quot_z (get before PLACE (end - 1)) (pos 2) ≡ pos (half before end)
half-read before end e = go (get before PLACE (end - 1)) e
  where
    go : (z : ℤ) → non_neg z ≡ true → quot_z z (pos 2) ≡ pos (above0 z / 2)
    go (pos n) e = refl
    go (negsuc n) e = absurd (subst T (sym e) tt)
