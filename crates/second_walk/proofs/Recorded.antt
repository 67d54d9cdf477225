-- The record as it is written, position by position: each pair behind the pairs before it. Assumes nothing.
use mathlib.Core.Path.{◌≡◌, refl, sym, ap, ap₂, ◌∙◌}
use mathlib.Core.Bool.{Bool, true, false, cond}
use mathlib.Core.List.{List, [], ◌∷◌, ◌++◌, append-nil}
use Prim.Native.Nat.{ℕ, suc, ◌+◌, ◌-◌, ◌*◌, ◌≤◌, ◌<◌}
use native.Mathlib.Omega.{arith}
use lib.Dec.{eqb}
use lib.ListN.{length, get_or, take, set, length-append}
use lib.Seq.{length-take-le, take_all}
use Rattle.refusal.specs.After.{overwrite}
use Rattle.refusal.proofs.After.{store_two}
use Rattle.tree.specs.Table.{nodes}
use Rattle.tree.specs.Forest.{tree_of}
use Rattle.tree.specs.Levels.{Pair, levels, together, level, neighbours}
use Rattle.tree.specs.WellFormed.{table_number}
use Rattle.tree.proofs.Stands.{accepted-size}
use Rattle.rule.specs.Record.{flat}
use Rattle.rule.proofs.Flat.{length-flat, flat_append}
use Rattle.second_walk.specs.SecondWalk.{paired}
use Rattle.level_order.proofs.Order.{node-order}
use Rattle.level_order.proofs.Beside.{link, pairs_on, pairs_next, pairs-few, neighbours-order}
use Rattle.second_walk.proofs.Positions.{number_at, level_at}
use Rattle.tree.proofs.Joined.{length-levels}

-- ---- the pairs among the first p positions

abbrev order : List ℕ → List ℕ
order t = together (levels (tree_of t))

abbrev pairs_to : List ℕ → ℕ → List Pair
pairs_to t p = pairs_on (level t) (take p (order t))

-- they stand in front in the record
pub record Recorded (t before : List ℕ) (p pairs : ℕ) (now : List ℕ) : Type 0 where
  pub room : length before ≡ 2 * nodes t
  pub size : length now ≡ 2 * nodes t
  pub count : pairs ≡ length (pairs_to t p)
  pub written : now ≡ overwrite (flat (pairs_to t p)) before

pub recorded-start : (t now : List ℕ) → length now ≡ 2 * nodes t → Recorded t now 1 0 now
unfolding overwrite
recorded-start t now e =
    record {
      room = e;
      size = e;
      count = sym (ap length (none (order t)));
      written = sym (ap (λ (l : List Pair). overwrite (flat l) now) (none (order t)));
    }
  where
    none : (l : List ℕ) → pairs_on (level t) (take 1 l) ≡ []
    none [] = refl
    none (x ∷ l) = refl

module _ {t before : List ℕ} {p pairs : ℕ} {now : List ℕ} (accepted : table_number t ≡ 0) (R : Recorded t before p pairs now) (some : 1 ≤ p) where
  order-length : length (order t) ≡ nodes t
  order-length = length-levels (tree_of t) ∙ accepted-size t accepted

  pub recorded-few : p ≤ nodes t → pairs < p
  recorded-few h = omega (arith, R.count, pairs-few (level t) (take p (order t)), length-take-le p (order t) (omega (arith, order-length)))

  pub recorded-room : p < nodes t → 2 * pairs + 1 < length now
  recorded-room h = omega (arith, recorded-few (omega arith), R.size)

  more : p < nodes t → pairs_to t (p + 1) ≡ pairs_to t p ++ link (level t) (number_at t (p - 1)) (number_at t p)
  more h =
      let s : suc (p - 1) ≡ p = omega arith in
      let r : suc (suc (p - 1)) ≡ p + 1 = omega arith in
      sym (ap (pairs_to t) r)
      ∙ pairs_next (level t) (order t) (p - 1) (omega (arith, order-length))
      ∙ ap₂ ◌++◌ (ap (pairs_to t) s) (ap₂ (link (level t)) (at (p - 1) (omega arith)) (ap (λ (k : ℕ). get_or (order t) k 0) s ∙ at p h))
    where
      at : (q : ℕ) → q < nodes t → get_or (order t) q 0 ≡ number_at t q
      at q h = sym (node-order (tree_of t) q (omega (arith, accepted-size t accepted)))

  -- one position more, which is a pair with the position before it where both have one level
  pub recorded-next : p < nodes t → {pairs' : ℕ} {now' : List ℕ} → pairs' ≡ cond (eqb (level_at t (p - 1)) (level_at t p)) (pairs + 1) pairs
      → now' ≡ paired (number_at t (p - 1)) (level_at t (p - 1)) (number_at t p) (level_at t p) pairs now → length now' ≡ length now → Recorded t before (p + 1) pairs' now'
  recorded-next h {pairs'} {now'} e f g =
      let both = go (eqb (level_at t (p - 1)) (level_at t p)) (number_at t (p - 1)) (number_at t p) e f (more h) in
      record { room = R.room; size = g ∙ R.size; count = both.0; written = both.1 }
    where
      go : (same : Bool) (a b : ℕ) → pairs' ≡ cond same (pairs + 1) pairs → now' ≡ cond same (set (set now (2 * pairs) a) (2 * pairs + 1) b) now
          → pairs_to t (p + 1) ≡ pairs_to t p ++ cond same ((a, b) ∷ []) []
          → (pairs' ≡ length (pairs_to t (p + 1))) × (now' ≡ overwrite (flat (pairs_to t (p + 1))) before)
      go true a b i j k = (
        omega (arith, R.count, ap length k, length-append {A = Pair} (pairs_to t p) ((a, b) ∷ [])),
        j
            ∙ ap (λ (l : List ℕ). set (set l (2 * pairs) a) (2 * pairs + 1) b) R.written
            ∙ store_two (flat (pairs_to t p)) before (2 * pairs) a b (omega (arith, length-flat (pairs_to t p), R.count)) (omega (arith, recorded-few (omega arith), R.room))
            ∙ ap (λ (l : List ℕ). overwrite l before) (sym (ap flat k ∙ flat_append (pairs_to t p) ((a, b) ∷ []))),
      )
      go false a b i j k =
          let same : pairs_to t p ≡ pairs_to t (p + 1) = sym (k ∙ append-nil (pairs_to t p)) in
          (i ∙ R.count ∙ ap length same, j ∙ R.written ∙ ap (λ (l : List Pair). overwrite (flat l) before) same)

  -- and at the end the neighbours
  neighbours-met : nodes t ≤ p → pairs_to t p ≡ neighbours t
  neighbours-met h = ap (pairs_on (level t)) (take_all p (order t) (omega (arith, order-length))) ∙ neighbours-order t accepted

  pub recorded-count : nodes t ≤ p → pairs ≡ length (neighbours t)
  recorded-count h = R.count ∙ ap length (neighbours-met h)

  pub recorded-end : nodes t ≤ p → now ≡ overwrite (flat (neighbours t)) before
  recorded-end h = R.written ∙ ap (λ (l : List Pair). overwrite (flat l) before) (neighbours-met h)
