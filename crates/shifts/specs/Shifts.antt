-- What one meeting leaves in the working slice, and what the pass that carries the gathered moves out does.
use Rattle.std.specs.Prelude.{ℕ, ◌+◌, ◌-◌, ◌*◌, ◌/◌, ◌≤◌, ◌<◌, ◌≡◌, List, ℤ, pos, nat_abs, neg_ℤ, ◌+ℤ◌, ◌-ℤ◌, length, drop}
use Rattle.rule.specs.Join.{above0, quotient, remainder}
use Rattle.level_order.specs.Fields.{get, put, PLACE, SHIFT, CHANGE}
use Rattle.contours.specs.Gather.{pending}

-- ---- one meeting

-- z is added to a field of position p
unfoldable pub added : List ℤ → ℕ → ℕ → ℤ → List ℤ
added work field p z = put work field p (get work field p +ℤ z)

-- Children i and c have met, and s is to be shared over the gaps between them, with q and r as in the rule. The shift at c takes s; of the
-- changes, that at c takes -(q + 1), that at r children before c takes 1, and that at i takes q.
abbrev pub shifted : List ℤ → ℕ → ℕ → ℕ → List ℤ
shifted work i c s = added work SHIFT c (pos s)

abbrev pub lessened : List ℤ → ℕ → ℕ → ℕ → List ℤ
lessened work i c s = added (shifted work i c s) CHANGE c (neg_ℤ (pos (quotient (c - i) s + 1)))

abbrev pub raised : List ℤ → ℕ → ℕ → ℕ → List ℤ
raised work i c s = added (lessened work i c s) CHANGE (c - remainder (c - i) s) (pos 1)

abbrev pub shared : List ℤ → ℕ → ℕ → ℕ → List ℤ
shared work i c s = added (raised work i c s) CHANGE i (pos (quotient (c - i) s))

-- ---- the gathered moves

-- what the pass over the positions from f to end reads is small
pub record Bounded (f end : ℕ) (work : List ℤ) : Type 0 where
  pub places : (p : ℕ) → f ≤ p → p < end → nat_abs (get work PLACE p) ≤ 2094592
  pub shifts : (p : ℕ) → f ≤ p → p < end → nat_abs (get work SHIFT p) ≤ 2094592
  pub changes : (p : ℕ) → f ≤ p → p < end → nat_abs (get work CHANGE p) ≤ 2094592
  pub moves : (p : ℕ) → f ≤ p → p < end → nat_abs (pending (get work SHIFT) (get work CHANGE) end p) ≤ 2094592

-- half the place of the last position before end, rounded down
abbrev pub half : List ℤ → ℕ → ℕ
half work end = above0 (get work PLACE (end - 1)) / 2

-- every position from f to end is moved by what is pending and counted from the middle, and no other cell is touched
pub record Executed (f end : ℕ) (before after : List ℤ) : Type 0 where
  pub place : (p : ℕ)
      → f ≤ p
      → p < end
      → get after PLACE p ≡ (get before PLACE p +ℤ pending (get before SHIFT) (get before CHANGE) end p) -ℤ pos (half before end)
  pub field : (k p : ℕ) → k < 16 → (k ≡ PLACE → ⊥) → get after k p ≡ get before k p
  pub left : (k p : ℕ) → k < 16 → p < f → get after k p ≡ get before k p
  pub right : (k p : ℕ) → k < 16 → end ≤ p → get after k p ≡ get before k p
  pub size : length after ≡ length before
  pub rest : (n : ℕ) → end ≤ n → drop (16 * n) after ≡ drop (16 * n) before
