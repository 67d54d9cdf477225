-- What a meeting shares out: how far each child between the two that meet moves. Assumes nothing.
use mathlib.Core.Path.{◌≡◌}
use mathlib.Core.List.{List, [], ◌∷◌}
use Prim.Native.Nat.{ℕ, ◌+◌, ◌-◌, ◌*◌, ◌≤◌, ◌<◌}
use native.Mathlib.Nat.{mul-le-mul_right, mul-div-le, lt-mul-div-succ}
use native.Mathlib.Omega.{arith}
use Rattle.rule.specs.Join.{Meeting, quotient, remainder, evenly, share, shares, total}

-- ---- an amount shared over gaps

-- the quotient in every gap, and the remainder, make up the whole
pub whole_shared : (k s : ℕ) → k * quotient k s + remainder k s ≡ s
whole_shared k s = omega (arith, mul-div-le s k)

pub remainder-small : (k s : ℕ) → 0 < k → remainder k s < k
remainder-small k s h = omega (arith, lt-mul-div-succ s h, mul-div-le s k)

-- a child further right moves at least as far
evenly-mono : (k s t u : ℕ) → t ≤ u → evenly k s t ≤ evenly k s u
unfolding evenly
evenly-mono k s t u h = omega (arith, mul-le-mul_right (quotient k s) h)

-- past all gaps it is the whole
pub evenly-whole : (k s : ℕ) → 0 < k → evenly k s k ≡ s
unfolding evenly
evenly-whole k s h = omega (arith, whole_shared k s, remainder-small k s h)

-- no share is more than the whole
evenly-le : (k s t : ℕ) → t ≤ k → evenly k s t ≤ s
unfolding evenly
evenly-le k s t h = omega (arith, mul-le-mul_right (quotient k s) h, whole_shared k s)

pub share-le : (j : ℕ) (m : Meeting) (p : ℕ) → p ≤ j → share j m p ≤ m.amount
share-le j m p h = evenly-le (j - m.child) m.amount (p - m.child) (omega arith)

pub shares-le : (j : ℕ) (ms : List Meeting) (p : ℕ) → p ≤ j → shares j ms p ≤ total ms
shares-le j [] p h = omega arith
shares-le j (m ∷ ms) p h = omega (arith, share-le j m p h, shares-le j ms p h)

-- a child further right moves at least as far
pub shares-mono : (j : ℕ) (ms : List Meeting) (p r : ℕ) → p ≤ r → shares j ms p ≤ shares j ms r
shares-mono j [] p r h = omega arith
shares-mono j (m ∷ ms) p r h =
    omega (arith, shares-mono j ms p r h, evenly-mono (j - m.child) m.amount (p - m.child) (r - m.child) (omega arith))

-- the child that is met, and those before it, do not move
pub share-none : (j : ℕ) (m : Meeting) (p : ℕ) → p ≤ m.child → share j m p ≡ 0
unfolding evenly
share-none j m p h = let stays : p - m.child ≡ 0 = omega arith in rw stays (omega arith)
