-- The forest of a run of positions: its first node and its last, its nodes, and the runs on its levels. Assumes nothing.
use mathlib.Core.Path.{◌≡◌, refl, sym, ap, ap₂, ◌∙◌, subst}
use mathlib.Core.Logic.{⊎_elim}
use Prim.Native.Nat.{ℕ, zero, suc, ◌+◌, ◌-◌, ◌≤◌, ◌<◌}
use native.Mathlib.Nat.{le_refl, le_trans}
use native.Mathlib.Omega.{arith}
use lib.ListN.{length}
use borrow.Author.Tests.{lt-ltb, le-ltb}
use Rattle.tree.specs.Forest.{Forest, nil, node, join, roots}
use Rattle.tree.proofs.Counting.{is-cases, below_or_not}
use Rattle.level_order.specs.LevelOrder.{positions}

-- what level order has: children come later, in their parents' order, and there are n positions
pub record Ordered (first : ℕ → ℕ) (n : ℕ) : Type 0 where
  pub later : (p : ℕ) → p < n → p < first p
  pub mono : (p : ℕ) → p < n → first p ≤ first (suc p)
  pub last : first n ≡ n

-- f is the forest of the positions from a to b
abbrev pub Laid : (ℕ → ℕ) → ℕ → ℕ → Forest → Type 0
Laid first a b nil = a ≡ b
Laid first a b (node v f g) = (v ≡ a) × (a < b) × Laid first (first a) (first (suc a)) f × Laid first (suc a) b g

module _ (first : ℕ → ℕ) (n : ℕ) where
  -- the forest of the run from a to b
  abbrev pub run : ℕ → ℕ → Forest
  run a b = positions n first a b

  -- the children of position a
  abbrev pub family : ℕ → Forest
  family a = run (first a) (first (suc a))

  positions-node : (k a b : ℕ) → a < b → positions (suc k) first a b ≡ node a (positions k first (first a) (first (suc a))) (positions k first (suc a) b)
  positions-node k a b h = rw (lt-ltb a b h, positions)

  positions-nil : (k a b : ℕ) → b ≤ a → positions k first a b ≡ nil
  positions-nil zero a b h = refl
  positions-nil (suc k) a b h = rw (le-ltb a b h, positions)

  module _ (O : Ordered first n) where
    pub mono-le : (p q : ℕ) → p ≤ q → q ≤ n → first p ≤ first q
    mono-le p zero h k =
        let same : 0 ≡ p = omega arith in
        subst (λ (x : ℕ). first x ≤ first 0) same (le_refl (first 0))
    mono-le p (suc q) h k =
        ⊎_elim (λ s. subst (λ (x : ℕ). first x ≤ first (suc q)) (sym s.0) (le_refl (first (suc q))))
        (λ s. le_trans (mono-le p q (less s.0) (omega arith)) (O.mono q (omega arith)))
        (is-cases p (suc q))
      where
        less : (p ≡ suc q → ⊥) → p ≤ q
        less d = omega arith

    pub within : (p : ℕ) → p ≤ n → first p ≤ n
    within p h = omega (arith, mono-le p n h (le_refl n), O.last)

    -- ---- equations

    -- more steps change nothing once they are enough
    enough : (k m a b : ℕ) → b ≤ n → n ≤ k + a → n ≤ m + a → positions k first a b ≡ positions m first a b
    enough zero m a b hb hk hm = sym (positions-nil m a b (omega arith))
    enough (suc k) zero a b hb hk hm = positions-nil (suc k) a b (omega arith)
    enough (suc k) (suc m) a b hb hk hm =
        ⊎_elim (λ h.
        let later : a < first a = O.later a (omega (arith, h.0)) in
        positions-node k a b h.0
        ∙ ap₂ (node a) (enough k m (first a) (first (suc a)) (within (suc a) (omega (arith, h.0))) (omega arith) (omega arith))
        (enough k m (suc a) b hb (omega arith) (omega arith))
        ∙ sym (positions-node m a b h.0))
        (λ h. positions-nil (suc k) a b h.0 ∙ sym (positions-nil (suc m) a b h.0))
        (below_or_not a b)

    pub run-node : (a b : ℕ) → a < b → b ≤ n → run a b ≡ node a (family a) (run (suc a) b)
    run-node a b h hb = enough n (suc n) a b hb (omega arith) (omega arith) ∙ positions-node n a b h

    pub run-nil : (a b : ℕ) → b ≤ a → run a b ≡ nil
    run-nil a b h = positions-nil n a b h

    -- a run cut in two
    pub run_cut : (k a b c : ℕ) → b ≡ a + k → b ≤ c → c ≤ n → run a c ≡ join (run a b) (run b c)
    run_cut zero a b c e h hc =
        let same : b ≡ a = omega arith in
        ap (λ (x : ℕ). run x c) (sym same) ∙ ap (λ (f : Forest). join f (run b c)) (sym (run-nil a b (omega arith)))
    run_cut (suc k) a b c e h hc =
        run-node a c (omega arith) hc
        ∙ ap (node a (family a)) (run_cut k (suc a) b c (omega arith) h hc)
        ∙ ap (λ (f : Forest). join f (run b c)) (sym (run-node a b (omega arith) (omega arith)))

    pub run-last : (a c : ℕ) → a ≤ c → c < n → run a (suc c) ≡ join (run a c) (node c (family c) nil)
    run-last a c h hc =
        run_cut (c - a) a c (suc c) (omega arith) (omega arith) hc
        ∙ ap (join (run a c)) (run-node c (suc c) (omega arith) hc ∙ ap (node c (family c)) (run-nil (suc c) (suc c) (le_refl (suc c))))

    -- what waits when position p is met: the others of the queue, and the children behind them
    pub run-next : (p : ℕ) → p < n → run (suc p) (first (suc p)) ≡ join (run (suc p) (first p)) (family p)
    run-next p h =
        let later : p < first p = O.later p h in
        run_cut (first p - suc p) (suc p) (first p) (first (suc p)) (omega arith) (O.mono p h) (within (suc p) h)

    pub run-roots : (k a b : ℕ) → b ≡ a + k → b ≤ n → length (roots (run a b)) ≡ k
    run-roots zero a b e h = ap (λ (f : Forest). length (roots f)) (run-nil a b (omega arith))
    run-roots (suc k) a b e h =
        ap (λ (f : Forest). length (roots f)) (run-node a b (omega arith) h) ∙ ap suc (run-roots k (suc a) b (omega arith) h)

    -- ---- a run is laid

    laid_from : (k a b : ℕ) → a ≤ b → b ≤ n → n ≤ k + a → Laid first a b (run a b)
    laid_from zero a b h hb hk = subst (Laid first a b) (sym (run-nil a b (omega arith))) (omega arith)
    laid_from (suc k) a b h hb hk =
        ⊎_elim (λ c.
        let inside : a < n = omega (arith, c.0) in
        let later : a < first a = O.later a inside in
        subst (Laid first a b) (sym (run-node a b c.0 hb)) (
          refl,
          c.0,
          laid_from k (first a) (first (suc a)) (O.mono a inside) (within (suc a) inside) (omega arith),
          laid_from k (suc a) b c.0 hb (omega arith),
        ))
        (λ c. subst (Laid first a b) (sym (run-nil a b c.0)) (omega (arith, c.0)))
        (below_or_not a b)

    pub laid-run : (a b : ℕ) → a ≤ b → b ≤ n → Laid first a b (run a b)
    laid-run a b h hb = laid_from n a b h hb (omega arith)
