-- How often a position stands in a run: runs side by side, a node and its children, and at most once. Assumes nothing.
use mathlib.Core.Path.{◌≡◌, ap, ◌∙◌}
use mathlib.Core.Logic.{◌⊎◌, inl, inr, ⊎_elim}
use Prim.Native.Nat.{ℕ, zero, suc, ◌+◌, ◌-◌, ◌≤◌, ◌<◌}
use native.Mathlib.Nat.{le_refl}
use native.Mathlib.Omega.{arith}
use Rattle.tree.specs.Numbers.{is, count}
use Rattle.tree.specs.Forest.{Forest, preorder}
use Rattle.tree.proofs.Counting.{count-append, is-cases, below_or_not}
use Rattle.tree.proofs.Joined.{count-join}
use Rattle.level_order.proofs.Positions.{Ordered, within, run, family, run-node, run-nil, run_cut, run-next}

module _ (first : ℕ → ℕ) (n : ℕ) where
  -- how often z stands in the run from a to b
  abbrev pub times : ℕ → ℕ → ℕ → ℕ
  times a b z = count z (preorder (run first n a b))

  module _ (O : Ordered first n) where
    pub times_cut : (a b c z : ℕ) → a ≤ b → b ≤ c → c ≤ n → times a c z ≡ times a b z + times b c z
    times_cut a b c z h k l =
        ap (λ (f : Forest). count z (preorder f)) (run_cut first n O (b - a) a b c (omega arith) k l)
        ∙ count-join z (run first n a b) (run first n b c)

    times-nil : (a b z : ℕ) → b ≤ a → times a b z ≡ 0
    times-nil a b z h = ap (λ (f : Forest). count z (preorder f)) (run-nil first n O a b h)

    times-node : (a b z : ℕ) → a < b → b ≤ n → times a b z ≡ is z a + (times (first a) (first (suc a)) z + times (suc a) b z)
    times-node a b z h hb =
        ap (λ (f : Forest). count z (preorder f)) (run-node first n O a b h hb)
        ∙ omega (arith, count-append z (preorder (family first n a)) (preorder (run first n (suc a) b)))

    -- a node and what is below it
    pub times-root : (c z : ℕ) → c < n → times c (suc c) z ≡ is z c + times (first c) (first (suc c)) z
    times-root c z h = omega (arith, times-node c (suc c) z (omega arith) h, times-nil (suc c) (suc c) z (le_refl (suc c)))

    -- ---- every position from p on is in one place of the forest that waits at p, and no other is

    times-waiting : (p z : ℕ) → p < n → times p (first p) z ≡ is z p + times (suc p) (first (suc p)) z
    times-waiting p z h =
        omega (
          arith,
          times-node p (first p) z (O.later p h) (within first n O p (omega arith)),
          ap (λ (f : Forest). count z (preorder f)) (run-next first n O p h),
          count-join z (run first n (suc p) (first p)) (family first n p),
        )

    waits-not : (k p : ℕ) → n ≡ p + k → (z : ℕ) → (z < p) ⊎ (n ≤ z) → times p (first p) z ≡ 0
    waits-not zero p e z h = times-nil p (first p) z (omega (arith, within first n O p (omega arith)))
    waits-not (suc k) p e z h =
        ⊎_elim (λ s. absurd (⊎_elim (λ l. omega (arith, s.0)) (λ l. omega (arith, s.0)) h))
        (λ s. omega (arith, s.1, times-waiting p z (omega arith), waits-not k (suc p) (omega arith) z (⊎_elim (λ l. inl (omega arith)) inr h)))
        (is-cases z p)

    waits : (k p : ℕ) → n ≡ p + k → (z : ℕ) → p ≤ z → z < n → times p (first p) z ≡ 1
    waits zero p e z h l = absurd (omega arith)
    waits (suc k) p e z h l =
        ⊎_elim (λ s. omega (arith, s.1, times-waiting p z (omega arith), waits-not k (suc p) (omega arith) z (inl (omega (arith, s.0)))))
        (λ s. omega (arith, s.1, times-waiting p z (omega arith), waits k (suc p) (omega arith) z (after s.0) l))
        (is-cases z p)
      where
        after : (z ≡ p → ⊥) → suc p ≤ z
        after d = omega arith

    pub times-all : (z : ℕ) → z < n → times 0 (first 0) z ≡ 1
    times-all z h = waits n 0 (omega arith) z (omega arith) h

    -- a position stands at most once in a run on one level, and only positions from the run's start on
    module _ (a b z : ℕ) (h : a ≤ b) (k : b ≤ first a) (l : a ≤ n) where
      whole : times a (first a) z ≡ times a b z + times b (first a) z
      whole = times_cut a b (first a) z h k (within first n O a l)

      outside : (z < a) ⊎ (n ≤ z) → times a b z ≡ 0
      outside o = omega (arith, whole, waits-not (n - a) a (omega arith) z o)

      pub times-from : 1 ≤ times a b z → a ≤ z
      times-from s = ⊎_elim (λ e. absurd (omega (arith, outside (inl e.0)))) (λ e. e.0) (below_or_not z a)

      pub times_below : 1 ≤ times a b z → z < n
      times_below s = ⊎_elim (λ e. e.0) (λ e. absurd (omega (arith, outside (inr e.0)))) (below_or_not z n)

      pub times-once : times a b z ≤ 1
      times-once =
          ⊎_elim (λ e. omega (arith, outside (inl e.0)))
          (λ e.
          ⊎_elim (λ d. omega (arith, whole, waits (n - a) a (omega arith) z e.0 d.0)) (λ d. omega (arith, outside (inr d.0))) (below_or_not z n))
          (below_or_not z a)

    -- the subtrees at r and at a later position before r's children have no node in common
    pub times-apart : (r q z : ℕ) → r < n → r < q → q < first r → 1 ≤ times q (suc q) z → times r (suc r) z ≡ 0
    times-apart r q z h l k s =
        let fits : first r ≤ n = within first n O r (omega arith) in
        omega (
          arith,
          times-once r (first r) z (omega arith) (omega arith) (omega arith),
          times_cut r (suc r) (first r) z (omega arith) (omega arith) fits,
          times_cut (suc r) q (first r) z l (omega arith) fits,
          times_cut q (suc q) (first r) z (omega arith) k fits,
        )
