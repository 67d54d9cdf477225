-- The levels of the child that the walk has not reached: their nodes are not marked, so their ancestors are out of date.
-- Assumes nothing.
use mathlib.Core.Path.{◌≡◌, sym, ap, ◌∙◌, subst}
use mathlib.Core.Logic.{⊎_elim}
use mathlib.Core.List.{List, [], ◌∷◌, ◌++◌}
use Prim.Native.Nat.{ℕ, suc, ◌≤◌, ◌<◌}
use native.Mathlib.Omega.{arith}
use lib.IntN.{ℤ}
use Rattle.tree.specs.Table.{nodes}
use Rattle.tree.proofs.Counting.{All, all_append, all_right, is-cases}
use Rattle.tree.proofs.Joined.{Some}
use Rattle.rule.specs.Drawing.{Dot, width, first_of, last_of}
use Rattle.rule.proofs.OnLevel.{OnLevel, top, down}
use Rattle.rule.proofs.LevelEnds.{last_mem, first-mem}
use Rattle.level_order.specs.Fields.{get, ANCESTOR}
use Rattle.level_order.proofs.Positions.{Ordered, within}
use Rattle.level_order.proofs.Occurs.{times-root}
use Rattle.contours.specs.Rows.{Outside}
use Rattle.contours.proofs.Runs.{Runs}
use Rattle.contours.proofs.Walk.{Walking, reach, unmarked-now}
use Rattle.contours.proofs.RowNext.{fields_of}
use Rattle.descent.specs.declared.Stand.{Stand}
use Rattle.families.specs.Joining.{columns_of, occurs}
use Rattle.families.proofs.Joining.{Joining, first, O, row, child, start_at, J, F, spaced-child, small_n, child-on}
use Rattle.families.proofs.Contour.{Contour, stand_of, split-child}
use Rattle.families.proofs.Meeting.{next, turned, met-before-c}

-- ---- the levels of a run

pub all_lasts : (Q : Dot → Type 0) (xs : List (List Dot)) → All Some xs → ((e : Dot) (l : ℕ) → OnLevel e l xs → Q e) → All (λ x. Q (last_of x)) xs
all_lasts Q [] s h = tt
all_lasts Q (x ∷ xs) s h = (h (last_of x) 0 (top (last_mem x s.0)), all_lasts Q xs s.1 (λ e l o. h e (suc l) (down o)))

pub all_firsts : (Q : Dot → Type 0) (xs : List (List Dot)) → All Some xs → ((e : Dot) (l : ℕ) → OnLevel e l xs → Q e) → All (λ x. Q (first_of x)) xs
all_firsts Q [] s h = tt
all_firsts Q (x ∷ xs) s h = (h (first_of x) 0 (top (first-mem x s.0)), all_firsts Q xs s.1 (λ e l o. h e (suc l) (down o)))

-- the last nodes of a run's levels are not before its first position
runs_from : (first : ℕ → ℕ) (n : ℕ) (O : Ordered first n) (a b : ℕ) (ys : List (List Dot)) → b ≤ n → Runs first a b ys → All (λ l. a ≤ (last_of l).node) ys
runs_from first n O a b [] h r = tt
runs_from first n O a b (y ∷ ys) h r = (
  omega (arith, r.0, r.2),
  weaken ys (runs_from first n O (first a) (first b) ys (within first n O b h) r.4),
)
  where
    weaken : (zs : List (List Dot)) → All (λ l. first a ≤ (last_of l).node) zs → All (λ l. a ≤ (last_of l).node) zs
    weaken [] k = tt
    weaken (z ∷ zs) k = (omega (arith, k.0, O.later a (omega (arith, r.0))), weaken zs k.1)

-- the last node of the first level
abbrev top_last : List (List Dot) → ℕ
top_last [] = 0
top_last (x ∷ xs) = (last_of x).node

module _ {K : Joining} {now : List ℤ} {s : Stand} (C : Contour K now s) where
  open K use {t, f, c, end}

  abbrev W : Walking (J K) (F K) (fields_of (columns_of now)) (stand_of s C.k)
  W = C.walking

  child-before : c < s.end
  child-before =
      let T = split-child (width (row K)) c (start_at K) (child K) in
      go W.above-child W.passed (ap top_last (sym T.1) ∙ ap top_last W.child)
    where
      go : (us : List (List Dot)) → All (λ l. (last_of l).node < s.child) us → c ≡ top_last (us ++ (W.y ∷ W.ys)) → c < s.end
      go [] a q = omega (arith, q, W.runs_child.2)
      go (u ∷ us) a q = omega (arith, q, a.0, W.runs_child.0)

  -- on the levels below the nodes are of the child's family
  in_family : (k : ℕ) → first K s.child ≤ k → 1 ≤ occurs t c (suc c) k → 1 ≤ occurs t (first K c) (first K (suc c)) k
  in_family k h o =
      let same = times-root (first K) (nodes t) (O K) c k (small_n K) in
      ⊎_elim (λ q. absurd (omega (arith, q.0, h, reach W, child-before))) (λ q. omega (arith, o, same, q.1)) (is-cases k c)

  below-there : All (λ l. 1 ≤ occurs t c (suc c) (last_of l).node) (W.y ∷ W.ys)
  below-there =
      all_right (λ l. 1 ≤ occurs t c (suc c) (last_of l).node) W.above-child (W.y ∷ W.ys)
      (subst (All (λ l. 1 ≤ occurs t c (suc c) (last_of l).node)) W.child
      (all_lasts (λ e. 1 ≤ occurs t c (suc c) e.node) (J K).child (spaced-child K).some (child-on K)))

  not-passed : (k : ℕ) → first K s.child ≤ k → All (λ l. (last_of l).node ≡ k → ⊥) (W.above-child ++ (W.y ∷ []))
  not-passed k h =
      all_append _ W.above-child (W.y ∷ []) (each W.above-child W.passed) ((λ q. omega (arith, q, h, reach W, W.runs_child.2)), tt)
    where
      each : (us : List (List Dot)) → All (λ l. (last_of l).node < s.child) us → All (λ l. (last_of l).node ≡ k → ⊥) us
      each [] a = tt
      each (u ∷ us) a = ((λ q. omega (arith, q, a.0, h, reach W, W.runs_child.0)), each us a.1)

  pub stale-below : All (λ l. Outside f end (get (next C) ANCESTOR (last_of l).node)) W.ys
  stale-below =
      go W.ys (runs_from (first K) (nodes t) (O K) (first K s.child) (first K s.end) W.ys (within (first K) (nodes t) (O K) s.end W.fits) W.runs_child.4)
      below-there.1
    where
      go : (ys : List (List Dot)) → All (λ l. first K s.child ≤ (last_of l).node) ys → All (λ l. 1 ≤ occurs t c (suc c) (last_of l).node) ys
          → All (λ l. Outside f end (get (next C) ANCESTOR (last_of l).node)) ys
      go [] a b = tt
      go (y ∷ ys) a b =
          let k = (last_of y).node in (
            subst (Outside f end)
                (sym (unmarked-now W (turned C) (met-before-c C) k (not-passed k a.0)))
                (K.joins.waiting.stale k (in_family k a.0 b.0)),
            go ys a.1 b.1,
          )
