-- The joins of a family one by one: what they leave as it was, and the subtree that is joined next. Assumes nothing.
use mathlib.Core.Path.{◌≡◌, refl, sym, ◌∙◌, subst}
use mathlib.Core.Logic.{◌⊎◌, inl, inr, ⊎_elim}
use mathlib.Core.List.{List}
use Prim.Native.Nat.{ℕ, suc, ◌+◌, ◌≤◌, ◌<◌}
use native.Mathlib.Omega.{arith}
use lib.IntN.{ℤ, pos}
use Rattle.rule.specs.Join.{Spacing}
use Rattle.tree.specs.Table.{nodes}
use Rattle.tree.specs.Forest.{tree_of}
use Rattle.tree.proofs.Counting.{is_same}
use Rattle.level_order.specs.LevelOrder.{first_at}
use Rattle.level_order.specs.Fields.{get, LEFT, RIGHT, ANCESTOR}
use Rattle.contours.specs.Rows.{Outside}
use Rattle.families.specs.Joining.{occurs, Siblings, Waiting, Untouched}
use Rattle.families.specs.Families.{Through}
use Rattle.level_order.proofs.Positions.{Ordered}
use Rattle.level_order.proofs.Occurs.{times_cut, times-root}
use Rattle.contours.proofs.Kept.{subtree-kept}

outside-less : (f c p : ℕ) → (p < f) ⊎ (suc c ≤ p) → (p < f) ⊎ (c ≤ p)
outside-less f c p h = ⊎_elim (λ k. inl k) (λ k. inr (omega (arith, k))) h

-- the ancestor is as it was, or it is one of the row's children
abbrev Marks : List ℕ → ℕ → ℕ → ℕ → List ℤ → List ℤ → Type 0
Marks t f d z old new = (get new ANCESTOR z ≡ get old ANCESTOR z) ⊎ ((k : ℕ) × (f ≤ k) × (get new ANCESTOR z ≡ pos k) × (1 ≤ occurs t f d z))

module _ (t : List ℕ) (O : Ordered (first_at (tree_of t)) (nodes t)) (f c : ℕ) (some : f < c) (inside : c < nodes t) where
  grows : (z : ℕ) → occurs t f (suc c) z ≡ occurs t f c z + occurs t c (suc c) z
  grows z = times_cut (first_at (tree_of t)) (nodes t) O f c (suc c) z (omega arith) (omega arith) inside

  pub through-next : (before mid after : List ℤ) → Through t f c before mid → Untouched t f c mid after → Through t f (suc c) before after
  through-next before mid after T U =
      record {
        size = U.size ∙ T.size;
        rest = U.rest ∙ T.rest;
        numbering = λ g p h. U.numbering g p h ∙ T.numbering g p h;
        place = λ p h. U.place p (other p h) ∙ T.place p (outside-less f c p h);
        steps = λ g z l r h. U.steps g z l r h ∙ T.steps g z l r (omega (arith, h, grows z));
        ancestor = λ z. marks z (T.ancestor z) (U.ancestor z);
        gathered = λ g p l r h. U.gathered g p l r (⊎_elim (λ k. inl k) (λ k. inr k) h) ∙ T.gathered g p l r (outside-less f c p h);
      }
    where
      other : (p : ℕ) → (p < f) ⊎ (suc c ≤ p) → p ≡ c → ⊥
      other p h e = ⊎_elim (λ k. omega (arith, k, e, some)) (λ k. omega (arith, k, e)) h

      marks : (z : ℕ) → Marks t f c z before mid → (get after ANCESTOR z ≡ get mid ANCESTOR z) ⊎ ((get after ANCESTOR z ≡ pos c) × (1 ≤ occurs t f (suc c) z)) → Marks t f (suc c) z before after
      marks z m u =
          ⊎_elim (λ e. ⊎_elim (λ d. inl (e ∙ d)) (λ d. inr (d.0, d.1, e ∙ d.2, omega (arith, d.3, grows z))) m)
          (λ e. inr (c, omega (arith, some), e.0, e.1))
          u

  -- the subtree that is joined next has not been touched
  pub waiting_kept : (D : Spacing) (end : ℕ) (before after : List ℤ) → c < end → Siblings t f c end → Through t f c before after → Waiting t D f end c before → Waiting t D f end c after
  waiting_kept D end before after h S T W =
      record {
        subtree =
            subtree-kept (first_at (tree_of t)) (nodes t) O D c inside (get before LEFT) (get before RIGHT) (get after LEFT) (get after RIGHT)
            (λ z k. T.steps LEFT z (omega arith) (omega arith) (apart z k)) (λ z k. T.steps RIGHT z (omega arith) (omega arith) (apart z k)) W.subtree;
        own = ⊎_elim (λ e. e ∙ W.own) (λ e. absurd (omega (arith, e.3, apart c root))) (T.ancestor c);
        stale = λ z k. ⊎_elim (λ e. subst (Outside f end) (sym e) (W.stale z k)) (λ e. absurd (omega (arith, e.3, apart z (below z k)))) (T.ancestor z);
      }
    where
      apart : (z : ℕ) → 1 ≤ occurs t c (suc c) z → occurs t f c z ≡ 0
      apart z k =
          omega (arith, grows z, S.alone z, times_cut (first_at (tree_of t)) (nodes t) O f (suc c) end z (omega arith) h S.fits)

      root : 1 ≤ occurs t c (suc c) c
      root = omega (arith, times-root (first_at (tree_of t)) (nodes t) O c c inside, is_same c c refl)

      below : (z : ℕ) → 1 ≤ occurs t (first_at (tree_of t) c) (first_at (tree_of t) (suc c)) z → 1 ≤ occurs t c (suc c) z
      below z k = omega (arith, times-root (first_at (tree_of t)) (nodes t) O c z inside)
