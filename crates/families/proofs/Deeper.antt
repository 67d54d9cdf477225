-- From one level of the walk to the next: where both contours go on, the stand below. Assumes nothing.
use mathlib.Core.Path.{◌≡◌, refl, sym, ap, ◌∙◌, subst}
use mathlib.Core.Logic.{◌⊎◌, inl, inr, ⊎_elim}
use mathlib.Core.Bool.{false, true≢false}
use mathlib.Core.List.{List, [], ◌∷◌, ◌++◌, append_assoc, Memᴰ}
use Prim.Native.Nat.{ℕ, suc, ◌-◌, ◌<◌}
use native.Mathlib.Omega.{arith}
use borrow.Author.Tests.{eq-eqb}
use lib.Dec.{eqb}
use lib.IntN.{ℤ, pos, ◌+ℤ◌}
use lib.ListN.{length}
use Rattle.refusal.proofs.Truth.{or-true}
use Rattle.tree.specs.Table.{nodes}
use Rattle.tree.specs.Forest.{tree_of}
use Rattle.rule.specs.Drawing.{Dot, first_of, last_of}
use Rattle.rule.proofs.OnLevel.{OnLevel}
use Rattle.rule.proofs.LevelEnds.{last_mem, first-mem}
use Rattle.level_order.specs.Numbered.{Numbered}
use Rattle.level_order.specs.Fields.{get, LEFT, RIGHT, ANCESTOR}
use Rattle.contours.specs.Contours.{LeftSteps, RightSteps}
use Rattle.contours.proofs.Runs.{Runs}
use Rattle.contours.proofs.Walk.{Walking, step_to, down, walk_down_lem}
use Rattle.contours.proofs.Walk as walk
use Rattle.contours.proofs.RowNext.{fields_of}
use Rattle.contours.proofs.Bounds.{on-here}
use Rattle.descent.specs.declared.Stand.{Stand}
use Rattle.descent.specs.Descent.{Threads, Steps, lower, is_end, first_of_children, past_children}
use Rattle.families.specs.Joining.{columns_of}
use Rattle.families.proofs.Children.{first-value, past_value}
use Rattle.families.proofs.Joining.{Joining, first, O, J, F}
use Rattle.families.proofs.Contour.{Contour, stand_of, pushed, numbered, row_modest, child_modest, level, a-few, b-few, e-few, last-position, last_child-position}
use Rattle.families.proofs.Meeting.{moved, next, new, turned, met-before-c, moved_same, moved_bound, kept_next}

-- a run of levels: none, or its first level has nodes
pub runs_cases : (first : ℕ → ℕ) (u v : ℕ) (xs : List (List Dot)) → Runs first u v xs
    → ((xs ≡ []) × (u ≡ v)) ⊎ ((x : List Dot) × (ys : List (List Dot)) × (xs ≡ x ∷ ys) × (u < v))
runs_cases first u v [] r = inl (refl, r)
runs_cases first u v (x ∷ xs) r = inr (x, xs, refl, r.0)

abbrev stand : ℕ → ℕ → ℕ → ℤ → ℤ → ℤ → ℤ → ℕ → walk.Stand
stand a b e r l p q k = record { a = a; b = b; e = e; right = r; left = l; outer_left = p; outer_right = q; moved = k }

stands : {a b e a' b' e' : ℕ} {r l p q r' l' p' q' : ℤ} {k k' : ℕ} → a ≡ a' → b ≡ b' → e ≡ e' → r ≡ r' → l ≡ l' → p ≡ p' → q ≡ q' → k ≡ k'
    → stand a b e r l p q k ≡ stand a' b' e' r' l' p' q' k'
stands ea eb ee er el ep eq ek = rw (ea, eb, ee, er, el, ep, eq, ek)

-- a dot of the level below
below_on : (us : List (List Dot)) (x x' : List Dot) (xs' ls : List (List Dot)) → ls ≡ us ++ (x ∷ x' ∷ xs') → (e : Dot) → Memᴰ e x'
    → OnLevel e (length (us ++ (x ∷ []))) ls
below_on us x x' xs' ls q e m =
    subst (OnLevel e (length (us ++ (x ∷ [])))) (sym (q ∙ sym (append_assoc us (x ∷ []) (x' ∷ xs')))) (on-here (us ++ (x ∷ [])) x' xs' e m)

module _ {K : Joining} {now : List ℤ} {s : Stand} (C : Contour K now s) where
  abbrev W : Walking (J K) (F K) (fields_of (columns_of now)) (stand_of s C.k)
  W = C.walking

  abbrev after : List ℤ
  after = next C

  -- ---- what the slice says of the next level

  pub same-field : (g p : ℕ) → g < ANCESTOR → get after g p ≡ get K.before g p
  same-field = (kept_next C).field

  abbrev numbered-after : Numbered (tree_of K.t) K.D.need (nodes K.t) after
  numbered-after = numbered (kept_next C)

  pub first-a : first_of_children after s.row ≡ first K s.row
  first-a = first-value K.t K.joins.given.accepted numbered-after s.row (a-few C)

  pub first-b : first_of_children after s.child ≡ first K s.child
  first-b = first-value K.t K.joins.given.accepted numbered-after s.child (b-few C)

  pub past-e : past_children after (s.end - 1) ≡ first K s.end
  past-e =
      let e : suc (s.end - 1) ≡ s.end = omega (arith, W.runs_child.0) in
      past_value K.t K.joins.given.accepted numbered-after (s.end - 1) (e-few C) ∙ ap (first K) e

  pub rows-below : ((W.xs ≡ []) × (first K s.row ≡ first K s.child)) ⊎ ((x : List Dot) × (xs : List (List Dot)) × (W.xs ≡ x ∷ xs) × (first K s.row < first K s.child))
  rows-below = runs_cases (first K) (first K s.row) (first K s.child) W.xs W.runs_row.4

  pub children-below : ((W.ys ≡ []) × (first K s.child ≡ first K s.end)) ⊎ ((y : List Dot) × (ys : List (List Dot)) × (W.ys ≡ y ∷ ys) × (first K s.child < first K s.end))
  children-below = runs_cases (first K) (first K s.child) (first K s.end) W.ys W.runs_child.4

  -- ---- the steps that a thread needs

  pub next_row : (x : List Dot) (xs : List (List Dot)) → W.xs ≡ x ∷ xs → (lower after s).right ≡ (last_of x).place
  next_row x xs e =
      let r : RightSteps (get K.before RIGHT) (W.x ∷ x ∷ xs) = subst (λ (l : List (List Dot)). RightSteps (get K.before RIGHT) (W.x ∷ l)) e W.right-row in
      step_to W.right-at
      (same-field RIGHT (s.child - 1) (omega arith) ∙ ap (get K.before RIGHT) (last-position C) ∙ r.0)

  pub next-child : (y : List Dot) (ys : List (List Dot)) → W.ys ≡ y ∷ ys → (lower after s).left ≡ (first_of y).place
  next-child y ys e =
      let r : LeftSteps (get K.before LEFT) (W.y ∷ y ∷ ys) = subst (λ (l : List (List Dot)). LeftSteps (get K.before LEFT) (W.y ∷ l)) e W.left-child in
      step_to W.left_at
      (same-field LEFT s.child (omega arith) ∙ ap (get K.before LEFT) (sym W.runs_child.1) ∙ r.0)

  pub threads : (z : ℤ) → Threads after (pushed s z)
  threads z =
      record {
        row-deeper = λ h. ⊎_elim (λ e. absurd (omega (arith, h, e.1, first-a, first-b)))
            (λ X.
            let r : Runs (first K) (first K s.row) (first K s.child) (X.0 ∷ X.1) = subst (Runs (first K) (first K s.row) (first K s.child)) X.2 W.runs_row.4 in
            row_modest K (lower after s).right (last_of X.0) _ (next_row X.0 X.1 X.2)
            (below_on W.above-row W.x X.0 X.1 (J K).row (W.row ∙ ap (λ (l : List (List Dot)). W.above-row ++ (W.x ∷ l)) X.2) (last_of X.0)
            (last_mem X.0 r.3)))
            rows-below;
        child-deeper = λ h. ⊎_elim (λ e. absurd (omega (arith, h, e.1, past-e, first-b)))
            (λ Y.
            let r : Runs (first K) (first K s.child) (first K s.end) (Y.0 ∷ Y.1) = subst (Runs (first K) (first K s.child) (first K s.end)) Y.2 W.runs_child.4 in
            child_modest K (lower after s).left (first_of Y.0) _ (next-child Y.0 Y.1 Y.2)
            (below_on W.above-child W.y Y.0 Y.1 (J K).child (W.child ∙ ap (λ (l : List (List Dot)). W.above-child ++ (W.y ∷ l)) Y.2) (first_of Y.0)
            (first-mem Y.0 r.3)))
            children-below;
      }

  -- ---- one level down

  side : (g p q : ℕ) → g < ANCESTOR → p ≡ q → (z : ℤ) → z +ℤ get K.before g q ≡ z +ℤ get after g p
  side g p q h e z = ap (λ (x : ℤ). z +ℤ x) (ap (get K.before g) (sym e) ∙ sym (same-field g p h))

  module _ (z : ℤ) (ez : z ≡ pos (moved C)) (go_on : is_end after s ≡ false) where
    pub contour-lower : Contour K after (lower after (pushed s z))
    contour-lower =
        record {
          k = moved C;
          moved = ez;
          walking = ⊎_elim (λ e. absurd (true≢false (sym (or-true (inl (eq-eqb (first_of_children after s.row) (first_of_children after s.child) (first-a ∙ e.1 ∙ sym first-b)))) ∙ go_on)))
              (λ X. ⊎_elim (λ e. absurd (true≢false (sym (or-true {a = eqb (first_of_children after s.row) (first_of_children after s.child)} (inr (eq-eqb (first_of_children after s.child) (past_children after (s.end - 1)) (first-b ∙ e.1 ∙ sym past-e)))) ∙ go_on)))
              (λ Y. subst (Walking (J K) (F K) (new C)) same-stand
              (walk_down_lem W (turned C) (met-before-c C) X.2 Y.2))
              children-below)
              rows-below;
          kept = kept_next C;
        }
      where
        same-stand : down W ≡ stand_of (lower after (pushed s z)) (moved C)
        same-stand =
            stands (sym first-a) (sym first-b) (sym past-e)
            (side RIGHT (s.child - 1) (last_of W.x).node (omega arith) (last-position C) s.right)
            (side LEFT s.child (first_of W.y).node (omega arith) (sym W.runs_child.1) s.left)
            (side LEFT s.row (first_of W.x).node (omega arith) (sym W.runs_row.1) s.outer_left)
            (side RIGHT (s.end - 1) (last_of W.y).node (omega arith) (last_child-position C) s.outer_right)
            (moved_same C)

    pub steps-below : Steps after (pushed s z)
    steps-below =
        let L = level contour-lower after (moved C) (kept_next C) (moved_bound C) (moved C) (omega arith) z ez in
        record {
          right = L.right_modest;
          left = L.left_modest;
          outer_left_holds = L.outer_left_modest;
          outer_right_holds = L.outer_right_modest;
        }

    -- the child's first node lies further right
    pub fewer-left : nodes K.t - (lower after (pushed s z)).child < nodes K.t - s.child
    fewer-left = omega (arith, first-b, (O K).later s.child (b-few C), b-few C)
