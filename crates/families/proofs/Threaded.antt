-- The end of the walk over the working slice: the longer contour is threaded, and every stored step stays good. Assumes nothing.
use mathlib.Core.Path.{◌≡◌, refl, sym, ap, ap₂, ◌∙◌, subst, fun_ext}
use mathlib.Core.Logic.{◌⊎◌, ⊎_elim}
use mathlib.Core.List.{List, [], ◌∷◌, ◌++◌}
use Prim.Native.Nat.{ℕ, suc, ◌+◌, ◌-◌, ◌*◌, ◌≤◌, ◌<◌}
use native.Mathlib.Omega.{arith}
use lib.IntN.{ℤ, pos, ◌+ℤ◌, ◌-ℤ◌}
use lib.ListN.{length, drop}
use Rattle.tree.specs.Table.{nodes}
use Rattle.rule.specs.Drawing.{Dot, first_of, last_of}
use Rattle.level_order.specs.Fields.{get, put, LEFT, RIGHT}
use Rattle.level_order.proofs.Cells.{put-length, put_same, put-field, put-position, put_rest}
use Rattle.contours.specs.Contours.{LeftSteps, RightSteps}
use Rattle.contours.proofs.Runs.{Runs}
use Rattle.contours.proofs.Steps.{left_frame, right_frame, all-inner, inner-weaken, inner_first, inner_last}
use Rattle.contours.proofs.Walk.{Walking}
use Rattle.contours.proofs.WalkEnds.{Ended, child-ends, row_ends}
use Rattle.contours.proofs.RowNext.{fields_of}
use Rattle.descent.specs.declared.Stand.{Stand}
use Rattle.descent.specs.Descent.{lower}
use Rattle.families.specs.Joining.{columns_of, occurs}
use Rattle.families.proofs.Joining.{Joining, first, O, S, J, F, spaced-row, spaced-child, small_n, occurs-next, apart, row_on, child-on, row_runs, child_runs, child-left, child-right}
use Rattle.families.proofs.Contour.{Contour, stand_of, room, first-row_on, last_child-on, a-few, e-few, last_child-position}
use Rattle.families.proofs.Meeting.{moved, next, new, turned, met-before-c, moved_same, kept_next}
use Rattle.families.proofs.Deeper.{same-field, next_row, next-child}
use Rattle.families.proofs.Stale.{all_lasts, all_firsts, stale-below}

-- the stored steps of the row and of the child
pub record Stepped (K : Joining) (u : List ℤ) : Type 0 where
  pub left-row : LeftSteps (get u LEFT) (J K).row
  pub left-child : LeftSteps (get u LEFT) (J K).child
  pub right-row : RightSteps (get u RIGHT) (J K).row
  pub right_child : RightSteps (get u RIGHT) (J K).child

-- what the walk and its thread leave; of what the child moved, `extra` was added after the walk
pub record Ends (K : Joining) (after u : List ℤ) (moved extra d : ℕ) : Type 0 where
  pub ended : Ended (J K) (F K) (fields_of (columns_of after)) (get u LEFT) (get u RIGHT) moved extra d
  pub stepped : Stepped K u
  pub size : length u ≡ length after
  pub rest : drop (16 * nodes K.t) u ≡ drop (16 * nodes K.t) after
  pub field : (g p : ℕ) → g < 16 → (g < LEFT) ⊎ (RIGHT < g) → get u g p ≡ get after g p
  pub steps : (g z : ℕ) → g < 16 → occurs K.t K.f (suc K.c) z ≡ 0 → get u g z ≡ get after g z
  pub default-low : K.f ≤ d
  pub default-high : d < suc K.c

module _ {K : Joining} {now : List ℤ} {s : Stand} (C : Contour K now s) (extra : ℕ) where
  open K use {t, f, c, default, before}

  abbrev W : Walking (J K) (F K) (fields_of (columns_of now)) (stand_of s C.k)
  W = C.walking

  abbrev after : List ℤ
  after = next C

  -- how far the child moves in all
  abbrev far : ℕ
  far = moved C + extra

  same-steps : (g : ℕ) → LEFT ≤ g → g ≤ RIGHT → get before g ≡ get after g
  same-steps g l r = fun_ext (λ p. sym (same-field C g p (omega arith)))

  stepped : Stepped K after
  stepped =
      record {
        left-row = subst (λ (g : ℕ → ℤ). LeftSteps g (J K).row) (same-steps LEFT (omega arith) (omega arith)) K.joins.rowed.row.left-steps;
        left-child = subst (λ (g : ℕ → ℤ). LeftSteps g (J K).child) (same-steps LEFT (omega arith) (omega arith)) (child-left K);
        right-row = subst (λ (g : ℕ → ℤ). RightSteps g (J K).row) (same-steps RIGHT (omega arith) (omega arith)) K.joins.rowed.row.right-steps;
        right_child = subst (λ (g : ℕ → ℤ). RightSteps g (J K).child) (same-steps RIGHT (omega arith) (omega arith)) (child-right K);
      }

  inside : 16 * nodes t ≤ length after
  inside = room (kept_next C)

  ended-by-child : (u : List ℤ) → W.ys ≡ []
      → ((x : List Dot) (xs : List (List Dot)) → W.xs ≡ x ∷ xs → get u RIGHT (last_of W.y).node ≡ (last_of x).place -ℤ ((last_of W.y).place +ℤ pos far))
      → Ended (J K) (F K) (new C) (get u LEFT) (get u RIGHT) far extra default
  ended-by-child u ey h =
      subst (λ (m : ℕ). Ended (J K) (F K) (new C) (get u LEFT) (get u RIGHT) (m + extra) extra default) (moved_same C)
      (child-ends W (turned C) (met-before-c C) extra (get u LEFT) (get u RIGHT) ey
      (λ x xs e. h x xs e ∙ ap (λ (m : ℕ). (last_of x).place -ℤ ((last_of W.y).place +ℤ pos (m + extra))) (sym (moved_same C))))

  -- ---- neither goes deeper

  pub ends-both : W.xs ≡ [] → W.ys ≡ [] → Ends K after after far extra default
  ends-both ex ey =
      record {
        ended = ended-by-child after ey (λ x xs e. absurd (let z : ◌≡◌ {A = ℕ} 0 1 = cc (sym ex ∙ e) in omega arith));
        stepped = stepped;
        size = refl;
        rest = refl;
        field = λ g p h o. refl;
        steps = λ g z h o. refl;
        default-low = K.joins.rowed.default-low;
        default-high = omega (arith, K.joins.rowed.default-high);
      }

  -- ---- a step is written at a node of the row or of the child

  ends-put : (g p : ℕ) (v : ℤ) → LEFT ≤ g → g ≤ RIGHT → p < nodes t → 1 ≤ occurs t f (suc c) p → (d : ℕ) → f ≤ d → d < suc c
      → Ended (J K) (F K) (new C) (get (put after g p v) LEFT) (get (put after g p v) RIGHT) far extra d → Stepped K (put after g p v)
      → Ends K after (put after g p v) far extra d
  ends-put g p v low high few there d dl dh E T =
      record {
        ended = E;
        stepped = T;
        size = put-length after g p v;
        rest = put_rest after g p v (omega arith) (nodes t) few;
        field = λ h q l o. put-field after g p v (omega arith) h q l (λ e. ⊎_elim (λ k. omega (arith, k, e)) (λ k. omega (arith, k, e)) o);
        steps = λ h q l o. put-position after g p v (omega arith) h q l (λ e. omega (arith, there, o, ap (occurs t f (suc c)) e));
        default-low = dl;
        default-high = dh;
      }

  -- a step of the other side
  other-side : (g h p : ℕ) (v : ℤ) → LEFT ≤ g → g ≤ RIGHT → LEFT ≤ h → h ≤ RIGHT → (h ≡ g → ⊥) → get after h ≡ get (put after g p v) h
  other-side g h p v gl gr hl hr d = fun_ext (λ q. sym (put-field after g p v (omega arith) h q (omega arith) d))

  -- ---- the row goes deeper

  module _ (z : ℤ) (ez : z ≡ pos far) where
    abbrev right-step : ℤ
    right-step = (lower after s).right -ℤ (s.outer_right +ℤ z)

    abbrev right-put : List ℤ
    right-put = put after RIGHT (s.end - 1) right-step

    child-there : 1 ≤ occurs t c (suc c) (s.end - 1)
    child-there = subst (λ (p : ℕ). 1 ≤ occurs t c (suc c) p) (sym (last_child-position C)) (child-on K (last_of W.y) _ (last_child-on C))

    right-other : (p : ℕ) → (p ≡ s.end - 1 → ⊥) → get right-put RIGHT p ≡ get after RIGHT p
    right-other p d = put-position after RIGHT (s.end - 1) right-step (omega arith) RIGHT p (omega arith) d

    pub ends-child : W.ys ≡ [] → Ends K after right-put far extra default
    ends-child ey =
        ends-put RIGHT (s.end - 1) right-step (omega arith) (omega arith) (e-few C) (omega (arith, occurs-next K (s.end - 1), child-there)) default
        K.joins.rowed.default-low (omega (arith, K.joins.rowed.default-high))
        (ended-by-child right-put ey (λ x xs e.
        ap (get right-put RIGHT) (sym (last_child-position C)) ∙ put_same after RIGHT (s.end - 1) right-step (omega (arith, inside, e-few C))
        ∙ ap₂ (λ (u v : ℤ). u -ℤ v) (next_row C x xs e) (ap₂ ◌+ℤ◌ W.outer_right_holds ez)))
        (record {
          left-row = subst (λ (g : ℕ → ℤ). LeftSteps g (J K).row) lefts stepped.left-row;
          left-child = subst (λ (g : ℕ → ℤ). LeftSteps g (J K).child) lefts stepped.left-child;
          right-row = right_frame (get after RIGHT) (get right-put RIGHT) (J K).row
              (all-inner (λ x. get right-put RIGHT (last_of x).node ≡ get after RIGHT (last_of x).node) (J K).row
              (all_lasts (λ e. get right-put RIGHT e.node ≡ get after RIGHT e.node) (J K).row (spaced-row K).some
              (λ e l o. right-other e.node (λ q. apart K e.node (row_on K e l o) (subst (λ (k : ℕ). 1 ≤ occurs t c (suc c) k) (sym q) child-there)))))
              stepped.right-row;
          right_child = subst (RightSteps (get right-put RIGHT)) (sym whole)
              (right_frame (get after RIGHT) (get right-put RIGHT) (W.above-child ++ (W.y ∷ []))
              (inner-weaken (λ l. (last_of l).node < (last_of W.y).node) (λ l. get right-put RIGHT (last_of l).node ≡ get after RIGHT (last_of l).node)
              (λ l h. right-other (last_of l).node (λ q. omega (arith, h, q, last_child-position C))) (W.above-child ++ (W.y ∷ []))
              (inner_last (first K) (nodes t) (O K) c (suc c) W.above-child W.y (small_n K) ((O K).later c (small_n K)) (subst (Runs (first K) c (suc c)) whole (child_runs K))).1)
              (subst (RightSteps (get after RIGHT)) whole stepped.right_child));
        })
      where
        lefts : get after LEFT ≡ get right-put LEFT
        lefts = other-side RIGHT LEFT (s.end - 1) right-step (omega arith) (omega arith) (omega arith) (omega arith) (λ e. omega arith)

        whole : (J K).child ≡ W.above-child ++ (W.y ∷ [])
        whole = W.child ∙ ap (λ (l : List (List Dot)). W.above-child ++ (W.y ∷ l)) ey

    -- ---- the child goes deeper

    abbrev left_step : ℤ
    left_step = ((lower after s).left +ℤ z) -ℤ s.outer_left

    abbrev left-put : List ℤ
    left-put = put after LEFT s.row left_step

    row-there : 1 ≤ occurs t f c s.row
    row-there = subst (λ (p : ℕ). 1 ≤ occurs t f c p) W.runs_row.1 (row_on K (first_of W.x) _ (first-row_on C))

    left_other : (p : ℕ) → (p ≡ s.row → ⊥) → get left-put LEFT p ≡ get after LEFT p
    left_other p d = put-position after LEFT s.row left_step (omega arith) LEFT p (omega arith) d

    pub ends-row : W.xs ≡ [] → (y : List Dot) (ys : List (List Dot)) → W.ys ≡ y ∷ ys → Ends K after left-put far extra c
    ends-row ex y ys ey =
        ends-put LEFT s.row left_step (omega arith) (omega arith) (a-few C) (omega (arith, occurs-next K s.row, row-there)) c (omega (arith, (S K).some)) (omega arith)
        (subst (λ (m : ℕ). Ended (J K) (F K) (new C) (get left-put LEFT) (get left-put RIGHT) (m + extra) extra c) (moved_same C)
        (row_ends W (turned C) (met-before-c C) extra (get left-put LEFT) (get left-put RIGHT) ex ey
        (ap (get left-put LEFT) W.runs_row.1 ∙ put_same after LEFT s.row left_step (omega (arith, inside, a-few C))
        ∙ ap₂ (λ (u v : ℤ). u -ℤ v) (ap₂ ◌+ℤ◌ (next-child C y ys ey) (ez ∙ ap (λ (m : ℕ). pos (m + extra)) (sym (moved_same C)))) W.outer_left_holds)
        (stale-below C)))
        (record {
          left-row = subst (LeftSteps (get left-put LEFT)) (sym whole)
              (left_frame (get after LEFT) (get left-put LEFT) (W.above-row ++ (W.x ∷ []))
              (inner-weaken (λ l. (first_of l).node < (first_of W.x).node) (λ l. get left-put LEFT (first_of l).node ≡ get after LEFT (first_of l).node)
              (λ l h. left_other (first_of l).node (λ q. omega (arith, h, q, W.runs_row.1))) (W.above-row ++ (W.x ∷ []))
              (inner_first (first K) (nodes t) (O K) f c W.above-row W.x (omega (arith, small_n K)) (subst (Runs (first K) f c) whole (row_runs K))).1)
              (subst (LeftSteps (get after LEFT)) whole stepped.left-row));
          left-child = left_frame (get after LEFT) (get left-put LEFT) (J K).child
              (all-inner (λ x. get left-put LEFT (first_of x).node ≡ get after LEFT (first_of x).node) (J K).child
              (all_firsts (λ e. get left-put LEFT e.node ≡ get after LEFT e.node) (J K).child (spaced-child K).some
              (λ e l o. left_other e.node (λ q. apart K e.node (subst (λ (k : ℕ). 1 ≤ occurs t f c k) (sym q) row-there) (child-on K e l o)))))
              stepped.left-child;
          right-row = subst (λ (g : ℕ → ℤ). RightSteps g (J K).row) rights stepped.right-row;
          right_child = subst (λ (g : ℕ → ℤ). RightSteps g (J K).child) rights stepped.right_child;
        })
      where
        rights : get after RIGHT ≡ get left-put RIGHT
        rights = other-side LEFT RIGHT s.row left_step (omega arith) (omega arith) (omega arith) (omega arith) (λ e. omega arith)

        whole : (J K).row ≡ W.above-row ++ (W.x ∷ [])
        whole = W.row ∙ ap (λ (l : List (List Dot)). W.above-row ++ (W.x ∷ l)) ex
