-- One child joined: the walk has ended, its thread is set and the child's place is written. Assumes nothing.
use mathlib.Core.Path.{◌≡◌, sym, ap, ap₂, ◌∙◌, subst, subst₂, fun_ext}
use mathlib.Core.Logic.{◌⊎◌, inl, inr, ⊎_elim}
use mathlib.Core.Bool.{Bool, true, false, cond, ◌||◌, true≢false}
use mathlib.Core.List.{List, [], ◌∷◌}
use Prim.Native.Nat.{ℕ, suc, ◌+◌, ◌-◌, ◌*◌, ◌≤◌, ◌<◌}
use native.Mathlib.Nat.{not-suc-le-zero}
use native.Mathlib.Omega.{arith}
use borrow.Author.Tests.{lt-ltb, le-ltb, ne_eqb}
use lib.Dec.{ltb}
use lib.IntN.{ℤ, pos, nat_abs, ◌+ℤ◌, ◌-ℤ◌}
use lib.ListN.{length}
use Rattle.tree.specs.Table.{nodes}
use Rattle.tree.proofs.Counting.{All, is-cases}
use Rattle.rule.specs.Drawing.{Drawing, none, at, width, Dot, last_place, last_of}
use Rattle.rule.specs.Join.{Meeting, total, added, meetings}
use Rattle.rule.proofs.Significant.{added-moved}
use Rattle.level_order.specs.Fields.{get, put, PLACE, LEFT, RIGHT, ANCESTOR, SHIFT, CHANGE}
use Rattle.level_order.proofs.Fielded.{numbered-kept}
use Rattle.level_order.proofs.Cells.{put-length, put_same, put-field, put-position, put_rest}
use Rattle.contours.specs.Rows.{Outside, Owned, Row, row_drawn}
use Rattle.contours.specs.Contours.{LeftSteps, RightSteps}
use Rattle.contours.proofs.Walk.{Fields}
use Rattle.contours.proofs.WalkEnds.{Ended}
use Rattle.contours.proofs.RowNext.{fields_of, row_next}
use Rattle.descent.specs.declared.Stand.{Stand}
use Rattle.descent.specs.Descent.{lower, is_end, first_of_children, past_children, threaded, new_default}
use Rattle.families.specs.Joining.{columns_of, Rowed, Untouched, Joined}
use Rattle.families.proofs.Joining.{Joining, first, O, S, row, child, start_at, J, F, row-wide, spaced-row, small_n, occurs-next, apart, row_on, start_at_lem, next_last}
use Rattle.families.proofs.Contour.{Kept, Contour, pushed}
use Rattle.families.proofs.Meeting.{moved, next}
use Rattle.families.proofs.Deeper.{first-a, first-b, past-e, rows-below, children-below}
use Rattle.families.proofs.Stale.{all_lasts}
use Rattle.families.proofs.Threaded.{Ends, ends-both, ends-child, ends-row}

-- ---- which of the three ends

module _ {K : Joining} {now : List ℤ} {s : Stand} (C : Contour K now s) (extra : ℕ) (z : ℤ) (ez : z ≡ pos (moved C + extra)) where
  abbrev after : List ℤ
  after = next C

  abbrev thread : Bool → Bool → List ℤ
  thread p q =
      cond p (put after RIGHT (s.end - 1) ((lower after s).right -ℤ (s.outer_right +ℤ z)))
      (cond q (put after LEFT s.row (((lower after s).left +ℤ z) -ℤ s.outer_left)) after)

  abbrev default-by : Bool → Bool → ℕ
  default-by p q = cond p K.default (cond q K.c K.default)

  by : (p q : Bool) → ltb (first_of_children after s.row) (first_of_children after s.child) ≡ p → ltb (first_of_children after s.child) (past_children after (s.end - 1)) ≡ q
      → Ends K after (thread p q) (moved C + extra) extra (default-by p q) → Ends K after (threaded after (pushed s z)) (moved C + extra) extra (new_default after (pushed s z) K.c K.default)
  by p q ep eq E = subst₂ (λ (x y : Bool). Ends K after (thread x y) (moved C + extra) extra (default-by x y)) (sym ep) (sym eq) E

  pub ends : is_end after (pushed s z) ≡ true → Ends K after (threaded after (pushed s z)) (moved C + extra) extra (new_default after (pushed s z) K.c K.default)
  ends stop =
      ⊎_elim
      (λ X. ⊎_elim
      (λ Y. by false false (row_ends X.1) (child-ends Y.1) (ends-both C extra X.0 Y.0))
      (λ Y.
      by false true (row_ends X.1) (lt-ltb (first_of_children after s.child) (past_children after (s.end - 1)) (omega (arith, first-b C, past-e C, Y.3)))
      (ends-row C extra z ez X.0 Y.0 Y.1 Y.2))
      (children-below C))
      (λ X. ⊎_elim
      (λ Y.
      by true false (lt-ltb (first_of_children after s.row) (first_of_children after s.child) (omega (arith, first-a C, first-b C, X.3))) (child-ends Y.1)
      (ends-child C extra z ez Y.0))
      (λ Y. absurd (true≢false (sym stop ∙ both_differ X.3 Y.3)))
      (children-below C))
      (rows-below C)
    where
      row_ends : first K s.row ≡ first K s.child → ltb (first_of_children after s.row) (first_of_children after s.child) ≡ false
      row_ends e = le-ltb (first_of_children after s.row) (first_of_children after s.child) (omega (arith, first-a C, first-b C))

      child-ends : first K s.child ≡ first K s.end → ltb (first_of_children after s.child) (past_children after (s.end - 1)) ≡ false
      child-ends e = le-ltb (first_of_children after s.child) (past_children after (s.end - 1)) (omega (arith, first-b C, past-e C))

      both_differ : first K s.row < first K s.child → first K s.child < first K s.end → is_end after (pushed s z) ≡ false
      both_differ h g =
          ap₂ (λ (x y : Bool). x || y) (ne_eqb (first_of_children after s.row) (first_of_children after s.child) (λ q. omega (arith, first-a C, first-b C, h, q)))
          (ne_eqb (first_of_children after s.child) (past_children after (s.end - 1)) (λ q. omega (arith, first-b C, past-e C, g, q)))

-- ---- the row with one child more

-- the meetings of the whole walk
abbrev pub meetings_of : Joining → List Meeting
meetings_of K = meetings K.D.need (row K) K.c (child K)

-- what is added where the conflicts moved the child by k
pub added-at-end : (K : Joining) (k : ℕ) → k ≡ total (meetings_of K) → cond (ltb 0 k) K.D.extra 0 ≡ added K.D.extra (meetings_of K)
added-at-end K k e = ap (λ (m : ℕ). cond (ltb 0 m) K.D.extra 0) e ∙ sym (go (row K) (omega (arith, row-wide K, (S K).some)))
  where
    go : (d : Drawing) → 0 < width d → added K.D.extra (meetings K.D.need d K.c (child K)) ≡ cond (ltb 0 (total (meetings K.D.need d K.c (child K)))) K.D.extra 0
    go none h = absurd (not-suc-le-zero h)
    go (at u x b a) h = added-moved K.D.need K.D.extra u x b a K.c (child K)

-- of k + e that the child moved, e was added after the walk
module _ (K : Joining) (after u : List ℤ) (k e d : ℕ) (kept : Kept K after k) (E : Ends K after u (k + e) e d) (added-here : e ≡ added K.D.extra (meetings_of K))
    (v : ℤ) (ev : v ≡ pos (start_at K + (k + e))) where
  open K use {t, D, f, c, end, default, before}

  abbrev final : List ℤ
  final = put u PLACE c v

  room : 16 * nodes t ≤ length u
  room = omega (arith, K.joins.rowed.numbered.size, kept.size, E.size)

  final-field : (g p : ℕ) → g < 16 → (g ≡ PLACE → ⊥) → get final g p ≡ get u g p
  final-field g p h a = put-field u PLACE c v (omega arith) g p h a

  -- the numbering's fields
  same : (g p : ℕ) → g < PLACE → get final g p ≡ get before g p
  same g p h = final-field g p (omega arith) (λ e. omega arith) ∙ E.field g p (omega arith) (inl (omega arith)) ∙ kept.field g p (omega arith)

  -- the fields past the steps
  from-after : (g p : ℕ) → RIGHT < g → g < 16 → get final g p ≡ get after g p
  from-after g p l h = final-field g p h (λ e. omega arith) ∙ E.field g p h (inr l)

  other_place : (p : ℕ) → (p ≡ c → ⊥) → get final PLACE p ≡ get before PLACE p
  other_place p q =
      put-position u PLACE c v (omega arith) PLACE p (omega arith) q ∙ E.field PLACE p (omega arith) (inl (omega arith)) ∙ kept.field PLACE p (omega arith)

  new-place : get final PLACE c ≡ pos (start_at K + (k + e))
  new-place = put_same u PLACE c v (omega (arith, room, small_n K)) ∙ ev

  column : (g : ℕ) → LEFT ≤ g → g ≤ RIGHT → get u g ≡ get final g
  column g l r = fun_ext (λ p. sym (final-field g p (omega arith) (λ e. omega arith)))

  lefts : get u LEFT ≡ get final LEFT
  lefts = column LEFT (omega arith) (omega arith)

  rights : get u RIGHT ≡ get final RIGHT
  rights = column RIGHT (omega arith) (omega arith)

  fields : fields_of (columns_of after) ≡ fields_of (columns_of final)
  fields =
      ap (λ (g : ℕ → ℤ). columns g (get after SHIFT) (get after CHANGE)) (later ANCESTOR (omega arith) (omega arith))
      ∙ ap (λ (g : ℕ → ℤ). columns (get final ANCESTOR) g (get after CHANGE)) (later SHIFT (omega arith) (omega arith))
      ∙ ap (columns (get final ANCESTOR) (get final SHIFT)) (later CHANGE (omega arith) (omega arith))
    where
      columns : (ℕ → ℤ) → (ℕ → ℤ) → (ℕ → ℤ) → Fields
      columns x y w = record { ancestor = x; shift = y; change = w }

      later : (g : ℕ) → RIGHT < g → g < 16 → get after g ≡ get final g
      later g l h = fun_ext (λ p. sym (from-after g p l h))

  ended : Ended (J K) (F K) (fields_of (columns_of final)) (get final LEFT) (get final RIGHT) (k + e) (added D.extra (meetings_of K)) d
  ended =
      subst₂ (λ (l r : ℕ → ℤ). Ended (J K) (F K) (fields_of (columns_of final)) l r (k + e) (added D.extra (meetings_of K)) d) lefts rights
      (subst₂ (λ (g : Fields) (a : ℕ). Ended (J K) (F K) g (get u LEFT) (get u RIGHT) (k + e) a d) fields added-here E.ended)

  -- the owners of the row are as they were
  owned-row : Owned (get final ANCESTOR) f end default (J K).row
  owned-row =
      go (J K).row
      (all_lasts (λ e. get final ANCESTOR e.node ≡ get before ANCESTOR e.node) (J K).row (spaced-row K).some
      (λ e l o. from-after ANCESTOR e.node (omega arith) (omega arith)
      ∙ ⊎_elim (λ q. q) (λ q. absurd (apart K e.node (row_on K e l o) q.1)) (kept.ancestor e.node)))
      K.joins.rowed.row.owned
    where
      go : (xs : List (List Dot)) → All (λ x. get final ANCESTOR (last_of x).node ≡ get before ANCESTOR (last_of x).node) xs
          → Owned (get before ANCESTOR) f end default xs → Owned (get final ANCESTOR) f end default xs
      go [] a o = tt
      go (x ∷ xs) a o = (
        subst (λ (w : ℤ). (w ≡ pos (f + (last_of x).child)) ⊎ (Outside f end w × (default ≡ f + (last_of x).child))) (sym a.0) o.0,
        go xs a.1 o.1,
      )

  next_row : Row (first K) (nodes t) D f (suc c) end d (columns_of final)
  next_row =
      let T = E.stepped in
      row_next (first K) (nodes t) (O K) D f c end default (S K).some K.joins.inside (S K).fits (columns_of before) (columns_of final) (k + e) d
      K.joins.rowed.row ended new-place other_place
      (subst (λ (l : ℕ → ℤ). LeftSteps l (J K).row) lefts T.left-row)
      (subst (λ (l : ℕ → ℤ). LeftSteps l (J K).child) lefts T.left-child)
      (subst (λ (l : ℕ → ℤ). RightSteps l (J K).row) rights T.right-row)
      (subst (λ (l : ℕ → ℤ). RightSteps l (J K).child) rights T.right_child)
      owned-row

  -- where the row ends now
  grown : last_place (row_drawn (first K) (nodes t) D f (suc c)) ≡ last_place (row K) + D.need (c - 1) c + (k + e)
  grown = omega (arith, next_last K, start_at_lem K, E.ended.total)

  rowed : Rowed t D f (suc c) end d final
  rowed =
      record {
        numbered = numbered-kept K.joins.rowed.numbered final (omega (arith, room, put-length u PLACE c v)) (λ g p h. same g p (omega arith));
        siblings = record { some = omega (arith, (S K).some); more = K.joins.inside; fits = (S K).fits; one_level = (S K).one_level; alone = (S K).alone };
        default-low = E.default-low;
        default-high = E.default-high;
        row = next_row;
        stood = λ p h g. ⊎_elim
            (λ q. (start_at K + (k + e), omega (arith, grown, start_at_lem K), ap (get final PLACE) q.0 ∙ new-place))
            (λ q. let r = K.joins.rowed.stood p h (before-c p g q.0) in (r.0, omega (arith, r.1, grown), other_place p q.0 ∙ r.2))
            (is-cases p c);
        small = λ g p l r h q. omega (arith, ap nat_abs (from-after g p (omega arith) (omega arith)), kept.small g p l r h q, grown);
      }
    where
      before-c : (p : ℕ) → p < suc c → (p ≡ c → ⊥) → p < c
      before-c p g e = omega arith

  untouched : Untouched t f c before final
  untouched =
      record {
        size = put-length u PLACE c v ∙ E.size ∙ kept.size;
        rest = put_rest u PLACE c v (omega arith) (nodes t) (small_n K) ∙ E.rest ∙ kept.rest;
        numbering = same;
        place = other_place;
        steps = λ g p l r h. final-field g p (omega arith) (λ e. omega arith) ∙ E.steps g p (omega arith) h ∙ kept.field g p (omega arith);
        ancestor = λ p. ⊎_elim (λ q. inl (from-after ANCESTOR p (omega arith) (omega arith) ∙ q))
            (λ q. inr (from-after ANCESTOR p (omega arith) (omega arith) ∙ q.0, omega (arith, q.1, occurs-next K p)))
            (kept.ancestor p);
        gathered = λ g p l r q. from-after g p (omega arith) (omega arith) ∙ kept.still g p l r q;
      }

  pub joined : Joined t D f c end d before final
  joined = record { rowed = rowed; untouched = untouched }
