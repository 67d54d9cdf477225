-- One level of the walk over the working slice: the meeting is gathered, and the child's last node is marked. Assumes nothing.
use mathlib.Core.Path.{◌≡◌, refl, sym, ap, ap₂, ◌∙◌, subst, subst₂, fun_ext}
use mathlib.Core.Logic.{◌⊎◌, inl, inr, ⊎_elim}
use mathlib.Core.Bool.{Bool, cond}
use mathlib.Core.List.{List, [], ◌∷◌, ◌++◌}
use Prim.Native.Nat.{ℕ, suc, ◌+◌, ◌-◌, ◌*◌, ◌≤◌, ◌<◌}
use native.Mathlib.Omega.{arith}
use borrow.Author.Tests.{ne_eqb}
use lib.IntN.{ℤ, pos, nat_abs, ◌+ℤ◌, ◌-ℤ◌}
use lib.ListN.{length, drop}
use Rattle.tree.specs.Table.{nodes}
use Rattle.tree.proofs.Counting.{All, all_right, is-cases}
use Rattle.rule.specs.Drawing.{width, Dot, last_of, left_contour, right_contour}
use Rattle.rule.specs.Join.{above0, total}
use Rattle.rule.specs.Join as rule
use Rattle.rule.proofs.Signed.{parts_add, parts_sub, parts_eq}
use Rattle.rule.proofs.LevelEnds.{last_in}
use Rattle.rule.proofs.AtOnce.{total-append}
use Rattle.level_order.specs.Fields.{get, NEED, ANCESTOR, SHIFT, CHANGE}
use Rattle.level_order.proofs.Fielded.{needed-at}
use Rattle.level_order.proofs.Cells.{put-length, put_same, put-field, put-position, put_rest}
use Rattle.contours.specs.Rows.{Outside, Owned}
use Rattle.contours.proofs.Gathered.{Met}
use Rattle.contours.proofs.Walk.{Fields, Walking, Turned, amount, owner, met_now, whole-now, moved-now}
use Rattle.contours.proofs.RowNext.{fields_of}
use Rattle.descent.specs.declared.Stand.{Stand}
use Rattle.shifts.specs.Shifts.{shared}
use Rattle.descent.specs.Descent.{owner_of}
use Rattle.descent.specs.Descent.{too_close, noted, worked}
use Rattle.families.specs.Joining.{columns_of, occurs}
use Rattle.descent.proofs.OwnerOf.{owner-child, owner-default}
use Rattle.shifts.proofs.Shared.{shared-length, shared-position, shared-field, shared-rest, shared-met, shared-grown}
use Rattle.families.proofs.Joining.{Joining, S, row, start_at, J, F, row-wide, spaced-row, small_n, apart, row_on, child-on, next_last, next_bound}
use Rattle.families.proofs.Contour.{Kept, Contour, stand_of, room, numbered, last-row_on, last_child-on, b-few, e-few, last-position, last_child-position}

-- the owner on one of the levels
owned_at : (ancestor : ℕ → ℤ) (f end default : ℕ) (us : List (List Dot)) (x : List Dot) (xs : List (List Dot)) → Owned ancestor f end default (us ++ (x ∷ xs))
    → (ancestor (last_of x).node ≡ pos (f + (last_of x).child)) ⊎ (Outside f end (ancestor (last_of x).node) × (default ≡ f + (last_of x).child))
owned_at ancestor f end default [] x xs o = o.0
owned_at ancestor f end default (u ∷ us) x xs o = owned_at ancestor f end default us x xs o.1

module _ {K : Joining} {now : List ℤ} {s : Stand} (C : Contour K now s) where
  open K use {t, D, f, c, end, default, before}

  abbrev W : Walking (J K) (F K) (fields_of (columns_of now)) (stand_of s C.k)
  W = C.walking

  abbrev old : Fields
  old = fields_of (columns_of now)

  -- by how much the child moves, and how far it has then been moved
  abbrev pub close : ℕ
  close = too_close now s

  abbrev pub moved : ℕ
  moved = C.k + close

  -- the child that is met, as the position of a sibling
  abbrev i : ℕ
  i = f + (last_of W.x).child

  -- the slice with the meeting gathered, and the one that is marked too
  abbrev mid : List ℤ
  mid = noted now s f c default close

  abbrev pub next : List ℤ
  next = worked now s f c default

  abbrev pub new : Fields
  new = fields_of (columns_of next)

  -- ---- which child is met

  pub met-before-c : i < c
  met-before-c =
      let tag : Dot → Type 0 = λ e. e.child < width (row K) in
      omega (
        arith,
        last_in tag W.x W.runs_row.3 (all_right (All tag) W.above-row (W.x ∷ W.xs) (subst (All (All tag)) W.row (spaced-row K).tags)).0,
        row-wide K,
        (S K).some,
      )

  same-ancestor : get now ANCESTOR (last_of W.x).node ≡ get before ANCESTOR (last_of W.x).node
  same-ancestor =
      ⊎_elim (λ e. e) (λ e. absurd (apart K (last_of W.x).node (row_on K (last_of W.x) _ (last-row_on C)) e.1))
      (C.kept.ancestor (last_of W.x).node)

  owner_found : owner_of (get now ANCESTOR (s.child - 1)) f c default ≡ i
  owner_found =
      ap (λ (z : ℤ). owner_of z f c default) (ap (get now ANCESTOR) (last-position C) ∙ same-ancestor)
      ∙ ⊎_elim (λ e. owner-child (get before ANCESTOR (last_of W.x).node) f (last_of W.x).child c default e met-before-c)
      (λ e. owner-default (get before ANCESTOR (last_of W.x).node) f end c default e.0 (omega (arith, K.joins.inside)) ∙ e.1)
      (owned_at (get before ANCESTOR) f end default W.above-row W.x W.xs (subst (Owned (get before ANCESTOR) f end default) W.row K.joins.rowed.row.owned))

  -- ---- the meeting

  -- nothing is gathered, or the amount is shared
  mid-cases : ((close ≡ 0) × (mid ≡ now)) ⊎ (mid ≡ shared now i c close)
  mid-cases =
      ⊎_elim (λ e. inl (e.0, ap (λ (m : ℕ). noted now s f c default m) e.0))
      (λ e.
      inr (ap (λ (b : Bool). cond b now (shared now (owner_of (get now ANCESTOR (s.child - 1)) f c default) c close)) (ne_eqb close 0 e.0)
      ∙ ap (λ (j : ℕ). shared now j c close) owner_found))
      (is-cases close 0)

  inside : 16 * nodes t ≤ length now
  inside = room C.kept

  -- what holds of the slice as it is, and where a meeting is gathered, holds
  mid_law : (P : List ℤ → Type 0) → P now → P (shared now i c close) → P mid
  mid_law P p q = ⊎_elim (λ e. subst P (sym e.1) p) (λ e. subst P (sym e) q) mid-cases

  mid-length : length mid ≡ length now
  mid-length = mid_law (λ l. length l ≡ length now) refl (shared-length now i c close)

  mid-field : (g p : ℕ) → g < SHIFT → get mid g p ≡ get now g p
  mid-field g p h = mid_law (λ l. get l g p ≡ get now g p) refl (shared-field now i c close g p h)

  mid-position : (g p : ℕ) → g < 16 → (p < i) ⊎ (c < p) → get mid g p ≡ get now g p
  mid-position g p h o = mid_law (λ l. get l g p ≡ get now g p) refl (shared-position now i c close met-before-c g p h o)

  mid-rest : drop (16 * nodes t) mid ≡ drop (16 * nodes t) now
  mid-rest = mid_law (λ l. drop (16 * nodes t) l ≡ drop (16 * nodes t) now) refl (shared-rest now i c close met-before-c (nodes t) (small_n K))

  mid-grown : (g p : ℕ) → SHIFT ≤ g → g ≤ CHANGE → nat_abs (get mid g p) ≤ nat_abs (get now g p) + close
  mid-grown g p l h =
      mid_law (λ w. nat_abs (get w g p) ≤ nat_abs (get now g p) + close) (omega arith)
      (shared-grown now i c close met-before-c (omega (arith, inside, small_n K)) g p l h)

  -- ---- the mark

  next_field : (g p : ℕ) → g < 16 → (g ≡ ANCESTOR → ⊥) → get next g p ≡ get mid g p
  next_field g p h a = put-field mid ANCESTOR (s.end - 1) (pos c) (omega arith) g p h a

  next-mark : get next ANCESTOR (last_of W.y).node ≡ pos c
  next-mark =
      ap (get next ANCESTOR) (sym (last_child-position C)) ∙ put_same mid ANCESTOR (s.end - 1) (pos c) (omega (arith, mid-length, inside, e-few C))

  next-others : (w : ℕ) → (w ≡ (last_of W.y).node → ⊥) → get next ANCESTOR w ≡ get now ANCESTOR w
  next-others w d =
      put-position mid ANCESTOR (s.end - 1) (pos c) (omega arith) ANCESTOR w (omega arith) (λ e. d (e ∙ last_child-position C))
      ∙ mid-field ANCESTOR w (omega arith)

  -- what the node at b needs from the one at b - 1
  pub need-now : get now NEED s.child ≡ pos (D.need (s.child - 1) s.child)
  need-now = needed-at (numbered C.kept) s.child (omega (arith, W.runs_row.0)) (b-few C)

  same-close : close ≡ amount W
  same-close =
      let d = D.need (s.child - 1) s.child in
      ap₂ (λ (y z : ℤ). above0 ((s.right +ℤ y) -ℤ (s.left +ℤ z))) need-now C.moved
      ∙ ap above0 (parts_eq ((s.right +ℤ pos d) -ℤ (s.left +ℤ pos C.k)) (pos d -ℤ ((s.left +ℤ pos C.k) -ℤ s.right))
      (omega (
        arith,
        parts_add s.right (pos d),
        parts_sub (s.right +ℤ pos d) (s.left +ℤ pos C.k),
        parts_sub (s.left +ℤ pos C.k) s.right,
        parts_sub (pos d) ((s.left +ℤ pos C.k) -ℤ s.right),
      )))

  pub moved_same : C.k + amount W ≡ moved
  moved_same = ap (λ (m : ℕ). C.k + m) (sym same-close)

  pub turned : Turned (J K) old new (owner W) (amount W) (last_of W.y).node
  turned =
      subst (λ (m : ℕ). Turned (J K) old new (last_of W.x).child m (last_of W.y).node) same-close
      (record {
        moves = ⊎_elim (λ e. inl (e.0, same-shift ∙ ap (λ (l : List ℤ). get l SHIFT) e.1, same-change ∙ ap (λ (l : List ℤ). get l CHANGE) e.1))
            (λ e. inr (subst₂ (λ (u v : ℕ → ℤ). Met old.shift old.change u v i c close)
            (sym (same-shift ∙ ap (λ (l : List ℤ). get l SHIFT) e)) (sym (same-change ∙ ap (λ (l : List ℤ). get l CHANGE) e))
            (shared-met now i c close met-before-c (omega (arith, inside, small_n K)))))
            mid-cases;
        mark = next-mark;
        others = next-others;
      })
    where
      same-shift : get next SHIFT ≡ get mid SHIFT
      same-shift = fun_ext (λ p. next_field SHIFT p (omega arith) (λ e. omega arith))

      same-change : get next CHANGE ≡ get mid CHANGE
      same-change = fun_ext (λ p. next_field CHANGE p (omega arith) (λ e. omega arith))

  -- the child ends before the widest row does
  pub moved_bound : start_at K + moved ≤ 2094592
  moved_bound =
      omega (
        arith,
        next_bound K,
        next_last K,
        ap total (whole-now W),
        total-append (met_now W) (rule.meet D.need (C.k + amount W) (right_contour W.xs) (left_contour W.ys)),
        moved-now W,
        moved_same,
      )

  -- ---- what stays

  pub kept_next : Kept K next moved
  kept_next =
      record {
        size = put-length mid ANCESTOR (s.end - 1) (pos c) ∙ mid-length ∙ C.kept.size;
        rest = put_rest mid ANCESTOR (s.end - 1) (pos c) (omega arith) (nodes t) (e-few C) ∙ mid-rest ∙ C.kept.rest;
        field = λ g p h. next_field g p (omega arith) (λ e. omega arith) ∙ mid-field g p (omega arith) ∙ C.kept.field g p h;
        still = λ g p l r q.
            next_field g p (omega arith) (λ e. omega arith)
            ∙ mid-position g p (omega arith) (⊎_elim (λ h. inl (omega (arith, h))) inr q)
            ∙ C.kept.still g p l r q;
        small = λ g p l r h q.
            omega (arith, ap nat_abs (next_field g p (omega arith) (λ e. omega arith)), mid-grown g p l r, C.kept.small g p l r h q);
        ancestor = λ z. ⊎_elim
            (λ e. inr (ap (get next ANCESTOR) e.0 ∙ next-mark, subst (λ (w : ℕ). 1 ≤ occurs t c (suc c) w) (sym e.0) (child-on K (last_of W.y) _ (last_child-on C))))
            (λ d. ⊎_elim (λ e. inl (next-others z d.0 ∙ e)) (λ e. inr (next-others z d.0 ∙ e.0, e.1)) (C.kept.ancestor z))
            (is-cases z (last_of W.y).node);
      }
