-- The end of a family: all its children are joined, so the gathered moves can be carried out, and after them the family is drawn. Assumes nothing.
use mathlib.Core.Path.{◌≡◌, sym, ap, ap₂, ◌∙◌}
use mathlib.Core.Logic.{◌⊎◌, inl, inr, ⊎_elim}
use mathlib.Core.List.{List}
use Prim.Native.Nat.{ℕ, suc, ◌+◌, ◌-◌, ◌*◌, ◌/◌, ◌≤◌, ◌<◌}
use native.Mathlib.Nat.{le_refl}
use native.Mathlib.Omega.{arith}
use lib.IntN.{ℤ, pos, negsuc, ◌+ℤ◌, ◌-ℤ◌, nat_abs}
use lib.ListN.{length, drop}
use Rattle.rule.specs.Join.{Spacing}
use Rattle.tree.specs.Numbers.{is}
use Rattle.tree.specs.Table.{nodes}
use Rattle.tree.proofs.Counting.{is_same}
use Rattle.tree.proofs.Followed.{accepted-linked}
use Rattle.rule.specs.Drawing.{Drawing, width, place_at, first_place, last_place, middle}
use Rattle.rule.specs.Join.{above0}
use Rattle.rule.proofs.Signed.{below0, parts_add}
use Rattle.level_order.specs.Fields.{get, put, PLACE, LEFT, RIGHT, ANCESTOR, SHIFT, CHANGE}
use Rattle.contours.specs.Gather.{pending}
use Rattle.shifts.specs.Shifts.{half, Bounded, Executed}
use Rattle.contours.specs.Rows.{Subtree, row_drawn}
use Rattle.families.specs.Joining.{Given, occurs}
use Rattle.families.specs.Families.{Ready, AllJoined, FamilyDrawn}
use Rattle.level_order.proofs.Cells.{put-length, put_same, put-field, put-position, put_rest}
use Rattle.level_order.proofs.Positions.{run}
use Rattle.contours.proofs.Places.{first_place_lem, last_place_lem, row_first, row-width}
use Rattle.contours.proofs.Bounds.{row_bound, place_bound}
use Rattle.level_order.proofs.Occurs.{times-root, times-from}
use Rattle.contours.proofs.Kept.{left-kept, right_kept}
use Rattle.families.proofs.FamilyStart.{first, f, end, O, work, later, fits, f-inside, one_level, other}

-- a move from one place to another is no longer than both
move_bound : (z : ℤ) (k a b : ℕ) → pos k +ℤ z ≡ pos a → k ≤ b → a ≤ b → nat_abs z ≤ b
move_bound (pos m) k a b e h l = omega (arith, ap above0 e, ap below0 e, parts_add (pos k) (pos m))
move_bound (negsuc m) k a b e h l = omega (arith, ap above0 e, ap below0 e, parts_add (pos k) (negsuc m))

middle-half : (d : Drawing) → first_place d ≡ 0 → middle d ≡ last_place d / 2
middle-half d e =
    let less : last_place d - 0 ≡ last_place d = omega arith in
    ap (λ (x : ℕ). x + (last_place d - x) / 2) e ∙ plain ((last_place d - 0) / 2) ∙ ap (λ (x : ℕ). x / 2) less
  where
    plain : (x : ℕ) → 0 + x ≡ x
    plain x = omega arith

module _ {t : List ℕ} {D : Spacing} {p : ℕ} {before : List ℤ} (G : Given t D) (R : Ready t D p before) where
  abbrev F : ℕ
  F = f G R

  abbrev E : ℕ
  E = end G R

  abbrev N : ℕ
  N = nodes t

  abbrev row : Drawing
  row = row_drawn (first G R) N D F E

  few : N ≤ 1024
  few = (accepted-linked t G.accepted).few

  wide : width row ≡ suc (E - suc F)
  wide =
      row-width (first G R) N (O G R) D (suc (E - suc F)) F E (omega (arith, R.some)) (fits G R)

  starts : place_at row 0 ≡ 0
  starts =
      row_first (first G R) N (O G R) D (E - suc F) F E (omega (arith, R.some)) (fits G R)

  ends : last_place row ≡ place_at row (E - 1 - F)
  ends =
      let same : E - suc F ≡ E - 1 - F = omega arith in
      last_place_lem row (E - suc F) wide ∙ ap (place_at row) same

  last_bound : last_place row ≤ 2094592
  last_bound =
      row_bound (first G R) N (O G R) D few G.high G.little F E R.some (fits G R) (one_level G R)

  each_bound : (q : ℕ) → F ≤ q → q < E → place_at row (q - F) ≤ 2094592
  each_bound q h k =
      place_bound (first G R) N (O G R) D few G.high G.little F E R.some (fits G R) (one_level G R)
      (q - F) (omega arith)

  module _ (mid : List ℤ) (A : AllJoined t D F E (work G R) mid) where
    pub joined-few : E ≤ 1024
    joined-few = omega (arith, fits G R, few)

    -- what the pass reads is small
    pub joined-bounded : Bounded F E mid
    joined-bounded =
        record {
          places = λ q h k.
              let r = A.rowed.stood q h k in
              omega (arith, ap nat_abs r.2, r.1, last_bound);
          shifts = λ q h k. omega (arith, A.rowed.small SHIFT q (omega arith) (omega arith) h k, last_bound);
          changes = λ q h k. omega (arith, A.rowed.small CHANGE q (omega arith) (omega arith) h k, last_bound);
          moves = λ q h k.
              let r = A.rowed.stood q h k in
              move_bound (pending (get mid SHIFT) (get mid CHANGE) E q) r.0 (place_at row (q - F)) 2094592
              (ap (λ (z : ℤ). z +ℤ pending (get mid SHIFT) (get mid CHANGE) E q) (sym r.2) ∙ A.rowed.row.places q h k)
              (omega (arith, r.1, last_bound)) (omega (arith, each_bound q h k));
        }

    module _ (moved : List ℤ) (X : Executed F E mid moved) where
      centre : half mid E ≡ middle row
      centre =
          ap (λ (z : ℤ). above0 z / 2) (A.rowed.row.settled (E - 1) (omega (arith, R.some)))
          ∙ ap (λ (x : ℕ). x / 2) (sym ends)
          ∙ sym (middle-half row (first_place_lem row ∙ starts))

      placed : (q : ℕ) → F ≤ q → q < E → get moved PLACE q ≡ pos (place_at row (q - F)) -ℤ pos (middle row)
      placed q h k = X.place q h k ∙ ap₂ (λ (z : ℤ) (m : ℕ). z -ℤ pos m) (A.rowed.row.places q h k) centre

      abbrev stored : List ℤ
      stored = put moved LEFT p (get moved PLACE F)

      module _ (after : List ℤ) (final : after ≡ put stored RIGHT p (get stored PLACE (E - 1))) where
        long : 16 * N ≤ length moved
        long = omega (arith, A.rowed.numbered.size, X.size)

        -- a field that is not written at the end
        kept : (k q : ℕ) → k < 16 → (k ≡ LEFT → ⊥) → (k ≡ RIGHT → ⊥) → get after k q ≡ get moved k q
        kept k q h d e =
            ap (λ (w : List ℤ). get w k q) final
            ∙ put-field stored RIGHT p (get stored PLACE (E - 1)) (omega arith) k q h e
            ∙ put-field moved LEFT p (get moved PLACE F) (omega arith) k q h d

        -- a position that is not written at the end
        kept_at : (k q : ℕ) → k < 16 → (q ≡ p → ⊥) → get after k q ≡ get moved k q
        kept_at k q h d =
            ap (λ (w : List ℤ). get w k q) final
            ∙ put-position stored RIGHT p (get stored PLACE (E - 1)) (omega arith) k q h d
            ∙ put-position moved LEFT p (get moved PLACE F) (omega arith) k q h d

        -- a field that only the joins write
        free : (k q : ℕ) → k < 16 → (k < PLACE) ⊎ (RIGHT < k) → get after k q ≡ get mid k q
        free k q h d =
            kept k q h (λ e. ⊎_elim (λ s. omega (arith, s, e)) (λ s. omega (arith, s, e)) d) (λ e. ⊎_elim (λ s. omega (arith, s, e)) (λ s. omega (arith, s, e)) d)
            ∙ X.field k q h (λ e. ⊎_elim (λ s. omega (arith, s, e)) (λ s. omega (arith, s, e)) d)

        plain : (k q : ℕ) → k < 16 → (k ≡ PLACE → ⊥) → get (work G R) k q ≡ get before k q
        plain k q h d = other G R k q h d

        -- a field that the joins leave as it was
        same-field : (k q : ℕ) → k < 16 → (k < PLACE) ⊎ (RIGHT < k) → get mid k q ≡ get (work G R) k q → get after k q ≡ get before k q
        same-field k q h d e = free k q h d ∙ e ∙ plain k q h (λ x. ⊎_elim (λ s. omega (arith, s, x)) (λ s. omega (arith, s, x)) d)

        at_left : get after LEFT p ≡ get moved PLACE F
        at_left =
            ap (λ (w : List ℤ). get w LEFT p) final
            ∙ put-field stored RIGHT p (get stored PLACE (E - 1)) (omega arith) LEFT p (omega arith) (λ e. omega (arith, e))
            ∙ put_same moved LEFT p (get moved PLACE F) (omega (arith, long, R.inside))

        at_right : get after RIGHT p ≡ get moved PLACE (E - 1)
        at_right =
            ap (λ (w : List ℤ). get w RIGHT p) final
            ∙ put_same stored RIGHT p (get stored PLACE (E - 1)) (omega (arith, long, R.inside, put-length moved LEFT p (get moved PLACE F)))
            ∙ put-field moved LEFT p (get moved PLACE F) (omega arith) PLACE (E - 1) (omega arith) (λ e. omega (arith, e))

        -- the nodes of the row come after p
        past : (z : ℕ) → 1 ≤ occurs t F E z → F ≤ z
        past z s =
            times-from (first G R) N (O G R) F E z (omega (arith, R.some)) (one_level G R)
            (omega (arith, f-inside G R)) s

        whole : (z : ℕ) → occurs t p (suc p) z ≡ is z p + occurs t F E z
        whole z = times-root (first G R) N (O G R) p z R.inside

        row-steps : (g z : ℕ) → LEFT ≤ g → g ≤ RIGHT → 1 ≤ occurs t F E z → get after g z ≡ get mid g z
        row-steps g z l r s =
            kept_at g z (omega arith) (λ e. omega (arith, e, past z s, later G R)) ∙ X.field g z (omega arith) (λ e. omega (arith, e))

        subtree : Subtree (first G R) N D p (get after LEFT) (get after RIGHT)
        subtree =
            let tree = run (first G R) N F E in
            let zero-at : F - F ≡ 0 = omega arith in
            record {
              left-row = left-kept D tree (get mid LEFT) (get after LEFT) (λ z. row-steps LEFT z (omega arith) (omega arith)) A.rowed.row.left-steps;
              right-row = right_kept D tree (get mid RIGHT) (get after RIGHT) (λ z. row-steps RIGHT z (omega arith) (omega arith)) A.rowed.row.right-steps;
              left-root = λ h.
                  at_left
                  ∙ placed F (le_refl F) R.some
                  ∙ ap (λ (x : ℕ). pos x -ℤ pos (middle row)) (ap (place_at row) zero-at ∙ sym (first_place_lem row));
              right-root = λ h.
                  at_right
                  ∙ placed (E - 1) (omega (arith, R.some)) (omega (arith, R.some))
                  ∙ ap (λ (x : ℕ). pos x -ℤ pos (middle row)) (sym ends);
            }

        not_root : (z : ℕ) → occurs t p (suc p) z ≡ 0 → z ≡ p → ⊥
        not_root z h e = omega (arith, whole z, is_same z p e)

        not-below : (z : ℕ) → occurs t p (suc p) z ≡ 0 → occurs t F E z ≡ 0
        not-below z h = omega (arith, whole z)

        outside : (q : ℕ) → (q < F) ⊎ (E ≤ q) → get after PLACE q ≡ get before PLACE q
        outside q h =
            kept PLACE q (omega arith) (λ e. omega (arith, e)) (λ e. omega (arith, e))
            ∙ ⊎_elim (λ s. X.left PLACE q (omega arith) s) (λ s. X.right PLACE q (omega arith) s) h
            ∙ A.through.place q h
            ∙ put-position before PLACE F (pos 0) (omega arith) PLACE q (omega arith)
            (λ e. ⊎_elim (λ s. omega (arith, s, e)) (λ s. omega (arith, s, e, R.some)) h)

        ancestor : (z : ℕ) → (get after ANCESTOR z ≡ get before ANCESTOR z) ⊎ ((k : ℕ) × (F ≤ k) × (get after ANCESTOR z ≡ pos k) × (F ≤ z))
        ancestor z =
            let e = free ANCESTOR z (omega arith) (inr (omega arith)) in
            ⊎_elim (λ s. inl (e ∙ s ∙ plain ANCESTOR z (omega arith) (λ e. omega (arith, e)))) (λ s. inr (s.0, s.1, e ∙ s.2, past z s.3)) (A.through.ancestor z)

        pub family-drawn : FamilyDrawn t D p before after
        family-drawn =
            record {
              subtree = subtree;
              placed = λ q h k. kept PLACE q (omega arith) (λ e. omega (arith, e)) (λ e. omega (arith, e)) ∙ placed q h k;
              size = ap length final
                  ∙ put-length stored RIGHT p (get stored PLACE (E - 1))
                  ∙ put-length moved LEFT p (get moved PLACE F)
                  ∙ X.size
                  ∙ A.through.size
                  ∙ put-length before PLACE F (pos 0);
              rest = ap (drop (16 * N)) final
                  ∙ put_rest stored RIGHT p (get stored PLACE (E - 1)) (omega arith) N R.inside
                  ∙ put_rest moved LEFT p (get moved PLACE F) (omega arith) N R.inside
                  ∙ X.rest N (fits G R)
                  ∙ A.through.rest
                  ∙ put_rest before PLACE F (pos 0) (omega arith) N (f-inside G R);
              numbering = λ g q h. same-field g q (omega arith) (inl h) (A.through.numbering g q h);
              place = outside;
              steps = λ g z l r h.
                  kept_at g z (omega arith) (not_root z h)
                  ∙ X.field g z (omega arith) (λ e. omega (arith, e))
                  ∙ A.through.steps g z l r (not-below z h)
                  ∙ plain g z (omega arith) (λ e. omega (arith, e));
              ancestor-before = λ z h. ⊎_elim (λ s. s) (λ s. absurd (omega (arith, s.3, h))) (ancestor z);
              ancestor-from = λ z. ⊎_elim (λ s. inl s) (λ s. inr (s.0, s.1, s.2)) (ancestor z);
              gathered = λ g q l r h. same-field g q (omega arith) (inr (omega arith)) (A.through.gathered g q l r h);
            }
