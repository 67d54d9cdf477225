-- The families from position p on are drawn: at the start, from one family to the one before it, and at the end. Assumes nothing.
use mathlib.Core.Path.{◌≡◌, refl, ◌∙◌, subst}
use mathlib.Core.Logic.{inl, inr, ⊎_elim}
use mathlib.Core.List.{List}
use Prim.Native.Nat.{ℕ, suc, ◌-◌, ◌*◌, ◌≤◌, ◌<◌}
use native.Mathlib.Nat.{le_refl, le_trans}
use native.Mathlib.Omega.{arith}
use lib.IntN.{ℤ, pos}
use lib.ListN.{length, drop}
use Rattle.rule.specs.Join.{Spacing}
use Rattle.tree.specs.Table.{nodes}
use Rattle.tree.specs.Forest.{tree_of}
use Rattle.tree.proofs.Counting.{below_or_not, from_more}
use Rattle.level_order.specs.LevelOrder.{first_at}
use Rattle.level_order.specs.Fields.{cell, get, put, FIRST, COUNT, PLACE, LEFT, RIGHT, ANCESTOR, SHIFT, CHANGE}
use Rattle.level_order.specs.Spaced.{table_of, apart_of}
use Rattle.level_order.specs.declared.spaced_tree.SpacedTree.{SpacedTree}
use Rattle.level_order.specs.Numbered.{Numbered, Fresh}
use Rattle.level_order.proofs.Fielded.{numbered-kept}
use Rattle.contours.specs.Rows.{Subtree}
use Rattle.descent.specs.Descent.{Reads, first_of_children, past_children}
use Rattle.families.specs.Joining.{spacing_of, Given}
use Rattle.families.specs.Families.{Ready, FamilyPlaced, FamilyDrawn, FamiliesFrom}
use Rattle.tree.proofs.Stands.{accepted-numbers}
use Rattle.level_order.proofs.InOrder.{ordered}
use Rattle.level_order.proofs.Positions.{Ordered, mono-le, within}
use Rattle.families.proofs.Children.{first_reads, count-reads, first-value, past_value}
use Rattle.families.proofs.Joining.{given_of}
use Rattle.level_order.proofs.Occurs.{times-apart}
use Rattle.contours.proofs.Kept.{subtree-kept, subtree-leaf}
use Rattle.contours.proofs.OffsetsAll.{offsets_all}
use Rattle.level_order.proofs.Cells.{put-length, put_same, put-field, put-position, put_rest}

-- the families of the positions from p on are drawn, and those before it are as the numbering left them
pub record DrawnFrom (t : List ℕ) (D : Spacing) (p : ℕ) (before work : List ℤ) : Type 0 where
  pub inside : p ≤ nodes t
  pub numbered : Numbered (tree_of t) D.need (nodes t) work
  pub gathered : (g q : ℕ) → SHIFT ≤ g → g ≤ CHANGE → q < first_at (tree_of t) p → get work g q ≡ pos 0
  pub own : (z : ℕ) → z < first_at (tree_of t) p → get work ANCESTOR z ≡ pos z
  pub below : (z : ℕ) → first_at (tree_of t) p ≤ z → z < nodes t → (k : ℕ) × (first_at (tree_of t) p ≤ k) × (get work ANCESTOR z ≡ pos k)
  pub subtrees : (q : ℕ) → p ≤ q → q < first_at (tree_of t) p → Subtree (first_at (tree_of t)) (nodes t) D q (get work LEFT) (get work RIGHT)
  pub placed : (r : ℕ) → p ≤ r → r < nodes t → FamilyPlaced t D work r
  pub numbering : (g q : ℕ) → g < PLACE → get work g q ≡ get before g q
  pub size : length work ≡ length before
  pub rest : drop (16 * nodes t) work ≡ drop (16 * nodes t) before

module _ (t : List ℕ) (D : Spacing) (O : Ordered (first_at (tree_of t)) (nodes t)) where
  abbrev first : ℕ → ℕ
  first = first_at (tree_of t)

  abbrev n : ℕ
  n = nodes t

  -- ---- at the start

  pub families_start : {before : List ℤ} → Numbered (tree_of t) D.need (nodes t) before → Fresh (nodes t) before → DrawnFrom t D (nodes t) before before
  families_start N F =
      record {
        inside = le_refl n;
        numbered = N;
        gathered = λ g q l r h. F.gathered g q l r (omega (arith, h, O.last));
        own = λ z h. F.ancestor z (omega (arith, h, O.last));
        below = λ z h k. absurd (omega (arith, h, k, O.last));
        subtrees = λ q h k. absurd (omega (arith, h, k, O.last));
        placed = λ r h k. absurd (omega (arith, h, k));
        numbering = λ g q h. refl;
        size = refl;
        rest = refl;
      }

  -- ---- one family more

  module _ {r : ℕ} {before work : List ℤ} (S : DrawnFrom t D (suc r) before work) where
    abbrev known : r < n
    known = S.inside

    abbrev up : first r ≤ first (suc r)
    up = O.mono r known

    abbrev after_self : r < first r
    after_self = O.later r known

    -- what the drawing of a family asks
    pub families_ready : first r < first (suc r) → Ready t D r work
    families_ready h =
        record {
          numbered = S.numbered;
          inside = known;
          some = h;
          subtrees = λ q l k. S.subtrees q (omega (arith, l, after_self)) k;
          gathered = λ g q a b l k. S.gathered g q a b k;
          own = S.own;
          below = S.below;
        }

    -- a position without children
    pub families_leaf : first (suc r) ≤ first r → DrawnFrom t D r before work
    families_leaf h =
        let same : first (suc r) ≡ first r = omega (arith, h, up) in
        record {
          inside = omega (arith, known);
          numbered = S.numbered;
          gathered = λ g q a b l. S.gathered g q a b (omega (arith, l, up));
          own = λ z l. S.own z (omega (arith, l, up));
          below = λ z l k.
              let b = S.below z (omega (arith, l, same)) k in
              (b.0, omega (arith, b.1, same), b.2);
          subtrees = from_more (λ q. q < first r → Subtree first n D q (get work LEFT) (get work RIGHT)) r
              (λ k. subtree-leaf first n O D r (get work LEFT) (get work RIGHT) h)
              (λ q l k. S.subtrees q l (omega (arith, k, up)));
          placed = from_more (λ p. p < n → FamilyPlaced t D work p) r (λ k q a b. absurd (omega (arith, a, b, h))) S.placed;
          numbering = S.numbering;
          size = S.size;
          rest = S.rest;
        }

    -- a position whose family has been drawn
    module _ {after : List ℤ} (F : FamilyDrawn t D r work after) where
      old-subtree : (q : ℕ) → suc r ≤ q → q < first r → Subtree first n D q (get after LEFT) (get after RIGHT)
      old-subtree q l k =
          subtree-kept first n O D q (omega (arith, k, within first n O r (omega (arith, known)))) (get work LEFT) (get work RIGHT) (get after LEFT) (get after RIGHT)
          (λ z h. F.steps LEFT z (omega arith) (omega arith) (times-apart first n O r q z known l k h))
          (λ z h. F.steps RIGHT z (omega arith) (omega arith) (times-apart first n O r q z known l k h))
          (S.subtrees q l (omega (arith, k, up)))

      old_below : (z : ℕ) → first r ≤ z → z < n → (k : ℕ) × (first r ≤ k) × (get work ANCESTOR z ≡ pos k)
      old_below z l k =
          ⊎_elim (λ s. (z, l, S.own z s.0))
          (λ s.
          let b = S.below z s.0 k in
          (b.0, le_trans up b.1, b.2))
          (below_or_not z (first (suc r)))

      now-below : (z : ℕ) → first r ≤ z → z < n → (k : ℕ) × (first r ≤ k) × (get after ANCESTOR z ≡ pos k)
      now-below z l k =
          ⊎_elim (λ s.
          let b = old_below z l k in
          (b.0, b.1, s ∙ b.2))
          (λ s. s)
          (F.ancestor-from z)

      old-placed : (p : ℕ) → suc r ≤ p → p < n → FamilyPlaced t D after p
      old-placed p l k q a b =
          F.place q (inr (le_trans (mono-le first n O (suc r) p l (omega (arith, k))) a)) ∙ S.placed p l k q a b

      pub families_turn : DrawnFrom t D r before after
      families_turn =
          record {
            inside = omega (arith, known);
            numbered = numbered-kept S.numbered after (omega (arith, F.size, S.numbered.size)) F.numbering;
            gathered = λ g q a b l. F.gathered g q a b (inl l) ∙ S.gathered g q a b (omega (arith, l, up));
            own = λ z l. F.ancestor-before z l ∙ S.own z (omega (arith, l, up));
            below = now-below;
            subtrees = from_more (λ q. q < first r → Subtree first n D q (get after LEFT) (get after RIGHT)) r (λ k. F.subtree) old-subtree;
            placed = from_more (λ p. p < n → FamilyPlaced t D after p) r (λ k. F.placed) old-placed;
            numbering = λ g q h. F.numbering g q h ∙ S.numbering g q h;
            size = F.size ∙ S.size;
            rest = F.rest ∙ S.rest;
          }

  -- ---- at the end

  -- the root's place is written when every family is drawn
  module _ (some : 0 < nodes t) {before work : List ℤ} (S : DrawnFrom t D 0 before work) where
    abbrev ended : List ℤ
    ended = put work PLACE 0 (pos 0)

    root-place : get ended PLACE 0 ≡ pos 0
    root-place = put_same work PLACE 0 (pos 0) (omega (arith, some, S.numbered.size))

    families_placed : (r : ℕ) → r < n → FamilyPlaced t D ended r
    families_placed r h q a b =
        let later : q ≡ 0 → ⊥ = λ e. omega (arith, e, a, O.later r h) in
        put-position work PLACE 0 (pos 0) (omega arith) PLACE q (omega arith) later ∙ S.placed r (omega arith) h q a b

    pub families_end : FamiliesFrom t D before ended
    families_end =
        record {
          placed = offsets_all first n O D (get ended PLACE) families_placed some root-place;
          numbering = λ g p h. put-field work PLACE 0 (pos 0) (omega arith) g p (omega arith) (λ e. omega arith) ∙ S.numbering g p h;
          size = put-length work PLACE 0 (pos 0) ∙ S.size;
          rest = put_rest work PLACE 0 (pos 0) (omega arith) n some ∙ S.rest;
        }

-- ---- a turn of the loop, which draws the family of the position before p

module _ (s : SpacedTree) where
  abbrev G : Given (table_of s) (spacing_of s)
  G = given_of s

  abbrev in_order : Ordered (first_at (tree_of (table_of s))) (nodes (table_of s))
  in_order = ordered (table_of s) G.accepted

  pub loop-start : {before : List ℤ} → Numbered (tree_of (table_of s)) (apart_of s) (nodes (table_of s)) before → Fresh (nodes (table_of s)) before
      → DrawnFrom (table_of s) (spacing_of s) (nodes (table_of s)) before before
  loop-start = families_start (table_of s) (spacing_of s) in_order

  pub loop-end : {p : ℕ} {before work after : List ℤ} → DrawnFrom (table_of s) (spacing_of s) p before work → p ≤ 0 → after ≡ put work PLACE 0 (pos 0)
      → FamiliesFrom (table_of s) (spacing_of s) before after
  loop-end {p} {before} {work} S done e =
      let none : p ≡ 0 = omega arith in
      rw e (families_end (table_of s) (spacing_of s) in_order (accepted-numbers (table_of s) G.accepted).some (rw none at S))

  pub root-inside : {p : ℕ} {before work : List ℤ} → DrawnFrom (table_of s) (spacing_of s) p before work → cell 0 PLACE < length work
  root-inside S = omega (arith, S.numbered.size, (accepted-numbers (table_of s) G.accepted).some)

  module _ {p : ℕ} {before work : List ℤ} (S : DrawnFrom (table_of s) (spacing_of s) p before work) (some : 0 < p) where
    from-next : DrawnFrom (table_of s) (spacing_of s) (suc (p - 1)) before work
    from-next =
        let e : p ≡ suc (p - 1) = omega arith in
        subst (λ (k : ℕ). DrawnFrom (table_of s) (spacing_of s) k before work) e S

    pub first-read : Reads work FIRST (p - 1)
    first-read = first_reads (table_of s) G.accepted S.numbered (p - 1) from-next.inside

    pub count-read : Reads work COUNT (p - 1)
    count-read = count-reads (table_of s) G.accepted S.numbered (p - 1) from-next.inside

    -- x and y are the first child's position and the one past the last
    module _ {x y : ℕ} (ex : x ≡ first_of_children work (p - 1)) (ey : y ≡ past_children work (p - 1)) where
      is-first : x ≡ first_at (tree_of (table_of s)) (p - 1)
      is-first = ex ∙ first-value (table_of s) G.accepted S.numbered (p - 1) from-next.inside

      is_past : y ≡ first_at (tree_of (table_of s)) (suc (p - 1))
      is_past = ey ∙ past_value (table_of s) G.accepted S.numbered (p - 1) from-next.inside

      pub turn-ready : x < y → Ready (table_of s) (spacing_of s) (p - 1) work
      turn-ready h = families_ready (table_of s) (spacing_of s) in_order from-next (rw (← is-first, ← is_past) h)

      pub turn-leaf : y ≤ x → DrawnFrom (table_of s) (spacing_of s) (p - 1) before work
      turn-leaf h = families_leaf (table_of s) (spacing_of s) in_order from-next (rw (← is-first, ← is_past) h)

    pub turn-drawn : {after : List ℤ} → FamilyDrawn (table_of s) (spacing_of s) (p - 1) work after → DrawnFrom (table_of s) (spacing_of s) (p - 1) before after
    turn-drawn = families_turn (table_of s) (spacing_of s) in_order from-next
