-- A drawing within a drawing: what is drawn below a node stays as it was drawn, and its dots stand on the levels below that node, moved as
-- one piece. Assumes nothing.
use mathlib.Core.Path.{◌≡◌, refl, sym, ap, ap₂, ◌∙◌, subst}
use mathlib.Core.List.Memᴰ
use mathlib.Core.List.{List, [], ◌∷◌}
use Prim.Native.Nat.{ℕ, suc, ◌+◌}
use native.Mathlib.Nat.{zero-add, suc-add}
use native.Mathlib.Omega.{arith}
use lib.IntN.{ℤ, pos, ◌+ℤ◌, ◌-ℤ◌}
use Rattle.tree.specs.Forest.{Forest, nil, node}
use Rattle.tree.proofs.Parts.{Part, whole, in_children, in_siblings}
use Rattle.tree.specs.Levels.{Pair}
use Rattle.tree.specs.Shape.{corresponding}
use Rattle.tree.proofs.Counting.{All, all_append, all-weaken}
use Rattle.rule.proofs.Signed.{parts_add, parts_sub, parts_eq}
use Rattle.rule.proofs.Names.{names}
use Rattle.rule.proofs.OnLevel.{OnLevel, top, down, on-left, on-right}
use Rattle.rule.proofs.Shapes.{rename_drawing, rename-middle}
use Rattle.rule.specs.Drawing.{Drawing, none, at, width, append, first_place, middle, Dot, dot, dots}
use Rattle.rule.specs.Join.{Spacing, Meeting, spread, alone, join, meetings, settled}
use Rattle.rule.specs.Rule.{draw_onto, draw}

-- ---- the drawing below node v is b

pub data Has (v : ℕ) (b : Drawing) : Drawing → Type 0 where
  here : {x : ℕ} {after : Drawing} → Has v b (at v x b after)
  below : {u x : ℕ} {d after : Drawing} → Has v b d → Has v b (at u x d after)
  beyond : {u x : ℕ} {d after : Drawing} → Has v b after → Has v b (at u x d after)

has_spread : {v : ℕ} {b : Drawing} (j : ℕ) (ms : List Meeting) (p : ℕ) {d : Drawing} → Has v b d → Has v b (spread j ms p d)
has_spread j ms p here = here
has_spread j ms p (below h) = below h
has_spread j ms p (beyond h) = beyond (has_spread j ms (p + 1) h)

has_left : {v : ℕ} {b d : Drawing} (e : Drawing) → Has v b d → Has v b (append d e)
has_left e here = here
has_left e (below h) = below h
has_left e (beyond h) = beyond (has_left e h)

has_right : {v : ℕ} {b e : Drawing} (d : Drawing) → Has v b e → Has v b (append d e)
has_right none h = h
has_right (at u x under after) h = beyond (has_right after h)

has_draw_onto : (D : Spacing) {v : ℕ} {b row : Drawing} (f : Forest) → Has v b row → Has v b (draw_onto D row f)
has_draw_onto D nil h = h
has_draw_onto D {row = row} (node u f g) h =
    has_draw_onto D {row = join D row u (draw_onto D none f)} g (has_left (alone u (settled D row u (draw_onto D none f)) (draw_onto D none f))
    (has_spread (width row) (meetings D.need row u (draw_onto D none f)) 0 h))

-- what is drawn below a node of a forest is the drawing of the node's children
pub has_draw : (D : Spacing) {v : ℕ} {a b : Forest} (row : Drawing) {f : Forest} → Part (node v a b) f → Has v (draw D a) (draw_onto D row f)
has_draw D {v} {a} {b} row whole =
    has_draw_onto D b (has_right (spread (width row) (meetings D.need row v (draw D a)) 0 row) here)
has_draw D {v} {a} row (in_children {v = u} {f = f} {h = g} p) =
    has_draw_onto D g (has_right (spread (width row) (meetings D.need row u (draw D f)) 0 row) (below (has_draw D none p)))
has_draw D row (in_siblings {v = u} {f = f} {h = g} p) = has_draw D (join D row u (draw D f)) p

-- node v stands at place x on level l, and what is drawn below it stands on the levels below, its count starting at x less the middle
pub record Stands (i v : ℕ) (b : Drawing) (ls : List (List Dot)) : Type 0 where
  pub level : ℕ
  pub place : ℤ
  pub root : OnLevel (dot i v place) level ls
  pub under : (e : Dot) (r : ℕ) → OnLevel e r (dots i (place -ℤ pos (middle b)) b) → OnLevel e (suc (level + r)) ls

pub has_stands : (i : ℕ) {v : ℕ} {b : Drawing} (o : ℤ) {d : Drawing} → Has v b d → Stands i v b (dots i o d)
has_stands i {v} {b} o (here {x = x} {after = after}) =
    record {
      level = 0;
      place = o +ℤ pos x;
      root = on-left (dots i o after) (top (Memᴰ.head refl));
      under = λ e r h. subst (λ (k : ℕ). OnLevel e (suc k) (dots i o (at v x b after))) (sym (zero-add r)) (on-left (dots i o after) (down h));
    }
has_stands i {v} {b} o (below {u = u} {x = x} {d = d} {after = after} h) =
    let S = has_stands i (o +ℤ pos x -ℤ pos (middle d)) h in
    record {
      level = suc S.level;
      place = S.place;
      root = on-left (dots i o after) (down S.root);
      under = λ e r k. subst (λ (n : ℕ). OnLevel e (suc n) (dots i o (at u x d after))) (sym (suc-add S.level r)) (on-left (dots i o after) (down (S.under e r k)));
    }
has_stands i o (beyond {u = u} {x = x} {d = d} {after = after} h) =
    let S = has_stands i o h in
    record {
      level = S.level;
      place = S.place;
      root = on-right ((dot i u (o +ℤ pos x) ∷ []) ∷ dots i (o +ℤ pos x -ℤ pos (middle d)) d) S.root;
      under = λ e r k. on-right ((dot i u (o +ℤ pos x) ∷ []) ∷ dots i (o +ℤ pos x -ℤ pos (middle d)) d) (S.under e r k);
    }

-- ---- drawings that are alike

-- the same but for the numbers
abbrev pub Alike : Drawing → Drawing → Type 0
Alike none none = Unit {0}
Alike none (at w y b' a') = ⊥
Alike (at v x b a) none = ⊥
Alike (at v x b a) (at w y b' a') = (x ≡ y) × (middle b ≡ middle b') × Alike b b' × Alike a a'

pub renamed-alike : (g h : ℕ → ℕ) (d e : Drawing) → rename_drawing g d ≡ rename_drawing h e → Alike d e
renamed-alike g h none none p = tt
renamed-alike g h none (at w y b' a') p = absurd (omega (arith, ap width p))
renamed-alike g h (at v x b a) none p = absurd (omega (arith, ap width p))
renamed-alike g h (at v x b a) (at w y b' a') p = (
  ap first_place p,
  sym (rename-middle g b) ∙ ap (λ (d : Drawing). middle (below_of d)) p ∙ rename-middle h b',
  renamed-alike g h b b' (ap below_of p),
  renamed-alike g h a a' (ap after_of p),
)
  where
    below_of : Drawing → Drawing
    below_of none = none
    below_of (at v x b a) = b

    after_of : Drawing → Drawing
    after_of none = none
    after_of (at v x b a) = a

-- two nodes stand on the same level r, at one distance x from where their rows' counts start
pub record Match (i j : ℕ) (o q : ℤ) (ls ks : List (List Dot)) (p : Pair) : Type 0 where
  pub level : ℕ
  pub distance : ℤ
  pub left : OnLevel (dot i p.0 (o +ℤ distance)) level ls
  pub right : OnLevel (dot j p.1 (q +ℤ distance)) level ks

regroup : (o x m d : ℤ) → ((o +ℤ x) -ℤ m) +ℤ d ≡ o +ℤ ((x -ℤ m) +ℤ d)
regroup o x m d =
    parts_eq (((o +ℤ x) -ℤ m) +ℤ d) (o +ℤ ((x -ℤ m) +ℤ d))
    (omega (arith, parts_add o x, parts_sub (o +ℤ x) m, parts_add ((o +ℤ x) -ℤ m) d, parts_sub x m, parts_add (x -ℤ m) d, parts_add o ((x -ℤ m) +ℤ d)))

-- corresponding nodes of drawings that are alike
pub alike_match : (i j : ℕ) (o q : ℤ) (d e : Drawing) → Alike d e → All (Match i j o q (dots i o d) (dots j q e)) (corresponding (names d) (names e))
alike_match i j o q none e a = tt
alike_match i j o q (at v x b c) none a = tt
alike_match i j o q (at v x b c) (at w y b' c') a = (
  record {
    level = 0;
    distance = pos x;
    left = on-left (dots i o c) (top (Memᴰ.head refl));
    right = on-left (dots j q c') (top (Memᴰ.head (ap (λ (z : ℕ). dot j w (q +ℤ pos z)) a.0)));
  },
  all_append (Match i j o q (dots i o (at v x b c)) (dots j q (at w y b' c'))) (corresponding (names b) (names b')) (corresponding (names c) (names c'))
      (all-weaken (Match i j (o +ℤ pos x -ℤ pos (middle b)) (q +ℤ pos y -ℤ pos (middle b')) (dots i (o +ℤ pos x -ℤ pos (middle b)) b) (dots j (q +ℤ pos y -ℤ pos (middle b')) b'))
      (Match i j o q (dots i o (at v x b c)) (dots j q (at w y b' c'))) lower (corresponding (names b) (names b'))
      (alike_match i j (o +ℤ pos x -ℤ pos (middle b)) (q +ℤ pos y -ℤ pos (middle b')) b b' a.2))
      (all-weaken (Match i j o q (dots i o c) (dots j q c')) (Match i j o q (dots i o (at v x b c)) (dots j q (at w y b' c'))) aside (corresponding (names c) (names c'))
      (alike_match i j o q c c' a.3)),
)
  where
    lower : (p : Pair) → Match i j (o +ℤ pos x -ℤ pos (middle b)) (q +ℤ pos y -ℤ pos (middle b')) (dots i (o +ℤ pos x -ℤ pos (middle b)) b) (dots j (q +ℤ pos y -ℤ pos (middle b')) b') p
        → Match i j o q (dots i o (at v x b c)) (dots j q (at w y b' c')) p
    lower p M =
        record {
          level = suc M.level;
          distance = (pos x -ℤ pos (middle b)) +ℤ M.distance;
          left = subst (λ (z : ℤ). OnLevel (dot i p.0 z) (suc M.level) (dots i o (at v x b c))) (regroup o (pos x) (pos (middle b)) M.distance)
              (on-left (dots i o c) (down M.left));
          right = subst (λ (z : ℤ). OnLevel (dot j p.1 z) (suc M.level) (dots j q (at w y b' c')))
              (regroup q (pos y) (pos (middle b')) M.distance
              ∙ ap₂ (λ (s t : ℕ). q +ℤ ((pos s -ℤ pos t) +ℤ M.distance)) (sym a.0) (sym a.1))
              (on-left (dots j q c') (down M.right));
        }

    aside : (p : Pair) → Match i j o q (dots i o c) (dots j q c') p → Match i j o q (dots i o (at v x b c)) (dots j q (at w y b' c')) p
    aside p M =
        record {
          level = M.level;
          distance = M.distance;
          left = on-right ((dot i v (o +ℤ pos x) ∷ []) ∷ dots i (o +ℤ pos x -ℤ pos (middle b)) b) M.left;
          right = on-right ((dot j w (q +ℤ pos y) ∷ []) ∷ dots j (q +ℤ pos y -ℤ pos (middle b')) b') M.right;
        }
