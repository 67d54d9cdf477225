-- Each level keeps tree order: of every two neighbours the right one stands at least the distance that they need further right. Assumes nothing.
use mathlib.Core.Path.{◌≡◌, refl, sym, ap, ◌∙◌, subst₂}
use mathlib.Core.List.{List, [], ◌∷◌, ◌++◌, map}
use Prim.Native.Nat.{ℕ, suc, ◌+◌, ◌≤◌, ◌<◌}
use native.Mathlib.Nat.{le_trans, le_refl}
use native.Mathlib.Omega.{arith}
use lib.IntN.{ℤ, pos, ◌+ℤ◌, ◌-ℤ◌}
use Rattle.distance.specs.Needed.{Distance}
use Rattle.tree.specs.Forest.{Forest, nil, node}
use Rattle.tree.specs.Levels.{beside}
use Rattle.tree.proofs.Counting.{All, all_append, all-weaken, all_map}
use Rattle.tree.proofs.Joined.{Some, some, beside-some}
use Rattle.rule.specs.Drawing.{Drawing, none, width, middle, Dot, dot, dots, row_dots, first_of, last_of, left_contour, right_contour}
use Rattle.rule.specs.Join.{Spacing, Meeting, meet, shares, total, added, movement, start, alone, join, meetings}
use Rattle.rule.specs.Rule.{draw_onto}
use Rattle.rule.proofs.Signed.{parts_add, AtMost}
use Rattle.rule.proofs.Moving.{shift_by, move_by, settle, row_dots-join, dots-row, width-join}
use Rattle.rule.proofs.Shares.{shares-mono}
use Rattle.rule.proofs.LevelEnds.{last_in, first_in, last-append, last-map, first-map}
use Rattle.rule.proofs.Walk.{Falling, Seams, Walking, walk-seams}

-- ---- levels whose dots keep their distance

-- e stands right of d by what the two need or more, and belongs to the same child or a later one
pub record Gap (D : Distance) (d e : Dot) : Type 0 where
  pub apart : AtMost (d.place +ℤ pos (D d.node e.node)) e.place
  pub order : d.child ≤ e.child

abbrev pub Spaced : Distance → List Dot → Type 0
Spaced D [] = Unit {0}
Spaced D (d ∷ []) = Unit {0}
Spaced D (d ∷ e ∷ l) = Gap D d e × Spaced D (e ∷ l)

pub spaced-append : (D : Distance) (l m : List Dot) → Spaced D l → Spaced D m → Some l → Some m → Gap D (last_of l) (first_of m) → Spaced D (l ++ m)
spaced-append D [] m s t sl sm g = elim sl [ ]
spaced-append D (d ∷ []) [] s t sl sm g = elim sm [ ]
spaced-append D (d ∷ []) (f ∷ m) s t sl sm g = (g, t)
spaced-append D (d ∷ e ∷ l) m s t sl sm g = (s.0, spaced-append D (e ∷ l) m s.1 t some sm g)

-- two dots that move, the right one at least as far
gap_moved : {D : Distance} {d e : Dot} (a b : ℤ) (i k : ℕ) → AtMost a b → i ≤ k → Gap D d e
    → Gap D (dot i d.node (d.place +ℤ a)) (dot k e.node (e.place +ℤ b))
gap_moved {D} {d} {e} a b i k further order g =
    record {
      apart = let n = D d.node e.node in omega (arith, parts_add d.place (pos n), parts_add d.place a, parts_add (d.place +ℤ a) (pos n), parts_add e.place b);
      order = order;
    }

-- ---- levels of a row of j children

pub record Row (D : Distance) (j : ℕ) (xs : List (List Dot)) : Type 0 where
  pub some : All Some xs
  pub spaced : All (Spaced D) xs
  pub falling : Falling j xs
  pub tags : All (All (λ e. e.child < j)) xs

-- levels of one child, with the number j
pub record Child (D : Distance) (j : ℕ) (ys : List (List Dot)) : Type 0 where
  pub some : All Some ys
  pub spaced : All (Spaced D) ys
  pub tags : All (All (λ e. e.child ≡ j)) ys

-- the row's last dot keeps its distance from the child's first on each level that both have
abbrev pub Touch : Distance → List (List Dot) → List (List Dot) → Type 0
Touch D [] ys = Unit {0}
Touch D (x ∷ xs) [] = Unit {0}
Touch D (x ∷ xs) (y ∷ ys) = Gap D (last_of x) (first_of y) × Touch D xs ys

-- ---- a row beside a child

falling-wider : {c d : ℕ} (xs : List (List Dot)) → c ≤ d → Falling c xs → Falling d xs
falling-wider [] h f = tt
falling-wider (x ∷ xs) h f = (le_trans f.0 h, f.1)

-- what holds of every dot of two lists of levels holds of every dot of them side by side
pub beside-all : (P : Dot → Type 0) (xs ys : List (List Dot)) → All (All P) xs → All (All P) ys → All (All P) (beside xs ys)
beside-all P [] ys a b = b
beside-all P (x ∷ xs) [] a b = a
beside-all P (x ∷ xs) (y ∷ ys) a b = (all_append P x y a.0 b.0, beside-all P xs ys a.1 b.1)

pub levels-weaken : (P Q : Dot → Type 0) → ((e : Dot) → P e → Q e) → (xs : List (List Dot)) → All (All P) xs → All (All Q) xs
levels-weaken P Q h = all-weaken (All P) (All Q) (all-weaken P Q h)

module _ (D : Distance) (j : ℕ) where
  beside-spaced : (xs ys : List (List Dot)) → All Some xs → All Some ys → All (Spaced D) xs → All (Spaced D) ys → Touch D xs ys → All (Spaced D) (beside xs ys)
  beside-spaced [] ys p q a b t = b
  beside-spaced (x ∷ xs) [] p q a b t = a
  beside-spaced (x ∷ xs) (y ∷ ys) p q a b t =
      (spaced-append D x y a.0 b.0 p.0 q.0 t.0, beside-spaced xs ys p.1 q.1 a.1 b.1 t.1)

  beside-falling : (c d : ℕ) (xs ys : List (List Dot)) → All Some ys → All (All (λ e. e.child ≡ j)) ys → Falling c xs → c ≤ j → j ≤ d → Falling d (beside xs ys)
  beside-falling c d [] [] q b f h k = tt
  beside-falling c d [] (y ∷ ys) q b f h k =
      let last : (last_of y).child ≡ j = last_in (λ e. e.child ≡ j) y q.0 b.0 in
      (omega arith, beside-falling c (last_of y).child [] ys q.1 b.1 tt h (omega arith))
  beside-falling c d (x ∷ xs) [] q b f h k = falling-wider (x ∷ xs) (le_trans h k) f
  beside-falling c d (x ∷ xs) (y ∷ ys) q b f h k =
      let last : (last_of (x ++ y)).child ≡ j = ap (λ (e : Dot). e.child) (last-append x y q.0) ∙ last_in (λ e. e.child ≡ j) y q.0 b.0 in
      (omega arith, beside-falling (last_of x).child (last_of (x ++ y)).child xs ys q.1 b.1 f.1 (le_trans f.0 h) (omega arith))

  pub row-beside : (xs ys : List (List Dot)) → Row D j xs → Child D j ys → Touch D xs ys → Row D (suc j) (beside xs ys)
  row-beside xs ys R C t =
      record {
        some = beside-some xs ys R.some C.some;
        spaced = beside-spaced xs ys R.some C.some R.spaced C.spaced t;
        falling = beside-falling j (suc j) xs ys C.some C.tags R.falling (le_refl j) (omega arith);
        tags = beside-all (λ e. e.child < suc j) xs ys (levels-weaken (λ e. e.child < j) (λ e. e.child < suc j) (λ e h. omega arith) xs R.tags)
            (levels-weaken (λ e. e.child ≡ j) (λ e. e.child < suc j) (λ e h. omega arith) ys C.tags);
      }

-- ---- levels whose dots are moved, each two keeping their distance

module _ (D : Distance) (g : Dot → Dot) (keeps : (d e : Dot) → Gap D d e → Gap D (g d) (g e)) where
  some-moved : (xs : List (List Dot)) → All Some xs → All Some (map (map g) xs)
  some-moved = all_map (map g) Some Some one
    where
      one : (x : List Dot) → Some x → Some (map g x)
      one [] s = elim s [ ]
      one (e ∷ x) s = some

  spaced-moved : (xs : List (List Dot)) → All (Spaced D) xs → All (Spaced D) (map (map g) xs)
  spaced-moved = all_map (map g) (Spaced D) (Spaced D) one
    where
      one : (x : List Dot) → Spaced D x → Spaced D (map g x)
      one [] s = tt
      one (d ∷ []) s = tt
      one (d ∷ e ∷ x) s = (keeps d e s.0, one (e ∷ x) s.1)

  tags-moved : (P Q : Dot → Type 0) → ((e : Dot) → P e → Q (g e)) → (xs : List (List Dot)) → All (All P) xs → All (All Q) (map (map g) xs)
  tags-moved P Q h = all_map (map g) (All P) (All Q) (all_map g P Q h)

  child-moved : (P : Dot → Type 0) (j : ℕ) → ((e : Dot) → P e → (g e).child ≡ j) → (xs : List (List Dot))
      → All Some xs → All (Spaced D) xs → All (All P) xs → Child D j (map (map g) xs)
  child-moved P j h xs s a t =
      record { some = some-moved xs s; spaced = spaced-moved xs a; tags = tags-moved P (λ e. e.child ≡ j) h xs t }

-- a row moved, a child shifted, and a row that is seen as the children of one node
falling_move : (m : ℕ → ℕ) (c : ℕ) (xs : List (List Dot)) → All Some xs → Falling c xs → Falling c (map (map (move_by m)) xs)
falling_move m c [] s f = tt
falling_move m c (x ∷ xs) s f = rw (last-map (move_by m) x s.0) (f.0, falling_move m (last_of x).child xs s.1 f.1)

row_move : (D : Distance) (j : ℕ) (m : ℕ → ℕ) → ((p r : ℕ) → p ≤ r → m p ≤ m r) → (xs : List (List Dot)) → Row D j xs → Row D j (map (map (move_by m)) xs)
row_move D j m mono xs R =
    record {
      some = some-moved D (move_by m) keeps xs R.some;
      spaced = spaced-moved D (move_by m) keeps xs R.spaced;
      falling = falling_move m j xs R.some R.falling;
      tags = tags-moved D (move_by m) keeps (λ e. e.child < j) (λ e. e.child < j) (λ e h. h) xs R.tags;
    }
  where
    keeps : (d e : Dot) → Gap D d e → Gap D (move_by m d) (move_by m e)
    keeps d e g = gap_moved _ _ _ _ (omega (arith, mono d.child e.child g.order)) g.order g

child-shift : (D : Distance) (j : ℕ) (c : ℤ) (ys : List (List Dot)) → Child D j ys → Child D j (map (map (shift_by c)) ys)
child-shift D j c ys C =
    child-moved D (shift_by c) (λ d e g. gap_moved c c _ _ (le_refl _) g.order g) (λ e. e.child ≡ j) j (λ e h. h) ys C.some C.spaced C.tags

pub row-child : (D : Distance) (i w : ℕ) (o : ℤ) (d : Drawing) → Row D w (row_dots 0 d) → Child D i (dots i o d)
row-child D i w o d R =
    rw (dots-row i 0 o d)
    (child-moved D (settle i o) (λ d e g. gap_moved o o i i (le_refl _) (le_refl i) g) (λ e. e.child < w) i (λ e h. refl) (row_dots 0 d) R.some R.spaced R.tags)

pub seams_touch : (D : Distance) (extra j : ℕ) (m : ℕ → ℕ) (t : ℕ) (xs ys : List (List Dot)) → All Some xs → All Some ys
    → All (All (λ e. e.child < j)) xs → All (All (λ e. e.child ≡ j)) ys → Seams D extra m t xs ys
    → Touch D (map (map (move_by m)) xs) (map (map (shift_by (pos t))) ys)
seams_touch D extra j m t [] ys p q a b s = tt
seams_touch D extra j m t (x ∷ xs) [] p q a b s = tt
seams_touch D extra j m t (x ∷ xs) (y ∷ ys) p q a b s = (
  subst₂ (Gap D) (sym (last-map (move_by m) x p.0)) (sym (first-map (shift_by (pos t)) y q.0))
      (record {
        apart = let here = (last_of x).place +ℤ pos (m (last_of x).child) in
            let d = D (last_of x).node (first_of y).node in
            omega (arith, s.0, parts_add here (pos d), parts_add here (pos (d + extra)));
        order = omega (arith, last_in (λ e. e.child < j) x p.0 a.0, first_in (λ e. e.child ≡ j) y q.0 b.0);
      }),
  seams_touch D extra j m t xs ys p.1 q.1 a.1 b.1 s.1,
)

pub alone-child : (D : Distance) (i w v x : ℕ) (below : Drawing) → Row D w (row_dots 0 below) → Child D i (dots i (pos 0) (alone v x below))
alone-child D i w v x below R =
    let C = row-child D i w (pos (0 + x) -ℤ pos (middle below)) below R in
    record { some = (some, C.some); spaced = (tt, C.spaced); tags = ((refl, tt), C.tags) }

-- the walk down a row and a new child, from the first level on
pub row-walk : {D : Distance} {j : ℕ} (extra : ℕ) (xs ys : List (List Dot)) → Row D j xs
    → Walking D j j 0 xs ys (shares j (meet D 0 (right_contour xs) (left_contour ys))) (total (meet D 0 (right_contour xs) (left_contour ys)) + extra) extra
row-walk {D} {j} extra xs ys R = record { falling = R.falling; owned = each xs R.some R.tags; moves = λ p h. refl; whole = omega arith }
  where
    each : (xs : List (List Dot)) → All Some xs → All (All (λ e. e.child < j)) xs → All (λ x. (last_of x).child ≤ j) xs
    each [] s a = tt
    each (x ∷ xs) s a = (omega (arith, last_in (λ e. e.child < j) x s.0 a.0), each xs s.1 a.1)

-- ---- every row that is drawn

pub row-join : (D : Spacing) (row : Drawing) (v : ℕ) (below : Drawing) → Row D.need (width row) (row_dots 0 row) → Row D.need (width below) (row_dots 0 below)
    → Row D.need (width (join D row v below)) (row_dots 0 (join D row v below))
row-join D row v below R B =
    subst₂ (Row D.need) (sym (width-join D row v below)) (sym (row_dots-join D row v below))
    (row-beside N j (map (map (move_by m)) xs) (map (map (shift_by (pos t))) ys)
    (row_move N j m (shares-mono j ms) xs R) (child-shift N j (pos t) ys C)
    (seams_touch N (added D.extra ms) j m t xs ys R.some C.some R.tags C.tags (walk-seams xs ys (row-walk (added D.extra ms) xs ys R))))
  where
    N : Distance
    N = D.need

    j : ℕ
    j = width row

    ms : List Meeting
    ms = meetings D.need row v below

    m : ℕ → ℕ
    m = shares j ms

    t : ℕ
    t = movement D.extra ms

    xs : List (List Dot)
    xs = row_dots 0 row

    ys : List (List Dot)
    ys = dots (width row) (pos 0) (alone v (start D.need row v) below)

    C : Child D.need j ys
    C = alone-child D.need (width row) (width below) v (start D.need row v) below B

pub row-none : {D : Distance} → Row D 0 []
row-none = record { some = tt; spaced = tt; falling = tt; tags = tt }

pub row-draw_onto : (D : Spacing) (row : Drawing) (f : Forest) → Row D.need (width row) (row_dots 0 row) → Row D.need (width (draw_onto D row f)) (row_dots 0 (draw_onto D row f))
row-draw_onto D row nil R = R
row-draw_onto D row (node v f g) R =
    row-draw_onto D (join D row v (draw_onto D none f)) g (row-join D row v (draw_onto D none f) R (row-draw_onto D none f row-none))
