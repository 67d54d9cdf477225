-- Gaps grow evenly: what one meeting gives to the gaps between the two children that meet. Assumes nothing.
use mathlib.Core.Path.{◌≡◌, refl, sym, ap, ap₂, ◌∙◌, subst}
use mathlib.Core.Logic.{⊎_elim}
use mathlib.Core.List.{List, [], ◌∷◌}
use Prim.Native.Nat.{ℕ, zero, suc, ◌+◌, ◌-◌, ◌≤◌, ◌<◌}
use native.Mathlib.Nat.{zero-add}
use native.Mathlib.Omega.{arith}
use lib.IntN.{ℤ, pos, ◌+ℤ◌, ◌-ℤ◌, +ℤ_idr}
use lib.ListN.{drop}
use Rattle.distance.specs.Needed.{Distance}
use Rattle.tree.proofs.Counting.{All, all_map, sum_below, is-cases, below_or_not}
use Rattle.rule.specs.Drawing.{Drawing, none, at, width, place_at, middle, Dot, dot, dots, row_dots, last_of, left_contour}
use Rattle.rule.specs.Join.{Meeting, shortfall, remainder, evenly, share, alone, row_contour}
use Rattle.rule.specs.AtOnce.{Joining, with_child, step, walk_level}
use Rattle.rule.specs.Gaps.{gap_before, growth}
use Rattle.rule.proofs.Signed.{parts_add, parts_sub, parts_eq}
use Rattle.rule.proofs.Moving.{width-spread, append_left, append_right, spread-place}
use Rattle.rule.proofs.Shares.{evenly-whole, share-none}
use Rattle.rule.proofs.Spacing.{beside-all, levels-weaken}

-- ---- an amount shared over gaps

-- a child moves further than the one before it by what the gap between them grows
evenly-next : (k s t : ℕ) → evenly k s (suc t) ≡ evenly k s t + growth k s (suc t)
unfolding evenly
evenly-next k s t =
    ⊎_elim (λ h. rw h.1 (omega (arith, h.0))) (λ h. rw h.1 (omega (arith, h.0))) (below_or_not (k - remainder k s) (suc t))

-- the growths of the first t gaps add up to what the child behind them moves
growths_before : (k s t : ℕ) → sum_below t (λ x. growth k s (suc x)) ≡ evenly k s t
unfolding evenly
growths_before k s zero = omega arith
growths_before k s (suc t) = omega (arith, growths_before k s t, evenly-next k s t)

-- the growths of all k gaps add up to s
pub growths_whole : (k s : ℕ) → 0 < k → sum_below k (λ x. growth k s (suc x)) ≡ s
growths_whole k s h = growths_before k s k ∙ evenly-whole k s h

-- no two of them differ by more than one
pub growths_even : (k s t u : ℕ) → growth k s t ≤ suc (growth k s u)
growths_even k s t u = ⊎_elim (λ h. rw h.1 (omega arith)) (λ h. rw h.1 (omega arith)) (below_or_not (k - remainder k s) t)

-- ---- the child that is met is one of the row

dots-child : (i : ℕ) (o : ℤ) (d : Drawing) → All (All (λ e. e.child ≡ i)) (dots i o d)
dots-child i o none = tt
dots-child i o (at v x below after) =
    let top : All (λ (e : Dot). e.child ≡ i) (dot i v (o +ℤ pos x) ∷ []) = (refl, tt) in
    beside-all (λ e. e.child ≡ i) ((dot i v (o +ℤ pos x) ∷ []) ∷ dots i (o +ℤ pos x -ℤ pos (middle below)) below) (dots i o after)
    (top, dots-child i (o +ℤ pos x -ℤ pos (middle below)) below) (dots-child i o after)

row-children : (i : ℕ) (d : Drawing) → All (All (λ e. e.child < i + width d)) (row_dots i d)
row-children i none = tt
row-children i (at v x below after) =
    beside-all (λ e. e.child < i + suc (width after)) (dots i (pos 0) (alone v x below)) (row_dots (i + 1) after)
    (levels-weaken (λ e. e.child ≡ i) _ (λ e h. omega arith) (dots i (pos 0) (alone v x below)) (dots-child i (pos 0) (alone v x below)))
    (levels-weaken (λ e. e.child < (i + 1) + width after) _ (λ e h. omega arith) (row_dots (i + 1) after) (row-children (i + 1) after))

contour-children : (d : Drawing) → All (λ e. e.child < width d) (row_contour d)
contour-children none = tt
contour-children (at v x below after) =
    all_map last_of (All (λ e. e.child < 0 + suc (width after))) (λ e. e.child < suc (width after)) last (row_dots 0 (at v x below after)) (row-children 0 (at v x below after))
  where
    last : (x : List Dot) → All (λ e. e.child < 0 + suc (width after)) x → (last_of x).child < suc (width after)
    last [] h = omega arith
    last (d ∷ []) h = omega (arith, h.0)
    last (d ∷ e ∷ x) h = last (e ∷ x) h.1

all_drop : {A : Type 0} (P : A → Type 0) (l : ℕ) (xs : List A) → All P xs → All P (drop l xs)
all_drop P zero xs h = h
all_drop P (suc l) [] h = h
all_drop P (suc l) (x ∷ xs) h = all_drop P l xs h.1

-- ---- one meeting in a row

-- a gap grows by what the child behind it moves further than the one before it
gap_moved : (d e : Drawing) (p x y g : ℕ) → place_at e p ≡ place_at d p + x → place_at e (p - 1) ≡ place_at d (p - 1) + y → x ≡ y + g
    → gap_before e p ≡ gap_before d p +ℤ pos g
gap_moved d e p x y g behind before more =
    parts_eq (gap_before e p) (gap_before d p +ℤ pos g)
    (omega (
      arith,
      parts_sub (pos (place_at e p)) (pos (place_at e (p - 1))),
      parts_sub (pos (place_at d p)) (pos (place_at d (p - 1))),
      parts_add (gap_before d p) (pos g),
    ))

-- On level l of the walk the nodes a and b are met, with what is left of the two contours from there on.
module _ (D : Distance) (l v : ℕ) (s : Joining) (below : Drawing) (a b : Dot) (us ws : List Dot) (left : drop l (row_contour s.row) ≡ a ∷ us)
    (right : drop l (left_contour (dots (width s.row) (pos 0) (alone v s.place below))) ≡ b ∷ ws) where
  -- by how much the two nodes are too close, and how many gaps there are between the children
  abbrev pub amount : ℕ
  amount = shortfall (D a.node b.node) a.place b.place

  abbrev pub gaps : ℕ
  gaps = width s.row - a.child

  abbrev meeting : Meeting
  meeting = record { child = a.child; amount = amount }

  -- the row with the child, before the meeting and after it
  abbrev pub before : Drawing
  before = with_child s v below

  abbrev pub after : Drawing
  after = with_child (walk_level D l (width s.row) v below s) v below

  inside : a.child < width s.row
  inside = (subst (All (λ e. e.child < width s.row)) left (all_drop _ l (row_contour s.row) (contour-children s.row))).0

  -- the new child moves by the whole, and every other by its share, which for the new child is the whole
  moved : (p : ℕ) → p ≤ width s.row → place_at after p ≡ place_at before p + share (width s.row) meeting p
  moved p h = ap (λ (n : Joining). place_at (with_child n v below) p) (ap₂ (step D j s) left right) ∙ ⊎_elim (λ e. rw e.0 new) (λ d. old d.0) (is-cases p j)
    where
      j : ℕ
      j = width s.row

      next : Joining
      next = step D j s (a ∷ us) (b ∷ ws)

      old : (p ≡ j → ⊥) → place_at (with_child next v below) p ≡ place_at before p + share j meeting p
      old d =
          let earlier : p < j = omega arith in
          omega (
            arith,
            append_left next.row (alone v next.place below) p (omega (arith, width-spread j (meeting ∷ []) 0 s.row)),
            spread-place j (meeting ∷ []) 0 s.row p earlier,
            ap (share j meeting) (zero-add p),
            append_left s.row (alone v s.place below) p earlier,
          )

      new : place_at (with_child next v below) j ≡ place_at before j + share j meeting j
      new =
          omega (
            arith,
            ap (place_at (with_child next v below)) (sym (width-spread j (meeting ∷ []) 0 s.row)),
            append_right next.row v next.place below,
            append_right s.row v s.place below,
            evenly-whole gaps amount (omega (arith, inside)),
          )

  -- the gap before child i + t, of those between the two, grows by its growth
  pub gap_grows : (t : ℕ) → 0 < t → t ≤ gaps → gap_before after (a.child + t) ≡ gap_before before (a.child + t) +ℤ pos (growth gaps amount t)
  gap_grows zero h g = elim h [ ]
  gap_grows (suc t) h g =
      let one_less : a.child + suc t - 1 - a.child ≡ t = omega arith in
      let all : a.child + suc t - a.child ≡ suc t = omega arith in
      gap_moved before after (a.child + suc t) _ _ _ (moved (a.child + suc t) (omega (arith, inside))) (moved (a.child + suc t - 1) (omega (arith, inside)))
      (rw (one_less, all) (evenly-next gaps amount t))

  -- and no gap before these does
  pub gap_stays : (p : ℕ) → p ≤ a.child → gap_before after p ≡ gap_before before p
  gap_stays p h =
      gap_moved before after p _ _ 0 (moved p (omega (arith, inside))) (moved (p - 1) (omega (arith, inside)))
      (omega (arith, share-none (width s.row) meeting p h, share-none (width s.row) meeting (p - 1) (omega arith)))
      ∙ +ℤ_idr (gap_before before p)
