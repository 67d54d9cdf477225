-- One turn of the contour walk, as facts about the levels of the row and of the new child: the boundaries and the places step down together,
-- each meeting is gathered, and the levels passed are marked. Assumes nothing.
use mathlib.Core.Path.{◌≡◌, refl, sym, ap, ap₂, ◌∙◌}
use mathlib.Core.Logic.{◌⊎◌, ⊎_elim}
use mathlib.Core.List.{List, [], ◌∷◌, ◌++◌, append_assoc}
use Prim.Native.Nat.{ℕ, ◌+◌, ◌-◌, ◌≤◌, ◌<◌}
use native.Mathlib.Nat.{le_trans, add-zero}
use native.Mathlib.Omega.{arith}
use lib.IntN.{ℤ, pos, ◌+ℤ◌, ◌-ℤ◌, +ℤ_idr, +ℤ_assoc}
use lib.ListN.{length, length-append}
use Rattle.distance.specs.Needed.{Distance}
use Rattle.tree.proofs.Counting.{All, all_append, all_left, all_right, all-weaken}
use Rattle.rule.specs.Drawing.{Dot, first_of, last_of, left_contour, right_contour}
use Rattle.rule.specs.Join.{Meeting, above0, shortfall, meet, evenly, share, shares, total}
use Rattle.rule.proofs.Signed.{below0, parts_add, parts_sub, parts_eq}
use Rattle.rule.proofs.Shares.{share-le}
use Rattle.rule.proofs.AtOnce.{shares-append, total-append}
use Rattle.contours.specs.Contours.{LeftSteps, RightSteps}
use Rattle.contours.specs.Gather.{pending}
use Rattle.level_order.proofs.Positions.{Ordered, mono-le, within}
use Rattle.contours.proofs.Runs.{Runs}
use Rattle.contours.proofs.Gathered.{Met, pending-met, share_at, share-right, share-left}

-- what does not change while child c is joined to the row from f to c, one of the children from f to end
pub record Join : Type 0 where
  pub first : ℕ → ℕ
  pub n : ℕ
  pub ordered : Ordered first n
  pub need : Distance
  pub f : ℕ
  pub c : ℕ
  pub end : ℕ
  pub default : ℕ
  pub left : ℕ → ℤ
  pub right : ℕ → ℤ
  pub row : List (List Dot)
  pub child : List (List Dot)
  pub inside : c < end

-- the fields that change
pub record Fields : Type 0 where
  pub ancestor : ℕ → ℤ
  pub shift : ℕ → ℤ
  pub change : ℕ → ℤ

-- where the walk stands
pub record Stand : Type 0 where
  pub a : ℕ
  pub b : ℕ
  pub e : ℕ
  pub right : ℤ
  pub left : ℤ
  pub outer_left : ℤ
  pub outer_right : ℤ
  pub moved : ℕ

-- how far the child at position p has still to move
abbrev pub pending_in : Join → Fields → ℕ → ℤ
pending_in J w p = pending w.shift w.change J.end p

-- what the rule's walk meets
abbrev pub all_met : Join → List Meeting
all_met J = meet J.need 0 (right_contour J.row) (left_contour J.child)

-- between two states of the fields each child of the row is moved by its shares of the meetings, and none from c on
pub record Moves (J : Join) (before now : Fields) (ms : List Meeting) : Type 0 where
  pub row : (p : ℕ) → J.f ≤ p → p < J.c → pending_in J now p ≡ pending_in J before p +ℤ pos (shares (J.c - J.f) ms (p - J.f))
  pub beyond : (p : ℕ) → J.c ≤ p → p < J.end → pending_in J now p ≡ pending_in J before p

pub record Walking (J : Join) (before now : Fields) (s : Stand) : Type 0 where
  pub above-row : List (List Dot)
  pub above-child : List (List Dot)
  pub x : List Dot
  pub y : List Dot
  pub xs : List (List Dot)
  pub ys : List (List Dot)
  pub met : List Meeting
  pub row : J.row ≡ above-row ++ (x ∷ xs)
  pub child : J.child ≡ above-child ++ (y ∷ ys)
  pub level : length above-row ≡ length above-child
  pub one_level : s.e ≤ J.first s.a
  pub fits : s.e ≤ J.n
  pub runs_row : Runs J.first s.a s.b (x ∷ xs)
  pub runs_child : Runs J.first s.b s.e (y ∷ ys)
  pub left-row : LeftSteps J.left (x ∷ xs)
  pub right-row : RightSteps J.right (x ∷ xs)
  pub left-child : LeftSteps J.left (y ∷ ys)
  pub right_child : RightSteps J.right (y ∷ ys)
  pub right-at : s.right ≡ (last_of x).place
  pub left_at : s.left ≡ (first_of y).place
  pub outer_left_holds : s.outer_left ≡ (first_of x).place
  pub outer_right_holds : s.outer_right ≡ (last_of y).place
  pub moved : s.moved ≡ total met
  pub whole : all_met J ≡ met ++ meet J.need s.moved (right_contour (x ∷ xs)) (left_contour (y ∷ ys))
  pub moves : Moves J before now met
  pub passed : All (λ l. (last_of l).node < s.b) above-child
  pub marked : All (λ l. now.ancestor (last_of l).node ≡ pos J.c) above-child
  pub unmarked : (z : ℕ) → All (λ l. (last_of l).node ≡ z → ⊥) above-child → now.ancestor z ≡ before.ancestor z

-- a stored step leads from one place of a contour to the next
pub step_to : {p q h v : ℤ} → v ≡ p → h ≡ q -ℤ p → v +ℤ h ≡ q
step_to {p} {q} {h} {v} ev eh = parts_eq (v +ℤ h) q (omega (arith, ap above0 ev, ap below0 ev, ap above0 eh, ap below0 eh, parts_add v h, parts_sub q p))

-- ---- what a meeting changes

-- the fields after child i, of the row, was met with the amount s, and the new child's node z was marked
pub record Turned (J : Join) (old new : Fields) (i s z : ℕ) : Type 0 where
  pub moves : ((s ≡ 0) × (new.shift ≡ old.shift) × (new.change ≡ old.change))
      ⊎ Met old.shift old.change new.shift new.change (J.f + i) J.c s
  pub mark : new.ancestor z ≡ pos J.c
  pub others : (w : ℕ) → (w ≡ z → ⊥) → new.ancestor w ≡ old.ancestor w

module _ {J : Join} {old new : Fields} {i s z : ℕ} (T : Turned J old new i s z) (row : J.f + i < J.c) where
  abbrev met : Meeting
  met = record { child = i; amount = s }

  turned_by : (p n : ℕ) → p < J.end → (s ≡ 0 → n ≡ 0) → share_at (J.f + i) J.c s p ≡ n → pending_in J new p ≡ pending_in J old p +ℤ pos n
  turned_by p n h none share =
      ⊎_elim (λ q. ap₂ (λ (u v : ℕ → ℤ). pending u v J.end p) q.1 q.2 ∙ sym (+ℤ_idr (pending_in J old p)) ∙ ap (λ (k : ℕ). pending_in J old p +ℤ pos k) (sym (none q.0)))
      (λ M. pending-met J.end M row J.inside p h ∙ ap (λ (k : ℕ). pending_in J old p +ℤ pos k) share)
      T.moves

  turned-moves : Moves J old new (met ∷ [])
  turned-moves =
      record {
        row = λ p h k. turned_by p _ (omega (arith, J.inside)) (none p k) (share-left (J.f + i) J.c s p k ∙ same-share p);
        beyond = λ p h k. turned_by p 0 k (λ e. refl) (share-right (J.f + i) J.c s p h) ∙ +ℤ_idr (pending_in J old p);
      }
    where
      none : (p : ℕ) → p < J.c → s ≡ 0 → share (J.c - J.f) met (p - J.f) + 0 ≡ 0
      none p h e = let inside : p - J.f ≤ J.c - J.f = omega arith in omega (arith, share-le (J.c - J.f) met (p - J.f) inside)

      same-share : (p : ℕ) → evenly (J.c - (J.f + i)) s (p - (J.f + i)) ≡ share (J.c - J.f) met (p - J.f) + 0
      same-share p =
          let near : p - (J.f + i) ≡ p - J.f - i = omega arith in
          let far : J.c - (J.f + i) ≡ J.c - J.f - i = omega arith in
          rw (near, far) (sym (add-zero _))

-- ---- a level

module _ {J : Join} {before old : Fields} {s : Stand} (W : Walking J before old s) where
  -- by how much the two nodes on this level, b - 1 and b, are too close
  abbrev pub amount : ℕ
  amount = shortfall (J.need (s.b - 1) s.b) s.right (s.left +ℤ pos s.moved)

  -- the child that is met
  abbrev pub owner : ℕ
  owner = (last_of W.x).child

  abbrev meeting : Meeting
  meeting = record { child = owner; amount = amount }

  -- the meetings with that of this level
  abbrev pub met_now : List Meeting
  met_now = W.met ++ (meeting ∷ [])

  -- the stand one level down
  abbrev pub down : Stand
  down =
      record {
        a = J.first s.a;
        b = J.first s.b;
        e = J.first s.e;
        right = s.right +ℤ J.right (last_of W.x).node;
        left = s.left +ℤ J.left (first_of W.y).node;
        outer_left = s.outer_left +ℤ J.left (first_of W.x).node;
        outer_right = s.outer_right +ℤ J.right (last_of W.y).node;
        moved = s.moved + amount;
      }

  pub whole-now : all_met J ≡ met_now ++ meet J.need (s.moved + amount) (right_contour W.xs) (left_contour W.ys)
  whole-now =
      let before : (last_of W.x).node ≡ s.b - 1 = omega (arith, W.runs_row.2) in
      rw append_assoc (rw (before, W.runs_child.1, ← W.right-at, ← W.left_at) at W.whole)

  pub moved-now : s.moved + amount ≡ total met_now
  moved-now = omega (arith, W.moved, total-append W.met (meeting ∷ []))

  -- the child's level ends before the next one begins
  pub reach : s.e ≤ J.first s.b
  reach = le_trans W.one_level (mono-le J.first J.n J.ordered s.a s.b (omega (arith, W.runs_row.0)) (omega (arith, W.runs_child.0, W.fits)))

  module _ {new : Fields} (T : Turned J old new owner amount (last_of W.y).node) (row : J.f + owner < J.c) where
    pub moves-now : Moves J before new met_now
    moves-now =
        let now = turned-moves T row in
        record {
          row = λ p h k. rw (now.row p h k, W.moves.row p h k, +ℤ_assoc (pending_in J before p), shares-append);
          beyond = λ p h k. now.beyond p h k ∙ W.moves.beyond p h k;
        }

    -- the node that is marked now lies right of those marked before
    pub marked-now : All (λ l. new.ancestor (last_of l).node ≡ pos J.c) (W.above-child ++ (W.y ∷ []))
    marked-now = all_append _ W.above-child (W.y ∷ []) (earlier W.above-child W.passed W.marked) (T.mark, tt)
      where
        earlier : (ls : List (List Dot)) → All (λ l. (last_of l).node < s.b) ls → All (λ l. old.ancestor (last_of l).node ≡ pos J.c) ls → All (λ l. new.ancestor (last_of l).node ≡ pos J.c) ls
        earlier [] a b = tt
        earlier (l ∷ ls) a b = (T.others (last_of l).node (λ q. omega (arith, a.0, W.runs_child.2, W.runs_child.0, q)) ∙ b.0, earlier ls a.1 b.1)

    pub unmarked-now : (z : ℕ) → All (λ l. (last_of l).node ≡ z → ⊥) (W.above-child ++ (W.y ∷ [])) → new.ancestor z ≡ before.ancestor z
    unmarked-now z a =
        T.others z (λ e. (all_right (λ l. (last_of l).node ≡ z → ⊥) W.above-child (W.y ∷ []) a).0 (sym e))
        ∙ W.unmarked z (all_left (λ l. (last_of l).node ≡ z → ⊥) W.above-child (W.y ∷ []) a)

    pub walk_down_lem : {x' y' : List Dot} {xs' ys' : List (List Dot)} → W.xs ≡ x' ∷ xs' → W.ys ≡ y' ∷ ys' → Walking J before new down
    walk_down_lem {x'} {y'} {xs'} {ys'} ex ey =
        let lr = rw ex at W.left-row in
        let rr = rw ex at W.right-row in
        let lc = rw ey at W.left-child in
        let rc = rw ey at W.right_child in
        record {
          above-row = W.above-row ++ (W.x ∷ []);
          above-child = W.above-child ++ (W.y ∷ []);
          x = x';
          y = y';
          xs = xs';
          ys = ys';
          met = met_now;
          row = rw append_assoc (rw ex at W.row);
          child = rw append_assoc (rw ey at W.child);
          level = simp length-append (omega (arith, W.level));
          one_level = mono-le J.first J.n J.ordered s.e (J.first s.a) W.one_level (within J.first J.n J.ordered s.a (omega (arith, W.fits, W.runs_row.0, W.runs_child.0)));
          fits = within J.first J.n J.ordered s.e W.fits;
          runs_row = rw ex at W.runs_row.4;
          runs_child = rw ey at W.runs_child.4;
          left-row = lr.1;
          right-row = rr.1;
          left-child = lc.1;
          right_child = rc.1;
          right-at = step_to W.right-at rr.0;
          left_at = step_to W.left_at lc.0;
          outer_left_holds = step_to W.outer_left_holds lr.0;
          outer_right_holds = step_to W.outer_right_holds rc.0;
          moved = moved-now;
          whole = whole-now ∙ ap₂ (λ (u v : List (List Dot)). met_now ++ meet J.need (s.moved + amount) (right_contour u) (left_contour v)) ex ey;
          moves = moves-now;
          passed = all_append _ W.above-child (W.y ∷ [])
              (all-weaken (λ l. (last_of l).node < s.b) (λ l. (last_of l).node < J.first s.b) (λ l h. omega (arith, reach, W.runs_child.0)) W.above-child W.passed)
              (omega (arith, W.runs_child.2, reach), tt);
          marked = marked-now;
          unmarked = unmarked-now;
        }
