-- Stored steps are kept where the entries of the run's own positions are. Assumes nothing.
use mathlib.Core.Path.{◌≡◌, refl, sym, ap, ◌∙◌, subst}
use mathlib.Core.List.{List, [], ◌∷◌, map}
use Prim.Native.Nat.{ℕ, suc, ◌+◌, ◌≤◌, ◌<◌}
use native.Mathlib.Omega.{arith}
use lib.IntN.{ℤ, pos, ◌-ℤ◌}
use Rattle.tree.specs.Numbers.{count}
use Rattle.tree.specs.Forest.{Forest, preorder}
use Rattle.tree.proofs.Counting.{All, count-append, is_same, all_map}
use Rattle.rule.specs.Drawing.{Drawing, none, at, width, middle, Dot, dots, row_dots, first_of, last_of}
use Rattle.rule.specs.Join.{Spacing, alone}
use Rattle.rule.specs.Rule.{draw}
use Rattle.rule.proofs.Moving.{settle, dots-row}
use Rattle.rule.proofs.Names.{names, names-draw}
use Rattle.rule.proofs.Spacing.{beside-all, levels-weaken, row-draw_onto, row-none}
use Rattle.contours.specs.Contours.{LeftSteps, RightSteps}
use Rattle.contours.specs.Rows.{Subtree, children_drawn}
use Rattle.level_order.proofs.Positions.{Ordered, family, run-nil}
use Rattle.contours.proofs.Steps.{Inner, left_frame, right_frame, all-inner}
use Rattle.level_order.proofs.Occurs.{times, times-root}
use Rattle.tree.proofs.Joined.{Some}
use Rattle.rule.proofs.LevelEnds.{first_in, last_in}

-- the node of the dot is one of the forest's
abbrev Of : Forest → Dot → Type 0
Of f e = 1 ≤ count e.node (preorder f)

-- every dot of a row is one of its nodes
of_row : (i : ℕ) (d : Drawing) → All (All (Of (names d))) (row_dots i d)
of_row i none = tt
of_row i (at v x below after) =
    let whole = names (at v x below after) in
    let o = pos (0 + x) -ℤ pos (middle below) in
    beside-all (Of whole) (dots i (pos 0) (alone v x below)) (row_dots (i + 1) after) (
      (omega (arith, is_same v v refl), tt),
      subst (All (All (Of whole))) (sym (dots-row i 0 o below))
          (all_map (map (settle i o)) (All (Of (names below))) (All (Of whole))
          (all_map (settle i o) (Of (names below)) (Of whole) (λ e h. omega (arith, count-append e.node (preorder (names below)) (preorder (names after))))) (row_dots 0 below) (of_row 0 below)),
    )
    (levels-weaken (Of (names after)) (Of whole) (λ e h. omega (arith, count-append e.node (preorder (names below)) (preorder (names after)))) (row_dots (i + 1) after)
    (of_row (i + 1) after))

module _ (D : Spacing) (f : Forest) (old new : ℕ → ℤ) (same : (z : ℕ) → 1 ≤ count z (preorder f) → new z ≡ old z) where
  abbrev rows : List (List Dot)
  rows = row_dots 0 (draw D f)

  named : All (All (Of f)) rows
  named = subst (λ (g : Forest). All (All (Of g)) rows) (names-draw D f) (of_row 0 (draw D f))

  filled : All Some rows
  filled = (row-draw_onto D none f row-none).some

  same-steps : (pick : List Dot → Dot) → ((x : List Dot) → Some x → All (Of f) x → Of f (pick x)) → Inner (λ x. new (pick x).node ≡ old (pick x).node) rows
  same-steps pick h = all-inner (λ x. new (pick x).node ≡ old (pick x).node) rows (each rows filled named)
    where
      each : (xs : List (List Dot)) → All Some xs → All (All (Of f)) xs → All (λ x. new (pick x).node ≡ old (pick x).node) xs
      each [] s a = tt
      each (x ∷ xs) s a = (same (pick x).node (h x s.0 a.0), each xs s.1 a.1)

  pub left-kept : LeftSteps old rows → LeftSteps new rows
  left-kept = left_frame old new rows (same-steps first_of (first_in (Of f)))

  pub right_kept : RightSteps old rows → RightSteps new rows
  right_kept = right_frame old new rows (same-steps last_of (last_in (Of f)))

module _ (first : ℕ → ℕ) (n : ℕ) (O : Ordered first n) (D : Spacing) (c : ℕ) (inside : c < n) (left right left' right' : ℕ → ℤ)
    (same_left : (z : ℕ) → 1 ≤ times first n c (suc c) z → left' z ≡ left z) (same-right : (z : ℕ) → 1 ≤ times first n c (suc c) z → right' z ≡ right z) where
  pub subtree-kept : Subtree first n D c left right → Subtree first n D c left' right'
  subtree-kept S =
      record {
        left-row = left-kept D (family first n c) left left' (λ z h. same_left z (under z h)) S.left-row;
        right-row = right_kept D (family first n c) right right' (λ z h. same-right z (under z h)) S.right-row;
        left-root = λ h. same_left c root ∙ S.left-root h;
        right-root = λ h. same-right c root ∙ S.right-root h;
      }
    where
      under : (z : ℕ) → 1 ≤ times first n (first c) (first (suc c)) z → 1 ≤ times first n c (suc c) z
      under z h = omega (arith, times-root first n O c z inside)

      root : 1 ≤ times first n c (suc c) c
      root = omega (arith, times-root first n O c c inside, is_same c c refl)

-- a subtree of one node
pub subtree-leaf : (first : ℕ → ℕ) (n : ℕ) (O : Ordered first n) (D : Spacing) (q : ℕ) (left right : ℕ → ℤ) → first (suc q) ≤ first q → Subtree first n D q left right
subtree-leaf first n O D q left right h =
    let nothing : children_drawn first n D q ≡ none = ap (draw D) (run-nil first n O (first q) (first (suc q)) h) in
    record {
      left-row = rw nothing tt;
      right-row = rw nothing tt;
      left-root = λ w. absurd (omega (arith, w, ap width nothing));
      right-root = λ w. absurd (omega (arith, w, ap width nothing));
    }
