-- What an accepted call returns, plain or with an extra space: no slack at the last child of a node, which nodes are significant, and how wide the
-- sheet is. Assumes nothing.
use mathlib.Core.Path.{◌≡◌, refl, sym, ap, ap₂, ◌∙◌, subst, subst₂}
use mathlib.Core.Logic.{◌↔◌}
use mathlib.Core.Bool.{Bool, true, false, cond, ◌&&◌}
use mathlib.Core.List.{List, [], ◌∷◌}
use Prim.Native.Nat.{ℕ, ◌+◌, ◌-◌, ◌*◌, ◌≤◌, ◌<◌}
use native.Mathlib.Nat.{mul-le-mul_right}
use native.Mathlib.Omega.{arith}
use lib.IntN.{ℤ, pos, ◌+ℤ◌}
use lib.ListN.{length, get_or}
use lib.Signed.{◌≤ℤ◌, ◌<ℤ◌}
use Rattle.refusal.proofs.Truth.{and_left, and_right}
use Rattle.distance.specs.Needed.{needed, widest}
use Rattle.distance.proofs.HalfWidths.{needed-at_most}
use Rattle.tree.specs.Numbers.{member}
use Rattle.tree.specs.Table.{nodes}
use Rattle.tree.specs.Forest.{Forest, nil, node, roots, preorder}
use Rattle.tree.specs.Levels.{children_of}
use Rattle.tree.specs.Shape.{under}
use Rattle.tree.proofs.Counting.{is_same}
use Rattle.tree.proofs.Tests.{member-count, count-member}
use Rattle.rule.specs.Join.{Spacing, spaced}
use Rattle.rule.specs.Rule.{significant_at, extra_at}
use Rattle.rule.specs.Result.{Slices, Answer, Layout}
use Rattle.rule.proofs.Signed.{raised}
use Rattle.rule.proofs.LastJoin.{LastOf, Parent, earlier, latest, two-or-more}
use Rattle.rule.proofs.Tight.{exact_between, no_closer}
use Rattle.rule.proofs.TwoChildren.{significant-wider}
use Rattle.rule.proofs.Extremes.{width_bound}
use Rattle.layout.proofs.Returned.{Call, layout-call, accepted, place_of, level_of, pair_of, place-returned, level-returned, recorded-returned}
use Rattle.treetex.specs.TreeTeX.{TreeTeX}
use Rattle.treetex.proofs.Returned.{treetex_call}
use Rattle.slack.specs.Slack.{NoSlack, most_width}
use Rattle.slack.proofs.Subtrees.{earlier-inside, latest-inside, between_is}

-- a forest of two trees
two_trees : (f : Forest) (c d : ℕ) → roots f ≡ c ∷ d ∷ [] → (b : Forest) × (g : Forest) × (f ≡ node c b (node d g nil))
two_trees nil c d e = absurd (omega (arith, ap length e))
two_trees (node x f nil) c d e = absurd (omega (arith, ap length e))
two_trees (node x f (node y g nil)) c d e =
    (f, g, ap₂ (λ (v w : ℕ). node v f (node w g nil)) (ap (λ (l : List ℕ). get_or l 0 0) e) (ap (λ (l : List ℕ). get_or l 1 0) e))
two_trees (node x f (node y g (node z k h))) c d e = absurd (omega (arith, ap length e))

-- ---- any call

module _ {t : List ℕ} {D : ℕ} {hs : List ℕ} {extra : ℕ} {s : Slices} {a : Answer} {u : Slices} (C : Call t D hs extra s a u) where
  abbrev N : Spacing
  N = spaced (needed D hs) extra

  -- at a node with two or more children
  module _ (v : ℕ) (h : v < nodes t) (two : 2 ≤ length (children_of t v)) where
    P : Parent t v
    unfolding children_of under
    P = record { accepted = accepted C; inside = h; children = two-or-more (under t v) two }

    abbrev L : LastOf (under t v)
    L = P.children

    pub no_slack_returned : NoSlack (needed D hs) (extra_at N t v) t v (level_of u) (place_of u)
    no_slack_returned =
        let X = exact_between N P in
        record {
          left = X.left;
          right = X.right;
          side_by_side = X.side_by_side;
          across = between_is P X.left X.right
              ∙ ap₂ ◌&&◌ (count-member X.left (preorder (earlier L)) X.left_in) (count-member X.right (preorder (latest L)) X.right_in);
          exactly = place-returned C X.right (latest-inside P X.right X.right_in)
              ∙ X.exactly
              ∙ ap (λ (z : ℤ). z +ℤ pos (needed D hs X.left X.right + extra_at N t v))
              (sym (place-returned C X.left (earlier-inside P X.left X.left_in)));
          no_closer = λ x y b e.
              let both = sym (between_is P x y) ∙ b in
              let cx = member-count x (preorder (earlier L)) (and_left (member x (preorder (earlier L))) (member y (preorder (latest L))) both) in
              let cy = member-count y (preorder (latest L)) (and_right (member x (preorder (earlier L))) (member y (preorder (latest L))) both) in
              let ix = earlier-inside P x cx in
              let iy = latest-inside P y cy in
              subst₂ (λ (p q : ℤ). (p +ℤ pos (needed D hs x y + extra_at N t v)) ≤ℤ q) (sym (place-returned C x ix)) (sym (place-returned C y iy))
              (no_closer N P (λ a b c. omega arith) x y cx cy (sym (level-returned C x ix) ∙ e ∙ level-returned C y iy));
        }

    -- the record names the two
    pub exact-recorded : (i : ℕ) × (i < a.pairs) × (pair_of u i ≡ (no_slack_returned.left, no_slack_returned.right))
    exact-recorded = recorded-returned C no_slack_returned.left no_slack_returned.right no_slack_returned.side_by_side

  -- at a node with two children, c and d: it is significant exactly where these stand further apart than they need
  pub significant-returned : (v : ℕ) → v < nodes t → (c d : ℕ) → children_of t v ≡ c ∷ d ∷ []
      → (significant_at N t v ≡ true) ↔ ((place_of u c +ℤ pos (needed D hs c d)) <ℤ place_of u d)
  unfolding children_of under
  significant-returned v h c d e =
      let r = two_trees (under t v) c d e in
      let P : Parent t v = record { accepted = accepted C; inside = h; children = record { first = c; first_below = r.0; others = nil; last = d; below = r.1; split = r.2 } } in
      subst₂ (λ (x y : ℤ). (significant_at N t v ≡ true) ↔ ((x +ℤ pos (needed D hs c d)) <ℤ y))
      (sym (place-returned C c (earlier-inside P c (omega (arith, is_same c c refl))))) (sym (place-returned C d (latest-inside P d (omega (arith, is_same d d refl)))))
      (significant-wider N t (accepted C) v h c d r.0 r.1 r.2)

  -- the sheet is at most so wide as its answer allows
  pub width-returned : a.greatest ≤ℤ (a.least +ℤ pos (most_width a.nodes (D + 2 * widest a.nodes hs) extra))
  width-returned =
      rw (C.laid.greatest, C.laid.least, C.laid.nodes) (width_bound N t (accepted C) (D + 2 * widest (nodes t) hs) (needed-at_most hs D (nodes t)))

-- ---- a call of the layout

module _ (t : List ℕ) (D : ℕ) (hs : List ℕ) (s : Slices) (a : Answer) (u : Slices) (L : Layout t D hs s a u) (e : a.number ≡ 0) where
  -- at every node with two or more children some neighbours stand exactly at the distance that they need
  pub plain-no_slack : (v : ℕ) → v < nodes t → 2 ≤ length (children_of t v) → NoSlack (needed D hs) 0 t v (level_of u) (place_of u)
  plain-no_slack v h two =
      subst (λ (k : ℕ). NoSlack (needed D hs) k t v (level_of u) (place_of u)) (nothing (significant_at (spaced (needed D hs) 0) t v))
      (no_slack_returned (layout-call {t = t} {D = D} {hs = hs} {s = s} L e) v h two)
    where
      nothing : (b : Bool) → cond {A = ℕ} b 0 0 ≡ 0
      nothing true = refl
      nothing false = refl

  -- and with one node more for the width it is the bound that was asked for
  pub plain-width : a.greatest ≤ℤ (a.least +ℤ pos ((a.nodes - 1) * (D + 2 * widest a.nodes hs)))
  plain-width =
      let W = D + 2 * widest a.nodes hs in
      let fewer : a.nodes - 2 ≤ a.nodes - 1 = omega arith in
      raised _ _ _ ((a.nodes - 1) * W) (width-returned (layout-call {t = t} {D = D} {hs = hs} {s = s} L e)) (omega (arith, mul-le-mul_right W fewer))

-- ---- a call of the layout for TreeTeX

module _ (t : List ℕ) (D : ℕ) (hs : List ℕ) (extra : ℕ) (s : Slices) (a : Answer) (u : Slices) (L : TreeTeX t D hs extra s a u) (e : a.number ≡ 0)
    (v : ℕ) (h : v < nodes t) (two : 2 ≤ length (children_of t v)) where
  abbrev Slack : ℕ → Type 0
  Slack more = NoSlack (needed D hs) more t v (level_of u) (place_of u)

  told : (b : Bool) → significant_at (spaced (needed D hs) extra) t v ≡ b → Slack (cond b extra 0)
  told b same = subst (λ (b : Bool). Slack (cond b extra 0)) same (no_slack_returned (treetex_call {t = t} {D = D} {hs = hs} {extra = extra} {s = s} L e) v h two)

  -- at a significant node it is that distance and the extra space, at any other that distance alone
  pub significant-no_slack : significant_at (spaced (needed D hs) extra) t v ≡ true → Slack extra
  significant-no_slack = told true

  pub other-no_slack : significant_at (spaced (needed D hs) extra) t v ≡ false → Slack 0
  other-no_slack = told false
