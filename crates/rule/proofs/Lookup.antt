-- The nodes on the levels of a drawing are those of its forest, and where no number occurs twice, a node's place and level are those of its dot.
-- Assumes nothing.
use mathlib.Core.Path.{◌≡◌, refl, sym, ap, ◌∙◌}
use mathlib.Core.Logic.{⊎_elim}
use mathlib.Core.Bool.{Bool, cond}
use mathlib.Core.List.Memᴰ
use mathlib.Core.List.{List, [], ◌∷◌, ◌++◌, map, map-append, Memᴰ}
use Prim.Native.Nat.{ℕ, suc, ◌≤◌}
use native.Mathlib.Omega.{arith}
use lib.IntN.{pos}
use borrow.Author.Tests.{eq-eqb, ne_eqb}
use Rattle.tree.specs.Numbers.{count, member}
use Rattle.tree.specs.Forest.{tree_of, preorder}
use Rattle.tree.specs.Levels.{levels, together, level_in, level}
use Rattle.tree.specs.WellFormed.{table_number}
use Rattle.tree.proofs.Counting.{is_same, is-cases, count-append}
use Rattle.refusal.proofs.Truth.{true-or-false}
use Rattle.tree.proofs.Tests.{member-count, member-none, in_cons, in_append}
use Rattle.tree.proofs.Stands.{accepted-once}
use Rattle.tree.proofs.LevelOf.{count-levels}
use Rattle.rule.specs.Drawing.{Drawing, Dot}
use Rattle.rule.specs.Join.{Spacing}
use Rattle.rule.specs.Rule.{draw, drawn}
use Rattle.rule.specs.Result.{place_in, place}
use Rattle.rule.proofs.Names.{names, names-draw, nodes-dots}
use Rattle.rule.proofs.OnLevel.{OnLevel, top, down}

-- ---- one list of dots

abbrev pub nodes_of : List Dot → List ℕ
nodes_of = map (λ e. e.node)

pub in_count : {e : Dot} {l : List Dot} → Memᴰ e l → 1 ≤ count e.node (nodes_of l)
in_count {e} (Memᴰ.head {x = x} p) = omega (arith, is_same e.node x.node (ap (λ (d : Dot). d.node) p))
in_count {e} (Memᴰ.tail m) = omega (arith, in_count m)

place_here : {e : Dot} {l : List Dot} → Memᴰ e l → count e.node (nodes_of l) ≤ 1 → place_in l e.node ≡ e.place
place_here {e} (Memᴰ.head {x = x} {xs = xs} p) c =
    ap (λ (b : Bool). cond b x.place (place_in xs e.node)) (eq-eqb e.node x.node (ap (λ (d : Dot). d.node) p))
    ∙ sym (ap (λ (d : Dot). d.place) p)
place_here {e} (Memᴰ.tail {x = x} {xs = xs} m) c =
    ⊎_elim (λ s. absurd (omega (arith, in_count m)))
    (λ s. ap (λ (b : Bool). cond b x.place (place_in xs e.node)) (ne_eqb e.node x.node s.0) ∙ place_here m (omega arith))
    (is-cases e.node x.node)

-- ---- levels of dots

pub on-together : {e : Dot} {l : ℕ} {xs : List (List Dot)} → OnLevel e l xs → Memᴰ e (together xs)
on-together (top {xs = xs} m) = Memᴰ.append_left (together xs) m
on-together (down {x = x} o) = Memᴰ.append_right x (on-together o)

pub nodes-together : (xs : List (List Dot)) → nodes_of (together xs) ≡ together (map nodes_of xs)
nodes-together [] = refl
nodes-together (x ∷ xs) = map-append (λ e. e.node) x (together xs) ∙ ap (λ (l : List ℕ). nodes_of x ++ l) (nodes-together xs)

-- a dot is found on some level for each number that occurs
dot_of : (x : ℕ) (l : List Dot) → 1 ≤ count x (nodes_of l) → (e : Dot) × Memᴰ e l × (e.node ≡ x)
dot_of x [] c = absurd (omega arith)
dot_of x (d ∷ l) c =
    ⊎_elim (λ p. (d, Memᴰ.head refl, sym p)) (λ k. let r = dot_of x l k in (r.0, Memᴰ.tail r.1, r.2)) (in_cons x d.node (nodes_of l) c)

dot-on : (x : ℕ) (xs : List (List Dot)) → 1 ≤ count x (together (map nodes_of xs)) → (e : Dot) × (l : ℕ) × OnLevel e l xs × (e.node ≡ x)
dot-on x [] c = absurd (omega arith)
dot-on x (y ∷ ys) c =
    ⊎_elim (λ k. let r = dot_of x y k in (r.0, 0, top r.1, r.2)) (λ k. let r = dot-on x ys k in (r.0, suc r.1, down r.2, r.3))
    (in_append x (nodes_of y) (together (map nodes_of ys)) c)

-- levels of a drawing
module _ (d : Drawing) (xs : List (List Dot)) (same : map nodes_of xs ≡ levels (names d)) where
  occurs : (x : ℕ) → count x (together (map nodes_of xs)) ≡ count x (preorder (names d))
  occurs x = ap (λ (ls : List (List ℕ)). count x (together ls)) same ∙ count-levels x (names d)

  pub on-names : {e : Dot} {l : ℕ} → OnLevel e l xs → 1 ≤ count e.node (preorder (names d))
  on-names {e} o = omega (arith, in_count (on-together o), ap (count e.node) (nodes-together xs), occurs e.node)

  pub names-on : (x : ℕ) → 1 ≤ count x (preorder (names d)) → (e : Dot) × (l : ℕ) × OnLevel e l xs × (e.node ≡ x)
  names-on x c = dot-on x xs (omega (arith, c, occurs x))

level-here : {e : Dot} {l : ℕ} {xs : List (List Dot)} → OnLevel e l xs → count e.node (together (map nodes_of xs)) ≤ 1 → level_in (map nodes_of xs) e.node ≡ l
level-here {e} (top {x = x} {xs = xs} m) c =
    ⊎_elim (λ t. ap (λ (b : Bool). cond b 0 (suc (level_in (map nodes_of xs) e.node))) t)
    (λ f. absurd (omega (arith, in_count m, member-none e.node (nodes_of x) f)))
    (true-or-false (member e.node (nodes_of x)))
level-here {e} (down {x = x} {xs = xs} o) c =
    ⊎_elim (λ t. absurd (omega (
      arith,
      count-append e.node (nodes_of x) (together (map nodes_of xs)),
      member-count e.node (nodes_of x) t,
      in_count (on-together o),
      ap (count e.node) (nodes-together xs),
    )))
    (λ f. ap (λ (b : Bool). cond b 0 (suc (level_in (map nodes_of xs) e.node))) f
    ∙ ap suc (level-here o (omega (arith, count-append e.node (nodes_of x) (together (map nodes_of xs))))))
    (true-or-false (member e.node (nodes_of x)))

-- ---- the drawing of an accepted table

module _ (D : Spacing) (t : List ℕ) (accepted : table_number t ≡ 0) where
  -- the drawing's levels are the tree's
  pub nodes-drawn : map nodes_of (drawn D t) ≡ levels (tree_of t)
  unfolding drawn
  nodes-drawn = nodes-dots 0 (pos 0) (draw D (tree_of t)) ∙ ap levels (names-draw D (tree_of t))

  once : (x : ℕ) → count x (together (map nodes_of (drawn D t))) ≤ 1
  once x = omega (arith, ap (λ (l : List (List ℕ)). count x (together l)) nodes-drawn, count-levels x (tree_of t), accepted-once t accepted x)

  pub dot-place : (e : Dot) (l : ℕ) → OnLevel e l (drawn D t) → place D t e.node ≡ e.place
  unfolding place
  dot-place e l o = place_here (on-together o) (omega (arith, ap (count e.node) (nodes-together (drawn D t)), once e.node))

  pub dot-level : (e : Dot) (l : ℕ) → OnLevel e l (drawn D t) → level t e.node ≡ l
  unfolding level
  dot-level e l o = ap (λ (ls : List (List ℕ)). level_in ls e.node) (sym nodes-drawn) ∙ level-here o (once e.node)
