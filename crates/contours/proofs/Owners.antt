-- The default ancestor: after a join every node of the row's right contour that is out of date belongs to the default. Assumes nothing.
use mathlib.Core.Path.{◌≡◌, ap, ◌∙◌}
use mathlib.Core.Logic.{◌⊎◌, inl, inr}
use mathlib.Core.List.{List, [], ◌∷◌, map}
use Prim.Native.Nat.{ℕ, ◌+◌}
use native.Mathlib.Omega.{arith}
use lib.IntN.{ℤ, pos}
use Rattle.tree.specs.Levels.{beside}
use Rattle.tree.proofs.Counting.{All}
use Rattle.rule.specs.Drawing.{Dot, last_of}
use Rattle.tree.proofs.Joined.{Some}
use Rattle.rule.proofs.LevelEnds.{last_in, last-map, last-append}
use Rattle.contours.specs.Rows.{Outside, Owned}
use Rattle.contours.proofs.Contour.{some-map}

-- what the walk leaves of the new child's right contour: the nodes on the levels walked have the child, at position c, for their ancestor,
-- and those below are out of date
abbrev pub Marked : (ℕ → ℤ) → ℕ → ℕ → ℕ → List (List Dot) → List (List Dot) → Type 0
Marked ancestor f end c xs [] = Unit {0}
Marked ancestor f end c [] (y ∷ ys) = Outside f end (ancestor (last_of y).node) × Marked ancestor f end c [] ys
Marked ancestor f end c (x ∷ xs) (y ∷ ys) = (ancestor (last_of y).node ≡ pos c) × Marked ancestor f end c xs ys

-- the default afterwards: the new child where it goes deeper than the row, else as before
pub data Default (c before : ℕ) : List (List Dot) → List (List Dot) → ℕ → Type 0 where
  kept : {xs : List (List Dot)} → Default c before xs [] before
  moved : {y : List Dot} {ys : List (List Dot)} → Default c before [] (y ∷ ys) c
  lower : {x y : List Dot} {xs ys : List (List Dot)} {d : ℕ} → Default c before xs ys d → Default c before (x ∷ xs) (y ∷ ys) d

module _ (ancestor : ℕ → ℤ) (f end c before j : ℕ) (at_c : c ≡ f + j) (g h : Dot → Dot)
    (gn : (e : Dot) → (g e).node ≡ e.node) (gc : (e : Dot) → (g e).child ≡ e.child)
    (hn : (e : Dot) → (h e).node ≡ e.node) (hc : (e : Dot) → (h e).child ≡ e.child) where
  abbrev Owner : ℕ → Dot → Type 0
  Owner d e = (ancestor e.node ≡ pos (f + e.child)) ⊎ (Outside f end (ancestor e.node) × (d ≡ f + e.child))

  owner-map : (k : Dot → Dot) → ((e : Dot) → (k e).node ≡ e.node) → ((e : Dot) → (k e).child ≡ e.child) → (d : ℕ) (e : Dot) → Owner d e → Owner d (k e)
  owner-map k kn kc d e o = rw (kn e, kc e) o

  rest-row : (d : ℕ) (xs : List (List Dot)) → All Some xs → Owned ancestor f end d xs → Owned ancestor f end d (map (map g) xs)
  rest-row d [] s o = tt
  rest-row d (x ∷ xs) s o = (rw (last-map g x s.0) (owner-map g gn gc d (last_of x) o.0), rest-row d xs s.1 o.1)

  rest-child : (ys : List (List Dot)) → All Some ys → All (All (λ e. e.child ≡ j)) ys → Marked ancestor f end c [] ys → Owned ancestor f end c (map (map h) ys)
  rest-child [] s t m = tt
  rest-child (y ∷ ys) s t m = (
    rw (last-map h y s.0) (owner-map h hn hc c (last_of y) (inr (m.0, omega (arith, last_in (λ e. e.child ≡ j) y s.0 t.0)))),
    rest-child ys s.1 t.1 m.1,
  )

  pub owned-join : (d : ℕ) (xs ys : List (List Dot)) → All Some xs → All Some ys → All (All (λ e. e.child ≡ j)) ys
      → Owned ancestor f end before xs → Marked ancestor f end c xs ys → Default c before xs ys d
      → Owned ancestor f end d (beside (map (map g) xs) (map (map h) ys))
  owned-join d [] [] p q t o m kept = tt
  owned-join d (x ∷ xs) [] p q t o m kept = rest-row before (x ∷ xs) p o
  owned-join d [] (y ∷ ys) p q t o m moved = rest-child (y ∷ ys) q t m
  owned-join d (x ∷ xs) (y ∷ ys) p q t o m (lower r) = (
    rw (last-append (map g x) (map h y) (some-map h y q.0), last-map h y q.0)
        (owner-map h hn hc d (last_of y) (inl (m.0 ∙ ap pos (omega (arith, last_in (λ e. e.child ≡ j) y q.0 t.0))))),
    owned-join d xs ys p.1 q.1 t.1 o.1 m.1 r,
  )
