-- The boundary lemma: the nodes one level below a run of neighbouring positions are again such a run, and so the contours of a drawing of
-- positions are known from the run's two ends. Assumes nothing.
use mathlib.Core.Path.{◌≡◌, refl, ap}
use mathlib.Core.List.{List, [], ◌∷◌}
use Prim.Native.Nat.{ℕ, suc, ◌+◌, ◌≤◌, ◌<◌}
use native.Mathlib.Omega.{arith}
use lib.IntN.{ℤ, pos, ◌+ℤ◌, ◌-ℤ◌}
use Rattle.tree.specs.Levels.{beside}
use Rattle.rule.specs.Drawing.{Drawing, none, at, middle, Dot, dot, dots, row_dots, first_of, last_of}
use Rattle.rule.specs.Join.{Spacing, alone}
use Rattle.rule.specs.Rule.{draw}
use Rattle.rule.proofs.Names.{names, names-draw}
use Rattle.rule.proofs.LevelEnds.{last-append}
use Rattle.level_order.proofs.Positions.{Ordered, Laid, within, run, family, laid-run}
use Rattle.tree.proofs.Joined.{Some, some, some-front}
use Rattle.contours.proofs.Contour.{first-append}

-- levels whose nodes are the runs from a to b, from first a to first b, and so on; each run ends before the next level's begins
abbrev pub Runs : (ℕ → ℕ) → ℕ → ℕ → List (List Dot) → Type 0
Runs first a b [] = a ≡ b
Runs first a b (x ∷ xs) = (a < b) × ((first_of x).node ≡ a) × (suc (last_of x).node ≡ b) × Some x × Runs first (first a) (first b) xs

runs_beside : (first : ℕ → ℕ) (a b c : ℕ) (xs ys : List (List Dot)) → Runs first a b xs → Runs first b c ys → Runs first a c (beside xs ys)
runs_beside first a b c [] ys r s = rw r s
runs_beside first a b c (x ∷ xs) [] r s = rw s at r
runs_beside first a b c (x ∷ xs) (y ∷ ys) r s = (
  omega (arith, r.0, s.0),
  rw (first-append x y r.3) r.1,
  rw (last-append x y s.3) s.2,
  some-front x y r.3,
  runs_beside first (first a) (first b) (first c) xs ys r.4 s.4,
)

runs_dots : (first : ℕ → ℕ) (i : ℕ) (o : ℤ) (d : Drawing) (a b : ℕ) → Laid first a b (names d) → Runs first a b (dots i o d)
runs_dots first i o none a b l = l
runs_dots first i o (at v x below after) a b l =
    runs_beside first a (suc a) b ((dot i v (o +ℤ pos x) ∷ []) ∷ dots i (o +ℤ pos x -ℤ pos (middle below)) below) (dots i o after) (
      omega arith,
      l.0,
      ap suc l.0,
      some,
      runs_dots first i (o +ℤ pos x -ℤ pos (middle below)) below (first a) (first (suc a)) l.2,
    )
    (runs_dots first i o after (suc a) b l.3)

runs_row : (first : ℕ → ℕ) (i : ℕ) (d : Drawing) (a b : ℕ) → Laid first a b (names d) → Runs first a b (row_dots i d)
runs_row first i none a b l = l
runs_row first i (at v x below after) a b l =
    runs_beside first a (suc a) b (dots i (pos 0) (alone v x below)) (row_dots (i + 1) after)
    (runs_dots first i (pos 0) (alone v x below) a (suc a) (l.0, omega arith, l.2, refl))
    (runs_row first (i + 1) after (suc a) b l.3)

-- ---- the runs of level order

module _ (first : ℕ → ℕ) (n : ℕ) (O : Ordered first n) where
  -- the levels of the drawn rows
  pub runs_draw : (D : Spacing) (a b : ℕ) → a ≤ b → b ≤ n → Runs first a b (row_dots 0 (draw D (run first n a b)))
  runs_draw D a b h hb = runs_row first 0 (draw D (run first n a b)) a b (rw names-draw (laid-run first n O a b h hb))

  -- the levels of a drawn subtree
  pub runs_alone : (D : Spacing) (i c x : ℕ) → c < n → Runs first c (suc c) (dots i (pos 0) (alone c x (draw D (family first n c))))
  runs_alone D i c x h =
      runs_dots first i (pos 0) (alone c x (draw D (family first n c))) c (suc c) (
        refl,
        omega arith,
        rw (names-draw D (family first n c)) (laid-run first n O (first c) (first (suc c)) (O.mono c h) (within first n O (suc c) h)),
        refl,
      )
