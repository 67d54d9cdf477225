-- The walk down the right contour of a row and the left contour of a new child: how far each child moves, and that on every level the two
-- keep their distance afterwards. Assumes nothing.
use mathlib.Core.Path.{◌≡◌}
use mathlib.Core.List.{List, [], ◌∷◌}
use Prim.Native.Nat.{ℕ, ◌+◌, ◌≤◌}
use native.Mathlib.Nat.{le_trans, le_refl}
use native.Mathlib.Omega.{arith}
use lib.IntN.{ℤ, pos, ◌+ℤ◌, ◌-ℤ◌}
use Rattle.distance.specs.Needed.{Distance}
use Rattle.tree.proofs.Counting.{All}
use Rattle.rule.specs.Drawing.{Dot, first_of, last_of, left_contour, right_contour}
use Rattle.rule.specs.Join.{Meeting, shortfall, meet, shares, total}
use Rattle.rule.proofs.Signed.{parts_add, parts_sub, AtMost}
use Rattle.rule.proofs.Shares.{shares-le, share-none}

-- down the right contour the children are met from right to left
abbrev pub Falling : ℕ → List (List Dot) → Type 0
Falling c [] = Unit {0}
Falling c (x ∷ xs) = ((last_of x).child ≤ c) × Falling (last_of x).child xs

-- on every level that both have, the row's last dot, moved by m, keeps its distance, and `extra` more, from the new child's first dot, moved by t
abbrev pub Seams : Distance → ℕ → (ℕ → ℕ) → ℕ → List (List Dot) → List (List Dot) → Type 0
Seams D extra m t [] ys = Unit {0}
Seams D extra m t (x ∷ xs) [] = Unit {0}
Seams D extra m t (x ∷ xs) (y ∷ ys) =
    AtMost ((last_of x).place +ℤ pos (m (last_of x).child) +ℤ pos (D (last_of x).node (first_of y).node + extra)) ((first_of y).place +ℤ pos t)
    × Seams D extra m t xs ys

-- The walk from a level on. The new child, with the number j, has moved by `moved` so far and moves by t in all, of which `extra` is added
-- after the walk; a child up to c, the one that was met last, moves by its shares in what is yet to be met.
pub record Walking (D : Distance) (j c moved : ℕ) (xs ys : List (List Dot)) (m : ℕ → ℕ) (t extra : ℕ) : Type 0 where
  pub falling : Falling c xs
  pub owned : All (λ x. (last_of x).child ≤ j) xs
  pub moves : (p : ℕ) → p ≤ c → m p ≡ shares j (meet D moved (right_contour xs) (left_contour ys)) p
  pub whole : t ≡ moved + total (meet D moved (right_contour xs) (left_contour ys)) + extra

-- what is met on a level
abbrev pub met : Distance → ℕ → List Dot → List Dot → Meeting
met D moved x y =
    record {
      child = (last_of x).child;
      amount = shortfall (D (last_of x).node (first_of y).node) (last_of x).place ((first_of y).place +ℤ pos moved);
    }

module _ {D : Distance} {j c moved : ℕ} {x y : List Dot} {xs ys : List (List Dot)} {m : ℕ → ℕ} {t extra : ℕ} (W : Walking D j c moved (x ∷ xs) (y ∷ ys) m t extra) where
  -- the walk from the next level on
  pub walk-on : Walking D j (last_of x).child (moved + (met D moved x y).amount) xs ys m t extra
  walk-on =
      record {
        falling = W.falling.1;
        owned = W.owned.1;
        moves = λ p h. omega (arith, W.moves p (le_trans h W.falling.0), share-none j (met D moved x y) p h);
        whole = omega arith;
      }

  -- the child that is met here moves by no more than is met below
  pub met-moves : m (last_of x).child ≤ total (meet D (moved + (met D moved x y).amount) (right_contour xs) (left_contour ys))
  met-moves =
      omega (
        arith,
        W.moves (last_of x).child W.falling.0,
        share-none j (met D moved x y) (last_of x).child (le_refl _),
        shares-le j (meet D (moved + (met D moved x y).amount) (right_contour xs) (left_contour ys)) (last_of x).child W.owned.0,
      )

-- what a shortfall says: moved by it, the node on the right keeps its distance
shortfall-enough : (d : ℕ) (a b : ℤ) (moved : ℕ) → AtMost (a +ℤ pos d) (b +ℤ pos (moved + shortfall d a (b +ℤ pos moved)))
shortfall-enough d a b moved =
    omega (
      arith,
      parts_add a (pos d),
      parts_add b (pos moved),
      parts_sub (b +ℤ pos moved) a,
      parts_sub (pos d) (b +ℤ pos moved -ℤ a),
      parts_add b (pos (moved + shortfall d a (b +ℤ pos moved))),
    )

pub walk-seams : {D : Distance} {j c moved : ℕ} (xs ys : List (List Dot)) {m : ℕ → ℕ} {t extra : ℕ} → Walking D j c moved xs ys m t extra → Seams D extra m t xs ys
walk-seams [] ys W = tt
walk-seams (x ∷ xs) [] W = tt
walk-seams {D = D} {c = c} {moved = moved} (x ∷ xs) (y ∷ ys) {m} {t} {extra} W =
    let d = D (last_of x).node (first_of y).node in (
      omega (
        arith,
        shortfall-enough d (last_of x).place (first_of y).place moved,
        met-moves W,
        parts_add (last_of x).place (pos d),
        parts_add (last_of x).place (pos (m (last_of x).child)),
        parts_add ((last_of x).place +ℤ pos (m (last_of x).child)) (pos (d + extra)),
        parts_add (first_of y).place (pos (moved + (met D moved x y).amount)),
        parts_add (first_of y).place (pos t),
      ),
      walk-seams {c = (last_of x).child} xs ys (walk-on W),
    )
