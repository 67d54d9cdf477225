-- Where a child is joined to a row, every dot of the row keeps its distance from every dot of the child on its level, and what is added more; where
-- no two nodes need more than they do by way of a third. Assumes nothing.
use mathlib.Core.Path.{refl}
use mathlib.Core.List.Memᴰ
use mathlib.Core.List.{List, [], ◌∷◌, Memᴰ}
use Prim.Native.Nat.{ℕ, zero, suc, ◌+◌, ◌≤◌}
use native.Mathlib.Nat.{le_refl}
use native.Mathlib.Omega.{arith}
use lib.IntN.{pos, ◌+ℤ◌}
use Rattle.distance.specs.Needed.{Distance}
use Rattle.tree.proofs.Counting.{All}
use Rattle.rule.specs.Drawing.{Dot, first_of, last_of}
use Rattle.rule.proofs.Signed.{parts_add, AtMost}
use Rattle.rule.proofs.OnLevel.{OnLevel, top, down}
use Rattle.rule.proofs.Walk.{Seams}
use Rattle.rule.proofs.Led.{last-right}
use Rattle.rule.proofs.Spacing.{Spaced}

module _ (D : Distance) (around : (a b c : ℕ) → D a c ≤ D a b + D b c) where
  -- on one level, what a node c needs after a dot ends no further right than what it needs after the last one
  to_last : (c : ℕ) (d : Dot) (x : List Dot) → Spaced D x → Memᴰ d x → AtMost (d.place +ℤ pos (D d.node c)) ((last_of x).place +ℤ pos (D (last_of x).node c))
  to_last c d [] s x3 = elim x3 [ ]
  to_last c d (e ∷ []) s (Memᴰ.head p) = rw p (le_refl _)
  to_last c d (e ∷ []) s (Memᴰ.tail k) = absurd (Memᴰ.not-nil k)
  to_last c d (e ∷ f ∷ l) s (Memᴰ.head p) =
      rw p
      (omega (
        arith,
        s.0.apart,
        around e.node f.node c,
        to_last c f (f ∷ l) s.1 (Memᴰ.head refl),
        parts_add e.place (pos (D e.node c)),
        parts_add e.place (pos (D e.node f.node)),
        parts_add f.place (pos (D f.node c)),
      ))
  to_last c d (e ∷ f ∷ l) s (Memᴰ.tail k) = to_last c d (f ∷ l) s.1 k

  -- and what a dot needs after a node c begins no further left than what the first one needs
  from_first : (c : ℕ) (e : Dot) (y : List Dot) → Spaced D y → Memᴰ e y → AtMost ((first_of y).place +ℤ pos (D c e.node)) (e.place +ℤ pos (D c (first_of y).node))
  from_first c e [] s x'' = elim x'' [ ]
  from_first c e (b ∷ l) s (Memᴰ.head p) = rw p (le_refl _)
  from_first c e (b ∷ []) s (Memᴰ.tail k) = absurd (Memᴰ.not-nil k)
  from_first c e (b ∷ f ∷ l) s (Memᴰ.tail k) =
      omega (
        arith,
        s.0.apart,
        around c b.node f.node,
        from_first c e (f ∷ l) s.1 k,
        parts_add b.place (pos (D c e.node)),
        parts_add b.place (pos (D b.node f.node)),
        parts_add f.place (pos (D c e.node)),
        parts_add e.place (pos (D c f.node)),
        parts_add e.place (pos (D c b.node)),
      )

  -- the row's dots moved by m, the child's by t
  pub across : (extra : ℕ) (m : ℕ → ℕ) (t : ℕ) → ((p r : ℕ) → p ≤ r → m p ≤ m r) → (xs ys : List (List Dot)) → All (Spaced D) xs → All (Spaced D) ys → Seams D extra m t xs ys
      → (d e : Dot) (l : ℕ) → OnLevel d l xs → OnLevel e l ys → AtMost (d.place +ℤ pos (m d.child) +ℤ pos (D d.node e.node + extra)) (e.place +ℤ pos t)
  across extra m t mono [] ys sx sy S d e l x5 _ = elim x5 [ ]
  across extra m t mono (x ∷ xs) [] sx sy S d e l _ x13 = elim x13 [ ]
  across extra m t mono (x ∷ xs) (y ∷ ys) sx sy S d e zero (top i) (top k) =
      let a = last_of x in
      let b = first_of y in
      omega (
        arith,
        S.0,
        mono d.child a.child (last-right D d x sx.0 i).0,
        to_last e.node d x sx.0 i,
        from_first a.node e y sy.0 k,
        parts_add d.place (pos (D d.node e.node)),
        parts_add a.place (pos (D a.node e.node)),
        parts_add b.place (pos (D a.node e.node)),
        parts_add e.place (pos (D a.node b.node)),
        parts_add d.place (pos (m d.child)),
        parts_add (d.place +ℤ pos (m d.child)) (pos (D d.node e.node + extra)),
        parts_add a.place (pos (m a.child)),
        parts_add (a.place +ℤ pos (m a.child)) (pos (D a.node b.node + extra)),
        parts_add b.place (pos t),
        parts_add e.place (pos t),
      )
  across extra m t mono (x ∷ xs) (y ∷ ys) sx sy S d e (suc l) (down o) (down p) = across extra m t mono xs ys sx.1 sy.1 S.1 d e l o p
