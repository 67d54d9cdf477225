-- A node with two children is significant exactly where the two stand further apart than they need. Assumes nothing.
use mathlib.Core.Path.{◌≡◌, refl, sym, ap, ◌∙◌}
use mathlib.Core.Logic.{◌↔◌, ⊎_elim}
use mathlib.Core.Bool.{Bool, true, false, cond}
use mathlib.Core.List.Memᴰ
use mathlib.Core.List.{List, [], ◌∷◌}
use Prim.Native.Nat.{ℕ, ◌+◌, ◌<◌}
use native.Mathlib.Omega.{arith}
use lib.Dec.{ltb}
use lib.IntN.{pos, ◌+ℤ◌}
use lib.Signed.{◌<ℤ◌, clash_ℤ}
use borrow.Author.Tests.{ltb-true, ltb-false}
use Rattle.refusal.proofs.Truth.{true-or-false}
use Rattle.tree.specs.Table.{nodes}
use Rattle.tree.specs.Forest.{Forest, nil, node}
use Rattle.tree.specs.Shape.{under}
use Rattle.tree.specs.WellFormed.{table_number}
use Rattle.rule.specs.Drawing.{none, dot}
use Rattle.rule.specs.Join.{Spacing, Meeting, above0, total, shares, movement, settled}
use Rattle.rule.specs.Rule.{draw, significant_at}
use Rattle.rule.specs.Result.{place}
use Rattle.rule.proofs.Signed.{below0, parts_add, parts_eq, parts_le, at_most, not-le}
use Rattle.rule.proofs.Shares.{share-none}
use Rattle.rule.proofs.OnLevel.{top}
use Rattle.rule.proofs.Significant.{significant-moved}
use Rattle.rule.proofs.LastJoin.{Parent, met, origin, significant-is, extra-is, row-place, child-place}

-- the first child of a row stays
first-stays : (j : ℕ) (ms : List Meeting) → shares j ms 0 ≡ 0
first-stays j [] = refl
first-stays j (m ∷ ms) = omega (arith, share-none j m 0 (omega arith), first-stays j ms)

module _ (D : Spacing) (t : List ℕ) (accepted : table_number t ≡ 0) (v : ℕ) (h : v < nodes t) (c d : ℕ) (f g : Forest) (two : under t v ≡ node c f (node d g nil)) where
  abbrev P : Parent t v
  P = record { accepted = accepted; inside = h; children = record { first = c; first_below = f; others = nil; last = d; below = g; split = two } }

  abbrev ms : List Meeting
  ms = met D P

  -- the second stands as far from the first as the two need, and what it moves further
  apart : place D t d ≡ place D t c +ℤ pos (D.need c d + movement D.extra ms)
  apart =
      parts_eq (place D t d) (place D t c +ℤ pos (D.need c d + movement D.extra ms))
      (omega (
        arith,
        first-stays 1 ms,
        ap above0 left_at,
        ap below0 left_at,
        ap above0 right-at,
        ap below0 right-at,
        parts_add (pos (0 + x)) (pos (shares 1 ms 0)),
        parts_add (pos (0 + x) +ℤ pos (shares 1 ms 0)) (origin D P),
        parts_add (pos (0 + (x + D.need c d))) (pos (movement D.extra ms)),
        parts_add (pos (0 + (x + D.need c d)) +ℤ pos (movement D.extra ms)) (origin D P),
        parts_add (place D t c) (pos (D.need c d + movement D.extra ms)),
      ))
    where
      x : ℕ
      x = settled D none c (draw D f)

      left_at : place D t c ≡ (pos (0 + x) +ℤ pos (shares 1 ms 0)) +ℤ origin D P
      left_at = row-place D P {e = dot 0 c (pos (0 + x))} (top (Memᴰ.head refl))

      right-at : place D t d ≡ (pos (0 + (x + D.need c d)) +ℤ pos (movement D.extra ms)) +ℤ origin D P
      right-at = child-place D P {e = dot 1 d (pos (0 + (x + D.need c d)))} (top (Memᴰ.head refl))

  moved : significant_at D t v ≡ ltb 0 (total ms)
  moved = sym (significant-is D P) ∙ significant-moved D.need c (settled D none c (draw D f)) (draw D f) none d (draw D g)

  pub significant-wider : (significant_at D t v ≡ true) ↔ ((place D t c +ℤ pos (D.need c d)) <ℤ place D t d)
  significant-wider = (wider, told)
    where
      further : 0 < total ms → (place D t c +ℤ pos (D.need c d)) <ℤ place D t d
      further some =
          not-le (place D t c +ℤ pos (D.need c d)) (place D t d)
          (λ near.
          omega (
            arith,
            at_most _ _ near,
            ap above0 apart,
            ap below0 apart,
            parts_add (place D t c) (pos (D.need c d)),
            parts_add (place D t c) (pos (D.need c d + movement D.extra ms)),
          ))

      wider : significant_at D t v ≡ true → (place D t c +ℤ pos (D.need c d)) <ℤ place D t d
      wider e = further (ltb-true 0 (total ms) (sym moved ∙ e))

      -- where nothing was met, nothing is added
      still : significant_at D t v ≡ false → movement D.extra ms ≡ 0
      still e = omega (arith, ltb-false 0 (total ms) (sym moved ∙ e), extra-is D P, ap (λ (b : Bool). cond b D.extra 0) e)

      told : (place D t c +ℤ pos (D.need c d)) <ℤ place D t d → significant_at D t v ≡ true
      told lt =
          ⊎_elim (λ e. e)
          (λ e. clash_ℤ lt
          (parts_le _ _
          (omega (
            arith,
            still e,
            ap above0 apart,
            ap below0 apart,
            parts_add (place D t c) (pos (D.need c d)),
            parts_add (place D t c) (pos (D.need c d + movement D.extra ms)),
          ))))
          (true-or-false (significant_at D t v))
