-- Laws of what an operation that gave the number k leaves: a result field, a lent slice, and a slice whose first entries are new.
-- Assumes nothing.
use mathlib.Core.Path.{◌≡◌, refl, sym, ap, ap₂, ◌∙◌}
use mathlib.Core.List.{List, [], ◌∷◌, ◌++◌, append_assoc, append-nil}
use Prim.Native.Nat.{ℕ, zero, suc, ◌+◌, ◌-◌, ◌≤◌, ◌<◌}
use native.Mathlib.Nat.{le_of_eq, zero-add, add-zero, add-suc, suc-add}
use native.Mathlib.Omega.{arith}
use lib.ListN.{length, get_or, take, drop, set, length-append, length-drop, take-append-drop, drop_of_length-le}
use lib.Seq.{sets, sets-eq, drop-cons, drop-drop, drop-append-add, set_at, append_snoc, take_all, take_at, drop_at, drop-append-le, length-take-le}
use borrow.Rule.Slice.PartMut.{mid_of, put_mid}
use Rattle.refusal.specs.After.{granted, overwrite, after}

module _ {A : Type 0} where
  -- a field is x where the number is 0, and else what a refusal gives
  pub granted-accepted : (k : ℕ) (x y : A) → k ≡ 0 → granted k x y ≡ x
  granted-accepted k x y e = rw e

  pub granted-refused : (k : ℕ) (x y : A) → (k ≡ 0 → ⊥) → granted k x y ≡ y
  granted-refused zero x y d = absurd (d refl)
  granted-refused (suc k) x y d = refl

  -- a slice has its first entries new where the number is 0, and else is as it was
  pub after-accepted : (k : ℕ) (new old : List A) → k ≡ 0 → after k new old ≡ overwrite new old
  unfolding after
  after-accepted k new old e = rw e

  pub after-refused : (k : ℕ) (new old : List A) → (k ≡ 0 → ⊥) → after k new old ≡ old
  unfolding after
  after-refused zero new old d = absurd (d refl)
  after-refused (suc k) new old d = refl

  -- n new entries, and then the old ones from entry n on
  pub overwrite-split : (n : ℕ) (new old : List A) → length new ≡ n → overwrite new old ≡ new ++ drop n old
  unfolding overwrite
  overwrite-split n new old size = rw size

  pub take-overwrite : (n : ℕ) (new old : List A) → length new ≡ n → take n (overwrite new old) ≡ new
  unfolding overwrite
  take-overwrite n new old size = take_at new (drop (length new) old) n size

  pub length-overwrite : (new old : List A) → length new ≤ length old → length (overwrite new old) ≡ length old
  unfolding overwrite
  length-overwrite new old fits = simp (length-append, length-drop) (omega arith)

  -- the first n entries apart: overwritten, and put back before the others
  pub overwrite-front : (n : ℕ) (new old : List A) → length new ≤ n → n ≤ length old → overwrite new (take n old) ++ drop n old ≡ overwrite new old
  unfolding overwrite
  overwrite-front n new old fits room =
      let within : length new ≤ length (take n old) = rw (length-take-le n old room) fits in
      append_assoc new (drop (length new) (take n old)) (drop n old)
      ∙ ap (λ (rest : List A). new ++ rest) (sym (drop-append-le (length new) (take n old) (drop n old) within) ∙ ap (drop (length new)) (take-append-drop n old))

  -- entries that are overwritten again
  pub overwrite-again : (new more old : List A) → length more ≤ length new → overwrite new (overwrite more old) ≡ overwrite new old
  unfolding overwrite
  overwrite-again new more old fits =
      let k : ℕ = length new - length more in
      let whole : length more + k ≡ length new = omega arith in
      ap (λ (rest : List A). new ++ rest)
      (ap (λ (n : ℕ). drop n (more ++ drop (length more) old)) (sym whole)
      ∙ drop-append-add more (drop (length more) old) k
      ∙ drop-drop k (length more) old
      ∙ ap (λ (n : ℕ). drop n old) whole)

  -- an entry stored behind the new ones is one more of them
  pub store_one : (new old : List A) (i : ℕ) (x : A) → length new ≡ i → i < length old → set (overwrite new old) i x ≡ overwrite (new ++ x ∷ []) old
  unfolding overwrite
  store_one new old i x size room =
      let one_more : length (new ++ x ∷ []) ≡ suc i = simp length-append (omega arith) in
      rw (one_more, size, drop-cons old i x room, set_at new (get_or old i x) (drop (suc i) old) x i size) (sym (append_snoc new x (drop (suc i) old)))

  pub store_two : (new old : List A) (i : ℕ) (x y : A) → length new ≡ i → i + 1 < length old
      → set (set (overwrite new old) i x) (i + 1) y ≡ overwrite (new ++ x ∷ y ∷ []) old
  store_two new old i x y size room =
      let here : i < length old = omega arith in
      let next : length (new ++ x ∷ []) ≡ i + 1 = simp length-append (omega arith) in
      rw (store_one new old i x size here, store_one (new ++ x ∷ []) old (i + 1) y next room, append_assoc new (x ∷ []) (y ∷ []))

  -- the slice from the end of the new entries on, overwritten in its turn and put back
  pub overwrite-more : (new more old current last : List A) (a : ℕ) → length new ≡ a → a ≤ length old → current ≡ overwrite new old
      → last ≡ overwrite more (mid_of a (length current - a) current)
      → put_mid a (length current - a) current last ≡ overwrite (new ++ more) old
  unfolding overwrite
  overwrite-more new more old current last a size room isCurrent is_last =
      let head : take a current ≡ new = ap (take a) isCurrent ∙ take_at new (drop (length new) old) a size in
      let tail : drop a current ≡ drop a old = ap (drop a) isCurrent ∙ drop_at new (drop (length new) old) a size ∙ ap (λ (k : ℕ). drop k old) size in
      let all : mid_of a (length current - a) current ≡ drop a current =
      take_all (length current - a) (drop a current) (le_of_eq (length-drop a current))
      in
      let none : drop (length current - a) (drop a current) ≡ [] = drop_of_length-le (drop a current) (le_of_eq (length-drop a current)) in
      let count : a + length more ≡ length (new ++ more) = omega (arith, length-append new more) in
      ap₂ (λ (x y : List A). x ++ y) head
      (ap (λ (end : List A). last ++ end) none
      ∙ append-nil last
      ∙ is_last
      ∙ ap (overwrite more) (all ∙ tail)
      ∙ ap (λ (rest : List A). more ++ rest) (drop-drop (length more) a old))
      ∙ sym (append_assoc new more (drop (a + length more) old))
      ∙ ap (λ (k : ℕ). (new ++ more) ++ drop k old) count

  -- entries stored behind others, and from the first on
  pub sets_append : (old : List A) (at : ℕ) (xs ys : List A) → sets (sets old at xs) (at + length xs) ys ≡ sets old at (xs ++ ys)
  sets_append old at [] ys = rw add-zero
  sets_append old at (x ∷ xs) ys = rw (add-suc, ← suc-add at) (sets_append (set old at x) (suc at) xs ys)

  pub sets_start : (new old : List A) → length new ≤ length old → sets old 0 new ≡ overwrite new old
  unfolding overwrite
  sets_start new old fits = sets-eq new old 0 (rw zero-add fits) ∙ ap (λ (k : ℕ). new ++ drop k old) (zero-add (length new))
