-- A stack at the end of a list, which grows towards the front. Assumes nothing.
use mathlib.Core.Path.{◌≡◌, refl, ap, ◌∙◌}
use mathlib.Core.Logic.{⊎_elim}
use mathlib.Core.Bool.{Bool, true, false, cond}
use mathlib.Core.List.{List, ◌∷◌}
use Prim.Native.Nat.{ℕ, suc, ◌-◌, ◌≤◌, ◌<◌}
use native.Mathlib.Omega.{arith}
use lib.Dec.{eqb}
use lib.ListN.{length, take, drop, set, length-set}
use lib.Seq.{take-set-le, drop-cons, drop-set-lt, get_or-set_same}
use borrow.Author.Tests.{eq-eqb, ne_eqb}
use Rattle.tree.specs.Table.{none}
use Rattle.tree.specs.Steps.{pushed, pushed_low}
use Rattle.tree.proofs.Counting.{is-cases}

pub drop-stored : (l : List ℕ) (i e : ℕ) → i < length l → drop i (set l i e) ≡ e ∷ drop (suc i) l
drop-stored l i e h = drop-cons (set l i e) i 0 (omega (arith, length-set l i e)) ∙ rw (get_or-set_same l i e 0 h, drop-set-lt (suc i) l i e (omega arith))

-- an entry that names a node goes on the stack
abbrev pub stacked : ℕ → List ℕ → List ℕ
stacked e l = cond (eqb e none) l (e ∷ l)

pub node-stacked : (e : ℕ) (l : List ℕ) → (e ≡ none → ⊥) → stacked e l ≡ e ∷ l
node-stacked e l d = ap (λ (b : Bool). cond b l (e ∷ l)) (ne_eqb e none d)

-- how many entries that is
abbrev pub one : ℕ → ℕ
one e = cond (eqb e none) 0 1

pub node-one : (e : ℕ) → (e ≡ none → ⊥) → one e ≡ 1
node-one e d = ap (λ (b : Bool). cond b 0 1) (ne_eqb e none d)

pub pushed_low-one : (low e : ℕ) → pushed_low low e ≡ low - one e
pushed_low-one low e = go (eqb e none)
  where
    go : (b : Bool) → cond b low (low - 1) ≡ low - cond b 0 1
    go true = omega arith
    go false = refl

module _ (l : List ℕ) (low e : ℕ) where
  pub pushed-length : length (pushed l low e) ≡ length l
  pushed-length = go (eqb e none)
    where
      go : (b : Bool) → length (cond b l (set l (low - 1) e)) ≡ length l
      go true = refl
      go false = length-set l (low - 1) e

  pub pushed-take : (k : ℕ) → k ≤ pushed_low low e → take k (pushed l low e) ≡ take k l
  pushed-take k h = go (eqb e none) h
    where
      go : (b : Bool) → k ≤ cond b low (low - 1) → take k (cond b l (set l (low - 1) e)) ≡ take k l
      go true h = refl
      go false h = take-set-le k l (low - 1) e h

  pub pushed-drop : ((e ≡ none → ⊥) → 0 < low) → low ≤ length l → drop (pushed_low low e) (pushed l low e) ≡ stacked e (drop low l)
  pushed-drop room within =
      ⊎_elim (λ s. rw (eq-eqb e none s.0))
      (λ s.
      let some = room s.0 in
      let next : suc (low - 1) ≡ low = omega arith in
      rw (ne_eqb e none s.0) (drop-stored l (low - 1) e (omega arith) ∙ rw next))
      (is-cases e none)
