-- The numbers 20, 21 and 7, and what each says. Assumes nothing.
use mathlib.Core.Path.{◌≡◌, sym, ◌∙◌, subst⁻¹}
use mathlib.Core.Logic.{⊎_elim}
use mathlib.Core.Bool.{true, false, false≢true}
use mathlib.Core.List.{List, []}
use Prim.Native.Nat.{ℕ, ◌*◌, ◌≤◌, ◌<◌}
use native.Mathlib.Omega.{arith}
use lib.Dec.{leb, ltb}
use lib.ListN.{drop}
use borrow.Author.Tests.{lt-ltb, le-ltb, ltb-true, ltb-false, le-leb, lt-leb, leb-true, leb-false}
use Rattle.refusal.specs.First.{Condition, ◌⇐◌}
use Rattle.refusal.proofs.Laws.{first-here, first-after, none_first, first-none}
use Rattle.refusal.proofs.Truth.{true-or-false, or-false, or-false-left, or-false-right}
use Rattle.small_trees.specs.SmallTrees.{tree_count, most_nodes, size_wrong, conditions, refusal, Says, no_size, no_place, too_short, taken}

module _ (n : ℕ) where
  pub right-size : 1 ≤ n → n ≤ most_nodes → size_wrong n ≡ false
  right-size some few = or-false (le-ltb n 1 some) (le-ltb most_nodes n few)

  pub size-right : size_wrong n ≡ false → (1 ≤ n) × (n ≤ most_nodes)
  size-right e =
      (ltb-false n 1 (or-false-left (ltb n 1) (ltb most_nodes n) e), ltb-false most_nodes n (or-false-right (ltb n 1) (ltb most_nodes n) e))

  pub wrong_size : (1 ≤ n → n ≤ most_nodes → ⊥) → size_wrong n ≡ true
  wrong_size wrong = ⊎_elim (λ e. e) (λ e. absurd (wrong (size-right e).0 (size-right e).1)) (true-or-false (size_wrong n))

module _ (n place tableLength : ℕ) where
  abbrev all : List Condition
  all = conditions n place tableLength

  pub number_20 : (1 ≤ n → n ≤ most_nodes → ⊥) → refusal n place tableLength ≡ 20
  unfolding refusal
  number_20 wrong = first-here (20 ⇐ size_wrong n) (drop 1 all) (wrong_size n wrong)

  pub number_21 : 1 ≤ n → n ≤ most_nodes → tree_count n ≤ place → refusal n place tableLength ≡ 21
  unfolding refusal
  number_21 some few past =
      first-after (20 ⇐ size_wrong n) (drop 1 all) (right-size n some few)
      ∙ first-here (21 ⇐ leb (tree_count n) place) (drop 2 all) (le-leb (tree_count n) place past)

  pub number_7 : 1 ≤ n → n ≤ most_nodes → place < tree_count n → tableLength < 2 * n → refusal n place tableLength ≡ 7
  unfolding refusal
  number_7 some few within short =
      first-after (20 ⇐ size_wrong n) (drop 1 all) (right-size n some few)
      ∙ first-after (21 ⇐ leb (tree_count n) place) (drop 2 all) (lt-leb (tree_count n) place within)
      ∙ first-here (7 ⇐ ltb tableLength (2 * n)) [] (lt-ltb tableLength (2 * n) short)

  pub number_0 : 1 ≤ n → n ≤ most_nodes → place < tree_count n → 2 * n ≤ tableLength → refusal n place tableLength ≡ 0
  unfolding refusal
  number_0 some few within room =
      none_first all
      (right-size n some few, (lt-leb (tree_count n) place within, (le-ltb tableLength (2 * n) room, tt)))

  pub number-says : Says n place tableLength (refusal n place tableLength)
  number-says =
      ⊎_elim (λ e.
      let wrong : 1 ≤ n → n ≤ most_nodes → ⊥ = λ some few. false≢true (sym (right-size n some few) ∙ e) in
      subst⁻¹ (Says n place tableLength) (number_20 wrong) (no_size wrong))
      (λ e.
      let s = size-right n e in
      ⊎_elim (λ p.
      let past = leb-true (tree_count n) place p in
      subst⁻¹ (Says n place tableLength) (number_21 s.0 s.1 past) (no_place s.0 s.1 past))
      (λ p.
      let within = leb-false (tree_count n) place p in
      ⊎_elim (λ r.
      let short = ltb-true tableLength (2 * n) r in
      subst⁻¹ (Says n place tableLength) (number_7 s.0 s.1 within short) (too_short s.0 s.1 within short))
      (λ r.
      let room = ltb-false tableLength (2 * n) r in
      subst⁻¹ (Says n place tableLength) (number_0 s.0 s.1 within room) (taken s.0 s.1 within room))
      (true-or-false (ltb tableLength (2 * n))))
      (true-or-false (leb (tree_count n) place)))
      (true-or-false (size_wrong n))

  pub accepted : refusal n place tableLength ≡ 0 → (1 ≤ n) × (n ≤ most_nodes) × (place < tree_count n) × (2 * n ≤ tableLength)
  unfolding refusal
  accepted e =
      let none = first-none all (omega arith) e in
      let s = size-right n none.0 in
      (s.0, s.1, leb-false (tree_count n) place none.1.0, ltb-false tableLength (2 * n) none.1.1.0)
