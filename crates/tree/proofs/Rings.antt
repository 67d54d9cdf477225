-- A node that is not reached, where each node but the root is named, comes of a ring: going back from it to the node that names it, and so
-- on, comes to no end and never to the root. So 5 says that a node is named by none, 14 that there is a ring, and one of the two is the
-- number of just those tables that 1 to 4 let pass and that leave a node unreached. Assumes nothing.
use mathlib.Core.Path.{◌≡◌, refl, sym, ap, ◌∙◌, subst}
use mathlib.Core.Logic.{◌↔◌, ◌⊎◌, inl, inr, ⊎_elim}
use mathlib.Core.Bool.{Bool, true, false, cond, not, true≢false}
use mathlib.Core.List.{List, [], ◌∷◌, ◌++◌}
use Prim.Native.Nat.{ℕ, zero, suc, ◌+◌, ◌≤◌, ◌<◌}
use native.Mathlib.Omega.{arith}
use lib.Dec.{eqb, ltb}
use lib.ListN.{length}
use borrow.Author.Tests.{ltb-true, ltb-false, ne_eqb, not-true}
use Rattle.refusal.specs.First.{Condition, ◌⇐◌, first}
use Rattle.refusal.proofs.Laws.{Lacks, NoneHolds, first-refused, first-passed, first_past, first-lacks, first_holds, first-none}
use Rattle.refusal.proofs.Truth.{true-or-false}
use Rattle.tree.specs.Numbers.{is, count, member}
use Rattle.tree.specs.Table.{nodes}
use Rattle.tree.specs.Forest.{tree_of, preorder}
use Rattle.tree.specs.WellFormed.{bad_length, bad_entry, root_has_sibling, named_twice, unnamed, Step, to_first_child, to_next_sibling, Reached, at-start, by-step, not_reached, Ring, table_conditions, table_number, Passed}
use Rattle.tree.proofs.Counting.{is-other, is-cases, All, all-weaken, Below, Distinct, distinct-length, sum_below-zero, sum_below_cong}
use Rattle.tree.proofs.Tests.{any-up_to, some_or_none, one_of, count-member, counted-all}
use Rattle.tree.proofs.Reading.{names, named-by-rows}
use Rattle.tree.proofs.Linked.{Linked, tree-agrees}
use Rattle.tree.proofs.Accepted.{linked, all_named, stray, all-reached}
use Rattle.tree.proofs.Reached.{reached-exactly}
use Rattle.tree.proofs.Number.{table_said}
use Rattle.tree.proofs.Stands.{reached-numbers, stands-accepted}

-- one step, and then further ones
step-first : (t : List ℕ) {u v w : ℕ} → Step t u v → Reached t v w → Reached t u w
step-first t s at-start = by-step at-start s
step-first t s (by-step r z) = by-step (step-first t s r) z

module _ (t : List ℕ) (p : Passed t) (named : unnamed t ≡ false) where
  abbrev L : Linked t
  L = linked t p

  -- a node that is not reached is named, by a node that is not reached either
  abbrev Back : ℕ → Type 0
  Back v = (u : ℕ) × (u < nodes t) × Step t u v × (Reached t 0 u → ⊥)

  names_it : (u v : ℕ) → v < nodes t → 1 ≤ names t v u → Step t u v
  names_it u v h k =
      ⊎_elim (λ a. to_first_child (same _ a) h) (λ b. to_next_sibling (same _ b) h) (one_of _ _ k)
    where
      same : (x : ℕ) → 1 ≤ is v x → x ≡ v
      same x a = ⊎_elim (λ s. sym s.0) (λ s. absurd (omega arith)) (is-cases v x)

  back : (v : ℕ) → v < nodes t → (Reached t 0 v → ⊥) → Back v
  back v h apart =
      ⊎_elim (λ s.
      let z = names_it s.0 v h (ltb-true 0 (names t v s.0) s.2) in
      (s.0, s.1, z, λ r. apart (by-step r z)))
      (λ none. absurd (omega (
        arith,
        all_named t named v h,
        is-other v 0 (λ e. apart (subst (Reached t 0) (sym e) at-start)),
        named-by-rows t L.even v,
        sum_below_cong (nodes t) (names t v) (λ u. 0) (λ u k. omega (arith, ltb-false 0 (names t v u) (none u k))),
        sum_below-zero (nodes t),
      )))
      (some_or_none (λ u. ltb 0 (names t v u)) (nodes t))

  -- The way back to node v has passed the nodes of l: none twice, each of them is reached from v, and none from the root.
  record Trail (v : ℕ) (l : List ℕ) : Type 0 where
    below : Below (nodes t) (v ∷ l)
    distinct : Distinct (nodes t) (v ∷ l)
    onward : All (Reached t v) (v ∷ l)
    apart : Reached t 0 v → ⊥

  further : (v : ℕ) (l : List ℕ) → Trail v l → (b : Back v) → count b.0 (v ∷ l) ≤ 0 → Trail b.0 (v ∷ l)
  further v l T b new =
      record {
        below = (b.1, T.below);
        distinct = λ x h.
            ⊎_elim (λ s. omega (arith, ap (λ (y : ℕ). count y (v ∷ l)) s.0)) (λ s. omega (arith, T.distinct x h)) (is-cases x b.0);
        onward = (at-start, all-weaken (Reached t v) (Reached t b.0) (λ x r. step-first t b.2 r) (v ∷ l) T.onward);
        apart = b.3;
      }

  -- a node that was passed before closes a ring, and there are not more than n to pass
  close : (k v : ℕ) (l : List ℕ) → nodes t < k + length (v ∷ l) → Trail v l → Ring t
  close zero v l h T = absurd (omega (arith, distinct-length (nodes t) (v ∷ l) T.below T.distinct))
  close (suc k) v l h T =
      let b = back v T.below.0 T.apart in
      ⊎_elim (λ e. record {
        node = b.0;
        next = v;
        leaves = b.2;
        returns = counted-all (Reached t v) (v ∷ l) T.onward b.0 (ltb-true 0 (count b.0 (v ∷ l)) e);
        apart = b.3;
      })
      (λ e. close k b.0 (v ∷ l) (omega arith) (further v l T b (ltb-false 0 (count b.0 (v ∷ l)) e)))
      (true-or-false (ltb 0 (count b.0 (v ∷ l))))

  ring_from : (v : ℕ) → v < nodes t → (Reached t 0 v → ⊥) → Ring t
  ring_from v h apart =
      close (nodes t) v [] (omega arith) (record {
        below = (h, tt);
        distinct = λ x k. ⊎_elim (λ s. omega arith) (λ s. omega arith) (is-cases x v);
        onward = (at-start, tt);
        apart = apart;
      })

  ring_there : not_reached t ≡ true → Ring t
  unfolding not_reached
  ring_there e =
      let s = any-up_to (λ v. not (member v (preorder (tree_of t)))) (nodes t) e in
      ring_from s.0 s.1 (λ r. true≢false (sym ((reached-exactly t p s.0).1 r) ∙ not-true _ s.2))

-- ---- what 5 and 14 ask, of nodes

module _ (t : List ℕ) (p : Passed t) where
  all-from-root : not_reached t ≡ false → (v : ℕ) → v < nodes t → Reached t 0 v
  all-from-root e v h = (reached-exactly t p v).0 (count-member v (preorder (tree_of t)) (all-reached t e v h))

  -- where each node but the root is named, each is reached or there is a ring
  pub reached-or_ring : unnamed t ≡ false → ((v : ℕ) → v < nodes t → Reached t 0 v) ⊎ Ring t
  reached-or_ring named = ⊎_elim (λ e. inr (ring_there t p named e)) (λ e. inl (all-from-root e)) (true-or-false (not_reached t))

  step-inside : {u v : ℕ} → Step t u v → v < nodes t
  step-inside (to_first_child e h) = h
  step-inside (to_next_sibling e h) = h

  inside : {u v : ℕ} → u < nodes t → Reached t u v → v < nodes t
  inside h at-start = h
  inside h (by-step r s) = step-inside s

  ring_away : Ring t → not_reached t ≡ true
  ring_away R =
      ⊎_elim (λ e. e) (λ e. absurd (R.apart (all-from-root e R.node (inside (step-inside R.leaves) R.returns)))) (true-or-false (not_reached t))

-- ---- of the number

-- the conditions with one number for strays and rings
abbrev pub five_conditions : List ℕ → List Condition
five_conditions t = 1 ⇐ bad_length t ∷ 2 ⇐ bad_entry t ∷ 3 ⇐ root_has_sibling t ∷ 4 ⇐ named_twice t ∷ 5 ⇐ not_reached t ∷ []

module _ (t : List ℕ) where
  -- conditions 1 to 4, and those by which strays and rings are told apart
  abbrev four : List Condition
  four = 1 ⇐ bad_length t ∷ 2 ⇐ bad_entry t ∷ 3 ⇐ root_has_sibling t ∷ 4 ⇐ named_twice t ∷ []

  abbrev two : List Condition
  two = 5 ⇐ unnamed t ∷ 14 ⇐ not_reached t ∷ []

  four-passed : NoneHolds four → Passed t
  four-passed h = record { size = h.0; entries = h.1.0; root = h.1.1.0; named = h.1.1.1.0 }

  passed-four : Passed t → NoneHolds four
  passed-four p = (p.size, (p.entries, (p.root, (p.named, tt))))

  past-four : (k : ℕ) → Lacks k four → table_number t ≡ k → Passed t × (first two ≡ k)
  unfolding table_number table_conditions
  past-four k l e = let r = first_past four two k l e in (four-passed r.0, r.1)

  -- where the number is 5, there is a node other than 0 that no entry names
  pub stray-there : table_number t ≡ 5 → (v : ℕ) × (v < nodes t) × (v ≡ 0 → ⊥) × (count v t ≡ 0)
  stray-there e = stray t (first_holds (5 ⇐ unnamed t) (14 ⇐ not_reached t ∷ []) (omega arith) (omega arith) (past-four 5 (omega arith) e).1)

  -- the number is 14 exactly where none of 1 to 5 holds and there is a ring
  pub ring_exactly : table_number t ≡ 14 ↔ Passed t × (unnamed t ≡ false) × Ring t
  unfolding table_number table_conditions
  ring_exactly = (there, λ c. first-passed four two (passed-four c.0) ∙ simp (c.1, ring_away t c.0 c.2))
    where
      there : table_number t ≡ 14 → Passed t × (unnamed t ≡ false) × Ring t
      there e =
          let r = past-four 14 (omega arith) e in
          let h = first_past (5 ⇐ unnamed t ∷ []) (14 ⇐ not_reached t ∷ []) 14 (omega arith) r.1 in
          (r.0, h.0.0, ring_there t r.0 h.0.0 (first_holds (14 ⇐ not_reached t) [] (omega arith) tt h.1))

  -- the same of an operation that tries the table's conditions and then its own, which have other numbers
  pub stray-told : (own : List Condition) → Lacks 5 own → first (table_conditions t ++ own) ≡ 5
      → (v : ℕ) × (v < nodes t) × (v ≡ 0 → ⊥) × (count v t ≡ 0)
  stray-told own l e = stray-there (table_said t own 5 l e)

  pub ring_told : (own : List Condition) → Lacks 14 own → first (table_conditions t ++ own) ≡ 14 → Ring t
  ring_told own l e = (ring_exactly.0 (table_said t own 14 l e)).2

  -- with one number for both, every table would have the number that it has, but 5 for 14
  pub number_of-five : first (five_conditions t) ≡ cond (eqb (table_number t) 14) 5 (table_number t)
  unfolding table_number table_conditions
  number_of-five = go (first four) refl
    where
      shown : (k : ℕ) → table_number t ≡ k → cond (eqb k 14) 5 k ≡ cond (eqb (table_number t) 14) 5 (table_number t)
      shown k e = ap (λ (j : ℕ). cond (eqb j 14) 5 j) (sym e)

      later : NoneHolds four → (u r : Bool) → unnamed t ≡ u → not_reached t ≡ r
          → (first (five_conditions t) ≡ cond r 5 0) × (table_number t ≡ cond u 5 (cond r 14 0))
      later h u r a b = (first-passed four (5 ⇐ not_reached t ∷ []) h ∙ simp b, first-passed four two h ∙ simp (a, b))

      told : NoneHolds four → (u r : Bool) → unnamed t ≡ u → not_reached t ≡ r → first (five_conditions t) ≡ cond (eqb (table_number t) 14) 5 (table_number t)
      told h true true a b = (later h true true a b).0 ∙ shown 5 (later h true true a b).1
      told h true false a b =
          let L = linked t (four-passed h) in
          absurd (omega (arith, (later h true false a b).1, stands-accepted t (tree_of t) L.even (reached-numbers t (four-passed h) b) (tree-agrees t L)))
      told h false true a b = (later h false true a b).0 ∙ shown 14 (later h false true a b).1
      told h false false a b = (later h false false a b).0 ∙ shown 0 (later h false false a b).1

      go : (k : ℕ) → k ≡ first four → first (five_conditions t) ≡ cond (eqb (table_number t) 14) 5 (table_number t)
      go zero e = told (first-none four (omega arith) (sym e)) (unnamed t) (not_reached t) refl refl
      go (suc k) e =
          let some : first four ≡ 0 → ⊥ = λ z. omega arith in
          first-refused four (5 ⇐ not_reached t ∷ []) some
          ∙ sym (ap (λ (b : Bool). cond b 5 (first four)) (ne_eqb (first four) 14 (λ z. omega (arith, (first-lacks four 14 (omega arith) z).1))))
          ∙ shown (first four) (first-refused four two some)

  -- so just the same tables would be accepted
  pub accepted-by-five : table_number t ≡ 0 ↔ first (five_conditions t) ≡ 0
  accepted-by-five = (
    λ e. number_of-five ∙ ap (λ (k : ℕ). cond (eqb k 14) 5 k) e,
    λ e. go (eqb (table_number t) 14) (sym number_of-five ∙ e),
  )
    where
      go : (b : Bool) → cond b 5 (table_number t) ≡ 0 → table_number t ≡ 0
      go true e = absurd (omega arith)
      go false e = e
