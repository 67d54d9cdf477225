-- What it means for a table that conditions do not hold: the tests said of every entry and every node, and the tree of an accepted table.
-- Assumes nothing.
use mathlib.Core.Path.{◌≡◌, refl, sym, ap, ◌∙◌}
use mathlib.Core.Logic.{◌⊎◌, inl, inr, ⊎_elim}
use mathlib.Core.Bool.{Bool, true, false, ◌||◌, ◌&&◌, not, true≢false}
use mathlib.Core.List.{List, [], ◌∷◌}
use Prim.Native.Nat.{ℕ, ◌+◌, ◌*◌, ◌%◌, ◌≤◌, ◌<◌}
use native.Mathlib.Omega.{arith}
use lib.Dec.{eqb, ltb}
use lib.ListN.{length}
use borrow.Author.Tests.{eqb-true, eqb-false, ltb-true, ltb-false, le-ltb, lt-ltb, eq-eqb, ne_eqb, not-true, not-false}
use Rattle.tree.specs.Numbers.{is, count, any, member, up_to}
use Rattle.tree.specs.Table.{none, nodes, next_sibling}
use Rattle.tree.specs.Forest.{tree_of, size, preorder}
use Rattle.tree.specs.WellFormed.{bad_length, bad_entry, root_has_sibling, named_twice, unnamed, not_reached, Passed}
use Rattle.tree.proofs.Counting.{is_same, is-cases, All, distinct_lacking, covering_length}
use Rattle.refusal.proofs.Truth.{true-or-false, or-false-left, or-false-right, or-false, and_left, and_right}
use Rattle.tree.proofs.Tests.{any_false, all_any, all-at, up_to-all, all-up_to, any-up_to, member-count, member-none}
use Rattle.tree.proofs.Reading.{size-preorder}
use Rattle.tree.proofs.Linked.{Names, Linked, tree-below, tree-distinct, tree-size}

-- ---- condition 1

-- the length is even, and from 2 to 2,048
abbrev pub GoodLength : ℕ → Type 0
GoodLength l = (l % 2 ≡ 0) × (0 < l) × (l ≤ 2048)

pub good_length : (t : List ℕ) → bad_length t ≡ false → GoodLength (length t)
unfolding bad_length
good_length t e =
    let odd = eqb-false (length t % 2) 1 (or-false-left _ (eqb (length t) 0) (or-false-left _ (ltb 2048 (length t)) e)) in
    let empty = eqb-false (length t) 0 (or-false-right (eqb (length t % 2) 1) _ (or-false-left (eqb (length t % 2) 1 || eqb (length t) 0) _ e)) in
    let long = ltb-false 2048 (length t) (or-false-right (eqb (length t % 2) 1 || eqb (length t) 0) _ e) in
    (omega arith, omega arith, long)

pub length-good : (t : List ℕ) → GoodLength (length t) → bad_length t ≡ false
unfolding bad_length
length-good t g =
    or-false (or-false (ne_eqb (length t % 2) 1 (λ e. omega arith)) (ne_eqb (length t) 0 (λ e. omega arith)))
    (le-ltb 2048 (length t) g.2)

-- ---- condition 2

-- one entry is neither none nor a node's
abbrev pub bad : ℕ → ℕ → Bool
bad n e = not (eqb e none) && not (ltb e n)

pub bad-false : (n e : ℕ) → bad n e ≡ false → Names n e
bad-false n e h = go (eqb e none) (ltb e n) refl refl h
  where
    go : (a b : Bool) → eqb e none ≡ a → ltb e n ≡ b → (not a && not b) ≡ false → Names n e
    go true b p q h = inr (eqb-true e none p)
    go false true p q h = inl (ltb-true e n q)
    go false false p q h = absurd (true≢false h)

pub names-bad : (n e : ℕ) → Names n e → bad n e ≡ false
names-bad n e h = go (eqb e none) (ltb e n) refl refl h
  where
    go : (a b : Bool) → eqb e none ≡ a → ltb e n ≡ b → Names n e → (not a && not b) ≡ false
    go true b p q h = refl
    go false true p q h = refl
    go false false p q (inl h) = absurd (true≢false (sym (lt-ltb e n h) ∙ q))
    go false false p q (inr h) = absurd (eqb-false e none p h)

pub entries-named : (t : List ℕ) → bad_entry t ≡ false → All (Names (nodes t)) t
unfolding bad_entry
entries-named t e = each t (any_false (bad (nodes t)) t e)
  where
    each : (l : List ℕ) → All (λ x. bad (nodes t) x ≡ false) l → All (Names (nodes t)) l
    each [] a = tt
    each (x ∷ l) a = (bad-false (nodes t) x a.0, each l a.1)

pub named-entries : (t : List ℕ) → All (Names (nodes t)) t → bad_entry t ≡ false
unfolding bad_entry
named-entries t a = all_any (bad (nodes t)) t (each t a)
  where
    each : (l : List ℕ) → All (Names (nodes t)) l → All (λ x. bad (nodes t) x ≡ false) l
    each [] a = tt
    each (x ∷ l) a = (names-bad (nodes t) x a.0, each l a.1)

-- ---- condition 3

pub root-alone : (t : List ℕ) → root_has_sibling t ≡ false → next_sibling t 0 ≡ none
unfolding root_has_sibling
root-alone t e = eqb-true (next_sibling t 0) none (not-false _ e)

pub alone-root : (t : List ℕ) → next_sibling t 0 ≡ none → root_has_sibling t ≡ false
unfolding root_has_sibling
alone-root t e = ap not (eq-eqb (next_sibling t 0) none e)

-- ---- condition 4

pub named-once : (t : List ℕ) → named_twice t ≡ false → (w : ℕ) → w < nodes t → is w 0 + count w t ≤ 1
unfolding named_twice
named-once t e w h =
    ⊎_elim (λ s. omega (arith, ap (λ (x : ℕ). count x t) s.0, ltb-false 0 (count 0 t) (or-false-right (any (λ v. ltb 1 (count v t)) (up_to (nodes t))) _ e)))
    (λ s. omega (arith, ltb-false 1 (count w t) (up_to-all (λ v. ltb 1 (count v t) ≡ false) (nodes t) (any_false (λ v. ltb 1 (count v t)) (up_to (nodes t)) (or-false-left _ (ltb 0 (count 0 t)) e)) w h)))
    (is-cases w 0)

pub once-named : (t : List ℕ) → 0 < nodes t → ((w : ℕ) → w < nodes t → is w 0 + count w t ≤ 1) → named_twice t ≡ false
unfolding named_twice
once-named t some h =
    or-false (all_any (λ v. ltb 1 (count v t)) (up_to (nodes t)) (all-up_to (λ v. ltb 1 (count v t) ≡ false) (nodes t) (λ v k. le-ltb 1 (count v t) (omega (arith, h v k)))))
    (le-ltb 0 (count 0 t) (omega (arith, h 0 some, is_same 0 0 refl)))

-- ---- conditions 1 to 4 together

pub linked : (t : List ℕ) → Passed t → Linked t
linked t p =
    let g = good_length t p.size in
    let a = entries-named t p.entries in
    record {
      even = omega arith;
      some = omega arith;
      few = omega arith;
      child = λ v h. all-at (Names (nodes t)) t none a (2 * v) (omega arith);
      sibling = λ v h. all-at (Names (nodes t)) t none a (2 * v + 1) (omega arith);
      alone = root-alone t p.root;
      once = named-once t p.named;
    }

-- ---- condition 5

module _ (t : List ℕ) where
  abbrev lacks : ℕ → Bool
  lacks v = not (eqb v 0) && eqb (count v t) 0

  pub all_named : unnamed t ≡ false → (v : ℕ) → v < nodes t → 1 ≤ is v 0 + count v t
  unfolding unnamed
  all_named e v h = go (eqb v 0) (eqb (count v t) 0) refl refl (up_to-all (λ v. lacks v ≡ false) (nodes t) (any_false lacks (up_to (nodes t)) e) v h)
    where
      go : (a b : Bool) → eqb v 0 ≡ a → eqb (count v t) 0 ≡ b → (not a && b) ≡ false → 1 ≤ is v 0 + count v t
      go true b p q k = omega (arith, is_same v 0 (eqb-true v 0 p))
      go false true p q k = absurd (true≢false k)
      go false false p q k = some (eqb-false (count v t) 0 q)
        where
          some : (count v t ≡ 0 → ⊥) → 1 ≤ is v 0 + count v t
          some d = omega arith

  pub named-all : ((v : ℕ) → v < nodes t → 1 ≤ is v 0 + count v t) → unnamed t ≡ false
  unfolding unnamed
  named-all h = all_any lacks (up_to (nodes t)) (all-up_to (λ v. lacks v ≡ false) (nodes t) (λ v k. go v (h v k) (is-cases v 0)))
    where
      go : (v : ℕ) → 1 ≤ is v 0 + count v t → ((v ≡ 0) × (is v 0 ≡ 1)) ⊎ ((v ≡ 0 → ⊥) × (is v 0 ≡ 0)) → lacks v ≡ false
      go v k (inl s) = ap (λ (b : Bool). not b && eqb (count v t) 0) (eq-eqb v 0 s.0)
      go v k (inr s) =
          ap (λ (b : Bool). not b && eqb (count v t) 0) (ne_eqb v 0 s.0) ∙ ne_eqb (count v t) 0 (λ z. omega arith)

  -- where it holds there is such a node
  pub stray : unnamed t ≡ true → (v : ℕ) × (v < nodes t) × (v ≡ 0 → ⊥) × (count v t ≡ 0)
  unfolding unnamed
  stray e =
      let s = any-up_to lacks (nodes t) e in (
        s.0,
        s.1,
        eqb-false s.0 0 (not-true _ (and_left (not (eqb s.0 0)) _ s.2)),
        eqb-true (count s.0 t) 0 (and_right (not (eqb s.0 0)) _ s.2),
      )

-- ---- condition 14

pub all-reached : (t : List ℕ) → not_reached t ≡ false → (v : ℕ) → v < nodes t → 1 ≤ count v (preorder (tree_of t))
unfolding not_reached
all-reached t e v h =
    member-count v (preorder (tree_of t))
    (not-false _ (up_to-all (λ v. not (member v (preorder (tree_of t))) ≡ false) (nodes t) (any_false (λ v. not (member v (preorder (tree_of t)))) (up_to (nodes t)) e) v h))

-- a tree with as many nodes as the table reaches them all, and one with fewer does not
pub size-reached : (t : List ℕ) → Linked t → size (tree_of t) ≡ nodes t → not_reached t ≡ false
unfolding not_reached
size-reached t L e =
    all_any (λ v. not (member v (preorder (tree_of t)))) (up_to (nodes t))
    (all-up_to (λ v. not (member v (preorder (tree_of t))) ≡ false) (nodes t) each)
  where
    each : (v : ℕ) → v < nodes t → not (member v (preorder (tree_of t))) ≡ false
    each v h =
        ⊎_elim (λ m. ap not m)
        (λ m. absurd (omega (
          arith,
          size-preorder (tree_of t),
          distinct_lacking (nodes t) (preorder (tree_of t)) (tree-below t L) (tree-distinct t L) v h (member-none v (preorder (tree_of t)) m),
        )))
        (true-or-false (member v (preorder (tree_of t))))

pub reached-size : (t : List ℕ) → Linked t → not_reached t ≡ false → size (tree_of t) ≡ nodes t
reached-size t L e = omega (arith, tree-size t L, size-preorder (tree_of t), covering_length (nodes t) (preorder (tree_of t)) (all-reached t e))
