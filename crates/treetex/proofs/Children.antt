-- How many children a node has, told by its first child's further siblings. Assumes nothing.
use Rattle.std.proofs.Common.{ℕ, zero, suc, ◌+◌, ◌≤◌, ◌<◌, ◌≡◌, refl, sym, ap, ◌∙◌, ◌↔◌, inl, inr, Bool, true, false, ◌||◌, cond, eqb, Option, Some, None, is_some, List, [], ◌∷◌, length, arith}
use Rattle.std.specs.List.{range_with_len, list_any}
use borrow.Author.Tests.{leb-false, le-leb, lt-leb, eq-eqb, eqb-true}
use Rattle.tree.specs.Numbers.{up_to, run, any}
use Rattle.tree.specs.Table.{none, nodes, named, first_child, next_sibling}
use Rattle.tree.specs.Forest.{Forest, forest, roots}
use Rattle.tree.specs.Levels.{children_of}
use Rattle.tree.specs.WellFormed.{table_number}
use Rattle.tree.proofs.Tests.{any_false, all_any, up_to-all, all-up_to}
use Rattle.tree.proofs.Renumbered.{run-up_to}
use Rattle.tree.proofs.Linked.{Names}
use Rattle.tree.proofs.Followed.{accepted-linked, followed_node, followed_none}
use Rattle.treetex.specs.TreeTeX.{has_three, three_children}

-- the tests read as sentences: no node has more than two children
pub at_most_two : (t : List ℕ) → three_children t ≡ false ↔ ((v : ℕ) → v < nodes t → length (children_of t v) ≤ 2)
unfolding three_children
at_most_two t = (
  (λ e v h. let few = leb-false 3 (length (children_of t v)) (up_to-all (λ w. has_three t w ≡ false) (nodes t) (any_false (has_three t) (up_to (nodes t)) e) v h) in omega arith),
  (λ few. all_any (has_three t) (up_to (nodes t)) (all-up_to (λ w. has_three t w ≡ false) (nodes t) (λ v h. lt-leb 3 (length (children_of t v)) (omega (arith, few v h))))),
)

-- ---- the numbers below n, in order

range-run : (a n : ℕ) → range_with_len a n ≡ run a n
range-run a zero = refl
range-run a (suc n) = ap (λ (l : List ℕ). a ∷ l) (range-run (a + 1) n)

any_is : (p : ℕ → Bool) (l : List ℕ) → list_any p l ≡ any p l
any_is p [] = refl
any_is p (x ∷ l) = ap (λ (b : Bool). p x || b) (any_is p l)

pub any-three : (t : List ℕ) → list_any (has_three t) (range_with_len 0 (nodes t)) ≡ three_children t
unfolding three_children
any-three t = any_is (has_three t) (range_with_len 0 (nodes t)) ∙ ap (any (has_three t)) (range-run 0 (nodes t) ∙ sym (run-up_to (nodes t)))

-- ---- an entry, and the node that it names

none-named : (e : ℕ) → None ≡ named e → e ≡ none
none-named e = go (eqb e none) refl
  where
    go : (b : Bool) → eqb e none ≡ b → None ≡ cond b None (Some e) → e ≡ none
    go true h s = eqb-true e none h
    go false h s = cc

node-named : (n e c : ℕ) → Names n e → Some c ≡ named e → (e ≡ c) × (c < n)
node-named n e c m = go (eqb e none) refl m
  where
    go : (b : Bool) → eqb e none ≡ b → Names n e → Some c ≡ cond b None (Some e) → (e ≡ c) × (c < n)
    go true h m s = cc
    go false h (inl l) s = let same : e ≡ c = cc in (same, omega arith)
    go false h (inr z) s = let other : eqb e none ≡ true = eq-eqb e none z in cc

module _ (t : List ℕ) (accepted : table_number t ≡ 0) where
  -- how many siblings there are from node c on
  abbrev from : ℕ → ℕ
  from c = length (roots (forest t c))

  from-none : (c : ℕ) → None ≡ named c → from c ≡ 0
  from-none c e = ap from (none-named c e) ∙ ap (λ (f : Forest). length (roots f)) (followed_none t accepted)

  from-node : (c : ℕ) → c < nodes t → from c ≡ suc (from (next_sibling t c))
  from-node c h = ap (λ (f : Forest). length (roots f)) (followed_node t accepted c h)

  from-named : (e c : ℕ) → Names (nodes t) e → Some c ≡ named e → from e ≡ suc (from (next_sibling t c))
  from-named e c m s = let same = node-named (nodes t) e c m s in ap from same.0 ∙ from-node c same.1

  pub next-inside : (c d : ℕ) → c < nodes t → Some d ≡ named (next_sibling t c) → d < nodes t
  next-inside c d h s = (node-named (nodes t) (next_sibling t c) d ((accepted-linked t accepted).sibling c h) s).1

  module _ (v : ℕ) (inside : v < nodes t) where
    counted : length (children_of t v) ≡ from (first_child t v)
    unfolding children_of
    counted = refl

    fewer : length (children_of t v) ≤ 2 → false ≡ has_three t v
    fewer h = sym (lt-leb 3 (length (children_of t v)) (omega arith))

    pub first-inside : (c : ℕ) → Some c ≡ named (first_child t v) → c < nodes t
    first-inside c s = (node-named (nodes t) (first_child t v) c ((accepted-linked t accepted).child v inside) s).1

    -- where there is no first child, no second, and where there are two
    pub no-first : None ≡ named (first_child t v) → false ≡ has_three t v
    no-first e = fewer (omega (arith, counted, from-none _ e))

    module _ (c : ℕ) (first : Some c ≡ named (first_child t v)) where
      one-first : length (children_of t v) ≡ suc (from (next_sibling t c))
      one-first = counted ∙ from-named (first_child t v) c ((accepted-linked t accepted).child v inside) first

      pub no_second : None ≡ named (next_sibling t c) → false ≡ has_three t v
      no_second e = fewer (omega (arith, one-first, from-none _ e))

      pub two : (d : ℕ) → Some d ≡ named (next_sibling t c) → is_some (named (next_sibling t d)) ≡ has_three t v
      two d second = go (named (next_sibling t d)) refl
        where
          so_far : length (children_of t v) ≡ suc (suc (from (next_sibling t d)))
          so_far = one-first ∙ ap suc (from-named (next_sibling t c) d ((accepted-linked t accepted).sibling c (first-inside c first)) second)

          go : (o : Option ℕ) → o ≡ named (next_sibling t d) → is_some o ≡ has_three t v
          go None e = fewer (omega (arith, so_far, from-none _ e))
          go (Some x) e =
              let third = (accepted-linked t accepted).sibling d (next-inside c d (first-inside c first) second) in
              sym (le-leb 3 (length (children_of t v)) (omega (arith, so_far, from-named (next_sibling t d) x third e)))
