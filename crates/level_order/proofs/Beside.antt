-- Neighbours in level order: they are the nodes that follow each other and have one level. Assumes nothing.
use mathlib.Core.Path.{◌≡◌, refl, sym, ap, ap₂, ◌∙◌}
use mathlib.Core.Bool.{Bool, true, false, cond}
use mathlib.Core.List.{List, [], ◌∷◌, ◌++◌, append_assoc, append-nil}
use Prim.Native.Nat.{ℕ, zero, suc, ◌+◌, ◌-◌, ◌≤◌, ◌<◌}
use native.Mathlib.Nat.{not-suc-le-zero}
use native.Mathlib.Omega.{arith}
use lib.Dec.{eqb}
use lib.ListN.{length, get_or, take, length-append}
use lib.Seq.{get_or-append-add}
use borrow.Author.Tests.{eq-eqb, ne_eqb}
use Rattle.tree.specs.Numbers.{flat_map}
use Rattle.tree.specs.Table.{nodes}
use Rattle.tree.specs.Forest.{tree_of}
use Rattle.tree.specs.Levels.{Pair, levels, together, level, level_count, side_by_side, neighbours}
use Rattle.tree.specs.WellFormed.{table_number}
use Rattle.tree.proofs.Counting.{All}
use Rattle.tree.proofs.Tests.{all-at}
use Rattle.tree.proofs.Stands.{accepted-size}
use Rattle.tree.proofs.Joined.{Some, some, levels-some, length-levels}
use Rattle.tree.proofs.Leveled.{Leveled, accepted-leveled}
use Rattle.level_order.specs.LevelOrder.{node_at}
use Rattle.level_order.proofs.Order.{node-order}

-- the pair of two nodes that follow each other, where they have one level
abbrev pub link : (ℕ → ℕ) → ℕ → ℕ → List Pair
link lev a b = cond (eqb (lev a) (lev b)) ((a, b) ∷ []) []

abbrev pub pairs_on : (ℕ → ℕ) → List ℕ → List Pair
pairs_on lev [] = []
pairs_on lev (a ∷ []) = []
pairs_on lev (a ∷ b ∷ l) = link lev a b ++ pairs_on lev (b ∷ l)

some-length : {l : List ℕ} → Some l → 1 ≤ length l
some-length some = omega arith

module _ (lev : ℕ → ℕ) where
  link-same : (a b : ℕ) → lev a ≡ lev b → link lev a b ≡ (a, b) ∷ []
  link-same a b e = ap (λ (t : Bool). cond t ((a, b) ∷ []) []) (eq-eqb (lev a) (lev b) e)

  link-other : (a b : ℕ) → (lev a ≡ lev b → ⊥) → link lev a b ≡ []
  link-other a b d = ap (λ (t : Bool). cond t ((a, b) ∷ []) []) (ne_eqb (lev a) (lev b) d)

  -- one node more
  pub pairs_next : (l : List ℕ) (q : ℕ) → suc q < length l
      → pairs_on lev (take (suc (suc q)) l) ≡ pairs_on lev (take (suc q) l) ++ link lev (get_or l q 0) (get_or l (suc q) 0)
  pairs_next [] q h = absurd (not-suc-le-zero h)
  pairs_next (a ∷ []) q h = absurd (omega arith)
  pairs_next (a ∷ b ∷ l) zero h = append-nil (link lev a b)
  pairs_next (a ∷ b ∷ l) (suc q) h =
      ap (λ (m : List Pair). link lev a b ++ m) (pairs_next (b ∷ l) q (omega arith))
      ∙ sym (append_assoc (link lev a b) (pairs_on lev (b ∷ take q l)) (link lev (get_or (b ∷ l) q 0) (get_or l q 0)))

  pub pairs-few : (l : List ℕ) → length (pairs_on lev l) ≤ length l - 1
  pairs-few [] = omega arith
  pairs-few (a ∷ []) = omega arith
  pairs-few (a ∷ b ∷ l) = omega (arith, length-append (link lev a b) (pairs_on lev (b ∷ l)), pairs-few (b ∷ l), one (eqb (lev a) (lev b)))
    where
      one : (t : Bool) → length {A = Pair} (cond t ((a, b) ∷ []) []) ≤ 1
      one true = omega arith
      one false = omega arith

  -- ---- levels, of which the first is level i

  -- what follows is not on level i
  abbrev Later : ℕ → List ℕ → Type 0
  Later i [] = Unit {0}
  Later i (b ∷ l) = lev b ≡ i → ⊥

  later : (i : ℕ) (ls : List (List ℕ)) → Leveled lev (suc i) ls → All Some ls → Later i (together ls)
  later i [] h s = tt
  later i ([] ∷ ls) h s = absurd (not-suc-le-zero (some-length s.0))
  later i ((b ∷ l) ∷ ls) h s = λ e. omega (arith, h.0.0, e)

  one_level : (i a : ℕ) (l rest : List ℕ) → All (λ v. lev v ≡ i) (a ∷ l) → Later i rest
      → pairs_on lev ((a ∷ l) ++ rest) ≡ side_by_side (a ∷ l) ++ pairs_on lev rest
  one_level i a [] [] h d = refl
  one_level i a [] (b ∷ rest) h d = ap (λ (m : List Pair). m ++ pairs_on lev (b ∷ rest)) (link-other a b (λ e. d (sym e ∙ h.0)))
  one_level i a (b ∷ l) rest h d =
      ap₂ ◌++◌ (link-same a b (h.0 ∙ sym h.1.0)) (one_level i b l rest h.1 d)

  pub level-pairs : (i : ℕ) (ls : List (List ℕ)) → Leveled lev i ls → All Some ls → pairs_on lev (together ls) ≡ flat_map side_by_side ls
  level-pairs i [] h s = refl
  level-pairs i ([] ∷ ls) h s = level-pairs (suc i) ls h.1 s.1
  level-pairs i ((a ∷ l) ∷ ls) h s =
      one_level i a l (together ls) h.0 (later i ls h.1 s.1)
      ∙ ap (λ (m : List Pair). side_by_side (a ∷ l) ++ m) (level-pairs (suc i) ls h.1 s.1)

  -- the last node is on the last level
  pub last-level : (i j : ℕ) (ls : List (List ℕ)) → Leveled lev i ls → All Some ls → suc j ≡ length (together ls) → suc (lev (get_or (together ls) j 0)) ≡ i + length ls
  last-level i j [] h s e = absurd (omega arith)
  last-level i j (l ∷ []) h s e =
      omega (arith, all-at (λ v. lev v ≡ i) l 0 h.0 j (omega (arith, e, length-append l [])), ap (λ (m : List ℕ). lev (get_or m j 0)) (append-nil l))
  last-level i j (l ∷ ([] ∷ ls)) h s e = absurd (not-suc-le-zero (some-length s.1.0))
  last-level i j (l ∷ ((b ∷ m) ∷ ls)) h s e =
      let k : suc (j - length l) ≡ length (together ((b ∷ m) ∷ ls)) = omega (arith, e, length-append l (together ((b ∷ m) ∷ ls))) in
      let r : length l + (j - length l) ≡ j = omega (arith, e, length-append l (together ((b ∷ m) ∷ ls))) in
      omega (
        arith,
        last-level (suc i) (j - length l) ((b ∷ m) ∷ ls) h.1 s.1 k,
        ap lev (sym (ap (λ (x : ℕ). get_or (l ++ together ((b ∷ m) ∷ ls)) x 0) r) ∙ get_or-append-add l (together ((b ∷ m) ∷ ls)) (j - length l) 0),
      )

-- ---- an accepted table

module _ (t : List ℕ) (accepted : table_number t ≡ 0) where
  -- the neighbours are the pairs of level order
  pub neighbours-order : pairs_on (level t) (together (levels (tree_of t))) ≡ neighbours t
  unfolding neighbours
  neighbours-order = level-pairs (level t) 0 (levels (tree_of t)) (accepted-leveled t accepted) (levels-some (tree_of t))

  -- the count of levels is one more than the level of the last position
  pub last-count : (p : ℕ) → suc p ≡ nodes t → suc (level t (node_at (tree_of t) p)) ≡ level_count t
  unfolding level_count
  last-count p e =
      ap (λ (v : ℕ). suc (level t v)) (node-order (tree_of t) p (omega (arith, accepted-size t accepted)))
      ∙ last-level (level t) 0 p (levels (tree_of t)) (accepted-leveled t accepted) (levels-some (tree_of t)) (omega (arith, length-levels (tree_of t), accepted-size t accepted))
      ∙ omega arith
