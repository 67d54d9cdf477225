-- What a list of subtrees stores in a slice, numbered from k on. Assumes nothing.
use mathlib.Core.Path.{◌≡◌, refl, sym, ap, ◌∙◌}
use Prim.Native.Nat.{ℕ, zero, suc, ◌+◌, ◌*◌, ◌/◌, ◌%◌, ◌≤◌, ◌<◌}
use native.Mathlib.Nat.{not-suc-le-zero, le_of_suc-le-suc}
use native.Mathlib.Numerals.{add-one}
use native.Mathlib.Omega.{arith}
use mathlib.Core.List.{List, [], ◌∷◌, ◌++◌, append_assoc, append-nil}
use lib.ListN.{length, get_or, set, length-append}
use lib.Seq.{sets, set-set}
use Rattle.refusal.proofs.After.{sets_append}
use Rattle.lines.proofs.Put.{sets_late}
use Rattle.lines.specs.Listing.{tape_number}
use Rattle.tree.specs.Numbers.{flat_map}
use Rattle.tree.specs.Table.{none}
use Rattle.tree.specs.Forest.{Forest, nil, node, size, entry, preorder}
use Rattle.tree.specs.Operations.{number_from}
use Rattle.tree.proofs.Reading.{size-preorder}
use Rattle.tree.proofs.TableOf.{flat_map-append}
use Rattle.newick.specs.Read.{words, tapes_of}
use Rattle.newick.specs.Steps.{rows_from}

-- ---- runs of stores in another order

-- of two runs, the later one may be stored first
sets_swap : (l : List ℕ) (at k : ℕ) (a b : List ℕ) → at + length a ≤ k → sets (sets l k b) at a ≡ sets (sets l at a) k b
sets_swap l at k a [] far = refl
sets_swap l at k a (x ∷ b) far =
    sets_swap (set l k x) at (suc k) a b (omega arith) ∙ ap (λ (m : List ℕ). sets m (suc k) b) (sets_late l at k x a far)

-- a run and then the one before it
pub sets_before : (l : List ℕ) (at k : ℕ) (a b : List ℕ) → at + length a ≡ k → sets (sets l k b) at a ≡ sets l at (a ++ b)
sets_before l at k a b e =
    sets_swap l at k a b (omega arith) ∙ ap (λ (j : ℕ). sets (sets l at a) j b) (sym e) ∙ sets_append l at a b

-- a run and then the one behind it
pub sets_behind : (l : List ℕ) (at k : ℕ) (a b : List ℕ) → at + length a ≡ k → sets (sets l at a) k b ≡ sets l at (a ++ b)
sets_behind l at k a b e = ap (λ (j : ℕ). sets (sets l at a) j b) (sym e) ∙ sets_append l at a b

-- a run whose second number is stored anew
pub sets_second : (l : List ℕ) (at x y z : ℕ) (a : List ℕ) → set (sets l at (x ∷ y ∷ a)) (at + 1) z ≡ sets l at (x ∷ z ∷ a)
sets_second l at x y z a =
    ap (λ (k : ℕ). set (sets l at (x ∷ y ∷ a)) k z) (add-one at)
    ∙ sets_swap (set (set l at x) (suc at) y) (suc at) (suc (suc at)) (z ∷ []) a (omega arith)
    ∙ ap (λ (m : List ℕ). sets m (suc (suc at)) a) (set-set (set l at x) (suc at) y z)

-- ---- a forest's entries

pub length-rows : (k : ℕ) (f : Forest) → length (rows_from k f) ≡ 2 * size f
length-rows k nil = refl
length-rows k (node v f g) =
    omega (arith, length-rows (k + 1) f, length-rows (k + 1 + size f) g, length-append (rows_from (k + 1) f) (rows_from (k + 1 + size f) g))

pub tapes-node : (v : ℕ) (f g : Forest) → tapes_of (node v f g) ≡ words v ++ (tapes_of f ++ tapes_of g)
unfolding tapes_of
tapes-node v f g = ap (λ (l : List ℕ). words v ++ l) (flat_map-append words (preorder f) (preorder g))

tapes-none : tapes_of nil ≡ []
unfolding tapes_of
tapes-none = refl

pub length-tapes : (f : Forest) → length (tapes_of f) ≡ 2 * size f
length-tapes nil = ap length tapes-none
length-tapes (node v f g) =
    omega (arith, length-tapes f, length-tapes g, ap length (tapes-node v f g), length-append (tapes_of f) (tapes_of g))

-- ---- a subtree's entries, and a list's

module _ (k v : ℕ) (f : Forest) where
  -- the row of a node with children, and then their rows
  pub rows-inner : (table : List ℕ) (w : ℕ) (g h : Forest) → f ≡ node w g h
      → sets (sets table (2 * k) ((k + 1) ∷ none ∷ [])) (2 * (k + 1)) (rows_from (k + 1) f) ≡ sets table (2 * k) (rows_from k (node v f nil))
  rows-inner table w g h e =
      sets_behind table (2 * k) (2 * (k + 1)) ((k + 1) ∷ none ∷ []) (rows_from (k + 1) f) (omega arith)
      ∙ ap (λ (l : List ℕ). sets table (2 * k) ((k + 1) ∷ none ∷ l)) (sym (append-nil (rows_from (k + 1) f)))
      ∙ ap (λ (x : ℕ). sets table (2 * k) (x ∷ none ∷ (rows_from (k + 1) f ++ []))) (ap (λ (t : Forest). entry (number_from (k + 1) t)) (sym e))

  -- the words of the nodes below, and then those of their parent
  pub tapes-inner : (tapes : List ℕ) → sets (sets tapes (2 * (k + 1)) (tapes_of f)) (2 * k) (words v) ≡ sets tapes (2 * k) (tapes_of (node v f nil))
  tapes-inner tapes =
      sets_before tapes (2 * k) (2 * (k + 1)) (words v) (tapes_of f) (omega arith)
      ∙ ap (λ (l : List ℕ). sets tapes (2 * k) (words v ++ l)) (sym (append-nil (tapes_of f)) ∙ ap (λ (l : List ℕ). tapes_of f ++ l) (sym tapes-none))
      ∙ ap (sets tapes (2 * k)) (sym (tapes-node v f nil))

  -- a node that has no children
  pub rows-leaf : (table : List ℕ) → f ≡ nil → sets table (2 * k) (none ∷ none ∷ []) ≡ sets table (2 * k) (rows_from k (node v f nil))
  rows-leaf table e = ap (λ (t : Forest). sets table (2 * k) (rows_from k (node v t nil))) (sym e)

  pub tapes-leaf : (tapes : List ℕ) → f ≡ nil → sets tapes (2 * k) (words v) ≡ sets tapes (2 * k) (tapes_of (node v f nil))
  unfolding tapes_of
  tapes-leaf tapes e = ap (λ (t : Forest). sets tapes (2 * k) (tapes_of (node v t nil))) (sym e)

  -- a subtree, its next sibling, and the rows from there on
  pub rows-further : (table : List ℕ) (w : ℕ) (g h : Forest) (next : ℕ) → next ≡ k + size (node v f nil)
      → sets (set (sets table (2 * k) (rows_from k (node v f nil))) (2 * k + 1) next) (2 * next) (rows_from next (node w g h))
      ≡ sets table (2 * k) (rows_from k (node v f (node w g h)))
  rows-further table w g h next e =
      ap (λ (l : List ℕ). sets l (2 * next) (rows_from next (node w g h)))
      (sets_second table (2 * k) (entry (number_from (k + 1) f)) none next (rows_from (k + 1) f ++ [])
      ∙ ap (λ (l : List ℕ). sets table (2 * k) (entry (number_from (k + 1) f) ∷ next ∷ l)) (append-nil (rows_from (k + 1) f)))
      ∙ sets_behind table (2 * k) (2 * next) (entry (number_from (k + 1) f) ∷ next ∷ rows_from (k + 1) f) (rows_from next (node w g h))
      (omega (arith, length-rows (k + 1) f))
      ∙ ap (λ (j : ℕ). sets table (2 * k) (entry (number_from (k + 1) f) ∷ j ∷ (rows_from (k + 1) f ++ rows_from j (node w g h)))) (omega arith)

  pub tapes-further : (tapes : List ℕ) (g : Forest) (next : ℕ) → next ≡ k + size (node v f nil)
      → sets (sets tapes (2 * k) (tapes_of (node v f nil))) (2 * next) (tapes_of g) ≡ sets tapes (2 * k) (tapes_of (node v f g))
  tapes-further tapes g next e =
      sets_behind tapes (2 * k) (2 * next) (tapes_of (node v f nil)) (tapes_of g) (omega (arith, length-tapes (node v f nil)))
      ∙ ap (sets tapes (2 * k)) together
    where
      together : tapes_of (node v f nil) ++ tapes_of g ≡ tapes_of (node v f g)
      together =
          ap (λ (l : List ℕ). l ++ tapes_of g)
          (tapes-node v f nil ∙ ap (λ (l : List ℕ). words v ++ (tapes_of f ++ l)) tapes-none ∙ ap (λ (l : List ℕ). words v ++ l) (append-nil (tapes_of f)))
          ∙ append_assoc (words v) (tapes_of f) (tapes_of g)
          ∙ sym (tapes-node v f g)

-- ---- the words stand for the labels

-- entries 2k and 2k + 1 of the words of a list
words-at : (l : List ℕ) (k : ℕ) → k < length l
    → (get_or (flat_map words l) (2 * k) 0 ≡ get_or l k 0 % 65536) × (get_or (flat_map words l) (2 * k + 1) 0 ≡ get_or l k 0 / 65536)
words-at [] k h = absurd (not-suc-le-zero h)
words-at (v ∷ l) zero h = (refl, refl)
words-at (v ∷ l) (suc k) h =
    let at = words-at l k (le_of_suc-le-suc h) in
    let low : 2 * suc k ≡ suc (suc (2 * k)) = omega arith in
    let high : 2 * suc k + 1 ≡ suc (suc (2 * k + 1)) = omega arith in (
      ap (λ (i : ℕ). get_or (words v ++ flat_map words l) i 0) low ∙ at.0,
      ap (λ (i : ℕ). get_or (words v ++ flat_map words l) i 0) high ∙ at.1,
    )

-- the tape number of node k is the label of the k-th node in preorder
pub tape_label : (f : Forest) (k : ℕ) → k < size f → tape_number (tapes_of f) k ≡ get_or (preorder f) k 0
unfolding tapes_of
tape_label f k h =
    let at = words-at (preorder f) k (omega (arith, size-preorder f)) in
    omega (arith, at.0, at.1)
