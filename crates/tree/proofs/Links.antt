-- The renumbered table, row by row: where the old and the new numbers stand, and that the rows in the new numbers are the renumbered table.
-- Assumes nothing.
use mathlib.Core.Path.{◌≡◌, refl, sym, ap, ◌∙◌, subst}
use mathlib.Core.Logic.{⊎_elim}
use mathlib.Core.Bool.{Bool, cond}
use mathlib.Core.List.{List, [], ◌∷◌, ◌++◌, append_assoc, append-nil}
use Prim.Native.Nat.{ℕ, ◌+◌, ◌*◌, ◌≤◌, ◌<◌}
use native.Mathlib.Omega.{arith}
use lib.ListN.{length, get_or, set, length-append, length-set}
use lib.Seq.{get_or_at, get_or-set_same, get_or-set_other}
use borrow.Author.Tests.{eq-eqb, ne_eqb}
use borrow.Author.Count.{below_more}
use Rattle.tree.specs.Numbers.{count}
use Rattle.tree.specs.Table.{none, nodes, first_child, next_sibling}
use Rattle.tree.specs.Forest.{Forest, nil, node, tree_of, size, preorder, entry}
use Rattle.tree.specs.WellFormed.{table_number}
use Rattle.tree.specs.Operations.{number_from, renumbered}
use Rattle.tree.specs.Steps.{OldNumbers, NewNumbers, renamed}
use Rattle.tree.proofs.Counting.{Below, all_left, all_right}
use Rattle.tree.proofs.Tests.{all-at}
use Rattle.tree.proofs.Reading.{Agrees, size-preorder}
use Rattle.tree.proofs.Linked.{Linked}
use Rattle.tree.proofs.Places.{one_place}
use Rattle.tree.proofs.Stands.{accepted-agrees, accepted-numbers, accepted-length, accepted-size}
use Rattle.tree.proofs.TableOf.{table_of_unique}
use Rattle.tree.proofs.Renumbered.{number_from-numbers}
use Rattle.tree.proofs.Followed.{accepted-linked, first_read, second-read}

-- ---- new numbers for old

-- the nodes of an accepted table in preorder
pub old_numbers_lem : (t old : List ℕ) → table_number t ≡ 0 → old ≡ preorder (tree_of t) → (bound : ℕ) → nodes t ≤ bound → OldNumbers old bound
old_numbers_lem t old e o bound h =
    let N = accepted-numbers t e in
    let b : Below (nodes t) old = subst (Below (nodes t)) (sym o) N.below in
    record {
      few = omega (arith, ap length o, size-preorder (tree_of t), accepted-size t e);
      below = λ k i. omega (arith, all-at (λ x. x < nodes t) old 0 b k i);
      apart = λ j k i l p.
          one_place (get_or old k 0) 0 old
          (omega (arith, ap (count (get_or old k 0)) o, N.each (get_or old k 0) (all-at (λ x. x < nodes t) old 0 b k l))) j k i l p refl;
    }

pub old-length : (t old : List ℕ) → table_number t ≡ 0 → old ≡ preorder (tree_of t) → length old ≡ nodes t
old-length t old e o = ap length o ∙ sym (size-preorder (tree_of t)) ∙ accepted-size t e

-- where the new numbers have come to
pub record Inverting (old new : List ℕ) (bound k : ℕ) : Type 0 where
  pub size : length new ≡ bound
  pub within : k ≤ length old
  pub inverse : (j : ℕ) → j < k → get_or new (get_or old j 0) 0 ≡ j

pub invert_start : (old new : List ℕ) → Inverting old new (length new) 0
invert_start old new = record { size = refl; within = omega arith; inverse = λ j h. absurd (omega arith) }

pub invert_next : (old new : List ℕ) (bound k : ℕ) → OldNumbers old bound → Inverting old new bound k → k < length old
    → Inverting old (set new (get_or old k 0) k) bound (k + 1)
invert_next old new bound k O I inside =
    record {
      size = length-set new (get_or old k 0) k ∙ I.size;
      within = omega arith;
      inverse = below_more (λ j. get_or (set new (get_or old k 0) k) (get_or old j 0) 0 ≡ j) k
          (λ j h.
          get_or-set_other new (get_or old k 0) (get_or old j 0) k 0 (λ p. let same = O.apart j k (omega arith) inside p in omega arith)
          ∙ I.inverse j h)
          (get_or-set_same new (get_or old k 0) k 0 (omega (arith, O.below k inside)));
    }

pub invert_end : (old new : List ℕ) (bound k : ℕ) → Inverting old new bound k → length old ≤ k → NewNumbers old new
invert_end old new bound k I h = record { inverse = λ j i. I.inverse j (omega arith) }

-- ---- the rows

pub record Linking (t old new out : List ℕ) (k : ℕ) : Type 0 where
  pub size : length out ≡ length t
  pub within : k ≤ length old
  pub child : (j : ℕ) → j < k → first_child out j ≡ renamed new (first_child t (get_or old j 0))
  pub sibling : (j : ℕ) → j < k → next_sibling out j ≡ renamed new (next_sibling t (get_or old j 0))

pub link_start : (t old new out : List ℕ) → length out ≡ length t → Linking t old new out 0
link_start t old new out e =
    record { size = e; within = omega arith; child = λ j h. absurd (omega arith); sibling = λ j h. absurd (omega arith) }

-- what one turn needs and gives: the row of the node whose new number is k
pub record Row (t old new out : List ℕ) (k : ℕ) : Type 0 where
  pub node : get_or old k 0 < nodes t
  pub few-nodes : get_or old k 0 < 1024
  pub few_turns : k < 1024
  pub child : (get_or t (2 * get_or old k 0) 0 ≡ none → ⊥) → get_or t (2 * get_or old k 0) 0 < length new
  pub sibling : (get_or t (2 * get_or old k 0 + 1) 0 ≡ none → ⊥) → get_or t (2 * get_or old k 0 + 1) 0 < length new
  pub first-room : 2 * k < length out
  pub second-room : (c : ℕ) → 2 * k + 1 < length (set out (2 * k) c)
  pub next : (c s : ℕ) → c ≡ renamed new (get_or t (2 * get_or old k 0) 0) → s ≡ renamed new (get_or t (2 * get_or old k 0 + 1) 0)
      → Linking t old new (set (set out (2 * k) c) (2 * k + 1) s) (k + 1)

module _ (t old new : List ℕ) (accepted : table_number t ≡ 0) (o : old ≡ preorder (tree_of t)) where
  L : Linked t
  L = accepted-linked t accepted

  old_below : (k : ℕ) → k < length old → get_or old k 0 < nodes t
  old_below = (old_numbers_lem t old accepted o (nodes t) (omega arith)).below

  module _ (out : List ℕ) (k : ℕ) (K : Linking t old new out k) (inside : k < length old) where
    link-node : get_or old k 0 < nodes t
    link-node = old_below k inside

    few-rows : get_or old k 0 < 1024
    few-rows = omega (arith, link-node, L.few)

    few-links : k < 1024
    few-links = omega (arith, old-length t old accepted o, L.few)

    -- the row's entries have new numbers
    child-room : nodes t ≤ length new → (get_or t (2 * get_or old k 0) 0 ≡ none → ⊥) → get_or t (2 * get_or old k 0) 0 < length new
    child-room r d =
        ⊎_elim (λ h. omega (arith, first_read t accepted (get_or old k 0) link-node))
        (λ h. absurd (d (first_read t accepted (get_or old k 0) link-node ∙ h)))
        (L.child (get_or old k 0) link-node)

    sibling-room : nodes t ≤ length new → (get_or t (2 * get_or old k 0 + 1) 0 ≡ none → ⊥) → get_or t (2 * get_or old k 0 + 1) 0 < length new
    sibling-room r d =
        ⊎_elim (λ h. omega (arith, second-read t accepted (get_or old k 0) link-node))
        (λ h. absurd (d (second-read t accepted (get_or old k 0) link-node ∙ h)))
        (L.sibling (get_or old k 0) link-node)

    -- the row as the code writes it
    abbrev linked-row : ℕ → ℕ → List ℕ
    linked-row c s = set (set out (2 * k) c) (2 * k + 1) s

    room₁ : 2 * k < length out
    room₁ = omega (arith, old-length t old accepted o)

    room₂ : (c : ℕ) → 2 * k + 1 < length (set out (2 * k) c)
    room₂ c = omega (arith, length-set out (2 * k) c, old-length t old accepted o)

    link-next : (c s : ℕ) → c ≡ renamed new (get_or t (2 * get_or old k 0) 0) → s ≡ renamed new (get_or t (2 * get_or old k 0 + 1) 0)
        → Linking t old new (linked-row c s) (k + 1)
    link-next c s ec es =
        record {
          size = length-set (set out (2 * k) c) (2 * k + 1) s ∙ length-set out (2 * k) c ∙ K.size;
          within = omega arith;
          child = λ j h.
              get_or-set_other (set out (2 * k) c) (2 * k + 1) (2 * j) s none (λ p. omega arith)
              ∙ below_more (λ j. first_child (set out (2 * k) c) j ≡ renamed new (first_child t (get_or old j 0))) k
              (λ j h. get_or-set_other out (2 * k) (2 * j) c none (λ p. omega arith) ∙ K.child j h)
              (get_or-set_same out (2 * k) c none room₁ ∙ ec ∙ ap (renamed new) (first_read t accepted (get_or old k 0) link-node)) j h;
          sibling = below_more (λ j. next_sibling (linked-row c s) j ≡ renamed new (next_sibling t (get_or old j 0))) k
              (λ j h.
              get_or-set_other (set out (2 * k) c) (2 * k + 1) (2 * j + 1) s none (λ p. omega arith)
              ∙ get_or-set_other out (2 * k) (2 * j + 1) c none (λ p. omega arith) ∙ K.sibling j h)
              (get_or-set_same (set out (2 * k) c) (2 * k + 1) s none (room₂ c) ∙ es
              ∙ ap (renamed new) (second-read t accepted (get_or old k 0) link-node));
        }

    pub link_row : nodes t ≤ length new → Row t old new out k
    link_row r =
        record {
          node = link-node;
          few-nodes = few-rows;
          few_turns = few-links;
          child = child-room r;
          sibling = sibling-room r;
          first-room = room₁;
          second-room = room₂;
          next = link-next;
        }

  -- ---- past the last row

  module _ (W : NewNumbers old new) where
    -- the first node of a part of the tree, as new number: how many stand before it
    renamed-entry : (f : Forest) (front rest : List ℕ) (k : ℕ) → old ≡ front ++ (preorder f ++ rest) → length front ≡ k → Below (nodes t) (preorder f)
        → renamed new (entry f) ≡ entry (number_from k f)
    renamed-entry nil front rest k e l b = ap (λ (x : Bool). cond x none (get_or new none 0)) (eq-eqb none none refl)
    renamed-entry (node v f g) front rest k e l b =
        ap (λ (x : Bool). cond x none (get_or new v 0)) (ne_eqb v none (λ p. omega (arith, L.few, b.0)))
        ∙ ap (λ (x : ℕ). get_or new x 0) (sym (ap (λ (l : List ℕ). get_or l k 0) e ∙ get_or_at front v ((preorder f ++ preorder g) ++ rest) 0 k l))
        ∙ W.inverse k (omega (arith, ap length e, length-append front (v ∷ ((preorder f ++ preorder g) ++ rest))))

    -- the rows of a part of the tree
    rows_agree : (out : List ℕ) → Linking t old new out (length old)
        → (f : Forest) (front rest : List ℕ) (k : ℕ) → old ≡ front ++ (preorder f ++ rest) → length front ≡ k → Agrees t f → Below (nodes t) (preorder f)
        → Agrees out (number_from k f)
    rows_agree out K nil front rest k e l a b = tt
    rows_agree out K (node v f g) front rest k e l a b =
        let left = all_left (λ x. x < nodes t) (preorder f) (preorder g) b.1 in
        let right = all_right (λ x. x < nodes t) (preorder f) (preorder g) b.1 in
        let inside : k < length old = omega (arith, ap length e, length-append front (v ∷ ((preorder f ++ preorder g) ++ rest))) in
        let here : get_or old k 0 ≡ v = ap (λ (l : List ℕ). get_or l k 0) e ∙ get_or_at front v ((preorder f ++ preorder g) ++ rest) 0 k l in
        let next = e ∙ ap (λ (r : List ℕ). front ++ (v ∷ r)) (append_assoc (preorder f) (preorder g) rest) in
        let below : old ≡ (front ++ (v ∷ [])) ++ (preorder f ++ (preorder g ++ rest)) =
        next ∙ sym (append_assoc front (v ∷ []) (preorder f ++ (preorder g ++ rest))) in
        let after : old ≡ (front ++ (v ∷ preorder f)) ++ (preorder g ++ rest) =
        next ∙ sym (append_assoc front (v ∷ preorder f) (preorder g ++ rest)) in
        let m : length (front ++ (v ∷ [])) ≡ k + 1 = omega (arith, length-append front (v ∷ [])) in
        let n : length (front ++ (v ∷ preorder f)) ≡ k + 1 + size f = omega (arith, length-append front (v ∷ preorder f), size-preorder f) in (
          K.child k inside ∙ ap (λ (x : ℕ). renamed new (first_child t x)) here ∙ ap (renamed new) a.0
              ∙ renamed-entry f (front ++ (v ∷ [])) (preorder g ++ rest) (k + 1) below m left,
          K.sibling k inside ∙ ap (λ (x : ℕ). renamed new (next_sibling t x)) here ∙ ap (renamed new) a.1
              ∙ renamed-entry g (front ++ (v ∷ preorder f)) rest (k + 1 + size f) after n right,
          rows_agree out K f (front ++ (v ∷ [])) (preorder g ++ rest) (k + 1) below m a.2 left,
          rows_agree out K g (front ++ (v ∷ preorder f)) rest (k + 1 + size f) after n a.3 right,
        )

    pub link-end : (out : List ℕ) (k : ℕ) → Linking t old new out k → length old ≤ k → out ≡ renumbered t
    unfolding renumbered
    link-end out k K h =
        let N = accepted-numbers t accepted in
        let all : k ≡ length old = omega arith in
        table_of_unique (nodes t) (number_from 0 (tree_of t)) (number_from-numbers (nodes t) (tree_of t) N) out (K.size ∙ accepted-length t accepted)
        (rows_agree out (subst (Linking t old new out) all K) (tree_of t) [] [] 0 (o ∙ sym (append-nil (preorder (tree_of t)))) refl
        (accepted-agrees t accepted) N.below)
