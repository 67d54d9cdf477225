-- One turn of the visit in preorder, in lists: the nodes visited at the front of a list, and those still to be visited at hand and on a
-- stack at its end. Assumes nothing.
use mathlib.Core.Path.{◌≡◌, refl, sym, ap, ap₂, ◌∙◌, subst, subst₂}
use mathlib.Core.List.{List, [], ◌∷◌, ◌++◌, append_assoc, append-nil}
use Prim.Native.Nat.{ℕ, suc, ◌+◌, ◌-◌, ◌*◌, ◌≤◌, ◌<◌}
use native.Mathlib.Numerals.{add-one}
use native.Mathlib.Omega.{arith}
use lib.ListN.{length, get_or, take, drop, set, length-append, length-drop, length-set}
use lib.Seq.{take-suc-set, drop-set-lt, length-take-le, drop-length}
use Rattle.tree.specs.Table.{none, nodes, first_child, next_sibling}
use Rattle.tree.specs.Forest.{Forest, forest, tree_of, size, preorder}
use Rattle.tree.specs.Steps.{pushed, pushed_low, Pushed}
use Rattle.tree.proofs.Places.{from_place}
use Rattle.tree.proofs.Counting.{All}
use Rattle.tree.proofs.Reading.{size-preorder}
use Rattle.tree.proofs.Scan.{get_d_any}
use Rattle.tree.proofs.Stack.{drop-stored, stacked, node-stacked, one, node-one, pushed_low-one, pushed-length, pushed-take, pushed-drop}
use Rattle.tree.proofs.Pending.{Pending, Opened, ahead, open_pending, stacked-pending, stacked-ahead, one_size, pending-ahead}
use Rattle.tree.proofs.Linked.{Linked, tree-agrees, tree-entry, tree-size}

-- v is the node at hand, or none
pub record Visiting (t order : List ℕ) (v low count : ℕ) : Type 0 where
  pub size : length order ≡ nodes t
  pub top : low ≤ nodes t
  pub apart : count + one v ≤ low
  pub pending : All (Pending t) (stacked v (drop low order))
  pub whole : take count order ++ ahead t (stacked v (drop low order)) ≡ preorder (tree_of t)

module _ (t : List ℕ) (L : Linked t) where
  pub visit_start : (order : List ℕ) → length order ≡ nodes t → Visiting t (set order (nodes t - 1) 0) none (nodes t - 1) 0
  unfolding tree_of
  visit_start order n =
      record {
        size = length-set order (nodes t - 1) 0 ∙ n;
        top = omega arith;
        apart = omega arith;
        pending = subst (All (Pending t)) (sym only) (root, tt);
        whole = ap (ahead t) only ∙ append-nil (preorder (forest t 0)) ∙ tree;
      }
    where
      only : drop (nodes t - 1) (set order (nodes t - 1) 0) ≡ 0 ∷ []
      only =
          let last : suc (nodes t - 1) ≡ length order = omega arith in
          drop-stored order (nodes t - 1) 0 (omega arith) ∙ rw (last, drop-length)

      root : Pending t 0
      root =
          record { below = L.some; agrees = tree-agrees t L; named = tree-entry t L; small = tree-size t L }

      tree : preorder (forest t 0) ≡ preorder (tree_of t)
      tree = refl

  -- a visit that has come to its end
  pub visit_end : (order : List ℕ) (low count : ℕ) → Visiting t order none low count → nodes t ≤ low
      → (count ≡ size (tree_of t)) × (take count order ≡ preorder (tree_of t))
  visit_end order low count W h = (counted, done)
    where
      done : take count order ≡ preorder (tree_of t)
      done =
          let all : low ≡ length order = omega arith in
          sym (append-nil (take count order))
          ∙ ap (λ (l : List ℕ). take count order ++ ahead t l) (sym (ap (λ (k : ℕ). drop k order) all ∙ drop-length order))
          ∙ W.whole

      counted : count ≡ size (tree_of t)
      counted = omega (arith, ap length done, length-take-le count order (omega arith), size-preorder (tree_of t))

  -- the node on the top of the stack is taken in hand
  module _ (order : List ℕ) (low count : ℕ) (W : Visiting t order none low count) (more : low < nodes t) where
    split : drop low order ≡ get_or order low 0 ∷ drop (low + 1) order
    split = from_place order low 0 (omega arith)

    pub top-node : get_or order low 0 ≡ none → ⊥
    top-node e = omega (arith, (subst (All (Pending t)) split W.pending).0.below, L.few)

    pub visit_top : Visiting t order (get_or order low 0) (low + 1) count
    visit_top =
        let same : drop low order ≡ stacked (get_or order low 0) (drop (low + 1) order) = split ∙ sym (node-stacked (get_or order low 0) (drop (low + 1) order) top-node) in
        record {
          size = W.size;
          top = omega arith;
          apart = omega (arith, W.apart, node-one (get_or order low 0) top-node);
          pending = subst (All (Pending t)) same W.pending;
          whole = ap (λ (l : List ℕ). take count order ++ ahead t l) (sym same) ∙ W.whole;
        }

  -- the node at hand is visited
  module _ (order : List ℕ) (v low count : ℕ) (W : Visiting t order v low count) (some : v ≡ none → ⊥) where
    at_hand : stacked v (drop low order) ≡ v ∷ drop low order
    at_hand = node-stacked v (drop low order) some

    visit_pending : Pending t v
    visit_pending = (subst (All (Pending t)) at_hand W.pending).0

    rest-pending : All (Pending t) (drop low order)
    rest-pending = (subst (All (Pending t)) at_hand W.pending).1

    pub visit_count : count < low
    visit_count = omega (arith, W.apart, node-one v some)

    -- the list with the node at its place
    abbrev pub placed : List ℕ
    placed = set order count v

    abbrev pub sibling : ℕ
    sibling = next_sibling t v

    abbrev pub child : ℕ
    child = first_child t v

    opened : Opened t v
    opened = open_pending t L v visit_pending

    regroup : (x y z w : List ℕ) (v : ℕ) → x ++ ((v ∷ (y ++ z)) ++ w) ≡ (x ++ (v ∷ [])) ++ (y ++ (z ++ w))
    regroup x y z w v = ap (λ (r : List ℕ). x ++ (v ∷ r)) (append_assoc y z w) ∙ sym (append_assoc x (v ∷ []) (y ++ (z ++ w)))

    whole_then : (take count order ++ (v ∷ [])) ++ (preorder opened.children ++ (preorder opened.siblings ++ ahead t (drop low order)))
        ≡ preorder (tree_of t)
    whole_then =
        sym (regroup (take count order) (preorder opened.children) (preorder opened.siblings) (ahead t (drop low order)) v)
        ∙ ap (λ (f : Forest). take count order ++ (preorder f ++ ahead t (drop low order))) (sym opened.reads)
        ∙ ap (λ (l : List ℕ). take count order ++ ahead t l) (sym at_hand)
        ∙ W.whole

    -- there is room for both on the stack
    room : (count + 1) + (one child + one sibling) ≤ low
    room =
        omega (
          arith,
          tree-size t L,
          size-preorder (tree_of t),
          ap length whole_then,
          length-append (take count order ++ (v ∷ [])) (preorder opened.children ++ (preorder opened.siblings ++ ahead t (drop low order))),
          length-append (take count order) (v ∷ []),
          length-append (preorder opened.children) (preorder opened.siblings ++ ahead t (drop low order)),
          length-append (preorder opened.siblings) (ahead t (drop low order)),
          length-take-le count order (omega arith),
          pending-ahead t (drop low order) L.few rest-pending,
          length-drop low order,
          one_size t child opened.children opened.below,
          one_size t sibling opened.siblings opened.beside,
        )

    -- the node is in its place, and its first child, its next sibling and the stack are what is still to be visited
    visited : (o : List ℕ) (w l : ℕ) → length o ≡ length order → l ≤ nodes t → (count + 1) + one w ≤ l → take (count + 1) o ≡ take (count + 1) placed
        → stacked w (drop l o) ≡ stacked child (stacked sibling (drop low order)) → Visiting t o w l (count + 1)
    visited o w l long top apart front back =
        record {
          size = long ∙ W.size;
          top = top;
          apart = apart;
          pending = subst (All (Pending t)) (sym back)
              (stacked-pending t L child opened.children opened.below (stacked sibling (drop low order))
              (stacked-pending t L sibling opened.siblings opened.beside (drop low order) rest-pending));
          whole = ap₂ ◌++◌ (front ∙ ap (λ (k : ℕ). take k placed) (add-one count) ∙ take-suc-set order count v (omega arith)) lies_ahead ∙ whole_then;
        }
      where
        lies_ahead : ahead t (stacked w (drop l o)) ≡ preorder opened.children ++ (preorder opened.siblings ++ ahead t (drop low order))
        lies_ahead =
            ap (ahead t) back
            ∙ stacked-ahead t L child opened.children opened.below (stacked sibling (drop low order))
            ∙ ap (λ (l : List ℕ). preorder opened.children ++ l)
            (stacked-ahead t L sibling opened.siblings opened.beside (drop low order))

    kept : drop low placed ≡ drop low order
    kept = drop-set-lt low order count v visit_count

    -- no first child: on to the next sibling
    visit_beside : child ≡ none → Visiting t placed sibling low (count + 1)
    visit_beside e =
        visited placed sibling low (length-set order count v) W.top (omega (arith, room)) refl
        (ap (stacked sibling) kept ∙ sym (ap (λ (x : ℕ). stacked x (stacked sibling (drop low order))) e))

    -- on to the first child, with the next sibling on the stack
    within : low ≤ length placed
    within = omega (arith, length-set order count v)

    visit_below : (child ≡ none → ⊥) → Visiting t (pushed placed low sibling) child (pushed_low low sibling) (count + 1)
    visit_below d =
        visited (pushed placed low sibling) child (pushed_low low sibling) (pushed-length placed low sibling ∙ length-set order count v)
        (omega (arith, pushed_low-one low sibling)) (omega (arith, room, pushed_low-one low sibling))
        (pushed-take placed low sibling (count + 1) (omega (arith, room, pushed_low-one low sibling)))
        (ap (stacked child) (pushed-drop placed low sibling (λ s. omega (arith, visit_count)) within ∙ ap (stacked sibling) kept))

    -- ---- the same, as the code has it: entries are read where they are inside the table

    pub few-rows : v < 1024
    few-rows = omega (arith, visit_pending.below, L.few)

    pub sibling-inside : 2 * v + 1 < length t
    sibling-inside = omega (arith, visit_pending.below, L.even)

    pub child-inside : 2 * v < length t
    child-inside = omega (arith, sibling-inside)

    sibling-read : get_or t (2 * v + 1) 0 ≡ sibling
    sibling-read = get_d_any t (2 * v + 1) 0 none sibling-inside

    child-read : get_or t (2 * v) 0 ≡ child
    child-read = get_d_any t (2 * v) 0 none child-inside

    pub push_room : ((get_or t (2 * v + 1) 0 ≡ none → ⊥) → 0 < low) × (low ≤ length placed)
    push_room = ((λ d. omega (arith, visit_count)), within)

    pub visit_sibling : get_or t (2 * v) 0 ≡ none → Visiting t placed (get_or t (2 * v + 1) 0) low (count + 1)
    visit_sibling e = subst (λ (w : ℕ). Visiting t placed w low (count + 1)) (sym sibling-read) (visit_beside (sym child-read ∙ e))

    pub visit_child : (r : ℕ) (o : List ℕ) → Pushed placed low (get_or t (2 * v + 1) 0) r o → (get_or t (2 * v) 0 ≡ none → ⊥)
        → Visiting t o (get_or t (2 * v) 0) r (count + 1)
    visit_child r o P d =
        subst (λ (w : ℕ). Visiting t o w r (count + 1)) (sym child-read)
        (subst₂ (λ (k : ℕ) (l : List ℕ). Visiting t l child k (count + 1))
        (sym (P.low ∙ ap (pushed_low low) sibling-read))
        (sym (P.order ∙ ap (pushed placed low) sibling-read))
        (visit_below (λ e. d (child-read ∙ e))))
