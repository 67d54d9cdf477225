-- A list at a place of a text that is known to be right: what `list` needs there, and what it gives, subtree by subtree. Assumes nothing.
use mathlib.Core.Path.{◌≡◌, refl, sym, ap, ◌∙◌, subst}
use Prim.Native.Nat.{ℕ, ◌+◌, ◌*◌, ◌≤◌, ◌<◌}
use native.Mathlib.Omega.{arith}
use mathlib.Core.Bool.{false}
use mathlib.Core.List.{List, [], ◌∷◌, ◌++◌, append_assoc, append-nil}
use lib.ListN.{length, get_or, set, drop, length-append}
use lib.Seq.{sets}
use Rattle.tree.specs.Forest.{Forest, nil, node}
use Rattle.newick.specs.Text.{comma, Labels, subtree_text, list_text}
use Rattle.newick.specs.Reading.{is_digit}
use Rattle.newick.specs.Read.{most_nodes, tapes_of}
use Rattle.newick.specs.Steps.{rows_from, Stands, Stops, Room, SubtreeHere, ListHere, RowsRead, SubtreeRead, ListRead}
use Rattle.newick.specs.declared.rows.Reached.{Reached}
use Rattle.newick.proofs.Stored.{rows-further, tapes-further}
use Rattle.newick.proofs.Places.{at-within, at_byte, at-past}
use Rattle.newick.proofs.Subtrees.{IsNode}

-- ---- what comes after a list's first subtree, where the list ends with a byte and `more`

byte_after : ℕ → Forest → ℕ
byte_after byte nil = byte
byte_after byte (node w g h) = comma

rest_after : ℕ → List ℕ → Forest → List ℕ
rest_after byte more nil = more
rest_after byte more (node w g h) = list_text (node w g h) ++ byte ∷ more

after-ends : (byte : ℕ) → Stops byte → (after : Forest) → is_digit (byte_after byte after) ≡ false
unfolding byte_after is_digit
after-ends byte stops nil = stops.0
after-ends byte stops (node w g h) = refl

-- a comma comes before some further subtree
comma-some : (byte : ℕ) → Stops byte → (after : Forest) → byte_after byte after ≡ comma → IsNode after
unfolding byte_after
comma-some byte stops nil e = absurd (stops.1 e)
comma-some byte stops (node w g h) e = record { first = w; inner = g; later = h; is = refl }

first-stands : (text : List ℕ) (at v byte : ℕ) (below : Forest) (more : List ℕ) (after : Forest) → Stands text at (node v below after) (byte ∷ more)
    → Stands text at (node v below nil) (byte_after byte after ∷ rest_after byte more after)
unfolding byte_after rest_after
first-stands text at v byte below more nil st = st
first-stands text at v byte below more (node w g h) st = record {
  here =
      st.here
      ∙ append_assoc (subtree_text v below (list_text below)) (comma ∷ list_text (node w g h)) (byte ∷ more)
      ∙ ap (λ (l : List ℕ). l ++ comma ∷ (list_text (node w g h) ++ byte ∷ more)) (sym (append-nil (subtree_text v below (list_text below))));
  labels = (st.labels.0, (st.labels.1.0, tt));
}

module _ {text : List ℕ} {at k : ℕ} {table tapes table₁ tapes₁ : List ℕ} {r : Reached} (read : SubtreeRead text at k table tapes r table₁ tapes₁)
    (v : ℕ) (below after : Forest) (byte : ℕ) (more : List ℕ) (st : Stands text at (node v below after) (byte ∷ more)) (stops : Stops byte) where
  -- what reading the first subtree gave
  first_got : RowsRead (node v below nil) at k table tapes r table₁ tapes₁
  first_got =
      read v below (byte_after byte after) (rest_after byte more after) (first-stands text at v byte below more after st) (after-ends byte stops after)

  -- and the text behind it
  behind-first : drop r.at text ≡ byte_after byte after ∷ rest_after byte more after
  behind-first =
      ap (λ (i : ℕ). drop i text) first_got.place
      ∙ at-past text at (list_text (node v below nil)) (byte_after byte after ∷ rest_after byte more after) (first-stands text at v byte below more after st).here

  -- its first byte, where a comma parts it from further subtrees
  byte-behind : get_or text r.at 0 ≡ byte_after byte after
  byte-behind = at_byte text r.at (byte_after byte after) (rest_after byte more after) behind-first

  further-stands : (w : ℕ) (g h : Forest) → after ≡ node w g h → Stands text (r.at + 1) (node w g h) (byte ∷ more)
  unfolding rest_after
  further-stands w g h e = record {
    here = at-past text r.at (byte_after byte after ∷ []) (rest_after byte more after) behind-first ∙ ap (rest_after byte more) e;
    labels = subst Labels e st.labels.1.1;
  }

-- ---- what `list` needs

module _ {text : List ℕ} {at k : ℕ} {table tapes : List ℕ} (s : ListHere text at k table tapes) where
  pub first-here : SubtreeHere text at k table tapes
  first-here = record {
    root = s.root;
    below = s.below;
    byte = byte_after s.byte s.after;
    more = rest_after s.byte s.more s.after;
    stands = first-stands text at s.root s.byte s.below s.more s.after s.stands;
    ends = after-ends s.byte s.stops s.after;
    room = record { few = omega (arith, s.room.few); in_table = omega (arith, s.room.in_table); in_tapes = omega (arith, s.room.in_tapes) };
  }

  module _ {table₁ tapes₁ : List ℕ} {r : Reached} (read : SubtreeRead text at k table tapes r table₁ tapes₁) where
    first : RowsRead (node s.root s.below nil) at k table tapes r table₁ tapes₁
    first = first_got read s.root s.below s.after s.byte s.more s.stands s.stops

    pub behind-within : r.at < length text
    behind-within =
        at-within text r.at (byte_after s.byte s.after) (rest_after s.byte s.more s.after)
        (behind-first read s.root s.below s.after s.byte s.more s.stands s.stops)

    pub next-few : r.node ≤ most_nodes
    next-few = omega (arith, first.next, s.room.few)

    pub not_back : at ≤ r.at
    not_back = omega (arith, first.place)

    pub further-here : get_or text r.at 0 ≡ comma → (table₂ : List ℕ) → length table₂ ≡ length table → length tapes₁ ≡ length tapes
        → ListHere text (r.at + 1) r.node table₂ tapes₁
    further-here parts table₂ same same' =
        let n = comma-some s.byte s.stops s.after
        (sym (byte-behind read s.root s.below s.after s.byte s.more s.stands s.stops) ∙ parts) in
        record {
          root = n.first;
          below = n.inner;
          after = n.later;
          byte = s.byte;
          more = s.more;
          stands = further-stands read s.root s.below s.after s.byte s.more s.stands s.stops n.first n.inner n.later n.is;
          stops = s.stops;
          room =
              subst (λ (f : Forest). Room r.node f table₂ tapes₁) n.is
              (record {
                few = omega (arith, first.next, s.room.few);
                in_table = omega (arith, first.next, same, s.room.in_table);
                in_tapes = omega (arith, first.next, same', s.room.in_tapes);
              });
        }

-- ---- what `list` gives

module _ {text : List ℕ} {at k : ℕ} {table tapes table₁ tapes₁ : List ℕ} {r : Reached} (read : SubtreeRead text at k table tapes r table₁ tapes₁) where
  pub list-last : (get_or text r.at 0 ≡ comma → ⊥) → ListRead text at k table tapes r table₁ tapes₁
  unfolding byte_after
  list-last other = go
    where
      go : (v : ℕ) (below after : Forest) (byte : ℕ) (more : List ℕ) → Stands text at (node v below after) (byte ∷ more) → Stops byte
          → RowsRead (node v below after) at k table tapes r table₁ tapes₁
      go v below nil byte more st stops = first_got read v below nil byte more st stops
      go v below (node w g h) byte more st stops = absurd (other (byte-behind read v below (node w g h) byte more st stops))

  pub list-further : get_or text r.at 0 ≡ comma → {table₂ table₃ tapes₃ : List ℕ} {s : Reached}
      → table₂ ≡ set table₁ (2 * k + 1) r.node
      → ListRead text (r.at + 1) r.node table₂ tapes₁ s table₃ tapes₃
      → ListRead text at k table tapes s table₃ tapes₃
  unfolding byte_after
  list-further parts {table₂} {table₃} {tapes₃} {s} sibling rest = go
    where
      go : (v : ℕ) (below after : Forest) (byte : ℕ) (more : List ℕ) → Stands text at (node v below after) (byte ∷ more) → Stops byte
          → RowsRead (node v below after) at k table tapes s table₃ tapes₃
      go v below nil byte more st stops = absurd (stops.1 (sym (byte-behind read v below nil byte more st stops) ∙ parts))
      go v below (node w g h) byte more st stops =
          let first = first_got read v below (node w g h) byte more st stops in
          let got = rest w g h byte more (further-stands read v below (node w g h) byte more st stops w g h refl) stops in
          record {
            place =
                omega (
                  arith,
                  first.place,
                  got.place,
                  length-append (subtree_text v below (list_text below)) (comma ∷ list_text (node w g h)),
                  length-append (subtree_text v below (list_text below)) [],
                );
            next = omega (arith, first.next, got.next);
            table-after =
                got.table-after
                ∙ ap (λ (t : List ℕ). sets t (2 * r.node) (rows_from r.node (node w g h)))
                (sibling ∙ ap (λ (t : List ℕ). set t (2 * k + 1) r.node) first.table-after)
                ∙ rows-further k v below table w g h r.node first.next;
            tapes-after =
                got.tapes-after
                ∙ ap (λ (t : List ℕ). sets t (2 * r.node) (tapes_of (node w g h))) first.tapes-after
                ∙ tapes-further k v below tapes (node w g h) r.node first.next;
          }

-- ---- the loop of `list`

-- a list stands at `start`, and whatever reads it reads the list that stands at `at`
pub record ListTurn (text : List ℕ) (at k : ℕ) (table₀ tapes₀ table tapes : List ℕ) (start root : ℕ) : Type 0 where
  pub here : ListHere text start root table tapes
  pub forward : at ≤ start
  pub same-table : length table ≡ length table₀
  pub same-tapes : length tapes ≡ length tapes₀
  pub rest : {r : Reached} {table' tapes' : List ℕ} → ListRead text start root table tapes r table' tapes' → ListRead text at k table₀ tapes₀ r table' tapes'

pub first_turn : {text : List ℕ} {at k : ℕ} {table tapes : List ℕ} → ListHere text at k table tapes → ListTurn text at k table tapes table tapes at k
first_turn s = record { here = s; forward = omega arith; same-table = refl; same-tapes = refl; rest = λ read. read }

pub next_turn : {text : List ℕ} {at k : ℕ} {table₀ tapes₀ table tapes table₁ tapes₁ table₂ : List ℕ} {start root : ℕ} {r : Reached}
    → ListTurn text at k table₀ tapes₀ table tapes start root
    → SubtreeRead text start root table tapes r table₁ tapes₁
    → length table₂ ≡ length table → length tapes₁ ≡ length tapes
    → get_or text r.at 0 ≡ comma → table₂ ≡ set table₁ (2 * root + 1) r.node
    → ListTurn text at k table₀ tapes₀ table₂ tapes₁ (r.at + 1) r.node
next_turn {table₂ = table₂} turn read same same' parts sibling = record {
  here = further-here turn.here read parts table₂ same same';
  forward = omega (arith, turn.forward, not_back turn.here read);
  same-table = same ∙ turn.same-table;
  same-tapes = same' ∙ turn.same-tapes;
  rest = λ rest. turn.rest (list-further read parts sibling rest);
}
