-- A subtree at a place of a text that is known to be right: what `subtree` needs there, and what it gives. Assumes nothing.
use mathlib.Core.Path.{◌≡◌, refl, sym, ap, ◌∙◌, subst}
use Prim.Native.Nat.{ℕ, ◌+◌, ◌*◌, ◌≤◌, ◌<◌}
use native.Mathlib.Nat.{not-suc-le-zero}
use native.Mathlib.Omega.{arith}
use mathlib.Core.Bool.{true, false, true≢false}
use mathlib.Core.List.{List, [], ◌∷◌, ◌++◌, append_assoc, append-nil}
use lib.ListN.{length, get_or, drop, length-append}
use borrow.Author.Tests.{eqb-false}
use lib.Seq.{sets}
use Rattle.lines.specs.Decimal.{decimal}
use Rattle.lines.proofs.ReadBack.{some-digit}
use Rattle.tree.proofs.Counting.{All}
use Rattle.tree.specs.Table.{none}
use Rattle.tree.specs.Forest.{Forest, nil, node, size}
use Rattle.newick.specs.Text.{opening, closing, comma, most_label, Labels, subtree_text, list_text}
use Rattle.newick.specs.Reading.{is_digit}
use Rattle.newick.specs.Read.{words}
use Rattle.newick.specs.Steps.{leading, label_at, LabelHere, rows_from, Stands, Stops, Room, SubtreeHere, ListHere, RowsRead, SubtreeRead, ListRead}
use Rattle.newick.specs.declared.rows.Reached.{Reached}
use Rattle.newick.proofs.Places.{at-within, at_byte, at-past}
use Rattle.newick.proofs.Digits.{decimal-digits}
use Rattle.newick.proofs.LabelAt.{leading-here, label-here}
use Rattle.newick.proofs.Stored.{rows-inner, tapes-inner, rows-leaf, tapes-leaf}

-- a number's first byte is a digit
record Front (l : List ℕ) : Type 0 where
  byte : ℕ
  rest : List ℕ
  front : l ≡ byte ∷ rest
  is : is_digit byte ≡ true

decimal-front : (v : ℕ) → Front (decimal v)
decimal-front v = front (decimal v) (some-digit v) (decimal-digits v)
  where
    front : (l : List ℕ) → 0 < length l → All (λ byte. is_digit byte ≡ true) l → Front l
    front [] some a = absurd (not-suc-le-zero some)
    front (byte ∷ l) some a = record { byte = byte; rest = l; front = refl; is = a.0 }

-- ---- a label

label-given : (text : List ℕ) (at v byte : ℕ) (more : List ℕ) → drop at text ≡ decimal v ++ byte ∷ more → is_digit byte ≡ false → v ≤ most_label
    → LabelHere text at
label-given text at v byte more here ends fits = record {
  ends =
      omega (
        arith,
        leading-here text at v byte more here ends,
        at-within text (at + length (decimal v)) byte more (at-past text at (decimal v) (byte ∷ more) here),
      );
  fits = omega (arith, label-here text at v byte more here ends);
}

-- ---- a subtree: its list, and its label

opening-ends : is_digit opening ≡ false
unfolding is_digit
opening-ends = refl

closing-stops : Stops closing
unfolding is_digit
closing-stops = (refl, eqb-false closing comma refl)

-- a forest that is not empty
pub record IsNode (f : Forest) : Type 0 where
  pub first : ℕ
  pub inner : Forest
  pub later : Forest
  pub is : f ≡ node first inner later

-- a bracket is open: the list, and the label behind it
record Opened (text : List ℕ) (at v byte : ℕ) (more : List ℕ) (below : Forest) : Type 0 where
  some : IsNode below
  list : drop (at + 1) text ≡ list_text below ++ closing ∷ (decimal v ++ byte ∷ more)
  long : length (subtree_text v below (list_text below)) ≡ 1 + length (list_text below) + 1 + length (decimal v)

module _ (text : List ℕ) (at v byte : ℕ) (more : List ℕ) where
  abbrev Here : Forest → Type 0
  Here below = drop at text ≡ subtree_text v below (list_text below) ++ byte ∷ more

  here_of : (below : Forest) → Stands text at (node v below nil) (byte ∷ more) → Here below
  here_of below st = st.here ∙ ap (λ (l : List ℕ). l ++ byte ∷ more) (append-nil (subtree_text v below (list_text below)))

  here-within : (below : Forest) → Here below → at < length text
  here-within nil e =
      let d = decimal-front v in
      at-within text at d.byte (d.rest ++ byte ∷ more) (e ∙ ap (λ (l : List ℕ). l ++ byte ∷ more) d.front)
  here-within (node w g h) e = at-within text at opening _ e

  leaf : (below : Forest) → Here below → (get_or text at 0 ≡ opening → ⊥) → below ≡ nil
  leaf nil e n = refl
  leaf (node w g h) e n = absurd (n (at_byte text at opening _ e))

  opened : (below : Forest) → Here below → get_or text at 0 ≡ opening → Opened text at v byte more below
  opened nil e o =
      let d = decimal-front v in
      let b = at_byte text at d.byte (d.rest ++ byte ∷ more) (e ∙ ap (λ (l : List ℕ). l ++ byte ∷ more) d.front) in
      absurd (true≢false (sym d.is ∙ ap is_digit (sym b ∙ o) ∙ opening-ends))
  opened (node w g h) e o = record {
    some = record { first = w; inner = g; later = h; is = refl };
    list =
        at-past text at (opening ∷ []) (list_text (node w g h) ++ closing ∷ decimal v ++ byte ∷ more) e
        ∙ append_assoc (list_text (node w g h)) (closing ∷ decimal v) (byte ∷ more);
    long = omega (arith, length-append (opening ∷ list_text (node w g h)) (closing ∷ decimal v));
  }

  -- the label behind the list
  label-behind : (below : Forest) → Opened text at v byte more below → drop (at + 1 + length (list_text below) + 1) text ≡ decimal v ++ byte ∷ more
  label-behind below o =
      at-past text (at + 1 + length (list_text below)) (closing ∷ []) (decimal v ++ byte ∷ more)
      (at-past text (at + 1) (list_text below) (closing ∷ (decimal v ++ byte ∷ more)) o.list)

  -- what reading the list gave
  list_got : (below : Forest) → Opened text at v byte more below → Labels below → {k : ℕ} {table tapes table' tapes' : List ℕ} {r : Reached}
      → ListRead text (at + 1) k table tapes r table' tapes' → RowsRead below (at + 1) k table tapes r table' tapes'
  list_got below o labels {k} {table} {tapes} {table'} {tapes'} {r} read =
      subst (λ (f : Forest). RowsRead f (at + 1) k table tapes r table' tapes') (sym o.some.is)
      (read o.some.first o.some.inner o.some.later closing (decimal v ++ byte ∷ more)
      (subst (λ (f : Forest). Stands text (at + 1) f (closing ∷ (decimal v ++ byte ∷ more))) o.some.is (record { here = o.list; labels = labels }))
      closing-stops)

-- ---- what `subtree` needs

module _ {text : List ℕ} {at k : ℕ} {table tapes : List ℕ} (s : SubtreeHere text at k table tapes) where
  abbrev here : drop at text ≡ subtree_text s.root s.below (list_text s.below) ++ s.byte ∷ s.more
  here = here_of text at s.root s.byte s.more s.below s.stands

  pub subtree-within : at < length text
  subtree-within = here-within text at s.root s.byte s.more s.below here

  pub inner-list : get_or text at 0 ≡ opening → (table' : List ℕ) → length table' ≡ length table → ListHere text (at + 1) (k + 1) table' tapes
  inner-list bracket table' same =
      let o = opened text at s.root s.byte s.more s.below here bracket in
      record {
        root = o.some.first;
        below = o.some.inner;
        after = o.some.later;
        byte = closing;
        more = decimal s.root ++ s.byte ∷ s.more;
        stands =
            subst (λ (f : Forest). Stands text (at + 1) f (closing ∷ (decimal s.root ++ s.byte ∷ s.more))) o.some.is
            (record { here = o.list; labels = s.stands.labels.1.0 });
        stops = closing-stops;
        room =
            subst (λ (f : Forest). Room (k + 1) f table' tapes) o.some.is
            (record { few = omega (arith, s.room.few); in_table = omega (arith, same, s.room.in_table); in_tapes = omega (arith, s.room.in_tapes) });
      }

  pub inner-label : get_or text at 0 ≡ opening → {table' tapes' table'' tapes'' : List ℕ} {r : Reached}
      → ListRead text (at + 1) (k + 1) table' tapes' r table'' tapes'' → LabelHere text (r.at + 1)
  inner-label bracket read =
      let o = opened text at s.root s.byte s.more s.below here bracket in
      let got = list_got text at s.root s.byte s.more s.below o s.stands.labels.1.0 read in
      subst (λ (i : ℕ). LabelHere text (i + 1)) (sym got.place)
      (label-given text (at + 1 + length (list_text s.below) + 1) s.root s.byte s.more
      (label-behind text at s.root s.byte s.more s.below o) s.ends s.stands.labels.0)

  pub leaf-label : (get_or text at 0 ≡ opening → ⊥) → LabelHere text at
  leaf-label other =
      let e = leaf text at s.root s.byte s.more s.below here other in
      label-given text at s.root s.byte s.more
      (here ∙ ap (λ (f : Forest). subtree_text s.root f (list_text f) ++ s.byte ∷ s.more) e)
      s.ends s.stands.labels.0

-- ---- what `subtree` gives

module _ {text : List ℕ} {at k : ℕ} {table tapes : List ℕ} where
  pub inner-read : get_or text at 0 ≡ opening → {table₁ table₂ tapes₂ tapes₃ : List ℕ} {r : Reached} {end : ℕ}
      → table₁ ≡ sets table (2 * k) ((k + 1) ∷ none ∷ [])
      → ListRead text (at + 1) (k + 1) table₁ tapes r table₂ tapes₂
      → end ≡ r.at + 1 + leading (drop (r.at + 1) text)
      → tapes₃ ≡ sets tapes₂ (2 * k) (words (label_at text (r.at + 1)))
      → SubtreeRead text at k table tapes (record { at = end; node = r.node }) table₂ tapes₃
  inner-read bracket {tapes₂ = tapes₂} {r = r} row read ends label = λ v below byte more st stop.
      let o = opened text at v byte more below (here_of text at v byte more below st) bracket in
      let got = list_got text at v byte more below o st.labels.1.0 read in
      let behind : drop (r.at + 1) text ≡ decimal v ++ byte ∷ more =
      ap (λ (i : ℕ). drop (i + 1) text) got.place ∙ label-behind text at v byte more below o in
      record {
        place =
            omega (
              arith,
              ends,
              got.place,
              leading-here text (r.at + 1) v byte more behind stop,
              o.long,
              ap length (append-nil (subtree_text v below (list_text below))),
            );
        next = omega (arith, got.next);
        table-after =
            got.table-after ∙ ap (λ (t : List ℕ). sets t (2 * (k + 1)) (rows_from (k + 1) below)) row
            ∙ rows-inner k v below table o.some.first o.some.inner o.some.later o.some.is;
        tapes-after =
            label
            ∙ ap (λ (x : ℕ). sets tapes₂ (2 * k) (words x)) (label-here text (r.at + 1) v byte more behind stop)
            ∙ ap (λ (t : List ℕ). sets t (2 * k) (words v)) got.tapes-after
            ∙ tapes-inner k v below tapes;
      }

  pub leaf-read : (get_or text at 0 ≡ opening → ⊥) → {table₁ tapes₁ : List ℕ} {end : ℕ}
      → table₁ ≡ sets table (2 * k) (none ∷ none ∷ [])
      → end ≡ at + leading (drop at text)
      → tapes₁ ≡ sets tapes (2 * k) (words (label_at text at))
      → SubtreeRead text at k table tapes (record { at = end; node = k + 1 }) table₁ tapes₁
  leaf-read other row ends label = λ v below byte more st stop.
      let e = leaf text at v byte more below (here_of text at v byte more below st) other in
      let here : drop at text ≡ decimal v ++ byte ∷ more =
      here_of text at v byte more below st ∙ ap (λ (f : Forest). subtree_text v f (list_text f) ++ byte ∷ more) e in
      record {
        place =
            omega (
              arith,
              ends,
              leading-here text at v byte more here stop,
              ap length (append-nil (subtree_text v below (list_text below))),
              ap (λ (f : Forest). length (subtree_text v f (list_text f))) e,
            );
        next = omega (arith, ap size e);
        table-after = row ∙ rows-leaf k v below table e;
        tapes-after = label ∙ ap (λ (x : ℕ). sets tapes (2 * k) (words x)) (label-here text at v byte more here stop) ∙ tapes-leaf k v below tapes e;
      }
