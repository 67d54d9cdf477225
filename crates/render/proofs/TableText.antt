-- What is printed for a table, from what the layout and the text's writer promise. Assumes nothing.
use mathlib.Core.Path.{◌≡◌, sym, ap, ap₂, ◌∙◌, subst}
use mathlib.Core.Bool.{Bool, true}
use mathlib.Core.List.{List}
use Prim.Native.Nat.{ℕ, ◌*◌, ◌^◌, ◌≤◌, ◌<◌}
use native.Mathlib.Omega.{arith}
use lib.IntN.{ℤ, pos}
use lib.Signed.{mag}
use mir.Syntax.{w32}
use mir.Val.{to_z, of_z}
use mir.ValLaws.{to_z-of_z}
use lib.ListN.{length, take}
use borrow.Author.Tests.{le-leb}
use Rattle.refusal.specs.After.{granted}
use Rattle.refusal.proofs.After.{granted-accepted, after-accepted, take-overwrite}
use Rattle.distance.specs.Needed.{needed}
use Rattle.tree.specs.Table.{nodes}
use Rattle.tree.specs.Levels.{level_count}
use Rattle.tree.specs.WellFormed.{table_number}
use Rattle.tree.proofs.Stands.{accepted-numbers, accepted-length}
use Rattle.rule.specs.Join.{plain}
use Rattle.rule.specs.Result.{Slices, Answer, Layout, layout_number, places_of, levels_of, least_of, greatest_of}
use Rattle.layout.specs.Operation.{Taken}
use Rattle.layout.proofs.Answers.{taken, least_fits, greatest-fits, length-places, length-levels}
use Rattle.lines.specs.Listing.{listing, refused_line}
use Rattle.lines.specs.Printed.{most_nodes, refusal_room, listing_room, printable, when, Printed, ListingPrinted, RefusalPrinted}
use Rattle.render.specs.Text.{text_room, drawn_listing, drawing_number, table_text}
use Rattle.render.proofs.Numbers.{table-decides, text_refused, text_granted}

-- a text that is printed where a test holds
shown : {test : Bool} {text wanted old new : List ℕ} {answer : ℕ} → test ≡ true → text ≡ wanted → Printed (when test text) old answer new
    → Printed wanted old answer new
shown {test} {text} {wanted} {old} {new} {answer} holds e p =
    subst (λ (x : List ℕ). Printed x old answer new) (ap (λ (b : Bool). when b text) holds ∙ e) p

-- the line of a refusal, where the text is one
pub refusal-shown : (k : ℕ) {wanted old new : List ℕ} {answer : ℕ} → text_room ≤ length old → refused_line k ≡ wanted → RefusalPrinted k old answer new
    → Printed wanted old answer new
refusal-shown k {old = old} room e p = shown (le-leb refusal_room (length old) (omega (arith, room))) e p

-- slices as long as 1,024 nodes need
pub record Ample (s : Slices) : Type 0 where
  pub places : 1024 ≤ length s.places
  pub levels : 1024 ≤ length s.levels
  pub measured : 2048 ≤ length s.the_record
  pub work : 16384 ≤ length s.work

module _ (t : List ℕ) (D : ℕ) (hs : List ℕ) {s u : Slices} {a : Answer} (L : Layout t D hs s a u) (some : 1 ≤ D) (small : D ≤ 1024) (ample : Ample s) where
  abbrev places : List ℤ
  places = places_of (plain (needed D hs)) t

  decides : layout_number t D hs s ≡ drawing_number t hs
  decides = table-decides t D hs s some small ample.places ample.levels ample.measured ample.work

  pub number_decided : a.number ≡ drawing_number t hs
  number_decided = L.number ∙ decides

  -- a refusal
  pub refused-listed : {told k : ℕ} (tapes : List ℕ) {old new : List ℕ} → text_room ≤ length old → (a.number ≡ 0 → ⊥) → told ≡ a.number
      → RefusalPrinted told old k new → Printed (table_text D t tapes hs) old k new
  unfolding table_text
  refused-listed {told} tapes room h is p =
      refusal-shown told room (ap refused_line (is ∙ number_decided) ∙ sym (text_refused (drawing_number t hs) (drawn_listing D t tapes hs) (λ e. h (number_decided ∙ e)))) p

  -- an acceptance
  module _ (e : a.number ≡ 0) where
    accepted : layout_number t D hs s ≡ 0
    accepted = sym L.number ∙ e

    T : Taken t D hs 0 s
    T = taken t D hs s accepted

    well_formed : table_number t ≡ 0
    well_formed = T.table

    given : {A : Type 0} {x : A} (y z : A) → x ≡ granted (layout_number t D hs s) y z → x ≡ y
    given y z h = h ∙ granted-accepted _ y z accepted

    nodes-given : a.nodes ≡ nodes t
    nodes-given = given (nodes t) 0 L.nodes

    pub few : a.nodes ≤ 1024
    few = subst (λ (n : ℕ). n ≤ 1024) (sym nodes-given) (accepted-numbers t well_formed).few

    levels-listed : take a.nodes u.levels ≡ levels_of t
    levels-listed =
        ap (λ (l : List ℕ). take a.nodes l) (L.levels ∙ after-accepted _ (levels_of t) s.levels accepted)
        ∙ take-overwrite a.nodes (levels_of t) s.levels (length-levels t ∙ sym nodes-given)

    places-listed : take a.nodes u.places ≡ places
    places-listed =
        ap (λ (l : List ℤ). take a.nodes l) (L.places ∙ after-accepted _ (places) s.places accepted)
        ∙ take-overwrite a.nodes (places) s.places (length-places (plain (needed D hs)) t ∙ sym nodes-given)

    same-listing : (tapes : List ℕ) → listing a.nodes a.levels D a.least a.greatest (take a.nodes u.levels) (take a.nodes u.places) tapes ≡ table_text D t tapes hs
    unfolding table_text drawn_listing
    same-listing tapes =
        rw (
          levels-listed,
          places-listed,
          nodes-given,
          given (level_count t) 0 L.level_count,
          given (least_of (places)) (pos 0) L.least,
          given (greatest_of (places)) (pos 0) L.greatest,
        )
        (sym (text_granted (drawing_number t hs) (drawn_listing D t tapes hs) (sym number_decided ∙ e)))

    -- the writer's test holds
    pub can_print : (tapes : List ℕ) {bytes : ℕ} → text_room ≤ bytes → length t ≤ length tapes
        → printable a.nodes (length (take a.nodes u.levels)) (length (take a.nodes u.places)) (length tapes) bytes ≡ true
    can_print tapes {bytes} room tapes-enough =
        let n = a.nodes in
        let levels-enough : n ≤ length (take n u.levels) = omega (arith, nodes-given, ap length levels-listed, length-levels t) in
        let places-enough : n ≤ length (take n u.places) = omega (arith, nodes-given, ap length places-listed, length-places (plain (needed D hs)) t) in
        let tapes-long : 2 * n ≤ length tapes = omega (arith, nodes-given, tapes-enough, accepted-length t well_formed) in
        let bytes-enough : listing_room n ≤ bytes = omega (arith, room, few) in
        simp (le-leb n most_nodes few, le-leb n _ levels-enough, le-leb n _ places-enough, le-leb (2 * n) _ tapes-long, le-leb (listing_room n) bytes bytes-enough)

    -- the extremes are handed on in a register's 32 bits
    least_kept : to_z w32 (of_z w32 a.least) ≡ a.least
    least_kept =
        to_z-of_z w32 a.least
        (record { sfits = subst (λ (x : ℤ). mag x < 2 ^ 31) (sym (given (least_of (places)) (pos 0) L.least)) (least_fits T) })

    greatest-kept : to_z w32 (of_z w32 a.greatest) ≡ a.greatest
    greatest-kept =
        to_z-of_z w32 a.greatest
        (record { sfits = subst (λ (x : ℤ). mag x < 2 ^ 31) (sym (given (greatest_of (places)) (pos 0) L.greatest)) (greatest-fits T) })

    pub accepted-listed : (tapes : List ℕ) {old new : List ℕ} {k : ℕ} → text_room ≤ length old → length t ≤ length tapes
        → ListingPrinted a.nodes a.levels D (to_z w32 (of_z w32 a.least)) (to_z w32 (of_z w32 a.greatest)) (take a.nodes u.levels)
        (take a.nodes u.places) tapes old k new
        → Printed (table_text D t tapes hs) old k new
    accepted-listed tapes room tapes-enough p =
        shown (can_print tapes room tapes-enough)
        (ap₂ (λ (x y : ℤ). listing a.nodes a.levels D x y (take a.nodes u.levels) (take a.nodes u.places) tapes) least_kept greatest-kept
        ∙ same-listing tapes) p
