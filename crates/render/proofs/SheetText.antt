-- What is printed for a file, from what the reader promises and what is printed for a table. Assumes nothing.
use mathlib.Core.Path.{◌≡◌, sym, ap, ◌∙◌, subst}
use mathlib.Core.Bool.{Bool, true, not}
use mathlib.Core.Logic.{inr}
use mathlib.Core.List.{List}
use Prim.Native.Nat.{ℕ, ◌*◌, ◌%◌, ◌≤◌, ◌<◌}
use lib.Dec.{eqb, ltb, leb}
use lib.ListN.{length, take}
use borrow.Author.Tests.{le-leb, lt-ltb}
use Rattle.refusal.proofs.After.{granted-accepted, after-accepted, take-overwrite}
use Rattle.refusal.proofs.Truth.{or-true}
use Rattle.blocks.specs.Block.{block_bytes}
use Rattle.sheet.specs.Layout.{blocks_for}
use Rattle.sheet.specs.Read.{nodes_of, separation_of, table_of, tapes_of, half_widths_of, length_wrong, file_number, number_read, Answer, SheetRead}
use Rattle.sheet.proofs.Reading.{length_pairs, length_singles}
use Rattle.sheet.proofs.Answer.{readable, file-decides}
use Rattle.lines.specs.Listing.{refused_line}
use Rattle.lines.specs.Printed.{most_nodes, when, Printed, RefusalPrinted}
use Rattle.render.specs.Text.{text_room, table_text, sheet_text}
use Rattle.render.proofs.Numbers.{text_refused, text_granted}
use Rattle.render.proofs.TableText.{refusal-shown}

-- a text that is printed where there is room for it
pub with_room : {text old new : List ℕ} {answer : ℕ} → text_room ≤ length old → Printed text old answer new
    → Printed (when (leb text_room (length old)) text) old answer new
with_room {text} {old} {new} {answer} room p = subst (λ (b : Bool). Printed (when b text) old answer new) (sym (le-leb text_room (length old) room)) p

module _ {file table tapes widths table' tapes' widths' : List ℕ} {r : Answer} (S : SheetRead file table tapes widths r table' tapes' widths')
    (table-long : 2048 ≤ length table) (tapes-long : 2048 ≤ length tapes) (widths-long : 1024 ≤ length widths) where
  reads : number_read file table tapes widths ≡ file_number file
  reads = file-decides file (length table) (length tapes) (length widths) table-long tapes-long widths-long

  -- a refusal
  pub refused-sheet : {told answer : ℕ} {old new : List ℕ} → text_room ≤ length old → (r.number ≡ 0 → ⊥) → told ≡ r.number
      → RefusalPrinted told old answer new → Printed (sheet_text file) old answer new
  unfolding sheet_text
  refused-sheet {told} room h is p =
      let number : r.number ≡ file_number file = S.number ∙ reads in
      refusal-shown told room (ap refused_line (is ∙ number) ∙ sym (text_refused (file_number file) _ (λ e. h (number ∙ e)))) p

  -- an acceptance
  module _ (e : r.number ≡ 0) where
    taken : number_read file table tapes widths ≡ 0
    taken = sym S.number ∙ e

    file-sound : file_number file ≡ 0
    file-sound = sym reads ∙ taken

    nodes-read : r.nodes ≡ nodes_of file
    nodes-read = S.nodes ∙ granted-accepted _ (nodes_of file) 0 taken

    separation-read : r.separation ≡ separation_of file
    separation-read = S.separation ∙ granted-accepted _ (separation_of file) 0 taken

    pub nodes-few : r.nodes ≤ 1024
    nodes-few = subst (λ (n : ℕ). n ≤ 1024) (sym nodes-read) (readable file file-sound).nodes-most

    pub separation-some : 1 ≤ r.separation
    separation-some = subst (λ (d : ℕ). 1 ≤ d) (sym separation-read) (readable file file-sound).separation-some

    pub separation-small : r.separation ≤ 1024
    separation-small = subst (λ (d : ℕ). d ≤ 1024) (sym separation-read) (readable file file-sound).separation-most

    table_read_lem : take (2 * r.nodes) table' ≡ table_of file (nodes_of file)
    table_read_lem =
        ap (λ (l : List ℕ). take (2 * r.nodes) l) (S.table-after ∙ after-accepted _ (table_of file (nodes_of file)) table taken)
        ∙ take-overwrite (2 * r.nodes) (table_of file (nodes_of file)) table (length_pairs file 0 (nodes_of file) ∙ ap (λ (n : ℕ). 2 * n) (sym nodes-read))

    tapes-read : take (2 * r.nodes) tapes' ≡ tapes_of file (nodes_of file)
    tapes-read =
        ap (λ (l : List ℕ). take (2 * r.nodes) l) (S.tapes-after ∙ after-accepted _ (tapes_of file (nodes_of file)) tapes taken)
        ∙ take-overwrite (2 * r.nodes) (tapes_of file (nodes_of file)) tapes (length_pairs file 2 (nodes_of file) ∙ ap (λ (n : ℕ). 2 * n) (sym nodes-read))

    widths-read : take r.nodes widths' ≡ half_widths_of file (nodes_of file)
    widths-read =
        ap (λ (l : List ℕ). take r.nodes l) (S.half_widths-after ∙ after-accepted _ (half_widths_of file (nodes_of file)) widths taken)
        ∙ take-overwrite r.nodes (half_widths_of file (nodes_of file)) widths (length_singles file 4 (nodes_of file) ∙ sym nodes-read)

    same_text : table_text r.separation (take (2 * r.nodes) table') (take (2 * r.nodes) tapes') (take r.nodes widths') ≡ sheet_text file
    unfolding sheet_text
    same_text = rw (table_read_lem, tapes-read, widths-read, separation-read) (sym (text_granted (file_number file) _ file-sound))

    pub sheet-listed : {old new : List ℕ} {k : ℕ} → Printed (table_text r.separation (take (2 * r.nodes) table') (take (2 * r.nodes) tapes') (take r.nodes widths')) old k new
        → Printed (sheet_text file) old k new
    sheet-listed {old} {new} {k} p = subst (λ (x : List ℕ). Printed x old k new) same_text p

-- a file that is longer than the largest sheet's is refused with 9
pub too_long : (file : List ℕ) → block_bytes * blocks_for most_nodes < length file → sheet_text file ≡ refused_line 9
unfolding sheet_text file_number
too_long file h =
    let long : length_wrong (length file) ≡ true =
    or-true {a = not (eqb (length file % block_bytes) 0)} (inr (or-true {a = ltb (length file) (block_bytes * 2)} (inr (lt-ltb (block_bytes * blocks_for most_nodes) (length file) h)))) in
    simp long
