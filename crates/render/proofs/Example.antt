-- The paper's example, from the bytes of its file to the bytes of its listing, by computation. Assumes nothing.
use mathlib.Core.Path.{◌≡◌, refl, ap, ap₂, ◌∙◌}
use mathlib.Core.List.{List, ◌++◌}
use Prim.Native.Nat.{ℕ}
use Rattle.distance.specs.Needed.{bad_half_widths}
use Rattle.tree.specs.Forest.{forest, tree_of}
use Rattle.tree.specs.Levels.{level, level_count}
use Rattle.tree.specs.WellFormed.{bad_length, bad_entry, root_has_sibling, named_twice, unnamed, not_reached, table_conditions}
use Rattle.rule.specs.Join.{evenly, added}
use Rattle.rule.specs.Rule.{drawn}
use Rattle.rule.specs.Result.{place, places_of, levels_of}
use Rattle.blocks.specs.Below.{total, every, joined}
use Rattle.blocks.specs.Block.{word_at, bytes_of, block_at, word_sum, weighted_sum, sound, closing, in_place, padded, weighed, closed}
use Rattle.sheet.specs.Layout.{count_word, used_words, fixed_hold}
use Rattle.sheet.specs.Read.{nodes_of, separation_of, table_of, tapes_of, half_widths_of, file_number}
use Rattle.sheet.specs.File.{row, content, block_of, file_of}
use Rattle.sheet.proofs.Example.{links, tapes, half_widths}
use Rattle.lines.specs.Decimal.{decimal_within, decimal, signed_decimal}
use Rattle.lines.specs.Listing.{sheet_line, node_line, node_lines}
use Rattle.lines.proofs.Example.{first_line, root_line, left_line, right_line}
use Rattle.render.specs.Text.{drawn_listing, drawing_number, table_text, sheet_text}
use Rattle.render.proofs.Numbers.{text_granted}

abbrev pub file : List ℕ
file = file_of 3 3 links tapes half_widths

-- `sheet 3 2 3 -1 2`, and a line for each node
abbrev pub lines : List ℕ
lines = first_line ++ (root_line ++ (left_line ++ right_line))

file-read : (file_number file ≡ 0) × (separation_of file ≡ 3) × (table_of file (nodes_of file) ≡ links) × (tapes_of file (nodes_of file) ≡ tapes)
    × (half_widths_of file (nodes_of file) ≡ half_widths)
unfolding total every joined word_at bytes_of block_at word_sum weighted_sum sound closing in_place count_word used_words fixed_hold row content padded weighed closed block_of file_of file_number
file-read = (refl, refl, refl, refl, refl)

table-printed : table_text 3 links tapes half_widths ≡ lines
unfolding forest tree_of level level_count bad_length bad_entry root_has_sibling named_twice unnamed not_reached table_conditions bad_half_widths drawing_number evenly added drawn place places_of levels_of decimal_within decimal signed_decimal sheet_line node_line node_lines drawn_listing table_text
table-printed = refl

pub example_printed : sheet_text file ≡ lines
unfolding sheet_text
example_printed =
    let r = file-read in
    text_granted (file_number file) (table_text (separation_of file) (table_of file (nodes_of file)) (tapes_of file (nodes_of file)) (half_widths_of file (nodes_of file))) r.0
    ∙ ap (λ (d : ℕ). table_text d (table_of file (nodes_of file)) (tapes_of file (nodes_of file)) (half_widths_of file (nodes_of file))) r.1
    ∙ ap₂ (λ (table tape : List ℕ). table_text 3 table tape (half_widths_of file (nodes_of file))) r.2 r.3
    ∙ ap (table_text 3 links tapes) r.4
    ∙ table-printed
