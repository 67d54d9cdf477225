-- An answer's fields, as `told` gives them. Assumes nothing.
use Rattle.std.proofs.Common.{◌≡◌, ℕ, Option, None, Result, Ok, Err, pos, refl}
use Rattle.refusal.specs.declared.Refusal.{Refusal}
use Rattle.refusal.specs.Number.{number_of, given}
use Rattle.layout.specs.declared.Drawn.{Drawn}
use Rattle.layout.specs.Operation as layout
use Rattle.sheet.specs.declared.Sheet.{Sheet}
use Rattle.sheet.specs.Read as sheet
use Rattle.writer.specs.Write as writer
use Rattle.trees_of_dots.specs.declared.Trees.{Trees}
use Rattle.trees_of_dots.specs.TreesOfDots as dots

abbrev nothing_drawn : Drawn
nothing_drawn = record { nodes = 0; levels = 0; least = pos 0; greatest = pos 0; pairs = 0 }

pub drawn_told : (r : Result Drawn Refusal) → let d = given nothing_drawn r in
    layout.answer (number_of r) d.nodes d.levels d.least d.greatest d.pairs ≡ layout.answer_of r
drawn_told (Ok drawn) = refl
drawn_told (Err refusal) = refl

abbrev nothing_read : Sheet
nothing_read = record { nodes = 0; separation = 0 }

pub read_told : (r : Result Sheet Refusal) → let s = given nothing_read r in
    record { number = number_of r; nodes = s.nodes; separation = s.separation } ≡ sheet.answer_of r
read_told (Ok sheet) = refl
read_told (Err refusal) = refl

pub written_told : (r : Result ℕ Refusal) → record { number = number_of r; bytes = given 0 r } ≡ writer.answer_of r
written_told (Ok bytes) = refl
written_told (Err refusal) = refl

pub found_told : (r : Result (Option Trees) Refusal) → record { number = number_of r; fitting = given None r } ≡ dots.found_of r
found_told (Ok found) = refl
found_told (Err refusal) = refl
