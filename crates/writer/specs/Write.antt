-- Writing a sheet: the conditions 1 to 5, 14, 6, 13, 17 and 7, what is written, and what the operation promises.
use Rattle.std.specs.Prelude.{◌≡◌, ℕ, ◌*◌, Bool, List, [], ◌∷◌, ◌++◌, Result, Ok, Err, length, nat_lt}
use Rattle.refusal.specs.declared.Refusal.{Refusal}
use Rattle.refusal.specs.Number.{number}
use Rattle.refusal.specs.First.{Condition, ◌⇐◌, first}
use Rattle.refusal.specs.After.{granted, after}
use Rattle.tree.specs.Table.{nodes}
use Rattle.tree.specs.WellFormed.{table_conditions}
use Rattle.distance.specs.Needed.{bad_separation, bad_half_widths}
use Rattle.sheet.specs.File.{file_of}

-- the file of a table, D, tapes and half-widths
abbrev pub sheet_file : List ℕ → ℕ → List ℕ → List ℕ → List ℕ
sheet_file table separation tapes half_widths = file_of (nodes table) separation table tapes half_widths

-- 13: the tape slice has fewer than 2n entries
abbrev pub short_tapes : List ℕ → List ℕ → Bool
short_tapes table tapes = nat_lt (length tapes) (2 * nodes table)

-- 7: the output has fewer bytes than the file
abbrev pub short_output : List ℕ → ℕ → List ℕ → List ℕ → List ℕ → Bool
short_output table separation tapes half_widths out = nat_lt (length out) (length (sheet_file table separation tapes half_widths))

-- the writer's own conditions, after those of the table
abbrev pub own_conditions : List ℕ → ℕ → List ℕ → List ℕ → List ℕ → List Condition
own_conditions table separation tapes half_widths out =
    6 ⇐ bad_separation separation
    ∷ 13 ⇐ short_tapes table tapes
    ∷ 17 ⇐ bad_half_widths (nodes table) half_widths
    ∷ 7 ⇐ short_output table separation tapes half_widths out
    ∷ []

-- the number that writing gives
unfoldable pub write_number : List ℕ → ℕ → List ℕ → List ℕ → List ℕ → ℕ
write_number table separation tapes half_widths out = first (table_conditions table ++ own_conditions table separation tapes half_widths out)

-- what a call answers: the number, and the count of bytes, which a refusal gives as 0
pub record Answer : Type 0 where
  pub number : ℕ
  pub bytes : ℕ

abbrev pub answer_of : Result ℕ Refusal → Answer
answer_of (Ok bytes) = record { number = 0; bytes = bytes }
answer_of (Err refused) = record { number = number refused; bytes = 0 }

-- what `write_sheet` promises of its answer and of the output afterwards
pub record SheetWritten (table : List ℕ) (separation : ℕ) (tapes half_widths out : List ℕ) (answer : Answer) (out' : List ℕ) : Type 0 where
  pub number : answer.number ≡ write_number table separation tapes half_widths out
  pub bytes : answer.bytes ≡ granted (write_number table separation tapes half_widths out) (length (sheet_file table separation tapes half_widths)) 0
  pub out-after : out' ≡ after (write_number table separation tapes half_widths out) (sheet_file table separation tapes half_widths) out
