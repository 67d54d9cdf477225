-- The answers of the writer: its number, what a refusal gives, and what an acceptance gives. Assumes nothing.
use Rattle.std.proofs.Common.{◌≡◌, ℕ, ◌*◌, ◌<◌, ◌≤◌, true, false, List, length, sym, ◌∙◌, arith, ltb-false, le-ltb, lt-ltb}
use Rattle.refusal.specs.First.{first}
use Rattle.refusal.specs.After.{overwrite}
use Rattle.refusal.proofs.After.{granted-accepted, granted-refused, after-accepted, after-refused}
use Rattle.refusal.proofs.Laws.{first-none}
use Rattle.tree.specs.Table.{nodes}
use Rattle.tree.specs.WellFormed.{table_number}
use Rattle.tree.proofs.Number.{table-refused, table-passed, table_said}
use Rattle.distance.specs.Needed.{bad_separation, bad_half_widths}
use Rattle.distance.proofs.Separation.{good-separation}
use Rattle.distance.proofs.HalfWidths.{good-widths}
use Rattle.writer.specs.Write.{sheet_file, own_conditions, write_number, SheetWritten}

module _ (table : List ℕ) (D : ℕ) (tapes half_widths out : List ℕ) where
  -- ---- the number

  pub number-table : (k : ℕ) → k ≡ table_number table → (k ≡ 0 → ⊥) → k ≡ write_number table D tapes half_widths out
  unfolding write_number
  number-table k e d = sym (table-refused table (own_conditions table D tapes half_widths out) k e d)

  number-later : table_number table ≡ 0 → write_number table D tapes half_widths out ≡ first (own_conditions table D tapes half_widths out)
  unfolding write_number
  number-later e = table-passed table (own_conditions table D tapes half_widths out) e

  module _ (accepted : table_number table ≡ 0) where
    pub number_6 : bad_separation D ≡ true → 6 ≡ write_number table D tapes half_widths out
    number_6 a = sym (number-later accepted ∙ simp a)

    module _ (separated : bad_separation D ≡ false) where
      pub number_13 : length tapes < 2 * nodes table → 13 ≡ write_number table D tapes half_widths out
      number_13 h = sym (number-later accepted ∙ simp (separated, lt-ltb _ _ h))

      module _ (enough : 2 * nodes table ≤ length tapes) where
        pub number_17 : bad_half_widths (nodes table) half_widths ≡ true → 17 ≡ write_number table D tapes half_widths out
        number_17 h = sym (number-later accepted ∙ simp (separated, le-ltb _ _ enough, h))

        module _ (narrow : bad_half_widths (nodes table) half_widths ≡ false) where
          pub number_7 : length out < length (sheet_file table D tapes half_widths) → 7 ≡ write_number table D tapes half_widths out
          number_7 h = sym (number-later accepted ∙ simp (separated, le-ltb _ _ enough, narrow, lt-ltb _ _ h))

          pub number_0 : length (sheet_file table D tapes half_widths) ≤ length out → 0 ≡ write_number table D tapes half_widths out
          number_0 h = sym (number-later accepted ∙ simp (separated, le-ltb _ _ enough, narrow, le-ltb _ _ h))

  -- where the number is 0
  pub record Taken : Type 0 where
    pub table-accepted : table_number table ≡ 0
    pub some : 1 ≤ D
    pub small : D ≤ 1024
    pub tapes-room : 2 * nodes table ≤ length tapes
    pub half_widths-room : nodes table ≤ length half_widths
    pub out-room : length (sheet_file table D tapes half_widths) ≤ length out

  pub taken : write_number table D tapes half_widths out ≡ 0 → Taken
  unfolding write_number
  taken e =
      let accepted = table_said table (own_conditions table D tapes half_widths out) 0 (omega arith) e in
      let h = first-none (own_conditions table D tapes half_widths out) (omega arith) (sym (number-later accepted) ∙ e) in
      let range = good-separation D h.0 in
      record {
        table-accepted = accepted;
        some = range.0;
        small = range.1;
        tapes-room = ltb-false _ _ h.1.0;
        half_widths-room = (good-widths half_widths (nodes table) h.1.1.0).0;
        out-room = ltb-false _ _ h.1.1.1.0;
      }

  -- ---- the answer

  pub written-refused : (k : ℕ) → k ≡ write_number table D tapes half_widths out → (k ≡ 0 → ⊥)
      → SheetWritten table D tapes half_widths out (record { number = k; bytes = 0 }) out
  written-refused k e d =
      let refused : write_number table D tapes half_widths out ≡ 0 → ⊥ = λ z. d (e ∙ z) in
      record { number = e; bytes = rw granted-refused; out-after = rw after-refused }

  pub written-accepted : (bytes : ℕ) (out' : List ℕ) → write_number table D tapes half_widths out ≡ 0 → bytes ≡ length (sheet_file table D tapes half_widths)
      → out' ≡ overwrite (sheet_file table D tapes half_widths) out
      → SheetWritten table D tapes half_widths out (record { number = 0; bytes = bytes }) out'
  written-accepted bytes out' e isBytes isOut =
      record { number = sym e; bytes = rw granted-accepted isBytes; out-after = rw after-accepted isOut }
