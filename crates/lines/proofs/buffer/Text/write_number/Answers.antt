-- `buffer::Text::write_number` writes the digits, and then the byte. Assumes nothing.
use Rattle.std.proofs.Common.{ℕ, List, [], ◌∷◌, ◌++◌, length, sym, ap, ◌∙◌, arith}
use Rattle.lines.proofs.Written.{written_as, written_then}
use Rattle.lines.proofs.buffer.Text.write_number.Goals as goal

pub returns : goal.returns
returns g c =
    let digits = c.as_bytes.ensures.value ∙ c.format.ensures.text in
    written_as (omega (arith, ap length digits)) (ap (λ (text : List ℕ). text ++ c.args.after ∷ []) (sym digits))
    (written_then c.write.ensures c.push.ensures)
