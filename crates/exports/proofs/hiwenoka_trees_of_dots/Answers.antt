-- `exports::hiwenoka_trees_of_dots` meets its contract: what `trees_of_dots` answers, in plain fields. Assumes nothing.
use Rattle.std.proofs.Common.{ap, ap₂, ◌∙◌}
use Rattle.trees_of_dots.specs.TreesOfDots.{Found, values_of}
use Rattle.exports.proofs.Fields.{found_told}
use Rattle.exports.proofs.hiwenoka_trees_of_dots.Goals as goal

pub returns : goal.returns
returns c =
    let told = c.told-number.ensures in
    let found = c.trees_of_dots.ensures in
    let same = found_told c.trees_of_dots.result in
    record {
      values = c.values_of-values.ensures
          ∙ ap₂ values_of (told.number ∙ ap (λ (f : Found). f.number) same ∙ found.number)
          (told.given ∙ ap (λ (f : Found). f.fitting) same ∙ found.fitting);
    }
