-- `trees_of_dots` meets its contract. Assumes nothing.
use Rattle.std.proofs.Common.{sym, ◌∙◌}
use Rattle.std.proofs.lemmas.Result.{err_from_is_err_and}
use Rattle.refusal.proofs.After.{granted-accepted, granted-refused}
use Rattle.refusal.proofs.Numbers.{number-nonzero}
use Rattle.trees_of_dots.proofs.Numbers.{accepted}
use Rattle.trees_of_dots.proofs.trees_of_dots.Goals as goal

pub returns-in_err-judge : goal.returns-in_err-judge
returns-in_err-judge c =
    let p = err_from_is_err_and c.from_residual.result c.from_residual.ensures.1 in
    rw (p.1, p.2) (record {
      number = c.in_err-judge.ensures;
      fitting = sym (granted-refused _ _ _ (λ z. number-nonzero _ (c.in_err-judge.ensures ∙ z)));
    })

pub search-requires : goal.search-requires
search-requires c = accepted _ _ _ (sym c.in_ok-judge.ensures)

pub returns : goal.returns
returns c = record {
  number = c.in_ok-judge.ensures;
  fitting = c.search.ensures ∙ sym (granted-accepted _ _ _ (sym c.in_ok-judge.ensures));
}
