-- The table of the levels, and whether it fits. Assumes nothing.
use mathlib.Core.Path.{ap, ◌∙◌, subst⁻¹}
use mathlib.Core.List.{List}
use Prim.Native.Nat.{ℕ}
use lib.ListN.{length}
use lib.Seq.{take_at}
use Rattle.trees_of_dots.specs.Steps.{Plot, Drawable}
use Rattle.trees_of_dots.proofs.Listed.{length-table, table_drawable}
use Rattle.trees_of_dots.proofs.search.Sought.levels_fit.Goals as goal

pub table_fits-requires : goal.table_fits-requires
table_fits-requires c =
    let self = c.args.self.now in
    let levels = c.args.levels.now in
    let plot = subst⁻¹ (λ (n : ℕ). Plot n self.dots.now self.separation) c.requires.nodes self.plot in
    let size = ap length c.link.ensures ∙ length-table levels c.requires.sequence plot.few in
    subst⁻¹ (λ (t : List ℕ). Drawable t self.dots.now self.separation) (take_at _ _ _ size ∙ c.link.ensures)
    (table_drawable levels c.requires.sequence plot.few self.dots.now self.separation plot)
