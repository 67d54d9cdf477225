-- `tree::relink::relink` meets its contract: new numbers for old, then the map, then the rows. Assumes nothing.
use mathlib.Core.Path.{◌∙◌}
use native.Mathlib.Omega.{arith}
use Rattle.tree.specs.Operations.{old_numbers}
use Rattle.tree.proofs.Links.{old_numbers_lem}
use Rattle.tree.proofs.Followed.{accepted-linked}
use Rattle.tree.proofs.relink.relink.Goals as goal

pub invert-requires : goal.invert-requires
invert-requires c =
    let t = c.args.tree.entries.now in
    old_numbers_lem t c.args.old.now c.args.tree.well_formed c.requires.value 1024 (accepted-linked t c.args.tree.well_formed).few

pub link-requires-clause-table_in_bounds : goal.link-requires-clause-table_in_bounds
link-requires-clause-table_in_bounds c = omega (arith, (accepted-linked c.args.tree.entries.now c.args.tree.well_formed).few, c.invert.auto.new)

pub returns : goal.returns
unfolding old_numbers
returns c = record { out = c.link.ensures; map = c.copy_from_slice.ensures.after ∙ c.requires.value }
