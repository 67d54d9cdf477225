-- `descent::descend` meets its contract. Assumes nothing.
use mathlib.Core.Path.{refl}
use native.Mathlib.Omega.{arith}
use Rattle.level_order.proofs.Signed32.{told, plus}
use Rattle.descent.proofs.descend.Goals as goal

pub returns : goal.returns
returns c =
    let s = c.args.s in
    rw (
      c.position.ensures,
      c.position-2.ensures,
      c.past.ensures,
      (plus (told {z = s.right} (omega arith) refl) (told c.get.type_inv c.get.ensures) (omega (arith, c.requires.steps.right))).read,
      (plus (told {z = s.left} (omega arith) refl) (told c.get-2.type_inv c.get-2.ensures) (omega (arith, c.requires.steps.left))).read,
      (plus (told {z = s.outer_left} (omega arith) refl) (told c.get-3.type_inv c.get-3.ensures) (omega (arith, c.requires.steps.outer_left_holds))).read,
      (plus (told {z = s.outer_right} (omega arith) refl) (told c.get-4.type_inv c.get-4.ensures) (omega (arith, c.requires.steps.outer_right_holds))).read,
      told {z = s.moved} (omega arith) refl,
    )
