-- What one meeting gives to the gaps between the two children that meet.
use Rattle.std.specs.Prelude.{ℕ, ◌+◌, ◌-◌, cond, ltb, ℤ, pos, ◌-ℤ◌}
use Rattle.rule.specs.Drawing.{Drawing, place_at}
use Rattle.rule.specs.Join.{quotient, remainder}

-- the gap before child p of a row: how far it stands right of the child before it
abbrev pub gap_before : Drawing → ℕ → ℤ
gap_before row p = pos (place_at row p) -ℤ pos (place_at row (p - 1))

-- Of k gaps over which s is shared, numbered from 1 at the left, gap t grows by q, and by one more where it is one of the r rightmost.
abbrev pub growth : ℕ → ℕ → ℕ → ℕ
growth k s t = quotient k s + cond (ltb (k - remainder k s) t) 1 0
