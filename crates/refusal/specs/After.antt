-- What an operation that gave the number k leaves: its result fields, and its lent slices.
use Rattle.std.specs.Prelude.{ℕ, zero, suc, List, ◌++◌, length, drop}

-- a result field: x where the operation was accepted, and else what a refusal gives
abbrev pub granted {ℓ} : {A : Type ℓ} → ℕ → A → A → A
granted zero x refused = x
granted (suc k) x refused = refused

-- `overwrite new old`: the entries named are new, and those past them are untouched
unfoldable pub overwrite {ℓ} : {A : Type ℓ} → List A → List A → List A
overwrite new old = new ++ drop (length new) old

-- what a slice that held `old` holds afterwards: `new` where the operation was accepted, and else what it held
unfoldable pub after {ℓ} : {A : Type ℓ} → ℕ → List A → List A → List A
unfolding overwrite
after zero new old = overwrite new old
after (suc k) new old = old
