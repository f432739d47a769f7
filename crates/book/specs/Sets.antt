-- A set of variables in a number of 16 bits: bit v is variable v.
use Rattle.std.specs.Prelude.{ℕ, ◌/◌, ◌%◌, ◌^◌, Bool, eqb}
use Rattle.std.specs.Int.Bits.{bit_or}

-- is the variable in the set
unfoldable pub is_in : ℕ → ℕ → Bool
is_in set v = eqb (set / 2 ^ v % 2) 1

-- the set with the variable
unfoldable pub with_variable : ℕ → ℕ → ℕ
with_variable set v = bit_or set (2 ^ v)

-- variables 0 to 11
abbrev pub all_variables : ℕ
all_variables = 0xfff
