-- The sixteen registers.
use Rattle.std.specs.Prelude.{ℕ, ◌%◌, if◌then◌else◌, Some, None, Option, nat_lt}
use Rattle.std.proofs.Common.{lit<, mod-lt}
use Rattle.isa.specs.declared.register.Register.{Register}

-- the register that the four lowest bits of a number name
abbrev pub register_at : ℕ → Register
register_at n = record { number = n % 16; small = mod-lt n (lit< tt) }

-- the register with a number; there is none above 15
abbrev pub numbered : ℕ → Option Register
numbered n = if nat_lt n 16 then Some (register_at n) else None
