-- A register is its number.
use Rattle.std.proofs.Common.{◌≡◌, ℕ, ap}
use denote.Struct.Declared.{one_follows}
use Rattle.isa.specs.contracts.register.Register.{the_type}
use Rattle.isa.specs.declared.register.Register.{Register}

pub same_register : (a b : Register) → a.number ≡ b.number → a ≡ b
same_register a b e = one_follows the_type a b (ap (λ (n : ℕ). (n, tt)) e)
