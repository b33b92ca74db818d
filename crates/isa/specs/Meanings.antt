-- What each instruction reads, writes and does.
use Rattle.std.specs.Prelude.{ℕ, ◌+◌, ◌%◌, ◌^◌, Bool, true, false, if◌then◌else◌, Some, None, Option, ◌==◌}
use Rattle.isa.specs.declared.register.Register.{Register}
use Rattle.isa.specs.declared.instruction.Instruction.{Instruction}
use Rattle.isa.specs.declared.instruction.Instruction.TheVariants.{Loadc, Loadpc, Op, Load, Store, Jz}
use Rattle.isa.specs.declared.meaning.Operands.{Operands}
use Rattle.isa.specs.declared.meaning.Access.{Access}
use Rattle.isa.specs.declared.meaning.Access.TheVariants.{Read, Write}
use Rattle.isa.specs.Operations.{applied}

-- only Jz is a jump
abbrev pub is_jump : Instruction → Bool
is_jump (Loadc a n) = false
is_jump (Loadpc a) = false
is_jump (Op o a b c) = false
is_jump (Load a b) = false
is_jump (Store a b) = false
is_jump (Jz a b) = true

-- the register that an instruction writes
abbrev pub target_of : Instruction → Option Register
target_of (Loadc a n) = Some a
target_of (Loadpc a) = Some a
target_of (Op o a b c) = Some a
target_of (Load a b) = Some a
target_of (Store a b) = None
target_of (Jz a b) = None

-- the registers that it reads, in the order a, b, c
abbrev pub operands_of : Instruction → Operands (Option Register)
operands_of (Loadc a n) = record { first = None; second = None }
operands_of (Loadpc a) = record { first = None; second = None }
operands_of (Op o a b c) = record { first = Some b; second = Some c }
operands_of (Load a b) = record { first = Some b; second = None }
operands_of (Store a b) = record { first = Some a; second = Some b }
operands_of (Jz a b) = record { first = Some a; second = Some b }

-- the address after an address
abbrev pub following : ℕ → ℕ
following at = (at + 1) % 2 ^ 32

-- the value that is known from the instruction and its address alone
abbrev pub early_value : Instruction → ℕ → Option ℕ
early_value (Loadc a n) at = Some n
early_value (Loadpc a) at = Some at
early_value (Op o a b c) at = None
early_value (Load a b) at = None
early_value (Store a b) at = None
early_value (Jz a b) at = None

-- the value that is known once the values of the operands have been worked on
abbrev pub executed_value : Instruction → ℕ → Operands ℕ → Option ℕ
executed_value (Loadc a n) at v = Some n
executed_value (Loadpc a) at v = Some at
executed_value (Op o a b c) at v = Some (applied o v.first v.second)
executed_value (Load a b) at v = None
executed_value (Store a b) at v = None
executed_value (Jz a b) at v = None

-- the address that comes next: only a Jz whose first operand is 0 goes elsewhere
abbrev pub next_address : Instruction → ℕ → Operands ℕ → ℕ
next_address (Loadc a n) at v = following at
next_address (Loadpc a) at v = following at
next_address (Op o a b c) at v = following at
next_address (Load a b) at v = following at
next_address (Store a b) at v = following at
next_address (Jz a b) at v = if v.first == 0 then v.second else following at

-- what it does at the data memory
abbrev pub access_of : Instruction → Operands ℕ → Option Access
access_of (Loadc a n) v = None
access_of (Loadpc a) v = None
access_of (Op o a b c) v = None
access_of (Load a b) v = Some (Read v.first)
access_of (Store a b) v = Some (Write v.first v.second)
access_of (Jz a b) v = None
