-- The eight operations: their codes, and what each makes of two words.
use Rattle.std.specs.Prelude.{ℕ, ◌+◌, ◌-◌, ◌*◌, ◌/◌, ◌%◌, ◌^◌, if◌then◌else◌, ℤ, pos, ◌-ℤ◌, ◌==◌, bit_and, bit_or, bit_xor, int_lt, nat_lt}
use Rattle.isa.specs.declared.operation.Operation.{Operation}
use Rattle.isa.specs.declared.operation.Operation.TheVariants.{Add, Sub, And, Or, Xor, ShiftLeft, ShiftRight, Less}

-- the code of an operation
abbrev pub code_of : Operation → ℕ
code_of Add = 0
code_of Sub = 1
code_of And = 2
code_of Or = 3
code_of Xor = 4
code_of ShiftLeft = 5
code_of ShiftRight = 6
code_of Less = 7

-- the operation of a code below 8
abbrev pub operation_of : ℕ → Operation
operation_of n =
    if n == 0 then Add
    else if n == 1 then Sub
    else if n == 2 then And
    else if n == 3 then Or
    else if n == 4 then Xor
    else if n == 5 then ShiftLeft
    else if n == 6 then ShiftRight
    else Less

-- the operation that the three lowest bits of a number name
abbrev pub operation_at : ℕ → Operation
operation_at n = operation_of (n % 8)

-- a word as a two's complement number
abbrev pub signed : ℕ → ℤ
signed w = if nat_lt w (2 ^ 31) then pos w else pos w -ℤ pos (2 ^ 32)

-- what an operation makes of the words b and c
abbrev pub applied : Operation → ℕ → ℕ → ℕ
applied Add b c = (b + c) % 2 ^ 32
applied Sub b c = (b + 2 ^ 32 - c) % 2 ^ 32
applied And b c = bit_and b c
applied Or b c = bit_or b c
applied Xor b c = bit_xor b c
applied ShiftLeft b c = if nat_lt c 32 then b * 2 ^ c % 2 ^ 32 else 0
applied ShiftRight b c = if nat_lt c 32 then b / 2 ^ c else 0
applied Less b c = if int_lt (signed b) (signed c) then 1 else 0
