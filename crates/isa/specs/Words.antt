-- Instruction words: bits 31 to 28 are the kind, 27 to 24, 23 to 20 and 19 to 16 the registers a, b and c, 15 to 0 the number n.
use Rattle.std.specs.Prelude.{ℕ, ◌+◌, ◌*◌, ◌/◌, ◌%◌, ◌^◌, Bool, if◌then◌else◌, [], ◌∷◌, is_some, Some, None, Ok, Err, Option, Result, ◌==◌, nat_lt}
use Rattle.std.specs.Option.{ok_or}
use Rattle.refusal.specs.Refusals.{Declined, refused}
use Rattle.isa.specs.declared.register.Register.{Register}
use Rattle.isa.specs.declared.instruction.Instruction.{Instruction}
use Rattle.isa.specs.declared.instruction.Instruction.TheVariants.{Loadc, Loadpc, Op, Load, Store, Jz}
use Rattle.isa.specs.Registers.{register_at}
use Rattle.isa.specs.Operations.{operation_at, code_of}

-- the kind of a word, and the registers in its fields
abbrev pub kind_of : ℕ → ℕ
kind_of w = w / 2 ^ 28

abbrev pub a_of : ℕ → Register
a_of w = register_at (w / 2 ^ 24)

abbrev pub b_of : ℕ → Register
b_of w = register_at (w / 2 ^ 20)

abbrev pub c_of : ℕ → Register
c_of w = register_at (w / 2 ^ 16)

-- the instruction that a word holds; spare bits are ignored, and every other kind or operation is unlawful
abbrev pub decoded : ℕ → Option Instruction
decoded w =
    if kind_of w == 1 then Some (Loadc (a_of w) (w % 2 ^ 16))
    else if kind_of w == 2 then Some (Loadpc (a_of w))
    else if kind_of w == 3 then (if nat_lt (w % 16) 8 then Some (Op (operation_at w) (a_of w) (b_of w) (c_of w)) else None)
    else if kind_of w == 4 then Some (Load (a_of w) (b_of w))
    else if kind_of w == 5 then Some (Store (a_of w) (b_of w))
    else if kind_of w == 6 then Some (Jz (a_of w) (b_of w))
    else None

-- a word that holds an instruction
unfoldable pub lawful : ℕ → Bool
lawful w = is_some (decoded w)

-- reading a word gives its instruction, or refusal 3
abbrev pub read : ℕ → Result Instruction Declined
read w = ok_or (decoded w) (refused 3 (w ∷ []))

-- the word with a kind, three registers and a number in its fields
unfoldable pub packed : ℕ → Register → Register → Register → ℕ → ℕ
packed k a b c n = k * 2 ^ 28 + a.number * 2 ^ 24 + b.number * 2 ^ 20 + c.number * 2 ^ 16 + n

-- the register whose number leaves the bits of a field 0
abbrev pub r0 : Register
r0 = register_at 0

-- the word that holds an instruction, its spare bits 0
abbrev pub encoded : Instruction → ℕ
encoded (Loadc a n) = packed 1 a r0 r0 n
encoded (Loadpc a) = packed 2 a r0 r0 0
encoded (Op o a b c) = packed 3 a b c (code_of o)
encoded (Load a b) = packed 4 a b r0 0
encoded (Store a b) = packed 5 a b r0 0
encoded (Jz a b) = packed 6 a b r0 0

-- a word with its spare bits 0: of Loadc a and n stay, of Loadpc a, of Op a, b, c and the operation, of the others a and b
abbrev pub cleared : ℕ → ℕ
cleared w =
    if kind_of w == 1 then w / 2 ^ 24 * 2 ^ 24 + w % 2 ^ 16
    else if kind_of w == 2 then w / 2 ^ 24 * 2 ^ 24
    else if kind_of w == 3 then w / 2 ^ 16 * 2 ^ 16 + w % 16
    else w / 2 ^ 20 * 2 ^ 20

-- reading a word and writing it again clears its spare bits, or gives refusal 3
abbrev pub recoded : ℕ → Result ℕ Declined
recoded w = if lawful w then Ok (cleared w) else Err (refused 3 (w ∷ []))
