-- The worked examples, as one record.
use Rattle.std.specs.Prelude.{◌≡◌, false, [], ◌∷◌, Some}
use Rattle.isa.specs.declared.instruction.Instruction.TheVariants.{Loadc, Store, Jz}
use Rattle.isa.specs.declared.operation.Operation.TheVariants.{Sub, ShiftLeft}
use Rattle.isa.specs.declared.register.Register.{Register}
use Rattle.isa.specs.Registers.{register_at}
use Rattle.isa.specs.Operations.{applied}
use Rattle.isa.specs.Words.{decoded, lawful}
use Rattle.image.specs.Format.{Contents, image_word}

abbrev pub r1 : Register
r1 = register_at 1

abbrev pub r2 : Register
r2 = register_at 2

abbrev pub r3 : Register
r3 = register_at 3

abbrev pub r4 : Register
r4 = register_at 4

-- r1 becomes 5, r2 becomes 7, r3 becomes their sum
abbrev pub sum : Contents
sum = record { program = 0x11000005 ∷ 0x12000007 ∷ 0x33120000 ∷ []; words = []; depth = 1 }

pub record Examples : Type 0 where
  pub loadc : decoded 0x11000005 ≡ Some (Loadc r1 5)
  pub jz : decoded 0x61200000 ≡ Some (Jz r1 r2)
  pub store : decoded 0x53400000 ≡ Some (Store r3 r4)
  pub no_kind : lawful 0x00000000 ≡ false
  pub no_operation : lawful 0x33120008 ≡ false
  pub one_less_two : applied Sub 1 2 ≡ 0xFFFFFFFF
  pub left_by_31 : applied ShiftLeft 1 31 ≡ 0x80000000
  pub left_by_32 : applied ShiftLeft 1 32 ≡ 0
  pub check_of_block_0 : image_word sum 0 127 ≡ 16
  pub check_of_block_1 : image_word sum 1 127 ≡ 0xF27E0033
