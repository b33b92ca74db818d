-- What is left of a word without its spare bits.
use Rattle.std.proofs.Common.{◌≡◌, ℕ, ◌^◌, ◌<◌, true, Some, arith, rules}
use Rattle.std.proofs.lemmas.Bool.Decides.{nat_tests}
use Rattle.isa.specs.declared.instruction.Instruction.{Instruction}
use Rattle.isa.specs.declared.instruction.Instruction.TheVariants.{Loadc, Loadpc, Op, Load, Store, Jz}
use Rattle.isa.specs.Operations.{operation_of, code_of}
use Rattle.isa.specs.Words.{cleared, decoded, encoded, packed, lawful, kind_of}

-- without its spare bits a word is still one
pub cleared_small : (w : ℕ) → w < 2 ^ 32 → cleared w < 2 ^ 32
cleared_small w h = search rules

kind_of-cleared : (w : ℕ) → kind_of (cleared w) ≡ kind_of w
kind_of-cleared w = search rules

-- a lawful word stays lawful without its spare bits
pub cleared_lawful : (w : ℕ) → w < 2 ^ 32 → lawful w ≡ true → lawful (cleared w) ≡ true
unfolding lawful
cleared_lawful w h l = grind (arith, kind_of-cleared)

code_operation : (n : ℕ) → n < 8 → code_of (operation_of n) ≡ n
code_operation n h = search rules

-- what the instruction of a word is written as
pub writes_again : (w : ℕ) (i : Instruction) → w < 2 ^ 32 → decoded w ≡ Some i → encoded i ≡ cleared w
unfolding packed
writes_again w (Loadc a n) h e = search rules
writes_again w (Loadpc a) h e = search rules
writes_again w (Op o a b c) h e = grind (arith, nat_tests, code_operation)
writes_again w (Load a b) h e = search rules
writes_again w (Store a b) h e = search rules
writes_again w (Jz a b) h e = search rules
