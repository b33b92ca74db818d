use Rattle.isa.specs.Programs.{LawfulBelow}
use Rattle.image.specs.Format.{program_in}
use Rattle.image.proofs.opening.check_program.Given as goal

abbrev pub invariant-loop-place : goal.invariant-loop-place
invariant-loop-place l = LawfulBelow (program_in l.bytes) l.place
