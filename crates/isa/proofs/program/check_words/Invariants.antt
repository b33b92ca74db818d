use Rattle.isa.specs.Programs.{LawfulBelow}
use Rattle.isa.proofs.program.check_words.Given as goal

abbrev pub invariant-loop-place : goal.invariant-loop-place
invariant-loop-place l = LawfulBelow l.words l.place
