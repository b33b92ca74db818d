use Rattle.image.specs.Drafts.{drafted}
use Rattle.image.specs.Writing.{Laid}
use Rattle.image.proofs.draft.Draft.write_words.Given as goal

abbrev pub invariant-loop-i : goal.invariant-loop-i
invariant-loop-i l = Laid (drafted l.self) l.i l.initial.bytes l.bytes
