-- The numbers and figures of the refusals about words and programs.
use Rattle.std.specs.Prelude.{[], ◌∷◌}
use Rattle.refusal.specs.Refusals.{Declined, refused}
use Rattle.isa.specs.declared.fault.Unlawful.{Unlawful}
use Rattle.isa.specs.declared.fault.WordFault.{WordFault}
use Rattle.isa.specs.declared.fault.ProgramFault.{ProgramFault}
use Rattle.isa.specs.declared.fault.ProgramFault.TheVariants.{TooLong, Word}

-- 3: the word is no instruction; the figure is the word
abbrev pub of_unlawful : Unlawful → Declined
of_unlawful f = refused 3 (f.word ∷ [])

-- 3: the figures are the word's place in its program, and the word
abbrev pub of_word : WordFault → Declined
of_word f = refused 3 (f.place ∷ f.word ∷ [])

-- 1: the program has more than 1,024 words
abbrev pub of_program : ProgramFault → Declined
of_program TooLong = refused 1 []
of_program (Word f) = of_word f
