-- Opening bytes as an image.
use Rattle.std.specs.Prelude.{ℕ, ◌<◌, List, [], ◌∷◌, Ok, Err, Result}
use Rattle.refusal.specs.Refusals.{Declined, refused}
use Rattle.isa.specs.declared.fault.WordFault.{WordFault}
use Rattle.isa.specs.declared.fault.ProgramFault.{ProgramFault}
use Rattle.isa.specs.declared.fault.ProgramFault.TheVariants.{TooLong, Word}
use Rattle.isa.specs.Programs.{LawfulProgram, FirstUnlawful, unlawful_at}
use Rattle.image.specs.declared.opened.Image.{Image}
use Rattle.image.specs.declared.fault.ImageFault.{ImageFault}
use Rattle.image.specs.Blocks.{Sound, AllSound, block_count}
use Rattle.image.specs.Format.{Contents, program_in, contents_in}
use Rattle.image.specs.Whole.{RightLength, RightCounts}
use Rattle.image.specs.Faults.{of_image}

-- what opening answers: the first refusal that applies, in this order, or the contents; 15 names some damaged block
pub data Opening (bytes : List ℕ) : Result Contents Declined → Type 0 where
  wrong_length : (RightLength bytes → ⊥) → Opening bytes (Err (refused 14 []))
  damaged : (b : ℕ) → RightLength bytes → b < block_count bytes → (Sound bytes b → ⊥) → Opening bytes (Err (refused 15 (b ∷ [])))
  wrong_counts : RightLength bytes → AllSound bytes → (RightCounts bytes → ⊥) → Opening bytes (Err (refused 16 []))
  unlawful : (p w : ℕ) → RightLength bytes → AllSound bytes → RightCounts bytes → FirstUnlawful (program_in bytes) p w
      → Opening bytes (Err (unlawful_at p w))
  opened : RightLength bytes → AllSound bytes → RightCounts bytes → LawfulProgram (program_in bytes) → Opening bytes (Ok (contents_in bytes))

-- what an opened image holds
abbrev pub contents_of : Image → Contents
contents_of i = contents_in i.bytes.now

-- the answer of opening, by what the image holds or by number and figures
abbrev pub outcome : Result Image ImageFault → Result Contents Declined
outcome (Ok i) = Ok (contents_of i)
outcome (Err f) = Err (of_image f)

-- P of the word that a program's fault is about
abbrev pub AtWord : ProgramFault → (WordFault → Type 0) → Type 0
AtWord TooLong P = ⊥
AtWord (Word f) P = P f
