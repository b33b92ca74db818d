-- Writing an image into bytes.
use Rattle.std.specs.Prelude.{◌≡◌, ℕ, ◌*◌, ◌/◌, ◌<◌, ◌≤◌, if◌then◌else◌, List, [], ◌∷◌, ◌++◌, map, length, drop, Ok, Err, Result, nat_lt, slice_index}
use Rattle.refusal.specs.Refusals.{Declined, refused}
use Rattle.isa.specs.declared.fault.ProgramFault.{ProgramFault}
use Rattle.isa.specs.declared.fault.ProgramFault.TheVariants.{TooLong, Word}
use Rattle.isa.specs.Words.{cleared}
use Rattle.isa.specs.Programs.{LawfulProgram, FirstUnlawful}
use Rattle.image.specs.declared.writing.WriteFault.{WriteFault}
use Rattle.image.specs.declared.writing.WriteFault.TheVariants.{ProgramTooLong, Depth, TooMuchData, Unlawful, NoSpace}
use Rattle.image.specs.Words.{word_at}
use Rattle.image.specs.Format.{Contents, Deep, blocks_for, whole_word, image_byte, image_of}

-- the number and the figures of each case; at 3 the figure is the place of the word
abbrev pub of_write : WriteFault → Declined
of_write ProgramTooLong = refused 1 []
of_write Depth = refused 2 []
of_write TooMuchData = refused 16 []
of_write (Unlawful place) = refused 3 (place ∷ [])
of_write NoSpace = refused 17 []

-- a program's fault as one of writing
abbrev pub write_fault : ProgramFault → WriteFault
write_fault TooLong = ProgramTooLong
write_fault (Word f) = Unlawful f.place

-- what an image can hold
pub record Writable (program words : List ℕ) (depth : ℕ) : Type 0 where
  pub short : length program ≤ 1024
  pub deep : Deep depth
  pub small : length words ≤ 4096
  pub lawful : LawfulProgram program

-- how many bytes the image takes
abbrev pub bytes_for : List ℕ → List ℕ → ℕ
bytes_for program words = 512 * blocks_for (length program) (length words)

-- what writing answers: the first refusal that applies, in this order, or the length of the image
pub data Writing (program words : List ℕ) (depth space : ℕ) : Result ℕ Declined → Type 0 where
  too_long : 1024 < length program → Writing program words depth space (Err (refused 1 []))
  wrong_depth : length program ≤ 1024 → (Deep depth → ⊥) → Writing program words depth space (Err (refused 2 []))
  too_much_data : length program ≤ 1024 → Deep depth → 4096 < length words → Writing program words depth space (Err (refused 16 []))
  unlawful : (p w : ℕ) → length program ≤ 1024 → Deep depth → length words ≤ 4096 → FirstUnlawful program p w
      → Writing program words depth space (Err (refused 3 (p ∷ [])))
  no_space : Writable program words depth → space < bytes_for program words → Writing program words depth space (Err (refused 17 []))
  written : Writable program words depth → bytes_for program words ≤ space → Writing program words depth space (Ok (bytes_for program words))

-- what the image holds: the program's words with their spare bits 0
abbrev pub given : List ℕ → List ℕ → ℕ → Contents
given program words depth = record { program = map cleared program; words = words; depth = depth }

-- the bytes that writing leaves: the image and what stood beyond it, or all as it was
abbrev pub left_by : Result ℕ WriteFault → Contents → List ℕ → List ℕ
left_by (Ok n) c bytes = image_of c ++ drop n bytes
left_by (Err f) c bytes = bytes

-- the first n words of the image stand in the bytes, read as words
abbrev pub Held : Contents → ℕ → List ℕ → Type 0
Held c n bytes = (i : ℕ) → i < n → word_at bytes i ≡ whole_word c i

-- bytes after the first n words of the image were laid over what stood there
abbrev pub Laid : Contents → ℕ → List ℕ → List ℕ → Type 0
Laid c n before after = (k : ℕ) → slice_index after k ≡ (if nat_lt (k / 4) n then image_byte c k else slice_index before k)
