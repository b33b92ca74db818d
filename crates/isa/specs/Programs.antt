-- Programs: lists of instruction words.
use Rattle.std.specs.Prelude.{◌≡◌, ℕ, ◌+◌, ◌<◌, IsTrue, IsFalse, if◌then◌else◌, List, [], ◌∷◌, length, Ok, Err, Result, nat_lt, slice_index}
use Rattle.refusal.specs.Refusals.{Declined, refused}
use Rattle.isa.specs.Words.{lawful}

-- a program has at most 1,024 words; more give refusal 1
abbrev pub measured : List ℕ → Result (Unit {0}) Declined
measured ws = if nat_lt 1024 (length ws) then Err (refused 1 []) else Ok tt

-- a word that holds no instruction gives refusal 3, with its place and itself
abbrev pub unlawful_at : ℕ → ℕ → Declined
unlawful_at place w = refused 3 (place ∷ w ∷ [])

-- one word at its place: accepted, or refused
abbrev pub word_checked : ℕ → ℕ → Result (Unit {0}) Declined
word_checked place w = if lawful w then Ok tt else Err (unlawful_at place w)

-- the same of each word in turn, up to the first that is refused; the first word of the list has the place i
unfoldable pub checked_from : ℕ → List ℕ → Result (Unit {0}) Declined
checked_from i [] = Ok tt
checked_from i (w ∷ ws) = if lawful w then checked_from (i + 1) ws else Err (unlawful_at i w)

-- every word of a program holds an instruction, or the first that does not gives refusal 3
abbrev pub checked : List ℕ → Result (Unit {0}) Declined
checked ws = checked_from 0 ws

-- the first n words hold instructions
abbrev pub LawfulBelow : List ℕ → ℕ → Type 0
LawfulBelow ws n = (k : ℕ) → k < n → IsTrue (lawful (slice_index ws k))

-- every word holds an instruction
abbrev pub LawfulProgram : List ℕ → Type 0
LawfulProgram ws = LawfulBelow ws (length ws)

-- the first word that holds no instruction, and its place
pub record FirstUnlawful (ws : List ℕ) (place w : ℕ) : Type 0 where
  pub inside : place < length ws
  pub word : slice_index ws place ≡ w
  pub unlawful : IsFalse (lawful w)
  pub before : LawfulBelow ws place
