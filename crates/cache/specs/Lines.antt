-- The sixteen lines of a cache, and the words that they make of those below.
use Rattle.std.specs.Prelude.{◌≡◌, ℕ, ◌%◌, ◌<◌, ◌≤◌, Bool, true, false, IsTrue, if◌then◌else◌, List, map, length, replicate, Some, None, Option, ◌==◌, slice_index, slice_index_or, slice_set}
use Rattle.std.proofs.Common.{sym, subst}
use Rattle.std.specs.List.{range_with_len}
use Rattle.std.proofs.lemmas.List.FromFn.{length-map-range_with_len}
use Rattle.cache.specs.declared.line.Line.{Line}

-- a line that holds an address and its word; an empty line is None
abbrev pub line : ℕ → ℕ → Option Line
line a w = Some (record { address = a; word = w })

-- the lines of a new cache: sixteen empty ones
abbrev pub empty_lines : List (Option Line)
empty_lines = replicate 16 None

-- the line of an address: the one with the number address modulo 16
abbrev pub line_of : List (Option Line) → ℕ → Option Line
line_of ls a = slice_index_or ls (a % 16) None

-- whether a line holds an address
abbrev pub holds : Option Line → ℕ → Bool
holds None a = false
holds (Some l) a = l.address == a

-- the word that a line holds for an address
abbrev pub word_held : Option Line → ℕ → Option ℕ
word_held None a = None
word_held (Some l) a = if l.address == a then Some l.word else None

-- the word of an address under a line: the held one, else the one below
abbrev pub covered : Option Line → ℕ → ℕ → ℕ
covered None a below = below
covered (Some l) a below = if l.address == a then l.word else below

-- the words below with the held words over them
abbrev pub over : List (Option Line) → List ℕ → List ℕ
over ls ws = map (λ a. covered (line_of ls a) a (slice_index ws a)) (range_with_len 0 (length ws))

-- the lines once an address and its word are in their line
abbrev pub laid : List (Option Line) → ℕ → ℕ → List (Option Line)
laid ls a w = slice_set ls (a % 16) (line a w)

-- the words below once what a line holds is written down
abbrev pub down : Option Line → List ℕ → List ℕ
down None ws = ws
down (Some l) ws = slice_set ws l.address l.word

-- the words below once a line has yielded to an address: what it held of another one is written down
abbrev pub yielded : Option Line → ℕ → List ℕ → List ℕ
yielded None a ws = ws
yielded (Some l) a ws = if l.address == a then ws else slice_set ws l.address l.word

-- whether what a line holds belongs into the line with a number
abbrev pub belongs : Option Line → ℕ → Bool
belongs None i = true
belongs (Some l) i = l.address % 16 == i

-- every address is held in its own line
abbrev pub Placed : List (Option Line) → Type 0
Placed ls = (i : ℕ) → i < 16 → IsTrue (belongs (slice_index_or ls i None) i)

-- there are as many as below, and so few enough for a data memory
pub length_over : (ls : List (Option Line)) (ws : List ℕ) → length (over ls ws) ≡ length ws
length_over ls ws = length-map-range_with_len _ 0 (length ws)

pub over_few : (ls : List (Option Line)) (ws : List ℕ) → length ws ≤ 4096 → length (over ls ws) ≤ 4096
over_few ls ws h = subst (λ (n : ℕ). n ≤ 4096) (sym (length_over ls ws)) h
