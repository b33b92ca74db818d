-- The lines of a report, byte by byte; each ends with byte 10.
use Rattle.std.specs.Prelude.{ℕ, List, [], ◌∷◌, ◌++◌, codes, decimal}

-- refused N place P
abbrev pub refusal_line : ℕ → ℕ → List ℕ
refusal_line n p = codes "refused " ++ decimal n ++ codes " place " ++ decimal p ++ 10 ∷ []

-- program L data S depth d
abbrev pub opened_line : ℕ → ℕ → ℕ → List ℕ
opened_line l s d = codes "program " ++ decimal l ++ codes " data " ++ decimal s ++ codes " depth " ++ decimal d ++ 10 ∷ []
