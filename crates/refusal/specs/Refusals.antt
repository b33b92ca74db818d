-- What a declined call says.
use Rattle.std.specs.Prelude.{ℕ, List, Result, slice_index}
use Rattle.std.specs.Result.{result_map_both}

-- a refusal by its number and its figures
pub data Declined : Type 0 where
  refused : ℕ → List ℕ → Declined

-- its number
abbrev pub number_of : Declined → ℕ
number_of (refused n fs) = n

-- the first figure, 0 where there is none
abbrev pub first_figure : Declined → ℕ
first_figure (refused n fs) = slice_index fs 0

-- an answer with its refusal told by number and figures
abbrev pub told : {A E : Type 0} → (E → Declined) → Result A E → Result A Declined
told f r = result_map_both (λ x. x) f r
