-- The report on an image.
use Rattle.std.specs.Prelude.{◌≡◌, ℕ, List, length, Ok, Err, Result}
use Rattle.refusal.specs.Refusals.{Declined, number_of, first_figure}
use Rattle.image.specs.Format.{Contents}
use Rattle.image.specs.Opening.{Opening}
use Rattle.listing.specs.Lines.{refusal_line, opened_line}

-- the line for what opening answered
abbrev pub line_for : Result Contents Declined → List ℕ
line_for (Ok c) = opened_line (length c.program) (length c.words) c.depth
line_for (Err d) = refusal_line (number_of d) (first_figure d)

-- a text that is the line for what opening the bytes answers
pub record Reported (bytes text : List ℕ) : Type 0 where
  pub answer : Result Contents Declined
  pub opening : Opening bytes answer
  pub line : text ≡ line_for answer
