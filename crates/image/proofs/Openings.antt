-- Which bytes open, and that opening has one answer but for the block that 15 names.
use Rattle.std.proofs.Common.{◌≡◌, ℕ, List, Ok, Err, Result, sym, refl, ap, ◌∙◌}
use Rattle.std.proofs.lemmas.Bool.{both_ways}
use Rattle.refusal.specs.Refusals.{Declined}
use Rattle.isa.specs.Words.{lawful}
use Rattle.isa.specs.Programs.{LawfulProgram, FirstUnlawful}
use Rattle.image.specs.Format.{Contents, program_in, contents_in}
use Rattle.image.specs.Whole.{IsWhole}
use Rattle.image.specs.Opening.{Opening, wrong_length, damaged, wrong_counts, unlawful, opened}

-- what an answer says of the bytes
abbrev pub Says : List ℕ → Result Contents Declined → Type 0
Says bytes (Ok c) = IsWhole bytes × (c ≡ contents_in bytes)
Says bytes (Err d) = IsWhole bytes → ⊥

not_lawful : (ws : List ℕ) (p w : ℕ) → FirstUnlawful ws p w → LawfulProgram ws → ⊥
not_lawful ws p w u l = both_ways (lawful w) u.unlawful (ap lawful (sym u.word) ∙ l p u.inside)

pub says : (bytes : List ℕ) {answer : Result Contents Declined} → Opening bytes answer → Says bytes answer
says bytes (wrong_length h) = λ w. h w.long
says bytes (damaged b l h d) = λ w. d (w.sound b h)
says bytes (wrong_counts l s h) = λ w. h w.counts
says bytes (unlawful p w l s c u) = λ v. not_lawful (program_in bytes) p w u v.program
says bytes (opened l s c p) = (record { long = l; sound = s; counts = c; program = p }, refl)

-- bytes that are whole open
pub whole_opens : (bytes : List ℕ) → IsWhole bytes → Opening bytes (Ok (contents_in bytes))
whole_opens bytes w = opened w.long w.sound w.counts w.program
