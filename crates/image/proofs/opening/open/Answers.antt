use Rattle.std.proofs.Common.{ℕ, List, Err, refl}
use Rattle.std.proofs.lemmas.Result.{err_from_is_err_and}
use Rattle.isa.specs.declared.fault.ProgramFault.{ProgramFault}
use Rattle.isa.specs.declared.fault.ProgramFault.TheVariants.{TooLong, Word}
use Rattle.isa.specs.Programs.{FirstUnlawful}
use Rattle.image.specs.declared.fault.ImageFault.TheVariants.{Program}
use Rattle.image.specs.Blocks.{AllSound}
use Rattle.image.specs.Format.{program_in}
use Rattle.image.specs.Faults.{of_image}
use Rattle.image.specs.Whole.{RightLength, RightCounts}
use Rattle.image.specs.Opening.{Opening, AtWord, wrong_length, damaged, wrong_counts, unlawful, opened}
use Rattle.image.proofs.opening.open.Goals as goal

pub returns-then-not-has_right_length : goal.returns-then-not-has_right_length
returns-then-not-has_right_length c = wrong_length (λ h. let e = c.if-not-has_right_length.ensures.1 h in cc)

pub returns-in_err-check_blocks : goal.returns-in_err-check_blocks
returns-in_err-check_blocks c =
    let right = c.if-not-has_right_length.ensures.0 refl in
    let b = c.in_err-check_blocks.ensures in
    let p = err_from_is_err_and c.from_residual.result c.from_residual.ensures.1 in
    rw (p.1, p.2) (damaged c.in_err-check_blocks.field-0.0.block right b.0 b.1)

pub returns-in_err-check_counts : goal.returns-in_err-check_counts
returns-in_err-check_counts c =
    let right = c.if-not-has_right_length.ensures.0 refl in
    let b = c.in_err-check_counts.ensures in
    let p = err_from_is_err_and c.from_residual-in_err-check_counts.result c.from_residual-in_err-check_counts.ensures.1 in
    rw (p.1, p.2, b.0) (wrong_counts right c.in_ok-check_blocks.ensures b.1)

program_refused : (bytes : List ℕ) (f : ProgramFault) → RightLength bytes → AllSound bytes → RightCounts bytes
    → AtWord f (λ w. FirstUnlawful (program_in bytes) w.place w.word) → Opening bytes (Err (of_image (Program f)))
program_refused bytes TooLong l s n u = absurd u
program_refused bytes (Word f) l s n u = unlawful f.place f.word l s n u

pub returns-in_err-check_program : goal.returns-in_err-check_program
returns-in_err-check_program c =
    let right = c.if-not-has_right_length.ensures.0 refl in
    let p = err_from_is_err_and c.from_residual-in_err-check_program.result c.from_residual-in_err-check_program.ensures.1 in
    rw (p.1, p.2) (program_refused c.args.bytes.now c.in_err-check_program.field-0.0 right c.in_ok-check_blocks.ensures c.in_ok-check_counts.ensures c.in_err-check_program.ensures)

pub returns : goal.returns
returns c =
    let right = c.if-not-has_right_length.ensures.0 refl in
    opened right c.in_ok-check_blocks.ensures c.in_ok-check_counts.ensures c.in_ok-check_program.ensures
