use Rattle.std.proofs.Common.{◌≡◌, Err, sym, ap, ◌∙◌, arith, below_more}
use Rattle.std.proofs.lemmas.Result.{err_from_is_err_and}
use Rattle.isa.specs.Words.{lawful}
use Rattle.isa.specs.Refusals.{of_word}
use Rattle.isa.specs.Programs.{word_checked}
use Rattle.isa.proofs.Programs.{accepted, first_refused}
use Rattle.image.specs.Format.{program_in}
use Rattle.image.proofs.Contents.{program_word_read, length_program}
use Rattle.image.proofs.opening.check_program.Goals as goal

pub loop-place-preserved : goal.loop-place-preserved
loop-place-preserved c =
    let w = program_word_read c.args.bytes.now c.read-len.result c.loop-place.place _ _ c.read-len.ensures c.loop-place-test.true c.place_from.ensures c.read_word.ensures in
    below_more _ _ c.loop-place.invariant (ap lawful w ∙ accepted _ _ c.in_ok-check_word.field-0 c.in_ok-check_word.ensures)

pub returns-in_err-check_word : goal.returns-in_err-check_word
returns-in_err-check_word c =
    let s = c.args.bytes.now in
    let p = c.loop-place.place in
    let w = program_word_read s c.read-len.result p _ _ c.read-len.ensures c.loop-place-test.true c.place_from.ensures c.read_word.ensures in
    let l = length_program s c.read-len.result c.read-len.ensures in
    let u = first_refused (program_in s) p c.in_err-check_word.field-0.0 (omega arith) c.loop-place.invariant (c.in_err-check_word.ensures ∙ ap (word_checked p) (sym w)) in
    let q = err_from_is_err_and c.from_residual.result c.from_residual.ensures.1 in
    rw (q.1, q.2) u

pub returns : goal.returns
returns c =
    let l = length_program c.args.bytes.now c.read-len.result c.read-len.ensures in
    λ k h. c.loop-place.invariant k (omega arith)
