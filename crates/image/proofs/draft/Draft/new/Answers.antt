use Rattle.std.proofs.Common.{rules}
use Rattle.std.proofs.lemmas.Result.{err_from_is_err_and}
use Rattle.isa.proofs.Programs.{measured_refused, measured_accepted}
use Rattle.image.specs.Format.{Deep}
use Rattle.image.specs.Writing.{too_long, wrong_depth, too_much_data, unlawful}
use Rattle.image.proofs.draft.Draft.new.Goals as goal

pub returns-in_err-check_length : goal.returns-in_err-check_length
returns-in_err-check_length c =
    let m = measured_refused c.args.program.now c.in_err-check_length.field-0.0 c.in_err-check_length.ensures in
    let p = err_from_is_err_and c.from_residual.result c.from_residual.ensures.1 in
    rw (p.1, p.2, m.0) (λ space. too_long m.1)

pub returns-then-not-is_depth : goal.returns-then-not-is_depth
returns-then-not-is_depth c =
    let l = measured_accepted c.args.program.now c.in_ok-check_length.field-0 c.in_ok-check_length.ensures in
    λ space. wrong_depth l (λ d. let e = c.if-not-is_depth.ensures.1 d in cc)

pub returns-then-words-gt-LARGEST_DATA : goal.returns-then-words-gt-LARGEST_DATA
returns-then-words-gt-LARGEST_DATA c =
    let l = measured_accepted c.args.program.now c.in_ok-check_length.field-0 c.in_ok-check_length.ensures in
    let d : Deep c.args.depth = search rules in
    λ space. too_much_data l d c.if-words-gt-LARGEST_DATA.true

pub returns-in_err-check_words : goal.returns-in_err-check_words
returns-in_err-check_words c =
    let l = measured_accepted c.args.program.now c.in_ok-check_length.field-0 c.in_ok-check_length.ensures in
    let d : Deep c.args.depth = search rules in
    let f = c.in_err-check_words.field-0.0 in
    let p = err_from_is_err_and c.from_residual-in_err-check_words.result c.from_residual-in_err-check_words.ensures.1 in
    rw (p.1, p.2) (λ space. unlawful f.place f.word l d c.if-words-gt-LARGEST_DATA.false c.in_err-check_words.ensures.first)
