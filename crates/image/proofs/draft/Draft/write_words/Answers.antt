use Rattle.std.proofs.Common.{◌∙◌, arith}
use Rattle.image.specs.Drafts.{drafted}
use Rattle.image.proofs.Format.{laid_held}
use Rattle.image.proofs.Written.{small_drafted, given_blocks}
use Rattle.image.proofs.draft.Draft.write_words.Goals as goal

pub next_word-word-requires-clause-before : goal.next_word-word-requires-clause-before
next_word-word-requires-clause-before c =
    let d = c.args.self.now in
    let short = d.writable.short in
    let small = d.writable.small in
    let e = c.blocks-i-end.ensures ∙ given_blocks d.program.now d.words.now d.depth in
    laid_held (drafted d) c.loop-i.i c.args.bytes.now c.loop-i.bytes (small_drafted d) (omega arith) c.loop-i.invariant
