use Rattle.std.proofs.Common.{◌%◌, ◌/◌, ◌<◌, length, ◌∙◌, rules, arith}
use Rattle.image.specs.Drafts.{drafted}
use Rattle.image.proofs.Format.{number_word, content_word, check_word}
use Rattle.image.proofs.Chunked.{check_of_chunk}
use Rattle.image.proofs.draft.Draft.next_word.Goals as goal

pub returns-in-0 : goal.returns-in-0
returns-in-0 c = number_word (drafted c.args.self.now) c.args.i c.in-0.is

pub returns-in-127 : goal.returns-in-127
returns-in-127 c =
    let s = c.args.bytes.now in
    let check = rw c.as_chunks.ensures.front at c.block_check.ensures in
    check ∙ check_of_chunk s (length s / 512) (c.args.i / 128) (omega arith) ∙ check_word (drafted c.args.self.now) c.args.i s c.requires.before c.in-127.is

pub returns-in_default : goal.returns-in_default
returns-in_default c =
    let p : 0 < c.args.i % 128 = search rules in
    let q : c.args.i % 128 < 127 = search rules in
    c.content_word.ensures ∙ content_word (drafted c.args.self.now) c.args.i p q
