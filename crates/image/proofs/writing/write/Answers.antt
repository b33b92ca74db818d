use Rattle.std.proofs.Common.{arith}
use Rattle.image.proofs.Written.{refused_answer, written_answer, written_bytes, written_image}
use Rattle.image.proofs.writing.write.Goals as goal

pub returns-then-bytes-len-clause-answer : goal.returns-then-bytes-len-clause-answer
returns-then-bytes-len-clause-answer c = refused_answer _ _ _ _ _ c.in_ok-draft.ensures c.blocks-len.ensures _ c.if-bytes-len.true

pub returns-clause-answer : goal.returns-clause-answer
returns-clause-answer c = written_answer _ _ _ _ _ c.in_ok-draft.ensures c.blocks-len.ensures _ c.if-bytes-len.false

pub returns-clause-after : goal.returns-clause-after
returns-clause-after c =
    written_bytes _ _ _ _ _ c.in_ok-draft.ensures c.blocks-len.ensures c.args.bytes.now c.write_words.new.bytes c.if-bytes-len.false (omega arith) c.write_words.ensures

pub returns-clause-opens : goal.returns-clause-opens
returns-clause-opens c =
    written_image _ _ _ _ _ c.in_ok-draft.ensures c.blocks-len.ensures c.args.bytes.now c.write_words.new.bytes c.if-bytes-len.false (omega arith) c.write_words.ensures
