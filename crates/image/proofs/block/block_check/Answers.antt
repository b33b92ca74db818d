use Rattle.std.proofs.Common.{◌∙◌}
use Rattle.image.specs.Words.{word_at}
use Rattle.image.specs.Blocks.{check}
use Rattle.image.proofs.Sums.{wrapped_sum}
use Rattle.image.proofs.block.block_check.Goals as goal

pub returns : goal.returns
unfolding check
returns c = c.weighted_sum.ensures ∙ wrapped_sum (word_at c.args.block.now) 127
