use Rattle.std.proofs.Common.{◌≡◌}
use Rattle.cache.specs.Caches.{words_below, words_of, frame_of}
use Rattle.cache.proofs.Lines.{WrittenBelow}
use Rattle.cache.proofs.cache.Cache.flush.Given as goal

-- the lines before this one are written down
abbrev pub invariant-loop-line : goal.invariant-loop-line
invariant-loop-line g l =
    record {
      lines : l.self.lines ≡ l.initial.self.lines;
      kept : words_of g.M.DataMemory.words l.self ≡ words_of g.M.DataMemory.words l.initial.self;
      held : frame_of g.M.DataMemory.frame l.self ≡ frame_of g.M.DataMemory.frame l.initial.self;
      written : WrittenBelow l.initial.self.lines (words_below g.M.DataMemory.words l.self) l.line-index;
    }
