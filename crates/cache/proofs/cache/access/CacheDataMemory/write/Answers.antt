use Rattle.std.proofs.Common.{◌≡◌}
use Rattle.memory.proofs.Words.{writes_inside}
use Rattle.cache.specs.Lines.{laid, line_of, yielded}
use Rattle.cache.specs.Caches.{words_below}
use Rattle.cache.proofs.Lines.{access_left}
use Rattle.cache.proofs.cache.access.CacheDataMemory.write.Goals as goal

pub returns-clause-written : goal.returns-clause-written
returns-clause-written g c =
    let words = words_below g.M.DataMemory.words in
    let cache = c.args.self.now in
    let ls = cache.lines in
    let k = c.lay.new.self in
    let a = c.args.address in
    let w = c.args.word in
    let h = c.in_ok-check_address.ensures.inside in
    let lines : k.lines ≡ laid ls a w = cc in
    let below : words k ≡ yielded (line_of ls a) a (words cache) = cc in
    writes_inside _ _ cache k a w h (access_left ls k.lines (words cache) (words k) a w cache.placed c.lay.ensures.here h lines below) cc
