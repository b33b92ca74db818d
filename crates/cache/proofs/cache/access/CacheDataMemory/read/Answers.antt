use Rattle.std.proofs.Common.{◌≡◌, get_or, refl, ◌∙◌}
use Rattle.memory.proofs.Words.{reads_inside, word_read}
use Rattle.cache.specs.Lines.{over, line_of, laid, yielded}
use Rattle.cache.proofs.Caches.{accessed_held}
use Rattle.cache.proofs.Lines.{hit_word, miss_word, not_held, access_kept}
use Rattle.cache.proofs.cache.access.CacheDataMemory.read.Goals as goal

pub returns-in-Some-clause-read : goal.returns-in-Some-clause-read
returns-in-Some-clause-read g c =
    let cache = c.args.self.now in
    let h = c.in_ok-check_address.ensures.inside in
    let word = hit_word cache.lines c.args.address c.in-Some.word (g.M.DataMemory.words cache.below.now) c.in-Some.ensures h in
    reads_inside _ _ cache cache c.args.address c.in-Some.word h word refl refl

pub returns-in-Some-clause-lines : goal.returns-in-Some-clause-lines
returns-in-Some-clause-lines g c = accessed_held g.M.DataMemory.words c.args.self.now c.args.address c.in-Some.word c.in-Some.ensures c.in_ok-check_address.ensures.inside

pub returns : goal.returns
returns g c =
    let words = g.M.DataMemory.words in
    let cache = c.args.self.now in
    let ls = cache.lines in
    let ws = words cache.below.now in
    let k = c.lay.new.self in
    let a = c.args.address in
    let w = c.in_ok-word.word in
    let h = c.in_ok-check_address.ensures.inside in
    let miss = c.in_default.ensures in
    let word : w ≡ get_or (over ls ws) a 0 = word_read _ _ _ _ a w c.in_ok-word.ensures ∙ miss_word ls a ws miss h in
    let lines : k.lines ≡ laid ls a w = cc in
    let below : words k.below.now ≡ yielded (line_of ls a) a ws = cc in
    let kept = access_kept ls k.lines ws (words k.below.now) a w cache.placed c.lay.ensures.here h lines below word in
    record {
      read = reads_inside _ _ cache k a w h word kept cc;
      lines = record { lines = λ _. cc; below = λ _. below; hit = λ held. cc (not_held (line_of ls a) a miss) };
    }
