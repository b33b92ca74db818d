use Rattle.std.proofs.Common.{ℕ, ◌<◌, List, length, ap, arith, length-take, drop-set-lt}
use Rattle.std.proofs.Math.Seq.{take-set-lt}
use Rattle.memory.specs.Flats.{first_words}
use Rattle.memory.proofs.Words.{writes_inside, writes_outside}
use Rattle.memory.proofs.flat.FlatMemoryDataMemory.write.Goals as goal

pub returns-in_err-check_address : goal.returns-in_err-check_address
returns-in_err-check_address c = writes_outside _ _ _ c.args.address c.args.word c.from_residual.result c.from_residual.ensures.0 c.in_err-check_address.ensures.outside

pub bounds-self-address : goal.bounds-self-address
bounds-self-address c = omega (arith, length-take 4096 c.args.self.now.words.now, c.in_ok-check_address.ensures.inside)

pub returns : goal.returns
returns c =
    let ws = c.args.self.now.words.now in
    let a = c.args.address in
    let w = c.args.word in
    let h : a < length (first_words ws) = c.in_ok-check_address.ensures.inside in
    let l : a < 4096 = omega (arith, length-take 4096 ws) in
    writes_inside _ _ _ _ a w h (take-set-lt 4096 ws a w l) (ap (λ (bs : List ℕ). (c.args.self.now.words.ghost_name, bs)) (drop-set-lt 4096 ws a w l))
