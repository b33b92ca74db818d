use Rattle.std.proofs.Common.{List, Option, sym, ap, ◌∙◌, arith}
use Rattle.cache.specs.declared.line.Line.{Line}
use Rattle.cache.specs.Lines.{over}
use Rattle.cache.proofs.Lines.{over_written}
use Rattle.cache.proofs.cache.Cache.flush.Goals as goal

pub returns : goal.returns
returns g c =
    let ls = c.args.self.now.lines in
    let ws = g.M.DataMemory.words c.loop-line.self.below.now in
    let all = c.loop-line.invariant in
    let below = over_written ls ws (λ k h _. all.written k h (omega arith)) in
    record {
      down = record { lines = all.lines; below = sym (ap (λ (ms : List (Option Line)). over ms ws) all.lines ∙ below) ∙ all.kept; held = all.held };
      kept = all.kept;
    }
