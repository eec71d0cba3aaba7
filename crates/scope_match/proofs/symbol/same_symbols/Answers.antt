use Rattle.std.proofs.Common.{below_more}
use Rattle.scope_match.specs.Matches.{SameSymbol}
use Rattle.scope_match.proofs.symbol.same_symbols.Goals as goal

pub loop-i-preserved : goal.loop-i-preserved
loop-i-preserved c = λ n less.
    below_more (SameSymbol c.args.marks.now c.args.scoping.now c.args.table.now) c.loop-i.i c.loop-i.invariant (c.in_ok-same_symbol.ensures.0 c.if-not-branch.false) n less
