use Rattle.std.proofs.Common.{rules, ap, not}
use Rattle.std.proofs.lemmas.Iterator.{YieldsList-from_slice}
use Rattle.std.proofs.lemmas.Iterator.Search.{any_from_yields_List}
use borrow.Author.Tests.{tests}
use Rattle.symbol_sets.proofs.vec_set.VecSetSymbolSet.is_empty.Goals as goal

pub returns : goal.returns
returns c = record {
  empty = ap not (any_from_yields_List (λ held. held) _ _ _ c.any.ensures.ran (YieldsList-from_slice c.args.self.now cc) (λ x b q k. search (rules, tests)));
}
