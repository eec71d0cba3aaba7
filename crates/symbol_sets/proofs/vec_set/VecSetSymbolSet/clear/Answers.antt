use Rattle.std.proofs.Common.{rules, ◌≡◌, ◌∙◌, ap, length}
use Rattle.std.specs.Vec.{vec_len}
use Rattle.symbol_sets.specs.Numbers.{none_below}
use Rattle.symbol_sets.proofs.vec_set.VecSetSymbolSet.clear.Goals as goal

pub returns : goal.returns
returns c =
    let capacity : vec_len c.self.inside.held ≡ length c.args.self.now = search rules
    in record { cleared = c.fill.ensures.items (λ held same. same) ∙ ap none_below capacity }
