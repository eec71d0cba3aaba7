use Rattle.scope_match.proofs.Whole.{candidates_are}
use Rattle.scope_match.proofs.marks.marks_of.Goals as goal

pub returns : goal.returns
returns c =
    candidates_are c.args.found.now c.scopes.result.now c.bindings.result.now c.references.result.now c.args.symbols.now _ _ _ c.scopes.ensures.scopes c.bindings.ensures.bindings c.references.ensures.references c.requires
    c.in_ok-marks_of_scopes.ensures c.in_ok-marks_of_symbols.ensures c.in_ok-marks_of_references.ensures
