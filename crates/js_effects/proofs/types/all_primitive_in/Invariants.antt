use Rattle.std.proofs.Common.{◌≡◌, drop}
use Rattle.js_syntax.specs.Node.{row}
use Rattle.js_effects.specs.Answers.{answers}
use Rattle.js_effects.specs.Kinds.{types, all_primitive}
use Rattle.js_effects.proofs.types.all_primitive_in.Given as goal

abbrev pub invariant-loop-part : goal.invariant-loop-part
invariant-loop-part g l =
    let A = answers (g.C.GlobalContext.names l.ctx) (g.C.MayHaveSideEffectsContext.effects l.ctx) in
    all_primitive (types A (row l.parts)) ≡ all_primitive (types A (row (drop l.part-index l.parts)))
