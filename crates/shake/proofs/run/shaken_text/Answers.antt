use Rattle.std.proofs.Common.{ap, string_bytes}
use Rattle.js_syntax.specs.Node.{forest_of}
use Rattle.shake.proofs.Leaving.{read_fits, output_for}
use Rattle.shake.proofs.run.shaken_text.Goals as goal

pub dce_fitting-requires : goal.dce_fitting-requires
dce_fitting-requires c = record { fits = read_fits (forest_of c.args.program) c.requires.read }

pub returns-clause-output : goal.returns-clause-output
returns-clause-output c =
    output_for (forest_of c.args.program) (forest_of c.in_ok-left.left) c.in_ok-left.done.scoping c.in_ok-left.done.iterations c.new.result.options.compress c.dce.result
    (ap (λ o. o.compress) c.new.ensures.options) c.dce.ensures.dce
    c.in_ok-left.ensures.shaken c.in_ok-left.ensures.well_formed c.in_ok-text.ensures.utf8 c.args.tree_only c.resolved_count-references.result (string_bytes c.in_ok-text.text) c.requires.read
    c.in_ok-text.ensures.output
    c.resolved_count-references.ensures.count
