use Rattle.std.proofs.Common.{◌≡◌, ◌∙◌, ap, arith}
use Rattle.js_syntax.specs.Node.{forest_of, total}
use Rattle.scope_rules.specs.Site.{scope_count}
use Rattle.scope_rules.specs.Mark.{own_reference}
use Rattle.scope_rules.proofs.Counts.{no_more_scopes, no_more_references}
use Rattle.scope_walk.proofs.mark.mark_nodes.Goals as goal

pub mark_node-requires : goal.mark_node-requires
mark_node-requires c =
    let whole = forest_of c.args.program.now in
    let same : c.into_root-root.result ≡ c.args.program.now = c.into_root-root.ensures ∙ c.replace.ensures.value in
    record {
      fits = record {
        scopes = omega (arith, ap (λ m. m.scope) c.new-marks.ensures, ap (λ t. scope_count (forest_of t)) same, no_more_scopes whole, c.requires.small);
        references = omega (arith, ap (λ m. m.reference) c.new-marks.ensures, ap (λ t. total own_reference (forest_of t)) same, no_more_references whole, c.requires.small);
      };
    }
