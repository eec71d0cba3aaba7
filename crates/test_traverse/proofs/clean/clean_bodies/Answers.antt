use Rattle.std.proofs.Common.{◌≡◌, ◌∙◌, false, length, sym, ap, subst}
use Rattle.js_syntax.specs.Node.{Forest, forest_of}
use Rattle.scope_rules.specs.Table.{Scoping}
use Rattle.symbol_sets.specs.Numbers.{none_below}
use Rattle.min_context.specs.IsTrue.{IsTrue}
use Rattle.min_context.specs.Seen.{Seen, still}
use Rattle.min_traverse.specs.Edits.{Edits}
use Rattle.steps.specs.Allowed.Edits.{TreeEdits}
use Rattle.rules.proofs.DeadCode.BeginsTrue.{begins}
use Rattle.rules.proofs.DeadCode.StaysTrue.{as_tree_edits}
use Rattle.test_traverse.specs.Bodies.{empty_in_bodies}
use Rattle.test_traverse.specs.Cleaning.{BodyEdit}
use Rattle.test_traverse.proofs.Allowed.{are_edits}
use Rattle.test_traverse.proofs.Looking.{none_left}
use Rattle.test_traverse.proofs.clean.clean_bodies.Goals as goal

pub traverse_mut_with_ctx-requires : goal.traverse_mut_with_ctx-requires
traverse_mut_with_ctx-requires c =
    let context = c.in_ok-context.ensures in
    let table = context.scoping ∙ c.in_ok-scoping.ensures.scoping in
    let marks = context.marked ∙ ap (λ (s : Scoping). none_below (length s.references)) (sym context.scoping) in
    record {
      holds = (subst (λ (t : Forest). IsTrue (still c.in_ok-context.context) t) (sym c.in_ok-scoping.ensures.marked) (begins (forest_of c.args.program.now) c.requires.fits (still c.in_ok-context.context) table marks), tt);
      outside = context.outside;
    }

pub returns : goal.returns
returns c =
    let walked = c.in_ok-traverse_mut_with_ctx.ensures in
    let left = forest_of c.traverse_mut_with_ctx.new.program in
    let marked = c.in_ok-scoping.ensures.marked in
    let quiet : c.revisit_requested.result ≡ false → c.traverse_mut_with_ctx.new.ctx.requested ≡ false = λ q. ap (λ (k : Seen). k.requested) (sym c.get.ensures.context) ∙ sym c.revisit_requested.ensures.requested ∙ q in
    let same : c.revisit_requested.result ≡ false → left ≡ forest_of c.build.new.program = λ q. ap forest_of (walked.quiet (quiet q)) in
    record {
      edits = subst (λ (t : Forest). Edits BodyEdit t left) marked walked.edits;
      allowed = subst (λ (t : Forest). TreeEdits t left) marked (as_tree_edits BodyEdit are_edits _ _ walked.edits);
      fits = walked.holds.0.fits;
      same = λ q. same q ∙ marked;
      clean = λ q. subst (λ (t : Forest). empty_in_bodies t ≡ 0) (sym (same q)) (none_left (forest_of c.build.new.program) _ c.in_ok-context.context c.traverse_mut_with_ctx.new.traverse c.traverse_mut_with_ctx.new.ctx (walked.visited (quiet q)));
    }
