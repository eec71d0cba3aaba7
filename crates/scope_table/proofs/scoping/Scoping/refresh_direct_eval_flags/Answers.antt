use Rattle.std.proofs.Common.{◌∙◌, ap}
use Rattle.scope_table.specs.Refreshing.{own_eval, eval_scopes, marked_around}
use Rattle.scope_table.proofs.Flagged.{whole_program}
use Rattle.scope_table.proofs.scoping.Scoping.refresh_direct_eval_flags.Goals as goal

pub returns : goal.returns
returns c =
    let own = own_eval c.args.program.now.kind c.args.program.now.note c.args.program.now.below in
    record {
      refreshed = c.mark_in.ensures
          ∙ ap (λ f. marked_around (eval_scopes f) c.mark_node.new.self) (c.children.ensures ∙ ap (λ t. t.below) c.root-2.ensures)
          ∙ ap (marked_around (eval_scopes c.args.program.now.below)) (c.mark_node.ensures ∙ ap (λ t. marked_around (own_eval t.kind t.note t.below) c.clear_eval.new.self) c.root.ensures ∙ ap (marked_around own) c.clear_eval.ensures)
          ∙ whole_program c.args.program.now c.args.self.now;
    }
