use Rattle.std.proofs.Common.{◌∙◌, Bool, sym, ap, arith}
use Rattle.std.proofs.lemmas.Grind.{common_steps}
use Rattle.js_tree.specs.Count.{node_count}
use Rattle.js_syntax.specs.Node.{row}
use Rattle.form_declared.specs.Part.{part_test}
use Rattle.form_declared.proofs.Steps.{no_places, first_node, last_of_row, place_found, place_passed}
use Rattle.form_declared.proofs.row.places.Goals as goal
use Rattle.form_declared.proofs.row.places.Goals.{then-is_part+in_ok-push, else-is_part}

pub returns-then-not-has_part : goal.returns-then-not-has_part
returns-then-not-has_part c = record { places = grind (arith, common_steps, c.new-found.ensures.items, no_places (part_test c.args.part) (row c.args.nodes.now) c.args.place) }

pub loop-rest-preserved-after-is_part : goal.loop-rest-preserved-after-is_part
loop-rest-preserved-after-is_part c =
    let here = first_node _ _ _ c.in-len1-up.len_at_least c.first-item.is c.in-Some.is in
    let told = c.is_part.ensures ∙ ap (λ (b : Bool). part_test c.args.part c.in-Some.node.kind c.in-Some.node.below b) (c.is_empty.ensures ∙ sym (last_of_row _)) in
    record {
      behind = omega (arith, ap node_count here, c.loop-rest.invariant.behind, c.behind_node-next.ensures.behind);
      found = elim c.if-is_part.branch [
        | then-is_part+in_ok-push w ↦ place_found (part_test c.args.part) _ _ _ _ _ _ _ _ _ _ here (sym told ∙ w.if-is_part.true) (ap (λ v. v.items) w.found-is ∙ w.in_ok-push.ensures.items) c.behind_node-next.ensures.behind c.loop-rest.invariant.found
        | else-is_part w ↦ place_passed (part_test c.args.part) _ _ _ _ _ _ _ _ _ _ here (sym told ∙ w.if-is_part.false) (ap (λ v. v.items) w.found-is) c.behind_node-next.ensures.behind c.loop-rest.invariant.found
      ];
    }
