use Rattle.std.proofs.Common.{◌∙◌, not, ◌||◌, sym, ap}
use Rattle.js_meaning.specs.Module.{requests_of}
use Rattle.min_imports.specs.Items.{texts, is_nameless}
use Rattle.min_imports.proofs.Telling.{answers_asking}
use Rattle.min_imports.proofs.repeated.stays.Goals as goal

pub returns-then-is_new : goal.returns-then-is_new
returns-then-is_new c =
    let node = c.args.node.now in
    let new = c.in_ok-is_new-in-Some.is_new in
    answers_asking node c.args.asked.now c.in-Some.source c.insert.new.self new new (ap requests_of (sym c.kind.ensures) ∙ sym c.source_of.ensures ∙ ap texts c.in-Some.is) c.in_ok-is_new-in-Some.ensures.added
    c.in_ok-is_new-in-Some.ensures.updates (c.if-is_new.true ∙ sym (ap (λ b. b || not (is_nameless node.kind node.below)) c.if-is_new.true))

pub returns-else-is_new : goal.returns-else-is_new
returns-else-is_new c =
    let node = c.args.node.now in
    let new = c.in_ok-is_new-in-Some.is_new in
    answers_asking node c.args.asked.now c.in-Some.source c.insert.new.self new (not c.is_nameless.result) (ap requests_of (sym c.kind.ensures) ∙ sym c.source_of.ensures ∙ ap texts c.in-Some.is)
    c.in_ok-is_new-in-Some.ensures.added c.in_ok-is_new-in-Some.ensures.updates (ap not c.is_nameless.ensures ∙ sym (ap (λ b. b || not (is_nameless node.kind node.below)) c.if-is_new.false))
