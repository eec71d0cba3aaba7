use Rattle.std.proofs.Common.{◌≡◌, ◌∙◌, None, Some, true, sym, ap}
use Rattle.js_syntax.specs.Node.{row}
use Rattle.steps.specs.Allowed.IdleParts.{more_before, counting, as_value_of}
use Rattle.rules.specs.Expressions.Uses.{spot_of}
use Rattle.rules.specs.Expressions.Lists.{new_note}
use Rattle.min_expressions.specs.Sequences.{parts_go, comes_behind}
use Rattle.min_expressions.proofs.Sequences.{several_parts, stands_behind, stands_itself}
use Rattle.min_expressions.proofs.sequence.left_of.Goals as goal

pub last_behind_zero-requires-clause-several : goal.last_behind_zero-requires-clause-several
last_behind_zero-requires-clause-several c =
    let s = spot_of c.args.ctx.now.place in
    several_parts s c.into_children-parts.result.items (ap (parts_go s) c.into_children-parts.ensures ∙ c.requires.goes)

pub returns-then-behind-clause-kept : goal.returns-then-behind-clause-kept
returns-then-behind-clause-kept c =
    let s = spot_of c.args.ctx.now.place in
    let ts = c.into_children-parts.result.items in
    let behind : comes_behind s (row ts) ≡ true = ap (λ us. comes_behind s (row us)) (sym c.as_slice.ensures.value) ∙ sym c.comes_behind-behind.ensures ∙ c.if-behind.true in
    let w = stands_behind s (record { span = c.args.span; id = None }) ts (ap (parts_go s) c.into_children-parts.ensures ∙ c.requires.goes) behind in
    ap (λ t. as_value_of s.used_as s.in_with (more_before t) (record { span = c.args.span; id = None }) (new_note c.args.list.note) (counting t)) (sym c.into_children-parts.ensures)
    ∙ w.put (new_note c.args.list.note) ∙ ap Some (sym (c.last_behind_zero.ensures w.part w.last))

pub returns-else-behind-clause-kept : goal.returns-else-behind-clause-kept
returns-else-behind-clause-kept c =
    let s = spot_of c.args.ctx.now.place in
    let ts = c.into_children-parts.result.items in
    let here = ap (λ us. comes_behind s (row us)) (sym c.as_slice.ensures.value) ∙ sym c.comes_behind-behind.ensures ∙ c.if-behind.false in
    ap (λ t. as_value_of s.used_as s.in_with (more_before t) (record { span = c.args.span; id = None }) (new_note c.args.list.note) (counting t)) (sym c.into_children-parts.ensures)
    ∙ ap (λ p. as_value_of s.used_as s.in_with (more_before (row ts)) (record { span = c.args.span; id = None }) (record { span = p; id = None }) (counting (row ts))) (sym c.span-list_span.ensures)
    ∙ c.staying.ensures s (more_before (row ts)) (stands_itself s (row ts) here)
