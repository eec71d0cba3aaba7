use Rattle.std.proofs.Common.{◌∙◌, [], None, get_or, map}
use Rattle.std.proofs.lemmas.List.{get_or_default}
use Rattle.scope_rules.specs.Table.{names_behind}
use Rattle.scope_table.specs.Unbound.{name_told, number_of}
use Rattle.scope_table.proofs.Naming.{unused, unresolved_more, unresolved_all}
use Rattle.scope_table.proofs.unresolved.unresolved_of.Goals as goal

pub loop-i-init : goal.loop-i-init
loop-i-init c = c.in_ok-numbers.ensures.names ∙ unused 0 (names_behind [] (map name_told c.args.unbound.now))

pub loop-i-preserved : goal.loop-i-preserved
loop-i-preserved c =
    unresolved_more (number_of c.in_ok-numbers.numbers) (names_behind [] (map name_told c.args.unbound.now)) c.args.unbound.now c.loop-i.i (get_or c.args.unbound.now c.loop-i.i None) c.number_in-number.result c.loop-i.names.items c.refer.new.names.items
    c.loop-i-test.true (get_or_default _ _ _ _ c.loop-i-test.true) c.number_in-number.ensures c.in_ok-refer.ensures c.loop-i.invariant

pub returns : goal.returns
returns c = unresolved_all (number_of c.in_ok-numbers.numbers) c.args.unbound.now c.loop-i.i c.loop-i.names.items c.loop-i-test.false c.in_ok-numbers.ensures.numbers c.loop-i.invariant
