use Rattle.std.proofs.Common.{None, get_or, sym, subst}
use Rattle.std.proofs.lemmas.List.{get_or_default}
use Rattle.scope_table.specs.Unbound.{number_of}
use Rattle.scope_table.proofs.Naming.{AreNamed, named_none, number_none, named_more}
use Rattle.scope_table.proofs.unresolved.number_names.Goals as goal

pub loop-name-init : goal.loop-name-init
loop-name-init c =
    subst (AreNamed c.args.unbound.now 0 (number_of c.new-numbers.result)) (sym c.new-names.ensures.items) (named_none c.args.unbound.now (number_of c.new-numbers.result) (number_none c.new-numbers.result c.new-numbers.ensures.empty))

pub loop-name-preserved : goal.loop-name-preserved
loop-name-preserved c =
    named_more c.args.unbound.now c.loop-name.name-index (get_or c.args.unbound.now c.loop-name.name-index None) c.loop-name.numbers c.number_unbound.new.numbers c.loop-name.names.items c.number_unbound.new.names.items
    c.loop-name-test.true (get_or_default _ _ _ _ c.loop-name-test.true) c.in_ok-number_unbound.ensures c.loop-name.invariant
