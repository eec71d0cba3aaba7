use Rattle.std.proofs.Common.{◌∙◌, sym, arith}
use Rattle.form_names.proofs.Names.{stops, goes_on, all_in_name}
use Rattle.form_names.proofs.name.continues_name.Goals as goal

pub returns-then-not-is_in_name : goal.returns-then-not-is_in_name
returns-then-not-is_in_name c = sym (stops c.args.bytes.now c.loop-c.c-index c.loop-c-test.true (sym c.is_in_name.ensures ∙ c.if-not-is_in_name.true) c.loop-c.invariant)

pub loop-c-preserved : goal.loop-c-preserved
loop-c-preserved c = goes_on c.args.bytes.now c.loop-c.c-index c.loop-c-test.true (sym c.is_in_name.ensures ∙ c.if-not-is_in_name.false) c.loop-c.invariant

pub returns : goal.returns
returns c = sym (all_in_name c.args.bytes.now c.loop-c.c-index (omega (arith, c.loop-c-test.false)) c.loop-c.invariant)
