use Rattle.std.proofs.Common.{[], length, ap, arith}
use Rattle.form_context.proofs.Index.{one_more}
use Rattle.form_context.proofs.names.Names.new.Goals as goal

pub loop-name-preserved : goal.loop-name-preserved
loop-name-preserved c =
    λ q. one_more c.args.listed.items c.loop-name.name-index (record { ref_ptr = (0, 0); now = [] }) q _ _ (omega (arith, c.loop-name-test.true, ap length c.deref-name-items.ensures.value)) (c.loop-name.invariant q) (rw c.deref-name-items.ensures.value at (c.in_ok-insert.ensures.updates.0 (record { ref_ptr = (0, 0); now = q })))
