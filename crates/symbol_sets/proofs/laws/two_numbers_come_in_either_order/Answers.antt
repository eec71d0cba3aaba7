use Rattle.std.proofs.Common.{true, false, sym}
use Rattle.std.proofs.lemmas.List.{set_comm}
use Rattle.symbol_sets.proofs.Calls.{either_order}
use Rattle.symbol_sets.proofs.laws.two_numbers_come_in_either_order.Goals as goal

pub returns : goal.returns
returns c = record { both_in = either_order true; both_out = either_order false; one_each = λ set m n other. set_comm set n m false true (λ e. other (sym e)) }
