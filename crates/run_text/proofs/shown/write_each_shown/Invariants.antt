use Rattle.std.proofs.Common.{take, flat_map}
use Rattle.run_value.specs.ShownView.{shown_of}
use Rattle.run_text.specs.Text.{shown_data}
use Rattle.json_write.specs.Tokens.{IsAppended, data_tokens}
use Rattle.run_text.proofs.shown.write_each_shown.Given as goal

abbrev pub invariant-loop-value : goal.invariant-loop-value
invariant-loop-value l = IsAppended l.initial.out l.out (flat_map (λ x. data_tokens (shown_data (shown_of x))) (take l.value-index l.values))
