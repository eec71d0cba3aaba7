use Rattle.std.proofs.Common.{◌∙◌, flat_map, ap, arith}
use Rattle.std.proofs.lemmas.List.{take_all}
use Rattle.run_value.specs.ShownView.{shown_of}
use Rattle.run_text.specs.Text.{shown_data}
use Rattle.json_write.specs.Tokens.{data_tokens}
use Rattle.json_write.proofs.Appending.{appended}
use Rattle.run_text.proofs.Lists.{each_tokens}
use Rattle.run_text.proofs.shown.write_each_shown.Goals as goal

pub returns : goal.returns
returns c =
    let items = c.args.values.now in
    appended c.loop-value.invariant (ap (flat_map (λ x. data_tokens (shown_data (shown_of x)))) (take_all c.loop-value.value-index items (omega (arith, c.loop-value-test.false))) ∙ each_tokens shown_data shown_of items)
