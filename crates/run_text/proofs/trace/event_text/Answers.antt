use Rattle.std.proofs.Common.{◌∙◌, ◌++◌, ap}
use Rattle.json.specs.Print.{print}
use Rattle.serde_json.proofs.Texts.{print-outline}
use Rattle.run_value.specs.Trace.{event_of}
use Rattle.json_write.specs.Tokens.{data_tokens}
use Rattle.run_text.specs.Text.{event_data}
use Rattle.run_text.proofs.trace.event_text.Goals as goal

pub returns : goal.returns
returns c =
    let d = event_data (event_of c.args.event.now) in
    c.into_text.ensures ∙ ap print (c.in_ok-write_event.ensures.tokens ∙ ap (λ ts. ts ++ data_tokens d) c.new-out.ensures.tokens) ∙ print-outline d
