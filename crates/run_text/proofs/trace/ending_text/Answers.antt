use Rattle.std.proofs.Common.{◌∙◌, ◌++◌, ap}
use Rattle.json.specs.Print.{print}
use Rattle.serde_json.proofs.Texts.{print-outline}
use Rattle.run_value.specs.Trace.{ending_of}
use Rattle.json_write.specs.Tokens.{data_tokens}
use Rattle.run_text.specs.Text.{ending_data}
use Rattle.run_text.proofs.trace.ending_text.Goals as goal

pub returns : goal.returns
returns c =
    let d = ending_data (ending_of c.args.ending.now) in
    c.into_text.ensures ∙ ap print (c.in_ok-write_ending.ensures.tokens ∙ ap (λ ts. ts ++ data_tokens d) c.new-out.ensures.tokens) ∙ print-outline d
