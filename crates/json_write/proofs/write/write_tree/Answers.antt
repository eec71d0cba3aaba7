use Rattle.std.proofs.Common.{◌++◌, ap, ◌∙◌}
use Rattle.json.specs.Print.{print}
use Rattle.serde_json.proofs.Texts.{print-outline}
use Rattle.js_syntax.specs.Node.{forest_of}
use Rattle.json_text.specs.Text.{data_of, text_of}
use Rattle.json_shape.proofs.Texts.{text_read}
use Rattle.json_write.specs.Tokens.{data_tokens}
use Rattle.json_write.proofs.write.write_tree.Goals as goal

pub returns-clause-text : goal.returns-clause-text
returns-clause-text c =
    c.into_text.ensures.printed ∙ ap print (c.in_ok-write_node.ensures.tokens ∙ ap (λ ts. ts ++ data_tokens (data_of (forest_of c.root.result.now))) c.new-out.ensures.tokens)
    ∙ print-outline (data_of (forest_of c.root.result.now)) ∙ ap (λ t. text_of (forest_of t)) c.root.ensures

pub returns-clause-reads_back : goal.returns-clause-reads_back
returns-clause-reads_back c =
    text_read (forest_of c.args.program.now) c.into_text.result c.into_text.ensures.utf8
    (c.into_text.ensures.reads_back ∙ c.in_ok-write_node.ensures.tokens ∙ ap (λ ts. ts ++ data_tokens (data_of (forest_of c.root.result.now))) c.new-out.ensures.tokens ∙ ap (λ t. data_tokens (data_of (forest_of t))) c.root.ensures)
