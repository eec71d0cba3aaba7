use Rattle.std.proofs.Common.{◌∙◌, sym}
use Rattle.js_effects.proofs.Texts.{whole_in_two}
use Rattle.js_effects.proofs.text.is_in_two.Goals as goal

pub returns : goal.returns
returns c = c.has_both.ensures ∙ sym (whole_in_two c.args.whole.now c.args.front.now c.args.back.now c.requires)
