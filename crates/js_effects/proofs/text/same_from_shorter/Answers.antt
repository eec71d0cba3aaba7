use Rattle.std.proofs.Common.{◌∙◌, sym}
use Rattle.js_effects.proofs.Texts.{both_in_two}
use Rattle.js_effects.proofs.text.same_from_shorter.Goals as goal

pub returns : goal.returns
returns c = c.agree.ensures ∙ sym (both_in_two c.args.front.now c.args.back.now c.args.other_front.now c.args.other_back.now c.requires)
