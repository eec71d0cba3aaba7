use Rattle.std.proofs.Common.{◌∙◌, map, get_or, ap}
use Rattle.form_names.specs.Words.{is_word_at}
use Rattle.form_names.specs.declared.reserved.TheConstants.{STRICT_PLACES}
use Rattle.form_names.proofs.Words.{strict_at_home}
use Rattle.form_names.proofs.reserved.is_strict_word.Goals as goal

pub returns : goal.returns
returns c =
    c.is_word_at.ensures ∙ ap (λ ws. is_word_at (map (λ w. w.now) ws) (get_or STRICT_PLACES c.args.number 0) c.args.name.now) c.as_slice.ensures
    ∙ strict_at_home c.args.number c.args.name.now c.requires.number
