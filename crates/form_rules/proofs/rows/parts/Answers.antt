use Rattle.std.proofs.Common.{refl}
use Rattle.json_text.specs.Text.{is_identifier_name}
use Rattle.form_rules.proofs.rows.parts.Goals as goal

pub returns : goal.returns
unfolding is_identifier_name
returns c = (refl, (refl, (refl, (refl, (refl, (refl, (refl, (refl, (refl, (refl, (refl, (refl, (refl, (refl, tt))))))))))))))
