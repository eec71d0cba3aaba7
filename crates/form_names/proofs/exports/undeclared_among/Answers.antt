use Rattle.std.proofs.Common.{◌≡◌, ◌∙◌, ap, drop_of_length-le}
use Rattle.form_rules.specs.Rules.{is_declared, undeclared}
use Rattle.form_names.proofs.Firsts.{first_of_none}
use Rattle.form_names.proofs.Repeating.{undeclared_more}
use Rattle.form_names.proofs.exports.undeclared_among.Goals as goal

pub loop-export-preserved : goal.loop-export-preserved
loop-export-preserved c =
    let has : c.contains-is_declared.result ≡ is_declared c.export-item.result.name c.args.declared.now =
    c.contains-is_declared.ensures ∙ c.in_ok-names.ensures c.name.result.now ∙ ap (λ q. is_declared q c.args.declared.now) c.name.ensures in
    undeclared_more c.args.declared.now c.args.exported.now c.loop-export.export-index c.export-item.result c.contains-is_declared.result c.loop-export.first c.first_unless-first.result _
    c.loop-export-test.true c.export-item.is has (cc) c.loop-export.invariant

pub returns : goal.returns
returns c = first_of_none 7 c.loop-export.first _ _ (ap (undeclared c.args.declared.now) (drop_of_length-le c.args.exported.now c.loop-export-test.false)) c.loop-export.invariant
