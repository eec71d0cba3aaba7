use Rattle.std.proofs.Common.{◌≡◌, ◌∙◌, ◌∷◌, true, not, if◌then◌else◌, drop_of_length-le, ap}
use Rattle.std.specs.Str.{bytes_eq}
use Rattle.form_rules.specs.Rules.{is_exported, repeated_exports}
use Rattle.form_names.specs.Names.{has_name}
use Rattle.form_names.proofs.Firsts.{first_of_none}
use Rattle.form_names.proofs.Known.{has_name_after}
use Rattle.form_names.proofs.Repeating.{exports_more, added}
use Rattle.form_names.proofs.exports.first_repeated_export.Goals as goal

pub loop-export-preserved : goal.loop-export-preserved
loop-export-preserved c =
    let export = c.export-item.result in
    let seen = c.loop-export.invariant.seen in
    let new : c.in_ok-is_new.is_new ≡ not (is_exported export.name seen) =
    c.in_ok-is_new.ensures.added ∙ ap not (c.loop-export.invariant.known c.name.result.now ∙ ap (λ q. is_exported q seen) c.name.ensures) in
    record {
      seen = export ∷ seen;
      known = λ q.
          has_name_after c.name.result c.loop-export.names c.insert.new.self c.in_ok-is_new.ensures.updates q ∙ ap (λ name. if bytes_eq name q then true else has_name c.loop-export.names q) c.name.ensures
          ∙ added (bytes_eq export.name q) (c.loop-export.invariant.known q);
      first = exports_more c.args.exported.now c.loop-export.export-index export seen c.in_ok-is_new.is_new c.loop-export.first c.first_unless-first.result _ c.loop-export-test.true c.export-item.is new (cc)
          c.loop-export.invariant.first;
    }

pub returns : goal.returns
returns c = record {
  first = first_of_none 7 c.loop-export.first _ _ (ap (repeated_exports c.loop-export.invariant.seen) (drop_of_length-le c.args.exported.now c.loop-export-test.false)) c.loop-export.invariant.first;
}
