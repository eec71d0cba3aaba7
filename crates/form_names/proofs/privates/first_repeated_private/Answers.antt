use Rattle.std.proofs.Common.{◌≡◌, ◌∙◌, ◌∷◌, ap, drop_of_length-le}
use Rattle.form_rules.specs.Rules.{repeated_privates}
use Rattle.form_names.proofs.Firsts.{first_of_none}
use Rattle.form_names.proofs.Repeating.{privates_more, halves_of}
use Rattle.form_names.proofs.privates.first_repeated_private.Goals as goal

pub loop-private-preserved : goal.loop-private-preserved
loop-private-preserved c =
    let private = c.private-item.result in
    let seen = c.loop-private.invariant.seen in
    let before : c.in_ok-before.before ≡ halves_of seen private.name =
    c.in_ok-before.ensures.before ∙ c.loop-private.invariant.known c.name.result.now ∙ ap (halves_of seen) c.name.ensures in
    record {
      seen = private ∷ seen;
      known = λ q. cc (c.in_ok-before.ensures.after q, c.loop-private.invariant.known q);
      first = privates_more c.args.privates.now c.loop-private.private-index private seen c.in_ok-before.before c.loop-private.first c.first_unless-first.result _ c.loop-private-test.true c.private-item.is before (cc)
          c.loop-private.invariant.first;
    }

pub returns : goal.returns
returns c = record {
  first = first_of_none 4 c.loop-private.first _ _ (ap (repeated_privates c.loop-private.invariant.seen) (drop_of_length-le c.args.privates.now c.loop-private-test.false)) c.loop-private.invariant.first;
}
