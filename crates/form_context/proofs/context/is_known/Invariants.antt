use Rattle.std.proofs.Common.{◌≡◌, drop, map}
use Rattle.form_rules.specs.Name.{is_among}
use Rattle.form_context.specs.Name.{all_names}
use Rattle.form_context.proofs.context.is_known.Given as goal

abbrev pub invariant-loop-names : goal.invariant-loop-names
invariant-loop-names l = is_among l.name (all_names (map (λ n. n.value) (drop l.names-index l.privates))) ≡ is_among l.name (all_names (map (λ n. n.value) l.privates))
