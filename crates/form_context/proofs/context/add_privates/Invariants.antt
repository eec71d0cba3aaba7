use Rattle.std.proofs.Common.{◌≡◌, ◌++◌, drop, map}
use Rattle.form_context.specs.Name.{all_names}
use Rattle.form_context.proofs.context.add_privates.Given as goal

abbrev pub invariant-loop-names : goal.invariant-loop-names
invariant-loop-names l = all_names (map (λ n. n.value) l.all.items) ++ all_names (map (λ n. n.value) (drop l.names-index l.privates)) ≡ all_names (map (λ n. n.value) l.fn.all.items) ++ all_names (map (λ n. n.value) l.privates)
