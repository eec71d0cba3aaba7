use Rattle.std.proofs.Common.{ℕ, List, ◌++◌, ◌∙◌, ap, map}
use Rattle.form_context.specs.Name.{all_names}
use Rattle.form_context.proofs.Index.{more_names, names_at}
use Rattle.form_context.proofs.Private.{found_so_far}
use Rattle.form_context.proofs.context.add_privates.Goals as goal

pub loop-names-preserved : goal.loop-names-preserved
loop-names-preserved c =
    found_so_far _ _ _ _ _ _
    (ap (λ ns. all_names (map (λ n. n.value) ns)) c.in_ok-push.ensures.items ∙ more_names (λ n. n.value) c.loop-names.all.items c.in_ok-clone.field-0 ∙ ap (λ (xs : List (List ℕ)). all_names (map (λ n. n.value) c.loop-names.all.items) ++ xs) c.in_ok-clone.ensures.cases)
    (names_at (λ n. n.value) c.args.privates.now c.loop-names.names-index c.names-item.result c.loop-names-test.true c.names-item.is) c.loop-names.invariant
