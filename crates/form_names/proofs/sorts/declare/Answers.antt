use Rattle.std.proofs.Common.{◌≡◌, ◌∙◌, unwrap_or, ap, rules}
use Rattle.std.specs.BTreeMap as tree
use Rattle.std.specs.Cmp.Lexicographic.{slice_cmp}
use Rattle.std.specs.Ordering.{nat_cmp, ordering_then}
use Rattle.form_names.specs.Names.{known_at}
use Rattle.form_names.specs.Sorts.{no_sorts, with_sort}
use Rattle.form_names.proofs.Known.{known_after}
use Rattle.form_names.proofs.sorts.declare.Goals as goal

pub returns-clause-before : goal.returns-clause-before
returns-clause-before c =
    let asked : c.unwrap_or-before.result ≡ unwrap_or (tree.get_by (λ k. ordering_then (nat_cmp c.digest.result k.0) (slice_cmp nat_cmp c.args.name.now k.1.now)) c.args.known.now) no_sorts = search rules in
    asked ∙ ap (λ d. unwrap_or (tree.get_by (λ k. ordering_then (nat_cmp d k.0) (slice_cmp nat_cmp c.args.name.now k.1.now)) c.args.known.now) no_sorts) c.digest.ensures.digest

pub returns-clause-after : goal.returns-clause-after
returns-clause-after c =
    let asked : c.unwrap_or-before.result ≡ unwrap_or (tree.get_by (λ k. ordering_then (nat_cmp c.digest.result k.0) (slice_cmp nat_cmp c.args.name.now k.1.now)) c.args.known.now) no_sorts = search rules in
    let before : c.unwrap_or-before.result ≡ known_at no_sorts c.args.known.now c.args.name.now =
    asked ∙ ap (λ d. unwrap_or (tree.get_by (λ k. ordering_then (nat_cmp d k.0) (slice_cmp nat_cmp c.args.name.now k.1.now)) c.args.known.now) no_sorts) c.digest.ensures.digest in
    known_after no_sorts c.with.result (with_sort c.args.sort) (c.digest.result, c.args.name) c.args.known.now c.insert.new.self c.digest.ensures.digest c.in_ok-insert.ensures.updates (c.with.ensures ∙ ap (with_sort c.args.sort) before)
