use Rattle.std.proofs.Common.{rules, ◌≡◌, ◌∙◌, length, vec_len, sym}
use Rattle.min_expressions.proofs.Lists.{not_alone}
use Rattle.min_expressions.proofs.list.take_only.Goals as goal

pub returns-else-len-eq1-clause-taken : goal.returns-else-len-eq1-clause-taken
returns-else-len-eq1-clause-taken c =
    let same : vec_len c.args.parts.now ≡ length c.args.parts.now.items = search rules in
    sym (not_alone c.args.parts.now.items (λ e. c.if-len-eq1.false (c.len.ensures ∙ same ∙ e)))
