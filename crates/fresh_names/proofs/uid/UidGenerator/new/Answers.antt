use Rattle.std.proofs.Common.{◌∙◌, [], map, ap, sym, subst}
use Rattle.fresh_names.specs.Uid.{with_names, names_in}
use Rattle.fresh_names.specs.Fresh.{Covers}
use Rattle.fresh_names.proofs.Fresh.{names_append, made}
use Rattle.fresh_names.proofs.uid.UidGenerator.new.Goals as goal

pub returns-clause-known : goal.returns-clause-known
returns-clause-known c =
    let symbols = map (λ x. x.name) c.args.scoping.now.symbols in
    let unresolved = map (λ u. u.name) c.args.scoping.now.unresolved in
    c.in_ok-add_unresolved.ensures ∙ ap (λ us. with_names (map (λ u. u.name) us) c.add_symbols.new.self) c.root_unresolved_references.ensures.unresolved
    ∙ ap (with_names unresolved) (c.in_ok-add_symbols.ensures ∙ ap (with_names symbols) c.blank-generator.ensures) ∙ sym (names_append symbols unresolved [])

pub returns-clause-covers : goal.returns-clause-covers
returns-clause-covers c = subst (λ known. Covers known (names_in c.args.scoping.now)) (sym (returns-clause-known c)) (made (names_in c.args.scoping.now))
