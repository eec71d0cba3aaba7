use Rattle.std.proofs.Common.{◌∙◌, ◌++◌, length, map, append-nil, refl, sym, ap}
use Rattle.std.specs.Option.{option_to_list}
use Rattle.std.proofs.lemmas.List.{map-append}
use Rattle.std.proofs.lemmas.Option.{slice_get_read, slice_get_past}
use Rattle.scope_table.proofs.reading.add_reference.Goals as goal

pub returns-in_ok-push : goal.returns-in_ok-push
returns-in_ok-push c =
    ap (map (λ r. r.now)) c.in_ok-push.ensures.items ∙ map-append (λ r. r.now) c.args.found.now.items _
    ∙ ap (λ o. map (λ r. r.now) c.args.found.now.items ++ option_to_list o)
    (sym (slice_get_read c.args.references.now (length c.args.references.now) c.args.id.0 c.index-references-at.result refl c.if-at-references.true c.index-references-at.is))

pub returns-else-at-references : goal.returns-else-at-references
returns-else-at-references c =
    sym (ap (λ o. map (λ r. r.now) c.args.found.now.items ++ option_to_list o) (slice_get_past c.args.references.now c.args.id.0 c.if-at-references.false) ∙ append-nil (map (λ r. r.now) c.args.found.now.items))
