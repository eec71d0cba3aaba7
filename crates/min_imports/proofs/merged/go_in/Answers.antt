use Rattle.std.proofs.Common.{◌∙◌, ◌<◌, IfSome, length, subst, sym, ap, arith}
use Rattle.std.proofs.lemmas.List.{length-set}
use Rattle.js_syntax.specs.Node.{row}
use Rattle.min_imports.specs.Merging.{overlaid, receiver}
use Rattle.min_imports.proofs.Planning.{none_receives, receives, went_in}
use Rattle.min_imports.proofs.merged.go_in.Goals as goal

pub receiver-requires : goal.receiver-requires
receiver-requires c = record { even = ap length c.as_slice.ensures.value ∙ c.requires.even; within = c.requires.within }

pub returns-in_default-clause-goes : goal.returns-in_default-clause-goes
returns-in_default-clause-goes c =
    sym (none_receives c.args.source.now (row c.args.names.now) c.args.staying.now (overlaid c.args.items.now c.args.changed.now.items)
    (ap (λ l. receiver c.args.source.now (row c.args.names.now) c.args.staying.now (overlaid c.args.items.now l)) (sym c.as_slice.ensures.value) ∙ sym c.receiver.ensures.index ∙ c.in_default.is))

pub returns-clause-goes : goal.returns-clause-goes
returns-clause-goes c =
    let found = ap (λ l. receiver c.args.source.now (row c.args.names.now) c.args.staying.now (overlaid c.args.items.now l)) (sym c.as_slice.ensures.value) ∙ sym c.receiver.ensures.index ∙ c.in-Some.is in
    sym (receives c.args.source.now (row c.args.names.now) c.args.staying.now (overlaid c.args.items.now c.args.changed.now.items) c.in-Some.at found).taken_there

pub returns-clause-left : goal.returns-clause-left
returns-clause-left c =
    let found = ap (λ l. receiver c.args.source.now (row c.args.names.now) c.args.staying.now (overlaid c.args.items.now l)) (sym c.as_slice.ensures.value) ∙ sym c.receiver.ensures.index ∙ c.in-Some.is in
    let inside = subst (λ o. IfSome o (λ i. i < length c.args.staying.now)) c.in-Some.is c.receiver.ensures.within in
    went_in c.args.source.now (row c.args.names.now) c.args.items.now c.args.staying.now c.args.changed.now.items c.in-Some.at c.index-items-at.result c.index_mut-slot.result.now c.give_names.new.changed found
    (omega (arith, inside, c.requires.even)) (omega (arith, c.requires.even, c.requires.within)) c.index-items-at.is c.index_mut-slot.ensures.value c.in_ok-give_names.ensures

pub returns-clause-even : goal.returns-clause-even
returns-clause-even c = length-set c.args.changed.now.items c.in-Some.at c.give_names.new.changed
