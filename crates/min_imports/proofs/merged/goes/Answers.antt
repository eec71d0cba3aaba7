use Rattle.std.proofs.Common.{◌∙◌, sym, ap}
use Rattle.std.specs.Option.{option_map}
use Rattle.min_imports.specs.Merging.{imported_from, planned}
use Rattle.min_imports.proofs.Planning.{goes_no_import}
use Rattle.min_imports.proofs.merged.goes.Goals as goal

pub import_goes-requires : goal.import_goes-requires
import_goes-requires c = record { even = c.requires.even; within = c.requires.within; source = ap imported_from (sym c.kind.ensures) ∙ sym c.imported_from.ensures ∙ ap (option_map (λ s. s.now)) c.in-Some.is }

pub returns-in_default-clause-goes : goal.returns-in_default-clause-goes
returns-in_default-clause-goes c =
    goes_no_import c.args.sources.now (planned c.args.items.now c.args.staying.now c.args.changed.now.items) c.args.node.now (ap imported_from (sym c.kind.ensures) ∙ sym c.imported_from.ensures ∙ ap (option_map (λ s. s.now)) c.in_default.is)
