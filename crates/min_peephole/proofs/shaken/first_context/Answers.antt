use Rattle.std.proofs.Common.{◌≡◌, ◌∙◌, length, sym, ap}
use Rattle.js_syntax.specs.declared.scalar.SourceType.{SourceType}
use Rattle.js_syntax.specs.Node.{forest_of}
use Rattle.scope_rules.specs.Table.{Scoping}
use Rattle.symbol_sets.specs.Numbers.{none_below}
use Rattle.steps.specs.Allowed.Exposure.{is_script_source}
use Rattle.min_symbols.specs.Changes.{Changes}
use Rattle.min_context.specs.Seen.{Seen}
use Rattle.min_statements.specs.Walker.{Names, names_of}
use Rattle.min_peephole.proofs.Beginning.{begun}
use Rattle.min_peephole.proofs.shaken.first_context.Goals as goal

pub returns-clause-between : goal.returns-clause-between
returns-clause-between c =
    let t = forest_of c.args.program.now in
    let rest = c.new-2.ensures.rest in
    let state = c.in_ok-state.ensures.begins in
    let table : c.new-2.result.scoping ≡ c.args.scoping = ap {A = Seen} (λ k. k.scoping) rest in
    begun (names_of c.args.scoping t) c.new-2.result t c.requires.fits c.requires.marked.marked (table ∙ c.requires.marked.table)
    (ap {A = Scoping} {B = Names} (λ s. names_of s t) (sym table))
    (ap {A = Seen} (λ k. k.marked) rest ∙ ap {A = Changes} (λ p. p.marked) state.changes ∙ ap {A = Scoping} (λ s. none_below (length s.references)) (sym table))
    (ap {A = Seen} (λ k. k.place) rest)
    (ap {A = Seen} (λ k. k.eval_dropped) rest ∙ ap {A = Changes} (λ p. p.eval_dropped) state.changes)
    (ap {A = Seen} (λ k. k.requested) rest ∙ ap {A = Changes} (λ p. p.requested) state.changes)
    (ap {A = SourceType} is_script_source (ap {A = Seen} (λ k. k.source_type) rest ∙ state.source_type) ∙ c.source_type_of.ensures)
