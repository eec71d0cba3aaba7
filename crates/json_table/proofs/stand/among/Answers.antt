use Rattle.std.proofs.Common.{◌∙◌, sym, ap, arith}
use Rattle.js_syntax.specs.contracts.node_type.NodeTypePartialEq.TheImpl as type_eq
use Rattle.json_table.proofs.Search.{row_found, row_passed}
use Rattle.json_table.proofs.stand.among.Goals as goal

pub returns-then-eq : goal.returns-then-eq
returns-then-eq c =
    sym (row_found c.args.kind c.args.rows.now c.loop-row.row-index _ (omega arith) (ap (λ t. type_eq.ghosts.eq t c.args.kind) (sym c.node_type.ensures) ∙ sym c.eq.ensures ∙ c.if-eq.true))
    ∙ c.loop-row.invariant

pub loop-row-preserved : goal.loop-row-preserved
loop-row-preserved c =
    sym (row_passed c.args.kind c.args.rows.now c.loop-row.row-index _ (omega arith) (ap (λ t. type_eq.ghosts.eq t c.args.kind) (sym c.node_type.ensures) ∙ sym c.eq.ensures ∙ c.if-eq.false))
    ∙ c.loop-row.invariant
