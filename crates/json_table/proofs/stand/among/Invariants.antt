use Rattle.std.proofs.Common.{◌≡◌, drop}
use Rattle.json_table.specs.Standing.{row_among}
use Rattle.json_table.proofs.stand.among.Given as goal

abbrev pub invariant-loop-row : goal.invariant-loop-row
invariant-loop-row l = row_among l.kind (drop l.row-index l.rows) ≡ row_among l.kind l.rows
