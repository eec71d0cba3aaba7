-- What steps ask of a program, row by row.
use Rattle.std.specs.Prelude.{◌≡◌, true}
use Rattle.js_syntax.specs.Node.{Forest}
use Rattle.steps.specs.Allowed.Arranged.{is_arranged}
use Rattle.steps.specs.Fit.Clear.{Clear}
use Rattle.steps.specs.Fit.Plain.{has_plain_statements}
use Rattle.steps.specs.Naming.Placed.{has_plain_values}

pub record Good (row : Forest) : Type 0 where
  pub clear : Clear row
  pub values : has_plain_values row ≡ true
  pub statements : has_plain_statements row ≡ true
  pub arranged : is_arranged row ≡ true
