-- What the walk of a pass leaves, before the pass is completed.
use Rattle.std.specs.Prelude.{◌≡◌, ◌+◌, ◌≤◌, false}
use Rattle.js_syntax.specs.Facts.{weight}
use Rattle.js_syntax.specs.Node.{Forest, total}
use Rattle.symbol_sets.specs.Numbers.{has}
use Rattle.steps.specs.Allowed.Edits.{TreeEdits}
use Rattle.rules.specs.DeadCode.Knows.{Knows}
use Rattle.rules.specs.DeadCode.Quiet.{IsQuiet}
use Rattle.rules.specs.Imports.Quiet.{ImportsUsed}
use Rattle.rules.specs.Expressions.Settled.{IsSettled}
use Rattle.min_context.specs.IsTrue.{IsTrue}
use Rattle.min_context.specs.Place.{outside}
use Rattle.min_context.specs.Seen.{Seen, still}
use Rattle.min_traverse.specs.Moves.{busy}
use Rattle.min_statements.specs.Own.{ExportedOnly, IsToldOnly}
use Rattle.min_statements.specs.Walker.{Names, facts_of}

pub record Walked (names : Names) (c : Seen) (t : Forest) (later : Names) (d : Seen) (u : Forest) : Type 0 where
  pub edits : TreeEdits t u
  pub holds : IsTrue (still d) u
  pub known : Knows (facts_of later d) (has d.marked) u
  pub only : IsToldOnly d.scoping d.eval_dropped u
  pub exported_only : ExportedOnly later u
  pub place : d.place ≡ outside
  pub lighter : total weight u + busy d ≤ total weight t
  -- where it asks for no other pass, nothing changed, nothing goes and no expression comes to its parts
  pub names_same : d.requested ≡ false → later ≡ names
  pub context_same : d.requested ≡ false → d ≡ c
  pub quiet : d.requested ≡ false → IsQuiet (facts_of later d) u
  pub uses_imports : d.requested ≡ false → ImportsUsed (facts_of later d) u
  pub settled : d.requested ≡ false → IsSettled u
