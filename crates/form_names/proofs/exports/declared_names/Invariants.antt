use Rattle.std.proofs.Common.{◌≡◌, ◌||◌, ℕ, List, drop}
use Rattle.form_rules.specs.Rules.{is_declared}
use Rattle.form_names.specs.Names.{has_name}
use Rattle.form_names.proofs.exports.declared_names.Given as goal

abbrev pub invariant-loop-declaration : goal.invariant-loop-declaration
invariant-loop-declaration l = (q : List ℕ) → has_name l.names q || is_declared q (drop l.declaration-index l.declared) ≡ is_declared q l.declared
