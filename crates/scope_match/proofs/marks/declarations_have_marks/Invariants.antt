use Rattle.std.proofs.Common.{◌↔◌, Some, drop}
use Rattle.scope_rules.specs.Table.{symbol_declared, number_or_none}
use Rattle.scope_match.specs.Matches.{mark_at}
use Rattle.scope_match.proofs.Have.{Have}
use Rattle.scope_match.proofs.marks.declarations_have_marks.Given as goal

abbrev pub invariant-loop-i : goal.invariant-loop-i
invariant-loop-i l =
    Have (λ b. b.id) (λ b. Some (mark_at l.marks (number_or_none (symbol_declared l.sites b)))) (drop l.i l.sites)
    ↔ Have (λ b. b.id) (λ b. Some (mark_at l.marks (number_or_none (symbol_declared l.sites b)))) l.sites
