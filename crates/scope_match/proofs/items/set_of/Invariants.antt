use Rattle.std.proofs.Common.{◌≡◌, ◌||◌, drop}
use Rattle.std.specs.BTreeSet.{contains}
use Rattle.scope_match.specs.Items.{is_among}
use Rattle.scope_match.proofs.items.set_of.Given as goal

abbrev pub invariant-loop-item : goal.invariant-loop-item
invariant-loop-item g l = (q : g.row.T.Denot) → contains g.T.Ord.cmp l.set q || is_among g.T.Ord.cmp q (drop l.item-index l.items) ≡ is_among g.T.Ord.cmp q l.items
