use Rattle.std.proofs.Common.{◌≡◌, false, drop}
use Rattle.std.specs.BTreeSet.{contains}
use Rattle.scope_match.specs.Items.{each_new}
use Rattle.scope_match.proofs.items.are_distinct.Given as goal

abbrev pub invariant-loop-item : goal.invariant-loop-item
invariant-loop-item g l = each_new g.T.Ord.cmp (λ q. contains g.T.Ord.cmp l.set q) (drop l.item-index l.items) ≡ each_new g.T.Ord.cmp (λ q. false) l.items
