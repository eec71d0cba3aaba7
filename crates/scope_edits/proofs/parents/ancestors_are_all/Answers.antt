use Rattle.std.proofs.Common.{Some, length}
use Rattle.scope_edits.proofs.Chains.{all_end, ends_on_top, each_once}
use Rattle.scope_edits.proofs.parents.ancestors_are_all.Goals as goal

pub returns : goal.returns
returns c = record {
  on_top = λ s n h low. ends_on_top s (length s.scopes) n (all_end s h n low);
  once = λ s n m h. each_once s h.end (length s.scopes) (Some n) m;
}
