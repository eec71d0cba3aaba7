use Rattle.std.proofs.Common.{◌∙◌}
use Rattle.scope_match.proofs.Typed.{same_numbers_of}
use Rattle.scope_match.proofs.lists.same_references.Goals as goal

pub returns : goal.returns
returns c = same_numbers_of c.in_ok-same.same _ _ _ _ (c.deref.ensures.value ∙ c.in_ok-given.ensures) (c.deref-2.ensures.value ∙ c.in_ok-wanted.ensures) c.in_ok-same.ensures
