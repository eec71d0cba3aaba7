use Rattle.std.proofs.Common.{◌∙◌, map, ap}
use Rattle.scope_match.specs.Keys.{named_key}
use Rattle.scope_match.proofs.Typed.{same_named_of}
use Rattle.scope_match.proofs.lists.same_names.Goals as goal

pub returns : goal.returns
returns c = same_named_of c.in_ok-same.same _ _ _ _ (ap (map named_key) c.deref.ensures.value ∙ c.in_ok-given.ensures) (ap (map named_key) c.deref-2.ensures.value ∙ c.in_ok-wanted.ensures) c.in_ok-same.ensures
