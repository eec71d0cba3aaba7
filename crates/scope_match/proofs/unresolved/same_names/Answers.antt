use Rattle.std.proofs.Common.{◌∙◌, map, ap}
use Rattle.scope_match.proofs.Typed.{same_texts_of}
use Rattle.scope_match.proofs.unresolved.same_names.Goals as goal

pub returns : goal.returns
returns c =
    same_texts_of c.in_ok-same.same _ _ _ _ (ap (map (λ x. x.now)) c.deref.ensures.value ∙ c.in_ok-given.ensures) (ap (map (λ x. x.now)) c.deref-2.ensures.value ∙ c.in_ok-wanted.ensures) c.in_ok-same.ensures
