use Rattle.std.proofs.Common.{◌∙◌, map, ap}
use Rattle.scope_match.specs.Matches.{use_by}
use Rattle.scope_match.specs.Keys.{use_key}
use Rattle.scope_match.proofs.Typed.{same_used_of}
use Rattle.scope_match.proofs.unresolved.same_uses.Goals as goal

pub returns : goal.returns
returns c =
    same_used_of c.in_ok-same.same _ _ _ _ (ap (map use_key) c.deref-2.ensures.value ∙ c.in_ok-given.ensures)
    (ap (map use_key) c.deref-3.ensures.value ∙ c.in_ok-marked.ensures ∙ ap (map (use_by c.args.marks.now)) (ap (map use_key) c.deref.ensures.value ∙ c.in_ok-wanted.ensures)) c.in_ok-same.ensures
