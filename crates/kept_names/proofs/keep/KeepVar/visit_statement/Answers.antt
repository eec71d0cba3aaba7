use Rattle.std.proofs.Common.{◌≡◌, ◌∙◌, ◌++◌, map, ap}
use Rattle.std.proofs.lemmas.Result.{IfOk-weaker}
use Rattle.kept_names.specs.Kept.{declarator_of}
use Rattle.kept_names.proofs.Maps.{map_both}
use Rattle.kept_names.proofs.keep.KeepVar.visit_statement.Goals as goal

pub returns : goal.returns
returns c = record {
  kept = IfOk-weaker c.keep_all.result _ _
      (λ u h. h ∙ ap (λ xs. c.args.self.now.declarators.items ++ xs) (map_both (λ n. n.now) declarator_of c.as_slice.result.now ∙ ap (map declarator_of) (ap (map (λ n. n.now)) c.as_slice.ensures.value ∙ c.in_ok-names.ensures.names)))
      c.keep_all.ensures;
}
