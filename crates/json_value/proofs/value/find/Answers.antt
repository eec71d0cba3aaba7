use Rattle.std.proofs.Common.{◌≡◌, ◌+◌, ◌-◌, [], ◌∷◌, ◌++◌, take, true, false, sym, ap, ◌∙◌, arith}
use Rattle.std.proofs.lemmas.List.{take_more}
use Rattle.std.specs.Str.{bytes_eq}
use Rattle.serde_json.specs.Find.{get_member}
use Rattle.json_value.specs.View.{members_view}
use Rattle.json_value.proofs.Views.{found_last, not_last}
use Rattle.json_value.proofs.value.find.Goals as goal

pub returns-then-eq : goal.returns-then-eq
returns-then-eq c =
    let ms = c.args.members.now.items in
    let i = c.members.left - 1 in
    let m = c.index-member.result.now in
    let next : c.members.left ≡ i + 1 = omega arith in
    let front : take c.members.left ms ≡ take i ms ++ m ∷ [] = ap (λ k. take k ms) next ∙ take_more ms i m (omega arith) ∙ ap (λ last. take i ms ++ last ∷ []) (sym c.index-member.ensures) in
    let same : bytes_eq m.0.now c.args.key.now ≡ true = grind arith in
    sym (c.members.invariant.0 ∙ ap (λ seen. get_member c.args.key.now (members_view seen)) front ∙ found_last c.args.key.now (take i ms) m same)

pub members-preserved : goal.members-preserved
members-preserved c =
    let ms = c.args.members.now.items in
    let i = c.members.left - 1 in
    let m = c.index-member.result.now in
    let next : c.members.left ≡ i + 1 = omega arith in
    let front : take c.members.left ms ≡ take i ms ++ m ∷ [] = ap (λ k. take k ms) next ∙ take_more ms i m (omega arith) ∙ ap (λ last. take i ms ++ last ∷ []) (sym c.index-member.ensures) in
    let other : bytes_eq m.0.now c.args.key.now ≡ false = grind arith in
    (c.members.invariant.0 ∙ ap (λ seen. get_member c.args.key.now (members_view seen)) front ∙ not_last c.args.key.now (take i ms) m other, omega arith)
