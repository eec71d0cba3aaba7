use Rattle.std.proofs.Common.{◌∷◌, ◌∙◌, ap, sym}
use Rattle.run_value.specs.View.{value_of}
use Rattle.run_world.specs.World.{at, values_of}
use Rattle.run_world.specs.Going.{if_all}
use Rattle.run_world.proofs.Several.{first_item, resolves_more}
use Rattle.run_world.proofs.world.World.+resolve_all.Goals as goal

pub returns-in-Some-others : goal.returns-in-Some-others
returns-in-Some-others t c k =
    resolves_more c.args.self.now c.args.givens.now c.first-item.result c.in_ok-first-in-len1-up.first c.in-Some.first c.in_ok-others-in-Some.others (first_item _ _ c.in-len1-up.len_at_least c.first-item.is) c.in_ok-first-in-len1-up.ensures c.in-Some.is c.in_ok-others-in-Some.ensures k
    ∙ ap (λ o. at c.args.self.now (if_all o (λ vs. k (value_of c.in-Some.first ∷ vs)))) c.in-Some-others.is
    ∙ ap (λ vs. at c.args.self.now (k (values_of vs))) (sym c.in_ok-all-in-Some-others.ensures)

pub returns-in-Some : goal.returns-in-Some
returns-in-Some t c k =
    resolves_more c.args.self.now c.args.givens.now c.first-item.result c.in_ok-first-in-len1-up.first c.in-Some.first c.in_ok-others-in-Some.others (first_item _ _ c.in-len1-up.len_at_least c.first-item.is) c.in_ok-first-in-len1-up.ensures c.in-Some.is c.in_ok-others-in-Some.ensures k
    ∙ ap (λ o. at c.args.self.now (if_all o (λ vs. k (value_of c.in-Some.first ∷ vs)))) c.in-None-others.is
