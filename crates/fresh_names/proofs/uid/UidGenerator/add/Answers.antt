use Rattle.std.proofs.Common.{◌≡◌, ◌∙◌, ◌∷◌, Some, option_map, ap, sym, subst}
use Rattle.fresh_names.specs.Kept.{uid_with}
use Rattle.fresh_names.specs.Uid.{base_of, raised_to, with_name}
use Rattle.fresh_names.specs.Fresh.{Covers}
use Rattle.fresh_names.proofs.Fresh.{told}
use Rattle.fresh_names.proofs.uid.UidGenerator.add.Goals as goal

pub returns-in_ok-raise-in-Some-clause-covers : goal.returns-in_ok-raise-in-Some-clause-covers
returns-in_ok-raise-in-Some-clause-covers c =
    let before = c.args.self.now in
    let known : c.raise.new.self ≡ with_name c.args.name.now before =
    c.in_ok-raise-in-Some.ensures.raised ∙ ap (λ b. raised_to (Some (uid_with b c.in-Some.around)) before) c.base.ensures
    ∙ ap (λ o. raised_to o before) (ap (option_map (uid_with (base_of c.args.name.now))) (sym c.in-Some.is) ∙ c.read.ensures) in
    λ taken is. subst (λ k. Covers k (c.args.name.now ∷ taken)) (sym known) (told before taken c.args.name.now is)
