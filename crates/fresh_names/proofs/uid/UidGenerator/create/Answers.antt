use Rattle.std.proofs.Common.{◌≡◌, ◌∙◌, ◌∷◌, ap, sym, subst}
use Rattle.std.specs.List.{Contains}
use Rattle.fresh_names.specs.Kept.{uid_with}
use Rattle.fresh_names.specs.Uid.{written, known_at, with_uid, next_after, fresh_uid, fresh_name, with_fresh}
use Rattle.fresh_names.specs.Fresh.{Covers}
use Rattle.fresh_names.proofs.Fresh.{fresh, answered}
use Rattle.fresh_names.proofs.uid.UidGenerator.create.Goals as goal

pub returns-clause-fresh : goal.returns-clause-fresh
returns-clause-fresh c =
    let base = c.base-base.result.now in
    let next : uid_with base c.in_ok-next.next ≡ fresh_uid c.args.name.now c.args.self.now =
    c.in_ok-next.ensures base ∙ ap (next_after base) c.known_at.ensures ∙ ap (λ b. next_after b (known_at c.args.self.now b)) c.base-base.ensures in
    let name : c.new.result ≡ fresh_name c.args.name.now c.args.self.now = c.new.ensures ∙ c.in_ok-fresh.ensures ∙ ap written next in
    λ taken is among. fresh c.args.self.now taken c.args.name.now is (subst (Contains taken) name among)

pub returns-clause-covers : goal.returns-clause-covers
returns-clause-covers c =
    let base = c.base-base.result.now in
    let next : uid_with base c.in_ok-next.next ≡ fresh_uid c.args.name.now c.args.self.now =
    c.in_ok-next.ensures base ∙ ap (next_after base) c.known_at.ensures ∙ ap (λ b. next_after b (known_at c.args.self.now b)) c.base-base.ensures in
    let name : c.new.result ≡ fresh_name c.args.name.now c.args.self.now = c.new.ensures ∙ c.in_ok-fresh.ensures ∙ ap written next in
    let known : c.put.new.self ≡ with_fresh c.args.name.now c.args.self.now = c.in_ok-put.ensures.put ∙ ap (λ u. with_uid u c.args.self.now) next in
    λ taken is. subst (λ k. Covers k (c.new.result ∷ taken)) (sym known)
    (subst (λ n. Covers (with_fresh c.args.name.now c.args.self.now) (n ∷ taken)) (sym name) (answered c.args.self.now taken c.args.name.now is))
