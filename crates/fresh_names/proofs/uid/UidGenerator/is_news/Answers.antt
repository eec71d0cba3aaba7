use Rattle.std.proofs.Common.{◌∙◌, ap, sym, option_map}
use Rattle.fresh_names.specs.Kept.{uid_with}
use Rattle.fresh_names.specs.Uid.{is_later_than}
use Rattle.fresh_names.proofs.uid.UidGenerator.is_news.Goals as goal

pub returns-in-Some : goal.returns-in-Some
returns-in-Some c =
    c.is_later.ensures c.args.base.now
    ∙ ap (λ known. is_later_than known (uid_with c.args.base.now c.args.around)) (ap (option_map (uid_with c.args.base.now)) (sym c.in-Some.is) ∙ c.known_at.ensures)
