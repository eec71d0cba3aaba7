use Rattle.std.proofs.Common.{◌∙◌, ap, option_map}
use Rattle.fresh_names.specs.Kept.{uid_with}
use Rattle.fresh_names.specs.Uid.{known_at}
use Rattle.fresh_names.proofs.Kept.{known_told}
use Rattle.fresh_names.proofs.uid.UidGenerator.known_at.Goals as goal

pub returns : goal.returns
returns c =
    ap (option_map (uid_with c.args.base.now)) (c.copied.ensures ∙ c.get.ensures.value) ∙ known_told c.args.base.now c.self.inside.known.entries
    ∙ ap (λ known. known_at known c.args.base.now) c.self.view_is
