use Rattle.std.proofs.Common.{◌∙◌, ap, map}
use Rattle.fresh_names.specs.Kept.{uid_with, uid_told}
use Rattle.fresh_names.specs.Uid.{with_uid}
use Rattle.fresh_names.proofs.Kept.{put_told}
use Rattle.fresh_names.proofs.uid.UidGenerator.put.Goals as goal

pub returns-clause-put : goal.returns-clause-put
returns-clause-put c =
    ap (map uid_told) c.in_ok-insert.ensures.entries ∙ put_told c.in_ok-base.base c.args.around c.self.inside.known.entries
    ∙ ap (λ b. with_uid (uid_with b c.args.around) (map uid_told c.self.inside.known.entries)) c.in_ok-base.ensures.ok
    ∙ ap (with_uid (uid_with c.args.base.now c.args.around)) c.self.view_is
