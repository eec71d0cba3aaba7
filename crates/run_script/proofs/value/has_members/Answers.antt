use Rattle.serde_json.proofs.Views.{view-Object}
use Rattle.run_script.proofs.Members.{counted}
use Rattle.run_script.proofs.value.has_members.Goals as goal

pub returns-in-Object : goal.returns-in-Object
returns-in-Object c = rw (c.in-Object.is, view-Object, counted, c.len.ensures.len)
