use Rattle.std.proofs.Common.{◌≡◌, ◌≤◌, length, take}
use Rattle.serde_json.specs.Find.{get_member}
use Rattle.json_value.specs.View.{members_view}
use Rattle.json_value.proofs.value.find.Given as goal

-- the members behind have other keys
abbrev pub invariant-members : goal.invariant-members
invariant-members l = (get_member l.key (members_view l.members.items) ≡ get_member l.key (members_view (take l.left l.members.items))) × (l.left ≤ length l.members.items)

abbrev pub decreases-members : goal.decreases-members
decreases-members l = l.left
