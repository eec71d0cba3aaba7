-- The members of an object in memory.
use Rattle.std.proofs.Common.{◌≡◌, suc, List, [], ◌∷◌, String, Global, length, refl, ap}
use Rattle.serde_json.specs.View.{members_view}
use Rattle.serde_json.specs.declared.value.Value.{Value}
use Rattle.run_script.specs.Script.{count}

pub counted : (ms : List (String Global × Value)) → count (members_view ms) ≡ length ms
counted [] = refl
counted (m ∷ ms) = ap suc (counted ms)
