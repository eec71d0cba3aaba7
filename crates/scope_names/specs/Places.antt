-- In which layers names are declared.
use Rattle.std.specs.Prelude.{ℕ, List, Bool}
use Rattle.std.specs.BTreeSet.{BTreeSet}
use Rattle.scope_rules.specs.declared.layer.Layer.{Layer}
use Rattle.scope_rules.specs.declared.layer.Part.{Part}
use Rattle.scope_rules.specs.declared.layer.Part.TheVariants.{OwnName as own_name, Parameters as parameters, Body as body}
use Rattle.scope_names.specs.declared.places.Places.{Places}
use Rattle.scope_names.specs.Keys.{has}
use denote.Ref.{Bor}

abbrev pub names_in : Places → Part → BTreeSet (ℕ × ℕ × Bor (List ℕ))
names_in p own_name = p.own_names
names_in p parameters = p.parameters
names_in p body = p.bodies

abbrev pub is_placed : Places → Layer → List ℕ → Bool
is_placed p l name = has (names_in p l.part) l.scope name
