-- The nodes of a row that break a rule by where they stand.
use Rattle.std.specs.Prelude.{ℕ, ◌+◌, List, [], ◌∷◌, Bool, false, not, ◌&&◌, ◌||◌, if◌then◌else◌}
use Rattle.js_syntax.specs.declared.node_kind.NodeKind.{NodeKind as Kind}
use Rattle.js_syntax.specs.Node.{Forest, nothing, node, absent}
use Rattle.js_tree.specs.Count.{node_count}
use Rattle.form_rules.specs.Rules.{is_default, is_constructor, is_declarator_wrong, is_rest, is_last}
use Rattle.form_declared.specs.declared.row.Part.{Part}
use Rattle.form_declared.specs.declared.row.Part.TheVariants as part

-- whether a node is such, by its kind, what lies below it, and whether it stands last
abbrev pub part_test : Part → Kind → (below : Forest) → (stands_last : Bool) → Bool
part_test part.Default k below stands_last = is_default k below
part_test part.Constructor k below stands_last = is_constructor k below
part_test part.EarlyRest k below stands_last = is_rest k && not stands_last
part_test (part.WrongDeclarator is_head how) k below stands_last = is_declarator_wrong is_head how k below

abbrev pub has_part : (Kind → Forest → Bool → Bool) → Forest → Bool
has_part test nothing = false
has_part test (absent rest) = has_part test rest
has_part test (node k n below rest) = test k below (is_last rest) || has_part test rest

abbrev pub places : (Kind → Forest → Bool → Bool) → (place : ℕ) → Forest → List ℕ
places test place nothing = []
places test place (absent rest) = places test place rest
places test place (node k n below rest) = if test k below (is_last rest) then place ∷ places test (place + node_count (node k n below nothing)) rest else places test (place + node_count (node k n below nothing)) rest
