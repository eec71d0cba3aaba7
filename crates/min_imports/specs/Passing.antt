-- Imports whose names an export lists, item by item: what an export lists, what an import binds, and what a plan says that becomes of the
-- items.
use Rattle.std.specs.Prelude.{◌≡◌, ◌<◌, ◌≤◌, ℕ, List, length, [], ◌∷◌, Bool, true, false, not, ◌&&◌, ◌||◌, Option, Some, None, is_some, get_or, if◌then◌else◌}
use Rattle.std.specs.Bool.{beq}
use Rattle.std.specs.BTreeMap as tree
use Rattle.std.specs.BTreeMap.{BTreeMap}
use Rattle.std.specs.BTreeSet.{BTreeSet, contains_by}
use Rattle.std.specs.Cmp.Lexicographic.{slice_cmp}
use Rattle.std.specs.List.{list_any}
use Rattle.std.specs.Ordering.{nat_cmp}
use Rattle.std.specs.Str.{bytes_eq}
use Rattle.js_syntax.specs.declared.node_kind.NodeKind.{NodeKind as Kind}
use Rattle.js_syntax.specs.declared.node_kind.NodeKind.TheVariants.{Specifiers as specifiers, BindingName as binding_name, ReferenceName as reference_name, ExportNamedDeclaration as export_named_declaration, ExportSpecifier as export_specifier, ImportNamespaceSpecifier as import_namespace_specifier, ImportDeclaration as import_declaration}
use Rattle.js_syntax.specs.declared.value.ModuleName.{ModuleName}
use Rattle.js_syntax.specs.Node.{Forest, Note, Tree, nothing, node, absent, joined, row}
use Rattle.scope_rules.specs.Table.{Scoping}
use Rattle.steps.specs.Allowed.MergedImports.{are_names}
use Rattle.steps.specs.Allowed.PassedExports.{lists, lists_each}
use Rattle.rules.specs.DeadCode.Rules.{Facts}
use Rattle.rules.specs.Imports.Passed.{has_reference, is_passed_alone, are_passed_alone, imported, bound_in, passed_on, passed_before, one_passes, all_passed, all_gone}
use Rattle.min_imports.specs.Merging.{is_import, planned, is_missing}
use Rattle.min_imports.specs.declared.passing.Passing.{Passing}
use Rattle.min_imports.specs.declared.passing.Within.{Within}
use denote.Ref.{Bor}

-- what is known of names, as far as the rule asks it
abbrev pub uses_of : Scoping → (exported : List Bool) → Facts
uses_of s exported = record { scoping = s; bound = []; exported = exported; is_script = false; keeps_unused = false; keeps_imports = false }

-- ---- what a specifier names

abbrev pub reference_text : Kind → Option (List ℕ)
reference_text (reference_name x) = Some x
reference_text k = None

abbrev pub binding_text : Kind → Option (List ℕ)
binding_text (binding_name x) = Some x
binding_text k = None

abbrev pub reference_id : Kind → Note → Option ℕ
reference_id (reference_name x) n = n.id
reference_id k n = None

abbrev pub binding_id : Kind → Note → Option ℕ
binding_id (binding_name x) n = n.id
binding_id k n = None

-- by what lies below it
abbrev pub listed_below : (below : Forest) → Option (List ℕ)
listed_below nothing = None
listed_below (absent rest) = None
listed_below (node k n below rest) = reference_text k

abbrev pub reference_below : (below : Forest) → Option ℕ
reference_below nothing = None
reference_below (absent rest) = None
reference_below (node k n below rest) = reference_id k n

abbrev pub bound_below : (below : Forest) → Option (List ℕ)
bound_below nothing = None
bound_below (absent rest) = None
bound_below (node k n below rest) = binding_text k

abbrev pub symbol_below : (below : Forest) → Option ℕ
symbol_below nothing = None
symbol_below (absent rest) = None
symbol_below (node k n below rest) = binding_id k n

abbrev pub listed_text : Option Tree → Option (List ℕ)
listed_text None = None
listed_text (Some x) = listed_below x.below

abbrev pub listed_reference : Option Tree → Option ℕ
listed_reference None = None
listed_reference (Some x) = reference_below x.below

abbrev pub bound_text : Option Tree → Option (List ℕ)
bound_text None = None
bound_text (Some x) = bound_below x.below

abbrev pub bound_symbol : Option Tree → Option ℕ
bound_symbol None = None
bound_symbol (Some x) = symbol_below x.below

-- ---- sets of what an export lists

abbrev pub has_text : BTreeSet (Bor (List ℕ)) → List ℕ → Bool
has_text texts x = contains_by (λ k. slice_cmp nat_cmp x k.now) texts

abbrev pub has_number : BTreeSet ℕ → ℕ → Bool
has_number numbers id = contains_by (nat_cmp id) numbers

pub record Told (texts : BTreeSet (Bor (List ℕ))) (references : BTreeSet ℕ) (listed : Forest) : Type 0 where
  pub has_texts : (x : List ℕ) → has_text texts x ≡ lists listed x
  pub has_references : (id : ℕ) → has_number references id ≡ has_reference listed id

abbrev pub text_is_listed : (listed : Forest) → Option (List ℕ) → Bool
text_is_listed listed None = false
text_is_listed listed (Some x) = lists listed x

-- one name of an import
abbrev pub name_passes : Facts → (listed : Forest) → Option Tree → Bool
name_passes f listed x = are_names (row (x ∷ [])) && (text_is_listed listed (bound_text x) && is_passed_alone f listed (bound_symbol x))

-- whether one of them fails
abbrev pub fails : Facts → (listed names : Forest) → Bool
fails f listed names = not (are_names names && (lists_each listed names && are_passed_alone f listed names))

-- ---- what names are bound to

abbrev pub imported_there : Option (Bor Kind) → Option ModuleName
imported_there None = None
imported_there (Some k) = imported k.now

abbrev pub found_in : BTreeMap (Bor (List ℕ)) (Bor Kind) → List ℕ → Option ModuleName
found_in bound x = imported_there (tree.get_by (λ k. slice_cmp nat_cmp x k.now) bound)

abbrev pub is_text : Option (List ℕ) → List ℕ → Bool
is_text None x = false
is_text (Some y) x = bytes_eq y x

-- where a name of a kind is bound, and of an item
abbrev pub or_found : Bool → Kind → Option ModuleName → Option ModuleName
or_found same k o = if same && is_some (imported k) then imported k else o

abbrev pub item_found : Option Tree → List ℕ → Option ModuleName → Option ModuleName
item_found None x o = o
item_found (Some t) x o = or_found (is_text (bound_below t.below) x) t.kind o

abbrev pub Bound : BTreeMap (Bor (List ℕ)) (Bor Kind) → (names : Forest) → Type 0
Bound bound names = (x : List ℕ) → found_in bound x ≡ bound_in names x

-- ---- a namespace

abbrev pub is_namespace_alone : (names : Forest) → Bool
is_namespace_alone (node import_namespace_specifier n below nothing) = true
is_namespace_alone names = false

abbrev pub name_alone : Kind → (below : Forest) → Option (List ℕ)
name_alone (reference_name x) nothing = Some x
name_alone k below = None

abbrev pub reference_alone : (below : Forest) → Option (List ℕ)
reference_alone (node k n below nothing) = name_alone k below
reference_alone below = None

abbrev pub exported_as : Kind → Option ModuleName
exported_as (export_specifier exported) = Some exported
exported_as k = None

abbrev pub exported_alone : Kind → (below : Forest) → Option ModuleName
exported_alone k below = if is_some (reference_alone below) then exported_as k else None

abbrev pub only_exported : (listed : Forest) → Option ModuleName
only_exported (node k n below nothing) = exported_alone k below
only_exported listed = None

-- ---- lists of names

abbrev pub is_list : Kind → Bool
is_list specifiers = true
is_list k = false

abbrev pub as_specifiers : Tree → Option Tree
as_specifiers x = if is_list x.kind then Some x else None

abbrev pub list_among : (below : Forest) → Option Tree
list_among (node k n names nothing) = if is_list k then Some (record { kind = k; note = n; below = names }) else None
list_among below = None

-- ---- an item of a list, where an export lists these

abbrev pub item_passed_on : Facts → (listed : Forest) → Option Tree → Option Tree
item_passed_on f listed None = None
item_passed_on f listed (Some x) = passed_on f listed x.kind x.note x.below

-- one that stays, as it is by then
abbrev pub passes_at : Facts → (listed : Forest) → (stays : Bool) → Option Tree → Option Tree
passes_at f listed false x = None
passes_at f listed true x = item_passed_on f listed x

-- what items became is no import
abbrev pub imports : Option Tree → Bool
imports None = false
imports (Some x) = is_import x.kind

abbrev pub NoImports : List (Option Tree) → Type 0
NoImports changed = (j : ℕ) → imports (get_or changed j None) ≡ false

-- none of the items that may do so stands outside a stretch, and none of them is missing
pub record Beside (f : Facts) (listed : Forest) (staying : List Bool) (items : List (Option Tree)) (from to : ℕ) : Type 0 where
  pub before : (j : ℕ) → j < from → passes_at f listed (get_or staying j false) (get_or items j None) ≡ None
  pub behind : (j : ℕ) → to < j → passes_at f listed (get_or staying j false) (get_or items j None) ≡ None
  pub there : (j : ℕ) → j < length items → is_missing (get_or items j None) ≡ false

-- whether one of the items before an export has its names then, and what those are
abbrev pub Passes : (passed : Option Forest) (before : Forest) (goes : Bool) (after : Forest) → Type 0
Passes passed before goes after = (passed ≡ if goes then Some after else None) × (goes ≡ false → after ≡ before)

-- ---- which imports bind a name

abbrev pub names_bind : (names : Forest) → List ℕ → Bool
names_bind nothing x = false
names_bind (absent rest) x = names_bind rest x
names_bind (node k n below rest) x = is_text (bound_below below) x || names_bind rest x

abbrev pub imports_names : Kind → (below : Forest) → Option Forest
imports_names (import_declaration source) (node specifiers m names nothing) = Some names
imports_names k below = None

abbrev pub or_nothing : Option Forest → Forest
or_nothing None = nothing
or_nothing (Some t) = t

abbrev pub names_in : Kind → (below : Forest) → Forest
names_in k below = or_nothing (imports_names k below)

abbrev pub item_binds : Option Tree → List ℕ → Bool
item_binds None x = false
item_binds (Some t) x = names_bind (names_in t.kind t.below) x

abbrev pub is_plain : Kind → Bool
is_plain (export_named_declaration None) = true
is_plain k = false

-- the specifiers of an export of names alone
abbrev pub exports_names : Kind → (below : Forest) → Option Forest
exports_names (export_named_declaration None) (absent (node specifiers m listed nothing)) = Some listed
exports_names k below = None

abbrev pub specifiers_of : (below : Forest) → Option Forest
specifiers_of (absent (node specifiers m listed nothing)) = Some listed
specifiers_of below = None

abbrev pub item_exports : Option Tree → Bool
item_exports None = false
item_exports (Some x) = is_some (exports_names x.kind x.below)

abbrev pub has_export : Forest → Bool
has_export nothing = false
has_export (absent rest) = has_export rest
has_export (node k n below rest) = is_some (exports_names k below) || has_export rest

-- where those stand that bind a name: from an index on, up to another
abbrev pub stretch : BTreeMap (Bor (List ℕ)) Within → List ℕ → Option Within
stretch binders x = tree.get_by (λ k. slice_cmp nat_cmp x k.now) binders

abbrev pub Holds : Option Within → ℕ → Type 0
Holds None j = ⊥
Holds (Some w) j = (w.from ≤ j) × (j ≤ w.to)

abbrev pub EndsBy : Option Within → ℕ → Type 0
EndsBy None n = Unit {0}
EndsBy (Some w) n = (w.from < n) × (w.to < n)

pub record Covers (binders : BTreeMap (Bor (List ℕ)) Within) (items : List (Option Tree)) : Type 0 where
  pub holds : (j : ℕ) (x : List ℕ) → item_binds (get_or items j None) x ≡ true → Holds (stretch binders x) j
  pub ends : (x : List ℕ) → EndsBy (stretch binders x) (length items)

abbrev pub first_text : (listed : Forest) → Option (List ℕ)
first_text nothing = None
first_text (absent rest) = None
first_text (node k n below rest) = listed_below below

abbrev pub stretch_for : BTreeMap (Bor (List ℕ)) Within → Option (List ℕ) → Option Within
stretch_for binders None = None
stretch_for binders (Some x) = stretch binders x

-- with one more index
abbrev pub widened : Option Within → ℕ → Within
widened None at = record { from = at; to = at }
widened (Some w) at = record { from = w.from; to = at }

-- where more names are bound at an index
abbrev pub widened_if : Bool → Option Within → ℕ → Option Within
widened_if b w at = if b then Some (widened w at) else w

abbrev pub Covered : (before after : BTreeMap (Bor (List ℕ)) Within) (names : Forest) (at : ℕ) → Type 0
Covered before after names at = (x : List ℕ) → stretch after x ≡ widened_if (names_bind names x) (stretch before x) at

-- ---- a plan for items

-- the items that don't stay
abbrev pub left_out : (staying : List Bool) (items : List (Option Tree)) → Forest
left_out [] items = nothing
left_out (b ∷ staying) [] = nothing
left_out (true ∷ staying) (x ∷ items) = left_out staying items
left_out (false ∷ staying) (x ∷ items) = joined (row (x ∷ [])) (left_out staying items)

-- behind others an item goes or not; where it goes, those are others then
abbrev pub ItemPasses : (f : Facts) (ended : Bool) (before : Forest) → Option Tree → Bool → (after : Forest) → Type 0
ItemPasses f false before (Some x) goes after = Passes (passed_before f before x.kind x.below) before goes after
ItemPasses f ended before item goes after = (goes ≡ false) × (after ≡ before)

-- for all items of a list
pub record Plan (f : Facts) (staying : List Bool) (changed : List (Option Tree)) (list : Forest) : Type 0 where
  pub items : List (Option Tree)
  pub are : row items ≡ list
  pub even : length changed ≡ length items
  pub long : length staying ≡ length items
  pub left : planned items staying changed ≡ all_passed f nothing list
  pub gone : left_out staying items ≡ all_gone f nothing list
  pub goes : list_any (λ b. beq b false) staying ≡ one_passes f nothing list

abbrev pub Planned : (f : Facts) (list : Forest) → Option Passing → Type 0
Planned f list None = one_passes f nothing list ≡ false
Planned f list (Some p) = Plan f p.staying.items p.changed.items list × (one_passes f nothing list ≡ true)
