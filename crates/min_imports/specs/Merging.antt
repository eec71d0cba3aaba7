-- Imports that come together, item by item of a list: what is asked of an import, and what a plan says that becomes of the items.
use Rattle.std.specs.Prelude.{◌≡◌, ℕ, suc, List, length, [], ◌∷◌, Bool, true, false, ◌&&◌, ◌||◌, Option, Some, None, codes, if◌then◌else◌}
use Rattle.std.specs.Bool.{beq}
use Rattle.std.specs.BTreeSet.{BTreeSet, contains_by}
use Rattle.std.specs.Cmp.Lexicographic.{slice_cmp}
use Rattle.std.specs.List.{items_where_true, list_any}
use Rattle.std.specs.Ordering.{nat_cmp}
use Rattle.std.specs.Str.{bytes_eq}
use Rattle.js_syntax.specs.declared.node_kind.NodeKind.{NodeKind as Kind}
use Rattle.js_syntax.specs.declared.node_kind.NodeKind.TheVariants.{ImportDeclaration as import_declaration, Specifiers as specifiers}
use Rattle.js_syntax.specs.Node.{Forest, Tree, nothing, node, absent, joined, forest_of, row}
use Rattle.steps.specs.Allowed.MergedImports.{is_default, is_namespace, is_named, all_named, first_default, but_first_default, as_named, may_merge}
use Rattle.min_imports.specs.declared.names.Sort.{Sort}
use Rattle.min_imports.specs.declared.names.Sort.TheVariants as sort
use Rattle.js_syntax.specs.declared.value.ModuleName.TheVariants.{Name as plain_name}
use Rattle.rules.specs.Imports.Merged as rules
use Rattle.rules.specs.Imports.Merged.{takes, with_names, together, one_goes}
use denote.Ref.{Bor}

-- ---- an import

abbrev pub is_import : Kind → Bool
is_import (import_declaration source) = true
is_import k = false

abbrev pub has_import : Forest → Bool
has_import nothing = false
has_import (absent rest) = has_import rest
has_import (node k n below rest) = is_import k || has_import rest

abbrev pub imported_from : Kind → Option (List ℕ)
imported_from (import_declaration source) = Some source
imported_from k = None

abbrev pub names_of : (below : Forest) → Option Forest
names_of (node specifiers m names nothing) = Some names
names_of below = None

-- whether its names may be joined by others
abbrev pub list_takes : (later below : Forest) → Bool
list_takes later (node specifiers m names nothing) = may_merge names later
list_takes later below = false

-- whether it asks for a module, with a list of names
abbrev pub has_names : (below : Forest) → Bool
has_names (node specifiers m names nothing) = true
has_names below = false

abbrev pub asks : (source : List ℕ) → Kind → (below : Forest) → Bool
asks source (import_declaration other) below = bytes_eq other source && has_names below
asks source k below = false

abbrev pub one_asks : (source : List ℕ) → Forest → Bool
one_asks source nothing = false
one_asks source (absent rest) = one_asks source rest
one_asks source (node k n below rest) = asks source k below || one_asks source rest

-- what a set of modules hasn't, no import asks for
abbrev pub Known : BTreeSet (Bor (List ℕ)) → (before : Forest) → Type 0
Known sources before = (source : List ℕ) → contains_by (λ k. slice_cmp nat_cmp source k.now) sources ≡ false → one_asks source before ≡ false

-- ---- its names

abbrev pub is_of : Sort → Kind → Bool
is_of sort.Namespace k = is_namespace k
is_of sort.Named k = is_named k
is_of sort.Default k = is_default k

abbrev pub item_is_of : Sort → Option Tree → Bool
item_is_of s None = false
item_is_of s (Some x) = is_of s x.kind

-- `default as a` of `a`
abbrev pub default_named : Kind
default_named = Kind.ImportSpecifier (plain_name (codes "default"))

-- names with those of a later list, where they have a default or not
abbrev pub joined_by : (has_default : Bool) → (names later : Forest) → Forest
joined_by true names later = joined names (all_named later)
joined_by false names later = joined (first_default later) (joined names (all_named (but_first_default later)))

abbrev pub named_one : Option Tree → Option Tree
named_one None = None
named_one (Some x) = Some (record { kind = as_named x.kind; note = x.note; below = x.below })

-- ---- a plan for items: which stay, and what those become that change

abbrev pub or_changed : (item changed : Option Tree) → Option Tree
or_changed item None = item
or_changed item (Some x) = Some x

-- as far as the plan goes
abbrev pub overlaid : (items changed : List (Option Tree)) → List (Option Tree)
overlaid [] changed = []
overlaid (x ∷ items) [] = []
overlaid (x ∷ items) (c ∷ changed) = or_changed x c ∷ overlaid items changed

abbrev pub planned : (items : List (Option Tree)) (staying : List Bool) (changed : List (Option Tree)) → Forest
planned items staying changed = row (items_where_true staying (overlaid items changed))

abbrev pub shifted : Option ℕ → Option ℕ
shifted None = None
shifted (Some at) = Some (suc at)

-- the index of the first that takes the names of a later import
abbrev pub receiver : (source : List ℕ) (later : Forest) (staying : List Bool) (items : List (Option Tree)) → Option ℕ
receiver source later [] items = None
receiver source later (b ∷ staying) [] = None
receiver source later (false ∷ staying) (x ∷ items) = shifted (receiver source later staying items)
receiver source later (true ∷ staying) (None ∷ items) = None
receiver source later (true ∷ staying) (Some x ∷ items) = if takes source later x.kind x.below then Some 0 else shifted (receiver source later staying items)

-- the search ends at an item that stays and takes them, or is missing
abbrev pub ends : (source : List ℕ) (later : Forest) (staying : Bool) → Option Tree → Bool
ends source later false x = false
ends source later true None = true
ends source later true (Some x) = takes source later x.kind x.below

abbrev pub there : (at : ℕ) → Option Tree → Option ℕ
there at None = None
there at (Some x) = Some at

abbrev pub with_more : (later : Forest) → Option Tree → Option Tree
with_more later None = None
with_more later (Some x) = Some (record { kind = x.kind; note = x.note; below = with_names later x.below })

-- items behind others, where a missing one ends what is done
abbrev pub go_on : (ended : Bool) → (before items : Forest) → Forest
go_on true before items = joined before items
go_on false before items = together before items

abbrev pub more_go : (ended : Bool) → (before items : Forest) → Bool
more_go true before items = false
more_go false before items = one_goes before items

-- ---- what is done with a plan

-- behind others an item goes or not; where it goes, those have its names
abbrev pub TreeGoes : (sources : BTreeSet (Bor (List ℕ))) (before : Forest) (x : Tree) → Bool → (behind : BTreeSet (Bor (List ℕ))) (after : Forest) → Type 0
TreeGoes sources before x goes behind after =
    Known sources before → (goes ≡ rules.goes before x.kind x.below) × (after ≡ if goes then rules.given before x.kind x.below else before) × Known behind (if goes then after else joined before (forest_of x))

abbrev pub is_missing : Option Tree → Bool
is_missing None = true
is_missing (Some x) = false

abbrev pub ItemGoes : (ended : Bool) (sources : BTreeSet (Bor (List ℕ))) (before : Forest) → Option Tree → Bool → (behind : BTreeSet (Bor (List ℕ))) (after : Forest) → Type 0
ItemGoes false sources before (Some x) goes behind after = TreeGoes sources before x goes behind after
ItemGoes ended sources before item goes behind after = (goes ≡ false) × (after ≡ before)

-- a plan for all items of a list
pub record Plan (staying : List Bool) (changed : List (Option Tree)) (list : Forest) : Type 0 where
  pub items : List (Option Tree)
  pub are : row items ≡ list
  pub even : length changed ≡ length items
  pub long : length staying ≡ length items
  pub left : planned items staying changed ≡ together nothing list
  pub goes : list_any (λ b. beq b false) staying ≡ one_goes nothing list
