-- Where the rules take nothing out of a program and change nothing of it, and what is known of it is known exactly.
use Rattle.std.specs.Prelude.{◌≡◌, ℕ, suc, Bool, true, false, Some, None}
use Rattle.js_syntax.specs.declared.node_kind.NodeKind.TheVariants.{Statements as statements}
use Rattle.js_syntax.specs.Node.{Forest, Note, Tree, nothing, node, absent}
use Rattle.js_effects.specs.Silence.{is_marked}
use Rattle.min_context.specs.Above.{above_of}
use Rattle.min_context.specs.Place.{Place, Spot, place_of, next_of, below, place_at, goes_on}
use Rattle.scope_rules.specs.ScopeFlags as scope_flag
use Rattle.scope_rules.specs.Site.{BindingSite}
use Rattle.scope_rules.specs.Table.{Scoping}
use Rattle.scope_laws.specs.Exact.{Among}
use Rattle.scope_counts.specs.Edits.{Around, plug}
use Rattle.steps.specs.Allowed.Exposure.{is_script}
use Rattle.steps.specs.Naming.Standing.{exported_declarations}
use Rattle.steps.specs.Marked.Flags.{scope_has, is_sloppy_block, Stand, stand_inside, stands_of}
use Rattle.rules.specs.DeadCode.Rules.{Facts, where_of, has_dead, emptied, stated}

-- ---- what is known is so

-- The numbers and flags of the scopes at a place say that names are exposed only where they are.
pub record TellsOnly (s : Scoping) (script : Bool) (p : Stand) : Type 0 where
  pub evaluates : (n : ℕ) → p.scope ≡ Some n → scope_has s n scope_flag.direct_eval ≡ true → p.exposure.evaluates ≡ true
  pub sloppy : (n : ℕ) → p.scope ≡ Some n → is_sloppy_block s n ≡ true → p.exposure.in_sloppy_block ≡ true
  pub names : script ≡ true → p.scope ≡ Some 0 → p.exposure.names_shared ≡ true
  pub variable_names : script ≡ true → p.variables ≡ Some 0 → p.exposure.variables_shared ≡ true

-- at each node of a row, and at each below them
abbrev pub ToldOnly : Scoping → (script : Bool) → (stands : ℕ → Stand) → (at : ℕ) → Forest → Type 0
ToldOnly s script ps at nothing = Unit {0}
ToldOnly s script ps at (absent rest) = ToldOnly s script ps (suc at) rest
ToldOnly s script ps at (node k n below rest) = TellsOnly s script (ps at) × ToldOnly s script (stand_inside (ps at) k n below) 0 below × ToldOnly s script ps (suc at) rest

-- a declaration of the program's own scope is exported that is marked with the symbol
pub record IsExported (t : Forest) (symbol : ℕ) : Type 0 where
  pub declaration : BindingSite
  pub stands : Among declaration (exported_declarations t)
  pub is_outermost : declaration.layer.scope ≡ 0
  pub has_mark : declaration.id ≡ Some symbol

pub record Exactly (f : Facts) (t : Forest) : Type 0 where
  pub flags : ToldOnly f.scoping (is_script t) (stands_of t) 0 t
  pub exported : (symbol : ℕ) → is_marked f.exported (Some symbol) ≡ true → IsExported t symbol

-- ---- the rules take nothing out

pub record IsQuiet (f : Facts) (t : Forest) : Type 0 where
  pub lists : (a : Around) (n : Note) (row rest : Forest) → t ≡ plug a (node statements n row rest) → has_dead f (where_of (place_at a (goes_on rest))) row ≡ false
  pub statements_stay : (a : Around) (x : Tree) (rest : Forest) → t ≡ plug a (node x.kind x.note x.below rest) → emptied f (place_at a (goes_on rest)) x ≡ None
  pub declarations_stay : (a : Around) (x : Tree) (rest : Forest) → t ≡ plug a (node x.kind x.note x.below rest) → stated f (place_at a (goes_on rest)) x ≡ None

-- ---- node by node, as a walk goes

-- of each node of a row, by its place
abbrev pub EachNode : (Place → Tree → Type 0) → Spot → Forest → Type 0
EachNode Q s nothing = Unit {0}
EachNode Q s (absent rest) = EachNode Q (next_of s false) rest
EachNode Q s (node k n inner rest) = Q (place_of s (goes_on rest)) (record { kind = k; note = n; below = inner }) × EachNode Q (below (place_of s (goes_on rest)) (above_of k n)) inner × EachNode Q (next_of s true) rest

pub record IsQuietAt (f : Facts) (p : Place) (x : Tree) : Type 0 where
  pub list : x.kind ≡ statements → has_dead f (where_of p) x.below ≡ false
  pub statement : emptied f p x ≡ None
  pub declaration : stated f p x ≡ None
