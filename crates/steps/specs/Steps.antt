-- The steps of a dead code remover: what may become of a tree, one change at one place.
use Rattle.std.specs.Prelude.{◌≡◌, List, [], ◌++◌, Bool, true, false, ◌&&◌, ◌||◌, if◌then◌else◌}
use Rattle.js_syntax.specs.declared.node_kind.NodeKind.{NodeKind as Kind}
use Rattle.js_syntax.specs.Node.{Forest, nothing, node, absent, Note, alone}
use Rattle.js_syntax.specs.Facts.{is_core}
use Rattle.js_syntax.specs.declared.kind.VariableKind.{VariableKind}
use Rattle.js_syntax.specs.declared.kind.VariableKind.TheVariants as variable
use Rattle.js_syntax.specs.declared.kind.FunctionKind.TheVariants as function_kind
use Rattle.js_meaning.specs.Value.{Text}
use Rattle.js_meaning.specs.Scope.{bound_names, var_names}
use Rattle.steps.specs.Names.{is_among, names_declared, refers, may_act}

-- The row in which a node stands: a list of statements; what lies below a variable declaration that is an item of such a
-- list, or the declarators of one, if there are several; any other.
pub data Row : Type 0 where
  items : Row
  of_item declarators : VariableKind → Row
  other : Row

abbrev pub is_single : Forest → Bool
is_single (node k n a nothing) = true
is_single t = false

abbrev pub row_below : Row → Kind → (below : Forest) → Row
row_below row Kind.Statements a = items
row_below items (Kind.VariableDeclaration how) a = of_item how
row_below (of_item how) Kind.Declarators a = if is_single a then other else declarators how
row_below row k a = other

-- What stands around a place.
pub record Around : Type 0 where
  -- the names that all scopes around it declare
  pub names : List Text
  -- those that scopes inside of the innermost function, or of the module, declare
  pub inner : List Text
  -- those that `var` declares through the innermost scope, for a function or module further out
  pub passing : List Text
  -- what lies in the innermost scope, and in the innermost function or the module
  pub block : Forest
  pub variables : Forest
  pub row : Row

abbrev pub in_code : Around → Kind → (below : Forest) → Around
in_code w k a = record { names = names_declared k a ++ w.names; inner = []; passing = []; block = a; variables = a; row = row_below w.row k a }

abbrev pub in_block : Around → Kind → (below : Forest) → Around
in_block w k a = record { names = names_declared k a ++ w.names; inner = names_declared k a ++ w.inner; passing = var_names a; block = a; variables = w.variables; row = row_below w.row k a }

abbrev pub in_row : Around → Kind → (below : Forest) → Around
in_row w k a = record { names = w.names; inner = w.inner; passing = w.passing; block = w.block; variables = w.variables; row = row_below w.row k a }

-- around what lies below a node
abbrev pub entered : Around → Kind → (below : Forest) → Around
entered w (Kind.Program source) a = in_code w (Kind.Program source) a
entered w (Kind.Function f pure) a = in_code w (Kind.Function f pure) a
entered w Kind.BlockStatement a = in_block w Kind.BlockStatement a
entered w Kind.Cases a = in_block w Kind.Cases a
entered w Kind.ForStatement a = in_block w Kind.ForStatement a
entered w Kind.CatchClause a = in_block w Kind.CatchClause a
entered w k a = in_row w k a

abbrev pub outermost : Around
outermost = record { names = []; inner = []; passing = []; block = nothing; variables = nothing; row = other }

-- Whether something uses a name that is declared here in this way. A declarator of `var` writes to the innermost scope
-- that declares its name, wherever the name itself lies. Functions are declared as by `let`.
abbrev pub is_used : Around → VariableKind → Text → Bool
is_used w variable.Var x = refers x w.variables || is_among w.inner x
is_used w how x = refers x w.block || is_among w.passing x

-- a silent expression that declares nothing, as none does
pub record Idle (names : List Text) (k : Kind) (n : Note) (a : Forest) : Type 0 where
  pub silent : may_act names (alone k n a) ≡ false
  pub declares : bound_names (alone k n a) ≡ []

-- what stands behind the name in a declarator: no initialiser, or a silent one
pub data Initialiser (names : List Text) : Forest → Type 0 where
  no_initialiser : Initialiser names (absent nothing)
  silent_initialiser : {k : Kind} {n : Note} {a : Forest} → Idle names k n a → Initialiser names (alone k n a)

-- What may leave the row in which it stands, by what stands around that.
pub data Goes (w : Around) : Kind → (below : Forest) → Type 0 where
  -- an empty statement, out of a list of statements
  empty_statement : w.row ≡ items → Goes w Kind.EmptyStatement nothing
  -- a function declaration that nothing refers to, likewise
  unused_function : {pure : Bool} {x : Text} {m : Note} {a : Forest} → w.row ≡ items → is_used w variable.Let x ≡ false
      → Goes w (Kind.Function function_kind.Declaration pure) (node (Kind.BindingName x) m nothing a)
  -- a declarator of a name that nothing refers to, with a silent initialiser or none, out of the declarators of an item
  unused_declarator : {how : VariableKind} {x : Text} {m : Note} {v : Forest} → w.row ≡ declarators how → is_used w how x ≡ false → Initialiser w.names v
      → Goes w Kind.VariableDeclarator (node (Kind.BindingName x) m nothing v)
  -- the item, where it is the only one
  unused_declaration : {how : VariableKind} {x : Text} {m l j : Note} {v : Forest} → w.row ≡ items → is_used w how x ≡ false → Initialiser w.names v
      → Goes w (Kind.VariableDeclaration how) (alone Kind.Declarators m (alone Kind.VariableDeclarator l (node (Kind.BindingName x) j nothing v)))

-- what binds a name of an import (16.2.2)
abbrev pub binds_import : Kind → Bool
binds_import (Kind.ImportSpecifier name) = true
binds_import Kind.ImportDefaultSpecifier = true
binds_import Kind.ImportNamespaceSpecifier = true
binds_import k = false

-- What lies below an import, and the same without one of what binds this name.
pub data Unbinds (x : Text) : (t u : Forest) → Type 0 where
  unbinds_here : {k : Kind} {n m : Note} {r : Forest} → binds_import k ≡ true → Unbinds x (node k n (node (Kind.BindingName x) m nothing nothing) r) r
  unbinds_below : {n : Note} {a b r : Forest} → Unbinds x a b → Unbinds x (node Kind.Specifiers n a r) (node Kind.Specifiers n b r)
  unbinds_behind : {k : Kind} {n : Note} {a r s : Forest} → Unbinds x r s → Unbinds x (node k n a r) (node k n a s)
  unbinds_behind_absent : {r s : Forest} → Unbinds x r s → Unbinds x (absent r) (absent s)

-- One step, by what stands around the row.
pub data Step : Around → (t u : Forest) → Type 0 where
  leaves : {w : Around} {k : Kind} {n : Note} {a r : Forest} → Goes w k a → Step w (node k n a r) r
  -- a statement of a silent expression becomes empty, wherever it stands
  empties : {w : Around} {k : Kind} {n m l : Note} {a r : Forest} → Idle w.names k l a → Step w (node Kind.ExpressionStatement n (alone k l a) r) (node Kind.EmptyStatement m nothing r)
  -- a name that nothing refers to leaves an import, which stays
  unbinds : {w : Around} {source x : Text} {n : Note} {a b r : Forest} → w.row ≡ items → is_used w variable.Let x ≡ false → Unbinds x a b → Step w (node (Kind.ImportDeclaration source) n a r) (node (Kind.ImportDeclaration source) n b r)
  -- an item that declares one name, to which nothing refers, becomes a statement of its value
  states : {w : Around} {how : VariableKind} {x : Text} {k : Kind} {n m l j i o : Note} {a r : Forest} → w.row ≡ items → is_used w how x ≡ false → bound_names (alone k i a) ≡ []
      → Step w (node (Kind.VariableDeclaration how) n (alone Kind.Declarators m (alone Kind.VariableDeclarator l (node (Kind.BindingName x) j nothing (alone k i a)))) r) (node Kind.ExpressionStatement o (alone k i a) r)
  -- a step further in, or further on
  inside : {w : Around} {k : Kind} {n : Note} {a b r : Forest} → Step (entered w k a) a b → Step w (node k n a r) (node k n b r)
  behind_node : {w : Around} {k : Kind} {n : Note} {a r s : Forest} → Step w r s → Step w (node k n a r) (node k n a s)
  behind_absent : {w : Around} {r s : Forest} → Step w r s → Step w (absent r) (absent s)

-- whether all of a tree's nodes are core
abbrev pub all_core : Forest → Bool
all_core nothing = true
all_core (absent r) = all_core r
all_core (node k n a r) = is_core k && (all_core a && all_core r)
