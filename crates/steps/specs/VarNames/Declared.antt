-- What a statement declares around it but by `var`, and what names declare.
use Rattle.std.specs.Prelude.{◌≡◌, List, [], ◌∷◌, ◌++◌, Bool, true, false, if◌then◌else◌}
use Rattle.js_syntax.specs.declared.node_kind.NodeKind.{NodeKind as Kind}
use Rattle.js_syntax.specs.declared.node_kind.NodeKind.TheVariants.{Function as function, Class as class, BindingName as binding_name}
use Rattle.js_syntax.specs.Node.{Forest, Note, Tree, nothing, node, absent}
use Rattle.js_syntax.specs.declared.scalar.SourceType.{SourceType}
use Rattle.form_rules.specs.Context.{Context}
use Rattle.kept_names.specs.Kept.{is_var}
use Rattle.scope_counts.specs.Counts.{Decl}

-- a tree without its `var` declarations, but for those in functions and classes
abbrev pub is_code : Kind → Bool
is_code (function how pure) = true
is_code (class how) = true
is_code k = false

abbrev pub without_vars : Forest → Forest
without_vars nothing = nothing
without_vars (absent r) = absent (without_vars r)
without_vars (node k n a r) = if is_var k then absent (without_vars r) else node k n (if is_code k then a else without_vars a) (without_vars r)

-- names, with the symbols that they are marked with
abbrev pub decl_of : Kind → Note → List Decl
decl_of (binding_name x) n = record { name = x; symbol = n.id } ∷ []
decl_of k n = []

abbrev pub decls : List Tree → List Decl
decls [] = []
decls (t ∷ ts) = decl_of t.kind t.note ++ decls ts

abbrev pub decls_if : Bool → List Tree → List Decl
decls_if v ts = if v then decls ts else []

-- a context of code that is as strict, of the same source
pub record AsStrict (s : Bool) (o : SourceType) (c : Context) : Type 0 where
  pub strict : c.strict ≡ s
  pub source : c.source ≡ o
