-- What a sensible program is: its tree fits the table of node types and breaks no rule of form. Whatever else the laws on scopes,
-- changes, passes and steps ask of a tree follows from the two, and for steps from its being a core module; here it is by name.
use Rattle.std.specs.Prelude.{◌≡◌, Bool, true, false}
use Rattle.js_syntax.specs.Class.{root}
use Rattle.js_syntax.specs.declared.node_kind.NodeKind.{NodeKind as Kind}
use Rattle.js_syntax.specs.declared.scalar.SourceType.TheVariants as source_type
use Rattle.js_syntax.specs.Node.{Forest, Note, node}
use Rattle.json_shape.specs.Shape.{Fits}
use Rattle.form_rules.specs.Form.{IsWellFormed}
use Rattle.js_meaning_near.specs.Near.{fields, module_of}
use Rattle.js_meaning_near.specs.Fit.{whole}
use Rattle.js_meaning_near.specs.Avoid.{InPlace}
use Rattle.steps.specs.Steps.{all_core}
use Rattle.steps.specs.KeepForm.Layout.{IsLaidOut}
use Rattle.steps.specs.KeepRuns.Formed.{is_formed}
use Rattle.steps.specs.Naming.Placed.{has_plain_values, is_well_placed}
use Rattle.steps.specs.Allowed.Arranged.{is_arranged}
use Rattle.steps.specs.Fit.Enclosed.{is_enclosed}
use Rattle.steps.specs.Fit.Hoisted.{has_variables_in_place}
use Rattle.steps.specs.Fit.Catches.{has_blocks_in_catches}
use Rattle.steps.specs.Fit.Clear.{Clear}
use Rattle.steps.specs.Fit.Plain.{has_plain_statements}

-- a tree of a program
abbrev pub is_program : Forest → Bool
is_program (node (Kind.Program source) n below rest) = true
is_program t = false

-- a module whose nodes are all of the core of the language, for which runs are defined (js_syntax/specs/Facts)
abbrev pub is_core_module : Forest → Bool
is_core_module (node (Kind.Program source_type.Module) n below rest) = all_core (node (Kind.Program source_type.Module) n below rest)
is_core_module t = false

-- of programs of every source type
pub record IsSensible (t : Forest) : Type 0 where
  -- each node stands where the table of node types lets it stand
  pub fits : Fits root t
  -- and no rule of form is broken (early errors)
  pub well_formed : IsWellFormed t
  -- it is a program
  pub program : is_program t ≡ true
  -- lists of statements and statements of expressions stand where they may, and directives come before other statements
  pub laid_out : IsLaidOut t
  -- a statement of an expression has its expression and nothing else, a declaration its declarators, and a declarator its name with
  -- a value or none
  pub arranged : is_arranged t ≡ true
  -- what lies in a function or a class declares nothing around it, but for its own name, and nothing lies below a value
  pub enclosed : is_enclosed t ≡ true

-- of core modules
pub record IsSensibleModule (t : Forest) : Type 0 where
  pub sensible : IsSensible t
  -- all nodes are of the core of the language
  pub core : all_core t ≡ true
  -- it is a module with one list of statements, and nothing beside it
  pub note : Note
  pub list_note : Note
  pub items : Forest
  pub is : t ≡ module_of note list_note items
  -- lists, bodies and cases stand below nodes that may hold them, and no statement stands where names are declared
  pub formed : is_formed t ≡ true
  -- cases stand in switches
  pub in_place : InPlace whole fields t
  -- each declaration stands where one of its sort may
  pub placed : is_well_placed t ≡ true
  -- `var` is declared where statements stand
  pub variables : has_variables_in_place t ≡ true
  -- behind the parameter of a catch it is declared in blocks alone
  pub catches : has_blocks_in_catches t ≡ true
  -- no `var` passes through a scope whose `let` declares its name, what is imported is declared once, and no function declares
  -- `arguments`
  pub clear : Clear t
  -- the values of declarators declare no names, but in functions
  pub values : has_plain_values t ≡ true
  -- nor do statements of expressions
  pub statements : has_plain_statements t ≡ true
