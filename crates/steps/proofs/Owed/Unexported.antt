-- What leaves by a change declares no name that is exported.
use Rattle.std.proofs.Common.{◌≡◌, ℕ, ◌+◌, Bool, true, List, [], ◌++◌, inl, refl, ap}
use Rattle.js_syntax.specs.declared.node_kind.NodeKind.TheVariants.{BindingName as binding_name, Function as function, VariableDeclaration as variable_declaration, Declarators as declarators, VariableDeclarator as variable_declarator}
use Rattle.js_syntax.specs.declared.kind.FunctionKind.TheVariants as function_kind
use Rattle.js_syntax.specs.declared.kind.VariableKind.{VariableKind}
use Rattle.js_syntax.specs.declared.kind.VariableKind.TheVariants as variable_kind
use Rattle.js_syntax.specs.Node.{Note, Forest, nothing, node, alone}
use Rattle.form_rules.specs.declared.sought.Sort.{Sort}
use Rattle.form_rules.specs.declared.sought.Sort.TheVariants.{Lexical as lexical, Variable as variable}
use Rattle.form_rules.specs.declared.sought.Sought.{Sought}
use Rattle.form_rules.specs.declared.sought.Sought.TheVariants.{Nothing as none, Names as names, Bound as bound, Scope as scope, Variables as variables, FunctionScope as function_scope, CatchScope as catch_scope}
use Rattle.form_rules.specs.Scope.{Declared, declared}
use Rattle.form_rules.specs.Rules.{Exported}
use Rattle.scope_rules.specs.declared.layer.Layer.{Layer}
use Rattle.scope_rules.specs.Context.{Context, inside, in_variables}
use Rattle.scope_rules.specs.Site.{BindingSite, own_sites, opens_one, scope_count, sites}
use Rattle.scope_rules.specs.Binding.{named_in}
use Rattle.steps.specs.Naming.Standing.{layer_of}
use Rattle.steps.proofs.Naming.Sites.{binding_left}
use Rattle.steps.specs.Allowed.Free.{IsFree}
use Rattle.steps.specs.Allowed.UnusedDeclaration.{one_declarator}
use Rattle.steps.specs.KeepForm.Sheds.{exports_none}
use Rattle.steps.specs.KeepForm.Layout.{binds_none}
use Rattle.steps.proofs.KeepForm.ShedNames.{none_declared}
use Rattle.steps.proofs.KeepForm.Names.{parts_nameless}
use Rattle.steps.specs.Owed.Seeking.{Within, AllRead, Seeks}
use Rattle.steps.proofs.Owed.Seeking.{within_below, Declares, free_name}

no_names : (es : List Exported) (ds : List Declared) → ds ≡ [] → exports_none es ds ≡ true
no_names es ds h = ap (exports_none es) h

-- the first of a row is a name, which is declared as its context says
pub name_stands : (t : Forest) (cs : ℕ → Context) (next : ℕ) (x : List ℕ) (m : Note) (r : Forest) → Within t (sites cs 0 next (node (binding_name x) m nothing r)) → Declares t x (cs 0).declaring.layer
name_stands t cs next x m r within =
    let b : BindingSite = record { id = m.id; name = x; layer = (cs 0).declaring.layer; flags = (cs 0).declaring.flags; is_pure = (cs 0).declaring.is_pure; span = m.span } in
    let own = own_sites (cs 0) m (binding_name x) nothing in
    let below = sites (inside (cs 0) next (binding_name x) nothing) 0 (next + opens_one (binding_name x) nothing) nothing in
    let later = sites cs 1 (next + scope_count (node (binding_name x) m nothing nothing)) r in
    record { site = b; stands = within.binding b (binding_left b (own ++ below) later (binding_left b own below (inl refl))); layer = refl; name = refl }

-- ---- a function

module _ (t : Forest) (es : List Exported) (c : Context) (next : ℕ) (x : List ℕ) where
  abbrev pub a_name : (m : Note) → (rest : Forest) → Forest
  a_name m rest = node (binding_name x) m nothing rest

  pub function_out : (s : Sought) (pure : Bool) (n m : Note) (a : Forest) → Within t (sites (inside c next (function function_kind.Declaration pure) (a_name m a)) 0 (next + 1) (a_name m a)) → binds_none a ≡ true → IsFree t (named_in x c.block) → Seeks t s es c
      → exports_none es (declared s 0 (alone (function function_kind.Declaration pure) n (a_name m a))) ≡ true
  function_out none pure n m a within binds free h = no_names es _ (none_declared 0 (alone (function function_kind.Declaration pure) n (a_name m a)))
  function_out (names f) pure n m a within binds free h = no_names es _ (ap (λ ds. ds ++ []) (none_declared 1 (a_name m a)))
  function_out (bound f) pure n m a within binds free h = no_names es _ (ap (λ ds. ds ++ []) (none_declared 1 (a_name m a)))
  function_out (scope f) pure n m a within binds free h =
      rw (λ (q : ℕ). parts_nameless f q a binds) (free_name t es x c.block h.0 (name_stands t (inside c next (function function_kind.Declaration pure) (a_name m a)) (next + 1) x m a within) free)
  function_out variables pure n m a within binds free h = no_names es _ (ap (λ ds. ds ++ []) (none_declared 1 (a_name m a)))
  function_out function_scope pure n m a within binds free h = absurd h
  function_out (catch_scope f) pure n m a within binds free h = absurd h

  -- ---- a declarator, whose value declares nothing

  abbrev pub DeclaresNothing : Forest → Type 0
  DeclaresNothing v = (f : Sort) (p : ℕ) → declared (bound f) p v ≡ []

  pub declarator_out : (s : Sought) (n m : Note) (v : Forest) → Within t (sites (inside c next variable_declarator (a_name m v)) 0 (next + 0) (a_name m v)) → DeclaresNothing v → IsFree t (named_in x c.declaring.layer) → Seeks t s es c
      → exports_none es (declared s 0 (alone variable_declarator n (a_name m v))) ≡ true
  declarator_out none n m v within value free h = no_names es _ (none_declared 0 (alone variable_declarator n (a_name m v)))
  declarator_out (names f) n m v within value free h = no_names es _ (ap (λ ds. ds ++ []) (none_declared 1 (a_name m v)))
  declarator_out (bound f) n m v within value free h =
      rw (λ (q : ℕ). value f q) (free_name t es x c.declaring.layer h (name_stands t (inside c next variable_declarator (a_name m v)) (next + 0) x m v within) free)
  declarator_out (scope f) n m v within value free h = no_names es _ (ap (λ ds. ds ++ []) (none_declared 1 (a_name m v)))
  declarator_out variables n m v within value free h = no_names es _ (ap (λ ds. ds ++ []) (none_declared 1 (a_name m v)))
  declarator_out function_scope n m v within value free h = absurd h
  declarator_out (catch_scope f) n m v within value free h = absurd h

  -- ---- a declaration of one

  abbrev pub a_list : (m l j : Note) → (v : Forest) → Forest
  a_list m l j v = one_declarator m l (a_name j v)

  declared_there : (how : VariableKind) (m l j : Note) (v : Forest) → Within t (sites (inside c next (variable_declaration how) (a_list m l j v)) 0 (next + 0) (a_list m l j v)) → Declares t x (in_variables c how).declaring.layer
  declared_there how m l j v within =
      let ds = node variable_declarator l (a_name j v) nothing in
      let cs = inside c next (variable_declaration how) (a_list m l j v) in
      let es = inside (cs 0) (next + 0) declarators ds in
      name_stands t (inside (es 0) (next + 0 + 0) variable_declarator (a_name j v)) (next + 0 + 0 + 0) x j v
      (within_below t es 0 (next + 0 + 0) variable_declarator l (a_name j v) nothing (within_below t cs 0 (next + 0) declarators m ds nothing within))

  one_name : (f : Sort) (l : Layer) (m k j : Note) (v : Forest) → DeclaresNothing v → AllRead t es l → Declares t x l → IsFree t (named_in x l) → exports_none es (declared (bound f) 1 (a_list m k j v) ++ []) ≡ true
  one_name f l m k j v value read d free = rw (λ (q : ℕ). value f q) (free_name t es x l read d free)

  pub declaration_out : (s : Sought) (how : VariableKind) (n m l j : Note) (v : Forest) → Within t (sites (inside c next (variable_declaration how) (a_list m l j v)) 0 (next + 0) (a_list m l j v)) → DeclaresNothing v → IsFree t (named_in x (layer_of how c))
      → Seeks t s es c → exports_none es (declared s 0 (alone (variable_declaration how) n (a_list m l j v))) ≡ true
  declaration_out none how n m l j v within value free h = no_names es _ (none_declared 0 (alone (variable_declaration how) n (a_list m l j v)))
  declaration_out (names f) how n m l j v within value free h = no_names es _ (ap (λ ds. ds ++ []) (none_declared 1 (a_list m l j v)))
  declaration_out (bound f) how n m l j v within value free h = no_names es _ (ap (λ ds. ds ++ []) (none_declared 1 (a_list m l j v)))
  declaration_out (scope f) variable_kind.Var n m l j v within value free h = one_name variable c.variables m l j v value h.1 (declared_there variable_kind.Var m l j v within) free
  declaration_out (scope f) variable_kind.Let n m l j v within value free h = one_name lexical c.block m l j v value h.0 (declared_there variable_kind.Let m l j v within) free
  declaration_out (scope f) variable_kind.Const n m l j v within value free h = one_name lexical c.block m l j v value h.0 (declared_there variable_kind.Const m l j v within) free
  declaration_out variables variable_kind.Var n m l j v within value free h = one_name variable c.variables m l j v value h (declared_there variable_kind.Var m l j v within) free
  declaration_out variables variable_kind.Let n m l j v within value free h = no_names es _ (ap (λ ds. ds ++ []) (none_declared 1 (a_list m l j v)))
  declaration_out variables variable_kind.Const n m l j v within value free h = no_names es _ (ap (λ ds. ds ++ []) (none_declared 1 (a_list m l j v)))
  declaration_out function_scope how n m l j v within value free h = absurd h
  declaration_out (catch_scope f) how n m l j v within value free h = absurd h
