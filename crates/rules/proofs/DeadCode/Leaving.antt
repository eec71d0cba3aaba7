-- Single edits that the rules allow, and what is true of the nodes that they take out.
use Rattle.std.proofs.Common.{◌≡◌, ◌∙◌, ◌+◌, ◌==◌, ℕ, List, [], ◌++◌, Bool, true, false, ◌&&◌, ◌||◌, Option, Some, inl, refl, sym, ap, subst}
use Rattle.std.proofs.lemmas.Bool.{and_parts}
use Rattle.js_syntax.specs.declared.node_kind.NodeKind.{NodeKind as Kind}
use Rattle.js_syntax.specs.declared.node_kind.NodeKind.TheVariants.{EmptyStatement as empty_statement, ExpressionStatement as expression_statement, Function as function, VariableDeclaration as variable_declaration, VariableDeclarator as variable_declarator, Declarators as declarators, BindingName as binding_name}
use Rattle.js_syntax.specs.declared.kind.VariableKind.{VariableKind}
use Rattle.js_syntax.specs.declared.kind.FunctionKind.TheVariants as function_kind
use Rattle.js_syntax.specs.declared.kind.VariableKind.TheVariants as variable
use Rattle.js_syntax.specs.Node.{Forest, Tree, Note, nothing, node, alone}
use Rattle.js_effects.specs.declared.surroundings.Surroundings.{Surroundings}
use Rattle.js_effects.specs.Silence.{may_have_effects}
use Rattle.min_pass.specs.Pass.{is_given}
use Rattle.scope_rules.specs.Context.{Context, inside}
use Rattle.scope_rules.specs.ScopeFlags as scope_flag
use Rattle.scope_rules.specs.Site.{BindingSite, own_sites, opens_one, scope_count, sites, sites_of, references_among}
use Rattle.scope_rules.specs.Binding.{named_in}
use Rattle.scope_laws.specs.Place.{Around, plug}
use Rattle.scope_laws.specs.Lists.{without}
use Rattle.steps.proofs.Naming.Sites.{binding_second}
use Rattle.steps.specs.Allowed.Exposure.{is_script, evaluates_somewhere, IsOwnDeclarator, IsOwnDeclaration}
use Rattle.steps.specs.Allowed.Places.{a_node, in_class_at, surroundings_at, IsItem, IsDeclarator, has_other, At}
use Rattle.steps.specs.Allowed.Free.{IsFree, Free, FreeDeclarator}
use Rattle.steps.specs.Allowed.EmptyStatement.{empty_statement_leaves}
use Rattle.steps.specs.Allowed.EmptyBlock.{EmptyBlock}
use Rattle.steps.specs.Allowed.SilentStatement.{SilentStatement, a_statement, silent_statement_empties}
use Rattle.steps.specs.Allowed.UnusedFunction.{a_function, UnusedFunction, unused_function_leaves}
use Rattle.steps.specs.Allowed.UnusedDeclarator.{SilentDeclarator, a_declarator, unused_declarator_leaves}
use Rattle.steps.specs.Allowed.UnusedDeclaration.{SilentDeclaration, one_declarator, a_declaration, unused_declaration_leaves}
use Rattle.steps.specs.Allowed.Edits.{Edit, leaves, becomes, silent_statement, unused_function, unused_declarator, unused_declaration}
use Rattle.steps.specs.Allowed.Edits as edits
use Rattle.steps.proofs.Owed.Unseen.{layer_below}
use Rattle.steps.specs.Marked.Flags.{scope_has, is_sloppy_block, declares_in, stand}
use Rattle.steps.proofs.Marked.Telling.{function_hidden, declarator_hidden, declaration_hidden, no_eval}
use Rattle.js_syntax.proofs.Truth.{not_true, first_of_neither, second_of_neither}
use Rattle.rules.specs.DeadCode.Rules.{Facts, Where, is_unlisted, is_global, function_is_unused, variable_is_unused}
use Rattle.rules.specs.DeadCode.Knows.{Knows}
use Rattle.rules.proofs.DeadCode.Silent.{AllOf, of_left, of_right, Binds, known_binds, silent_row, silent_at, declared_at}
use Rattle.rules.proofs.DeadCode.Unused.{is_free}

-- the site of the name that a row begins with
abbrev pub named_site : Context → Note → List ℕ → BindingSite
named_site c m x = record { id = m.id; name = x; layer = c.declaring.layer; flags = c.declaring.flags; is_pure = c.declaring.is_pure; span = m.span }

-- ---- empty and silent statements

pub empty_leaves : (a : Around) (n : Note) → IsItem a → Edit (plug a (a_node empty_statement n nothing)) (without a)
empty_leaves a n item = leaves a (record { kind = empty_statement; note = n; below = nothing }) (edits.empty_statement (empty_statement_leaves n item))

pub block_leaves : (a : Around) (x : Tree) → EmptyBlock a x → Edit (plug a (Some x)) (without a)
block_leaves a x held = leaves a x (edits.empty_block held)

pub statement_silent : (f : Facts) (marked : ℕ → Bool) (a : Around) (n l : Note) (k : Kind) (inner : Forest) → Knows f marked (plug a (a_statement n l k inner)) → may_have_effects f.bound (surroundings_at a) (alone k l inner) ≡ false
    → At a (a_statement n l k inner) (SilentStatement (plug a (a_statement n l k inner)) (alone k l inner) (in_class_at a))
statement_silent f marked a n l k inner h silent =
    let e = alone k l inner in
    let v = plug a (a_statement n l k inner) in
    let all = references_among (sites_of v) in
    silent_at a (a_statement n l k inner) (SilentStatement v e (in_class_at a))
    (λ ds place before all_of.
    let own = own_sites (ds place) n expression_statement e in
    let below = sites (inside (ds place) before expression_statement e) 0 (before + opens_one expression_statement e) e in
    silent_row f.bound v (known_binds f marked v h) (surroundings_at a) (inside (ds place) before expression_statement e) 0 (before + opens_one expression_statement e) e
    (of_right all own below (of_left all (own ++ below) [] all_of)) silent)

pub statement_empties : (f : Facts) (marked : ℕ → Bool) (a : Around) (n m l : Note) (k : Kind) (inner : Forest) → Knows f marked (plug a (a_statement n l k inner)) → may_have_effects f.bound (surroundings_at a) (alone k l inner) ≡ false
    → Edit (plug a (a_statement n l k inner)) (plug a (a_node empty_statement m nothing))
statement_empties f marked a n m l k inner h silent =
    becomes a (record { kind = expression_statement; note = n; below = alone k l inner }) (record { kind = empty_statement; note = m; below = nothing })
    (silent_statement (silent_statement_empties n m l k inner (statement_silent f marked a n l k inner h silent)))

-- ---- functions

script_so : (f : Facts) (marked : ℕ → Bool) (v : Forest) → Knows f marked v → (n : ℕ) → is_global f n ≡ false → is_script v && n == 0 ≡ false
script_so f marked v h n e = ap (λ b. b && n == 0) (sym h.script) ∙ e

pub function_unused : (f : Facts) (marked : ℕ → Bool) (w : Where) (a : Around) (pure : Bool) (n m : Note) (x : List ℕ) (rest : Forest) → Knows f marked (plug a (a_function pure n m x rest)) → IsItem a
    → (stand a (a_function pure n m x rest)).scope ≡ Some w.scope → function_is_unused f w m.id ≡ true → UnusedFunction a (record { kind = function function_kind.Declaration pure; note = n; below = node (binding_name x) m nothing rest })
function_unused f marked w a pure n m x rest h item is e =
    let below = node (binding_name x) m nothing rest in
    let v = plug a (a_function pure n m x rest) in
    let parts = and_parts (is_unlisted f m.id) _ e in
    let global = is_global f w.scope in
    let evaluates = scope_has f.scoping w.scope scope_flag.direct_eval in
    let hidden = not_true (global || evaluates || is_sloppy_block f.scoping w.scope) parts.1 in
    let first = first_of_neither (global || evaluates) (is_sloppy_block f.scoping w.scope) hidden in
    unused_function_leaves pure n m x rest item
    (function_hidden a (record { kind = function function_kind.Declaration pure; note = n; below = below }) f.scoping h.flags w.scope is (script_so f marked v h w.scope (first_of_neither global evaluates first)) (second_of_neither global evaluates first)
    (second_of_neither (global || evaluates) (is_sloppy_block f.scoping w.scope) hidden))
    (declared_at a (a_function pure n m x rest) (Free v variable.Let x)
    (λ in_with cs place next all_of.
    let fs = inside (cs place) next (function function_kind.Declaration pure) below in
    let d = named_site (fs 0) m x in
    is_free f marked v h d (all_of d (binding_second d (own_sites (cs place) n (function function_kind.Declaration pure) below) (sites fs 0 (next + 1) below) [] (inl refl))) parts.0))

pub function_leaves : (f : Facts) (marked : ℕ → Bool) (w : Where) (a : Around) (pure : Bool) (n m : Note) (x : List ℕ) (rest : Forest) → Knows f marked (plug a (a_function pure n m x rest)) → IsItem a
    → (stand a (a_function pure n m x rest)).scope ≡ Some w.scope → function_is_unused f w m.id ≡ true → Edit (plug a (a_function pure n m x rest)) (without a)
function_leaves f marked w a pure n m x rest h item is e =
    leaves a (record { kind = function function_kind.Declaration pure; note = n; below = node (binding_name x) m nothing rest }) (unused_function (function_unused f marked w a pure n m x rest h item is e))

-- ---- declarators

-- as `is_quiet` asks it
abbrev pub Quiet : Facts → Surroundings → Forest → Type 0
Quiet f w value = (may_have_effects f.bound w value || w.in_with && is_given value) ≡ false

silent_behind : (f : Facts) (v : Forest) → Binds f.bound v → (w : Surroundings) (cs : ℕ → Context) (at next : ℕ) (n m : Note) (x : List ℕ) (value : Forest)
    → AllOf (references_among (sites_of v)) (sites cs at next (node variable_declarator n (node (binding_name x) m nothing value) nothing)) → Quiet f w value → SilentDeclarator v (node (binding_name x) m nothing value) w.in_class w.in_with (cs at) next
silent_behind f v binds w cs at next n m x value all_of e =
    let below = node (binding_name x) m nothing value in
    let all = references_among (sites_of v) in
    let own = own_sites (cs at) n variable_declarator below in
    let ds = inside (cs at) next variable_declarator below in
    let place = next + opens_one variable_declarator below in
    let name = own_sites (ds 0) m (binding_name x) nothing ++ sites (inside (ds 0) place (binding_name x) nothing) 0 (place + 0) nothing in
    let behind = sites ds 1 (place + scope_count (node (binding_name x) m nothing nothing)) value in (
      second_of_neither (may_have_effects f.bound w value) (w.in_with && is_given value) e,
      silent_row f.bound v binds w ds 1 (place + scope_count (node (binding_name x) m nothing nothing)) value
          (of_right all name behind (of_right all own (name ++ behind) (of_left all (own ++ (name ++ behind)) [] all_of)))
          (first_of_neither (may_have_effects f.bound w value) (w.in_with && is_given value) e),
    )

pub record Hidden (f : Facts) (scope : ℕ) (symbol : Option ℕ) (v : Forest) : Type 0 where
  pub unlisted : is_unlisted f symbol ≡ true
  pub unshared : is_script v && scope == 0 ≡ false
  pub no_evals : evaluates_somewhere v ≡ false

pub hidden : (f : Facts) (marked : ℕ → Bool) (v : Forest) → Knows f marked v → (scope : ℕ) (symbol : Option ℕ) → variable_is_unused f scope symbol ≡ true → Hidden f scope symbol v
hidden f marked v h scope symbol e =
    let parts = and_parts (is_unlisted f symbol) _ e in
    let none = not_true (is_global f scope || scope_has f.scoping 0 scope_flag.direct_eval) parts.1 in
    record {
      unlisted = parts.0;
      unshared = script_so f marked v h scope (first_of_neither (is_global f scope) (scope_has f.scoping 0 scope_flag.direct_eval) none);
      no_evals = no_eval v h.fits f.scoping h.flags 0 h.outermost (second_of_neither (is_global f scope) (scope_has f.scoping 0 scope_flag.direct_eval) none);
    }

-- what is to be true of a declarator that goes, whether others stand beside it or not
pub record IsUnused (a : Around) (n m : Note) (x : List ℕ) (value : Forest) : Type 0 where
  pub own : IsOwnDeclarator a (a_declarator n m x value)
  pub silent : At a (a_declarator n m x value) (SilentDeclarator (plug a (a_declarator n m x value)) (node (binding_name x) m nothing value) (in_class_at a))
  pub free : At a (a_declarator n m x value) (FreeDeclarator (plug a (a_declarator n m x value)) x)

pub declarator_unused : (f : Facts) (marked : ℕ → Bool) (scope : ℕ) (a : Around) (n m : Note) (x : List ℕ) (value : Forest) → Knows f marked (plug a (a_declarator n m x value)) → (stand a (a_declarator n m x value)).declaring ≡ Some scope
    → variable_is_unused f scope m.id ≡ true → Quiet f (surroundings_at a) value → IsUnused a n m x value
declarator_unused f marked scope a n m x value h is e quiet =
    let below = node (binding_name x) m nothing value in
    let v = plug a (a_declarator n m x value) in
    let o = hidden f marked v h scope m.id e in
    record {
      own = declarator_hidden a (record { kind = variable_declarator; note = n; below = below }) f.scoping h.flags scope is o.unshared o.no_evals;
      silent = silent_at a (a_declarator n m x value) (SilentDeclarator v below (in_class_at a)) (λ cs at next all_of. silent_behind f v (known_binds f marked v h) (surroundings_at a) cs at next n m x value all_of quiet);
      free = declared_at a (a_declarator n m x value) (FreeDeclarator v x)
          (λ in_with cs place next all_of.
          let fs = inside (cs place) next variable_declarator below in
          let d = named_site (fs 0) m x in
          is_free f marked v h d (all_of d (binding_second d (own_sites (cs place) n variable_declarator below) (sites fs 0 (next + 0) below) [] (inl refl))) o.unlisted);
    }

pub declarator_leaves : (f : Facts) (marked : ℕ → Bool) (scope : ℕ) (a : Around) (n m : Note) (x : List ℕ) (value : Forest) → Knows f marked (plug a (a_declarator n m x value)) → IsDeclarator a → has_other false a ≡ true
    → (stand a (a_declarator n m x value)).declaring ≡ Some scope → variable_is_unused f scope m.id ≡ true → Quiet f (surroundings_at a) value → Edit (plug a (a_declarator n m x value)) (without a)
declarator_leaves f marked scope a n m x value h declarator other_stays is e quiet =
    let o = declarator_unused f marked scope a n m x value h is e quiet in
    leaves a (record { kind = variable_declarator; note = n; below = node (binding_name x) m nothing value }) (unused_declarator (unused_declarator_leaves n m x value declarator other_stays o.own o.silent o.free))

-- what is to be true of a declaration of one name that nothing uses, whether its value is silent or stays
pub record DeclaresUnused (a : Around) (how : VariableKind) (n m l j : Note) (x : List ℕ) (value : Forest) : Type 0 where
  pub own : IsOwnDeclaration how a (a_declaration how n m l j x value)
  pub free : At a (a_declaration how n m l j x value) (Free (plug a (a_declaration how n m l j x value)) how x)

pub declaration_unused : (f : Facts) (marked : ℕ → Bool) (scope : ℕ) (a : Around) (how : VariableKind) (n m l j : Note) (x : List ℕ) (value : Forest) → Knows f marked (plug a (a_declaration how n m l j x value))
    → declares_in (stand a (a_declaration how n m l j x value)) how ≡ Some scope → variable_is_unused f scope j.id ≡ true → DeclaresUnused a how n m l j x value
declaration_unused f marked scope a how n m l j x value h is e =
    let y = a_declaration how n m l j x value in
    let v = plug a y in
    let o = hidden f marked v h scope j.id e in
    let below = node (binding_name x) j nothing value in
    let ds = node variable_declarator l below nothing in
    let whole = one_declarator m l below in
    record {
      own = declaration_hidden how a (record { kind = variable_declaration how; note = n; below = whole }) f.scoping h.flags scope is o.unshared o.no_evals;
      free = declared_at a y (Free v how x)
          (λ in_with cs place next all_of.
          let outer = inside (cs place) next (variable_declaration how) whole in
          let list = inside (outer 0) (next + 0) declarators ds in
          let fs = inside (list 0) (next + 0 + 0) variable_declarator below in
          let d = named_site (fs 0) j x in
          let stands = binding_second d (own_sites (cs place) n (variable_declaration how) whole) (sites outer 0 (next + 0) whole) []
          (binding_second d (own_sites (outer 0) m declarators ds) (sites list 0 (next + 0 + 0) ds) []
          (binding_second d (own_sites (list 0) l variable_declarator below) (sites fs 0 (next + 0 + 0 + 0) below) [] (inl refl))) in
          subst (λ r. IsFree v (named_in x r)) (layer_below (cs place) how) (is_free f marked v h d (all_of d stands) o.unlisted));
    }

pub declaration_leaves : (f : Facts) (marked : ℕ → Bool) (scope : ℕ) (a : Around) (how : VariableKind) (n m l j : Note) (x : List ℕ) (value : Forest) → Knows f marked (plug a (a_declaration how n m l j x value)) → IsItem a
    → declares_in (stand a (a_declaration how n m l j x value)) how ≡ Some scope → variable_is_unused f scope j.id ≡ true → Quiet f (surroundings_at a) value → Edit (plug a (a_declaration how n m l j x value)) (without a)
declaration_leaves f marked scope a how n m l j x value h item is e quiet =
    let y = a_declaration how n m l j x value in
    let v = plug a y in
    let o = declaration_unused f marked scope a how n m l j x value h is e in
    let all = references_among (sites_of v) in
    let below = node (binding_name x) j nothing value in
    let ds = node variable_declarator l below nothing in
    let whole = one_declarator m l below in
    leaves a (record { kind = variable_declaration how; note = n; below = whole })
    (unused_declaration (unused_declaration_leaves how n m l j x value item o.own
    (silent_at a y (SilentDeclaration v how m l below (in_class_at a))
    (λ cs at next all_of.
    let place = next + opens_one (variable_declaration how) whole in
    let outer = inside (cs at) next (variable_declaration how) whole in
    let list = inside (outer 0) place declarators ds in
    let declarator = sites list 0 (place + opens_one declarators ds) ds in
    let own_list = own_sites (outer 0) m declarators ds in
    let own = own_sites (cs at) n (variable_declaration how) whole in
    silent_behind f v (known_binds f marked v h) (surroundings_at a) list 0 (place + opens_one declarators ds) l j x value
    (of_right all own_list declarator (of_left all (own_list ++ declarator) [] (of_right all own ((own_list ++ declarator) ++ []) (of_left all (own ++ ((own_list ++ declarator) ++ [])) [] all_of))))
    quiet))
    o.free))
