-- Of which statements a declaration of names is left doesn't see notes.
use Rattle.std.proofs.Common.{◌≡◌, ◌∙◌, Bool, true, false, ◌&&◌, ◌||◌, if◌then◌else◌, refl, ap, ap₂}
use Rattle.js_syntax.specs.declared.node_kind.NodeKind.{NodeKind as Kind}
use Rattle.js_syntax.specs.declared.node_kind.NodeKind.TheVariants.{BindingName as binding_name, Declarators as declarators, VariableDeclarator as variable_declarator}
use Rattle.js_syntax.specs.Node.{Forest, Tree, Note, nothing, node, absent, nowhere, bare, forest_of}
use Rattle.kept_names.specs.Kept.{is_var, holds_statements, kept}
use Rattle.scope_laws.proofs.Notes.{unseen}
use Rattle.scope_laws.specs.Place.{Around}
use Rattle.steps.specs.Allowed.Branches.{declares_none}
use Rattle.steps.specs.Allowed.KeptNames.{KeptNames, names_stay}
use Rattle.steps.specs.Allowed.Places.{IsItem}
use Rattle.steps.specs.Allowed.Untaken.{is_untaken}
use Rattle.steps.specs.VarNames.Declared.{is_code, without_vars}
use Rattle.steps.specs.VarNames.Plain.{binds_name, bind_names, has_names, vars_bind_names}
use Rattle.steps.specs.VarNames.Has.{has_node, has_declarator, has_vars}
use Rattle.steps.proofs.VarNames.HasNames.{some_kept, has_some, declares_some, declares_kept}
use Rattle.headline.proofs.RenotedIf.{declares_bare}

-- ---- what else is declared

without_by : (v c : Bool) (k : Kind) (n : Note) (a b r s : Forest) → b ≡ bare (without_vars a) → s ≡ bare (without_vars r)
    → (if v then absent s else node k nowhere (if c then bare a else b) s) ≡ bare (if v then absent (without_vars r) else node k n (if c then a else without_vars a) (without_vars r))
without_by true c k n a b r s below rest = ap absent rest
without_by false true k n a b r s below rest = ap (node k nowhere (bare a)) rest
without_by false false k n a b r s below rest = ap₂ (node k nowhere) below rest

without_bare : (t : Forest) → without_vars (bare t) ≡ bare (without_vars t)
without_bare nothing = refl
without_bare (absent r) = ap absent (without_bare r)
without_bare (node k n a r) = without_by (is_var k) (is_code k) k n a (without_vars (bare a)) r (without_vars (bare r)) (without_bare a) (without_bare r)

others_bare : (t : Forest) → declares_none (without_vars (bare t)) ≡ declares_none (without_vars t)
others_bare t = ap declares_none (without_bare t) ∙ declares_bare (without_vars t)

-- ---- names alone

name_bare : (k : Kind) (t : Forest) → binds_name k (bare t) ≡ binds_name k t
name_bare variable_declarator nothing = refl
name_bare variable_declarator (absent r) = refl
name_bare variable_declarator (node (binding_name x) n nothing r) = refl
name_bare variable_declarator (node (binding_name x) n (absent b) r) = refl
name_bare variable_declarator (node (binding_name x) n (node k m b c) r) = refl
name_bare variable_declarator (node k n b r) = refl
name_bare k t = refl

names_bare : (t : Forest) → bind_names (bare t) ≡ bind_names t
names_bare nothing = refl
names_bare (absent r) = names_bare r
names_bare (node k n a r) = ap₂ (λ b c. b && c) (name_bare k a) (names_bare r)

declaration_bare : (t : Forest) → has_names (bare t) ≡ has_names t
declaration_bare nothing = refl
declaration_bare (absent r) = refl
declaration_bare (node declarators n ds nothing) = names_bare ds
declaration_bare (node declarators n ds (absent r)) = refl
declaration_bare (node declarators n ds (node k m b r)) = refl
declaration_bare (node k n ds r) = refl

vars_bare : (t : Forest) → vars_bind_names (bare t) ≡ vars_bind_names t
vars_bare nothing = refl
vars_bare (absent r) = vars_bare r
vars_bare (node k n a r) =
    ap₂ (λ b c. b && c) (ap₂ (λ b c. if is_var k then b else if holds_statements k then c else true) (declaration_bare a) (vars_bare a)) (vars_bare r)

-- ---- and some

node_bare : (t : Forest) → has_node (bare t) ≡ has_node t
node_bare nothing = refl
node_bare (absent r) = node_bare r
node_bare (node k n a r) = refl

declarator_bare : (t : Forest) → has_declarator (bare t) ≡ has_declarator t
declarator_bare nothing = refl
declarator_bare (absent r) = refl
declarator_bare (node declarators n ds r) = node_bare ds
declarator_bare (node k n ds r) = refl

some_bare : (t : Forest) → has_vars (bare t) ≡ has_vars t
some_bare nothing = refl
some_bare (absent r) = some_bare r
some_bare (node k n a r) = ap₂ (λ b c. b || c) (ap₂ (λ b c. if is_var k then b else (holds_statements k && c)) (declarator_bare a) (some_bare a)) (some_bare r)

-- ---- at another place

pub names_as : (a b : Around) (n : Note) (f : Forest) (x y : Tree) → IsItem b → is_untaken false b ≡ true → bare f ≡ bare x.below → KeptNames a x y → (z : Tree) × KeptNames b (record { kind = x.kind; note = n; below = f }) z
names_as a b n f _ _ item untaken same (names_stay x y was_item was_untaken leaves others plain is) =
    let now : Tree = record { kind = x.kind; note = n; below = f } in
    let whole : bare (forest_of now) ≡ bare (forest_of x) = ap (λ c. node x.kind nowhere c nothing) same in
    let binds = unseen vars_bind_names vars_bare (forest_of now) (forest_of x) whole ∙ plain in
    let some = unseen has_vars some_bare (forest_of now) (forest_of x) whole ∙ has_some (forest_of x) plain (declares_kept (kept (forest_of x)) y is) in
    let z = declares_some (kept (forest_of now)) (some_kept (forest_of now) binds some) in
    (z.0, names_stay now z.0 item untaken leaves (unseen (λ t. declares_none (without_vars t)) others_bare (forest_of now) (forest_of x) whole ∙ others) binds z.1)
