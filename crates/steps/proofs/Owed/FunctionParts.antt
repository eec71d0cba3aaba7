-- What the parts of a function or a class declare: its own name, and else names of its own scope and of those further in.
use Rattle.std.proofs.Common.{◌≡◌, ◌∙◌, ◌≤◌, ℕ, ◌+◌, Bool, true, false, not, ◌&&◌, ◌||◌, if◌then◌else◌, ◌==◌, List, true≢false, refl, sym, ap, arith, eqb-true}
use Rattle.std.proofs.lemmas.Bool.{and_parts, false_from_ne_true}
use Rattle.js_syntax.specs.declared.node_kind.NodeKind.{NodeKind as Kind}
use Rattle.js_syntax.specs.Node.{Forest, nothing, node, absent, Note}
use Rattle.js_syntax.specs.declared.kind.FunctionKind.{FunctionKind}
use Rattle.js_syntax.specs.declared.kind.ClassKind.{ClassKind}
use Rattle.form_rules.specs.Context.{is_strict_function}
use Rattle.js_effects.specs.Silence.{is_marked}
use Rattle.scope_rules.specs.declared.layer.Layer.{Layer}
use Rattle.scope_rules.specs.Context.{Context, inside, in_block, at_function_name, at_class_name, at_parameters, in_function}
use Rattle.scope_rules.specs.Site.{BindingSite, own_sites, opens_one, scope_count, sites, bindings_among}
use Rattle.scope_laws.specs.Exact.{Among}
use Rattle.steps.proofs.Naming.Sites.{InThree, in_first, in_second, in_third, binding_in}
use Rattle.steps.specs.Allowed.Arranged.{is_nothing}
use Rattle.steps.specs.Fit.Enclosed.{is_binding, inherits, closed, none, is_name, begins_with_name}
use Rattle.steps.specs.Owed.Unmarked.{name_unmarked, first_unmarked}
use Rattle.steps.proofs.Owed.Inside.{named, In, in_more, Within, closed_rest, within_more, names_inside}

-- ---- nothing

pub nothing_there : (cs : ℕ → Context) (at next : ℕ) (t : Forest) → is_nothing t ≡ true → (b : BindingSite) → Among b (bindings_among (sites cs at next t)) → ⊥
nothing_there cs at next nothing e b h = h
nothing_there cs at next (absent rest) e b h = true≢false (sym e)
nothing_there cs at next (node k n below rest) e b h = true≢false (sym e)

pub name_leaf : (k : Kind) (below : Forest) → is_name k below ≡ true → is_nothing below ≡ true
name_leaf (Kind.BindingName x) below e = e
name_leaf k below e = absurd (true≢false (sym e))

pub unmarked_of : (marks : List Bool) (k : Kind) (n : Note) → name_unmarked marks k n ≡ true → is_binding k ≡ true → is_marked marks n.id ≡ false
unmarked_of marks k n e g = by (is_binding k) (is_marked marks n.id) e g
  where
    by : (a x : Bool) → not (a && x) ≡ true → a ≡ true → x ≡ false
    by true true e g = absurd (true≢false (sym e))
    by true false e g = refl
    by false x e g = absurd (true≢false (sym g))

-- ---- contexts behind the name

own_scope : (next : ℕ) (l : Layer) → l.scope ≡ next → In next (next + 1) l
own_scope next l e = record { from = Prim.omega (arith, e); to = Prim.omega (arith, e) }

function_within : (c : Context) (next : ℕ) (how : FunctionKind) (pure strict z o : Bool) → z ≡ false
    → Within next (next + 1) false (if z then false else if o then false else true) (if z then at_function_name c next how pure else if o then at_parameters c next how strict else in_function c next how strict)
function_within c next how pure strict true o e = absurd (true≢false e)
function_within c next how pure strict false true e = record { block = own_scope next _ refl; variables = λ g. own_scope next _ refl; declaring = λ g. own_scope next _ refl }
function_within c next how pure strict false false e = record { block = own_scope next _ refl; variables = λ g. own_scope next _ refl; declaring = λ g. absurd (true≢false g) }

class_within : (c : Context) (next : ℕ) (how : ClassKind) (z : Bool) → z ≡ false → Within next (next + 1) (if z then false else true) (if z then false else true) (if z then at_class_name c next how else in_block c next true)
class_within c next how true e = absurd (true≢false e)
class_within c next how false e = record { block = own_scope next _ refl; variables = λ g. absurd (true≢false g); declaring = λ g. absurd (true≢false g) }

not_first : (i : ℕ) → 1 ≤ i → (i == 0) ≡ false
not_first i h = false_from_ne_true (i == 0) (λ e. absurd (Prim.omega (arith, h, eqb-true i 0 e)))

-- ---- the parts

pub data Part (ds : ℕ → Context) (next : ℕ) (below : Forest) (b : BindingSite) : Type 0 where
  named_first : b.layer ≡ (ds 0).declaring.layer → ((marks : List Bool) → first_unmarked marks below ≡ true → is_marked marks b.id ≡ false) → Part ds next below b
  further : In next (next + 1 + scope_count below) b.layer → Part ds next below b

-- behind the name
parts_behind : (ds : ℕ → Context) (next : ℕ) (vars names : ℕ → Bool) (k : Kind) (n : Note) (below rest : Forest) → closed vars names 0 (node k n below rest) ≡ true → ((i : ℕ) → 1 ≤ i → Within next (next + 1) (vars i) (names i) (ds i))
    → (b : BindingSite) → Among b (bindings_among (sites ds 1 (next + 1 + scope_count (node k n below nothing)) rest)) → In next (next + 1 + scope_count (node k n below rest)) b.layer
parts_behind ds next vars names k n below rest c w b g =
    let i = names_inside next vars names ds 1 (next + 1 + scope_count (node k n below nothing)) rest (Prim.omega arith) (closed_rest vars names 0 k n below rest c)
    (λ i l. within_more next (next + 1) (next + 1 + scope_count (node k n below nothing)) (vars i) (names i) (ds i) (Prim.omega arith) (w i l)) b g in
    in_more next (next + 1 + scope_count (node k n below nothing) + scope_count rest) (next + 1 + scope_count (node k n below rest)) b.layer (Prim.omega arith) i

parts : (ds : ℕ → Context) (next : ℕ) (vars names : ℕ → Bool) (below : Forest) → begins_with_name below ≡ true → closed vars names 0 below ≡ true → ((i : ℕ) → 1 ≤ i → Within next (next + 1) (vars i) (names i) (ds i))
    → (b : BindingSite) → Among b (bindings_among (sites ds 0 (next + 1) below)) → Part ds next below b
parts ds next vars names nothing e c w b h = absurd h
parts ds next vars names (absent rest) e c w b h = further (names_inside next vars names ds 1 (next + 1) rest (Prim.omega arith) c w b h)
parts ds next vars names (node k n below rest) e c w b h =
    by (binding_in b (own_sites (ds 0) n k below) (sites (inside (ds 0) (next + 1) k below) 0 (next + 1 + opens_one k below) below) (sites ds 1 (next + 1 + scope_count (node k n below nothing)) rest) h)
  where
    by : InThree b (bindings_among (own_sites (ds 0) n k below)) (bindings_among (sites (inside (ds 0) (next + 1) k below) 0 (next + 1 + opens_one k below) below)) (bindings_among (sites ds 1 (next + 1 + scope_count (node k n below nothing)) rest))
        → Part ds next (node k n below rest) b
    by (in_first g) =
        let m = named (ds 0) n k below b g in
        named_first m.layer (λ marks u. ap (is_marked marks) m.id ∙ unmarked_of marks k n u m.is_name)
    by (in_second g) = absurd (nothing_there (inside (ds 0) (next + 1) k below) 0 (next + 1 + opens_one k below) below (name_leaf k below e) b g)
    by (in_third g) = further (parts_behind ds next vars names k n below rest c w b g)

pub function_parts : (c : Context) (next : ℕ) (how : FunctionKind) (pure : Bool) (below : Forest) → begins_with_name below && closed none (inherits (Kind.Function how pure)) 0 below ≡ true
    → (b : BindingSite) → Among b (bindings_among (sites (inside c next (Kind.Function how pure) below) 0 (next + 1) below)) → Part (inside c next (Kind.Function how pure) below) next below b
function_parts c next how pure below e b h =
    let g = and_parts (begins_with_name below) (closed none (inherits (Kind.Function how pure)) 0 below) e in
    parts (inside c next (Kind.Function how pure) below) next none (inherits (Kind.Function how pure)) below g.0 g.1 (λ i l. function_within c next how pure (c.strict || is_strict_function below) (i == 0) (i == 1) (not_first i l)) b h

pub class_parts : (c : Context) (next : ℕ) (how : ClassKind) (below : Forest) → begins_with_name below && closed (inherits (Kind.Class how)) (inherits (Kind.Class how)) 0 below ≡ true
    → (b : BindingSite) → Among b (bindings_among (sites (inside c next (Kind.Class how) below) 0 (next + 1) below)) → Part (inside c next (Kind.Class how) below) next below b
class_parts c next how below e b h =
    let g = and_parts (begins_with_name below) (closed (inherits (Kind.Class how)) (inherits (Kind.Class how)) 0 below) e in
    parts (inside c next (Kind.Class how) below) next (inherits (Kind.Class how)) (inherits (Kind.Class how)) below g.0 g.1 (λ i l. class_within c next how (i == 0) (not_first i l)) b h

pub function_behind : (c : Context) (next : ℕ) (how : FunctionKind) (pure : Bool) (k : Kind) (n : Note) (below rest : Forest) → begins_with_name (node k n below rest) && closed none (inherits (Kind.Function how pure)) 0 (node k n below rest) ≡ true
    → (b : BindingSite) → Among b (bindings_among (sites (inside c next (Kind.Function how pure) (node k n below rest)) 1 (next + 1 + scope_count (node k n below nothing)) rest)) → In next (next + 1 + scope_count (node k n below rest)) b.layer
function_behind c next how pure k n below rest e b h =
    let whole = node k n below rest in
    let g = and_parts (begins_with_name whole) (closed none (inherits (Kind.Function how pure)) 0 whole) e in
    parts_behind (inside c next (Kind.Function how pure) whole) next none (inherits (Kind.Function how pure)) k n below rest g.1 (λ i l. function_within c next how pure (c.strict || is_strict_function whole) (i == 0) (i == 1) (not_first i l)) b h
