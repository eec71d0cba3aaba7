-- Names that have a binding are among those that the scopes around a row declare.
use Rattle.std.proofs.Common.{◌≡◌, ◌∙◌, ◌⊎◌, ◌≤◌, inl, inr, ℕ, suc, Bool, true, false, ◌||◌, if◌then◌else◌, ◌==◌, List, [], ◌∷◌, ◌++◌, Option, Some, is_some, refl, sym, ap, subst, true≢false, arith}
use Rattle.std.proofs.lemmas.Bool.{or_cases}
use Rattle.js_syntax.specs.declared.node_kind.NodeKind.{NodeKind as Kind}
use Rattle.js_syntax.specs.Node.{Forest, nothing, node, absent}
use Rattle.js_syntax.specs.declared.kind.VariableKind.{VariableKind}
use Rattle.js_syntax.specs.declared.kind.VariableKind.TheVariants as variable
use Rattle.js_syntax.specs.declared.kind.FunctionKind.{FunctionKind}
use Rattle.js_syntax.specs.declared.kind.FunctionKind.TheVariants as function_kind
use Rattle.form_rules.specs.Context.{is_strict_function}
use Rattle.js_meaning.specs.Value.{Text}
use Rattle.js_meaning.specs.Scope.{Decl, first_of, item_decls, lexical, bound_names}
use Rattle.js_meaning.specs.Module.{names_in}
use Rattle.steps.specs.Names.{is_among, names_declared}
use Rattle.steps.specs.Steps.{Around, entered, in_code, in_block as in_block_around, in_row}
use Rattle.steps.proofs.Among.{among_joined}
use Rattle.scope_rules.specs.declared.layer.Layer.{Layer}
use Rattle.scope_rules.specs.Context.{Context, opens, inside, body_of, own_name_of, parameters_of, in_block, below_it, declares, layers_of_parameters, at_function_name, at_parameters, in_function, of_function, in_variables}
use Rattle.scope_rules.specs.Site.{BindingSite}
use Rattle.scope_rules.specs.Binding.{is_declared, binding_layer}
use Rattle.steps.specs.Naming.Placed.{Place, cases, sort_of, place_below, fits, well_placed}
use Rattle.steps.specs.Naming.Agreeing.{AgreesAt}
use Rattle.steps.proofs.Naming.Lists.{in_left, in_right, names_joined, not_second, either}
use Rattle.steps.proofs.Naming.Taking.{kept}
use Rattle.steps.proofs.Naming.Sites.{placed_here, placed_behind, never_stands}
use Rattle.steps.proofs.Naming.Meeting.{later}

-- ---- names of two lists

pub among_cases : (xs ys : List Text) (x : Text) → is_among (xs ++ ys) x ≡ true → (is_among xs x ≡ true) ⊎ (is_among ys x ≡ true)
among_cases xs ys x e = or_cases (is_among xs x) (is_among ys x) (sym (among_joined xs ys x) ∙ e)

-- of declarations, behind which stand none
all_before_none : (ds : List Decl) (x : Text) → is_among (names_in (ds ++ [])) x ≡ true → is_among (names_in ds) x ≡ true
all_before_none ds x e = elim (among_cases (names_in ds) [] x (ap (λ xs. is_among xs x) (sym (names_joined ds [])) ∙ e)) [
  | inl h ↦ h
  | inr h ↦ absurd (true≢false (sym h))
]

-- names around a node are names around what lies below it
pub names_below : (w : Around) (k : Kind) (a : Forest) (x : Text) → is_among w.names x ≡ true → is_among (entered w k a).names x ≡ true
names_below w (Kind.Program source) a x h = in_right (names_declared (Kind.Program source) a) w.names x h
names_below w (Kind.Function f pure) a x h = in_right (names_declared (Kind.Function f pure) a) w.names x h
names_below w Kind.BlockStatement a x h = in_right (names_declared Kind.BlockStatement a) w.names x h
names_below w Kind.Cases a x h = in_right (names_declared Kind.Cases a) w.names x h
names_below w Kind.ForStatement a x h = in_right (names_declared Kind.ForStatement a) w.names x h
names_below w Kind.CatchClause a x h = in_right (names_declared Kind.CatchClause a) w.names x h
names_below w k a x h = h

-- ---- what is bound in some layers is among the names

abbrev pub Known : List BindingSite → List Text → List Layer → Type 0
Known bs names ls = (x : Text) → is_some (binding_layer bs ls x) ≡ true → is_among names x ≡ true

abbrev pub Declared : List BindingSite → List Text → Layer → Type 0
Declared bs names l = (x : Text) → is_declared bs l x ≡ true → is_among names x ≡ true

pub none_known : (bs : List BindingSite) (names : List Text) → Known bs names []
none_known bs names x e = absurd (true≢false (sym e))

chosen : (b : Bool) (l : Layer) (o : Option Layer) → is_some (if b then Some l else o) ≡ true → (b ≡ true) ⊎ (is_some o ≡ true)
chosen true l o e = inl refl
chosen false l o e = inr e

known_more : (bs : List BindingSite) (names : List Text) (l : Layer) (ls : List Layer) → Declared bs names l → Known bs names ls → Known bs names (l ∷ ls)
known_more bs names l ls h g x e = elim (chosen (is_declared bs l x) l (binding_layer bs ls x) e) [
  | inl f ↦ h x f
  | inr f ↦ g x f
]

known_wider : (bs : List BindingSite) (xs names : List Text) (ls : List Layer) → Known bs names ls → Known bs (xs ++ names) ls
known_wider bs xs names ls h x e = in_right xs names x (h x e)

-- with the names of a scope, and its layer
pub scope_known : (bs : List BindingSite) (xs names : List Text) (next : ℕ) (ls : List Layer) → Declared bs xs (body_of next) → Known bs names ls → Known bs (xs ++ names) (body_of next ∷ ls)
scope_known bs xs names next ls h g = known_more bs (xs ++ names) (body_of next) ls (λ x d. in_left xs names x (h x d)) (known_wider bs xs names ls g)

-- ---- of the nodes of a row

-- The scope of a switch is entered at its cases.
abbrev pub reach : Around → Kind → (below : Forest) → List Text
reach w Kind.Cases a = names_in (lexical a) ++ w.names
reach w k a = w.names

reaches : (bs : List BindingSite) (w : Around) (k : Kind) (a : Forest) (ls : List Layer) → Known bs w.names ls → Known bs (reach w k a) ls
reaches bs w Kind.Cases a ls h = known_wider bs (names_in (lexical a)) w.names ls h
reaches bs w k a ls h = h

abbrev pub AllKnown : List BindingSite → Around → (cs : ℕ → Context) → (at : ℕ) → Forest → Type 0
AllKnown bs w cs at nothing = Unit {0}
AllKnown bs w cs at (absent r) = AllKnown bs w cs (suc at) r
AllKnown bs w cs at (node k n a r) = Known bs (reach w k a) (cs at).layers × AllKnown bs w cs (suc at) r

known_from : (bs : List BindingSite) (w : Around) (cs : ℕ → Context) (at : ℕ) (row : Forest) → ((i : ℕ) → at ≤ i → Known bs w.names (cs i).layers) → AllKnown bs w cs at row
known_from bs w cs at nothing h = tt
known_from bs w cs at (absent r) h = known_from bs w cs (suc at) r (λ i l. h i (later at i l))
known_from bs w cs at (node k n a r) h = (reaches bs w k a (cs at).layers (h at (Prim.omega arith)), known_from bs w cs (suc at) r (λ i l. h i (later at i l)))

pub all_known : (bs : List BindingSite) (w : Around) (cs : ℕ → Context) (at : ℕ) (row : Forest) → ((i : ℕ) → Known bs w.names (cs i).layers) → AllKnown bs w cs at row
all_known bs w cs at row h = known_from bs w cs at row (λ i l. h i)

-- ---- below a function

name_known : (bs : List BindingSite) (names : List Text) (c : Context) (next : ℕ) (f : FunctionKind) (pure : Bool) → Known bs names c.layers → Known bs names (at_function_name c next f pure).layers
name_known bs names c next function_kind.Declaration pure h = h
name_known bs names c next function_kind.Expression pure h = h
name_known bs names c next function_kind.Arrow pure h = h

parameters_known : (bs : List BindingSite) (names : List Text) (next : ℕ) (f : FunctionKind) (ls : List Layer) → ((l : Layer) → l.scope ≡ next → Declared bs names l) → Known bs names ls → Known bs names (layers_of_parameters f next ls)
parameters_known bs names next function_kind.Expression ls h g =
    known_more bs names (parameters_of next) (own_name_of next ∷ ls) (h (parameters_of next) refl) (known_more bs names (own_name_of next) ls (h (own_name_of next) refl) g)
parameters_known bs names next function_kind.Declaration ls h g = known_more bs names (parameters_of next) ls (h (parameters_of next) refl) g
parameters_known bs names next function_kind.Arrow ls h g = known_more bs names (parameters_of next) ls (h (parameters_of next) refl) g

function_known : (bs : List BindingSite) (names : List Text) (c : Context) (next : ℕ) (f : FunctionKind) (pure strict : Bool) → ((l : Layer) → l.scope ≡ next → Declared bs names l) → Known bs names c.layers → (i : ℕ)
    → Known bs names (of_function c next f pure strict i).layers
function_known bs names c next f pure strict h g i =
    let inner = parameters_known bs names next f c.layers h g in
    either (λ (d : Context). Known bs names d.layers) (i == 0) (at_function_name c next f pure) (if i == 1 then at_parameters c next f strict else in_function c next f strict) (name_known bs names c next f pure g)
    (either (λ (d : Context). Known bs names d.layers) (i == 1) (at_parameters c next f strict) (in_function c next f strict) inner
    (known_more bs names (body_of next) (layers_of_parameters f next c.layers) (h (body_of next) refl) inner))

-- ---- below a switch

cases_known : (bs : List BindingSite) (w : Around) (next : ℕ) (k : Kind) (b : Forest) (ls : List Layer) → fits cases (sort_of k) ≡ true → Declared bs (names_in (item_decls k b (lexical b) ++ [])) (body_of next) → Known bs w.names ls → Known bs (reach w k b) (body_of next ∷ ls)
cases_known bs w next Kind.Cases b ls f h g = scope_known bs (names_in (lexical b)) w.names next ls (λ x d. all_before_none (lexical b) x (h x d)) g
cases_known bs w next (Kind.VariableDeclaration variable.Var) b ls f h g = absurd (true≢false (sym f))
cases_known bs w next (Kind.VariableDeclaration variable.Let) b ls f h g = absurd (true≢false (sym f))
cases_known bs w next (Kind.VariableDeclaration variable.Const) b ls f h g = absurd (true≢false (sym f))
cases_known bs w next (Kind.Function function_kind.Declaration pure) b ls f h g = absurd (true≢false (sym f))
cases_known bs w next (Kind.Function function_kind.Expression pure) b ls f h g = absurd (true≢false (sym f))
cases_known bs w next (Kind.Function function_kind.Arrow pure) b ls f h g = absurd (true≢false (sym f))
cases_known bs w next k b ls f h g = absurd (true≢false (sym f))

module _ (bs : List BindingSite) (w : Around) (p : Place) (c : Context) (next : ℕ) (known : Known bs w.names c.layers) where
  abbrev in_switch : Forest → ℕ → Context
  in_switch a = inside c next Kind.SwitchStatement a

  behind_cases : (a r : Forest) → AllKnown bs w (in_switch a) 2 r
  behind_cases a r = known_from bs w (in_switch a) 2 r (λ i l. subst (λ (d : Context). Known bs w.names d.layers) (sym (not_second i (in_block c next c.strict) (below_it c) l)) known)

  second_known : (a r : Forest) → well_placed (place_below p Kind.SwitchStatement) 1 r ≡ true → Declared bs (names_in (lexical (first_of r))) (body_of next) → AllKnown bs w (in_switch a) 1 r
  second_known a nothing e h = tt
  second_known a (absent r) e h = behind_cases a r
  second_known a (node k n b r) e h = (cases_known bs w next k b c.layers (placed_here (place_below p Kind.SwitchStatement) 1 k n b r e) h known, behind_cases a r)

  switch_known : (a : Forest) → well_placed (place_below p Kind.SwitchStatement) 0 a ≡ true → AgreesAt bs next Kind.SwitchStatement a → AllKnown bs w (in_switch a) 0 a
  switch_known nothing e h = tt
  switch_known (absent r) e h = second_known (absent r) r e (λ x d. h (body_of next) x refl d)
  switch_known (node k n b r) e h =
      (reaches bs w k b c.layers known, second_known (node k n b r) r (placed_behind (place_below p Kind.SwitchStatement) 0 k n b r e) (λ x d. h (body_of next) x refl d))

-- ---- below each node

variables_layers : (c : Context) (how : VariableKind) → (in_variables c how).layers ≡ c.layers
variables_layers c variable.Var = refl
variables_layers c variable.Let = refl
variables_layers c variable.Const = refl

pub variables_known : (bs : List BindingSite) (names : List Text) (c : Context) (how : VariableKind) → Known bs names c.layers → Known bs names (in_variables c how).layers
variables_known bs names c how h = subst (λ ls. Known bs names ls) (sym (variables_layers c how)) h

pub known_below : (bs : List BindingSite) (w : Around) (p : Place) (c : Context) (next : ℕ) (k : Kind) (a : Forest) → fits p (sort_of k) ≡ true → well_placed (place_below p k) 0 a ≡ true → (opens k a ≡ true → AgreesAt bs next k a)
    → Known bs (reach w k a) c.layers → AllKnown bs (entered w k a) (inside c next k a) 0 a
known_below bs w p c next (Kind.Function f pure) a e placed agreed h =
    let own = names_declared (Kind.Function f pure) a in
    all_known bs (in_code w (Kind.Function f pure) a) (inside c next (Kind.Function f pure) a) 0 a
    (function_known bs (own ++ w.names) c next f pure (c.strict || is_strict_function a) (λ l is x d. in_left own w.names x (agreed refl l x is d)) (known_wider bs own w.names c.layers h))
known_below bs w p c next Kind.BlockStatement a e placed agreed h =
    all_known bs (in_block_around w Kind.BlockStatement a) (inside c next Kind.BlockStatement a) 0 a (λ i. scope_known bs (names_in (lexical a)) w.names next c.layers (λ x d. agreed refl (body_of next) x refl d) h)
known_below bs w p c next Kind.ForStatement a e placed agreed h =
    all_known bs (in_block_around w Kind.ForStatement a) (inside c next Kind.ForStatement a) 0 a (λ i. scope_known bs (names_in (lexical (first_of a))) w.names next c.layers (λ x d. agreed refl (body_of next) x refl d) h)
known_below bs w p c next Kind.CatchClause a e placed agreed h =
    let inner = scope_known bs (bound_names (first_of a)) w.names next c.layers (λ x d. agreed refl (body_of next) x refl d) h in
    all_known bs (in_block_around w Kind.CatchClause a) (inside c next Kind.CatchClause a) 0 a
    (λ i. either (λ (d : Context). Known bs (bound_names (first_of a) ++ w.names) d.layers) (i == 0) (declares (in_block c next c.strict) (body_of next) 16 false) (in_block c next c.strict) inner inner)
known_below bs w p c next Kind.SwitchStatement a e placed agreed h = switch_known bs (in_row w Kind.SwitchStatement a) p c next h a placed (agreed refl)
known_below bs w p c next Kind.Cases a e placed agreed h = all_known bs (in_block_around w Kind.Cases a) (inside c next Kind.Cases a) 0 a (λ i. h)
known_below bs w p c next (Kind.VariableDeclaration how) a e placed agreed h = all_known bs (in_row w (Kind.VariableDeclaration how) a) (inside c next (Kind.VariableDeclaration how) a) 0 a (λ i. variables_known bs w.names c how h)
known_below bs w p c next (Kind.ImportDeclaration source) a e placed agreed h = all_known bs (in_row w (Kind.ImportDeclaration source) a) (inside c next (Kind.ImportDeclaration source) a) 0 a (λ i. h)
known_below bs w p c next (Kind.Program source) a e placed agreed h = never_stands p e
known_below bs w p c next (Kind.Class how) a e placed agreed h = never_stands p e
known_below bs w p c next (Kind.PropertyDefinition is_static key) a e placed agreed h = never_stands p e
known_below bs w p c next Kind.StaticBlock a e placed agreed h = never_stands p e
known_below bs w p c next Kind.WithStatement a e placed agreed h = never_stands p e
known_below bs w p c next Kind.ForInStatement a e placed agreed h = never_stands p e
known_below bs w p c next Kind.ForOfStatement a e placed agreed h = never_stands p e
known_below bs w p c next k a e placed agreed h = all_known bs (in_row w k a) (inside c next k a) 0 a (λ i. subst (λ ls. Known bs w.names ls) (sym (kept c next k a i refl).layers) h)
