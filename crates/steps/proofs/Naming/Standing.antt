-- What holds wherever a row stands in a program: whoever refers to a name of the scopes around it holds a reference with the
-- name's binding.
use Rattle.std.proofs.Common.{◌≡◌, ◌∙◌, ◌⊎◌, ◌≤◌, inl, inr, ℕ, suc, ◌+◌, Bool, true, false, ◌||◌, if◌then◌else◌, ◌==◌, List, ◌∷◌, refl, sym, ap, subst, true≢false}
use Rattle.std.proofs.lemmas.Bool.{or_cases}
use Rattle.js_syntax.specs.declared.node_kind.NodeKind.{NodeKind as Kind}
use Rattle.js_syntax.specs.Node.{Forest, nothing, node, absent}
use Rattle.js_syntax.specs.declared.kind.VariableKind.{VariableKind}
use Rattle.js_syntax.specs.declared.kind.VariableKind.TheVariants as variable
use Rattle.js_syntax.specs.declared.kind.FunctionKind.{FunctionKind}
use Rattle.js_syntax.specs.declared.kind.FunctionKind.TheVariants as function_kind
use Rattle.form_rules.specs.Context.{is_strict_function}
use Rattle.js_meaning.specs.Value.{Text}
use Rattle.steps.specs.Names.{refers_at, refers}
use Rattle.steps.specs.Steps.{Around, entered, in_code, in_block as in_block_around, in_row}
use Rattle.scope_rules.specs.declared.layer.Layer.{Layer}
use Rattle.scope_rules.specs.Context.{Context, inside, body_of, own_name_of, in_block, below_it, declares, layers_of_parameters, at_function_name, at_parameters, in_function, in_variables}
use Rattle.scope_rules.specs.Site.{BindingSite, ReferenceSite, opens_one, sites, sites_of, bindings_among, references_among}
use Rattle.scope_rules.specs.Binding.{Binding, is_declared, named_in}
use Rattle.scope_laws.specs.Exact.{Among}
use Rattle.steps.specs.Naming.Placed.{Sort, a_name, the_parameters, the_cases, plain, Place, no_node, names, parameters, code, declared, others, cases, sort_of, place_below, name_place, function_place, fits, well_placed}
use Rattle.steps.specs.Naming.Agreeing.{Agrees, exports}
use Rattle.scope_laws.proofs.Bindings.{Declares}
use Rattle.steps.specs.Naming.Standing.{exported_declarations}
use Rattle.steps.proofs.Naming.Exporting.{is_inner, inner_name, two_inner}
use Rattle.steps.proofs.Naming.Lists.{third, either}
use Rattle.steps.proofs.Naming.Taking.{Kept, kept}
use Rattle.steps.proofs.Naming.Sites.{placed_here, placed_below, placed_behind, never_stands}
use Rattle.steps.proofs.Naming.Referring.{Binds, BindsIn, bound_first, Ready, ready_from, HasReference, refers_found}

abbrev pub declarations_of : Forest → List BindingSite
declarations_of t = bindings_among (sites_of t)

abbrev pub references_of : Forest → List ReferenceSite
references_of t = references_among (sites_of t)

-- what refers in this row to a name that the layer declares is an export of it, or a reference with the name's binding
abbrev pub Answers : Forest → (row : Forest) → Layer → Type 0
Answers t row l = (x : Text) → is_declared (declarations_of t) l x ≡ true → refers x row ≡ true → ((l.scope ≡ 0) × Declares (exported_declarations t) l x) ⊎ HasReference (declarations_of t) (named_in x l) (references_of t)

-- ---- rows without references

no_nodes_refer : (x : Text) (at : ℕ) (t : Forest) → well_placed (λ i. no_node) at t ≡ true → refers x t ≡ true → ⊥
no_nodes_refer x at nothing w e = true≢false (sym e)
no_nodes_refer x at (absent r) w e = no_nodes_refer x (suc at) r w e
no_nodes_refer x at (node k n a r) w e = true≢false (sym w)

name_refers : (x : Text) (k : Kind) (a : Forest) → fits names (sort_of k) ≡ true → well_placed (place_below names k) 0 a ≡ true → refers_at x k a (refers x a) ≡ true → ⊥
name_refers x (Kind.BindingName y) a f w e = no_nodes_refer x 0 a w e
name_refers x (Kind.VariableDeclaration variable.Var) a f w e = true≢false (sym f)
name_refers x (Kind.VariableDeclaration variable.Let) a f w e = true≢false (sym f)
name_refers x (Kind.VariableDeclaration variable.Const) a f w e = true≢false (sym f)
name_refers x (Kind.Function function_kind.Declaration pure) a f w e = true≢false (sym f)
name_refers x (Kind.Function function_kind.Expression pure) a f w e = true≢false (sym f)
name_refers x (Kind.Function function_kind.Arrow pure) a f w e = true≢false (sym f)
name_refers x k a f w e = true≢false (sym f)

names_refer : (x : Text) (at : ℕ) (t : Forest) → well_placed (λ i. names) at t ≡ true → refers x t ≡ true → ⊥
names_refer x at nothing w e = true≢false (sym e)
names_refer x at (absent r) w e = names_refer x (suc at) r w e
names_refer x at (node k n a r) w e = elim (or_cases (refers_at x k a (refers x a)) (refers x r) e) [
  | inl g ↦ name_refers x k a (placed_here (λ i. names) at k n a r w) (placed_below (λ i. names) at k n a r w) g
  | inr g ↦ names_refer x (suc at) r (placed_behind (λ i. names) at k n a r w) g
]

parameters_refer : (x : Text) (k : Kind) (a : Forest) → fits parameters (sort_of k) ≡ true → well_placed (place_below parameters k) 0 a ≡ true → refers_at x k a (refers x a) ≡ true → ⊥
parameters_refer x Kind.Parameters a f w e = names_refer x 0 a w e
parameters_refer x (Kind.VariableDeclaration variable.Var) a f w e = true≢false (sym f)
parameters_refer x (Kind.VariableDeclaration variable.Let) a f w e = true≢false (sym f)
parameters_refer x (Kind.VariableDeclaration variable.Const) a f w e = true≢false (sym f)
parameters_refer x (Kind.Function function_kind.Declaration pure) a f w e = true≢false (sym f)
parameters_refer x (Kind.Function function_kind.Expression pure) a f w e = true≢false (sym f)
parameters_refer x (Kind.Function function_kind.Arrow pure) a f w e = true≢false (sym f)
parameters_refer x k a f w e = true≢false (sym f)

own_name_refers : (f : FunctionKind) (x : Text) (k : Kind) (a : Forest) → fits (name_place f) (sort_of k) ≡ true → well_placed (place_below (name_place f) k) 0 a ≡ true → refers_at x k a (refers x a) ≡ true → ⊥
own_name_refers function_kind.Declaration x k a f w e = name_refers x k a f w e
own_name_refers function_kind.Expression x k a f w e = name_refers x k a f w e
own_name_refers function_kind.Arrow x k a f w e = true≢false (sym f)

-- ---- the innermost layer declares as the innermost block does

pub record Top (c : Context) : Type 0 where
  pub rest : List Layer
  pub is : c.layers ≡ c.block ∷ rest

top_kept : (d c : Context) → Kept d c → Top c → Top d
top_kept d c k h = record { rest = h.rest; is = k.layers ∙ h.is ∙ ap (λ l. l ∷ h.rest) (sym k.block) }

top_name : (c : Context) (next : ℕ) (f : FunctionKind) (pure : Bool) → Top c → Top (at_function_name c next f pure)
top_name c next function_kind.Declaration pure h = record { rest = h.rest; is = h.is }
top_name c next function_kind.Expression pure h = record { rest = h.rest; is = h.is }
top_name c next function_kind.Arrow pure h = record { rest = h.rest; is = h.is }

top_parameters : (c : Context) (next : ℕ) (f : FunctionKind) (strict : Bool) → Top (at_parameters c next f strict)
top_parameters c next function_kind.Declaration strict = record { rest = c.layers; is = refl }
top_parameters c next function_kind.Expression strict = record { rest = own_name_of next ∷ c.layers; is = refl }
top_parameters c next function_kind.Arrow strict = record { rest = c.layers; is = refl }

top_variables : (c : Context) (how : VariableKind) → Top c → Top (in_variables c how)
top_variables c variable.Var h = record { rest = h.rest; is = h.is }
top_variables c variable.Let h = record { rest = h.rest; is = h.is }
top_variables c variable.Const h = record { rest = h.rest; is = h.is }

pub inside_top : (p : Place) (c : Context) (next : ℕ) (k : Kind) (a : Forest) (i : ℕ) → fits p (sort_of k) ≡ true → Top c → Top (inside c next k a i)
inside_top p c next (Kind.Function f pure) a i e h =
    let strict = c.strict || is_strict_function a in
    either Top (i == 0) (at_function_name c next f pure) (if i == 1 then at_parameters c next f strict else in_function c next f strict) (top_name c next f pure h)
    (either Top (i == 1) (at_parameters c next f strict) (in_function c next f strict) (top_parameters c next f strict) (record { rest = layers_of_parameters f next c.layers; is = refl }))
inside_top p c next Kind.BlockStatement a i e h = record { rest = c.layers; is = refl }
inside_top p c next Kind.ForStatement a i e h = record { rest = c.layers; is = refl }
inside_top p c next Kind.CatchClause a i e h = either Top (i == 0) (declares (in_block c next c.strict) (body_of next) 16 false) (in_block c next c.strict) (record { rest = c.layers; is = refl }) (record { rest = c.layers; is = refl })
inside_top p c next Kind.SwitchStatement a i e h = either Top (i == 1) (in_block c next c.strict) (below_it c) (record { rest = c.layers; is = refl }) (record { rest = h.rest; is = h.is })
inside_top p c next (Kind.VariableDeclaration how) a i e h = top_variables c how h
inside_top p c next (Kind.ImportDeclaration source) a i e h = record { rest = h.rest; is = h.is }
inside_top p c next (Kind.Program source) a i e h = never_stands p e
inside_top p c next (Kind.Class how) a i e h = never_stands p e
inside_top p c next (Kind.PropertyDefinition is_static key) a i e h = never_stands p e
inside_top p c next Kind.StaticBlock a i e h = never_stands p e
inside_top p c next Kind.WithStatement a i e h = never_stands p e
inside_top p c next Kind.ForInStatement a i e h = never_stands p e
inside_top p c next Kind.ForOfStatement a i e h = never_stands p e
inside_top p c next k a i e h = top_kept (inside c next k a i) c (kept c next k a i refl) h

-- ---- what holds of the nodes of a row

-- names and parameters stand below the node that makes the scope around which they may declare, and cases below their switch
abbrev pub needs_block : Sort → Bool
needs_block a_name = false
needs_block the_parameters = false
needs_block the_cases = false
needs_block s = true

abbrev pub needs_variables : Sort → Bool
needs_variables a_name = false
needs_variables the_parameters = false
needs_variables s = true

pub record Settled (t : Forest) (w : Around) (c : Context) (s : Sort) : Type 0 where
  pub block : needs_block s ≡ true → Answers t w.block c.block
  pub variables : needs_variables s ≡ true → Answers t w.variables c.variables

abbrev pub AllSettled : Forest → Around → (cs : ℕ → Context) → (at : ℕ) → Forest → Type 0
AllSettled t w cs at nothing = Unit {0}
AllSettled t w cs at (absent r) = AllSettled t w cs (suc at) r
AllSettled t w cs at (node k n a r) = Settled t w (cs at) (sort_of k) × AllSettled t w cs (suc at) r

pub settled_from : (t : Forest) (w : Around) (ps : ℕ → Place) (cs : ℕ → Context) (at : ℕ) (row : Forest) → ((i : ℕ) (s : Sort) → fits (ps i) s ≡ true → Settled t w (cs i) s) → well_placed ps at row ≡ true → AllSettled t w cs at row
settled_from t w ps cs at nothing h e = tt
settled_from t w ps cs at (absent r) h e = settled_from t w ps cs (suc at) r h e
settled_from t w ps cs at (node k n a r) h e = (h at (sort_of k) (placed_here ps at k n a r e), settled_from t w ps cs (suc at) r h (placed_behind ps at k n a r e))

-- the places at which nothing is asked
names_settle : (t : Forest) (w : Around) (c : Context) (s : Sort) → fits names s ≡ true → Settled t w c s
names_settle t w c a_name f = record { block = λ e. absurd (true≢false (sym e)); variables = λ e. absurd (true≢false (sym e)) }
names_settle t w c s f = absurd (true≢false (sym f))

parameters_settle : (t : Forest) (w : Around) (c : Context) (s : Sort) → fits parameters s ≡ true → Settled t w c s
parameters_settle t w c the_parameters f = record { block = λ e. absurd (true≢false (sym e)); variables = λ e. absurd (true≢false (sym e)) }
parameters_settle t w c s f = absurd (true≢false (sym f))

own_name_settles : (t : Forest) (w : Around) (c : Context) (f : FunctionKind) (s : Sort) → fits (name_place f) s ≡ true → Settled t w c s
own_name_settles t w c function_kind.Declaration s f = names_settle t w c s f
own_name_settles t w c function_kind.Expression s f = names_settle t w c s f
own_name_settles t w c function_kind.Arrow s f = absurd (true≢false (sym f))

cases_settle : (t : Forest) (w : Around) (c : Context) (s : Sort) → Answers t w.variables c.variables → fits cases s ≡ true → Settled t w c s
cases_settle t w c the_cases h f = record { block = λ e. absurd (true≢false (sym e)); variables = λ e. h }
cases_settle t w c s h f = absurd (true≢false (sym f))

pub record Facts (t : Forest) (ps : ℕ → Place) (cs : ℕ → Context) (next : ℕ) (a : Forest) (l : Layer) : Type 0 where
  pub placed : well_placed ps 0 a ≡ true
  pub agreed : Agrees (declarations_of t) next a
  pub references : (r : ReferenceSite) → Among r (references_among (sites cs 0 next a)) → Among r (references_of t)
  -- what the row exports is of the layer
  pub exported : (x : Text) → exports x a ≡ true → (l.scope ≡ 0) × Declares (exported_declarations t) l x

answers : (t : Forest) (ps : ℕ → Place) (cs : ℕ → Context) (next : ℕ) (a : Forest) (l : Layer) → Facts t ps cs next a l → ((x : Text) → is_declared (declarations_of t) l x ≡ true → Ready (declarations_of t) x (named_in x l) cs 0 a) → Answers t a l
answers t ps cs next a l facts ready x e h = elim (refers_found (declarations_of t) x (named_in x l) ps cs 0 next a facts.placed facts.agreed (ready x e) h) [
  | inl g ↦ inl (facts.exported x g)
  | inr g ↦ inr (record { reference = g.reference; stands = facts.references g.reference g.stands; binds = g.binds })
]

-- below what makes a block
pub answers_in : (t : Forest) (ps : ℕ → Place) (cs : ℕ → Context) (next : ℕ) (a : Forest) (l : Layer) → Facts t ps cs next a l → ((i : ℕ) → (cs i).block ≡ l) → ((i : ℕ) → Top (cs i)) → Answers t a l
answers_in t ps cs next a l facts is tops = answers t ps cs next a l facts
    (λ x e. ready_from (declarations_of t) x (named_in x l) cs 0 a (λ i low. subst (BindsIn (declarations_of t) x (named_in x l)) (sym ((tops i).is ∙ ap (λ m. m ∷ (tops i).rest) (is i))) (bound_first (declarations_of t) x l (tops i).rest e)))

-- below a function
function_ready : (t : Forest) (x : Text) (binding : Binding) (f : FunctionKind) (cs : ℕ → Context) (a : Forest) → well_placed (function_place f) 0 a ≡ true → ((i : ℕ) → 2 ≤ i → Binds (declarations_of t) x binding (cs i)) → Ready (declarations_of t) x binding cs 0 a
function_ready t x binding f cs a w h = first_ready a w
  where
    second_ready : (u : Forest) → well_placed (function_place f) 1 u ≡ true → Ready (declarations_of t) x binding cs 1 u
    second_ready nothing e = tt
    second_ready (absent r) e = ready_from (declarations_of t) x binding cs 2 r h
    second_ready (node k n d r) e = (λ g. absurd (parameters_refer x k d (placed_here (function_place f) 1 k n d r e) (placed_below (function_place f) 1 k n d r e) g), ready_from (declarations_of t) x binding cs 2 r h)

    first_ready : (u : Forest) → well_placed (function_place f) 0 u ≡ true → Ready (declarations_of t) x binding cs 0 u
    first_ready nothing e = tt
    first_ready (absent r) e = second_ready r e
    first_ready (node k n d r) e = (λ g. absurd (own_name_refers f x k d (placed_here (function_place f) 0 k n d r e) (placed_below (function_place f) 0 k n d r e) g), second_ready r (placed_behind (function_place f) 0 k n d r e))

answers_in_function : (t : Forest) (c : Context) (next : ℕ) (f : FunctionKind) (pure : Bool) (a : Forest) → Facts t (function_place f) (inside c next (Kind.Function f pure) a) (next + 1) a (body_of next) → Answers t a (body_of next)
answers_in_function t c next f pure a facts = answers t (function_place f) (inside c next (Kind.Function f pure) a) (next + 1) a (body_of next) facts
    (λ x e. function_ready t x (named_in x (body_of next)) f (inside c next (Kind.Function f pure) a) a facts.placed
    (λ i low. subst (Binds (declarations_of t) x (named_in x (body_of next))) (sym (third i (at_function_name c next f pure) (at_parameters c next f (c.strict || is_strict_function a)) (in_function c next f (c.strict || is_strict_function a)) low))
    (bound_first (declarations_of t) x (body_of next) (layers_of_parameters f next c.layers) e)))

settled_in_function : (t : Forest) (w : Around) (f : FunctionKind) (pure : Bool) (a : Forest) (next : ℕ) (d e c : Context) → Answers t a (body_of next) → c.block ≡ body_of next → c.variables ≡ body_of next → (b₀ b₁ : Bool) (s : Sort)
    → fits (if b₀ then name_place f else if b₁ then parameters else code) s ≡ true → Settled t (in_code w (Kind.Function f pure) a) (if b₀ then d else if b₁ then e else c) s
settled_in_function t w f pure a next d e c h is_block is_variables true b₁ s g = own_name_settles t (in_code w (Kind.Function f pure) a) d f s g
settled_in_function t w f pure a next d e c h is_block is_variables false true s g = parameters_settle t (in_code w (Kind.Function f pure) a) e s g
settled_in_function t w f pure a next d e c h is_block is_variables false false s g = record { block = λ n. subst (Answers t a) (sym is_block) h; variables = λ n. subst (Answers t a) (sym is_variables) h }

settled_in_switch : (t : Forest) (w : Around) (a : Forest) (next : ℕ) (c : Context) → Settled t w c plain → (b : Bool) (s : Sort) → fits (if b then cases else others) s ≡ true → Settled t (in_row w Kind.SwitchStatement a) (if b then in_block c next c.strict else below_it c) s
settled_in_switch t w a next c h true s g = cases_settle t (in_row w Kind.SwitchStatement a) (in_block c next c.strict) s (h.variables refl) g
settled_in_switch t w a next c h false s g = record { block = λ n. h.block refl; variables = λ n. h.variables refl }

settled_in_declaration : (t : Forest) (w : Around) (how : VariableKind) (a : Forest) (c : Context) (s : Sort) → Settled t w c (sort_of (Kind.VariableDeclaration how)) → Settled t (in_row w (Kind.VariableDeclaration how) a) (in_variables c how) s
settled_in_declaration t w variable.Var a c s h = record { block = λ n. h.block refl; variables = λ n. h.variables refl }
settled_in_declaration t w variable.Let a c s h = record { block = λ n. h.block refl; variables = λ n. h.variables refl }
settled_in_declaration t w variable.Const a c s h = record { block = λ n. h.block refl; variables = λ n. h.variables refl }

settled_kept : (t : Forest) (w : Around) (k j : Kind) (a : Forest) (d c : Context) (s : Sort) → Kept d c → needs_block (sort_of j) ≡ true → needs_variables (sort_of j) ≡ true → Settled t w c (sort_of j) → Settled t (in_row w k a) d s
settled_kept t w k j a d c s same b v h = record { block = λ n. subst (Answers t w.block) (sym same.block) (h.block b); variables = λ n. subst (Answers t w.variables) (sym same.variables) (h.variables v) }

settled_block : (t : Forest) (w : Around) (k : Kind) (a : Forest) (d c : Context) (s : Sort) → d.variables ≡ c.variables → Answers t a d.block → Answers t w.variables c.variables → Settled t (in_block_around w k a) d s
settled_block t w k a d c s is h v = record { block = λ n. h; variables = λ n. subst (Answers t w.variables) (sym is) v }

inner_function : (f : FunctionKind) (i : ℕ) → is_inner (function_place f i) ≡ true
inner_function f i = two_inner (i == 0) (name_place f) (if i == 1 then parameters else code) (inner_name f) (two_inner (i == 1) parameters code refl refl)

-- below each node
pub settled_below : (t : Forest) (w : Around) (p : Place) (c : Context) (next : ℕ) (k : Kind) (a : Forest) → fits p (sort_of k) ≡ true → Top c → Settled t w c (sort_of k)
    → ((l : Layer) → ((i : ℕ) → is_inner (place_below p k i) ≡ true) → Facts t (place_below p k) (inside c next k a) (next + opens_one k a) a l) → (i : ℕ) (s : Sort) → fits (place_below p k i) s ≡ true → Settled t (entered w k a) (inside c next k a i) s
settled_below t w p c next (Kind.Function f pure) a e top h facts i s g =
    settled_in_function t w f pure a next (at_function_name c next f pure) (at_parameters c next f (c.strict || is_strict_function a)) (in_function c next f (c.strict || is_strict_function a)) (answers_in_function t c next f pure a (facts (body_of next) (inner_function f))) refl refl (i == 0) (i == 1) s g
settled_below t w p c next Kind.BlockStatement a e top h facts i s g =
    settled_block t w Kind.BlockStatement a (in_block c next c.strict) c s refl (answers_in t (place_below p Kind.BlockStatement) (inside c next Kind.BlockStatement a) (next + 1) a (body_of next) (facts (body_of next) (λ j. refl)) (λ j. refl) (λ j. inside_top p c next Kind.BlockStatement a j e top)) (h.variables refl)
settled_below t w p c next Kind.ForStatement a e top h facts i s g =
    settled_block t w Kind.ForStatement a (in_block c next c.strict) c s refl (answers_in t (place_below p Kind.ForStatement) (inside c next Kind.ForStatement a) (next + 1) a (body_of next) (facts (body_of next) (λ j. two_inner (j == 0) declared others refl refl)) (λ j. refl) (λ j. inside_top p c next Kind.ForStatement a j e top)) (h.variables refl)
settled_below t w p c next Kind.CatchClause a e top h facts i s g =
    let inner = answers_in t (place_below p Kind.CatchClause) (inside c next Kind.CatchClause a) (next + 1) a (body_of next) (facts (body_of next) (λ j. two_inner (j == 0) names others refl refl))
    (λ j. either (λ (d : Context). d.block ≡ body_of next) (j == 0) (declares (in_block c next c.strict) (body_of next) 16 false) (in_block c next c.strict) refl refl) (λ j. inside_top p c next Kind.CatchClause a j e top) in
    either (λ d. Settled t (in_block_around w Kind.CatchClause a) d s) (i == 0) (declares (in_block c next c.strict) (body_of next) 16 false) (in_block c next c.strict)
    (settled_block t w Kind.CatchClause a (declares (in_block c next c.strict) (body_of next) 16 false) c s refl inner (h.variables refl)) (settled_block t w Kind.CatchClause a (in_block c next c.strict) c s refl inner (h.variables refl))
settled_below t w p c next Kind.SwitchStatement a e top h facts i s g = settled_in_switch t w a next c h (i == 1) s g
settled_below t w p c next Kind.Cases a e top h facts i s g =
    settled_block t w Kind.Cases a (below_it c) c s refl (answers_in t (place_below p Kind.Cases) (inside c next Kind.Cases a) (next + 0) a c.block (facts c.block (λ j. refl)) (λ j. refl) (λ j. inside_top p c next Kind.Cases a j e top)) (h.variables refl)
settled_below t w p c next (Kind.VariableDeclaration how) a e top h facts i s g = settled_in_declaration t w how a c s h
settled_below t w p c next (Kind.ImportDeclaration source) a e top h facts i s g = record { block = λ n. h.block refl; variables = λ n. h.variables refl }
settled_below t w p c next (Kind.BindingName x) a e top h facts i s g = absurd (true≢false (sym g))
settled_below t w p c next Kind.Parameters a e top h facts i s g = names_settle t (in_row w Kind.Parameters a) (below_it c) s g
settled_below t w p c next (Kind.Program source) a e top h facts i s g = never_stands p e
settled_below t w p c next (Kind.Class how) a e top h facts i s g = never_stands p e
settled_below t w p c next (Kind.PropertyDefinition is_static key) a e top h facts i s g = never_stands p e
settled_below t w p c next Kind.StaticBlock a e top h facts i s g = never_stands p e
settled_below t w p c next Kind.WithStatement a e top h facts i s g = never_stands p e
settled_below t w p c next Kind.ForInStatement a e top h facts i s g = never_stands p e
settled_below t w p c next Kind.ForOfStatement a e top h facts i s g = never_stands p e
settled_below t w p c next k a e top h facts i s g = settled_kept t w k k a (inside c next k a i) c s (kept c next k a i refl) refl refl h
