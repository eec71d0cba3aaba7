-- Declarations that become statements of their values, tried on small programs.
use Rattle.std.proofs.Common.{◌≡◌, ◌∙◌, [], ◌∷◌, List, Some, None, false, true≢false, inl, inr, refl, sym, ap}
use Rattle.js_syntax.specs.declared.kind.FunctionKind.TheVariants as function_kind
use Rattle.js_syntax.specs.declared.kind.VariableKind.{VariableKind}
use Rattle.js_syntax.specs.declared.kind.VariableKind.TheVariants as variable
use Rattle.js_syntax.specs.declared.node_kind.NodeKind.{NodeKind as Kind}
use Rattle.js_syntax.specs.Node.{Forest, nothing, nowhere, joined}
use Rattle.form_rules.specs.Samples.{a_module, over, binds, reads, listed, no, one, does, declares}
use Rattle.scope_rules.specs.Context.{body_of}
use Rattle.scope_rules.specs.Site.{BindingSite, ReferenceSite, sites_of, bindings_among}
use Rattle.scope_rules.specs.Binding.{Binding, named_in, binding_of}
use Rattle.scope_laws.specs.Place.{Around}
use Rattle.steps.specs.Allowed.Edits.{Edit, becomes, value_stays}
use Rattle.steps.specs.Allowed.Free.{IsFree}
use Rattle.steps.specs.Allowed.Rows.{call_of_a, in_with_a, parenthesized}
use Rattle.steps.specs.Allowed.ValueRows.{x, takes_call, in_g, item_of_g, only_item, in_script, behind_export, head_of_loop, ValueOf}
use Rattle.steps.specs.Allowed.ValueStays.{value_is_stated}

-- the declarations of a program
abbrev bound_in : Forest → List BindingSite
bound_in t = bindings_among (sites_of t)

-- a name without a declaration is bound to nothing
no_binding : (r s : ReferenceSite) (bs : List BindingSite) (b : Binding) → binding_of bs s ≡ None → s ≡ r → binding_of bs r ≡ Some b → ⊥
no_binding r s bs b none is e = absurd (cc (sym none ∙ ap (binding_of bs) is ∙ e))

pub var_stays : Edit (a_module (takes_call variable.Var ∷ [])) (a_module (does call_of_a ∷ []))
var_stays = becomes only_item _ _ (value_stays (value_is_stated variable.Var nowhere nowhere nowhere nowhere nowhere nowhere x _ _ refl refl refl refl (record {
  unreferred = λ r h e. elim h [
    | inl q ↦ no_binding r _ (bound_in (a_module (takes_call variable.Var ∷ []))) _ refl q e
    | inr n ↦ n
  ];
  unexported = λ e h s d. h;
})))

pub let_stays : Edit (a_module (takes_call variable.Let ∷ [])) (a_module (does call_of_a ∷ []))
let_stays = becomes only_item _ _ (value_stays (value_is_stated variable.Let nowhere nowhere nowhere nowhere nowhere nowhere x _ _ refl refl refl refl (record {
  unreferred = λ r h e. elim h [
    | inl q ↦ no_binding r _ (bound_in (a_module (takes_call variable.Let ∷ []))) _ refl q e
    | inr n ↦ n
  ];
  unexported = λ e h s d. h;
})))

pub const_stays : Edit (a_module (takes_call variable.Const ∷ [])) (a_module (does call_of_a ∷ []))
const_stays = becomes only_item _ _ (value_stays (value_is_stated variable.Const nowhere nowhere nowhere nowhere nowhere nowhere x _ _ refl refl refl refl (record {
  unreferred = λ r h e. elim h [
    | inl q ↦ no_binding r _ (bound_in (a_module (takes_call variable.Const ∷ []))) _ refl q e
    | inr n ↦ n
  ];
  unexported = λ e h s d. h;
})))

pub in_code_stays : Edit (a_module (in_g (takes_call variable.Var) ∷ [])) (a_module (in_g (does call_of_a) ∷ []))
in_code_stays = becomes item_of_g _ _ (value_stays (value_is_stated variable.Var nowhere nowhere nowhere nowhere nowhere nowhere x _ _ refl refl refl refl (record {
  unreferred = λ r h e. elim h [
    | inl q ↦ no_binding r _ (bound_in (a_module (in_g (takes_call variable.Var) ∷ []))) _ refl q e
    | inr n ↦ n
  ];
  unexported = λ e h s d. h;
})))

-- ---- none of these

pub read_stays : IsFree (a_module (takes_call variable.Var ∷ does (reads x) ∷ [])) (named_in x (body_of 0)) → ⊥
read_stays h = h.unreferred _ (inr (inl refl)) refl

pub exported_stays : (how : VariableKind) → ValueOf behind_export (takes_call how)
exported_stays how y (value_is_stated h n m l j i o name k below stated item in_with own free) = cc

pub head_stays : (how : VariableKind) → ValueOf head_of_loop (takes_call how)
head_stays how y (value_is_stated h n m l j i o name k below stated item in_with own free) = cc

pub shared_stays : (how : VariableKind) → ValueOf in_script (takes_call how)
shared_stays variable.Var y (value_is_stated h n m l j i o name k below stated item in_with own free) = true≢false own
shared_stays variable.Let y (value_is_stated h n m l j i o name k below stated item in_with own free) = true≢false own
shared_stays variable.Const y (value_is_stated h n m l j i o name k below stated item in_with own free) = true≢false own

pub with_stays : (how : VariableKind) → ValueOf in_with_a (takes_call how)
with_stays how y (value_is_stated h n m l j i o name k below stated item in_with own free) = true≢false in_with

pub function_stays : (place : Around) (how : VariableKind) → ValueOf place (declares how (binds x) (over (Kind.Function function_kind.Arrow false) nothing))
function_stays place how y (value_is_stated h n m l j i o name k below stated item in_with own free) = true≢false (sym stated)

pub held_stays : (place : Around) (how : VariableKind) → ValueOf place (declares how (binds x) (parenthesized (over (Kind.Function function_kind.Arrow false) nothing)))
held_stays place how y (value_is_stated h n m l j i o name k below stated item in_with own free) = true≢false (sym stated)

pub literal_stays : (place : Around) (how : VariableKind) → ValueOf place (declares how (binds x) one)
literal_stays place how y (value_is_stated h n m l j i o name k below stated item in_with own free) = true≢false (sym stated)

pub bare_stays : (place : Around) (how : VariableKind) → ValueOf place (declares how (binds x) no)
bare_stays place how y h = elim h [ ]

pub two_stay : (place : Around) (how : VariableKind) → ValueOf place (over (Kind.VariableDeclaration how) (listed Kind.Declarators (over Kind.VariableDeclarator (joined (binds x) call_of_a) ∷ over Kind.VariableDeclarator (joined (binds x) no) ∷ [])))
two_stay place how y h = elim h [ ]
