-- A value that becomes another in a branch that isn't taken is a change that no run shows.
use Rattle.std.proofs.Common.{◌≡◌, ◌∙◌, ◌⊎◌, inl, inr, List, [], ◌∷◌, ◌++◌, Bool, true, false, ◌&&◌, ◌||◌, Some, refl, sym, ap, subst, true≢false}
use Rattle.std.proofs.lemmas.Bool.{or_cases}
use Rattle.js_syntax.specs.Class.{root}
use Rattle.js_syntax.specs.declared.node_kind.NodeKind.{NodeKind as Kind}
use Rattle.js_syntax.specs.declared.kind.VariableKind.TheVariants as variable
use Rattle.js_syntax.specs.Node.{Note, Forest, Tree, node}
use Rattle.js_syntax.proofs.Truth.{first_of_both, second_of_both}
use Rattle.js_meaning.specs.Value.{Text}
use Rattle.js_meaning.specs.Scope.{Decl, names_of, bound_names, vars_of, var_names, specifier_decls, import_decls}
use Rattle.js_meaning_near.specs.Purpose.{Purposes, for_values, purpose_here, purposes_behind, wanted_below}
use Rattle.js_meaning_near.specs.Near.{hoists_nothing, is_row, Row as NearRow, fields, row_below as near_row_below}
use Rattle.js_meaning_near.specs.Local.{Local, in_below, in_rest, in_absent}
use Rattle.json_shape.specs.Shape.{one, Plan, these, first_place, Stand, Fits}
use Rattle.json_shape.specs.Shape as shape
use Rattle.scope_laws.specs.Place.{Around, first, behind, behind_none, under, plug}
use Rattle.steps.specs.Allowed.Untaken.{begins_untaken}
use Rattle.steps.specs.Allowed.UnrunValue.{passes, is_unrun}
use Rattle.steps.proofs.Fit.Holding.{is_sound, planned_below}
use Rattle.steps.proofs.Fit.Passing.{plan_passes, first_passes, behind_passes}
use Rattle.steps.specs.Owed.Owed.{is_read_name}
use Rattle.steps.proofs.Owed.Made.{MadeBy, is_single, made_at}
use Rattle.steps.proofs.Owed.PartRuns.{reads_same}
use Rattle.steps.proofs.Owed.UntakenRuns.{put_some, begins}

no_kind : {A : Type 0} → false ≡ true → A
no_kind e = absurd (true≢false (sym e))

-- rows that declare the same around them
record Same (t u : Forest) : Type 0 where
  vars : var_names t ≡ var_names u
  imports : (source : Text) → import_decls source t ≡ import_decls source u
  bound : bound_names t ≡ bound_names u

same_behind : (k : Kind) (n : Note) (b : Forest) {t u : Forest} → Same t u → Same (node k n b t) (node k n b u)
same_behind k n b o = record { vars = ap (λ v. vars_of k b (var_names b) ++ v) o.vars; imports = λ source. ap (λ v. specifier_decls source k b (import_decls source b) ++ v) (o.imports source); bound = ap (λ v. names_of k (bound_names b) ++ v) o.bound }

-- what a node hands on of what lies below it
record Hands (k : Kind) : Type 0 where
  vars : (a b : Forest) (l : List Text) → bound_names a ≡ bound_names b → vars_of k a l ≡ vars_of k b l
  imports : (source : Text) (a b : Forest) (l : List Decl) → specifier_decls source k a l ≡ specifier_decls source k b l

hands : (k : Kind) → passes k ≡ true → Hands k
hands (Kind.VariableDeclaration variable.Var) h = record { vars = λ a b l e. ap (λ v. v ++ l) e; imports = λ source a b l. refl }
hands (Kind.VariableDeclaration how) h = record { vars = λ a b l e. refl; imports = λ source a b l. refl }
hands (Kind.ImportSpecifier name) h = no_kind h
hands Kind.ImportDefaultSpecifier h = no_kind h
hands Kind.ImportNamespaceSpecifier h = no_kind h
hands k h = record { vars = λ a b l e. refl; imports = λ source a b l. refl }

same_under : (k : Kind) (n : Note) (rest : Forest) {t u : Forest} → passes k ≡ true → Same t u → Same (node k n t rest) (node k n u rest)
same_under k n rest {t} {u} h o =
    let it = hands k h in
    record {
      vars = ap (λ v. v ++ var_names rest) (ap (vars_of k t) o.vars ∙ it.vars t u (var_names u) o.bound);
      imports = λ source. ap (λ v. v ++ import_decls source rest) (ap (specifier_decls source k t) (o.imports source) ∙ it.imports source t u (import_decls source u));
      bound = ap (λ v. names_of k v ++ bound_names rest) o.bound;
    }

-- nodes that declare nothing
pub record DeclareNothing (x y : Tree) : Type 0 where
  pub vars : vars_of x.kind x.below (var_names x.below) ≡ vars_of y.kind y.below (var_names y.below)
  pub imports : (source : Text) → specifier_decls source x.kind x.below (import_decls source x.below) ≡ specifier_decls source y.kind y.below (import_decls source y.below)
  pub bound : names_of x.kind (bound_names x.below) ≡ names_of y.kind (bound_names y.below)

module _ (x y : Tree) (old_hoists : hoists_nothing x.kind ≡ true) (unread : is_read_name x.kind ≡ false) (hoists : hoists_nothing y.kind ≡ true) (alike : DeclareNothing x y) where
  local_unrun : (us : Purposes) (o : NearRow) (a : Around) (u : Bool) → is_unrun u a ≡ true → (plan : Plan) → plan_passes is_sound plan ≡ true → Stand plan (plug a (Some x))
      → ((u ≡ true) × Same (plug a (Some x)) (plug a (Some y))) ⊎ Local us o (plug a (Some x)) (plug a (Some y))
  local_unrun us o (first rest) u is plan h st =
      inl (is, record { vars = ap (λ v. v ++ var_names rest) alike.vars; imports = λ source. ap (λ v. v ++ import_decls source rest) (alike.imports source); bound = ap (λ v. v ++ bound_names rest) alike.bound })
  local_unrun us o (behind k n b a) u is plan h st =
      elim (local_unrun (purposes_behind us) o a u is (shape.behind plan k) (behind_passes is_sound plan k h) st.1) [
        | inl found ↦ inl (found.0, same_behind k n b found.1)
        | inr change ↦ inr (in_rest change)
      ]
  local_unrun us o (behind_none a) u is plan h st =
      elim (local_unrun (purposes_behind us) o a u is (shape.behind plan Kind.Hole) (behind_passes is_sound plan Kind.Hole h) st.1) [
        | inl found ↦ inl (found.0, record { vars = found.1.vars; imports = found.1.imports; bound = found.1.bound })
        | inr change ↦ inr (in_absent change)
      ]
  local_unrun us o (under k n a rest) u is plan h st =
      let planned = planned_below (plug a (Some x)) (first_place plan) k st.0 in
      let single : is_single k ≡ true → MadeBy k (plug a (Some x)) = λ s. made_at (plug a (Some x)) k s (first_place plan) (first_passes is_sound plan refl h) st.0 in
      elim (local_unrun (wanted_below (purpose_here us (is_row rest)) k) (near_row_below k) a (u && passes k || begins_untaken k a) is planned.0 planned.1 planned.2) [
        | inl found ↦ elim (or_cases (u && passes k) (begins_untaken k a) found.0) [
          | inl around ↦ inl (first_of_both u (passes k) around, same_under k n rest (second_of_both u (passes k) around) found.1)
          | inr here ↦ inr (subst (λ t. Local us o (node k n (plug a (Some x)) rest) (node k n t rest)) (put_some y a)
              (begins x (Some y) us o k n a rest here single (record { vars = found.1.vars ∙ ap var_names (sym (put_some y a)); imports = λ source. found.1.imports source ∙ ap (import_decls source) (sym (put_some y a)) })))
        ]
        | inr change ↦ inr (in_below (reads_same x y old_hoists unread hoists (inr alike.bound) k a single) change)
      ]

  pub unrun_is_local : (a : Around) → is_unrun false a ≡ true → Fits root (plug a (Some x)) → Local for_values fields (plug a (Some x)) (plug a (Some y))
  unrun_is_local a is fits =
      elim (local_unrun for_values fields a false is (these (one root ∷ [])) refl fits) [
        | inl found ↦ absurd (true≢false (sym found.0))
        | inr change ↦ change
      ]
