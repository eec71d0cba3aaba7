-- An item of a branch that isn't taken that leaves its list is a change that no run shows.
use Rattle.std.proofs.Common.{◌≡◌, ◌∙◌, ◌⊎◌, inl, inr, List, [], ◌∷◌, ◌++◌, Bool, true, false, ◌&&◌, ◌||◌, Option, Some, None, refl, sym, ap, subst, true≢false}
use Rattle.std.proofs.lemmas.Bool.{or_cases}
use Rattle.js_syntax.specs.Class.{root, statement, expression}
use Rattle.js_syntax.specs.declared.node_kind.NodeKind.{NodeKind as Kind}
use Rattle.js_syntax.specs.Hint.{has, is_private}
use Rattle.js_syntax.specs.Node.{Note, Forest, Tree, nothing, node, absent}
use Rattle.js_syntax.specs.Table.{Row, an_if_statement, fields_of}
use Rattle.js_syntax.proofs.Truth.{first_of_both, second_of_both}
use Rattle.js_meaning.specs.Value.{Text}
use Rattle.js_meaning.specs.Scope.{Decl, vars_of, var_names, specifier_decls, import_decls}
use Rattle.js_meaning_near.specs.Purpose.{Purposes, for_values, purpose_here, purposes_behind, wanted_below}
use Rattle.js_meaning_near.specs.Near.{is_row, Row as NearRow, fields, row_below as near_row_below}
use Rattle.js_meaning_near.specs.Local.{DeclaresNothing, IsField, for_part, Local, at_place, in_below, in_rest, in_absent}
use Rattle.json_shape.specs.Shape.{Values, kind_in, one, maybe_one, places, Plan, these, first_place, Stand, Fits}
use Rattle.json_shape.specs.Shape as shape
use Rattle.known_tests.proofs.ByForm.{truth_gives}
use Rattle.known_tests.proofs.Taken.{consequent_changes, alternate_changes}
use Rattle.min_pass.specs.declared.around.Around.{Around as Asked}
use Rattle.min_pass.specs.declared.around.Row.TheVariants.{Items as items}
use Rattle.min_pass.specs.Around.{entered as asked_below, outermost as asked_of_program}
use Rattle.scope_laws.specs.Place.{Around, first, behind, behind_none, under, plug}
use Rattle.scope_laws.specs.Lists.{without}
use Rattle.steps.specs.Allowed.Places.{asked_at, IsItem}
use Rattle.steps.specs.Allowed.Untaken.{truth_given, is_known, leads_to_untaken, begins_untaken, runs_inside, is_untaken}
use Rattle.steps.proofs.Fit.Holding.{is_sound, planned_below}
use Rattle.steps.proofs.Fit.Passing.{plan_passes, first_passes, behind_passes}
use Rattle.steps.specs.KeepForm.Part.{is_statement}
use Rattle.steps.proofs.Owed.LeftRuns.{reads_same}
use Rattle.steps.proofs.Owed.Made.{MadeBy, is_single, made_at}

-- ---- outside of a row that never runs it shows what it declares there

pub record Outside (t u : Forest) : Type 0 where
  pub vars : var_names t ≡ var_names u
  pub imports : (source : Text) → import_decls source t ≡ import_decls source u

no_kind : {A : Type 0} → false ≡ true → A
no_kind e = absurd (true≢false (sym e))

vars_inside : (k : Kind) (a : Forest) (l : List Text) → runs_inside k ≡ true → vars_of k a l ≡ l
vars_inside (Kind.VariableDeclaration how) a l h = no_kind h
vars_inside (Kind.Function f pure) a l h = no_kind h
vars_inside (Kind.Class c) a l h = no_kind h
vars_inside k a l h = refl

imports_inside : (source : Text) (k : Kind) (a : Forest) (l : List Decl) → runs_inside k ≡ true → specifier_decls source k a l ≡ l
imports_inside source (Kind.ImportSpecifier name) a l h = no_kind h
imports_inside source Kind.ImportDefaultSpecifier a l h = no_kind h
imports_inside source Kind.ImportNamespaceSpecifier a l h = no_kind h
imports_inside source k a l h = refl

pub outside_behind : (k : Kind) (n : Note) (b : Forest) {t u : Forest} → Outside t u → Outside (node k n b t) (node k n b u)
outside_behind k n b o = record { vars = ap (λ v. vars_of k b (var_names b) ++ v) o.vars; imports = λ source. ap (λ v. specifier_decls source k b (import_decls source b) ++ v) (o.imports source) }

pub outside_under : (k : Kind) (n : Note) (rest : Forest) {t u : Forest} → runs_inside k ≡ true → Outside t u → Outside (node k n t rest) (node k n u rest)
outside_under k n rest {t} {u} h o = record {
  vars = ap (λ v. v ++ var_names rest) (vars_inside k t (var_names t) h ∙ o.vars ∙ sym (vars_inside k u (var_names u) h));
  imports = λ source. ap (λ v. v ++ import_decls source rest) (imports_inside source k t (import_decls source t) h ∙ o.imports source ∙ sym (imports_inside source k u (import_decls source u) h));
}

-- ---- below an `if`

pub known_so : (b : Bool) (o : Option Bool) → is_known (Some b) o ≡ true → o ≡ Some b
known_so true (Some true) h = refl
known_so false (Some false) h = refl
known_so true (Some false) h = no_kind h
known_so false (Some true) h = no_kind h
known_so true None h = no_kind h
known_so false None h = no_kind h

abbrev is_if : Kind → Bool
is_if Kind.IfStatement = true
is_if k = false

abbrev Parts : Plan
Parts = these (one expression ∷ one statement ∷ maybe_one statement ∷ [])

row_of_if : (r : Row) (vs : Values (fields_of r)) (private : Bool) (a : Forest) → Kind.IfStatement ≡ kind_in r vs → Stand (these (places private (fields_of r) vs)) a → Stand Parts a
row_of_if an_if_statement vs private a is st = st
row_of_if r vs private a is st = absurd (true≢false (ap is_if is))

if_parts : (a : Forest) → MadeBy Kind.IfStatement a → Stand Parts a
if_parts a made = row_of_if made.row made.values (has is_private a) a made.is made.stands

no_more : (t : Forest) → Stand (these []) t → t ≡ nothing
no_more nothing st = refl
no_more (absent r) st = absurd st.0
no_more (node k n a r) st = absurd st.0

one_field : (t : Forest) → Stand (these (maybe_one statement ∷ [])) t → IsField t
one_field nothing st = absurd st
one_field (absent r) st = subst (λ u. IsField (absent u)) (sym (no_more r st.1)) tt
one_field (node k n a r) st = subst (λ u. IsField (node k n a u)) (sym (no_more r st.1)) tt

-- a place with another node in it, or without one in its row
abbrev pub put : Option Tree → Around → Forest
put (Some y) (first rest) = node y.kind y.note y.below rest
put None (first rest) = rest
put o (behind k n b a) = node k n b (put o a)
put o (behind_none a) = absent (put o a)
put o (under k n a rest) = node k n (put o a) rest

put_none : (a : Around) → put None a ≡ without a
put_none (first rest) = refl
put_none (behind k n b a) = ap (λ t. node k n b t) (put_none a)
put_none (behind_none a) = ap absent (put_none a)
put_none (under k n a rest) = ap (λ t. node k n t rest) (put_none a)

pub put_some : (y : Tree) (a : Around) → put (Some y) a ≡ plug a (Some y)
put_some y (first rest) = refl
put_some y (behind k n b a) = ap (λ t. node k n b t) (put_some y a)
put_some y (behind_none a) = ap absent (put_some y a)
put_some y (under k n a rest) = ap (λ t. node k n t rest) (put_some y a)

module _ (x : Tree) (z : Option Tree) where
  branch_changes : (us : Purposes) (o : NearRow) (n : Note) (a : Around) (rest : Forest) → leads_to_untaken a ≡ true → Stand Parts (plug a (Some x)) → Outside (plug a (Some x)) (put z a)
      → Local us o (node Kind.IfStatement n (plug a (Some x)) rest) (node Kind.IfStatement n (put z a) rest)
  branch_changes us o n (behind t m d (behind k i b (under l j a r))) rest leads st same =
      let given = truth_gives t m d true (known_so true (truth_given t m d) leads) in
      let goes : (r : Forest) → r ≡ nothing → Outside (node t m d (node k i b (node l j (plug a (Some x)) r))) (node t m d (node k i b (node l j (put z a) r)))
      → Local us o (node Kind.IfStatement n (node t m d (node k i b (node l j (plug a (Some x)) r))) rest) (node Kind.IfStatement n (node t m d (node k i b (node l j (put z a) r))) rest)
      = λ r e. subst (λ r. Outside (node t m d (node k i b (node l j (plug a (Some x)) r))) (node t m d (node k i b (node l j (put z a) r)))
      → Local us o (node Kind.IfStatement n (node t m d (node k i b (node l j (plug a (Some x)) r))) rest) (node Kind.IfStatement n (node t m d (node k i b (node l j (put z a) r))) rest)) (sym e)
      (λ s. at_place (for_part (λ st. alternate_changes t m i d k (purpose_here us (is_row rest)) st b j l (plug a (Some x)) (put z a) given)) (record { vars = s.vars; imports = s.imports })) in
      goes r (no_more r st.1.1.1) same
  branch_changes us o n (behind t m d (behind k i b (first r))) rest leads st same = no_kind leads
  branch_changes us o n (behind t m d (behind k i b (behind l j c a))) rest leads st same = no_kind leads
  branch_changes us o n (behind t m d (behind k i b (behind_none a))) rest leads st same = no_kind leads
  branch_changes us o n (behind t m d (under k i a r)) rest leads st same =
      let given = truth_gives t m d false (known_so false (truth_given t m d) leads) in
      at_place (for_part (λ s. consequent_changes t m i d k (purpose_here us (is_row rest)) s (plug a (Some x)) (put z a) r given (one_field r st.1.1))) (record { vars = same.vars; imports = same.imports })
  branch_changes us o n (behind t m d (first r)) rest leads st same = no_kind leads
  branch_changes us o n (behind t m d (behind_none a)) rest leads st same = no_kind leads
  branch_changes us o n (first r) rest leads st same = no_kind leads
  branch_changes us o n (behind_none a) rest leads st same = no_kind leads
  branch_changes us o n (under k i a r) rest leads st same = no_kind leads

  pub begins : (us : Purposes) (o : NearRow) (k : Kind) (n : Note) (a : Around) (rest : Forest) → begins_untaken k a ≡ true → (is_single k ≡ true → MadeBy k (plug a (Some x)))
      → Outside (plug a (Some x)) (put z a) → Local us o (node k n (plug a (Some x)) rest) (node k n (put z a) rest)
  begins us o Kind.IfStatement n a rest here made same = branch_changes us o n a rest here (if_parts (plug a (Some x)) (made refl)) same
  begins us o k n a rest here made same = no_kind here

-- ---- the change

module _ (x : Tree) (states : is_statement x.kind ≡ true) (declares : DeclaresNothing x.kind x.below) where
  local_untaken : (us : Purposes) (o : NearRow) (w : Asked) (a : Around) (u : Bool) → (asked_at w a).row ≡ items → is_untaken u a ≡ true → (plan : Plan) → plan_passes is_sound plan ≡ true → Stand plan (plug a (Some x))
      → ((u ≡ true) × Outside (plug a (Some x)) (without a)) ⊎ Local us o (plug a (Some x)) (without a)
  local_untaken us o w (first rest) u item is plan h st = inl (is, record { vars = ap (λ v. v ++ var_names rest) declares.vars; imports = λ source. ap (λ v. v ++ import_decls source rest) (declares.imports source) })
  local_untaken us o w (behind k n b a) u item is plan h st =
      elim (local_untaken (purposes_behind us) o w a u item is (shape.behind plan k) (behind_passes is_sound plan k h) st.1) [
        | inl found ↦ inl (found.0, outside_behind k n b found.1)
        | inr change ↦ inr (in_rest change)
      ]
  local_untaken us o w (behind_none a) u item is plan h st =
      elim (local_untaken (purposes_behind us) o w a u item is (shape.behind plan Kind.Hole) (behind_passes is_sound plan Kind.Hole h) st.1) [
        | inl found ↦ inl (found.0, record { vars = found.1.vars; imports = found.1.imports })
        | inr change ↦ inr (in_absent change)
      ]
  local_untaken us o w (under k n a rest) u item is plan h st =
      let planned = planned_below (plug a (Some x)) (first_place plan) k st.0 in
      let single : is_single k ≡ true → MadeBy k (plug a (Some x)) = λ s. made_at (plug a (Some x)) k s (first_place plan) (first_passes is_sound plan refl h) st.0 in
      elim (local_untaken (wanted_below (purpose_here us (is_row rest)) k) (near_row_below k) (asked_below w k) a (u && runs_inside k || begins_untaken k a) item is planned.0 planned.1 planned.2) [
        | inl found ↦ elim (or_cases (u && runs_inside k) (begins_untaken k a) found.0) [
          | inl around ↦ inl (first_of_both u (runs_inside k) around, outside_under k n rest (second_of_both u (runs_inside k) around) found.1)
          | inr here ↦ inr (subst (λ t. Local us o (node k n (plug a (Some x)) rest) (node k n t rest)) (put_none a) (begins x None us o k n a rest here single (subst (Outside (plug a (Some x))) (sym (put_none a)) found.1)))
        ]
        | inr change ↦ inr (in_below (reads_same x states w k a item single) change)
      ]

  pub untaken_is_local : (a : Around) → IsItem a → is_untaken false a ≡ true → Fits root (plug a (Some x)) → Local for_values fields (plug a (Some x)) (without a)
  untaken_is_local a item is fits =
      elim (local_untaken for_values fields (asked_of_program true) a false item is (these (one root ∷ [])) refl fits) [
        | inl found ↦ absurd (true≢false (sym found.0))
        | inr change ↦ change
      ]
