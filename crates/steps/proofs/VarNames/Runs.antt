-- A statement that leaves a declaration of its names, in a branch that isn't taken, is a change that no run shows.
use Rattle.std.proofs.Common.{◌≡◌, ◌∙◌, ◌⊎◌, inl, inr, ℕ, List, [], ◌∷◌, ◌++◌, Bool, true, false, ◌&&◌, ◌||◌, ◌==◌, refl, sym, ap, subst, true≢false}
use Rattle.std.specs.Prelude.{Option, Some, None, map}
use Rattle.std.proofs.lemmas.Bool.{or_cases}
use Rattle.std.proofs.lemmas.List.{append-nil}
use Rattle.js_syntax.specs.Class.{root, statement, declarator_item}
use Rattle.js_syntax.specs.Hint.{has, is_private}
use Rattle.js_syntax.specs.Table.{Row, a_variable_declaration, fields_of}
use Rattle.js_syntax.specs.declared.node_kind.NodeKind.{NodeKind as Kind}
use Rattle.js_syntax.specs.declared.kind.VariableKind.TheVariants as variable
use Rattle.js_syntax.specs.Facts.{is_core}
use Rattle.js_syntax.specs.Node.{Note, Forest, Tree, nothing, node, absent, row, alone, forest_of}
use Rattle.js_syntax.proofs.Truth.{both, first_of_both, second_of_both}
use Rattle.js_meaning.specs.Value.{Text}
use Rattle.js_meaning.specs.Scope.{Decl, names_of, bound_names, vars_of, var_names, specifier_decls, import_decls}
use Rattle.js_meaning_near.specs.Purpose.{Purposes, for_values, purpose_here, purposes_behind, wanted_below}
use Rattle.js_meaning_near.specs.Near.{key_of, is_row, Row as NearRow, fields, row_below as near_row_below, module_of}
use Rattle.js_meaning_near.specs.Local.{Local, in_below, in_rest, in_absent}
use Rattle.json_shape.specs.Shape.{Values, kind_in, one, list, places, Plan, these, first_place, Stand, Fits}
use Rattle.json_shape.specs.Shape as shape
use Rattle.form_rules.specs.Form.{IsWellFormed}
use Rattle.kept_names.specs.Kept.{kept, declarator_of, declaration_of}
use Rattle.kept_names.specs.Kept.{declared as declared_names}
use Rattle.scope_laws.specs.Place.{Around, first, behind, behind_none, under, plug}
use Rattle.scope_laws.proofs.Bindings.{same_value}
use Rattle.steps.specs.Steps.{all_core}
use Rattle.steps.specs.Allowed.Untaken.{begins_untaken, runs_inside, is_untaken}
use Rattle.steps.specs.KeepForm.Part.{is_statement}
use Rattle.steps.specs.Naming.Placed.{Place, declared, cases, others, place_below, is_well_placed}
use Rattle.steps.specs.VarNames.Texts.{texts, may_keep}
use Rattle.steps.specs.Owed.Owed.{is_read_name}
use Rattle.steps.proofs.Fit.Holding.{is_sound, planned_below}
use Rattle.steps.proofs.Fit.Passing.{plan_passes, first_passes, behind_passes}
use Rattle.steps.proofs.Owed.Made.{MadeBy, is_single, made_at}
use Rattle.steps.proofs.Owed.PartRuns.{reads_alike}
use Rattle.steps.proofs.Owed.Undeclared.{is_root, lead_to_imports, neither_leads, no_imports_inside}
use Rattle.steps.proofs.Owed.UntakenRuns.{Outside, outside_behind, outside_under, put_some, begins}
use Rattle.steps.proofs.VarNames.Again.{is_name_alone, is_bare_name, are_names, kept_are_names, their_names, declared_again}
use Rattle.steps.proofs.VarNames.Statements.{declaration_law}

no_kind : {A : Type 0} → false ≡ true → A
no_kind e = absurd (true≢false (sym e))

pub record KeptKind (k : Kind) : Type 0 where
  pub key : key_of k ≡ None
  pub no_list : k ≡ Kind.Properties → ⊥
  pub unread : is_read_name k ≡ false
  pub inner : is_root k ≡ false
  pub leads : (p : Place) (i : ℕ) → lead_to_imports (place_below p k i) ≡ false
  pub specifies : (source : Text) (a : Forest) (l : List Decl) → specifier_decls source k a l ≡ l
  pub states : (is_statement k ≡ true) ⊎ (k ≡ Kind.VariableDeclaration variable.Var)

pub kept_kind : (k : Kind) → may_keep k ≡ true → KeptKind k
kept_kind Kind.BlockStatement h = record { key = refl; no_list = λ e. cc; unread = refl; inner = refl; leads = λ p i. refl; specifies = λ source a l. refl; states = inl refl }
kept_kind (Kind.LabeledStatement l) h = record { key = refl; no_list = λ e. cc; unread = refl; inner = refl; leads = λ p i. refl; specifies = λ source a l. refl; states = inl refl }
kept_kind Kind.IfStatement h = record { key = refl; no_list = λ e. cc; unread = refl; inner = refl; leads = λ p i. refl; specifies = λ source a l. refl; states = inl refl }
kept_kind Kind.WhileStatement h = record { key = refl; no_list = λ e. cc; unread = refl; inner = refl; leads = λ p i. refl; specifies = λ source a l. refl; states = inl refl }
kept_kind Kind.DoWhileStatement h = record { key = refl; no_list = λ e. cc; unread = refl; inner = refl; leads = λ p i. refl; specifies = λ source a l. refl; states = inl refl }
kept_kind Kind.WithStatement h = record { key = refl; no_list = λ e. cc; unread = refl; inner = refl; leads = λ p i. refl; specifies = λ source a l. refl; states = inl refl }
kept_kind Kind.ForStatement h = record { key = refl; no_list = λ e. cc; unread = refl; inner = refl; leads = λ p i. neither_leads (i == 0) declared others refl refl; specifies = λ source a l. refl; states = inl refl }
kept_kind Kind.ForInStatement h = record { key = refl; no_list = λ e. cc; unread = refl; inner = refl; leads = λ p i. refl; specifies = λ source a l. refl; states = inl refl }
kept_kind Kind.ForOfStatement h = record { key = refl; no_list = λ e. cc; unread = refl; inner = refl; leads = λ p i. refl; specifies = λ source a l. refl; states = inl refl }
kept_kind Kind.SwitchStatement h = record { key = refl; no_list = λ e. cc; unread = refl; inner = refl; leads = λ p i. neither_leads (i == 1) cases others refl refl; specifies = λ source a l. refl; states = inl refl }
kept_kind Kind.TryStatement h = record { key = refl; no_list = λ e. cc; unread = refl; inner = refl; leads = λ p i. refl; specifies = λ source a l. refl; states = inl refl }
kept_kind (Kind.VariableDeclaration variable.Var) h = record { key = refl; no_list = λ e. cc; unread = refl; inner = refl; leads = λ p i. refl; specifies = λ source a l. refl; states = inr refl }
kept_kind k h = no_kind h

-- ---- the change

module _ (x y : Tree) (kind : KeptKind x.kind) (key : key_of y.kind ≡ None) (binds : (is_statement x.kind ≡ true) ⊎ (names_of x.kind (bound_names x.below) ≡ names_of y.kind (bound_names y.below))) (same : Outside (forest_of x) (forest_of y)) where
  at_first : (rest : Forest) → Outside (node x.kind x.note x.below rest) (node y.kind y.note y.below rest)
  at_first rest = record {
    vars = ap (λ v. v ++ var_names rest) (sym (append-nil (vars_of x.kind x.below (var_names x.below))) ∙ same.vars ∙ append-nil (vars_of y.kind y.below (var_names y.below)));
    imports = λ source. ap (λ v. v ++ import_decls source rest)
        (sym (append-nil (specifier_decls source x.kind x.below (import_decls source x.below))) ∙ same.imports source ∙ append-nil (specifier_decls source y.kind y.below (import_decls source y.below)));
  }

  local_change : (us : Purposes) (o : NearRow) (a : Around) (u : Bool) → is_untaken u a ≡ true → (plan : Plan) → plan_passes is_sound plan ≡ true → Stand plan (plug a (Some x))
      → ((u ≡ true) × Outside (plug a (Some x)) (plug a (Some y))) ⊎ Local us o (plug a (Some x)) (plug a (Some y))
  local_change us o (first rest) u is plan h st = inl (is, at_first rest)
  local_change us o (behind k n b a) u is plan h st =
      elim (local_change (purposes_behind us) o a u is (shape.behind plan k) (behind_passes is_sound plan k h) st.1) [
        | inl found ↦ inl (found.0, outside_behind k n b found.1)
        | inr change ↦ inr (in_rest change)
      ]
  local_change us o (behind_none a) u is plan h st =
      elim (local_change (purposes_behind us) o a u is (shape.behind plan Kind.Hole) (behind_passes is_sound plan Kind.Hole h) st.1) [
        | inl found ↦ inl (found.0, record { vars = found.1.vars; imports = found.1.imports })
        | inr change ↦ inr (in_absent change)
      ]
  local_change us o (under k n a rest) u is plan h st =
      let planned = planned_below (plug a (Some x)) (first_place plan) k st.0 in
      let single : is_single k ≡ true → MadeBy k (plug a (Some x)) = λ s. made_at (plug a (Some x)) k s (first_place plan) (first_passes is_sound plan refl h) st.0 in
      elim (local_change (wanted_below (purpose_here us (is_row rest)) k) (near_row_below k) a (u && runs_inside k || begins_untaken k a) is planned.0 planned.1 planned.2) [
        | inl found ↦ elim (or_cases (u && runs_inside k) (begins_untaken k a) found.0) [
          | inl around ↦ inl (first_of_both u (runs_inside k) around, outside_under k n rest (second_of_both u (runs_inside k) around) found.1)
          | inr here ↦ inr (subst (λ t. Local us o (node k n (plug a (Some x)) rest) (node k n t rest)) (put_some y a)
              (begins x (Some y) us o k n a rest here single (record { vars = found.1.vars ∙ ap var_names (sym (put_some y a)); imports = λ source. found.1.imports source ∙ ap (import_decls source) (sym (put_some y a)) })))
        ]
        | inr change ↦ inr (in_below (reads_alike x y kind.key kind.no_list kind.unread key binds k a single) change)
      ]

  pub change_is_local : (a : Around) → is_untaken false a ≡ true → Fits root (plug a (Some x)) → Local for_values fields (plug a (Some x)) (plug a (Some y))
  change_is_local a is fits =
      elim (local_change for_values fields a false is (these (one root ∷ [])) refl fits) [
        | inl found ↦ absurd (true≢false (sym found.0))
        | inr change ↦ change
      ]

-- ---- a declaration of its names

abbrev is_declaration : Kind → Bool
is_declaration (Kind.VariableDeclaration how) = true
is_declaration k = false

row_of_declaration : (r : Row) (vs : Values (fields_of r)) (private : Bool) (a : Forest) → Kind.VariableDeclaration variable.Var ≡ kind_in r vs → Stand (these (places private (fields_of r) vs)) a → Stand (these (list Kind.Declarators declarator_item ∷ [])) a
row_of_declaration a_variable_declaration vs private a is st = st
row_of_declaration r vs private a is st = absurd (true≢false (ap is_declaration is))

declarators_of : (n : Note) (a : Forest) → Fits statement (alone (Kind.VariableDeclaration variable.Var) n a) → Stand (these (list Kind.Declarators declarator_item ∷ [])) a
declarators_of n a fits = let of = fits.0 in row_of_declaration of.0 of.1 (has is_private a) a of.4 of.5

one_imports_none : (source : Text) (n : Note) (t : Tree) (rest : Forest) → is_bare_name t ≡ true → import_decls source (node Kind.VariableDeclarator n (node t.kind t.note t.below (absent nothing)) rest) ≡ import_decls source rest
one_imports_none source n t rest h = go t.kind t.below h
  where
    go : (k : Kind) (b : Forest) → is_name_alone k b ≡ true → import_decls source (node Kind.VariableDeclarator n (node k t.note b (absent nothing)) rest) ≡ import_decls source rest
    go (Kind.BindingName x) nothing h = refl
    go (Kind.BindingName x) (absent r) h = absurd cc
    go (Kind.BindingName x) (node j m c r) h = absurd cc
    go k b h = absurd cc

imports_none : (source : Text) (ts : List Tree) → are_names ts ≡ true → import_decls source (row (map declarator_of ts)) ≡ []
imports_none source [] h = refl
imports_none source (t ∷ ts) h =
    one_imports_none source (record { span = t.note.span; id = None }) t (row (map declarator_of ts)) (first_of_both (is_bare_name t) (are_names ts) h) ∙ imports_none source ts (second_of_both (is_bare_name t) (are_names ts) h)

record IsDeclaration (ts : List Tree) (y : Tree) : Type 0 where
  kind : y.kind ≡ Kind.VariableDeclaration variable.Var
  key : key_of y.kind ≡ None
  imports : (source : Text) → import_decls source (forest_of y) ≡ []
  bound : names_of y.kind (bound_names y.below) ≡ texts ts
  is : row (declaration_of (map declarator_of ts) ∷ []) ≡ forest_of y

is_declaration_of : (ts : List Tree) (y : Tree) → are_names ts ≡ true → declaration_of (map declarator_of ts) ≡ Some y → IsDeclaration ts y
is_declaration_of [] y h e = absurd cc
is_declaration_of (t ∷ ts) y h e =
    subst (IsDeclaration (t ∷ ts)) (same_value e) (record {
      kind = refl;
      key = refl;
      imports = λ source. ap (λ v. (v ++ []) ++ []) (imports_none source (t ∷ ts) h);
      bound = append-nil (bound_names (row (map declarator_of (t ∷ ts)))) ∙ their_names (t ∷ ts) h;
      is = refl;
    })

module _ (a : Around) (x y : Tree) (kind : may_keep x.kind ≡ true) (fits : Fits statement (forest_of x)) (is : declaration_of (map declarator_of (kept (forest_of x))) ≡ Some y) where
  new : IsDeclaration (kept (forest_of x)) y
  new = is_declaration_of (kept (forest_of x)) y (kept_are_names (forest_of x) fits) is

  old : KeptKind x.kind
  old = kept_kind x.kind kind

  binds : (is_statement x.kind ≡ true) ⊎ (names_of x.kind (bound_names x.below) ≡ names_of y.kind (bound_names y.below))
  binds = elim old.states [
    | inl states ↦ inl states
    | inr var ↦ inr (bind_var x.kind var fits ∙ sym new.bound)
  ]
    where
      bind_var : (k : Kind) → k ≡ Kind.VariableDeclaration variable.Var → Fits statement (alone k x.note x.below) → names_of k (bound_names x.below) ≡ texts (kept (alone k x.note x.below))
      bind_var k e = subst (λ k. Fits statement (alone k x.note x.below) → names_of k (bound_names x.below) ≡ texts (kept (alone k x.note x.below))) (sym e)
          (λ fits. sym (declaration_law x.below (declarators_of x.note x.below fits)) ∙ ap texts (sym (append-nil (declared_names x.below))))

  pub names_are_local : (p q : Note) (b : Forest) → plug a (Some x) ≡ module_of p q b → is_well_placed (module_of p q b) ≡ true → is_untaken false a ≡ true → Fits root (plug a (Some x)) → Local for_values fields (plug a (Some x)) (plug a (Some y))
  names_are_local p q b is_module placed untaken whole =
      change_is_local x y old new.key binds
      (record {
        vars = sym (ap var_names (sym new.is) ∙ declared_again (forest_of x) fits);
        imports = λ source.
            ap (λ v. v ++ []) (old.specifies source x.below (import_decls source x.below) ∙ no_imports_inside p q b a x is_module placed old.inner old.leads source) ∙ sym (new.imports source);
      })
      a untaken whole
