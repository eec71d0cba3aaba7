-- Names that scopes declare apart from others, as far as a row declares them.
use Rattle.std.proofs.Common.{◌≡◌, ◌∙◌, inl, inr, ℕ, Bool, true, false, ◌&&◌, if◌then◌else◌, ◌==◌, List, [], ◌++◌, Some, None, refl, sym, subst, true≢false}
use Rattle.std.proofs.lemmas.Bool.{and_parts, and_from}
use Rattle.js_syntax.specs.declared.node_kind.NodeKind.{NodeKind as Kind}
use Rattle.js_syntax.specs.Node.{Forest, nothing, node, absent, Note}
use Rattle.js_syntax.specs.declared.kind.VariableKind.{VariableKind}
use Rattle.js_syntax.specs.declared.kind.VariableKind.TheVariants as variable
use Rattle.js_meaning.specs.Value.{Text}
use Rattle.js_meaning.specs.Scope.{first_of, waiting, all_so, names_of, bound_names, var_names, item_decls, lexical}
use Rattle.js_meaning.specs.Module.{names_in}
use Rattle.steps.specs.Names.{is_among}
use Rattle.steps.specs.Steps.{Row, items, of_item, declarators, other, is_single, row_below, Around, entered, in_row}
use Rattle.steps.specs.Fit.Clear.{Apart, ClearAt}
use Rattle.steps.specs.Allowed.Arranged.{is_declarator, are_declarators, has_declarators, is_arranged_at}
use Rattle.steps.specs.Naming.Placed.{the_statements, a_body, a_case, Place, no_node, names, code, program_list, module_items, lists, items as items_place, declared, specifiers, cases, case_items, others, sort_of, place_below, specifier_place, fits, well_placed, has_plain_values}
use Rattle.steps.proofs.Naming.Lists.{in_left, in_right, declared_left, declared_right, declared_so}
use Rattle.steps.proofs.Naming.Taking.{never_fits}
use Rattle.steps.proofs.Naming.Values.{in_declaration}
use Rattle.steps.proofs.Owed.KnownNames.{among_cases}

-- ---- lists without common names

apart_nothing : (xs : List Text) → Apart xs []
apart_nothing xs x e f = true≢false (sym f)

-- what is apart from each of two lists
apart_of_both : (xs ys zs : List Text) → Apart xs ys → Apart ys zs → Apart ys (xs ++ zs)
apart_of_both xs ys zs h g x e f = elim (among_cases xs zs x f) [
  | inl i ↦ h x i e
  | inr i ↦ g x e i
]

-- ---- variables

declares_none_by_var : (inner xs : List Text) → xs ≡ [] → Apart xs inner
declares_none_by_var inner xs e = subst (λ ys. Apart ys inner) (sym e) (λ x f. absurd (true≢false (sym f)))

pub variables_below : (w : Around) (p : Place) (k : Kind) (n : Note) (a r : Forest) → fits p (sort_of k) ≡ true → well_placed (place_below p k) 0 a ≡ true → has_plain_values a ≡ true → ClearAt k a
    → Apart (var_names (node k n a r)) w.inner → Apart (var_names a) (entered w k a).inner
variables_below w p (Kind.Program source) n a r e o v clear h = apart_nothing (var_names a)
variables_below w p (Kind.Function f pure) n a r e o v clear h = apart_nothing (var_names a)
variables_below w p Kind.BlockStatement n a r e o v clear h = apart_of_both (names_in (lexical a)) (var_names a) w.inner clear (λ x i. h x (in_left (var_names a) (var_names r) x i))
variables_below w p Kind.Cases n a r e o v clear h = apart_of_both (names_in (lexical a)) (var_names a) w.inner clear (λ x i. h x (in_left (var_names a) (var_names r) x i))
variables_below w p Kind.ForStatement n a r e o v clear h = apart_of_both (names_in (lexical (first_of a))) (var_names a) w.inner clear (λ x i. h x (in_left (var_names a) (var_names r) x i))
variables_below w p Kind.CatchClause n a r e o v clear h = apart_of_both (bound_names (first_of a)) (var_names a) w.inner clear (λ x i. h x (in_left (var_names a) (var_names r) x i))
variables_below w p (Kind.VariableDeclaration variable.Var) n a r e o v clear h = λ x i. h x (in_left (bound_names a ++ var_names a) (var_names r) x (in_right (bound_names a) (var_names a) x i))
variables_below w p (Kind.VariableDeclaration variable.Let) n a r e o v clear h = declares_none_by_var w.inner (var_names a) (in_declaration 0 a o v)
variables_below w p (Kind.VariableDeclaration variable.Const) n a r e o v clear h = declares_none_by_var w.inner (var_names a) (in_declaration 0 a o v)
variables_below w p (Kind.Class how) n a r e o v clear h = absurd (never_fits p e)
variables_below w p k n a r e o v clear h = λ x i. h x (in_left (var_names a) (var_names r) x i)

-- ---- what a list of statements declares

-- no `var` of the name passes
abbrev pub ListApart : Around → Forest → Type 0
ListApart w row = Apart (names_in (lexical row)) w.passing

-- the places that lists of statements stand at, and those in them
abbrev pub leads : Place → Bool
leads code = true
leads program_list = true
leads module_items = true
leads lists = true
leads items_place = true
leads case_items = true
leads p = false

pub statements_lead : (p : Place) → fits p the_statements ≡ true → leads p ≡ true
statements_lead program_list e = refl
statements_lead lists e = refl
statements_lead p e = absurd (true≢false (sym e))

body_leads : (p : Place) → fits p a_body ≡ true → leads p ≡ true
body_leads code e = refl
body_leads p e = absurd (true≢false (sym e))

case_leads : (p : Place) → fits p a_case ≡ true → leads p ≡ true
case_leads case_items e = refl
case_leads p e = absurd (true≢false (sym e))

neither_leads : (b : Bool) (p q : Place) → leads p ≡ false → leads q ≡ false → leads (if b then p else q) ≡ true → ⊥
neither_leads true p q f g e = true≢false (sym e ∙ f)
neither_leads false p q f g e = true≢false (sym e ∙ g)

specifiers_lead : (p : Place) → leads (specifier_place p) ≡ true → ⊥
specifiers_lead specifiers e = true≢false (sym e)
specifiers_lead p e = true≢false (sym e)

pub lists_below : (w : Around) (p : Place) (k : Kind) (n : Note) (a r : Forest) (i : ℕ) → fits p (sort_of k) ≡ true → ClearAt k a → (leads p ≡ true → ListApart w (node k n a r)) → leads (place_below p k i) ≡ true → ListApart (entered w k a) a
lists_below w p (Kind.Program source) n a r i e clear h l = apart_nothing (names_in (lexical a))
lists_below w p (Kind.Function f pure) n a r i e clear h l = apart_nothing (names_in (lexical a))
lists_below w p Kind.BlockStatement n a r i e clear h l = clear
lists_below w p Kind.Cases n a r i e clear h l = clear
lists_below w p Kind.ForStatement n a r i e clear h l = absurd (neither_leads (i == 0) declared others refl refl l)
lists_below w p Kind.CatchClause n a r i e clear h l = absurd (neither_leads (i == 0) names others refl refl l)
lists_below w p Kind.SwitchStatement n a r i e clear h l = absurd (neither_leads (i == 1) cases others refl refl l)
lists_below w p Kind.VariableDeclarator n a r i e clear h l = absurd (neither_leads (i == 0) names others refl refl l)
lists_below w p (Kind.ImportSpecifier name) n a r i e clear h l = absurd (neither_leads (i == 0) names no_node refl refl l)
lists_below w p Kind.ImportDefaultSpecifier n a r i e clear h l = absurd (neither_leads (i == 0) names no_node refl refl l)
lists_below w p Kind.ImportNamespaceSpecifier n a r i e clear h l = absurd (neither_leads (i == 0) names no_node refl refl l)
lists_below w p Kind.Specifiers n a r i e clear h l = absurd (specifiers_lead p l)
lists_below w p Kind.FunctionBody n a r i e clear h l = λ x g. h (body_leads p e) x (declared_left (lexical a) (lexical r) x g)
lists_below w p Kind.Statements n a r i e clear h l = λ x g. h (statements_lead p e) x (declared_left (lexical a) (lexical r) x g)
lists_below w p Kind.SwitchCase n a r i e clear h l = λ x g. h (case_leads p e) x (declared_left (lexical a) (lexical r) x g)
lists_below w p (Kind.ExportNamedDeclaration None) n a r i e clear h l = absurd (true≢false (sym l))
lists_below w p (Kind.ExportNamedDeclaration (Some source)) n a r i e clear h l = absurd (true≢false (sym l))
lists_below w p k n a r i e clear h l = absurd (true≢false (sym l))

-- ---- what a row declares as its declaration says

abbrev pub CrossApart : Around → VariableKind → List Text → Type 0
CrossApart w variable.Var xs = Apart xs w.inner
CrossApart w how xs = Apart xs w.passing

cross_fewer : (w : Around) (k : Kind) (a : Forest) (how : VariableKind) (xs ys : List Text) → ((x : Text) → is_among ys x ≡ true → is_among xs x ≡ true) → CrossApart w how xs → CrossApart (in_row w k a) how ys
cross_fewer w k a variable.Var xs ys h g = λ x e. g x (h x e)
cross_fewer w k a variable.Let xs ys h g = λ x e. g x (h x e)
cross_fewer w k a variable.Const xs ys h g = λ x e. g x (h x e)

cross_part : (w : Around) (how : VariableKind) (xs ys : List Text) → ((x : Text) → is_among ys x ≡ true → is_among xs x ≡ true) → CrossApart w how xs → CrossApart w how ys
cross_part w variable.Var xs ys h g = λ x e. g x (h x e)
cross_part w variable.Let xs ys h g = λ x e. g x (h x e)
cross_part w variable.Const xs ys h g = λ x e. g x (h x e)

-- rows of declarators, in the list that a declaration has
abbrev pub lists_declarators : Forest → Bool
lists_declarators nothing = true
lists_declarators (absent r) = lists_declarators r
lists_declarators (node Kind.Declarators n a r) = are_declarators a && lists_declarators r
lists_declarators (node k n a r) = lists_declarators r

abbrev pub RowApart : Row → Around → Forest → Type 0
RowApart items w row = ListApart w row
RowApart (of_item how) w row = CrossApart w how (bound_names row) × (lists_declarators row ≡ true)
RowApart (declarators how) w row = CrossApart w how (bound_names row) × (are_declarators row ≡ true)
RowApart other w row = Unit {0}

pub apart_absent : (row : Row) (w : Around) (r : Forest) → RowApart row w (absent r) → RowApart row w r
apart_absent items w r h = h
apart_absent (of_item how) w r h = h
apart_absent (declarators how) w r h = absurd (true≢false (sym h.1))
apart_absent other w r h = tt

lists_behind : (k : Kind) (n : Note) (a r : Forest) → lists_declarators (node k n a r) ≡ true → lists_declarators r ≡ true
lists_behind Kind.Declarators n a r h = (and_parts (are_declarators a) (lists_declarators r) h).1
lists_behind k n a r h = h

pub apart_behind : (row : Row) (w : Around) (k : Kind) (n : Note) (a r : Forest) → RowApart row w (node k n a r) → RowApart row w r
apart_behind items w k n a r h = λ x e. h x (declared_right (item_decls k a (lexical a)) (lexical r) x e)
apart_behind (of_item how) w k n a r h = (
  cross_part w how (bound_names (node k n a r)) (bound_names r) (λ x e. in_right (names_of k (bound_names a)) (bound_names r) x e) h.0,
  lists_behind k n a r h.1,
)
apart_behind (declarators how) w k n a r h = (
  cross_part w how (bound_names (node k n a r)) (bound_names r) (λ x e. in_right (names_of k (bound_names a)) (bound_names r) x e) h.0,
  (and_parts (is_declarator k a) (are_declarators r) h.1).1,
)
apart_behind other w k n a r h = tt

has_listed : (a : Forest) → has_declarators a ≡ true → lists_declarators a ≡ true
has_listed (node Kind.Declarators n (node k m b r) nothing) h = and_from (is_declarator k b && are_declarators r) true h refl
has_listed a h = absurd (true≢false (sym h))

pub apart_below : (row : Row) (w : Around) (k : Kind) (n : Note) (a r : Forest) → is_arranged_at k a ≡ true → Apart (var_names (node k n a r)) w.inner → (sort_of k ≡ the_statements → ListApart w (node k n a r)) → RowApart row w (node k n a r)
    → RowApart (row_below row k a) (entered w k a) a
apart_below items w (Kind.VariableDeclaration variable.Var) n a r arranged vars listed_apart h = (λ x e. vars x (in_left (bound_names a ++ var_names a) (var_names r) x (in_left (bound_names a) (var_names a) x e)), has_listed a arranged)
apart_below items w (Kind.VariableDeclaration variable.Let) n a r arranged vars listed_apart h = (λ x e. h x (declared_left (all_so (waiting false) (bound_names a)) (lexical r) x (declared_so (waiting false) (bound_names a) x e)), has_listed a arranged)
apart_below items w (Kind.VariableDeclaration variable.Const) n a r arranged vars listed_apart h = (λ x e. h x (declared_left (all_so (waiting true) (bound_names a)) (lexical r) x (declared_so (waiting true) (bound_names a) x e)), has_listed a arranged)
apart_below (of_item how) w Kind.Declarators n a r arranged vars listed_apart h = by (is_single a)
  where
    by : (single : Bool) → RowApart (if single then other else declarators how) (in_row w Kind.Declarators a) a
    by true = tt
    by false = (
      cross_fewer w Kind.Declarators a how (bound_names (node Kind.Declarators n a r)) (bound_names a) (λ x e. in_left (bound_names a) (bound_names r) x e) h.0,
      (and_parts (are_declarators a) (lists_declarators r) h.1).0,
    )
apart_below row w Kind.Statements n a r arranged vars listed_apart h = λ x e. listed_apart refl x (declared_left (lexical a) (lexical r) x e)
apart_below row w k n a r arranged vars listed_apart h = tt
