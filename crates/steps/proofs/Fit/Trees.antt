-- What breaks no rule of form, and what a node of the table that is core asks of the row below it.
use Rattle.std.proofs.Common.{◌≡◌, ℕ, List, [], ◌∷◌, ◌++◌, Bool, true, false, not, ◌&&◌, refl, sym, ap, ◌∙◌}
use Rattle.std.specs.Str.{bytes_eq}
use Rattle.std.proofs.lemmas.Slice.Eq.{bytes_eq-Decides}
use Rattle.js_syntax.specs.Class.{declarator_item, for_init, declaration, default_export, declared_name, binding, binding_element, expression, object_item, import_item, export_item, foreign_item, no_node}
use Rattle.js_syntax.specs.declared.node_kind.NodeKind.{NodeKind as Kind}
use Rattle.js_syntax.specs.Node.{Forest}
use Rattle.js_syntax.specs.Table.{Row, a_for_statement, a_catch_clause, a_function_declaration, a_default_function, a_function_expression, an_arrow_function, a_variable_declaration, a_variable_declarator, a_class_declaration, a_default_class, a_class_expression, a_binding_name, an_object_expression, an_import_declaration, an_export_list, an_export_declaration, an_export_from, an_export_default_declaration, fields_of}
use Rattle.js_meaning.specs.Value.{Text, this_name}
use Rattle.js_meaning.specs.Scope as scope
use Rattle.js_meaning.specs.Scope.{default_name, bound_names}
use Rattle.steps.specs.Steps.{all_core}
use Rattle.form_rules.specs.declared.rule.Break.{Break}
use Rattle.form_rules.specs.Break.{unless}
use Rattle.form_rules.specs.Context.{Context, is_module}
use Rattle.form_rules.specs.Name.{may_be_bound}
use Rattle.form_rules.specs.Rules.{is_declaration, parts_of, rule_1, rule_2, rule_3, rule_4, rule_5, rule_6, rule_7, rule_8, rule_9, rule_10, rule_11, rule_12, broken_at}
use Rattle.json_text.specs.Text.{is_identifier_name}
use Rattle.steps.specs.KeepRuns.Formed.{still, is_free_name, heads}
use Rattle.steps.specs.Naming.Placed.{is_none, has_plain_value}
use Rattle.json_shape.specs.Shape.{Values, kind_in, Place, one, maybe_one, list, places, these, Stand}
use Rattle.steps.proofs.KeepForm.Rules.{first_empty, second_empty, is_kept}
use Rattle.steps.proofs.Fit.CoreRows.{core_row}
use Rattle.steps.proofs.Fit.Held.{behind_stands, behind_core}
use Rattle.steps.proofs.Fit.CoreCalm.{nameless_as_planned, calm_as_planned, first_is_calm, still_as_planned, first_is_still}
use Rattle.js_syntax.proofs.Truth.{both}

-- ---- rules that a node doesn't break

fifth_of : (a b c d e f g i j k l m : List Break) → a ++ b ++ c ++ d ++ e ++ f ++ g ++ i ++ j ++ k ++ l ++ m ≡ [] → e ≡ []
fifth_of a b c d e f g i j k l m h = second_empty (a ++ b ++ c ++ d) e (first_empty (a ++ b ++ c ++ d ++ e) f (first_empty (a ++ b ++ c ++ d ++ e ++ f) g (first_empty (a ++ b ++ c ++ d ++ e ++ f ++ g) i (first_empty (a ++ b ++ c ++ d ++ e ++ f ++ g ++ i) j (first_empty (a ++ b ++ c ++ d ++ e ++ f ++ g ++ i ++ j) k (first_empty (a ++ b ++ c ++ d ++ e ++ f ++ g ++ i ++ j ++ k) l (first_empty (a ++ b ++ c ++ d ++ e ++ f ++ g ++ i ++ j ++ k ++ l) m h)))))))

eleventh_of : (a b c d e f g i j k l m : List Break) → a ++ b ++ c ++ d ++ e ++ f ++ g ++ i ++ j ++ k ++ l ++ m ≡ [] → l ≡ []
eleventh_of a b c d e f g i j k l m h = second_empty (a ++ b ++ c ++ d ++ e ++ f ++ g ++ i ++ j ++ k) l (first_empty (a ++ b ++ c ++ d ++ e ++ f ++ g ++ i ++ j ++ k ++ l) m h)

module _ (c : Context) (k : Kind) (place : ℕ) (a : Forest) (h : broken_at c k place a ≡ []) where
  pub fifth_kept : rule_5 c k place a ≡ []
  fifth_kept = fifth_of (rule_1 c k place a) (rule_2 c k place a) (rule_3 c k place a) (rule_4 c k place a) (rule_5 c k place a) (rule_6 c k place a) (rule_7 c k place a) (rule_8 c k place a) (rule_9 c k place a) (rule_10 c k place a) (rule_11 c k place a) (rule_12 c k place a) h

  pub eleventh_kept : rule_11 c k place a ≡ []
  eleventh_kept = eleventh_of (rule_1 c k place a) (rule_2 c k place a) (rule_3 c k place a) (rule_4 c k place a) (rule_5 c k place a) (rule_6 c k place a) (rule_7 c k place a) (rule_8 c k place a) (rule_9 c k place a) (rule_10 c k place a) (rule_11 c k place a) (rule_12 c k place a) h

-- a declaration stands alone nowhere
pub not_declared_alone : (c : Context) (k : Kind) (place : ℕ) (a : Forest) → broken_at c k place a ≡ [] → not (c.is_alone && is_declaration k) ≡ true
not_declared_alone c k place a h = is_kept (not (c.is_alone && is_declaration k)) place 11 (first_empty (unless (not (c.is_alone && is_declaration k)) place 11) (parts_of c k place a) (eleventh_kept c k place a h))

-- ---- names that no program declares

this_not_bound : (strict is_module : Bool) → may_be_bound strict is_module this_name ≡ false
unfolding is_identifier_name
this_not_bound strict is_module = refl

default_not_bound : (strict is_module : Bool) → may_be_bound strict is_module default_name ≡ false
unfolding is_identifier_name
default_not_bound strict is_module = refl

is_other_name : (strict is_module : Bool) (x y : Text) → may_be_bound strict is_module x ≡ false → may_be_bound strict is_module y ≡ true → not (bytes_eq x y) ≡ true
is_other_name strict is_module x y never may = decided (bytes_eq x y) (λ e. let same : x ≡ y = (bytes_eq-Decides x y).0 e in differs (sym never ∙ ap (λ z. may_be_bound strict is_module z) same ∙ may))
  where
    differs : false ≡ true → ⊥
    differs e = absurd cc

    decided : (b : Bool) → (b ≡ true → ⊥) → not b ≡ true
    decided true f = absurd (f refl)
    decided false f = refl

abbrev pub name_is_free : Kind → Bool
name_is_free (Kind.BindingName y) = is_free_name y
name_is_free k = true

pub name_kept : (c : Context) (k : Kind) (place : ℕ) (a : Forest) → rule_5 c k place a ≡ [] → name_is_free k ≡ true
name_kept c (Kind.BindingName y) place a h =
    let may = is_kept (may_be_bound c.strict (is_module c.source) y) place 5 h in
    both (not (bytes_eq this_name y)) (not (bytes_eq default_name y)) (is_other_name c.strict (is_module c.source) this_name y (this_not_bound c.strict (is_module c.source)) may)
    (is_other_name c.strict (is_module c.source) default_name y (default_not_bound c.strict (is_module c.source)) may)
name_kept c k place a h = refl

-- ---- what is asked of the row below a node

parameters_still : (p : Place) (ps : List Place) (a : Forest) → Stand (these (p ∷ list Kind.Parameters binding_element ∷ ps)) a → all_core a ≡ true → still (scope.first_of (scope.behind a)) ≡ true
parameters_still p ps a st core = first_is_still (list Kind.Parameters binding_element) ps (scope.behind a) refl (behind_stands p (list Kind.Parameters binding_element ∷ ps) a st) (behind_core a core)

pub made_heads : (r : Row) (vs : Values (fields_of r)) (private : Bool) (a : Forest) → core_row r ≡ true → all_core a ≡ true → name_is_free (kind_in r vs) ≡ true → Stand (these (places private (fields_of r) vs)) a → heads (kind_in r vs) a ≡ true
made_heads a_variable_declaration vs private a here core free st = calm_as_planned a (these (list Kind.Declarators declarator_item ∷ [])) refl st core
made_heads a_for_statement vs private a here core free st = first_is_calm (maybe_one for_init) _ a refl st core
made_heads a_catch_clause vs private a here core free st = first_is_still (maybe_one binding) _ a refl st core
made_heads a_function_declaration vs private a here core free st = both (still (scope.first_of a)) (still (scope.first_of (scope.behind a))) (first_is_still (one declared_name) _ a refl st core) (parameters_still (one declared_name) _ a st core)
made_heads a_default_function vs private a here core free st = both (still (scope.first_of a)) (still (scope.first_of (scope.behind a))) (first_is_still (maybe_one declared_name) _ a refl st core) (parameters_still (maybe_one declared_name) _ a st core)
made_heads a_function_expression vs private a here core free st = both (still (scope.first_of a)) (still (scope.first_of (scope.behind a))) (first_is_still (maybe_one declared_name) _ a refl st core) (parameters_still (maybe_one declared_name) _ a st core)
made_heads an_arrow_function vs private a here core free st = both (still (scope.first_of a)) (still (scope.first_of (scope.behind a))) (first_is_still (maybe_one no_node) _ a refl st core) (parameters_still (maybe_one no_node) _ a st core)
made_heads a_class_declaration vs private a here core free st = absurd cc
made_heads a_default_class vs private a here core free st = absurd cc
made_heads a_class_expression vs private a here core free st = absurd cc
made_heads an_import_declaration vs private a here core free st = still_as_planned a (these (list Kind.Specifiers import_item ∷ [])) refl st core
made_heads an_export_list vs private a here core free st = calm_as_planned a (these (maybe_one no_node ∷ list Kind.Specifiers export_item ∷ [])) refl st core
made_heads an_export_declaration vs private a here core free st = calm_as_planned a (these (one declaration ∷ list Kind.Specifiers no_node ∷ [])) refl st core
made_heads an_export_from vs private a here core free st = calm_as_planned a (these (maybe_one no_node ∷ list Kind.Specifiers foreign_item ∷ [])) refl st core
made_heads an_export_default_declaration vs private a here core free st = calm_as_planned a (these (one default_export ∷ [])) refl st core
made_heads an_object_expression vs private a here core free st = calm_as_planned a (these (list Kind.Properties object_item ∷ [])) refl st core
made_heads a_binding_name vs private a here core free st = free
made_heads r vs private a here core free st = refl

pub made_values : (r : Row) (vs : Values (fields_of r)) (private : Bool) (a : Forest) → all_core a ≡ true → Stand (these (places private (fields_of r) vs)) a → has_plain_value (kind_in r vs) a ≡ true
made_values a_variable_declarator vs private a core st =
    ap is_none (nameless_as_planned (scope.behind a) (these (maybe_one expression ∷ [])) refl (behind_stands (one binding) (maybe_one expression ∷ []) a st) (behind_core a core))
made_values r vs private a core st = refl
