-- Each rule of form that a node keeps, it keeps when what lies below it sheds.
use Rattle.std.proofs.Common.{◌≡◌, ℕ, ◌^◌, suc, pos, negsuc, List, [], ◌∷◌, ◌++◌, Bool, true, false, not, ◌&&◌, ◌||◌, ◌==◌, nat_lt, if◌then◌else◌, None, Some, refl, ap, ◌∙◌}
use Rattle.js_syntax.specs.declared.node_kind.NodeKind.{NodeKind as Kind}
use Rattle.js_syntax.specs.declared.node_kind.NodeKind.TheVariants.{Program as program, EmptyStatement as empty_statement, BlockStatement as block_statement, Function as function, Members as members, StaticBlock as static_block, PrivateName as private_name, BindingName as binding_name, ReferenceName as reference_name, TargetName as target_name, LabeledStatement as labeled_statement, BreakStatement as break_statement, ContinueStatement as continue_statement, ReturnStatement as return_statement, WithStatement as with_statement, ForStatement as for_statement, ForInStatement as for_in_statement, ForOfStatement as for_of_statement, Cases as cases, TryStatement as try_statement, CatchClause as catch_clause, VariableDeclaration as variable_declaration, Parameters as parameters, Elements as elements, Properties as properties, Literal as literal, CallExpression as call_expression, MemberExpression as member_expression, NewTarget as new_target, ImportMeta as import_meta, UnaryExpression as unary_expression, SequenceExpression as sequence_expression, TemplateLiteral as template_literal, ImportDeclaration as import_declaration, ExportNamedDeclaration as export_named_declaration, ExportDefaultDeclaration as export_default_declaration, ExportAllDeclaration as export_all_declaration}
use Rattle.js_syntax.specs.declared.value.LiteralValue.TheVariants as value
use Rattle.js_syntax.specs.declared.operator.UnaryOperator.TheVariants as unary
use Rattle.js_syntax.specs.declared.scalar.SourceType.{SourceType}
use Rattle.js_syntax.specs.Node.{Forest, nothing}
use Rattle.form_rules.specs.declared.rule.Break.{Break}
use Rattle.form_rules.specs.declared.sought.Sort.{Sort}
use Rattle.form_rules.specs.declared.sought.Sort.TheVariants.{Lexical as lexical, Hoisted as hoisted}
use Rattle.form_rules.specs.declared.sought.Sought.TheVariants.{Scope as scope, FunctionScope as function_scope, CatchScope as catch_scope}
use Rattle.form_rules.specs.Break.{unless}
use Rattle.form_rules.specs.Name.{is_among, may_be_read, may_be_bound}
use Rattle.form_rules.specs.Scope.{Declared, later, clash, both_parameters, variable_of_catch}
use Rattle.form_rules.specs.Context.{Context, is_module, is_strict_function, is_method, is_absent}
use Rattle.form_rules.specs.Rules.{places_of, all_but_first, each_breaks, declared_places, length_of, first_below, behind, functions_in, at_top, declared_by, rule_1, rule_2, rule_3, rule_4, rule_5, rule_6, rule_7, rule_8, rule_9, rule_10, rule_11, rule_12, broken_at, have_plain_parameters, is_arrow, may_repeat_parameters, has_label, has_loop, repeated_privates, privates_among, exported_among, repeated_exports, locals_among, undeclared, first_is_super, is_bare_name, is_default, is_constructor, early_rests, is_declarator_wrong, counts_right, is_declaration, has_handler_or_finalizer, parts_of}
use Rattle.json_text.specs.Text.{is_identifier_name}
use Rattle.steps.specs.KeepForm.Sheds.{Around, entered, Sheds}
use Rattle.steps.proofs.KeepForm.Fewer.{Fewer, none, SameName, none_later, none_repeated, none_exported_twice}
use Rattle.steps.proofs.KeepForm.ShedNames.{fewer_declared, still_declared}
use Rattle.steps.proofs.KeepForm.Rows.{stays_below, is_other, behind_left, absent_same}
use Rattle.steps.proofs.KeepForm.Exports.{exported_first, locals_below_first, locals_anywhere, none_undeclared}
use Rattle.steps.proofs.KeepForm.Asked.{asked_there}
use Rattle.steps.proofs.KeepForm.Seen.{function_same, plain_same, privates_fewer, super_same, bare_kept, rests_last}
use Rattle.steps.proofs.KeepForm.Parts.{one_default, one_constructor, counts_stay, below_same, are_variables, declarators_left}

-- ---- lists of breaks

pub first_empty : {A : Type 0} (xs ys : List A) → xs ++ ys ≡ [] → xs ≡ []
first_empty [] ys h = refl
first_empty (x ∷ xs) ys h = absurd cc

pub second_empty : {A : Type 0} (xs ys : List A) → xs ++ ys ≡ [] → ys ≡ []
second_empty [] ys h = h
second_empty (x ∷ xs) ys h = absurd cc

pub both_empty : {A : Type 0} (xs ys : List A) → xs ≡ [] → ys ≡ [] → xs ++ ys ≡ []
both_empty [] ys h g = g
both_empty (x ∷ xs) ys h g = absurd cc

pub each_kept : (xs ys us vs : List Break) → (xs ≡ [] → us ≡ []) → (ys ≡ [] → vs ≡ []) → xs ++ ys ≡ [] → us ++ vs ≡ []
each_kept xs ys us vs f g h = both_empty us vs (f (first_empty xs ys h)) (g (second_empty xs ys h))

pub no_places : (rule : ℕ) (ps : List ℕ) → each_breaks rule ps ≡ [] → ps ≡ []
no_places rule [] h = refl
no_places rule (p ∷ ps) h = absurd cc

pub no_names : (ds : List Declared) → declared_places ds ≡ [] → ds ≡ []
no_names [] h = refl
no_names (d ∷ ds) h = absurd cc

each_none : (rule : ℕ) (ps qs : List ℕ) → (ps ≡ [] → qs ≡ []) → each_breaks rule ps ≡ [] → each_breaks rule qs ≡ []
each_none rule ps qs f h = ap (each_breaks rule) (f (no_places rule ps h))

pub is_kept : (b : Bool) (place rule : ℕ) → unless b place rule ≡ [] → b ≡ true
is_kept true place rule h = refl
is_kept false place rule h = absurd cc

unless_if : (b c : Bool) (p q rule : ℕ) → (b ≡ true → c ≡ true) → unless b p rule ≡ [] → unless c q rule ≡ []
unless_if b c p q rule f h = ap (λ x. unless x q rule) (f (is_kept b p rule h))

unless_same : (b : Bool) (p q rule : ℕ) → unless b p rule ≡ [] → unless b q rule ≡ []
unless_same b p q rule h = unless_if b b p q rule (λ e. e) h

not_both : (s a b : Bool) → (b ≡ true → a ≡ true) → not (s && a) ≡ true → not (s && b) ≡ true
not_both true true true f h = absurd cc
not_both true false true f h = absurd (cc (f refl))
not_both true a false f h = refl
not_both false a b f h = refl

if_kept : (b c : Bool) (xs ys : List Break) → c ≡ b → (xs ≡ [] → ys ≡ []) → (if b then [] else xs) ≡ [] → (if c then [] else ys) ≡ []
if_kept true c xs ys e f h = rw e refl
if_kept false c xs ys e f h = rw e (f h)

later_none : (rule : ℕ) (test : Sort → Sort → Bool) (ds es : List Declared) → Fewer Declared SameName es ds → each_breaks rule (declared_places (later test ds)) ≡ [] → each_breaks rule (declared_places (later test es)) ≡ []
later_none rule test ds es f h = each_none rule _ _ (λ g. ap declared_places (none_later test none f (no_names (later test ds) g))) h

-- ---- a node, and what it sheds

module _ (w : Around) (c : Context) (p q : ℕ) (a b : Forest) where
  abbrev pub Below : Kind → Type 0
  Below k = Sheds (entered w k a) a b

  declared_by_fewer : (k : Kind) → Below k → Fewer Declared SameName (declared_by c k q b) (declared_by c k p a)
  declared_by_fewer (program source) h = fewer_declared (scope (at_top source)) (suc q) (suc p) (λ e. absurd cc) h
  declared_by_fewer (function how pure) h = fewer_declared function_scope (suc q) (suc p) (λ e. absurd cc) h
  declared_by_fewer static_block h = fewer_declared (scope hoisted) (suc q) (suc p) (λ e. absurd cc) h
  declared_by_fewer block_statement h = fewer_declared (scope (functions_in c.strict)) (suc q) (suc p) (λ e. absurd cc) h
  declared_by_fewer cases h = fewer_declared (scope (functions_in c.strict)) q p (λ e. absurd cc) h
  declared_by_fewer for_statement h = fewer_declared (scope lexical) (suc q) (suc p) (λ e. absurd cc) h
  declared_by_fewer for_in_statement h = fewer_declared (scope lexical) (suc q) (suc p) (λ e. absurd cc) h
  declared_by_fewer for_of_statement h = fewer_declared (scope lexical) (suc q) (suc p) (λ e. absurd cc) h
  declared_by_fewer catch_clause h = fewer_declared (catch_scope (functions_in c.strict)) (suc q) (suc p) (λ e. asked_there w.row catch_clause refl) h
  declared_by_fewer k h = none

  rule_1_kept : (k : Kind) → Below k → rule_1 c k p a ≡ [] → rule_1 c k q b ≡ []
  rule_1_kept k h = later_none 1 clash (declared_by c k p a) (declared_by c k q b) (declared_by_fewer k h)

  repeat_same : (k : Kind) → Below k → may_repeat_parameters c k b ≡ may_repeat_parameters c k a
  repeat_same (function how pure) h =
      let stays = stays_below w.row (function how pure) refl in
      ap (λ x. not (c.strict || x || is_arrow how || is_method c.role) && have_plain_parameters b) (function_same stays h)
      ∙ ap (λ x. not (c.strict || is_strict_function a || is_arrow how || is_method c.role) && x) (plain_same stays h)
  repeat_same k h = refl

  rule_2_kept : (k : Kind) → Below k → rule_2 c k p a ≡ [] → rule_2 c k q b ≡ []
  rule_2_kept k h =
      if_kept (may_repeat_parameters c k a) (may_repeat_parameters c k b) (each_breaks 2 (declared_places (later both_parameters (declared_by c k p a)))) (each_breaks 2 (declared_places (later both_parameters (declared_by c k q b)))) (repeat_same k h)
      (later_none 2 both_parameters (declared_by c k p a) (declared_by c k q b) (declared_by_fewer k h))

  rule_3_kept : (k : Kind) → rule_3 c k p a ≡ [] → rule_3 c k q b ≡ []
  rule_3_kept (break_statement None) h = unless_same c.leaves.breaks p q 3 h
  rule_3_kept (break_statement (Some s)) h = unless_same (has_label s c.leaves.labels) p q 3 h
  rule_3_kept (continue_statement None) h = unless_same c.leaves.continues p q 3 h
  rule_3_kept (continue_statement (Some s)) h = unless_same (has_loop s c.leaves.labels) p q 3 h
  rule_3_kept (labeled_statement s) h = unless_same (not (has_label s c.leaves.labels)) p q 3 h
  rule_3_kept k h = refl

  rule_4_kept : (k : Kind) → Below k → rule_4 c k p a ≡ [] → rule_4 c k q b ≡ []
  rule_4_kept (private_name s) h g = unless_same (is_among s c.members.privates) p q 4 g
  rule_4_kept members h g = each_none 4 (repeated_privates [] (privates_among p a)) (repeated_privates [] (privates_among q b)) (none_repeated none (privates_fewer q p (stays_below w.row members refl) h)) g
  rule_4_kept k h g = refl

  rule_5_kept : (k : Kind) → rule_5 c k p a ≡ [] → rule_5 c k q b ≡ []
  rule_5_kept (binding_name s) h = unless_same (may_be_bound c.strict (is_module c.source) s) p q 5 h
  rule_5_kept (target_name s) h = unless_same (may_be_bound c.strict (is_module c.source) s) p q 5 h
  rule_5_kept (reference_name s) h = unless_same (may_be_read c.strict (is_module c.source) s) p q 5 h
  rule_5_kept (private_name s) h = unless_same (is_identifier_name s) p q 5 h
  rule_5_kept k h = refl

  rule_6_kept : (k : Kind) → rule_6 c k p a ≡ [] → rule_6 c k q b ≡ []
  rule_6_kept return_statement h = unless_same c.leaves.returns p q 6 h
  rule_6_kept k h = refl

  exports_kept : (source : SourceType) → Below (program source) → rule_7 c (program source) p a ≡ [] → rule_7 c (program source) q b ≡ []
  exports_kept source h =
      let stays = stays_below w.row (program source) refl in
      each_kept _ _ _ _
      (each_none 7 (repeated_exports [] (exported_among (suc p) (first_below a))) (repeated_exports [] (exported_among (suc q) (first_below b)))
      (none_exported_twice none (exported_first (suc q) (suc p) stays (asked_there w.row (program source) refl) h)))
      (each_none 7 (undeclared (declared_by c (program source) p a) (locals_among (suc p) (first_below a))) (undeclared (declared_by c (program source) q b) (locals_among (suc q) (first_below b)))
      (none_undeclared (declared_by c (program source) q b) (declared_by c (program source) p a) (locals_below_first (suc q) (suc p) stays (asked_there w.row (program source) refl) h)
      (λ x e d. still_declared x (suc q) (suc p) refl h (locals_anywhere x (suc p) 0 (first_below a) e) d)))

  rule_7_kept : (k : Kind) → Below k → rule_7 c k p a ≡ [] → rule_7 c k q b ≡ []
  rule_7_kept (program source) h g = exports_kept source h g
  rule_7_kept (import_declaration source) h g = unless_same (is_module c.source) p q 7 g
  rule_7_kept (export_named_declaration source) h g = unless_same (is_module c.source) p q 7 g
  rule_7_kept export_default_declaration h g = unless_same (is_module c.source) p q 7 g
  rule_7_kept (export_all_declaration exported source) h g = unless_same (is_module c.source) p q 7 g
  rule_7_kept k h g = refl

  rule_8_kept : (k : Kind) → Below k → rule_8 c k p a ≡ [] → rule_8 c k q b ≡ []
  rule_8_kept (call_expression optional pure) h g =
      unless_if (not (first_is_super a) || c.members.super_calls) (not (first_is_super b) || c.members.super_calls) p q 8
      (λ e. ap (λ x. not x || c.members.super_calls) (super_same (stays_below w.row (call_expression optional pure) refl) h) ∙ e) g
  rule_8_kept (member_expression key optional) h g =
      unless_if (not (first_is_super a) || c.members.super_members) (not (first_is_super b) || c.members.super_members) p q 8
      (λ e. ap (λ x. not x || c.members.super_members) (super_same (stays_below w.row (member_expression key optional) refl) h) ∙ e) g
  rule_8_kept new_target h g = unless_same c.members.new_target p q 8 g
  rule_8_kept import_meta h g = unless_same (is_module c.source) p q 8 g
  rule_8_kept k h g = refl

  rule_9_kept : (k : Kind) → Below k → rule_9 c k p a ≡ [] → rule_9 c k q b ≡ []
  rule_9_kept k h = later_none 9 variable_of_catch (declared_by c k p a) (declared_by c k q b) (declared_by_fewer k h)

  rule_10_kept : (k : Kind) → Below k → rule_10 c k p a ≡ [] → rule_10 c k q b ≡ []
  rule_10_kept with_statement h g = unless_same (not c.strict) p q 10 g
  rule_10_kept (unary_expression unary.Delete) h g =
      unless_if (not (c.strict && is_bare_name a)) (not (c.strict && is_bare_name b)) p q 10 (not_both c.strict (is_bare_name a) (is_bare_name b) (bare_kept (stays_below w.row (unary_expression unary.Delete) refl) refl h)) g
  rule_10_kept k h g = refl

  parts_kept : (k : Kind) → Below k → parts_of c k p a ≡ [] → parts_of c k q b ≡ []
  parts_kept cases h g = each_none 11 (all_but_first (places_of is_default p a)) (all_but_first (places_of is_default q b)) (one_default q p h) g
  parts_kept members h g = each_none 11 (all_but_first (places_of is_constructor p a)) (all_but_first (places_of is_constructor q b)) (one_constructor q p h) g
  parts_kept (variable_declaration how) h g =
      let row = are_variables w.row how in
      each_kept (unless (counts_right c.is_head (length_of (first_below a))) p 11) (each_breaks 11 (places_of (is_declarator_wrong c.is_head how) (suc p) (first_below a)))
      (unless (counts_right c.is_head (length_of (first_below b))) q 11) (each_breaks 11 (places_of (is_declarator_wrong c.is_head how) (suc q) (first_below b)))
      (unless_if (counts_right c.is_head (length_of (first_below a))) (counts_right c.is_head (length_of (first_below b))) p q 11
      (counts_stay c.is_head row (asked_there w.row (variable_declaration how) refl) h))
      (each_none 11 (places_of (is_declarator_wrong c.is_head how) (suc p) (first_below a)) (places_of (is_declarator_wrong c.is_head how) (suc q) (first_below b))
      (declarators_left c.is_head how (suc q) (suc p) row (asked_there w.row (variable_declaration how) refl) h)) g
  parts_kept sequence_expression h g =
      unless_if (nat_lt 1 (length_of (first_below a))) (nat_lt 1 (length_of (first_below b))) p q 11
      (λ e. ap (λ n. nat_lt 1 n) (below_same (is_other w.row sequence_expression refl) (asked_there w.row sequence_expression refl) h) ∙ e) g
  parts_kept template_literal h g =
      let row = is_other w.row template_literal refl in
      let asked = asked_there w.row template_literal refl in
      unless_if (length_of (first_below a) == suc (length_of (first_below (behind a)))) (length_of (first_below b) == suc (length_of (first_below (behind b)))) p q 11
      (λ e. ap (λ n. n == suc (length_of (first_below (behind b)))) (below_same row asked h)
      ∙ ap (λ n. length_of (first_below a) == suc n) (below_same row asked (behind_left (stays_below w.row template_literal refl) h)) ∙ e) g
  parts_kept parameters h g = each_none 11 (early_rests p a) (early_rests q b) (rests_last q p (stays_below w.row parameters refl) h) g
  parts_kept elements h g = each_none 11 (early_rests p a) (early_rests q b) (rests_last q p (stays_below w.row elements refl) h) g
  parts_kept properties h g = each_none 11 (early_rests p a) (early_rests q b) (rests_last q p (stays_below w.row properties refl) h) g
  parts_kept try_statement h g =
      let stays = stays_below w.row try_statement refl in
      unless_if (has_handler_or_finalizer a) (has_handler_or_finalizer b) p q 11
      (λ e. ap (λ x. not (x && is_absent (behind (behind b)))) (absent_same stays (behind_left stays h)) ∙ ap (λ x. not (is_absent (behind a) && x)) (absent_same stays (behind_left stays (behind_left stays h))) ∙ e) g
  parts_kept k h g = refl

  rule_11_kept : (k : Kind) → Below k → rule_11 c k p a ≡ [] → rule_11 c k q b ≡ []
  rule_11_kept k h = each_kept (unless (not (c.is_alone && is_declaration k)) p 11) (parts_of c k p a) (unless (not (c.is_alone && is_declaration k)) q 11) (parts_of c k q b) (unless_same (not (c.is_alone && is_declaration k)) p q 11) (parts_kept k h)

  rule_12_kept : (k : Kind) → rule_12 c k p a ≡ [] → rule_12 c k q b ≡ []
  rule_12_kept (literal (value.Number (pos n))) h = unless_same (nat_lt n (2 ^ 53)) p q 12 h
  rule_12_kept (literal (value.Number (negsuc n))) h = unless_same (nat_lt (suc n) (2 ^ 53)) p q 12 h
  rule_12_kept k h = refl

  pub rules_kept : (k : Kind) → Below k → broken_at c k p a ≡ [] → broken_at c k q b ≡ []
  rules_kept k h =
      each_kept _ _ _ _ (each_kept _ _ _ _ (each_kept _ _ _ _ (each_kept _ _ _ _ (each_kept _ _ _ _ (each_kept _ _ _ _ (each_kept _ _ _ _ (each_kept _ _ _ _ (each_kept _ _ _ _ (each_kept _ _ _ _ (each_kept _ _ _ _
      (rule_1_kept k h) (rule_2_kept k h)) (rule_3_kept k)) (rule_4_kept k h)) (rule_5_kept k)) (rule_6_kept k)) (rule_7_kept k h)) (rule_8_kept k h)) (rule_9_kept k h)) (rule_10_kept k h)) (rule_11_kept k h)) (rule_12_kept k)

-- an empty statement breaks no rule
pub empty_keeps : (c : Context) (place : ℕ) → broken_at c empty_statement place nothing ≡ []
empty_keeps c place = unless_empty c.is_alone
  where
    unless_empty : (alone : Bool) → (unless (not (alone && false)) place 11 ++ []) ++ [] ≡ []
    unless_empty true = refl
    unless_empty false = refl
