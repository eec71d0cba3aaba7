-- The definitions, tried on small programs: statements.
use Rattle.std.proofs.Common.{◌≡◌, ◌∙◌, [], ◌∷◌, pos, Bool, true, false, true≢false, codes, inl, inr, refl, sym}
use Rattle.js_syntax.specs.declared.node_kind.NodeKind.{NodeKind as Kind}
use Rattle.js_syntax.specs.declared.kind.VariableKind.TheVariants as variable
use Rattle.js_syntax.specs.declared.operator.LogicalOperator.TheVariants as operator
use Rattle.js_syntax.specs.declared.operator.UnaryOperator.TheVariants as unary
use Rattle.js_syntax.specs.declared.value.Key.TheVariants as key
use Rattle.js_syntax.specs.declared.value.LiteralValue.TheVariants as value
use Rattle.js_syntax.specs.Node.{Forest, Tree, Note, nothing, node, absent, nowhere, joined}
use Rattle.form_rules.specs.Samples.{a_module, a, binds, reads, listed, no, one, does, declares, let_, var_, function_a, block}
use Rattle.scope_rules.specs.Context.{body_of}
use Rattle.scope_rules.specs.Binding.{named_in}
use Rattle.scope_rules.specs.Samples.{imports}
use Rattle.scope_laws.specs.Place.{Around, first, behind, under, plug}
use Rattle.min_pass.specs.Around.{outermost as asked_of_program}
use Rattle.steps.specs.Allowed.Uses.{Use, use_at, stands_bare}
use Rattle.steps.specs.Allowed.Places.{a_node, asked_at, in_class_at, At, MayStandBare}
use Rattle.steps.specs.Allowed.Free.{IsFree}
use Rattle.steps.specs.Allowed.SilentStatement.{SilentStatement, silent_statement_empties}
use Rattle.steps.specs.Allowed.EmptyStatement.{empty_statement_leaves}
use Rattle.steps.specs.Allowed.UnusedFunction.{unused_function_leaves}
use Rattle.steps.specs.Allowed.UnusedImport.{unused_import_leaves}
use Rattle.steps.specs.Allowed.RepeatedImport.{repeated_import_leaves}
use Rattle.steps.specs.Allowed.UnusedDeclaration.{a_declaration, SilentDeclaration, unused_declaration_leaves}
use Rattle.steps.specs.Allowed.KnownConditional.{a_conditional, KnownConditional, consequent_is_taken, alternate_is_taken}
use Rattle.steps.specs.Allowed.KnownSide.{right_side_counts, left_side_decides}
use Rattle.steps.specs.Allowed.KnownIf.{an_if, KnownIf, consequent_is_run, alternate_is_run}
use Rattle.steps.specs.Allowed.DeadIf.{DeadIf, nothing_is_run}
use Rattle.steps.specs.Allowed.Edits.{Edit, leaves, becomes, empty_statement, silent_statement, unused_function, unused_declaration, unused_import, repeated_import, known_conditional, known_side, known_if, dead_if}
use Rattle.steps.specs.Allowed.Rows.{loop, in_list, before, call_of_a, null, if_one, if_null, either_way, conditional, logical, may_be_named, o_f, parenthesized, in_statement, called, called_in_parentheses, called_in_with, in_class_a, this, argument, operand, applied, assigned, statement, ComesOut, Stays, array, with_a, in_with_a, empty, a_is_read, a_is_exported, imports_nothing, behind_import, only_import, tried, loop}

pub empties_in_list : Edit (a_module (does one ∷ [])) (a_module (empty ∷ []))
empties_in_list = becomes (before []) _ _ (silent_statement (silent_statement_empties nowhere nowhere nowhere _ nothing (inl refl, tt)))

pub this_empties : Edit (a_module (does this ∷ [])) (a_module (empty ∷ []))
this_empties = becomes (before []) _ _ (silent_statement (silent_statement_empties nowhere nowhere nowhere _ nothing (inr (inl refl), tt)))

pub this_in_class : At in_class_a (a_node Kind.ExpressionStatement nowhere this) (SilentStatement (plug in_class_a (a_node Kind.ExpressionStatement nowhere this)) this (in_class_at in_class_a)) → ⊥
this_in_class (inl e, rest) = absurd (true≢false (sym e))
this_in_class (inr (inl e), rest) = absurd (true≢false e)
this_in_class (inr (inr (parts, below)), rest) = absurd (true≢false (sym parts))

-- behind what is tested
abbrev pub consequent : Around
consequent = in_list (under Kind.IfStatement nowhere (behind (Kind.Literal (value.Number (pos 1))) nowhere nothing (first (absent nothing))) nothing)

pub empties_alone : Edit (a_module (if_one (does one) ∷ [])) (a_module (if_one empty ∷ []))
empties_alone = becomes consequent _ _ (silent_statement (silent_statement_empties nowhere nowhere nowhere _ nothing (inl refl, tt)))

pub leaves_then : Edit (a_module (empty ∷ [])) (a_module [])
leaves_then = leaves (before []) _ (empty_statement (empty_statement_leaves nowhere refl))

pub call_acts : At (before []) (a_node Kind.ExpressionStatement nowhere call_of_a) (SilentStatement (a_module (does call_of_a ∷ [])) call_of_a false) → ⊥
call_acts (inl e, rest) = absurd (true≢false (sym e))
call_acts (inr (inl found), rest) = absurd found
call_acts (inr (inr (parts, below)), rest) = absurd (true≢false (sym parts))

pub name_acts : At (before []) (a_node Kind.ExpressionStatement nowhere (reads a)) (SilentStatement (a_module (does (reads a) ∷ [])) (reads a) false) → ⊥
name_acts (inl e, rest) = absurd (true≢false (sym e))
name_acts (inr (inl (w, inl found)), rest) = absurd (true≢false (sym found))
name_acts (inr (inl (w, inr named)), rest) = absurd (true≢false (sym named))
name_acts (inr (inr (parts, below)), rest) = absurd (true≢false (sym parts))

pub name_in_with : At in_with_a (a_node Kind.ExpressionStatement nowhere (reads a)) (SilentStatement (with_a (does (reads a))) (reads a) false) → ⊥
name_in_with (inl e, rest) = absurd (true≢false (sym e))
name_in_with (inr (inl (w, found)), rest) = absurd (true≢false w)
name_in_with (inr (inr (parts, below)), rest) = absurd (true≢false (sym parts))

pub read_in_with : At in_with_a (a_declaration variable.Let nowhere nowhere nowhere nowhere a (reads a)) (SilentDeclaration (with_a (declares variable.Let (binds a) (reads a))) variable.Let nowhere nowhere (joined (binds a) (reads a)) false) → ⊥
read_in_with (given, silent) = absurd (true≢false given)

pub given_in_with : At in_with_a (a_declaration variable.Var nowhere nowhere nowhere nowhere a one) (SilentDeclaration (with_a (declares variable.Var (binds a) one)) variable.Var nowhere nowhere (joined (binds a) one) false) → ⊥
given_in_with (given, silent) = absurd (true≢false given)

pub variable_goes : Edit (a_module (let_ a ∷ [])) (a_module [])
variable_goes =
    leaves (before []) _ (unused_declaration (unused_declaration_leaves variable.Let nowhere nowhere nowhere nowhere a (absent nothing) refl refl (refl, tt) (record { unreferred = λ r h e. h; unexported = λ e h s d. h })))

pub function_goes : Edit (a_module (function_a [] [] ∷ [])) (a_module [])
function_goes = leaves (before []) _ (unused_function (unused_function_leaves false nowhere nowhere a _ refl refl (record { unreferred = λ r h e. h; unexported = λ e h s d. h })))

pub read_stays : IsFree a_is_read (named_in a (body_of 0)) → ⊥
read_stays h = h.unreferred _ (inl refl) refl

pub exported_stays : IsFree a_is_exported (named_in a (body_of 0)) → ⊥
exported_stays h = h.unexported _ (inl refl) refl refl

pub import_goes : Edit (a_module (imports a ∷ [])) (a_module (imports_nothing ∷ []))
import_goes = leaves only_import _ (unused_import (unused_import_leaves Kind.ImportDefaultSpecifier nowhere nowhere a refl refl refl (record { unreferred = λ r h e. h; unexported = λ e h s d. h })))

pub import_goes_behind_bare : Edit (a_module (imports_nothing ∷ imports_nothing ∷ [])) (a_module (imports_nothing ∷ []))
import_goes_behind_bare = leaves (in_list (behind (Kind.ImportDeclaration (codes "m")) nowhere (listed Kind.Specifiers []) (first nothing))) _ (repeated_import (repeated_import_leaves (codes "m") nowhere nowhere refl refl))

pub import_goes_behind_names : Edit (a_module (imports a ∷ imports_nothing ∷ [])) (a_module (imports a ∷ []))
import_goes_behind_names = leaves behind_import _ (repeated_import (repeated_import_leaves (codes "m") nowhere nowhere refl refl))

pub imported_read_stays : IsFree (a_module (imports a ∷ does (reads a) ∷ [])) (named_in a (body_of 0)) → ⊥
imported_read_stays h = h.unreferred _ (inl refl) refl

-- where the expression of a statement stands
abbrev pub there : Around
there = in_statement (first nothing)

pub consequent_taken : Edit (a_module (does (conditional one call_of_a (reads a)) ∷ [])) (a_module (does call_of_a ∷ []))
consequent_taken = becomes there _ _ (known_conditional (consequent_is_taken nowhere nowhere nowhere nowhere _ _ _ _ _ _ refl refl))

pub alternate_taken : Edit (a_module (does (conditional null (reads a) call_of_a) ∷ [])) (a_module (does call_of_a ∷ []))
alternate_taken = becomes there _ _ (known_conditional (alternate_is_taken nowhere nowhere nowhere nowhere _ _ _ _ _ _ refl refl))

pub object_taken : Edit (a_module (does (conditional (array []) call_of_a (reads a)) ∷ [])) (a_module (does call_of_a ∷ []))
object_taken = becomes there _ _ (known_conditional (consequent_is_taken nowhere nowhere nowhere nowhere _ _ _ _ _ _ refl refl))

pub negated_taken : Edit (a_module (does (conditional (applied unary.LogicalNot (array [])) (reads a) call_of_a) ∷ [])) (a_module (does call_of_a ∷ []))
negated_taken = becomes there _ _ (known_conditional (alternate_is_taken nowhere nowhere nowhere nowhere _ _ _ _ _ _ refl refl))

pub acting_test_stays : (y : Tree) → KnownConditional statement (a_conditional nowhere Kind.ArrayExpression nowhere (listed Kind.Elements (call_of_a ∷ [])) (joined (reads a) null)) y → ⊥
acting_test_stays y (consequent_is_taken n m i j t k l a b c truth bare) = absurd cc
acting_test_stays y (alternate_is_taken n m i j t k l a b c truth bare) = absurd cc

pub consequent_run : Edit (a_module (if_one (does call_of_a) ∷ [])) (a_module (does call_of_a ∷ []))
consequent_run = becomes (before []) _ _ (known_if (consequent_is_run nowhere nowhere nowhere _ _ _ _ (absent nothing) refl refl tt refl))

pub alternate_run : Edit (a_module (if_null empty (does call_of_a) ∷ [])) (a_module (does call_of_a ∷ []))
alternate_run = becomes (before []) _ _ (known_if (alternate_is_run nowhere nowhere nowhere nowhere _ _ _ _ _ _ refl refl refl))

pub object_run : Edit (a_module (either_way (array []) (does call_of_a) (does (reads a)) ∷ [])) (a_module (does call_of_a ∷ []))
object_run = becomes (before []) _ _ (known_if (consequent_is_run nowhere nowhere nowhere _ _ _ _ (does (reads a)) refl refl tt refl))

pub dead_if_empties : Edit (a_module (if_null (does call_of_a) no ∷ [])) (a_module (empty ∷ []))
dead_if_empties = becomes (before []) _ _ (dead_if (nothing_is_run nowhere nowhere nowhere nowhere _ _ _ _ refl refl))

pub dead_if_empties_alone : Edit (a_module (if_one (if_null (does call_of_a) no) ∷ [])) (a_module (if_one empty ∷ []))
dead_if_empties_alone = becomes consequent _ _ (dead_if (nothing_is_run nowhere nowhere nowhere nowhere _ _ _ _ refl refl))

pub negated_if_empties : Edit (a_module (either_way (applied unary.LogicalNot (array [])) (does call_of_a) no ∷ [])) (a_module (empty ∷ []))
negated_if_empties = becomes (before []) _ _ (dead_if (nothing_is_run nowhere nowhere nowhere nowhere _ _ _ _ refl refl))

pub dead_let_empties : Edit (a_module (if_null (block (let_ a ∷ [])) no ∷ [])) (a_module (empty ∷ []))
dead_let_empties = becomes (before []) _ _ (dead_if (nothing_is_run nowhere nowhere nowhere nowhere _ _ _ _ refl refl))

pub dead_try_empties : Edit (a_module (if_null (tried (let_ a ∷ [])) no ∷ [])) (a_module (empty ∷ []))
dead_try_empties = becomes (before []) _ _ (dead_if (nothing_is_run nowhere nowhere nowhere nowhere _ _ _ _ refl refl))

pub dead_block_with_try_empties : Edit (a_module (if_null (block (tried (does call_of_a ∷ []) ∷ [])) no ∷ [])) (a_module (empty ∷ []))
dead_block_with_try_empties = becomes (before []) _ _ (dead_if (nothing_is_run nowhere nowhere nowhere nowhere _ _ _ _ refl refl))

pub dead_try_with_var_stays : (y : Tree) → DeadIf (an_if nowhere (Kind.Literal value.Null) nowhere nothing (joined (block (tried (var_ a ∷ []) ∷ [])) no)) y → ⊥
dead_try_with_var_stays y (nothing_is_run n m i o t k b c truth none) = absurd cc

pub dead_loop_empties : Edit (a_module (if_null (loop (let_ a) (does call_of_a)) no ∷ [])) (a_module (empty ∷ []))
dead_loop_empties = becomes (before []) _ _ (dead_if (nothing_is_run nowhere nowhere nowhere nowhere _ _ _ _ refl refl))

pub dead_loop_with_var_stays : (y : Tree) → DeadIf (an_if nowhere (Kind.Literal value.Null) nowhere nothing (joined (loop (var_ a) (does call_of_a)) no)) y → ⊥
dead_loop_with_var_stays y (nothing_is_run n m i o t k b c truth none) = absurd cc

pub dead_var_stays : (y : Tree) → DeadIf (an_if nowhere (Kind.Literal value.Null) nowhere nothing (joined (block (var_ a ∷ [])) no)) y → ⊥
dead_var_stays y (nothing_is_run n m i o t k b c truth none) = absurd cc

pub dead_function_stays : (y : Tree) → DeadIf (an_if nowhere (Kind.Literal value.Null) nowhere nothing (joined (block (function_a [] [] ∷ [])) no)) y → ⊥
dead_function_stays y (nothing_is_run n m i o t k b c truth none) = absurd cc

pub acting_if_stays : (y : Tree) → DeadIf (an_if nowhere (Kind.UnaryExpression unary.LogicalNot) nowhere (array (call_of_a ∷ [])) (joined (does call_of_a) no)) y → ⊥
acting_if_stays y (nothing_is_run n m i o t k b c truth none) = absurd cc

pub and_goes_right : Edit (a_module (does (logical operator.And one call_of_a) ∷ [])) (a_module (does call_of_a ∷ []))
and_goes_right = becomes there _ _ (known_side (right_side_counts operator.And nowhere nowhere nowhere _ _ _ _ refl refl))

pub and_stays_left : Edit (a_module (does (logical operator.And null call_of_a) ∷ [])) (a_module (does null ∷ []))
and_stays_left = becomes there _ _ (known_side (left_side_decides operator.And nowhere nowhere nowhere _ _ _ _ refl refl))

pub or_goes_right : Edit (a_module (does (logical operator.Or null (reads a)) ∷ [])) (a_module (does (reads a) ∷ []))
or_goes_right = becomes there _ _ (known_side (right_side_counts operator.Or nowhere nowhere nowhere _ _ _ _ refl refl))

pub or_stays_left : Edit (a_module (does (logical operator.Or one (reads a)) ∷ [])) (a_module (does one ∷ []))
or_stays_left = becomes there _ _ (known_side (left_side_decides operator.Or nowhere nowhere nowhere _ _ _ _ refl refl))

pub coalesce_goes_right : Edit (a_module (does (logical operator.Coalesce null o_f) ∷ [])) (a_module (does o_f ∷ []))
coalesce_goes_right = becomes there _ _ (known_side (right_side_counts operator.Coalesce nowhere nowhere nowhere _ _ _ _ refl refl))

pub coalesce_stays_left : Edit (a_module (does (logical operator.Coalesce one o_f) ∷ [])) (a_module (does one ∷ []))
coalesce_stays_left = becomes there _ _ (known_side (left_side_decides operator.Coalesce nowhere nowhere nowhere _ _ _ _ refl refl))

pub typed_stays_left : Edit (a_module (does (logical operator.Or (applied unary.Typeof one) (reads a)) ∷ [])) (a_module (does (applied unary.Typeof one) ∷ []))
typed_stays_left = becomes there _ _ (known_side (left_side_decides operator.Or nowhere nowhere nowhere _ _ _ _ refl refl))

pub voided_goes_right : Edit (a_module (does (logical operator.Coalesce (applied unary.Void one) o_f) ∷ [])) (a_module (does o_f ∷ []))
voided_goes_right = becomes there _ _ (known_side (right_side_counts operator.Coalesce nowhere nowhere nowhere _ _ _ _ refl refl))

pub object_stays_left : Edit (a_module (does (logical operator.Coalesce (array []) o_f) ∷ [])) (a_module (does (array []) ∷ []))
object_stays_left = becomes there _ _ (known_side (left_side_decides operator.Coalesce nowhere nowhere nowhere _ _ _ _ refl refl))

nameless : (u : Use) (in_with : Bool) (k : Kind) (b : Forest) → stands_bare u in_with k b ≡ true → may_be_named k ≡ false
nameless u in_with (Kind.Function how pure) b h = absurd cc
nameless u in_with (Kind.Class how) b h = absurd cc
nameless u in_with k b h = refl

pub branch_is_nameless : (place : Around) (x y : Tree) → KnownConditional place x y → may_be_named y.kind ≡ false
branch_is_nameless place x y (consequent_is_taken n m i j t k l a b c truth bare) = nameless (use_at place) (asked_at (asked_of_program true) place).in_with k b bare
branch_is_nameless place x y (alternate_is_taken n m i j t k l a b c truth bare) = nameless (use_at place) (asked_at (asked_of_program true) place).in_with l c bare

-- what may not stand bare stays
stays : (place : Around) (k : Kind) (n : Note) (b : Forest) → stands_bare (use_at place) (asked_at (asked_of_program true) place).in_with k b ≡ false → Stays place (node k n b nothing)
stays place k n b h y (consequent_is_taken _ _ _ _ _ _ _ _ _ _ truth bare) = true≢false (sym bare ∙ h)
stays place k n b h y (alternate_is_taken _ _ _ _ _ _ _ _ _ _ truth bare) = absurd cc

comes : (place : Around) (k : Kind) (n : Note) (b : Forest) → MayStandBare place k b → ComesOut place (node k n b nothing)
comes place k n b h = becomes place _ _ (known_conditional (consequent_is_taken nowhere nowhere n nowhere _ k _ nothing b nothing refl h))

-- o.f
abbrev pub member : Kind
member = Kind.MemberExpression (key.Name (codes "f")) false

pub called_member_stays : Stays called o_f
called_member_stays = stays called member nowhere (reads (codes "o")) refl

pub parenthesized_member_stays : Stays called (parenthesized o_f)
parenthesized_member_stays = stays called Kind.ParenthesizedExpression nowhere o_f refl

pub called_in_with_stays : Stays called_in_with (reads a)
called_in_with_stays = stays called_in_with (Kind.ReferenceName a) nowhere nothing refl

pub called_eval_stays : Stays called_in_parentheses (reads (codes "eval"))
called_eval_stays = stays called_in_parentheses (Kind.ReferenceName (codes "eval")) nowhere nothing refl

pub typed_name_stays : Stays (operand unary.Typeof) (reads a)
typed_name_stays = stays (operand unary.Typeof) (Kind.ReferenceName a) nowhere nothing refl

pub deleted_member_stays : Stays (operand unary.Delete) o_f
deleted_member_stays = stays (operand unary.Delete) member nowhere (reads (codes "o")) refl

pub deleted_name_stays : Stays (operand unary.Delete) (reads a)
deleted_name_stays = stays (operand unary.Delete) (Kind.ReferenceName a) nowhere nothing refl

pub assigned_member_comes : ComesOut assigned o_f
assigned_member_comes = comes assigned member nowhere (reads (codes "o")) refl

pub argument_name_comes : ComesOut argument (reads a)
argument_name_comes = comes argument (Kind.ReferenceName a) nowhere nothing refl

pub called_name_comes : ComesOut called (reads a)
called_name_comes = comes called (Kind.ReferenceName a) nowhere nothing refl

pub typed_member_comes : ComesOut (operand unary.Typeof) o_f
typed_member_comes = comes (operand unary.Typeof) member nowhere (reads (codes "o")) refl

pub deleted_call_comes : ComesOut (operand unary.Delete) (parenthesized call_of_a)
deleted_call_comes = comes (operand unary.Delete) Kind.ParenthesizedExpression nowhere call_of_a refl

pub alternate_stays : (y : Tree) → KnownIf (an_if nowhere (Kind.Literal (value.Number (pos 1))) nowhere nothing (joined empty (block (function_a [] [] ∷ [])))) y → ⊥
alternate_stays y (consequent_is_run n m i t k d b alternate truth branch field none) = true≢false (sym none)
alternate_stays y (alternate_is_run n m i j t k l d b c truth branch none) = absurd cc

pub consequent_stays : (y : Tree) → KnownIf (an_if nowhere (Kind.Literal value.Null) nowhere nothing (joined (block (function_a [] [] ∷ [])) empty)) y → ⊥
consequent_stays y (consequent_is_run n m i t k d b alternate truth branch field none) = absurd cc
consequent_stays y (alternate_is_run n m i j t k l d b c truth branch none) = true≢false (sym none)
