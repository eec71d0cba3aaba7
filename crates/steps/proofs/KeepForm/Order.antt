-- What is left of a tree is laid out as the tree was.
use Rattle.std.proofs.Common.{◌≡◌, Bool, true, false, not, ◌&&◌, ◌||◌, refl, sym, ap, subst, ◌∙◌}
use Rattle.js_syntax.specs.declared.node_kind.NodeKind.{NodeKind as Kind}
use Rattle.js_syntax.specs.declared.node_kind.NodeKind.TheVariants.{Program as program, EmptyStatement as empty_statement, Directive as directive, Statements as statements, FunctionBody as function_body, ExpressionStatement as expression_statement, BlockStatement as block_statement, StaticBlock as static_block, SwitchCase as switch_case, LabeledStatement as labeled_statement, IfStatement as if_statement, TryStatement as try_statement, WithStatement as with_statement, WhileStatement as while_statement, DoWhileStatement as do_while_statement, ForStatement as for_statement, ForInStatement as for_in_statement, ForOfStatement as for_of_statement, ConditionalExpression as conditional_expression, UnaryExpression as unary_expression, BinaryExpression as binary_expression, LogicalExpression as logical_expression, Function as function, VariableDeclaration as variable_declaration, Declarators as declarators, VariableDeclarator as variable_declarator, BindingName as binding_name, Specifiers as specifiers, ImportDeclaration as import_declaration, ExportNamedDeclaration as export_named_declaration}
use Rattle.js_syntax.specs.Node.{Note, Forest, nothing, node, absent, joined, alone}
use Rattle.form_rules.specs.Context.{has_use_strict}
use Rattle.json_shape.specs.Shape.{is_directive_kind}
use Rattle.steps.specs.KeepForm.Part.{a_var, leaves_names_of, gives_way, is_statement, is_asked_for, declares_one, Replaces, by_part, by_parts, by_test, without_alternate}
use Rattle.steps.specs.KeepForm.Sheds.{Row, other, parts, items, of_item, of_declarators, of_head, of_import, row_below, may_leave, may_empty, may_give_way, Around, entered, Sheds, ends, keeps_absent, keeps, leaves, empties, empties_idle, leaves_names, states, becomes}
use Rattle.steps.proofs.KeepForm.Rows.{stays_below, behind_left, is_usual, is_other}
use Rattle.steps.proofs.KeepForm.Asked.{idle_kinds, old_unasked, new_unasked, alike, statement_may}
use Rattle.steps.proofs.KeepForm.Seen.{strict_same}
use Rattle.steps.specs.KeepForm.Layout.{is_declarators, is_list_first, are_specifiers_first, binds_none, stands_right, is_laid_out}
use Rattle.steps.proofs.KeepForm.Laid.{laid_absent, laid_order, laid_right, laid_below, laid_behind}
use Rattle.js_syntax.proofs.Truth.{both, first_of_both}

-- ---- nodes for which no rule asks

no_list : (k : Kind) (n : Note) (a r : Forest) → is_asked_for k ≡ false → is_list_first (node k n a r) ≡ false
no_list statements n a r h = absurd cc
no_list k n a r h = refl

no_specifiers : (k : Kind) (n : Note) (a r : Forest) → is_asked_for k ≡ false → are_specifiers_first (node k n a r) ≡ false
no_specifiers specifiers n a r h = absurd cc
no_specifiers k n a r h = refl

no_name : (k : Kind) (n : Note) (a r : Forest) → is_asked_for k ≡ false → binds_none (node k n a r) ≡ binds_none r
no_name (binding_name x) n a r h = absurd cc
no_name k n a r h = refl

no_directive : (k : Kind) → is_asked_for k ≡ false → is_directive_kind k ≡ false
no_directive (directive written) h = absurd cc
no_directive k h = refl

-- ---- a part stands for a node

-- below a part of a statement that gives way nodes stand as below one among whose parts statements may become empty
below_part : (l : Kind) → is_asked_for l ≡ false → row_below other l ≡ row_below parts l
below_part statements h = absurd cc
below_part l h = refl

row_of_statement : (row : Row) (k l : Kind) → is_asked_for l ≡ false → gives_way k ≡ true → is_statement k ≡ true → may_empty row ≡ true → row_below (row_below row k) l ≡ row_below parts l
row_of_statement parts if_statement l h g i may = refl
row_of_statement items if_statement l h g i may = refl
row_of_statement row if_statement l h g i may = absurd cc
row_of_statement parts try_statement l h g i may = below_part l h
row_of_statement items try_statement l h g i may = below_part l h
row_of_statement row try_statement l h g i may = absurd cc
row_of_statement row conditional_expression l h g i may = absurd cc
row_of_statement row (logical_expression operator) l h g i may = absurd cc
row_of_statement row (unary_expression operator) l h g i may = absurd cc
row_of_statement row (binary_expression operator) l h g i may = absurd cc
row_of_statement row k l h g i may = absurd cc

below_statement : (row : Row) (l : Kind) → is_asked_for l ≡ false → may_empty row ≡ true → row_below row l ≡ row_below parts l
below_statement row statements h may = absurd cc
below_statement row (variable_declaration how) h may = absurd cc
below_statement parts l h may = refl
below_statement items l h may = refl
below_statement row l h may = absurd cc

pub of_expression : (l : Kind) → is_asked_for l ≡ false → is_statement l ≡ false → is_usual l ≡ true
of_expression statements h g = absurd cc
of_expression declarators h g = absurd cc
of_expression specifiers h g = absurd cc
of_expression (variable_declaration how) h g = absurd cc
of_expression (import_declaration source) h g = absurd cc
of_expression (program source) h g = absurd cc
of_expression function_body h g = absurd cc
of_expression block_statement h g = absurd cc
of_expression static_block h g = absurd cc
of_expression switch_case h g = absurd cc
of_expression (labeled_statement label) h g = absurd cc
of_expression if_statement h g = absurd cc
of_expression with_statement h g = absurd cc
of_expression while_statement h g = absurd cc
of_expression do_while_statement h g = absurd cc
of_expression for_statement h g = absurd cc
of_expression for_in_statement h g = absurd cc
of_expression for_of_statement h g = absurd cc
of_expression l h g = refl

same_row : (w : Around) (k l : Kind) → gives_way k ≡ true → is_asked_for l ≡ false → is_statement l ≡ is_statement k → may_give_way w.row w.is_asked k ≡ true
    → row_below w.row l ≡ row_below (row_below w.row k) l
same_row w k l gives unasked alike may = of (is_statement k) refl
  where
    of : (x : Bool) → is_statement k ≡ x → row_below w.row l ≡ row_below (row_below w.row k) l
    of true is =
        let emptied = statement_may w k may is in
        below_statement w.row l unasked emptied ∙ sym (row_of_statement w.row k l unasked gives is emptied)
    of false is =
        let usual = of_expression l unasked (alike ∙ is) in
        is_other w.row l usual ∙ sym (is_other (row_below w.row k) l usual)

right_there : (row : Row) (l : Kind) (b : Forest) → is_asked_for l ≡ false → (is_statement l ≡ true → may_empty row ≡ true) → stands_right row l b ≡ true
right_there row statements b h may = absurd cc
right_there row expression_statement b h may = may refl
right_there row (program source) b h may = absurd cc
right_there row (export_named_declaration source) b h may = absurd cc
right_there row (function how pure) b h may = absurd cc
right_there row (import_declaration source) b h may = absurd cc
right_there row l b h may = refl

laid_part : (row : Row) (before after : Forest) (l : Kind) (n : Note) (b : Forest) → is_laid_out row (joined before (node l n b after)) ≡ true → is_laid_out (row_below row l) b ≡ true
laid_part row nothing after l n b h = laid_below row l n b after h
laid_part row (absent r) after l n b h = laid_part row r after l n b (laid_absent row (joined r (node l n b after)) h)
laid_part row (node j m c r) after l n b h = laid_part row r after l n b (laid_behind row j m c (joined r (node l n b after)) h)

either_true : (b : Bool) → (b || true) ≡ true
either_true true = refl
either_true false = refl

-- without an empty alternate
no_declarators : (row : Row) → is_declarators (row_below row if_statement) ≡ false
no_declarators of_item = refl
no_declarators of_head = refl
no_declarators of_import = refl
no_declarators row = refl

last_strict : (l : Kind) (j o : Note) (b : Forest) → has_use_strict (node l j b (node empty_statement o nothing nothing)) ≡ has_use_strict (node l j b (absent nothing))
last_strict (directive written) j o b = refl
last_strict l j o b = refl

without_last : (row : Row) (t l : Kind) (i j o : Note) (d b : Forest) → is_declarators row ≡ false → is_laid_out row (node t i d (node l j b (node empty_statement o nothing nothing))) ≡ true → is_laid_out row (node t i d (node l j b (absent nothing))) ≡ true
without_last row t l i j o d b names h =
    let last = node empty_statement o nothing nothing in
    let old = node l j b last in
    let new = node l j b (absent nothing) in
    let inner = laid_behind row t i d old h in
    both (is_directive_kind t || not (has_use_strict new)) (stands_right row t d && (is_laid_out (row_below row t) d && is_laid_out row new))
    (ap (λ s. is_directive_kind t || not s) (sym (last_strict l j o b)) ∙ laid_order row t i d old h)
    (both (stands_right row t d) (is_laid_out (row_below row t) d && is_laid_out row new) (laid_right row t i d old h)
    (both (is_laid_out (row_below row t) d) (is_laid_out row new) (laid_below row t i d old h)
    (both (is_directive_kind l || true) (stands_right row l b && (is_laid_out (row_below row l) b && (not (is_declarators row) && true))) (either_true (is_directive_kind l))
    (both (stands_right row l b) (is_laid_out (row_below row l) b && (not (is_declarators row) && true)) (laid_right row l j b last inner)
    (both (is_laid_out (row_below row l) b) (not (is_declarators row) && true) (laid_below row l j b last inner) (ap (λ z. not z && true) names))))))

laid_replaced : (w : Around) {k l : Kind} {n m : Note} {a b : Forest} → Replaces k n a l m b → may_give_way w.row w.is_asked k ≡ true → is_laid_out (row_below w.row k) a ≡ true → is_laid_out (row_below w.row l) b ≡ true
laid_replaced w {k = k} {l = l} {b = b} (by_part part) may h =
    ap (λ row. is_laid_out row b) (same_row w k l part.gives part.unasked part.alike may)
    ∙ laid_part (row_below w.row k) part.before part.after l part.note b (ap (is_laid_out (row_below w.row k)) (sym part.is_part) ∙ h)
laid_replaced w {l = l} {b = b} (by_parts made) may h = ap (λ row. is_laid_out row b) (is_other w.row l (of_expression l made.unasked made.expression)) ∙ made.laid_out
laid_replaced w {k = k} (by_test {l = l} {i = i} {b = b} {after = after} tested unasked is none) may h =
    let usual = of_expression l unasked is in
    let inner = row_below w.row k in
    ap (λ row. is_laid_out row (node l i b nothing)) (is_other w.row expression_statement refl)
    ∙ both (is_directive_kind l || true) (stands_right other l b && (is_laid_out (row_below other l) b && true)) (either_true (is_directive_kind l))
    (both (stands_right other l b) (is_laid_out (row_below other l) b && true) (right_there other l b unasked (λ statement. absurd (cc (statement, is))))
    (both (is_laid_out (row_below other l) b) true (ap (λ row. is_laid_out row b) (is_other other l usual ∙ sym (is_other inner l usual)) ∙ laid_below inner l i b after h) refl))
laid_replaced w (without_alternate {t = t} {l = l} {i = i} {j = j} {o = o} {d = d} {b = b}) may h = without_last (row_below w.row if_statement) t l i j o d b (no_declarators w.row) h

-- ---- first nodes, where nothing leaves

list_node : (k : Kind) (n m : Note) (a b r s : Forest) → is_list_first (node k m b s) ≡ is_list_first (node k n a r)
list_node statements n m a b r s = refl
list_node k n m a b r s = refl

list_same : {w : Around} {t u : Forest} → may_leave w.row ≡ false → Sheds w t u → is_list_first u ≡ is_list_first t
list_same stays ends = refl
list_same stays (keeps_absent rest) = refl
list_same stays (keeps {k = k} {n = n} {m = m} {a = a} {b = b} {r = r} {s = s} one below rest) = list_node k n m a b r s
list_same stays (leaves may out strict rest) = absurd (cc (stays, may))
list_same stays (empties may rest) = refl
list_same stays (empties_idle {k = k} {n = n} {a = a} {r = r} idle loops may unnamed rest) = idle_kinds (λ z. false ≡ is_list_first (node z n a r)) refl refl refl refl refl (λ label. refl) k idle
list_same stays (states listed unasked out rest) = absurd (cc (stays, ap may_leave listed))
list_same stays (leaves_names listed unasked stay rest) = absurd (cc (stays, ap may_leave listed))
list_same stays (becomes {k = k} {l = l} {n = n} {m = m} {a = a} {b = b} {r = r} {s = s} part may bare rest) = no_list l m b s (new_unasked part) ∙ sym (no_list k n a r (old_unasked part))

specifiers_node : (k : Kind) (n m : Note) (a b r s : Forest) → are_specifiers_first (node k m b s) ≡ are_specifiers_first (node k n a r)
specifiers_node specifiers n m a b r s = refl
specifiers_node k n m a b r s = refl

specifiers_same : {w : Around} {t u : Forest} → may_leave w.row ≡ false → Sheds w t u → are_specifiers_first u ≡ are_specifiers_first t
specifiers_same stays ends = refl
specifiers_same stays (keeps_absent rest) = refl
specifiers_same stays (keeps {k = k} {n = n} {m = m} {a = a} {b = b} {r = r} {s = s} one below rest) = specifiers_node k n m a b r s
specifiers_same stays (leaves may out strict rest) = absurd (cc (stays, may))
specifiers_same stays (empties may rest) = refl
specifiers_same stays (empties_idle {k = k} {n = n} {a = a} {r = r} idle loops may unnamed rest) = idle_kinds (λ z. false ≡ are_specifiers_first (node z n a r)) refl refl refl refl refl (λ label. refl) k idle
specifiers_same stays (states listed unasked out rest) = absurd (cc (stays, ap may_leave listed))
specifiers_same stays (leaves_names listed unasked stay rest) = absurd (cc (stays, ap may_leave listed))
specifiers_same stays (becomes {k = k} {l = l} {n = n} {m = m} {a = a} {b = b} {r = r} {s = s} part may bare rest) = no_specifiers l m b s (new_unasked part) ∙ sym (no_specifiers k n a r (old_unasked part))

binds_node : (k : Kind) (n m : Note) (a b r s : Forest) → binds_none s ≡ binds_none r → binds_none (node k m b s) ≡ binds_none (node k n a r)
binds_node (binding_name x) n m a b r s h = refl
binds_node k n m a b r s h = h

binds_same : {w : Around} {t u : Forest} → may_leave w.row ≡ false → Sheds w t u → binds_none u ≡ binds_none t
binds_same stays ends = refl
binds_same stays (keeps_absent rest) = binds_same stays rest
binds_same stays (keeps {k = k} {n = n} {m = m} {a = a} {b = b} {r = r} {s = s} one below rest) = binds_node k n m a b r s (binds_same stays rest)
binds_same stays (leaves may out strict rest) = absurd (cc (stays, may))
binds_same stays (empties may rest) = binds_same stays rest
binds_same stays (empties_idle {k = k} {n = n} {a = a} {r = r} idle loops may unnamed rest) = binds_same stays rest ∙ idle_kinds (λ z. binds_none r ≡ binds_none (node z n a r)) refl refl refl refl refl (λ label. refl) k idle
binds_same stays (states listed unasked out rest) = absurd (cc (stays, ap may_leave listed))
binds_same stays (leaves_names listed unasked stay rest) = absurd (cc (stays, ap may_leave listed))
binds_same stays (becomes {k = k} {l = l} {n = n} {m = m} {a = a} {b = b} {r = r} {s = s} part may bare rest) =
    no_name l m b s (new_unasked part) ∙ binds_same stays rest ∙ sym (no_name k n a r (old_unasked part))

-- ---- nodes

right_left : (w : Around) (k : Kind) (a b : Forest) → Sheds (entered w k a) a b → stands_right w.row k a ≡ true → stands_right w.row k b ≡ true
right_left w (program source) a b below h = list_same (stays_below w.row (program source) refl) below ∙ h
right_left w (export_named_declaration source) a b below h =
    let stays = stays_below w.row (export_named_declaration source) refl in
    specifiers_same stays (behind_left stays below) ∙ h
right_left w (function how pure) a b below h =
    let stays = stays_below w.row (function how pure) refl in
    binds_same stays (behind_left stays below) ∙ h
right_left w k a b below h = h

names_no_directive : (k : Kind) → leaves_names_of k ≡ true → is_directive_kind k ≡ false
names_no_directive (directive written) h = absurd cc
names_no_directive k h = refl

pub stays_laid_out : {w : Around} {t u : Forest} → Sheds w t u → is_laid_out w.row t ≡ true → is_laid_out w.row u ≡ true
stays_laid_out ends h = h
stays_laid_out (keeps_absent {w = w} {r = r} {s = s} rest) h = both (not (is_declarators w.row)) (is_laid_out w.row s) (first_of_both (not (is_declarators w.row)) (is_laid_out w.row r) h) (stays_laid_out rest (laid_absent w.row r h))
stays_laid_out (keeps {w = w} {k = k} {n = n} {m = m} {a = a} {b = b} {r = r} {s = s} one below rest) h =
    both (is_directive_kind k || not (has_use_strict s)) (stands_right w.row k b && (is_laid_out (row_below w.row k) b && is_laid_out w.row s)) (ap (λ x. is_directive_kind k || not x) (strict_same rest) ∙ laid_order w.row k n a r h)
    (both (stands_right w.row k b) (is_laid_out (row_below w.row k) b && is_laid_out w.row s) (right_left w k a b below (laid_right w.row k n a r h))
    (both (is_laid_out (row_below w.row k) b) (is_laid_out w.row s) (stays_laid_out below (laid_below w.row k n a r h)) (stays_laid_out rest (laid_behind w.row k n a r h))))
stays_laid_out (leaves {w = w} {k = k} {n = n} {a = a} {r = r} may out strict rest) h = stays_laid_out rest (laid_behind w.row k n a r h)
stays_laid_out (empties {w = w} {n = n} {m = m} {a = a} {r = r} {s = s} may rest) h =
    both (not (has_use_strict s)) (is_laid_out w.row s) (ap not (strict_same rest) ∙ laid_order w.row expression_statement n a r h) (stays_laid_out rest (laid_behind w.row expression_statement n a r h))
stays_laid_out (empties_idle {w = w} {k = k} {n = n} {m = m} {a = a} {r = r} {s = s} idle loops may unnamed rest) h =
    both (not (has_use_strict s)) (is_laid_out w.row s) (ap not (strict_same rest) ∙ ap (λ d. d || not (has_use_strict r)) (idle_kinds (λ z. false ≡ is_directive_kind z) refl refl refl refl refl (λ label. refl) k idle) ∙ laid_order w.row k n a r h) (stays_laid_out rest (laid_behind w.row k n a r h))
stays_laid_out (states {w = w} {how = how} {x = x} {k = k} {n = n} {m = m} {l = l} {j = j} {i = i} {o = o} {b = b} {r = r} {s = s} listed unasked out rest) h =
    let value = alone k i b in
    let name = node (binding_name x) j nothing value in
    let declarator = alone variable_declarator l name in
    let all = declares_one m l j x value in
    let inner = subst (λ row. is_laid_out (row_below row (variable_declaration how)) all ≡ true) listed (laid_below w.row (variable_declaration how) n all r h) in
    both (not (has_use_strict s)) (stands_right w.row expression_statement value && (is_laid_out (row_below w.row expression_statement) value && is_laid_out w.row s)) (ap not (strict_same rest) ∙ laid_order w.row (variable_declaration how) n all r h)
    (both (stands_right w.row expression_statement value) (is_laid_out (row_below w.row expression_statement) value && is_laid_out w.row s) (ap may_empty listed)
    (both (is_laid_out (row_below w.row expression_statement) value) (is_laid_out w.row s)
    (ap (λ row. is_laid_out row value) (is_other w.row expression_statement refl) ∙ laid_behind other (binding_name x) j nothing value (laid_below of_declarators variable_declarator l name nothing (laid_below of_item declarators m declarator nothing inner)))
    (stays_laid_out rest (laid_behind w.row (variable_declaration how) n all r h))))
stays_laid_out (leaves_names {w = w} {k = k} {n = n} {m = m} {a = a} {b = b} {r = r} {s = s} listed unasked stay rest) h =
    both (not (has_use_strict s)) (is_laid_out (row_below w.row a_var) b && is_laid_out w.row s)
    (ap not (strict_same rest) ∙ ap (λ d. d || not (has_use_strict r)) (sym (names_no_directive k stay.holds)) ∙ laid_order w.row k n a r h)
    (both (is_laid_out (row_below w.row a_var) b) (is_laid_out w.row s) (subst (λ z. is_laid_out (row_below z a_var) b ≡ true) (sym listed) stay.laid_out) (stays_laid_out rest (laid_behind w.row k n a r h)))
stays_laid_out (becomes {w = w} {k = k} {l = l} {n = n} {m = m} {a = a} {b = b} {r = r} {s = s} part may bare rest) h =
    both (is_directive_kind l || not (has_use_strict s)) (stands_right w.row l b && (is_laid_out (row_below w.row l) b && is_laid_out w.row s))
    (ap (λ x. x || not (has_use_strict s)) (no_directive l (new_unasked part)) ∙ ap not (strict_same rest)
    ∙ ap (λ x. x || not (has_use_strict r)) (sym (no_directive k (old_unasked part))) ∙ laid_order w.row k n a r h)
    (both (stands_right w.row l b) (is_laid_out (row_below w.row l) b && is_laid_out w.row s) (right_there w.row l b (new_unasked part) (λ is. statement_may w k may (sym (alike part) ∙ is)))
    (both (is_laid_out (row_below w.row l) b) (is_laid_out w.row s)
    (laid_replaced w part may (laid_below w.row k n a r h))
    (stays_laid_out rest (laid_behind w.row k n a r h))))
