-- What the laws give for some modules.
use Rattle.std.proofs.Common.{◌≡◌, List, ◌∷◌, refl, sym, subst, ◌∙◌, arith}
use Rattle.std.specs.Prelude.{Bool, true, false, not}
use Rattle.std.specs.Str.{bytes_eq}
use Rattle.js_syntax.specs.declared.node_kind.NodeKind.{NodeKind as Kind}
use Rattle.js_syntax.specs.declared.kind.FunctionKind.TheVariants as function_kind
use Rattle.js_syntax.specs.declared.kind.VariableKind.TheVariants as variable
use Rattle.js_syntax.specs.declared.operator.LogicalOperator.TheVariants as logical
use Rattle.js_syntax.specs.declared.value.LiteralValue.{LiteralValue as Literal}
use Rattle.js_syntax.specs.Node.{Note, Forest, nothing, node, absent, below_of}
use Rattle.js_meaning.specs.Value.{Text, this_name, Plain, Value, plain, literal_value}
use Rattle.js_meaning.specs.Operator.{truthy}
use Rattle.js_meaning.specs.State.{done, give}
use Rattle.js_meaning.specs.Scope.{Decl, decl, ready, all_so, var_names, lexical, function_decls, module_decls}
use Rattle.js_meaning.specs.Module.{entries, stars, requests}
use Rattle.js_meaning.specs.Kept.{Refined}
use Rattle.js_meaning_near.specs.Quiet.{gives_quietly, Quiet}
use Rattle.js_meaning.specs.Node as asks
use Rattle.js_meaning_near.specs.Names.{Decls, known, exactly, Names, no_names, with_name, no_decls, in_both_known, Fillable, AllPlain, PlainBut}
use Rattle.js_meaning_near.specs.Near.{cuts_off, Silent, hoists_nothing, first_stays, idle_empty, idle_function, idle_declarator, idle_declaration, all_idle, one_idle, statement_emptied, value_read, fields, items, Near, near_node, near_known, changed, leaves, near_nothing, near_absent, near_module, module_of}
use Rattle.js_meaning_near.specs.Fit.{names_after, whole}
use Rattle.js_meaning_near.specs.Once.{Once, at_place, in_rest, in_node, in_declaration, same_node_first}
use Rattle.js_meaning_near.specs.Avoid.{declares, Dropping, dropped_here, dropped_later, HasCells, ExportsAvoid, InPlace, Avoids}
use Rattle.js_meaning_near.specs.Examples.{block_of, behind_name, function_of, declaration_of, expression_statement, literal_statement, empty_statement, if_of, choice_of, array_of, two_of, both_of}
use Rattle.js_meaning_near.specs.Purpose.{for_value, for_effect, for_values}
use Rattle.js_meaning_near.specs.Bare.{stands_bare}
use Rattle.js_meaning_near.specs.Local as local
use Rattle.js_meaning_near.specs.Local.{Plainly, DeclaresNothing, Local}
use Rattle.js_meaning_near.specs.Unused.{all_needed, needed, not_needed}
use Rattle.js_meaning_near.proofs.Branches.{condition_holds}
use Rattle.js_meaning_near.proofs.Unused.{array_wasted}
use Rattle.js_meaning_near.proofs.Spared.{spared}
use Rattle.js_meaning_near.proofs.Local.{local_near, module_decls_stay}
use Rattle.js_meaning_near.proofs.Contexts.{near_refines}
use Rattle.js_meaning_near.proofs.Fit.{same_decls, decls_both, fit}
use Rattle.js_meaning_near.proofs.Nodes.{true_false}
use Rattle.js_meaning_near.proofs.Once.{once_near}
use Rattle.js_meaning_near.proofs.Avoid.{exports_plain, after_other, with_same, itself, plain_with, exports_avoiding, filled_if_declared, fillable_plain, after_plain, receiver_ok, dropped_decls, fits_clear, fits_avoiding, same_module, dropped_module, fewer_itself, dropped_second}

-- a literal is silent

give_quiet : (v : Value) → Quiet (give v)
unfolding done
give_quiet v = record { quiet = λ s. gives_quietly (record { budget = refl; fresh = omega arith; store = λ i h. refl; globals = λ x. refl; imports = λ source x. refl; shown = refl; moves = refl; exports = refl; stars = refl }) }

pub literal_silent : (st : Names) (v : Literal) (a : Forest) → Silent st (Kind.Literal v) a
literal_silent st v a = record { silent = λ E env b. give_quiet (literal_value v) }

-- an empty statement leaves the top of a module

pub empty_leaves : (n : Note) (a : Forest) → InPlace whole items a → Refined (module_of n n (empty_statement n a)) (module_of n n a)
empty_leaves n a y = near_refines n n n n (same_module (empty_statement n a) a refl refl refl refl (λ st g. leaves idle_empty (fit whole items st a (fits_clear whole items st a g y))))

-- and a function's body

in_body : {t : Names} {a b : Forest} (n : Note) → Near for_values items t a b → Once for_values fields t (node Kind.FunctionBody n (node Kind.Statements n a nothing) nothing) (node Kind.FunctionBody n (node Kind.Statements n b nothing) nothing)
in_body n o = in_node tt no_decls tt (in_node tt no_decls tt (at_place o) tt) tt

pub empty_leaves_body : (n : Note) (f : Text) (ps a c : Forest) → InPlace whole fields ps → InPlace whole items a → InPlace whole items c → Refined (module_of n n (function_of n f ps (empty_statement n a) c)) (module_of n n (function_of n f ps a c))
empty_leaves_body n f ps a c y z o = near_refines n n n n (same_module (function_of n f ps (empty_statement n a) c) (function_of n f ps a c) refl refl refl refl (λ st g.
    let old : Forest = behind_name n f ps (empty_statement n a) in
    let ds : List Decl = function_decls function_kind.Declaration old in
    let t : Names = names_after st ds in
    let h : AllPlain t = λ x. after_plain ds st x (g x) in
    once_near (in_declaration (fillable_plain (st f) (g f)) (same_decls st ds) (receiver_ok st function_kind.Declaration old) same_node_first
    (in_rest (tt, fits_clear whole fields t ps h y) (in_body n (leaves idle_empty (fit whole items t a (fits_clear whole items t a h z))))) (fits_clear whole items st c g o))))

-- a silent statement below an `if` becomes empty

pub silent_empties : (n : Note) (k : Kind) (a c : Forest) (v : Literal) → InPlace whole fields (node k n a nothing) → InPlace whole items c → Refined (module_of n n (if_of n k a (literal_statement n v (absent nothing)) c)) (module_of n n (if_of n k a (empty_statement n (absent nothing)) c))
silent_empties n k a c v y z = near_refines n n n n (same_module (if_of n k a (literal_statement n v (absent nothing)) c) (if_of n k a (empty_statement n (absent nothing)) c) refl refl refl refl (λ st g.
    once_near (in_node tt no_decls tt (in_rest (fits_clear whole fields st (node k n a nothing) g y).0 (at_place (changed (statement_emptied (literal_silent st v nothing)) (near_absent near_nothing)))) (fits_clear whole items st c g z))))

-- a function that nothing refers to leaves the top of a module, though another may have its name

pub unused_function_leaves : (n : Note) (x : Text) (ps body r : Forest) → Avoids (not (declares (module_decls r) x)) x whole items r → HasCells x (module_decls r) → ExportsAvoid x (entries r)
    → Refined (module_of n n (function_of n x ps body r)) (module_of n n r)
unused_function_leaves n x ps body r y c e = near_refines n n n n (dropped_module x (function_of n x ps body r) r (dropped_second (fewer_itself x (decl this_name ready ∷ all_so ready (var_names r))) (dropped_here (fewer_itself x (lexical r)))) c refl e refl refl (λ st g l u.
    leaves (idle_function l) (fit whole items st r (fits_avoiding (not (declares (module_decls r) x)) x whole items st r g (filled_if_declared (st x) (declares (module_decls r) x) u) y))))

-- a declaration of a name that nothing refers to leaves a block

pub unused_declaration_leaves : (n : Note) (x : Text) (v : Literal) (r c : Forest) → Avoids (not (declares (lexical (node Kind.Statements n r nothing)) x)) x whole items r → HasCells x (lexical (node Kind.Statements n r nothing)) → InPlace whole items c
    → Refined (module_of n n (block_of n (declaration_of n variable.Let x v r) c)) (module_of n n (block_of n r c))
unused_declaration_leaves n x v r c y h z = near_refines n n n n (same_module (block_of n (declaration_of n variable.Let x v r) c) (block_of n r c) refl refl refl refl (λ st g.
    let ds : List Decl = lexical (node Kind.Statements n r nothing) in
    let d : Dropping x st (lexical (node Kind.Statements n (declaration_of n variable.Let x v r) nothing)) ds = dropped_decls x st (dropped_here (fewer_itself x ds)) h in
    once_near (in_node tt d.decls tt (in_node tt no_decls tt (at_place (leaves (idle_declaration (one_idle (idle_declarator d.lone (literal_silent d.within v nothing)) all_idle))
    (fit whole items d.within r (fits_avoiding (not (declares ds x)) x whole items d.within r (λ w f. d.plain w f (g w)) (filled_if_declared (d.within x) (declares ds x) d.still) y)))) tt) (fits_clear whole items st c g z))))

-- a `var` leaves a function's body, though another may declare the name again

pub unused_variable_leaves : (n : Note) (f x : Text) (v : Literal) (ps r c : Forest) → bytes_eq this_name x ≡ false
    → Avoids (not (declares (function_decls function_kind.Declaration (behind_name n f ps r)) x)) x whole fields ps → Avoids (not (declares (function_decls function_kind.Declaration (behind_name n f ps r)) x)) x whole items r
    → HasCells x (function_decls function_kind.Declaration (behind_name n f ps r)) → InPlace whole items c
    → Refined (module_of n n (function_of n f ps (declaration_of n variable.Var x v r) c)) (module_of n n (function_of n f ps r c))
unused_variable_leaves n f x v ps r c i y z h o = near_refines n n n n (same_module (function_of n f ps (declaration_of n variable.Var x v r) c) (function_of n f ps r c) refl refl refl refl (λ st g.
    let es : List Decl = function_decls function_kind.Declaration (behind_name n f ps r) in
    let d : Dropping x st (function_decls function_kind.Declaration (behind_name n f ps (declaration_of n variable.Var x v r))) es = dropped_decls x st (dropped_later (dropped_later (dropped_here (fewer_itself x _)))) h in
    let p : PlainBut x d.within = λ w e. d.plain w e (g w) in
    let u : not (declares es x) ≡ false → Fillable (d.within x) = filled_if_declared (d.within x) (declares es x) d.still in
    once_near (in_declaration (fillable_plain (st f) (g f)) d.decls (fillable_plain (d.within this_name) (p this_name i)) same_node_first
    (in_rest (tt, fits_avoiding (not (declares es x)) x whole fields d.within ps p u y) (in_body n (leaves (idle_declaration (one_idle (idle_declarator d.lone (literal_silent d.within v nothing)) all_idle)) (fit whole items d.within r (fits_avoiding (not (declares es x)) x whole items d.within r p u z)))))
    (fits_clear whole items st c g o))))

-- a constant that holds a literal is read as the literal

pub constant_read : (n : Note) (x : Text) (p : Plain) (v : Literal) (c : Forest) → literal_value v ≡ plain p → declares (lexical c) x ≡ false → Avoids true x whole items c → ExportsAvoid x (entries c)
    → Refined (module_of n n (declaration_of n variable.Const x v (expression_statement n (Kind.ReferenceName x) c))) (module_of n n (declaration_of n variable.Const x v (expression_statement n (Kind.Literal v) c)))
constant_read n x p v c e f y z =
    let before : Names = names_after no_names (decl this_name ready ∷ all_so ready (var_names c)) in
    let st : Names = names_after (with_name before x (known (exactly p))) (lexical c) in
    let k : st x ≡ known (exactly p) = after_other (lexical c) (with_name before x (known (exactly p))) x f ∙ with_same before x x (known (exactly p)) (itself x) in
    let g : PlainBut x st = λ w h. after_plain (lexical c) (with_name before x (known (exactly p))) w (plain_with before x x w (known (exactly p)) (itself x) h (after_plain (decl this_name ready ∷ all_so ready (var_names c)) no_names w tt)) in
    near_refines n n n n (near_module (decls_both (same_decls no_names (decl this_name ready ∷ all_so ready (var_names c))) (in_both_known (exactly p) tt (same_decls (with_name before x (known (exactly p))) (lexical c)))) refl (exports_avoiding x st (entries c) g z) refl refl
    (near_node tt no_decls tt (near_node tt no_decls tt (near_known k e near_nothing) near_nothing) (near_node tt no_decls tt (changed (value_read k e) near_nothing) (fit whole items st c (fits_avoiding true x whole items st c g (λ h. absurd (true_false h)) y)))))

-- an expression comes to one of its parts

pub local_change : (n m : Note) (a b : Forest) → Local for_values items a b → InPlace whole items b → entries a ≡ entries b → stars a ≡ stars b → requests a ≡ requests b → Refined (module_of n m a) (module_of n m b)
local_change n m a b s y e t r = near_refines n m n m (near_module (subst (λ ds. Decls no_names ds (module_decls b) (names_after no_names (module_decls b))) (sym (module_decls_stay s)) (same_decls no_names (module_decls b))) e (exports_plain _ (entries a) plain) t r
    (local_near items _ s (fits_clear whole items _ b plain y)))
  where
    plain : AllPlain (names_after no_names (module_decls b))
    plain = λ x. after_plain (module_decls b) no_names x tt

-- a statement behind a jump leaves its list

pub behind_jump_leaves : (n : Note) (k : Kind) (a b c : Forest) → cuts_off k a ≡ true → DeclaresNothing Kind.IfStatement b → InPlace whole items (node k n a c) → Refined (module_of n n (node k n a (node Kind.IfStatement n b c))) (module_of n n (node k n a c))
behind_jump_leaves n k a b c j d y = local_change n n _ _ (local.behind_jump j (local.node_cut refl d)) y refl refl refl

-- a branch comes out bare

pub bare_value : (n : Note) (v : Literal) (l z : Kind) (b c r : Forest) → truthy (literal_value v) ≡ true → stands_bare asks.itself l b ≡ true
    → Plainly Kind.ConditionalExpression (below_of (choice_of n v l b z c nothing)) l b → InPlace whole items (node Kind.ExpressionStatement n (node l n b nothing) r)
    → Refined (module_of n n (node Kind.ExpressionStatement n (choice_of n v l b z c nothing) r)) (module_of n n (node Kind.ExpressionStatement n (node l n b nothing) r))
bare_value n v l z b c r t h p y = local_change n n _ _ (local.in_below tt (local.at_place (local.for_part (λ st. condition_holds for_effect st v n n n l z b c t h)) p)) y refl refl refl

pub bare_callee : (n : Note) (pure : Bool) (v : Literal) (l z : Kind) (b c es r : Forest) → truthy (literal_value v) ≡ true → stands_bare asks.to_call l b ≡ true
    → Plainly Kind.ConditionalExpression (below_of (choice_of n v l b z c nothing)) l b → InPlace whole items (node Kind.ExpressionStatement n (node (Kind.CallExpression false pure) n (node l n b (node Kind.Arguments n es nothing)) nothing) r)
    → Refined (module_of n n (node Kind.ExpressionStatement n (node (Kind.CallExpression false pure) n (choice_of n v l b z c (node Kind.Arguments n es nothing)) nothing) r))
    (module_of n n (node Kind.ExpressionStatement n (node (Kind.CallExpression false pure) n (node l n b (node Kind.Arguments n es nothing)) nothing) r))
bare_callee n pure v l z b c es r t h p y = local_change n n _ _ (local.in_below tt (local.in_below tt (local.at_place (local.for_part (λ st. condition_holds (for_value asks.to_call) st v n n n l z b c t h)) p))) y refl refl refl

-- values that nobody takes

pub array_unused : (n : Note) (v : Literal) (k l : Kind) (a b r : Forest)
    → Plainly Kind.ArrayExpression (node Kind.Elements n (node k n a (node (Kind.Literal v) n nothing (node l n b nothing))) nothing) Kind.SequenceExpression (node Kind.Expressions n (node k n a (node l n b nothing)) nothing)
    → InPlace whole items (node Kind.ExpressionStatement n (two_of n k a l b) r) → Refined (module_of n n (node Kind.ExpressionStatement n (array_of n k a v l b) r)) (module_of n n (node Kind.ExpressionStatement n (two_of n k a l b) r))
array_unused n v k l a b r p y =
    let es : Forest = node k n a (node (Kind.Literal v) n nothing (node l n b nothing)) in
    let ps : Forest = node k n a (node l n b nothing) in
    local_change n n _ _ (local.in_below tt (local.at_place (spared for_effect Kind.ArrayExpression n n (node Kind.Elements n es nothing) ps tt tt refl refl (λ st. array_wasted st n n n es ps (needed (not_needed (literal_silent st v nothing) (needed all_needed))))) p)) y refl refl refl

pub choice_unused : (n : Note) (v : Literal) (k l : Kind) (a b r : Forest)
    → Plainly Kind.ConditionalExpression (node k n a (node l n b (node (Kind.Literal v) n nothing nothing))) (Kind.LogicalExpression logical.And) (node k n a (node l n b nothing)) → InPlace whole items (node Kind.ExpressionStatement n (both_of n k a l b) r)
    → Refined (module_of n n (node Kind.ExpressionStatement n (node Kind.ConditionalExpression n (node k n a (node l n b (node (Kind.Literal v) n nothing nothing))) nothing) r)) (module_of n n (node Kind.ExpressionStatement n (both_of n k a l b) r))
choice_unused n v k l a b r p y = local_change n n _ _ (local.in_below tt (local.at_place (local.for_sides tt (λ st. first_stays (literal_silent st v nothing))) p)) y refl refl refl

pub branch_unused : (n : Note) (k l : Kind) (a b r : Forest) → hoists_nothing l ≡ true → Plainly Kind.ArrayExpression (node Kind.Elements n (node l n b nothing) nothing) l b → InPlace whole items (node Kind.ExpressionStatement n (both_of n k a l b) r)
    → Refined (module_of n n (node Kind.ExpressionStatement n (both_of n k a Kind.ArrayExpression (node Kind.Elements n (node l n b nothing) nothing)) r)) (module_of n n (node Kind.ExpressionStatement n (both_of n k a l b) r))
branch_unused n k l a b r h p y =
    local_change n n _ _ (local.in_below tt (local.in_below tt (local.in_rest (local.at_place (spared for_effect Kind.ArrayExpression n n (node Kind.Elements n (node l n b nothing) nothing) (node l n b nothing) tt tt refl h (λ st. array_wasted st n n n (node l n b nothing) (node l n b nothing) (needed all_needed))) p)))) y refl refl refl
