-- Calls of a function that does nothing but give a value, wherever they stand.
use Rattle.std.proofs.Common.{◌≡◌, None, refl, sym}
use Rattle.std.specs.Prelude.{Bool, true, false}
use Rattle.js_syntax.specs.declared.node_kind.NodeKind.{NodeKind as Kind}
use Rattle.js_syntax.specs.declared.value.LiteralValue.{LiteralValue as Literal}
use Rattle.js_syntax.specs.Node.{Note, Forest, nothing, node}
use Rattle.js_meaning.specs.Value.{Text}
use Rattle.js_meaning.specs.State.{bind, done}
use Rattle.js_meaning.specs.Node.{need}
use Rattle.js_meaning.specs.Scope.{first_name, module_decls}
use Rattle.js_meaning.specs.Kept.{Kept}
use Rattle.js_meaning_near.specs.Avoid.{declares, code_declares}
use Rattle.js_meaning_near.specs.Bodies.{no_items_more, return_item}
use Rattle.js_meaning_near.specs.Examples.{function_of, call_statement}
use Rattle.js_syntax.specs.declared.kind.FunctionKind.TheVariants as function_kind
use Rattle.js_meaning.specs.Meaning.{eval}
use Rattle.js_meaning_near.specs.Purpose.{Purposes, ForEffect, purpose_here, purposes_behind, for_values}
use Rattle.js_meaning_near.specs.Wasted.{drops}
use Rattle.js_meaning_near.specs.Names.{Fact, silent_function, known, Names}
use Rattle.js_meaning_near.specs.Near.{Row, fields, items, module_of, is_row, hoists_nothing, SilentCode, idle_waste, LessWaste, wastes_more, near_nothing}
use Rattle.js_meaning_near.specs.Fit.{whole, others, within_code, Fits}
use Rattle.js_meaning_near.specs.Rewritten.{SameNames, DeclaresNone, Rewritten, at_place, item_leaves}
use Rattle.js_meaning_near.specs.Known.{Knows, Steady, DeclaredOnce, code_of, called}
use Rattle.js_meaning_near.specs.Unused.{Needed, all_needed, needed, not_needed, kind_of, below_of, expression_kind, expression_below, IsSome}
use Rattle.js_syntax.proofs.Truth.{first_of_neither, second_of_neither, first_of_either, second_of_either}
use Rattle.js_meaning_near.proofs.Avoid.{itself}
use Rattle.js_meaning_near.proofs.Fit.{fit}
use Rattle.js_meaning_near.proofs.Steady.{steady_fits, steady_rows}
use Rattle.js_meaning_near.proofs.Unused.{call_wasted, effects_place}
use Rattle.js_meaning_near.proofs.Spared.{less_waste}
use Rattle.js_meaning_near.proofs.Known.{knows_code, function_place, loose_scope}
use Rattle.js_meaning_near.proofs.Bodies.{quiet_code, own_silent}
use Rattle.js_meaning_near.proofs.Instances.{literal_silent}

-- as a statement
pub statement_place : {x : Text} {pure : Bool} {us : Purposes} {p : Row} {n m i j k : Note} {r s : Forest} (o : Note) (es ps : Forest) → SameNames Kind.ExpressionStatement (node (Kind.CallExpression false pure) m (called i j x es) nothing) (kind_of ps) (below_of o ps)
    → ((st : Names) → Knows x silent_function st → Needed st es ps) → Steady x whole fields ps → Rewritten (Knows x silent_function) whole (purposes_behind us) p r s
    → Rewritten (Knows x silent_function) whole us p (node Kind.ExpressionStatement n (node (Kind.CallExpression false pure) m (called i j x es) nothing) r) (node (kind_of ps) k (below_of o ps) s)
statement_place {x = x} {pure = pure} {n = n} {m = m} {i = i} {j = j} {k = k} o es ps y q g t =
    effects_place n k ps y (λ st h. call_wasted st x pure m i j o es ps h.known_so (q st h)) (λ st h. steady_fits x silent_function whole fields st ps h g) t

-- which leaves its list where none acts
pub statement_leaves : {x : Text} {pure : Bool} {us : Purposes} {n m i j : Note} {r s : Forest} (es : Forest) → DeclaresNone Kind.ExpressionStatement (node (Kind.CallExpression false pure) m (called i j x es) nothing) s
    → ((st : Names) → Knows x silent_function st → Needed st es nothing) → Rewritten (Knows x silent_function) whole us items r s
    → Rewritten (Knows x silent_function) whole us items (node Kind.ExpressionStatement n (node (Kind.CallExpression false pure) m (called i j x es) nothing) r) s
unfolding eval
statement_leaves {x = x} {pure = pure} {m = m} {i = i} {j = j} es y q t = item_leaves y (λ st h. idle_waste (record { wastes_all = (call_wasted st x pure m i j m es nothing h.known_so (q st h)).wastes })) t

-- where nobody takes its value
pub expression_place : {x : Text} {pure : Bool} {us : Purposes} {p : Row} {n m i j : Note} {r s : Forest} (o : Note) (es ps : Forest) → ForEffect (purpose_here us (is_row r)) → IsSome ps → hoists_nothing (expression_kind ps) ≡ true
    → SameNames (Kind.CallExpression false pure) (called i j x es) (expression_kind ps) (expression_below o ps) → ((st : Names) → Knows x silent_function st → Needed st es ps) → Steady x whole fields ps → Rewritten (Knows x silent_function) whole (purposes_behind us) p r s
    → Rewritten (Knows x silent_function) whole us p (node (Kind.CallExpression false pure) n (called i j x es) r) (node (expression_kind ps) m (expression_below o ps) s)
expression_place {x = x} {pure = pure} {n = n} {i = i} {j = j} o es ps u v w y q g t =
    at_place y (λ st h c. wastes_more u (less_waste st (Kind.CallExpression false pure) n o (called i j x es) ps v refl w (call_wasted st x pure n i j o es ps h.known_so (q st h))) (fit whole fields st ps (steady_fits x silent_function whole fields st ps h g)) c) t

-- a literal in place of one of which no argument acts
literal_waste : (st : Names) (x : Text) (pure : Bool) (n m i j : Note) (es : Forest) (v : Literal) → st x ≡ known silent_function → Needed st es nothing → LessWaste st (Kind.CallExpression false pure) (called i j x es) (Kind.Literal v) nothing nothing nothing
unfolding drops bind done need eval
literal_waste st x pure n m i j es v q d = record {
  old_note = n;
  new_note = m;
  old_blunt = refl;
  new_hoists = refl;
  effects = record { new_hoists = refl; wastes = (call_wasted st x pure n i j m es nothing q d).wastes; drops_all = λ E env ls. refl };
}

pub literal_place : {x : Text} {pure : Bool} {us : Purposes} {p : Row} {n m i j : Note} {r s : Forest} (es : Forest) (v : Literal) → ForEffect (purpose_here us (is_row r)) → SameNames (Kind.CallExpression false pure) (called i j x es) (Kind.Literal v) nothing
    → ((st : Names) → Knows x silent_function st → Needed st es nothing) → Rewritten (Knows x silent_function) whole (purposes_behind us) p r s
    → Rewritten (Knows x silent_function) whole us p (node (Kind.CallExpression false pure) n (called i j x es) r) (node (Kind.Literal v) m nothing s)
literal_place {x = x} {pure = pure} {n = n} {m = m} {i = i} {j = j} es v u y q t = at_place y (λ st h c. wastes_more u (literal_waste st x pure n m i j es v h.known_so (q st h)) near_nothing c) t

-- what that gives for `function x(y) { return y; }`

pub identity_silent : (n : Note) (x y : Text) (st : Names) → SilentCode st (code_of n n n n x (node (Kind.BindingName y) n nothing nothing) (node Kind.ReturnStatement n (node (Kind.ReferenceName y) n nothing nothing) nothing))
identity_silent n x y st =
    let ps : Forest = node (Kind.BindingName y) n nothing nothing in
    let b : Forest = node Kind.ReturnStatement n (node (Kind.ReferenceName y) n nothing nothing) nothing in
    quiet_code st n n n n x ps b (tt, return_item (own_silent st (code_of n n n n x ps b) y nothing (second_of_either _ _ (second_of_either _ _ (first_of_either _ _ (itself y))))) no_items_more)

pub identity_fits : (n : Note) (x y : Text) (f : Fact) (st : Names) →
    let a : Forest = code_of n n n n x (node (Kind.BindingName y) n nothing nothing) (node Kind.ReturnStatement n (node (Kind.ReferenceName y) n nothing nothing) nothing) in
    declares (code_declares function_kind.Declaration a) x ≡ false → Knows x f st → Fits others fields (within_code st function_kind.Declaration a) a
identity_fits n x y f st e h =
    let a : Forest = code_of n n n n x (node (Kind.BindingName y) n nothing nothing) (node Kind.ReturnStatement n (node (Kind.ReferenceName y) n nothing nothing) nothing) in
    steady_fits x f others fields (within_code st function_kind.Declaration a) a (knows_code x f function_kind.Declaration a e st h)
    ((tt, tt, ((first_of_neither _ _ (second_of_neither _ _ (second_of_neither _ _ e)), tt, tt), tt)), ((tt, tt, ((tt, tt, ((tt, tt, ((tt, tt, tt), tt)), tt)), tt)), tt))

identity_place : {n : Note} {x y : Text} {r s : Forest} →
    let ps : Forest = node (Kind.BindingName y) n nothing nothing in
    let b : Forest = node Kind.ReturnStatement n (node (Kind.ReferenceName y) n nothing nothing) nothing in
    declares (code_declares function_kind.Declaration (code_of n n n n x ps b)) x ≡ false → Rewritten (Knows x silent_function) whole for_values items r s → Rewritten (Knows x silent_function) whole for_values items (function_of n x ps b r) (function_of n x ps b s)
identity_place {n = n} {x = x} {y = y} e t = function_place refl (λ st h. identity_silent n x y st) (λ st h. identity_fits n x y silent_function st e h) t

-- `x(f(), value);`
pub identity_calls : (n : Note) (x y f : Text) (v : Literal) (r : Forest) →
    let ps : Forest = node (Kind.BindingName y) n nothing nothing in
    let b : Forest = node Kind.ReturnStatement n (node (Kind.ReferenceName y) n nothing nothing) nothing in
    DeclaredOnce x (module_decls (function_of n x ps b (call_statement n f nothing r))) → declares (code_declares function_kind.Declaration (code_of n n n n x ps b)) x ≡ false → Steady x whole items r
    → Kept (module_of n n (function_of n x ps b (call_statement n x (node (Kind.CallExpression false false) n (called n n f nothing) (node (Kind.Literal v) n nothing nothing)) r))) (module_of n n (function_of n x ps b (call_statement n f nothing r)))
identity_calls n x y f v r d e g =
    loose_scope n n x silent_function _ _ refl d (identity_place e
    (statement_place n (node (Kind.CallExpression false false) n (called n n f nothing) (node (Kind.Literal v) n nothing nothing)) (node (Kind.CallExpression false false) n (called n n f nothing) nothing) (record { name = refl; bound = refl; vars = refl; imports = λ source. refl; items = refl })
    (λ st h. needed (not_needed (literal_silent st v nothing) all_needed)) ((tt, tt, ((tt, tt, tt), ((tt, tt, tt), tt))), tt) (steady_rows x silent_function items r g))) refl refl refl

-- `x(value);`
pub identity_leaves : (n : Note) (x y : Text) (v : Literal) (r : Forest) →
    let ps : Forest = node (Kind.BindingName y) n nothing nothing in
    let b : Forest = node Kind.ReturnStatement n (node (Kind.ReferenceName y) n nothing nothing) nothing in
    DeclaredOnce x (module_decls (function_of n x ps b r)) → declares (code_declares function_kind.Declaration (code_of n n n n x ps b)) x ≡ false → first_name r ≡ None → Steady x whole items r
    → Kept (module_of n n (function_of n x ps b (call_statement n x (node (Kind.Literal v) n nothing nothing) r))) (module_of n n (function_of n x ps b r))
identity_leaves n x y v r d e f g =
    loose_scope n n x silent_function _ _ refl d (identity_place e
    (statement_leaves (node (Kind.Literal v) n nothing nothing) (record { name = sym f; bound = refl; vars = refl; imports = λ source. refl; items = refl })
    (λ st h. not_needed (literal_silent st v nothing) all_needed) (steady_rows x silent_function items r g))) refl refl refl
