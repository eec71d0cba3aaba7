-- Steps where no statement stands: none, or inside of functions.
use Rattle.std.proofs.Common.{◌≡◌, ◌∙◌, ◌⊎◌, inl, inr, ◌++◌, Bool, true, false, true≢false, ◌&&◌, if◌then◌else◌, None, refl, sym, ap, ap₂}
use Rattle.js_syntax.specs.declared.node_kind.NodeKind.{NodeKind as Kind}
use Rattle.js_syntax.specs.Node.{Forest, nothing, node, absent, Note, nowhere}
use Rattle.js_syntax.specs.declared.kind.FunctionKind.{FunctionKind}
use Rattle.js_syntax.specs.declared.kind.FunctionKind.TheVariants as function_kind
use Rattle.js_syntax.specs.declared.kind.VariableKind.{VariableKind}
use Rattle.js_syntax.specs.declared.kind.VariableKind.TheVariants as variable
use Rattle.js_syntax.specs.declared.kind.ClassKind.TheVariants as class_kind
use Rattle.js_meaning.specs.Scope.{first_of, behind, first_name, names_of, bound_names, vars_of, var_names, item_decls, lexical, waiting, all_so, named_so, or_default}
use Rattle.js_meaning_near.specs.Near.{is_row}
use Rattle.steps.specs.Steps.{Row, items, of_item, declarators, other, is_single, row_below, Around, entered, Goes, empty_statement, unused_function, unused_declarator, unused_declaration, Step, leaves, empties, unbinds, states, inside, behind_node, behind_absent}
use Rattle.steps.specs.KeepRuns.Formed.{is_plain, still, calm_at, calm, heads, holds_well, is_formed}
use Rattle.steps.specs.KeepRuns.Drop.{no_drop, outside, dropped}
use Rattle.js_syntax.proofs.Truth.{first_of_both, second_of_both}

-- rows

abbrev pub is_list : Row → Bool
is_list items = true
is_list (declarators how) = true
is_list r = false

-- what leaves a row leaves a list
pub leaves_list : {w : Around} {k : Kind} {a : Forest} → Goes w k a → is_list w.row ≡ true
leaves_list (empty_statement h) = ap is_list h
leaves_list (unused_function h u) = ap is_list h
leaves_list (unused_declarator h u i) = ap is_list h
leaves_list (unused_declaration h u i) = ap is_list h

pub leaves_no_other : {w : Around} {k : Kind} {a : Forest} → Goes w k a → w.row ≡ other → ⊥
leaves_no_other g e = true≢false (sym (leaves_list g) ∙ ap is_list e)

pub entered_row : (w : Around) (k : Kind) (a : Forest) → (entered w k a).row ≡ row_below w.row k a
entered_row w (Kind.Program source) a = refl
entered_row w (Kind.Function f pure) a = refl
entered_row w Kind.BlockStatement a = refl
entered_row w Kind.Cases a = refl
entered_row w Kind.ForStatement a = refl
entered_row w Kind.CatchClause a = refl
entered_row w k a = refl

plain_row : (k : Kind) (a : Forest) → is_plain k ≡ true → row_below other k a ≡ other
plain_row Kind.Statements a e = absurd (true≢false (sym e))
plain_row k a e = refl

pub other_below : (w : Around) (k : Kind) (a : Forest) → w.row ≡ other → is_plain k ≡ true → (entered w k a).row ≡ other
other_below w k a h e = entered_row w k a ∙ ap (λ r. row_below r k a) h ∙ plain_row k a e

-- an import stands among items
pub items_other : {r : Row} → r ≡ items → r ≡ other → ⊥
items_other i g = cc

-- below a node that is no list of statements there are no items
one_or_more : (how : VariableKind) (single : Bool) → (if single then other else declarators how) ≡ items → ⊥
one_or_more how true e = cc
one_or_more how false e = cc

pub no_items_below : (r : Row) (k : Kind) (a : Forest) → is_plain k ≡ true → row_below r k a ≡ items → ⊥
no_items_below r Kind.Statements a e f = true≢false (sym e)
no_items_below (of_item how) Kind.Declarators a e f = one_or_more how (is_single a) f
no_items_below items Kind.Declarators a e f = cc
no_items_below (declarators how) Kind.Declarators a e f = cc
no_items_below other Kind.Declarators a e f = cc
no_items_below items (Kind.VariableDeclaration how) a e f = cc
no_items_below (of_item h) (Kind.VariableDeclaration how) a e f = cc
no_items_below (declarators h) (Kind.VariableDeclaration how) a e f = cc
no_items_below other (Kind.VariableDeclaration how) a e f = cc
no_items_below r k a e f = cc

-- no step

pub still_stays : {w : Around} {t u : Forest} → Step w t u → w.row ≡ other → still t ≡ true → ⊥
still_stays (leaves h) g e = leaves_no_other h g
still_stays (empties h) g e = true≢false (sym e)
still_stays (unbinds i u h) g e = items_other i g
still_stays (states i u h) g e = items_other i g
still_stays (inside {w = w} {k = k} {a = a} {r = r} s) g e =
    let f = first_of_both (is_plain k && still a) (still r) e in
    still_stays s (other_below w k a g (first_of_both (is_plain k) (still a) f)) (second_of_both (is_plain k) (still a) f)
still_stays (behind_node {k = k} {a = a} {r = r} s) g e = still_stays s g (second_of_both (is_plain k && still a) (still r) e)
still_stays (behind_absent s) g e = still_stays s g e

-- A step in a row whose first node holds still lies behind it.
pub record Behind {w : Around} {a b : Forest} (s : Step w a b) : Type 0 where
  pub first : first_of a ≡ first_of b
  pub name : first_name a ≡ first_name b
  pub rows : is_row a ≡ is_row b
  pub step : Step w (behind a) (behind b)
  pub drops : dropped step ≡ dropped s

pub first_stays : {w : Around} {a b : Forest} (s : Step w a b) → w.row ≡ other → still (first_of a) ≡ true → Behind s
first_stays (leaves h) g e = absurd (leaves_no_other h g)
first_stays (empties h) g e = absurd (true≢false (sym e))
first_stays (unbinds i u h) g e = absurd (items_other i g)
first_stays (states i u h) g e = absurd (items_other i g)
first_stays (inside {n = n} s) g e = absurd (still_stays (inside {n = n} {r = nothing} s) g e)
first_stays (behind_node s) g e = record { first = refl; name = refl; rows = refl; step = s; drops = refl }
first_stays (behind_absent s) g e = record { first = refl; name = refl; rows = refl; step = s; drops = refl }

-- the form of a node

pub form_holds : (k : Kind) (a r : Forest) → is_formed (node k nowhere a r) ≡ true → holds_well k a ≡ true
form_holds k a r e = first_of_both (holds_well k a) (heads k a) (first_of_both (holds_well k a && heads k a) (is_formed a && is_formed r) e)

pub form_heads : (k : Kind) (a r : Forest) → is_formed (node k nowhere a r) ≡ true → heads k a ≡ true
form_heads k a r e = second_of_both (holds_well k a) (heads k a) (first_of_both (holds_well k a && heads k a) (is_formed a && is_formed r) e)

pub form_below : (k : Kind) (a r : Forest) → is_formed (node k nowhere a r) ≡ true → is_formed a ≡ true
form_below k a r e = first_of_both (is_formed a) (is_formed r) (second_of_both (holds_well k a && heads k a) (is_formed a && is_formed r) e)

pub form_behind : (k : Kind) (a r : Forest) → is_formed (node k nowhere a r) ≡ true → is_formed r ≡ true
form_behind k a r e = second_of_both (is_formed a) (is_formed r) (second_of_both (holds_well k a && heads k a) (is_formed a && is_formed r) e)

-- Rows that are the same but for what lies inside of functions, and but there declare the same.
abbrev pub IsImport : Kind → Type 0
IsImport (Kind.ImportDeclaration source) = Unit {0}
IsImport k = ⊥

pub data Alike : Forest → Forest → Type 0 where
  alike_nothing : Alike nothing nothing
  alike_absent : {r s : Forest} → Alike r s → Alike (absent r) (absent s)
  alike_same : {k : Kind} {n : Note} {a r s : Forest} → Alike r s → Alike (node k n a r) (node k n a s)
  alike_node : {k : Kind} {n : Note} {a b r s : Forest} → (IsImport k → ⊥) → Alike a b → Alike r s → Alike (node k n a r) (node k n b s)
  alike_function : {f : FunctionKind} {pure : Bool} {n : Note} {a b r s : Forest} → first_name a ≡ first_name b → Alike r s → Alike (node (Kind.Function f pure) n a r) (node (Kind.Function f pure) n b s)

pub alike_itself : (t : Forest) → Alike t t
alike_itself nothing = alike_nothing
alike_itself (absent r) = alike_absent (alike_itself r)
alike_itself (node k n a r) = alike_same (alike_itself r)

pub record Calmly {w : Around} {t u : Forest} (s : Step w t u) : Type 0 where
  pub alike : Alike t u
  pub drops : dropped s ≡ no_drop

outside_none : (k : Kind) → outside k no_drop ≡ no_drop
outside_none (Kind.Program source) = refl
outside_none (Kind.Function f pure) = refl
outside_none Kind.BlockStatement = refl
outside_none Kind.Cases = refl
outside_none Kind.ForStatement = refl
outside_none Kind.CatchClause = refl
outside_none k = refl

abbrev IsFunction : Kind → Type 0
IsFunction (Kind.Function f pure) = Unit {0}
IsFunction k = ⊥

calm_node : (k : Kind) (below : Bool) → calm_at k below ≡ true → IsFunction k ⊎ ((is_plain k ≡ true) × (below ≡ true))
calm_node (Kind.Function f pure) below e = inl tt
calm_node k below e = inr (first_of_both (is_plain k) below e, second_of_both (is_plain k) below e)

calm_node_step : {w : Around} {n : Note} {a b r : Forest} (k : Kind) (s : Step (entered w k a) a b) → (is_plain k ≡ true → (entered w k a).row ≡ other) → IsFunction k ⊎ ((is_plain k ≡ true) × (calm a ≡ true)) → is_formed (node k n a r) ≡ true
    → ((entered w k a).row ≡ other → calm a ≡ true → Calmly s) → Calmly {w = w} {t = node k n a r} {u = node k n b r} (inside s)
calm_node_step {w} {n} {a} {b} {r} (Kind.Function how pure) s g c f h =
    record { alike = alike_function (first_stays s (g refl) (first_of_both (still (first_of a)) _ (form_heads (Kind.Function how pure) a r f))).name (alike_itself r); drops = refl }
calm_node_step {w} {n} {a} {b} {r} (Kind.ImportDeclaration source) s g c f h = absurd (still_stays s (g refl) (form_heads (Kind.ImportDeclaration source) a r f))
calm_node_step k s g (inl v) f h = absurd v
calm_node_step {w} {n} {a} {b} {r} k s g (inr v) f h = let c = h (g v.0) v.1 in record { alike = alike_node (λ i. i) c.alike (alike_itself r); drops = ap (outside k) c.drops ∙ outside_none k }

pub calm_step : {w : Around} {t u : Forest} (s : Step w t u) → w.row ≡ other → calm t ≡ true → is_formed t ≡ true → Calmly s
calm_step (leaves h) g e f = absurd (leaves_no_other h g)
calm_step (empties h) g e f = absurd (true≢false (sym e))
calm_step (unbinds i u h) g e f = absurd (items_other i g)
calm_step (states i u h) g e f = absurd (items_other i g)
calm_step (inside {w = w} {k = k} {n = n} {a = a} {b = b} {r = r} s) g e f =
    calm_node_step k s (other_below w k a g) (calm_node k (calm a) (first_of_both (calm_at k (calm a)) (calm r) e)) f (λ i j. calm_step s i j (form_below k a r f))
calm_step (behind_node {k = k} {a = a} {r = r} s) g e f =
    let c = calm_step s g (second_of_both (calm_at k (calm a)) (calm r) e) (form_behind k a r f) in record { alike = alike_same c.alike; drops = c.drops }
calm_step (behind_absent s) g e f = let c = calm_step s g e f in record { alike = alike_absent c.alike; drops = c.drops }

pub calm_inside : {w : Around} {n : Note} {a b r : Forest} (k : Kind) (s : Step (entered w k a) a b) → (is_plain k ≡ true → (entered w k a).row ≡ other) → calm_at k (calm a) ≡ true → is_formed (node k n a r) ≡ true → Calmly {w = w} {t = node k n a r} {u = node k n b r} (inside s)
calm_inside {a = a} {r = r} k s g e f = calm_node_step k s g (calm_node k (calm a) e) f (λ i j. calm_step s i j (form_below k a r f))

-- what such rows have in common

pub same_first_name : {t u : Forest} → Alike t u → first_name t ≡ first_name u
same_first_name alike_nothing = refl
same_first_name (alike_absent h) = refl
same_first_name (alike_same h) = refl
same_first_name (alike_node i h g) = refl
same_first_name (alike_function e g) = refl

pub same_bounds : {t u : Forest} → Alike t u → bound_names t ≡ bound_names u
same_bounds alike_nothing = refl
same_bounds (alike_absent h) = same_bounds h
same_bounds (alike_same {k = k} {a = a} g) = ap (λ l. names_of k (bound_names a) ++ l) (same_bounds g)
same_bounds (alike_node {k = k} i h g) = ap₂ (λ l m. names_of k l ++ m) (same_bounds h) (same_bounds g)
same_bounds (alike_function e g) = same_bounds g

vars_at : (k : Kind) (a b : Forest) → bound_names a ≡ bound_names b → var_names a ≡ var_names b → vars_of k a (var_names a) ≡ vars_of k b (var_names b)
vars_at (Kind.VariableDeclaration variable.Var) a b e f = ap₂ (λ l m. l ++ m) e f
vars_at (Kind.VariableDeclaration variable.Let) a b e f = refl
vars_at (Kind.VariableDeclaration variable.Const) a b e f = refl
vars_at (Kind.Function how pure) a b e f = refl
vars_at (Kind.Class c) a b e f = refl
vars_at k a b e f = f

pub same_vars : {t u : Forest} → Alike t u → var_names t ≡ var_names u
same_vars alike_nothing = refl
same_vars (alike_absent h) = same_vars h
same_vars (alike_same {k = k} {a = a} g) = ap (λ l. vars_of k a (var_names a) ++ l) (same_vars g)
same_vars (alike_node {k = k} {a = a} {b = b} i h g) = ap₂ (λ l m. l ++ m) (vars_at k a b (same_bounds h) (same_vars h)) (same_vars g)
same_vars (alike_function e g) = same_vars g

pub lexical_at : (k : Kind) (a b : Forest) → (IsImport k → ⊥) → bound_names a ≡ bound_names b → first_name a ≡ first_name b → lexical a ≡ lexical b → item_decls k a (lexical a) ≡ item_decls k b (lexical b)
lexical_at (Kind.VariableDeclaration variable.Let) a b i e f g = ap (all_so (waiting false)) e
lexical_at (Kind.VariableDeclaration variable.Const) a b i e f g = ap (all_so (waiting true)) e
lexical_at (Kind.Function function_kind.Declaration pure) a b i e f g = ap (named_so (waiting false)) f
lexical_at (Kind.Class class_kind.Declaration) a b i e f g = ap (named_so (waiting false)) f
lexical_at (Kind.ImportDeclaration source) a b i e f g = absurd (i tt)
lexical_at (Kind.ExportNamedDeclaration None) a b i e f g = g
lexical_at Kind.ExportDefaultDeclaration a b i e f g = ap or_default g
lexical_at Kind.FunctionBody a b i e f g = g
lexical_at Kind.Statements a b i e f g = g
lexical_at Kind.Cases a b i e f g = g
lexical_at Kind.SwitchCase a b i e f g = g
lexical_at k a b i e f g = refl

pub same_lexical : {t u : Forest} → Alike t u → lexical t ≡ lexical u
same_lexical alike_nothing = refl
same_lexical (alike_absent h) = same_lexical h
same_lexical (alike_same {k = k} {a = a} g) = ap (λ l. item_decls k a (lexical a) ++ l) (same_lexical g)
same_lexical (alike_node {k = k} {a = a} {b = b} i h g) = ap₂ (λ l m. l ++ m) (lexical_at k a b i (same_bounds h) (same_first_name h) (same_lexical h)) (same_lexical g)
same_lexical (alike_function {f = function_kind.Declaration} e g) = ap₂ (λ o m. named_so (waiting false) o ++ m) e (same_lexical g)
same_lexical (alike_function {f = function_kind.Expression} e g) = same_lexical g
same_lexical (alike_function {f = function_kind.Arrow} e g) = same_lexical g
