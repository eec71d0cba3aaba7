-- What a step changes in the lists of names that a row declares.
use Rattle.std.proofs.Common.{◌≡◌, ◌∙◌, ◌⊎◌, inl, inr, List, [], ◌∷◌, ◌++◌, Bool, true, false, true≢false, if◌then◌else◌, Some, None, refl, sym, ap, ap₂, subst}
use Rattle.js_syntax.specs.declared.node_kind.NodeKind.{NodeKind as Kind}
use Rattle.js_syntax.specs.Node.{Forest, nothing, node, absent, Note, alone}
use Rattle.js_syntax.specs.declared.kind.FunctionKind.TheVariants as function_kind
use Rattle.js_syntax.specs.declared.kind.VariableKind.{VariableKind}
use Rattle.js_syntax.specs.declared.kind.VariableKind.TheVariants as variable
use Rattle.js_meaning.specs.Value.{Text}
use Rattle.js_meaning.specs.Scope.{Way, Decl, first_of, names_of, bound_names, vars_of, var_names, item_decls, lexical, waiting, all_so, named_so, or_default}
use Rattle.js_meaning_near.specs.Avoid.{Dropped, dropped_here, dropped_later}
use Rattle.js_meaning_near.proofs.Avoid.{fewer_itself, dropped_first, dropped_second}
use Rattle.steps.specs.Steps.{Row, items, of_item, declarators, other, is_single, row_below, Around, entered, Initialiser, no_initialiser, silent_initialiser, Goes, empty_statement, unused_function, unused_declarator, unused_declaration, Step, leaves, empties, unbinds, states, inside, behind_node, behind_absent}
use Rattle.steps.specs.KeepRuns.Formed.{holds_statements, is_function, is_cases, is_switch, may_hold, holds_well, is_plain, still, calm_at, calm, heads, is_formed}
use Rattle.steps.specs.KeepRuns.Drop.{Drop, no_drop, of_block, of_function, declared_so, out_of_block, outside, drop_of, dropped}
use Rattle.steps.proofs.KeepRuns.Unbound.{unbound_decls, unbound_vars}
use Rattle.steps.proofs.KeepRuns.Calm.{items_other, leaves_no_other, entered_row, other_below, still_stays, first_stays, form_holds, form_heads, form_below, form_behind, alike_same, alike_absent, alike_node, alike_itself, Calmly, calm_step, calm_inside, same_bounds, same_vars, same_lexical}
use Rattle.js_syntax.proofs.Truth.{first_of_both, second_of_both}

-- a list, and the list without one of the names

pub data Less (x : Text) : List Text → List Text → Type 0 where
  less_here : {xs : List Text} → Less x (x ∷ xs) xs
  less_later : {y : Text} {xs ys : List Text} → Less x xs ys → Less x (y ∷ xs) (y ∷ ys)

less_front : {x : Text} {xs ys : List Text} (zs : List Text) → Less x xs ys → Less x (zs ++ xs) (zs ++ ys)
less_front [] l = l
less_front (z ∷ zs) l = less_later (less_front zs l)

less_back : {x : Text} {xs ys : List Text} (zs : List Text) → Less x xs ys → Less x (xs ++ zs) (ys ++ zs)
less_back zs less_here = less_here
less_back zs (less_later l) = less_later (less_back zs l)

pub less_dropped : {x : Text} {xs ys : List Text} (way : Way) → Less x xs ys → Dropped x (all_so way xs) (all_so way ys)
less_dropped way (less_here {xs = xs}) = dropped_here (fewer_itself _ (all_so way xs))
less_dropped way (less_later l) = dropped_later (less_dropped way l)

abbrev pub VarsChange : Drop → List Text → List Text → Type 0
VarsChange (of_function x) xs ys = Less x xs ys
VarsChange d xs ys = xs ≡ ys

abbrev pub LexicalChange : Drop → List Decl → List Decl → Type 0
LexicalChange (of_block x) ds es = Dropped x ds es
LexicalChange d ds es = ds ≡ es

vars_front : (xs ys : List Text) (d : Drop) (zs : List Text) → VarsChange d xs ys → VarsChange d (zs ++ xs) (zs ++ ys)
vars_front xs ys no_drop zs h = ap (λ l. zs ++ l) h
vars_front xs ys (of_block x) zs h = ap (λ l. zs ++ l) h
vars_front xs ys (of_function x) zs h = less_front zs h

vars_back : (xs ys : List Text) (d : Drop) (zs : List Text) → VarsChange d xs ys → VarsChange d (xs ++ zs) (ys ++ zs)
vars_back xs ys no_drop zs h = ap (λ l. l ++ zs) h
vars_back xs ys (of_block x) zs h = ap (λ l. l ++ zs) h
vars_back xs ys (of_function x) zs h = less_back zs h

lexical_front : (ds es : List Decl) (d : Drop) (fs : List Decl) → LexicalChange d ds es → LexicalChange d (fs ++ ds) (fs ++ es)
lexical_front ds es no_drop fs h = ap (λ l. fs ++ l) h
lexical_front ds es (of_block x) fs h = dropped_second (fewer_itself x fs) h
lexical_front ds es (of_function x) fs h = ap (λ l. fs ++ l) h

lexical_back : (ds es : List Decl) (d : Drop) (fs : List Decl) → LexicalChange d ds es → LexicalChange d (ds ++ fs) (es ++ fs)
lexical_back ds es no_drop fs h = ap (λ l. l ++ fs) h
lexical_back ds es (of_block x) fs h = dropped_first h (fewer_itself x fs)
lexical_back ds es (of_function x) fs h = ap (λ l. l ++ fs) h

-- what declares no name declares none by `var`

empty_left : (xs ys : List Text) → xs ++ ys ≡ [] → xs ≡ []
empty_left [] ys e = refl
empty_left (x ∷ xs) ys e = absurd (cc)

empty_right : (xs ys : List Text) → xs ++ ys ≡ [] → ys ≡ []
empty_right [] ys e = e
empty_right (x ∷ xs) ys e = absurd (cc)

no_vars_at : (k : Kind) (a : Forest) → names_of k (bound_names a) ≡ [] → (bound_names a ≡ [] → var_names a ≡ []) → vars_of k a (var_names a) ≡ []
no_vars_at (Kind.BindingName x) a e h = absurd (cc)
no_vars_at (Kind.VariableDeclaration variable.Var) a e h = ap₂ (λ l m. l ++ m) e (h e)
no_vars_at (Kind.VariableDeclaration variable.Let) a e h = refl
no_vars_at (Kind.VariableDeclaration variable.Const) a e h = refl
no_vars_at (Kind.Function f pure) a e h = refl
no_vars_at (Kind.Class c) a e h = refl
no_vars_at k a e h = h e

pub no_vars : (t : Forest) → bound_names t ≡ [] → var_names t ≡ []
no_vars nothing e = refl
no_vars (absent r) e = no_vars r e
no_vars (node k n a r) e =
    ap₂ (λ l m. l ++ m) (no_vars_at k a (empty_left (names_of k (bound_names a)) (bound_names r) e) (no_vars a)) (no_vars r (empty_right (names_of k (bound_names a)) (bound_names r) e))

pub initialiser_bounds : {names : List Text} {v : Forest} → Initialiser names v → bound_names v ≡ []
initialiser_bounds no_initialiser = refl
initialiser_bounds (silent_initialiser i) = i.declares

-- inside of a declaration that is an item

pub data Gone (how : VariableKind) {w : Around} {t u : Forest} (s : Step w t u) : Type 0 where
  nothing_gone : Calmly s → Gone how s
  one_gone : (x : Text) → dropped s ≡ declared_so how x → Less x (bound_names t) (bound_names u) → var_names t ≡ var_names u → Gone how s

abbrev InItem : VariableKind → Row → Type 0
InItem how r = (r ≡ of_item how) ⊎ (r ≡ declarators how)

item_items : {how : VariableKind} {r : Row} → InItem how r → r ≡ items → ⊥
item_items (inl e) f = cc
item_items (inr e) f = cc

abbrev kind_of_row : VariableKind → Row → VariableKind
kind_of_row d (declarators how) = how
kind_of_row d r = d

same_kind : {how h : VariableKind} {r : Row} → InItem how r → r ≡ declarators h → h ≡ how
same_kind (inl e) f = absurd (cc)
same_kind {how} (inr e) f = sym (ap (kind_of_row how) f) ∙ ap (kind_of_row how) e

declarator_gone : (x : Text) (n m : Note) (v r : Forest) → bound_names v ≡ [] → Less x (bound_names (node Kind.VariableDeclarator n (node (Kind.BindingName x) m nothing v) r)) (bound_names r)
declarator_gone x n m v r e = subst (λ l. Less x ((x ∷ l) ++ bound_names r) (bound_names r)) (sym e) less_here

-- the row below a node that is no list of statements

abbrev NotDeclarators : Kind → Type 0
NotDeclarators Kind.Declarators = ⊥
NotDeclarators k = Unit {0}

below_item : (how : VariableKind) (k : Kind) (a : Forest) → NotDeclarators k → is_plain k ≡ true → row_below (of_item how) k a ≡ other
below_item how Kind.Statements a i e = absurd (true≢false (sym e))
below_item how Kind.Declarators a i e = absurd i
below_item how k a i e = refl

below_declarators : (how : VariableKind) (k : Kind) (a : Forest) → is_plain k ≡ true → row_below (declarators how) k a ≡ other
below_declarators how Kind.Statements a e = absurd (true≢false (sym e))
below_declarators how k a e = refl

other_item : (how : VariableKind) (r : Row) (k : Kind) (a : Forest) → InItem how r → NotDeclarators k → is_plain k ≡ true → row_below r k a ≡ other
other_item how r k a (inl i) n e = ap (λ r. row_below r k a) i ∙ below_item how k a n e
other_item how r k a (inr i) n e = ap (λ r. row_below r k a) i ∙ below_declarators how k a e

single_or : (how : VariableKind) (b : Bool) → ((if b then other else declarators how) ≡ other) ⊎ ((if b then other else declarators how) ≡ declarators how)
single_or how true = inl refl
single_or how false = inr refl

declarators_below : (how : VariableKind) (w : Around) (a : Forest) → InItem how w.row → ((entered w Kind.Declarators a).row ≡ other) ⊎ ((entered w Kind.Declarators a).row ≡ declarators how)
declarators_below how w a (inl i) = go (single_or how (is_single a))
  where
    go : ((if is_single a then other else declarators how) ≡ other) ⊎ ((if is_single a then other else declarators how) ≡ declarators how) → ((entered w Kind.Declarators a).row ≡ other) ⊎ ((entered w Kind.Declarators a).row ≡ declarators how)
    go (inl e) = inl (ap (λ r. row_below r Kind.Declarators a) i ∙ e)
    go (inr e) = inr (ap (λ r. row_below r Kind.Declarators a) i ∙ e)
declarators_below how w a (inr i) = inl (ap (λ r. row_below r Kind.Declarators a) i)

gone_below : {how : VariableKind} {w : Around} {n : Note} {a b r : Forest} (s : Step (entered w Kind.Declarators a) a b) → Gone how s → Gone how {w = w} {t = node Kind.Declarators n a r} {u = node Kind.Declarators n b r} (inside s)
gone_below {r = r} s (nothing_gone c) = nothing_gone (record { alike = alike_node (λ i. i) c.alike (alike_itself r); drops = c.drops })
gone_below {r = r} s (one_gone x d l v) = one_gone x d (less_back (bound_names r) l) (ap (λ m. m ++ var_names r) v)

decl_inside : {w : Around} {n : Note} {a b r : Forest} (how : VariableKind) (k : Kind) (s : Step (entered w k a) a b) → InItem how w.row → calm_at k (calm a) ≡ true → is_formed (node k n a r) ≡ true
    → ((entered w k a).row ≡ declarators how → calm a ≡ true → Gone how s) → Gone how {w = w} {t = node k n a r} {u = node k n b r} (inside s)
decl_inside {w} {n} {a} {b} {r} how Kind.Declarators s i e f h = go (declarators_below how w a i)
  where
    go : ((entered w Kind.Declarators a).row ≡ other) ⊎ ((entered w Kind.Declarators a).row ≡ declarators how) → Gone how {w = w} {t = node Kind.Declarators n a r} {u = node Kind.Declarators n b r} (inside s)
    go (inl g) = nothing_gone (calm_inside Kind.Declarators s (λ p. g) e f)
    go (inr g) = gone_below s (h g e)
decl_inside {w} {n} {a} {b} {r} how k s i e f h = nothing_gone (calm_inside k s (λ p. entered_row w k a ∙ other_item how w.row k a i tt p) e f)

gone_behind : {how : VariableKind} {w : Around} {k : Kind} {n : Note} {a r z : Forest} (s : Step w r z) → Gone how s → Gone how {w = w} {t = node k n a r} {u = node k n a z} (behind_node s)
gone_behind s (nothing_gone c) = nothing_gone (record { alike = alike_same c.alike; drops = c.drops })
gone_behind {k = k} {a = a} s (one_gone x d l v) = one_gone x d (less_front (names_of k (bound_names a)) l) (ap (λ m. vars_of k a (var_names a) ++ m) v)

gone_absent : {how : VariableKind} {w : Around} {r z : Forest} (s : Step w r z) → Gone how s → Gone how {w = w} {t = absent r} {u = absent z} (behind_absent s)
gone_absent s (nothing_gone c) = nothing_gone (record { alike = alike_absent c.alike; drops = c.drops })
gone_absent s (one_gone x d l v) = one_gone x d l v

pub decl_step : {w : Around} {t u : Forest} (how : VariableKind) (s : Step w t u) → InItem how w.row → calm t ≡ true → is_formed t ≡ true → Gone how s
decl_step how (leaves (empty_statement h)) i e f = absurd (item_items i h)
decl_step how (leaves (unused_function h u)) i e f = absurd (item_items i h)
decl_step how (leaves {n = n} {r = r} (unused_declarator {x = x} {m = m} {v = v} h u z)) i e f =
    one_gone x (ap (λ d. declared_so d x) (same_kind i h)) (declarator_gone x n m v r (initialiser_bounds z)) (ap (λ l. l ++ var_names r) (no_vars v (initialiser_bounds z)))
decl_step how (leaves (unused_declaration h u z)) i e f = absurd (item_items i h)
decl_step how (empties h) i e f = absurd (true≢false (sym e))
decl_step how (unbinds g u h) i e f = absurd (item_items i g)
decl_step how (states g u h) i e f = absurd (item_items i g)
decl_step how (inside {k = k} {a = a} {r = r} s) i e f = decl_inside how k s i (first_of_both (calm_at k (calm a)) (calm r) e) f (λ g c. decl_step how s (inr g) c (form_below k a r f))
decl_step how (behind_node {k = k} {a = a} {r = r} s) i e f = gone_behind s (decl_step how s i (second_of_both (calm_at k (calm a)) (calm r) e) (form_behind k a r f))
decl_step how (behind_absent s) i e f = gone_absent s (decl_step how s i e f)

-- rows outside of declarations

abbrev pub InList : Row → Type 0
InList r = (r ≡ items) ⊎ (r ≡ other)

list_declarators : {how : VariableKind} {r : Row} → InList r → r ≡ declarators how → ⊥
list_declarators (inl e) f = cc
list_declarators (inr e) f = cc

abbrev NoDeclaration : Kind → Type 0
NoDeclaration (Kind.VariableDeclaration how) = ⊥
NoDeclaration k = Unit {0}

list_of_items : (k : Kind) (a : Forest) → NoDeclaration k → InList (row_below items k a)
list_of_items Kind.Statements a n = inl refl
list_of_items (Kind.VariableDeclaration how) a n = absurd n
list_of_items k a n = inr refl

list_of_other : (k : Kind) (a : Forest) → InList (row_below other k a)
list_of_other Kind.Statements a = inl refl
list_of_other k a = inr refl

list_below : (w : Around) (k : Kind) (a : Forest) → InList w.row → NoDeclaration k → InList (entered w k a).row
list_below w k a (inl i) n = subst InList (sym (entered_row w k a ∙ ap (λ r. row_below r k a) i)) (list_of_items k a n)
list_below w k a (inr i) n = subst InList (sym (entered_row w k a ∙ ap (λ r. row_below r k a) i)) (list_of_other k a)

-- the row below a node that holds no declarators and no statements
other_in_list : (k : Kind) (a : Forest) → NoDeclaration k → is_plain k ≡ true → row_below items k a ≡ other
other_in_list Kind.Statements a n e = absurd (true≢false (sym e))
other_in_list (Kind.VariableDeclaration how) a n e = absurd n
other_in_list k a n e = refl

pub row_other : (w : Around) (k : Kind) (a : Forest) → InList w.row → NoDeclaration k → is_plain k ≡ true → (entered w k a).row ≡ other
row_other w k a (inl i) n e = entered_row w k a ∙ ap (λ r. row_below r k a) i ∙ other_in_list k a n e
row_other w k a (inr i) n e = other_below w k a i e

-- what a declaration loses
pub declaration_step : {w : Around} {a b : Forest} (how : VariableKind) (s : Step (entered w (Kind.VariableDeclaration how) a) a b) → InList w.row → calm a ≡ true → is_formed a ≡ true → Gone how s
declaration_step {w} {a} how s (inl i) c f = decl_step how s (inl (ap (λ r. row_below r (Kind.VariableDeclaration how) a) i)) c f
declaration_step {w} {a} how s (inr i) c f = nothing_gone (calm_step s (ap (λ r. row_below r (Kind.VariableDeclaration how) a) i) c f)

-- names of `var`

vars_no_drop : (xs ys : List Text) (d : Drop) → d ≡ no_drop → xs ≡ ys → VarsChange d xs ys
vars_no_drop xs ys d e h = subst (λ d. VarsChange d xs ys) (sym e) h

vars_out : (xs ys : List Text) (d : Drop) → VarsChange d xs ys → VarsChange (out_of_block d) xs ys
vars_out xs ys no_drop h = h
vars_out xs ys (of_block x) h = h
vars_out xs ys (of_function x) h = h

vars_gone : {w : Around} {a b : Forest} (how : VariableKind) (s : Step w a b) → Gone how s → VarsChange (dropped s) (vars_of (Kind.VariableDeclaration how) a (var_names a)) (vars_of (Kind.VariableDeclaration how) b (var_names b))
vars_gone {a = a} {b = b} variable.Var s (nothing_gone c) = vars_no_drop _ _ (dropped s) c.drops (ap₂ (λ l m. l ++ m) (same_bounds c.alike) (same_vars c.alike))
vars_gone variable.Let s (nothing_gone c) = vars_no_drop [] [] (dropped s) c.drops refl
vars_gone variable.Const s (nothing_gone c) = vars_no_drop [] [] (dropped s) c.drops refl
vars_gone {a = a} {b = b} variable.Var s (one_gone x d l v) = subst (λ d. VarsChange d (bound_names a ++ var_names a) (bound_names b ++ var_names b)) (sym d) (subst (λ m. Less x (bound_names a ++ var_names a) (bound_names b ++ m)) v (less_back (var_names a) l))
vars_gone variable.Let s (one_gone x d l v) = subst (λ d. VarsChange d [] []) (sym d) refl
vars_gone variable.Const s (one_gone x d l v) = subst (λ d. VarsChange d [] []) (sym d) refl

vars_inside : (w : Around) {a b : Forest} (k : Kind) (s : Step (entered w k a) a b) (above : Kind) → may_hold above k ≡ true → InList w.row → heads k a ≡ true → is_formed a ≡ true
    → (InList (entered w k a).row → VarsChange (dropped s) (var_names a) (var_names b)) → VarsChange (outside k (dropped s)) (vars_of k a (var_names a)) (vars_of k b (var_names b))
vars_inside w (Kind.Program source) s above m i e f h = absurd (true≢false (sym m))
vars_inside w (Kind.Function how pure) s above m i e f h = refl
vars_inside w {a} (Kind.Class c) s above m i e f h = absurd (still_stays s (row_other w (Kind.Class c) a i tt refl) e)
vars_inside w (Kind.VariableDeclaration how) s above m i e f h = vars_gone how s (declaration_step how s i e f)
vars_inside w {a} {b} Kind.BlockStatement s above m i e f h = vars_out (var_names a) (var_names b) (dropped s) (h (list_below w Kind.BlockStatement a i tt))
vars_inside w {a} {b} Kind.Cases s above m i e f h = vars_out (var_names a) (var_names b) (dropped s) (h (list_below w Kind.Cases a i tt))
vars_inside w {a} {b} Kind.ForStatement s above m i e f h = vars_out (var_names a) (var_names b) (dropped s) (h (list_below w Kind.ForStatement a i tt))
vars_inside w {a} {b} Kind.CatchClause s above m i e f h = vars_out (var_names a) (var_names b) (dropped s) (h (list_below w Kind.CatchClause a i tt))
vars_inside w {a} k s above m i e f h = h (list_below w k a i tt)

-- what leaves a list takes the declarations of one name with it, or none

declaration_vars : (how : VariableKind) (x : Text) (m l j : Note) (v : Forest) → bound_names v ≡ [] → VarsChange (declared_so how x) (vars_of (Kind.VariableDeclaration how) (alone Kind.Declarators m (alone Kind.VariableDeclarator l (node (Kind.BindingName x) j nothing v))) ((var_names v ++ []) ++ [])) []
declaration_vars variable.Var x m l j v e = subst (λ n. Less x n []) (sym (ap₂ (λ b c. (((x ∷ b) ++ []) ++ []) ++ ((c ++ []) ++ [])) e (no_vars v e))) less_here
declaration_vars variable.Let x m l j v e = refl
declaration_vars variable.Const x m l j v e = refl

declaration_lexical : (how : VariableKind) (x : Text) (m l j : Note) (v : Forest) → bound_names v ≡ [] → LexicalChange (declared_so how x) (item_decls (Kind.VariableDeclaration how) (alone Kind.Declarators m (alone Kind.VariableDeclarator l (node (Kind.BindingName x) j nothing v))) []) []
declaration_lexical variable.Var x m l j v e = refl
declaration_lexical variable.Let x m l j v e = subst (λ b. Dropped x (all_so (waiting false) (((x ∷ b) ++ []) ++ [])) []) (sym e) (dropped_here (fewer_itself x []))
declaration_lexical variable.Const x m l j v e = subst (λ b. Dropped x (all_so (waiting true) (((x ∷ b) ++ []) ++ [])) []) (sym e) (dropped_here (fewer_itself x []))

record ListLoses (d : Drop) (k : Kind) (a : Forest) : Type 0 where
  vars : VarsChange d (vars_of k a (var_names a)) []
  lexical : LexicalChange d (item_decls k a (lexical a)) []

list_loses : {w : Around} {k : Kind} {a : Forest} (g : Goes w k a) → InList w.row → ListLoses (drop_of g) k a
list_loses (empty_statement h) i = record { vars = refl; lexical = refl }
list_loses (unused_function {x = x} h u) i = record { vars = refl; lexical = dropped_here (fewer_itself x []) }
list_loses (unused_declarator h u z) i = absurd (list_declarators i h)
list_loses (unused_declaration {how = how} {x = x} {m = m} {l = l} {j = j} {v = v} h u z) i =
    record { vars = declaration_vars how x m l j v (initialiser_bounds z); lexical = declaration_lexical how x m l j v (initialiser_bounds z) }

pub vars_step : {w : Around} {t u : Forest} (s : Step w t u) (above : Kind) → holds_well above t ≡ true → InList w.row → is_formed t ≡ true → VarsChange (dropped s) (var_names t) (var_names u)
vars_step (leaves {r = r} g) above m i f = vars_back _ [] (drop_of g) (var_names r) (list_loses g i).vars
vars_step (empties {k = k} {l = n} {a = a} {r = r} h) above m i f = ap (λ l. l ++ var_names r) (no_vars (alone k n a) h.declares)
vars_step (unbinds {r = r} g u h) above m i f = ap (λ l. l ++ var_names r) (unbound_vars h)
vars_step (states {how = how} {x = x} {k = k} {m = m} {l = l} {j = j} {i = y} {a = a} {r = r} g u h) above b i f =
    let value = alone k y a in
    let all = alone Kind.Declarators m (alone Kind.VariableDeclarator l (node (Kind.BindingName x) j nothing value)) in
    subst (λ ns. VarsChange (declared_so how x) (vars_of (Kind.VariableDeclaration how) all (var_names all) ++ var_names r) (ns ++ var_names r)) (sym (no_vars value h))
    (vars_back _ [] (declared_so how x) (var_names r) (declaration_vars how x m l j value h))
vars_step (inside {k = k} {a = a} {b = b} {r = r} s) above m i f =
    vars_back _ _ (outside k (dropped s)) (var_names r) (vars_inside _ k s above (first_of_both (may_hold above k) (holds_well above r) m) i (form_heads k a r f) (form_below k a r f) (λ j. vars_step s k (form_holds k a r f) j (form_below k a r f)))
vars_step (behind_node {k = k} {a = a} {r = r} {s = z} s) above m i f =
    vars_front (var_names r) (var_names z) (dropped s) (vars_of k a (var_names a)) (vars_step s above (second_of_both (may_hold above k) (holds_well above r) m) i (form_behind k a r f))
vars_step (behind_absent s) above m i f = vars_step s above m i f

-- lexical names

abbrev pub NotBlock : Drop → Type 0
NotBlock (of_block x) = ⊥
NotBlock d = Unit {0}

not_out : (d : Drop) → NotBlock (out_of_block d)
not_out no_drop = tt
not_out (of_block x) = tt
not_out (of_function x) = tt

not_block_none : (d : Drop) → d ≡ no_drop → NotBlock d
not_block_none d e = subst NotBlock (sym e) tt

-- whether a list of statements, a body or a case may stand right below
abbrev holds_lists : Kind → Bool
holds_lists Kind.Cases = true
holds_lists (Kind.Function f pure) = true
holds_lists k = holds_statements k

no_lists : (k : Kind) {A : Type 0} → holds_lists k ≡ false → (holds_statements k ≡ true) ⊎ ((is_function k ≡ true) ⊎ (is_cases k ≡ true)) → A
no_lists Kind.Cases h e = absurd (true≢false h)
no_lists (Kind.Function f pure) h e = absurd (true≢false h)
no_lists k h (inl e) = absurd (true≢false (sym e ∙ h))
no_lists k h (inr (inl e)) = absurd (true≢false (sym e))
no_lists k h (inr (inr e)) = absurd (true≢false (sym e))

not_block_inside : (w : Around) {a b : Forest} (k : Kind) (s : Step (entered w k a) a b) (above : Kind) → may_hold above k ≡ true → holds_lists above ≡ false → w.row ≡ other → heads k a ≡ true → is_formed a ≡ true
    → ((entered w k a).row ≡ other → holds_lists k ≡ false → NotBlock (dropped s)) → NotBlock (outside k (dropped s))
not_block_inside w (Kind.Program source) s above m g i e f h = tt
not_block_inside w (Kind.Function how pure) s above m g i e f h = tt
not_block_inside w Kind.BlockStatement s above m g i e f h = not_out (dropped s)
not_block_inside w Kind.Cases s above m g i e f h = not_out (dropped s)
not_block_inside w Kind.ForStatement s above m g i e f h = not_out (dropped s)
not_block_inside w Kind.CatchClause s above m g i e f h = not_out (dropped s)
not_block_inside w Kind.Statements s above m g i e f h = no_lists above g (inl m)
not_block_inside w Kind.FunctionBody s above m g i e f h = no_lists above g (inr (inl m))
not_block_inside w Kind.SwitchCase s above m g i e f h = no_lists above g (inr (inr m))
not_block_inside w {a} Kind.ExpressionStatement s above m g i e f h = h (ap (λ r. row_below r Kind.ExpressionStatement a) i) refl
not_block_inside w {a} k s above m g i e f h = h (other_below w k a i refl) refl

pub not_block : {w : Around} {t u : Forest} (s : Step w t u) (above : Kind) → holds_well above t ≡ true → holds_lists above ≡ false → w.row ≡ other → is_formed t ≡ true → NotBlock (dropped s)
not_block (leaves h) above m g i f = absurd (leaves_no_other h i)
not_block (empties h) above m g i f = tt
not_block (unbinds j u h) above m g i f = absurd (items_other j i)
not_block (states j u h) above m g i f = absurd (items_other j i)
not_block (inside {k = k} {a = a} {r = r} s) above m g i f =
    not_block_inside _ k s above (first_of_both (may_hold above k) (holds_well above r) m) g i (form_heads k a r f) (form_below k a r f) (λ j l. not_block s k (form_holds k a r f) l j (form_below k a r f))
not_block (behind_node {k = k} {a = a} {r = r} s) above m g i f = not_block s above (second_of_both (may_hold above k) (holds_well above r) m) g i (form_behind k a r f)
not_block (behind_absent s) above m g i f = not_block s above m g i f

pub lexical_same : (ds es : List Decl) (d : Drop) → NotBlock d → ds ≡ es → LexicalChange d ds es
lexical_same ds es no_drop n h = h
lexical_same ds es (of_block x) n h = absurd n
lexical_same ds es (of_function x) n h = h

lexical_gone : {w : Around} {a b : Forest} (how : VariableKind) (s : Step w a b) → Gone how s → LexicalChange (dropped s) (item_decls (Kind.VariableDeclaration how) a (lexical a)) (item_decls (Kind.VariableDeclaration how) b (lexical b))
lexical_gone variable.Var s (nothing_gone c) = lexical_same [] [] (dropped s) (not_block_none (dropped s) c.drops) refl
lexical_gone variable.Let s (nothing_gone c) = lexical_same _ _ (dropped s) (not_block_none (dropped s) c.drops) (ap (all_so (waiting false)) (same_bounds c.alike))
lexical_gone variable.Const s (nothing_gone c) = lexical_same _ _ (dropped s) (not_block_none (dropped s) c.drops) (ap (all_so (waiting true)) (same_bounds c.alike))
lexical_gone variable.Var s (one_gone x d l v) = subst (λ d. LexicalChange d [] []) (sym d) refl
lexical_gone {a = a} {b = b} variable.Let s (one_gone x d l v) = subst (λ d. LexicalChange d (all_so (waiting false) (bound_names a)) (all_so (waiting false) (bound_names b))) (sym d) (less_dropped (waiting false) l)
lexical_gone {a = a} {b = b} variable.Const s (one_gone x d l v) = subst (λ d. LexicalChange d (all_so (waiting true) (bound_names a)) (all_so (waiting true) (bound_names b))) (sym d) (less_dropped (waiting true) l)

lexical_inside : (w : Around) {a b : Forest} (k : Kind) (s : Step (entered w k a) a b) (above : Kind) → may_hold above k ≡ true → is_switch above ≡ false → InList w.row → holds_well k a ≡ true → heads k a ≡ true → is_formed a ≡ true
    → (is_switch k ≡ false → InList (entered w k a).row → LexicalChange (dropped s) (lexical a) (lexical b)) → LexicalChange (outside k (dropped s)) (item_decls k a (lexical a)) (item_decls k b (lexical b))
lexical_inside w (Kind.Program source) s above m n i l e f h = absurd (true≢false (sym m))
lexical_inside w Kind.Cases s above m n i l e f h = absurd (true≢false (sym m ∙ n))
lexical_inside w (Kind.VariableDeclaration how) s above m n i l e f h = lexical_gone how s (declaration_step how s i e f)
lexical_inside w {a} (Kind.Function function_kind.Declaration pure) s above m n i l e f h = ap (named_so (waiting false)) (first_stays s (row_other w (Kind.Function function_kind.Declaration pure) a i tt refl) (first_of_both (still (first_of a)) _ e)).name
lexical_inside w (Kind.Function function_kind.Expression pure) s above m n i l e f h = refl
lexical_inside w (Kind.Function function_kind.Arrow pure) s above m n i l e f h = refl
lexical_inside w {a} (Kind.Class c) s above m n i l e f h = absurd (still_stays s (row_other w (Kind.Class c) a i tt refl) e)
lexical_inside w {a} (Kind.ImportDeclaration source) s above m n i l e f h = absurd (still_stays s (row_other w (Kind.ImportDeclaration source) a i tt refl) e)
lexical_inside w {a} (Kind.ExportNamedDeclaration None) s above m n i l e f h =
    let c = calm_step s (row_other w (Kind.ExportNamedDeclaration None) a i tt refl) e f in lexical_same _ _ (dropped s) (not_block_none (dropped s) c.drops) (same_lexical c.alike)
lexical_inside w {a} (Kind.ExportNamedDeclaration (Some source)) s above m n i l e f h =
    let c = calm_step s (row_other w (Kind.ExportNamedDeclaration (Some source)) a i tt refl) e f in lexical_same [] [] (dropped s) (not_block_none (dropped s) c.drops) refl
lexical_inside w {a} Kind.ExportDefaultDeclaration s above m n i l e f h =
    let c = calm_step s (row_other w Kind.ExportDefaultDeclaration a i tt refl) e f in lexical_same _ _ (dropped s) (not_block_none (dropped s) c.drops) (ap or_default (same_lexical c.alike))
lexical_inside w {a} Kind.Statements s above m n i l e f h = h refl (list_below w Kind.Statements a i tt)
lexical_inside w {a} Kind.FunctionBody s above m n i l e f h = h refl (list_below w Kind.FunctionBody a i tt)
lexical_inside w {a} Kind.SwitchCase s above m n i l e f h = h refl (list_below w Kind.SwitchCase a i tt)
lexical_inside w Kind.BlockStatement s above m n i l e f h = lexical_same [] [] (out_of_block (dropped s)) (not_out (dropped s)) refl
lexical_inside w Kind.ForStatement s above m n i l e f h = lexical_same [] [] (out_of_block (dropped s)) (not_out (dropped s)) refl
lexical_inside w Kind.CatchClause s above m n i l e f h = lexical_same [] [] (out_of_block (dropped s)) (not_out (dropped s)) refl
lexical_inside w {a} Kind.ExpressionStatement s above m n i l e f h = lexical_same [] [] (dropped s) (not_block s Kind.ExpressionStatement l refl (row_expression i) f) refl
  where
    row_expression : InList w.row → (entered w Kind.ExpressionStatement a).row ≡ other
    row_expression (inl i) = ap (λ r. row_below r Kind.ExpressionStatement a) i
    row_expression (inr i) = ap (λ r. row_below r Kind.ExpressionStatement a) i
lexical_inside w {a} k s above m n i l e f h = lexical_same [] [] (dropped s) (not_block s k l refl (row_other w k a i tt refl) f) refl

pub lexical_step : {w : Around} {t u : Forest} (s : Step w t u) (above : Kind) → holds_well above t ≡ true → is_switch above ≡ false → InList w.row → is_formed t ≡ true → LexicalChange (dropped s) (lexical t) (lexical u)
lexical_step (leaves {r = r} g) above m n i f = lexical_back _ [] (drop_of g) (lexical r) (list_loses g i).lexical
lexical_step (empties h) above m n i f = refl
lexical_step (unbinds {source = source} {x = x} {r = r} g u h) above m n i f = dropped_first (unbound_decls source h) (fewer_itself x (lexical r))
lexical_step (states {how = how} {x = x} {k = k} {m = m} {l = l} {j = j} {i = y} {a = a} {r = r} g u h) above b n i f = lexical_back _ [] (declared_so how x) (lexical r) (declaration_lexical how x m l j (alone k y a) h)
lexical_step (inside {k = k} {a = a} {b = b} {r = r} s) above m n i f =
    lexical_back _ _ (outside k (dropped s)) (lexical r) (lexical_inside _ k s above (first_of_both (may_hold above k) (holds_well above r) m) n i (form_holds k a r f) (form_heads k a r f) (form_below k a r f) (λ q j. lexical_step s k (form_holds k a r f) q j (form_below k a r f)))
lexical_step (behind_node {k = k} {a = a} {r = r} {s = z} s) above m n i f =
    lexical_front (lexical r) (lexical z) (dropped s) (item_decls k a (lexical a)) (lexical_step s above (second_of_both (may_hold above k) (holds_well above r) m) n i (form_behind k a r f))
lexical_step (behind_absent s) above m n i f = lexical_step s above m n i f
