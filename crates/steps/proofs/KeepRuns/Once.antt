-- What a step asks of a name whose declaration goes makes the step tidy.
use Rattle.std.proofs.Common.{◌≡◌, ◌⊎◌, inl, inr, List, Bool, true, false, true≢false, not, ◌||◌, if◌then◌else◌, bytes_eq, refl, sym, ap, ap₂, subst}
use Rattle.js_syntax.specs.declared.node_kind.NodeKind.{NodeKind as Kind}
use Rattle.js_syntax.specs.Node.{Forest, nothing, node, Note, alone}
use Rattle.js_syntax.specs.Facts.{is_core}
use Rattle.js_syntax.specs.declared.kind.VariableKind.{VariableKind}
use Rattle.js_syntax.specs.declared.kind.VariableKind.TheVariants as variable
use Rattle.js_meaning.specs.Value.{Text, this_name}
use Rattle.js_meaning.specs.Scope.{Decl, first_of, bound_names, lexical, default_name, function_decls}
use Rattle.js_meaning.specs.Module.{names_in}
use Rattle.js_meaning_near.specs.Near as near
use Rattle.js_meaning_near.specs.Near.{fields}
use Rattle.js_meaning_near.specs.Fit.{Part, whole, others, part_of}
use Rattle.js_meaning_near.specs.Avoid.{declares, HasCells, InPlace, NodeInPlace}
use Rattle.steps.specs.Names.{is_among, refers_at, refers}
use Rattle.steps.specs.Steps.{Around, entered, Goes, empty_statement, unused_function, unused_declarator, unused_declaration, Unbinds, unbinds_here, unbinds_below, unbinds_behind, unbinds_behind_absent, Step, leaves, empties, unbinds, states, inside, behind_node, behind_absent, all_core}
use Rattle.steps.specs.KeepRuns.Formed.{may_hold, holds_well, heads, is_free_name, is_formed, still}
use Rattle.steps.specs.KeepRuns.Drop.{Drop, no_drop, of_block, of_function, declared_so, out_of_block, outside, drop_of, dropped}
use Rattle.steps.specs.KeepRuns.Tidy.{Clear, TidyAt, Tidy}
use Rattle.steps.specs.KeepRuns.Once.{binds, OnceIn, Once}
use Rattle.steps.proofs.KeepRuns.Calm.{form_holds, form_heads, form_below, form_behind, first_stays, calm_step, still_stays}
use Rattle.steps.proofs.KeepRuns.Unbound.{unbound_refers}
use Rattle.steps.proofs.KeepRuns.Lists.{LexicalChange, lexical_step}
use Rattle.steps.proofs.KeepRuns.Names.{block_free, variables_free}
use Rattle.steps.proofs.KeepRuns.Scopes.{if_core, for_first}
use Rattle.steps.proofs.KeepRuns.Refine.{OthersOk}
use Rattle.steps.proofs.KeepRuns.Avoids.{IsFree, row_avoids, refers_behind}
use Rattle.js_syntax.proofs.Truth.{not_true, first_of_both, second_of_both, first_of_neither, second_of_neither, neither}

-- that the declaration of this name goes

abbrev pub Drops : Text → Drop → Type 0
Drops x d = (d ≡ of_block x) ⊎ (d ≡ of_function x)

drops_none : (x : Text) → Drops x no_drop → ⊥
drops_none x (inl e) = cc
drops_none x (inr e) = cc

drops_out : (x : Text) (d : Drop) → Drops x (out_of_block d) → d ≡ of_function x
drops_out x no_drop e = absurd (drops_none x e)
drops_out x (of_block y) e = absurd (drops_none x e)
drops_out x (of_function y) (inl e) = absurd (cc)
drops_out x (of_function y) (inr e) = e

drops_inside : (x : Text) (k : Kind) (d : Drop) → Drops x (outside k d) → Drops x d
drops_inside x (Kind.Program source) d e = absurd (drops_none x e)
drops_inside x (Kind.Function f pure) d e = absurd (drops_none x e)
drops_inside x Kind.BlockStatement d e = inr (drops_out x d e)
drops_inside x Kind.Cases d e = inr (drops_out x d e)
drops_inside x Kind.ForStatement d e = inr (drops_out x d e)
drops_inside x Kind.CatchClause d e = inr (drops_out x d e)
drops_inside x k d e = e

abbrev name_of : Text → Drop → Text
name_of z (of_block x) = x
name_of z (of_function x) = x
name_of z d = z

same_name : (how : VariableKind) (x y : Text) → Drops y (declared_so how x) → x ≡ y
same_name variable.Var x y (inl e) = ap (name_of x) e
same_name variable.Var x y (inr e) = ap (name_of x) e
same_name variable.Let x y (inl e) = ap (name_of x) e
same_name variable.Let x y (inr e) = ap (name_of x) e
same_name variable.Const x y (inl e) = ap (name_of x) e
same_name variable.Const x y (inr e) = ap (name_of x) e

-- it is a name that programs may declare

free_name : (x : Text) → is_free_name x ≡ true → IsFree x
free_name x e = record { this = not_true _ (first_of_both (not (bytes_eq this_name x)) (not (bytes_eq default_name x)) e); «default» = not_true _ (second_of_both (not (bytes_eq this_name x)) (not (bytes_eq default_name x)) e) }

named_free : (x : Text) (m : Note) (v : Forest) → is_formed (node (Kind.BindingName x) m nothing v) ≡ true → IsFree x
named_free x m v f = free_name x (form_heads (Kind.BindingName x) nothing v f)

declared_free : (x : Text) (m l j : Note) (v : Forest) → is_formed (alone Kind.Declarators m (alone Kind.VariableDeclarator l (node (Kind.BindingName x) j nothing v))) ≡ true → IsFree x
declared_free x m l j v f =
    let n : Forest = node (Kind.BindingName x) j nothing v in
    named_free x j v (form_below Kind.VariableDeclarator n nothing (form_below Kind.Declarators (alone Kind.VariableDeclarator l n) nothing f))

leaves_free : {w : Around} {k : Kind} {b : Forest} (g : Goes w k b) (x : Text) → Drops x (drop_of g) → is_formed b ≡ true → IsFree x
leaves_free (empty_statement h) x e f = absurd (drops_none x e)
leaves_free (unused_function {x = y} {m = m} {a = a} h u) x e f = subst IsFree (same_name variable.Let y x e) (named_free y m a f)
leaves_free (unused_declarator {how = how} {x = y} {m = m} {v = v} h u i) x e f = subst IsFree (same_name how y x e) (named_free y m v f)
leaves_free (unused_declaration {how = how} {x = y} {m = m} {l = l} {j = j} {v = v} h u i) x e f = subst IsFree (same_name how y x e) (declared_free y m l j v f)

unbound_free : {x : Text} {t u : Forest} → Unbinds x t u → is_formed t ≡ true → IsFree x
unbound_free {x} (unbinds_here {k = k} {m = m} {r = r} b) f = named_free x m nothing (form_below k (node (Kind.BindingName x) m nothing nothing) r f)
unbound_free (unbinds_below {a = a} {r = r} h) f = unbound_free h (form_below Kind.Specifiers a r f)
unbound_free (unbinds_behind {k = k} {a = a} {r = r} h) f = unbound_free h (form_behind k a r f)
unbound_free (unbinds_behind_absent h) f = unbound_free h f

pub name_free : {w : Around} {t u : Forest} (s : Step w t u) (x : Text) → Drops x (dropped s) → is_formed t ≡ true → IsFree x
name_free (leaves {k = k} {a = a} {r = r} g) x e f = leaves_free g x e (form_below k a r f)
name_free (empties h) x e f = absurd (drops_none x e)
name_free (unbinds {source = source} {x = y} {a = a} {r = r} i u h) x e f = subst IsFree (same_name variable.Let y x e) (unbound_free h (form_below (Kind.ImportDeclaration source) a r f))
name_free (states {how = how} {x = y} {k = k} {m = m} {l = l} {j = j} {i = i} {a = a} {r = r} g u h) x e f =
    let all = alone Kind.Declarators m (alone Kind.VariableDeclarator l (node (Kind.BindingName y) j nothing (alone k i a))) in
    subst IsFree (same_name how y x e) (declared_free y m l j (alone k i a) (form_below (Kind.VariableDeclaration how) all r f))
name_free (inside {k = k} {a = a} {r = r} s) x e f = name_free s x (drops_inside x k (dropped s) e) (form_below k a r f)
name_free (behind_node {k = k} {a = a} {r = r} s) x e f = name_free s x e (form_behind k a r f)
name_free (behind_absent s) x e f = name_free s x e f

-- nothing refers to it after the step either

hidden_same : (b c i j : Bool) → b ≡ c → (if b then false else i) ≡ false → (i ≡ false → j ≡ false) → (if c then false else j) ≡ false
hidden_same true true i j e f h = refl
hidden_same false false i j e f h = h f
hidden_same true false i j e f h = absurd (true≢false e)
hidden_same false true i j e f h = refl

either_same : (b i j : Bool) → (b || i) ≡ false → (i ≡ false → j ≡ false) → (b || j) ≡ false
either_same true i j e h = e
either_same false i j e h = h e

lexical_stays : (ds es : List Decl) (d : Drop) (x : Text) → d ≡ of_function x → LexicalChange d ds es → is_among (names_in ds) x ≡ is_among (names_in es) x
lexical_stays ds es d x e c = ap (λ l. is_among (names_in l) x) (subst (λ d. LexicalChange d ds es) e c)

drops_not : {d : Drop} (x : Text) → d ≡ no_drop → Drops x d → ⊥
drops_not x e (inl g) = cc
drops_not x e (inr g) = cc

refers_inside : (w : Around) {a b : Forest} (k : Kind) (s : Step (entered w k a) a b) (x : Text) → Drops x (outside k (dropped s)) → holds_well k a ≡ true → heads k a ≡ true → is_formed a ≡ true → refers_at x k a (refers x a) ≡ false → (refers x a ≡ false → refers x b ≡ false) → refers_at x k b (refers x b) ≡ false
refers_inside w (Kind.Program source) s x g m e f i h = absurd (drops_none x g)
refers_inside w (Kind.Function how pure) s x g m e f i h = absurd (drops_none x g)
refers_inside w {a} {b} (Kind.ReferenceName y) s x g m e f i h = either_same (bytes_eq y x) (refers x a) (refers x b) i h
refers_inside w {a} {b} (Kind.TargetName y) s x g m e f i h = either_same (bytes_eq y x) (refers x a) (refers x b) i h
refers_inside w (Kind.ExportNamedDeclaration source) s x g m e f i h = absurd (drops_not x (calm_step s refl e f).drops g)
refers_inside w Kind.ExportDefaultDeclaration s x g m e f i h = absurd (drops_not x (calm_step s refl e f).drops g)
refers_inside w {a} {b} Kind.BlockStatement s x g m e f i h = hidden_same _ _ (refers x a) (refers x b) (lexical_stays (lexical a) (lexical b) (dropped s) x (drops_out x (dropped s) g) (lexical_step s Kind.BlockStatement m refl (inr refl) f)) i h
refers_inside w {a} {b} Kind.Cases s x g m e f i h = hidden_same _ _ (refers x a) (refers x b) (lexical_stays (lexical a) (lexical b) (dropped s) x (drops_out x (dropped s) g) (lexical_step s Kind.Cases m refl (inr refl) f)) i h
refers_inside w {a} {b} Kind.ForStatement s x g m e f i h = hidden_same _ _ (refers x a) (refers x b) (ap (λ l. is_among (names_in l) x) (for_first s refl e f)) i h
refers_inside w {a} {b} Kind.CatchClause s x g m e f i h = hidden_same _ _ (refers x a) (refers x b) (ap (λ l. is_among (bound_names l) x) (first_stays s refl e).first) i h
refers_inside w k s x g m e f i h = h i

refers_rest : (x : Text) (k : Kind) (n : Note) (a r : Forest) → refers x (node k n a r) ≡ false → refers x r ≡ false
refers_rest x k n a r e = second_of_neither (refers_at x k a (refers x a)) (refers x r) e

pub refers_step : {w : Around} {t u : Forest} (s : Step w t u) (x : Text) → Drops x (dropped s) → is_formed t ≡ true → refers x t ≡ false → refers x u ≡ false
refers_step (leaves {k = k} {n = n} {a = a} {r = r} h) x g f e = refers_rest x k n a r e
refers_step (empties h) x g f e = absurd (drops_none x g)
refers_step (unbinds {a = a} {b = b} {r = r} i u h) x g f e = neither (refers x b) (refers x r) (unbound_refers x h (first_of_neither (refers x a) (refers x r) e)) (second_of_neither (refers x a) (refers x r) e)
refers_step (states {k = k} {i = i} {a = a} {r = r} z u h) x g f e =
    let v = refers x (alone k i a) in
    let all = first_of_neither ((v || false) || false) (refers x r) e in
    neither v (refers x r) (first_of_neither v false (first_of_neither (v || false) false all)) (second_of_neither ((v || false) || false) (refers x r) e)
refers_step (inside {w = w} {k = k} {a = a} {b = b} {r = r} s) x g f e =
    let i = refers_inside w k s x g (form_holds k a r f) (form_heads k a r f) (form_below k a r f) (first_of_neither (refers_at x k a (refers x a)) (refers x r) e) (λ j. refers_step s x (drops_inside x k (dropped s) g) (form_below k a r f) j) in
    ap₂ (λ (p q : Bool). p || q) i (second_of_neither (refers_at x k a (refers x a)) (refers x r) e)
refers_step (behind_node {k = k} {a = a} {r = r} s) x g f e =
    ap₂ (λ (p q : Bool). p || q) (first_of_neither (refers_at x k a (refers x a)) (refers x r) e) (refers_step s x g (form_behind k a r f) (second_of_neither (refers_at x k a (refers x a)) (refers x r) e))
refers_step (behind_absent s) x g f e = refers_step s x g f e

-- a step is tidy

pub clear_row : {w : Around} {a b : Forest} (s : Step w a b) (x : Text) (k : Kind) (q : Part) (p : near.Row) (ds : List Decl) → Drops x (dropped s) → is_formed a ≡ true → holds_well k b ≡ true → is_formed b ≡ true → refers x a ≡ false → ((refers x b ≡ false) → refers x (part_of q b) ≡ false)
    → HasCells x ds → (declares ds x ≡ false → binds x (part_of q b) ≡ false) → InPlace q p b → Clear x ds q p b
clear_row {b = b} s x k q p ds g f h i e m c n j = (c, row_avoids (not (declares ds x)) x q p b k h i (name_free s x g f) (m (refers_step s x g f e)) (λ t. n (not_true (declares ds x) t)) j)

tidy_at : (w : Around) {a b : Forest} (k : Kind) (s : Step (entered w k a) a b) (above : Kind) (p : near.Row) (d : Drop) → dropped s ≡ d → may_hold above k ≡ true → is_formed a ≡ true → holds_well k b ≡ true → is_formed b ≡ true → NodeInPlace p k (λ q r. InPlace q r b) → OnceIn k b d → TidyAt k b d
tidy_at w (Kind.Program source) s above p d e m f h i j o = absurd (true≢false (sym m))
tidy_at w {a} {b} (Kind.Function how pure) s above p (of_block x) e m f h i j o =
    ((name_free s x (inl e) f).this, clear_row s x (Kind.Function how pure) others fields (function_decls how b) (inl e) f h i (block_free s x e) (refers_behind x b) o.0 o.1 j)
tidy_at w {a} {b} (Kind.Function how pure) s above p (of_function x) e m f h i j o =
    ((name_free s x (inr e) f).this, clear_row s x (Kind.Function how pure) others fields (function_decls how b) (inr e) f h i (variables_free s x e) (refers_behind x b) o.0 o.1 j)
tidy_at w {a} {b} Kind.BlockStatement s above p (of_block x) e m f h i j o =
    clear_row s x Kind.BlockStatement whole fields (lexical b) (inl e) f h i (block_free s x e) (λ t. t) o.0 o.1 j.1
tidy_at w {a} {b} Kind.Cases s above p (of_block x) e m f h i j o =
    clear_row s x Kind.Cases whole fields (lexical b) (inl e) f h i (block_free s x e) (λ t. t) o.0 o.1 j.1
tidy_at w k s above p d e m f h i j o = tt

inside_tidy : (w : Around) {a b : Forest} (k : Kind) (s : Step (entered w k a) a b) (p : near.Row) → heads k a ≡ true → NodeInPlace p k (λ q r. InPlace q r b) → ((q : Part) (r : near.Row) → OthersOk q (entered w k a).row a → InPlace q r b → Tidy s) → Tidy s
inside_tidy w {a} (Kind.Function how pure) s p e j h = h others fields (refl, first_of_both (still (first_of a)) _ e) j
inside_tidy w k s p e j h = h whole (near.row_below k) tt j.1

core_kind : (k : Kind) (n : Note) (a r : Forest) → all_core (node k n a r) ≡ true → is_core k ≡ true
core_kind k n a r e = first_of_both (is_core k) _ e

core_below : (k : Kind) (n : Note) (a r : Forest) → all_core (node k n a r) ≡ true → all_core a ≡ true
core_below k n a r e = first_of_both (all_core a) (all_core r) (second_of_both (is_core k) _ e)

core_behind : (k : Kind) (n : Note) (a r : Forest) → all_core (node k n a r) ≡ true → all_core r ≡ true
core_behind k n a r e = second_of_both (all_core a) (all_core r) (second_of_both (is_core k) _ e)

pub once_tidy : {w : Around} {t u : Forest} (q : Part) (p : near.Row) (s : Step w t u) (above : Kind) → holds_well above t ≡ true → is_formed t ≡ true → is_formed u ≡ true → all_core u ≡ true → OthersOk q w.row t → InPlace q p u → Once s → Tidy s
once_tidy q p (leaves h) above m f g c i j o = tt
once_tidy q p (empties h) above m f g c i j o = tt
once_tidy q p (unbinds i u h) above m f g c l j o = tt
once_tidy q p (states i u h) above m f g c l j o = tt
once_tidy others p (inside {n = n} s) above m f g c i j o = absurd (still_stays (inside {n = n} {r = nothing} s) i.0 i.1)
once_tidy whole p (inside {w = w} {k = k} {n = n} {a = a} {b = b} {r = r} s) above m f g c i j o =
    let place : NodeInPlace p k (λ q r. InPlace q r b) = if_core (is_core k) (core_kind k n b r c) j.0 in (
      tidy_at w k s above p (dropped s) refl (first_of_both (may_hold above k) (holds_well above r) m) (form_below k a r f) (form_holds k b r g) (form_below k b r g) place o.0,
      inside_tidy w k s p (form_heads k a r f) place (λ q p i j. once_tidy q p s k (form_holds k a r f) (form_below k a r f) (form_below k b r g) (core_below k n b r c) i j o.1),
    )
once_tidy others p (behind_node {k = k} {n = n} {a = a} {r = r} {s = z} s) above m f g c i j o = once_tidy whole p s above (second_of_both (may_hold above k) (holds_well above r) m) (form_behind k a r f) (form_behind k a z g) (core_behind k n a z c) tt j o
once_tidy whole p (behind_node {k = k} {n = n} {a = a} {r = r} {s = z} s) above m f g c i j o = once_tidy whole p s above (second_of_both (may_hold above k) (holds_well above r) m) (form_behind k a r f) (form_behind k a z g) (core_behind k n a z c) tt j.1 o
once_tidy others p (behind_absent s) above m f g c i j o = once_tidy whole p s above m f g c tt j o
once_tidy whole p (behind_absent s) above m f g c i j o = once_tidy whole p s above m f g c tt j o
