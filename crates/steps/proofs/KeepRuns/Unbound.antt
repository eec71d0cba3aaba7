-- What is left of an import without one of its names.
use Rattle.std.proofs.Common.{◌≡◌, ◌++◌, ◌&&◌, List, [], true, false, true≢false, bytes_eq, refl, sym, ap}
use Rattle.js_syntax.specs.declared.node_kind.NodeKind.{NodeKind as Kind}
use Rattle.js_syntax.specs.Node.{Forest, Note, nothing, node}
use Rattle.js_meaning.specs.Value.{Text}
use Rattle.js_meaning.specs.Scope.{Decl, decl, vars_of, var_names, specifier_decls, import_decls}
use Rattle.js_meaning.specs.Module.{names_in}
use Rattle.js_meaning_near.specs.Near.{Row}
use Rattle.js_meaning_near.specs.Fit.{whole}
use Rattle.js_meaning_near.specs.Avoid.{Dropped, dropped_here, dropped_later, InPlace}
use Rattle.js_meaning_near.proofs.Avoid.{itself, fewer_itself, dropped_first, dropped_second}
use Rattle.steps.specs.Names.{is_among, refers_at, refers}
use Rattle.steps.specs.Steps.{binds_import, Unbinds, unbinds_here, unbinds_below, unbinds_behind, unbinds_behind_absent}
use Rattle.steps.specs.KeepRuns.Formed.{may_hold, holds_well, is_plain, still, calm_at, calm, heads, is_formed}
use Rattle.steps.proofs.KeepRuns.Calm.{form_holds, form_heads, form_below, form_behind}
use Rattle.js_syntax.proofs.Truth.{first_of_both, second_of_both, both, first_of_neither, second_of_neither, neither, first_of_either, second_of_either}

-- ---- its form

pub unbound_holds : {x : Text} {t u : Forest} (k : Kind) → Unbinds x t u → holds_well k t ≡ true → holds_well k u ≡ true
unbound_holds k (unbinds_here {k = l} {r = r} b) e = second_of_both (may_hold k l) (holds_well k r) e
unbound_holds k (unbinds_below h) e = e
unbound_holds k (unbinds_behind {k = l} {r = r} {s = s} h) e = both (may_hold k l) (holds_well k s) (first_of_both (may_hold k l) (holds_well k r) e) (unbound_holds k h (second_of_both (may_hold k l) (holds_well k r) e))
unbound_holds k (unbinds_behind_absent h) e = unbound_holds k h e

pub unbound_still : {x : Text} {t u : Forest} → Unbinds x t u → still t ≡ true → still u ≡ true
unbound_still {x} (unbinds_here {k = k} {m = m} {r = r} b) e = second_of_both (is_plain k && still (node (Kind.BindingName x) m nothing nothing)) (still r) e
unbound_still (unbinds_below {a = a} {b = b} {r = r} h) e = both (still b) (still r) (unbound_still h (first_of_both (still a) (still r) e)) (second_of_both (still a) (still r) e)
unbound_still (unbinds_behind {k = k} {a = a} {r = r} {s = s} h) e = both (is_plain k && still a) (still s) (first_of_both (is_plain k && still a) (still r) e) (unbound_still h (second_of_both (is_plain k && still a) (still r) e))
unbound_still (unbinds_behind_absent h) e = unbound_still h e

pub unbound_calm : {x : Text} {t u : Forest} → Unbinds x t u → calm t ≡ true → calm u ≡ true
unbound_calm {x} (unbinds_here {k = k} {m = m} {r = r} b) e = second_of_both (calm_at k (calm (node (Kind.BindingName x) m nothing nothing))) (calm r) e
unbound_calm (unbinds_below {a = a} {b = b} {r = r} h) e = both (calm b) (calm r) (unbound_calm h (first_of_both (calm a) (calm r) e)) (second_of_both (calm a) (calm r) e)
unbound_calm (unbinds_behind {k = k} {a = a} {r = r} {s = s} h) e = both (calm_at k (calm a)) (calm s) (first_of_both (calm_at k (calm a)) (calm r) e) (unbound_calm h (second_of_both (calm_at k (calm a)) (calm r) e))
unbound_calm (unbinds_behind_absent h) e = unbound_calm h e

pub unbound_formed : {x : Text} {t u : Forest} → Unbinds x t u → is_formed t ≡ true → is_formed u ≡ true
unbound_formed {x} (unbinds_here {k = k} {m = m} {r = r} b) e = form_behind k (node (Kind.BindingName x) m nothing nothing) r e
unbound_formed (unbinds_below {a = a} {b = b} {r = r} h) e =
    both (holds_well Kind.Specifiers b && heads Kind.Specifiers b) (is_formed b && is_formed r) (both (holds_well Kind.Specifiers b) (heads Kind.Specifiers b) (unbound_holds Kind.Specifiers h (form_holds Kind.Specifiers a r e)) refl)
    (both (is_formed b) (is_formed r) (unbound_formed h (form_below Kind.Specifiers a r e)) (form_behind Kind.Specifiers a r e))
unbound_formed (unbinds_behind {k = k} {a = a} {r = r} {s = s} h) e =
    both (holds_well k a && heads k a) (is_formed a && is_formed s) (both (holds_well k a) (heads k a) (form_holds k a r e) (form_heads k a r e)) (both (is_formed a) (is_formed s) (form_below k a r e) (unbound_formed h (form_behind k a r e)))
unbound_formed (unbinds_behind_absent h) e = unbound_formed h e

pub unbound_place : {x : Text} {t u : Forest} (p : Row) → Unbinds x t u → InPlace whole p t → InPlace whole p u
unbound_place p (unbinds_here b) i = i.1
unbound_place p (unbinds_below h) i = ((i.0.0, unbound_place _ h i.0.1), i.1)
unbound_place p (unbinds_behind h) i = (i.0, unbound_place p h i.1)
unbound_place p (unbinds_behind_absent h) i = unbound_place p h i

-- ---- its names

-- what goes was declared
pub dropped_among : {x : Text} {ds es : List Decl} → Dropped x ds es → is_among (names_in ds) x ≡ true
dropped_among {x} (dropped_here {ds = ds} f) = first_of_either (bytes_eq x x) (is_among (names_in ds) x) (itself x)
dropped_among {x} (dropped_later {d = decl y way} {ds = ds} l) = second_of_either (bytes_eq y x) (is_among (names_in ds) x) (dropped_among l)

one_less : (source x : Text) (k : Kind) (m : Note) (ds es : List Decl) → binds_import k ≡ true → Dropped x (specifier_decls source k (node (Kind.BindingName x) m nothing nothing) ds ++ es) es
one_less source x (Kind.ImportSpecifier name) m ds es b = dropped_here (fewer_itself x es)
one_less source x Kind.ImportDefaultSpecifier m ds es b = dropped_here (fewer_itself x es)
one_less source x Kind.ImportNamespaceSpecifier m ds es b = dropped_here (fewer_itself x es)
one_less source x k m ds es b = absurd (true≢false (sym b))

pub unbound_decls : {x : Text} {t u : Forest} (source : Text) → Unbinds x t u → Dropped x (import_decls source t) (import_decls source u)
unbound_decls {x} source (unbinds_here {k = k} {m = m} {r = r} b) = one_less source x k m (import_decls source (node (Kind.BindingName x) m nothing nothing)) (import_decls source r) b
unbound_decls {x} source (unbinds_below {r = r} h) = dropped_first (unbound_decls source h) (fewer_itself x (import_decls source r))
unbound_decls {x} source (unbinds_behind {k = k} {a = a} h) = dropped_second (fewer_itself x (specifier_decls source k a (import_decls source a))) (unbound_decls source h)
unbound_decls source (unbinds_behind_absent h) = unbound_decls source h

no_variable : (x : Text) (k : Kind) (m : Note) → binds_import k ≡ true → vars_of k (node (Kind.BindingName x) m nothing nothing) (var_names (node (Kind.BindingName x) m nothing nothing)) ≡ []
no_variable x (Kind.ImportSpecifier name) m b = refl
no_variable x Kind.ImportDefaultSpecifier m b = refl
no_variable x Kind.ImportNamespaceSpecifier m b = refl
no_variable x k m b = absurd (true≢false (sym b))

pub unbound_vars : {x : Text} {t u : Forest} → Unbinds x t u → var_names t ≡ var_names u
unbound_vars {x} (unbinds_here {k = k} {m = m} {r = r} b) = ap (λ l. l ++ var_names r) (no_variable x k m b)
unbound_vars (unbinds_below {r = r} h) = ap (λ l. l ++ var_names r) (unbound_vars h)
unbound_vars (unbinds_behind {k = k} {a = a} h) = ap (λ l. vars_of k a (var_names a) ++ l) (unbound_vars h)
unbound_vars (unbinds_behind_absent h) = unbound_vars h

pub unbound_refers : {x : Text} {t u : Forest} (y : Text) → Unbinds x t u → refers y t ≡ false → refers y u ≡ false
unbound_refers {x} y (unbinds_here {k = k} {m = m} {r = r} b) e = let a = node (Kind.BindingName x) m nothing nothing in second_of_neither (refers_at y k a (refers y a)) (refers y r) e
unbound_refers y (unbinds_below {a = a} {b = b} {r = r} h) e = neither (refers y b) (refers y r) (unbound_refers y h (first_of_neither (refers y a) (refers y r) e)) (second_of_neither (refers y a) (refers y r) e)
unbound_refers y (unbinds_behind {k = k} {a = a} {r = r} {s = s} h) e =
    neither (refers_at y k a (refers y a)) (refers y s) (first_of_neither (refers_at y k a (refers y a)) (refers y r) e) (unbound_refers y h (second_of_neither (refers_at y k a (refers y a)) (refers y r) e))
unbound_refers y (unbinds_behind_absent h) e = unbound_refers y h e
