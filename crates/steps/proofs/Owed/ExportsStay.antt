-- What a module exports, and what it asks for, stays where a node comes to another.
use Rattle.std.proofs.Common.{◌≡◌, ◌∙◌, List, [], ◌∷◌, ◌++◌, Some, None, true, refl, sym, ap, ap₂, true≢false}
use Rattle.std.specs.Prelude.{codes}
use Rattle.js_syntax.specs.declared.node_kind.NodeKind.{NodeKind as Kind}
use Rattle.js_syntax.specs.declared.kind.FunctionKind.TheVariants as function_kind
use Rattle.js_syntax.specs.declared.value.ModuleName.{ModuleName}
use Rattle.js_syntax.specs.Node.{Note, Forest, nothing, node, nowhere}
use Rattle.js_meaning.specs.Value.{Text}
use Rattle.js_meaning.specs.Module.{requests_of, requests, Entry, entry_local, specifier_of, local_entries, foreign_of, foreign_entries, same_names, names_in, declared_in, declared_entries, default_local, list_below, entries_of, entries, star_of, stars}
use Rattle.js_meaning_near.specs.Near.{hoists_nothing, Row, fields, row_below}
use Rattle.js_meaning_near.specs.Purpose.{Purpose, Purposes, all, wanted_below}
use Rattle.js_meaning_near.specs.Local.{ReadsSame, Cut, node_cut, cut_behind, cut_behind_none, Local, at_place, behind_jump, leaves_list, in_below, in_rest, in_absent}
use Rattle.js_meaning_near.proofs.Local.{old_node, new_node, same_lexical}

-- ---- nodes that hoist nothing export nothing

declared_none : (k : Kind) (a : Forest) → hoists_nothing k ≡ true → declared_in k a ≡ []
declared_none (Kind.VariableDeclaration how) a h = absurd (true≢false (sym h))
declared_none (Kind.Function function_kind.Declaration pure) a h = absurd (true≢false (sym h))
declared_none (Kind.Class c) a h = absurd (true≢false (sym h))
declared_none (Kind.ImportDeclaration source) a h = absurd (true≢false (sym h))
declared_none (Kind.ExportNamedDeclaration source) a h = absurd (true≢false (sym h))
declared_none Kind.ExportDefaultDeclaration a h = absurd (true≢false (sym h))
declared_none Kind.FunctionBody a h = absurd (true≢false (sym h))
declared_none Kind.Statements a h = absurd (true≢false (sym h))
declared_none Kind.Cases a h = absurd (true≢false (sym h))
declared_none Kind.SwitchCase a h = absurd (true≢false (sym h))
declared_none k a h = refl

specifier_none : (k : Kind) (a : Forest) → hoists_nothing k ≡ true → specifier_of k a ≡ []
specifier_none (Kind.ExportSpecifier exported) a h = absurd (true≢false (sym h))
specifier_none k a h = refl

foreign_none : (source : Text) (k : Kind) → hoists_nothing k ≡ true → foreign_of source k ≡ []
foreign_none source (Kind.ForeignSpecifier name exported) h = absurd (true≢false (sym h))
foreign_none source k h = refl

list_behind : (k : Kind) (n : Note) (a r : Forest) → hoists_nothing k ≡ true → list_below (node k n a r) ≡ list_below r
list_behind Kind.Specifiers n a r h = absurd (true≢false (sym h))
list_behind k n a r h = refl

entries_none : (k : Kind) (a : Forest) → hoists_nothing k ≡ true → entries_of k a ≡ []
entries_none (Kind.ExportNamedDeclaration source) a h = absurd (true≢false (sym h))
entries_none Kind.ExportDefaultDeclaration a h = absurd (true≢false (sym h))
entries_none (Kind.ExportAllDeclaration name source) a h = absurd (true≢false (sym h))
entries_none k a h = refl

star_none : (k : Kind) → hoists_nothing k ≡ true → star_of k ≡ []
star_none (Kind.ExportAllDeclaration name source) h = absurd (true≢false (sym h))
star_none k h = refl

request_none : (k : Kind) → hoists_nothing k ≡ true → requests_of k ≡ []
request_none (Kind.ImportDeclaration source) h = absurd (true≢false (sym h))
request_none (Kind.ExportNamedDeclaration source) h = absurd (true≢false (sym h))
request_none (Kind.ExportAllDeclaration name source) h = absurd (true≢false (sym h))
request_none k h = refl

-- ---- specifiers

pub same_local : (exported : ModuleName) (k : Kind) (n : Note) (a b r s : Forest)
    → specifier_of (Kind.ExportSpecifier exported) (node k n a r) ≡ specifier_of (Kind.ExportSpecifier exported) (node k n b s)
same_local exported (Kind.ReferenceName x) n a b r s = refl
same_local exported k n a b r s = refl

specifier_stays : (k : Kind) (a b : Forest) → ReadsSame k a b → specifier_of k a ≡ specifier_of k b
specifier_stays (Kind.ExportSpecifier exported) a b q = q
specifier_stays k a b q = refl

cut_locals : {r s : Forest} → Cut r s → local_entries r ≡ local_entries s
cut_locals (node_cut {k = k} {a = a} {r = r} h d) = ap (λ v. v ++ local_entries r) (specifier_none k a h)
cut_locals (cut_behind {k = k} {a = a} c) = ap (λ v. specifier_of k a ++ v) (cut_locals c)
cut_locals (cut_behind_none c) = cut_locals c

locals_stay : {us : Purposes} {o : Row} {t u : Forest} → Local us o t u → local_entries t ≡ local_entries u
locals_stay (at_place {k = k} {l = l} {a = a} {b = b} {r = r} c p) = ap (λ v. v ++ local_entries r) (specifier_none k a (old_node c) ∙ sym (specifier_none l b (new_node c)))
locals_stay (behind_jump {k = k} {a = a} j c) = ap (λ v. specifier_of k a ++ v) (cut_locals c)
locals_stay (leaves_list {k = k} {a = a} {r = r} i d) = ap (λ v. v ++ local_entries r) (specifier_none k a i.hoists)
locals_stay (in_below {k = k} {a = a} {b = b} {r = r} q s) = ap (λ v. v ++ local_entries r) (specifier_stays k a b q)
locals_stay (in_rest {k = k} {a = a} s) = ap (λ v. specifier_of k a ++ v) (locals_stay s)
locals_stay (in_absent s) = locals_stay s

cut_foreign : {r s : Forest} (source : Text) → Cut r s → foreign_entries source r ≡ foreign_entries source s
cut_foreign source (node_cut {k = k} {r = r} h d) = ap (λ v. v ++ foreign_entries source r) (foreign_none source k h)
cut_foreign source (cut_behind {k = k} c) = ap (λ v. foreign_of source k ++ v) (cut_foreign source c)
cut_foreign source (cut_behind_none c) = cut_foreign source c

foreign_stay : {us : Purposes} {o : Row} (source : Text) {t u : Forest} → Local us o t u → foreign_entries source t ≡ foreign_entries source u
foreign_stay source (at_place {k = k} {l = l} {r = r} c p) = ap (λ v. v ++ foreign_entries source r) (foreign_none source k (old_node c) ∙ sym (foreign_none source l (new_node c)))
foreign_stay source (behind_jump {k = k} j c) = ap (λ v. foreign_of source k ++ v) (cut_foreign source c)
foreign_stay source (leaves_list {k = k} {r = r} i d) = ap (λ v. v ++ foreign_entries source r) (foreign_none source k i.hoists)
foreign_stay source (in_below q s) = refl
foreign_stay source (in_rest {k = k} s) = ap (λ v. foreign_of source k ++ v) (foreign_stay source s)
foreign_stay source (in_absent s) = foreign_stay source s

-- what is read off a list of specifiers
module _ (f : Forest → List Entry) (stays : (us : Purposes) (o : Row) (t u : Forest) → Local us o t u → f t ≡ f u) where
  below_stays : {us : Purposes} {o : Row} (k : Kind) (n : Note) (a b r : Forest) → Local us o a b → f (list_below (node k n a r)) ≡ f (list_below (node k n b r))
  below_stays Kind.Specifiers n a b r s = stays _ _ a b s
  below_stays k n a b r s = refl

  behind_stays : (k : Kind) (n : Note) (a r s : Forest) → f (list_below r) ≡ f (list_below s) → f (list_below (node k n a r)) ≡ f (list_below (node k n a s))
  behind_stays Kind.Specifiers n a r s e = refl
  behind_stays k n a r s e = e

  cut_list : {r s : Forest} → Cut r s → f (list_below r) ≡ f (list_below s)
  cut_list (node_cut {k = k} {n = n} {a = a} {r = r} h d) = ap f (list_behind k n a r h)
  cut_list (cut_behind {k = k} {n = n} {a = a} {r = r} {s = s} c) = behind_stays k n a r s (cut_list c)
  cut_list (cut_behind_none c) = cut_list c

  list_stays : {us : Purposes} {o : Row} {t u : Forest} → Local us o t u → f (list_below t) ≡ f (list_below u)
  list_stays (at_place {k = k} {l = l} {n = n} {m = m} {a = a} {b = b} {r = r} c p) = ap f (list_behind k n a r (old_node c) ∙ sym (list_behind l m b r (new_node c)))
  list_stays (behind_jump {k = k} {n = n} {a = a} {r = r} {s = s} j c) = behind_stays k n a r s (cut_list c)
  list_stays (leaves_list {k = k} {n = n} {a = a} {r = r} i d) = ap f (list_behind k n a r i.hoists)
  list_stays (in_below {k = k} {n = n} {a = a} {b = b} {r = r} q s) = below_stays k n a b r s
  list_stays (in_rest {k = k} {n = n} {a = a} {r = r} {s = s} o) = behind_stays k n a r s (list_stays o)
  list_stays (in_absent s) = list_stays s

-- ---- declarations that are exported

declared_below : (u : Purpose) (k : Kind) {a b : Forest} → ReadsSame k a b → Local (wanted_below u k) (row_below k) a b → declared_in k a ≡ declared_in k b
declared_below u (Kind.VariableDeclaration how) q s = q
declared_below u k q s = ap names_in (same_lexical {o = fields} (in_below {us = all u} {k = k} {n = nowhere} {r = nothing} q s))

declared_stay : {us : Purposes} {t u : Forest} → Local us fields t u → declared_entries t ≡ declared_entries u
declared_stay (at_place {k = k} {l = l} {a = a} {b = b} c p) = ap same_names (declared_none k a (old_node c) ∙ sym (declared_none l b (new_node c)))
declared_stay (in_below {k = k} q s) = ap same_names (declared_below _ k q s)
declared_stay (in_rest s) = refl
declared_stay (in_absent s) = refl

-- ---- items

item_stays : {us : Purposes} (k : Kind) {a b : Forest} → Local us (row_below k) a b → entries_of k a ≡ entries_of k b
item_stays (Kind.ExportNamedDeclaration None) s = ap₂ (λ v w. v ++ w) (declared_stay s) (list_stays local_entries (λ w p t u o. locals_stay o) s)
item_stays (Kind.ExportNamedDeclaration (Some source)) s = list_stays (foreign_entries source) (λ w p t u o. foreign_stay source o) s
item_stays Kind.ExportDefaultDeclaration s = ap (λ v. entry_local (codes "default") (default_local v) ∷ []) (same_lexical s)
item_stays (Kind.ExportAllDeclaration None source) s = refl
item_stays (Kind.ExportAllDeclaration (Some name) source) s = refl
item_stays k s = refl

cut_entries : {r s : Forest} → Cut r s → entries r ≡ entries s
cut_entries (node_cut {k = k} {a = a} {r = r} h d) = ap (λ v. v ++ entries r) (entries_none k a h)
cut_entries (cut_behind {k = k} {a = a} c) = ap (λ v. entries_of k a ++ v) (cut_entries c)
cut_entries (cut_behind_none c) = cut_entries c

pub entries_stay : {us : Purposes} {o : Row} {t u : Forest} → Local us o t u → entries t ≡ entries u
entries_stay (at_place {k = k} {l = l} {a = a} {b = b} {r = r} c p) = ap (λ v. v ++ entries r) (entries_none k a (old_node c) ∙ sym (entries_none l b (new_node c)))
entries_stay (behind_jump {k = k} {a = a} j c) = ap (λ v. entries_of k a ++ v) (cut_entries c)
entries_stay (leaves_list {k = k} {a = a} {r = r} i d) = ap (λ v. v ++ entries r) (entries_none k a i.hoists)
entries_stay (in_below {k = k} {r = r} q s) = ap (λ v. v ++ entries r) (item_stays k s)
entries_stay (in_rest {k = k} {a = a} s) = ap (λ v. entries_of k a ++ v) (entries_stay s)
entries_stay (in_absent s) = entries_stay s

cut_stars : {r s : Forest} → Cut r s → stars r ≡ stars s
cut_stars (node_cut {k = k} {r = r} h d) = ap (λ v. v ++ stars r) (star_none k h)
cut_stars (cut_behind {k = k} c) = ap (λ v. star_of k ++ v) (cut_stars c)
cut_stars (cut_behind_none c) = cut_stars c

pub stars_stay : {us : Purposes} {o : Row} {t u : Forest} → Local us o t u → stars t ≡ stars u
stars_stay (at_place {k = k} {l = l} {r = r} c p) = ap (λ v. v ++ stars r) (star_none k (old_node c) ∙ sym (star_none l (new_node c)))
stars_stay (behind_jump {k = k} j c) = ap (λ v. star_of k ++ v) (cut_stars c)
stars_stay (leaves_list {k = k} {r = r} i d) = ap (λ v. v ++ stars r) (star_none k i.hoists)
stars_stay (in_below q s) = refl
stars_stay (in_rest {k = k} s) = ap (λ v. star_of k ++ v) (stars_stay s)
stars_stay (in_absent s) = stars_stay s

cut_requests : {r s : Forest} → Cut r s → requests r ≡ requests s
cut_requests (node_cut {k = k} {r = r} h d) = ap (λ v. v ++ requests r) (request_none k h)
cut_requests (cut_behind {k = k} c) = ap (λ v. requests_of k ++ v) (cut_requests c)
cut_requests (cut_behind_none c) = cut_requests c

pub requests_stay : {us : Purposes} {o : Row} {t u : Forest} → Local us o t u → requests t ≡ requests u
requests_stay (at_place {k = k} {l = l} {r = r} c p) = ap (λ v. v ++ requests r) (request_none k (old_node c) ∙ sym (request_none l (new_node c)))
requests_stay (behind_jump {k = k} j c) = ap (λ v. requests_of k ++ v) (cut_requests c)
requests_stay (leaves_list {k = k} {r = r} i d) = ap (λ v. v ++ requests r) (request_none k i.hoists)
requests_stay (in_below q s) = refl
requests_stay (in_rest {k = k} s) = ap (λ v. requests_of k ++ v) (requests_stay s)
requests_stay (in_absent s) = requests_stay s
