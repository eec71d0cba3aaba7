-- The names of scopes, one symbol after another.
use Rattle.std.proofs.Common.{◌≡◌, ◌∙◌, ◌<◌, ◌≤◌, ◌+◌, ◌&&◌, ◌||◌, ℕ, suc, List, [], ◌∷◌, ◌++◌, Bool, true, false, not, Some, String, if◌then◌else◌, map, length, get_or, take, drop, arith, refl, sym, ap, subst}
use Rattle.std.specs.Bool.{nat_eq}
use Rattle.std.specs.Global.{Global}
use Rattle.std.specs.Str.{bytes_eq}
use Rattle.std.specs.String.{string_bytes, string_eq}
use Rattle.std.proofs.lemmas.Bool.Decides.{Decides-eqb}
use Rattle.std.proofs.lemmas.Slice.Eq.{bytes_eq-Decides}
use Rattle.std.proofs.lemmas.List.{take-append-drop, length-take-le, length-map, take_all}
use Rattle.indexmap.specs.IndexMap.{insert_entry}
use Rattle.js_tree.proofs.Rows.{front_of}
use Rattle.js_syntax.specs.declared.scalar.SymbolId.{SymbolId}
use Rattle.scope_rules.specs.Site.{ScopeSite, BindingSite}
use Rattle.scope_rules.specs.Binding.{Binding, declared_by}
use Rattle.scope_rules.specs.Table.{same_binding, is_among, new_behind, symbols_of, Named, Scope, is_hidden, names_from, scopes_from}
use Rattle.scope_names.proofs.Firsts.{same_itself}
use Rattle.scope_table.specs.Group.{at_number}
use Rattle.scope_table.specs.Named.{named, blank_scope, put_name, with_name, scopes_named}
use Rattle.scope_table.proofs.Growing.{both, last_step, take_next}
use Rattle.js_syntax.proofs.Truth.{first_of_neither, second_of_neither, neither, second_of_either, first_of_both, second_of_both, not_true, or_associates}

-- ---- a name that is put in

pub put_entry : (es : List (String Global × SymbolId)) (k : String Global) (v : SymbolId) → map named (insert_entry string_eq es k v) ≡ put_name (string_bytes k) v.0 (map named es)
put_entry [] k v = refl
put_entry (e ∷ es) k v =
    elim (bytes_eq (string_bytes k) (string_bytes e.0)) as
    (λ b. map named (if b then (e.0, v) ∷ es else e ∷ insert_entry string_eq es k v) ≡ (if b then record { name = string_bytes e.0; symbol = v.0 } ∷ map named es else named e ∷ put_name (string_bytes k) v.0 (map named es)))
    [ true ↦ refl | false ↦ ap (λ ns. named e ∷ ns) (put_entry es k v) ]

abbrev name_among : List ℕ → List Named → Bool
name_among x [] = false
name_among x (n ∷ ns) = bytes_eq x n.name || name_among x ns

and_false : (a : Bool) → a && false ≡ false
and_false true = refl
and_false false = refl

put_push : (x : List ℕ) (symbol : ℕ) (ns : List Named) → name_among x ns ≡ false → put_name x symbol ns ≡ ns ++ record { name = x; symbol = symbol } ∷ []
put_push x symbol [] h = refl
put_push x symbol (n ∷ ns) h =
    ap (λ c. if c then record { name = n.name; symbol = symbol } ∷ ns else n ∷ put_name x symbol ns) (first_of_neither (bytes_eq x n.name) (name_among x ns) h)
    ∙ ap (λ ms. n ∷ ms) (put_push x symbol ns (second_of_neither (bytes_eq x n.name) (name_among x ns) h))

-- ---- one more symbol

names_push : (all : List Binding) (scope n m : ℕ) (some : List Binding) (b : Binding) → m ≡ n + length some
    → names_from all scope n (some ++ b ∷ []) ≡ (if nat_eq b.scope scope && not (is_hidden all b) then names_from all scope n some ++ record { name = b.name; symbol = m } ∷ [] else names_from all scope n some)
names_push all scope n m [] b is =
    let same : n ≡ m = omega arith in
    ap (λ j. if nat_eq b.scope scope && not (is_hidden all b) then record { name = b.name; symbol = j } ∷ [] else []) same
names_push all scope n m (x ∷ xs) b is =
    ap (λ ns. if nat_eq x.scope scope && not (is_hidden all x) then record { name = x.name; symbol = n } ∷ ns else ns) (names_push all scope (suc n) m xs b (omega arith))
    ∙ last_step (nat_eq x.scope scope && not (is_hidden all x)) (nat_eq b.scope scope && not (is_hidden all b)) (record { name = x.name; symbol = n }) (record { name = b.name; symbol = m }) (names_from all scope (suc n) xs)

scope_step : (all some : List Binding) (b : Binding) (k scope : ℕ) (s : ScopeSite) (here : Bool) → nat_eq b.scope scope ≡ here → is_hidden all b ≡ false → k ≡ length some
    → (here ≡ true → name_among b.name (names_from all scope 0 some) ≡ false)
    → let with_all : List Named → Scope = λ ns. record { parent = s.parent; flags = s.flags; bindings = ns } in
    (if here then with_name b.name k (with_all (names_from all scope 0 some)) else with_all (names_from all scope 0 some)) ≡ with_all (names_from all scope 0 (some ++ b ∷ []))
scope_step all some b k scope s true here shown is fresh =
    ap (λ ns. record { parent = s.parent; flags = s.flags; bindings = ns })
    (put_push b.name k (names_from all scope 0 some) (fresh refl)
    ∙ sym (names_push all scope 0 k some b (omega arith)
    ∙ ap (λ c. if c && not (is_hidden all b) then names_from all scope 0 some ++ record { name = b.name; symbol = k } ∷ [] else names_from all scope 0 some) here
    ∙ ap (λ c. if not c then names_from all scope 0 some ++ record { name = b.name; symbol = k } ∷ [] else names_from all scope 0 some) shown))
scope_step all some b k scope s false here shown is fresh =
    ap (λ ns. record { parent = s.parent; flags = s.flags; bindings = ns })
    (sym (names_push all scope 0 k some b (omega arith) ∙ ap (λ c. if c && not (is_hidden all b) then names_from all scope 0 some ++ record { name = b.name; symbol = k } ∷ [] else names_from all scope 0 some) here))

shown_more : (all some : List Binding) (b : Binding) (k next : ℕ) (sites : List ScopeSite) → is_hidden all b ≡ false → k ≡ length some
    → ((scope : ℕ) → nat_eq b.scope scope ≡ true → name_among b.name (names_from all scope 0 some) ≡ false)
    → at_number (with_name b.name k) (Some b.scope) next (scopes_named all some next sites) ≡ scopes_named all (some ++ b ∷ []) next sites
shown_more all some b k next [] shown is fresh = refl
shown_more all some b k next (s ∷ ss) shown is fresh =
    both (scope_step all some b k next s (nat_eq b.scope next) refl shown is (fresh next)) (shown_more all some b k (suc next) ss shown is fresh)

hidden_more : (all some : List Binding) (b : Binding) (next : ℕ) (sites : List ScopeSite) → is_hidden all b ≡ true → scopes_named all some next sites ≡ scopes_named all (some ++ b ∷ []) next sites
hidden_more all some b next [] hidden = refl
hidden_more all some b next (s ∷ ss) hidden =
    both
    (ap (λ ns. record { parent = s.parent; flags = s.flags; bindings = ns })
    (sym (names_push all next 0 (length some) some b (omega arith)
    ∙ ap (λ c. if nat_eq b.scope next && not c then names_from all next 0 some ++ record { name = b.name; symbol = length some } ∷ [] else names_from all next 0 some) hidden
    ∙ ap (λ c. if c then names_from all next 0 some ++ record { name = b.name; symbol = length some } ∷ [] else names_from all next 0 some) (and_false (nat_eq b.scope next)))))
    (hidden_more all some b (suc next) ss hidden)

-- ---- a name that is shown is the first of its scope

same_from : (a b : Binding) → a.scope ≡ b.scope → a.is_own ≡ b.is_own → a.name ≡ b.name → same_binding a b ≡ true
same_from a b scopes owns names =
    let path : a ≡ b = λ i. record { scope = scopes i; is_own = owns i; name = names i } in
    sym (ap (same_binding a) path) ∙ same_itself a

-- two symbols of a scope with one name: one of them is hidden, or they are the same
one_is_hidden : (all : List Binding) (a b : Binding) (own_a own_b : Bool) → a.is_own ≡ own_a → b.is_own ≡ own_b → a.scope ≡ b.scope → a.name ≡ b.name
    → same_binding a b ≡ false → is_hidden all a ≡ false → is_hidden all b ≡ false → is_among a all ≡ true → is_among b all ≡ true → true ≡ false
one_is_hidden all a b true true is_a is_b scopes names apart shown_a shown_b in_a in_b = sym (same_from a b scopes (is_a ∙ sym is_b) names) ∙ apart
one_is_hidden all a b false false is_a is_b scopes names apart shown_a shown_b in_a in_b = sym (same_from a b scopes (is_a ∙ sym is_b) names) ∙ apart
one_is_hidden all a b true false is_a is_b scopes names apart shown_a shown_b in_a in_b =
    let body : record { scope = a.scope; is_own = false; name = a.name } ≡ b = λ i. record { scope = scopes i; is_own = sym is_b i; name = names i } in
    sym in_b ∙ sym (ap (λ q. is_among q all) body) ∙ sym (ap (λ o. o && is_among (record { scope = a.scope; is_own = false; name = a.name }) all) is_a) ∙ shown_a
one_is_hidden all a b false true is_a is_b scopes names apart shown_a shown_b in_a in_b =
    let body : record { scope = b.scope; is_own = false; name = b.name } ≡ a = λ i. record { scope = sym scopes i; is_own = sym is_a i; name = sym names i } in
    sym in_a ∙ sym (ap (λ q. is_among q all) body) ∙ sym (ap (λ o. o && is_among (record { scope = b.scope; is_own = false; name = b.name }) all) is_b) ∙ shown_b

is_false : (b : Bool) → (b ≡ true → true ≡ false) → b ≡ false
is_false true h = h refl
is_false false h = refl

fresh : (all some : List Binding) (b : Binding) (scope n : ℕ) → is_among b some ≡ false → is_hidden all b ≡ false → is_among b all ≡ true → ((q : Binding) → is_among q some ≡ true → is_among q all ≡ true)
    → nat_eq b.scope scope ≡ true → name_among b.name (names_from all scope n some) ≡ false
fresh all [] b scope n new shown in_b within here = refl
fresh all (a ∷ rest) b scope n new shown in_b within here =
    let apart : same_binding a b ≡ false = first_of_neither (same_binding a b) (is_among b rest) new in
    let others : name_among b.name (names_from all scope (suc n) rest) ≡ false =
    fresh all rest b scope (suc n) (second_of_neither (same_binding a b) (is_among b rest) new) shown in_b (λ q h. within q (second_of_either (same_binding a q) (is_among q rest) h)) here in
    let in_a : is_among a all ≡ true = within a (ap (λ x. x || is_among a rest) (same_itself a)) in
    let differs : nat_eq a.scope scope && not (is_hidden all a) ≡ true → bytes_eq b.name a.name ≡ false = λ t.
    is_false (bytes_eq b.name a.name) (λ e.
    one_is_hidden all a b a.is_own b.is_own refl refl ((Decides-eqb a.scope scope).0 (first_of_both (nat_eq a.scope scope) (not (is_hidden all a)) t) ∙ sym ((Decides-eqb b.scope scope).0 here)) (sym ((bytes_eq-Decides b.name a.name).0 e))
    apart (not_true (is_hidden all a) (second_of_both (nat_eq a.scope scope) (not (is_hidden all a)) t)) shown in_a in_b) in
    elim (nat_eq a.scope scope && not (is_hidden all a)) as
    (λ c. (c ≡ true → bytes_eq b.name a.name ≡ false) → name_among b.name (if c then record { name = a.name; symbol = n } ∷ names_from all scope (suc n) rest else names_from all scope (suc n) rest) ≡ false)
    [ true ↦ λ d. neither (bytes_eq b.name a.name) (name_among b.name (names_from all scope (suc n) rest)) (d refl) others | false ↦ λ d. others ] differs

-- ---- symbols differ

abbrev are_new : (seen : List Binding) → List Binding → Type 0
are_new seen [] = Unit {0}
are_new seen (x ∷ xs) = (is_among x seen ≡ false) × are_new (x ∷ seen) xs

new_are_new : (seen bs : List Binding) → are_new seen (new_behind seen bs)
new_are_new seen [] = tt
new_are_new seen (b ∷ bs) =
    elim (is_among b seen) as (λ c. is_among b seen ≡ c → are_new seen (if c then new_behind seen bs else b ∷ new_behind (b ∷ seen) bs))
    [ true ↦ λ e. new_are_new seen bs | false ↦ λ e. (e, new_are_new (b ∷ seen) bs) ] refl

new_apart : (seen xs : List Binding) (b : Binding) (ys : List Binding) → are_new seen (xs ++ b ∷ ys) → (is_among b seen ≡ false) × (is_among b xs ≡ false)
new_apart seen [] b ys h = (h.0, refl)
new_apart seen (x ∷ xs) b ys h =
    let r = new_apart (x ∷ seen) xs b ys h.1 in
    (second_of_neither (same_binding x b) (is_among b seen) r.0, neither (same_binding x b) (is_among b xs) (first_of_neither (same_binding x b) (is_among b seen) r.0) r.1)

among_append : (q : Binding) (xs ys : List Binding) → is_among q (xs ++ ys) ≡ is_among q xs || is_among q ys
among_append q [] ys = refl
among_append q (x ∷ xs) ys = ap (λ c. same_binding x q || c) (among_append q xs ys) ∙ or_associates (same_binding x q) (is_among q xs) (is_among q ys)

-- ---- the step

pub none_named : (all : List Binding) (next : ℕ) (sites : List ScopeSite) → map blank_scope sites ≡ scopes_named all [] next sites
none_named all next [] = refl
none_named all next (s ∷ ss) = ap (λ xs. blank_scope s ∷ xs) (none_named all (suc next) ss)

pub all_named : (all : List Binding) (next : ℕ) (sites : List ScopeSite) → scopes_named all all next sites ≡ scopes_from all next sites
all_named all next [] = refl
all_named all next (s ∷ ss) = ap (λ xs. record { parent = s.parent; flags = s.flags; bindings = names_from all next 0 all } ∷ xs) (all_named all (suc next) ss)

module _ (bs : List BindingSite) (sites : List ScopeSite) (i : ℕ) (b : Binding) (inside : i < length (symbols_of bs)) (at : b ≡ get_or (symbols_of bs) i b) where
  parted : symbols_of bs ≡ take i (symbols_of bs) ++ b ∷ drop (i + 1) (symbols_of bs)
  parted = sym (take-append-drop i (symbols_of bs)) ∙ ap (λ ys. take i (symbols_of bs) ++ ys) (front_of (symbols_of bs) i b inside at)

  is_new : is_among b (take i (symbols_of bs)) ≡ false
  is_new = (new_apart [] (take i (symbols_of bs)) b (drop (i + 1) (symbols_of bs)) (subst (are_new []) parted (new_are_new [] _))).1

  is_there : is_among b (symbols_of bs) ≡ true
  is_there =
      ap (is_among b) parted ∙ among_append b (take i (symbols_of bs)) (b ∷ drop (i + 1) (symbols_of bs))
      ∙ second_of_either (is_among b (take i (symbols_of bs))) (is_among b (b ∷ drop (i + 1) (symbols_of bs))) (ap (λ x. x || is_among b (drop (i + 1) (symbols_of bs))) (same_itself b))

  stays : (q : Binding) → is_among q (take i (symbols_of bs)) ≡ true → is_among q (symbols_of bs) ≡ true
  stays q h = ap (is_among q) (sym (take-append-drop i (symbols_of bs))) ∙ among_append q (take i (symbols_of bs)) (drop i (symbols_of bs)) ∙ ap (λ x. x || is_among q (drop i (symbols_of bs))) h

  by_hidden : (before after : List Scope) (hidden : Bool) → is_hidden (symbols_of bs) b ≡ hidden → after ≡ (if hidden then before else at_number (with_name b.name i) (Some b.scope) 0 before)
      → before ≡ scopes_named (symbols_of bs) (take i (symbols_of bs)) 0 sites → after ≡ scopes_named (symbols_of bs) (take i (symbols_of bs) ++ b ∷ []) 0 sites
  by_hidden before after true is now so_far = now ∙ so_far ∙ hidden_more (symbols_of bs) (take i (symbols_of bs)) b 0 sites is
  by_hidden before after false is now so_far =
      now ∙ ap (at_number (with_name b.name i) (Some b.scope) 0) so_far
      ∙ shown_more (symbols_of bs) (take i (symbols_of bs)) b i 0 sites is (sym (length-take-le i (symbols_of bs) (omega arith)))
      (λ scope here. fresh (symbols_of bs) (take i (symbols_of bs)) b scope 0 is_new is is_there stays here)

  pub named_more : (before after : List Scope) → after ≡ (if is_hidden (symbols_of bs) b then before else at_number (with_name b.name i) (Some b.scope) 0 before)
      → before ≡ scopes_named (symbols_of bs) (take i (symbols_of bs)) 0 sites → after ≡ scopes_named (symbols_of bs) (take (i + 1) (symbols_of bs)) 0 sites
  named_more before after now so_far =
      by_hidden before after (is_hidden (symbols_of bs) b) refl now so_far ∙ ap (λ some. scopes_named (symbols_of bs) some 0 sites) (sym (take_next (symbols_of bs) i b inside at))

pub listed_more : (bs : List BindingSite) (sites : List ScopeSite) (symbols : List Binding) (i : ℕ) (b : Binding) (before after : List Scope) → symbols ≡ symbols_of bs → i < length symbols → b ≡ get_or symbols i b
    → after ≡ (if is_hidden (symbols_of bs) b then before else at_number (with_name b.name i) (Some b.scope) 0 before)
    → before ≡ scopes_named (symbols_of bs) (take i symbols) 0 sites → after ≡ scopes_named (symbols_of bs) (take (i + 1) symbols) 0 sites
listed_more bs sites symbols i b before after are inside at now so_far =
    subst (λ xs. i < length xs → b ≡ get_or xs i b → before ≡ scopes_named (symbols_of bs) (take i xs) 0 sites → after ≡ scopes_named (symbols_of bs) (take (i + 1) xs) 0 sites)
    (sym are) (λ w a f. named_more bs sites i b w a before after now f) inside at so_far

pub listed_all : (bs : List BindingSite) (sites : List ScopeSite) (symbols : List Binding) (i : ℕ) (scopes : List Scope) → symbols ≡ symbols_of bs → length symbols ≤ i
    → scopes ≡ scopes_named (symbols_of bs) (take i symbols) 0 sites → scopes ≡ scopes_from (symbols_of bs) 0 sites
listed_all bs sites symbols i scopes are past so_far =
    so_far ∙ ap (λ xs. scopes_named (symbols_of bs) xs 0 sites) (take_all i symbols past ∙ are) ∙ all_named (symbols_of bs) 0 sites

-- there are no more symbols than declarations
few_new : (seen bs : List Binding) → length (new_behind seen bs) ≤ length bs
few_new seen [] = omega arith
few_new seen (b ∷ bs) =
    elim (is_among b seen) as (λ c. length (if c then new_behind seen bs else b ∷ new_behind (b ∷ seen) bs) ≤ suc (length bs))
    [ true ↦ omega (arith, few_new seen bs) | false ↦ omega (arith, few_new (b ∷ seen) bs) ]

pub few_symbols : (bs : List BindingSite) → length (symbols_of bs) ≤ length bs
few_symbols bs = omega (arith, few_new [] (map declared_by bs), length-map bs declared_by)
