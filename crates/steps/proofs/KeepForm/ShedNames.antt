-- What is left of a row declares and exports nothing else than the row did, and still declares what is exported.
use Rattle.std.proofs.Common.{◌≡◌, ℕ, ◌+◌, List, [], ◌∷◌, ◌++◌, Bool, true, false, not, ◌&&◌, ◌||◌, append-nil, refl, sym, subst, ap, ◌∙◌}
use Rattle.std.specs.Str.{bytes_eq}
use Rattle.std.proofs.lemmas.Slice.Eq.{bytes_eq-Decides}
use Rattle.js_tree.specs.Count.{one_each, node_count}
use Rattle.js_syntax.specs.declared.node_kind.NodeKind.{NodeKind as Kind}
use Rattle.js_syntax.specs.declared.node_kind.NodeKind.TheVariants.{Program as program, BindingName as binding_name, EmptyStatement as empty_statement, ExpressionStatement as expression_statement, IfStatement as if_statement, VariableDeclaration as variable_declaration}
use Rattle.js_syntax.specs.Node.{Note, Forest, nothing, node, absent, alone, joined}
use Rattle.form_rules.specs.declared.sought.Sort.{Sort}
use Rattle.form_rules.specs.declared.sought.Sought.{Sought}
use Rattle.form_rules.specs.declared.sought.Sought.TheVariants.{Nothing as none_sought, Names as names, Bound as bound, Scope as scope, Variables as variables, FunctionScope as function_scope, CatchScope as catch_scope}
use Rattle.js_syntax.specs.declared.scalar.SourceType.{SourceType}
use Rattle.form_rules.specs.Scope.{Declared, declared, declared_here, sought_below}
use Rattle.form_rules.specs.Rules.{Exported, is_exported, is_declared}
use Rattle.steps.specs.KeepForm.Sheds.{Around, exports_none, sought_inside, exported_below, Sheds, ends, keeps_absent, keeps, leaves, empties, empties_idle, leaves_names, states, becomes}
use Rattle.steps.specs.VarNames.Texts.{Named, named, is_of_catch}
use Rattle.steps.specs.KeepForm.Part.{a_var, declares_one, StandsFor, RebuildsTo, Replaces, by_part, by_parts, by_test, without_alternate}
use Rattle.steps.proofs.KeepForm.Asked.{old_unasked, no_name_here, sought_alike, no_catch_below, no_catch_inside, not_asked}
use Rattle.steps.proofs.KeepForm.Fewer.{Fewer, none, both, more, fewest, behind_all, beside, SameName}
use Rattle.js_syntax.proofs.Truth.{second_of_either}

-- ---- what is declared

pub none_declared : (p : ℕ) (t : Forest) → declared none_sought p t ≡ []
none_declared p nothing = refl
none_declared p (absent r) = none_declared p r
none_declared p (node k n a r) = ap (λ ds. ds ++ declared none_sought (p + node_count (alone k n a)) r) (none_declared (p + one_each k) a) ∙ none_declared (p + node_count (alone k n a)) r

-- an empty statement declares nothing
pub declares_nothing : (s : Sought) (p : ℕ) (m : Note) (t : Forest) → declared s p (node empty_statement m nothing t) ≡ declared s (p + node_count (alone empty_statement m nothing)) t
declares_nothing none_sought p m t = refl
declares_nothing (names f) p m t = refl
declares_nothing (bound f) p m t = refl
declares_nothing (scope f) p m t = refl
declares_nothing variables p m t = refl
declares_nothing function_scope p m t = refl
declares_nothing (catch_scope f) p m t = refl

-- a statement of an expression declares nothing
nothing_of_expression : (s : Sought) (p : ℕ) (n : Note) (a r : Forest) → declared s p (node expression_statement n a r) ≡ declared s (p + node_count (alone expression_statement n a)) r
nothing_of_expression none_sought p n a r = rw (none_declared (p + one_each expression_statement) a) refl
nothing_of_expression (names f) p n a r = rw (none_declared (p + one_each expression_statement) a) refl
nothing_of_expression (bound f) p n a r = rw (none_declared (p + one_each expression_statement) a) refl
nothing_of_expression (scope f) p n a r = rw (none_declared (p + one_each expression_statement) a) refl
nothing_of_expression variables p n a r = rw (none_declared (p + one_each expression_statement) a) refl
nothing_of_expression function_scope p n a r = rw (none_declared (p + one_each expression_statement) a) refl
nothing_of_expression (catch_scope f) p n a r = rw (none_declared (p + one_each expression_statement) a) refl

of_statement : (s : Sought) (p : ℕ) (n : Note) (a : Forest) → declared_here s p expression_statement ++ declared (sought_below s expression_statement) (p + one_each expression_statement) a ≡ []
of_statement s p n a = sym (append-nil (declared_here s p expression_statement ++ declared (sought_below s expression_statement) (p + one_each expression_statement) a)) ∙ nothing_of_expression s p n a nothing

-- a name that stands here is the same, wherever here is
same_here : (s : Sought) (p q : ℕ) (k : Kind) → Fewer Declared SameName (declared_here s p k) (declared_here s q k)
same_here (names f) p q (binding_name x) = both (refl, refl) none
same_here (bound f) p q (binding_name x) = both (refl, refl) none
same_here (catch_scope f) p q (binding_name x) = both (refl, refl) none
same_here s p q k = none

same_anywhere : (s : Sought) (p q : ℕ) (t : Forest) → Fewer Declared SameName (declared s p t) (declared s q t)
same_anywhere s p q nothing = none
same_anywhere s p q (absent r) = same_anywhere s p q r
same_anywhere s p q (node k n a r) =
    beside (beside (same_here s p q k) (same_anywhere (sought_below s k) (p + one_each k) (q + one_each k) a)) (same_anywhere s (p + node_count (alone k n a)) (q + node_count (alone k n a)) r)

-- in front of others, and amid others
in_front : {xs ys : List Declared} (zs : List Declared) → Fewer Declared SameName xs ys → Fewer Declared SameName xs (ys ++ zs)
in_front zs none = fewest zs
in_front zs (both s f) = both s (in_front zs f)
in_front zs (more f) = more (in_front zs f)

amid : (s : Sought) (q : ℕ) (before rest : Forest) {xs : List Declared} → ((i : ℕ) → Fewer Declared SameName xs (declared s i rest)) → Fewer Declared SameName xs (declared s q (joined before rest))
amid s q nothing rest f = f q
amid s q (absent r) rest f = amid s q r rest f
amid s q (node k n a r) rest f = behind_all (declared_here s q k ++ declared (sought_below s k) (q + one_each k) a) (amid s (q + node_count (alone k n a)) r rest f)

-- a part declares what it declared
part_declared : (s : Sought) (k l : Kind) (a b : Forest) (p q : ℕ) → is_of_catch s ≡ false → StandsFor k a l b
    → Fewer Declared SameName (declared_here s p l ++ declared (sought_below s l) (p + one_each l) b) (declared (sought_below s k) q a)
part_declared s k l a b p q calm part =
    rw (no_name_here s p l part.unasked, sought_alike s k l calm part.gives part.unasked part.alike)
    (subst (λ t. Fewer Declared SameName (declared (sought_below (sought_below s k) l) (p + one_each l) b) (declared (sought_below s k) q t)) (sym part.is_part)
    (amid (sought_below s k) q part.before (node l part.note b part.after)
    (λ i. in_front (declared (sought_below s k) (i + node_count (alone l part.note b)) part.after)
    (behind_all (declared_here (sought_below s k) i l) (same_anywhere (sought_below (sought_below s k) l) (p + one_each l) (i + one_each l) b)))))

-- what is rebuilt declares nothing
rebuilt_declared : (s : Sought) (k l : Kind) (n m : Note) (a b : Forest) (p : ℕ) → RebuildsTo k n a l m b → declared_here s p l ++ declared (sought_below s l) (p + one_each l) b ≡ []
rebuilt_declared s k l n m a b p made = sym (append-nil (declared_here s p l ++ declared (sought_below s l) (p + one_each l) b)) ∙ made.still_none s p

-- an alternate that is empty declares nothing
module _ (z : Sought) (t l : Kind) (i j o : Note) (d b : Forest) (p q : ℕ) where
  first_two : {xs ys : List Declared} → Fewer Declared SameName xs ys
      → Fewer Declared SameName ((declared_here z p t ++ declared (sought_below z t) (p + one_each t) d) ++ ((declared_here z (p + node_count (alone t i d)) l ++ declared (sought_below z l) (p + node_count (alone t i d) + one_each l) b) ++ xs))
      ((declared_here z q t ++ declared (sought_below z t) (q + one_each t) d) ++ ((declared_here z (q + node_count (alone t i d)) l ++ declared (sought_below z l) (q + node_count (alone t i d) + one_each l) b) ++ ys))
  first_two f =
      beside (beside (same_here z p q t) (same_anywhere (sought_below z t) (p + one_each t) (q + one_each t) d))
      (beside (beside (same_here z (p + node_count (alone t i d)) (q + node_count (alone t i d)) l) (same_anywhere (sought_below z l) (p + node_count (alone t i d) + one_each l) (q + node_count (alone t i d) + one_each l) b)) f)

  alternate_declared : Fewer Declared SameName (declared z p (node t i d (node l j b (absent nothing)))) (declared z q (node t i d (node l j b (node empty_statement o nothing nothing))))
  alternate_declared = first_two (fewest (declared z (q + node_count (alone t i d) + node_count (alone l j b)) (node empty_statement o nothing nothing)))

  alternate_named : Fewer Declared SameName (declared z p (node t i d (node l j b (node empty_statement o nothing nothing)))) (declared z q (node t i d (node l j b (absent nothing))))
  alternate_named = first_two (rw (declares_nothing z (p + node_count (alone t i d) + node_count (alone l j b)) o nothing) none)

replaced_declared : (s : Sought) (p q : ℕ) {k l : Kind} {n m : Note} {a b : Forest} → is_of_catch s ≡ false → Replaces k n a l m b
    → Fewer Declared SameName (declared_here s p l ++ declared (sought_below s l) (p + one_each l) b) (declared (sought_below s k) q a)
replaced_declared s p q {k = k} {l = l} {a = a} {b = b} calm (by_part part) = part_declared s k l a b p q calm part
replaced_declared s p q {k = k} {l = l} {n = n} {m = m} {a = a} {b = b} calm (by_parts made) = rw (rebuilt_declared s k l n m a b p made) (fewest (declared (sought_below s k) q a))
replaced_declared s p q {k = k} {m = m} calm (by_test {l = l} {i = i} {b = b} {after = after} tested unasked is silent) =
    rw (of_statement s p m (node l i b nothing)) (fewest (declared (sought_below s k) q (node l i b after)))
replaced_declared s p q calm (without_alternate {t = t} {l = l} {i = i} {j = j} {o = o} {d = d} {b = b}) =
    rw (no_name_here s p if_statement refl) (alternate_declared (sought_below s if_statement) t l i j o d b (p + one_each if_statement) q)

-- the same names, declared in the same way
first_name : List Named → List ℕ
first_name [] = []
first_name (d ∷ ds) = d.name

first_sort : Sort → List Named → Sort
first_sort o [] = o
first_sort o (d ∷ ds) = d.sort

later_named : List Named → List Named
later_named [] = []
later_named (d ∷ ds) = ds

fewer_named : (xs ys : List Declared) → named xs ≡ named ys → Fewer Declared SameName xs ys
unfolding first_name first_sort later_named
fewer_named [] [] e = none
fewer_named [] (y ∷ ys) e = absurd cc
fewer_named (x ∷ xs) [] e = absurd cc
fewer_named (x ∷ xs) (y ∷ ys) e = both (ap first_name e, ap (first_sort x.sort) e) (fewer_named xs ys (ap later_named e))

pub fewer_declared : {w : Around} {t u : Forest} (s : Sought) (p q : ℕ) → (is_of_catch s ≡ true → w.is_asked ≡ true) → Sheds w t u → Fewer Declared SameName (declared s p u) (declared s q t)
fewer_declared s p q catch ends = none
fewer_declared s p q catch (keeps_absent h) = fewer_declared s p q catch h
fewer_declared s p q catch (keeps {k = k} {n = n} {m = m} {a = a} {b = b} h below rest) =
    beside (beside (same_here s p q k) (fewer_declared (sought_below s k) (p + one_each k) (q + one_each k) (λ e. absurd (cc (e, no_catch_below s k))) below))
    (fewer_declared s (p + node_count (alone k m b)) (q + node_count (alone k n a)) catch rest)
fewer_declared s p q catch (leaves {k = k} {n = n} {a = a} h e d rest) =
    behind_all (declared_here s q k ++ declared (sought_below s k) (q + one_each k) a) (fewer_declared s p (q + node_count (alone k n a)) catch rest)
fewer_declared s p q catch (empties {n = n} {m = m} {a = a} {s = r} h rest) =
    rw (declares_nothing s p m r)
    (behind_all (declared_here s q expression_statement ++ declared (sought_below s expression_statement) (q + one_each expression_statement) a)
    (fewer_declared s (p + node_count (alone empty_statement m nothing)) (q + node_count (alone expression_statement n a)) catch rest))
fewer_declared s p q catch (empties_idle {k = k} {n = n} {m = m} {a = a} {s = r} idle loops h unnamed rest) =
    rw (declares_nothing s p m r)
    (behind_all (declared_here s q k ++ declared (sought_below s k) (q + one_each k) a)
    (fewer_declared s (p + node_count (alone empty_statement m nothing)) (q + node_count (alone k n a)) catch rest))
fewer_declared s p q catch (states {how = how} {x = x} {k = k} {n = n} {m = m} {l = l} {j = j} {i = i} {o = o} {b = b} {s = r} listed unasked out rest) =
    let value = alone k i b in
    let all = declares_one m l j x value in
    rw (nothing_of_expression s p o value r)
    (behind_all (declared_here s q (variable_declaration how) ++ declared (sought_below s (variable_declaration how)) (q + one_each (variable_declaration how)) all)
    (fewer_declared s (p + node_count (alone expression_statement o value)) (q + node_count (alone (variable_declaration how) n all)) catch rest))
fewer_declared s p q catch (leaves_names {w = w} {k = k} {n = n} {m = m} {a = a} {b = b} listed unasked stay rest) =
    beside
    (fewer_named (declared_here s p a_var ++ declared (sought_below s a_var) (p + one_each a_var) b) (declared_here s q k ++ declared (sought_below s k) (q + one_each k) a) (sym (stay.declares s q p (no_catch (is_of_catch s) refl))))
    (fewer_declared s (p + node_count (alone a_var m b)) (q + node_count (alone k n a)) catch rest)
  where
    no_catch : (x : Bool) → is_of_catch s ≡ x → is_of_catch s ≡ false
    no_catch true is = absurd (cc (catch is, unasked))
    no_catch false is = is
fewer_declared s p q catch (becomes {w = w} {k = k} {l = l} {n = n} {m = m} {a = a} {b = b} part may bare rest) =
    beside (behind_all (declared_here s q k) (replaced_declared s p (q + one_each k) (no_catch (is_of_catch s) refl) part))
    (fewer_declared s (p + node_count (alone l m b)) (q + node_count (alone k n a)) catch rest)
  where
    no_catch : (x : Bool) → is_of_catch s ≡ x → is_of_catch s ≡ false
    no_catch true is = absurd (cc (catch is, not_asked w k may))
    no_catch false is = is

-- ---- whether a name is declared

or_assoc : (a b c : Bool) → ((a || b) || c) ≡ (a || (b || c))
or_assoc true b c = refl
or_assoc false b c = refl

pub one_of_both : (a b c d : Bool) → (a ≡ true → c ≡ true) → (b ≡ true → d ≡ true) → (a || b) ≡ true → (c || d) ≡ true
one_of_both true b c d f g h = rw (f refl) refl
one_of_both false b c d f g h = second_of_either c d (g h)

-- the third, where none of the first two is
the_third : (a b c : Bool) → (a || (b || false)) ≡ false → (a || (b || c)) ≡ true → c ≡ true
the_third true b c g h = absurd cc
the_third false true c g h = absurd cc
the_third false false c g h = h

declared_append : (x : List ℕ) (ds es : List Declared) → is_declared x (ds ++ es) ≡ is_declared x ds || is_declared x es
declared_append x [] es = refl
declared_append x (d ∷ ds) es = ap (λ b. bytes_eq d.name x || b) (declared_append x ds es) ∙ sym (or_assoc (bytes_eq d.name x) (is_declared x ds) (is_declared x es))

declared_node : (x : List ℕ) (s : Sought) (p : ℕ) (k : Kind) (n : Note) (a r : Forest)
    → is_declared x (declared s p (node k n a r)) ≡ is_declared x (declared_here s p k) || (is_declared x (declared (sought_below s k) (p + one_each k) a) || is_declared x (declared s (p + node_count (alone k n a)) r))
declared_node x s p k n a r =
    declared_append x (declared_here s p k ++ declared (sought_below s k) (p + one_each k) a) (declared s (p + node_count (alone k n a)) r)
    ∙ ap (λ b. b || is_declared x (declared s (p + node_count (alone k n a)) r)) (declared_append x (declared_here s p k) (declared (sought_below s k) (p + one_each k) a))
    ∙ or_assoc (is_declared x (declared_here s p k)) (is_declared x (declared (sought_below s k) (p + one_each k) a)) (is_declared x (declared s (p + node_count (alone k n a)) r))

declared_in_more : (x : List ℕ) {ds es : List Declared} → Fewer Declared SameName ds es → is_declared x ds ≡ true → is_declared x es ≡ true
declared_in_more x none h = h
declared_in_more x (both {x = d} {y = e} {xs = ds} {ys = es} s f) h = one_of_both (bytes_eq d.name x) (is_declared x ds) (bytes_eq e.name x) (is_declared x es) (λ g. rw (sym s.0) g) (declared_in_more x f) h
declared_in_more x (more {y = e} {ys = es} f) h = second_of_either (bytes_eq e.name x) (is_declared x es) (declared_in_more x f h)

not_declared : (x : List ℕ) (es : List Exported) (ds : List Declared) → exports_none es ds ≡ true → is_exported x es ≡ true → is_declared x ds ≡ false
not_declared x es [] h e = refl
not_declared x es (d ∷ ds) h e = first (bytes_eq d.name x) (is_exported d.name es) (λ same. ap (λ y. is_exported y es) ((bytes_eq-Decides d.name x).0 same) ∙ e) h (λ rest. not_declared x es ds rest e)
  where
    first : (b c : Bool) → (b ≡ true → c ≡ true) → (not c && exports_none es ds) ≡ true → (exports_none es ds ≡ true → is_declared x ds ≡ false) → (b || is_declared x ds) ≡ false
    first b true told h f = absurd cc
    first true false told h f = absurd (cc (told refl))
    first false false told h f = f h

no_program_sought : (s : Sought) (source : SourceType) → sought_below s (program source) ≡ none_sought
no_program_sought none_sought source = refl
no_program_sought (names f) source = refl
no_program_sought (bound f) source = refl
no_program_sought (scope f) source = refl
no_program_sought variables source = refl
no_program_sought function_scope source = refl
no_program_sought (catch_scope f) source = refl

-- below a program in a program nothing is sought
kept_below : (x : List ℕ) (es : List Exported) (s : Sought) (k : Kind) (p q : ℕ) (a b : Forest) → is_exported x es ≡ true
    → (is_exported x (exported_below es k a) ≡ true → is_declared x (declared (sought_inside s k) q a) ≡ true → is_declared x (declared (sought_inside s k) p b) ≡ true)
    → is_declared x (declared (sought_below s k) q a) ≡ true → is_declared x (declared (sought_below s k) p b) ≡ true
kept_below x es s (program source) p q a b e f h = absurd (cc (sym h ∙ ap (λ t. is_declared x (declared t q a)) (no_program_sought s source) ∙ ap (is_declared x) (none_declared q a)))
kept_below x es s k p q a b e f h = f e h

no_first : (xs ys : List Declared) → xs ++ ys ≡ [] → xs ≡ []
no_first [] ys h = refl
no_first (x ∷ xs) ys h = absurd cc

no_second : (xs ys : List Declared) → xs ++ ys ≡ [] → ys ≡ []
no_second [] ys h = h
no_second (x ∷ xs) ys h = absurd cc

-- behind nodes that declare nothing the same is declared
skipped : (s : Sought) (q : ℕ) (before rest : Forest) → declared s q before ≡ [] → (i : ℕ) × (declared s q (joined before rest) ≡ declared s i rest)
skipped s q nothing rest h = (q, refl)
skipped s q (absent r) rest h = skipped s q r rest h
skipped s q (node k n a r) rest h =
    let own = declared_here s q k ++ declared (sought_below s k) (q + one_each k) a in
    let further = skipped s (q + node_count (alone k n a)) r rest (no_second own (declared s (q + node_count (alone k n a)) r) h) in
    (further.0, ap (λ ds. ds ++ declared s (q + node_count (alone k n a)) (joined r rest)) (no_first own (declared s (q + node_count (alone k n a)) r) h) ∙ further.1)

-- of those below a node it is a part that declares, if it may stand for the node
still_by_part : (x : List ℕ) (s : Sought) (k l : Kind) (a b : Forest) (p q : ℕ) → is_of_catch s ≡ false → StandsFor k a l b → is_declared x (declared (sought_below s k) q a) ≡ true
    → is_declared x (declared (sought_below s l) p b) ≡ true
still_by_part x s k l a b p q calm part h =
    let inner = sought_below s k in
    let there = skipped inner q part.before (node l part.note b part.after) (part.none_before s q) in
    let at = there.0 in
    let known = sym (declared_node x inner at l part.note b part.after) ∙ sym (ap (is_declared x) (ap (declared inner q) part.is_part ∙ there.1)) ∙ h in
    ap (λ z. is_declared x (declared z p b)) (sought_alike s k l calm part.gives part.unasked part.alike)
    ∙ declared_in_more x (same_anywhere (sought_below inner l) (at + one_each l) p b)
    (amid_none (is_declared x (declared_here inner at l)) (is_declared x (declared (sought_below inner l) (at + one_each l) b)) (is_declared x (declared inner (at + node_count (alone l part.note b)) part.after))
    (ap (is_declared x) (no_name_here inner at l part.unasked)) (ap (is_declared x) (part.none_after s (at + node_count (alone l part.note b)))) known)
  where
    amid_none : (a b c : Bool) → a ≡ false → c ≡ false → (a || (b || c)) ≡ true → b ≡ true
    amid_none true b c f g h = absurd cc
    amid_none false true c f g h = refl
    amid_none false false c f g h = absurd (cc (g, h))

-- below what declares nothing nothing is declared
below_nothing : (s : Sought) (k : Kind) (n : Note) (a : Forest) → declared s 0 (alone k n a) ≡ [] → declared (sought_below s k) (0 + one_each k) a ≡ []
below_nothing s k n a silent =
    no_second (declared_here s 0 k) (declared (sought_below s k) (0 + one_each k) a) (sym (append-nil (declared_here s 0 k ++ declared (sought_below s k) (0 + one_each k) a)) ∙ silent)

-- below what is rebuilt nothing was declared
nothing_below : (s : Sought) (k l : Kind) (n m : Note) (a b : Forest) → RebuildsTo k n a l m b → declared (sought_below s k) (0 + one_each k) a ≡ []
nothing_below s k l n m a b made = below_nothing s k n a (made.none s 0)

still_replaced : (x : List ℕ) (s : Sought) (p q : ℕ) {k l : Kind} {n m : Note} {a b : Forest} → is_of_catch s ≡ false → Replaces k n a l m b → is_declared x (declared (sought_below s k) q a) ≡ true
    → is_declared x (declared (sought_below s l) p b) ≡ true
still_replaced x s p q {k = k} {l = l} {a = a} {b = b} calm (by_part part) h = still_by_part x s k l a b p q calm part h
still_replaced x s p q {k = k} {l = l} {n = n} {m = m} {a = a} {b = b} calm (by_parts made) h =
    let there = declared_in_more x (same_anywhere (sought_below s k) q (0 + one_each k) a) h in
    absurd (cc (there, ap (is_declared x) (nothing_below s k l n m a b made)))
still_replaced x s p q {k = k} {n = n} calm (by_test {l = l} {i = i} {b = b} {after = after} tested unasked is silent) h =
    let below = node l i b after in
    let there = declared_in_more x (same_anywhere (sought_below s k) q (0 + one_each k) below) h in
    absurd (cc (there, ap (is_declared x) (below_nothing s k n below (silent s 0))))
still_replaced x s p q calm (without_alternate {t = t} {l = l} {i = i} {j = j} {o = o} {d = d} {b = b}) h =
    declared_in_more x (alternate_named (sought_below s if_statement) t l i j o d b q p) h

-- behind what declares no exported name it is declared as before
module _ (x : List ℕ) (q : ℕ) (w : Around) (k : Kind) (n : Note) (a r : Forest) (out : exports_none w.exported (declared w.sought 0 (alone k n a)) ≡ true) (e : is_exported x w.exported ≡ true) where
  still_out : (b : Bool) → is_declared x (declared w.sought q (alone k n a)) ≡ b → is_declared x (declared w.sought q (alone k n a)) ≡ false
  still_out true is = absurd (cc (sym (not_declared x w.exported (declared w.sought 0 (alone k n a)) out e) ∙ declared_in_more x (same_anywhere w.sought q 0 (alone k n a)) is))
  still_out false is = is

  behind_it : is_declared x (declared w.sought q (node k n a r)) ≡ true → is_declared x (declared w.sought (q + node_count (alone k n a)) r) ≡ true
  behind_it h =
      the_third (is_declared x (declared_here w.sought q k)) (is_declared x (declared (sought_below w.sought k) (q + one_each k) a)) (is_declared x (declared w.sought (q + node_count (alone k n a)) r))
      (sym (declared_node x w.sought q k n a nothing) ∙ still_out (is_declared x (declared w.sought q (alone k n a))) refl)
      (sym (declared_node x w.sought q k n a r) ∙ h)

-- what is exported is declared by what is left
pub still_declared : (x : List ℕ) (p q : ℕ) {w : Around} {t u : Forest} → is_of_catch w.sought ≡ false → Sheds w t u → is_exported x w.exported ≡ true
    → is_declared x (declared w.sought q t) ≡ true → is_declared x (declared w.sought p u) ≡ true
still_declared x p q calm ends e h = h
still_declared x p q calm (keeps_absent rest) e h = still_declared x p q calm rest e h
still_declared x p q calm (keeps {w = w} {k = k} {n = n} {m = m} {a = a} {b = b} {r = r} {s = s} one below rest) e h =
    declared_node x w.sought p k m b s
    ∙ one_of_both (is_declared x (declared_here w.sought q k)) (is_declared x (declared (sought_below w.sought k) (q + one_each k) a) || is_declared x (declared w.sought (q + node_count (alone k n a)) r)) (is_declared x (declared_here w.sought p k))
    (is_declared x (declared (sought_below w.sought k) (p + one_each k) b) || is_declared x (declared w.sought (p + node_count (alone k m b)) s)) (declared_in_more x (same_here w.sought q p k))
    (one_of_both (is_declared x (declared (sought_below w.sought k) (q + one_each k) a)) (is_declared x (declared w.sought (q + node_count (alone k n a)) r)) (is_declared x (declared (sought_below w.sought k) (p + one_each k) b))
    (is_declared x (declared w.sought (p + node_count (alone k m b)) s)) (kept_below x w.exported w.sought k (p + one_each k) (q + one_each k) a b e
    (still_declared x (p + one_each k) (q + one_each k) (no_catch_inside w.sought k) below))
    (still_declared x (p + node_count (alone k m b)) (q + node_count (alone k n a)) calm rest e))
    (sym (declared_node x w.sought q k n a r) ∙ h)
still_declared x p q calm (leaves {w = w} {k = k} {n = n} {a = a} {r = r} may out strict rest) e h =
    still_declared x p (q + node_count (alone k n a)) calm rest e (behind_it x q w k n a r out e h)
still_declared x p q calm (empties {w = w} {n = n} {m = m} {a = a} {r = r} {s = s} may rest) e h =
    ap (is_declared x) (declares_nothing w.sought p m s)
    ∙ still_declared x (p + node_count (alone empty_statement m nothing)) (q + node_count (alone expression_statement n a)) calm rest e (sym (ap (is_declared x) (nothing_of_expression w.sought q n a r)) ∙ h)
still_declared x p q calm (empties_idle {w = w} {k = k} {n = n} {m = m} {a = a} {r = r} {s = s} idle loops may unnamed rest) e h =
    let further = skipped w.sought q (alone k n a) r (unnamed q) in
    ap (is_declared x) (declares_nothing w.sought p m s) ∙ still_declared x (p + node_count (alone empty_statement m nothing)) further.0 calm rest e (sym (ap (is_declared x) further.1) ∙ h)
still_declared x p q calm (states {w = w} {how = how} {x = y} {k = k} {n = n} {m = m} {l = l} {j = j} {i = i} {o = o} {b = b} {r = r} {s = s} listed unasked out rest) e h =
    let value = alone k i b in
    let all = declares_one m l j y value in
    ap (is_declared x) (nothing_of_expression w.sought p o value s)
    ∙ still_declared x (p + node_count (alone expression_statement o value)) (q + node_count (alone (variable_declaration how) n all)) calm rest e (behind_it x q w (variable_declaration how) n all r out e h)
still_declared x p q calm (leaves_names {w = w} {k = k} {n = n} {m = m} {a = a} {b = b} {r = r} {s = s} listed unasked stay rest) e h =
    let old = declared_here w.sought q k ++ declared (sought_below w.sought k) (q + one_each k) a in
    let new = declared_here w.sought p a_var ++ declared (sought_below w.sought a_var) (p + one_each a_var) b in
    let old_rest = declared w.sought (q + node_count (alone k n a)) r in
    let new_rest = declared w.sought (p + node_count (alone a_var m b)) s in
    declared_append x new new_rest
    ∙ one_of_both (is_declared x old) (is_declared x old_rest) (is_declared x new) (is_declared x new_rest) (declared_in_more x (fewer_named old new (stay.declares w.sought q p calm)))
    (still_declared x (p + node_count (alone a_var m b)) (q + node_count (alone k n a)) calm rest e) (sym (declared_append x old old_rest) ∙ h)
still_declared x p q calm (becomes {w = w} {k = k} {l = l} {n = n} {m = m} {a = a} {b = b} {r = r} {s = s} part may bare rest) e h =
    declared_node x w.sought p l m b s
    ∙ second_of_either (is_declared x (declared_here w.sought p l)) (is_declared x (declared (sought_below w.sought l) (p + one_each l) b) || is_declared x (declared w.sought (p + node_count (alone l m b)) s))
    (one_of_both (is_declared x (declared (sought_below w.sought k) (q + one_each k) a)) (is_declared x (declared w.sought (q + node_count (alone k n a)) r))
    (is_declared x (declared (sought_below w.sought l) (p + one_each l) b))
    (is_declared x (declared w.sought (p + node_count (alone l m b)) s)) (still_replaced x w.sought (p + one_each l) (q + one_each k) calm part)
    (still_declared x (p + node_count (alone l m b)) (q + node_count (alone k n a)) calm rest e)
    (ap (λ ds. is_declared x ds || (is_declared x (declared (sought_below w.sought k) (q + one_each k) a) || is_declared x (declared w.sought (q + node_count (alone k n a)) r)))
    (sym (no_name_here w.sought q k (old_unasked part)))
    ∙ sym (declared_node x w.sought q k n a r) ∙ h))
