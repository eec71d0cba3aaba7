-- The parts of nodes of which something leaves: there are no more of them, and a declaration keeps a declarator.
use Rattle.std.proofs.Common.{◌≡◌, ℕ, ◌+◌, ◌≤◌, List, [], ◌∷◌, Bool, true, false, not, ◌||◌, ◌==◌, ◌⊎◌, inl, inr, if◌then◌else◌, refl, sym, ap, ◌∙◌, arith}
use Rattle.std.proofs.lemmas.Bool.Decides.{nat_tests}
use Rattle.js_tree.specs.Count.{node_count}
use Rattle.js_syntax.specs.declared.node_kind.NodeKind.{NodeKind as Kind}
use Rattle.js_syntax.specs.declared.node_kind.NodeKind.TheVariants.{EmptyStatement as empty_statement, ExpressionStatement as expression_statement, SwitchCase as switch_case, MethodDefinition as method_definition, VariableDeclaration as variable_declaration, Declarators as declarators}
use Rattle.js_syntax.specs.declared.kind.MethodKind.TheVariants as method_kind
use Rattle.js_syntax.specs.declared.kind.VariableKind.{VariableKind}
use Rattle.js_syntax.specs.Node.{Forest, nothing, node, alone}
use Rattle.form_rules.specs.Rules.{places_of, all_but_first, first_below, length_of, is_default, is_constructor, has_initializer, is_declarator_wrong, counts_right}
use Rattle.steps.specs.KeepForm.Sheds.{Row, parts, items, of_item, of_declarators, of_head, of_import, of_specifiers, other, row_below, asked_below, may_leave, may_empty, keeps_one, Around, entered, Sheds, ends, keeps_absent, keeps, leaves, empties, empties_idle, leaves_names, states, becomes}
use Rattle.steps.specs.KeepForm.Part.{a_var, is_asked_for, declares_one}
use Rattle.steps.proofs.KeepForm.Asked.{new_unasked, no_default, no_constructor, not_asked}
use Rattle.steps.proofs.KeepForm.Fewer.{Fewer, none, both, more}
use Rattle.steps.proofs.KeepForm.Rows.{stays_below, behind_left, absent_same, length_same}
use Rattle.steps.proofs.KeepForm.Seen.{name_same}

abbrev Any : ℕ → ℕ → Type 0
Any p q = Unit {0}

-- ---- places of nodes of a sort

fewer_if : (b : Bool) (p q : ℕ) {xs ys : List ℕ} → Fewer ℕ Any xs ys → Fewer ℕ Any (if b then p ∷ xs else xs) (if b then q ∷ ys else ys)
fewer_if true p q f = both tt f
fewer_if false p q f = f

less_if : (b : Bool) (q : ℕ) {xs ys : List ℕ} → Fewer ℕ Any xs ys → Fewer ℕ Any xs (if b then q ∷ ys else ys)
less_if true q f = more f
less_if false q f = f

module _ (test : Kind → Forest → Bool) where
  places_fewer : (p q : ℕ) {w : Around} {t u : Forest} → ((k : Kind) (a b : Forest) → Sheds (entered w k a) a b → test k b ≡ test k a) → (may_empty w.row ≡ true → test empty_statement nothing ≡ false)
      → (w.is_asked ≡ false → (k : Kind) (a : Forest) → is_asked_for k ≡ false → test k a ≡ false) → (w.row ≡ items → (b : Forest) → test a_var b ≡ false) → Sheds w t u → Fewer ℕ Any (places_of test p u) (places_of test q t)
  places_fewer p q same emptied unasked declared ends = none
  places_fewer p q same emptied unasked declared (keeps_absent rest) = places_fewer p q same emptied unasked declared rest
  places_fewer p q same emptied unasked declared (keeps {k = k} {n = n} {m = m} {a = a} {b = b} one below rest) =
      rw (same k a b below) (fewer_if (test k a) p q (places_fewer (p + node_count (node k m b nothing)) (q + node_count (node k n a nothing)) same emptied unasked declared rest))
  places_fewer p q same emptied unasked declared (leaves {k = k} {n = n} {a = a} may out strict rest) = less_if (test k a) q (places_fewer p (q + node_count (node k n a nothing)) same emptied unasked declared rest)
  places_fewer p q same emptied unasked declared (empties {n = n} {m = m} {a = a} may rest) =
      rw (emptied may) (less_if (test expression_statement a) q (places_fewer (p + node_count (node empty_statement m nothing nothing)) (q + node_count (node expression_statement n a nothing)) same emptied unasked declared rest))
  places_fewer p q same emptied unasked declared (empties_idle {k = k} {n = n} {m = m} {a = a} idle loops may unnamed rest) =
      rw (emptied may) (less_if (test k a) q (places_fewer (p + node_count (node empty_statement m nothing nothing)) (q + node_count (node k n a nothing)) same emptied unasked declared rest))
  places_fewer p q same emptied unasked declared (states {how = how} {x = x} {k = k} {n = n} {m = m} {l = l} {j = j} {i = i} {o = o} {b = b} listed calm out rest) =
      let value = alone k i b in
      let all = declares_one m l j x value in
      rw (unasked calm expression_statement value refl)
      (less_if (test (variable_declaration how) all) q (places_fewer (p + node_count (node expression_statement o value nothing)) (q + node_count (node (variable_declaration how) n all nothing)) same emptied unasked declared rest))
  places_fewer p q same emptied unasked declared (leaves_names {k = k} {n = n} {m = m} {a = a} {b = b} listed plain stay rest) =
      rw (declared listed b) (less_if (test k a) q (places_fewer (p + node_count (node a_var m b nothing)) (q + node_count (node k n a nothing)) same emptied unasked declared rest))
  places_fewer p q same emptied unasked declared (becomes {w = w} {k = k} {l = l} {n = n} {m = m} {a = a} {b = b} part may bare rest) =
      rw (unasked (not_asked w k may) l b (new_unasked part)) (less_if (test k a) q (places_fewer (p + node_count (node l m b nothing)) (q + node_count (node k n a nothing)) same emptied unasked declared rest))

pub none_of_none : {xs ys : List ℕ} → Fewer ℕ Any xs ys → ys ≡ [] → xs ≡ []
none_of_none none h = refl
none_of_none (both s f) h = absurd cc
none_of_none (more f) h = absurd cc

one_of_one : {xs ys : List ℕ} → Fewer ℕ Any xs ys → all_but_first ys ≡ [] → all_but_first xs ≡ []
one_of_one none h = refl
one_of_one (both s f) h = none_of_none f h
one_of_one (more f) h = ap all_but_first (none_of_none f h)

default_same : (w : Around) (k : Kind) (a b : Forest) → Sheds (entered w k a) a b → is_default k b ≡ is_default k a
default_same w switch_case a b below = absent_same (stays_below w.row switch_case refl) below
default_same w k a b below = refl

constructor_same : (k : Kind) (a b : Forest) → is_constructor k b ≡ is_constructor k a
constructor_same (method_definition method_kind.Constructor is_static key) a b = refl
constructor_same k a b = refl

pub one_default : (p q : ℕ) {w : Around} {t u : Forest} → Sheds w t u → all_but_first (places_of is_default q t) ≡ [] → all_but_first (places_of is_default p u) ≡ []
one_default p q {w = w} h = one_of_one (places_fewer is_default p q (default_same w) (λ e. refl) (λ d. no_default) (λ e b. refl) h)

pub one_constructor : (p q : ℕ) {w : Around} {t u : Forest} → Sheds w t u → all_but_first (places_of is_constructor q t) ≡ [] → all_but_first (places_of is_constructor p u) ≡ []
one_constructor p q h = one_of_one (places_fewer is_constructor p q (λ k a b below. constructor_same k a b) (λ e. refl) (λ d. no_constructor) (λ e b. refl) h)

-- ---- declarators

-- rows below a declaration
abbrev pub of_variables : Row → Bool
of_variables of_item = true
of_variables of_head = true
of_variables row = false

pub are_variables : (row : Row) (how : VariableKind) → of_variables (row_below row (variable_declaration how)) ≡ true
are_variables parts how = refl
are_variables items how = refl
are_variables of_item how = refl
are_variables of_declarators how = refl
are_variables of_head how = refl
are_variables of_import how = refl
are_variables of_specifiers how = refl
are_variables other how = refl

variables_stay : (row : Row) → of_variables row ≡ true → (may_leave row ≡ false) × (may_empty row ≡ false)
variables_stay parts h = absurd cc
variables_stay items h = absurd cc
variables_stay of_item h = (refl, refl)
variables_stay of_declarators h = absurd cc
variables_stay of_head h = (refl, refl)
variables_stay of_import h = absurd cc
variables_stay of_specifiers h = absurd cc
variables_stay other h = absurd cc

-- what lies below a declaration: a list of declarators, which may leave, and else nothing leaves
below_declaration : (row : Row) (k : Kind) → of_variables row ≡ true → (may_leave (row_below row k) ≡ false) ⊎ (row_below row k ≡ of_declarators)
below_declaration parts k h = absurd cc
below_declaration items k h = absurd cc
below_declaration of_item declarators h = inr refl
below_declaration of_item k h = inl refl
below_declaration of_declarators k h = absurd cc
below_declaration of_head declarators h = inl refl
below_declaration of_head k h = inl refl
below_declaration of_import k h = absurd cc
below_declaration of_specifiers k h = absurd cc
below_declaration other k h = absurd cc

-- rows in which no statement stands, nor one below their nodes
abbrev pub is_plain : Row → Bool
is_plain of_declarators = true
is_plain of_head = true
is_plain other = true
is_plain row = false

plain_stays : (row : Row) (k : Kind) → is_plain row ≡ true → may_leave (row_below row k) ≡ false
plain_stays parts k h = absurd cc
plain_stays items k h = absurd cc
plain_stays of_item k h = absurd cc
plain_stays of_declarators declarators h = refl
plain_stays of_declarators k h = refl
plain_stays of_head declarators h = refl
plain_stays of_head k h = refl
plain_stays of_import k h = absurd cc
plain_stays of_specifiers k h = absurd cc
plain_stays other declarators h = refl
plain_stays other k h = refl

plain_empties_not : (row : Row) → is_plain row ≡ true → may_empty row ≡ true → ⊥
plain_empties_not parts h e = absurd cc
plain_empties_not items h e = absurd cc
plain_empties_not of_item h e = absurd cc
plain_empties_not of_declarators h e = absurd cc
plain_empties_not of_head h e = absurd cc
plain_empties_not of_import h e = absurd cc
plain_empties_not of_specifiers h e = absurd cc
plain_empties_not other h e = absurd cc

initializer_same : {w : Around} {t u : Forest} → may_leave w.row ≡ false → Sheds w t u → has_initializer u ≡ has_initializer t
initializer_same stays h = ap not (absent_same stays (behind_left stays h))

wrong_same : (is_head : Bool) (how : VariableKind) (k : Kind) {w : Around} {t u : Forest} → may_leave w.row ≡ false → Sheds w t u → is_declarator_wrong is_head how k u ≡ is_declarator_wrong is_head how k t
wrong_same true how k stays h = initializer_same stays h
wrong_same false how k stays h = rw (initializer_same stays h, name_same stays h) refl

pub none_wrong : (is_head : Bool) (how : VariableKind) (p q : ℕ) {w : Around} {t u : Forest} → is_plain w.row ≡ true → w.is_asked ≡ true → Sheds w t u
    → places_of (is_declarator_wrong is_head how) q t ≡ [] → places_of (is_declarator_wrong is_head how) p u ≡ []
none_wrong is_head how p q {w = w} plain asked h =
    none_of_none (places_fewer (is_declarator_wrong is_head how) p q (λ k a b below. wrong_same is_head how k (plain_stays w.row k plain) below) (λ e. absurd (plain_empties_not w.row plain e))
    (λ d. absurd (cc (asked, d))) (λ e b. absurd (cc (plain, ap is_plain e))) h)

length_fewer : {w : Around} {t u : Forest} → Sheds w t u → length_of u ≤ length_of t
length_fewer ends = omega arith
length_fewer (keeps_absent rest) = length_fewer rest
length_fewer (keeps one below rest) = omega (arith, length_fewer rest)
length_fewer (leaves may out strict rest) = omega (arith, length_fewer rest)
length_fewer (empties may rest) = omega (arith, length_fewer rest)
length_fewer (empties_idle idle loops may unnamed rest) = omega (arith, length_fewer rest)
length_fewer (states listed unasked out rest) = omega (arith, length_fewer rest)
length_fewer (leaves_names listed unasked stay rest) = omega (arith, length_fewer rest)
length_fewer (becomes part may bare rest) = omega (arith, length_fewer rest)

counts_fewer : (is_head : Bool) (m n : ℕ) → m ≤ n → (n == 0 || not (m == 0)) ≡ true → counts_right is_head n ≡ true → counts_right is_head m ≡ true
counts_fewer true m n less one right = grind (arith, nat_tests, less, one, right)
counts_fewer false m n less one right = grind (arith, nat_tests, less, one, right)

counts_in : (is_head : Bool) (row : Row) (a b : Forest) → (may_leave row ≡ false) ⊎ (row ≡ of_declarators) → keeps_one row a b ≡ true → length_of b ≤ length_of a → (may_leave row ≡ false → length_of b ≡ length_of a) → counts_right is_head (length_of a) ≡ true
    → counts_right is_head (length_of b) ≡ true
counts_in is_head row a b (inl stays) one less same right = ap (counts_right is_head) (same stays) ∙ right
counts_in is_head row a b (inr is) one less same right = counts_fewer is_head (length_of b) (length_of a) less (ap (λ x. keeps_one x a b) (sym is) ∙ one) right

pub counts_stay : (is_head : Bool) {w : Around} {t u : Forest} → of_variables w.row ≡ true → w.is_asked ≡ true → Sheds w t u
    → counts_right is_head (length_of (first_below t)) ≡ true → counts_right is_head (length_of (first_below u)) ≡ true
counts_stay is_head is asked ends right = right
counts_stay is_head is asked (keeps_absent rest) right = right
counts_stay is_head is asked (keeps {w = w} {k = k} {a = a} {b = b} one below rest) right =
    counts_in is_head (row_below w.row k) a b (below_declaration w.row k is) one (length_fewer below) (λ d. length_same d below) right
counts_stay is_head {w = w} is asked (leaves may out strict rest) right = absurd (cc (may, (variables_stay w.row is).0))
counts_stay is_head {w = w} is asked (empties may rest) right = absurd (cc (may, (variables_stay w.row is).1))
counts_stay is_head {w = w} is asked (empties_idle idle loops may unnamed rest) right = absurd (cc (may, (variables_stay w.row is).1))
counts_stay is_head {w = w} is asked (states listed unasked out rest) right = absurd (cc (asked, unasked))
counts_stay is_head is asked (leaves_names listed unasked stay rest) right = absurd (cc (asked, unasked))
counts_stay is_head {w = w} is asked (becomes {k = k} part may bare rest) right = absurd (cc (asked, not_asked w k may))

pub below_same : {w : Around} {t u : Forest} → w.row ≡ other → w.is_asked ≡ true → Sheds w t u → length_of (first_below u) ≡ length_of (first_below t)
below_same is asked ends = refl
below_same is asked (keeps_absent rest) = refl
below_same is asked (keeps {w = w} {k = k} one below rest) = length_same (plain_stays w.row k (ap is_plain is)) below
below_same is asked (leaves may out strict rest) = absurd (cc (may, ap may_leave is))
below_same is asked (empties may rest) = absurd (cc (may, ap may_empty is))
below_same is asked (empties_idle idle loops may unnamed rest) = absurd (cc (may, ap may_empty is))
below_same is asked (states listed unasked out rest) = absurd (cc (asked, unasked))
below_same is asked (leaves_names listed unasked stay rest) = absurd (cc (asked, unasked))
below_same is asked (becomes {w = w} {k = k} part may bare rest) = absurd (cc (asked, not_asked w k may))

plain_below : (row : Row) (k : Kind) → of_variables row ≡ true → is_plain (row_below row k) ≡ true
plain_below parts k h = absurd cc
plain_below items k h = absurd cc
plain_below of_item declarators h = refl
plain_below of_item k h = refl
plain_below of_declarators k h = absurd cc
plain_below of_head declarators h = refl
plain_below of_head k h = refl
plain_below of_import k h = absurd cc
plain_below of_specifiers k h = absurd cc
plain_below other k h = absurd cc

asked_in_it : (row : Row) (k : Kind) → of_variables row ≡ true → asked_below row k ≡ true
asked_in_it parts k h = absurd cc
asked_in_it items k h = absurd cc
asked_in_it of_item k h = refl
asked_in_it of_declarators k h = absurd cc
asked_in_it of_head k h = refl
asked_in_it of_import k h = absurd cc
asked_in_it of_specifiers k h = absurd cc
asked_in_it other k h = absurd cc

-- the declarators of a declaration
pub declarators_left : (is_head : Bool) (how : VariableKind) (p q : ℕ) {w : Around} {t u : Forest} → of_variables w.row ≡ true → w.is_asked ≡ true → Sheds w t u
    → places_of (is_declarator_wrong is_head how) q (first_below t) ≡ []
    → places_of (is_declarator_wrong is_head how) p (first_below u) ≡ []
declarators_left is_head how p q is asked ends right = refl
declarators_left is_head how p q is asked (keeps_absent rest) right = refl
declarators_left is_head how p q is asked (keeps {w = w} {k = k} one below rest) right = none_wrong is_head how p q (plain_below w.row k is) (asked_in_it w.row k is) below right
declarators_left is_head how p q {w = w} is asked (leaves may out strict rest) right = absurd (cc (may, (variables_stay w.row is).0))
declarators_left is_head how p q {w = w} is asked (empties may rest) right = absurd (cc (may, (variables_stay w.row is).1))
declarators_left is_head how p q {w = w} is asked (empties_idle idle loops may unnamed rest) right = absurd (cc (may, (variables_stay w.row is).1))
declarators_left is_head how p q {w = w} is asked (states listed unasked out rest) right = absurd (cc (asked, unasked))
declarators_left is_head how p q is asked (leaves_names listed unasked stay rest) right = absurd (cc (asked, unasked))
declarators_left is_head how p q {w = w} is asked (becomes {k = k} part may bare rest) right = absurd (cc (asked, not_asked w k may))
