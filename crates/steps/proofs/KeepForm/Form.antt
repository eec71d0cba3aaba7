-- What is left of a program that breaks no rule of form breaks none.
use Rattle.std.proofs.Common.{◌≡◌, ℕ, ◌+◌, suc, List, [], ◌∷◌, ◌++◌, ◌&&◌, Bool, true, false, not, if◌then◌else◌, None, refl, sym, ap, ◌∙◌, append-nil}
use Rattle.js_tree.specs.Count.{one_each, node_count}
use Rattle.js_syntax.specs.declared.node_kind.NodeKind.{NodeKind as Kind}
use Rattle.js_syntax.specs.declared.node_kind.NodeKind.TheVariants.{Program as program, Statements as statements, EmptyStatement as empty_statement, ExpressionStatement as expression_statement, IfStatement as if_statement, VariableDeclaration as variable_declaration, Declarators as declarators, ImportDeclaration as import_declaration, Specifiers as specifiers, VariableDeclarator as variable_declarator, BindingName as binding_name}
use Rattle.js_syntax.specs.Node.{Note, Forest, nothing, node, absent, joined, alone}
use Rattle.js_syntax.specs.declared.kind.VariableKind.{VariableKind}
use Rattle.form_rules.specs.declared.rule.Break.{Break}
use Rattle.form_rules.specs.Break.{unless, least}
use Rattle.form_rules.specs.Context as context
use Rattle.form_rules.specs.Context.{Context, below_it, inside}
use Rattle.form_rules.specs.Rules.{broken_at}
use Rattle.form_rules.specs.Form.{broken_in, source_of, broken, IsWellFormed}
use Rattle.steps.specs.KeepForm.Part.{a_var, is_asked_for, is_tested, declares_one, StandsFor, Replaces, by_part, by_parts, by_test, without_alternate}
use Rattle.steps.specs.KeepForm.Sheds.{Row, parts, items, of_item, of_head, of_import, other, has_statements, row_below, may_leave, Around, entered, outermost, Sheds, ends, keeps_absent, keeps, leaves, empties, empties_idle, leaves_names, states, becomes}
use Rattle.steps.proofs.KeepForm.Contexts.{inside_same}
use Rattle.steps.proofs.KeepForm.Asked.{idle_kinds, tested_kinds, old_unasked, new_unasked}
use Rattle.steps.proofs.KeepForm.Rows.{itself}
use Rattle.steps.proofs.KeepForm.Alone.{passed_on, inside_alike, rules_alike}
use Rattle.steps.proofs.KeepForm.Rebuilding.{moved, rebuilt_kept}
use Rattle.steps.proofs.KeepForm.Rules.{first_empty, second_empty, both_empty, rules_kept, empty_keeps}

-- behind other nodes of a row
behind_others : (before rest : Forest) (f : ℕ → Context) (i p : ℕ) → broken_in f i p (joined before rest) ≡ [] → (j : ℕ) × (q : ℕ) × (broken_in f j q rest ≡ [])
behind_others nothing rest f i p h = (i, p, h)
behind_others (absent r) rest f i p h = behind_others r rest f (suc i) p h
behind_others (node k n a r) rest f i p h =
    behind_others r rest f (suc i) (p + node_count (node k n a nothing))
    (second_empty (broken_at (f i) k p a ++ broken_in (inside (f i) k a) 0 (p + one_each k) a) (broken_in f (suc i) (p + node_count (node k n a nothing)) (joined r rest)) h)

-- a part that stands for a node breaks none in the node's context
part_kept : (c : Context) (k l : Kind) (a b : Forest) (p q : ℕ) → StandsFor k a l b → broken_in (inside c k a) 0 p a ≡ [] → broken_at c l q b ++ broken_in (inside c l b) 0 (q + one_each l) b ≡ []
part_kept c k l a b p q part h =
    let f = inside c k a in
    let there = behind_others part.before (node l part.note b part.after) f 0 p (ap (broken_in f 0 p) (sym part.is_part) ∙ h) in
    let d = f there.0 in
    let same = passed_on c k a there.0 part.gives in
    let own = broken_at d l there.1 b in
    let below = broken_in (inside d l b) 0 (there.1 + one_each l) b in
    let front = first_empty (own ++ below) (broken_in f (suc there.0) (there.1 + node_count (node l part.note b nothing)) part.after) there.2 in
    both_empty (broken_at c l q b) (broken_in (inside c l b) 0 (q + one_each l) b)
    (rules_kept outermost c there.1 q b b l (itself (entered outermost l b) b) (rules_alike l there.1 b part.unasked d c same (first_empty own below front)))
    (moved b (inside d l b) (inside c l b) (λ x. sym (inside_alike c l b x part.unasked) ∙ ap (λ y. inside y l b x) (sym same) ∙ inside_alike d l b x part.unasked) 0 (there.1 + one_each l) (q + one_each l)
    (second_empty own below front))

-- a statement of an expression breaks no rule itself
alone_keeps : (alone : Bool) (place : ℕ) → (unless (not (alone && false)) place 11 ++ []) ++ [] ≡ []
alone_keeps true place = refl
alone_keeps false place = refl

-- the test breaks none in a statement of it
module _ (c : Context) (l : Kind) (i : Note) (b after : Forest) (p q : ℕ) where
  abbrev NoneBroken : Type 0
  NoneBroken = broken_at c expression_statement q (node l i b nothing) ++ broken_in (inside c expression_statement (node l i b nothing)) 0 (q + one_each expression_statement) (node l i b nothing) ≡ []

  test_of_if : broken_in (inside c if_statement (node l i b after)) 0 p (node l i b after) ≡ [] → NoneBroken
  test_of_if h =
      let there : ℕ → Context = λ at. below_it c in
      let own = broken_at (below_it c) l p b ++ broken_in (inside (below_it c) l b) 0 (p + one_each l) b in
      both_empty (broken_at c expression_statement q (node l i b nothing)) (broken_in there 0 (q + one_each expression_statement) (node l i b nothing)) (alone_keeps c.is_alone q)
      (moved (node l i b nothing) there there (λ at. refl) 0 p (q + one_each expression_statement)
      (both_empty own [] (first_empty own (broken_in (inside c if_statement (node l i b after)) 1 (p + node_count (node l i b nothing)) after) h) refl))

  test_kept : (k : Kind) → is_tested k ≡ true → broken_in (inside c k (node l i b after)) 0 p (node l i b after) ≡ [] → NoneBroken
  test_kept k tested = tested_kinds (λ z. broken_in (inside c z (node l i b after)) 0 p (node l i b after) ≡ [] → NoneBroken) test_of_if k tested

-- so does a value that a declaration gave
module _ (c : Context) (how : VariableKind) (x : List ℕ) (m l j : Note) (k : Kind) (i : Note) (b : Forest) (p q : ℕ) where
  abbrev value : Forest
  value = alone k i b

  abbrev declared_value : Forest
  declared_value = declares_one m l j x value

  value_kept : broken_in (inside c (variable_declaration how) declared_value) 0 p declared_value ≡ []
      → broken_at c expression_statement q value ++ broken_in (inside c expression_statement value) 0 (q + one_each expression_statement) value ≡ []
  value_kept h =
      let there : ℕ → Context = λ at. below_it c in
      let name = node (binding_name x) j nothing value in
      let declarator = alone variable_declarator l name in
      let in_list = p + one_each declarators in
      let in_it = in_list + one_each variable_declarator in
      let list_own = broken_at (below_it c) declarators p declarator in
      let list_below = broken_in there 0 in_list declarator in
      let one_own = broken_at (below_it c) variable_declarator in_list name in
      let one_below = broken_in there 0 in_it name in
      let name_own = broken_at (below_it c) (binding_name x) in_it nothing in
      let at_value = in_it + node_count (node (binding_name x) j nothing nothing) in
      let of_list = second_empty list_own list_below (first_empty (list_own ++ list_below) [] h) in
      let of_one = second_empty one_own one_below (first_empty (one_own ++ one_below) [] of_list) in
      both_empty (broken_at c expression_statement q value) (broken_in there 0 (q + one_each expression_statement) value) (alone_keeps c.is_alone q)
      (moved value there there (λ at. refl) 0 at_value (q + one_each expression_statement) (second_empty (name_own ++ []) (broken_in there 1 at_value value) of_one))

-- an `if` breaks no rule itself, whatever its branches
if_keeps : (alone : Bool) (place : ℕ) → (unless (not (alone && false)) place 11 ++ []) ++ [] ≡ []
if_keeps true place = refl
if_keeps false place = refl

-- what stands before an alternate breaks none when that goes
module _ (t l : Kind) (i j o : Note) (d b : Forest) where
  rest_kept : (f : ℕ → Context) (p : ℕ) → broken_in f 0 p (node t i d (node l j b (node empty_statement o nothing nothing))) ≡ [] → broken_in f 0 p (node t i d (node l j b (absent nothing))) ≡ []
  rest_kept f p h =
      let first = broken_at (f 0) t p d ++ broken_in (inside (f 0) t d) 0 (p + one_each t) d in
      let at = p + node_count (node t i d nothing) in
      let second = broken_at (f 1) l at b ++ broken_in (inside (f 1) l b) 0 (at + one_each l) b in
      let last = broken_in f 2 (at + node_count (node l j b nothing)) (node empty_statement o nothing nothing) in
      both_empty first (second ++ []) (first_empty first (second ++ last) h) (both_empty second [] (first_empty second last (second_empty first (second ++ last) h)) refl)

replaced_kept : (c : Context) (p q : ℕ) {k l : Kind} {n m : Note} {a b : Forest} → Replaces k n a l m b → broken_at c k p a ++ broken_in (inside c k a) 0 (p + one_each k) a ≡ []
    → broken_at c l q b ++ broken_in (inside c l b) 0 (q + one_each l) b ≡ []
replaced_kept c p q {k = k} {l = l} {a = a} {b = b} (by_part part) h = part_kept c k l a b (p + one_each k) q part (second_empty (broken_at c k p a) (broken_in (inside c k a) 0 (p + one_each k) a) h)
replaced_kept c p q {k = k} {l = l} {n = n} {m = m} {a = a} {b = b} (by_parts made) h = rebuilt_kept c k l n m a b p q made h
replaced_kept c p q {k = k} (by_test {l = l} {i = i} {b = b} {after = after} tested unasked is none) h =
    let below = node l i b after in
    test_kept c l i b after (p + one_each k) q k tested (second_empty (broken_at c k p below) (broken_in (inside c k below) 0 (p + one_each k) below) h)
replaced_kept c p q (without_alternate {t = t} {l = l} {i = i} {j = j} {o = o} {d = d} {b = b}) h =
    let old = node t i d (node l j b (node empty_statement o nothing nothing)) in
    let new = node t i d (node l j b (absent nothing)) in
    both_empty (broken_at c if_statement q new) (broken_in (inside c if_statement new) 0 (q + one_each if_statement) new) (if_keeps c.is_alone q)
    (moved new (inside c if_statement old) (inside c if_statement new) (λ at. refl) 0 (p + one_each if_statement) (q + one_each if_statement)
    (rest_kept t l i j o d b (inside c if_statement old) (p + one_each if_statement) (second_empty (broken_at c if_statement p old) (broken_in (inside c if_statement old) 0 (p + one_each if_statement) old) h)))

-- no item of a list is the head of a loop
no_items : (b : Bool) → (if b then parts else other) ≡ items → ⊥
no_items true e = cc
no_items false e = cc

unheaded : (row : Row) (c : Context) (k : Kind) (a : Forest) (x : ℕ) → row_below row k ≡ items → (inside c k a x).is_head ≡ false
unheaded parts c statements a x e = refl
unheaded items c (variable_declaration how) a x e = absurd cc
unheaded row c (variable_declaration how) a x e = absurd cc
unheaded of_item c declarators a x e = absurd cc
unheaded of_item c k a x e = absurd cc
unheaded of_head c k a x e = absurd cc
unheaded row c (import_declaration source) a x e = absurd cc
unheaded of_import c specifiers a x e = absurd cc
unheaded of_import c k a x e = absurd cc
unheaded row c k a x e = absurd (no_items (has_statements k) e)

-- Nodes have the contexts that they had: in a list all have the same one.
pub form_kept : {w : Around} {t u : Forest} → Sheds w t u → (f g : ℕ → Context) → ((i j : ℕ) → (may_leave w.row ≡ false → i ≡ j) → g j ≡ f i) → ((i : ℕ) → w.row ≡ items → (f i).is_head ≡ false) → (i j p q : ℕ) → (may_leave w.row ≡ false → i ≡ j) → broken_in f i p t ≡ [] → broken_in g j q u ≡ []
form_kept ends f g same heads i j p q e h = refl
form_kept (keeps_absent rest) f g same heads i j p q e h = form_kept rest f g same heads (suc i) (suc j) p q (λ d. ap (λ n. suc n) (e d)) h
form_kept (keeps {w = w} {k = k} {n = n} {m = m} {a = a} {b = b} {r = r} {s = s} one below rest) f g same heads i j p q e h =
    let front = first_empty (broken_at (f i) k p a ++ broken_in (inside (f i) k a) 0 (p + one_each k) a) (broken_in f (suc i) (p + node_count (node k n a nothing)) r) h in
    let behind = second_empty (broken_at (f i) k p a ++ broken_in (inside (f i) k a) 0 (p + one_each k) a) (broken_in f (suc i) (p + node_count (node k n a nothing)) r) h in
    both_empty (broken_at (g j) k q b ++ broken_in (inside (g j) k b) 0 (q + one_each k) b) (broken_in g (suc j) (q + node_count (node k m b nothing)) s)
    (both_empty (broken_at (g j) k q b) (broken_in (inside (g j) k b) 0 (q + one_each k) b)
    (ap (λ c. broken_at c k q b) (same i j e) ∙ rules_kept w (f i) p q a b k below (first_empty (broken_at (f i) k p a) (broken_in (inside (f i) k a) 0 (p + one_each k) a) front))
    (form_kept below (inside (f i) k a) (inside (g j) k b) (λ x y d. ap (λ c. inside c k b y) (same i j e) ∙ inside_same w (f i) k a b x y below d) (λ x is. unheaded w.row (f i) k a x is) 0 0 (p + one_each k) (q + one_each k) (λ d. refl)
    (second_empty (broken_at (f i) k p a) (broken_in (inside (f i) k a) 0 (p + one_each k) a) front)))
    (form_kept rest f g same heads (suc i) (suc j) (p + node_count (node k n a nothing)) (q + node_count (node k m b nothing)) (λ d. ap (λ n. suc n) (e d)) behind)
form_kept (leaves {k = k} {n = n} {a = a} {r = r} may out strict rest) f g same heads i j p q e h =
    form_kept rest f g same heads (suc i) j (p + node_count (node k n a nothing)) q (λ d. absurd (cc (d, may)))
    (second_empty (broken_at (f i) k p a ++ broken_in (inside (f i) k a) 0 (p + one_each k) a) (broken_in f (suc i) (p + node_count (node k n a nothing)) r) h)
form_kept (empties {n = n} {m = m} {a = a} {r = r} {s = s} may rest) f g same heads i j p q e h =
    both_empty (broken_at (g j) empty_statement q nothing ++ []) (broken_in g (suc j) (q + node_count (node empty_statement m nothing nothing)) s) (both_empty (broken_at (g j) empty_statement q nothing) [] (empty_keeps (g j) q) refl)
    (form_kept rest f g same heads (suc i) (suc j) (p + node_count (node expression_statement n a nothing)) (q + node_count (node empty_statement m nothing nothing)) (λ d. ap (λ n. suc n) (e d))
    (second_empty (broken_at (f i) expression_statement p a ++ broken_in (inside (f i) expression_statement a) 0 (p + one_each expression_statement) a) (broken_in f (suc i) (p + node_count (node expression_statement n a nothing)) r) h))
form_kept (empties_idle {k = k} {n = n} {m = m} {a = a} {r = r} {s = s} idle loops may unnamed rest) f g same heads i j p q e h =
    both_empty (broken_at (g j) empty_statement q nothing ++ []) (broken_in g (suc j) (q + node_count (node empty_statement m nothing nothing)) s) (both_empty (broken_at (g j) empty_statement q nothing) [] (empty_keeps (g j) q) refl)
    (form_kept rest f g same heads (suc i) (suc j) (p + node_count (node k n a nothing)) (q + node_count (node empty_statement m nothing nothing)) (λ d. ap (λ n. suc n) (e d))
    (second_empty (broken_at (f i) k p a ++ broken_in (inside (f i) k a) 0 (p + one_each k) a) (broken_in f (suc i) (p + node_count (node k n a nothing)) r) h))
form_kept (states {how = how} {x = x} {k = k} {n = n} {m = m} {l = l} {j = j} {i = y} {o = o} {b = b} {r = r} {s = s} listed unasked out rest) f g same heads i j2 p q e h =
    let value = alone k y b in
    let name = node (binding_name x) j nothing value in
    let declarator = alone variable_declarator l name in
    let all = declares_one m l j x value in
    let own = broken_at (f i) (variable_declaration how) p all in
    let below = broken_in (inside (f i) (variable_declaration how) all) 0 (p + one_each (variable_declaration how)) all in
    let behind = broken_in f (suc i) (p + node_count (node (variable_declaration how) n all nothing)) r in
    both_empty (broken_at (g j2) expression_statement q value ++ broken_in (inside (g j2) expression_statement value) 0 (q + one_each expression_statement) value) (broken_in g (suc j2) (q + node_count (node expression_statement o value nothing)) s)
    (ap (λ c. broken_at c expression_statement q value ++ broken_in (inside c expression_statement value) 0 (q + one_each expression_statement) value) (same i j2 e)
    ∙ value_kept (f i) how x m l j k y b (p + one_each (variable_declaration how)) q (second_empty own below (first_empty (own ++ below) behind h)))
    (form_kept rest f g same heads (suc i) (suc j2) (p + node_count (node (variable_declaration how) n all nothing)) (q + node_count (node expression_statement o value nothing)) (λ d. ap (λ n. suc n) (e d)) (second_empty (own ++ below) behind h))
form_kept (leaves_names {k = k} {n = n} {m = m} {a = a} {b = b} {r = r} {s = s} listed unasked stay rest) f g same heads i j p q e h =
    let own = broken_at (f i) k p a ++ broken_in (inside (f i) k a) 0 (p + one_each k) a in
    let new = broken_at (g j) a_var q b ++ broken_in (inside (g j) a_var b) 0 (q + one_each a_var) b in
    let behind = broken_in f (suc i) (p + node_count (node k n a nothing)) r in
    both_empty new (broken_in g (suc j) (q + node_count (node a_var m b nothing)) s)
    (sym (append-nil new) ∙ stay.keeps f g i j p q (same i j e) (heads i listed) (append-nil own ∙ first_empty own behind h))
    (form_kept rest f g same heads (suc i) (suc j) (p + node_count (node k n a nothing)) (q + node_count (node a_var m b nothing)) (λ d. ap (λ n. suc n) (e d)) (second_empty own behind h))
form_kept (becomes {k = k} {l = l} {n = n} {m = m} {a = a} {b = b} {r = r} {s = s} part may bare rest) f g same heads i j p q e h =
    let own = broken_at (f i) k p a in
    let below = broken_in (inside (f i) k a) 0 (p + one_each k) a in
    let behind = broken_in f (suc i) (p + node_count (node k n a nothing)) r in
    both_empty (broken_at (g j) l q b ++ broken_in (inside (g j) l b) 0 (q + one_each l) b) (broken_in g (suc j) (q + node_count (node l m b nothing)) s)
    (ap (λ c. broken_at c l q b ++ broken_in (inside c l b) 0 (q + one_each l) b) (same i j e) ∙ replaced_kept (f i) p q part (first_empty (own ++ below) behind h))
    (form_kept rest f g same heads (suc i) (suc j) (p + node_count (node k n a nothing)) (q + node_count (node l m b nothing)) (λ d. ap (λ n. suc n) (e d)) (second_empty (own ++ below) behind h))

no_source : (k : Kind) (n : Note) (a r : Forest) → is_asked_for k ≡ false → source_of (node k n a r) ≡ source_of nothing
no_source (program source) n a r h = absurd cc
no_source k n a r h = refl

pub none_broken : (bs : List Break) → least bs ≡ None → bs ≡ []
none_broken [] h = refl
none_broken (b ∷ bs) h = absurd cc

source_node : (k : Kind) (n m : Note) (a b r s : Forest) → source_of (node k m b s) ≡ source_of (node k n a r)
source_node (program source) n m a b r s = refl
source_node k n m a b r s = refl

source_same : {w : Around} {t u : Forest} → may_leave w.row ≡ false → Sheds w t u → source_of u ≡ source_of t
source_same stays ends = refl
source_same stays (keeps_absent rest) = refl
source_same stays (keeps {k = k} {n = n} {m = m} {a = a} {b = b} {r = r} {s = s} one below rest) = source_node k n m a b r s
source_same stays (leaves may out strict rest) = absurd (cc (stays, may))
source_same stays (empties may rest) = refl
source_same stays (empties_idle {k = k} {n = n} {a = a} {r = r} idle loops may unnamed rest) = idle_kinds (λ z. source_of nothing ≡ source_of (node z n a r)) refl refl refl refl refl (λ label. refl) k idle
source_same stays (states listed unasked out rest) = absurd (cc (stays, ap may_leave listed))
source_same stays (leaves_names listed unasked stay rest) = absurd (cc (stays, ap may_leave listed))
source_same stays (becomes {k = k} {l = l} {n = n} {m = m} {a = a} {b = b} {r = r} {s = s} part may bare rest) = no_source l m b s (new_unasked part) ∙ sym (no_source k n a r (old_unasked part))

pub stays_well_formed : (t u : Forest) → Sheds outermost t u → IsWellFormed t → IsWellFormed u
stays_well_formed t u sheds whole =
    ap least (form_kept sheds (λ i. context.outermost (source_of t)) (λ j. context.outermost (source_of u)) (λ i j d. ap context.outermost (source_same refl sheds)) (λ i e. refl) 0 0 0 0 (λ d. refl) (none_broken (broken t) whole))
