-- What the contexts and rules of form see of the nodes of a row, where nothing leaves it.
use Rattle.std.proofs.Common.{◌≡◌, ℕ, ◌+◌, List, [], ◌∷◌, ◌++◌, Bool, true, false, not, ◌&&◌, ◌||◌, codes, true≢false, refl, sym, ap, ◌∙◌}
use Rattle.std.specs.Str.{bytes_eq}
use Rattle.js_tree.specs.Count.{node_count}
use Rattle.js_syntax.specs.declared.node_kind.NodeKind.{NodeKind as Kind}
use Rattle.js_syntax.specs.declared.node_kind.NodeKind.TheVariants.{Directive as directive, Statements as statements, FunctionBody as function_body, Parameters as parameters, BindingName as binding_name, ReferenceName as reference_name, ParenthesizedExpression as parenthesized_expression, Super as super, PrivateName as private_name, ClassBody as class_body, Members as members, MethodDefinition as method_definition, PropertyDefinition as property_definition, LabeledStatement as labeled_statement, EmptyStatement as empty_statement}
use Rattle.js_syntax.specs.declared.value.Key.TheVariants.{Below as key_below}
use Rattle.js_syntax.specs.Node.{Note, Forest, nothing, node, alone}
use Rattle.form_rules.specs.declared.role.Half.{Half}
use Rattle.form_rules.specs.declared.role.Half.TheVariants.{Whole as whole}
use Rattle.form_rules.specs.Context.{has_use_strict, is_strict_list, is_strict_function, private_key_of, privates_of, extends_another, is_absent, is_loop}
use Rattle.form_rules.specs.Rules.{are_names, have_plain_parameters, Private, privates_named, half_of, private_of, privates_among, first_is_super, is_bare_name, is_name_first, is_last, is_rest, early_rests}
use Rattle.steps.specs.KeepForm.Part.{leaves_names_of}
use Rattle.steps.specs.KeepForm.Sheds.{row_below, deleted_below, labeled_below, may_leave, may_come_out, Around, entered, Sheds, ends, keeps_absent, keeps, leaves, empties, empties_idle, leaves_names, states, becomes}
use Rattle.steps.proofs.KeepForm.Asked.{idle_kinds, old_unasked, new_unasked, not_strict, no_strict_list, no_body, no_name, no_parameters, no_private_key, no_privates, no_private, no_loop, no_super, bare_alone, no_bound_name, no_rest}
use Rattle.steps.proofs.KeepForm.Fewer.{Fewer, none, both, behind_all, beside, SamePrivate, left_out, leave_out}
use Rattle.js_syntax.proofs.Truth.{not_true}
use Rattle.steps.proofs.KeepForm.Rows.{stays_below, behind_left, behind_is, absent_same}

-- ---- strict code

strict_node : (k : Kind) (n m : Note) (a b r s : Forest) → has_use_strict s ≡ has_use_strict r → has_use_strict (node k m b s) ≡ has_use_strict (node k n a r)
strict_node (directive written) n m a b r s h = ap (λ x. bytes_eq written (codes "use strict") || x) h
strict_node k n m a b r s h = refl

names_unstrict : (k : Kind) (n : Note) (a r : Forest) → leaves_names_of k ≡ true → has_use_strict (node k n a r) ≡ false
names_unstrict (directive written) n a r h = absurd cc
names_unstrict k n a r h = refl

pub strict_same : {w : Around} {t u : Forest} → Sheds w t u → has_use_strict u ≡ has_use_strict t
strict_same ends = refl
strict_same (keeps_absent rest) = refl
strict_same (keeps {k = k} {n = n} {m = m} {a = a} {b = b} {r = r} {s = s} one below rest) = strict_node k n m a b r s (strict_same rest)
strict_same (leaves may out strict rest) = strict_same rest ∙ strict
strict_same (empties may rest) = refl
strict_same (empties_idle {k = k} {n = n} {a = a} {r = r} idle loops may unnamed rest) = idle_kinds (λ z. false ≡ has_use_strict (node z n a r)) refl refl refl refl refl (λ label. refl) k idle
strict_same (states listed unasked out rest) = refl
strict_same (leaves_names {k = k} {n = n} {a = a} {r = r} listed unasked stay rest) = sym (names_unstrict k n a r stay.holds)
strict_same (becomes {k = k} {l = l} {n = n} {m = m} {a = a} {b = b} {r = r} {s = s} part may bare rest) = not_strict l m b s (new_unasked part) ∙ sym (not_strict k n a r (old_unasked part))

list_node : (w : Around) (k : Kind) (n m : Note) (a b r s : Forest) → Sheds (entered w k a) a b → is_strict_list (node k m b s) ≡ is_strict_list (node k n a r)
list_node w statements n m a b r s below = strict_same below
list_node w k n m a b r s below = refl

pub list_same : {w : Around} {t u : Forest} → may_leave w.row ≡ false → Sheds w t u → is_strict_list u ≡ is_strict_list t
list_same stays ends = refl
list_same stays (keeps_absent rest) = refl
list_same stays (keeps {w = w} {k = k} {n = n} {m = m} {a = a} {b = b} {r = r} {s = s} one below rest) = list_node w k n m a b r s below
list_same stays (leaves may out strict rest) = absurd (cc (stays, may))
list_same stays (empties may rest) = refl
list_same stays (empties_idle {k = k} {n = n} {a = a} {r = r} idle loops may unnamed rest) = idle_kinds (λ z. false ≡ is_strict_list (node z n a r)) refl refl refl refl refl (λ label. refl) k idle
list_same stays (states listed unasked out rest) = absurd (cc (stays, ap may_leave listed))
list_same stays (leaves_names listed unasked stay rest) = absurd (cc (stays, ap may_leave listed))
list_same stays (becomes {k = k} {l = l} {n = n} {m = m} {a = a} {b = b} {r = r} {s = s} part may bare rest) = no_strict_list l m b s (new_unasked part) ∙ sym (no_strict_list k n a r (old_unasked part))

function_node : (w : Around) (k : Kind) (n m : Note) (a b r s : Forest) → Sheds (entered w k a) a b → is_strict_function s ≡ is_strict_function r → is_strict_function (node k m b s) ≡ is_strict_function (node k n a r)
function_node w function_body n m a b r s below h = list_same (stays_below w.row function_body refl) below
function_node w k n m a b r s below h = h

pub function_same : {w : Around} {t u : Forest} → may_leave w.row ≡ false → Sheds w t u → is_strict_function u ≡ is_strict_function t
function_same stays ends = refl
function_same stays (keeps_absent rest) = function_same stays rest
function_same stays (keeps {w = w} {k = k} {n = n} {m = m} {a = a} {b = b} {r = r} {s = s} one below rest) = function_node w k n m a b r s below (function_same stays rest)
function_same stays (leaves may out strict rest) = absurd (cc (stays, may))
function_same stays (empties may rest) = function_same stays rest
function_same stays (empties_idle {k = k} {n = n} {a = a} {r = r} idle loops may unnamed rest) = function_same stays rest ∙ idle_kinds (λ z. is_strict_function r ≡ is_strict_function (node z n a r)) refl refl refl refl refl (λ label. refl) k idle
function_same stays (states listed unasked out rest) = absurd (cc (stays, ap may_leave listed))
function_same stays (leaves_names listed unasked stay rest) = absurd (cc (stays, ap may_leave listed))
function_same stays (becomes {k = k} {l = l} {n = n} {m = m} {a = a} {b = b} {r = r} {s = s} part may bare rest) =
    no_body l m b s (new_unasked part) ∙ function_same stays rest ∙ sym (no_body k n a r (old_unasked part))

-- ---- parameters

names_node : (k : Kind) (n m : Note) (a b r s : Forest) → are_names s ≡ are_names r → are_names (node k m b s) ≡ are_names (node k n a r)
names_node (binding_name x) n m a b r s h = h
names_node k n m a b r s h = refl

names_same : {w : Around} {t u : Forest} → may_leave w.row ≡ false → Sheds w t u → are_names u ≡ are_names t
names_same stays ends = refl
names_same stays (keeps_absent rest) = names_same stays rest
names_same stays (keeps {k = k} {n = n} {m = m} {a = a} {b = b} {r = r} {s = s} one below rest) = names_node k n m a b r s (names_same stays rest)
names_same stays (leaves may out strict rest) = absurd (cc (stays, may))
names_same stays (empties may rest) = refl
names_same stays (empties_idle {k = k} {n = n} {a = a} {r = r} idle loops may unnamed rest) = idle_kinds (λ z. false ≡ are_names (node z n a r)) refl refl refl refl refl (λ label. refl) k idle
names_same stays (states listed unasked out rest) = absurd (cc (stays, ap may_leave listed))
names_same stays (leaves_names listed unasked stay rest) = absurd (cc (stays, ap may_leave listed))
names_same stays (becomes {k = k} {l = l} {n = n} {m = m} {a = a} {b = b} {r = r} {s = s} part may bare rest) = no_name l m b s (new_unasked part) ∙ sym (no_name k n a r (old_unasked part))

plain_node : (w : Around) (k : Kind) (n m : Note) (a b r s : Forest) → Sheds (entered w k a) a b → have_plain_parameters s ≡ have_plain_parameters r → have_plain_parameters (node k m b s) ≡ have_plain_parameters (node k n a r)
plain_node w parameters n m a b r s below h = names_same (stays_below w.row parameters refl) below
plain_node w k n m a b r s below h = h

pub plain_same : {w : Around} {t u : Forest} → may_leave w.row ≡ false → Sheds w t u → have_plain_parameters u ≡ have_plain_parameters t
plain_same stays ends = refl
plain_same stays (keeps_absent rest) = plain_same stays rest
plain_same stays (keeps {w = w} {k = k} {n = n} {m = m} {a = a} {b = b} {r = r} {s = s} one below rest) = plain_node w k n m a b r s below (plain_same stays rest)
plain_same stays (leaves may out strict rest) = absurd (cc (stays, may))
plain_same stays (empties may rest) = plain_same stays rest
plain_same stays (empties_idle {k = k} {n = n} {a = a} {r = r} idle loops may unnamed rest) = plain_same stays rest ∙ idle_kinds (λ z. have_plain_parameters r ≡ have_plain_parameters (node z n a r)) refl refl refl refl refl (λ label. refl) k idle
plain_same stays (states listed unasked out rest) = absurd (cc (stays, ap may_leave listed))
plain_same stays (leaves_names listed unasked stay rest) = absurd (cc (stays, ap may_leave listed))
plain_same stays (becomes {k = k} {l = l} {n = n} {m = m} {a = a} {b = b} {r = r} {s = s} part may bare rest) =
    no_parameters l m b s (new_unasked part) ∙ plain_same stays rest ∙ sym (no_parameters k n a r (old_unasked part))

-- ---- classes

key_node : (k : Kind) (n m : Note) (a b r s : Forest) → private_key_of (node k m b s) ≡ private_key_of (node k n a r)
key_node (private_name x) n m a b r s = refl
key_node k n m a b r s = refl

key_same : {w : Around} {t u : Forest} → may_leave w.row ≡ false → Sheds w t u → private_key_of u ≡ private_key_of t
key_same stays ends = refl
key_same stays (keeps_absent rest) = refl
key_same stays (keeps {k = k} {n = n} {m = m} {a = a} {b = b} {r = r} {s = s} one below rest) = key_node k n m a b r s
key_same stays (leaves may out strict rest) = absurd (cc (stays, may))
key_same stays (empties may rest) = refl
key_same stays (empties_idle {k = k} {n = n} {a = a} {r = r} idle loops may unnamed rest) = idle_kinds (λ z. [] ≡ private_key_of (node z n a r)) refl refl refl refl refl (λ label. refl) k idle
key_same stays (states listed unasked out rest) = absurd (cc (stays, ap may_leave listed))
key_same stays (leaves_names listed unasked stay rest) = absurd (cc (stays, ap may_leave listed))
key_same stays (becomes {k = k} {l = l} {n = n} {m = m} {a = a} {b = b} {r = r} {s = s} part may bare rest) = no_private_key l m b s (new_unasked part) ∙ sym (no_private_key k n a r (old_unasked part))

privates_node : (w : Around) (k : Kind) (n m : Note) (a b r s : Forest) → Sheds (entered w k a) a b → (may_leave (row_below w.row k) ≡ false → privates_of b ≡ privates_of a) → privates_of s ≡ privates_of r
    → privates_of (node k m b s) ≡ privates_of (node k n a r)
privates_node w class_body n m a b r s below f h = ap (λ xs. xs ++ privates_of s) (f (stays_below w.row class_body refl)) ∙ ap (λ ys. privates_of a ++ ys) h
privates_node w members n m a b r s below f h = ap (λ xs. xs ++ privates_of s) (f (stays_below w.row members refl)) ∙ ap (λ ys. privates_of a ++ ys) h
privates_node w (method_definition how is_static key_below) n m a b r s below f h =
    ap (λ xs. xs ++ privates_of s) (key_same (stays_below w.row (method_definition how is_static key_below) refl) below) ∙ ap (λ ys. private_key_of a ++ ys) h
privates_node w (property_definition is_static key_below) n m a b r s below f h =
    ap (λ xs. xs ++ privates_of s) (key_same (stays_below w.row (property_definition is_static key_below) refl) below) ∙ ap (λ ys. private_key_of a ++ ys) h
privates_node w k n m a b r s below f h = h

pub privates_same : {w : Around} {t u : Forest} → may_leave w.row ≡ false → Sheds w t u → privates_of u ≡ privates_of t
privates_same stays ends = refl
privates_same stays (keeps_absent rest) = privates_same stays rest
privates_same stays (keeps {w = w} {k = k} {n = n} {m = m} {a = a} {b = b} {r = r} {s = s} one below rest) = privates_node w k n m a b r s below (λ d. privates_same d below) (privates_same stays rest)
privates_same stays (leaves may out strict rest) = absurd (cc (stays, may))
privates_same stays (empties may rest) = privates_same stays rest
privates_same stays (empties_idle {k = k} {n = n} {a = a} {r = r} idle loops may unnamed rest) = privates_same stays rest ∙ idle_kinds (λ z. privates_of r ≡ privates_of (node z n a r)) refl refl refl refl refl (λ label. refl) k idle
privates_same stays (states listed unasked out rest) = absurd (cc (stays, ap may_leave listed))
privates_same stays (leaves_names listed unasked stay rest) = absurd (cc (stays, ap may_leave listed))
privates_same stays (becomes {k = k} {l = l} {n = n} {m = m} {a = a} {b = b} {r = r} {s = s} part may bare rest) =
    no_privates l m b s (new_unasked part) ∙ privates_same stays rest ∙ sym (no_privates k n a r (old_unasked part))

pub extends_same : {w : Around} {t u : Forest} → may_leave w.row ≡ false → Sheds w t u → extends_another u ≡ extends_another t
extends_same {t = t} {u = u} stays h = ap (λ x. not (is_absent x)) (behind_is u) ∙ ap not (absent_same stays (behind_left stays h)) ∙ ap (λ x. not (is_absent x)) (sym (behind_is t))

named_same : (p q : ℕ) (half : Half) (is_static : Bool) (xs ys : List (List ℕ)) → ys ≡ xs → Fewer Private SamePrivate (privates_named ys p half is_static) (privates_named xs q half is_static)
named_same p q half is_static [] ys e = rw e none
named_same p q half is_static (x ∷ xs) ys e = rw e (both (refl, refl, refl) none)

private_node : (w : Around) (k : Kind) (p q : ℕ) (a b : Forest) → Sheds (entered w k a) a b → Fewer Private SamePrivate (private_of k p b) (private_of k q a)
private_node w (method_definition how is_static key_below) p q a b below =
    named_same _ _ (half_of how) is_static (private_key_of a) (private_key_of b) (key_same (stays_below w.row (method_definition how is_static key_below) refl) below)
private_node w (property_definition is_static key_below) p q a b below = named_same _ _ whole is_static (private_key_of a) (private_key_of b) (key_same (stays_below w.row (property_definition is_static key_below) refl) below)
private_node w k p q a b below = none

pub privates_fewer : (p q : ℕ) {w : Around} {t u : Forest} → may_leave w.row ≡ false → Sheds w t u → Fewer Private SamePrivate (privates_among p u) (privates_among q t)
privates_fewer p q stays ends = none
privates_fewer p q stays (keeps_absent rest) = privates_fewer p q stays rest
privates_fewer p q stays (keeps {w = w} {k = k} {n = n} {m = m} {a = a} {b = b} one below rest) =
    beside (private_node w k p q a b below) (privates_fewer (p + node_count (node k m b nothing)) (q + node_count (node k n a nothing)) stays rest)
privates_fewer p q stays (leaves may out strict rest) = absurd (cc (stays, may))
privates_fewer p q stays (empties may rest) = privates_fewer _ _ stays rest
privates_fewer p q stays (empties_idle {k = k} {a = a} idle loops may unnamed rest) = behind_all (private_of k q a) (privates_fewer _ _ stays rest)
privates_fewer p q stays (states listed unasked out rest) = absurd (cc (stays, ap may_leave listed))
privates_fewer p q stays (leaves_names listed unasked stay rest) = absurd (cc (stays, ap may_leave listed))
privates_fewer p q stays (becomes {k = k} {l = l} {n = n} {m = m} {a = a} {b = b} {r = r} {s = s} part may bare rest) =
    rw (no_private l p b (new_unasked part), no_private k q a (old_unasked part)) (privates_fewer _ _ stays rest)

-- ---- loops, `super`, and names in parentheses

loop_node : (w : Around) (k : Kind) (n m : Note) (a b r s : Forest) → (may_leave (row_below w.row k) ≡ false → labeled_below k ≡ true → is_loop b ≡ is_loop a) → is_loop (node k m b s) ≡ is_loop (node k n a r)
loop_node w (labeled_statement label) n m a b r s f = f (stays_below w.row (labeled_statement label) refl) refl
loop_node w k n m a b r s f = refl

-- behind a label
pub loop_same : {w : Around} {t u : Forest} → may_leave w.row ≡ false → w.is_labeled ≡ true → Sheds w t u → is_loop u ≡ is_loop t
loop_same stays labeled ends = refl
loop_same stays labeled (keeps_absent rest) = refl
loop_same stays labeled (keeps {w = w} {k = k} {n = n} {m = m} {a = a} {b = b} {r = r} {s = s} one below rest) = loop_node w k n m a b r s (λ d e. loop_same d e below)
loop_same stays labeled (leaves may out strict rest) = absurd (cc (stays, may))
loop_same stays labeled (empties may rest) = refl
loop_same stays labeled (empties_idle idle loops may unnamed rest) = sym (loops labeled)
loop_same stays labeled (states listed unasked out rest) = absurd (cc (stays, ap may_leave listed))
loop_same stays labeled (leaves_names listed unasked stay rest) = absurd (cc (stays, ap may_leave listed))
loop_same stays labeled (becomes {k = k} {l = l} {n = n} {m = m} {a = a} {b = b} {r = r} {s = s} part may bare rest) = no_loop l m b s (new_unasked part) ∙ sym (no_loop k n a r (old_unasked part))

super_node : (k : Kind) (n m : Note) (a b r s : Forest) → first_is_super (node k m b s) ≡ first_is_super (node k n a r)
super_node super n m a b r s = refl
super_node k n m a b r s = refl

pub super_same : {w : Around} {t u : Forest} → may_leave w.row ≡ false → Sheds w t u → first_is_super u ≡ first_is_super t
super_same stays ends = refl
super_same stays (keeps_absent rest) = refl
super_same stays (keeps {k = k} {n = n} {m = m} {a = a} {b = b} {r = r} {s = s} one below rest) = super_node k n m a b r s
super_same stays (leaves may out strict rest) = absurd (cc (stays, may))
super_same stays (empties may rest) = refl
super_same stays (empties_idle {k = k} {n = n} {a = a} {r = r} idle loops may unnamed rest) = idle_kinds (λ z. false ≡ first_is_super (node z n a r)) refl refl refl refl refl (λ label. refl) k idle
super_same stays (states listed unasked out rest) = absurd (cc (stays, ap may_leave listed))
super_same stays (leaves_names listed unasked stay rest) = absurd (cc (stays, ap may_leave listed))
super_same stays (becomes {k = k} {l = l} {n = n} {m = m} {a = a} {b = b} {r = r} {s = s} part may bare rest) = no_super l m b s (new_unasked part) ∙ sym (no_super k n a r (old_unasked part))

bare_node : (w : Around) (k : Kind) (n m : Note) (a b r s : Forest) → w.is_deleted ≡ true → (may_leave (row_below w.row k) ≡ false → deleted_below w.is_deleted k ≡ true → is_bare_name b ≡ true → is_bare_name a ≡ true)
    → is_bare_name (node k m b s) ≡ true → is_bare_name (node k n a r) ≡ true
bare_node w (reference_name x) n m a b r s taken f h = refl
bare_node w parenthesized_expression n m a b r s taken f h = f (stays_below w.row parenthesized_expression refl) taken h
bare_node w k n m a b r s taken f h = absurd (true≢false (sym h))

not_out : (taken : Bool) (part : Forest) → taken ≡ true → may_come_out taken part ≡ true → is_bare_name part ≡ false
not_out true part h may = not_true (is_bare_name part) may
not_out false part h may = absurd cc

-- where `delete` takes them
pub bare_kept : {w : Around} {t u : Forest} → may_leave w.row ≡ false → w.is_deleted ≡ true → Sheds w t u → is_bare_name u ≡ true → is_bare_name t ≡ true
bare_kept stays taken ends h = h
bare_kept stays taken (keeps_absent rest) h = h
bare_kept stays taken (keeps {w = w} {k = k} {n = n} {m = m} {a = a} {b = b} {r = r} {s = s} one below rest) h = bare_node w k n m a b r s taken (λ d e. bare_kept d e below) h
bare_kept stays taken (leaves may out strict rest) h = absurd (cc (stays, may))
bare_kept stays taken (empties may rest) h = h
bare_kept stays taken (empties_idle idle loops may unnamed rest) h = absurd (true≢false (sym h))
bare_kept stays taken (states listed unasked out rest) h = absurd (cc (stays, ap may_leave listed))
bare_kept stays taken (leaves_names listed unasked stay rest) h = absurd (cc (stays, ap may_leave listed))
bare_kept stays taken (becomes {w = w} {l = l} {m = m} {b = b} {s = s} part may bare rest) h = absurd (true≢false (sym h ∙ bare_alone l m b s ∙ not_out w.is_deleted (alone l m b) taken bare))

name_node : (k : Kind) (n m : Note) (a b r s : Forest) → is_name_first (node k m b s) ≡ is_name_first (node k n a r)
name_node (binding_name x) n m a b r s = refl
name_node k n m a b r s = refl

pub name_same : {w : Around} {t u : Forest} → may_leave w.row ≡ false → Sheds w t u → is_name_first u ≡ is_name_first t
name_same stays ends = refl
name_same stays (keeps_absent rest) = refl
name_same stays (keeps {k = k} {n = n} {m = m} {a = a} {b = b} {r = r} {s = s} one below rest) = name_node k n m a b r s
name_same stays (leaves may out strict rest) = absurd (cc (stays, may))
name_same stays (empties may rest) = refl
name_same stays (empties_idle {k = k} {n = n} {a = a} {r = r} idle loops may unnamed rest) = idle_kinds (λ z. false ≡ is_name_first (node z n a r)) refl refl refl refl refl (λ label. refl) k idle
name_same stays (states listed unasked out rest) = absurd (cc (stays, ap may_leave listed))
name_same stays (leaves_names listed unasked stay rest) = absurd (cc (stays, ap may_leave listed))
name_same stays (becomes {k = k} {l = l} {n = n} {m = m} {a = a} {b = b} {r = r} {s = s} part may bare rest) = no_bound_name l m b s (new_unasked part) ∙ sym (no_bound_name k n a r (old_unasked part))

-- ---- rests stand last

last_same : {w : Around} {t u : Forest} → may_leave w.row ≡ false → Sheds w t u → is_last u ≡ is_last t
last_same stays ends = refl
last_same stays (keeps_absent rest) = refl
last_same stays (keeps one below rest) = refl
last_same stays (leaves may out strict rest) = absurd (cc (stays, may))
last_same stays (empties may rest) = refl
last_same stays (empties_idle idle loops may unnamed rest) = refl
last_same stays (states listed unasked out rest) = absurd (cc (stays, ap may_leave listed))
last_same stays (leaves_names listed unasked stay rest) = absurd (cc (stays, ap may_leave listed))
last_same stays (becomes part may bare rest) = refl

pub rests_last : (p q : ℕ) {w : Around} {t u : Forest} → may_leave w.row ≡ false → Sheds w t u → early_rests q t ≡ [] → early_rests p u ≡ []
rests_last p q stays ends h = refl
rests_last p q stays (keeps_absent rest) h = rests_last p q stays rest h
rests_last p q stays (keeps {k = k} {n = n} {m = m} {a = a} {b = b} {r = r} one below rest) h =
    let told = left_out (is_rest k && not (is_last r)) q (early_rests (q + node_count (node k n a nothing)) r) h in
    leave_out _ _ _ (ap (λ x. is_rest k && not x) (last_same stays rest) ∙ told.0) (rests_last (p + node_count (node k m b nothing)) (q + node_count (node k n a nothing)) stays rest told.1)
rests_last p q stays (leaves may out strict rest) h = absurd (cc (stays, may))
rests_last p q stays (empties may rest) h = rests_last _ _ stays rest h
rests_last p q stays (empties_idle {k = k} {n = n} {m = m} {a = a} {r = r} idle loops may unnamed rest) h =
    rests_last (p + node_count (node empty_statement m nothing nothing)) (q + node_count (node k n a nothing)) stays rest (left_out (is_rest k && not (is_last r)) q (early_rests (q + node_count (node k n a nothing)) r) h).1
rests_last p q stays (states listed unasked out rest) h = absurd (cc (stays, ap may_leave listed))
rests_last p q stays (leaves_names listed unasked stay rest) h = absurd (cc (stays, ap may_leave listed))
rests_last p q stays (becomes {k = k} {l = l} {n = n} {m = m} {a = a} {b = b} {r = r} {s = s} part may bare rest) h =
    rw (no_rest l (new_unasked part)) (rests_last (p + node_count (node l m b nothing)) (q + node_count (node k n a nothing)) stays rest
    (left_out (is_rest k && not (is_last r)) q (early_rests (q + node_count (node k n a nothing)) r) h).1)
