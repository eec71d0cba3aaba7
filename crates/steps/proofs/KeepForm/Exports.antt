-- What is left of a row exports nothing else than the row did.
use Rattle.std.proofs.Common.{◌≡◌, ℕ, ◌+◌, List, [], ◌∷◌, Bool, true, false, ◌||◌, if◌then◌else◌, Option, None, Some, refl, sym, ap, ◌∙◌}
use Rattle.std.specs.Str.{bytes_eq}
use Rattle.std.proofs.lemmas.Slice.Eq.{bytes_eq-Decides}
use Rattle.js_tree.specs.Count.{node_count}
use Rattle.js_syntax.specs.declared.node_kind.NodeKind.{NodeKind as Kind}
use Rattle.js_syntax.specs.declared.node_kind.NodeKind.TheVariants.{ExportNamedDeclaration as export_named_declaration, ExportDefaultDeclaration as export_default_declaration, ExportAllDeclaration as export_all_declaration, ExportSpecifier as export_specifier, ForeignSpecifier as foreign_specifier, ReferenceName as reference_name}
use Rattle.js_syntax.specs.declared.value.ModuleName.{ModuleName}
use Rattle.js_syntax.specs.Node.{Note, Forest, nothing, node}
use Rattle.form_rules.specs.declared.sought.Sought.TheVariants.{Scope as scope}
use Rattle.form_rules.specs.declared.sought.Sort.TheVariants.{Lexical as lexical}
use Rattle.form_rules.specs.Scope.{Declared}
use Rattle.form_rules.specs.Rules.{Exported, is_exported, is_declared, exports_of, named_by, all_named, exported_by, exported_among, first_below, local_of, locals_named, locals_by, locals_among, undeclared}
use Rattle.steps.specs.KeepForm.Sheds.{may_leave, Around, entered, outermost, Sheds, ends, keeps_absent, keeps, leaves, empties, empties_idle, leaves_names, states, becomes}
use Rattle.steps.proofs.KeepForm.Asked.{old_unasked, new_unasked, no_export_named, no_local_named, exports_nothing, exports_no_local, asked_there, not_asked}
use Rattle.steps.proofs.KeepForm.Fewer.{Fewer, none, both, more, fewest, behind_all, beside, SameName, SameExport}
use Rattle.steps.proofs.KeepForm.ShedNames.{fewer_declared, one_of_both}
use Rattle.steps.proofs.KeepForm.Rows.{itself, stays_below, behind_left}
use Rattle.js_syntax.proofs.Truth.{second_of_either}

abbrev pub FewerExports : (xs ys : List Exported) → Type 0
FewerExports = Fewer Exported SameExport

-- ---- specifiers

named_node : (k : Kind) (n m : Note) (p q : ℕ) (a b r s : Forest) → FewerExports (named_by p s) (named_by q r) → FewerExports (named_by p (node k m b s)) (named_by q (node k n a r))
named_node (export_specifier exported) n m p q a b r s f = both refl f
named_node (foreign_specifier local exported) n m p q a b r s f = both refl f
named_node k n m p q a b r s f = f

named_less : (k : Kind) (n : Note) (q : ℕ) (a r : Forest) {xs : List Exported} → FewerExports xs (named_by q r) → FewerExports xs (named_by q (node k n a r))
named_less (export_specifier exported) n q a r f = more f
named_less (foreign_specifier local exported) n q a r f = more f
named_less k n q a r f = f

named_fewer : (p q : ℕ) {w : Around} {t u : Forest} → Sheds w t u → FewerExports (named_by p u) (named_by q t)
named_fewer p q ends = none
named_fewer p q (keeps_absent rest) = named_fewer p q rest
named_fewer p q (keeps {k = k} {n = n} {m = m} {a = a} {b = b} {r = r} {s = s} one below rest) = named_node k n m p q a b r s (named_fewer p q rest)
named_fewer p q (leaves {k = k} {n = n} {a = a} {r = r} may out strict rest) = named_less k n q a r (named_fewer p q rest)
named_fewer p q (empties may rest) = named_fewer p q rest
named_fewer p q (empties_idle {k = k} {n = n} {a = a} {r = r} idle loops may unnamed rest) = named_less k n q a r (named_fewer p q rest)
named_fewer p q (states listed unasked out rest) = named_fewer p q rest
named_fewer p q (leaves_names {k = k} {n = n} {a = a} {r = r} listed unasked stay rest) = named_less k n q a r (named_fewer p q rest)
named_fewer p q (becomes {k = k} {l = l} {n = n} {m = m} {a = a} {b = b} {r = r} {s = s} part may bare rest) =
    rw (no_export_named l m p b s (new_unasked part), no_export_named k n q a r (old_unasked part)) (named_fewer p q rest)

named_first : (p q : ℕ) {w : Around} {t u : Forest} → may_leave w.row ≡ false → w.is_asked ≡ true → Sheds w t u → FewerExports (named_by p (first_below u)) (named_by q (first_below t))
named_first p q stays asked ends = none
named_first p q stays asked (keeps_absent rest) = none
named_first p q stays asked (keeps one below rest) = named_fewer p q below
named_first p q stays asked (leaves may out strict rest) = absurd (cc (stays, may))
named_first p q stays asked (empties {a = a} may rest) = fewest (named_by q a)
named_first p q stays asked (empties_idle {a = a} idle loops may unnamed rest) = fewest (named_by q a)
named_first p q stays asked (states listed unasked out rest) = absurd cc
named_first p q stays asked (leaves_names listed unasked stay rest) = absurd (cc (stays, ap may_leave listed))
named_first p q stays asked (becomes {w = w} {k = k} part may bare rest) = absurd (cc (asked, not_asked w k may))

local_node : (k : Kind) (n m : Note) (p q : ℕ) (a b r s : Forest) → FewerExports (local_of p (node k m b s)) (local_of q (node k n a r))
local_node (reference_name x) n m p q a b r s = both refl none
local_node k n m p q a b r s = none

local_fewer : (p q : ℕ) {w : Around} {t u : Forest} → may_leave w.row ≡ false → w.is_asked ≡ true → Sheds w t u → FewerExports (local_of p u) (local_of q t)
local_fewer p q stays asked ends = none
local_fewer p q stays asked (keeps_absent rest) = none
local_fewer p q stays asked (keeps {k = k} {n = n} {m = m} {a = a} {b = b} {r = r} {s = s} one below rest) = local_node k n m p q a b r s
local_fewer p q stays asked (leaves may out strict rest) = absurd (cc (stays, may))
local_fewer p q stays asked (empties may rest) = none
local_fewer p q stays asked (empties_idle {k = k} {n = n} {a = a} {r = r} idle loops may unnamed rest) = fewest (local_of q (node k n a r))
local_fewer p q stays asked (states listed unasked out rest) = absurd cc
local_fewer p q stays asked (leaves_names listed unasked stay rest) = absurd (cc (stays, ap may_leave listed))
local_fewer p q stays asked (becomes {w = w} {k = k} part may bare rest) = absurd (cc (asked, not_asked w k may))

locals_node : (w : Around) (k : Kind) (n m : Note) (p q : ℕ) (a b r s : Forest) → Sheds (entered w k a) a b → FewerExports (locals_named p s) (locals_named q r) → FewerExports (locals_named p (node k m b s)) (locals_named q (node k n a r))
locals_node w (export_specifier exported) n m p q a b r s below f = beside (local_fewer p q (stays_below w.row (export_specifier exported) refl) (asked_there w.row (export_specifier exported) refl) below) f
locals_node w k n m p q a b r s below f = f

locals_less : (k : Kind) (n : Note) (q : ℕ) (a r : Forest) {xs : List Exported} → FewerExports xs (locals_named q r) → FewerExports xs (locals_named q (node k n a r))
locals_less (export_specifier exported) n q a r f = behind_all (local_of q a) f
locals_less k n q a r f = f

locals_named_fewer : (p q : ℕ) {w : Around} {t u : Forest} → Sheds w t u → FewerExports (locals_named p u) (locals_named q t)
locals_named_fewer p q ends = none
locals_named_fewer p q (keeps_absent rest) = locals_named_fewer p q rest
locals_named_fewer p q (keeps {w = w} {k = k} {n = n} {m = m} {a = a} {b = b} {r = r} {s = s} one below rest) = locals_node w k n m p q a b r s below (locals_named_fewer p q rest)
locals_named_fewer p q (leaves {k = k} {n = n} {a = a} {r = r} may out strict rest) = locals_less k n q a r (locals_named_fewer p q rest)
locals_named_fewer p q (empties may rest) = locals_named_fewer p q rest
locals_named_fewer p q (empties_idle {k = k} {n = n} {a = a} {r = r} idle loops may unnamed rest) = locals_less k n q a r (locals_named_fewer p q rest)
locals_named_fewer p q (states listed unasked out rest) = locals_named_fewer p q rest
locals_named_fewer p q (leaves_names {k = k} {n = n} {a = a} {r = r} listed unasked stay rest) = locals_less k n q a r (locals_named_fewer p q rest)
locals_named_fewer p q (becomes {k = k} {l = l} {n = n} {m = m} {a = a} {b = b} {r = r} {s = s} part may bare rest) =
    rw (no_local_named l m p b s (new_unasked part), no_local_named k n q a r (old_unasked part)) (locals_named_fewer p q rest)

locals_first : (p q : ℕ) {w : Around} {t u : Forest} → may_leave w.row ≡ false → w.is_asked ≡ true → Sheds w t u → FewerExports (locals_named p (first_below u)) (locals_named q (first_below t))
locals_first p q stays asked ends = none
locals_first p q stays asked (keeps_absent rest) = none
locals_first p q stays asked (keeps one below rest) = locals_named_fewer p q below
locals_first p q stays asked (leaves may out strict rest) = absurd (cc (stays, may))
locals_first p q stays asked (empties {a = a} may rest) = fewest (locals_named q a)
locals_first p q stays asked (empties_idle {a = a} idle loops may unnamed rest) = fewest (locals_named q a)
locals_first p q stays asked (states listed unasked out rest) = absurd cc
locals_first p q stays asked (leaves_names listed unasked stay rest) = absurd (cc (stays, ap may_leave listed))
locals_first p q stays asked (becomes {w = w} {k = k} part may bare rest) = absurd (cc (asked, not_asked w k may))

-- ---- exports

exports_fewer : (p q : ℕ) {ds es : List Declared} → Fewer Declared SameName ds es → FewerExports (exports_of p ds) (exports_of q es)
exports_fewer p q none = none
exports_fewer p q (both s f) = both s.0 (exports_fewer p q f)
exports_fewer p q (more f) = more (exports_fewer p q f)

all_named_same : (p q : ℕ) (exported : Option ModuleName) → FewerExports (all_named p exported) (all_named q exported)
all_named_same p q None = none
all_named_same p q (Some m) = both refl none

pub exported_by_fewer : (w : Around) (k : Kind) (p q : ℕ) (a b : Forest) → Sheds (entered w k a) a b → FewerExports (exported_by k p b) (exported_by k q a)
exported_by_fewer w (export_named_declaration source) p q a b below =
    let stays = stays_below w.row (export_named_declaration source) refl in
    beside (exports_fewer p q (fewer_declared (scope lexical) p q (λ e. absurd cc) below)) (named_first p q stays (asked_there w.row (export_named_declaration source) refl) (behind_left stays below))
exported_by_fewer w export_default_declaration p q a b below = both refl none
exported_by_fewer w (export_all_declaration exported source) p q a b below = all_named_same p q exported
exported_by_fewer w k p q a b below = none

pub exported_fewer : (p q : ℕ) {w : Around} {t u : Forest} → Sheds w t u → FewerExports (exported_among p u) (exported_among q t)
exported_fewer p q ends = none
exported_fewer p q (keeps_absent rest) = exported_fewer p q rest
exported_fewer p q (keeps {w = w} {k = k} {n = n} {m = m} {a = a} {b = b} one below rest) =
    beside (exported_by_fewer w k p q a b below) (exported_fewer (p + node_count (node k m b nothing)) (q + node_count (node k n a nothing)) rest)
exported_fewer p q (leaves {k = k} {n = n} {a = a} may out strict rest) = behind_all (exported_by k q a) (exported_fewer p (q + node_count (node k n a nothing)) rest)
exported_fewer p q (empties may rest) = exported_fewer _ _ rest
exported_fewer p q (empties_idle {k = k} {a = a} idle loops may unnamed rest) = behind_all (exported_by k q a) (exported_fewer _ _ rest)
exported_fewer p q (states listed unasked out rest) = exported_fewer _ _ rest
exported_fewer p q (leaves_names {k = k} {n = n} {a = a} {r = r} listed unasked stay rest) = behind_all (exported_by k q a) (exported_fewer _ _ rest)
exported_fewer p q (becomes {k = k} {l = l} {n = n} {m = m} {a = a} {b = b} {r = r} {s = s} part may bare rest) =
    rw (exports_nothing l p b (new_unasked part), exports_nothing k q a (old_unasked part)) (exported_fewer _ _ rest)

pub exported_first : (p q : ℕ) {w : Around} {t u : Forest} → may_leave w.row ≡ false → w.is_asked ≡ true → Sheds w t u → FewerExports (exported_among p (first_below u)) (exported_among q (first_below t))
exported_first p q stays asked ends = none
exported_first p q stays asked (keeps_absent rest) = none
exported_first p q stays asked (keeps one below rest) = exported_fewer p q below
exported_first p q stays asked (leaves may out strict rest) = absurd (cc (stays, may))
exported_first p q stays asked (empties {a = a} may rest) = fewest (exported_among q a)
exported_first p q stays asked (empties_idle {a = a} idle loops may unnamed rest) = fewest (exported_among q a)
exported_first p q stays asked (states listed unasked out rest) = absurd cc
exported_first p q stays asked (leaves_names listed unasked stay rest) = absurd (cc (stays, ap may_leave listed))
exported_first p q stays asked (becomes {w = w} {k = k} part may bare rest) = absurd (cc (asked, not_asked w k may))

-- ---- the names of the module that are exported

pub locals_by_fewer : (w : Around) (k : Kind) (p q : ℕ) (a b : Forest) → Sheds (entered w k a) a b → FewerExports (locals_by k p b) (locals_by k q a)
locals_by_fewer w (export_named_declaration None) p q a b below =
    let stays = stays_below w.row (export_named_declaration None) refl in
    locals_first p q stays (asked_there w.row (export_named_declaration None) refl) (behind_left stays below)
locals_by_fewer w k p q a b below = none

pub locals_fewer : (p q : ℕ) {w : Around} {t u : Forest} → Sheds w t u → FewerExports (locals_among p u) (locals_among q t)
locals_fewer p q ends = none
locals_fewer p q (keeps_absent rest) = locals_fewer p q rest
locals_fewer p q (keeps {w = w} {k = k} {n = n} {m = m} {a = a} {b = b} one below rest) =
    beside (locals_by_fewer w k p q a b below) (locals_fewer (p + node_count (node k m b nothing)) (q + node_count (node k n a nothing)) rest)
locals_fewer p q (leaves {k = k} {n = n} {a = a} may out strict rest) = behind_all (locals_by k q a) (locals_fewer p (q + node_count (node k n a nothing)) rest)
locals_fewer p q (empties may rest) = locals_fewer _ _ rest
locals_fewer p q (empties_idle {k = k} {a = a} idle loops may unnamed rest) = behind_all (locals_by k q a) (locals_fewer _ _ rest)
locals_fewer p q (states listed unasked out rest) = locals_fewer _ _ rest
locals_fewer p q (leaves_names {k = k} {n = n} {a = a} {r = r} listed unasked stay rest) = behind_all (locals_by k q a) (locals_fewer _ _ rest)
locals_fewer p q (becomes {k = k} {l = l} {n = n} {m = m} {a = a} {b = b} {r = r} {s = s} part may bare rest) =
    rw (exports_no_local l p b (new_unasked part), exports_no_local k q a (old_unasked part)) (locals_fewer _ _ rest)

pub locals_below_first : (p q : ℕ) {w : Around} {t u : Forest} → may_leave w.row ≡ false → w.is_asked ≡ true → Sheds w t u → FewerExports (locals_among p (first_below u)) (locals_among q (first_below t))
locals_below_first p q stays asked ends = none
locals_below_first p q stays asked (keeps_absent rest) = none
locals_below_first p q stays asked (keeps one below rest) = locals_fewer p q below
locals_below_first p q stays asked (leaves may out strict rest) = absurd (cc (stays, may))
locals_below_first p q stays asked (empties {a = a} may rest) = fewest (locals_among q a)
locals_below_first p q stays asked (empties_idle {a = a} idle loops may unnamed rest) = fewest (locals_among q a)
locals_below_first p q stays asked (states listed unasked out rest) = absurd cc
locals_below_first p q stays asked (leaves_names listed unasked stay rest) = absurd (cc (stays, ap may_leave listed))
locals_below_first p q stays asked (becomes {w = w} {k = k} part may bare rest) = absurd (cc (asked, not_asked w k may))

exported_in_more : (x : List ℕ) {ds es : List Exported} → FewerExports ds es → is_exported x ds ≡ true → is_exported x es ≡ true
exported_in_more x none h = h
exported_in_more x (both {x = d} {y = e} {xs = ds} {ys = es} s f) h = one_of_both (bytes_eq d.name x) (is_exported x ds) (bytes_eq e.name x) (is_exported x es) (λ g. rw (sym s) g) (exported_in_more x f) h
exported_in_more x (more {y = e} {ys = es} f) h = second_of_either (bytes_eq e.name x) (is_exported x es) (exported_in_more x f h)

pub locals_anywhere : (x : List ℕ) (p q : ℕ) (t : Forest) → is_exported x (locals_among p t) ≡ true → is_exported x (locals_among q t) ≡ true
locals_anywhere x p q t h = exported_in_more x (locals_fewer p q (itself outermost t)) h

is_told : (b : Bool) (n : ℕ) (ns : List ℕ) → (if b then ns else n ∷ ns) ≡ [] → (b ≡ true) × (ns ≡ [])
is_told true n ns h = (refl, h)
is_told false n ns h = absurd cc

tell : (b : Bool) (n : ℕ) (ns : List ℕ) → b ≡ true → ns ≡ [] → (if b then ns else n ∷ ns) ≡ []
tell true n ns h g = g
tell false n ns h g = absurd cc

pub none_undeclared : (ds es : List Declared) {xs ys : List Exported} → FewerExports xs ys → ((x : List ℕ) → is_exported x ys ≡ true → is_declared x es ≡ true → is_declared x ds ≡ true) → undeclared es ys ≡ [] → undeclared ds xs ≡ []
none_undeclared ds es none f h = refl
none_undeclared ds es (both {x = x} {y = y} {xs = xs} {ys = ys} s g) f h =
    let told = is_told (is_declared y.name es) y.place (undeclared es ys) h in
    tell (is_declared x.name ds) x.place (undeclared ds xs)
    (ap (λ z. is_declared z ds) s ∙ f y.name (ap (λ b. b || is_exported y.name ys) ((bytes_eq-Decides y.name y.name).1 refl)) told.0)
    (none_undeclared ds es g (λ z e. f z (second_of_either (bytes_eq y.name z) (is_exported z ys) e)) told.1)
none_undeclared ds es (more {y = y} {ys = ys} g) f h =
    none_undeclared ds es g (λ z e. f z (second_of_either (bytes_eq y.name z) (is_exported z ys) e)) (is_told (is_declared y.name es) y.place (undeclared es ys) h).1
