-- Rows of which nothing leaves: what the rules of form see of their nodes is as it was.
use Rattle.std.proofs.Common.{◌≡◌, suc, Bool, true, false, not, ◌||◌, ◌==◌, if◌then◌else◌, refl, ap}
use Rattle.js_syntax.specs.declared.node_kind.NodeKind.{NodeKind as Kind}
use Rattle.js_syntax.specs.declared.node_kind.NodeKind.TheVariants.{Statements as statements, Declarators as declarators, Specifiers as specifiers, VariableDeclaration as variable_declaration, ImportDeclaration as import_declaration}
use Rattle.js_syntax.specs.Node.{Forest, nothing, node, absent}
use Rattle.form_rules.specs.Context.{is_absent, behind_first}
use Rattle.form_rules.specs.Rules.{behind, length_of}
use Rattle.steps.specs.KeepForm.Sheds.{Row, parts, items, of_item, of_declarators, of_head, of_import, of_specifiers, other, has_statements, row_below, may_leave, keeps_one, Around, entered, Sheds, ends, keeps_absent, keeps, leaves, empties, empties_idle, leaves_names, states, becomes}

-- ---- a row is left of itself

or_not : (b : Bool) → (b || not b) ≡ true
or_not true = refl
or_not false = refl

pub keeps_itself : (row : Row) (a : Forest) → keeps_one row a a ≡ true
keeps_itself of_declarators a = or_not (length_of a == 0)
keeps_itself row a = refl

pub itself : (w : Around) (t : Forest) → Sheds w t t
itself w nothing = ends
itself w (absent r) = keeps_absent (itself w r)
itself w (node k n a r) = keeps (keeps_itself (row_below w.row k) a) (itself (entered w k a) a) (itself w r)

-- ---- which rows are lists that nodes leave

abbrev pub is_list : Kind → Bool
is_list statements = true
is_list declarators = true
is_list specifiers = true
is_list k = false

pub stays_below : (row : Row) (k : Kind) → is_list k ≡ false → may_leave (row_below row k) ≡ false
stays_below row statements h = absurd cc
stays_below row declarators h = absurd cc
stays_below row specifiers h = absurd cc
stays_below parts k h = refl
stays_below items k h = refl
stays_below of_item k h = refl
stays_below of_declarators k h = refl
stays_below of_head k h = refl
stays_below of_import k h = refl
stays_below of_specifiers k h = refl
stays_below other k h = refl

-- ---- first nodes

pub behind_left : {w : Around} {t u : Forest} → may_leave w.row ≡ false → Sheds w t u → Sheds w (behind t) (behind u)
behind_left stays ends = ends
behind_left stays (keeps_absent rest) = rest
behind_left stays (keeps one below rest) = rest
behind_left stays (leaves may out strict rest) = absurd (cc (stays, may))
behind_left stays (empties may rest) = rest
behind_left stays (empties_idle idle loops may unnamed rest) = rest
behind_left stays (states listed unasked out rest) = absurd (cc (stays, ap may_leave listed))
behind_left stays (leaves_names listed unasked stay rest) = absurd (cc (stays, ap may_leave listed))
behind_left stays (becomes part may bare rest) = rest

pub behind_is : (t : Forest) → behind_first t ≡ behind t
behind_is nothing = refl
behind_is (absent r) = refl
behind_is (node k n a r) = refl

pub absent_same : {w : Around} {t u : Forest} → may_leave w.row ≡ false → Sheds w t u → is_absent u ≡ is_absent t
absent_same stays ends = refl
absent_same stays (keeps_absent rest) = refl
absent_same stays (keeps one below rest) = refl
absent_same stays (leaves may out strict rest) = absurd (cc (stays, may))
absent_same stays (empties may rest) = refl
absent_same stays (empties_idle idle loops may unnamed rest) = refl
absent_same stays (states listed unasked out rest) = absurd (cc (stays, ap may_leave listed))
absent_same stays (leaves_names listed unasked stay rest) = absurd (cc (stays, ap may_leave listed))
absent_same stays (becomes part may bare rest) = refl

pub length_same : {w : Around} {t u : Forest} → may_leave w.row ≡ false → Sheds w t u → length_of u ≡ length_of t
length_same stays ends = refl
length_same stays (keeps_absent rest) = length_same stays rest
length_same stays (keeps one below rest) = ap (λ n. suc n) (length_same stays rest)
length_same stays (leaves may out strict rest) = absurd (cc (stays, may))
length_same stays (empties may rest) = ap (λ n. suc n) (length_same stays rest)
length_same stays (empties_idle idle loops may unnamed rest) = ap (λ n. suc n) (length_same stays rest)
length_same stays (states listed unasked out rest) = absurd (cc (stays, ap may_leave listed))
length_same stays (leaves_names listed unasked stay rest) = absurd (cc (stays, ap may_leave listed))
length_same stays (becomes part may bare rest) = ap (λ n. suc n) (length_same stays rest)

-- ---- rows of other kinds

abbrev pub is_usual : Kind → Bool
is_usual statements = false
is_usual declarators = false
is_usual specifiers = false
is_usual (variable_declaration how) = false
is_usual (import_declaration source) = false
is_usual k = not (has_statements k)

usual : (b : Bool) → not b ≡ true → (if b then parts else other) ≡ other
usual true h = absurd cc
usual false h = refl

pub is_other : (row : Row) (k : Kind) → is_usual k ≡ true → row_below row k ≡ other
is_other row statements h = absurd cc
is_other row declarators h = absurd cc
is_other row specifiers h = absurd cc
is_other row (variable_declaration how) h = absurd cc
is_other row (import_declaration source) h = absurd cc
is_other of_item k h = refl
is_other of_head k h = refl
is_other of_import k h = refl
is_other parts k h = usual (has_statements k) h
is_other items k h = usual (has_statements k) h
is_other of_declarators k h = usual (has_statements k) h
is_other of_specifiers k h = usual (has_statements k) h
is_other other k h = usual (has_statements k) h
