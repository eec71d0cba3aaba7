-- By an edit a program that is laid out sheds what it may shed.
use Rattle.std.proofs.Common.{◌≡◌, ◌∙◌, ◌⊎◌, inl, inr, List, ℕ, suc, ◌+◌, ◌==◌, Bool, true, false, not, ◌||◌, Option, Some, refl, sym, ap, subst, true≢false, arith}
use Rattle.std.proofs.lemmas.Bool.Decides.{nat_tests}
use Rattle.js_syntax.specs.declared.node_kind.NodeKind.{NodeKind as Kind}
use Rattle.js_syntax.specs.declared.node_kind.NodeKind.TheVariants.{Statements as statements, EmptyStatement as empty_statement, ExpressionStatement as expression_statement, VariableDeclaration as variable_declaration, Declarators as declarators, ImportDeclaration as import_declaration, Specifiers as specifiers}
use Rattle.js_syntax.specs.Node.{Note, Forest, Tree, nothing, node, absent}
use Rattle.js_syntax.proofs.Truth.{not_true, second_of_either}
use Rattle.form_rules.specs.Context.{has_use_strict}
use Rattle.form_rules.specs.Rules.{length_of}
use Rattle.json_shape.specs.Shape.{is_directive_kind}
use Rattle.min_pass.specs.declared.around.Around.{Around as Asked}
use Rattle.min_pass.specs.declared.around.Row.{Row as AskedRow}
use Rattle.min_pass.specs.declared.around.Row.TheVariants.{Items as items, OfItem as of_item, Declarators as item_declarators, Other as other}
use Rattle.min_pass.specs.Around.{is_with, row_below as asked_row_below, entered as asked_below, outermost as asked_of_program}
use Rattle.scope_rules.specs.Context.{Context, inside, outermost as outermost_context}
use Rattle.scope_rules.specs.Site.{opens_one, scope_count, sites}
use Rattle.scope_laws.specs.Place.{Around as Place, first, behind, behind_none, under, plug}
use Rattle.scope_laws.specs.Lists.{without}
use Rattle.steps.specs.Allowed.Silent.{HoldsThere}
use Rattle.steps.specs.Allowed.Imports.{ImportRow, below_import, in_names, elsewhere, names_below, import_row_below, import_row}
use Rattle.steps.specs.Allowed.Places.{a_node, asked_at, has_node, has_other, At}
use Rattle.steps.specs.Owed.Owed.{IsListed, IsUnexported, Leaving}
use Rattle.steps.specs.KeepForm.Sheds.{Row, parts, of_declarators, of_import, of_specifiers, row_below, may_leave, Around, entered, outermost, exports_none, keeps_one, Sheds, keeps_absent, keeps, leaves, empties, sought_inside, exported_below}
use Rattle.steps.specs.KeepForm.Sheds as shed
use Rattle.steps.specs.KeepForm.Layout.{is_parts, stands_right, is_laid_out, IsLaidOut}
use Rattle.steps.proofs.KeepForm.Laid.{laid_absent, laid_order, laid_right, laid_below, laid_behind}
use Rattle.steps.proofs.KeepForm.Rows.{itself, keeps_itself}
use Rattle.steps.specs.Owed.Seeking.{Within, Seeks}
use Rattle.steps.proofs.Owed.Seeking.{within_below, within_later, seeks_inside}

-- ---- rows of both relations

abbrev pub Fit : AskedRow → Row → Type 0
Fit items m = m ≡ shed.items
Fit of_item m = m ≡ shed.of_item
Fit item_declarators m = m ≡ of_declarators
Fit other m = Unit {0}

items_of_parts : (m : Row) → is_parts m ≡ true → row_below m statements ≡ shed.items
items_of_parts parts h = refl
items_of_parts m h = absurd cc

pub fit_inside : (row : AskedRow) (m : Row) (k : Kind) (a : Forest) → stands_right m k a ≡ true → Fit row m → Fit (asked_row_below row k) (row_below m k)
fit_inside row m statements a right h = items_of_parts m right
fit_inside items m (variable_declaration how) a right h = ap (λ x. row_below x (variable_declaration how)) h
fit_inside of_item m (variable_declaration how) a right h = tt
fit_inside item_declarators m (variable_declaration how) a right h = tt
fit_inside other m (variable_declaration how) a right h = tt
fit_inside of_item m declarators a right h = ap (λ x. row_below x declarators) h
fit_inside items m declarators a right h = tt
fit_inside item_declarators m declarators a right h = tt
fit_inside other m declarators a right h = tt
fit_inside row m k a right h = tt

-- and of imports
abbrev FitImport : ImportRow → Row → Type 0
FitImport below_import m = m ≡ of_import
FitImport in_names m = m ≡ of_specifiers
FitImport elsewhere m = Unit {0}

of_any_import : (m : Row) (source : List ℕ) (a : Forest) → stands_right m (import_declaration source) a ≡ true → row_below m (import_declaration source) ≡ of_import
of_any_import shed.of_item source a right = absurd cc
of_any_import shed.of_head source a right = absurd cc
of_any_import m source a right = refl

names_fit : (r : ImportRow) (m : Row) → FitImport r m → FitImport (names_below r) (row_below m specifiers)
names_fit below_import m h = ap (λ x. row_below x specifiers) h
names_fit in_names m h = tt
names_fit elsewhere m h = tt

import_inside : (r : ImportRow) (m : Row) (k : Kind) (a : Forest) → stands_right m k a ≡ true → FitImport r m → FitImport (import_row_below r k) (row_below m k)
import_inside r m (import_declaration source) a right h = of_any_import m source a right
import_inside r m specifiers a right h = names_fit r m h
import_inside r m k a right h = tt

-- what leaves is an item, a declarator beside another, or a name of an import
abbrev MayGo : (before : Bool) → Asked → ImportRow → Place → Type 0
MayGo before w r a = ((asked_at w a).row ≡ items) ⊎ ((((asked_at w a).row ≡ item_declarators) × (has_other before a ≡ true)) ⊎ (import_row r a ≡ in_names))

first_may : (m : Row) (w : Asked) (r : ImportRow) (before : Bool) (rest : Forest) → Fit w.row m → FitImport r m → MayGo before w r (first rest) → may_leave m ≡ true
first_may m w r before rest fit imports (inl e) = ap may_leave (subst (λ r. Fit r m) e fit)
first_may m w r before rest fit imports (inr (inl e)) = ap may_leave (subst (λ r. Fit r m) e.0 fit)
first_may m w r before rest fit imports (inr (inr e)) = ap may_leave (subst (λ r. FitImport r m) e imports)

-- ---- a declaration keeps a declarator

some : (n : ℕ) → not (suc n == 0) ≡ true
some n = grind (arith, nat_tests)

some_node : (rest : Forest) → has_node rest ≡ true → not (length_of rest == 0) ≡ true
some_node nothing h = absurd (true≢false (sym h))
some_node (absent rest) h = some_node rest h
some_node (node k n a rest) h = some (length_of rest)

no_items : (m : Row) → m ≡ shed.items → m ≡ of_declarators → ⊥
no_items m e f = cc

no_specifiers : (m : Row) → m ≡ of_specifiers → m ≡ of_declarators → ⊥
no_specifiers m e f = cc

others_left : (w : Asked) (r : ImportRow) (x : Option Tree) (a : Place) → Fit w.row of_declarators → FitImport r of_declarators → is_laid_out of_declarators (plug a x) ≡ true → MayGo false w r a → not (length_of (without a) == 0) ≡ true
others_left w r x (first rest) fit imports laid (inl e) = absurd (no_items of_declarators (subst (λ r. Fit r of_declarators) e fit) refl)
others_left w r x (first rest) fit imports laid (inr (inl e)) = some_node rest e.1
others_left w r x (first rest) fit imports laid (inr (inr e)) = absurd (no_specifiers of_declarators (subst (λ r. FitImport r of_declarators) e imports) refl)
others_left w r x (behind k n b a) fit imports laid may = some (length_of (without a))
others_left w r x (behind_none a) fit imports laid may = absurd (true≢false (sym laid))
others_left w r x (under k n a rest) fit imports laid may = some (length_of rest)

keeps_others : (m : Row) (w : Asked) (r : ImportRow) (x : Option Tree) (a : Place) → Fit w.row m → FitImport r m → is_laid_out m (plug a x) ≡ true → MayGo false w r a → keeps_one m (plug a x) (without a) ≡ true
keeps_others of_declarators w r x a fit imports laid may = second_of_either (length_of (plug a x) == 0) (not (length_of (without a) == 0)) (others_left w r x a fit imports laid may)
keeps_others m w r x a fit imports laid may = refl

-- ---- a node leaves

not_strict : (k : Kind) (n : Note) (a r : Forest) → is_directive_kind k ≡ false → has_use_strict (node k n a r) ≡ false
not_strict (Kind.Directive written) n a r e = absurd (true≢false e)
not_strict k n a r e = refl

module _ (t : Forest) (x : Tree) (no_directive : is_directive_kind x.kind ≡ false) where
  node_leaves : (a : Place) (before : Bool) (z : Around) (w : Asked) (r : ImportRow) (b : Bool) (cs : ℕ → Context) (at next : ℕ) → Fit w.row z.row → FitImport r z.row → ((i : ℕ) → Seeks t z.sought z.exported (cs i)) → Within t (sites cs at next (plug a (Some x)))
      → is_laid_out z.row (plug a (Some x)) ≡ true → MayGo before w r a → HoldsThere b cs at next a (Some x) (IsUnexported t x) → Sheds z (plug a (Some x)) (without a)
  node_leaves (first rest) before z w r b cs at next fit imports seeks within laid may h =
      leaves (first_may z.row w r before rest fit imports may)
      (h z (within_below t cs at next x.kind x.note x.below rest within) (laid_right z.row x.kind x.note x.below rest laid) (seeks at))
      (not_true (has_use_strict rest) (ap (λ d. d || not (has_use_strict rest)) (sym no_directive) ∙ laid_order z.row x.kind x.note x.below rest laid) ∙ sym (not_strict x.kind x.note x.below rest no_directive)) (itself z rest)
  node_leaves (behind k n below a) before z w r b cs at next fit imports seeks within laid may h =
      keeps (keeps_itself (row_below z.row k) below) (itself (entered z k below) below)
      (node_leaves a true z w r b cs (suc at) (next + scope_count (node k n below nothing)) fit imports seeks (within_later t cs at next k n below (plug a (Some x)) within) (laid_behind z.row k n below (plug a (Some x)) laid) may h)
  node_leaves (behind_none a) before z w r b cs at next fit imports seeks within laid may h = keeps_absent (node_leaves a before z w r b cs (suc at) next fit imports seeks within (laid_absent z.row (plug a (Some x)) laid) may h)
  node_leaves (under k n a rest) before z w r b cs at next fit imports seeks within laid may h =
      let below = plug a (Some x) in
      let right = laid_right z.row k n below rest laid in
      let inner = laid_below z.row k n below rest laid in
      let stands = within_below t cs at next k n below rest within in
      let fits = fit_inside w.row z.row k below right fit in
      let names = import_inside r z.row k below right imports in
      keeps (keeps_others (row_below z.row k) (asked_below w k) (import_row_below r k) (Some x) a fits names inner may)
      (node_leaves a false (entered z k below) (asked_below w k) (import_row_below r k) (b || is_with k) (inside (cs at) next k below) 0 (next + opens_one k below) fits names
      (λ i. seeks_inside t z.row z.sought z.exported (cs at) next k below i stands right inner (seeks at)) stands inner may h) (itself z rest)

-- ---- a statement becomes empty

module _ (n m : Note) (expression : Forest) where
  abbrev before : Option Tree
  before = a_node expression_statement n expression

  abbrev now : Option Tree
  now = a_node empty_statement m nothing

  one_stays : (a : Place) → is_laid_out of_declarators (plug a before) ≡ true → not (length_of (plug a now) == 0) ≡ true
  one_stays (first rest) laid = some (length_of rest)
  one_stays (behind k i b a) laid = some (length_of (plug a now))
  one_stays (behind_none a) laid = absurd (true≢false (sym laid))
  one_stays (under k i a rest) laid = some (length_of rest)

  keeps_all : (row : Row) (a : Place) → is_laid_out row (plug a before) ≡ true → keeps_one row (plug a before) (plug a now) ≡ true
  keeps_all of_declarators a laid = second_of_either (length_of (plug a before) == 0) (not (length_of (plug a now) == 0)) (one_stays a laid)
  keeps_all row a laid = refl

  statement_empties : (a : Place) (z : Around) → is_laid_out z.row (plug a before) ≡ true → Sheds z (plug a before) (plug a now)
  statement_empties (first rest) z laid = empties (laid_right z.row expression_statement n expression rest laid) (itself z rest)
  statement_empties (behind k i b a) z laid = keeps (keeps_itself (row_below z.row k) b) (itself (entered z k b) b) (statement_empties a z (laid_behind z.row k i b (plug a before) laid))
  statement_empties (behind_none a) z laid = keeps_absent (statement_empties a z (laid_absent z.row (plug a before) laid))
  statement_empties (under k i a rest) z laid =
      let inner = laid_below z.row k i (plug a before) rest laid in
      keeps (keeps_all (row_below z.row k) a inner) (statement_empties a (entered z k (plug a before)) inner) (itself z rest)

-- ---- each shape

pub all_within : (t : Forest) → Within t (sites (λ at. outermost_context) 0 0 t)
all_within t = record { binding = λ b h. h; reference = λ r h. h }

pub item_sheds : (a : Place) (x : Tree) → is_directive_kind x.kind ≡ false → IsListed a → At a (Some x) (IsUnexported (plug a (Some x)) x) → IsLaidOut (plug a (Some x)) → Sheds outermost (plug a (Some x)) (without a)
item_sheds a x no_directive listed unexported laid =
    node_leaves (plug a (Some x)) x no_directive a false outermost (asked_of_program true) elsewhere false (λ i. outermost_context) 0 0 tt tt (λ i. tt) (all_within (plug a (Some x))) laid listed unexported

pub leaving_sheds : (a : Place) (x : Tree) → Leaving a x → IsLaidOut (plug a (Some x)) → Sheds outermost (plug a (Some x)) (without a)
leaving_sheds a x owed = item_sheds a x owed.no_directive owed.listed owed.unexported

pub emptied_sheds : (a : Place) (n m : Note) (expression : Forest) → IsLaidOut (plug a (a_node expression_statement n expression)) → Sheds outermost (plug a (a_node expression_statement n expression)) (plug a (a_node empty_statement m nothing))
emptied_sheds a n m expression laid = statement_empties n m expression a outermost laid
