-- What leaves a list by an edit has no direct call of `eval`, but behind a jump.
use Rattle.std.proofs.Common.{◌≡◌, ◌∙◌, ◌≤◌, ◌+◌, ◌==◌, ℕ, zero, suc, Bool, true, false, ◌||◌, true≢false, if◌then◌else◌, is_some, Some, None, bytes_eq, codes, refl, sym, ap, arith}
use Rattle.std.proofs.lemmas.Bool.{and_parts, eqb-true}
use Rattle.js_syntax.specs.declared.node_kind.NodeKind.{NodeKind as Kind}
use Rattle.js_syntax.specs.declared.node_kind.NodeKind.TheVariants as kind
use Rattle.js_syntax.specs.Class.{root}
use Rattle.js_syntax.specs.Node.{Forest, Tree, Note, nothing, node, absent, forest_of}
use Rattle.js_syntax.proofs.Truth.{first_of_either, second_of_either, first_of_neither, second_of_neither, neither}
use Rattle.js_tree.specs.Names.{eval_name, eval_of_call}
use Rattle.json_shape.specs.Shape.{Fits}
use Rattle.form_rules.specs.Context.{behind_first}
use Rattle.scope_rules.specs.Context.{has_second}
use Rattle.scope_rules.specs.Site.{has_eval, scope_row}
use Rattle.scope_rules.specs.Table.{Scoping}
use Rattle.scope_laws.specs.Place as places
use Rattle.scope_laws.specs.Place.{Around, first, under}
use Rattle.scope_laws.specs.Lists.{without}
use Rattle.steps.proofs.Fit.Modules.{fits_program, ends}
use Rattle.steps.specs.Allowed.EmptyStatement.{empty_statement_leaves}
use Rattle.steps.specs.Allowed.EmptyBlock.{is_idle, idles, holds_nothing, empty_block_leaves}
use Rattle.steps.specs.Allowed.UnusedFunction.{unused_function_leaves}
use Rattle.steps.specs.Allowed.UnusedDeclarator.{unused_declarator_leaves}
use Rattle.steps.specs.Allowed.UnusedDeclaration.{unused_declaration_leaves}
use Rattle.steps.specs.Allowed.UnusedImport.{unused_import_leaves}
use Rattle.steps.specs.Allowed.Unreached.{is_behind_jump, never_runs}
use Rattle.steps.specs.Allowed.IdleStatement.{does_nothing, idle_leaves}
use Rattle.steps.specs.Allowed.RepeatedImport.{repeated_import_leaves}
use Rattle.steps.specs.Allowed.Untaken.{is_untaken, never_taken}
use Rattle.steps.specs.Allowed.Edits as edits
use Rattle.steps.specs.Allowed.Edits.{Leaves}
use Rattle.steps.specs.Allowed.Exposure.{Exposure, exposed_inside, exposed_at, exposed_of, exposure, evaluates_somewhere, shares}
use Rattle.steps.specs.Owed.Kept.{is_program}
use Rattle.steps.proofs.Owed.IdleRuns.{held}
use Rattle.steps.proofs.Owed.ImportFacts.{import_facts}
use Rattle.steps.specs.Marked.Flags.{is_within}
use Rattle.steps.proofs.Marked.Exposing.{Only, never}
use Rattle.min_context.specs.Edited.{evals}
use Rattle.rules.proofs.Told.Standing.{exposed_in_scope, inside_reads, scope_evaluates}
use Rattle.rules.specs.Told.Parts.{FlagsTellOnly}
use Rattle.rules.proofs.Told.Trims.{calls, only_fewer, evals_some}
use Rattle.rules.proofs.Told.Edited.{edit_fewer, edits_told_only}

-- ---- rows with a call

abbrev has_call : Kind → Forest → Bool
has_call k below = is_some (eval_of_call k below) || has_eval below

-- what has a call makes its row have one
call_there : (a : Around) (x : Tree) → has_call x.kind x.below ≡ true → has_eval (places.plug a (Some x)) ≡ true
call_there (first rest) x e = first_of_either (has_call x.kind x.below) (has_eval rest) e
call_there (places.behind k n b a) x e = second_of_either (has_call k b) (has_eval (places.plug a (Some x))) (call_there a x e)
call_there (places.behind_none a) x e = call_there a x e
call_there (under k n a rest) x e =
    let row = places.plug a (Some x) in first_of_either (has_call k row) (has_eval rest) (second_of_either (is_some (eval_of_call k row)) (has_eval row) (call_there a x e))

-- how many nodes of its row stand before the place
abbrev steps : Around → ℕ
steps (first rest) = 0
steps (places.behind k n b a) = suc (steps a)
steps (places.behind_none a) = suc (steps a)
steps (under k n a rest) = 0

call_behind : (a : Around) (x : Tree) → 1 ≤ steps a → has_call x.kind x.below ≡ true → has_eval (behind_first (places.plug a (Some x))) ≡ true
call_behind (first rest) x l e = absurd (Prim.omega (arith, l))
call_behind (places.behind k n b a) x l e = call_there a x e
call_behind (places.behind_none a) x l e = call_there a x e
call_behind (under k n a rest) x l e = absurd (Prim.omega (arith, l))

second : (i n : ℕ) → i ≡ 0 + n → (i == 1) ≡ true → 1 ≤ n
second i n is e = let one : i ≡ 1 = eqb-true i 1 e in Prim.omega (arith, one, is)

row_call : (k : Kind) (a : Around) (x : Tree) (i : ℕ) → i ≡ 0 + steps a → has_call x.kind x.below ≡ true → is_within k (places.plug a (Some x)) i ≡ true → has_eval (scope_row k (places.plug a (Some x))) ≡ true
row_call kind.SwitchStatement a x i is e w = call_behind a x (second i (steps a) is w) e
row_call kind.WithStatement a x i is e w = call_behind a x (second i (steps a) is w) e
row_call (kind.PropertyDefinition is_static key) a x i is e w = call_behind a x (second i (steps a) is (and_parts (has_second (places.plug a (Some x))) (i == 1) w).1) e
row_call k a x i is e w = call_there a x e

-- ---- where a node with a call stands, there a call is told of

evaluates_if : (w v y : Bool) → (w ≡ true → v ≡ true) → y ≡ true → (if w then v else y) ≡ true
evaluates_if true v y e f = e refl
evaluates_if false v y e f = f

place_evaluates : (a : Around) (x : Tree) (es : ℕ → Exposure) (at : ℕ) → has_call x.kind x.below ≡ true → ((i : ℕ) → i ≡ at + steps a → (es i).evaluates ≡ true) → (exposed_at es at a (Some x)).evaluates ≡ true
place_evaluates (first rest) x es at e h = h at (Prim.omega arith)
place_evaluates (places.behind k n b a) x es at e h = place_evaluates a x es (suc at) e (λ i is. h i (Prim.omega (arith, is)))
place_evaluates (places.behind_none a) x es at e h = place_evaluates a x es (suc at) e (λ i is. h i (Prim.omega (arith, is)))
place_evaluates (under k n a rest) x es at e h =
    let row = places.plug a (Some x) in
    place_evaluates a x (exposed_inside (es at) k row) 0 e
    (λ i is. inside_reads (λ y. y.evaluates) (λ y b. refl) (es at) k row i
    ∙ evaluates_if (is_within k row i) (exposed_in_scope (es at) k row).evaluates (es at).evaluates (λ w. scope_evaluates (es at) k row ∙ row_call k a x i is e w) (h at (Prim.omega arith)))

program_call : (k : Kind) (n : Note) (b rest : Forest) → is_program (node k n b rest) ≡ true → has_call k b ≡ true → has_eval b ≡ true
program_call (kind.Program source) n b rest p e = e
program_call k n b rest p e = never p

somewhere : (a : Around) (x : Tree) → Fits root (places.plug a (Some x)) → has_call x.kind x.below ≡ true → evaluates_somewhere (places.plug a (Some x)) ≡ true
somewhere (first rest) x fits e = program_call x.kind x.note x.below rest (fits_program (places.plug (first rest) (Some x)) fits) e
somewhere (places.behind k n b a) x fits e = absurd (true≢false (sym (call_there a x e) ∙ ap has_eval (ends (places.plug a (Some x)) fits.1)))
somewhere (places.behind_none a) x fits e = absurd fits.0
somewhere (under k n a rest) x fits e = call_there a x e

there : (a : Around) (x : Tree) → Fits root (places.plug a (Some x)) → has_call x.kind x.below ≡ true → (exposure a (Some x)).evaluates ≡ true
there a x fits e = place_evaluates a x (exposed_of (places.plug a (Some x))) 0 e (λ i is. somewhere a x fits e)

-- ---- what leaves

unless : (b c : Bool) → (b ≡ true → c ≡ true) → c ≡ false → b ≡ false
unless true c f e = absurd (true≢false (sym (f refl) ∙ e))
unless false c f e = refl

-- what holds nothing holds no call
idle_calls_none : (k : Kind) (below : Forest) → is_idle k ≡ true → eval_of_call k below ≡ None
idle_calls_none kind.EmptyStatement below h = refl
idle_calls_none kind.Statements below h = refl
idle_calls_none kind.BlockStatement below h = refl
idle_calls_none (kind.LabeledStatement l) below h = refl
idle_calls_none k below h = absurd (true≢false (sym h))

idles_call_none : (t : Forest) → idles t ≡ true → has_eval t ≡ false
idles_call_none nothing h = refl
idles_call_none (absent rest) h = idles_call_none rest h
idles_call_none (node k n below rest) h =
    let o = held k below rest h in
    neither (has_call k below) (has_eval rest) (neither (is_some (eval_of_call k below)) (has_eval below) (ap is_some (idle_calls_none k below o.idle)) (idles_call_none below o.below)) (idles_call_none rest o.rest)

block_calls_none : (k : Kind) (below : Forest) → holds_nothing k below ≡ true → has_call k below ≡ false
block_calls_none kind.BlockStatement below h = idles_call_none below h
block_calls_none (kind.LabeledStatement l) below h = idles_call_none below h
block_calls_none k below h = absurd (true≢false (sym h))

block_no_name : (k : Kind) (n : Note) (below rest : Forest) → holds_nothing k below ≡ true → is_some (eval_name (node k n below rest)) ≡ true → false ≡ true
block_no_name kind.BlockStatement n below rest h e = e
block_no_name (kind.LabeledStatement l) n below rest h e = e
block_no_name k n below rest h e = h

no_call : (a : Around) (x : Tree) → Leaves a x → is_behind_jump false a ≡ false → is_untaken false a ≡ false → does_nothing x.kind x.below ≡ false → Fits root (places.plug a (Some x)) → has_call x.kind x.below ≡ false
no_call a x (edits.empty_statement (empty_statement_leaves n item)) front taken acts fits = refl
no_call a x (edits.empty_block (empty_block_leaves item nothing_held)) front taken acts fits = block_calls_none x.kind x.below nothing_held
no_call a x (edits.unused_function (unused_function_leaves pure n m name rest item own free)) front taken acts fits =
    let e = exposure a (Some x) in unless (has_call x.kind x.below) e.evaluates (there a x fits) (second_of_neither e.names_shared e.evaluates (first_of_neither (e.names_shared || e.evaluates) e.in_sloppy_block own))
no_call a x (edits.unused_declarator (unused_declarator_leaves n m name value item other own silent free)) front taken acts fits =
    unless (has_call x.kind x.below) (evaluates_somewhere (places.plug a (Some x))) (somewhere a x fits) (second_of_neither (exposure a (Some x)).declared_shared (evaluates_somewhere (places.plug a (Some x))) own)
no_call a x (edits.unused_declaration (unused_declaration_leaves how n m l j name value item own silent free)) front taken acts fits =
    unless (has_call x.kind x.below) (evaluates_somewhere (places.plug a (Some x))) (somewhere a x fits) (second_of_neither (shares (exposure a (Some x)) how) (evaluates_somewhere (places.plug a (Some x))) own)
no_call a x (edits.unused_import (unused_import_leaves k n m name binds imported own free)) front taken acts fits = ap (λ o. is_some o || has_eval x.below) (import_facts k n x.below binds).no_call
no_call a x (edits.unreached (never_runs item jump runs none)) front taken acts fits = absurd (true≢false (sym jump ∙ front))
no_call a x (edits.untaken (never_taken item untaken runs none)) front taken acts fits = absurd (true≢false (sym untaken ∙ taken))
no_call a x (edits.idle_statement (idle_leaves item idle none)) front taken acts fits = absurd (true≢false (sym idle ∙ acts))
no_call a x (edits.repeated_import (repeated_import_leaves source n m item asked)) front taken acts fits = refl

-- and it isn't the name that is called
no_name : (a : Around) (x : Tree) → Leaves a x → is_behind_jump false a ≡ false → is_untaken false a ≡ false → does_nothing x.kind x.below ≡ false → (rest : Forest) → is_some (eval_name (node x.kind x.note x.below rest)) ≡ true → false ≡ true
no_name a x (edits.empty_statement (empty_statement_leaves n item)) front taken acts rest e = e
no_name a x (edits.empty_block (empty_block_leaves item nothing_held)) front taken acts rest e = block_no_name x.kind x.note x.below rest nothing_held e
no_name a x (edits.unused_function (unused_function_leaves pure n m name below item own free)) front taken acts rest e = e
no_name a x (edits.unused_declarator (unused_declarator_leaves n m name value item other own silent free)) front taken acts rest e = e
no_name a x (edits.unused_declaration (unused_declaration_leaves how n m l j name value item own silent free)) front taken acts rest e = e
no_name a x (edits.unused_import (unused_import_leaves k n m name binds imported own free)) front taken acts rest e = sym (ap is_some ((import_facts k n x.below binds).no_name rest)) ∙ e
no_name a x (edits.unreached (never_runs item jump runs none)) front taken acts rest e = absurd (true≢false (sym jump ∙ front))
no_name a x (edits.untaken (never_taken item untaken runs none)) front taken acts rest e = absurd (true≢false (sym untaken ∙ taken))
no_name a x (edits.idle_statement (idle_leaves item idle none)) front taken acts rest e = absurd (true≢false (sym idle ∙ acts))
no_name a x (edits.repeated_import (repeated_import_leaves source n m item asked)) front taken acts rest e = e

none_there : (n : ℕ) (b : Bool) → (1 ≤ n → b ≡ true) → b ≡ false → n ≡ 0
none_there zero b f e = refl
none_there (suc n) b f e = absurd (true≢false (sym (f (Prim.omega arith)) ∙ e))

no_evals : (x : Tree) → has_call x.kind x.below ≡ false → evals (forest_of x) ≡ 0
no_evals x e = none_there (evals (forest_of x)) (has_eval (forest_of x)) (evals_some (forest_of x)) (neither (has_call x.kind x.below) false e refl)

module _ (x : Tree) (nameless : (rest : Forest) → is_some (eval_name (node x.kind x.note x.below rest)) ≡ true → false ≡ true) where
  same_name : (b : Bool) (s t : Tree) → is_some (if b then Some s else None) ≡ true → is_some (if b then Some t else None) ≡ true
  same_name true s t e = refl
  same_name false s t e = never e

  name_stays : (a : Around) → Only (is_some (eval_name (places.plug a (Some x)))) (is_some (eval_name (without a)))
  name_stays (first rest) e = never (nameless rest e)
  name_stays (places.behind kind.ParenthesizedExpression n b a) e = e
  name_stays (places.behind (kind.ReferenceName s) n b a) e = e
  name_stays (places.behind k n b a) e = never e
  name_stays (places.behind_none a) e = never e
  name_stays (under kind.ParenthesizedExpression n a rest) e = name_stays a e
  name_stays (under (kind.ReferenceName s) n a rest) e = same_name (bytes_eq s (codes "eval")) _ _ e
  name_stays (under k n a rest) e = never e

  calls_stay : (k : Kind) (a : Around) → calls k (places.plug a (Some x)) ≤ calls k (without a)
  calls_stay (kind.CallExpression false pure) a = only_fewer (is_some (eval_name (places.plug a (Some x)))) (is_some (eval_name (without a))) (name_stays a)
  calls_stay k a = Prim.omega arith

  evals_stay : (a : Around) → evals (places.plug a (Some x)) ≤ evals (without a) + evals (forest_of x)
  evals_stay (first rest) = Prim.omega arith
  evals_stay (places.behind k n b a) = Prim.omega (arith, evals_stay a)
  evals_stay (places.behind_none a) = evals_stay a
  evals_stay (under k n a rest) = Prim.omega (arith, evals_stay a, calls_stay k a)

pub leaving_keeps_calls : (a : Around) (x : Tree) → Leaves a x → is_behind_jump false a ≡ false → is_untaken false a ≡ false → does_nothing x.kind x.below ≡ false → Fits root (places.plug a (Some x)) → evals (without a) ≡ evals (places.plug a (Some x))
leaving_keeps_calls a x c front taken acts fits =
    let none = no_evals x (no_call a x c front taken acts fits) in
    Prim.omega (arith, none, evals_stay x (no_name a x c front taken acts) a, edit_fewer (places.plug a (Some x)) (without a) (edits.leaves a x c) fits)

pub leaving_tells_only : (s : Scoping) (a : Around) (x : Tree) → Leaves a x → is_behind_jump false a ≡ false → is_untaken false a ≡ false → does_nothing x.kind x.below ≡ false → Fits root (places.plug a (Some x)) → FlagsTellOnly s (places.plug a (Some x)) → FlagsTellOnly s (without a)
leaving_tells_only s a x c front taken acts fits h =
    edits_told_only s (places.plug a (Some x)) (without a) (edits.one_tree_edit (places.plug a (Some x)) (without a) (without a) (edits.leaves a x c) (edits.no_tree_edit (without a))) fits (leaving_keeps_calls a x c front taken acts fits) h
