-- What edits leave of a program asks for the modules that the program asked for, in the same order.
use Rattle.std.proofs.Common.{◌≡◌, ◌∙◌, ◌⊎◌, ℕ, List, [], ◌++◌, Bool, true, false, Some, inl, inr, refl, sym, ap, subst, true≢false}
use Rattle.js_syntax.specs.Class.{root}
use Rattle.js_syntax.specs.declared.node_kind.NodeKind.{NodeKind as Kind}
use Rattle.js_syntax.specs.Node.{Forest, Tree, Note, nothing, node, absent, bare}
use Rattle.js_meaning.specs.Module.{requests_of, requests, distinct}
use Rattle.json_shape.specs.Shape.{Fits}
use Rattle.min_pass.specs.declared.around.Around.{Around as Asked}
use Rattle.min_pass.specs.Around.{entered as asked_below, outermost as asked_of_program}
use Rattle.scope_laws.specs.Place.{Around, first, behind, behind_none, under, plug}
use Rattle.scope_laws.specs.Lists.{without}
use Rattle.steps.specs.Steps.{binds_import}
use Rattle.steps.specs.KeepForm.Part.{gives_way, is_asked_for, leaves_names_of}
use Rattle.steps.specs.Allowed.DeadIf.{nothing_is_run}
use Rattle.steps.specs.Allowed.EmptyIf.{test_stays}
use Rattle.steps.specs.Allowed.EmptyAlternate.{alternate_goes}
use Rattle.steps.specs.Allowed.ValueStays.{value_is_stated}
use Rattle.steps.specs.Allowed.IdleBody.{idle_body_empties}
use Rattle.steps.specs.Allowed.Edits.{Leaves, empty_statement, empty_block, unused_function, unused_declarator, unused_declaration, unused_import, unreached, untaken, idle_statement, repeated_import, Becomes, silent_statement, known_conditional, known_side, known_if, idle_try, idle_body, empty_if, empty_alternate, dead_if, unused_operation, unused_list, indirect_choice, one_sided_choice, idle_parts, two_sides, unused_object, known_operation, unrun_value, kept_names, Edit, leaves, becomes, Edits, no_edit, one_edit, merges, passes, value_stays}
use Rattle.steps.specs.Allowed.EmptyBlock.{holds_nothing, empty_block_leaves}
use Rattle.steps.specs.Allowed.EmptyStatement.{empty_statement_leaves}
use Rattle.steps.specs.Allowed.IdleStatement.{idle_leaves}
use Rattle.steps.specs.Allowed.Imports.{in_names, elsewhere, import_row_below}
use Rattle.steps.specs.Allowed.MergedImports.{MergedImports, imports_merge}
use Rattle.steps.specs.Allowed.PassedExports.{PassedExports, exports_pass}
use Rattle.steps.specs.Allowed.RepeatedImport.{is_asked_before, import_of, RepeatedImport, repeated_import_leaves}
use Rattle.steps.specs.Allowed.SilentStatement.{silent_statement_empties}
use Rattle.steps.specs.Allowed.Unreached.{only_runs, never_runs}
use Rattle.steps.specs.Allowed.UnrunValue.{may_be_dropped, value_never_given}
use Rattle.steps.specs.Allowed.Untaken.{never_taken}
use Rattle.steps.specs.Allowed.UnusedDeclaration.{unused_declaration_leaves}
use Rattle.steps.specs.Allowed.UnusedDeclarator.{unused_declarator_leaves}
use Rattle.steps.specs.Allowed.UnusedFunction.{unused_function_leaves}
use Rattle.steps.specs.Allowed.UnusedImport.{unused_import_leaves}
use Rattle.steps.specs.Owed.Owed.{Leaving, ByPart, ByParts}
use Rattle.steps.proofs.Owed.Calling.{takes, Takes}
use Rattle.steps.proofs.Owed.FitsEdits.{edit_fits, renoted_fits}
use Rattle.steps.proofs.Owed.IdleStatement.{idle_runs}
use Rattle.steps.proofs.Owed.IndirectChoice.{indirect_choice_owes}
use Rattle.steps.proofs.Owed.IdleParts.{idle_parts_owes}
use Rattle.steps.proofs.Owed.KnownConditional.{known_conditional_owes}
use Rattle.steps.proofs.Owed.IdleTry.{idle_try_owes}
use Rattle.steps.proofs.KeepForm.Asked.{idle_kinds}
use Rattle.steps.proofs.Owed.IdleBody.{body_kind}
use Rattle.steps.proofs.Owed.KnownIf.{known_if_owes}
use Rattle.steps.proofs.Owed.KnownOperation.{known_operation_owes}
use Rattle.steps.proofs.Owed.KnownSide.{known_side_owes}
use Rattle.steps.proofs.Owed.OneSidedChoice.{one_sided_choice_owes}
use Rattle.steps.proofs.Owed.MergedRuns.{same_requests}
use Rattle.steps.proofs.Owed.PassedRuns.{passed_requests}
use Rattle.steps.proofs.Owed.Owed.{leaving}
use Rattle.steps.proofs.Owed.RepeatedRuns.{is_flat, loads_same}
use Rattle.steps.proofs.Owed.TwoSides.{two_sides_owes}
use Rattle.steps.proofs.Owed.UnusedList.{unused_list_owes}
use Rattle.steps.proofs.Owed.UnusedObject.{unused_object_owes}
use Rattle.steps.proofs.Owed.UnusedOperation.{unused_operation_owes}
use Rattle.steps.proofs.VarNames.Left.{names_left}
use Rattle.headline.specs.Lasting.{items_of, first_items, program_items, own_items, loaded}

-- ---- kinds that ask for no module, and hold nothing that does

abbrev pub asks_nothing : Kind → Bool
asks_nothing (Kind.Program source) = false
asks_nothing Kind.Statements = false
asks_nothing (Kind.ImportDeclaration source) = false
asks_nothing (Kind.ExportNamedDeclaration source) = false
asks_nothing (Kind.ExportAllDeclaration name source) = false
asks_nothing k = true

no_kind : {A : Type 0} → false ≡ true → A
no_kind e = absurd (true≢false (sym e))

none_asked : (k : Kind) → asks_nothing k ≡ true → requests_of k ≡ []
none_asked (Kind.Program source) h = no_kind h
none_asked Kind.Statements h = no_kind h
none_asked (Kind.ImportDeclaration source) h = no_kind h
none_asked (Kind.ExportNamedDeclaration source) h = no_kind h
none_asked (Kind.ExportAllDeclaration name source) h = no_kind h
none_asked k h = refl

no_items : (k : Kind) (b : Forest) → asks_nothing k ≡ true → items_of k b ≡ nothing
no_items Kind.Statements b h = no_kind h
no_items k b h = refl

no_program : (k : Kind) (b : Forest) → asks_nothing k ≡ true → program_items k b ≡ nothing
no_program (Kind.Program source) b h = no_kind h
no_program k b h = refl

runs_ask : (k : Kind) → only_runs k ≡ true → asks_nothing k ≡ true
runs_ask (Kind.Program source) h = h
runs_ask Kind.Statements h = h
runs_ask (Kind.ImportDeclaration source) h = h
runs_ask (Kind.ExportNamedDeclaration source) h = h
runs_ask (Kind.ExportAllDeclaration name source) h = h
runs_ask k h = refl

blocks_ask : (k : Kind) (b : Forest) → holds_nothing k b ≡ true → asks_nothing k ≡ true
blocks_ask (Kind.Program source) b h = h
blocks_ask Kind.Statements b h = h
blocks_ask (Kind.ImportDeclaration source) b h = h
blocks_ask (Kind.ExportNamedDeclaration source) b h = h
blocks_ask (Kind.ExportAllDeclaration name source) b h = h
blocks_ask k b h = refl

pub names_ask : (k : Kind) → binds_import k ≡ true → asks_nothing k ≡ true
names_ask (Kind.Program source) h = h
names_ask Kind.Statements h = h
names_ask (Kind.ImportDeclaration source) h = h
names_ask (Kind.ExportNamedDeclaration source) h = h
names_ask (Kind.ExportAllDeclaration name source) h = h
names_ask k h = refl

wholes_ask : (k : Kind) → gives_way k ≡ true → asks_nothing k ≡ true
wholes_ask (Kind.Program source) h = h
wholes_ask Kind.Statements h = h
wholes_ask (Kind.ImportDeclaration source) h = h
wholes_ask (Kind.ExportNamedDeclaration source) h = h
wholes_ask (Kind.ExportAllDeclaration name source) h = h
wholes_ask k h = refl

dropped_ask : (k : Kind) → may_be_dropped k ≡ true → asks_nothing k ≡ true
dropped_ask (Kind.Program source) h = h
dropped_ask Kind.Statements h = h
dropped_ask (Kind.ImportDeclaration source) h = h
dropped_ask (Kind.ExportNamedDeclaration source) h = h
dropped_ask (Kind.ExportAllDeclaration name source) h = h
dropped_ask k h = refl

unasked_ask : (k : Kind) → is_asked_for k ≡ false → asks_nothing k ≡ true
unasked_ask (Kind.Program source) h = sym h
unasked_ask Kind.Statements h = sym h
unasked_ask (Kind.ImportDeclaration source) h = sym h
unasked_ask (Kind.ExportNamedDeclaration source) h = sym h
unasked_ask (Kind.ExportAllDeclaration name source) h = sym h
unasked_ask k h = refl

leaving_ask : (k : Kind) → leaves_names_of k ≡ true → asks_nothing k ≡ true
leaving_ask (Kind.Program source) h = h
leaving_ask Kind.Statements h = h
leaving_ask (Kind.ImportDeclaration source) h = h
leaving_ask (Kind.ExportNamedDeclaration source) h = h
leaving_ask (Kind.ExportAllDeclaration name source) h = h
leaving_ask k h = refl

-- ---- each case

-- what leaves a list asks for nothing, or for what is asked for before it
pub leaves_asks : (a : Around) (x : Tree) → Leaves a x → (asks_nothing x.kind ≡ true) ⊎ RepeatedImport a x
leaves_asks a x (empty_statement (empty_statement_leaves n item)) = inl refl
leaves_asks a x (empty_block (empty_block_leaves item held)) = inl (blocks_ask x.kind x.below held)
leaves_asks a x (unused_function (unused_function_leaves pure n m name rest item own free)) = inl refl
leaves_asks a x (unused_declarator (unused_declarator_leaves n m name value declares other own silent free)) = inl refl
leaves_asks a x (unused_declaration (unused_declaration_leaves how n m l j name value item own silent free)) = inl refl
leaves_asks a x (unused_import (unused_import_leaves k n m name binds imported own free)) = inl (names_ask k binds)
leaves_asks a x (unreached (never_runs item cut runs none)) = inl (runs_ask x.kind runs)
leaves_asks a x (untaken (never_taken item branch runs none)) = inl (runs_ask x.kind runs)
leaves_asks a x (idle_statement (idle_leaves item idle none)) = inl (runs_ask x.kind (idle_runs x.kind x.below idle))
leaves_asks a x (repeated_import c) = inr c

abbrev pub AskNothing : (x y : Tree) → Type 0
AskNothing x y = (asks_nothing x.kind ≡ true) × (asks_nothing y.kind ≡ true)

part_asks : (a : Around) (x y : Tree) → ByPart a x y → Fits root (plug a (Some x)) → AskNothing x y
part_asks a x y owed fits = let part = owed.stands fits in (wholes_ask x.kind part.gives, unasked_ask y.kind part.unasked)

parts_ask : (a : Around) (x y : Tree) → ByParts a x y → Fits root (plug a (Some x)) → AskNothing x y
parts_ask a x y owed fits = (unasked_ask x.kind (owed.old_unasked fits), unasked_ask y.kind (owed.unasked fits))

pub becomes_asks : (a : Around) (x y : Tree) → Becomes a x y → Fits root (plug a (Some x)) → AskNothing x y
becomes_asks a x y (silent_statement (silent_statement_empties n m l k inner silent)) fits = (refl, refl)
becomes_asks a x y (known_conditional c) fits = part_asks a x y (known_conditional_owes a x y c) fits
becomes_asks a x y (known_side c) fits = part_asks a x y (known_side_owes a x y c) fits
becomes_asks a x y (known_if c) fits = part_asks a x y (known_if_owes a x y c) fits
becomes_asks a x y (idle_try c) fits = part_asks a x y (idle_try_owes a x y c) fits
becomes_asks a x y (dead_if (nothing_is_run n m i o t k b d truth none)) fits = (refl, refl)
becomes_asks a x y (empty_if (test_stays n m o t d branches empty unnamed)) fits = (refl, refl)
becomes_asks a x y (value_stays (value_is_stated how n m l j i o name k b stated item in_with own free)) fits = (refl, refl)
becomes_asks a x y (empty_alternate (alternate_goes n i j o t l d b last)) fits = (refl, refl)
becomes_asks a x y (idle_body (idle_body_empties _ m body idle none)) fits = (idle_kinds (λ z. asks_nothing z ≡ true) refl refl refl refl refl (λ label. refl) x.kind (body_kind x.kind x.below idle), refl)
becomes_asks a x y (unused_operation c) fits = part_asks a x y (unused_operation_owes a x y c) fits
becomes_asks a x y (unused_list c) fits = parts_ask a x y (unused_list_owes a x y c) fits
becomes_asks a x y (indirect_choice c) fits = parts_ask a x y (indirect_choice_owes a x y c) fits
becomes_asks a x y (one_sided_choice c) fits = parts_ask a x y (one_sided_choice_owes a x y c) fits
becomes_asks a x y (idle_parts c) fits = parts_ask a x y (idle_parts_owes a x y c) fits
becomes_asks a x y (two_sides c) fits = parts_ask a x y (two_sides_owes a x y c) fits
becomes_asks a x y (unused_object c) fits = parts_ask a x y (unused_object_owes a x y c) fits
becomes_asks a x y (known_operation c) fits = parts_ask a x y (known_operation_owes a x y c) fits
becomes_asks a x y (unrun_value (value_never_given n z given unrun drops)) fits = (dropped_ask x.kind drops, refl)
becomes_asks a x y (kept_names c) fits = let left = names_left a x y c fits in (leaving_ask x.kind left.1.holds, subst (λ k. asks_nothing k ≡ true) (sym left.0) refl)

-- ---- a node becomes another

module _ (x y : Tree) (old : asks_nothing x.kind ≡ true) (new : asks_nothing y.kind ≡ true) where
  replaced_items : (a : Around) → requests (plug a (Some x)) ≡ requests (plug a (Some y))
  replaced_items (first rest) = ap (λ l. l ++ requests rest) (none_asked x.kind old ∙ sym (none_asked y.kind new))
  replaced_items (behind k n b a) = ap (λ l. requests_of k ++ l) (replaced_items a)
  replaced_items (behind_none a) = replaced_items a
  replaced_items (under k n a rest) = refl

  replaced_list : (k : Kind) (a : Around) → requests (items_of k (plug a (Some x))) ≡ requests (items_of k (plug a (Some y)))
  replaced_list Kind.Statements a = replaced_items a
  replaced_list k a = refl

  replaced_first : (a : Around) → requests (first_items (plug a (Some x))) ≡ requests (first_items (plug a (Some y)))
  replaced_first (first rest) = ap requests (no_items x.kind x.below old ∙ sym (no_items y.kind y.below new))
  replaced_first (behind k n b a) = refl
  replaced_first (behind_none a) = refl
  replaced_first (under k n a rest) = replaced_list k a

  replaced_program : (k : Kind) (a : Around) → requests (program_items k (plug a (Some x))) ≡ requests (program_items k (plug a (Some y)))
  replaced_program (Kind.Program source) a = replaced_first a
  replaced_program k a = refl

  replaced_own : (a : Around) → requests (own_items (plug a (Some x))) ≡ requests (own_items (plug a (Some y)))
  replaced_own (first rest) = ap requests (no_program x.kind x.below old ∙ sym (no_program y.kind y.below new))
  replaced_own (behind k n b a) = refl
  replaced_own (behind_none a) = refl
  replaced_own (under k n a rest) = replaced_program k a

-- ---- an item leaves

no_names : in_names ≡ elsewhere → ⊥
no_names e = cc

module _ (x : Tree) (nothing_asked : asks_nothing x.kind ≡ true) where
  left_items : (a : Around) → requests (plug a (Some x)) ≡ requests (without a)
  left_items (first rest) = ap (λ l. l ++ requests rest) (none_asked x.kind nothing_asked)
  left_items (behind k n b a) = ap (λ l. requests_of k ++ l) (left_items a)
  left_items (behind_none a) = left_items a
  left_items (under k n a rest) = refl

  left_list : (k : Kind) (a : Around) → requests (items_of k (plug a (Some x))) ≡ requests (items_of k (without a))
  left_list Kind.Statements a = left_items a
  left_list k a = refl

  left_first : (w : Asked) (a : Around) → takes w.row ≡ false → Takes w elsewhere a → requests (first_items (plug a (Some x))) ≡ requests (first_items (without a))
  left_first w (first rest) no_row (inl row) = absurd (true≢false (sym row ∙ no_row))
  left_first w (first rest) no_row (inr row) = absurd (no_names (sym row))
  left_first w (behind k n b a) no_row row = refl
  left_first w (behind_none a) no_row row = refl
  left_first w (under k n a rest) no_row row = left_list k a

  left_program : (k : Kind) (a : Around) → Takes (asked_below (asked_of_program true) k) (import_row_below elsewhere k) a → requests (program_items k (plug a (Some x))) ≡ requests (program_items k (without a))
  left_program (Kind.Program source) a row = left_first (asked_below (asked_of_program true) (Kind.Program source)) a refl row
  left_program k a row = refl

  left_own : (a : Around) → Takes (asked_of_program true) elsewhere a → requests (own_items (plug a (Some x))) ≡ requests (own_items (without a))
  left_own (first rest) (inl row) = absurd (true≢false (sym row))
  left_own (first rest) (inr row) = absurd (no_names (sym row))
  left_own (behind k n b a) row = refl
  left_own (behind_none a) row = refl
  left_own (under k n a rest) row = left_program k a row

-- where what leaves stands
taken : (a : Around) (x : Tree) → Leaving a x → Takes (asked_of_program true) elsewhere a
taken a x owed = elim owed.listed [
  | inl item ↦ inl (ap takes item)
  | inr (inl declarator) ↦ inl (ap takes declarator.0)
  | inr (inr imported) ↦ inr imported
]

-- ---- an import leaves behind another request of its module

module _ (source : List ℕ) (n m : Note) where
  abbrev again : Tree
  again = import_of source n m

  -- further in no request leaves
  deep_items : (a : Around) → is_flat a ≡ false → requests (plug a (Some again)) ≡ requests (without a)
  deep_items (first rest) deep = absurd (true≢false deep)
  deep_items (behind k i b a) deep = ap (λ l. requests_of k ++ l) (deep_items a deep)
  deep_items (behind_none a) deep = deep_items a deep
  deep_items (under k i a rest) deep = refl

  repeated_items : (a : Around) (flat : Bool) → is_flat a ≡ flat → is_asked_before source false a ≡ true → distinct (requests (plug a (Some again))) ≡ distinct (requests (without a))
  repeated_items a true is asked = loads_same source n m a is asked
  repeated_items a false is asked = ap distinct (deep_items a is)

  repeated_list : (k : Kind) (a : Around) → is_asked_before source false a ≡ true → distinct (requests (items_of k (plug a (Some again)))) ≡ distinct (requests (items_of k (without a)))
  repeated_list Kind.Statements a asked = repeated_items a (is_flat a) refl asked
  repeated_list k a asked = refl

  repeated_first : (w : Asked) (a : Around) → takes w.row ≡ false → Takes w elsewhere a → is_asked_before source false a ≡ true → distinct (requests (first_items (plug a (Some again)))) ≡ distinct (requests (first_items (without a)))
  repeated_first w (first rest) no_row (inl row) asked = absurd (true≢false (sym row ∙ no_row))
  repeated_first w (first rest) no_row (inr row) asked = absurd (no_names (sym row))
  repeated_first w (behind k i b a) no_row row asked = refl
  repeated_first w (behind_none a) no_row row asked = refl
  repeated_first w (under k i a rest) no_row row asked = repeated_list k a asked

  repeated_program : (k : Kind) (a : Around) → Takes (asked_below (asked_of_program true) k) (import_row_below elsewhere k) a → is_asked_before source false a ≡ true
      → distinct (requests (program_items k (plug a (Some again)))) ≡ distinct (requests (program_items k (without a)))
  repeated_program (Kind.Program s) a row asked = repeated_first (asked_below (asked_of_program true) (Kind.Program s)) a refl row asked
  repeated_program k a row asked = refl

  repeated_own : (a : Around) → Takes (asked_of_program true) elsewhere a → is_asked_before source false a ≡ true → loaded (plug a (Some again)) ≡ loaded (without a)
  repeated_own (first rest) (inl row) asked = absurd (true≢false (sym row))
  repeated_own (first rest) (inr row) asked = absurd (no_names (sym row))
  repeated_own (behind k i b a) row asked = refl
  repeated_own (behind_none a) row asked = refl
  repeated_own (under k i a rest) row asked = repeated_program k a row asked

-- ---- edits

left_loads : (a : Around) (x : Tree) → Takes (asked_of_program true) elsewhere a → (asks_nothing x.kind ≡ true) ⊎ RepeatedImport a x → loaded (without a) ≡ loaded (plug a (Some x))
left_loads a x row (inl none) = ap distinct (sym (left_own x none a row))
left_loads a x row (inr (repeated_import_leaves source n m item asked)) = sym (repeated_own source n m a row asked)

merged_loads : (t u : Forest) → MergedImports t u → loaded u ≡ loaded t
merged_loads _ _ (imports_merge n m r s h none) = sym (same_requests h)

passed_loads : (t u : Forest) → PassedExports t u → loaded u ≡ loaded t
passed_loads _ _ (exports_pass n m names r s z h free none) = ap distinct (sym (passed_requests h))

edit_loads : (t u : Forest) → Edit t u → Fits root t → loaded u ≡ loaded t
edit_loads t u (leaves a x c) fits = left_loads a x (taken a x (leaving a x c)) (leaves_asks a x c)
edit_loads t u (becomes a x y c) fits = let asks = becomes_asks a x y c fits in ap distinct (sym (replaced_own x y asks.0 asks.1 a))
edit_loads t u (merges v w c) fits = merged_loads v w c
edit_loads t u (passes v w c) fits = passed_loads v w c

bare_requests : (t : Forest) → requests (bare t) ≡ requests t
bare_requests nothing = refl
bare_requests (absent r) = bare_requests r
bare_requests (node k n a r) = ap (λ l. requests_of k ++ l) (bare_requests r)

bare_list : (k : Kind) (t : Forest) → requests (items_of k (bare t)) ≡ requests (items_of k t)
bare_list Kind.Statements t = bare_requests t
bare_list k t = refl

bare_first : (t : Forest) → requests (first_items (bare t)) ≡ requests (first_items t)
bare_first nothing = refl
bare_first (absent r) = refl
bare_first (node k n a r) = bare_list k a

bare_program : (k : Kind) (t : Forest) → requests (program_items k (bare t)) ≡ requests (program_items k t)
bare_program (Kind.Program source) t = bare_first t
bare_program k t = refl

bare_own : (t : Forest) → requests (own_items (bare t)) ≡ requests (own_items t)
bare_own nothing = refl
bare_own (absent r) = refl
bare_own (node k n a r) = bare_program k a

renoted_loads : (t u : Forest) → bare t ≡ bare u → loaded u ≡ loaded t
renoted_loads t u same = ap distinct (sym (bare_own u) ∙ ap (λ v. requests (own_items v)) (sym same) ∙ bare_own t)

pub edits_load : {t u : Forest} → Edits t u → Fits root t → loaded u ≡ loaded t
edits_load (no_edit t u same) fits = renoted_loads t u same
edits_load (one_edit t v w u same e more) fits =
    let before = renoted_fits t v same fits in
    edits_load more (edit_fits v w e before) ∙ edit_loads v w e before ∙ renoted_loads t v same
