-- What edits leave of a program exports what the program did.
use Rattle.std.proofs.Common.{◌≡◌, ◌∙◌, ◌↔◌, ◌<◌, ℕ, suc, ◌+◌, List, Bool, true, false, ◌||◌, Option, Some, None, true≢false, refl, sym, subst}
use Rattle.js_syntax.specs.declared.node_kind.NodeKind.{NodeKind as Kind}
use Rattle.js_syntax.specs.declared.node_kind.NodeKind.TheVariants as kind
use Rattle.js_syntax.specs.declared.kind.FunctionKind.TheVariants as function_kind
use Rattle.js_syntax.specs.declared.kind.VariableKind.TheVariants as variable
use Rattle.js_syntax.specs.Class.{root, expression}
use Rattle.js_syntax.specs.Node.{Forest, Tree, Note, nothing, node, absent, alone, forest_of}
use Rattle.js_syntax.proofs.Truth.{both}
use Rattle.js_effects.specs.Silence.{is_marked}
use Rattle.json_shape.specs.Shape.{Fits}
use Rattle.min_pass.specs.Around.{is_with}
use Rattle.scope_rules.specs.Context.{Context, inside, outermost}
use Rattle.scope_rules.specs.Site.{BindingSite, opens_one, scope_count, bindings_among}
use Rattle.scope_laws.specs.Exact.{Among}
use Rattle.scope_laws.specs.Place.{Around, first, behind, behind_none, under, plug}
use Rattle.steps.specs.Naming.Standing.{exported_declarations}
use Rattle.steps.proofs.KeepForm.Asked.{idle_kinds}
use Rattle.steps.proofs.Fit.Enclosing.{fits_enclosed}
use Rattle.steps.specs.KeepForm.Part.{is_asked_for}
use Rattle.steps.proofs.Fit.Modules.{fits_program}
use Rattle.steps.specs.Allowed.Silent.{HoldsThere}
use Rattle.steps.specs.Allowed.Places.{a_node, in_class_at, At}
use Rattle.steps.specs.Allowed.Free.{Free, FreeDeclarator}
use Rattle.steps.specs.Allowed.EmptyStatement.{empty_statement_leaves}
use Rattle.steps.specs.Allowed.EmptyBlock.{holds_nothing, empty_block_leaves}
use Rattle.steps.specs.Allowed.UnusedFunction.{unused_function_leaves}
use Rattle.steps.specs.Allowed.UnusedDeclarator.{SilentDeclarator, unused_declarator_leaves}
use Rattle.steps.specs.Allowed.UnusedDeclaration.{SilentDeclaration, one_declarator, unused_declaration_leaves}
use Rattle.steps.specs.Allowed.UnusedImport.{unused_import_leaves}
use Rattle.steps.specs.Allowed.SilentStatement.{SilentStatement, silent_statement_empties}
use Rattle.steps.specs.Allowed.Branches.{declares_none}
use Rattle.steps.specs.Allowed.Unreached.{only_runs, never_runs}
use Rattle.steps.specs.Allowed.Untaken.{never_taken}
use Rattle.steps.specs.Allowed.IdleStatement.{idle_leaves}
use Rattle.steps.specs.Allowed.RepeatedImport.{import_of, repeated_import_leaves}
use Rattle.steps.specs.Allowed.UnrunValue.{value_never_given}
use Rattle.steps.specs.Allowed.DeadIf.{DeadIf, nothing_is_run}
use Rattle.steps.specs.Allowed.EmptyIf.{are_empty, test_stays}
use Rattle.steps.specs.Allowed.EmptyAlternate.{alternate_goes}
use Rattle.steps.specs.Allowed.KnownIf.{an_if}
use Rattle.steps.specs.Allowed.IdleBody.{idle_body_empties}
use Rattle.steps.specs.Allowed.Edits.{Leaves, empty_statement, empty_block, unused_function, unused_declarator, unused_declaration, unused_import, unreached, untaken, idle_statement, repeated_import, Becomes, silent_statement, known_conditional, known_side, known_if, dead_if, unused_operation, unused_list, indirect_choice, one_sided_choice, idle_parts, two_sides, unused_object, known_operation, unrun_value, idle_try, idle_body, empty_if, empty_alternate, kept_names, Edit, leaves, becomes, TreeEdits, no_tree_edit, one_tree_edit, merges, passes, value_stays}
use Rattle.steps.specs.Owed.Kept.{is_program}
use Rattle.steps.specs.Owed.Owed.{ByPart, ByParts}
use Rattle.steps.specs.Owed.Part.{DeclaresNothing}
use Rattle.steps.proofs.Owed.ChoiceParts.{parts_of_if}
use Rattle.steps.proofs.Owed.Expressions.{expression_declares_none, expression_declares_nothing}
use Rattle.steps.proofs.Owed.EmptyBlock.{holding_declares_none}
use Rattle.steps.proofs.Owed.IdleStatement.{idle_runs}
use Rattle.steps.proofs.Marked.Merged.{same_exports}
use Rattle.steps.proofs.Marked.Passed as passed
use Rattle.steps.proofs.Owed.FitsEdits.{edit_fits}
use Rattle.steps.proofs.Owed.ImportFacts.{import_facts}
use Rattle.steps.proofs.Owed.Inside.{enclosed_below, enclosed_rest}
use Rattle.steps.proofs.Owed.KnownConditional.{known_conditional_owes}
use Rattle.steps.proofs.Owed.KnownSide.{known_side_owes}
use Rattle.steps.proofs.Owed.KnownIf.{tested_row, known_if_owes}
use Rattle.steps.proofs.Owed.EmptyIf.{empty_declares}
use Rattle.steps.proofs.Owed.IdleTry.{idle_try_owes}
use Rattle.steps.proofs.Owed.IdleBody.{body_kind}
use Rattle.steps.proofs.Owed.UnusedOperation.{unused_operation_owes}
use Rattle.steps.proofs.Owed.UnusedList.{unused_list_owes}
use Rattle.steps.proofs.Owed.IndirectChoice.{indirect_choice_owes}
use Rattle.steps.proofs.Owed.OneSidedChoice.{one_sided_choice_owes}
use Rattle.steps.proofs.Owed.IdleParts.{idle_parts_owes}
use Rattle.steps.proofs.Owed.TwoSides.{two_sides_owes}
use Rattle.steps.proofs.Owed.UnusedObject.{unused_object_owes}
use Rattle.steps.proofs.Owed.KnownOperation.{known_operation_owes}
use Rattle.steps.proofs.Owed.UnrunValue.{dropped, old_fits}
use Rattle.steps.proofs.Owed.Outward.{declares_nothing}
use Rattle.steps.proofs.Owed.Owed.{leaving}
use Rattle.steps.proofs.Owed.TableKept as tables
use Rattle.steps.proofs.Owed.Unseen.{both_at, enclosed_there, enclosed_alone_there}
use Rattle.steps.specs.Marked.Exports.{IsMarkedAmong}
use Rattle.steps.proofs.Marked.Exposing.{part_no_program, holds_no_program}
use Rattle.steps.proofs.Marked.Telling.{no_program}
use Rattle.steps.proofs.Marked.Unexporting.{exports_collected, collected_declared, edits_export}
use Rattle.steps.proofs.VarNames.Left.{names_left}
use Rattle.rules.specs.DeadCode.Quiet.{IsExported}
use Rattle.rules.proofs.Export.Going.{Gone, empty_gone, import_gone, statement_gone, function_gone, declarator_gone, declaration_gone, stated_gone}
use Rattle.rules.proofs.Export.Inner.{names_stay}
use Rattle.rules.proofs.Export.Staying.{made, made_without, made_plug, LeavesLists, Stays, whole, part_stays, undeclared_stays, alternate_stays}
use Rattle.steps.specs.Allowed.ValueStays.{value_is_stated}
use Rattle.steps.proofs.Owed.ValueStays.{value_fits}

-- ---- at a place

abbrev Anything : Bool → Context → ℕ → Type 0
Anything w c next = Unit {0}

anywhere : (x : Option Tree) (w : Bool) (cs : ℕ → Context) (at next : ℕ) (a : Around) → HoldsThere w cs at next a x Anything
anywhere x w cs at next (first rest) = tt
anywhere x w cs at next (behind k n below a) = anywhere x w cs (suc at) (next + scope_count (node k n below nothing)) a
anywhere x w cs at next (behind_none a) = anywhere x w cs (suc at) next a
anywhere x w cs at next (under k n a rest) = anywhere x (w || is_with k) (inside (cs at) next k (plug a x)) 0 (next + opens_one k (plug a x)) a

gone_stays : (e : BindingSite) (k : Kind) (n : Note) (below : Forest) (y : Option Tree) (c : Context) (next : ℕ) → Gone e k n below c next → Stays e (record { kind = k; note = n; below = below }) y c next
gone_stays e k n below y c next gone all a same h = absurd (gone (collected_declared all (λ at. c) 0 next (node k n below nothing) e h))

-- an `if` with no branch to take: neither its test nor its branch declares a name
dead_declares_nothing : (a : Around) (x y : Tree) → DeadIf x y → Fits root (plug a (Some x)) → DeclaresNothing (forest_of x)
dead_declares_nothing a x y (nothing_is_run n m i o tested k d b truth none) fits =
    let branch = node k i b (absent nothing) in
    let below = node tested m d branch in
    let undeclared = tested_row tested m d branch (expression_declares_none (node tested m d nothing) ((parts_of_if a n below fits).0, tt)) none in
    declares_nothing (forest_of x) (both (declares_none below) true undeclared refl) (enclosed_alone_there a kind.IfStatement n below (fits_enclosed (plug a (Some x)) fits))

-- nor does one whose branches are empty
empty_if_declares_nothing : (a : Around) (n m : Note) (tested : Kind) (d branches : Forest) → are_empty branches ≡ true → Fits root (plug a (Some (an_if n tested m d branches))) → DeclaresNothing (forest_of (an_if n tested m d branches))
empty_if_declares_nothing a n m tested d branches empty fits =
    let below = node tested m d branches in
    let undeclared = tested_row tested m d branches (expression_declares_none (node tested m d nothing) ((parts_of_if a n below fits).0, tt)) (empty_declares branches empty) in
    declares_nothing (forest_of (an_if n tested m d branches)) (both (declares_none below) true undeclared refl) (enclosed_alone_there a kind.IfStatement n below (fits_enclosed (plug a (Some (an_if n tested m d branches))) fits))

-- a statement is no program
runs_no_program : (k : Kind) (n : Note) (below rest : Forest) → only_runs k ≡ true → is_program (node k n below rest) ≡ false
runs_no_program (kind.Program source) n below rest h = absurd (true≢false (sym h))
runs_no_program k n below rest h = refl

block_no_program : (k : Kind) (n : Note) (below rest : Forest) → holds_nothing k below ≡ true → is_program (node k n below rest) ≡ false
block_no_program (kind.Program source) n below rest h = absurd (true≢false (sym h))
block_no_program k n below rest h = refl

module _ (e : BindingSite) (top : e.layer.scope ≡ 0) where
  abbrev ExportedBy : Forest → Type 0
  ExportedBy t = IsMarkedAmong (exported_declarations t) e

  settled : (a : Around) (x : Tree) (y : Option Tree) (holds : Bool → Context → ℕ → Type 0) → Fits root (plug a (Some x)) → ((rest : Forest) → is_program (node x.kind x.note x.below rest) ≡ false) → LeavesLists y false a
      → At a (Some x) holds → ((w : Bool) (c : Context) (next : ℕ) → 0 < next → holds w c next → Stays e x y c next) → Among e (exported_declarations (plug a (Some x))) → ExportedBy (made a y)
  settled a x y holds fits other l there stays h =
      subst (λ ss. IsMarkedAmong (bindings_among ss) e) (exports_collected (λ at. outermost) 0 0 (made a y))
      (whole e top x holds y stays a other (fits_program (plug a (Some x)) fits) l there (subst (λ ss. Among e (bindings_among ss)) (sym (exports_collected (λ at. outermost) 0 0 (plug a (Some x)))) h))

  part_settled : (a : Around) (x y : Tree) → ByPart a x y → Fits root (plug a (Some x)) → Among e (exported_declarations (plug a (Some x))) → ExportedBy (plug a (Some y))
  part_settled a x y owed fits h =
      subst ExportedBy (made_plug a y)
      (settled a x (Some y) Anything fits (λ rest. no_program x.kind x.note x.below rest (owed.stands fits).gives) (λ f. absurd (true≢false f)) (anywhere (Some x) false (λ at. outermost) 0 0 a)
      (λ w c next some any. part_stays e top x y (owed.stands fits).gives (owed.part fits) c next some) h)

  -- an expression, which declares nothing
  undeclared_settled : (a : Around) (x y : Tree) → is_asked_for x.kind ≡ false → Fits expression (forest_of x) → Fits root (plug a (Some x)) → Among e (exported_declarations (plug a (Some x))) → ExportedBy (plug a (Some y))
  undeclared_settled a x y unasked expresses fits h =
      subst ExportedBy (made_plug a y)
      (settled a x (Some y) Anything fits (λ rest. part_no_program x.kind x.note x.below rest unasked) (λ f. absurd (true≢false f)) (anywhere (Some x) false (λ at. outermost) 0 0 a)
      (λ w c next some any. undeclared_stays e top x (Some y) (expression_declares_nothing (forest_of x) expresses) c next some) h)

  parts_settled : (a : Around) (x y : Tree) → ByParts a x y → Fits root (plug a (Some x)) → Among e (exported_declarations (plug a (Some x))) → ExportedBy (plug a (Some y))
  parts_settled a x y owed fits h = undeclared_settled a x y (owed.old_unasked fits) (owed.fits_expression fits) fits h

  -- ---- every case

  -- what never runs declares nothing that anything else sees
  never_running : (a : Around) (x : Tree) → only_runs x.kind ≡ true → declares_none (forest_of x) ≡ true → LeavesLists None false a → Fits root (plug a (Some x)) → Among e (exported_declarations (plug a (Some x))) → ExportedBy (made a None)
  never_running a x runs none l fits h =
      settled a x None Anything fits (λ rest. runs_no_program x.kind x.note x.below rest runs) l (anywhere (Some x) false (λ at. outermost) 0 0 a)
      (λ w c next some any. undeclared_stays e top x None (declares_nothing (forest_of x) none (enclosed_alone_there a x.kind x.note x.below (fits_enclosed (plug a (Some x)) fits))) c next some) h

  left : (a : Around) (x : Tree) → Leaves a x → LeavesLists None false a → Fits root (plug a (Some x)) → Among e (exported_declarations (plug a (Some x))) → ExportedBy (made a None)
  left a _ (empty_statement (empty_statement_leaves n item)) l fits h =
      settled a (record { kind = kind.EmptyStatement; note = n; below = nothing }) None Anything fits (λ rest. refl) l (anywhere (a_node kind.EmptyStatement n nothing) false (λ at. outermost) 0 0 a)
      (λ w c next some any. gone_stays e kind.EmptyStatement n nothing None c next (empty_gone (plug a (a_node kind.EmptyStatement n nothing)) e h top c next some n)) h
  left a x (empty_block (empty_block_leaves item nothing_held)) l fits h =
      settled a x None Anything fits (λ rest. block_no_program x.kind x.note x.below rest nothing_held) l (anywhere (Some x) false (λ at. outermost) 0 0 a)
      (λ w c next some any. undeclared_stays e top x None (declares_nothing (forest_of x) (holding_declares_none x nothing_held) (enclosed_alone_there a x.kind x.note x.below (fits_enclosed (plug a (Some x)) fits))) c next some) h
  left a _ (unused_function (unused_function_leaves pure n m x rest item own free)) l fits h =
      let k = kind.Function function_kind.Declaration pure in
      let below = node (kind.BindingName x) m nothing rest in
      let t = plug a (a_node k n below) in
      let closed = enclosed_there a k n below (fits_enclosed t fits) in
      settled a (record { kind = k; note = n; below = below }) None (Free t variable.Let x) fits (λ rest. refl) l free
      (λ w c next some holds. gone_stays e k n below None c next (function_gone t e h top c next some w pure n m x rest closed.0 holds)) h
  left a _ (unused_declarator (unused_declarator_leaves n m x value item other own silent free)) l fits h =
      let k = kind.VariableDeclarator in
      let below = node (kind.BindingName x) m nothing value in
      let y = a_node k n below in
      let t = plug a y in
      let closed = enclosed_rest (kind.BindingName x) m nothing value (enclosed_there a k n below (fits_enclosed t fits)).1 in
      settled a (record { kind = k; note = n; below = below }) None (λ w c next. SilentDeclarator t below (in_class_at a) w c next × FreeDeclarator t x w c next) fits (λ rest. refl) l
      (both_at y (SilentDeclarator t below (in_class_at a)) (FreeDeclarator t x) false (λ at. outermost) 0 0 a silent free)
      (λ w c next some holds. gone_stays e k n below None c next (declarator_gone t e h top (in_class_at a) w x m value closed c next some n holds.0 holds.1)) h
  left a _ (unused_declaration (unused_declaration_leaves how n m l j x value item own silent free)) lists fits h =
      let k = kind.VariableDeclaration how in
      let inner = node (kind.BindingName x) j nothing value in
      let ds = node kind.VariableDeclarator l inner nothing in
      let below = one_declarator m l inner in
      let y = a_node k n below in
      let t = plug a y in
      let closed =
      enclosed_rest (kind.BindingName x) j nothing value
      (enclosed_below kind.VariableDeclarator l inner nothing (enclosed_below kind.Declarators m ds nothing (enclosed_there a k n below (fits_enclosed t fits)).1)) in
      settled a (record { kind = k; note = n; below = below }) None (λ w c next. SilentDeclaration t how m l inner (in_class_at a) w c next × Free t how x w c next) fits (λ rest. refl) lists
      (both_at y (SilentDeclaration t how m l inner (in_class_at a)) (Free t how x) false (λ at. outermost) 0 0 a silent free)
      (λ w c next some holds. gone_stays e k n below None c next (declaration_gone t e h top (in_class_at a) w x j value closed c next some how n m l holds.0 holds.1)) h
  left a _ (unused_import (unused_import_leaves k n m x binds imported own free)) l fits h =
      let below = node (kind.BindingName x) m nothing nothing in
      let t = plug a (a_node k n below) in
      settled a (record { kind = k; note = n; below = below }) None (FreeDeclarator t x) fits (import_facts k n below binds).no_root l free
      (λ w c next some holds. gone_stays e k n below None c next (import_gone t e h top c next some w k n m x binds holds)) h
  left a x (unreached (never_runs item jump runs none)) l fits h = never_running a x runs none l fits h
  left a x (untaken (never_taken item taken runs none)) l fits h = never_running a x runs none l fits h
  left a x (idle_statement (idle_leaves item idle none)) l fits h = never_running a x (idle_runs x.kind x.below idle) none l fits h
  left a _ (repeated_import (repeated_import_leaves source n m item asked)) l fits h =
      let x = import_of source n m in
      settled a x None Anything fits (λ rest. refl) l (anywhere (Some x) false (λ at. outermost) 0 0 a)
      (λ w c next some any. undeclared_stays e top x None (declares_nothing (forest_of x) refl (enclosed_alone_there a x.kind x.note x.below (fits_enclosed (plug a (Some x)) fits))) c next some) h

  changed : (a : Around) (x y : Tree) → Becomes a x y → Fits root (plug a (Some x)) → Among e (exported_declarations (plug a (Some x))) → ExportedBy (plug a (Some y))
  changed a x y (silent_statement (silent_statement_empties n m l k inner silent)) fits h =
      let below = alone k l inner in
      let z = a_node kind.ExpressionStatement n below in
      let t = plug a z in
      let closed = (enclosed_there a kind.ExpressionStatement n below (fits_enclosed t fits)).1 in
      subst ExportedBy (made_plug a y)
      (settled a x (Some y) (SilentStatement t below (in_class_at a)) fits (λ rest. refl) (λ f. absurd (true≢false f)) silent
      (λ w c next some holds. gone_stays e kind.ExpressionStatement n below (Some y) c next (statement_gone t e h top c next some (in_class_at a) w n below closed holds)) h)
  changed a x y (known_conditional c) fits h = part_settled a x y (known_conditional_owes a x y c) fits h
  changed a x y (known_side c) fits h = part_settled a x y (known_side_owes a x y c) fits h
  changed a x y (known_if c) fits h = part_settled a x y (known_if_owes a x y c) fits h
  changed a x y (dead_if (nothing_is_run n m i o tested k d b truth none)) fits h =
      subst ExportedBy (made_plug a y)
      (settled a x (Some y) Anything fits (λ rest. refl) (λ f. absurd (true≢false f)) (anywhere (Some x) false (λ at. outermost) 0 0 a)
      (λ w c next some any. undeclared_stays e top x (Some y) (dead_declares_nothing a x y (nothing_is_run n m i o tested k d b truth none) fits) c next some) h)
  changed a x y (value_stays (value_is_stated how n m l j i o name k b stated item in_with own free)) fits h =
      let value = alone k i b in
      let none = expression_declares_nothing value (value_fits a how n m l j i o name k b item own free fits) in
      subst ExportedBy (made_plug a y)
      (settled a x (Some y) (Free (plug a (Some x)) how name) fits (λ rest. refl) (λ f. absurd (true≢false f)) free
      (λ w c next some holds. gone_stays e (kind.VariableDeclaration how) n x.below (Some y) c next (stated_gone (plug a (Some x)) e h top w name how n m l j value none c next some holds)) h)
  changed a x y (empty_if (test_stays n m o tested d branches empty unnamed)) fits h =
      subst ExportedBy (made_plug a y)
      (settled a x (Some y) Anything fits (λ rest. refl) (λ f. absurd (true≢false f)) (anywhere (Some x) false (λ at. outermost) 0 0 a)
      (λ w c next some any. undeclared_stays e top x (Some y) (empty_if_declares_nothing a n m tested d branches empty fits) c next some) h)
  changed a x y (empty_alternate (alternate_goes n i j o tested l d b last)) fits h =
      subst ExportedBy (made_plug a y)
      (settled a x (Some y) Anything fits (λ rest. refl) (λ f. absurd (true≢false f)) (anywhere (Some x) false (λ at. outermost) 0 0 a)
      (λ w c next some any. alternate_stays e top n i j o tested l d b c next some) h)
  changed a x y (idle_body (idle_body_empties _ m body idle none)) fits h =
      subst ExportedBy (made_plug a y)
      (settled a x (Some y) Anything fits (λ rest. idle_kinds (λ z. is_program (node z x.note x.below rest) ≡ false) refl refl refl refl refl (λ label. refl) x.kind (body_kind x.kind x.below idle)) (λ f. absurd (true≢false f))
      (anywhere (Some x) false (λ at. outermost) 0 0 a)
      (λ w c next some any. undeclared_stays e top x (Some y) (declares_nothing (forest_of x) none (enclosed_alone_there a x.kind x.note x.below (fits_enclosed (plug a (Some x)) fits))) c next some) h)
  changed a x y (unused_operation c) fits h = part_settled a x y (unused_operation_owes a x y c) fits h
  changed a x y (unused_list c) fits h = parts_settled a x y (unused_list_owes a x y c) fits h
  changed a x y (indirect_choice c) fits h = parts_settled a x y (indirect_choice_owes a x y c) fits h
  changed a x y (one_sided_choice c) fits h = parts_settled a x y (one_sided_choice_owes a x y c) fits h
  changed a x y (idle_parts c) fits h = parts_settled a x y (idle_parts_owes a x y c) fits h
  changed a x y (two_sides c) fits h = parts_settled a x y (two_sides_owes a x y c) fits h
  changed a x y (unused_object c) fits h = parts_settled a x y (unused_object_owes a x y c) fits h
  changed a x y (known_operation c) fits h = parts_settled a x y (known_operation_owes a x y c) fits h
  changed a x y (idle_try c) fits h = part_settled a x y (idle_try_owes a x y c) fits h
  changed a x y (kept_names it) fits h =
      let names = names_left a x y it fits in
      subst ExportedBy (made_plug a y)
      (settled a x (Some y) Anything fits (λ rest. holds_no_program x.kind x.note x.below rest names.1.holds) (λ f. absurd (true≢false f)) (anywhere (Some x) false (λ at. outermost) 0 0 a)
      (λ w c next some any. subst (λ k. Stays e x (Some (record { kind = k; note = y.note; below = y.below })) c next) (sym names.0)
      (names_stay e top x.kind x.note y.note x.below y.below names.1 c next some)) h)
  changed a x y (unrun_value (value_never_given n _ given unrun drops)) fits h =
      undeclared_settled a x y (dropped x.kind drops).unasked (old_fits a n x given unrun drops fits) fits h

  edited : (t u : Forest) → Edit t u → Fits root t → Among e (exported_declarations t) → ExportedBy u
  edited _ _ (leaves a x c) fits h = subst ExportedBy (made_without a) (left a x c (λ f. tables.in_list a (leaving a x c).listed) fits h)
  edited _ _ (becomes a x y c) fits h = changed a x y c fits h
  edited _ _ (merges t u c) fits h = record { declaration = e; stands = subst (Among e) (sym (same_exports t u c)) h; is_outermost = top; same_mark = refl; same_name = refl }
  edited _ _ (passes t u c) fits h = record { declaration = e; stands = subst (Among e) (sym (passed.same_exports t u c)) h; is_outermost = top; same_mark = refl; same_name = refl }

-- ---- edits one after the other

pub edits_keep : (t u : Forest) → TreeEdits t u → Fits root t → (e : BindingSite) → Among e (exported_declarations t) → e.layer.scope ≡ 0 → IsMarkedAmong (exported_declarations u) e
edits_keep t u (no_tree_edit v) fits e h top = record { declaration = e; stands = h; is_outermost = top; same_mark = refl; same_name = refl }
edits_keep t u (one_tree_edit v w x edit more) fits e h top =
    let next = edited e top v w edit fits h in
    let last = edits_keep w x more (edit_fits v w edit fits) next.declaration next.stands next.is_outermost in
    record { declaration = last.declaration; stands = last.stands; is_outermost = last.is_outermost; same_mark = last.same_mark ∙ next.same_mark; same_name = last.same_name ∙ next.same_name }

by_mark : (t : Forest) (symbol : ℕ) (e : BindingSite) → e.id ≡ Some symbol → IsMarkedAmong (exported_declarations t) e → IsExported t symbol
by_mark t symbol e is h = record { declaration = h.declaration; stands = h.stands; is_outermost = h.is_outermost; has_mark = h.same_mark ∙ is }

pub exports_stay : (t u : Forest) → TreeEdits t u → Fits root t → (symbol : ℕ) → IsExported t symbol → IsExported u symbol
exports_stay t u edits fits symbol h = by_mark u symbol h.declaration h.has_mark (edits_keep t u edits fits h.declaration h.stands h.is_outermost)

pub exports_same : (t u : Forest) → TreeEdits t u → Fits root t → (symbol : ℕ) → IsExported t symbol ↔ IsExported u symbol
exports_same t u edits fits symbol = (
  exports_stay t u edits fits symbol,
  λ h. by_mark t symbol h.declaration h.has_mark (edits_export t u edits fits h.declaration h.stands h.is_outermost),
)

pub listed_stay : (t u : Forest) → TreeEdits t u → Fits root t → (exported : List Bool) → ((symbol : ℕ) → is_marked exported (Some symbol) ≡ true → IsExported t symbol)
    → ((symbol : ℕ) → is_marked exported (Some symbol) ≡ true → IsExported u symbol)
listed_stay t u edits fits exported h symbol marked = exports_stay t u edits fits symbol (h symbol marked)
