-- In a program of which the rules take nothing out no part is dead code.
use Rattle.std.proofs.Common.{◌≡◌, ◌∙◌, inl, ◌+◌, ◌==◌, ℕ, suc, List, [], ◌++◌, Bool, true, false, not, ◌&&◌, ◌||◌, if◌then◌else◌, true≢false, Option, Some, None, refl, sym, ap, subst, eqb-true}
use Rattle.std.proofs.lemmas.Bool.{and_parts, and_from}
use Rattle.js_syntax.specs.declared.node_kind.NodeKind.{NodeKind as Kind}
use Rattle.js_syntax.specs.declared.node_kind.NodeKind.TheVariants.{EmptyStatement as empty_statement, BlockStatement as block_statement, LabeledStatement as labeled_statement, ExpressionStatement as expression_statement, Function as function, VariableDeclaration as variable_declaration, VariableDeclarator as variable_declarator, Declarators as declarators, BindingName as binding_name, Statements as statements}
use Rattle.js_syntax.specs.declared.kind.FunctionKind.TheVariants as function_kind
use Rattle.js_syntax.specs.declared.kind.VariableKind.{VariableKind}
use Rattle.js_syntax.specs.declared.kind.VariableKind.TheVariants as variable
use Rattle.js_syntax.specs.Node.{Forest, Tree, Note, nothing, node, absent, alone}
use Rattle.js_effects.specs.Silence.{may_have_effects}
use Rattle.min_context.specs.Place.{Place, place_at, goes_on}
use Rattle.min_pass.specs.declared.around.Around.{Around as Asked}
use Rattle.min_pass.specs.Around.{outermost as asked_of_program}
use Rattle.min_pass.specs.Pass.{is_given, unmarked as without_mark}
use Rattle.scope_rules.specs.Context.{inside}
use Rattle.scope_rules.specs.ScopeFlags as scope_flag
use Rattle.scope_rules.specs.Site.{own_sites, opens_one, scope_count, sites, sites_of, references_among}
use Rattle.scope_rules.specs.Table.{Scoping}
use Rattle.scope_laws.specs.Place as places
use Rattle.scope_laws.specs.Place.{Around, first}
use Rattle.scope_laws.proofs.Bindings.{none_is_some}
use Rattle.scope_counts.specs.Edits as counts
use Rattle.scope_counts.specs.Edits.{here, behind, behind_none, under, plug}
use Rattle.scope_counts.specs.Scopes.{unmarked}
use Rattle.steps.proofs.Naming.Sites.{binding_second}
use Rattle.steps.specs.Allowed.EmptyBlock.{holds_nothing, EmptyBlock, empty_block_leaves}
use Rattle.steps.specs.Allowed.IdleBody.{IdleBody}
use Rattle.steps.specs.Allowed.Exposure.{Exposure, exposure, is_script, shares, function_is_exposed, evaluates_somewhere, IsOwnFunction, IsOwnDeclarator, IsOwnDeclaration}
use Rattle.steps.specs.Allowed.Places.{a_node, asked_at, in_class_at, surroundings_at, IsItem, IsDeclarator, At}
use Rattle.steps.specs.Allowed.Free.{IsFree, Free, FreeDeclarator}
use Rattle.scope_rules.specs.Binding.{named_in}
use Rattle.steps.specs.Allowed.SilentStatement.{SilentStatement}
use Rattle.steps.specs.Allowed.UnusedFunction.{a_function}
use Rattle.steps.specs.Allowed.UnusedDeclarator.{a_declarator, SilentDeclarator}
use Rattle.steps.specs.Allowed.UnusedDeclaration.{one_declarator, a_declaration}
use Rattle.steps.specs.Allowed.ValueStays.{may_be_stated, ValueStays, value_is_stated}
use Rattle.steps.proofs.Owed.Places.{place_of, rest_of}
use Rattle.steps.proofs.Owed.Unseen.{layer_below}
use Rattle.steps.specs.Marked.Flags.{Stand, scope_has, is_sloppy_block, stand_inside, first_mark, stands_of, stand_at, stand}
use Rattle.steps.proofs.Marked.Telling.{stand_exposed}
use Rattle.js_syntax.proofs.Truth.{neither, first_of_neither, second_of_neither, first_of_either, second_of_either}
use Rattle.rules.specs.DeadCode.Rules.{Facts, Where, where_of, surroundings_below, scope_of, is_unlisted, is_global, variable_is_unused, is_quiet, is_silent_statement, one_goes, item_has_dead, is_idle_body, is_item}
use Rattle.rules.specs.DeadCode.Knows.{Knows}
use Rattle.rules.proofs.DeadCode.Keeping.{Known}
use Rattle.rules.proofs.DeadCode.LaidOut.{has_list, is_laid, fits_laid, laid_here}
use Rattle.rules.proofs.DeadCode.Bodies.{idle_told}
use Rattle.rules.proofs.DeadCode.Places.{to, plugged, join, plug_join, asked_row, asked_to, is_row, surroundings_there}
use Rattle.rules.proofs.DeadCode.Numbers.{Same, whole_stand, numbers, stand_to, stand_along}
use Rattle.rules.proofs.DeadCode.Silent.{of_left, of_right}
use Rattle.rules.proofs.DeadCode.Leaving.{named_site}
use Rattle.rules.proofs.DeadCode.Items.{laid_there, items_same, in_declaration, declarator_surroundings}
use Rattle.rules.proofs.DeadCode.Stating.{is_item_there, with_there}
use Rattle.rules.specs.DeadCode.Quiet.{TellsOnly, ToldOnly, Exactly, IsQuiet}
use Rattle.rules.proofs.DeadCode.Idle.{find, idle_row, unlisted}
use Rattle.rules.proofs.DeadCode.Splitting.{is_items, whole_place, in_list, in_declaration as inside_declaration, list_items, none_dead, some_goes, only_list}

wrong : {P : Type 0} → true ≡ false → P
wrong e = absurd (true≢false e)

-- ---- flags at a place

only_there : (s : Scoping) (script : Bool) (ps : ℕ → Stand) (at : ℕ) (a : Around) (x : Tree) → ToldOnly s script ps at (places.plug a (Some x)) → TellsOnly s script (stand_at ps at a (Some x))
only_there s script ps at (first rest) x h = h.0
only_there s script ps at (places.behind k n b a) x h = only_there s script ps (suc at) a x h.2
only_there s script ps at (places.behind_none a) x h = only_there s script ps (suc at) a x h
only_there s script ps at (places.under k n a rest) x h = only_there s script (stand_inside (ps at) k n (places.plug a (Some x))) 0 a x h.1

-- what holds nothing goes
pub held_goes : (f : Facts) (w : Where) (k : Kind) (below : Forest) → holds_nothing k below ≡ true → item_has_dead f w k below ≡ true
held_goes f w block_statement below h = h
held_goes f w (labeled_statement label) below h = h
held_goes f w k below h = absurd (true≢false (sym h))

-- what is to hold of the program
record Good (f : Facts) (t : Forest) : Type 0 where
  knows : Knows f unmarked t
  exactly : Exactly f t
  quiet : IsQuiet f t

good_known : (f : Facts) (t : Forest) → Good f t → Known f t
good_known f t g = record { marked = unmarked; knows = g.knows }

module _ (f : Facts) where
  only_at : (b : Around) (x : Tree) → Exactly f (places.plug b (Some x)) → TellsOnly f.scoping (is_script (places.plug b (Some x))) (stand b (Some x))
  only_at b x e = only_there f.scoping (is_script (places.plug b (Some x))) (stands_of (places.plug b (Some x))) 0 b x e.flags

  not_so : (b c : Bool) → (b ≡ true → c ≡ true) → c ≡ false → b ≡ false
  not_so true c h e = absurd (true≢false (sym (h refl) ∙ e))
  not_so false c h e = refl

  -- ---- functions

  function_hidden : (t : Forest) (p : Stand) (w : Where) → f.is_script ≡ is_script t → TellsOnly f.scoping (is_script t) p → p.scope ≡ Some w.scope → function_is_exposed p.exposure ≡ false
      → is_global f w.scope || scope_has f.scoping w.scope scope_flag.direct_eval || is_sloppy_block f.scoping w.scope ≡ false
  function_hidden t p w script only is own =
      let e = p.exposure in
      let both = first_of_neither (e.names_shared || e.evaluates) e.in_sloppy_block own in
      neither (is_global f w.scope || scope_has f.scoping w.scope scope_flag.direct_eval) (is_sloppy_block f.scoping w.scope)
      (neither (is_global f w.scope) (scope_has f.scoping w.scope scope_flag.direct_eval)
      (not_so (is_global f w.scope) e.names_shared
      (λ h.
      let parts = and_parts f.is_script (w.scope == 0) h in
      only.names (sym script ∙ parts.0) (is ∙ ap Some (eqb-true w.scope 0 parts.1)))
      (first_of_neither e.names_shared e.evaluates both))
      (not_so (scope_has f.scoping w.scope scope_flag.direct_eval) e.evaluates (only.evaluates w.scope is) (second_of_neither e.names_shared e.evaluates both)))
      (not_so (is_sloppy_block f.scoping w.scope) e.in_sloppy_block (only.sloppy w.scope is) (second_of_neither (e.names_shared || e.evaluates) e.in_sloppy_block own))

  -- an item has nothing dead
  item_quiet : (o : counts.Around) (m : Note) (c : counts.Around) (beside : Forest) (k : Kind) (n : Note) (b rest : Forest) → is_row c ≡ true → IsQuiet f (plug (join o (under statements m c beside)) (node k n b rest)) → item_has_dead f (where_of (place_at o (goes_on beside))) k b ≡ false
  item_quiet o m c beside k n b rest row q =
      none_dead f (where_of (place_at o (goes_on beside))) c k n b rest row (q.lists o m (plug c (node k n b rest)) beside (plug_join o (under statements m c beside) (node k n b rest)))

  good_row : (a : counts.Around) (x : Tree) (rest : Forest) → Good f (places.plug (to a (first rest)) (Some x)) → Good f (plug a (node x.kind x.note x.below rest))
  good_row a x rest g = subst (λ t. Good f t) (plugged a (first rest) (Some x)) g

  empty_alive : (o : counts.Around) (m : Note) (c : counts.Around) (beside rest : Forest) → is_row c ≡ true → (n : Note) → Good f (places.plug (to (join o (under statements m c beside)) (first rest)) (a_node empty_statement n nothing)) → ⊥
  empty_alive o m c beside rest row n g =
      let a = join o (under statements m c beside) in
      true≢false (item_quiet o m c beside empty_statement n nothing rest row (good_row a (record { kind = empty_statement; note = n; below = nothing }) rest g).quiet)

  block_alive : (o : counts.Around) (m : Note) (c : counts.Around) (beside rest : Forest) → is_row c ≡ true → (x : Tree) → holds_nothing x.kind x.below ≡ true → Good f (places.plug (to (join o (under statements m c beside)) (first rest)) (Some x)) → ⊥
  block_alive o m c beside rest row x held g =
      let a = join o (under statements m c beside) in
      true≢false (sym (held_goes f (where_of (place_at o (goes_on beside))) x.kind x.below held) ∙ item_quiet o m c beside x.kind x.note x.below rest row (good_row a x rest g).quiet)

  function_alive : f.keeps_unused ≡ false → (o : counts.Around) (m : Note) (c : counts.Around) (beside rest : Forest) → is_row c ≡ true → (pure : Bool) (n j : Note) (x : List ℕ) (parts : Forest)
      → let b = to (join o (under statements m c beside)) (first rest) in
      Good f (places.plug b (a_function pure n j x parts)) → IsOwnFunction b (a_function pure n j x parts) → At b (a_function pure n j x parts) (Free (places.plug b (a_function pure n j x parts)) variable.Let x) → ⊥
  function_alive unkept o m c beside rest row pure n j x parts g own free =
      let a = join o (under statements m c beside) in
      let b = to a (first rest) in
      let k = function function_kind.Declaration pure in
      let below = node (binding_name x) j nothing parts in
      let y : Tree = record { kind = k; note = n; below = below } in
      let t = places.plug b (Some y) in
      let w = where_of (place_at o (goes_on beside)) in
      let here_ = good_row a y rest g in
      let same = items_same f (place_at o (goes_on beside)) a k n below rest (list_items o m c beside row) (good_known f (plug a (node k n below rest)) here_) in
      let scope : (stand b (Some y)).scope ≡ Some w.scope = ap (λ (q : Stand). q.scope) (stand_to a (first rest) (Some y)) ∙ same.scope in
      let hidden = function_hidden t (stand b (Some y)) w g.knows.script (only_at b y g.exactly) scope (ap function_is_exposed (stand_exposed b (Some y)) ∙ own) in
      let place = find b (Some y) (Free t variable.Let x) free in
      let fs = inside (place.contexts place.at) place.next k below in
      let d = named_site (fs 0) j x in
      let stands = place.bindings d (binding_second d (own_sites (place.contexts place.at) n k below) (sites fs 0 (place.next + 1) below) [] (inl refl)) in
      let goes = and_from (is_unlisted f j.id) (not (is_global f w.scope || scope_has f.scoping w.scope scope_flag.direct_eval || is_sloppy_block f.scoping w.scope)) (unlisted f t g.knows unkept g.exactly d stands place.holds_there) (ap not hidden) in
      true≢false (sym goes ∙ item_quiet o m c beside k n below rest row here_.quiet)

  -- ---- statements

  some_empty : (b : Bool) (e : Tree) → b ≡ true → (if b then Some e else None) ≡ None → ⊥
  some_empty true e h q = none_is_some (sym q)
  some_empty false e h q = true≢false (sym h)

  silent_alive : (a : counts.Around) (rest : Forest) (n : Note) (below : Forest)
      → let b = to a (first rest) in
      Good f (places.plug b (a_node expression_statement n below)) → At b (a_node expression_statement n below) (SilentStatement (places.plug b (a_node expression_statement n below)) below (in_class_at b)) → ⊥
  silent_alive a rest n below g silent =
      let b = to a (first rest) in
      let y : Tree = record { kind = expression_statement; note = n; below = below } in
      let t = places.plug b (Some y) in
      let place = find b (Some y) (SilentStatement t below (in_class_at b)) silent in
      let cs = inside (place.contexts place.at) place.next expression_statement below in
      let own = own_sites (place.contexts place.at) n expression_statement below in
      let next = place.next + opens_one expression_statement below in
      let idle = idle_row f t g.knows (surroundings_at b) cs 0 next below (of_right (references_among (sites_of t)) own (sites cs 0 next below) (of_left (references_among (sites_of t)) (own ++ sites cs 0 next below) [] place.references)) place.holds_there in
      let quiet = (good_row a y rest g).quiet.statements_stay a y rest refl in
      some_empty (not (may_have_effects f.bound (surroundings_below (place_at a (goes_on rest)).ancestors) below) || is_idle_body (place_at a (goes_on rest)) expression_statement below) (record { kind = empty_statement; note = without_mark n; below = nothing })
      (first_of_either (not (may_have_effects f.bound (surroundings_below (place_at a (goes_on rest)).ancestors) below)) (is_idle_body (place_at a (goes_on rest)) expression_statement below) (ap not (subst (λ v. may_have_effects f.bound v below ≡ false) (surroundings_there a rest) idle)))
      quiet

  -- one that does nothing, as a branch or a body
  body_alive : (a : counts.Around) (rest : Forest) (x y : Tree) → Good f (places.plug (to a (first rest)) (Some x)) → IdleBody (to a (first rest)) x y → ⊥
  body_alive a rest x y g idle =
      let quiet = (good_row a x rest g).quiet.statements_stay a x rest refl in
      let silent = is_silent_statement f (where_of (place_at a (goes_on rest))) x.kind x.below in
      some_empty (silent || is_idle_body (place_at a (goes_on rest)) x.kind x.below) (record { kind = empty_statement; note = without_mark x.note; below = nothing })
      (second_of_either silent (is_idle_body (place_at a (goes_on rest)) x.kind x.below) (idle_told a x y rest idle)) quiet

  -- ---- declarators

  shares_so : (script : Bool) (p : Stand) (w : Where) → TellsOnly f.scoping script p → Same p w → (how : VariableKind) → script ≡ true → scope_of w how ≡ 0 → shares p.exposure how ≡ true
  shares_so script p w only same variable.Var s e = only.variable_names s (same.variables ∙ ap Some e)
  shares_so script p w only same variable.Let s e = only.names s (same.scope ∙ ap Some e)
  shares_so script p w only same variable.Const s e = only.names s (same.scope ∙ ap Some e)

  pub program_evaluates : (t : Forest) → first_mark t ≡ Some 0 → ToldOnly f.scoping (is_script t) (stands_of t) 0 t → scope_has f.scoping 0 scope_flag.direct_eval ≡ true → evaluates_somewhere t ≡ true
  program_evaluates nothing e h g = absurd (none_is_some e)
  program_evaluates (absent rest) e h g = absurd (none_is_some e)
  program_evaluates (node k n b rest) e h g = h.0.evaluates 0 e g

  pub variable_hidden : (t : Forest) (p : Stand) (w : Where) (how : VariableKind) → f.is_script ≡ is_script t → TellsOnly f.scoping (is_script t) p → Same p w → shares p.exposure how ≡ false → (scope_has f.scoping 0 scope_flag.direct_eval ≡ true → evaluates_somewhere t ≡ true)
      → evaluates_somewhere t ≡ false → is_global f (scope_of w how) || scope_has f.scoping 0 scope_flag.direct_eval ≡ false
  variable_hidden t p w how script only same shared evaluates none =
      neither (is_global f (scope_of w how)) (scope_has f.scoping 0 scope_flag.direct_eval)
      (not_so (is_global f (scope_of w how)) (shares p.exposure how)
      (λ h.
      let parts = and_parts f.is_script (scope_of w how == 0) h in
      shares_so (is_script t) p w only same how (sym script ∙ parts.0) (eqb-true (scope_of w how) 0 parts.1))
      shared)
      (not_so (scope_has f.scoping 0 scope_flag.direct_eval) (evaluates_somewhere t) evaluates none)

  -- at the declaration
  pub only_item : (a : counts.Around) (k : Kind) (n : Note) (b rest : Forest) → Exactly f (plug a (node k n b rest)) → TellsOnly f.scoping (is_script (plug a (node k n b rest))) (whole_stand a (node k n b rest))
  only_item a k n b rest e =
      let x : Tree = record { kind = k; note = n; below = b } in
      subst (λ p. TellsOnly f.scoping (is_script (plug a (node k n b rest))) p) (stand_to a (first rest) (Some x))
      (subst (λ t. TellsOnly f.scoping (is_script t) (stand (to a (first rest)) (Some x))) (plugged a (first rest) (Some x)) (only_at (to a (first rest)) x (subst (λ t. Exactly f t) (sym (plugged a (first rest) (Some x))) e)))

  initialiser_quiet : (b : Around) (i j : Note) (x : List ℕ) (value : Forest) → Good f (places.plug b (a_declarator i j x value)) → (p : Place) → surroundings_at b ≡ surroundings_below p.ancestors
      → At b (a_declarator i j x value) (SilentDeclarator (places.plug b (a_declarator i j x value)) (node (binding_name x) j nothing value) (in_class_at b)) → is_quiet f (where_of p) value ≡ true
  initialiser_quiet b i j x value g p is silent =
      let below = node (binding_name x) j nothing value in
      let t = places.plug b (a_declarator i j x value) in
      let all = references_among (sites_of t) in
      let place = find b (a_declarator i j x value) (SilentDeclarator t below (in_class_at b)) silent in
      let own = own_sites (place.contexts place.at) i variable_declarator below in
      let ds = inside (place.contexts place.at) place.next variable_declarator below in
      let next = place.next + opens_one variable_declarator below in
      let name = own_sites (ds 0) j (binding_name x) nothing ++ sites (inside (ds 0) next (binding_name x) nothing) 0 (next + 0) nothing in
      let behind_name = sites ds 1 (next + scope_count (node (binding_name x) j nothing nothing)) value in
      let idle = idle_row f t g.knows (surroundings_at b) ds 1 (next + scope_count (node (binding_name x) j nothing nothing)) value
      (of_right all name behind_name (of_right all own (name ++ behind_name) (of_left all (own ++ (name ++ behind_name)) [] place.references))) place.holds_there.1 in
      ap not (subst (λ v. (may_have_effects f.bound v value || v.in_with && is_given value) ≡ false) is (neither (may_have_effects f.bound (surroundings_at b) value) ((surroundings_at b).in_with && is_given value) idle place.holds_there.0))

  -- a declaration of one name, of which the value stays
  value_alive : f.keeps_unused ≡ false → (a : counts.Around) (rest : Forest) (how : VariableKind) (n m l j i : Note) (x : List ℕ) (k : Kind) (inner : Forest)
      → let b = to a (first rest) in let v = alone k i inner in let y = a_declaration how n m l j x v in
      Good f (places.plug b y) → may_be_stated k inner ≡ true → IsItem b → (asked_at (asked_of_program true) b).in_with ≡ false → IsOwnDeclaration how b y → At b y (Free (places.plug b y) how x) → ⊥
  value_alive unkept a rest how n m l j i x k inner g may item without own free =
      let b = to a (first rest) in
      let value = alone k i inner in
      let parts = node (binding_name x) j nothing value in
      let ds = node variable_declarator l parts nothing in
      let below = one_declarator m l parts in
      let y : Tree = record { kind = variable_declaration how; note = n; below = below } in
      let t = places.plug b (Some y) in
      let p = place_at a (goes_on rest) in
      let w = where_of p in
      let row = node (variable_declaration how) n below rest in
      let here_ = good_row a y rest g in
      let same = numbers f.scoping a (variable_declaration how) n below rest (fits_laid (plug a row) here_.knows.fits) here_.knows.flags here_.knows.outermost in
      let outer = whole_stand a row in
      let shared : shares outer.exposure how ≡ false =
      ap (λ (r : Stand). shares r.exposure how) (sym (stand_to a (first rest) (Some y))) ∙ ap (λ (e : Exposure). shares e how) (stand_exposed b (Some y)) ∙ first_of_neither (shares (exposure b (Some y)) how) (evaluates_somewhere t) own in
      let only : TellsOnly f.scoping (is_script t) outer = subst (λ v. TellsOnly f.scoping (is_script v) outer) (sym (plugged a (first rest) (Some y))) (only_item a (variable_declaration how) n below rest here_.exactly) in
      let hidden = variable_hidden t outer w how g.knows.script only same shared (program_evaluates t g.knows.outermost g.exactly.flags) (second_of_neither (shares (exposure b (Some y)) how) (evaluates_somewhere t) own) in
      let place = find b (Some y) (Free t how x) free in
      let cs = place.contexts place.at in
      let whole = inside cs place.next (variable_declaration how) below in
      let list = inside (whole 0) (place.next + 0) declarators ds in
      let fs = inside (list 0) (place.next + 0 + 0) variable_declarator parts in
      let site = named_site (fs 0) j x in
      let stands = place.bindings site (binding_second site (own_sites cs n (variable_declaration how) below) (sites whole 0 (place.next + 0) below) []
      (binding_second site (own_sites (whole 0) m declarators ds) (sites list 0 (place.next + 0 + 0) ds) []
      (binding_second site (own_sites (list 0) l variable_declarator parts) (sites fs 0 (place.next + 0 + 0 + 0) parts) [] (inl refl)))) in
      let is_free = subst (λ r. IsFree t (named_in x r)) (sym (layer_below cs how)) place.holds_there in
      let unused = and_from (is_unlisted f j.id) (not (is_global f (scope_of w how) || scope_has f.scoping 0 scope_flag.direct_eval)) (unlisted f t g.knows unkept g.exactly site stands is_free) (ap not hidden) in
      let value_there = and_from (variable_is_unused f (scope_of w how) j.id) (may_be_stated k inner) unused may in
      let outside_with : not w.in_with ≡ true = ap not (sym (with_there a rest) ∙ without) in
      let goes = and_from (is_item p) (not w.in_with && (variable_is_unused f (scope_of w how) j.id && may_be_stated k inner)) (sym (is_item_there a rest) ∙ ap is_items item) (and_from (not w.in_with) (variable_is_unused f (scope_of w how) j.id && may_be_stated k inner) outside_with value_there) in
      some_empty (is_item p && (not w.in_with && (variable_is_unused f (scope_of w how) j.id && may_be_stated k inner))) (record { kind = expression_statement; note = without_mark n; below = value }) goes (here_.quiet.declarations_stay a y rest refl)

  declarator_alive : f.keeps_unused ≡ false → (o : counts.Around) (m : Note) (c : counts.Around) (beside rest : Forest) → is_row c ≡ true → (how : VariableKind) (n l : Note) (d : counts.Around) (more : Forest) → is_row d ≡ true → (i j : Note) (x : List ℕ) (value : Forest)
      → let b = to (join o (under statements m c beside)) (in_declaration how n l d more rest) in
      Good f (places.plug b (a_declarator i j x value)) → IsOwnDeclarator b (a_declarator i j x value)
      → At b (a_declarator i j x value) (SilentDeclarator (places.plug b (a_declarator i j x value)) (node (binding_name x) j nothing value) (in_class_at b))
      → At b (a_declarator i j x value) (FreeDeclarator (places.plug b (a_declarator i j x value)) x) → ⊥
  declarator_alive unkept o m c beside rest row how n l d more drow i j x value g own silent free =
      let a = join o (under statements m c beside) in
      let inner = in_declaration how n l d more rest in
      let b = to a inner in
      let below = node (binding_name x) j nothing value in
      let y : Tree = record { kind = variable_declarator; note = i; below = below } in
      let t = places.plug b (Some y) in
      let p = place_at o (goes_on beside) in
      let w = where_of p in
      let items_there = list_items o m c beside row in
      let ds = places.plug (to d (first more)) (Some y) in
      let list = node declarators l ds nothing in
      let whole = node (variable_declaration how) n list rest in
      let here_ : Good f (plug a whole) = subst (λ v. Good f v) (plugged a inner (Some y)) g in
      let same = items_same f p a (variable_declaration how) n list rest items_there (good_known f (plug a whole) here_) in
      let outer = whole_stand a whole in
      let q = stand_inside outer (variable_declaration how) n list 0 in
      let stands_so : stand b (Some y) ≡ q = stand_to a inner (Some y) ∙ stand_along q 0 d more (Some y) drow in
      let shared : shares outer.exposure how ≡ false =
      ap (λ (r : Stand). r.exposure.declared_shared) (sym stands_so) ∙ ap (λ (e : Exposure). e.declared_shared) (stand_exposed b (Some y)) ∙ first_of_neither (exposure b (Some y)).declared_shared (evaluates_somewhere t) own in
      let only : TellsOnly f.scoping (is_script t) outer = subst (λ v. TellsOnly f.scoping (is_script v) outer) (sym (plugged a inner (Some y))) (only_item a (variable_declaration how) n list rest here_.exactly) in
      let hidden = variable_hidden t outer w how g.knows.script only same shared (program_evaluates t g.knows.outermost g.exactly.flags) (second_of_neither (exposure b (Some y)).declared_shared (evaluates_somewhere t) own) in
      let place = find b (Some y) (FreeDeclarator t x) free in
      let fs = inside (place.contexts place.at) place.next variable_declarator below in
      let site = named_site (fs 0) j x in
      let stands = place.bindings site (binding_second site (own_sites (place.contexts place.at) i variable_declarator below) (sites fs 0 (place.next + 0) below) [] (inl refl)) in
      let unused = and_from (is_unlisted f j.id) (not (is_global f (scope_of w how) || scope_has f.scoping 0 scope_flag.direct_eval)) (unlisted f t g.knows unkept g.exactly site stands place.holds_there) (ap not hidden) in
      let goes = and_from (variable_is_unused f (scope_of w how) j.id) (is_quiet f w value) unused (initialiser_quiet b i j x value g p (declarator_surroundings a d how n l more rest p items_there drow) silent) in
      let one = some_goes f w how d variable_declarator i below more drow goes in
      true≢false (sym (ap (λ v. one_goes f w how v) (plugged d (first more) (Some y)) ∙ one) ∙ item_quiet o m c beside (variable_declaration how) n list rest row here_.quiet)

-- ---- any place

pub to_join : (a b : counts.Around) (c : Around) → to (join a b) c ≡ to a (to b c)
to_join here b c = refl
to_join (behind k n d a) b c = ap (λ x. places.behind k n d x) (to_join a b c)
to_join (behind_none a) b c = ap (λ x. places.behind_none x) (to_join a b c)
to_join (under k n a rest) b c = ap (λ x. places.under k n x rest) (to_join a b c)

row_asked : (b : Around) → asked_row (asked_of_program true) (place_of b) ≡ asked_at (asked_of_program true) b
row_asked b = sym (asked_to (asked_of_program true) (place_of b) (first (rest_of b))) ∙ ap (λ c. asked_at (asked_of_program true) c) (whole_place b)

pub record ItemIn (b : Around) : Type 0 where
  pub outer : counts.Around
  pub note : Note
  pub inner : counts.Around
  pub beside : Forest
  pub rest : Forest
  pub in_row : is_row inner ≡ true
  pub is : to (join outer (under statements note inner beside)) (first rest) ≡ b

item_in : (b : Around) → IsItem b → ItemIn b
item_in b item =
    let l = in_list (place_of b) (ap (λ (w : Asked). w.row) (row_asked b) ∙ item) in
    record { outer = l.outer; note = l.note; inner = l.inner; beside = l.beside; rest = rest_of b; in_row = l.in_row; is = ap (λ a. to a (first (rest_of b))) (sym l.is) ∙ whole_place b }

record DeclaratorIn (b : Around) : Type 0 where
  outer : counts.Around
  note : Note
  inner : counts.Around
  beside : Forest
  in_row : is_row inner ≡ true
  how : VariableKind
  declaration_note : Note
  list_note : Note
  before : counts.Around
  more : Forest
  rest : Forest
  before_in_row : is_row before ≡ true
  is : to (join outer (under statements note inner beside)) (in_declaration how declaration_note list_note before more rest) ≡ b

declarator_in : (b : Around) (x : Tree) → is_laid (places.plug b (Some x)) ≡ true → IsDeclarator b → DeclaratorIn b
declarator_in b x laid declares =
    let r = inside_declaration (place_of b) (ap (λ (w : Asked). w.row) (row_asked b) ∙ declares) in
    let l = in_list r.outer r.item in
    let row = node x.kind x.note x.below (rest_of b) in
    let vd = under (variable_declaration r.how) r.note r.list r.beside in
    let ds = under declarators r.list_note r.inner r.list_beside in
    let tree : places.plug b (Some x) ≡ plug r.outer (plug vd (plug ds row)) =
    ap (λ c. places.plug c (Some x)) (sym (whole_place b)) ∙ plugged (place_of b) (first (rest_of b)) (Some x) ∙ ap (λ a. plug a row) r.is ∙ plug_join (join r.outer vd) ds row ∙ plug_join r.outer vd (plug ds row) in
    let below = plug r.list (node declarators r.list_note (plug r.inner row) r.list_beside) in
    let has : has_list below ≡ true = laid_here (variable_declaration r.how) r.note below r.beside (laid_there r.outer (plug vd (plug ds row)) (subst (λ t. is_laid t ≡ true) tree laid)) in
    let only = only_list r.list r.list_note (plug r.inner row) r.list_beside r.list_in_row has in
    let item = join l.outer (under statements l.note l.inner l.beside) in
    record {
      outer = l.outer;
      note = l.note;
      inner = l.inner;
      beside = l.beside;
      in_row = l.in_row;
      how = r.how;
      declaration_note = r.note;
      list_note = r.list_note;
      before = r.inner;
      more = rest_of b;
      rest = r.beside;
      before_in_row = r.in_row;
      is = ap (λ a. to a (in_declaration r.how r.note r.list_note r.inner (rest_of b) r.beside)) (sym l.is)
          ∙ sym (to_join r.outer (under (variable_declaration r.how) r.note here r.beside) (to (under declarators r.list_note r.inner nothing) (first (rest_of b))))
          ∙ sym (to_join (join r.outer (under (variable_declaration r.how) r.note here r.beside)) (under declarators r.list_note r.inner nothing) (first (rest_of b)))
          ∙ ap (λ e. to (join (join r.outer (under (variable_declaration r.how) r.note e r.beside)) (under declarators r.list_note r.inner nothing)) (first (rest_of b))) (sym only.is_first)
          ∙ ap (λ e. to (join (join r.outer vd) (under declarators r.list_note r.inner e)) (first (rest_of b))) (sym only.is_last)
          ∙ ap (λ a. to a (first (rest_of b))) (sym r.is) ∙ whole_place b;
    }

-- ---- no part is dead

module _ (f : Facts) (t : Forest) (knows : Knows f unmarked t) (exactly : Exactly f t) (quiet : IsQuiet f t) (b : Around) where
  good_there : (y : Option Tree) → t ≡ places.plug b y → Good f (places.plug b y)
  good_there y is = subst (λ v. Good f v) is (record { knows = knows; exactly = exactly; quiet = quiet })

  pub no_empty_item : (n : Note) → t ≡ places.plug b (a_node empty_statement n nothing) → IsItem b → ⊥
  no_empty_item n is item =
      let i = item_in b item in
      empty_alive f i.outer i.note i.inner i.beside i.rest i.in_row n (subst (λ c. Good f (places.plug c (a_node empty_statement n nothing))) (sym i.is) (good_there (a_node empty_statement n nothing) is))

  pub no_empty_block : (x : Tree) → t ≡ places.plug b (Some x) → EmptyBlock b x → ⊥
  no_empty_block x is (empty_block_leaves item held) =
      let i = item_in b item in
      block_alive f i.outer i.note i.inner i.beside i.rest i.in_row x held (subst (λ c. Good f (places.plug c (Some x))) (sym i.is) (good_there (Some x) is))

  pub no_silent_statement : (n : Note) (below : Forest) → t ≡ places.plug b (a_node expression_statement n below) → At b (a_node expression_statement n below) (SilentStatement t below (in_class_at b)) → ⊥
  no_silent_statement n below is silent =
      let y = a_node expression_statement n below in
      subst (λ c. Good f (places.plug c y) → At c y (SilentStatement (places.plug c y) below (in_class_at c)) → ⊥) (whole_place b) (silent_alive f (place_of b) (rest_of b) n below) (good_there y is)
      (subst (λ v. At b y (SilentStatement v below (in_class_at b))) is silent)

  pub no_idle_body : (x y : Tree) → t ≡ places.plug b (Some x) → IdleBody b x y → ⊥
  no_idle_body x y is idle =
      subst (λ c. Good f (places.plug c (Some x)) → IdleBody c x y → ⊥) (whole_place b) (body_alive f (place_of b) (rest_of b) x y) (good_there (Some x) is) idle

  pub no_unused_function : (pure : Bool) (n m : Note) (x : List ℕ) (rest : Forest) → t ≡ places.plug b (a_function pure n m x rest) → f.keeps_unused ≡ false → IsItem b → IsOwnFunction b (a_function pure n m x rest) → At b (a_function pure n m x rest) (Free t variable.Let x) → ⊥
  no_unused_function pure n m x rest is unkept item own free =
      let y = a_function pure n m x rest in
      let i = item_in b item in
      subst (λ c. Good f (places.plug c y) → IsOwnFunction c y → At c y (Free (places.plug c y) variable.Let x) → ⊥) i.is (function_alive f unkept i.outer i.note i.inner i.beside i.rest i.in_row pure n m x rest) (good_there y is) own
      (subst (λ v. At b y (Free v variable.Let x)) is free)

  pub no_unused_declarator : (n m : Note) (x : List ℕ) (value : Forest) → t ≡ places.plug b (a_declarator n m x value) → f.keeps_unused ≡ false → IsDeclarator b → IsOwnDeclarator b (a_declarator n m x value)
      → At b (a_declarator n m x value) (SilentDeclarator t (node (binding_name x) m nothing value) (in_class_at b)) → At b (a_declarator n m x value) (FreeDeclarator t x) → ⊥
  no_unused_declarator n m x value is unkept declares own silent free =
      let y = a_declarator n m x value in
      let here_ = good_there y is in
      let i = declarator_in b (record { kind = variable_declarator; note = n; below = node (binding_name x) m nothing value }) (fits_laid (places.plug b y) here_.knows.fits) declares in
      subst (λ c. Good f (places.plug c y) → IsOwnDeclarator c y → At c y (SilentDeclarator (places.plug c y) (node (binding_name x) m nothing value) (in_class_at c)) → At c y (FreeDeclarator (places.plug c y) x) → ⊥) i.is
      (declarator_alive f unkept i.outer i.note i.inner i.beside i.rest i.in_row i.how i.declaration_note i.list_note i.before i.more i.before_in_row n m x value) here_ own
      (subst (λ v. At b y (SilentDeclarator v (node (binding_name x) m nothing value) (in_class_at b))) is silent) (subst (λ v. At b y (FreeDeclarator v x)) is free)

  pub no_value_stays : (x y : Tree) → t ≡ places.plug b (Some x) → f.keeps_unused ≡ false → ValueStays b x y → ⊥
  no_value_stays _ _ is unkept (value_is_stated how n m l j i o x k inner may item without own free) =
      let y = a_declaration how n m l j x (alone k i inner) in
      subst (λ c. Good f (places.plug c y) → IsItem c → (asked_at (asked_of_program true) c).in_with ≡ false → IsOwnDeclaration how c y → At c y (Free (places.plug c y) how x) → ⊥) (whole_place b)
      (λ g there outside_with owns frees. value_alive f unkept (place_of b) (rest_of b) how n m l j i x k inner g may there outside_with owns frees) (good_there y is) item without own free
