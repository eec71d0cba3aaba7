-- A list of statements is trimmed by single edits, from left to right.
use Rattle.std.proofs.Common.{◌≡◌, ◌⊎◌, inl, inr, ℕ, List, Bool, true, false, not, ◌&&◌, ◌||◌, if◌then◌else◌, true≢false, Some, refl, sym, ap, subst}
use Rattle.std.proofs.lemmas.Bool.{and_parts}
use Rattle.js_syntax.specs.declared.node_kind.NodeKind.{NodeKind as Kind}
use Rattle.js_syntax.specs.declared.node_kind.NodeKind.TheVariants.{EmptyStatement as empty_statement, BlockStatement as block_statement, LabeledStatement as labeled_statement, ExpressionStatement as expression_statement, Function as function, VariableDeclaration as variable_declaration, VariableDeclarator as variable_declarator, Declarators as declarators, BindingName as binding_name, Statements as statements}
use Rattle.js_syntax.specs.declared.kind.FunctionKind.TheVariants as function_kind
use Rattle.js_syntax.specs.declared.kind.VariableKind.{VariableKind}
use Rattle.js_syntax.specs.Node.{Forest, Tree, Note, nothing, node, absent, alone}
use Rattle.js_effects.specs.Silence.{may_have_effects}
use Rattle.min_context.specs.Place.{Place, place_at, goes_on}
use Rattle.min_pass.specs.Pass.{is_given}
use Rattle.scope_laws.specs.Place.{first}
use Rattle.scope_counts.specs.Edits as counts
use Rattle.scope_counts.specs.Edits.{here, behind, behind_none, under, plug}
use Rattle.steps.specs.Allowed.Arranged.{is_declarator, are_declarators}
use Rattle.steps.specs.Allowed.EmptyBlock.{holds_nothing, empty_block_leaves}
use Rattle.steps.specs.Allowed.Edits.{Edit, TreeEdits, no_tree_edit, one_tree_edit}
use Rattle.steps.specs.Allowed.Places.{a_node, has_node}
use Rattle.steps.specs.Allowed.SilentStatement.{a_statement}
use Rattle.steps.specs.Allowed.UnusedFunction.{a_function}
use Rattle.steps.specs.Allowed.UnusedDeclarator.{a_declarator}
use Rattle.steps.specs.Allowed.UnusedDeclaration.{a_declaration}
use Rattle.steps.proofs.Allowed.Composing.{tree_edits_compose}
use Rattle.js_syntax.proofs.Truth.{not_true, not_false, first_of_neither, second_of_neither}
use Rattle.rules.specs.DeadCode.Rules.{Facts, surroundings_below, where_of, scope_of, function_is_unused, variable_is_unused, is_quiet, declarator_goes, one_goes, one_stays, declarators_left, declaration_goes, item_goes, declaration_left, item_left, trimmed}
use Rattle.rules.specs.DeadCode.Knows.{Knows}
use Rattle.rules.proofs.DeadCode.Keeping.{Known, still_known}
use Rattle.rules.proofs.DeadCode.LaidOut.{has_list, is_laid_at, laid_here}
use Rattle.rules.proofs.DeadCode.Places.{to, join, plug_join, is_row, has_before, row_join, before_join}
use Rattle.rules.proofs.DeadCode.Leaving.{empty_leaves, block_leaves, statement_empties, function_leaves, Quiet, declarator_leaves, declaration_leaves}
use Rattle.rules.proofs.DeadCode.Items.{IsItems, first_items, next_items, absent_items, item_there, item_surroundings, leaves_there, becomes_there, knows_there, known_laid, item_scope, item_declares, declaration, in_declaration, declarator_plugged, declarator_edit, declarator_there, declarator_surroundings, declarator_other, declarator_other_behind, declarator_declares}

wrong : {P : Type 0} → false ≡ true → P
wrong e = absurd (true≢false (sym e))

once : (t u : Forest) → Edit t u → TreeEdits t u
once t u e = one_tree_edit t u u e (no_tree_edit u)

module _ (f : Facts) (p : Place) where
  abbrev Now : Forest → Type 0
  Now t = Known f t

  then_many : (t u v : Forest) → TreeEdits t u → (Now u → TreeEdits u v) → Now t → TreeEdits t v
  then_many t u v some more h = tree_edits_compose some (more (still_known f t u some h))

  -- ---- single edits

  function_goes_there : (a : counts.Around) (pure : Bool) (n m : Note) (x : List ℕ) (r rest : Forest) → IsItems p a → function_is_unused f (where_of p) m.id ≡ true → Now (plug a (node (function function_kind.Declaration pure) n (node (binding_name x) m nothing r) rest))
      → Edit (plug a (node (function function_kind.Declaration pure) n (node (binding_name x) m nothing r) rest)) (plug a rest)
  function_goes_there a pure n m x r rest items e h =
      let y = a_function pure n m x r in
      leaves_there a y rest
      (function_leaves f h.marked (where_of p) (to a (first rest)) pure n m x r (knows_there f h.marked a (first rest) y h.knows) (item_there p a rest items)
      (item_scope f p a (record { kind = function function_kind.Declaration pure; note = n; below = node (binding_name x) m nothing r }) rest items h) e)

  empty_goes_there : (a : counts.Around) (n : Note) (rest : Forest) → IsItems p a → Edit (plug a (node empty_statement n nothing rest)) (plug a rest)
  empty_goes_there a n rest items = leaves_there a (a_node empty_statement n nothing) rest (empty_leaves (to a (first rest)) n (item_there p a rest items))

  block_goes_there : (a : counts.Around) (x : Tree) (rest : Forest) → IsItems p a → holds_nothing x.kind x.below ≡ true → Edit (plug a (node x.kind x.note x.below rest)) (plug a rest)
  block_goes_there a x rest items held = leaves_there a (Some x) rest (block_leaves (to a (first rest)) x (empty_block_leaves (item_there p a rest items) held))

  statement_goes_there : (a : counts.Around) (n l : Note) (k : Kind) (inner rest : Forest) → IsItems p a → may_have_effects f.bound (surroundings_below p.ancestors) (alone k l inner) ≡ false → Now (plug a (node expression_statement n (alone k l inner) rest))
      → TreeEdits (plug a (node expression_statement n (alone k l inner) rest)) (plug a rest)
  statement_goes_there a n l k inner rest items e h =
      let y = a_statement n l k inner in
      one_tree_edit (plug a (node expression_statement n (alone k l inner) rest)) (plug a (node empty_statement n nothing rest)) (plug a rest)
      (becomes_there a y (a_node empty_statement n nothing) rest
      (statement_empties f h.marked (to a (first rest)) n n l k inner (knows_there f h.marked a (first rest) y h.knows) (subst (λ b. may_have_effects f.bound b (alone k l inner) ≡ false) (sym (item_surroundings p a rest items)) e)))
      (once (plug a (node empty_statement n nothing rest)) (plug a rest) (empty_goes_there a n rest items))

  -- ---- declarators

  pub data Goes (how : VariableKind) : Kind → Forest → Type 0 where
    a_name : (x : List ℕ) (j : Note) (value : Forest) → variable_is_unused f (scope_of (where_of p) how) j.id ≡ true → Quiet f (surroundings_below p.ancestors) value → Goes how variable_declarator (node (binding_name x) j nothing value)

  pub goes_view : (how : VariableKind) (k : Kind) (below : Forest) → is_declarator k below ≡ true → declarator_goes f (where_of p) how k below ≡ true → Goes how k below
  goes_view how variable_declarator (node (binding_name x) j nothing value) a g =
      let h = and_parts (variable_is_unused f (scope_of (where_of p) how) j.id) (is_quiet f (where_of p) value) g in
      a_name x j value h.0 (not_true (may_have_effects f.bound (surroundings_below p.ancestors) value || (surroundings_below p.ancestors).in_with && is_given value) h.1)
  goes_view how variable_declarator (node (binding_name x) j (node k n b r) value) a g = wrong a
  goes_view how variable_declarator (node (binding_name x) j (absent r) value) a g = wrong a
  goes_view how variable_declarator (node k j inner value) a g = wrong g
  goes_view how variable_declarator nothing a g = wrong a
  goes_view how variable_declarator (absent r) a g = wrong a
  goes_view how k below a g = wrong a

  declarator_goes_there : (a d : counts.Around) (how : VariableKind) (n m : Note) (k : Kind) (l : Note) (below more rest : Forest) → IsItems p a → is_row d ≡ true → (has_before d ≡ true) ⊎ (has_node more ≡ true) → Goes how k below
      → Now (plug a (declaration how n m (plug d (node k l below more)) rest)) → Edit (plug a (declaration how n m (plug d (node k l below more)) rest)) (plug a (declaration how n m (plug d more) rest))
  declarator_goes_there a d how n m k l below more rest items row others (a_name x j value e quiet) h =
      let y = a_declarator l j x value in
      let b = to a (in_declaration how n m d more rest) in
      declarator_edit a d how n m more rest y
      (declarator_leaves f h.marked (scope_of (where_of p) how) b l j x value (subst (λ t. Knows f h.marked t) (sym (declarator_plugged a d how n m more rest y)) h.knows) (declarator_there a d how n m more rest p items row)
      (elim others [
        | inl o ↦ declarator_other a d how n m more rest row o
        | inr o ↦ declarator_other_behind a d how n m more rest row o
      ])
      (declarator_declares a d how n m more rest f p (record { kind = variable_declarator; note = l; below = node (binding_name x) j nothing value }) items row h) e
      (subst (λ c. Quiet f c value) (sym (declarator_surroundings a d how n m more rest p items row)) quiet))

  only_goes_there : (a : counts.Around) (how : VariableKind) (n m : Note) (k : Kind) (l : Note) (below rest : Forest) → IsItems p a → Goes how k below → Now (plug a (declaration how n m (node k l below nothing) rest))
      → Edit (plug a (declaration how n m (node k l below nothing) rest)) (plug a rest)
  only_goes_there a how n m k l below rest items (a_name x j value e quiet) h =
      let y = a_declaration how n m l j x value in
      let tree : Tree = record { kind = variable_declaration how; note = n; below = node declarators m (node variable_declarator l (node (binding_name x) j nothing value) nothing) nothing } in
      leaves_there a y rest
      (declaration_leaves f h.marked (scope_of (where_of p) how) (to a (first rest)) how n m l j x value (knows_there f h.marked a (first rest) y h.knows) (item_there p a rest items) (item_declares f p a tree rest items h how) e
      (subst (λ c. Quiet f c value) (sym (item_surroundings p a rest items)) quiet))

  -- all of them, one after the other
  declaration_goes_there : (a : counts.Around) (how : VariableKind) (n m : Note) (k : Kind) (l : Note) (below more rest : Forest) → IsItems p a → is_declarator k below && are_declarators more ≡ true
      → (not (declarator_goes f (where_of p) how k below) || one_stays f (where_of p) how more) ≡ false → Now (plug a (declaration how n m (node k l below more) rest)) → TreeEdits (plug a (declaration how n m (node k l below more) rest)) (plug a rest)
  declaration_goes_there a how n m k l below nothing rest items arranged e h =
      let g = not_false (declarator_goes f (where_of p) how k below) (first_of_neither (not (declarator_goes f (where_of p) how k below)) false e) in
      once (plug a (declaration how n m (node k l below nothing) rest)) (plug a rest) (only_goes_there a how n m k l below rest items (goes_view how k below (and_parts (is_declarator k below) true arranged).0 g) h)
  declaration_goes_there a how n m k l below (absent more) rest items arranged e h = wrong (and_parts (is_declarator k below) false arranged).1
  declaration_goes_there a how n m k l below (node j i b more) rest items arranged e h =
      let g = not_false (declarator_goes f (where_of p) how k below) (first_of_neither (not (declarator_goes f (where_of p) how k below)) (one_stays f (where_of p) how (node j i b more)) e) in
      let parts = and_parts (is_declarator k below) (is_declarator j b && are_declarators more) arranged in
      let t = plug a (declaration how n m (node k l below (node j i b more)) rest) in
      let u = plug a (declaration how n m (node j i b more) rest) in
      then_many t u (plug a rest) (once t u (declarator_goes_there a here how n m k l below (node j i b more) rest items refl (inr refl) (goes_view how k below parts.0 g) h))
      (λ now. declaration_goes_there a how n m j i b more rest items parts.1 (second_of_neither (not (declarator_goes f (where_of p) how k below)) (one_stays f (where_of p) how (node j i b more)) e) now) h

  -- ---- those of a declaration that stays

  stays_behind : (g v : Bool) → (not g || v) ≡ true → g ≡ true → v ≡ true
  stays_behind true v e h = e
  stays_behind false v e h = wrong h

  stays_node : (how : VariableKind) (ds : Forest) → one_stays f (where_of p) how ds ≡ true → has_node ds ≡ true
  stays_node how nothing e = wrong e
  stays_node how (absent rest) e = stays_node how rest e
  stays_node how (node k n below rest) e = refl

  abbrev Comes : (a d : counts.Around) → VariableKind → (n m : Note) → (rest ds : Forest) → Type 0
  Comes a d how n m rest ds =
      is_row d ≡ true → (has_before d ≡ true) ⊎ (one_stays f (where_of p) how ds ≡ true) → Now (plug a (declaration how n m (plug d ds) rest))
      → TreeEdits (plug a (declaration how n m (plug d ds) rest)) (plug a (declaration how n m (plug d (declarators_left f (where_of p) how ds)) rest))

  by_declarator : (g : Bool) (a d : counts.Around) (how : VariableKind) (n m : Note) (k : Kind) (l : Note) (below more rest : Forest) → declarator_goes f (where_of p) how k below ≡ g → IsItems p a → is_declarator k below ≡ true
      → Comes a d how n m rest more → Comes a (join d (behind k l below here)) how n m rest more → is_row d ≡ true → (has_before d ≡ true) ⊎ ((not g || one_stays f (where_of p) how more) ≡ true)
      → Now (plug a (declaration how n m (plug d (node k l below more)) rest))
      → TreeEdits (plug a (declaration how n m (plug d (node k l below more)) rest))
      (plug a (declaration how n m (plug d (if g then declarators_left f (where_of p) how more else node k l below (declarators_left f (where_of p) how more))) rest))
  by_declarator true a d how n m k l below more rest e items arranged leaves stays row others h =
      let t = plug a (declaration how n m (plug d (node k l below more)) rest) in
      let u = plug a (declaration how n m (plug d more) rest) in
      let left = declarators_left f (where_of p) how more in
      then_many t u (plug a (declaration how n m (plug d left) rest))
      (once t u (declarator_goes_there a d how n m k l below more rest items row
      (elim others [
        | inl o ↦ inl o
        | inr o ↦ inr (stays_node how more o)
      ])
      (goes_view how k below arranged e) h))
      (λ now. leaves row others now) h
  by_declarator false a d how n m k l below more rest e items arranged leaves stays row others h =
      let next = join d (behind k l below here) in
      let left = declarators_left f (where_of p) how more in
      let whole = λ (t : Forest). plug a (declaration how n m t rest) in
      subst (λ t. TreeEdits t (whole (plug d (node k l below left)))) (ap whole (plug_join d (behind k l below here) more))
      (subst (λ t. TreeEdits (whole (plug next more)) t) (ap whole (plug_join d (behind k l below here) left))
      (stays (row_join d k l below row) (inl (before_join d k l below row)) (subst (λ t. Now t) (sym (ap whole (plug_join d (behind k l below here) more))) h)))

  declarators_come : (ds : Forest) (a d : counts.Around) (how : VariableKind) (n m : Note) (rest : Forest) → IsItems p a → are_declarators ds ≡ true → Comes a d how n m rest ds
  declarators_come nothing a d how n m rest items arranged row others h = no_tree_edit _
  declarators_come (absent more) a d how n m rest items arranged row others h = wrong arranged
  declarators_come (node k l below more) a d how n m rest items arranged row others h =
      let parts = and_parts (is_declarator k below) (are_declarators more) arranged in
      by_declarator (declarator_goes f (where_of p) how k below) a d how n m k l below more rest refl items parts.0 (declarators_come more a d how n m rest items parts.1) (declarators_come more a (join d (behind k l below here)) how n m rest items parts.1) row others h

  some_stay : (g o s : Bool) → ((g || o) && not (not g || s)) ≡ false → (not g || s) ≡ true
  some_stay true o s e = not_false s e
  some_stay false o s e = refl

  declaration_stays : (a : counts.Around) (how : VariableKind) (n : Note) (below rest : Forest) → IsItems p a → has_list below ≡ true → declaration_goes f (where_of p) how below ≡ false → Now (plug a (node (variable_declaration how) n below rest))
      → TreeEdits (plug a (node (variable_declaration how) n below rest)) (plug a (node (variable_declaration how) n (declaration_left f (where_of p) how below) rest))
  declaration_stays a how n (node declarators m nothing nothing) rest items arranged e h = no_tree_edit _
  declaration_stays a how n (node declarators m (absent more) nothing) rest items arranged e h = wrong arranged
  declaration_stays a how n (node declarators m (node k l b more) nothing) rest items arranged e h =
      declarators_come (node k l b more) a here how n m rest items arranged refl (inr (some_stay (declarator_goes f (where_of p) how k b) (one_goes f (where_of p) how more) (one_stays f (where_of p) how more) e)) h
  declaration_stays a how n below rest items arranged e h = wrong arranged

  -- ---- an item

  item_leaves : (a : counts.Around) (k : Kind) (n : Note) (below rest : Forest) → IsItems p a → is_laid_at k below ≡ true → item_goes f (where_of p) k below ≡ true → Now (plug a (node k n below rest)) → TreeEdits (plug a (node k n below rest)) (plug a rest)
  item_leaves a empty_statement n nothing rest items l g h = once (plug a (node empty_statement n nothing rest)) (plug a rest) (empty_goes_there a n rest items)
  item_leaves a empty_statement n (node k m b r) rest items l g h = wrong l
  item_leaves a empty_statement n (absent r) rest items l g h = wrong l
  item_leaves a block_statement n below rest items l g h =
      once (plug a (node block_statement n below rest)) (plug a rest) (block_goes_there a (record { kind = block_statement; note = n; below = below }) rest items g)
  item_leaves a (labeled_statement label) n below rest items l g h =
      once (plug a (node (labeled_statement label) n below rest)) (plug a rest) (block_goes_there a (record { kind = labeled_statement label; note = n; below = below }) rest items g)
  item_leaves a expression_statement n (node k m inner nothing) rest items l g h = statement_goes_there a n m k inner rest items (not_true (may_have_effects f.bound (surroundings_below p.ancestors) (alone k m inner)) g) h
  item_leaves a expression_statement n below rest items l g h = wrong l
  item_leaves a (function function_kind.Declaration pure) n (node (binding_name x) m nothing r) rest items l g h =
      once (plug a (node (function function_kind.Declaration pure) n (node (binding_name x) m nothing r) rest)) (plug a rest) (function_goes_there a pure n m x r rest items g h)
  item_leaves a (function function_kind.Declaration pure) n (node (binding_name x) m (node k i b c) r) rest items l g h = wrong l
  item_leaves a (function function_kind.Declaration pure) n (node (binding_name x) m (absent b) r) rest items l g h = wrong l
  item_leaves a (function function_kind.Declaration pure) n below rest items l g h = wrong g
  item_leaves a (function how pure) n below rest items l g h = wrong g
  item_leaves a (variable_declaration how) n (node declarators m (node k i b more) nothing) rest items l g h =
      let stays = one_stays f (where_of p) how (node k i b more) in
      declaration_goes_there a how n m k i b more rest items l (not_true stays (and_parts (one_goes f (where_of p) how (node k i b more)) (not stays) g).1) h
  item_leaves a (variable_declaration how) n (node declarators m nothing nothing) rest items l g h = wrong g
  item_leaves a (variable_declaration how) n (node declarators m (absent more) nothing) rest items l g h = wrong l
  item_leaves a (variable_declaration how) n below rest items l g h = wrong l
  item_leaves a k n below rest items l g h = wrong g

  item_stays : (a : counts.Around) (k : Kind) (n : Note) (below rest : Forest) → IsItems p a → is_laid_at k below ≡ true → item_goes f (where_of p) k below ≡ false → Now (plug a (node k n below rest))
      → TreeEdits (plug a (node k n below rest)) (plug a (node k n (item_left f (where_of p) k below) rest))
  item_stays a (variable_declaration how) n below rest items l g h = declaration_stays a how n below rest items l g h
  item_stays a k n below rest items l g h = no_tree_edit _

  -- ---- the list

  abbrev ListComes : Forest → Type 0
  ListComes row = (a : counts.Around) → IsItems p a → Now (plug a row) → TreeEdits (plug a row) (plug a (trimmed f (where_of p) row))

  by_item : (g : Bool) (a : counts.Around) (k : Kind) (n : Note) (below rest : Forest) → item_goes f (where_of p) k below ≡ g → IsItems p a → is_laid_at k below ≡ true → ListComes rest → Now (plug a (node k n below rest))
      → TreeEdits (plug a (node k n below rest)) (plug a (if g then trimmed f (where_of p) rest else node k n (item_left f (where_of p) k below) (trimmed f (where_of p) rest)))
  by_item true a k n below rest e items l comes h =
      then_many (plug a (node k n below rest)) (plug a rest) (plug a (trimmed f (where_of p) rest)) (item_leaves a k n below rest items l e h) (λ now. comes a items now) h
  by_item false a k n below rest e items l comes h =
      let left = item_left f (where_of p) k below in
      let next = join a (behind k n left here) in
      let u = plug a (node k n left rest) in
      let v = plug a (node k n left (trimmed f (where_of p) rest)) in
      then_many (plug a (node k n below rest)) u v (item_stays a k n below rest items l e h)
      (λ now. subst (λ t. TreeEdits t v) (plug_join a (behind k n left here) rest)
      (subst (λ t. TreeEdits (plug next rest) t) (plug_join a (behind k n left here) (trimmed f (where_of p) rest))
      (comes next (next_items p a k n left items) (subst (λ t. Now t) (sym (plug_join a (behind k n left here) rest)) now))))
      h

  list_comes : (row : Forest) → ListComes row
  list_comes nothing a items h = no_tree_edit _
  list_comes (absent rest) a items h =
      let next = join a (behind_none here) in
      let left = trimmed f (where_of p) rest in
      subst (λ t. TreeEdits t (plug a (absent left))) (plug_join a (behind_none here) rest)
      (subst (λ t. TreeEdits (plug next rest) t) (plug_join a (behind_none here) left) (list_comes rest next (absent_items p a items) (subst (λ t. Now t) (sym (plug_join a (behind_none here) rest)) h)))
  list_comes (node k n below rest) a items h =
      by_item (item_goes f (where_of p) k below) a k n below rest refl items (laid_here k n below rest (known_laid f a (node k n below rest) h)) (λ b is now. list_comes rest b is now) h

-- of a list at a place
pub list_trims : (f : Facts) (marked : ℕ → Bool) (a : counts.Around) (n : Note) (row rest : Forest) → Knows f marked (plug a (node statements n row rest))
    → TreeEdits (plug a (node statements n row rest)) (plug a (node statements n (trimmed f (where_of (place_at a (goes_on rest))) row) rest))
list_trims f marked a n row rest h =
    let inner = under statements n here rest in
    let left = trimmed f (where_of (place_at a (goes_on rest))) row in
    subst (λ t. TreeEdits t (plug a (node statements n left rest))) (plug_join a inner row)
    (subst (λ t. TreeEdits (plug (join a inner) row) t) (plug_join a inner left)
    (list_comes f (place_at a (goes_on rest)) row (join a inner) (first_items a n rest) (record { marked = marked; knows = subst (λ t. Knows f marked t) (sym (plug_join a inner row)) h })))
