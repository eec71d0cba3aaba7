-- What the rules take out of a program is dead code, so that of a program without any they take out nothing.
use Rattle.std.proofs.Common.{◌≡◌, ◌∙◌, ◌==◌, ◌⊎◌, inl, inr, ℕ, List, length, Bool, true, false, not, ◌&&◌, ◌||◌, if◌then◌else◌, true≢false, Option, Some, None, refl, sym, ap, subst}
use Rattle.std.proofs.lemmas.Bool.{and_parts, or_cases}
use Rattle.js_syntax.specs.declared.node_kind.NodeKind.{NodeKind as Kind}
use Rattle.js_syntax.specs.declared.node_kind.NodeKind.TheVariants.{EmptyStatement as empty_statement, BlockStatement as block_statement, LabeledStatement as labeled_statement, ExpressionStatement as expression_statement, Function as function, VariableDeclaration as variable_declaration, VariableDeclarator as variable_declarator, Declarators as declarators, BindingName as binding_name, Statements as statements}
use Rattle.js_syntax.specs.declared.kind.FunctionKind.TheVariants as function_kind
use Rattle.js_syntax.specs.declared.kind.VariableKind.{VariableKind}
use Rattle.js_syntax.specs.Node.{Forest, Tree, Note, nothing, node, absent, alone}
use Rattle.js_effects.specs.Silence.{is_marked, may_have_effects}
use Rattle.min_context.specs.Place.{Place, place_at, goes_on}
use Rattle.min_pass.specs.Pass.{unmarked as without_mark}
use Rattle.scope_rules.specs.ScopeFlags as scope_flag
use Rattle.scope_table.specs.Reading.{symbol_at}
use Rattle.scope_laws.specs.Place as places
use Rattle.scope_laws.specs.Place.{first, placed}
use Rattle.scope_counts.specs.Edits as counts
use Rattle.scope_counts.specs.Edits.{under, plug}
use Rattle.steps.specs.Allowed.Arranged.{are_declarators}
use Rattle.steps.specs.Allowed.EmptyBlock.{holds_nothing, empty_block_leaves}
use Rattle.steps.specs.Allowed.Places.{a_node}
use Rattle.steps.specs.Allowed.SilentStatement.{a_statement}
use Rattle.steps.specs.Allowed.UnusedFunction.{a_function, UnusedFunction, unused_function_leaves}
use Rattle.steps.specs.Allowed.UnusedDeclarator.{a_declarator}
use Rattle.steps.specs.Marked.Flags.{scope_has, is_sloppy_block}
use Rattle.headline.specs.Clean.{CleanBut, IsDead, an_empty_statement, an_empty_block, a_silent_statement, an_idle_body, an_unused_function, an_unused_declarator, a_value_of_an_unused_name}
use Rattle.js_syntax.proofs.Truth.{not_true}
use Rattle.rules.specs.DeadCode.Rules.{Facts, Where, surroundings_below, where_of, scope_of, is_unlisted, is_global, function_is_unused, variable_is_unused, is_silent_statement, one_goes, item_has_dead, has_dead, is_idle_body, becomes_empty, stated}
use Rattle.rules.specs.DeadCode.Knows.{Knows}
use Rattle.rules.specs.DeadCode.Quiet.{IsQuiet}
use Rattle.rules.proofs.DeadCode.Keeping.{Known}
use Rattle.rules.proofs.DeadCode.LaidOut.{is_laid_at, laid_here}
use Rattle.rules.proofs.DeadCode.Bodies.{idle_empties}
use Rattle.rules.proofs.DeadCode.Places.{to, plugged, join, plug_join, is_row, surroundings_there}
use Rattle.rules.proofs.DeadCode.Stating.{states, value_stated}
use Rattle.rules.proofs.Expressions.Becoming.{none_of}
use Rattle.rules.proofs.DeadCode.Leaving.{Quiet, statement_silent, function_unused, declarator_unused}
use Rattle.rules.proofs.DeadCode.Items.{IsItems, items_where, item_there, knows_there, known_laid, item_scope, declaration, in_declaration, declarator_plugged, declarator_there, declarator_surroundings, declarator_declares}
use Rattle.rules.proofs.DeadCode.Trimming.{Goes, a_name, goes_view}
use Rattle.rules.proofs.DeadCode.Splitting.{list_items}
use Rattle.rules_clean.proofs.Finding.{dead_item, dead_declarator, declarator_of}

wrong : {P : Type 0} → false ≡ true → P
wrong e = absurd (true≢false (sym e))

-- ---- a part that is dead

pub record HasDead (f : Facts) (t : Forest) : Type 0 where
  pub place : places.Around
  pub part : Option Tree
  pub stands : t ≡ places.plug place part
  pub dead : IsDead f.keeps_unused f.keeps_imports t place part

pub clean_has_none : (f : Facts) (t : Forest) → CleanBut f.keeps_unused f.keeps_imports t → HasDead f t → ⊥
clean_has_none f t clean d = clean.nothing_is_dead d.place d.part d.stands d.dead

pub here_dead : (f : Facts) (b : places.Around) (x : Option Tree) → IsDead f.keeps_unused f.keeps_imports (places.plug b x) b x → HasDead f (places.plug b x)
here_dead f b x dead = record { place = b; part = x; stands = refl; dead = dead }

-- that stands in front of the rest of its row
dead_there : (f : Facts) (a : counts.Around) (x : Option Tree) (rest : Forest) → IsDead f.keeps_unused f.keeps_imports (places.plug (to a (first rest)) x) (to a (first rest)) x → HasDead f (plug a (placed x rest))
dead_there f a x rest dead = subst (λ t. HasDead f t) (plugged a (first rest) x) (here_dead f (to a (first rest)) x dead)

by_function : (f : Facts) (b : places.Around) (pure : Bool) (n m : Note) (x : List ℕ) (rest : Forest) → f.keeps_unused ≡ false → UnusedFunction b (record { kind = function function_kind.Declaration pure; note = n; below = node (binding_name x) m nothing rest })
    → IsDead f.keeps_unused f.keeps_imports (places.plug b (a_function pure n m x rest)) b (a_function pure n m x rest)
by_function f b pure n m x rest unkept (unused_function_leaves q i j y r item own free) = an_unused_function b pure n m x rest unkept item own free

-- what counts as unused isn't kept
unkept_if : (f : Facts) (o : Option ℕ) → is_unlisted f o ≡ true → f.keeps_unused ≡ false
unkept_if f None e = wrong e
unkept_if f (Some n) e = not_true f.keeps_unused (and_parts (not f.keeps_unused) (length (symbol_at f.scoping n).references == 0 && not (is_marked f.exported (Some n))) e).0

pub variable_unkept : (f : Facts) (scope : ℕ) (o : Option ℕ) → variable_is_unused f scope o ≡ true → f.keeps_unused ≡ false
variable_unkept f scope o e = unkept_if f o (and_parts (is_unlisted f o) (not (is_global f scope || scope_has f.scoping 0 scope_flag.direct_eval)) e).0

function_unkept : (f : Facts) (w : Where) (o : Option ℕ) → function_is_unused f w o ≡ true → f.keeps_unused ≡ false
function_unkept f w o e = unkept_if f o (and_parts (is_unlisted f o) (not (is_global f w.scope || scope_has f.scoping w.scope scope_flag.direct_eval || is_sloppy_block f.scoping w.scope)) e).0

-- ---- what goes is dead

module _ (f : Facts) where
  silent_dead : (a : counts.Around) (k : Kind) (n : Note) (below rest : Forest) → Known f (plug a (node k n below rest)) → is_laid_at k below ≡ true → is_silent_statement f (where_of (place_at a (goes_on rest))) k below ≡ true → HasDead f (plug a (node k n below rest))
  silent_dead a expression_statement n (node k l inner nothing) rest h laid e =
      let y = a_statement n l k inner in
      let b = to a (first rest) in
      dead_there f a y rest
      (a_silent_statement b n (alone k l inner)
      (statement_silent f h.marked b n l k inner (knows_there f h.marked a (first rest) y h.knows)
      (subst (λ c. may_have_effects f.bound c (alone k l inner) ≡ false) (sym (surroundings_there a rest))
      (not_true (may_have_effects f.bound (surroundings_below (place_at a (goes_on rest)).ancestors) (alone k l inner)) e))))
  silent_dead a expression_statement n below rest h laid e = wrong laid
  silent_dead a k n below rest h laid e = wrong e

  emptied_dead : (a : counts.Around) (x : Tree) (rest : Forest) → Known f (plug a (node x.kind x.note x.below rest)) → is_laid_at x.kind x.below ≡ true → becomes_empty f (place_at a (goes_on rest)) x.kind x.below ≡ true → HasDead f (plug a (node x.kind x.note x.below rest))
  emptied_dead a x rest h laid e = by (or_cases (is_silent_statement f (where_of (place_at a (goes_on rest))) x.kind x.below) (is_idle_body (place_at a (goes_on rest)) x.kind x.below) e)
    where
      by : (is_silent_statement f (where_of (place_at a (goes_on rest))) x.kind x.below ≡ true) ⊎ (is_idle_body (place_at a (goes_on rest)) x.kind x.below ≡ true) → HasDead f (plug a (node x.kind x.note x.below rest))
      by (inl silent) = silent_dead a x.kind x.note x.below rest h laid silent
      by (inr idle) = dead_there f a (Some x) rest (an_idle_body (to a (first rest)) x _ (idle_empties a x x.note rest idle))

  -- a declaration that becomes a statement of its value
  stated_dead : (a : counts.Around) (x y : Tree) (rest : Forest) → Known f (plug a (node x.kind x.note x.below rest)) → stated f (place_at a (goes_on rest)) x ≡ Some y → HasDead f (plug a (node x.kind x.note x.below rest))
  stated_dead a x y rest h is =
      let p = place_at a (goes_on rest) in
      let o = states f p x y is in
      dead_there f a (Some x) rest
      (a_value_of_an_unused_name (to a (first rest)) x y (variable_unkept f (scope_of (where_of p) o.how) o.name_note.id o.unused) (value_stated f h.marked a x y rest h.knows is))

  module _ (p : Place) where
    block_dead : (a : counts.Around) (x : Tree) (rest : Forest) → IsItems p a → holds_nothing x.kind x.below ≡ true → HasDead f (plug a (node x.kind x.note x.below rest))
    block_dead a x rest items held = dead_there f a (Some x) rest (an_empty_block (to a (first rest)) x (empty_block_leaves (item_there p a rest items) held))

    function_dead : (a : counts.Around) (pure : Bool) (n m : Note) (x : List ℕ) (r rest : Forest) → IsItems p a → function_is_unused f (where_of p) m.id ≡ true → Known f (plug a (node (function function_kind.Declaration pure) n (node (binding_name x) m nothing r) rest))
        → HasDead f (plug a (node (function function_kind.Declaration pure) n (node (binding_name x) m nothing r) rest))
    function_dead a pure n m x r rest items e h =
        let y = a_function pure n m x r in
        let b = to a (first rest) in
        dead_there f a y rest
        (by_function f b pure n m x r (function_unkept f (where_of p) m.id e)
        (function_unused f h.marked (where_of p) b pure n m x r (knows_there f h.marked a (first rest) y h.knows) (item_there p a rest items)
        (item_scope f p a (record { kind = function function_kind.Declaration pure; note = n; below = node (binding_name x) m nothing r }) rest items h) e))

    declarator_dead : (a d : counts.Around) (how : VariableKind) (n m : Note) (k : Kind) (l : Note) (below more rest : Forest) → IsItems p a → is_row d ≡ true → Goes f p how k below → Known f (plug a (declaration how n m (plug d (node k l below more)) rest))
        → HasDead f (plug a (declaration how n m (plug d (node k l below more)) rest))
    declarator_dead a d how n m k l below more rest items row (a_name x j value e quiet) h =
        let y = a_declarator l j x value in
        let b = to a (in_declaration how n m d more rest) in
        let o = declarator_unused f h.marked (scope_of (where_of p) how) b l j x value (subst (λ t. Knows f h.marked t) (sym (declarator_plugged a d how n m more rest y)) h.knows)
        (declarator_declares a d how n m more rest f p (record { kind = variable_declarator; note = l; below = node (binding_name x) j nothing value }) items row h) e
        (subst (λ c. Quiet f c value) (sym (declarator_surroundings a d how n m more rest p items row)) quiet) in
        subst (λ t. HasDead f t) (declarator_plugged a d how n m more rest y) (here_dead f b y (an_unused_declarator b l j x value (variable_unkept f (scope_of (where_of p) how) j.id e) (declarator_there a d how n m more rest p items row) o.own o.silent o.free))

    declaration_dead : (a : counts.Around) (how : VariableKind) (n m : Note) (ds rest : Forest) → IsItems p a → are_declarators ds ≡ true → one_goes f (where_of p) how ds ≡ true → Known f (plug a (declaration how n m ds rest)) → HasDead f (plug a (declaration how n m ds rest))
    declaration_dead a how n m ds rest items arranged e h =
        let o = dead_declarator f (where_of p) how ds e in
        let goes = goes_view f p how o.kind o.below (declarator_of o.before o.kind o.note o.below o.rest o.in_row (subst (λ t. are_declarators t ≡ true) o.is arranged)) o.holds in
        subst (λ t. HasDead f (plug a (declaration how n m t rest))) (sym o.is)
        (declarator_dead a o.before how n m o.kind o.note o.below o.rest rest items o.in_row goes (subst (λ t. Known f (plug a (declaration how n m t rest))) o.is h))

    item_dead : (a : counts.Around) (k : Kind) (n : Note) (below rest : Forest) → IsItems p a → is_laid_at k below ≡ true → item_has_dead f (where_of p) k below ≡ true → Known f (plug a (node k n below rest)) → HasDead f (plug a (node k n below rest))
    item_dead a empty_statement n nothing rest items l g h = dead_there f a (a_node empty_statement n nothing) rest (an_empty_statement (to a (first rest)) n (item_there p a rest items))
    item_dead a empty_statement n (node k m b r) rest items l g h = wrong l
    item_dead a empty_statement n (absent r) rest items l g h = wrong l
    item_dead a block_statement n below rest items l g h = block_dead a (record { kind = block_statement; note = n; below = below }) rest items g
    item_dead a (labeled_statement label) n below rest items l g h = block_dead a (record { kind = labeled_statement label; note = n; below = below }) rest items g
    item_dead a expression_statement n below rest items l g h = silent_dead a expression_statement n below rest h l (subst (λ w. is_silent_statement f w expression_statement below ≡ true) (sym (items_where p a (goes_on rest) items)) g)
    item_dead a (function function_kind.Declaration pure) n (node (binding_name x) m nothing r) rest items l g h = function_dead a pure n m x r rest items g h
    item_dead a (function function_kind.Declaration pure) n (node (binding_name x) m (node k i b c) r) rest items l g h = wrong l
    item_dead a (function function_kind.Declaration pure) n (node (binding_name x) m (absent b) r) rest items l g h = wrong l
    item_dead a (function function_kind.Declaration pure) n below rest items l g h = wrong g
    item_dead a (function how pure) n below rest items l g h = wrong g
    item_dead a (variable_declaration how) n (node declarators m ds nothing) rest items l g h = declaration_dead a how n m ds rest items l g h
    item_dead a (variable_declaration how) n below rest items l g h = wrong l
    item_dead a k n below rest items l g h = wrong g

  -- of a list at a place
  list_dead : (a : counts.Around) (n : Note) (row rest : Forest) → Known f (plug a (node statements n row rest)) → has_dead f (where_of (place_at a (goes_on rest))) row ≡ true → HasDead f (plug a (node statements n row rest))
  list_dead a n row rest h e =
      let o = dead_item f (where_of (place_at a (goes_on rest))) row e in
      let list = under statements n o.before rest in
      let there = join a list in
      let item = node o.kind o.note o.below o.rest in
      let same : plug a (node statements n row rest) ≡ plug there item = ap (λ t. plug a (node statements n t rest)) o.is ∙ sym (plug_join a list item) in
      let known = subst (λ t. Known f t) same h in
      subst (λ t. HasDead f t) (sym same)
      (item_dead (place_at a (goes_on rest)) there o.kind o.note o.below o.rest (list_items a n o.before rest o.in_row) (laid_here o.kind o.note o.below o.rest (known_laid f there item known)) o.holds known)

-- ---- without dead code nothing goes

not_so : (b : Bool) → (b ≡ true → ⊥) → b ≡ false
not_so true h = absurd (h refl)
not_so false h = refl

pub rules_rest : (f : Facts) (marked : ℕ → Bool) (t : Forest) → Knows f marked t → CleanBut f.keeps_unused f.keeps_imports t → IsQuiet f t
rules_rest f marked t h clean = record {
  lists = λ a n row rest is.
      not_so (has_dead f (where_of (place_at a (goes_on rest))) row) (λ e. clean_has_none f t clean (subst (λ u. HasDead f u) (sym is) (list_dead f a n row rest (known is) e)));
  statements_stay = λ a x rest is.
      let u = node x.kind x.note x.below rest in
      let laid = laid_here x.kind x.note x.below rest (known_laid f a u (known is)) in
      ap (λ b. if b then Some (record { kind = empty_statement; note = without_mark x.note; below = nothing }) else None)
      (not_so (becomes_empty f (place_at a (goes_on rest)) x.kind x.below) (λ e. clean_has_none f t clean (subst (λ v. HasDead f v) (sym is) (emptied_dead f a x rest (known is) laid e))));
  declarations_stay = λ a x rest is. none_of (stated f (place_at a (goes_on rest)) x) (λ y e. clean_has_none f t clean (subst (λ v. HasDead f v) (sym is) (stated_dead f a x y rest (known is) e)));
}
  where
    known : {u : Forest} → t ≡ u → Known f u
    known is = subst (λ u. Known f u) is (record { marked = marked; knows = h })
