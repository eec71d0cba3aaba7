-- A walk that asked for no other pass saw each node, and nothing of it goes or comes to its parts or its value.
use Rattle.std.proofs.Common.{◌≡◌, ◌∙◌, List, [], ◌∷◌, ℕ, Bool, false, true, not, ◌||◌, ◌&&◌, if◌then◌else◌, Option, Some, None, is_some, refl, sym, ap, subst, true≢false}
use Rattle.js_syntax.specs.Class.{root}
use Rattle.js_syntax.specs.declared.node_kind.NodeKind.{NodeKind as Kind}
use Rattle.js_syntax.specs.declared.node_kind.NodeKind.TheVariants.{ExpressionStatement as expression_statement, EmptyStatement as empty_statement, BlockStatement as block_statement, LabeledStatement as labeled_statement, IfStatement as if_statement, TryStatement as try_statement, WhileStatement as while_statement, ForStatement as for_statement, ImportDeclaration as import_declaration, VariableDeclaration as variable_declaration, ArrayExpression as array_expression, TemplateLiteral as template_literal, ObjectExpression as object_expression, UnaryExpression as unary_expression, BinaryExpression as binary_expression, SequenceExpression as sequence_expression, ConditionalExpression as conditional_expression, LogicalExpression as logical_expression}
use Rattle.json_shape.specs.Shape.{Fits}
use Rattle.min_pass.specs.Pass.{unmarked}
use Rattle.js_syntax.specs.Node.{Forest, Tree, Note, nothing, node, absent, alone, forest_of}
use Rattle.min_context.specs.Above.{above_of}
use Rattle.min_context.specs.Ancestry.{nearest}
use Rattle.min_context.specs.declared.ancestor.Ancestor.{Ancestor}
use Rattle.min_context.specs.declared.ancestor.Ancestor.TheVariants.{Field as field}
use Rattle.min_context.specs.declared.ancestor.Parent.TheVariants as parent
use Rattle.js_syntax.specs.declared.kind.VariableKind.{VariableKind}
use Rattle.min_context.specs.Place.{Place, Spot, goes_on, place_of, next_of, below, outside, top}
use Rattle.min_context.specs.Seen.{Seen}
use Rattle.min_traverse.specs.Slot.{outer_slot, middle_slot, inner_slot, enter_outer, enter_middle, enter_inner, exit_outer, exit_middle, exit_inner}
use Rattle.min_traverse.specs.Visits.{above_place, Called, NodeVisit, Visits}
use Rattle.min_traverse.specs.declared.slot.Outer.{Outer}
use Rattle.min_traverse.specs.declared.slot.Outer.TheVariants as outer
use Rattle.min_traverse.specs.declared.slot.Middle.{Middle}
use Rattle.min_traverse.specs.declared.slot.Middle.TheVariants as middle
use Rattle.min_traverse.specs.declared.slot.Inner.{Inner}
use Rattle.min_traverse.specs.declared.slot.Inner.TheVariants as inner
use Rattle.rules.specs.DeadCode.Rules.{Facts, Where, where_of, scope_of, has_dead, is_body, becomes_empty, is_item_under, is_item, value_of_list_stays, becomes_stated, value_below}
use Rattle.rules.specs.Expressions.Jumps.{has_inert, left_if, list_reached}
use Rattle.min_statements.specs.Acts.{has_gone, list_changes}
use Rattle.min_statements.specs.Own.{Visited, is_written, statement_changes, program_changes}
use Rattle.rules.specs.DeadCode.Quiet.{EachNode, IsQuietAt, IsQuiet}
use Rattle.rules.proofs.DeadCode.Walked.{each_both, quiet_nodes}
use Rattle.min_traverse.specs.Lawful.{or_else}
use Rattle.rules.specs.Expressions.Uses.{Spot as Asked, spot_of}
use Rattle.rules.specs.Expressions.Known.{conditional_becomes, logical_becomes, at_expression_end}
use Rattle.rules.specs.Expressions.Unused.{unused_becomes}
use Rattle.rules.specs.Expressions.Lists.{unused_list_becomes}
use Rattle.rules.specs.Expressions.Indirect.{indirect_becomes}
use Rattle.rules.specs.Expressions.OneSided.{one_sided_becomes}
use Rattle.rules.specs.Expressions.Sequences.{sequence_left}
use Rattle.rules.specs.Expressions.TwoSides.{two_sides_become}
use Rattle.rules.specs.Expressions.Objects.{object_left}
use Rattle.rules.specs.Expressions.Operations.{minus_there, known_becomes}
use Rattle.js_effects.specs.Answers.{bare_answers}
use Rattle.js_effects.specs.Values.{value_of}
use Rattle.steps.specs.Allowed.KnownOperation.{as_negative, gives_negative, known_negative}
use Rattle.steps.specs.Allowed.UnusedOperation.{acts}
use Rattle.rules.specs.Expressions.Ifs.{if_becomes}
use Rattle.rules.specs.Expressions.EmptyIfs.{test_left}
use Rattle.rules.specs.Expressions.EmptyAlternates.{is_last, alternate_left}
use Rattle.rules.specs.Expressions.Untaken.{if_left}
use Rattle.rules.specs.Expressions.LeftNames.{if_named, if_ends}
use Rattle.rules.specs.Expressions.Settled.{IsSettledAt, IsSettled}
use Rattle.rules.proofs.Expressions.Walked.{settled_nodes}
use Rattle.rules.specs.Imports.Repeated.{has_repeated, once_if, list_once}
use Rattle.rules.specs.Imports.Merged.{is_outermost, with_below, below_together, come_together}
use Rattle.rules.specs.Imports.Passed.{below_passed, pass_on}
use Rattle.rules.specs.Imports.Rules.{pruned}
use Rattle.rules.specs.Imports.Quiet.{IsUsedAt, ImportsUsed}
use Rattle.rules.proofs.Imports.Walked.{imports_used}
use Rattle.rules.specs.Slots.Had.{is_always_statement, is_always_expression, HasSlots}
use Rattle.rules.proofs.Slots.Had.{slots_had}
use Rattle.scope_rules.specs.ScopeFlags as scope_flag
use Rattle.steps.specs.Marked.Flags.{scope_has}
use Rattle.min_statements.specs.Walker.{Names, facts_of}
use Rattle.min_statements.proofs.Acting.{none_left}

-- what becomes of an expression, by what is asked of its place
abbrev becomes_so : Asked → Note → Kind → (parts : Forest) → Option Tree
becomes_so s n k b = or_else (or_else (or_else (or_else (or_else (or_else (or_else (or_else (or_else (conditional_becomes s k b) (logical_becomes s k b)) (unused_becomes s k b)) (unused_list_becomes s n k b)) (indirect_becomes s n k b)) (one_sided_becomes s n k b)) (sequence_left s n k b)) (two_sides_become s n k b)) (object_left s n k b)) (known_becomes n k b)

-- and at a place
abbrev becomes : Place → Tree → Option Tree
becomes p x = becomes_so (spot_of p) x.note x.kind x.below

-- of a list of statements, of a statement and of an expression that has its own slot
record IsAlive (f : Facts) (p : Place) (x : Tree) : Type 0 where
  list : outer_slot (above_place p) x.kind ≡ outer.Statements → list_changes f (where_of p) x.below ≡ false
  statement : outer_slot (above_place p) x.kind ≡ outer.Statement → statement_changes f p x ≡ false
  whole : outer_slot (above_place p) x.kind ≡ outer.Program → program_changes f p x ≡ false
  expression : middle_slot (above_place p) x.kind ≡ middle.Expression → is_some (becomes p x) ≡ false

abbrev Same : Names → Seen → Names → Seen → Type 0
Same s k s' k' = (s ≡ s') × (k ≡ k')

module _ (s : Names) (k : Seen) (x : Tree) (s' : Names) (k' : Seen) where
  entered_outer : (o : Outer) → Called Visited is_written (enter_outer o) s k x s' k' → Same s k s' k'
  entered_outer outer.Program h = h
  entered_outer outer.Statements h = h
  entered_outer outer.Statement h = h
  entered_outer outer.ClassElement h = h
  entered_outer outer.BindingPattern h = h
  entered_outer outer.AssignmentTarget h = h
  entered_outer outer.PropertyKey h = h
  entered_outer outer.SwitchCase h = h
  entered_outer outer.CatchClause h = h
  entered_outer outer.VariableDeclarator h = h
  entered_outer outer.None h = h

  entered_middle : (o : Middle) → Called Visited is_written (enter_middle o) s k x s' k' → Same s k s' k'
  entered_middle middle.Expression h = h
  entered_middle middle.None h = h

  entered_inner : (o : Inner) → Called Visited is_written (enter_inner o) s k x s' k' → Same s k s' k'
  entered_inner inner.Function h = h
  entered_inner inner.Class h = h
  entered_inner inner.VariableDeclaration h = h
  entered_inner inner.None h = h

  record LeftMiddle (o : Middle) : Type 0 where
    same : Same s k s' k'
    expression : o ≡ middle.Expression → is_some (at_expression_end k x) ≡ false

  left_middle : (o : Middle) → Called Visited is_written (exit_middle o) s k x s' k' → LeftMiddle o
  left_middle middle.Expression h = record { same = (sym h.names_same, sym h.context_same); expression = λ e. h.none }
  left_middle middle.None h = record { same = h; expression = λ e. absurd Prim.cc }

  left_inner : (o : Inner) → Called Visited is_written (exit_inner o) s k x s' k' → Same s k s' k'
  left_inner inner.Function h = h
  left_inner inner.Class h = h
  left_inner inner.VariableDeclaration h = h
  left_inner inner.None h = h

  record Left (o : Outer) : Type 0 where
    same : Same s k s' k'
    list : o ≡ outer.Statements → list_changes (facts_of s k) (where_of k.place) x.below ≡ false
    statement : o ≡ outer.Statement → statement_changes (facts_of s k) k.place x ≡ false
    whole : o ≡ outer.Program → program_changes (facts_of s k) k.place x ≡ false

  left_outer : (o : Outer) → Called Visited is_written (exit_outer o) s k x s' k' → Left o
  left_outer outer.Statements h = record { same = (sym h.names_same, sym h.context_same); list = λ e. h.none; statement = λ e. absurd Prim.cc; whole = λ e. absurd Prim.cc }
  left_outer outer.Statement h = record { same = (sym h.names_same, sym h.context_same); list = λ e. absurd Prim.cc; statement = λ e. h.none; whole = λ e. absurd Prim.cc }
  left_outer outer.Program h = record { same = (sym h.names_same, sym h.context_same); list = λ e. absurd Prim.cc; statement = λ e. absurd Prim.cc; whole = λ e. h.none }
  left_outer outer.ClassElement h = record { same = h; list = λ e. absurd Prim.cc; statement = λ e. absurd Prim.cc; whole = λ e. absurd Prim.cc }
  left_outer outer.BindingPattern h = record { same = h; list = λ e. absurd Prim.cc; statement = λ e. absurd Prim.cc; whole = λ e. absurd Prim.cc }
  left_outer outer.AssignmentTarget h = record { same = h; list = λ e. absurd Prim.cc; statement = λ e. absurd Prim.cc; whole = λ e. absurd Prim.cc }
  left_outer outer.PropertyKey h = record { same = h; list = λ e. absurd Prim.cc; statement = λ e. absurd Prim.cc; whole = λ e. absurd Prim.cc }
  left_outer outer.SwitchCase h = record { same = h; list = λ e. absurd Prim.cc; statement = λ e. absurd Prim.cc; whole = λ e. absurd Prim.cc }
  left_outer outer.CatchClause h = record { same = h; list = λ e. absurd Prim.cc; statement = λ e. absurd Prim.cc; whole = λ e. absurd Prim.cc }
  left_outer outer.VariableDeclarator h = record { same = h; list = λ e. absurd Prim.cc; statement = λ e. absurd Prim.cc; whole = λ e. absurd Prim.cc }
  left_outer outer.None h = record { same = h; list = λ e. absurd Prim.cc; statement = λ e. absurd Prim.cc; whole = λ e. absurd Prim.cc }

record Saw (p : Spot) (t : Forest) (s : Names) (k : Seen) (s' : Names) (k' : Seen) : Type 0 where
  names_same : s' ≡ s
  context_same : k' ≡ k
  each : EachNode (IsAlive (facts_of s k)) p t

-- of one node, with what was seen below it
at_node : (p : Place) (x : Tree) (s : Names) (k : Seen) (s' : Names) (k' : Seen) → k.place ≡ p
    → (v : NodeVisit Visited is_written (Visits Visited is_written (below p (above_of x.kind x.note)) x.below) (above_place p) s k x s' k')
    → Saw (below p (above_of x.kind x.note)) x.below v.s1 v.k1 v.s2 v.k2
    → (s' ≡ s) × (k' ≡ k) × IsAlive (facts_of s k) p x × EachNode (IsAlive (facts_of s k)) (below p (above_of x.kind x.note)) x.below
at_node p x s k s' k' at v inside =
    let a = entered_outer s k x v.enters.s1 v.enters.k1 (outer_slot (above_place p) x.kind) v.enters.at_first in
    let b = entered_middle v.enters.s1 v.enters.k1 x v.enters.s2 v.enters.k2 (middle_slot (above_place p) x.kind) v.enters.at_second in
    let c = entered_inner v.enters.s2 v.enters.k2 x v.s1 v.k1 (inner_slot x.kind) v.enters.at_third in
    let d = left_inner v.s2 v.k2 x v.exits.s1 v.exits.k1 (inner_slot x.kind) v.exits.at_first in
    let e = left_middle v.exits.s1 v.exits.k1 x v.exits.s2 v.exits.k2 (middle_slot (above_place p) x.kind) v.exits.at_second in
    let f = left_outer v.exits.s2 v.exits.k2 x s' k' (outer_slot (above_place p) x.kind) v.exits.at_third in
    let names_1 : v.s1 ≡ s = sym c.0 ∙ sym b.0 ∙ sym a.0 in
    let context_1 : v.k1 ≡ k = sym c.1 ∙ sym b.1 ∙ sym a.1 in
    let names_2 : v.exits.s2 ≡ s = sym e.same.0 ∙ sym d.0 ∙ inside.names_same ∙ names_1 in
    let between : v.exits.k1 ≡ k = sym d.1 ∙ inside.context_same ∙ context_1 in
    let context_2 : v.exits.k2 ≡ k = sym e.same.1 ∙ between in
    let place_1 : v.exits.k1.place ≡ p = ap {A = Seen} (λ z. z.place) between ∙ at in
    let place_2 : v.exits.k2.place ≡ p = ap {A = Seen} (λ z. z.place) context_2 ∙ at in
    let facts_2 : facts_of v.exits.s2 v.exits.k2 ≡ facts_of s k = ap {A = Names} (λ n. facts_of n v.exits.k2) names_2 ∙ ap {A = Seen} (λ z. facts_of s z) context_2 in
    let facts_1 : facts_of v.s1 v.k1 ≡ facts_of s k = ap {A = Names} (λ n. facts_of n v.k1) names_1 ∙ ap {A = Seen} (λ z. facts_of s z) context_1 in (
      sym f.same.0 ∙ names_2,
      sym f.same.1 ∙ context_2,
      record {
        list = λ q. subst (λ g. list_changes g (where_of p) x.below ≡ false) facts_2 (subst (λ z. list_changes (facts_of v.exits.s2 v.exits.k2) (where_of z) x.below ≡ false) place_2 (f.list q));
        statement = λ q.
            subst (λ g. statement_changes g p x ≡ false) facts_2 (subst (λ z. statement_changes (facts_of v.exits.s2 v.exits.k2) z x ≡ false) place_2 (f.statement q));
        whole = λ q.
            subst (λ g. program_changes g p x ≡ false) facts_2 (subst (λ z. program_changes (facts_of v.exits.s2 v.exits.k2) z x ≡ false) place_2 (f.whole q));
        expression = λ q. subst (λ z. is_some (becomes z x) ≡ false) place_1 (e.expression q);
      },
      subst (λ g. EachNode (IsAlive g) (below p (above_of x.kind x.note)) x.below) facts_1 inside.each,
    )

-- before the node's hooks
inside_place : (p : Place) (x : Tree) (s : Names) (k : Seen) (s' : Names) (k' : Seen) → k.place ≡ p
    → (v : NodeVisit Visited is_written (Visits Visited is_written (below p (above_of x.kind x.note)) x.below) (above_place p) s k x s' k') → v.k1.place ≡ p
inside_place p x s k s' k' at v =
    let a = entered_outer s k x v.enters.s1 v.enters.k1 (outer_slot (above_place p) x.kind) v.enters.at_first in
    let b = entered_middle v.enters.s1 v.enters.k1 x v.enters.s2 v.enters.k2 (middle_slot (above_place p) x.kind) v.enters.at_second in
    let c = entered_inner v.enters.s2 v.enters.k2 x v.s1 v.k1 (inner_slot x.kind) v.enters.at_third in
    ap {A = Seen} (λ z. z.place) (sym c.1 ∙ sym b.1 ∙ sym a.1) ∙ at

saw : (p : Spot) (t : Forest) (s : Names) (k : Seen) (s' : Names) (k' : Seen) → k.place ≡ p.outer → Visits Visited is_written p t s k s' k' → Saw p t s k s' k'
saw p nothing s k s' k' at v = record { names_same = sym v.0; context_same = sym v.1; each = tt }
saw p (absent rest) s k s' k' at v =
    let later = saw (next_of p false) rest s k s' k' at v in
    record { names_same = later.names_same; context_same = later.context_same; each = later.each }
saw p (node c n inside rest) s k s' k' at (s1, k1, v, w) =
    let x : Tree = record { kind = c; note = n; below = inside } in
    let q = place_of p (goes_on rest) in
    let k0 : Seen = record k { place = q } in
    let below_it = saw (below q (above_of c n)) inside v.s1 v.k1 v.s2 v.k2 (inside_place q x s k0 s1 k1 refl v) v.inside in
    let here = at_node q x s k0 s1 k1 refl v below_it in
    let back : record k1 { place = p.outer } ≡ k = ap {A = Seen} {B = Seen} (λ z. record z { place = p.outer }) here.1 ∙ ap (λ q. record k { place = q }) (sym at) in
    let later = saw (next_of p true) rest s1 (record k1 { place = p.outer }) s' k' refl w in
    let facts : facts_of s1 (record k1 { place = p.outer }) ≡ facts_of s k = ap {A = Names} (λ m. facts_of m (record k1 { place = p.outer })) here.0 ∙ ap {A = Seen} (λ z. facts_of s z) back in
    record {
      names_same = later.names_same ∙ here.0;
      context_same = later.context_same ∙ back;
      each = (here.2, here.3, subst (λ g. EachNode (IsAlive g) (next_of p true) rest) facts later.each);
    }

-- in a whole program
alive : (s s' : Names) (k k' : Seen) (x y : Tree) → k.place ≡ outside → y ≡ x → Visits Visited is_written top (forest_of x) s k s' k' → EachNode (IsAlive (facts_of s' k')) top (forest_of y)
alive s s' k k' x y at same v =
    let all = saw top (forest_of x) s k s' k' at v in
    let facts : facts_of s' k' ≡ facts_of s k = ap {A = Names} (λ m. facts_of m k') all.names_same ∙ ap {A = Seen} (λ z. facts_of s z) all.context_same in
    subst (λ t. EachNode (IsAlive (facts_of s' k')) top (forest_of t)) (sym same) (subst (λ f. EachNode (IsAlive f) top (forest_of x)) (sym facts) all.each)

-- ---- and each of them has its own slot

neither : (a b : Bool) → a || b ≡ false → (a ≡ false) × (b ≡ false)
neither true b e = absurd (true≢false e)
neither false b e = (refl, e)

-- where none of the kinds that the hook looks at changes
abbrev Unchanged : Facts → Place → Note → Kind → Forest → Type 0
Unchanged f p n k b = is_always_statement k ≡ true → statement_changes f p (record { kind = k; note = n; below = b }) ≡ false

module _ (f : Facts) (p : Place) (n : Note) (k : Kind) (b : Forest) (e : statement_changes f p (record { kind = k; note = n; below = b }) ≡ false) where
  abbrev empties : Bool
  empties = becomes_empty f p k b

  abbrev declares : Bool
  declares = becomes_stated f p k b

  abbrev ends : Bool
  ends = is_some (if_ends (is_last p) n k b)

  abbrev prunes : Bool
  prunes = is_some (pruned f (where_of p) (record { kind = k; note = n; below = b }))

  -- what a statement that didn't change did neither
  all_none : (empties || declares || ends ≡ false) × (prunes ≡ false)
  all_none = neither (empties || declares || ends) prunes e

  three_none : (empties || declares ≡ false) × (ends ≡ false)
  three_none = neither (empties || declares) ends all_none.0

  two_none : (empties ≡ false) × (declares ≡ false)
  two_none = neither empties declares three_none.0

-- other kinds never do nothing
never_idle : (b : Bool) → b && false ≡ false
never_idle true = refl
never_idle false = refl

not_emptied : (f : Facts) (p : Place) (n : Note) (k : Kind) (b : Forest) → Unchanged f p n k b → becomes_empty f p k b ≡ false
not_emptied f p n expression_statement b h = (two_none f p n expression_statement b (h refl)).0
not_emptied f p n block_statement b h = (two_none f p n block_statement b (h refl)).0
not_emptied f p n (labeled_statement label) b h = (two_none f p n (labeled_statement label) b (h refl)).0
not_emptied f p n try_statement b h = (two_none f p n try_statement b (h refl)).0
not_emptied f p n while_statement b h = (two_none f p n while_statement b (h refl)).0
not_emptied f p n for_statement b h = (two_none f p n for_statement b (h refl)).0
not_emptied f p n k b h = never_idle (is_body p)

-- an item of a list of statements has its own slot
item_slot : (a : Ancestor) (how : VariableKind) → is_item_under a ≡ true → outer_slot a (variable_declaration how) ≡ outer.Statement
item_slot (field parent.Statements at) how e = refl
item_slot a how e = absurd (true≢false (sym e))

not_stated : (f : Facts) (p : Place) (n : Note) (k : Kind) (b : Forest) → (outer_slot (above_place p) k ≡ outer.Statement → statement_changes f p (record { kind = k; note = n; below = b }) ≡ false) → becomes_stated f p k b ≡ false
not_stated f p n (variable_declaration how) b h = by (is_item p) refl
  where
    by : (item : Bool) → is_item p ≡ item → becomes_stated f p (variable_declaration how) b ≡ false
    by true e = (two_none f p n (variable_declaration how) b (h (item_slot (above_place p) how e))).1
    by false e = ap (λ i. i && (not (where_of p).in_with && value_of_list_stays f (scope_of (where_of p) how) b)) e
not_stated f p n k b h = refl

none_is : (o : Option Tree) → is_some o ≡ false → o ≡ None
none_is None e = refl
none_is (Some y) e = absurd (true≢false e)

first_none : (o p : Option Tree) → is_some (or_else o p) ≡ false → o ≡ None
first_none None p e = refl
first_none (Some y) p e = absurd (true≢false e)

second_none : (o p : Option Tree) → is_some (or_else o p) ≡ false → p ≡ None
second_none None None e = refl
second_none None (Some y) e = absurd (true≢false e)
second_none (Some y) p e = absurd (true≢false e)

first_some : (o p : Option Tree) → is_some (or_else o p) ≡ false → is_some o ≡ false
first_some o p e = ap is_some (first_none o p e)

-- of the rules at the end of an `if`, one after the other, none answers
record NoneEnds (p : Place) (n : Note) (k : Kind) (b : Forest) : Type 0 where
  becomes : if_becomes n k b ≡ None
  tested : test_left n k b ≡ None
  alternate : alternate_left (is_last p) n k b ≡ None
  left : if_left n k b ≡ None
  named : if_named n k b ≡ None

each_none : (p : Place) (n : Note) (k : Kind) (b : Forest) → is_some (if_ends (is_last p) n k b) ≡ false → NoneEnds p n k b
each_none p n k b e =
    let one = if_becomes n k b in
    let two = or_else one (test_left n k b) in
    let three = or_else two (alternate_left (is_last p) n k b) in
    let four = or_else three (if_left n k b) in
    let first_four = first_some four (if_named n k b) e in
    let firsts = first_some three (if_left n k b) first_four in
    let first_two = first_some two (alternate_left (is_last p) n k b) firsts in
    record { becomes = first_none one (test_left n k b) first_two; tested = second_none one (test_left n k b) first_two; alternate = second_none two (alternate_left (is_last p) n k b) firsts; left = second_none three (if_left n k b) first_four; named = second_none four (if_named n k b) e }

not_tested : (f : Facts) (p : Place) (n : Note) (k : Kind) (b : Forest) → Unchanged f p n k b → test_left n k b ≡ None
not_tested f p n if_statement b h = (each_none p n if_statement b (three_none f p n if_statement b (h refl)).1).tested
not_tested f p n k b h = refl

not_alternate : (f : Facts) (p : Place) (n : Note) (k : Kind) (b : Forest) → Unchanged f p n k b → alternate_left (is_last p) n k b ≡ None
not_alternate f p n if_statement b h = (each_none p n if_statement b (three_none f p n if_statement b (h refl)).1).alternate
not_alternate f p n k b h = refl

not_known : (f : Facts) (p : Place) (n : Note) (k : Kind) (b : Forest) → Unchanged f p n k b → if_becomes n k b ≡ None
not_known f p n if_statement b h = (each_none p n if_statement b (three_none f p n if_statement b (h refl)).1).becomes
not_known f p n try_statement b h = (each_none p n try_statement b (three_none f p n try_statement b (h refl)).1).becomes
not_known f p n k b h = refl

not_left : (f : Facts) (p : Place) (n : Note) (k : Kind) (b : Forest) → Unchanged f p n k b → if_left n k b ≡ None
not_left f p n if_statement b h = (each_none p n if_statement b (three_none f p n if_statement b (h refl)).1).left
not_left f p n k b h = refl

not_named : (f : Facts) (p : Place) (n : Note) (k : Kind) (b : Forest) → Unchanged f p n k b → if_named n k b ≡ None
not_named f p n if_statement b h = (each_none p n if_statement b (three_none f p n if_statement b (h refl)).1).named
not_named f p n k b h = refl

none_unused : (f : Facts) (p : Place) (n : Note) (k : Kind) (b : Forest) → Unchanged f p n k b → (let x : Tree = record { kind = k; note = n; below = b } in pruned f (where_of p) x ≡ None)
none_unused f p n (import_declaration source) b h = none_is (pruned f (where_of p) (record { kind = import_declaration source; note = n; below = b })) (all_none f p n (import_declaration source) b (h refl)).1
none_unused f p n k b h = refl

-- no import leaves a list
none_again : (f : Facts) (w : Where) (n : Note) (k : Kind) (b : Forest) → (k ≡ Kind.Statements → list_changes f w b ≡ false) → list_once n k b ≡ None
none_again f w n Kind.Statements b h = ap (λ c. once_if c n b) (neither (has_gone f w b) (has_repeated [] b) (h refl)).1
none_again f w n k b h = refl

-- nodes of other kinds come to nothing
none_either_way : (b : Bool) → (let none : Option Tree = None in if b then none else none) ≡ None
none_either_way true = refl
none_either_way false = refl

-- no import comes to another; where no node is above, a program has its own slot
program_there : (f : Facts) (p : Place) (k : Kind) (n : Note) (b : Forest) → p.ancestors ≡ [] → (let x : Tree = record { kind = k; note = n; below = b } in (outer_slot (above_place p) k ≡ outer.Program → is_some (come_together f p x) ≡ false) → come_together f p x ≡ None)
program_there f p (Kind.Program source) n b none h =
    let x : Tree = record { kind = Kind.Program source; note = n; below = b } in
    none_is (come_together f p x) (h (ap {A = List Ancestor} (λ above. outer_slot (nearest above 0) (Kind.Program source)) none))
program_there f p k n b none h = none_either_way (is_outermost p.ancestors && not (scope_has f.scoping 0 scope_flag.direct_eval))

none_above : (above : List Ancestor) → is_outermost above ≡ true → above ≡ []
none_above [] e = refl
none_above (a ∷ above) e = absurd (true≢false (sym e))

none_apart : (f : Facts) (p : Place) (x : Tree) → (outer_slot (above_place p) x.kind ≡ outer.Program → is_some (come_together f p x) ≡ false) → come_together f p x ≡ None
none_apart f p x h = by (is_outermost p.ancestors) refl
  where
    by : (b : Bool) → is_outermost p.ancestors ≡ b → come_together f p x ≡ None
    by true e = program_there f p x.kind x.note x.below (none_above p.ancestors e) h
    by false e = ap (λ b. if b && not (scope_has f.scoping 0 scope_flag.direct_eval) then with_below x (below_together x.kind x.below) else None) e

-- and none becomes an export
program_keeps : (f : Facts) (p : Place) (k : Kind) (n : Note) (b : Forest) → p.ancestors ≡ [] → (let x : Tree = record { kind = k; note = n; below = b } in (outer_slot (above_place p) k ≡ outer.Program → is_some (pass_on f p x) ≡ false) → pass_on f p x ≡ None)
program_keeps f p (Kind.Program source) n b none h =
    let x : Tree = record { kind = Kind.Program source; note = n; below = b } in
    none_is (pass_on f p x) (h (ap {A = List Ancestor} (λ above. outer_slot (nearest above 0) (Kind.Program source)) none))
program_keeps f p k n b none h = none_either_way (is_outermost p.ancestors && not (scope_has f.scoping 0 scope_flag.direct_eval))

none_passes : (f : Facts) (p : Place) (x : Tree) → (outer_slot (above_place p) x.kind ≡ outer.Program → is_some (pass_on f p x) ≡ false) → pass_on f p x ≡ None
none_passes f p x h = by (is_outermost p.ancestors) refl
  where
    by : (b : Bool) → is_outermost p.ancestors ≡ b → pass_on f p x ≡ None
    by true e = program_keeps f p x.kind x.note x.below (none_above p.ancestors e) h
    by false e = ap (λ b. if b && not (scope_has f.scoping 0 scope_flag.direct_eval) then with_below x (below_passed f x.kind x.below) else None) e

used_at : (f : Facts) (p : Place) (x : Tree) → IsAlive f p x → HasSlots p x → IsUsedAt f p x
used_at f p x h slots = (none_unused f p x.note x.kind x.below (λ e. h.statement (slots.statement e)), none_again f (where_of p) x.note x.kind x.below (λ e. h.list (slots.list e)), none_apart f p x (λ e. (neither (is_some (come_together f p x)) (is_some (pass_on f p x)) (h.whole e)).0), none_passes f p x (λ e. (neither (is_some (come_together f p x)) (is_some (pass_on f p x)) (h.whole e)).1))

quiet_at : (f : Facts) (p : Place) (x : Tree) → IsAlive f p x → HasSlots p x → IsQuietAt f p x
quiet_at f p x h slots = record {
  list = λ e. (neither (has_inert false x.below) (has_dead f (where_of p) x.below) (neither (has_gone f (where_of p) x.below) (has_repeated [] x.below) (h.list (slots.list e))).0).1;
  statement = none_left (record { kind = empty_statement; note = unmarked x.note; below = nothing }) (not_emptied f p x.note x.kind x.below (λ e. h.statement (slots.statement e)));
  declaration = none_left (record { kind = expression_statement; note = unmarked x.note; below = value_below x.below }) (not_stated f p x.note x.kind x.below h.statement);
}

-- the last two come to nothing, and what is tried before
last_none : (v o q : Option Tree) → is_some (or_else (or_else v o) q) ≡ false → (is_some v ≡ false) × (o ≡ None) × (q ≡ None)
last_none v o q e =
    let f = ap is_some (first_none (or_else v o) q e) in
    (ap is_some (first_none v o f), second_none v o f, second_none (or_else v o) q e)

-- the last three
last_three : (v o q p : Option Tree) → is_some (or_else (or_else (or_else v o) q) p) ≡ false → (is_some v ≡ false) × (o ≡ None) × (q ≡ None) × (p ≡ None)
last_three v o q p e =
    let w = last_none v o q (ap is_some (first_none (or_else (or_else v o) q) p e)) in
    (w.0, w.1, w.2, second_none (or_else (or_else v o) q) p e)

-- what is no operation gives no negative number
never : (b : Bool) (o : Option ℕ) → (if b || true then None else o) ≡ None
never true o = refl
never false o = refl

no_negative : (n : Note) (k : Kind) (b : Forest) → gives_negative k b ≡ false → minus_there n (known_negative k n b) ≡ None
no_negative n k b none =
    ap (λ (g : Bool). minus_there n (if acts k n b || not g then None else as_negative (value_of bare_answers (alone k n b)))) none
    ∙ ap (minus_there n) (never (acts k n b) (as_negative (value_of bare_answers (alone k n b))))

-- which rules speak of which kinds of nodes
settled_kind : (s : Asked) (n : Note) (k : Kind) (b : Forest) → (is_always_expression k ≡ true → is_some (becomes_so s n k b) ≡ false)
    → (conditional_becomes s k b ≡ None) × (logical_becomes s k b ≡ None) × (unused_becomes s k b ≡ None) × (unused_list_becomes s n k b ≡ None) × (indirect_becomes s n k b ≡ None) × (one_sided_becomes s n k b ≡ None) × (sequence_left s n k b ≡ None) × (two_sides_become s n k b ≡ None) × (object_left s n k b ≡ None) × (known_becomes n k b ≡ None)
settled_kind s n conditional_expression b h =
    let c = conditional_becomes s conditional_expression b in
    let u = unused_becomes s conditional_expression b in
    let l = unused_list_becomes s n conditional_expression b in
    let i = indirect_becomes s n conditional_expression b in
    let o = one_sided_becomes s n conditional_expression b in
    let v = last_three (or_else (or_else (or_else (or_else (or_else (or_else c None) u) l) i) o) None) (two_sides_become s n conditional_expression b) (object_left s n conditional_expression b) (known_becomes n conditional_expression b) (h refl) in
    let w = last_none (or_else (or_else (or_else (or_else c None) u) l) i) o None v.0 in
    let d = ap is_some (first_none (or_else (or_else (or_else c None) u) l) i w.0) in
    let e = ap is_some (first_none (or_else (or_else c None) u) l d) in
    (first_none c None (ap is_some (first_none (or_else c None) u e)), refl, second_none (or_else c None) u e, none_either_way s.is_unused, second_none (or_else (or_else (or_else c None) u) l) i w.0, w.1, refl, none_either_way s.is_unused, none_either_way s.is_unused, no_negative n conditional_expression b refl)
settled_kind s n (logical_expression p) b h =
    let c = logical_becomes s (logical_expression p) b in
    let u = unused_becomes s (logical_expression p) b in
    let l = unused_list_becomes s n (logical_expression p) b in
    let i = indirect_becomes s n (logical_expression p) b in
    let o = one_sided_becomes s n (logical_expression p) b in
    let v = last_three (or_else (or_else (or_else (or_else (or_else c u) l) i) o) None) (two_sides_become s n (logical_expression p) b) (object_left s n (logical_expression p) b) (known_becomes n (logical_expression p) b) (h refl) in
    let w = last_none (or_else (or_else (or_else c u) l) i) o None v.0 in
    let d = ap is_some (first_none (or_else (or_else c u) l) i w.0) in
    let e = ap is_some (first_none (or_else c u) l d) in
    (refl, first_none c u e, second_none c u e, none_either_way s.is_unused, second_none (or_else (or_else c u) l) i w.0, none_either_way s.is_unused, refl, none_either_way s.is_unused, none_either_way s.is_unused, no_negative n (logical_expression p) b refl)
settled_kind s n (unary_expression p) b h =
    let u = unused_becomes s (unary_expression p) b in
    let l = unused_list_becomes s n (unary_expression p) b in
    let v = last_three (or_else (or_else (or_else (or_else u l) None) (one_sided_becomes s n (unary_expression p) b)) None) (two_sides_become s n (unary_expression p) b) (object_left s n (unary_expression p) b) (known_becomes n (unary_expression p) b) (h refl) in
    let w = last_none (or_else (or_else u l) None) (one_sided_becomes s n (unary_expression p) b) None v.0 in
    (refl, refl, first_none u l (ap is_some (first_none (or_else u l) None w.0)), none_either_way s.is_unused, refl, none_either_way s.is_unused, refl, none_either_way s.is_unused, none_either_way s.is_unused, v.3)
settled_kind s n (binary_expression p) b h =
    let u = unused_becomes s (binary_expression p) b in
    let l = unused_list_becomes s n (binary_expression p) b in
    let v = last_three (or_else (or_else (or_else (or_else u l) None) (one_sided_becomes s n (binary_expression p) b)) None) (two_sides_become s n (binary_expression p) b) (object_left s n (binary_expression p) b) (known_becomes n (binary_expression p) b) (h refl) in
    let w = last_none (or_else (or_else u l) None) (one_sided_becomes s n (binary_expression p) b) None v.0 in
    (refl, refl, first_none u l (ap is_some (first_none (or_else u l) None w.0)), none_either_way s.is_unused, refl, none_either_way s.is_unused, refl, v.1, none_either_way s.is_unused, v.3)
settled_kind s n array_expression b h =
    let u = unused_becomes s array_expression b in
    let l = unused_list_becomes s n array_expression b in
    let v = last_three (or_else (or_else (or_else (or_else u l) None) (one_sided_becomes s n array_expression b)) None) (two_sides_become s n array_expression b) (object_left s n array_expression b) (known_becomes n array_expression b) (h refl) in
    let w = last_none (or_else (or_else u l) None) (one_sided_becomes s n array_expression b) None v.0 in
    (refl, refl, none_either_way s.is_unused, second_none u l (ap is_some (first_none (or_else u l) None w.0)), refl, none_either_way s.is_unused, refl, none_either_way s.is_unused, none_either_way s.is_unused, no_negative n array_expression b refl)
settled_kind s n template_literal b h =
    let u = unused_becomes s template_literal b in
    let l = unused_list_becomes s n template_literal b in
    let v = last_three (or_else (or_else (or_else (or_else u l) None) (one_sided_becomes s n template_literal b)) None) (two_sides_become s n template_literal b) (object_left s n template_literal b) (known_becomes n template_literal b) (h refl) in
    let w = last_none (or_else (or_else u l) None) (one_sided_becomes s n template_literal b) None v.0 in
    (refl, refl, none_either_way s.is_unused, second_none u l (ap is_some (first_none (or_else u l) None w.0)), refl, none_either_way s.is_unused, refl, v.1, none_either_way s.is_unused, no_negative n template_literal b refl)
settled_kind s n sequence_expression b h =
    let u = unused_becomes s sequence_expression b in
    let l = unused_list_becomes s n sequence_expression b in
    let v = last_three (or_else (or_else (or_else (or_else u l) None) (one_sided_becomes s n sequence_expression b)) (sequence_left s n sequence_expression b)) (two_sides_become s n sequence_expression b) (object_left s n sequence_expression b) (known_becomes n sequence_expression b) (h refl) in
    let w = last_none (or_else (or_else u l) None) (one_sided_becomes s n sequence_expression b) (sequence_left s n sequence_expression b) v.0 in
    (refl, refl, none_either_way s.is_unused, second_none u l (ap is_some (first_none (or_else u l) None w.0)), refl, none_either_way s.is_unused, w.2, none_either_way s.is_unused, none_either_way s.is_unused, no_negative n sequence_expression b refl)
settled_kind s n object_expression b h =
    let u = unused_becomes s object_expression b in
    let l = unused_list_becomes s n object_expression b in
    let o = one_sided_becomes s n object_expression b in
    let v = last_three (or_else (or_else (or_else (or_else u l) None) o) None) (two_sides_become s n object_expression b) (object_left s n object_expression b) (known_becomes n object_expression b) (h refl) in
    (refl, refl, none_either_way s.is_unused, none_either_way s.is_unused, refl, none_either_way s.is_unused, refl, none_either_way s.is_unused, v.2, no_negative n object_expression b refl)
settled_kind s n k b h = (refl, refl, none_either_way s.is_unused, none_either_way s.is_unused, refl, none_either_way s.is_unused, refl, none_either_way s.is_unused, none_either_way s.is_unused, no_negative n k b refl)

-- nothing stands behind a jump
none_behind : (f : Facts) (w : Where) (n : Note) (k : Kind) (b : Forest) → (k ≡ Kind.Statements → list_changes f w b ≡ false) → list_reached n k b ≡ None
none_behind f w n Kind.Statements b h = ap (λ c. left_if c n b) (neither (has_inert false b) (has_dead f w b) (neither (has_gone f w b) (has_repeated [] b) (h refl)).0).0
none_behind f w n k b h = refl

settled_at : (f : Facts) (p : Place) (x : Tree) → IsAlive f p x → HasSlots p x → IsSettledAt p x
settled_at f p x h slots =
    let e = settled_kind (spot_of p) x.note x.kind x.below (λ e. h.expression (slots.expression e)) in
    record { conditional = e.0; logical = e.1; unused = e.2; list = e.3; indirect = e.4; one_sided = e.5; sequence = e.6; two_sides = e.7; object = e.8; known = e.9; statement = not_known f p x.note x.kind x.below (λ e. h.statement (slots.statement e)); test = not_tested f p x.note x.kind x.below (λ e. h.statement (slots.statement e)); alternate = not_alternate f p x.note x.kind x.below (λ e. h.statement (slots.statement e)); jumps = none_behind f (where_of p) x.note x.kind x.below (λ e. h.list (slots.list e)); untaken = not_left f p x.note x.kind x.below (λ e. h.statement (slots.statement e)); names = not_named f p x.note x.kind x.below (λ e. h.statement (slots.statement e)) }

-- Nothing of a program goes by what is known that a walk found as it is, and no expression of it comes to its parts or its value.
pub none_goes : (s s' : Names) (k k' : Seen) (x y : Tree) → k.place ≡ outside → y ≡ x → Fits root (forest_of y) → Visits Visited is_written top (forest_of x) s k s' k' → IsQuiet (facts_of s' k') (forest_of y)
none_goes s s' k k' x y at same fits v = quiet_nodes (facts_of s' k') (forest_of y) (each_both (quiet_at (facts_of s' k')) top (forest_of y) (alive s s' k k' x y at same v) (slots_had (forest_of y) fits))

pub names_used : (s s' : Names) (k k' : Seen) (x y : Tree) → k.place ≡ outside → y ≡ x → Fits root (forest_of y) → Visits Visited is_written top (forest_of x) s k s' k' → ImportsUsed (facts_of s' k') (forest_of y)
names_used s s' k k' x y at same fits v = imports_used (facts_of s' k') (forest_of y) (each_both (used_at (facts_of s' k')) top (forest_of y) (alive s s' k k' x y at same v) (slots_had (forest_of y) fits))

pub none_changes : (s s' : Names) (k k' : Seen) (x y : Tree) → k.place ≡ outside → y ≡ x → Fits root (forest_of y) → Visits Visited is_written top (forest_of x) s k s' k' → IsSettled (forest_of y)
none_changes s s' k k' x y at same fits v = settled_nodes (forest_of y) (each_both (settled_at (facts_of s' k')) top (forest_of y) (alive s s' k k' x y at same v) (slots_had (forest_of y) fits))

pub same_names : (s s' : Names) (k k' : Seen) (x : Tree) → k.place ≡ outside → Visits Visited is_written top (forest_of x) s k s' k' → s' ≡ s
same_names s s' k k' x at v = (saw top (forest_of x) s k s' k' at v).names_same

pub same_context : (s s' : Names) (k k' : Seen) (x : Tree) → k.place ≡ outside → Visits Visited is_written top (forest_of x) s k s' k' → k' ≡ k
same_context s s' k k' x at v = (saw top (forest_of x) s k s' k' at v).context_same
