-- What a sequence owes of which the parts leave that don't act, but for the last.
use Rattle.std.proofs.Common.{◌≡◌, ◌≤◌, ◌<◌, ◌+◌, ℕ, zero, suc, pos, negsuc, List, [], ◌∷◌, ◌++◌, Bool, true, false, not, ◌&&◌, ◌||◌, Some, None, if◌then◌else◌, arith, refl, sym, ap, subst, true≢false}
use Rattle.js_syntax.specs.Class.{Class, root, expression}
use Rattle.js_syntax.specs.declared.node_kind.NodeKind.{NodeKind as Kind}
use Rattle.js_syntax.specs.declared.node_kind.NodeKind.TheVariants.{SequenceExpression as sequence_expression, Expressions as expressions}
use Rattle.js_syntax.specs.declared.kind.FunctionKind.{FunctionKind}
use Rattle.js_syntax.specs.declared.kind.FunctionKind.TheVariants as function_kind
use Rattle.js_syntax.specs.declared.value.LiteralValue.{LiteralValue}
use Rattle.js_syntax.specs.declared.value.LiteralValue.TheVariants as value
use Rattle.js_syntax.specs.Core.{value_weight, text_weight}
use Rattle.js_syntax.specs.Facts.{weight, is_core}
use Rattle.js_syntax.specs.Node.{Note, Forest, Tree, nothing, node, absent, joined, forest_of, total}
use Rattle.js_syntax.specs.Table.{a_sequence_expression}
use Rattle.js_syntax.proofs.Truth.{both, first_of_neither}
use Rattle.js_effects.specs.Silence.{anywhere as wherever, has_effect, may_have_effects}
use Rattle.js_tree.specs.Count.{lower, levels_at, levels}
use Rattle.js_tree.specs.Walk.{is_list}
use Rattle.js_rebuilt.specs.Rebuilt.{MayBeBuilt, Rebuilt, ends, stays, leaves, opened, built}
use Rattle.js_meaning.specs.Scope.{specifier_decls, import_decls}
use Rattle.js_meaning_near.specs.Local.{for_part, for_sequence}
use Rattle.js_meaning_near.specs.Near.{module_of}
use Rattle.js_meaning_near.specs.Unused.{IsSome}
use Rattle.js_meaning_near.proofs.Unused.{AllNodes}
use Rattle.json_shape.specs.Shape.{one as one_place, list, these, Stand, Fits}
use Rattle.form_rules.specs.Form.{IsWellFormed}
use Rattle.min_pass.specs.Around.{outermost as asked_of_program}
use Rattle.scope_laws.specs.Place.{Around, plug}
use Rattle.steps.specs.Steps.{all_core}
use Rattle.steps.specs.Allowed.IdleParts.{stays_before, counting, all_count, is_zero, is_more, more_before, itself_or_behind, as_value_of, sequence_becomes, IdleParts, idle_parts_leave}
use Rattle.steps.specs.Allowed.IndirectChoice.{behind_zero}
use Rattle.steps.specs.Allowed.Places.{asked_at}
use Rattle.steps.specs.Allowed.UnusedOperation.{acts}
use Rattle.steps.specs.Allowed.Uses.{Use, use_at, stands_bare}
use Rattle.steps.specs.Allowed.Wanted.{wanted_at}
use Rattle.steps.proofs.Fit.CoreCalm.{nameless_as_planned}
use Rattle.steps.proofs.Fit.Held.{core_here, core_below, core_behind}
use Rattle.steps.specs.KeepForm.Part.{is_asked_for}
use Rattle.steps.proofs.KeepForm.Rules.{first_empty, second_empty, both_empty}
use Rattle.steps.specs.Owed.Comes.{Comes}
use Rattle.steps.specs.Owed.TakesPlace.{anywhere}
use Rattle.steps.specs.Owed.Owed.{ComesOut, ByParts, by_coming}
use Rattle.steps.proofs.Owed.Bare.{bare_comes_out, bare_at}
use Rattle.steps.proofs.Owed.BranchKinds.{IsExpression, expression_told, bare_unasked}
use Rattle.steps.proofs.Owed.ChoiceParts.{parts_of_sequence}
use Rattle.steps.proofs.Owed.ChoiceRuns.{core_there, no_imports_below}
use Rattle.steps.proofs.Owed.FitsTaking.{as_sequence, sequence_stood}
use Rattle.steps.proofs.Owed.IndirectChoice.{number_zero, zero_is_built, behind_expression, behind_core, behind_declares}
use Rattle.steps.proofs.Owed.KnownTests.{counts_one}
use Rattle.steps.proofs.Owed.LastPart.{Counting, last_counts, one_counts, one_leaves, counted, counting_nodes, counting_shorter, comes_to_last, comes_behind_zero}
use Rattle.steps.proofs.Owed.Undeclared.{DeclaresNothing, both_plainly}
use Rattle.steps.proofs.Owed.UnusedList.{Parts, parts_are_nodes, list_is_built, sequence_is_built, ImportsNone, idle_weighs}
use Rattle.steps.proofs.Owed.Wanting.{wanted_as_used}

abbrev tree : Kind → Note → (below : Forest) → Tree
tree k n below = record { kind = k; note = n; below = below }

abbrev sequence_of : (n m : Note) → (parts : Forest) → Tree
sequence_of n m parts = tree sequence_expression n (node expressions m parts nothing)

-- ---- what becomes of the parts that are left: the part itself, or behind a zero, or a sequence of more

abbrev are_more : Forest → Bool
are_more nothing = false
are_more (node k n a nothing) = false
are_more parts = true

pub data Value (u : Use) (in_with more : Bool) (n m : Note) : (parts : Forest) → Tree → Type 0 where
  it_alone : (k : Kind) (i : Note) (a : Forest) → stands_bare u in_with k a ≡ true → Value u in_with more n m (node k i a nothing) (tree k i a)
  it_behind_zero : (k : Kind) (i : Note) (a : Forest) → more ≡ true → Value u in_with more n m (node k i a nothing) (behind_zero n n n (tree k i a))
  in_sequence : (parts : Forest) → are_more parts ≡ true → Value u in_with more n m parts (sequence_of n m parts)

value_is : (u : Use) (in_with more : Bool) (n m : Note) (parts : Forest) (y : Tree) → as_value_of u in_with more n m parts ≡ Some y → Value u in_with more n m parts y
value_is u in_with more n m nothing y e = absurd cc
value_is u in_with more n m (absent r) y e = subst (Value u in_with more n m (absent r)) (cc e) (in_sequence (absent r) refl)
value_is u in_with more n m (node k i a nothing) y e = each (stands_bare u in_with k a) more refl refl e
  where
    each : (b c : Bool) → stands_bare u in_with k a ≡ b → more ≡ c → itself_or_behind b c n (tree k i a) ≡ Some y → Value u in_with more n m (node k i a nothing) y
    each true c bare is e = subst (Value u in_with more n m (node k i a nothing)) (cc e) (it_alone k i a bare)
    each false true bare is e = subst (Value u in_with more n m (node k i a nothing)) (cc e) (it_behind_zero k i a is)
    each false false bare is e = absurd cc
value_is u in_with more n m (node k i a (absent r)) y e = subst (Value u in_with more n m (node k i a (absent r))) (cc e) (in_sequence (node k i a (absent r)) refl)
value_is u in_with more n m (node k i a (node l j b r)) y e = subst (Value u in_with more n m (node k i a (node l j b r))) (cc e) (in_sequence (node k i a (node l j b r)) refl)

pub data Shortened (u : Use) (in_with : Bool) (n m : Note) : Kind → (below : Forest) → Tree → Type 0 where
  a_sequence : (i : Note) (parts : Forest) (y : Tree) → all_count parts ≡ false → Value u in_with (more_before parts) n m (counting parts) y → Shortened u in_with n m sequence_expression (node expressions i parts nothing) y

is_shortened : (u : Use) (in_with : Bool) (n m : Note) (k : Kind) (below : Forest) (y : Tree) → sequence_becomes u in_with n m k below ≡ Some y → Shortened u in_with n m k below y
is_shortened u in_with n m sequence_expression (node expressions i parts nothing) y e = each (all_count parts) refl e
  where
    each : (b : Bool) → all_count parts ≡ b → (if b then None else as_value_of u in_with (more_before parts) n m (counting parts)) ≡ Some y → Shortened u in_with n m sequence_expression (node expressions i parts nothing) y
    each true all is = absurd cc
    each false some is = a_sequence i parts y some (value_is u in_with (more_before parts) n m (counting parts) y is)
is_shortened u in_with n m k below y e = absurd cc

-- ---- what it weighs, and how many levels there are

less_before : (w : Kind → ℕ) (k : Kind) (n : Note) (a r : Forest) (b : Bool) → total w (counting r) ≤ total w r → total w (if b then node k n a (counting r) else counting r) ≤ total w (node k n a r)
less_before w k n a r true later = Prim.omega (arith, later)
less_before w k n a r false later = Prim.omega (arith, later)

counting_less : (w : Kind → ℕ) (parts : Forest) → total w (counting parts) ≤ total w parts
counting_less w nothing = Prim.omega arith
counting_less w (absent r) = counting_less w r
counting_less w (node k n a nothing) = Prim.omega arith
counting_less w (node k n a (absent r)) = less_before w k n a (absent r) (stays_before k n a) (counting_less w (absent r))
counting_less w (node k n a (node l m b r)) = less_before w k n a (node l m b r) (stays_before k n a) (counting_less w (node l m b r))

lighter_before : (k : Kind) (n : Note) (a r : Forest) (b c : Bool) → acts k n a ≡ b → is_list k ≡ c → ((b || c) && all_count r) ≡ false → (all_count r ≡ false → total weight (counting r) + 1 ≤ total weight r)
    → total weight (if b || c then node k n a (counting r) else counting r) + 1 ≤ total weight (node k n a r)
lighter_before k n a r true c acting_one a_list h later = let less = later h in Prim.omega (arith, less)
lighter_before k n a r false true idle a_list h later = let less = later h in Prim.omega (arith, less)
lighter_before k n a r false false idle no_list h later = let here = idle_weighs k n a idle no_list in let less = counting_less weight r in Prim.omega (arith, here, less)

counting_lighter : (parts : Forest) → all_count parts ≡ false → total weight (counting parts) + 1 ≤ total weight parts
counting_lighter nothing some = absurd cc
counting_lighter (absent r) some = counting_lighter r some
counting_lighter (node k n a nothing) some = absurd cc
counting_lighter (node k n a (absent r)) some = lighter_before k n a (absent r) (acts k n a) (is_list k) refl refl some (counting_lighter (absent r))
counting_lighter (node k n a (node l m b r)) some = lighter_before k n a (node l m b r) (acts k n a) (is_list k) refl refl some (counting_lighter (node l m b r))

-- a part that doesn't act and is more than a zero weighs more
literal_more : (v : LiteralValue) → not (is_zero v) ≡ true → 2 ≤ value_weight v
literal_more (value.Number (pos zero)) e = absurd cc
literal_more (value.Number (pos (suc zero))) e = Prim.omega arith
literal_more (value.Number (pos (suc (suc n)))) e = Prim.omega arith
literal_more (value.Number (negsuc n)) e = Prim.omega arith
literal_more (value.Text []) e = Prim.omega arith
literal_more (value.Text (c ∷ cs)) e = Prim.omega arith
literal_more v e = Prim.omega arith

text_more : (raw : List ℕ) → 2 ≤ text_weight raw
text_more [] = Prim.omega arith
text_more (c ∷ cs) = Prim.omega arith

function_more : (f : FunctionKind) (pure : Bool) → 2 ≤ weight (Kind.Function f pure)
function_more function_kind.Declaration pure = Prim.omega arith
function_more function_kind.Expression pure = Prim.omega arith
function_more function_kind.Arrow pure = Prim.omega arith

inside_more : (l : Kind) (m : Note) (b r : Forest) → (may_have_effects [] wherever (node l m b r) || false) ≡ false → not (is_list l) ≡ true → 1 ≤ total weight (node l m b r)
inside_more l m b r idle one = each (is_list l) refl one
  where
    whole : may_have_effects [] wherever (node l m b r) ≡ false
    whole = first_of_neither (may_have_effects [] wherever (node l m b r)) false idle

    acting : acts l m b ≡ false
    acting = ap (λ c. c || false) (first_of_neither (has_effect [] wherever l m b (may_have_effects [] wherever b)) (may_have_effects [] wherever r) whole)

    each : (c : Bool) → is_list l ≡ c → not c ≡ true → 1 ≤ total weight (node l m b r)
    each true is e = absurd (true≢false (sym e))
    each false is e = let it = idle_weighs l m b acting is in Prim.omega (arith, it)

more_weighs : (k : Kind) (n : Note) (a : Forest) → acts k n a ≡ false → is_list k ≡ false → is_more k a ≡ true → 2 ≤ total weight (node k n a nothing)
more_weighs (Kind.Literal v) n a idle no_list more = let it = literal_more v more in Prim.omega (arith, it)
more_weighs (Kind.Function f pure) n a idle no_list more = let it = function_more f pure in Prim.omega (arith, it)
more_weighs (Kind.TemplateElement v tail) n a idle no_list more = let it = text_more v.raw in Prim.omega (arith, it)
more_weighs Kind.ParenthesizedExpression n nothing idle no_list more = absurd cc
more_weighs Kind.ParenthesizedExpression n (absent r) idle no_list more = absurd cc
more_weighs Kind.ParenthesizedExpression n (node l m b r) idle no_list more = let it = inside_more l m b r idle more in Prim.omega (arith, it)
more_weighs Kind.Hole n a idle no_list more = absurd cc
more_weighs Kind.ClassBody n a idle no_list more = absurd cc
more_weighs Kind.EmptyStatement n a idle no_list more = absurd cc
more_weighs Kind.ChainExpression n a idle no_list more = absurd cc
more_weighs Kind.VariableDeclarator n a idle no_list more = absurd cc
more_weighs (Kind.Class how) n a idle no_list more = absurd cc
more_weighs (Kind.ExportNamedDeclaration source) n a idle no_list more = absurd cc
more_weighs Kind.Statements n a idle no_list more = absurd cc
more_weighs Kind.Cases n a idle no_list more = absurd cc
more_weighs Kind.Declarators n a idle no_list more = absurd cc
more_weighs Kind.Parameters n a idle no_list more = absurd cc
more_weighs Kind.Members n a idle no_list more = absurd cc
more_weighs Kind.Elements n a idle no_list more = absurd cc
more_weighs Kind.Properties n a idle no_list more = absurd cc
more_weighs Kind.Expressions n a idle no_list more = absurd cc
more_weighs Kind.Arguments n a idle no_list more = absurd cc
more_weighs Kind.Quasis n a idle no_list more = absurd cc
more_weighs Kind.Specifiers n a idle no_list more = absurd cc
more_weighs k n a idle no_list more = Prim.omega arith

-- parts are left of some
pub some_left : (k : Kind) (n : Note) (a r : Forest) → counting (node k n a r) ≡ nothing → ⊥
some_left k n a nothing e = absurd cc
some_left k n a (absent r) e = each (stays_before k n a) e
  where
    each : (b : Bool) → (if b then node k n a (counting (absent r)) else counting (absent r)) ≡ nothing → ⊥
    each true is = absurd cc
    each false is = absurd cc
some_left k n a (node l m b r) e = each (stays_before k n a) (some_left l m b r) e
  where
    each : (c : Bool) → (counting (node l m b r) ≡ nothing → ⊥) → (if c then node k n a (counting (node l m b r)) else counting (node l m b r)) ≡ nothing → ⊥
    each true none is = absurd cc
    each false none is = none is

abbrev rest_of : Forest → Forest
rest_of (node k n a r) = r
rest_of t = t

-- one part is left of several: those before it leave
module _ (l : Kind) (i : Note) (c : Forest) where
  abbrev pub one : Forest
  one = node l i c nothing

  pub first_leaves : {P : Type 0} (k : Kind) (n : Note) (a left : Forest) → (left ≡ nothing → ⊥) → (b d : Bool) → acts k n a ≡ b → is_list k ≡ d → (if b || d then node k n a left else left) ≡ one
      → (acts k n a ≡ false → is_list k ≡ false → left ≡ one → P) → P
  first_leaves k n a left some true d acting listed is later = absurd (some (ap rest_of is))
  first_leaves k n a left some false true acting listed is later = absurd (some (ap rest_of is))
  first_leaves k n a left some false false acting listed is later = later acting listed is

  two_leave : (k j : Kind) (n m : Note) (a b r : Forest) → counting (node k n a (node j m b r)) ≡ one → total weight one + 1 ≤ total weight (node k n a (node j m b r))
  two_leave k j n m a b r is =
      first_leaves k n a (counting (node j m b r)) (some_left j m b r) (acts k n a) (is_list k) refl refl is
      (λ idle no_list e. let here = idle_weighs k n a idle no_list in let less = counting_less weight (node j m b r) in let same = ap (total weight) e in Prim.omega (arith, here, less, same))

  pub none_behind : (j : Kind) (m : Note) (b r : Forest) → counting (node j m b (absent r)) ≡ one → ⊥
  none_behind j m b r is = each (stays_before j m b) is
    where
      each : (d : Bool) → (if d then node j m b (counting (absent r)) else counting (absent r)) ≡ one → ⊥
      each true e = absurd cc
      each false e = absurd cc

  pub zero_lighter : (parts : Forest) → counting parts ≡ one → all_count parts ≡ false → more_before parts ≡ true → total weight one + 2 ≤ total weight parts
  zero_lighter nothing is some more = absurd cc
  zero_lighter (absent r) is some more = absurd cc
  zero_lighter (node k n a nothing) is some more = absurd cc
  zero_lighter (node k n a (absent r)) is some more = absurd (none_behind k n a r is)
  zero_lighter (node k n a (node j m b nothing)) is some more =
      first_leaves k n a (node j m b nothing) (λ e. absurd cc) (acts k n a) (is_list k) refl refl is
      (λ idle no_list e. let here = more_weighs k n a idle no_list more in let same = ap (total weight) e in Prim.omega (arith, here, same))
  zero_lighter (node k n a (node j m b (absent r))) is some more =
      first_leaves k n a (counting (node j m b (absent r))) (some_left j m b (absent r)) (acts k n a) (is_list k) refl refl is
      (λ idle no_list e. absurd (none_behind j m b r e))
  zero_lighter (node k n a (node j m b (node h q d r))) is some more =
      first_leaves k n a (counting (node j m b (node h q d r))) (some_left j m b (node h q d r)) (acts k n a) (is_list k) refl refl is
      (λ idle no_list e. let here = idle_weighs k n a idle no_list in let less = two_leave j h m q b d r e in Prim.omega (arith, here, less))

value_lighter : {u : Use} {in_with : Bool} {n m : Note} {left : Forest} {y : Tree} (parts : Forest) → counting parts ≡ left → all_count parts ≡ false → Value u in_with (more_before parts) n m left y → total weight (forest_of y) < total weight parts + 2
value_lighter parts is some (it_alone k i a bare) = let less = counting_lighter parts some in let same = ap (total weight) is in Prim.omega (arith, less, same)
value_lighter parts is some (it_behind_zero k i a more) = let less = zero_lighter k i a parts is some more in Prim.omega (arith, less)
value_lighter parts is some (in_sequence left many) = let less = counting_lighter parts some in let same = ap (total weight) is in Prim.omega (arith, less, same)

lower_before : (f g : ℕ → ℕ) → ((i : ℕ) → g i ≡ 0) → (k : Kind) (n : Note) (a r : Forest) (i j : ℕ) (b : Bool) → ((q : ℕ) → levels_at g q (counting r) ≤ levels_at f (suc i) r)
    → levels_at g j (if b then node k n a (counting r) else counting r) ≤ levels_at f i (node k n a r)
lower_before f g none k n a r i j true later = let h = later (suc j) in Prim.omega (arith, h, none j)
lower_before f g none k n a r i j false later = let h = later j in Prim.omega (arith, h)

counting_lower : (f g : ℕ → ℕ) → ((i : ℕ) → g i ≡ 0) → (parts : Forest) (i j : ℕ) → levels_at g j (counting parts) ≤ levels_at f i parts
counting_lower f g none nothing i j = Prim.omega arith
counting_lower f g none (absent r) i j = counting_lower f g none r (suc i) (suc j)
counting_lower f g none (node k n a nothing) i j = Prim.omega (arith, none j)
counting_lower f g none (node k n a (absent r)) i j = lower_before f g none k n a (absent r) i j (stays_before k n a) (λ q. counting_lower f g none (absent r) (suc i) q)
counting_lower f g none (node k n a (node l m b r)) i j = lower_before f g none k n a (node l m b r) i j (stays_before k n a) (λ q. counting_lower f g none (node l m b r) (suc i) q)

-- a part that leaves is a node of its own
lower_left : (f : ℕ → ℕ) (k : Kind) (n : Note) (a r : Forest) (i : ℕ) (b c : Bool) → acts k n a ≡ b → is_list k ≡ c → ((b || c) && all_count r) ≡ false → (all_count r ≡ false → 1 ≤ levels_at f (suc i) r) → 1 ≤ levels_at f i (node k n a r)
lower_left f k n a r i true c acting_one a_list h later = let it = later h in Prim.omega (arith, it)
lower_left f k n a r i false true idle a_list h later = let it = later h in Prim.omega (arith, it)
lower_left f k n a r i false false idle no_list h later = let it = counts_one k no_list in Prim.omega (arith, it)

some_levels : (f : ℕ → ℕ) (parts : Forest) (i : ℕ) → all_count parts ≡ false → 1 ≤ levels_at f i parts
some_levels f nothing i some = absurd cc
some_levels f (absent r) i some = let it = some_levels f r (suc i) some in Prim.omega (arith, it)
some_levels f (node k n a nothing) i some = absurd cc
some_levels f (node k n a (absent r)) i some = lower_left f k n a (absent r) i (acts k n a) (is_list k) refl refl some (some_levels f (absent r) (suc i))
some_levels f (node k n a (node l m b r)) i some = lower_left f k n a (node l m b r) i (acts k n a) (is_list k) refl refl some (some_levels f (node l m b r) (suc i))

value_lower : {u : Use} {in_with more : Bool} {n m : Note} {parts : Forest} {y : Tree} (most : ℕ) → 1 ≤ most → Value u in_with more n m parts y → ((g : ℕ → ℕ) → ((i : ℕ) → g i ≡ 0) → levels_at g 0 parts ≤ most) → levels (forest_of y) ≤ most + 1
value_lower most some (it_alone k i a bare) h = let it = h (λ i. 0) (λ i. refl) in Prim.omega (arith, it)
value_lower most some (it_behind_zero k i a more) h = let it = h (λ i. lower expressions i) (λ i. refl) in Prim.omega (arith, it)
value_lower most some (in_sequence parts more) h = let it = h (λ i. lower expressions i) (λ i. refl) in Prim.omega (arith, it)

-- ---- rebuilt

counting_rebuilt : {parts left : Forest} → Counting parts left → Rebuilt (joined parts nothing) (joined left nothing)
counting_rebuilt last_counts = stays ends
counting_rebuilt (one_counts rest) = stays (counting_rebuilt rest)
counting_rebuilt (one_leaves idle rest) = leaves (counting_rebuilt rest)

more_is_built : (m : Note) (parts : Forest) → AllNodes parts → are_more parts ≡ true → MayBeBuilt sequence_expression (node expressions m parts nothing)
more_is_built m nothing nodes more = absurd (true≢false (sym more))
more_is_built m (absent r) nodes more = absurd nodes
more_is_built m (node k i a nothing) nodes more = absurd (true≢false (sym more))
more_is_built m (node k i a (absent r)) nodes more = absurd nodes
more_is_built m (node k i a (node l j b r)) nodes more = sequence_is_built m k l i j a b r

value_rebuilt : {u : Use} {in_with more : Bool} {n m : Note} {left : Forest} {y : Tree} (t : Forest) → AllNodes left → Value u in_with more n m left y → Rebuilt t (joined left nothing) → Rebuilt t (forest_of y)
value_rebuilt t nodes (it_alone k i a bare) h = h
value_rebuilt {n = n} t nodes (it_behind_zero k i a more) h =
    built (sequence_is_built n number_zero k n i nothing a nothing) (built (list_is_built (node number_zero n nothing (node k i a nothing))) (built zero_is_built h))
value_rebuilt {m = m} t nodes (in_sequence left more) h = built (more_is_built m left nodes more) (built (list_is_built left) h)

-- ---- by the table of node types

parts_stay : {parts left : Forest} → Counting parts left → Parts parts → Parts left
parts_stay last_counts st = st
parts_stay (one_counts rest) st = (st.0, parts_stay rest st.1)
parts_stay (one_leaves idle rest) st = parts_stay rest st.1

sequence_fits : (m : Note) (parts : Forest) → Parts parts → IsExpression sequence_expression (node expressions m parts nothing)
sequence_fits m parts st = (a_sequence_expression, tt, refl, tt, refl, ((refl, st), tt))

value_fits : {u : Use} {in_with more : Bool} {n m : Note} {left : Forest} {y : Tree} → Value u in_with more n m left y → Parts left → IsExpression y.kind y.below
value_fits (it_alone k i a bare) st = st.0
value_fits {n = n} (it_behind_zero k i a more) st = behind_expression n n n (tree k i a) st.0
value_fits {m = m} (in_sequence left more) st = sequence_fits m left st

value_unasked : {u : Use} {in_with more : Bool} {n m : Note} {left : Forest} {y : Tree} → Value u in_with more n m left y → Parts left → is_asked_for y.kind ≡ false
value_unasked {u = u} {in_with = in_with} (it_alone k i a bare) st = bare_unasked k a st.0 u in_with bare
value_unasked (it_behind_zero k i a more) st = refl
value_unasked (in_sequence left more) st = refl

some_parts : (parts : Forest) → AllNodes parts → all_count parts ≡ false → IsSome parts
some_parts nothing nodes some = absurd (true≢false some)
some_parts (absent r) nodes some = absurd nodes
some_parts (node k n a r) nodes some = tt

-- ---- runs

core_stays : {parts left : Forest} → Counting parts left → all_core parts ≡ true → all_core left ≡ true
core_stays last_counts core = core
core_stays (one_counts {k = k} {l = l} {n = n} {m = m} {a = a} {b = b} {r = r} {s = s} rest) core =
    both (is_core k) (all_core a && all_core s) (core_here k n a (node l m b r) core)
    (both (all_core a) (all_core s) (core_below k n a (node l m b r) core) (core_stays rest (core_behind k n a (node l m b r) core)))
core_stays (one_leaves {k = k} {l = l} {n = n} {m = m} {a = a} {b = b} {r = r} idle rest) core = core_stays rest (core_behind k n a (node l m b r) core)

sequence_core : (n m : Note) (parts : Forest) → all_core parts ≡ true → all_core (forest_of (sequence_of n m parts)) ≡ true
sequence_core n m parts core = both (all_core parts && true) true (both (all_core parts) true core refl) refl

imports_stay : {parts left : Forest} → Counting parts left → ImportsNone parts → ImportsNone left
imports_stay last_counts none = none
imports_stay (one_counts {k = k} {l = l} {m = m} {a = a} {b = b} {r = r} {s = s} rest) none =
    let later : ImportsNone (node l m b r) = λ source. second_empty (specifier_decls source k a (import_decls source a)) (import_decls source (node l m b r)) (none source) in
    λ source. both_empty (specifier_decls source k a (import_decls source a)) (import_decls source s)
    (first_empty (specifier_decls source k a (import_decls source a)) (import_decls source (node l m b r)) (none source)) (imports_stay rest later source)
imports_stay (one_leaves {k = k} {l = l} {m = m} {a = a} {b = b} {r = r} idle rest) none =
    imports_stay rest (λ source. second_empty (specifier_decls source k a (import_decls source a)) (import_decls source (node l m b r)) (none source))

sequence_imports : (n m : Note) (parts : Forest) → ImportsNone parts → ImportsNone (forest_of (sequence_of n m parts))
sequence_imports n m parts none = λ source. both_empty (import_decls source parts ++ []) [] (both_empty (import_decls source parts) [] (none source) refl) refl

declares_none : (t : Forest) → Stand (these (one_place expression ∷ [])) t → all_core t ≡ true → ImportsNone t → DeclaresNothing t
declares_none t of core none = record { bound = nameless_as_planned t (these (one_place expression ∷ [])) refl of core; imports = none }

module _ (a : Around) (p i : Note) (parts : Forest) where
  abbrev sequence : Tree
  sequence = sequence_of p i parts

  parts_there : Fits root (plug a (Some sequence)) → Parts parts
  parts_there fits = (parts_of_sequence a p sequence.below fits).0.1

  -- in a core module
  module _ (fits : Fits root (plug a (Some sequence))) (core : all_core (plug a (Some sequence)) ≡ true) (imports : ImportsNone sequence.below) where
    within : all_core parts ≡ true
    within = core_below expressions i parts nothing (core_below sequence_expression p sequence.below nothing (core_there a sequence core))

    before_imports : ImportsNone parts
    before_imports = λ source. first_empty (import_decls source parts) [] (imports source)

    old_declares : DeclaresNothing sequence.below
    old_declares = record {
      bound = nameless_as_planned sequence.below (these (list expressions expression ∷ [])) refl (parts_of_sequence a p sequence.below fits) (core_below sequence_expression p sequence.below nothing (core_there a sequence core));
      imports = imports;
    }

    value_comes : {more : Bool} {left : Forest} {n m : Note} {y : Tree} → Value (use_at a) (asked_at (asked_of_program true) a).in_with more n m left y → Counting parts left → ImportsNone left → all_core left ≡ true → Parts left → Comes a sequence y
    value_comes (it_alone k j b bare) keeps none core_left of = record {
      inner = b;
      same = refl;
      stands = for_part (λ s. comes_to_last (wanted_at a) s i k j b keeps (bare_at a k j b of.0 core_left (wanted_as_used a sequence (λ e. cc) core fits) bare));
      old_calm = refl;
      declares = both_plainly sequence_expression sequence.below k j b nothing refl old_declares (declares_none (node k j b nothing) (of.0, tt) core_left none);
      core = λ c. core_stays keeps (core_below expressions i parts nothing (core_below sequence_expression p sequence.below nothing c));
    }
    value_comes {n = n} (it_behind_zero k j b more) keeps none core_left of =
        let part = tree k j b in
        let y = behind_zero n n n part in
        record {
          inner = y.below;
          same = refl;
          stands = for_part (λ s. comes_behind_zero (wanted_at a) s i n n k j b keeps);
          old_calm = refl;
          declares = both_plainly sequence_expression sequence.below sequence_expression n y.below nothing refl old_declares (behind_declares n n n part (declares_none (node k j b nothing) (of.0, tt) core_left none));
          core = λ c. behind_core n n n part (core_stays keeps (core_below expressions i parts nothing (core_below sequence_expression p sequence.below nothing c)));
        }
    value_comes {n = n} {m = m} (in_sequence rest more) keeps none core_left of = record {
      inner = node expressions i rest nothing;
      same = refl;
      stands = for_sequence (λ s. counting_shorter s keeps);
      old_calm = refl;
      declares = both_plainly sequence_expression sequence.below sequence_expression n (node expressions i rest nothing) nothing refl old_declares
          (declares_none (forest_of (sequence_of n i rest)) (sequence_fits i rest of, tt) (sequence_core n i rest core_left) (sequence_imports n i rest none));
      core = λ c. sequence_core n m rest (core_stays keeps (core_below expressions i parts nothing (core_below sequence_expression p sequence.below nothing c)));
    }

  -- ---- all of it

  module _ (n m : Note) (y : Tree) (some : all_count parts ≡ false) (left : Value (use_at a) (asked_at (asked_of_program true) a).in_with (more_before parts) n m (counting parts) y) where
    kept : Parts parts → Counting parts (counting parts)
    kept st = let nodes = parts_are_nodes parts st in counted parts nodes (some_parts parts nodes some)

    kept_there : Fits root (plug a (Some sequence)) → Parts (counting parts)
    kept_there fits = let st = parts_there fits in parts_stay (kept st) st

    comes : (q s : Note) (b : Forest) → plug a (Some sequence) ≡ module_of q s b → Fits root (module_of q s b) → IsWellFormed (module_of q s b) → all_core (module_of q s b) ≡ true → Comes a sequence y
    comes q s b is fits form core =
        let there = subst (Fits root) (sym is) fits in
        let all = subst (λ t. all_core t ≡ true) (sym is) core in
        let st = parts_there there in
        let imports : ImportsNone sequence.below = no_imports_below q s b a sequence y is fits form core sequence_expression refl refl (λ s i. refl) in
        value_comes there all imports left (kept st) (imports_stay (kept st) (before_imports there all imports)) (core_stays (kept st) (within there all imports)) (kept_there there)

    comes_out : ComesOut a y
    comes_out = each left
      where
        each : {more : Bool} {rest : Forest} {z : Tree} → Value (use_at a) (asked_at (asked_of_program true) a).in_with more n m rest z → ComesOut a z
        each (it_alone k j b bare) = bare_comes_out a k j b bare
        each (it_behind_zero k j b more) = record { undeleted = λ e. refl; uncalled = λ e. refl }
        each (in_sequence rest more) = record { undeleted = λ e. refl; uncalled = λ e. refl }

    sequence_owes : ByParts a sequence y
    sequence_owes = record {
      rebuilt = λ fits. let keeps = kept (parts_there fits) in opened refl (opened refl (value_rebuilt (joined parts nothing) (counting_nodes keeps) left (counting_rebuilt keeps)));
      lighter = let h = value_lighter parts refl some left in Prim.omega (arith, h);
      no_deeper = let h = value_lower (levels_at (λ i. lower expressions i) 0 parts) (some_levels (λ i. lower expressions i) parts 0 some) left (λ g none. counting_lower (λ i. lower expressions i) g none parts 0 0) in Prim.omega (arith, h);
      no_call = record { counts = refl; lists = λ i. refl; begins = λ i. refl; calls = refl };
      ends = refl;
      may_change = refl;
      fits_expression = λ fits. (sequence_fits i parts (parts_there fits), tt);
      takes = λ fits.
          let of = value_fits left (kept_there fits) in
          anywhere (record { classes = λ (to : Class) f. (as_sequence y.kind y.below to (sequence_stood to p sequence.below f) of, tt); old_told = refl; new_told = expression_told y.kind y.below of });
      no_name = refl;
      old_unasked = λ fits. refl;
      unasked = λ fits. value_unasked left (kept_there fits);
      comes_out = comes_out;
      runs = by_coming comes;
    }

shortened_owes : (a : Around) (p n m : Note) (k : Kind) (below : Forest) (y : Tree) → Shortened (use_at a) (asked_at (asked_of_program true) a).in_with n m k below y → ByParts a (tree k p below) y
shortened_owes a p n m _ _ y (a_sequence i parts _ some left) = sequence_owes a p i parts n m y some left

pub idle_parts_owes : (a : Around) (x y : Tree) → IdleParts a x y → ByParts a x y
idle_parts_owes a x y (idle_parts_leave n m _ _ is) = shortened_owes a x.note n m x.kind x.below y (is_shortened (use_at a) (asked_at (asked_of_program true) a).in_with n m x.kind x.below y is)
