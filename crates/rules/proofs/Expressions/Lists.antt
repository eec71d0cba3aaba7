-- What is left of arrays and sequences of which nobody takes the value.
use Rattle.std.proofs.Common.{◌≡◌, ◌∙◌, ◌+◌, ◌≤◌, ℕ, zero, suc, pos, negsuc, List, [], ◌∷◌, Bool, true, false, ◌||◌, ◌&&◌, Option, Some, None, if◌then◌else◌, refl, sym, ap, subst, arith}
use Rattle.js_syntax.specs.declared.node_kind.NodeKind.{NodeKind as Kind}
use Rattle.js_syntax.specs.declared.node_kind.NodeKind.TheVariants.{ArrayExpression as array_expression, Elements as elements, SequenceExpression as sequence_expression, Expressions as expressions, TemplateLiteral as template_literal, Quasis as quasis}
use Rattle.js_syntax.specs.declared.value.LiteralValue.{LiteralValue}
use Rattle.js_syntax.specs.declared.value.LiteralValue.TheVariants as value
use Rattle.js_syntax.specs.declared.kind.FunctionKind.{FunctionKind}
use Rattle.js_syntax.specs.declared.kind.FunctionKind.TheVariants as function_kind
use Rattle.js_syntax.specs.Core.{text_weight}
use Rattle.js_syntax.specs.Facts.{weight}
use Rattle.js_syntax.specs.Node.{Forest, Tree, Note, nothing, node, absent, bare, forest_of, total}
use Rattle.scope_counts.specs.Counts.{ids}
use Rattle.min_context.specs.Place.{place_at, goes_on}
use Rattle.scope_laws.specs.Lists.{is_list}
use Rattle.scope_laws.specs.Place as places
use Rattle.scope_counts.specs.Edits.{Around}
use Rattle.js_effects.specs.Silence.{only_combines}
use Rattle.steps.specs.Allowed.UnusedOperation.{acts}
use Rattle.steps.specs.Allowed.UnusedList.{acting, all_act, has_spread, as_one, as_elements, array_stays, list_becomes, UnusedList, acting_parts_stay}
use Rattle.steps.specs.Allowed.Uses.{as_value, stands_bare}
use Rattle.rules.specs.DeadCode.Before.{before}
use Rattle.rules.specs.Expressions.Uses.{Spot, spot_of}
use Rattle.rules.specs.Expressions.Lists.{new_note, list_note, unused_list_becomes}
use Rattle.rules.proofs.Expressions.Uses.{spot_at, spot_before}
use Rattle.rules.proofs.Expressions.Becoming.{no_answer, same_answer, none_of, chosen, chosen_if, IsLess}

-- ---- whether a list becomes anything doesn't depend on notes

-- an answer that is the same but for notes
pub record HasAnswer (o : Option Tree) (y : Tree) : Type 0 where
  pub left : Tree
  pub answers : o ≡ Some left
  pub same : bare (forest_of left) ≡ bare (forest_of y)

pub answer : (x y : Tree) → bare (forest_of x) ≡ bare (forest_of y) → HasAnswer (Some x) y
answer x y e = record { left = x; answers = refl; same = e }

abbrev pub made : Note → Note → Forest → Tree
made n m parts = record { kind = sequence_expression; note = n; below = node expressions m parts nothing }

-- of several parts
pub several_as : (n m i j : Note) (parts : Forest) (y : Tree) → Some (made n m parts) ≡ Some y → HasAnswer (Some (made i j parts)) y
several_as n m i j parts y e = subst (λ z. HasAnswer (Some (made i j parts)) z) (same_answer e) (answer (made i j parts) (made n m parts) refl)

pub one_as : (n m i j : Note) (parts : Forest) (y : Tree) → as_one n m parts ≡ Some y → HasAnswer (as_one i j parts) y
one_as n m i j nothing y e = no_answer e
one_as n m i j (absent rest) y e = several_as n m i j (absent rest) y e
one_as n m i j (node k l a nothing) y e = record { left = y; answers = e; same = refl }
one_as n m i j (node k l a (node h g b rest)) y e = several_as n m i j (node k l a (node h g b rest)) y e
one_as n m i j (node k l a (absent rest)) y e = several_as n m i j (node k l a (absent rest)) y e

pub unless_as : (b : Bool) (o p : Option Tree) (y : Tree) → (o ≡ Some y → HasAnswer p y) → (if b then None else o) ≡ Some y → HasAnswer (if b then None else p) y
unless_as true o p y h e = no_answer e
unless_as false o p y h e = h e

pub when_as : (b : Bool) (o p : Option Tree) (y : Tree) → (o ≡ Some y → HasAnswer p y) → (if b then o else None) ≡ Some y → HasAnswer (if b then p else None) y
when_as true o p y h e = h e
when_as false o p y h e = no_answer e

abbrev array_made : Note → Note → Forest → Tree
array_made n m parts = record { kind = array_expression; note = n; below = node elements m parts nothing }

-- of elements
elements_as : (n m i j : Note) (parts : Forest) (y : Tree) → as_elements n m parts ≡ Some y → HasAnswer (as_elements i j parts) y
elements_as n m i j parts y e = by_spread (has_spread parts) e
  where
    by_spread : (b : Bool) → (if b then Some (array_made n m parts) else as_one n m parts) ≡ Some y → HasAnswer (if b then Some (array_made i j parts) else as_one i j parts) y
    by_spread true e = subst (λ z. HasAnswer (Some (array_made i j parts)) z) (same_answer e) (answer (array_made i j parts) (array_made n m parts) refl)
    by_spread false e = one_as n m i j parts y e

list_as : (n m i j : Note) (k : Kind) (below : Forest) (y : Tree) → list_becomes n m k below ≡ Some y → HasAnswer (list_becomes i j k below) y
list_as n m i j array_expression (node elements l parts nothing) y e =
    unless_as (array_stays parts) (as_elements n m (acting parts)) (as_elements i j (acting parts)) y (elements_as n m i j (acting parts) y) e
list_as n m i j sequence_expression (node expressions l parts nothing) y e =
    unless_as (all_act parts) (as_one n m (acting parts)) (as_one i j (acting parts)) y (one_as n m i j (acting parts) y) e
list_as n m i j template_literal (node quasis h texts (node expressions l parts nothing)) y e =
    when_as (only_combines template_literal (node quasis h texts (node expressions l parts nothing))) (as_one n m (acting parts)) (as_one i j (acting parts)) y (one_as n m i j (acting parts) y) e
list_as n m i j k below y e = no_answer e

pub none_as : (n m i j : Note) (k : Kind) (below : Forest) → list_becomes n m k below ≡ None → list_becomes i j k below ≡ None
none_as n m i j k below none = none_of (list_becomes i j k below) (λ y e. no_answer (sym none ∙ (list_as i j n m k below y e).answers))

-- ---- the answer is an edit, and where an edit applies there is an answer

pub record IsTaken (b : Bool) (o : Option Tree) (y : Tree) : Type 0 where
  pub holds : b ≡ true
  pub answers : o ≡ Some y

pub taken : (b : Bool) (o : Option Tree) (y : Tree) → (if b then o else None) ≡ Some y → IsTaken b o y
taken true o y e = record { holds = refl; answers = e }
taken false o y e = no_answer e

list_at : (s : Spot) (n : Note) (k : Kind) (parts : Forest) (y : Tree) → unused_list_becomes s n k parts ≡ Some y → IsTaken s.is_unused (list_becomes (new_note n) (new_note (list_note parts)) k parts) y
list_at s n k parts y e = taken s.is_unused (list_becomes (new_note n) (new_note (list_note parts)) k parts) y e

pub list_edits : (a : places.Around) (x y : Tree) → unused_list_becomes (spot_at a) x.note x.kind x.below ≡ Some y → UnusedList a x y
list_edits a x y e =
    let h = list_at (spot_at a) x.note x.kind x.below y e in
    acting_parts_stay (new_note x.note) (new_note (list_note x.below)) x y h.holds h.answers

pub list_answers : (a : places.Around) (x z : Tree) → UnusedList a x z → (y : Tree) × (unused_list_becomes (spot_at a) x.note x.kind x.below ≡ Some y) × (bare (forest_of y) ≡ bare (forest_of z))
list_answers a _ _ (acting_parts_stay n m x z unused e) =
    let h = list_as n m (new_note x.note) (new_note (list_note x.below)) x.kind x.below z e in
    (h.left, ap (λ b. if b then list_becomes (new_note x.note) (new_note (list_note x.below)) x.kind x.below else None) unused ∙ h.answers, h.same)

-- at a place of a walk
pub list_edits_there : (a : Around) (x y : Tree) (rest : Forest) → unused_list_becomes (spot_of (place_at a (goes_on rest))) x.note x.kind x.below ≡ Some y → UnusedList (before a rest) x y
list_edits_there a x y rest e = list_edits (before a rest) x y (ap (λ s. unused_list_becomes s x.note x.kind x.below) (sym (spot_before a rest)) ∙ e)

pub list_answers_there : (a : Around) (x z : Tree) (rest : Forest) → UnusedList (before a rest) x z → (y : Tree) × (unused_list_becomes (spot_of (place_at a (goes_on rest))) x.note x.kind x.below ≡ Some y) × (bare (forest_of y) ≡ bare (forest_of z))
list_answers_there a x z rest o = let w = list_answers (before a rest) x z o in (w.0, ap (λ s. unused_list_becomes s x.note x.kind x.below) (spot_before a rest) ∙ w.1, w.2)

-- ---- what acts is among the parts

pub no_more : (r : ℕ) (parts : Forest) → ids r (acting parts) ≤ ids r parts
no_more r nothing = Prim.omega arith
no_more r (absent rest) = no_more r rest
no_more r (node k n a rest) = if_acts (acts k n a) (no_more r rest)
  where
    if_acts : (b : Bool) → ids r (acting rest) ≤ ids r rest → ids r (if b then node k n a (acting rest) else acting rest) ≤ ids r (node k n a rest)
    if_acts true h = Prim.omega (arith, h)
    if_acts false h = Prim.omega (arith, h)

pub no_heavier : (parts : Forest) → total weight (acting parts) ≤ total weight parts
no_heavier nothing = Prim.omega arith
no_heavier (absent rest) = no_heavier rest
no_heavier (node k n a rest) = if_acts (acts k n a) (no_heavier rest)
  where
    if_acts : (b : Bool) → total weight (acting rest) ≤ total weight rest → total weight (if b then node k n a (acting rest) else acting rest) ≤ total weight (node k n a rest)
    if_acts true h = Prim.omega (arith, h)
    if_acts false h = Prim.omega (arith, h)

-- ---- and a part that leaves weighs something

value_weighs : (v : LiteralValue) → 1 ≤ weight (Kind.Literal v)
value_weighs value.Null = Prim.omega arith
value_weighs (value.Boolean b) = Prim.omega arith
value_weighs (value.Number (pos zero)) = Prim.omega arith
value_weighs (value.Number (pos (suc zero))) = Prim.omega arith
value_weighs (value.Number (pos (suc (suc n)))) = Prim.omega arith
value_weighs (value.Number (negsuc n)) = Prim.omega arith
value_weighs (value.Text []) = Prim.omega arith
value_weighs (value.Text (c ∷ cs)) = Prim.omega arith

function_weighs : (how : FunctionKind) (pure : Bool) → 1 ≤ weight (Kind.Function how pure)
function_weighs function_kind.Declaration pure = Prim.omega arith
function_weighs function_kind.Expression pure = Prim.omega arith
function_weighs function_kind.Arrow pure = Prim.omega arith

no_list : (b : Bool) → (b || true) ≡ false → ⊥
no_list true e = absurd Prim.cc
no_list false e = absurd Prim.cc

text_weighs : (raw : List ℕ) → 1 ≤ text_weight raw
text_weighs [] = Prim.omega arith
text_weighs (c ∷ cs) = Prim.omega arith

pub idle_weighs : (k : Kind) (n : Note) (below : Forest) → (acts k n below || is_list k) ≡ false → 1 ≤ weight k
idle_weighs (Kind.Literal v) n below e = value_weighs v
idle_weighs (Kind.Function how pure) n below e = function_weighs how pure
idle_weighs (Kind.Class how) n below e = absurd Prim.cc
idle_weighs (Kind.ExportNamedDeclaration source) n below e = absurd Prim.cc
idle_weighs (Kind.TemplateElement written tail) n below e = text_weighs written.raw
idle_weighs Kind.VariableDeclarator n below e = absurd Prim.cc
idle_weighs Kind.Statements n below e = absurd Prim.cc
idle_weighs Kind.Cases n below e = absurd Prim.cc
idle_weighs Kind.Declarators n below e = absurd Prim.cc
idle_weighs Kind.Parameters n below e = absurd Prim.cc
idle_weighs Kind.Members n below e = absurd (no_list (acts Kind.Members n below) e)
idle_weighs Kind.Elements n below e = absurd (no_list (acts Kind.Elements n below) e)
idle_weighs Kind.Properties n below e = absurd (no_list (acts Kind.Properties n below) e)
idle_weighs Kind.Expressions n below e = absurd (no_list (acts Kind.Expressions n below) e)
idle_weighs Kind.Arguments n below e = absurd Prim.cc
idle_weighs Kind.Quasis n below e = absurd (no_list (acts Kind.Quasis n below) e)
idle_weighs Kind.Specifiers n below e = absurd Prim.cc
idle_weighs k n below e = Prim.omega arith

-- so of a sequence in which not all act less is left
lighter_row : (parts : Forest) → all_act parts ≡ false → total weight (acting parts) + 1 ≤ total weight parts
lighter_row nothing e = absurd Prim.cc
lighter_row (absent rest) e = lighter_row rest e
lighter_row (node k n a rest) e = if_acts (acts k n a) refl (is_list k) refl (λ h. lighter_row rest h) e
  where
    if_acts : (b : Bool) → acts k n a ≡ b → (l : Bool) → is_list k ≡ l → (all_act rest ≡ false → total weight (acting rest) + 1 ≤ total weight rest) → ((b || l) && all_act rest) ≡ false
        → total weight (if b then node k n a (acting rest) else acting rest) + 1 ≤ total weight (node k n a rest)
    if_acts true does l lists more h = Prim.omega (arith, more h)
    if_acts false does true lists more h = Prim.omega (arith, more h)
    if_acts false does false lists more h = Prim.omega (arith, no_heavier rest, idle_weighs k n a (ap (λ c. c || is_list k) does ∙ lists))

-- ---- what is left is less

pub record IsLittle (y : Tree) (parts : Forest) : Type 0 where
  pub fewer : (r : ℕ) → ids r (forest_of y) ≤ ids r parts
  pub lighter : total weight (forest_of y) ≤ total weight parts + 2

pub several_little : (n m : Note) (parts : Forest) (y : Tree) → Some (made n m parts) ≡ Some y → IsLittle y parts
several_little n m parts y e = subst (λ z. IsLittle z parts) (same_answer e) (record { fewer = λ r. Prim.omega arith; lighter = Prim.omega arith })

pub one_little : (n m : Note) (parts : Forest) (y : Tree) → as_one n m parts ≡ Some y → IsLittle y parts
one_little n m nothing y e = no_answer e
one_little n m (absent rest) y e = several_little n m (absent rest) y e
one_little n m (node k l a nothing) y e =
    elim (chosen_if (stands_bare as_value false k a) (record { kind = k; note = l; below = a }) y e) [ chosen may is ↦ subst (λ z. IsLittle z (node k l a nothing)) is (record { fewer = λ r. Prim.omega arith; lighter = Prim.omega arith }) ]
one_little n m (node k l a (node h g b rest)) y e = several_little n m (node k l a (node h g b rest)) y e
one_little n m (node k l a (absent rest)) y e = several_little n m (node k l a (absent rest)) y e

-- of an array with what is spread it becomes lighter, since not all of it acts
less_array : (i j n l : Note) (parts : Forest) (y : Tree) → array_stays parts ≡ false → as_elements i j (acting parts) ≡ Some y → IsLess (record { kind = array_expression; note = n; below = node elements l parts nothing }) y
less_array i j n l parts y some e = by_spread (has_spread (acting parts)) some e
  where
    by_spread : (b : Bool) → (b && all_act parts) ≡ false → (if b then Some (array_made i j (acting parts)) else as_one i j (acting parts)) ≡ Some y → IsLess (record { kind = array_expression; note = n; below = node elements l parts nothing }) y
    by_spread true some e =
        subst (λ z. IsLess (record { kind = array_expression; note = n; below = node elements l parts nothing }) z) (same_answer e)
        (record { thins = λ r. Prim.omega (arith, no_more r parts); lighter = Prim.omega (arith, lighter_row parts some) })
    by_spread false some e =
        let h = one_little i j (acting parts) y e in
        record { thins = λ r. Prim.omega (arith, h.fewer r, no_more r parts); lighter = Prim.omega (arith, h.lighter, no_heavier parts) }

less_template : (n h l : Note) (texts parts : Forest) (y : Tree) → IsLittle y (acting parts) → IsLess (record { kind = template_literal; note = n; below = node quasis h texts (node expressions l parts nothing) }) y
less_template n h l texts parts y little = record { thins = λ r. Prim.omega (arith, little.fewer r, no_more r parts); lighter = Prim.omega (arith, little.lighter, no_heavier parts) }

less_sequence : (n l : Note) (parts : Forest) (y : Tree) → all_act parts ≡ false → IsLittle y (acting parts) → IsLess (record { kind = sequence_expression; note = n; below = node expressions l parts nothing }) y
less_sequence n l parts y idle h = record { thins = λ r. Prim.omega (arith, h.fewer r, no_more r parts); lighter = Prim.omega (arith, h.lighter, lighter_row parts idle) }

pub record IsLeft (b : Bool) (o : Option Tree) (y : Tree) : Type 0 where
  pub holds_not : b ≡ false
  pub answers : o ≡ Some y

pub unless : (b : Bool) (o : Option Tree) (y : Tree) → (if b then None else o) ≡ Some y → IsLeft b o y
unless true o y e = no_answer e
unless false o y e = record { holds_not = refl; answers = e }

list_less : (i j n : Note) (k : Kind) (parts : Forest) (y : Tree) → list_becomes i j k parts ≡ Some y → IsLess (record { kind = k; note = n; below = parts }) y
list_less i j n array_expression (node elements l parts nothing) y e = let h = unless (array_stays parts) (as_elements i j (acting parts)) y e in less_array i j n l parts y h.holds_not h.answers
list_less i j n sequence_expression (node expressions l parts nothing) y e = let h = unless (all_act parts) (as_one i j (acting parts)) y e in less_sequence n l parts y h.holds_not (one_little i j (acting parts) y h.answers)
list_less i j n template_literal (node quasis h texts (node expressions l parts nothing)) y e =
    less_template n h l texts parts y (one_little i j (acting parts) y (taken (only_combines template_literal (node quasis h texts (node expressions l parts nothing))) (as_one i j (acting parts)) y e).answers)
list_less i j n k parts y e = no_answer e

pub list_is_less : (s : Spot) (n : Note) (k : Kind) (parts : Forest) (y : Tree) → unused_list_becomes s n k parts ≡ Some y → IsLess (record { kind = k; note = n; below = parts }) y
list_is_less s n k parts y e = list_less (new_note n) (new_note (list_note parts)) n k parts y (list_at s n k parts y e).answers
