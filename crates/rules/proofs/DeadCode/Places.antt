-- Places below the place of a row.
use Rattle.std.proofs.Common.{◌≡◌, ◌∙◌, ℕ, List, [], ◌∷◌, ◌++◌, Bool, true, false, ◌||◌, Option, true≢false, refl, sym, ap, ap₂, subst}
use Rattle.js_syntax.specs.declared.node_kind.NodeKind.{NodeKind as Kind}
use Rattle.js_syntax.specs.Node.{Forest, Tree, Note, node, absent}
use Rattle.min_context.specs.Above.{parent_of, above_of}
use Rattle.min_context.specs.Place.{told_of, Spot, place_below, place_of, next_of, below, top, spot, place_at, goes_on}
use Rattle.min_context.specs.declared.ancestor.Ancestor.{Ancestor}
use Rattle.min_context.specs.declared.ancestor.Ancestor.TheVariants.{Field as field}
use Rattle.min_pass.specs.declared.around.Around.{Around as Asked}
use Rattle.min_pass.specs.Around.{is_with, is_class, entered as asked_below, outermost as asked_of_program}
use Rattle.scope_laws.specs.Place as places
use Rattle.scope_laws.specs.Place.{Around, first}
use Rattle.scope_laws.specs.Lists.{without}
use Rattle.scope_counts.specs.Edits as counts
use Rattle.js_syntax.proofs.Truth.{or_false, or_associates}
use Rattle.steps.specs.Allowed.Places.{asked_at, surroundings_asked, surroundings_at, has_node, has_other}
use Rattle.steps.specs.Allowed.Silent.{inside_of}
use Rattle.rules.specs.DeadCode.Rules.{is_field_of_with, has_with, is_field_of_class, has_class, surroundings_below}

-- ---- the place b of a row that stands at the place a

abbrev pub to : counts.Around → Around → Around
to counts.here b = b
to (counts.behind k n c a) b = places.behind k n c (to a b)
to (counts.behind_none a) b = places.behind_none (to a b)
to (counts.under k n a rest) b = places.under k n (to a b) rest

pub plugged : (a : counts.Around) (b : Around) (x : Option Tree) → places.plug (to a b) x ≡ counts.plug a (places.plug b x)
plugged counts.here b x = refl
plugged (counts.behind k n c a) b x = ap (λ t. node k n c t) (plugged a b x)
plugged (counts.behind_none a) b x = ap (λ t. absent t) (plugged a b x)
plugged (counts.under k n a rest) b x = ap (λ t. node k n t rest) (plugged a b x)

pub left_out : (a : counts.Around) (b : Around) → without (to a b) ≡ counts.plug a (without b)
left_out counts.here b = refl
left_out (counts.behind k n c a) b = ap (λ t. node k n c t) (left_out a b)
left_out (counts.behind_none a) b = ap (λ t. absent t) (left_out a b)
left_out (counts.under k n a rest) b = ap (λ t. node k n t rest) (left_out a b)

-- ---- a row within a row

abbrev pub join : counts.Around → counts.Around → counts.Around
join counts.here b = b
join (counts.behind k n c a) b = counts.behind k n c (join a b)
join (counts.behind_none a) b = counts.behind_none (join a b)
join (counts.under k n a rest) b = counts.under k n (join a b) rest

pub plug_join : (a b : counts.Around) (t : Forest) → counts.plug (join a b) t ≡ counts.plug a (counts.plug b t)
plug_join counts.here b t = refl
plug_join (counts.behind k n c a) b t = ap (λ u. node k n c u) (plug_join a b t)
plug_join (counts.behind_none a) b t = ap (λ u. absent u) (plug_join a b t)
plug_join (counts.under k n a rest) b t = ap (λ u. node k n u rest) (plug_join a b t)

pub spot_join : (s : Spot) (a b : counts.Around) → spot s (join a b) ≡ spot (spot s a) b
spot_join s counts.here b = refl
spot_join s (counts.behind k n c a) b = spot_join (next_of s true) a b
spot_join s (counts.behind_none a) b = spot_join (next_of s false) a b
spot_join s (counts.under k n a rest) b = spot_join (below (place_of s (goes_on rest)) (above_of k n)) a b

-- what is asked of the row
abbrev pub asked_row : Asked → counts.Around → Asked
asked_row w counts.here = w
asked_row w (counts.behind k n c a) = asked_row w a
asked_row w (counts.behind_none a) = asked_row w a
asked_row w (counts.under k n a rest) = asked_row (asked_below w k) a

pub asked_to : (w : Asked) (a : counts.Around) (b : Around) → asked_at w (to a b) ≡ asked_at (asked_row w a) b
asked_to w counts.here b = refl
asked_to w (counts.behind k n c a) b = asked_to w a b
asked_to w (counts.behind_none a) b = asked_to w a b
asked_to w (counts.under k n a rest) b = asked_to (asked_below w k) a b

pub asked_join : (w : Asked) (a b : counts.Around) → asked_row w (join a b) ≡ asked_row (asked_row w a) b
asked_join w counts.here b = refl
asked_join w (counts.behind k n c a) b = asked_join w a b
asked_join w (counts.behind_none a) b = asked_join w a b
asked_join w (counts.under k n a rest) b = asked_join (asked_below w k) a b

pub other_under : (before : Bool) (a : counts.Around) (k : Kind) (n : Note) (b : Around) (rest : Forest) → has_other before (to a (places.under k n b rest)) ≡ has_other false b
other_under before counts.here k n b rest = refl
other_under before (counts.behind j m c a) k n b rest = other_under true a k n b rest
other_under before (counts.behind_none a) k n b rest = other_under before a k n b rest
other_under before (counts.under j m a r) k n b rest = other_under false a k n b rest

-- ---- further on in the same row

abbrev pub is_row : counts.Around → Bool
is_row counts.here = true
is_row (counts.behind k n c a) = is_row a
is_row (counts.behind_none a) = is_row a
is_row (counts.under k n a rest) = false

abbrev pub has_before : counts.Around → Bool
has_before counts.here = false
has_before (counts.behind k n c a) = true
has_before (counts.behind_none a) = has_before a
has_before (counts.under k n a rest) = false

never : {P : Type 0} → false ≡ true → P
never e = absurd (true≢false (sym e))

pub row_join : (a : counts.Around) (k : Kind) (n : Note) (c : Forest) → is_row a ≡ true → is_row (join a (counts.behind k n c counts.here)) ≡ true
row_join counts.here k n c e = refl
row_join (counts.behind j m d a) k n c e = row_join a k n c e
row_join (counts.behind_none a) k n c e = row_join a k n c e
row_join (counts.under j m a r) k n c e = never e

pub before_join : (a : counts.Around) (k : Kind) (n : Note) (c : Forest) → is_row a ≡ true → has_before (join a (counts.behind k n c counts.here)) ≡ true
before_join counts.here k n c e = refl
before_join (counts.behind j m d a) k n c e = refl
before_join (counts.behind_none a) k n c e = before_join a k n c e
before_join (counts.under j m a r) k n c e = never e

pub asked_along : (w : Asked) (a : counts.Around) → is_row a ≡ true → asked_row w a ≡ w
asked_along w counts.here e = refl
asked_along w (counts.behind k n c a) e = asked_along w a e
asked_along w (counts.behind_none a) e = asked_along w a e
asked_along w (counts.under k n a rest) e = never e

pub other_before : (before : Bool) (a : counts.Around) (rest : Forest) → is_row a ≡ true → before ≡ true → has_other before (to a (first rest)) ≡ true
other_before before counts.here rest e f = subst (λ b. b || has_node rest ≡ true) (sym f) refl
other_before before (counts.behind k n c a) rest e f = other_before true a rest e refl
other_before before (counts.behind_none a) rest e f = other_before before a rest e f
other_before before (counts.under k n a r) rest e f = never e

pub other_stands : (a : counts.Around) (rest : Forest) → is_row a ≡ true → has_before a ≡ true → has_other false (to a (first rest)) ≡ true
other_stands counts.here rest e f = never f
other_stands (counts.behind k n c a) rest e f = other_before true a rest e refl
other_stands (counts.behind_none a) rest e f = other_stands a rest e f
other_stands (counts.under k n a r) rest e f = never e

pub other_behind : (before : Bool) (a : counts.Around) (rest : Forest) → is_row a ≡ true → has_node rest ≡ true → has_other before (to a (first rest)) ≡ true
other_behind true counts.here rest e f = refl
other_behind false counts.here rest e f = f
other_behind before (counts.behind k n c a) rest e f = other_behind true a rest e f
other_behind before (counts.behind_none a) rest e f = other_behind before a rest e f
other_behind before (counts.under k n a r) rest e f = never e

-- ---- whether a `with` statement is around

field_of_with : (k : Kind) (at : ℕ) (previous more : Bool) → is_field_of_with (field (told_of (parent_of k) at previous more) at) ≡ is_with k
field_of_with Kind.WithStatement at previous more = refl
field_of_with k at previous more = refl

pub with_last : (above : List Ancestor) (a : Ancestor) → has_with (above ++ (a ∷ [])) ≡ has_with above || is_field_of_with a
with_last [] a = or_false (is_field_of_with a)
with_last (b ∷ above) a = ap (λ c. is_field_of_with b || c) (with_last above a) ∙ or_associates (is_field_of_with b) (has_with above) (is_field_of_with a)

with_row : (w : Asked) (s : Spot) (a : counts.Around) (more : Bool) → ((at : ℕ) (previous more : Bool) → w.in_with ≡ has_with (place_below s.outer s.above at previous more).ancestors) → (asked_row w a).in_with ≡ has_with (place_of (spot s a) more).ancestors
with_row w s counts.here more h = h s.at s.previous more
with_row w s (counts.behind k n c a) more h = with_row w (next_of s true) a more h
with_row w s (counts.behind_none a) more h = with_row w (next_of s false) a more h
with_row w s (counts.under k n a rest) more h =
    let p = place_of s (goes_on rest) in
    with_row (asked_below w k) (below p (above_of k n)) a more
    (λ at previous more. ap (λ b. b || is_with k) (h s.at s.previous (goes_on rest)) ∙ ap (λ b. has_with p.ancestors || b) (sym (field_of_with k at previous more)) ∙ sym (with_last p.ancestors (field (told_of (parent_of k) at previous more) at)))

pub with_is : (a : counts.Around) (more : Bool) → (asked_row (asked_of_program true) a).in_with ≡ has_with (place_at a more).ancestors
with_is a more = with_row (asked_of_program true) top a more (λ at previous more. refl)

-- ---- whether a class is around

field_of_class : (k : Kind) (at : ℕ) (previous more : Bool) → is_field_of_class (field (told_of (parent_of k) at previous more) at) ≡ is_class k
field_of_class (Kind.Class how) at previous more = refl
field_of_class k at previous more = refl

pub class_last : (above : List Ancestor) (a : Ancestor) → has_class (above ++ (a ∷ [])) ≡ has_class above || is_field_of_class a
class_last [] a = or_false (is_field_of_class a)
class_last (b ∷ above) a = ap (λ c. is_field_of_class b || c) (class_last above a) ∙ or_associates (is_field_of_class b) (has_class above) (is_field_of_class a)

class_row : (w : Asked) (s : Spot) (a : counts.Around) (more : Bool) → ((at : ℕ) (previous more : Bool) → w.in_class ≡ has_class (place_below s.outer s.above at previous more).ancestors) → (asked_row w a).in_class ≡ has_class (place_of (spot s a) more).ancestors
class_row w s counts.here more h = h s.at s.previous more
class_row w s (counts.behind k n c a) more h = class_row w (next_of s true) a more h
class_row w s (counts.behind_none a) more h = class_row w (next_of s false) a more h
class_row w s (counts.under k n a rest) more h =
    let p = place_of s (goes_on rest) in
    class_row (asked_below w k) (below p (above_of k n)) a more
    (λ at previous more. ap (λ b. b || is_class k) (h s.at s.previous (goes_on rest)) ∙ ap (λ b. has_class p.ancestors || b) (sym (field_of_class k at previous more)) ∙ sym (class_last p.ancestors (field (told_of (parent_of k) at previous more) at)))

class_is : (a : counts.Around) (more : Bool) → (asked_row (asked_of_program true) a).in_class ≡ has_class (place_at a more).ancestors
class_is a more = class_row (asked_of_program true) top a more (λ at previous more. refl)

-- ---- both

pub surroundings_are : (a : counts.Around) (more : Bool) → surroundings_asked (asked_row (asked_of_program true) a) ≡ surroundings_below (place_at a more).ancestors
surroundings_are a more = ap₂ inside_of (class_is a more) (with_is a more)

-- at the place of a node
pub surroundings_there : (a : counts.Around) (rest : Forest) → surroundings_at (to a (first rest)) ≡ surroundings_below (place_at a (goes_on rest)).ancestors
surroundings_there a rest = ap surroundings_asked (asked_to (asked_of_program true) a (first rest)) ∙ surroundings_are a (goes_on rest)
