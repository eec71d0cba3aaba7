-- The context of a walk tells what an expression is used for, and whether anybody takes its value.
use Rattle.std.proofs.Common.{◌≡◌, ◌∙◌, ℕ, List, [], ◌∷◌, ◌++◌, Bool, true, false, Some, refl, sym, ap, ap₂}
use Rattle.js_syntax.specs.declared.node_kind.NodeKind.{NodeKind as Kind}
use Rattle.js_syntax.specs.Node.{Forest, Tree, node, absent}
use Rattle.min_context.specs.Above.{parent_of, above_of}
use Rattle.min_context.specs.Place.{told_of, Spot as RowSpot, place_below, place_of, next_of, below, top, spot, place_at, goes_on}
use Rattle.min_context.specs.declared.ancestor.Ancestor.{Ancestor}
use Rattle.min_context.specs.declared.ancestor.Ancestor.TheVariants.{Field as field}
use Rattle.min_pass.specs.declared.around.Around.{Around as Asked}
use Rattle.min_pass.specs.Around.{outermost as asked_of_program}
use Rattle.scope_laws.specs.Place as places
use Rattle.scope_laws.specs.Place.{first}
use Rattle.scope_counts.specs.Edits.{Around, here, behind, behind_none, under, plug}
use Rattle.steps.specs.Allowed.Places.{asked_at}
use Rattle.steps.specs.Allowed.Unused.{Taker, somebody, is_nobody, taken_below, taken_there, is_unused_at}
use Rattle.steps.specs.Allowed.Uses.{Use, as_value, use_below, use_there, use_at}
use Rattle.rules.specs.DeadCode.Before.{before}
use Rattle.rules.proofs.DeadCode.Places.{to, asked_to, with_is}
use Rattle.rules.specs.Expressions.Uses.{use_in, use_from, taken_in, taken_from, Spot, spot_of}

-- ---- the use

use_of_field : (u : Use) (k : Kind) (at : ℕ) (previous more : Bool) → use_in u (field (told_of (parent_of k) at previous more) at) ≡ use_below u k at
use_of_field u Kind.ParenthesizedExpression at previous more = refl
use_of_field u (Kind.CallExpression optional pure) at previous more = refl
use_of_field u Kind.TaggedTemplateExpression at previous more = refl
use_of_field u (Kind.UnaryExpression operator) at previous more = refl
use_of_field u k at previous more = refl

use_last : (u : Use) (above : List Ancestor) (a : Ancestor) → use_from u (above ++ (a ∷ [])) ≡ use_in (use_from u above) a
use_last u [] a = refl
use_last u (b ∷ above) a = use_last (use_in u b) above a

use_row : (us : ℕ → Use) (s : RowSpot) (a : Around) (rest : Forest) → ((at : ℕ) (previous more : Bool) → us at ≡ use_from as_value (place_below s.outer s.above at previous more).ancestors) → use_there us s.at (before a rest) ≡ use_from as_value (place_of (spot s a) (goes_on rest)).ancestors
use_row us s here rest h = h s.at s.previous (goes_on rest)
use_row us s (behind k n b a) rest h = use_row us (next_of s true) a rest h
use_row us s (behind_none a) rest h = use_row us (next_of s false) a rest h
use_row us s (under k n a beside) rest h =
    let p = place_of s (goes_on beside) in
    use_row (λ i. use_below (us s.at) k i) (below p (above_of k n)) a rest
    (λ at previous more. ap (λ u. use_below u k at) (h s.at s.previous (goes_on beside)) ∙ sym (use_of_field (use_from as_value p.ancestors) k at previous more) ∙ sym (use_last as_value p.ancestors (field (told_of (parent_of k) at previous more) at)))

pub use_is : (a : Around) (rest : Forest) → (spot_of (place_at a (goes_on rest))).used_as ≡ use_at (before a rest)
use_is a rest = sym (use_row (λ i. as_value) top a rest (λ at previous more. refl))

-- ---- and whether a `with` statement is around

before_is : (a : Around) (rest : Forest) → to a (first rest) ≡ before a rest
before_is here rest = refl
before_is (behind k n b a) rest = ap (λ c. places.behind k n b c) (before_is a rest)
before_is (behind_none a) rest = ap (λ c. places.behind_none c) (before_is a rest)
before_is (under k n a beside) rest = ap (λ c. places.under k n c beside) (before_is a rest)

pub in_with_is : (a : Around) (rest : Forest) → (spot_of (place_at a (goes_on rest))).in_with ≡ (asked_at (asked_of_program true) (before a rest)).in_with
in_with_is a rest = sym (ap (λ c. (asked_at (asked_of_program true) c).in_with) (sym (before_is a rest)) ∙ ap (λ (w : Asked). w.in_with) (asked_to (asked_of_program true) a (first rest)) ∙ with_is a (goes_on rest))

-- ---- and whether nobody takes the value

taken_of_field : (t : Taker) (k : Kind) (at : ℕ) (previous more : Bool) → taken_in t (field (told_of (parent_of k) at previous more) at) ≡ taken_below t k at more
taken_of_field t Kind.ExpressionStatement at previous more = refl
taken_of_field t Kind.ForStatement at previous more = refl
taken_of_field t Kind.ParenthesizedExpression at previous more = refl
taken_of_field t Kind.SequenceExpression at previous more = refl
taken_of_field t Kind.Expressions at previous more = refl
taken_of_field t (Kind.LogicalExpression operator) at previous more = refl
taken_of_field t Kind.ConditionalExpression at previous more = refl
taken_of_field t k at previous more = refl

taken_last : (t : Taker) (above : List Ancestor) (a : Ancestor) → taken_from t (above ++ (a ∷ [])) ≡ taken_in (taken_from t above) a
taken_last t [] a = refl
taken_last t (b ∷ above) a = taken_last (taken_in t b) above a

taken_row : (ts : ℕ → Bool → Taker) (s : RowSpot) (a : Around) (rest : Forest) → ((at : ℕ) (previous more : Bool) → ts at more ≡ taken_from somebody (place_below s.outer s.above at previous more).ancestors) → taken_there ts s.at (before a rest) ≡ taken_from somebody (place_of (spot s a) (goes_on rest)).ancestors
taken_row ts s here rest h = h s.at s.previous (goes_on rest)
taken_row ts s (behind k n b a) rest h = taken_row ts (next_of s true) a rest h
taken_row ts s (behind_none a) rest h = taken_row ts (next_of s false) a rest h
taken_row ts s (under k n a beside) rest h =
    let p = place_of s (goes_on beside) in
    taken_row (taken_below (ts s.at (goes_on beside)) k) (below p (above_of k n)) a rest
    (λ at previous more. ap (λ t. taken_below t k at more) (h s.at s.previous (goes_on beside)) ∙ sym (taken_of_field (taken_from somebody p.ancestors) k at previous more) ∙ sym (taken_last somebody p.ancestors (field (told_of (parent_of k) at previous more) at)))

pub is_unused_is : (a : Around) (rest : Forest) → (spot_of (place_at a (goes_on rest))).is_unused ≡ is_unused_at (before a rest)
is_unused_is a rest = ap is_nobody (sym (taken_row (λ i more. somebody) top a rest (λ at previous more. refl)))

-- ---- together, as edits ask for it

abbrev pub spot_at : places.Around → Spot
spot_at a = record { used_as = use_at a; in_with = (asked_at (asked_of_program true) a).in_with; is_unused = is_unused_at a }

pub spot_before : (a : Around) (rest : Forest) → spot_of (place_at a (goes_on rest)) ≡ spot_at (before a rest)
spot_before a rest =
    let unused : Bool = (spot_of (place_at a (goes_on rest))).is_unused in
    ap₂ (λ u w. let s : Spot = record { used_as = u; in_with = w; is_unused = unused } in s) (use_is a rest) (in_with_is a rest)
    ∙ ap (λ n. let s : Spot = record { used_as = use_at (before a rest); in_with = (asked_at (asked_of_program true) (before a rest)).in_with; is_unused = n } in s) (is_unused_is a rest)

pub plug_before : (a : Around) (x : Tree) (rest : Forest) → places.plug (before a rest) (Some x) ≡ plug a (node x.kind x.note x.below rest)
plug_before here x rest = refl
plug_before (behind k n b a) x rest = ap (λ t. node k n b t) (plug_before a x rest)
plug_before (behind_none a) x rest = ap (λ t. absent t) (plug_before a x rest)
plug_before (under k n a beside) x rest = ap (λ t. node k n t beside) (plug_before a x rest)
