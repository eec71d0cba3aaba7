-- What becomes of statements `if` with an alternate that is empty.
use Rattle.std.proofs.Common.{◌≡◌, ◌∙◌, ℕ, List, [], ◌∷◌, ◌++◌, ◌&&◌, ◌==◌, Bool, false, true, Some, Option, refl, sym, ap, subst, arith}
use Rattle.js_syntax.specs.declared.node_kind.NodeKind.{NodeKind as Kind}
use Rattle.js_syntax.specs.declared.node_kind.NodeKind.TheVariants.{IfStatement as if_statement, EmptyStatement as empty_statement}
use Rattle.js_syntax.specs.Node.{Forest, Tree, Note, nothing, node, absent, bare, forest_of}
use Rattle.min_context.specs.Above.{parent_of, above_of}
use Rattle.min_context.specs.Place.{told_of, Spot as RowSpot, place_below, place_of, next_of, below, top, spot, place_at, goes_on}
use Rattle.min_context.specs.declared.ancestor.Ancestor.{Ancestor}
use Rattle.min_context.specs.declared.ancestor.Ancestor.TheVariants.{Field as field}
use Rattle.scope_counts.specs.Edits.{Around, here, behind, behind_none, under}
use Rattle.steps.specs.Allowed.EmptyAlternate.{is_last_below, is_last_at, one_branch, EmptyAlternate, alternate_goes}
use Rattle.rules.specs.DeadCode.Before.{before}
use Rattle.rules.specs.Expressions.EmptyAlternates.{last_in, last_from, is_last, alternate_left}
use Rattle.rules.specs.Expressions.Ifs.{given_if}
use Rattle.rules.proofs.Expressions.Becoming.{no_answer, chosen, chosen_if, IsLess}

-- ---- the place

last_of_field : (last : Bool) (k : Kind) (at : ℕ) (previous more : Bool) → last_in last (field (told_of (parent_of k) at previous more) at) ≡ is_last_below last k at
last_of_field last Kind.Statements at previous more = refl
last_of_field last Kind.IfStatement at previous more = refl
last_of_field last k at previous more = refl

last_behind : (last : Bool) (above : List Ancestor) (a : Ancestor) → last_from last (above ++ (a ∷ [])) ≡ last_in (last_from last above) a
last_behind last [] a = refl
last_behind last (b ∷ above) a = last_behind (last_in last b) above a

last_row : (lasts : ℕ → Bool) (s : RowSpot) (a : Around) (rest : Forest) → ((at : ℕ) (previous more : Bool) → lasts at ≡ is_last (place_below s.outer s.above at previous more)) → is_last_at lasts s.at (before a rest) ≡ is_last (place_of (spot s a) (goes_on rest))
last_row lasts s here rest h = h s.at s.previous (goes_on rest)
last_row lasts s (behind k n b a) rest h = last_row lasts (next_of s true) a rest h
last_row lasts s (behind_none a) rest h = last_row lasts (next_of s false) a rest h
last_row lasts s (under k n a beside) rest h =
    last_row (λ i. is_last_below (lasts s.at) k i) (below (place_of s (goes_on beside)) (above_of k n)) a rest
    (λ at previous more. ap (λ t. is_last_below t k at) (h s.at s.previous (goes_on beside)) ∙ sym (last_of_field (is_last (place_of s (goes_on beside))) k at previous more) ∙ sym (last_behind false (place_of s (goes_on beside)).ancestors (field (told_of (parent_of k) at previous more) at)))

pub is_last_is : (a : Around) (rest : Forest) → is_last (place_at a (goes_on rest)) ≡ is_last_at (λ i. false) 0 (before a rest)
is_last_is a rest = sym (last_row (λ i. false) top a rest (λ at previous more. refl))

-- ---- what an answer is

pub each_alternate : (P : Kind → (t : Forest) → Tree → Type 0)
    → ((n i j o : Note) (t l : Kind) (d b : Forest) → P if_statement (node t i d (node l j b (node empty_statement o nothing nothing))) (one_branch n t l i j d b))
    → (last : Bool) (n : Note) (k : Kind) (t : Forest) (y : Tree) → alternate_left last n k t ≡ Some y → P k t y
each_alternate P p last n if_statement (node t i d (node l j b (node empty_statement o nothing nothing))) y e =
    elim (chosen_if last (one_branch n t l i j d b) y e) [ chosen is same ↦ subst (P if_statement (node t i d (node l j b (node empty_statement o nothing nothing)))) same (p n i j o t l d b) ]
each_alternate P p last n k t y e = no_answer e

-- what an edit leaves
edits_at : (a : Around) (r : Forest) (n : Note) (k : Kind) (t : Forest) (y : Tree) → alternate_left (is_last (place_at a (goes_on r))) n k t ≡ Some y → EmptyAlternate (before a r) (record { kind = k; note = n; below = t }) y
edits_at a r n if_statement (node t i d (node l j b (node empty_statement o nothing nothing))) y e =
    elim (chosen_if (is_last (place_at a (goes_on r))) (one_branch n t l i j d b) y e) [
      | chosen last same ↦
          subst (EmptyAlternate (before a r) (record { kind = if_statement; note = n; below = node t i d (node l j b (node empty_statement o nothing nothing)) })) same
          (alternate_goes n i j o t l d b (sym (is_last_is a r) ∙ last))
    ]
edits_at a r n k t y e = no_answer e

pub empty_alternate_edits : (a : Around) (r : Forest) (x y : Tree) → alternate_left (is_last (place_at a (goes_on r))) x.note x.kind x.below ≡ Some y → EmptyAlternate (before a r) x y
empty_alternate_edits a r x y e = edits_at a r x.note x.kind x.below y e

-- and where an edit applies there is an answer
pub empty_alternate_answers : (a : Around) (r : Forest) (x z : Tree) → EmptyAlternate (before a r) x z → alternate_left (is_last (place_at a (goes_on r))) x.note x.kind x.below ≡ Some z
empty_alternate_answers a r _ _ (alternate_goes n i j o t l d b last) = ap (λ g. given_if g (one_branch n t l i j d b)) (is_last_is a r ∙ last)

-- what comes is less
pub empty_alternate_is_less : (last : Bool) (x y : Tree) → alternate_left last x.note x.kind x.below ≡ Some y → IsLess x y
empty_alternate_is_less last x y e =
    each_alternate (λ k t z. IsLess (record { kind = k; note = x.note; below = t }) z) (λ n i j o t l d b. record { thins = λ r. Prim.omega arith; lighter = Prim.omega arith }) last x.note x.kind x.below y e
