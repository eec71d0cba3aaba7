-- The numbers of scopes at a place in front of the rest of its row.
use Rattle.std.proofs.Common.{◌≡◌, ◌∙◌, ℕ, Bool, true, Some, refl, sym, ap, subst}
use Rattle.js_syntax.specs.Node.{Forest, Tree, node}
use Rattle.min_context.specs.Place.{place_at, goes_on}
use Rattle.min_pass.specs.declared.around.Around.{Around as Asked}
use Rattle.min_pass.specs.Around.{outermost as asked_of_program}
use Rattle.scope_laws.specs.Place as places
use Rattle.scope_laws.specs.Place.{first}
use Rattle.scope_counts.specs.Edits.{Around, here, behind, behind_none, under, plug}
use Rattle.steps.specs.Allowed.Places.{asked_at}
use Rattle.steps.specs.Marked.Flags.{stand}
use Rattle.rules.specs.DeadCode.Before.{before}
use Rattle.rules.specs.DeadCode.Rules.{Facts, where_of}
use Rattle.rules.specs.DeadCode.Knows.{Knows}
use Rattle.rules.proofs.DeadCode.LaidOut.{fits_laid}
use Rattle.rules.proofs.DeadCode.Places.{to, asked_to, with_is}
use Rattle.rules.proofs.DeadCode.Numbers.{Same, numbers, stand_to}

before_is : (a : Around) (rest : Forest) → to a (first rest) ≡ before a rest
before_is here rest = refl
before_is (behind k n b a) rest = ap (λ c. places.behind k n b c) (before_is a rest)
before_is (behind_none a) rest = ap (λ c. places.behind_none c) (before_is a rest)
before_is (under k n a beside) rest = ap (λ c. places.under k n c beside) (before_is a rest)

same_before : (f : Facts) (marked : ℕ → Bool) (a : Around) (x : Tree) (rest : Forest) → Knows f marked (plug a (node x.kind x.note x.below rest)) → Same (stand (before a rest) (Some x)) (where_of (place_at a (goes_on rest)))
same_before f marked a x rest h =
    let whole = plug a (node x.kind x.note x.below rest) in
    subst (λ c. Same (stand c (Some x)) (where_of (place_at a (goes_on rest)))) (before_is a rest)
    (subst (λ p. Same p (where_of (place_at a (goes_on rest)))) (sym (stand_to a (first rest) (Some x))) (numbers f.scoping a x.kind x.note x.below rest (fits_laid whole h.fits) h.flags h.outermost))

pub scope_before : (f : Facts) (marked : ℕ → Bool) (a : Around) (x : Tree) (rest : Forest) → Knows f marked (plug a (node x.kind x.note x.below rest)) → (stand (before a rest) (Some x)).scope ≡ Some (place_at a (goes_on rest)).scope
scope_before f marked a x rest h = (same_before f marked a x rest h).scope

pub variables_before : (f : Facts) (marked : ℕ → Bool) (a : Around) (x : Tree) (rest : Forest) → Knows f marked (plug a (node x.kind x.note x.below rest)) → (stand (before a rest) (Some x)).variables ≡ Some (place_at a (goes_on rest)).hoist_scope
variables_before f marked a x rest h = (same_before f marked a x rest h).variables

pub with_before : (a : Around) (rest : Forest) → (asked_at (asked_of_program true) (before a rest)).in_with ≡ (where_of (place_at a (goes_on rest))).in_with
with_before a rest = ap (λ c. (asked_at (asked_of_program true) c).in_with) (sym (before_is a rest)) ∙ ap (λ (w : Asked). w.in_with) (asked_to (asked_of_program true) a (first rest)) ∙ with_is a (goes_on rest)
