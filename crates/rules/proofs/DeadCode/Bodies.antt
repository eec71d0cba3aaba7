-- The context of a walk tells whether a statement is a branch or a body.
use Rattle.std.proofs.Common.{◌≡◌, ◌∙◌, ℕ, List, [], ◌∷◌, ◌++◌, Bool, true, false, ◌&&◌, slice_index_or, refl, sym, ap}
use Rattle.std.proofs.lemmas.List.{reverse-append}
use Rattle.js_syntax.specs.declared.node_kind.NodeKind.{NodeKind as Kind}
use Rattle.js_syntax.specs.declared.node_kind.NodeKind.TheVariants.{EmptyStatement as empty_statement}
use Rattle.js_syntax.specs.Node.{Forest, Tree, Note, nothing}
use Rattle.js_syntax.proofs.Truth.{both, first_of_both, second_of_both}
use Rattle.min_context.specs.Above.{parent_of, above_of}
use Rattle.min_context.specs.Ancestry.{nearest}
use Rattle.min_context.specs.Place.{told_of, Spot, place_below, place_of, next_of, below, top, spot, place_at, goes_on}
use Rattle.min_context.specs.declared.ancestor.Ancestor.{Ancestor}
use Rattle.min_context.specs.declared.ancestor.Ancestor.TheVariants.{Field as field, None as past_program}
use Rattle.scope_laws.specs.Place.{first}
use Rattle.scope_counts.specs.Edits as counts
use Rattle.steps.specs.Allowed.Branches.{declares_no_name}
use Rattle.steps.specs.Allowed.IdleBody.{has_body, stands_as_body, is_idle_statement, IdleBody, idle_body_empties}
use Rattle.rules.specs.DeadCode.Rules.{is_body_under, is_body, is_idle_body}
use Rattle.rules.proofs.DeadCode.Places.{to}

pub nearest_last : (above : List Ancestor) (a : Ancestor) → nearest (above ++ (a ∷ [])) 0 ≡ a
nearest_last above a = ap (λ (up : List Ancestor). slice_index_or up 0 past_program) (reverse-append above (a ∷ []))

body_of_field : (k : Kind) (at : ℕ) (previous more : Bool) → is_body_under (field (told_of (parent_of k) at previous more) at) ≡ has_body k
body_of_field Kind.IfStatement at previous more = refl
body_of_field Kind.WithStatement at previous more = refl
body_of_field Kind.WhileStatement at previous more = refl
body_of_field Kind.DoWhileStatement at previous more = refl
body_of_field Kind.ForStatement at previous more = refl
body_of_field Kind.ForInStatement at previous more = refl
body_of_field Kind.ForOfStatement at previous more = refl
body_of_field k at previous more = refl

body_row : (begun : Bool) (s : Spot) (a : counts.Around) (rest : Forest) → ((at : ℕ) (previous more : Bool) → begun ≡ is_body (place_below s.outer s.above at previous more)) → stands_as_body begun (to a (first rest)) ≡ is_body (place_of (spot s a) (goes_on rest))
body_row begun s counts.here rest h = h s.at s.previous (goes_on rest)
body_row begun s (counts.behind k n b a) rest h = body_row begun (next_of s true) a rest h
body_row begun s (counts.behind_none a) rest h = body_row begun (next_of s false) a rest h
body_row begun s (counts.under k n a beside) rest h =
    let p = place_of s (goes_on beside) in
    body_row (has_body k) (below p (above_of k n)) a rest
    (λ at previous more. sym (body_of_field k at previous more) ∙ ap is_body_under (sym (nearest_last p.ancestors (field (told_of (parent_of k) at previous more) at))))

is_body_there : (a : counts.Around) (rest : Forest) → is_body (place_at a (goes_on rest)) ≡ stands_as_body false (to a (first rest))
is_body_there a rest = sym (body_row false top a rest (λ at previous more. refl))

-- ---- so what becomes empty there does so by an edit, and where an edit applies it becomes empty

pub idle_empties : (a : counts.Around) (x : Tree) (m : Note) (rest : Forest) → is_idle_body (place_at a (goes_on rest)) x.kind x.below ≡ true → IdleBody (to a (first rest)) x (record { kind = empty_statement; note = m; below = nothing })
idle_empties a x m rest e =
    let idle = is_idle_statement x.kind x.below in
    let none = declares_no_name x.kind x.below in
    let does = second_of_both (is_body (place_at a (goes_on rest))) (idle && none) e in
    idle_body_empties x m (sym (is_body_there a rest) ∙ first_of_both (is_body (place_at a (goes_on rest))) (idle && none) e) (first_of_both idle none does) (both none true (second_of_both idle none does) refl)

pub idle_told : (a : counts.Around) (x y : Tree) (rest : Forest) → IdleBody (to a (first rest)) x y → is_idle_body (place_at a (goes_on rest)) x.kind x.below ≡ true
idle_told a _ _ rest (idle_body_empties x m body idle none) =
    let idles = is_idle_statement x.kind x.below in
    let names = declares_no_name x.kind x.below in
    both (is_body (place_at a (goes_on rest))) (idles && names) (is_body_there a rest ∙ body) (both idles names idle (first_of_both names true none))
