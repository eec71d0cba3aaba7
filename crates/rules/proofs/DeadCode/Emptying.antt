-- A silent statement becomes empty by a single edit, and so does one that does nothing as a branch or a body.
use Rattle.std.proofs.Common.{◌≡◌, ◌⊎◌, inl, inr, ℕ, Bool, true, false, if◌then◌else◌, Some, None, true≢false, refl, sym, subst}
use Rattle.std.proofs.lemmas.Bool.{or_cases}
use Rattle.js_syntax.specs.declared.node_kind.NodeKind.{NodeKind as Kind}
use Rattle.js_syntax.specs.declared.node_kind.NodeKind.TheVariants.{EmptyStatement as empty_statement, ExpressionStatement as expression_statement}
use Rattle.js_syntax.specs.Node.{Forest, Tree, Note, nothing, node, alone}
use Rattle.js_effects.specs.Silence.{may_have_effects}
use Rattle.min_context.specs.Place.{Place, place_at, goes_on}
use Rattle.min_pass.specs.Pass.{unmarked}
use Rattle.scope_laws.specs.Place.{first}
use Rattle.scope_laws.proofs.Bindings.{same_value}
use Rattle.scope_counts.specs.Edits as counts
use Rattle.scope_counts.specs.Edits.{plug}
use Rattle.steps.specs.Allowed.Edits.{Edit, becomes, idle_body}
use Rattle.steps.specs.Allowed.Places.{a_node}
use Rattle.steps.specs.Allowed.SilentStatement.{a_statement}
use Rattle.js_syntax.proofs.Truth.{not_true}
use Rattle.rules.specs.DeadCode.Rules.{Facts, surroundings_below, where_of, is_silent_statement, is_idle_body, becomes_empty, emptied}
use Rattle.rules.specs.DeadCode.Knows.{Knows}
use Rattle.rules.proofs.DeadCode.LaidOut.{is_laid_at, fits_laid, laid_here}
use Rattle.rules.proofs.DeadCode.Bodies.{idle_empties}
use Rattle.rules.proofs.DeadCode.Places.{to, surroundings_there}
use Rattle.rules.proofs.DeadCode.Leaving.{statement_empties}
use Rattle.rules.proofs.DeadCode.Items.{laid_there, becomes_there, knows_there}

wrong : {P : Type 0} → false ≡ true → P
wrong e = absurd (true≢false (sym e))

silent_empties : (f : Facts) (marked : ℕ → Bool) (a : counts.Around) (k : Kind) (n : Note) (b rest : Forest) → Knows f marked (plug a (node k n b rest)) → is_laid_at k b ≡ true → is_silent_statement f (where_of (place_at a (goes_on rest))) k b ≡ true
    → Edit (plug a (node k n b rest)) (plug a (node empty_statement (unmarked n) nothing rest))
silent_empties f marked a expression_statement n (node k l inner nothing) rest h laid e =
    let y = a_statement n l k inner in
    becomes_there a y (a_node empty_statement (unmarked n) nothing) rest
    (statement_empties f marked (to a (first rest)) n (unmarked n) l k inner (knows_there f marked a (first rest) y h)
    (subst (λ b. may_have_effects f.bound b (alone k l inner) ≡ false) (sym (surroundings_there a rest))
    (not_true (may_have_effects f.bound (surroundings_below (place_at a (goes_on rest)).ancestors) (alone k l inner)) e)))
silent_empties f marked a expression_statement n b rest h laid e = wrong laid
silent_empties f marked a k n b rest h laid e = wrong e

empties_there : (f : Facts) (marked : ℕ → Bool) (a : counts.Around) (x : Tree) (rest : Forest) → Knows f marked (plug a (node x.kind x.note x.below rest)) → is_laid_at x.kind x.below ≡ true → becomes_empty f (place_at a (goes_on rest)) x.kind x.below ≡ true
    → Edit (plug a (node x.kind x.note x.below rest)) (plug a (node empty_statement (unmarked x.note) nothing rest))
empties_there f marked a x rest h laid e = by (or_cases (is_silent_statement f (where_of (place_at a (goes_on rest))) x.kind x.below) (is_idle_body (place_at a (goes_on rest)) x.kind x.below) e)
  where
    by : (is_silent_statement f (where_of (place_at a (goes_on rest))) x.kind x.below ≡ true) ⊎ (is_idle_body (place_at a (goes_on rest)) x.kind x.below ≡ true) → Edit (plug a (node x.kind x.note x.below rest)) (plug a (node empty_statement (unmarked x.note) nothing rest))
    by (inl silent) = silent_empties f marked a x.kind x.note x.below rest h laid silent
    by (inr idle) =
        let y : Tree = record { kind = empty_statement; note = unmarked x.note; below = nothing } in
        becomes_there a (Some x) (Some y) rest (becomes (to a (first rest)) x y (idle_body (idle_empties a x (unmarked x.note) rest idle)))

pub record Empties (f : Facts) (p : Place) (x y : Tree) : Type 0 where
  pub goes : becomes_empty f p x.kind x.below ≡ true
  pub tree : let t : Tree = record { kind = empty_statement; note = unmarked x.note; below = nothing } in t ≡ y

empties_view : (f : Facts) (p : Place) (x y t : Tree) (b : Bool) → becomes_empty f p x.kind x.below ≡ b → (let t : Tree = record { kind = empty_statement; note = unmarked x.note; below = nothing } in (if b then Some t else None) ≡ Some y) → Empties f p x y
empties_view f p x y t true e is = record { goes = e; tree = same_value is }
empties_view f p x y t false e is = absurd cc

pub empties : (f : Facts) (p : Place) (x y : Tree) → emptied f p x ≡ Some y → Empties f p x y
empties f p x y is = empties_view f p x y x (becomes_empty f p x.kind x.below) refl is

pub statement_empties_there : (f : Facts) (marked : ℕ → Bool) (a : counts.Around) (x y : Tree) (rest : Forest) → Knows f marked (plug a (node x.kind x.note x.below rest)) → emptied f (place_at a (goes_on rest)) x ≡ Some y
    → Edit (plug a (node x.kind x.note x.below rest)) (plug a (node y.kind y.note y.below rest))
statement_empties_there f marked a x y rest h is =
    let o = empties f (place_at a (goes_on rest)) x y is in
    let row = node x.kind x.note x.below rest in
    subst (λ (t : Tree). Edit (plug a row) (plug a (node t.kind t.note t.below rest))) o.tree
    (empties_there f marked a x rest h (laid_here x.kind x.note x.below rest (laid_there a row (fits_laid (plug a row) h.fits))) o.goes)
