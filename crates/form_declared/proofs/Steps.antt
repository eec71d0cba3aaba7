-- What is found in a row, one node after another.
use Rattle.std.proofs.Common.{◌≡◌, ◌∙◌, ◌+◌, ◌-◌, ◌≤◌, ◌==◌, ◌++◌, ℕ, Bool, true, false, ◌||◌, List, [], ◌∷◌, Option, Some, None, if◌then◌else◌, length, take, drop, get_or, refl, sym, ap, append_assoc, append-nil, length-drop, arith}
use Rattle.std.proofs.lemmas.List.{take_all}
use Rattle.js_syntax.specs.declared.node_kind.NodeKind.{NodeKind as Kind}
use Rattle.js_syntax.specs.Node.{Forest, nothing, node, absent, Note, Tree, alone, row}
use Rattle.js_tree.specs.Count.{one_each, node_count}
use Rattle.form_rules.specs.declared.sought.Sought.{Sought}
use Rattle.form_rules.specs.declared.sought.Sought.TheVariants.{Nothing as none}
use Rattle.form_rules.specs.Scope.{Declared, declared_here, sought_below, declared}
use Rattle.form_rules.specs.Rules.{is_last}
use Rattle.js_tree.proofs.Children.{child_at}
use Rattle.form_declared.specs.Part.{has_part, places}

-- where nothing is sought, nothing is found
pub nothing_declared : (t : Forest) (place : ℕ) → declared none place t ≡ []
nothing_declared nothing place = refl
nothing_declared (absent rest) place = nothing_declared rest place
nothing_declared (node k n below rest) place =
    rw (nothing_declared below (place + one_each k)) (nothing_declared rest (place + node_count (alone k n below)))

-- a node's own name, then those below it, then those behind it
pub next_found : (sought : Sought) (next after : ℕ) (k : Kind) (n : Note) (below rest tail : Forest) (before now all : List Declared)
    → tail ≡ node k n below rest
    → now ≡ (before ++ declared_here sought next k) ++ declared (sought_below sought k) (next + one_each k) below
    → after ≡ next + node_count (alone k n below)
    → before ++ declared sought next tail ≡ all
    → now ++ declared sought after rest ≡ all
next_found sought next after k n below rest tail before now all is grown behind so_far =
    let told : before ++ (declared_here sought next k ++ declared (sought_below sought k) (next + one_each k) below ++ declared sought (next + node_count (alone k n below)) rest) ≡ all =
    ap (λ t. before ++ declared sought next t) (sym is) ∙ so_far in
    rw (grown, behind) (simp append_assoc (simp append_assoc at told))

-- and where nothing is sought below it, its own name alone
pub next_alone : (sought : Sought) (next after : ℕ) (k : Kind) (n : Note) (below rest tail : Forest) (before now all : List Declared)
    → tail ≡ node k n below rest
    → none ≡ sought_below sought k
    → now ≡ before ++ declared_here sought next k
    → after ≡ next + node_count (alone k n below)
    → before ++ declared sought next tail ≡ all
    → now ++ declared sought after rest ≡ all
next_alone sought next after k n below rest tail before now all is skipped grown behind so_far =
    let place = next + one_each k in
    let empty : declared (sought_below sought k) place below ≡ [] = ap (λ s. declared s place below) (sym skipped) ∙ nothing_declared below place in
    next_found sought next after k n below rest tail before now all is (grown ∙ sym (ap (λ ds. (before ++ declared_here sought next k) ++ ds) empty ∙ append-nil _)) behind so_far

no_place : (here others : Bool) (place : ℕ) (ps : List ℕ) → here || others ≡ false → (others ≡ false → ps ≡ []) → (if here then place ∷ ps else ps) ≡ []
no_place here others place ps h empty = elim here as (λ b. b || others ≡ false → (if b then place ∷ ps else ps) ≡ []) [ true ↦ λ e. absurd (cc e) | false ↦ λ e. empty e ] h

-- a row without such a node has no places of one
pub no_places : (test : Kind → Forest → Bool → Bool) (t : Forest) (place : ℕ) → has_part test t ≡ false → places test place t ≡ []
no_places test nothing place h = refl
no_places test (absent rest) place h = no_places test rest place h
no_places test (node k n below rest) place h = no_place _ _ _ _ h (no_places test rest (place + node_count (alone k n below)))

-- ---- the places of such nodes

-- the first node of a row that isn't empty, and those behind it
pub first_node : (ts : List (Option Tree)) (x : Option Tree) (t : Tree) → 1 ≤ length ts → x ≡ get_or ts 0 x → x ≡ Some t → row ts ≡ node t.kind t.note t.below (row (take (length ts - 1) (drop 1 ts)))
first_node ts x t some at is =
    let all : take (length ts - 1) (drop 1 ts) ≡ drop 1 ts = take_all _ _ (omega (arith, length-drop 1 ts)) in
    child_at ts 0 x t (omega arith) at is ∙ ap (λ xs. node t.kind t.note t.below (row xs)) (sym all)

pub last_of_row : (ts : List (Option Tree)) → is_last (row ts) ≡ (length ts == 0)
last_of_row [] = refl
last_of_row (None ∷ ts) = grind arith
last_of_row (Some t ∷ ts) = grind arith

-- one more place where the node is such
pub place_found : (test : Kind → Forest → Bool → Bool) (next after : ℕ) (k : Kind) (n : Note) (below rest tail : Forest) (before now all : List ℕ)
    → tail ≡ node k n below rest
    → test k below (is_last rest) ≡ true
    → now ≡ before ++ next ∷ []
    → after ≡ next + node_count (alone k n below)
    → before ++ places test next tail ≡ all
    → now ++ places test after rest ≡ all
place_found test next after k n below rest tail before now all is such grown behind so_far =
    let others = places test (next + node_count (alone k n below)) rest in
    let told : before ++ (next ∷ others) ≡ all = ap (λ (b : Bool). before ++ (if b then next ∷ others else others)) (sym such) ∙ ap (λ t. before ++ places test next t) (sym is) ∙ so_far in
    rw (grown, behind) (simp append_assoc told)

pub place_passed : (test : Kind → Forest → Bool → Bool) (next after : ℕ) (k : Kind) (n : Note) (below rest tail : Forest) (before now all : List ℕ)
    → tail ≡ node k n below rest
    → test k below (is_last rest) ≡ false
    → now ≡ before
    → after ≡ next + node_count (alone k n below)
    → before ++ places test next tail ≡ all
    → now ++ places test after rest ≡ all
place_passed test next after k n below rest tail before now all is such same behind so_far =
    let others = places test (next + node_count (alone k n below)) rest in
    let told : before ++ others ≡ all = ap (λ (b : Bool). before ++ (if b then next ∷ others else others)) (sym such) ∙ ap (λ t. before ++ places test next t) (sym is) ∙ so_far in
    rw (same, behind) told
