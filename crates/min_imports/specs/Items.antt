-- The items of a list one by one: which of them stay, and how a set of the modules that were asked for tells it.
use Rattle.std.specs.Prelude.{◌≡◌, List, ℕ, [], ◌∷◌, ◌++◌, Bool, true, false, not, ◌||◌, Option, Some, None, if◌then◌else◌}
use Rattle.std.specs.BTreeSet.{BTreeSet, contains_by}
use Rattle.std.specs.Cmp.Lexicographic.{slice_cmp}
use Rattle.std.specs.Ordering.{nat_cmp}
use Rattle.js_syntax.specs.declared.node_kind.NodeKind.{NodeKind as Kind}
use Rattle.js_syntax.specs.declared.node_kind.NodeKind.TheVariants.{ImportDeclaration as import_declaration}
use Rattle.js_syntax.specs.Node.{Forest, nothing, node, absent}
use Rattle.js_meaning.specs.Module.{requests_of}
use Rattle.steps.specs.Names.{is_among}
use Rattle.rules.specs.Imports.Repeated.{has_no_names, repeats}
use denote.Ref.{Bor}

abbrev pub texts : Option (Bor (List ℕ)) → List (List ℕ)
texts None = []
texts (Some s) = s.now ∷ []

-- imports without names
abbrev pub is_nameless : Kind → (below : Forest) → Bool
is_nameless (import_declaration source) below = has_no_names below
is_nameless k below = false

abbrev pub has_nameless : Forest → Bool
has_nameless nothing = false
has_nameless (absent rest) = has_nameless rest
has_nameless (node k n below rest) = is_nameless k below || has_nameless rest

-- what is asked for up to an item, and with it, where it stays
abbrev pub asked_with : (asked : List (List ℕ)) → Kind → (below : Forest) → List (List ℕ)
asked_with asked k below = if repeats asked k below then asked else asked ++ requests_of k

-- the same behind items
abbrev pub asked_behind : (asked : List (List ℕ)) → Forest → List (List ℕ)
asked_behind asked nothing = asked
asked_behind asked (absent rest) = asked_behind asked rest
asked_behind asked (node k n below rest) = asked_behind (asked_with asked k below) rest

-- of each item, whether it stays
abbrev pub stays : (asked : List (List ℕ)) → Forest → List Bool
stays asked nothing = []
stays asked (absent rest) = true ∷ stays asked rest
stays asked (node k n below rest) = not (repeats asked k below) ∷ stays (asked_with asked k below) rest

-- a set of modules has those that are asked for
abbrev pub Tells : BTreeSet (Bor (List ℕ)) → (asked : List (List ℕ)) → Type 0
Tells sources asked = (q : List ℕ) → contains_by (λ k. slice_cmp nat_cmp q k.now) sources ≡ is_among asked q

-- by such a set it is answered whether an item stays, and the set has what is asked for behind it
abbrev pub Answers : (sources : BTreeSet (Bor (List ℕ))) → (item : Forest) → (answer : Bool) → (behind : BTreeSet (Bor (List ℕ))) → Type 0
Answers sources item answer behind = (asked : List (List ℕ)) → Tells sources asked → (stays asked item ≡ answer ∷ []) × Tells behind (asked_behind asked item)
