-- What imports without names have below them, and what statements ask for.
use Rattle.std.proofs.Common.{◌≡◌, ◌∙◌, ◌≤◌, length, arith, List, ℕ, [], ◌∷◌, ◌++◌, false, ◌&&◌, ◌||◌, Option, Some, None, get_or, refl, sym, ap}
use Rattle.js_syntax.specs.declared.node_kind.NodeKind.{NodeKind as Kind}
use Rattle.js_syntax.specs.Node.{Tree, Forest, Note, nothing, node, absent, row}
use Rattle.js_syntax.proofs.Truth.{or_false, first_of_neither, second_of_neither}
use Rattle.js_meaning.specs.Module.{requests_of}
use Rattle.js_tree.proofs.Search.{AsksEach}
use Rattle.steps.specs.Names.{is_among}
use Rattle.steps.specs.Allowed.Arranged.{is_nothing}
use Rattle.rules.specs.Imports.Repeated.{has_no_names, repeats, has_repeated}
use Rattle.min_imports.specs.Items.{is_nameless, has_nameless}

-- ---- lists of names

pub some_row : (ts : List (Option Tree)) → 1 ≤ length ts → false ≡ is_nothing (row ts)
some_row [] h = absurd (Prim.omega (arith, h))
some_row (None ∷ ts) h = refl
some_row (Some x ∷ ts) h = refl

pub names_listed : (k : Kind) (n : Note) (t : Forest) → k ≡ Kind.Specifiers → is_nothing t ≡ has_no_names (node k n t nothing)
names_listed k n t is = ap (λ l. has_no_names (node l n t nothing)) (sym is)

two_nodes : (k : Kind) (n : Note) (b : Forest) (y : Option Tree) (ts : List (Option Tree)) → false ≡ has_no_names (node k n b (row (y ∷ ts)))
two_nodes Kind.Specifiers n b None ts = refl
two_nodes Kind.Specifiers n b (Some y) ts = refl
two_nodes k n b None ts = refl
two_nodes k n b (Some y) ts = refl

pub two_items : (ts : List (Option Tree)) → 2 ≤ length ts → false ≡ has_no_names (row ts)
two_items [] h = absurd (Prim.omega (arith, h))
two_items (None ∷ ts) h = refl
two_items (Some x ∷ []) h = absurd (Prim.omega (arith, h))
two_items (Some x ∷ y ∷ ts) h = two_nodes x.kind x.note x.below y ts

-- ---- imports without names

pub nameless_each : AsksEach has_nameless
nameless_each None ts = refl
nameless_each (Some x) ts = ap (λ b. b || has_nameless (row ts)) (sym (or_false (is_nameless x.kind x.below)))

pub repeats_asking : (asked : List (List ℕ)) (k : Kind) (t : Forest) (source : List ℕ) → requests_of k ≡ source ∷ [] → repeats asked k t ≡ is_nameless k t && is_among asked source
repeats_asking asked (Kind.ImportDeclaration x) t source is = ap (λ y. has_no_names t && is_among asked y) (ap (λ l. get_or l 0 source) is)
repeats_asking asked k t source is = refl

none_repeats : (asked : List (List ℕ)) (k : Kind) (t : Forest) → is_nameless k t ≡ false → repeats asked k t ≡ false
none_repeats asked (Kind.ImportDeclaration x) t none = ap (λ b. b && is_among asked x) none
none_repeats asked k t none = refl

pub none_nameless : (asked : List (List ℕ)) (t : Forest) → has_nameless t ≡ false → has_repeated asked t ≡ false
none_nameless asked nothing none = refl
none_nameless asked (absent r) none = none_nameless asked r none
none_nameless asked (node k n b r) none =
    ap (λ c. c || has_repeated (asked ++ requests_of k) r) (none_repeats asked k b (first_of_neither (is_nameless k b) (has_nameless r) none)) ∙ none_nameless (asked ++ requests_of k) r (second_of_neither (is_nameless k b) (has_nameless r) none)
