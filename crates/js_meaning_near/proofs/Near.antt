-- Rows that are alike but for their notes are near, so that runs don't see notes.
use Rattle.std.proofs.Common.{◌≡◌, List, refl, ap, subst}
use Rattle.std.specs.Prelude.{Bool, true, false}
use Rattle.js_syntax.specs.declared.node_kind.NodeKind.{NodeKind as Kind}
use Rattle.js_syntax.specs.declared.kind.FunctionKind.{FunctionKind}
use Rattle.js_syntax.specs.declared.kind.FunctionKind.TheVariants as function_kind
use Rattle.js_syntax.specs.Facts.{is_core}
use Rattle.js_syntax.specs.Node.{Note, Forest, node, bare, nowhere}
use Rattle.js_meaning.specs.Scope.{Decl, waiting, named_so, behind, first_of, lexical}
use Rattle.js_meaning.specs.Kept.{Refined}
use Rattle.js_meaning_near.specs.Purpose.{Purposes, purpose_here, purposes_behind, for_values, wanted_below}
use Rattle.js_meaning_near.specs.Names.{Names, Copied, declared}
use Rattle.js_meaning_near.specs.Near.{Row, fields, items, Heads, is_row, Near, near_nothing, near_absent, near_node, near_closure, near_hoisted, near_uncovered, Code, near_code, module_of}
use Rattle.js_meaning_near.specs.Fit.{names_after, around_code, within_code, FunctionOk, Part, whole, others, part_of, NodeFits, IfCore, Fits}
use Rattle.js_meaning_near.specs.Avoid.{InPlace}
use Rattle.js_meaning_near.proofs.Contexts.{near_refines}
use Rattle.js_meaning_near.proofs.Fit.{decls_to, same_copied, fits_map}
use Rattle.js_meaning_near.proofs.Avoid.{fits_clear, same_module}
use Rattle.js_meaning_near.proofs.Alike.{Alike, Like, alike_nothing, alike_absent, alike_node, alike_bare, alike_back, same_alike, place_alike}
use Rattle.js_meaning_near.proofs.Names.{first_alike, below_alike, row_alike, name_alike, own_alike, lexical_alike, declared_alike, function_alike, module_alike, keys_alike, entries_alike, stars_alike, requests_alike}

-- what a node reads off the row below it

heads_alike : (k : Kind) (t : Names) {a b : Forest} → Alike a b → Heads k t a b
heads_alike Kind.ForStatement t {a = a} s = subst (λ (ds : List Decl). Copied t (lexical (first_of a)) ds) (lexical_alike (first_alike s)) (same_copied t (lexical (first_of a)))
heads_alike Kind.ObjectExpression t s = keys_alike (below_alike s)
heads_alike _ t s = tt

-- functions

pub code_alike : {g : Bool} (st : Names) (f : FunctionKind) {a b : Forest} → Like g a b → FunctionOk st f a → Near for_values fields (within_code st f a) (behind a) (behind b) → Code (around_code st f a) f a b
code_alike st function_kind.Declaration s y n = near_code (decls_to _ (function_alike function_kind.Declaration s)) y.1 (row_alike s) n
code_alike st function_kind.Expression s y n = near_code (decls_to _ (function_alike function_kind.Expression s)) y.1 (row_alike s) n
code_alike st function_kind.Arrow s y n = near_code (decls_to _ (function_alike function_kind.Arrow s)) y.1 (row_alike s) n

-- nodes of one kind, where what lies below is near and what follows is

pub near_alike : {us : Purposes} {g : Bool} {p : Row} {st : Names} {a b c d : Forest} (k : Kind) (n m : Note) (core : Bool) → is_core k ≡ core → Like g a b → ((t : Names) → Heads k t a b)
    → IfCore core (NodeFits p st k a (λ q r t. Near (wanted_below (purpose_here us (is_row c)) k) r t (part_of q a) (part_of q b))) → Near (purposes_behind us) p st c d → Near us p st (node k n a c) (node k m b d)
near_alike k n m false e s heads y o = near_uncovered e o
near_alike {st = st} (Kind.Function function_kind.Declaration pure) n m true e s heads y o = near_hoisted (name_alike s) y.0.0 (code_alike st function_kind.Declaration s y.0 y.1) o
near_alike {st = st} (Kind.Function function_kind.Expression pure) n m true e s heads y o =
    near_closure tt (own_alike function_kind.Expression s) (decls_to st (ap (named_so (waiting true)) (own_alike function_kind.Expression s))) y.0.0 (code_alike st function_kind.Expression s y.0 y.1) o
near_alike {st = st} (Kind.Function function_kind.Arrow pure) n m true e s heads y o =
    near_closure tt (own_alike function_kind.Arrow s) (decls_to st (ap (named_so (waiting true)) (own_alike function_kind.Arrow s))) y.0.0 (code_alike st function_kind.Arrow s y.0 y.1) o
near_alike {st = st} {a = a} k n m true e s heads y o = near_node y.0 (decls_to st (declared_alike k s)) (heads (names_after st (declared k a))) y.1 o

-- rows

pub rows_near : {us : Purposes} (q : Part) (p : Row) (st : Names) {a b : Forest} → Alike a b → Fits q p st a → Near us p st (part_of q a) (part_of q b)
rows_near whole p st alike_nothing y = near_nothing
rows_near others p st alike_nothing y = near_nothing
rows_near others p st (alike_absent r) y = rows_near whole p st r y
rows_near others p st (alike_node o r) y = rows_near whole p st r y
rows_near whole p st (alike_absent r) y = near_absent (rows_near whole p st r y)
rows_near whole p st (alike_node {k = k} {n = n} {m = m} {a = a} o r) y =
    near_alike k n m (is_core k) refl o (λ t. heads_alike k t o) (fits_map p st a k (is_core k) (λ q t u z. rows_near q t u o z) y.0) (rows_near whole p st r y.1)

-- modules, by their statements

pub alike_refine : (n m i j : Note) {a b : Forest} → Alike a b → InPlace whole items a → Refined (module_of n m a) (module_of i j b)
alike_refine n m i j {a = a} {b = b} s y =
    near_refines n m i j (same_module a b (module_alike s) (entries_alike s) (stars_alike s) (requests_alike s) (λ st g. rows_near whole items st s (fits_clear whole items st a g y)))

-- what is asked of a module is asked of its statements
statements_in_place : (n m : Note) (a : Forest) → InPlace whole fields (module_of n m a) → InPlace whole items a
statements_in_place n m a y = y.0.1.0.1

pub refines_without_notes : (n m : Note) (a : Forest) → InPlace whole fields (module_of n m a) → Refined (module_of n m a) (bare (module_of n m a))
refines_without_notes n m a y = alike_refine n m nowhere nowhere (alike_bare a) (statements_in_place n m a y)

pub refines_with_notes : (n m : Note) (a : Forest) → InPlace whole fields (module_of n m a) → Refined (bare (module_of n m a)) (module_of n m a)
refines_with_notes n m a y = alike_refine nowhere nowhere n m (alike_back (alike_bare a)) (place_alike whole items (alike_bare a) (statements_in_place n m a y))

-- modules that are the same without their notes have statements that are
same_statements : (n m i j : Note) (a b : Forest) → bare (module_of n m a) ≡ bare (module_of i j b) → bare a ≡ bare b
same_statements n m i j a b e = cc

pub refines_with_other_notes : (n m i j : Note) (a b : Forest) → InPlace whole fields (module_of n m a) → bare (module_of n m a) ≡ bare (module_of i j b) → Refined (module_of n m a) (module_of i j b)
refines_with_other_notes n m i j a b y e = alike_refine n m i j (same_alike a b (same_statements n m i j a b e)) (statements_in_place n m a y)
