-- What looks up nothing that is dead, unread or known is near itself.
use Rattle.std.proofs.Common.{◌≡◌, List, [], ◌∷◌, ◌++◌, refl, subst}
use Rattle.std.specs.Prelude.{Bool, true, false}
use Rattle.js_syntax.specs.declared.node_kind.NodeKind.{NodeKind as Kind}
use Rattle.js_syntax.specs.declared.kind.FunctionKind.{FunctionKind}
use Rattle.js_syntax.specs.declared.kind.FunctionKind.TheVariants as function_kind
use Rattle.js_syntax.specs.Facts.{is_core}
use Rattle.js_syntax.specs.Node.{Note, Forest, nothing, node, absent}
use Rattle.js_meaning.specs.Scope.{Decl, decl, waiting, named_so, behind, first_of, lexical, own_name, function_decls}
use Rattle.js_meaning_near.specs.Names.{live, Names, with_name, Decls, no_decls, in_both, in_both_known, in_both_unread, in_old_again, in_old, Copied, copied_end, copied_both, declared}
use Rattle.js_meaning_near.specs.Near.{Row, fields, Heads, is_row, Near, near_nothing, near_absent, near_node, near_closure, near_hoisted, near_uncovered, Code, near_code}
use Rattle.js_meaning_near.specs.Purpose.{Purposes, purpose_here, purposes_behind, for_values, wanted_below}
use Rattle.js_meaning_near.specs.Fit.{names_after, around_code, within_code, FunctionOk, Part, whole, others, part_of, NodeFits, IfCore, Fits}

pub same_decls : (st : Names) (ds : List Decl) → Decls st ds ds (names_after st ds)
same_decls st [] = no_decls
same_decls st (decl x way ∷ ds) = in_both (same_decls (with_name st x live) ds)

-- one list behind another
pub decls_both : {st t u : Names} {ds es fs gs : List Decl} → Decls st ds es t → Decls t fs gs u → Decls st (ds ++ fs) (es ++ gs) u
decls_both no_decls f = f
decls_both (in_both d) f = in_both (decls_both d f)
decls_both (in_both_known p y d) f = in_both_known p y (decls_both d f)
decls_both (in_both_unread y d) f = in_both_unread y (decls_both d f)
decls_both (in_old_again y d) f = in_old_again y (decls_both d f)
decls_both (in_old d) f = in_old (decls_both d f)

pub decls_to : {ds es : List Decl} (st : Names) → ds ≡ es → Decls st ds es (names_after st ds)
decls_to {ds = ds} st e = subst (λ l. Decls st ds l (names_after st ds)) e (same_decls st ds)

pub same_copied : (st : Names) (ds : List Decl) → Copied st ds ds
same_copied st [] = copied_end
same_copied st (decl x way ∷ ds) = copied_both (same_copied st ds)

pub same_heads : (k : Kind) (t : Names) (a : Forest) → Heads k t a a
same_heads Kind.ForStatement t a = same_copied t (lexical (first_of a))
same_heads Kind.ObjectExpression t a = refl
same_heads _ t a = tt

same_code : (st : Names) (f : FunctionKind) (a : Forest) → FunctionOk st f a → Near for_values fields (within_code st f a) (behind a) (behind a) → Code (around_code st f a) f a a
same_code st function_kind.Declaration a y n = near_code (same_decls _ (function_decls function_kind.Declaration a)) y.1 refl n
same_code st function_kind.Expression a y n = near_code (same_decls _ (function_decls function_kind.Expression a)) y.1 refl n
same_code st function_kind.Arrow a y n = near_code (same_decls _ (function_decls function_kind.Arrow a)) y.1 refl n

-- a node near itself, where what lies below is, and what follows is near
pub same_node : {us : Purposes} {p : Row} {st : Names} {c d : Forest} (k : Kind) (n : Note) (a : Forest) (core : Bool) → is_core k ≡ core → IfCore core (NodeFits p st k a (λ q r t. Near (wanted_below (purpose_here us (is_row c)) k) r t (part_of q a) (part_of q a))) → Near (purposes_behind us) p st c d → Near us p st (node k n a c) (node k n a d)
same_node k n a false e y o = near_uncovered e o
same_node {st = st} (Kind.Function function_kind.Declaration pure) n a true e y o = near_hoisted refl y.0.0 (same_code st function_kind.Declaration a y.0 y.1) o
same_node {st = st} (Kind.Function function_kind.Expression pure) n a true e y o = near_closure tt refl (same_decls st (named_so (waiting true) (own_name function_kind.Expression a))) y.0.0 (same_code st function_kind.Expression a y.0 y.1) o
same_node {st = st} (Kind.Function function_kind.Arrow pure) n a true e y o = near_closure tt refl (same_decls st (named_so (waiting true) (own_name function_kind.Arrow a))) y.0.0 (same_code st function_kind.Arrow a y.0 y.1) o
same_node {st = st} k n a true e y o = near_node y.0 (same_decls st (declared k a)) (same_heads k (names_after st (declared k a)) a) y.1 o

pub fits_map : {F G : Part → Row → Names → Type 0} (p : Row) (st : Names) (a : Forest) (k : Kind) (core : Bool) → ((q : Part) (r : Row) (t : Names) → F q r t → G q r t) → IfCore core (NodeFits p st k a F) → IfCore core (NodeFits p st k a G)
fits_map p st a k false g y = tt
fits_map p st a (Kind.Function f pure) true g y = (y.0, g _ _ _ y.1)
fits_map p st a k true g y = (y.0, g _ _ _ y.1)

pub fit : {us : Purposes} (q : Part) (p : Row) (st : Names) (a : Forest) → Fits q p st a → Near us p st (part_of q a) (part_of q a)
fit whole p st nothing y = near_nothing
fit others p st nothing y = near_nothing
fit others p st (absent c) y = fit whole p st c y
fit others p st (node k n a c) y = fit whole p st c y
fit whole p st (absent c) y = near_absent (fit whole p st c y)
fit whole p st (node k n a c) y = same_node k n a (is_core k) refl (fits_map p st a k (is_core k) (λ q r t z. fit q r t a z) y.0) (fit whole p st c y.1)

pub fits_near : (us : Purposes) (p : Row) (st : Names) (k : Kind) (a : Forest) (core : Bool) → IfCore core (NodeFits p st k a (λ q r t. Fits q r t a)) → IfCore core (NodeFits p st k a (λ q r t. Near us r t (part_of q a) (part_of q a)))
fits_near us p st k a core y = fits_map p st a k core (λ q r t z. fit q r t a z) y
