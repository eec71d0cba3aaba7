-- What only reads a name of which something is known stays.
use Rattle.std.proofs.Common.{◌≡◌, sym}
use Rattle.std.specs.Prelude.{Bool, true, false}
use Rattle.js_syntax.specs.declared.node_kind.NodeKind.{NodeKind as Kind}
use Rattle.js_syntax.specs.declared.kind.FunctionKind.{FunctionKind}
use Rattle.js_syntax.specs.declared.kind.FunctionKind.TheVariants as function_kind
use Rattle.js_syntax.specs.Facts.{is_core}
use Rattle.js_syntax.specs.Node.{Note, Forest, nothing, node, absent}
use Rattle.js_meaning.specs.Value.{Text, this_name}
use Rattle.js_meaning.specs.Scope.{own_name, first_name, default_name}
use Rattle.js_meaning_near.specs.Names.{Fact, Names, AllPlain, declared, names_below}
use Rattle.js_meaning_near.specs.Near.{Row, fields, row_below, is_row, Okay}
use Rattle.js_meaning_near.specs.Fit.{names_after, around_code, within_code, FunctionOk, Part, whole, others, NodeFits, IfCore, Fits}
use Rattle.js_meaning_near.specs.Avoid.{declares, InPlace, CasesOk, NotFunction, HoistedAvoids, code_declares}
use Rattle.js_meaning_near.specs.Known.{Knows, NameSteady, NodeSteady, Steady}
use Rattle.js_meaning_near.proofs.Avoid.{false_true, fillable_plain, writable_plain, own_fillable, other_if, receiver_ok, unless, below_all, code_all, fits_clear}
use Rattle.js_meaning_near.specs.Purpose.{Purposes, purpose_here, purposes_behind, for_values, wanted_below}
use Rattle.js_meaning_near.specs.Local.{KeysStay}
use Rattle.js_meaning_near.specs.Rewritten.{Rewritten, no_more, behind_absent, behind_node, in_node, in_code}
use Rattle.js_meaning_near.proofs.Rewritten.{code_stays}
use Rattle.js_meaning_near.proofs.Known.{known_usable, knows_below, knows_code}

okay_steady : (x : Text) (f : Fact) (p : Row) (st : Names) (k : Kind) → NotFunction k → Knows x f st → NameSteady x k → CasesOk p k → Okay p st k
okay_steady x f p st (Kind.ReferenceName y) n g e c = known_usable x f st g y
okay_steady x f p st Kind.ThisExpression n g e c = known_usable x f st g this_name
okay_steady x f p st (Kind.BindingName y) n g e c = fillable_plain (st y) (g.plain y e)
okay_steady x f p st (Kind.TargetName y) n g e c = writable_plain (st y) (g.plain y e)
okay_steady x f p st Kind.ExportDefaultDeclaration n g e c = fillable_plain (st default_name) (g.plain default_name e)
okay_steady x f p st Kind.Cases n g e c = c
okay_steady x f p st (Kind.Function h pure) n g e c = n
okay_steady x f p st _ n g e c = tt

function_steady : (x : Text) (f : Fact) (st : Names) (h : FunctionKind) (a : Forest) → Knows x f st → HoistedAvoids true x h a → FunctionOk st h a
function_steady x f st function_kind.Declaration a g e = (other_if true x st (first_name a) g.plain (λ u. absurd (false_true (sym u))) e, receiver_ok st function_kind.Declaration a)
function_steady x f st function_kind.Expression a g e = (own_fillable st (own_name function_kind.Expression a), receiver_ok (around_code st function_kind.Expression a) function_kind.Expression a)
function_steady x f st function_kind.Arrow a g e = (tt, tt)

-- what it asks of the names that it looks up itself

node_okay : (x : Text) (f : Fact) (p : Row) (st : Names) (k : Kind) (a : Forest) (core : Bool) → core ≡ true → NotFunction k → Knows x f st → IfCore core (NodeSteady x p k a (λ q r. InPlace q r a) (λ q r. Steady x q r a)) → Okay p st k
node_okay x f p st k a false c n g y = absurd (false_true c)
node_okay x f p st (Kind.Function h pure) a true c n g y = absurd n
node_okay x f p st k a true c n g y = okay_steady x f p st k tt g y.0 y.1

code_okay : (x : Text) (f : Fact) (p : Row) (st : Names) (h : FunctionKind) (pure : Bool) (a : Forest) (core : Bool) → core ≡ true → Knows x f st → IfCore core (NodeSteady x p (Kind.Function h pure) a (λ q r. InPlace q r a) (λ q r. Steady x q r a)) → FunctionOk st h a
code_okay x f p st h pure a false c g y = absurd (false_true c)
code_okay x f p st h pure a true c g y = function_steady x f st h a g y.0

steady_node : (x : Text) (f : Fact) (p : Row) (st : Names) (k : Kind) (a : Forest) (core : Bool) → Knows x f st
    → ((q : Part) (r : Row) (t : Names) → AllPlain t → InPlace q r a → Fits q r t a) → ((q : Part) (r : Row) (t : Names) → Knows x f t → Steady x q r a → Fits q r t a)
    → IfCore core (NodeSteady x p k a (λ q r. InPlace q r a) (λ q r. Steady x q r a)) → IfCore core (NodeFits p st k a (λ q r t. Fits q r t a))
steady_node x f p st k a false g clear rest y = tt
steady_node x f p st (Kind.Function h pure) a true g clear rest y =
    (function_steady x f st h a g y.0, unless (declares (code_declares h a) x) (λ e z. clear others fields (within_code st h a) (code_all x h a st g.plain e) z) (λ e z. rest others fields (within_code st h a) (knows_code x f h a e st g) z) y.1)
steady_node x f p st k a true g clear rest y =
    (okay_steady x f p st k tt g y.0 y.1, unless (declares (declared k a) x) (λ e z. clear whole (row_below k) (names_below k st (names_after st (declared k a))) (below_all x k a st g.plain e) z) (λ e z. rest whole (row_below k) (names_below k st (names_after st (declared k a))) (knows_below x f k a e st g) z) y.2)

pub steady_fits : (x : Text) (f : Fact) (q : Part) (p : Row) (st : Names) (a : Forest) → Knows x f st → Steady x q p a → Fits q p st a
steady_fits x f whole p st nothing g y = tt
steady_fits x f others p st nothing g y = tt
steady_fits x f others p st (absent c) g y = steady_fits x f whole p st c g y
steady_fits x f others p st (node k n a c) g y = steady_fits x f whole p st c g y
steady_fits x f whole p st (absent c) g y = steady_fits x f whole p st c g y
steady_fits x f whole p st (node k n a c) g y = (steady_node x f p st k a (is_core k) g (λ q r t h z. fits_clear q r t a h z) (λ q r t h z. steady_fits x f q r t a h z) y.0, steady_fits x f whole p st c g y.1)

-- so it stays between changes
pub steady_rows : {us : Purposes} (x : Text) (f : Fact) (p : Row) (a : Forest) → Steady x whole p a → Rewritten (Knows x f) whole us p a a
steady_rows x f p nothing y = no_more
steady_rows x f p (absent c) y = behind_absent (steady_rows x f p c y)
steady_rows x f p (node k n a c) y = behind_node (λ st h. (steady_fits x f whole p st (node k n a nothing) h (y.0, tt)).0) (steady_rows x f p c y.1)

-- and what a place of change lies in, where no scope on the way declares the name again

pub steady_behind : {us : Purposes} {p : Row} {k : Kind} {n : Note} {a r s : Forest} (x : Text) (f : Fact) → Steady x whole p (node k n a r) → Rewritten (Knows x f) whole (purposes_behind us) p r s → Rewritten (Knows x f) whole us p (node k n a r) (node k n a s)
steady_behind {p = p} {k = k} {n = n} {a = a} x f y t = behind_node (λ st h. (steady_fits x f whole p st (node k n a nothing) h (y.0, tt)).0) t

pub steady_around : {us : Purposes} {p : Row} {k : Kind} {n m : Note} {a b r : Forest} (x : Text) (f : Fact) → is_core k ≡ true → NotFunction k → Steady x whole p (node k n a r) → KeysStay k a b → declares (declared k b) x ≡ false
    → Rewritten (Knows x f) whole (wanted_below (purpose_here us (is_row r)) k) (row_below k) a b → Rewritten (Knows x f) whole us p (node k n a r) (node k m b r)
steady_around {p = p} {k = k} {a = a} {b = b} {r = r} x f c n y e d t = in_node (λ st h. node_okay x f p st k a (is_core k) c n h y.0) e (knows_below x f k b d) t (steady_rows x f p r y.1)

pub steady_around_code : {us : Purposes} {p : Row} {h : FunctionKind} {pure : Bool} {n m : Note} {a b r : Forest} (x : Text) (f : Fact) → is_core (Kind.Function h pure) ≡ true → Steady x whole p (node (Kind.Function h pure) n a r) → declares (code_declares h b) x ≡ false
    → Rewritten (Knows x f) others for_values fields a b → Rewritten (Knows x f) whole us p (node (Kind.Function h pure) n a r) (node (Kind.Function h pure) m b r)
steady_around_code {p = p} {h = h} {pure = pure} {a = a} {b = b} {r = r} x f c y d t = in_code (λ st g. code_stays st h t (code_okay x f p st h pure a (is_core (Kind.Function h pure)) c g y.0)) (knows_code x f h b d) t (steady_rows x f p r y.1)
