-- A change at one place leaves a row near the old one.
use Rattle.std.proofs.Common.{◌≡◌, refl}
use Rattle.js_syntax.specs.declared.node_kind.NodeKind.{NodeKind as Kind}
use Rattle.js_syntax.specs.declared.kind.FunctionKind.{FunctionKind}
use Rattle.js_syntax.specs.declared.kind.FunctionKind.TheVariants as function_kind
use Rattle.js_syntax.specs.Facts.{is_core}
use Rattle.js_syntax.specs.Node.{Note, Forest, node}
use Rattle.js_meaning.specs.Scope.{first_name, function_decls}
use Rattle.js_meaning_near.specs.Purpose.{Purposes, purposes_behind, for_values}
use Rattle.js_meaning_near.specs.Names.{Names, Decls}
use Rattle.js_meaning_near.specs.Near.{Row, fields, ReceiverOk, Near, near_absent, near_node, near_closure, near_hoisted, Code, near_code}
use Rattle.js_meaning_near.specs.Fit.{whole}
use Rattle.js_meaning_near.specs.Once.{NodeStays, SameFirst, same_node_first, same_absent_first, Once, at_place, in_rest, in_absent, in_node, in_closure, in_declaration}
use Rattle.js_meaning_near.proofs.Fit.{same_node, fits_near, fit}

pub node_stays : {us : Purposes} {c d : Forest} (p : Row) (st : Names) (k : Kind) (n : Note) (a : Forest) → NodeStays p st k a → Near (purposes_behind us) p st c d → Near us p st (node k n a c) (node k n a d)
node_stays p st k n a y o = same_node k n a (is_core k) refl (fits_near _ p st k a (is_core k) y) o

one_code : {s t : Names} {a b d e : Forest} (f : FunctionKind) → Decls s (function_decls f a) (function_decls f b) t → ReceiverOk f t → SameFirst a b d e → Near for_values fields t d e → Code s f a b
one_code f x y same_node_first o = near_code x y refl o
one_code f x y same_absent_first o = near_code x y refl o

first_name_stays : {a b d e : Forest} → SameFirst a b d e → first_name a ≡ first_name b
first_name_stays same_node_first = refl
first_name_stays same_absent_first = refl

pub once_near : {us : Purposes} {p : Row} {st : Names} {a b : Forest} → Once us p st a b → Near us p st a b
once_near (at_place o) = o
once_near (in_rest {p = p} {st = st} {k = k} {n = n} {a = a} y o) = node_stays p st k n a y (once_near o)
once_near (in_absent o) = near_absent (once_near o)
once_near (in_node {p = p} {st = st} {c = c} y d h o z) = near_node y d h (once_near o) (fit whole p st c z)
once_near (in_closure {p = p} {st = st} {f = f} {c = c} i x d y e r s o z) = near_closure i x d y (one_code f e r s (once_near o)) (fit whole p st c z)
once_near (in_declaration {p = p} {st = st} {c = c} y e r s o z) = near_hoisted (first_name_stays s) y (one_code function_kind.Declaration e r s (once_near o)) (fit whole p st c z)
