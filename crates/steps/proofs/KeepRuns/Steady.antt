-- A row in which nothing assigns to a name, and which binds it no more, only reads it.
use Rattle.std.proofs.Common.{◌≡◌, Bool, true, false, true≢false, bytes_eq, refl, sym}
use Rattle.js_syntax.specs.declared.node_kind.NodeKind.{NodeKind as Kind}
use Rattle.js_syntax.specs.Node.{Forest, nothing, node, absent}
use Rattle.js_syntax.specs.Facts.{is_core}
use Rattle.js_meaning.specs.Value.{Text}
use Rattle.js_meaning.specs.Scope.{waiting, first_of, behind, bound_names, lexical, default_name}
use Rattle.js_meaning.specs.Module.{names_in}
use Rattle.js_meaning_near.specs.Names.{declared}
use Rattle.js_meaning_near.specs.Near.{Row, fields, row_below}
use Rattle.js_meaning_near.specs.Fit.{Part, whole, others, part_of, IfCore}
use Rattle.js_meaning_near.specs.Avoid.{declares, NodeInPlace, InPlace, code_declares}
use Rattle.js_meaning_near.specs.Known.{NameSteady, NodeSteady, Steady}
use Rattle.steps.specs.KeepRuns.Formed.{may_hold, holds_well, is_formed}
use Rattle.steps.specs.KeepRuns.Once.{binds_at, binds}
use Rattle.steps.specs.KeepRuns.Assigned.{assigns_at, assigns}
use Rattle.steps.proofs.KeepRuns.Calm.{form_holds, form_below, form_behind}
use Rattle.steps.proofs.KeepRuns.Names.{names_all_so}
use Rattle.steps.proofs.KeepRuns.Avoids.{unless_so, not_among, shown_in, IsInner, binds_below, code_names, hoisted_avoids, code_binds, binds_behind}
use Rattle.js_syntax.proofs.Truth.{first_of_neither, second_of_neither, first_of_both, second_of_both}

assigns_below : (x : Text) (k : Kind) (a : Forest) (i : Bool) → IsInner k → declares (declared k a) x ≡ false → assigns_at x k a i ≡ false → i ≡ false
assigns_below x (Kind.Program source) a i o n e = absurd o
assigns_below x (Kind.Function f pure) a i o n e = absurd o
assigns_below x (Kind.TargetName y) a i o n e = second_of_neither (bytes_eq y x) i e
assigns_below x Kind.BlockStatement a i o n e = shown_in _ i (not_among (lexical a) (names_in (lexical a)) x refl n) e
assigns_below x Kind.Cases a i o n e = shown_in _ i (not_among (lexical a) (names_in (lexical a)) x refl n) e
assigns_below x Kind.ForStatement a i o n e = shown_in _ i (not_among (lexical (first_of a)) (names_in (lexical (first_of a))) x refl n) e
assigns_below x Kind.CatchClause a i o n e = shown_in _ i (not_among (declared Kind.CatchClause a) (bound_names (first_of a)) x (sym (names_all_so (waiting false) (bound_names (first_of a)))) n) e
assigns_below x k a i o n e = e

name_steady : (x : Text) (k : Kind) (a : Forest) (i j : Bool) → bytes_eq default_name x ≡ false → assigns_at x k a i ≡ false → binds_at x k a j ≡ false → NameSteady x k
name_steady x (Kind.TargetName y) a i j f e b = first_of_neither (bytes_eq y x) i e
name_steady x (Kind.BindingName y) a i j f e b = first_of_neither (bytes_eq y x) j b
name_steady x Kind.ExportDefaultDeclaration a i j f e b = f
name_steady x k a i j f e b = tt

pub assigns_behind : (x : Text) (a : Forest) → assigns x a ≡ false → assigns x (behind a) ≡ false
assigns_behind x nothing e = refl
assigns_behind x (absent r) e = e
assigns_behind x (node k n a r) e = second_of_neither (assigns_at x k a (assigns x a)) (assigns x r) e

abbrev BelowSteady : Text → Forest → Type 0
BelowSteady x a = (q : Part) (r : Row) → assigns x (part_of q a) ≡ false → binds x (part_of q a) ≡ false → InPlace q r a → Steady x q r a

steady_node : (x : Text) (p : Row) (k : Kind) (a : Forest) (above : Kind) (core : Bool) → may_hold above k ≡ true → bytes_eq default_name x ≡ false → assigns_at x k a (assigns x a) ≡ false → binds_at x k a (binds x a) ≡ false
    → IfCore core (NodeInPlace p k (λ q r. InPlace q r a)) → BelowSteady x a → IfCore core (NodeSteady x p k a (λ q r. InPlace q r a) (λ q r. Steady x q r a))
steady_node x p k a above false m f e b i h = tt
steady_node x p (Kind.Program source) a above true m f e b i h = absurd (true≢false (sym m))
steady_node x p (Kind.Function how pure) a above true m f e b i h = (
  hoisted_avoids true x how pure a (binds x a) (λ t. b),
  unless_so (declares (code_declares how a) x) (λ n. i) (λ n. h others fields
      (assigns_behind x a (shown_in _ (assigns x a) (code_names how pure a x n) e))
      (binds_behind x a (code_binds how pure x a (binds x a) (code_names how pure a x n) b)) i),
)
steady_node x p k a above true m f e b i h = (
  name_steady x k a (assigns x a) (binds x a) f e b,
  i.0,
  unless_so (declares (declared k a) x) (λ n. i.1) (λ n. h whole (row_below k) (assigns_below x k a (assigns x a) tt n e) (binds_below x k a (binds x a) tt n b) i.1),
)

pub row_steady : (x : Text) (q : Part) (p : Row) (t : Forest) (above : Kind) → holds_well above t ≡ true → is_formed t ≡ true → bytes_eq default_name x ≡ false → assigns x (part_of q t) ≡ false → binds x (part_of q t) ≡ false → InPlace q p t → Steady x q p t
row_steady x whole p nothing above m g f e b i = tt
row_steady x others p nothing above m g f e b i = tt
row_steady x others p (absent r) above m g f e b i = row_steady x whole p r above m g f e b i
row_steady x others p (node k n a r) above m g f e b i = row_steady x whole p r above (second_of_both (may_hold above k) (holds_well above r) m) (form_behind k a r g) f e b i
row_steady x whole p (absent r) above m g f e b i = row_steady x whole p r above m g f e b i
row_steady x whole p (node k n a r) above m g f e b i = (
  steady_node x p k a above (is_core k) (first_of_both (may_hold above k) (holds_well above r) m) f (first_of_neither (assigns_at x k a (assigns x a)) (assigns x r) e) (first_of_neither (binds_at x k a (binds x a)) (binds x r) b) i.0
      (λ q r' e b i. row_steady x q r' a k (form_holds k a r g) (form_below k a r g) f e b i),
  row_steady x whole p r above (second_of_both (may_hold above k) (holds_well above r) m) (form_behind k a r g) f (second_of_neither (assigns_at x k a (assigns x a)) (assigns x r) e) (second_of_neither (binds_at x k a (binds x a)) (binds x r) b) i.1,
)
