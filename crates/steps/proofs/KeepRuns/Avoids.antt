-- A row in which nothing refers to a name avoids it.
use Rattle.std.proofs.Common.{◌≡◌, ◌∙◌, List, [], ◌∷◌, ◌++◌, Bool, true, false, true≢false, if◌then◌else◌, Option, Some, None, bytes_eq, refl, sym, ap}
use Rattle.js_syntax.specs.declared.node_kind.NodeKind.{NodeKind as Kind}
use Rattle.js_syntax.specs.Node.{Forest, nothing, node, absent}
use Rattle.js_syntax.specs.Facts.{is_core}
use Rattle.js_syntax.specs.declared.kind.FunctionKind.{FunctionKind}
use Rattle.js_syntax.specs.declared.kind.FunctionKind.TheVariants as function_kind
use Rattle.js_meaning.specs.Value.{Text, this_name}
use Rattle.js_meaning.specs.Scope.{Decl, decl, waiting, named_so, first_of, behind, first_name, bound_names, lexical, default_name, own_name, function_decls}
use Rattle.js_meaning.specs.Module.{names_in}
use Rattle.js_meaning_near.specs.Names.{declared}
use Rattle.js_meaning_near.specs.Near.{Row, fields, row_below}
use Rattle.js_meaning_near.specs.Fit.{Part, whole, others, part_of, IfCore}
use Rattle.js_meaning_near.specs.Avoid.{declares, NodeInPlace, InPlace, IsOtherIf, Binding, NameAvoids, HoistedAvoids, code_declares, Unless, NodeAvoids, Avoids}
use Rattle.steps.specs.Names.{is_among, names_declared, names_exported, refers_at, refers}
use Rattle.steps.specs.KeepRuns.Formed.{may_hold, holds_well, is_formed}
use Rattle.steps.specs.KeepRuns.Once.{is_first, binds_at, binds}
use Rattle.steps.proofs.KeepRuns.Calm.{form_holds, form_below, form_behind}
use Rattle.steps.proofs.KeepRuns.Names.{declares_among, names_all_so}
use Rattle.js_syntax.proofs.Truth.{first_of_neither, second_of_neither, first_of_both, second_of_both}

-- a name that programs may declare
pub record IsFree (x : Text) : Type 0 where
  pub this : bytes_eq this_name x ≡ false
  pub «default» : bytes_eq default_name x ≡ false

pub unless_so : {H S : Type 0} (b : Bool) → (b ≡ true → H) → (b ≡ false → S) → Unless b H S
unless_so true h s = h refl
unless_so false h s = s refl

pub names_joined : (ds es : List Decl) → names_in (ds ++ es) ≡ names_in ds ++ names_in es
names_joined [] es = refl
names_joined (decl x way ∷ ds) es = ap (λ l. x ∷ l) (names_joined ds es)

-- where the name isn't declared again, what is asked of a node is asked of the row below it

pub not_among : (ds : List Decl) (xs : List Text) (x : Text) → xs ≡ names_in ds → declares ds x ≡ false → is_among xs x ≡ false
not_among ds xs x e n = ap (λ l. is_among l x) e ∙ sym (declares_among ds x) ∙ n

pub shown_in : (b i : Bool) → b ≡ false → (if b then false else i) ≡ false → i ≡ false
shown_in true i n e = absurd (true≢false n)
shown_in false i n e = e

abbrev pub IsInner : Kind → Type 0
IsInner (Kind.Program source) = ⊥
IsInner (Kind.Function f pure) = ⊥
IsInner k = Unit {0}

refers_below : (x : Text) (k : Kind) (a : Forest) (i : Bool) → IsInner k → declares (declared k a) x ≡ false → refers_at x k a i ≡ false → i ≡ false
refers_below x (Kind.Program source) a i o n e = absurd o
refers_below x (Kind.Function f pure) a i o n e = absurd o
refers_below x (Kind.ReferenceName y) a i o n e = second_of_neither (bytes_eq y x) i e
refers_below x (Kind.TargetName y) a i o n e = second_of_neither (bytes_eq y x) i e
refers_below x (Kind.ExportNamedDeclaration source) a i o n e = second_of_neither (is_among (names_exported a) x) i e
refers_below x Kind.ExportDefaultDeclaration a i o n e = second_of_neither (is_among (names_exported a) x) i e
refers_below x Kind.BlockStatement a i o n e = shown_in _ i (not_among (lexical a) (names_in (lexical a)) x refl n) e
refers_below x Kind.Cases a i o n e = shown_in _ i (not_among (lexical a) (names_in (lexical a)) x refl n) e
refers_below x Kind.ForStatement a i o n e = shown_in _ i (not_among (lexical (first_of a)) (names_in (lexical (first_of a))) x refl n) e
refers_below x Kind.CatchClause a i o n e = shown_in _ i (not_among (declared Kind.CatchClause a) (bound_names (first_of a)) x (sym (names_all_so (waiting false) (bound_names (first_of a)))) n) e
refers_below x k a i o n e = e

pub binds_below : (x : Text) (k : Kind) (a : Forest) (i : Bool) → IsInner k → declares (declared k a) x ≡ false → binds_at x k a i ≡ false → i ≡ false
binds_below x (Kind.Program source) a i o n e = absurd o
binds_below x (Kind.Function f pure) a i o n e = absurd o
binds_below x (Kind.BindingName y) a i o n e = second_of_neither (bytes_eq y x) i e
binds_below x Kind.BlockStatement a i o n e = shown_in _ i (not_among (lexical a) (names_in (lexical a)) x refl n) e
binds_below x Kind.Cases a i o n e = shown_in _ i (not_among (lexical a) (names_in (lexical a)) x refl n) e
binds_below x Kind.ForStatement a i o n e = shown_in _ i (not_among (lexical (first_of a)) (names_in (lexical (first_of a))) x refl n) e
binds_below x Kind.CatchClause a i o n e = shown_in _ i (not_among (declared Kind.CatchClause a) (bound_names (first_of a)) x (sym (names_all_so (waiting false) (bound_names (first_of a)))) n) e
binds_below x k a i o n e = e

pub code_names : (f : FunctionKind) (pure : Bool) (a : Forest) (x : Text) → declares (code_declares f a) x ≡ false → is_among (names_declared (Kind.Function f pure) a) x ≡ false
code_names f pure a x n = not_among (code_declares f a) _ x (sym (names_joined (named_so (waiting true) (own_name f a)) (function_decls f a))) n

-- what a node looks up itself

binding : (c : Bool) {A : Type 0} → (c ≡ true → A) → Binding c A
binding true h = h refl
binding false h = tt

name_avoids : (c : Bool) (x : Text) (k : Kind) (a : Forest) (i j : Bool) → IsFree x → refers_at x k a i ≡ false → (c ≡ true → binds_at x k a j ≡ false) → NameAvoids c x k
name_avoids c x (Kind.ReferenceName y) a i j f e b = first_of_neither (bytes_eq y x) i e
name_avoids c x (Kind.TargetName y) a i j f e b = first_of_neither (bytes_eq y x) i e
name_avoids c x Kind.ThisExpression a i j f e b = f.this
name_avoids c x (Kind.BindingName y) a i j f e b = binding c (λ t. first_of_neither (bytes_eq y x) j (b t))
name_avoids c x Kind.ExportDefaultDeclaration a i j f e b = binding c (λ t. f.default)
name_avoids c x k a i j f e b = tt

first_other : (x : Text) (o : Option Text) → is_first x o ≡ false → IsOtherIf x o
first_other x None e = tt
first_other x (Some y) e = e

pub hoisted_avoids : (c : Bool) (x : Text) (f : FunctionKind) (pure : Bool) (a : Forest) (j : Bool) → (c ≡ true → binds_at x (Kind.Function f pure) a j ≡ false) → HoistedAvoids c x f a
hoisted_avoids c x function_kind.Declaration pure a j b = binding c (λ t. first_other x (first_name a) (first_of_neither (is_first x (first_name a)) _ (b t)))
hoisted_avoids c x function_kind.Expression pure a j b = tt
hoisted_avoids c x function_kind.Arrow pure a j b = tt

pub code_binds : (f : FunctionKind) (pure : Bool) (x : Text) (a : Forest) (j : Bool) → is_among (names_declared (Kind.Function f pure) a) x ≡ false → binds_at x (Kind.Function f pure) a j ≡ false → j ≡ false
code_binds function_kind.Declaration pure x a j n e = shown_in _ j n (second_of_neither (is_first x (first_name a)) _ e)
code_binds function_kind.Expression pure x a j n e = shown_in _ j n e
code_binds function_kind.Arrow pure x a j n e = shown_in _ j n e

pub refers_behind : (x : Text) (a : Forest) → refers x a ≡ false → refers x (behind a) ≡ false
refers_behind x nothing e = refl
refers_behind x (absent r) e = e
refers_behind x (node k n a r) e = second_of_neither (refers_at x k a (refers x a)) (refers x r) e

pub binds_behind : (x : Text) (a : Forest) → binds x a ≡ false → binds x (behind a) ≡ false
binds_behind x nothing e = refl
binds_behind x (absent r) e = e
binds_behind x (node k n a r) e = second_of_neither (binds_at x k a (binds x a)) (binds x r) e

-- rows

abbrev BelowAvoids : Bool → Text → Forest → Type 0
BelowAvoids c x a = (q : Part) (r : Row) → refers x (part_of q a) ≡ false → (c ≡ true → binds x (part_of q a) ≡ false) → InPlace q r a → Avoids c x q r a

avoids_node : (c : Bool) (x : Text) (p : Row) (k : Kind) (a : Forest) (above : Kind) (core : Bool) → may_hold above k ≡ true → IsFree x → refers_at x k a (refers x a) ≡ false → (c ≡ true → binds_at x k a (binds x a) ≡ false)
    → IfCore core (NodeInPlace p k (λ q r. InPlace q r a)) → BelowAvoids c x a → IfCore core (NodeAvoids c x p k a (λ q r. InPlace q r a) (λ q r. Avoids c x q r a))
avoids_node c x p k a above false m f e b i h = tt
avoids_node c x p (Kind.Program source) a above true m f e b i h = absurd (true≢false (sym m))
avoids_node c x p (Kind.Function how pure) a above true m f e b i h = (
  hoisted_avoids c x how pure a (binds x a) b,
  unless_so (declares (code_declares how a) x) (λ n. i) (λ n. h others fields
      (refers_behind x a (shown_in _ (refers x a) (code_names how pure a x n) e))
      (λ t. binds_behind x a (code_binds how pure x a (binds x a) (code_names how pure a x n) (b t))) i),
)
avoids_node c x p k a above true m f e b i h = (
  name_avoids c x k a (refers x a) (binds x a) f e b,
  i.0,
  unless_so (declares (declared k a) x) (λ n. i.1) (λ n. h whole (row_below k) (refers_below x k a (refers x a) tt n e) (λ t. binds_below x k a (binds x a) tt n (b t)) i.1),
)

pub row_avoids : (c : Bool) (x : Text) (q : Part) (p : Row) (t : Forest) (above : Kind) → holds_well above t ≡ true → is_formed t ≡ true → IsFree x → refers x (part_of q t) ≡ false → (c ≡ true → binds x (part_of q t) ≡ false) → InPlace q p t → Avoids c x q p t
row_avoids c x whole p nothing above m g f e b i = tt
row_avoids c x others p nothing above m g f e b i = tt
row_avoids c x others p (absent r) above m g f e b i = row_avoids c x whole p r above m g f e b i
row_avoids c x others p (node k n a r) above m g f e b i = row_avoids c x whole p r above (second_of_both (may_hold above k) (holds_well above r) m) (form_behind k a r g) f e b i
row_avoids c x whole p (absent r) above m g f e b i = row_avoids c x whole p r above m g f e b i
row_avoids c x whole p (node k n a r) above m g f e b i = (
  avoids_node c x p k a above (is_core k) (first_of_both (may_hold above k) (holds_well above r) m) f (first_of_neither (refers_at x k a (refers x a)) (refers x r) e) (λ t. first_of_neither (binds_at x k a (binds x a)) (binds x r) (b t)) i.0
      (λ q r' e b i. row_avoids c x q r' a k (form_holds k a r g) (form_below k a r g) f e b i),
  row_avoids c x whole p r above (second_of_both (may_hold above k) (holds_well above r) m) (form_behind k a r g) f (second_of_neither (refers_at x k a (refers x a)) (refers x r) e) (λ t. second_of_neither (binds_at x k a (binds x a)) (binds x r) (b t)) i.1,
)
