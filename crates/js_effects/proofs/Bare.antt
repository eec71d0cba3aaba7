-- What runs its parts does so by its form alone: spans and ids play no part.
use Rattle.std.proofs.Common.{◌≡◌, ◌∙◌, ℕ, zero, suc, List, ◌∷◌, Bool, true, false, not, ◌&&◌, ◌||◌, Option, Some, None, get_or, if◌then◌else◌, refl, sym, ap, ap₂}
use Rattle.js_syntax.specs.declared.node_kind.NodeKind.{NodeKind as Kind}
use Rattle.js_syntax.specs.declared.node_kind.NodeKind.TheVariants as kind
use Rattle.js_syntax.specs.Node.{Forest, nothing, node, absent, Note, nowhere, bare}
use Rattle.js_effects.specs.declared.form.Form.{Form}
use Rattle.js_effects.specs.declared.form.Form.TheVariants as form
use Rattle.js_effects.specs.declared.value.ValueType.{ValueType}
use Rattle.js_effects.specs.declared.value.ValueType.TheVariants.{Undefined, Undetermined}
use Rattle.js_effects.specs.Answers.{bare_answers}
use Rattle.js_effects.specs.Each.{of_each, child_of, inner_from, inner_at, is_parenthesized}
use Rattle.js_effects.specs.Forms.{form_of}
use Rattle.js_effects.specs.Kinds.{is_named_undefined, type_by_number, type_by, type_from, types, type_at, all_primitive, is_primitive}
use Rattle.js_effects.specs.Effects.{is_reference, only_runs_parts, is_silent_unary, is_silent_binary, below_child, substitutions, converts_primitives, is_private, is_static, is_array, is_spread, has_spread}
use Rattle.js_effects.specs.Silence.{is_nothing, is_one_name, runs_entries, runs_its_parts}

no_type : (o : Option ℕ) → type_by_number (λ i. None) o ≡ Undetermined
no_type (Some i) = refl
no_type None = refl

same_by : (f : Form) (k : Kind) (n m : Note) (ts : List ValueType) → type_by bare_answers f k n ts ≡ type_by bare_answers f k m ts
same_by form.Name k n m ts = ap (λ (t : ValueType). if is_named_undefined k && false then Undefined else t) (no_type n.id ∙ sym (no_type m.id))
same_by form.Literal k n m ts = refl
same_by form.Object k n m ts = refl
same_by form.New k n m ts = refl
same_by form.Template k n m ts = refl
same_by form.First k n m ts = refl
same_by form.Last k n m ts = refl
same_by form.Right k n m ts = refl
same_by form.Conditional k n m ts = refl
same_by (form.Logical o) k n m ts = refl
same_by (form.Unary o) k n m ts = refl
same_by (form.Binary o) k n m ts = refl
same_by form.Other k n m ts = refl

types_bare : (t : Forest) → types bare_answers (bare t) ≡ types bare_answers t
types_bare nothing = refl
types_bare (absent r) = ap (λ ts. Undetermined ∷ ts) (types_bare r)
types_bare (node k n a r) = ap₂ (λ t ts. t ∷ ts) (ap (type_from bare_answers k nowhere a) (types_bare a) ∙ same_by (form_of k) k nowhere n (types bare_answers a)) (types_bare r)

below_bare : (a : Forest) (i : ℕ) → below_child (child_of (bare a) i) ≡ bare (below_child (child_of a i))
below_bare nothing i = refl
below_bare (absent r) zero = refl
below_bare (absent r) (suc i) = below_bare r i
below_bare (node k n a r) zero = refl
below_bare (node k n a r) (suc i) = below_bare r i

private_bare : (a : Forest) (i : ℕ) → is_private (child_of (bare a) i) ≡ is_private (child_of a i)
private_bare nothing i = refl
private_bare (absent r) zero = refl
private_bare (absent r) (suc i) = private_bare r i
private_bare (node k n a r) zero = refl
private_bare (node k n a r) (suc i) = private_bare r i

array_by : (p : Bool) (k : Kind) (n : Note) (a : Forest) → is_array (inner_at 0 (bare a)) ≡ is_array (inner_at 0 a)
    → is_array (if p then get_or (of_each inner_from None (bare a)) 0 None else Some (record { kind = k; note = nowhere; below = bare a }))
    ≡ is_array (if p then get_or (of_each inner_from None a) 0 None else Some (record { kind = k; note = n; below = a }))
array_by true k n a same = same
array_by false k n a same = refl

array_bare : (a : Forest) (i : ℕ) → is_array (inner_at i (bare a)) ≡ is_array (inner_at i a)
array_bare nothing i = refl
array_bare (absent r) zero = refl
array_bare (absent r) (suc i) = array_bare r i
array_bare (node k n a r) (suc i) = array_bare r i
array_bare (node k n a r) zero = array_by (is_parenthesized k) k n a (array_bare a 0)

spread_bare : (a : Forest) → has_spread (bare a) ≡ has_spread a
spread_bare nothing = refl
spread_bare (absent r) = spread_bare r
spread_bare (node k n a r) = ap (λ (b : Bool). is_spread k || b) (spread_bare r)

pub converts_bare : (k : Kind) (a : Forest) → converts_primitives bare_answers k (bare a) ≡ converts_primitives bare_answers k a
converts_bare (kind.UnaryExpression o) a = ap (λ ts. is_silent_unary o (all_primitive ts)) (types_bare a)
converts_bare (kind.BinaryExpression o) a = ap (λ ts. is_silent_binary o (all_primitive ts)) (types_bare a)
converts_bare kind.TemplateLiteral a = ap (λ b. all_primitive (types bare_answers b)) (below_bare a 1) ∙ ap all_primitive (types_bare (substitutions a))
converts_bare k a = refl

entries_bare : (k : Kind) (a : Forest) → runs_entries k (bare a) ≡ runs_entries k a
entries_bare (kind.Property how is_method key) a = ap₂ (λ (p : Bool) ts. is_static key || (p || is_primitive (type_at 0 ts))) (private_bare a 0) (types_bare a)
entries_bare kind.SpreadElement a = array_bare a 0
entries_bare kind.Properties a = ap not (spread_bare a)
entries_bare k a = refl

pub runs_bare : (k : Kind) (a : Forest) → runs_its_parts k (bare a) ≡ runs_its_parts k a
runs_bare k a = ap₂ (λ (b c : Bool). only_runs_parts k || (b || c)) (converts_bare k a) (entries_bare k a)

nothing_bare : (a : Forest) → is_nothing (bare a) ≡ is_nothing a
nothing_bare nothing = refl
nothing_bare (absent r) = refl
nothing_bare (node k n a r) = refl

pub one_name_bare : (a : Forest) → is_one_name (bare a) ≡ is_one_name a
one_name_bare nothing = refl
one_name_bare (absent r) = refl
one_name_bare (node k n a r) = ap₂ (λ (b c : Bool). b && (is_reference k || (is_parenthesized k && c))) (nothing_bare r) (one_name_bare a)
