-- How proofs tell one value from another: a code for each, and no two values have one code.
use Rattle.std.proofs.Common.{◌≡◌, ◌⊎◌, inl, inr, ℕ, ℤ, Bool, true, false, List, ap, refl}
use Rattle.std.specs.Coded.{Coded, code_by, coded×, coded⊎, coded_ℕ, coded_ℤ, coded_bool, coded_list}
use base.Stored.{Gv, gnil, gcons, coded_unit}
use Rattle.js_syntax.specs.Node.{Forest}
use Rattle.js_syntax.specs.Code.{forest_code}
use Rattle.js_syntax.specs.declared.kind.FunctionKind.{FunctionKind}
use Rattle.js_syntax.specs.declared.kind.FunctionKind.TheVariants.{Declaration, Expression, Arrow}
use Rattle.js_meaning.specs.Value.{Text, Slot, local, imported, arguments_object, Bound, bound, Env, PrimitiveKind, a_number, a_bigint, a_symbol, a_string, Plain, undefined, null, boolean, number, text, host, other, ErrorKind, type_error, reference_error, Value, plain, closure, object, array, error, Content, no_content, element, property}

abbrev text_code : Coded Text
text_code = coded_list coded_ℕ

abbrev slot_parts : Slot → (ℕ ⊎ ((Text × Text) ⊎ Unit {0}))
slot_parts (local x) = (inl x)
slot_parts (imported x y) = (inr (inl (x, y)))
slot_parts arguments_object = (inr (inr tt))

abbrev slot_back : (ℕ ⊎ ((Text × Text) ⊎ Unit {0})) → Slot
slot_back (inl p) = local p
slot_back (inr (inl p)) = imported p.0 p.1
slot_back (inr (inr p)) = arguments_object

pub slot_same : (a : Slot) → slot_back (slot_parts a) ≡ a
slot_same (local x) = refl
slot_same (imported x y) = refl
slot_same arguments_object = refl

abbrev slot_code : Coded Slot
slot_code = code_by (ℕ ⊎ ((Text × Text) ⊎ Unit {0})) (coded⊎ coded_ℕ (coded⊎ (coded× text_code text_code) coded_unit)) slot_parts slot_back slot_same

abbrev bound_parts : Bound → (Text × Slot)
bound_parts (bound x y) = (x, y)

abbrev bound_back : (Text × Slot) → Bound
bound_back p = bound p.0 p.1

pub bound_same : (a : Bound) → bound_back (bound_parts a) ≡ a
bound_same (bound x y) = refl

abbrev bound_code : Coded Bound
bound_code = code_by (Text × Slot) (coded× text_code slot_code) bound_parts bound_back bound_same

abbrev pub env_code : Coded Env
env_code = coded_list bound_code

abbrev kind_parts : PrimitiveKind → (Unit {0} ⊎ (Unit {0} ⊎ (Unit {0} ⊎ Unit {0})))
kind_parts a_number = (inl tt)
kind_parts a_bigint = (inr (inl tt))
kind_parts a_symbol = (inr (inr (inl tt)))
kind_parts a_string = (inr (inr (inr tt)))

abbrev kind_back : (Unit {0} ⊎ (Unit {0} ⊎ (Unit {0} ⊎ Unit {0}))) → PrimitiveKind
kind_back (inl p) = a_number
kind_back (inr (inl p)) = a_bigint
kind_back (inr (inr (inl p))) = a_symbol
kind_back (inr (inr (inr p))) = a_string

pub kind_same : (a : PrimitiveKind) → kind_back (kind_parts a) ≡ a
kind_same a_number = refl
kind_same a_bigint = refl
kind_same a_symbol = refl
kind_same a_string = refl

abbrev kind_code : Coded PrimitiveKind
kind_code = code_by (Unit {0} ⊎ (Unit {0} ⊎ (Unit {0} ⊎ Unit {0}))) (coded⊎ coded_unit (coded⊎ coded_unit (coded⊎ coded_unit coded_unit))) kind_parts kind_back kind_same

abbrev plain_parts : Plain → (Unit {0} ⊎ (Unit {0} ⊎ (Bool ⊎ (ℤ ⊎ (Text ⊎ ((ℕ × Bool) ⊎ (ℕ × (PrimitiveKind × Bool))))))))
plain_parts undefined = (inl tt)
plain_parts null = (inr (inl tt))
plain_parts (boolean x) = (inr (inr (inl x)))
plain_parts (number x) = (inr (inr (inr (inl x))))
plain_parts (text x) = (inr (inr (inr (inr (inl x)))))
plain_parts (host x y) = (inr (inr (inr (inr (inr (inl (x, y)))))))
plain_parts (other x y z) = (inr (inr (inr (inr (inr (inr (x, (y, z))))))))

abbrev plain_back : (Unit {0} ⊎ (Unit {0} ⊎ (Bool ⊎ (ℤ ⊎ (Text ⊎ ((ℕ × Bool) ⊎ (ℕ × (PrimitiveKind × Bool)))))))) → Plain
plain_back (inl p) = undefined
plain_back (inr (inl p)) = null
plain_back (inr (inr (inl p))) = boolean p
plain_back (inr (inr (inr (inl p)))) = number p
plain_back (inr (inr (inr (inr (inl p))))) = text p
plain_back (inr (inr (inr (inr (inr (inl p)))))) = host p.0 p.1
plain_back (inr (inr (inr (inr (inr (inr p)))))) = other p.0 p.1.0 p.1.1

pub plain_same : (a : Plain) → plain_back (plain_parts a) ≡ a
plain_same undefined = refl
plain_same null = refl
plain_same (boolean x) = refl
plain_same (number x) = refl
plain_same (text x) = refl
plain_same (host x y) = refl
plain_same (other x y z) = refl

abbrev pub plain_code : Coded Plain
plain_code = code_by (Unit {0} ⊎ (Unit {0} ⊎ (Bool ⊎ (ℤ ⊎ (Text ⊎ ((ℕ × Bool) ⊎ (ℕ × (PrimitiveKind × Bool)))))))) (coded⊎ coded_unit (coded⊎ coded_unit (coded⊎ coded_bool (coded⊎ coded_ℤ (coded⊎ text_code (coded⊎ (coded× coded_ℕ coded_bool) (coded× coded_ℕ (coded× kind_code coded_bool)))))))) plain_parts plain_back plain_same

abbrev function_parts : FunctionKind → (Unit {0} ⊎ (Unit {0} ⊎ Unit {0}))
function_parts Declaration = (inl tt)
function_parts Expression = (inr (inl tt))
function_parts Arrow = (inr (inr tt))

abbrev function_back : (Unit {0} ⊎ (Unit {0} ⊎ Unit {0})) → FunctionKind
function_back (inl p) = Declaration
function_back (inr (inl p)) = Expression
function_back (inr (inr p)) = Arrow

pub function_same : (a : FunctionKind) → function_back (function_parts a) ≡ a
function_same Declaration = refl
function_same Expression = refl
function_same Arrow = refl

abbrev function_code : Coded FunctionKind
function_code = code_by (Unit {0} ⊎ (Unit {0} ⊎ Unit {0})) (coded⊎ coded_unit (coded⊎ coded_unit coded_unit)) function_parts function_back function_same

abbrev error_parts : ErrorKind → (Unit {0} ⊎ Unit {0})
error_parts type_error = (inl tt)
error_parts reference_error = (inr tt)

abbrev error_back : (Unit {0} ⊎ Unit {0}) → ErrorKind
error_back (inl p) = type_error
error_back (inr p) = reference_error

pub error_same : (a : ErrorKind) → error_back (error_parts a) ≡ a
error_same type_error = refl
error_same reference_error = refl

abbrev error_code : Coded ErrorKind
error_code = code_by (Unit {0} ⊎ Unit {0}) (coded⊎ coded_unit coded_unit) error_parts error_back error_same

abbrev mutual
  pub stored : Value → Gv
  stored (plain p) = gcons gnil (plain_code.code p)
  stored (closure i f a env) = gcons (gcons gnil gnil) (gcons (gcons (coded_ℕ.code i) (function_code.code f)) (gcons (forest_code.code a) (env_code.code env)))
  stored (object i c) = gcons (gcons gnil (gcons gnil gnil)) (gcons (coded_ℕ.code i) (stored_content c))
  stored (array i c) = gcons (gcons (gcons gnil gnil) gnil) (gcons (coded_ℕ.code i) (stored_content c))
  stored (error i e) = gcons (gcons (gcons gnil gnil) (gcons gnil gnil)) (gcons (coded_ℕ.code i) (error_code.code e))

  pub stored_content : Content → Gv
  stored_content no_content = gnil
  stored_content (element v c) = gcons gnil (gcons (stored v) (stored_content c))
  stored_content (property k v c) = gcons (gcons gnil (text_code.code k)) (gcons (stored v) (stored_content c))

abbrev first : Gv → Gv
first (gcons a b) = a
first g = g

abbrev second : Gv → Gv
second (gcons a b) = b
second g = g

mutual
  pub stored_inj : (v u : Value) → stored v ≡ stored u → v ≡ u
  stored_inj (plain p) (plain p2) h = ap plain (plain_code.inj p p2 (ap second h))
  stored_inj (plain p) (closure i2 f2 a2 env2) h = absurd (cc h)
  stored_inj (plain p) (object i2 c2) h = absurd (cc h)
  stored_inj (plain p) (array i2 c2) h = absurd (cc h)
  stored_inj (plain p) (error i2 e2) h = absurd (cc h)
  stored_inj (closure i f a env) (plain p2) h = absurd (cc h)
  stored_inj (closure i f a env) (closure i2 f2 a2 env2) h =
      let same_i = coded_ℕ.inj i i2 (ap (λ g. first (first (second g))) h) in
      let same_f = function_code.inj f f2 (ap (λ g. second (first (second g))) h) in
      let same_a = forest_code.inj a a2 (ap (λ g. first (second (second g))) h) in
      let same_env = env_code.inj env env2 (ap (λ g. second (second (second g))) h) in
      λ t. closure (same_i t) (same_f t) (same_a t) (same_env t)
  stored_inj (closure i f a env) (object i2 c2) h = absurd (cc h)
  stored_inj (closure i f a env) (array i2 c2) h = absurd (cc h)
  stored_inj (closure i f a env) (error i2 e2) h = absurd (cc h)
  stored_inj (object i c) (plain p2) h = absurd (cc h)
  stored_inj (object i c) (closure i2 f2 a2 env2) h = absurd (cc h)
  stored_inj (object i c) (object i2 c2) h =
      let same_i = coded_ℕ.inj i i2 (ap (λ g. first (second g)) h) in
      let same_c = stored_content_inj c c2 (ap (λ g. second (second g)) h) in
      λ t. object (same_i t) (same_c t)
  stored_inj (object i c) (array i2 c2) h = absurd (cc h)
  stored_inj (object i c) (error i2 e2) h = absurd (cc h)
  stored_inj (array i c) (plain p2) h = absurd (cc h)
  stored_inj (array i c) (closure i2 f2 a2 env2) h = absurd (cc h)
  stored_inj (array i c) (object i2 c2) h = absurd (cc h)
  stored_inj (array i c) (array i2 c2) h =
      let same_i = coded_ℕ.inj i i2 (ap (λ g. first (second g)) h) in
      let same_c = stored_content_inj c c2 (ap (λ g. second (second g)) h) in
      λ t. array (same_i t) (same_c t)
  stored_inj (array i c) (error i2 e2) h = absurd (cc h)
  stored_inj (error i e) (plain p2) h = absurd (cc h)
  stored_inj (error i e) (closure i2 f2 a2 env2) h = absurd (cc h)
  stored_inj (error i e) (object i2 c2) h = absurd (cc h)
  stored_inj (error i e) (array i2 c2) h = absurd (cc h)
  stored_inj (error i e) (error i2 e2) h =
      let same_i = coded_ℕ.inj i i2 (ap (λ g. first (second g)) h) in
      let same_e = error_code.inj e e2 (ap (λ g. second (second g)) h) in
      λ t. error (same_i t) (same_e t)

  pub stored_content_inj : (c d : Content) → stored_content c ≡ stored_content d → c ≡ d
  stored_content_inj no_content no_content h = refl
  stored_content_inj no_content (element v2 c2) h = absurd (cc h)
  stored_content_inj no_content (property k2 v2 c2) h = absurd (cc h)
  stored_content_inj (element v c) no_content h = absurd (cc h)
  stored_content_inj (element v c) (element v2 c2) h =
      let same_v = stored_inj v v2 (ap (λ g. first (second g)) h) in
      let same_c = stored_content_inj c c2 (ap (λ g. second (second g)) h) in
      λ t. element (same_v t) (same_c t)
  stored_content_inj (element v c) (property k2 v2 c2) h = absurd (cc h)
  stored_content_inj (property k v c) no_content h = absurd (cc h)
  stored_content_inj (property k v c) (element v2 c2) h = absurd (cc h)
  stored_content_inj (property k v c) (property k2 v2 c2) h =
      let same_k = text_code.inj k k2 (ap (λ g. second (first g)) h) in
      let same_v = stored_inj v v2 (ap (λ g. first (second g)) h) in
      let same_c = stored_content_inj c c2 (ap (λ g. second (second g)) h) in
      λ t. property (same_k t) (same_v t) (same_c t)

abbrev pub content_code : Coded Content
content_code = record { code = stored_content; inj = stored_content_inj }
