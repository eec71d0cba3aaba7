-- What a remover takes for silent has no effects by the answers of a context.
use Rattle.std.proofs.Common.{◌≡◌, ◌∙◌, inl, inr, ℕ, List, Bool, true, false, not, ◌&&◌, ◌||◌, Option, Some, None, if◌then◌else◌, bytes_eq, codes, refl, sym, ap, subst, true≢false}
use Rattle.std.specs.List.{list_any}
use Rattle.js_syntax.specs.declared.node_kind.NodeKind.{NodeKind as Kind}
use Rattle.js_syntax.specs.declared.operator.UnaryOperator.TheVariants as unary
use Rattle.js_syntax.specs.Node.{Forest, nothing, node, absent, Note}
use Rattle.js_syntax.proofs.Truth.{neither, first_of_neither, second_of_neither}
use Rattle.js_effects.specs.declared.surroundings.Surroundings.{Surroundings}
use Rattle.js_effects.specs.declared.value.ValueType.{ValueType}
use Rattle.js_effects.specs.declared.value.ValueType.TheVariants.{Undefined, Undetermined}
use Rattle.js_effects.specs.Answers.{Answers, bare_answers}
use Rattle.js_effects.specs.Each.{inner_at, child_of}
use Rattle.js_effects.proofs.Alike.{same_types}
use Rattle.js_effects.specs.Kinds.{is_named_undefined, type_by_number, type_of_name, types, type_at, all_primitive, is_primitive}
use Rattle.js_effects.specs.Still.{is_value}
use Rattle.js_effects.specs.Effects.{is_name, is_silent_name, is_typeof_name, is_still, does_nothing, only_runs_parts, substitutions, is_silent_unary, is_silent_binary, converts_primitives, is_private, is_static, runs_as_allowed, runs_parts, parts_run, part_acts, acts_from, each_acts, any_acts}
use Rattle.js_effects.specs.Silence.{runs_entries, runs_its_parts, is_marked, is_known_name, is_this, is_known, has_effect, may_have_effects}
use Rattle.js_effects_quiet.specs.Acts.{marked_answers}
use Rattle.js_effects_quiet.proofs.Silent.{one_name, one_of_three}
use Rattle.js_effects.proofs.Sorts.{by_sort, known_by}

-- ---- types, where no name has one

no_type : (o : Option ℕ) → type_by_number (λ i. None) o ≡ Undetermined
no_type (Some i) = refl
no_type None = refl

not_global : (w u m : Bool) (t : ValueType) → t ≡ Undetermined → (if w then Undetermined else if u && not (m || u) then Undefined else t) ≡ Undetermined
not_global true u m t e = refl
not_global false false m t e = e
not_global false true true t e = e
not_global false true false t e = e

never_global : (u : Bool) (t : ValueType) → t ≡ Undetermined → (if u && false then Undefined else t) ≡ Undetermined
never_global true t e = e
never_global false t e = e

module _ (bound : List Bool) (s : Surroundings) where
  abbrev A : Answers
  A = marked_answers bound s

  same_name : (k : Kind) (n : Note) → type_of_name bare_answers k n ≡ type_of_name A k n
  same_name k n = never_global (is_named_undefined k) _ (no_type n.id) ∙ sym (not_global s.in_with (is_named_undefined k) (is_marked bound n.id) _ (no_type n.id))

  same : (t : Forest) → types bare_answers t ≡ types A t
  same t = same_types bare_answers A same_name t

  -- ---- what runs its parts

  converts_too : (k : Kind) (a : Forest) → converts_primitives bare_answers k a ≡ true → converts_primitives A k a ≡ true
  converts_too (Kind.UnaryExpression o) a e = subst (λ ts. is_silent_unary o (all_primitive ts) ≡ true) (same a) e
  converts_too (Kind.BinaryExpression o) a e = subst (λ ts. is_silent_binary o (all_primitive ts) ≡ true) (same a) e
  converts_too Kind.TemplateLiteral a e = subst (λ ts. all_primitive ts ≡ true) (same (substitutions a)) e
  converts_too k a e = absurd (true≢false (sym e))

  in_third : (a b c : Bool) → c ≡ true → (a || (b || c)) ≡ true
  in_third true b c e = refl
  in_third false true c e = refl
  in_third false false c e = e

  in_fourth : (a b c d : Bool) → d ≡ true → (a || (b || (c || d))) ≡ true
  in_fourth true b c d e = refl
  in_fourth false b c d e = in_third b c d e

  in_second : (a b c : Bool) → b ≡ true → (a || (b || c)) ≡ true
  in_second true b c e = refl
  in_second false true c e = refl
  in_second false false c e = absurd (true≢false (sym e))

  in_first : (a b : Bool) → a ≡ true → (a || b) ≡ true
  in_first true b e = refl
  in_first false b e = absurd (true≢false (sym e))

  entries_too : (k : Kind) (a : Forest) → runs_entries k a ≡ true → runs_parts A k a ≡ true
  entries_too (Kind.Property how is_method key) a e =
      in_third (only_runs_parts (Kind.Property how is_method key)) (converts_primitives A (Kind.Property how is_method key) a) _
      (in_first _ (runs_as_allowed A (Kind.Property how is_method key) a) (subst (λ ts. (is_static key || (is_private (child_of a 0) || is_primitive (type_at 0 ts))) ≡ true) (same a) e))
  entries_too Kind.SpreadElement a e = e
  entries_too Kind.Properties a e = e
  entries_too k a e = absurd (true≢false (sym e))

  runs_too : (k : Kind) (a : Forest) → runs_its_parts k a ≡ true → runs_parts A k a ≡ true
  runs_too k a e = elim (one_of_three (only_runs_parts k) (converts_primitives bare_answers k a) (runs_entries k a) e) [
    | inl h ↦ in_first (only_runs_parts k) _ h
    | inr (inl h) ↦ in_second (only_runs_parts k) (converts_primitives A k a) _ (converts_too k a h)
    | inr (inr h) ↦ entries_too k a h
  ]

  -- neither an assignment nor a field
  all_run : (k : Kind) (a : Forest) (bs : List Bool) → runs_its_parts k a ≡ true → list_any (λ b. b) bs ≡ false → part_acts (parts_run k) bs ≡ false
  all_run (Kind.PropertyDefinition of_class key) a bs e h = absurd (true≢false (sym e))
  all_run (Kind.AssignmentExpression o) a bs e h = absurd (true≢false (sym e))
  all_run k a bs e h = h

  -- ---- rows

  idle_first : (v d x : Bool) → v ≡ true → (if v || d then false else x) ≡ false
  idle_first true d x e = refl
  idle_first false d x e = absurd (true≢false (sym e))

  idle_second : (v d c x : Bool) → d ≡ true → (if v || (d || c) then false else x) ≡ false
  idle_second true d c x e = refl
  idle_second false true c x e = refl
  idle_second false false c x e = absurd (true≢false (sym e))

  idle_third : (v d y c x : Bool) → y ≡ true → (if v || (d || (y || c)) then false else x) ≡ false
  idle_third true d y c x e = refl
  idle_third false true y c x e = refl
  idle_third false false true c x e = refl
  idle_third false false false c x e = absurd (true≢false (sym e))

  idle_parts : (d r b : Bool) → r ≡ true → b ≡ false → (if d then false else not r || b) ≡ false
  idle_parts true r b e f = refl
  idle_parts false true b e f = f
  idle_parts false false b e f = absurd (true≢false (sym e))

  idle_fourth : (v d y c x : Bool) → c ≡ true → (if v || (d || (y || c)) then false else x) ≡ false
  idle_fourth true d y c x e = refl
  idle_fourth false true y c x e = refl
  idle_fourth false false true c x e = refl
  idle_fourth false false false true x e = refl
  idle_fourth false false false false x e = absurd (true≢false (sym e))

  a_name : (v m u g : Bool) → v ≡ false → (m || u) ≡ true → (not v && (not (not (m || u)) || g)) ≡ true
  a_name true m u g e f = absurd (true≢false e)
  a_name false true u g e f = refl
  a_name false false true g e f = refl
  a_name false false false g e f = absurd (true≢false (sym f))

  outside : (v b : Bool) → v ≡ false → b ≡ true → (not v && b) ≡ true
  outside true b e f = absurd (true≢false e)
  outside false b e f = f

  name_acts_not : (k : Kind) (n : Note) (a : Forest) → s.in_with ≡ false → is_known_name bound k n a ≡ true → acts_from A k n a (each_acts A a) ≡ false
  name_acts_not (Kind.ReferenceName x) n a e f =
      idle_second false (is_silent_name A (Kind.ReferenceName x) n) (is_typeof_name A (Kind.ReferenceName x) a || is_still A (Kind.ReferenceName x) a) _ (a_name s.in_with (is_marked bound n.id) (bytes_eq x (codes "undefined")) _ e f)
  name_acts_not (Kind.UnaryExpression unary.Typeof) n a e f =
      idle_third false (is_silent_name A (Kind.UnaryExpression unary.Typeof) n) (is_typeof_name A (Kind.UnaryExpression unary.Typeof) a) (is_still A (Kind.UnaryExpression unary.Typeof) a) _ (outside s.in_with (is_name (inner_at 0 a)) e (one_name a f))
  name_acts_not k n a e f = absurd (true≢false (sym f))

  this_acts_not : (k : Kind) (n : Note) (a : Forest) → s.in_class ≡ false → is_this k ≡ true → acts_from A k n a (each_acts A a) ≡ false
  this_acts_not Kind.ThisExpression n a e f = idle_fourth false (is_silent_name A Kind.ThisExpression n) (is_typeof_name A Kind.ThisExpression a) (is_still A Kind.ThisExpression a) _ (ap not e)
  this_acts_not k n a e f = absurd (true≢false (sym f))

  known_acts_not : (k : Kind) (n : Note) (a : Forest) → is_known bound s k n a ≡ true → acts_from A k n a (each_acts A a) ≡ false
  known_acts_not k n a e = elim (known_by bound s k n a e) [
    | inl b ↦ name_acts_not k n a b.0 b.1
    | inr b ↦ this_acts_not k n a b.0 b.1
  ]

  acts_not : (k : Kind) (n : Note) (a : Forest) → has_effect bound s k n a (may_have_effects bound s a) ≡ false → (may_have_effects bound s a ≡ false → any_acts A a ≡ false) → acts_from A k n a (each_acts A a) ≡ false
  acts_not k n a e below = elim (by_sort (is_value k) (is_known bound s k n a) (runs_its_parts k a) (may_have_effects bound s a) e) [
    | inl v ↦ idle_first (is_value k) _ _ v
    | inr (inl b) ↦ known_acts_not k n a b
    | inr (inr r) ↦ idle_parts (does_nothing A k n a) (runs_parts A k a) (part_acts (parts_run k) (each_acts A a)) (runs_too k a r.0) (all_run k a (each_acts A a) r.0 (below r.1))
  ]

  pub taken : (t : Forest) → may_have_effects bound s t ≡ false → any_acts A t ≡ false
  taken nothing e = refl
  taken (absent r) e = taken r e
  taken (node k n a r) e =
      neither (acts_from A k n a (each_acts A a)) (any_acts A r)
      (acts_not k n a (first_of_neither (has_effect bound s k n a (may_have_effects bound s a)) (may_have_effects bound s r) e) (taken a))
      (taken r (second_of_neither (has_effect bound s k n a (may_have_effects bound s a)) (may_have_effects bound s r) e))
