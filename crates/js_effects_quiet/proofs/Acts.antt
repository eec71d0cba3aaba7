-- What has no effects by a context's answers is quiet where these are true, and what a remover takes out has none.
use Rattle.std.proofs.Common.{◌≡◌, ◌⊎◌, inl, inr, List, Bool, true, false, not, ◌||◌, if◌then◌else◌, bytes_eq, codes, refl, sym, true≢false}
use Rattle.std.specs.List.{list_any}
use Rattle.js_syntax.specs.declared.node_kind.NodeKind.{NodeKind as Kind}
use Rattle.js_syntax.specs.declared.kind.ClassKind.TheVariants as class_kind
use Rattle.js_syntax.specs.declared.operator.UnaryOperator.TheVariants as unary
use Rattle.js_syntax.specs.Facts.{is_core}
use Rattle.js_syntax.specs.Node.{Forest, nothing, node, absent, Note}
use Rattle.js_syntax.proofs.Truth.{first_of_both, second_of_both, first_of_neither, second_of_neither, not_true}
use Rattle.js_effects.specs.Answers.{Answers}
use Rattle.js_effects.specs.Still.{is_value}
use Rattle.js_effects.specs.Effects.{is_silent_name, is_typeof_name, is_still, does_nothing, only_runs_parts, converts_primitives, has_silent_key, runs_as_allowed, runs_parts, parts_run, part_acts, acts_from, each_acts, any_acts}
use Rattle.js_meaning.specs.Value.{Text, Env}
use Rattle.js_meaning.specs.State.{normal}
use Rattle.js_meaning.specs.Host.{Enter}
use Rattle.js_meaning.specs.Node.{run, now}
use Rattle.js_meaning.specs.Meaning.{does, if_core, eval}
use Rattle.js_effects_quiet.specs.Quiet.{Quietly, IsNormal}
use Rattle.js_effects_quiet.specs.Silent.{HasBinding, QuietNode, QuietRow, meaning}
use Rattle.js_effects_quiet.specs.Acts.{IsTold, AreTold, AreTrue}
use Rattle.js_effects_quiet.proofs.Quiet.{quiet_done, quiet_unknown, quiet_value}
use Rattle.js_effects_quiet.proofs.Silent.{quiet_need, quiet_kind, quiet_this, quiet_reference, quiet_typeof, quiet_only, quiet_converts, quiet_property, quiet_properties, quiet_core}

-- ---- names and `this`

-- a silent name has a binding, or is `undefined`, where other globals act
known_name : (g u act : Bool) (B : Type 0) → act ≡ true → (not g || (u || not act)) ≡ true → (g ≡ false → B) → B ⊎ (u ≡ true)
known_name false u act B h e bound = inl (bound refl)
known_name true true act B h e bound = inr refl
known_name true false true B h e bound = absurd (true≢false (sym e))
known_name true false false B h e bound = absurd (true≢false (sym h))

module _ (A : Answers) (env : Env) (E : Enter) (true_of : AreTrue A env) where
  quiet_silent_name : (k : Kind) (n : Note) (a : Forest) → is_silent_name A k n ≡ true → IsTold A env k n (AreTold A env a) → QuietNode env (does E k a (eval E a))
  quiet_silent_name (Kind.ReferenceName x) n a e told =
      quiet_reference E env a (eval E a) x
      (known_name (A.names.is_global (Kind.ReferenceName x) n) (bytes_eq x (codes "undefined")) A.effects.unknown_globals_act (HasBinding env x) true_of.globals (second_of_both (not A.effects.inside_with) _ e)
      (told (not_true A.effects.inside_with (first_of_both (not A.effects.inside_with) _ e))))
  quiet_silent_name k n a e told = absurd (true≢false (sym e))

  quiet_typeof_name : (k : Kind) (a : Forest) → is_typeof_name A k a ≡ true → QuietNode env (does E k a (eval E a))
  quiet_typeof_name (Kind.UnaryExpression unary.Typeof) a e = quiet_typeof E env a (second_of_both (not A.effects.inside_with) _ e)
  quiet_typeof_name k a e = absurd (true≢false (sym e))

  quiet_still : (k : Kind) (n : Note) (a : Forest) → is_still A k a ≡ true → IsTold A env k n (AreTold A env a) → QuietNode env (does E k a (eval E a))
  quiet_still Kind.ThisExpression n a e told = quiet_this E env a (eval E a) (true_of.this e)
  quiet_still Kind.StaticBlock n a e told = λ q. quiet_unknown
  quiet_still (Kind.BindingName x) n a e told = absurd told
  quiet_still (Kind.PrivateName x) n a e told = λ q. quiet_unknown
  quiet_still k n a e told = absurd (true≢false (sym e))

  -- ---- what runs its parts

  -- all of them, but of an assignment or a field
  only_all : (k : Kind) (bs : List Bool) → only_runs_parts k ≡ true → part_acts (parts_run k) bs ≡ false → list_any (λ b. b) bs ≡ false
  only_all (Kind.LogicalExpression o) bs e h = h
  only_all Kind.ConditionalExpression bs e h = h
  only_all Kind.SequenceExpression bs e h = h
  only_all Kind.Expressions bs e h = h
  only_all Kind.ParenthesizedExpression bs e h = h
  only_all Kind.ArrayExpression bs e h = h
  only_all Kind.Elements bs e h = h
  only_all Kind.ObjectExpression bs e h = h
  only_all Kind.Quasis bs e h = h
  only_all Kind.ClassBody bs e h = h
  only_all Kind.Members bs e h = h
  only_all k bs e h = absurd (true≢false (sym e))

  converts_all : (k : Kind) (a : Forest) (bs : List Bool) → converts_primitives A k a ≡ true → part_acts (parts_run k) bs ≡ false → list_any (λ b. b) bs ≡ false
  converts_all (Kind.UnaryExpression o) a bs e h = h
  converts_all (Kind.BinaryExpression o) a bs e h = h
  converts_all Kind.TemplateLiteral a bs e h = h
  converts_all k a bs e h = absurd (true≢false (sym e))

  told_only : (k : Kind) (n : Note) (a : Forest) → only_runs_parts k ≡ true → IsTold A env k n (AreTold A env a) → AreTold A env a
  told_only (Kind.ReferenceName x) n a e h = absurd (true≢false (sym e))
  told_only (Kind.BindingName x) n a e h = absurd h
  told_only (Kind.Function f pure) n a e h = absurd (true≢false (sym e))
  told_only (Kind.Class how) n a e h = absurd (true≢false (sym e))
  told_only k n a e h = h

  told_converts : (k : Kind) (n : Note) (a : Forest) → converts_primitives A k a ≡ true → IsTold A env k n (AreTold A env a) → AreTold A env a
  told_converts (Kind.ReferenceName x) n a e h = absurd (true≢false (sym e))
  told_converts (Kind.BindingName x) n a e h = absurd h
  told_converts (Kind.Function f pure) n a e h = absurd (true≢false (sym e))
  told_converts (Kind.Class how) n a e h = absurd (true≢false (sym e))
  told_converts k n a e h = h

  quiet_keyed : (k : Kind) (n : Note) (a : Forest) → has_silent_key A k a ≡ true → part_acts (parts_run k) (each_acts A a) ≡ false → IsTold A env k n (AreTold A env a) → (any_acts A a ≡ false → AreTold A env a → QuietRow env (eval E a)) → QuietNode env (does E k a (eval E a))
  quiet_keyed (Kind.Property how is_method key) n a e h told rows = quiet_property E env a (eval E a) how is_method key (rows h told)
  quiet_keyed (Kind.MethodDefinition how of_class key) n a e h told rows = λ q. quiet_unknown
  quiet_keyed (Kind.PropertyDefinition of_class key) n a e h told rows = λ q. quiet_unknown
  quiet_keyed k n a e h told rows = absurd (true≢false (sym e))

  act_nothing : (act : Bool) → act ≡ true → not act ≡ true → ⊥
  act_nothing true e h = true≢false (sym h)
  act_nothing false e h = true≢false (sym e)

  quiet_allowed : (k : Kind) (n : Note) (a : Forest) → runs_as_allowed A k a ≡ true → part_acts (parts_run k) (each_acts A a) ≡ false → IsTold A env k n (AreTold A env a) → (any_acts A a ≡ false → AreTold A env a → QuietRow env (eval E a)) → QuietNode env (if_core (is_core k) (does E k a (eval E a)))
  quiet_allowed Kind.SpreadElement n a e h told rows = λ q. quiet_unknown
  quiet_allowed Kind.Properties n a e h told rows = quiet_properties E env a (eval E a) (rows h told)
  quiet_allowed (Kind.MemberExpression key optional) n a e h told rows = absurd (act_nothing A.effects.reads_act true_of.reads e)
  quiet_allowed (Kind.AssignmentExpression o) n a e h told rows = absurd (act_nothing A.effects.writes_act true_of.writes (first_of_both (not A.effects.writes_act) _ (second_of_both _ _ e)))
  quiet_allowed (Kind.Class class_kind.Declaration) n a e h told rows = λ q. quiet_unknown
  quiet_allowed (Kind.Class class_kind.Expression) n a e h told rows = λ q. quiet_unknown
  quiet_allowed k n a e h told rows = absurd (true≢false (sym e))

  one_of_four : (a b c d : Bool) → (a || (b || (c || d))) ≡ true → (a ≡ true) ⊎ ((b ≡ true) ⊎ ((c ≡ true) ⊎ (d ≡ true)))
  one_of_four true b c d e = inl refl
  one_of_four false true c d e = inr (inl refl)
  one_of_four false false true d e = inr (inr (inl refl))
  one_of_four false false false d e = inr (inr (inr e))

  quiet_running : (k : Kind) (n : Note) (a : Forest) → runs_parts A k a ≡ true → part_acts (parts_run k) (each_acts A a) ≡ false → IsTold A env k n (AreTold A env a) → (any_acts A a ≡ false → AreTold A env a → QuietRow env (eval E a)) → QuietNode env (if_core (is_core k) (does E k a (eval E a)))
  quiet_running k n a e h told rows = elim (one_of_four (only_runs_parts k) (converts_primitives A k a) (has_silent_key A k a) (runs_as_allowed A k a) e) [
    | inl o ↦ quiet_core env (is_core k) _ (quiet_only E env a (eval E a) k o (rows (only_all k (each_acts A a) o h) (told_only k n a o told)))
    | inr (inl c) ↦ quiet_core env (is_core k) _ (quiet_converts A E env a (eval E a) k c (rows (converts_all k a (each_acts A a) c h) (told_converts k n a c told)))
    | inr (inr (inl s)) ↦ quiet_core env (is_core k) _ (quiet_keyed k n a s h told rows)
    | inr (inr (inr w)) ↦ quiet_allowed k n a w h told rows
  ]

  -- ---- rows

  either : (d r b : Bool) → (if d then false else not r || b) ≡ false → (d ≡ true) ⊎ ((r ≡ true) × (b ≡ false))
  either true r b e = inl refl
  either false true b e = inr (refl, e)
  either false false b e = absurd (true≢false e)

  quiet_at : (k : Kind) (n : Note) (a : Forest) → acts_from A k n a (each_acts A a) ≡ false → IsTold A env k n (AreTold A env a) → (any_acts A a ≡ false → AreTold A env a → QuietRow env (eval E a)) → QuietNode env (if_core (is_core k) (does E k a (eval E a)))
  quiet_at k n a e told rows = elim (either (does_nothing A k n a) (runs_parts A k a) (part_acts (parts_run k) (each_acts A a)) e) [
    | inl d ↦ quiet_core env (is_core k) _ (elim (one_of_four (is_value k) (is_silent_name A k n) (is_typeof_name A k a) (is_still A k a) d) [
      | inl v ↦ quiet_kind E env a (eval E a) k v
      | inr (inl s) ↦ quiet_silent_name k n a s told
      | inr (inr (inl y)) ↦ quiet_typeof_name k a y
      | inr (inr (inr s)) ↦ quiet_still k n a s told
    ])
    | inr r ↦ quiet_running k n a r.0 r.1 told rows
  ]

  pub quiet_acts : (t : Forest) → any_acts A t ≡ false → AreTold A env t → QuietRow env (eval E t)
  unfolding eval
  quiet_acts nothing e told = tt
  quiet_acts (absent r) e told = (tt, quiet_acts r e told)
  quiet_acts (node k n a r) e told =
      (quiet_at k n a (first_of_neither (acts_from A k n a (each_acts A a)) (any_acts A r) e) told.0 (quiet_acts a), quiet_acts r (second_of_neither (acts_from A k n a (each_acts A a)) (any_acts A r) e) told.1)

  pub quiet_acting_statement : (a : Forest) (ls : List Text) → any_acts A a ≡ false → AreTold A env a → Quietly IsNormal (meaning E Kind.ExpressionStatement a (run ls) env)
  quiet_acting_statement a ls e told = quiet_need env (eval E a) (quiet_acts a e told) (λ m r g gs. quiet_value (g now) (λ v. quiet_done normal tt))
