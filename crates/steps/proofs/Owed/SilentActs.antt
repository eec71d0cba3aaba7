-- What is silent where it stands may not act, where the names around are those that the scopes declare.
use Rattle.std.proofs.Common.{◌≡◌, inl, inr, ℕ, suc, ◌+◌, Bool, true, false, not, ◌||◌, if◌then◌else◌, List, [], ◌∷◌, Option, Some, None, option_map, is_some, bytes_eq, codes, refl, sym, subst, true≢false}
use Rattle.std.proofs.lemmas.Bool.{or_left, or_right}
use Rattle.js_syntax.specs.declared.node_kind.NodeKind.{NodeKind as Kind}
use Rattle.js_syntax.specs.Node.{Forest, nothing, node, absent, Note, alone}
use Rattle.js_meaning.specs.Value.{Text, this_name}
use Rattle.js_meaning.specs.Scope.{bound_names}
use Rattle.steps.specs.Names.{is_among, is_named, acts_at, may_act}
use Rattle.steps.specs.Steps.{Initialiser, no_initialiser, silent_initialiser}
use Rattle.steps.specs.Allowed.Arranged.{is_field}
use Rattle.steps.specs.Allowed.Silent.{IsFound, IsSilentNode, IsSilent}
use Rattle.scope_rules.specs.declared.layer.Layer.{Layer}
use Rattle.scope_rules.specs.Context.{Context, inside}
use Rattle.scope_rules.specs.Site.{BindingSite, opens_one, scope_count}
use Rattle.scope_rules.specs.Binding.{named_in, binding_layer}
use Rattle.js_syntax.specs.declared.operator.UnaryOperator.TheVariants as unary
use Rattle.js_effects.specs.declared.surroundings.Surroundings.{Surroundings}
use Rattle.js_effects.specs.Still.{is_value}
use Rattle.js_effects.specs.Silence.{runs_its_parts}
use Rattle.steps.specs.Naming.Placed.{is_none}
use Rattle.steps.proofs.Naming.Taking.{keeps, kept}
use Rattle.steps.proofs.Owed.KnownNames.{Known}
use Rattle.js_syntax.proofs.Truth.{neither}

-- ---- sorts of nodes

idle_value : (v k r b : Bool) → v ≡ true → (if v || k then false else not r || b) ≡ false
idle_value true k r b e = refl
idle_value false k r b e = absurd (true≢false (sym e))

idle_name : (v k r b : Bool) → k ≡ true → (if v || k then false else not r || b) ≡ false
idle_name true k r b e = refl
idle_name false true r b e = refl
idle_name false false r b e = absurd (true≢false (sym e))

idle_parts : (v k r b : Bool) → r ≡ true → b ≡ false → (if v || k then false else not r || b) ≡ false
idle_parts true k r b e f = refl
idle_parts false true r b e f = refl
idle_parts false false true b e f = f
idle_parts false false false b e f = absurd (true≢false (sym e))

-- what runs its parts makes no scope and declares nothing
parts_keep : (k : Kind) (a : Forest) → runs_its_parts k a ≡ true → keeps k ≡ true
parts_keep (Kind.Program source) a e = absurd (true≢false (sym e))
parts_keep (Kind.Function f pure) a e = absurd (true≢false (sym e))
parts_keep (Kind.Class how) a e = absurd (true≢false (sym e))
parts_keep Kind.StaticBlock a e = absurd (true≢false (sym e))
parts_keep (Kind.PropertyDefinition is_static key) a e = absurd (true≢false (sym e))
parts_keep Kind.BlockStatement a e = absurd (true≢false (sym e))
parts_keep Kind.SwitchStatement a e = absurd (true≢false (sym e))
parts_keep Kind.WithStatement a e = absurd (true≢false (sym e))
parts_keep Kind.CatchClause a e = absurd (true≢false (sym e))
parts_keep Kind.ForStatement a e = absurd (true≢false (sym e))
parts_keep Kind.ForInStatement a e = absurd (true≢false (sym e))
parts_keep Kind.ForOfStatement a e = absurd (true≢false (sym e))
parts_keep (Kind.VariableDeclaration how) a e = absurd (true≢false (sym e))
parts_keep (Kind.ImportDeclaration source) a e = absurd (true≢false (sym e))
parts_keep k a e = refl

-- ---- names

pub no_names : (xs : List Text) → is_none xs ≡ true → xs ≡ []
no_names [] e = refl
no_names (x ∷ xs) e = absurd (true≢false (sym e))

was_some : (x : Text) (o : Option Layer) → is_some (option_map (named_in x) o) ≡ true → is_some o ≡ true
was_some x None e = absurd (true≢false (sym e))
was_some x (Some l) e = refl

module _ (bs : List BindingSite) (names : List Text) (this : is_among names this_name ≡ true) where
  found_named : (w : Surroundings) (c : Context) (k : Kind) (n : Note) (a : Forest) → Known bs names c.layers → IsFound bs w c k n a → is_named names k a ≡ true
  found_named w c (Kind.ReferenceName x) n a h (outside, inl e) = or_left (is_among names x) (bytes_eq x (codes "undefined")) (h x (was_some x (binding_layer bs c.layers x) e))
  found_named w c (Kind.ReferenceName x) n a h (outside, inr e) = or_right (is_among names x) (bytes_eq x (codes "undefined")) e
  found_named w c (Kind.UnaryExpression unary.Typeof) n a h e = e.1
  found_named w c Kind.ThisExpression n a h e = this
  found_named w c k n a h e = absurd e

  silent_node : (w : Surroundings) (c : Context) (k : Kind) (n : Note) (a : Forest) (parts : Type 0) → Known bs names c.layers → (runs_its_parts k a ≡ true → parts → may_act names a ≡ false) → IsSilentNode bs w c k n a parts → acts_at names k a (may_act names a) ≡ false
  silent_node w c k n a parts h below (inl e) = idle_value (is_value k) (is_named names k a) (runs_its_parts k a) (may_act names a) e
  silent_node w c k n a parts h below (inr (inl e)) = idle_name (is_value k) (is_named names k a) (runs_its_parts k a) (may_act names a) (found_named w c k n a h e)
  silent_node w c k n a parts h below (inr (inr e)) = idle_parts (is_value k) (is_named names k a) (runs_its_parts k a) (may_act names a) e.0 (below e.0 e.1)

  pub silent_row : (w : Surroundings) (cs : ℕ → Context) (at next : ℕ) (row : Forest) → ((i : ℕ) → Known bs names (cs i).layers) → IsSilent bs w cs at next row → may_act names row ≡ false
  silent_row w cs at next nothing h s = refl
  silent_row w cs at next (absent r) h s = silent_row w cs (suc at) next r h s
  silent_row w cs at next (node k n a r) h s =
      neither (acts_at names k a (may_act names a)) (may_act names r)
      (silent_node w (cs at) k n a (IsSilent bs w (inside (cs at) next k a) 0 (next + opens_one k a) a) (h at)
      (λ e parts. silent_row w (inside (cs at) next k a) 0 (next + opens_one k a) a (λ i. subst (λ ls. Known bs names ls) (sym (kept (cs at) next k a i (parts_keep k a e)).layers) (h at)) parts)
      s.0)
      (silent_row w cs (suc at) (next + scope_count (node k n a nothing)) r h s.1)

  -- ---- initialisers

  pub initialiser : (w : Surroundings) (cs : ℕ → Context) (at next : ℕ) (value : Forest) → ((i : ℕ) → Known bs names (cs i).layers) → is_field value ≡ true → is_none (bound_names value) ≡ true → IsSilent bs w cs at next value → Initialiser names value
  initialiser w cs at next (absent nothing) h f e s = no_initialiser
  initialiser w cs at next (node k n a nothing) h f e s = silent_initialiser (record { silent = silent_row w cs at next (alone k n a) h s; declares = no_names (bound_names (alone k n a)) e })
  initialiser w cs at next nothing h f e s = absurd (true≢false (sym f))
  initialiser w cs at next (absent (absent r)) h f e s = absurd (true≢false (sym f))
  initialiser w cs at next (absent (node k n a r)) h f e s = absurd (true≢false (sym f))
  initialiser w cs at next (node k n a (absent r)) h f e s = absurd (true≢false (sym f))
  initialiser w cs at next (node k n a (node j m b r)) h f e s = absurd (true≢false (sym f))
