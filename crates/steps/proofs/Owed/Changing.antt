-- Where nothing may change, nothing does.
use Rattle.std.proofs.Common.{◌≡◌, ◌∙◌, ◌⊎◌, inl, inr, ℕ, suc, Bool, true, false, not, ◌||◌, ◌&&◌, Some, refl, sym, ap, ap₂, true≢false}
use Rattle.std.proofs.lemmas.Bool.{or_cases}
use Rattle.js_syntax.specs.declared.node_kind.NodeKind.{NodeKind as Kind}
use Rattle.js_syntax.specs.declared.node_kind.NodeKind.TheVariants as kind
use Rattle.js_syntax.specs.declared.kind.FunctionKind.TheVariants as function_kind
use Rattle.js_syntax.specs.Node.{Forest, Tree, Note, nothing, node, absent, bare}
use Rattle.form_rules.specs.Samples.{a}
use Rattle.min_pass.specs.declared.around.Around.{Around as Asked}
use Rattle.min_pass.specs.Around.{entered as asked_below, outermost as asked_of_program}
use Rattle.scope_laws.specs.Place.{Around, first, behind, behind_none, under, plug}
use Rattle.steps.specs.Allowed.Places.{a_node, asked_at, has_node}
use Rattle.steps.specs.Owed.Owed.{MayChange, MayAround, IsIdleItem}
use Rattle.js_meaning_near.specs.Near.{Glance, glance_below, glance_behind, is_any, cuts_by, cuts_so, row_cuts, cuts_off}
use Rattle.min_pass.specs.declared.around.Row.TheVariants.{Items as items}
use Rattle.steps.specs.Allowed.IdleBody.{has_body, stands_as_body, IsBody}
use Rattle.steps.specs.Allowed.Unreached.{is_behind_jump}
use Rattle.steps.specs.Allowed.Untaken.{begins_untaken, runs_inside, led_by}
use Rattle.steps.specs.Allowed.UnrunValue.{passes}
use Rattle.steps.proofs.Owed.Calling.{bare_begins}
use Rattle.steps.proofs.Owed.EmptyBlock.{bare_idles}
use Rattle.steps.proofs.Owed.ExposedBare.{bare_inside, bare_below, bare_exposed}
use Rattle.steps.specs.Allowed.Exposure.{Exposure, exposed_inside, exposed_of, exposed_at, exposure, evaluates_somewhere}
use Rattle.steps.specs.Allowed.Changing.{holds_items, ends_before, may_change_at, may_change, may_change_somewhere}
use Rattle.steps.proofs.Owed.Calling.{bare_begins}
use Rattle.steps.proofs.Owed.ExposedBare.{bare_inside, bare_below, bare_exposed}
use Rattle.js_syntax.proofs.Truth.{both, first_of_both, first_of_either, second_of_either}

-- ---- a change is one that may be

stands_there : (a : Around) (x : Tree) → has_node (plug a (Some x)) ≡ true
stands_there (first rest) x = refl
stands_there (behind k n below a) x = refl
stands_there (behind_none a) x = stands_there a x
stands_there (under k n a rest) x = refl

module _ (evaluates : Bool) where
  abbrev may_here : Asked → (ℕ → Exposure) → ℕ → Kind → Forest → Bool
  may_here w es at k below = may_change_at evaluates w (es at) k below || may_change evaluates (asked_below w k) (exposed_inside (es at) k below) 0 below

  later_may : (w : Asked) (es : ℕ → Exposure) (at : ℕ) (k : Kind) (below rest : Forest) → may_change evaluates w es (suc at) rest ≡ true
      → (may_here w es at k below || (ends_before w.row k below rest || may_change evaluates w es (suc at) rest)) ≡ true
  later_may w es at k below rest e =
      second_of_either (may_here w es at k below) (ends_before w.row k below rest || may_change evaluates w es (suc at) rest) (second_of_either (ends_before w.row k below rest) (may_change evaluates w es (suc at) rest) e)

  here_may : (w : Asked) (es : ℕ → Exposure) (at : ℕ) (k : Kind) (below rest : Forest) → ends_before w.row k below rest ≡ true
      → (may_here w es at k below || (ends_before w.row k below rest || may_change evaluates w es (suc at) rest)) ≡ true
  here_may w es at k below rest e =
      second_of_either (may_here w es at k below) (ends_before w.row k below rest || may_change evaluates w es (suc at) rest) (first_of_either (ends_before w.row k below rest) (may_change evaluates w es (suc at) rest) e)

  inner_may : (w : Asked) (es : ℕ → Exposure) (at : ℕ) (k : Kind) (below rest : Forest) → may_change evaluates (asked_below w k) (exposed_inside (es at) k below) 0 below ≡ true
      → (may_here w es at k below || (ends_before w.row k below rest || may_change evaluates w es (suc at) rest)) ≡ true
  inner_may w es at k below rest e =
      first_of_either (may_here w es at k below) (ends_before w.row k below rest || may_change evaluates w es (suc at) rest)
      (second_of_either (may_change_at evaluates w (es at) k below) (may_change evaluates (asked_below w k) (exposed_inside (es at) k below) 0 below) e)

  at_place : (w : Asked) (es : ℕ → Exposure) (at : ℕ) (a : Around) (k : Kind) (n : Note) (below : Forest) → may_change_at evaluates (asked_at w a) (exposed_at es at a (a_node k n below)) k below ≡ true
      → may_change evaluates w es at (plug a (a_node k n below)) ≡ true
  at_place w es at (first rest) k n below e =
      first_of_either (may_change_at evaluates w (es at) k below || may_change evaluates (asked_below w k) (exposed_inside (es at) k below) 0 below) (ends_before w.row k below rest || may_change evaluates w es (suc at) rest)
      (first_of_either (may_change_at evaluates w (es at) k below) (may_change evaluates (asked_below w k) (exposed_inside (es at) k below) 0 below) e)
  at_place w es at (behind j m b a) k n below e =
      let x = a_node k n below in
      later_may w es at j b (plug a x) (at_place w es (suc at) a k n below e)
  at_place w es at (behind_none a) k n below e = at_place w es (suc at) a k n below e
  at_place w es at (under j m a rest) k n below e =
      let p = plug a (a_node k n below) in
      inner_may w es at j p rest (at_place (asked_below w j) (exposed_inside (es at) j p) 0 a k n below e)

  -- an item behind a jump, which stands before it in the row or before this part of that
  jump_there : (w : Asked) (es : ℕ → Exposure) (at : ℕ) (a : Around) (x : Tree) (jumped : Bool) → (asked_at w a).row ≡ items → is_behind_jump jumped a ≡ true
      → ((jumped ≡ true) × (w.row ≡ items)) ⊎ (may_change evaluates w es at (plug a (Some x)) ≡ true)
  jump_there w es at (first rest) x jumped item e = inl (e, item)
  jump_there w es at (behind k n below a) x jumped item e =
      elim (jump_there w es (suc at) a x (jumped || cuts_off k below) item e) [
        | inl found ↦ elim (or_cases jumped (cuts_off k below) found.0) [
          | inl before ↦ inl (before, found.1)
          | inr jump ↦ inr (here_may w es at k below (plug a (Some x)) (both (holds_items w.row) (cuts_off k below && has_node (plug a (Some x))) (ap holds_items found.1) (both (cuts_off k below) (has_node (plug a (Some x))) jump (stands_there a x))))
        ]
        | inr may ↦ inr (later_may w es at k below (plug a (Some x)) may)
      ]
  jump_there w es at (behind_none a) x jumped item e = jump_there w es (suc at) a x jumped item e
  jump_there w es at (under k n a rest) x jumped item e =
      elim (jump_there (asked_below w k) (exposed_inside (es at) k (plug a (Some x))) 0 a x false item e) [
        | inl found ↦ absurd (true≢false (sym found.0))
        | inr may ↦ inr (inner_may w es at k (plug a (Some x)) rest may)
      ]

  -- an item of a branch that isn't taken: the `if` around may change
  if_may : (w : Asked) (e : Exposure) (k : Kind) (a : Around) (below : Forest) → begins_untaken k a ≡ true → may_change_at evaluates w e k below ≡ true
  if_may w e kind.IfStatement a below h = refl
  if_may w e k a below h = absurd (true≢false (sym h))

  -- the body of a statement: that may change
  with_body_may : (w : Asked) (e : Exposure) (k : Kind) (below : Forest) → has_body k ≡ true → may_change_at evaluates w e k below ≡ true
  with_body_may w e kind.IfStatement below h = refl
  with_body_may w e kind.WithStatement below h = refl
  with_body_may w e kind.WhileStatement below h = refl
  with_body_may w e kind.DoWhileStatement below h = refl
  with_body_may w e kind.ForStatement below h = refl
  with_body_may w e kind.ForInStatement below h = refl
  with_body_may w e kind.ForOfStatement below h = refl
  with_body_may w e k below h = absurd (true≢false (sym h))

  body_there : (w : Asked) (es : ℕ → Exposure) (at : ℕ) (a : Around) (x : Tree) (begun : Bool) → stands_as_body begun a ≡ true → (begun ≡ true) ⊎ (may_change evaluates w es at (plug a (Some x)) ≡ true)
  body_there w es at (first rest) x begun e = inl e
  body_there w es at (behind k n below a) x begun e =
      elim (body_there w es (suc at) a x begun e) [
        | inl found ↦ inl found
        | inr may ↦ inr (later_may w es at k below (plug a (Some x)) may)
      ]
  body_there w es at (behind_none a) x begun e = body_there w es (suc at) a x begun e
  body_there w es at (under k n a rest) x begun e =
      let t = plug a (Some x) in
      elim (body_there (asked_below w k) (exposed_inside (es at) k t) 0 a x (has_body k) e) [
        | inl found ↦ inr (first_of_either (may_here w es at k t) (ends_before w.row k t rest || may_change evaluates w es (suc at) rest) (first_of_either (may_change_at evaluates w (es at) k t) (may_change evaluates (asked_below w k) (exposed_inside (es at) k t) 0 t) (with_body_may w (es at) k t found)))
        | inr may ↦ inr (inner_may w es at k t rest may)
      ]

  untaken_there : (passes : Kind → Bool) (w : Asked) (es : ℕ → Exposure) (at : ℕ) (a : Around) (x : Tree) (untaken : Bool) → led_by passes untaken a ≡ true → (untaken ≡ true) ⊎ (may_change evaluates w es at (plug a (Some x)) ≡ true)
  untaken_there passes w es at (first rest) x untaken e = inl e
  untaken_there passes w es at (behind k n below a) x untaken e =
      elim (untaken_there passes w es (suc at) a x untaken e) [
        | inl found ↦ inl found
        | inr may ↦ inr (later_may w es at k below (plug a (Some x)) may)
      ]
  untaken_there passes w es at (behind_none a) x untaken e = untaken_there passes w es (suc at) a x untaken e
  untaken_there passes w es at (under k n a rest) x untaken e =
      let t = plug a (Some x) in
      elim (untaken_there passes (asked_below w k) (exposed_inside (es at) k t) 0 a x (untaken && passes k || begins_untaken k a) e) [
        | inl found ↦ elim (or_cases (untaken && passes k) (begins_untaken k a) found) [
          | inl around ↦ inl (first_of_both untaken (passes k) around)
          | inr here ↦ inr (first_of_either (may_here w es at k t) (ends_before w.row k t rest || may_change evaluates w es (suc at) rest) (first_of_either (may_change_at evaluates w (es at) k t) (may_change evaluates (asked_below w k) (exposed_inside (es at) k t) 0 t) (if_may w (es at) k a t here)))
        ]
        | inr may ↦ inr (inner_may w es at k t rest may)
      ]

somewhere : (a : Around) (k : Kind) (n : Note) (below : Forest)
    → may_change_at (evaluates_somewhere (plug a (a_node k n below))) (asked_at (asked_of_program true) a) (exposure a (a_node k n below)) k below ≡ true → may_change_somewhere (plug a (a_node k n below)) ≡ true
somewhere a k n below e = let t = plug a (a_node k n below) in at_place (evaluates_somewhere t) (asked_of_program true) (exposed_of t) 0 a k n below e

led_may_change : (passes : Kind → Bool) (a : Around) (x : Tree) → led_by passes false a ≡ true → may_change_somewhere (plug a (Some x)) ≡ true
led_may_change passes a x untaken =
    let t = plug a (Some x) in
    elim (untaken_there (evaluates_somewhere t) passes (asked_of_program true) (exposed_of t) 0 a x false untaken) [
      | inl e ↦ absurd (true≢false (sym e))
      | inr may ↦ may
    ]

body_may_change : (a : Around) (x : Tree) → IsBody a → may_change_somewhere (plug a (Some x)) ≡ true
body_may_change a x body =
    let t = plug a (Some x) in
    elim (body_there (evaluates_somewhere t) (asked_of_program true) (exposed_of t) 0 a x false body) [
      | inl e ↦ absurd (true≢false (sym e))
      | inr may ↦ may
    ]

-- by shape
pub owed_may_change : (a : Around) (x : Tree) → MayChange a x → may_change_somewhere (plug a (Some x)) ≡ true
owed_may_change a x may = somewhere a x.kind x.note x.below may

pub node_may_change : (a : Around) (x : Tree) → MayChange a x ⊎ MayAround a → may_change_somewhere (plug a (Some x)) ≡ true
node_may_change a x (inl may) = owed_may_change a x may
node_may_change a x (inr (inl unrun)) = led_may_change passes a x unrun
node_may_change a x (inr (inr body)) = body_may_change a x body

pub item_may_change : (a : Around) (x : Tree) → MayChange a x ⊎ IsIdleItem a → may_change_somewhere (plug a (Some x)) ≡ true
item_may_change a x (inl may) = owed_may_change a x may
item_may_change a x (inr (item, inl jump)) =
    let t = plug a (Some x) in
    elim (jump_there (evaluates_somewhere t) (asked_of_program true) (exposed_of t) 0 a x false item jump) [
      | inl e ↦ absurd (true≢false (sym e.0))
      | inr may ↦ may
    ]
item_may_change a x (inr (item, inr untaken)) = led_may_change runs_inside a x untaken

-- ---- spans and ids don't tell

bare_has : (t : Forest) → has_node (bare t) ≡ has_node t
bare_has nothing = refl
bare_has (node k n below rest) = refl
bare_has (absent rest) = bare_has rest

bare_at : (evaluates : Bool) (w : Asked) (e : Exposure) (k : Kind) (below : Forest) → may_change_at evaluates w e k (bare below) ≡ may_change_at evaluates w e k below
bare_at evaluates w e kind.ExpressionStatement below = ap not (bare_begins below)
bare_at evaluates w e kind.BlockStatement below = ap (λ b. holds_items w.row && b) (bare_idles below)
bare_at evaluates w e (kind.Function function_kind.Declaration pure) below = refl
bare_at evaluates w e k below = refl

row_cuts_bare : (g : Glance) (t : Forest) → row_cuts g (bare t) ≡ row_cuts g t
row_cuts_bare g nothing = refl
row_cuts_bare g (absent rest) = ap (λ b. is_any g && b) (row_cuts_bare g rest)
row_cuts_bare g (node k n below rest) = ap₂ (λ b c. cuts_by g (cuts_so k b) c) (row_cuts_bare (glance_below k) below) (row_cuts_bare (glance_behind g) rest)

-- notes don't matter
pub cuts_bare : (k : Kind) (t : Forest) → cuts_off k (bare t) ≡ cuts_off k t
cuts_bare k t = ap (cuts_so k) (row_cuts_bare (glance_below k) t)

bare_row : (evaluates : Bool) (w : Asked) (es fs : ℕ → Exposure) (at : ℕ) (t : Forest) → ((i : ℕ) → es i ≡ fs i) → may_change evaluates w es at (bare t) ≡ may_change evaluates w fs at t
bare_row evaluates w es fs at nothing s = refl
bare_row evaluates w es fs at (absent rest) s = bare_row evaluates w es fs (suc at) rest s
bare_row evaluates w es fs at (node k n below rest) s =
    ap₂ (λ b c. b || c)
    (ap₂ (λ b c. b || c) (bare_at evaluates w (es at) k below ∙ ap (λ e. may_change_at evaluates w e k below) (s at))
    (bare_row evaluates (asked_below w k) (exposed_inside (es at) k (bare below)) (exposed_inside (fs at) k below) 0 below (λ i. bare_inside k (es at) below i ∙ ap (λ e. exposed_inside e k below i) (s at))))
    (ap₂ (λ b c. b || c) (ap₂ (λ c b. holds_items w.row && (c && b)) (cuts_bare k below) (bare_has rest)) (bare_row evaluates w es fs (suc at) rest s))

pub bare_changes : (t : Forest) → may_change_somewhere (bare t) ≡ may_change_somewhere t
bare_changes t =
    ap (λ b. may_change b (asked_of_program true) (exposed_of (bare t)) 0 (bare t)) (bare_below t)
    ∙ bare_row (evaluates_somewhere t) (asked_of_program true) (exposed_of (bare t)) (exposed_of t) 0 t (bare_exposed t)
