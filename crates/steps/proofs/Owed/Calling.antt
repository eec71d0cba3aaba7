-- No edit takes a call out of a program's own list.
use Rattle.std.proofs.Common.{◌≡◌, ◌≤◌, ◌⊎◌, subst, ◌∙◌, ◌+◌, ℕ, suc, List, Bool, true, false, true≢false, ◌||◌, Option, Some, inl, inr, arith, refl, sym, ap, ap₂, if◌then◌else◌}
use Rattle.js_syntax.specs.declared.node_kind.NodeKind.{NodeKind as Kind}
use Rattle.js_syntax.specs.declared.node_kind.NodeKind.TheVariants.{Program as program, Statements as statements, ExpressionStatement as expression_statement, CallExpression as call_expression}
use Rattle.js_syntax.specs.Node.{Forest, Tree, Note, nothing, node, absent, alone, bare}
use Rattle.min_pass.specs.declared.around.Around.{Around as Asked}
use Rattle.min_pass.specs.declared.around.Row.{Row}
use Rattle.min_pass.specs.declared.around.Row.TheVariants.{Items as items, Declarators as item_declarators}
use Rattle.min_pass.specs.Around.{entered as asked_below, outermost as asked_of_program, is_with}
use Rattle.js_effects.specs.declared.surroundings.Surroundings.{Surroundings}
use Rattle.scope_rules.specs.Context.{Context, inside}
use Rattle.scope_rules.specs.Site.{BindingSite, opens_one, scope_count}
use Rattle.scope_laws.specs.Place.{Around, first, behind, behind_none, under, plug}
use Rattle.scope_laws.specs.Lists.{without}
use Rattle.steps.specs.Allowed.Silent.{IsSilentBelow, HoldsThere}
use Rattle.steps.specs.Allowed.Imports.{ImportRow, in_names, elsewhere, import_row_below, import_row}
use Rattle.steps.specs.Allowed.Places.{asked_at}
use Rattle.steps.specs.Allowed.Unreached.{is_behind_jump}
use Rattle.steps.specs.Allowed.Untaken.{begins_untaken, is_untaken}
use Rattle.steps.specs.Allowed.UnrunValue.{is_value_of, is_value}
use Rattle.steps.specs.Owed.Owed.{IsOther, IsUncalled, Uncounted}
use Rattle.js_meaning_near.specs.Near.{cuts_off}
use Rattle.std.proofs.lemmas.Bool.{or_cases}
use Rattle.steps.specs.Allowed.Calls.{is_call, begins_with_call, counted, may_end, calls_in, of_list, calls_listed, of_program, root_calls}

zero_plus : (n : ℕ) → 0 + n ≡ n
zero_plus n = omega arith

-- ---- spans and ids don't count

pub bare_begins : (t : Forest) → begins_with_call (bare t) ≡ begins_with_call t
bare_begins nothing = refl
bare_begins (node k n below rest) = refl
bare_begins (absent rest) = refl

bare_calls : (t : Forest) → calls_in (bare t) ≡ calls_in t
bare_calls nothing = refl
bare_calls (node k n below rest) = ap₂ (λ b m. counted k b + (if may_end k then 0 else m)) (bare_begins below) (bare_calls rest)
bare_calls (absent rest) = bare_calls rest

bare_listed : (t : Forest) → calls_listed (bare t) ≡ calls_listed t
bare_listed nothing = refl
bare_listed (node k n below rest) = ap (of_list k) (bare_calls below)
bare_listed (absent rest) = refl

pub bare_root : (t : Forest) → root_calls (bare t) ≡ root_calls t
bare_root nothing = refl
bare_root (node k n below rest) = ap (of_program k) (bare_listed below)
bare_root (absent rest) = refl

-- ---- what counts for nothing, wherever it stands

-- another in its place
no_more : (k : Kind) (b c : Bool) → b ≡ false → counted k b ≤ counted k c
no_more expression_statement b c e = subst (λ x. counted expression_statement x ≤ counted expression_statement c) (sym e) (Prim.omega arith)
no_more k b c e = Prim.omega arith

pub other_uncalled : (a : Around) (x : Tree) → IsOther x → IsUncalled a x
other_uncalled a x h = record { counts = h.counts; lists = h.lists; begins = h.begins; calls = inl h.calls }

-- what is no call, or stands behind a declared name in a row below this one
abbrev UncalledBelow : Kind → Around → Tree → Type 0
UncalledBelow k a x = (is_call x.kind ≡ false) ⊎ ((is_value_of k a || is_value a) ≡ true)

no_value_first : (k : Kind) (rest : Forest) → is_value_of k (first rest) || false ≡ false
no_value_first Kind.VariableDeclarator rest = refl
no_value_first k rest = refl

replaced_begins : (k : Kind) (a : Around) (x y : Tree) → UncalledBelow k a x → (begins_with_call (plug a (Some x)) ≡ false) ⊎ (begins_with_call (plug a (Some x)) ≡ begins_with_call (plug a (Some y)))
replaced_begins k (first rest) x y (inl h) = inl h
replaced_begins k (first rest) x y (inr v) = absurd (true≢false (sym v ∙ no_value_first k rest))
replaced_begins k (behind l n below a) x y h = inr refl
replaced_begins k (behind_none a) x y h = inr refl
replaced_begins k (under l n a rest) x y h = inr refl

replaced_below : (k : Kind) (a : Around) (x y : Tree) → UncalledBelow k a x → counted k (begins_with_call (plug a (Some x))) ≤ counted k (begins_with_call (plug a (Some y)))
replaced_below k a x y h = elim (replaced_begins k a x y h) [
  | inl e ↦ no_more k (begins_with_call (plug a (Some x))) (begins_with_call (plug a (Some y))) e
  | inr e ↦ Prim.omega (arith, ap (counted k) e)
]

-- as far as calls are counted
unless : (b : Bool) (n m : ℕ) → n ≤ m → (if b then 0 else n) ≤ (if b then 0 else m)
unless true n m h = Prim.omega arith
unless false n m h = h

-- what doesn't end the calls stands for what may
ends_earlier : (b c : Bool) (n : ℕ) → (b ≡ true) ⊎ (c ≡ false) → (if b then 0 else n) ≤ (if c then 0 else n)
ends_earlier true c n h = Prim.omega arith
ends_earlier false true n (inl e) = absurd (true≢false (sym e))
ends_earlier false true n (inr e) = absurd (true≢false e)
ends_earlier false false n h = Prim.omega arith

module _ (x y : Tree) (counts : counted x.kind (begins_with_call x.below) ≡ 0) (end : (may_end x.kind ≡ true) ⊎ (may_end y.kind ≡ false)) where
  replaced_calls : (a : Around) → (is_call x.kind ≡ false) ⊎ (is_value a ≡ true) → calls_in (plug a (Some x)) ≤ calls_in (plug a (Some y))
  replaced_calls (first rest) h = Prim.omega (arith, counts, ends_earlier (may_end x.kind) (may_end y.kind) (calls_in rest) end)
  replaced_calls (behind k n below a) h = Prim.omega (arith, unless (may_end k) (calls_in (plug a (Some x))) (calls_in (plug a (Some y))) (replaced_calls a h))
  replaced_calls (behind_none a) h = replaced_calls a h
  replaced_calls (under k n a rest) h = Prim.omega (arith, replaced_below k a x y h)

  replaced_list : (k : Kind) (a : Around) → UncalledBelow k a x → of_list k (calls_in (plug a (Some x))) ≤ of_list k (calls_in (plug a (Some y)))
  replaced_list statements a h = replaced_calls a h
  replaced_list k a h = Prim.omega arith

replaced_listed : (a : Around) (x y : Tree) → IsUncalled a x → (may_end x.kind ≡ true) ⊎ (may_end y.kind ≡ false) → calls_listed (plug a (Some x)) ≤ calls_listed (plug a (Some y))
replaced_listed (first rest) x y h e = Prim.omega (arith, h.lists (calls_in x.below))
replaced_listed (behind k n below a) x y h e = Prim.omega arith
replaced_listed (behind_none a) x y h e = Prim.omega arith
replaced_listed (under k n a rest) x y h e = replaced_list x y h.counts e k a h.calls

replaced_program : (k : Kind) (n : Note) (a : Around) (rest : Forest) (x y : Tree) → IsUncalled (under k n a rest) x → (may_end x.kind ≡ true) ⊎ (may_end y.kind ≡ false) → of_program k (calls_listed (plug a (Some x))) ≤ of_program k (calls_listed (plug a (Some y)))
replaced_program (program source) n a rest x y h e = replaced_listed a x y (record { counts = h.counts; lists = h.lists; begins = h.begins; calls = h.calls }) e
replaced_program k n a rest x y h e = Prim.omega arith

pub replaced_root : (a : Around) (x y : Tree) → IsUncalled a x → (may_end x.kind ≡ true) ⊎ (may_end y.kind ≡ false) → root_calls (plug a (Some x)) ≤ root_calls (plug a (Some y))
replaced_root (first rest) x y h e = Prim.omega (arith, h.begins (calls_listed x.below))
replaced_root (behind k n below a) x y h e = Prim.omega arith
replaced_root (behind_none a) x y h e = Prim.omega arith
replaced_root (under k n a rest) x y h e = replaced_program k n a rest x y h e

-- ---- the rows that something leaves

abbrev pub takes : Row → Bool
takes items = true
takes item_declarators = true
takes row = false

-- a list of statements or of declarators, or an import's names
abbrev pub Takes : Asked → ImportRow → Around → Type 0
Takes w r a = (takes (asked_at w a).row ≡ true) ⊎ (import_row r a ≡ in_names)

no_names : in_names ≡ elsewhere → ⊥
no_names e = cc

leave_begins : (w : Asked) (a : Around) (x : Tree) → takes w.row ≡ false → Takes w elsewhere a → begins_with_call (plug a (Some x)) ≡ begins_with_call (without a)
leave_begins w (first rest) x no_row (inl row) = absurd (true≢false (sym row ∙ no_row))
leave_begins w (first rest) x no_row (inr row) = absurd (no_names (sym row))
leave_begins w (behind k n below a) x no_row row = refl
leave_begins w (behind_none a) x no_row row = refl
leave_begins w (under k n a rest) x no_row row = refl

leave_below : (k : Kind) (w : Asked) (r : ImportRow) (a : Around) (x : Tree) → Takes (asked_below w k) (import_row_below r k) a → counted k (begins_with_call (plug a (Some x))) ≡ counted k (begins_with_call (without a))
leave_below expression_statement w r a x row = ap (counted expression_statement) (leave_begins (asked_below w expression_statement) a x refl row)
leave_below k w r a x row = refl

jump_ends : (k : Kind) (below : Forest) → cuts_off k below ≡ true → may_end k ≡ true
jump_ends Kind.ReturnStatement below j = refl
jump_ends Kind.ThrowStatement below j = refl
jump_ends (Kind.BreakStatement l) below j = refl
jump_ends (Kind.ContinueStatement l) below j = refl
jump_ends Kind.BlockStatement below j = refl
jump_ends Kind.Statements below j = refl
jump_ends Kind.IfStatement below j = refl
jump_ends k below j = absurd (true≢false (sym j))

uncounted_behind : (jumped : Bool) (k : Kind) (n : Note) (below : Forest) (a : Around) (x : Tree) → Uncounted jumped (behind k n below a) x → Uncounted (jumped || cuts_off k below) a x
uncounted_behind jumped k n below a x (inl h) = inl h
uncounted_behind jumped k n below a x (inr (inl e)) = inr (inl e)
uncounted_behind jumped k n below a x (inr (inr e)) = inr (inr e)

no_more_if : (b : Bool) (n : ℕ) → (if b then 0 else n) ≤ n
no_more_if true n = Prim.omega arith
no_more_if false n = Prim.omega arith

ended : (b : Bool) (n m : ℕ) → b ≡ true → (if b then 0 else n) ≤ (if b then 0 else m)
ended true n m e = Prim.omega arith
ended false n m e = absurd (true≢false (sym e))

-- of a row behind a jump nothing is counted
leave_calls : (w : Asked) (r : ImportRow) (a : Around) (x : Tree) (jumped : Bool) → Uncounted jumped a x → Takes w r a → (jumped ≡ true) ⊎ (calls_in (plug a (Some x)) ≤ calls_in (without a))
leave_calls w r (first rest) x jumped (inl h) row = inr (Prim.omega (arith, h.counts, no_more_if (may_end x.kind) (calls_in rest)))
leave_calls w r (first rest) x jumped (inr (inl e)) row = inl e
leave_calls w r (first rest) x jumped (inr (inr e)) row = absurd (true≢false (sym e))
leave_calls w r (behind k n below a) x jumped u row =
    elim (leave_calls w r a x (jumped || cuts_off k below) (uncounted_behind jumped k n below a x u) row) [
      | inl e ↦ elim (or_cases jumped (cuts_off k below) e) [
        | inl before ↦ inl before
        | inr jump ↦ inr (Prim.omega (arith, ended (may_end k) (calls_in (plug a (Some x))) (calls_in (without a)) (jump_ends k below jump)))
      ]
      | inr fewer ↦ inr (Prim.omega (arith, unless (may_end k) (calls_in (plug a (Some x))) (calls_in (without a)) fewer))
    ]
leave_calls w r (behind_none a) x jumped (inl h) row = leave_calls w r a x jumped (inl h) row
leave_calls w r (behind_none a) x jumped (inr (inl e)) row = leave_calls w r a x jumped (inr (inl e)) row
leave_calls w r (behind_none a) x jumped (inr (inr e)) row = leave_calls w r a x jumped (inr (inr e)) row
leave_calls w r (under k n a rest) x jumped u row = inr (Prim.omega (arith, ap (λ m. m + (if may_end k then 0 else calls_in rest)) (leave_below k w r a x row)))

-- below a node
abbrev UncountedBelow : Kind → Around → Tree → Type 0
UncountedBelow k a x = IsOther x ⊎ ((is_behind_jump false a ≡ true) ⊎ (is_untaken (begins_untaken k a) a ≡ true))

uncounted_below : (k : Kind) (n : Note) (a : Around) (rest : Forest) (x : Tree) → Uncounted false (under k n a rest) x → UncountedBelow k a x
uncounted_below k n a rest x (inl h) = inl h
uncounted_below k n a rest x (inr (inl e)) = inr (inl e)
uncounted_below k n a rest x (inr (inr e)) = inr (inr e)

leave_list : (k : Kind) (w : Asked) (r : ImportRow) (a : Around) (x : Tree) → UncountedBelow k a x → Takes (asked_below w k) (import_row_below r k) a → of_list k (calls_in (plug a (Some x))) ≤ of_list k (calls_in (without a))
leave_list statements w r a x u row = elim (leave_calls (asked_below w statements) (import_row_below r statements) a x false u row) [
  | inl e ↦ absurd (true≢false (sym e))
  | inr fewer ↦ fewer
]
leave_list k w r a x u row = Prim.omega arith

leave_listed : (w : Asked) (a : Around) (x : Tree) → Uncounted false a x → takes w.row ≡ false → Takes w elsewhere a → calls_listed (plug a (Some x)) ≤ calls_listed (without a)
leave_listed w (first rest) x u no_row (inl row) = absurd (true≢false (sym row ∙ no_row))
leave_listed w (first rest) x u no_row (inr row) = absurd (no_names (sym row))
leave_listed w (behind k n below a) x u no_row row = Prim.omega arith
leave_listed w (behind_none a) x u no_row row = Prim.omega arith
leave_listed w (under k n a rest) x u no_row row = leave_list k w elsewhere a x (uncounted_below k n a rest x u) row

leave_program : (k : Kind) (a : Around) (x : Tree) → UncountedBelow k a x → Takes (asked_below (asked_of_program true) k) (import_row_below elsewhere k) a
    → of_program k (calls_listed (plug a (Some x))) ≤ of_program k (calls_listed (without a))
leave_program (program source_type) a x u row = leave_listed (asked_below (asked_of_program true) (program source_type)) a x u refl row
leave_program k a x u row = Prim.omega arith

pub leave_root : (a : Around) (x : Tree) → Uncounted false a x → Takes (asked_of_program true) elsewhere a → root_calls (plug a (Some x)) ≤ root_calls (without a)
leave_root (first rest) x u (inl row) = absurd (true≢false (sym row))
leave_root (first rest) x u (inr row) = absurd (no_names (sym row))
leave_root (behind k n below a) x u row = Prim.omega arith
leave_root (behind_none a) x u row = Prim.omega arith
leave_root (under k n a rest) x u row = leave_program k a x (uncounted_below k n a rest x u) row

-- ---- no call is silent

call_acts : (bs : List BindingSite) (w : Surroundings) (c : Context) (next : ℕ) (pure optional : Bool) (l : Note) (inner : Forest) → IsSilentBelow bs w c next expression_statement (alone (call_expression pure optional) l inner) → ⊥
call_acts bs w c next pure optional l inner (inl e, rest) = absurd (true≢false (sym e))
call_acts bs w c next pure optional l inner (inr (inl found), rest) = absurd found
call_acts bs w c next pure optional l inner (inr (inr (parts, below)), rest) = absurd (true≢false (sym parts))

pub silent_is_no_call : (bs : List BindingSite) (w : Surroundings) (c : Context) (next : ℕ) (k : Kind) (l : Note) (inner : Forest) → IsSilentBelow bs w c next expression_statement (alone k l inner) → is_call k ≡ false
silent_is_no_call bs w c next (call_expression pure optional) l inner h = absurd (call_acts bs w c next pure optional l inner h)
silent_is_no_call bs w c next k l inner h = refl

pub there : {holds : Bool → Context → ℕ → Type 0} {P : Type 0} (w : Bool) (contexts : ℕ → Context) (at next : ℕ) (a : Around) (x : Option Tree) → ((w : Bool) (c : Context) (next : ℕ) → holds w c next → P)
    → HoldsThere w contexts at next a x holds → P
there w contexts at next (first rest) x f h = f w (contexts at) next h
there w contexts at next (behind k n below a) x f h = there w contexts (suc at) (next + scope_count (node k n below nothing)) a x f h
there w contexts at next (behind_none a) x f h = there w contexts (suc at) next a x f h
there w contexts at next (under k n a rest) x f h = there (w || is_with k) (inside (contexts at) next k (plug a x)) 0 (next + opens_one k (plug a x)) a x f h
