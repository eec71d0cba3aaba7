-- What the hook of lists does: what goes of one leaves it, or else imports without names whose modules are asked for before.
use Rattle.std.proofs.Common.{◌≡◌, ◌∙◌, [], Bool, true, false, ◌||◌, Option, Some, None, is_some, if◌then◌else◌, refl, sym, ap, subst, arith, true≢false}
use Rattle.js_syntax.specs.declared.node_kind.NodeKind.TheVariants.{Statements as statements}
use Rattle.js_syntax.specs.Node.{Tree}
use Rattle.scope_laws.specs.Place.{Around}
use Rattle.steps.specs.Allowed.Uses.{use_at, stands_bare}
use Rattle.min_context.specs.Edited.{Edited}
use Rattle.min_context.specs.Seen.{Seen}
use Rattle.min_traverse.specs.Lawful.{Stays, Does, or_same}
use Rattle.min_traverse.specs.Moves.{Holds, NodeMoves}
use Rattle.min_traverse.proofs.Joining.{does_some, does_none}
use Rattle.rules.specs.DeadCode.Rules.{where_of}
use Rattle.rules.specs.Imports.Repeated.{has_repeated, each_once, once_if, list_once, asked_once}
use Rattle.rules.proofs.Imports.Repeating.{repeating, repeats_leave, repeats_lighter, repeats_refer, repeats_call}
use Rattle.min_statements.specs.Acts.{has_gone, trim, drop_repeated, list_changes}
use Rattle.min_statements.specs.Own.{AnyEdit, Own, Found}
use Rattle.min_statements.specs.Walker.{Names, facts_of}
use Rattle.min_statements.proofs.Acting.{moves, stayed}
use Rattle.min_statements.proofs.Calls.{is_no_name, CallsStay}
use Rattle.min_statements.proofs.Ending.{nothing_done, after_nothing, done_asks}
use Rattle.min_statements.proofs.Expressions.{rule_visits}
use Rattle.min_statements.proofs.Shed.{leaves_none, edited}

-- ---- what the call does

once_none : (x : Tree) → x.kind ≡ statements → has_repeated [] x.below ≡ false → asked_once x ≡ None
once_none x list none = ap (λ k. list_once x.note k x.below) list ∙ ap (λ b. once_if b x.note x.below) none

once_some : (x y : Tree) → x.kind ≡ statements → has_repeated [] x.below ≡ true → y ≡ record x { below = each_once [] x.below } → asked_once x ≡ Some y
once_some x y list has is = ap (λ k. list_once x.note k x.below) list ∙ ap (λ b. once_if b x.note x.below) has ∙ ap Some (ap (λ k. record { kind = k; note = x.note; below = each_once [] x.below }) (sym list) ∙ sym is)

pub repeats_none : (c : Seen) (x y : Tree) → x.kind ≡ statements → has_repeated [] x.below ≡ false → y ≡ x → Does drop_repeated c x false c y
repeats_none c x y list none same = subst (λ z. Does drop_repeated c x false c z) (sym same) (does_none drop_repeated c x (once_none x list none))

pub repeats_so : (c d : Seen) (x y : Tree) → x.kind ≡ statements → has_repeated [] x.below ≡ true → y ≡ record x { below = each_once [] x.below } → d ≡ record c { requested = true } → Does drop_repeated c x true d y
repeats_so c d x y list has is noticed =
    let found = once_some x y list has is in
    does_some drop_repeated c x y found
    (subst (λ q. Edited c x y true q) (sym noticed) (edited x y refl (leaves_none (record c { requested = true })) (λ r. Prim.omega (arith, repeats_refer x y found r)) (Prim.omega (arith, repeats_call x y found))))

-- ---- moves

repeat_calls : (a : Around) (x y : Tree) → asked_once x ≡ Some y → CallsStay a x y
repeat_calls a x y is =
    let o = repeating x y is in
    record {
      fewer = Prim.omega (arith, repeats_call x y is);
      old = ap {A = Tree} (λ t. is_no_name t.kind) (sym o.old);
      in_with = false;
      bare = ap {A = Tree} (λ t. stands_bare (use_at a) false t.kind t.below) (sym o.new);
    }

module _ (stays : Stays AnyEdit) (names : Names) where
  repeat_moves : {c d : Seen} {x y : Tree} {answer : Bool} → Does drop_repeated c x answer d y → NodeMoves Names AnyEdit (Holds Own) names c x names d y
  repeat_moves {c = c} {d = d} {x = x} {y = y} does = go (drop_repeated c x) refl
    where
      go : (o : Option Tree) → drop_repeated c x ≡ o → NodeMoves Names AnyEdit (Holds Own) names c x names d y
      go None is =
          let e : Edited c x y false d = subst (λ o. Edited c x y (is_some o) d) is does.edited in
          stayed stays names (does.tree ∙ ap (or_same x) is) (e.none refl)
      go (Some z) is =
          let found : asked_once x ≡ Some y = is ∙ ap Some (sym (does.tree ∙ ap (or_same x) is)) in
          let e : Edited c x y true d = subst (λ o. Edited c x y (is_some o) d) is does.edited in
          moves stays names (λ a r p h. repeats_leave a x y r found) (λ i. Prim.omega (arith, repeats_refer x y found i)) (repeats_lighter x y found) (λ a r p. repeat_calls _ x y found) e

  pub list_moves : {c k d : Seen} {x z y : Tree} {answer : Bool} → Does (trim names) c x false k z → Does drop_repeated k z answer d y → NodeMoves Names AnyEdit (Holds Own) names c x names d y
  list_moves first second = repeat_moves (after_nothing (trim names) drop_repeated first second)

-- where nothing is trimmed
pub untrimmed : (names : Names) {c k : Seen} {x z : Tree} → Does (trim names) c x false k z → z ≡ x
untrimmed names first = (nothing_done (trim names) first).tree

-- ---- visits

abbrev FoundNothing : Names → Seen → Tree → Seen → Type 0
FoundNothing names c x d = Found (list_changes (facts_of names c) (where_of c.place) x.below) names c names d

none_gone : (goes : Bool) (y : Tree) → false ≡ is_some (if goes then Some y else None) → goes ≡ false
none_gone true y e = absurd (true≢false (sym e))
none_gone false y e = refl

none_repeated : (x : Tree) → x.kind ≡ statements → is_some (asked_once x) ≡ false → has_repeated [] x.below ≡ false
none_repeated x list e = none_gone (has_repeated [] x.below) (record { kind = statements; note = x.note; below = each_once [] x.below }) (sym (ap is_some (ap (λ k. list_once x.note k x.below) (sym list)) ∙ e))

module _ (names : Names) {d : Seen} (quiet : d.requested ≡ false) where
  pub trimmed_visits : {c : Seen} {x y : Tree} → Does (trim names) c x true d y → FoundNothing names c x d
  trimmed_visits does = done_asks (trim names) does quiet

  pub list_visits : {c k : Seen} {x z y : Tree} {answer : Bool} → x.kind ≡ statements → Does (trim names) c x false k z → Does drop_repeated k z answer d y → FoundNothing names c x d
  list_visits {c = c} {x = x} list first second =
      let found = rule_visits names quiet drop_repeated (after_nothing (trim names) drop_repeated first second) in
      let gone = none_gone (has_gone (facts_of names c) (where_of c.place) x.below) _ first.answers in
      record { names_same = found.names_same; context_same = found.context_same; none = ap (λ b. b || has_repeated [] x.below) gone ∙ none_repeated x list found.none }
