-- How often direct calls of `eval` stand in a tree of which a node becomes another.
use Rattle.std.proofs.Common.{◌≡◌, ◌∙◌, ◌⊎◌, inl, inr, ◌≤◌, ℕ, suc, Bool, true, false, true≢false, not, ◌||◌, ◌&&◌, if◌then◌else◌, cond, is_some, Some, None, codes, refl, sym, ap, subst, arith}
use Rattle.std.proofs.lemmas.Bool.{or_cases}
use Rattle.std.specs.Prelude.{nat_lt}
use Rattle.std.specs.Str.{bytes_eq}
use Rattle.js_syntax.specs.declared.node_kind.NodeKind.{NodeKind as Kind}
use Rattle.js_syntax.specs.declared.node_kind.NodeKind.TheVariants.{ExpressionStatement as expression_statement, ReferenceName as reference_name, ParenthesizedExpression as parenthesized_expression, CallExpression as call_expression}
use Rattle.js_syntax.specs.Node.{Forest, Note, Tree, nothing, node, absent}
use Rattle.js_syntax.proofs.Truth.{first_of_both, second_of_both}
use Rattle.js_tree.specs.Names.{eval_name, eval_of_call}
use Rattle.scope_counts.specs.Edits.{Around, here, behind, behind_none, under, plug}
use Rattle.scope_laws.specs.Place as places
use Rattle.steps.specs.Allowed.Uses.{Use, as_value, as_callee, use_below, use_there, use_at, matters, may_take_name, stands_bare}
use Rattle.min_context.specs.Edited.{evals}
use Rattle.min_context.specs.Place.{Place}
use Rattle.steps.specs.Allowed.Branches.{declares_no_name}
use Rattle.steps.specs.Allowed.IdleBody.{is_idle_statement}
use Rattle.steps.proofs.KeepForm.Asked.{idle_kinds}
use Rattle.steps.proofs.Owed.IdleBody.{body_kind}
use Rattle.rules.specs.DeadCode.Before.{before}
use Rattle.rules.specs.DeadCode.Rules.{Facts, Where, where_of, is_silent_statement, is_body, is_idle_body, becomes_empty}

-- a call of it isn't a direct one of `eval`, whatever lies below: it is no name and no parentheses
abbrev pub is_no_name : Kind → Bool
is_no_name (reference_name s) = false
is_no_name parenthesized_expression = false
is_no_name k = true

silent_is_no_name : (f : Facts) (w : Where) (k : Kind) (below : Forest) → is_silent_statement f w k below ≡ true → is_no_name k ≡ true
silent_is_no_name f w expression_statement below e = refl
silent_is_no_name f w k below e = absurd (true≢false (sym e))

pub emptied_is_no_name : (f : Facts) (p : Place) (k : Kind) (below : Forest) → becomes_empty f p k below ≡ true → is_no_name k ≡ true
emptied_is_no_name f p k below e = by (or_cases (is_silent_statement f (where_of p) k below) (is_idle_body p k below) e)
  where
    by : (is_silent_statement f (where_of p) k below ≡ true) ⊎ (is_idle_body p k below ≡ true) → is_no_name k ≡ true
    by (inl silent) = silent_is_no_name f (where_of p) k below silent
    by (inr idle) =
        let does = is_idle_statement k below in
        let none = declares_no_name k below in
        idle_kinds (λ z. is_no_name z ≡ true) refl refl refl refl refl (λ label. refl) k (body_kind k below (first_of_both does none (second_of_both (is_body p) (does && none) idle)))

none_named : (k : Kind) (n : Note) (below rest : Forest) → is_no_name k ≡ true → is_some (eval_name (node k n below rest)) ≡ false
none_named (reference_name s) n below rest e = absurd (true≢false (sym e))
none_named parenthesized_expression n below rest e = absurd (true≢false (sym e))
none_named k n below rest e = refl

rest_unasked : (k : Kind) (n : Note) (below r s : Forest) → is_some (eval_name (node k n below r)) ≡ is_some (eval_name (node k n below s))
rest_unasked (reference_name x) n below r s = refl
rest_unasked parenthesized_expression n below r s = refl
rest_unasked k n below r s = refl

one_name : (b : Bool) (x y : Tree) → is_some (if b then Some x else None) ≡ is_some (if b then Some y else None)
one_name true x y = refl
one_name false x y = refl

-- What may stand bare where it is called isn't named `eval`, so that no call becomes a direct one (ECMA-262 19.2.1.1).

unmattered : (m t : Bool) → not (m || t) ≡ true → m ≡ false
unmattered true t e = absurd (true≢false (sym e))
unmattered false t e = refl

named_if : (w b : Bool) (x : Tree) → w || b ≡ false → is_some (if b then Some x else None) ≡ false
named_if true b x e = absurd (true≢false e)
named_if false true x e = absurd (true≢false e)
named_if false false x e = refl

not_named : (w : Bool) (k : Kind) (n : Note) (below rest : Forest) → matters as_callee w k below ≡ false → is_some (eval_name (node k n below rest)) ≡ false
not_named w (reference_name x) n below rest e = named_if w (bytes_eq x (codes "eval")) _ e
not_named w parenthesized_expression n (node k m c r) rest e = not_named w k m c r e
not_named w parenthesized_expression n (absent r) rest e = refl
not_named w parenthesized_expression n nothing rest e = refl
not_named w k n below rest e = refl

module _ (k l : Kind) (n m : Note) (b c rest : Forest) (old : is_no_name k ≡ true) (w : Bool) where
  name_kept : (us : ℕ → Use) (at : ℕ) (a : Around) → us at ≡ as_callee → stands_bare (use_there us at (before a rest)) w l c ≡ true → is_some (eval_name (plug a (node k n b rest))) ≡ is_some (eval_name (plug a (node l m c rest)))
  name_kept us at here called bare =
      none_named k n b rest old ∙ sym (not_named w l m c rest (unmattered (matters as_callee w l c) (may_take_name l c) (subst (λ u. stands_bare u w l c ≡ true) called bare)))
  name_kept us at (behind j o d a) called bare = rest_unasked j o d (plug a (node k n b rest)) (plug a (node l m c rest))
  name_kept us at (behind_none a) called bare = refl
  name_kept us at (under parenthesized_expression o a beside) called bare = name_kept (λ i. use_below (us at) parenthesized_expression i) 0 a called bare
  name_kept us at (under (reference_name s) o a beside) called bare =
      one_name (bytes_eq s (codes "eval")) (record { kind = reference_name s; note = o; below = plug a (node k n b rest) }) (record { kind = reference_name s; note = o; below = plug a (node l m c rest) })
  name_kept us at (under j o a beside) called bare = refl

  call_kept : (u : Use) (j : Kind) (a : Around) → stands_bare (use_there (λ i. use_below u j i) 0 (before a rest)) w l c ≡ true → is_some (eval_of_call j (plug a (node k n b rest))) ≡ is_some (eval_of_call j (plug a (node l m c rest)))
  call_kept u (call_expression false pure) a bare = name_kept (λ i. use_below u (call_expression false pure) i) 0 a refl bare
  call_kept u (call_expression true pure) a bare = refl
  call_kept u j a bare = refl

  evals_there : evals (node l m c nothing) ≡ evals (node k n b nothing) → (us : ℕ → Use) (at : ℕ) (a : Around) → stands_bare (use_there us at (before a rest)) w l c ≡ true → evals (plug a (node l m c rest)) ≡ evals (plug a (node k n b rest))
  evals_there e us at here bare = Prim.omega (arith, e)
  evals_there e us at (behind j o d a) bare = Prim.omega (arith, evals_there e us (suc at) a bare)
  evals_there e us at (behind_none a) bare = evals_there e us (suc at) a bare
  evals_there e us at (under j o a beside) bare = Prim.omega (arith, ap {B = ℕ} (λ x. cond x 1 0) (call_kept (us at) j a bare), evals_there e (λ i. use_below (us at) j i) 0 a bare)

  pub evals_kept : evals (node l m c nothing) ≡ evals (node k n b nothing) → (a : Around) → stands_bare (use_at (before a rest)) w l c ≡ true → evals (plug a (node l m c rest)) ≡ evals (plug a (node k n b rest))
  evals_kept e a bare = evals_there e (λ i. as_value) 0 a bare

-- of a node x at a place that becomes y
pub record CallsStay (a : places.Around) (x y : Tree) : Type 0 where
  pub fewer : evals (node y.kind y.note y.below nothing) ≤ evals (node x.kind x.note x.below nothing)
  pub old : is_no_name x.kind ≡ true
  pub in_with : Bool
  pub bare : stands_bare (use_at a) in_with y.kind y.below ≡ true

-- ---- where none is noted as dropped, none left

none_either : (x y : Bool) → x || y ≡ false → (x ≡ false) × (y ≡ false)
none_either true y e = absurd (true≢false e)
none_either false y e = (refl, e)

not_fewer : (m n : ℕ) → nat_lt m n ≡ false → n ≤ m
not_fewer m n e = Prim.grind arith

pub none_dropped : (d c : Bool) (now before : ℕ) → d ≡ (c || nat_lt now before) → now ≤ before → d ≡ false → (c ≡ false) × (now ≡ before)
none_dropped d c now before is fewer e =
    let both = none_either c (nat_lt now before) (sym is ∙ e) in
    (both.0, Prim.omega (arith, fewer, not_fewer now before both.1))
