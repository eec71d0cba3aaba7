-- What becomes of an `if` is what the rule answers, and that the hook of statements may do it.
use Rattle.std.proofs.Common.{◌≡◌, ◌∙◌, inl, inr, ℕ, Bool, true, false, ◌&&◌, Option, Some, None, is_some, refl, sym, ap, subst, arith, true≢false}
use Rattle.js_syntax.specs.declared.node_kind.NodeKind.{NodeKind as Kind}
use Rattle.js_syntax.specs.declared.node_kind.NodeKind.TheVariants.{IfStatement as if_statement, EmptyStatement as empty_statement, ExpressionStatement as expression_statement, BlockStatement as block_statement, BreakStatement as break_statement, ContinueStatement as continue_statement, ReturnStatement as return_statement, ThrowStatement as throw_statement, SwitchStatement as switch_statement, TryStatement as try_statement}
use Rattle.js_syntax.specs.Node.{Forest, Note, Tree, nothing, node, absent, forest_of}
use Rattle.scope_laws.specs.Place as places
use Rattle.steps.specs.Allowed.Branches as branches
use Rattle.steps.specs.Allowed.Branches.{is_branch}
use Rattle.steps.specs.Allowed.DeadIf.{DeadIf, nothing_is_run}
use Rattle.steps.specs.Allowed.EmptyBlock.{idles}
use Rattle.steps.specs.Allowed.IdleTry.{has_no_loop, IdleTry, finalizer_is_run, finalizer_is_run_alone, block_is_run}
use Rattle.steps.specs.Allowed.KnownConditional.{truth_known}
use Rattle.steps.specs.Allowed.KnownIf.{KnownIf, consequent_is_run, alternate_is_run}
use Rattle.steps.specs.Allowed.Uses.{Use, use_at, stands_bare}
use Rattle.min_pass.specs.Pass.{unmarked}
use Rattle.rules.specs.Expressions.Ifs.{given_if, what_runs, try_becomes, if_becomes}
use Rattle.rules.proofs.Expressions.Ifs.{if_edits}
use Rattle.min_expressions.specs.Kept.{child_at, is_call}
use Rattle.min_statements.specs.Ifs.{branches_of, declares_no_name, index_if, one_of_two, one_or_none, branch_of, is_block, are_blocks, try_of, branch_at}
use Rattle.min_statements.proofs.Calls.{CallsStay}

-- ---- what stands there then

abbrev pub outcome : Note → Option (Option ℕ) → Forest → Option Tree
outcome n None t = None
outcome n (Some None) t = Some (record { kind = empty_statement; note = unmarked n; below = nothing })
outcome n (Some (Some i)) t = child_at i t

abbrev three : (x y z : Tree) → Forest
three x y z = node x.kind x.note x.below (node y.kind y.note y.below (node z.kind z.note z.below nothing))

abbrev two : (x y : Tree) → Forest
two x y = node x.kind x.note x.below (node y.kind y.note y.below (absent nothing))

module _ (n : Note) where
  second_runs : (b d : Bool) (x y z : Tree) → outcome n (index_if (b && d) (Some 1)) (three x y z) ≡ given_if (b && (d && true)) y
  second_runs true true x y z = refl
  second_runs true false x y z = refl
  second_runs false d x y z = refl

  third_runs : (b d : Bool) (x y z : Tree) → outcome n (index_if (b && d) (Some 2)) (three x y z) ≡ given_if (b && (d && true)) z
  third_runs true true x y z = refl
  third_runs true false x y z = refl
  third_runs false d x y z = refl

  alone_runs : (b : Bool) (x y : Tree) → outcome n (index_if b (Some 1)) (two x y) ≡ given_if (b && true) y
  alone_runs true x y = refl
  alone_runs false x y = refl

  none_runs : (d : Bool) (x y : Tree) → outcome n (index_if d None) (two x y) ≡ given_if (d && true) (record { kind = empty_statement; note = unmarked n; below = nothing })
  none_runs true x y = refl
  none_runs false x y = refl

  of_two : (truth : Option Bool) (x y z : Tree) → outcome n (one_of_two truth y z) (three x y z) ≡ what_runs n truth (node y.kind y.note y.below (forest_of z))
  of_two None x y z = refl
  of_two (Some true) x y z = second_runs (is_branch y.kind) (declares_no_name z) x y z
  of_two (Some false) x y z = third_runs (is_branch z.kind) (declares_no_name y) x y z

  of_one : (truth : Option Bool) (x y : Tree) → outcome n (one_or_none truth y) (two x y) ≡ what_runs n truth (node y.kind y.note y.below (absent nothing))
  of_one None x y = refl
  of_one (Some true) x y = alone_runs (is_branch y.kind) x y
  of_one (Some false) x y = none_runs (declares_no_name y) x y

  unfielded : (b : Bool) (y : Tree) → None ≡ given_if (b && false) y
  unfielded true y = refl
  unfielded false y = refl

  by_truth : (truth : Option Bool) (t : Kind) (m : Note) (a branches : Forest) → truth_known t m a ≡ truth → outcome n (branch_of (branches_of (node t m a branches))) (node t m a branches) ≡ what_runs n truth branches
  by_truth truth t m a (node k i b (node l j c nothing)) w =
      let x : Tree = record { kind = t; note = m; below = a } in
      let y : Tree = record { kind = k; note = i; below = b } in
      let z : Tree = record { kind = l; note = j; below = c } in
      ap (λ u. outcome n (one_of_two u y z) (three x y z)) w ∙ of_two truth x y z
  by_truth truth t m a (node k i b (absent nothing)) w =
      let x : Tree = record { kind = t; note = m; below = a } in
      let y : Tree = record { kind = k; note = i; below = b } in
      ap (λ u. outcome n (one_or_none u y) (two x y)) w ∙ of_one truth x y
  by_truth None t m a nothing w = refl
  by_truth None t m a (absent nothing) w = refl
  by_truth None t m a (absent (absent rest)) w = refl
  by_truth None t m a (absent (node k i b nothing)) w = refl
  by_truth None t m a (absent (node k i b (absent rest))) w = refl
  by_truth None t m a (absent (node k i b (node l j c rest))) w = refl
  by_truth None t m a (node k i b nothing) w = refl
  by_truth None t m a (node k i b (absent (absent rest))) w = refl
  by_truth None t m a (node k i b (absent (node l j c rest))) w = refl
  by_truth None t m a (node k i b (node l j c (absent rest))) w = refl
  by_truth None t m a (node k i b (node l j c (node h p d rest))) w = refl
  by_truth (Some true) t m a nothing w = refl
  by_truth (Some true) t m a (absent nothing) w = refl
  by_truth (Some true) t m a (absent (absent rest)) w = refl
  by_truth (Some true) t m a (absent (node k i b nothing)) w = refl
  by_truth (Some true) t m a (absent (node k i b (absent rest))) w = refl
  by_truth (Some true) t m a (absent (node k i b (node l j c rest))) w = refl
  by_truth (Some true) t m a (node k i b nothing) w = unfielded (is_branch k) (record { kind = k; note = i; below = b })
  by_truth (Some true) t m a (node k i b (absent (absent rest))) w = unfielded (is_branch k) (record { kind = k; note = i; below = b })
  by_truth (Some true) t m a (node k i b (absent (node l j c rest))) w = unfielded (is_branch k) (record { kind = k; note = i; below = b })
  by_truth (Some true) t m a (node k i b (node l j c (absent rest))) w = unfielded (is_branch k) (record { kind = k; note = i; below = b })
  by_truth (Some true) t m a (node k i b (node l j c (node h p d rest))) w = unfielded (is_branch k) (record { kind = k; note = i; below = b })
  by_truth (Some false) t m a nothing w = refl
  by_truth (Some false) t m a (absent nothing) w = refl
  by_truth (Some false) t m a (absent (absent rest)) w = refl
  by_truth (Some false) t m a (absent (node k i b nothing)) w = refl
  by_truth (Some false) t m a (absent (node k i b (absent rest))) w = refl
  by_truth (Some false) t m a (absent (node k i b (node l j c rest))) w = refl
  by_truth (Some false) t m a (node k i b nothing) w = refl
  by_truth (Some false) t m a (node k i b (absent (absent rest))) w = refl
  by_truth (Some false) t m a (node k i b (absent (node l j c rest))) w = refl
  by_truth (Some false) t m a (node k i b (node l j c (absent rest))) w = refl
  by_truth (Some false) t m a (node k i b (node l j c (node h p d rest))) w = refl

-- ---- of a `try`

module _ (n : Note) where
  third_of : (b : Bool) (x y z : Tree) → outcome n (index_if b (Some 2)) (three x y z) ≡ given_if b z
  third_of true x y z = refl
  third_of false x y z = refl

  last_of : (b : Bool) (x z : Tree) → outcome n (index_if b (Some 2)) (node x.kind x.note x.below (absent (forest_of z))) ≡ given_if b z
  last_of true x z = refl
  last_of false x z = refl

  first_of : (b : Bool) (x y : Tree) → outcome n (index_if b (Some 0)) (two x y) ≡ given_if b x
  first_of true x y = refl
  first_of false x y = refl

  try_as_ruled : (t : Forest) → outcome n (try_of (branches_of t)) t ≡ try_becomes t
  try_as_ruled nothing = refl
  try_as_ruled (absent r) = refl
  try_as_ruled (node block_statement i b (absent (node block_statement j c nothing))) = last_of (idles b && has_no_loop c) (record { kind = block_statement; note = i; below = b }) (record { kind = block_statement; note = j; below = c })
  try_as_ruled (node block_statement i b (node k h d (node block_statement j c nothing))) =
      third_of (idles b && (branches.declares_no_name k d && has_no_loop c)) (record { kind = block_statement; note = i; below = b }) (record { kind = k; note = h; below = d }) (record { kind = block_statement; note = j; below = c })
  try_as_ruled (node block_statement i b (node k h d (absent nothing))) = first_of (idles b && branches.declares_no_name k d) (record { kind = block_statement; note = i; below = b }) (record { kind = k; note = h; below = d })
  try_as_ruled (node block_statement i b nothing) = refl
  try_as_ruled (node block_statement i b (absent nothing)) = refl
  try_as_ruled (node block_statement i b (absent (absent r))) = refl
  try_as_ruled (node block_statement i b (absent (node l j c nothing))) = refl
  try_as_ruled (node block_statement i b (absent (node block_statement j c (absent r)))) = refl
  try_as_ruled (node block_statement i b (absent (node l j c (absent r)))) = refl
  try_as_ruled (node block_statement i b (absent (node block_statement j c (node p q f r)))) = refl
  try_as_ruled (node block_statement i b (absent (node l j c (node p q f r)))) = refl
  try_as_ruled (node block_statement i b (node k h d nothing)) = refl
  try_as_ruled (node block_statement i b (node k h d (absent (absent r)))) = refl
  try_as_ruled (node block_statement i b (node k h d (absent (node l j c r)))) = refl
  try_as_ruled (node block_statement i b (node k h d (node l j c nothing))) = refl
  try_as_ruled (node block_statement i b (node k h d (node block_statement j c (absent r)))) = refl
  try_as_ruled (node block_statement i b (node k h d (node l j c (absent r)))) = refl
  try_as_ruled (node block_statement i b (node k h d (node block_statement j c (node p q f r)))) = refl
  try_as_ruled (node block_statement i b (node k h d (node l j c (node p q f r)))) = refl
  try_as_ruled (node k i b nothing) = refl
  try_as_ruled (node k i b (absent nothing)) = refl
  try_as_ruled (node k i b (absent (absent r))) = refl
  try_as_ruled (node k i b (absent (node l j c nothing))) = refl
  try_as_ruled (node k i b (absent (node l j c (absent r)))) = refl
  try_as_ruled (node k i b (absent (node l j c (node p q f r)))) = refl
  try_as_ruled (node k i b (node l h d nothing)) = refl
  try_as_ruled (node k i b (node l h d (absent nothing))) = refl
  try_as_ruled (node k i b (node l h d (absent (absent r)))) = refl
  try_as_ruled (node k i b (node l h d (absent (node m j c r)))) = refl
  try_as_ruled (node k i b (node l h d (node m j c nothing))) = refl
  try_as_ruled (node k i b (node l h d (node m j c (absent r)))) = refl
  try_as_ruled (node k i b (node l h d (node m j c (node p q f r)))) = refl

pub runs_as_ruled : (n : Note) (k : Kind) (t : Forest) → outcome n (branch_at k t) t ≡ if_becomes n k t
runs_as_ruled n if_statement (node t m a branches) = by_truth n (truth_known t m a) t m a branches refl
runs_as_ruled n if_statement nothing = refl
runs_as_ruled n if_statement (absent rest) = refl
runs_as_ruled n try_statement t = try_as_ruled n t
runs_as_ruled n k t = refl

-- ---- it is there, and an `if` is no call

no_index : {P : Type 0} {i : ℕ} → None ≡ Some (Some i) → P
no_index e = absurd Prim.cc

none_index : {P : Type 0} {i : ℕ} → Some None ≡ Some (Some i) → P
none_index e = absurd Prim.cc

index_there : (b : Bool) (i j : ℕ) (t : Forest) → is_some (child_at j t) ≡ true → index_if b (Some j) ≡ Some (Some i) → is_some (child_at i t) ≡ true
index_there true i j t there e = subst (λ m. is_some (child_at m t) ≡ true) (same e) there
  where
    same : Some (Some j) ≡ Some (Some i) → j ≡ i
    same f = Prim.cc
index_there false i j t there e = no_index e

no_child : (b : Bool) {P : Type 0} {i : ℕ} → index_if b None ≡ Some (Some i) → P
no_child true e = none_index e
no_child false e = no_index e

two_there : (truth : Option Bool) (x y z : Tree) (i : ℕ) → one_of_two truth y z ≡ Some (Some i) → is_some (child_at i (three x y z)) ≡ true
two_there None x y z i e = no_index e
two_there (Some true) x y z i e = index_there (is_branch y.kind && declares_no_name z) i 1 (three x y z) refl e
two_there (Some false) x y z i e = index_there (is_branch z.kind && declares_no_name y) i 2 (three x y z) refl e

one_there : (truth : Option Bool) (x y : Tree) (i : ℕ) → one_or_none truth y ≡ Some (Some i) → is_some (child_at i (two x y)) ≡ true
one_there None x y i e = no_index e
one_there (Some true) x y i e = index_there (is_branch y.kind) i 1 (two x y) refl e
one_there (Some false) x y i e = no_child (declares_no_name y) e

parts_there : (t : Forest) (i : ℕ) → branch_of (branches_of t) ≡ Some (Some i) → is_some (child_at i t) ≡ true
parts_there (node t m a (node k n b (node l j c nothing))) i e = two_there (truth_known t m a) (record { kind = t; note = m; below = a }) (record { kind = k; note = n; below = b }) (record { kind = l; note = j; below = c }) i e
parts_there (node t m a (node k n b (absent nothing))) i e = one_there (truth_known t m a) (record { kind = t; note = m; below = a }) (record { kind = k; note = n; below = b }) i e
parts_there nothing i e = no_index e
parts_there (absent rest) i e = no_index e
parts_there (node t m a nothing) i e = no_index e
parts_there (node t m a (absent nothing)) i e = no_index e
parts_there (node t m a (absent (absent rest))) i e = no_index e
parts_there (node t m a (absent (node k n b nothing))) i e = no_index e
parts_there (node t m a (absent (node k n b (absent rest)))) i e = no_index e
parts_there (node t m a (absent (node k n b (node l j c rest)))) i e = no_index e
parts_there (node t m a (node k n b nothing)) i e = no_index e
parts_there (node t m a (node k n b (absent (absent rest)))) i e = no_index e
parts_there (node t m a (node k n b (absent (node l j c rest)))) i e = no_index e
parts_there (node t m a (node k n b (node l j c (absent rest)))) i e = no_index e
parts_there (node t m a (node k n b (node l j c (node h p d rest)))) i e = no_index e

tried_there : (t : Forest) (i : ℕ) → try_of (branches_of t) ≡ Some (Some i) → is_some (child_at i t) ≡ true
tried_there (node k m a (node h n d (node l j c nothing))) i e =
    let x : Tree = record { kind = k; note = m; below = a } in
    let y : Tree = record { kind = h; note = n; below = d } in
    let z : Tree = record { kind = l; note = j; below = c } in
    index_there (are_blocks x z && (idles a && (declares_no_name y && has_no_loop c))) i 2 (three x y z) refl e
tried_there (node k m a (node h n d (absent nothing))) i e =
    let x : Tree = record { kind = k; note = m; below = a } in
    let y : Tree = record { kind = h; note = n; below = d } in
    index_there (is_block k && (idles a && declares_no_name y)) i 0 (two x y) refl e
tried_there (node k m a (absent (node l j c nothing))) i e =
    let x : Tree = record { kind = k; note = m; below = a } in
    let z : Tree = record { kind = l; note = j; below = c } in
    index_there (are_blocks x z && (idles a && has_no_loop c)) i 2 (node k m a (absent (node l j c nothing))) refl e
tried_there nothing i e = no_index e
tried_there (absent rest) i e = no_index e
tried_there (node k m a nothing) i e = no_index e
tried_there (node k m a (absent nothing)) i e = no_index e
tried_there (node k m a (absent (absent rest))) i e = no_index e
tried_there (node k m a (absent (node l j c (absent rest)))) i e = no_index e
tried_there (node k m a (absent (node l j c (node h p d rest)))) i e = no_index e
tried_there (node k m a (node h n d nothing)) i e = no_index e
tried_there (node k m a (node h n d (absent (absent rest)))) i e = no_index e
tried_there (node k m a (node h n d (absent (node l j c rest)))) i e = no_index e
tried_there (node k m a (node h n d (node l j c (absent rest)))) i e = no_index e
tried_there (node k m a (node h n d (node l j c (node q p f rest)))) i e = no_index e

pub branch_there : (k : Kind) (t : Forest) (i : ℕ) → branch_at k t ≡ Some (Some i) → is_some (child_at i t) ≡ true
branch_there if_statement t i e = parts_there t i e
branch_there try_statement t i e = tried_there t i e
branch_there k t i e = no_index e

pub no_call : (k : Kind) (t : Forest) (i : ℕ) → branch_at k t ≡ Some (Some i) → is_call k ≡ false
no_call if_statement t i e = refl
no_call try_statement t i e = refl
no_call k t i e = no_index e

-- ---- no call of it is a direct one of `eval`

branch_bare : (u : Use) (k : Kind) (b : Forest) → is_branch k ≡ true → stands_bare u false k b ≡ true
branch_bare u empty_statement b h = refl
branch_bare u expression_statement b h = refl
branch_bare u block_statement b h = refl
branch_bare u if_statement b h = refl
branch_bare u (break_statement label) b h = refl
branch_bare u (continue_statement label) b h = refl
branch_bare u return_statement b h = refl
branch_bare u throw_statement b h = refl
branch_bare u switch_statement b h = refl
branch_bare u try_statement b h = refl
branch_bare u k b h = absurd (true≢false (sym h))

known_if_calls : (a : places.Around) (x y : Tree) → KnownIf x y → CallsStay a x y
known_if_calls a _ _ (consequent_is_run n m i t k d b alternate truth branch field none) = record { fewer = Prim.omega arith; old = refl; in_with = false; bare = branch_bare (use_at a) k b branch }
known_if_calls a _ _ (alternate_is_run n m i j t k l d b c truth branch none) = record { fewer = Prim.omega arith; old = refl; in_with = false; bare = branch_bare (use_at a) l c branch }

dead_if_calls : (a : places.Around) (x y : Tree) → DeadIf x y → CallsStay a x y
dead_if_calls a _ _ (nothing_is_run n m i o t k d b truth none) = record { fewer = Prim.omega arith; old = refl; in_with = false; bare = refl }

idle_try_calls : (a : places.Around) (x y : Tree) → IdleTry x y → CallsStay a x y
idle_try_calls a _ _ (finalizer_is_run n i j b c idle loops) = record { fewer = Prim.omega arith; old = refl; in_with = false; bare = refl }
idle_try_calls a _ _ (finalizer_is_run_alone n i h j k b d c idle none loops) = record { fewer = Prim.omega arith; old = refl; in_with = false; bare = refl }
idle_try_calls a _ _ (block_is_run n i h k b d idle none) = record { fewer = Prim.omega arith; old = refl; in_with = false; bare = refl }

pub if_calls : (a : places.Around) (x y : Tree) → if_becomes x.note x.kind x.below ≡ Some y → CallsStay a x y
if_calls a x y e = elim (if_edits x y e) [
  | inl known ↦ known_if_calls a x y known
  | inr other ↦ elim other [
    | inl dead ↦ dead_if_calls a x y dead
    | inr idle ↦ idle_try_calls a x y idle
  ]
]
