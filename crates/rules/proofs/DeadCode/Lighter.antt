-- What is left is lighter where anything goes, and the same where nothing does.
use Rattle.std.proofs.Common.{◌≡◌, ◌∙◌, ◌⊎◌, inl, inr, ◌≤◌, ◌+◌, ℕ, Bool, true, false, not, ◌&&◌, ◌||◌, if◌then◌else◌, cond, Some, true≢false, refl, sym, ap, ap₂, subst, arith}
use Rattle.std.proofs.lemmas.Bool.{and_parts, or_cases}
use Rattle.js_syntax.specs.declared.node_kind.NodeKind.{NodeKind as Kind}
use Rattle.js_syntax.specs.declared.node_kind.NodeKind.TheVariants.{EmptyStatement as empty_statement, BlockStatement as block_statement, LabeledStatement as labeled_statement, ExpressionStatement as expression_statement, Function as function, VariableDeclaration as variable_declaration, VariableDeclarator as variable_declarator, Declarators as declarators, BindingName as binding_name}
use Rattle.js_syntax.specs.declared.kind.FunctionKind.TheVariants as function_kind
use Rattle.js_syntax.specs.declared.kind.VariableKind.{VariableKind}
use Rattle.js_syntax.specs.Facts as facts
use Rattle.js_syntax.specs.Node.{Forest, Tree, Note, nothing, node, absent, forest_of, total}
use Rattle.scope_counts.specs.Counts.{Weight, tally, by_id, ids}
use Rattle.js_syntax.proofs.Truth.{first_of_both, second_of_both, first_of_neither, second_of_neither, neither}
use Rattle.min_context.specs.Place.{Place}
use Rattle.steps.specs.Allowed.Branches.{declares_no_name}
use Rattle.steps.specs.Allowed.IdleBody.{is_idle_statement}
use Rattle.steps.proofs.Owed.IdleBody.{body_kind, idle_weighs}
use Rattle.rules.specs.DeadCode.Rules.{Facts, Where, declarator_goes, one_goes, one_stays, declarators_left, declaration_goes, is_silent_statement, item_goes, declaration_left, item_left, trimmed, declaration_has_dead, item_has_dead, has_dead, where_of, is_body, is_idle_body, emptied}
use Rattle.rules.proofs.DeadCode.Emptying.{empties}

wrong : {P : Type 0} → false ≡ true → P
wrong e = absurd (true≢false (sym e))

abbrev one_if : Bool → ℕ
one_if b = cond b 1 0

at_most_one : (b : Bool) → one_if b ≤ 1
at_most_one true = Prim.omega arith
at_most_one false = Prim.omega arith

both_at_most : (b c : Bool) → one_if (b || c) ≤ one_if b + one_if c
both_at_most true c = Prim.omega arith
both_at_most false c = Prim.omega arith

module _ (f : Facts) (w : Where) where
  -- ---- declarators

  declarator_weighs : (how : VariableKind) (k : Kind) (below : Forest) → declarator_goes f w how k below ≡ true → 1 ≤ facts.weight k + total facts.weight below
  declarator_weighs how variable_declarator (node (binding_name x) n inner value) e = Prim.omega arith
  declarator_weighs how variable_declarator (node k n inner value) e = wrong e
  declarator_weighs how variable_declarator nothing e = wrong e
  declarator_weighs how variable_declarator (absent rest) e = wrong e
  declarator_weighs how k below e = wrong e

  by_declarator : (g : Bool) (k : Kind) (n : Note) (below rest left : Forest) (o : Bool) → (g ≡ true → 1 ≤ facts.weight k + total facts.weight below) → total facts.weight left + one_if o ≤ total facts.weight rest
      → total facts.weight (if g then left else node k n below left) + one_if (g || o) ≤ total facts.weight (node k n below rest)
  by_declarator true k n below rest left o weighs later = let one : 1 ≤ facts.weight k + total facts.weight below = weighs refl in Prim.omega (arith, one, later)
  by_declarator false k n below rest left o weighs later = Prim.omega (arith, later)

  declarators_lighter : (how : VariableKind) (ds : Forest) → total facts.weight (declarators_left f w how ds) + one_if (one_goes f w how ds) ≤ total facts.weight ds
  declarators_lighter how nothing = Prim.omega arith
  declarators_lighter how (absent rest) = declarators_lighter how rest
  declarators_lighter how (node k n below rest) = by_declarator (declarator_goes f w how k below) k n below rest (declarators_left f w how rest) (one_goes f w how rest) (declarator_weighs how k below) (declarators_lighter how rest)

  kept_declarator : (g : Bool) (k : Kind) (n : Note) (below rest left : Forest) → g ≡ false → left ≡ rest → (if g then left else node k n below left) ≡ node k n below rest
  kept_declarator true k n below rest left e h = absurd (true≢false e)
  kept_declarator false k n below rest left e h = ap (λ t. node k n below t) h

  declarators_same : (how : VariableKind) (ds : Forest) → one_goes f w how ds ≡ false → declarators_left f w how ds ≡ ds
  declarators_same how nothing e = refl
  declarators_same how (absent rest) e = ap (λ t. absent t) (declarators_same how rest e)
  declarators_same how (node k n below rest) e =
      kept_declarator (declarator_goes f w how k below) k n below rest (declarators_left f w how rest) (first_of_neither (declarator_goes f w how k below) (one_goes f w how rest) e)
      (declarators_same how rest (second_of_neither (declarator_goes f w how k below) (one_goes f w how rest) e))

  -- ---- declarations

  declaration_lighter : (how : VariableKind) (below : Forest) → total facts.weight (declaration_left f w how below) + one_if (declaration_has_dead f w how below) ≤ total facts.weight below
  declaration_lighter how (node declarators n ds rest) = Prim.omega (arith, declarators_lighter how ds)
  declaration_lighter how nothing = Prim.omega arith
  declaration_lighter how (absent rest) = Prim.omega arith
  declaration_lighter how (node k n ds rest) = Prim.omega arith

  declaration_same : (how : VariableKind) (below : Forest) → declaration_has_dead f w how below ≡ false → declaration_left f w how below ≡ below
  declaration_same how (node declarators n ds rest) e = ap (λ t. node declarators n t rest) (declarators_same how ds e)
  declaration_same how below e = refl

  declaration_dead : (how : VariableKind) (below : Forest) → declaration_goes f w how below ≡ true → declaration_has_dead f w how below ≡ true
  declaration_dead how (node declarators n ds rest) e = (and_parts (one_goes f w how ds) (not (one_stays f w how ds)) e).0
  declaration_dead how below e = wrong e

  -- ---- items

  item_weighs : (k : Kind) (below : Forest) → item_goes f w k below ≡ true → 1 ≤ facts.weight k
  item_weighs empty_statement below e = Prim.omega arith
  item_weighs block_statement below e = Prim.omega arith
  item_weighs (labeled_statement label) below e = Prim.omega arith
  item_weighs expression_statement below e = Prim.omega arith
  item_weighs (function function_kind.Declaration pure) below e = Prim.omega arith
  item_weighs (variable_declaration how) below e = Prim.omega arith
  item_weighs k below e = wrong e

  not_dead : (b : Bool) (n : ℕ) → b ≡ false → n + one_if b ≤ n
  not_dead true n e = absurd (true≢false e)
  not_dead false n e = Prim.omega arith

  item_lighter : (k : Kind) (below : Forest) → item_goes f w k below ≡ false → total facts.weight (item_left f w k below) + one_if (item_has_dead f w k below) ≤ total facts.weight below
  item_lighter (variable_declaration how) below e = declaration_lighter how below
  item_lighter k below e = not_dead (item_goes f w k below) (total facts.weight below) e

  item_same : (k : Kind) (below : Forest) → item_has_dead f w k below ≡ false → item_left f w k below ≡ below
  item_same (variable_declaration how) below e = declaration_same how below e
  item_same k below e = refl

  item_dead : (k : Kind) (below : Forest) → item_goes f w k below ≡ true → item_has_dead f w k below ≡ true
  item_dead (variable_declaration how) below e = declaration_dead how below e
  item_dead k below e = e

  -- ---- lists

  by_item : (g : Bool) (k : Kind) (n : Note) (below now rest left : Forest) (d o : Bool) → (g ≡ true → 1 ≤ facts.weight k) → (g ≡ false → total facts.weight now + one_if d ≤ total facts.weight below) → total facts.weight left + one_if o ≤ total facts.weight rest
      → total facts.weight (if g then left else node k n now left) + one_if (d || o) ≤ total facts.weight (node k n below rest)
  by_item true k n below now rest left d o weighs here later = let one : 1 ≤ facts.weight k = weighs refl in Prim.omega (arith, one, later, at_most_one (d || o))
  by_item false k n below now rest left d o weighs here later = let less : total facts.weight now + one_if d ≤ total facts.weight below = here refl in Prim.omega (arith, less, later, both_at_most d o)

  trims_lighter : (row : Forest) → total facts.weight (trimmed f w row) + one_if (has_dead f w row) ≤ total facts.weight row
  trims_lighter nothing = Prim.omega arith
  trims_lighter (absent rest) = trims_lighter rest
  trims_lighter (node k n below rest) =
      by_item (item_goes f w k below) k n below (item_left f w k below) rest (trimmed f w rest) (item_has_dead f w k below) (has_dead f w rest) (item_weighs k below) (item_lighter k below) (trims_lighter rest)

  pub trimmed_is_lighter : (row : Forest) → has_dead f w row ≡ true → total facts.weight (trimmed f w row) + 1 ≤ total facts.weight row
  trimmed_is_lighter row e = subst (λ b. total facts.weight (trimmed f w row) + one_if b ≤ total facts.weight row) e (trims_lighter row)

  kept_item : (g : Bool) (k : Kind) (n : Note) (below now rest left : Forest) → (g ≡ true → ⊥) → now ≡ below → left ≡ rest → (if g then left else node k n now left) ≡ node k n below rest
  kept_item true k n below now rest left stays here later = absurd (stays refl)
  kept_item false k n below now rest left stays here later = ap₂ (λ s t. node k n s t) here later

  pub trimmed_is_same : (row : Forest) → has_dead f w row ≡ false → trimmed f w row ≡ row
  trimmed_is_same nothing e = refl
  trimmed_is_same (absent rest) e = ap (λ t. absent t) (trimmed_is_same rest e)
  trimmed_is_same (node k n below rest) e =
      let here = first_of_neither (item_has_dead f w k below) (has_dead f w rest) e in
      kept_item (item_goes f w k below) k n below (item_left f w k below) rest (trimmed f w rest) (λ g. true≢false (sym (item_dead k below g) ∙ here)) (item_same k below here)
      (trimmed_is_same rest (second_of_neither (item_has_dead f w k below) (has_dead f w rest) e))

  -- ---- what is left has nothing that goes

  none_if : (g : Bool) (how : VariableKind) (k : Kind) (n : Note) (below left : Forest) → declarator_goes f w how k below ≡ g → one_goes f w how left ≡ false → one_goes f w how (if g then left else node k n below left) ≡ false
  none_if true how k n below left e h = h
  none_if false how k n below left e h = neither (declarator_goes f w how k below) (one_goes f w how left) e h

  declarators_alive : (how : VariableKind) (ds : Forest) → one_goes f w how (declarators_left f w how ds) ≡ false
  declarators_alive how nothing = refl
  declarators_alive how (absent rest) = declarators_alive how rest
  declarators_alive how (node k n below rest) = none_if (declarator_goes f w how k below) how k n below (declarators_left f w how rest) refl (declarators_alive how rest)

  declaration_alive : (how : VariableKind) (below : Forest) → declaration_has_dead f w how (declaration_left f w how below) ≡ false
  declaration_alive how (node declarators n ds rest) = declarators_alive how ds
  declaration_alive how nothing = refl
  declaration_alive how (absent rest) = refl
  declaration_alive how (node k n ds rest) = refl

  item_alive : (k : Kind) (below : Forest) → item_goes f w k below ≡ false → item_has_dead f w k (item_left f w k below) ≡ false
  item_alive (variable_declaration how) below e = declaration_alive how below
  item_alive k below e = e

  alive_if : (g : Bool) (k : Kind) (n : Note) (below left : Forest) → item_goes f w k below ≡ g → has_dead f w left ≡ false → has_dead f w (if g then left else node k n (item_left f w k below) left) ≡ false
  alive_if true k n below left e h = h
  alive_if false k n below left e h = neither (item_has_dead f w k (item_left f w k below)) (has_dead f w left) (item_alive k below e) h

  pub trimmed_is_alive : (row : Forest) → has_dead f w (trimmed f w row) ≡ false
  trimmed_is_alive nothing = refl
  trimmed_is_alive (absent rest) = trimmed_is_alive rest
  trimmed_is_alive (node k n below rest) = alive_if (item_goes f w k below) k n below (trimmed f w rest) refl (trimmed_is_alive rest)

  -- ---- references

  module _ (v : Weight) where
    fewer_if : (g : Bool) (k : Kind) (n : Note) (below now rest left : Forest) → tally v now ≤ tally v below → tally v left ≤ tally v rest → tally v (if g then left else node k n now left) ≤ tally v (node k n below rest)
    fewer_if true k n below now rest left here later = Prim.omega (arith, later)
    fewer_if false k n below now rest left here later = Prim.omega (arith, here, later)

    itself : (t : Forest) → tally v t ≤ tally v t
    itself t = Prim.omega arith

    declarators_fewer : (how : VariableKind) (ds : Forest) → tally v (declarators_left f w how ds) ≤ tally v ds
    declarators_fewer how nothing = Prim.omega arith
    declarators_fewer how (absent rest) = declarators_fewer how rest
    declarators_fewer how (node k n below rest) = fewer_if (declarator_goes f w how k below) k n below below rest (declarators_left f w how rest) (itself below) (declarators_fewer how rest)

    declaration_fewer : (how : VariableKind) (below : Forest) → tally v (declaration_left f w how below) ≤ tally v below
    declaration_fewer how (node declarators n ds rest) = Prim.omega (arith, declarators_fewer how ds)
    declaration_fewer how below = Prim.omega arith

    item_fewer : (k : Kind) (below : Forest) → tally v (item_left f w k below) ≤ tally v below
    item_fewer (variable_declaration how) below = declaration_fewer how below
    item_fewer k below = Prim.omega arith

    trimmed_fewer : (row : Forest) → tally v (trimmed f w row) ≤ tally v row
    trimmed_fewer nothing = Prim.omega arith
    trimmed_fewer (absent rest) = trimmed_fewer rest
    trimmed_fewer (node k n below rest) = fewer_if (item_goes f w k below) k n below (item_left f w k below) rest (trimmed f w rest) (item_fewer k below) (trimmed_fewer rest)

  pub trimmed_sheds : (row : Forest) (r : ℕ) → ids r (trimmed f w row) ≤ ids r row
  trimmed_sheds row r = trimmed_fewer (by_id r) row

-- ---- a statement

module _ (f : Facts) (p : Place) where
  silent_weighs : (k : Kind) (below : Forest) → is_silent_statement f (where_of p) k below ≡ true → 2 ≤ facts.weight k
  silent_weighs expression_statement below e = Prim.omega arith
  silent_weighs k below e = wrong e

  empty_weighs : (k : Kind) (below : Forest) → (is_silent_statement f (where_of p) k below ≡ true) ⊎ (is_idle_body p k below ≡ true) → 2 ≤ facts.weight k
  empty_weighs k below (inl silent) = silent_weighs k below silent
  empty_weighs k below (inr idle) =
      let idles = is_idle_statement k below in
      let none = declares_no_name k below in
      idle_weighs k (body_kind k below (first_of_both idles none (second_of_both (is_body p) (idles && none) idle)))

  pub emptied_is_lighter : (x y : Tree) → emptied f p x ≡ Some y → total facts.weight (forest_of y) + 1 ≤ total facts.weight (forest_of x)
  emptied_is_lighter x y e =
      let o = empties f p x y e in
      let weighs : 2 ≤ facts.weight x.kind = empty_weighs x.kind x.below (or_cases (is_silent_statement f (where_of p) x.kind x.below) (is_idle_body p x.kind x.below) o.goes) in
      subst (λ (t : Tree). total facts.weight (forest_of t) + 1 ≤ total facts.weight (forest_of x)) o.tree (Prim.omega (arith, weighs))

  pub emptied_sheds : (x y : Tree) → emptied f p x ≡ Some y → (r : ℕ) → ids r (forest_of y) ≤ ids r (forest_of x)
  emptied_sheds x y e r = subst (λ (t : Tree). ids r (forest_of t) ≤ ids r (forest_of x)) (empties f p x y e).tree (Prim.omega arith)
