-- Names that are kept of a statement in which `var` binds names alone: what a declaration of them counts, by a sum over nodes, the statement
-- counts too, and they are names.
use Rattle.std.proofs.Common.{◌≡◌, ◌≤◌, ◌⊎◌, inl, inr, ℕ, ◌+◌, List, [], ◌∷◌, ◌++◌, Bool, true, false, ◌&&◌, if◌then◌else◌, arith, refl, sym, subst}
use Rattle.std.specs.Prelude.{None, map}
use Rattle.js_syntax.specs.declared.node_kind.NodeKind.{NodeKind as Kind}
use Rattle.js_syntax.specs.declared.node_kind.NodeKind.TheVariants.{BindingName as binding_name, Declarators as declarators, VariableDeclarator as variable_declarator, VariableDeclaration as variable_declaration}
use Rattle.js_syntax.specs.declared.kind.VariableKind.TheVariants as variable
use Rattle.js_syntax.specs.Node.{Forest, Note, Tree, nothing, node, absent, nowhere, row, total}
use Rattle.js_syntax.proofs.Truth.{first_of_both, second_of_both, both}
use Rattle.kept_names.specs.Kept.{is_var, holds_statements, declared_of, declared, kept_of, kept, declarator_of}
use Rattle.steps.specs.KeepForm.Part.{a_var}
use Rattle.steps.specs.VarNames.Plain.{binds_name, bind_names, has_names, vars_bind_names_at, vars_bind_names}
use Rattle.steps.proofs.VarNames.Again.{is_bare_name, are_names}

-- a sum over nodes, of which those of a declaration count the same wherever they stood
pub record Sums (m : Forest → ℕ) : Type 0 where
  pub here : Kind → Note → ℕ
  pub ends : m nothing ≡ 0
  pub none : (r : Forest) → m (absent r) ≡ m r
  pub has : (k : Kind) (n : Note) (b r : Forest) → m (node k n b r) ≡ here k n + m b + m r
  pub var_anywhere : (n i : Note) → here a_var n ≡ here a_var i
  pub list_anywhere : (n i : Note) → here declarators n ≡ here declarators i
  pub declarator_anywhere : (n i : Note) → here variable_declarator n ≡ here variable_declarator i

pub total_sums : (counts : Kind → ℕ) → Sums (total counts)
total_sums counts = record { here = λ k n. counts k; ends = refl; none = λ r. refl; has = λ k n b r. refl; var_anywhere = λ n i. refl; list_anywhere = λ n i. refl; declarator_anywhere = λ n i. refl }

-- nothing is kept, or what comes of it counts no more than there is
abbrev pub AreFew : List Tree → (they bound : ℕ) → Type 0
AreFew ts they bound = (ts ≡ []) ⊎ (they ≤ bound)

module _ (m : Forest → ℕ) (it : Sums m) where
  abbrev sum : List Tree → ℕ
  sum ts = m (row (map declarator_of ts))

  abbrev pub whole : List Tree → ℕ
  whole ts = m (node a_var nowhere (node declarators nowhere (row (map declarator_of ts)) nothing) nothing)

  whole_is : (ts : List Tree) → whole ts ≡ it.here a_var nowhere + it.here declarators nowhere + sum ts
  whole_is ts =
      let inner = row (map declarator_of ts) in
      Prim.omega (arith, it.ends, it.has a_var nowhere (node declarators nowhere inner nothing) nothing, it.has declarators nowhere inner nothing)

  one_is : (t : Tree) (ts : List Tree) → sum (t ∷ ts) ≡ it.here variable_declarator nowhere + (it.here t.kind t.note + m t.below) + sum ts
  one_is t ts =
      let n : Note = record { span = t.note.span; id = None } in
      let name = node t.kind t.note t.below (absent nothing) in
      Prim.omega (arith, it.ends, it.has variable_declarator n name (row (map declarator_of ts)), it.declarator_anywhere n nowhere, it.has t.kind t.note t.below (absent nothing), it.none nothing)

  sum_joined : (xs ys : List Tree) → sum (xs ++ ys) ≡ sum xs + sum ys
  sum_joined [] ys = Prim.omega (arith, it.ends)
  sum_joined (x ∷ xs) ys = Prim.omega (arith, one_is x (xs ++ ys), one_is x xs, sum_joined xs ys)

  -- ---- declarators

  name_counts : (k : Kind) (n : Note) (a : Forest) → binds_name k a ≡ true → sum (declared_of k a (declared a)) ≤ it.here k n + m a
  name_counts variable_declarator n (node (binding_name x) i nothing value) h =
      Prim.omega (arith, it.ends, one_is (record { kind = binding_name x; note = i; below = nothing }) [], it.declarator_anywhere n nowhere, it.has (binding_name x) i nothing value)
  name_counts variable_declarator n (node (binding_name x) i (absent r) value) h = absurd cc
  name_counts variable_declarator n (node (binding_name x) i (node j o c r) value) h = absurd cc
  name_counts variable_declarator n (node k i inner value) h = absurd cc
  name_counts variable_declarator n (absent r) h = absurd cc
  name_counts variable_declarator n nothing h = absurd cc
  name_counts k n a h = absurd cc

  names_count : (t : Forest) → bind_names t ≡ true → sum (declared t) ≤ m t
  names_count nothing h = Prim.omega arith
  names_count (absent r) h = Prim.omega (arith, it.none r, names_count r h)
  names_count (node k n a r) h =
      Prim.omega (
        arith,
        it.has k n a r,
        sum_joined (declared_of k a (declared a)) (declared r),
        name_counts k n a (first_of_both (binds_name k a) (bind_names r) h),
        names_count r (second_of_both (binds_name k a) (bind_names r) h),
      )

  -- ---- statements

  of_declaration : (a : Forest) → has_names a ≡ true → it.here declarators nowhere + sum (declared a) ≤ m a
  of_declaration (node declarators n ds nothing) h =
      Prim.omega (arith, it.ends, it.has declarators n ds nothing, it.list_anywhere n nowhere, names_count ds h, sum_joined (declared ds) [])
  of_declaration (node declarators n ds (absent r)) h = absurd cc
  of_declaration (node declarators n ds (node k i b r)) h = absurd cc
  of_declaration (node k n ds r) h = absurd cc
  of_declaration (absent r) h = absurd cc
  of_declaration nothing h = absurd cc

  var_counts : (k : Kind) (n : Note) → is_var k ≡ true → it.here k n ≡ it.here a_var nowhere
  var_counts (variable_declaration variable.Var) n h = it.var_anywhere n nowhere
  var_counts k n h = absurd cc

  of_node : (k : Kind) (n : Note) (a : Forest) (v s : Bool) → is_var k ≡ v → (if v then has_names a else if s then vars_bind_names a else true) ≡ true → (vars_bind_names a ≡ true → AreFew (kept a) (whole (kept a)) (m a))
      → let ts = if v then declared a else if s then kept a else [] in AreFew ts (whole ts) (it.here k n + m a)
  of_node k n a true s is h below = inr (Prim.omega (arith, whole_is (declared a), var_counts k n is, of_declaration a h))
  of_node k n a false true is h below = elim (below h) [
    | inl none ↦ inl none
    | inr few ↦ inr (Prim.omega (arith, few))
  ]
  of_node k n a false false is h below = inl refl

  both_few : (xs ys : List Tree) (b c : ℕ) → AreFew xs (whole xs) b → AreFew ys (whole ys) c → AreFew (xs ++ ys) (whole (xs ++ ys)) (b + c)
  both_few xs ys b c (inl none) (inl also) = inl (subst (λ z. z ++ ys ≡ []) (sym none) also)
  both_few xs ys b c (inl none) (inr more) = inr (subst (λ z. whole (z ++ ys) ≤ b + c) (sym none) (Prim.omega (arith, more)))
  both_few xs ys b c (inr more) (inl none) = inr (subst (λ z. whole (xs ++ z) ≤ b + c) (sym none) (Prim.omega (arith, more, it.ends, whole_is xs, whole_is (xs ++ []), sum_joined xs [])))
  both_few xs ys b c (inr more) (inr others) = inr (Prim.omega (arith, more, others, whole_is xs, whole_is ys, whole_is (xs ++ ys), sum_joined xs ys))

  pub kept_few : (t : Forest) → vars_bind_names t ≡ true → AreFew (kept t) (whole (kept t)) (m t)
  kept_few nothing h = inl refl
  kept_few (absent r) h = elim (kept_few r h) [
    | inl none ↦ inl none
    | inr few ↦ inr (Prim.omega (arith, few, it.none r))
  ]
  kept_few (node k n a r) h =
      let here = vars_bind_names_at k a (vars_bind_names a) in
      subst (λ bound. AreFew (kept (node k n a r)) (whole (kept (node k n a r))) bound) (sym (it.has k n a r))
      (both_few (kept_of k a (kept a)) (kept r) (it.here k n + m a) (m r)
      (of_node k n a (is_var k) (holds_statements k) refl (first_of_both here (vars_bind_names r) h) (kept_few a)) (kept_few r (second_of_both here (vars_bind_names r) h)))

-- ---- they are names, below which nothing stands

joined_names : (xs ys : List Tree) → are_names xs ≡ true → are_names ys ≡ true → are_names (xs ++ ys) ≡ true
joined_names [] ys h g = g
joined_names (x ∷ xs) ys h g =
    both (is_bare_name x) (are_names (xs ++ ys)) (first_of_both (is_bare_name x) (are_names xs) h) (joined_names xs ys (second_of_both (is_bare_name x) (are_names xs) h) g)

name_bound : (k : Kind) (a : Forest) → binds_name k a ≡ true → are_names (declared_of k a (declared a)) ≡ true
name_bound variable_declarator (node (binding_name x) i nothing value) h = refl
name_bound variable_declarator (node (binding_name x) i (absent r) value) h = absurd cc
name_bound variable_declarator (node (binding_name x) i (node j o c r) value) h = absurd cc
name_bound variable_declarator (node k i inner value) h = absurd cc
name_bound variable_declarator (absent r) h = absurd cc
name_bound variable_declarator nothing h = absurd cc
name_bound k a h = absurd cc

names_bound : (t : Forest) → bind_names t ≡ true → are_names (declared t) ≡ true
names_bound nothing h = refl
names_bound (absent r) h = names_bound r h
names_bound (node k n a r) h =
    joined_names (declared_of k a (declared a)) (declared r) (name_bound k a (first_of_both (binds_name k a) (bind_names r) h)) (names_bound r (second_of_both (binds_name k a) (bind_names r) h))

declaration_bound : (a : Forest) → has_names a ≡ true → are_names (declared a) ≡ true
declaration_bound (node declarators n ds nothing) h = joined_names (declared ds) [] (names_bound ds h) refl
declaration_bound (node declarators n ds (absent r)) h = absurd cc
declaration_bound (node declarators n ds (node k i b r)) h = absurd cc
declaration_bound (node k n ds r) h = absurd cc
declaration_bound (absent r) h = absurd cc
declaration_bound nothing h = absurd cc

node_bound : (a : Forest) (v s : Bool) → (if v then has_names a else if s then vars_bind_names a else true) ≡ true → (vars_bind_names a ≡ true → are_names (kept a) ≡ true)
    → are_names (if v then declared a else if s then kept a else []) ≡ true
node_bound a true s h below = declaration_bound a h
node_bound a false true h below = below h
node_bound a false false h below = refl

pub kept_bound : (t : Forest) → vars_bind_names t ≡ true → are_names (kept t) ≡ true
kept_bound nothing h = refl
kept_bound (absent r) h = kept_bound r h
kept_bound (node k n a r) h =
    let here = vars_bind_names_at k a (vars_bind_names a) in
    joined_names (kept_of k a (kept a)) (kept r) (node_bound a (is_var k) (holds_statements k) (first_of_both here (vars_bind_names r) h) (kept_bound a)) (kept_bound r (second_of_both here (vars_bind_names r) h))
