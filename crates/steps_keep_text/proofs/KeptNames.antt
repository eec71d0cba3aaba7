-- A declaration of the names that are kept of a statement counts no more than the statement, and stands no deeper.
use Rattle.std.proofs.Common.{◌≡◌, ◌≤◌, ◌⊎◌, inl, inr, ℕ, suc, ◌+◌, List, [], ◌∷◌, ◌++◌, Bool, true, false, max, ◌∙◌, ◌&&◌, if◌then◌else◌, append-nil, arith, refl, sym, subst, true≢false}
use Rattle.std.specs.Prelude.{map}
use Rattle.js_syntax.specs.declared.node_kind.NodeKind.{NodeKind as Kind}
use Rattle.js_syntax.specs.declared.node_kind.NodeKind.TheVariants.{BindingName as binding_name, Declarators as declarators, VariableDeclarator as variable_declarator, VariableDeclaration as variable_declaration}
use Rattle.js_syntax.specs.declared.kind.VariableKind.TheVariants as variable
use Rattle.js_syntax.specs.Node.{Forest, Note, Tree, nothing, node, absent, nowhere, row, alone, total}
use Rattle.js_syntax.proofs.Truth.{first_of_both, second_of_both}
use Rattle.js_tree.specs.Count.{one_each, lower, levels_at}
use Rattle.kept_names.specs.Kept.{is_var, holds_statements, declared_of, declared, kept_of, kept, declarator_of}
use Rattle.steps.specs.KeepForm.Part.{a_var, leaves_names_of}
use Rattle.steps.specs.VarNames.Plain.{binds_name, bind_names, has_names, vars_bind_names_at, vars_bind_names}
use Rattle.steps.proofs.VarNames.Again.{is_name_alone, is_bare_name, are_names}
use Rattle.steps.proofs.VarNames.Counted.{total_sums, AreFew, whole, kept_few}
use Rattle.steps.proofs.VarNames.Left.{NamesLeft}

-- ---- counts

pub names_weigh_less : (counts : Kind → ℕ) (k : Kind) (n m : Note) (a b : Forest) → NamesLeft k n a m b → counts a_var + total counts b ≤ counts k + total counts a
names_weigh_less counts k n m a b left =
    elim (kept_few (total counts) (total_sums counts) (alone k n a) left.plain) [
      | inl none ↦ absurd (left.some (sym left.kept_are ∙ none))
      | inr few ↦
          let there : whole (total counts) (total_sums counts) left.names ≤ total counts (alone k n a) = subst (λ ts. whole (total counts) (total_sums counts) ts ≤ total counts (alone k n a)) left.kept_are few in
          subst (λ c. counts a_var + total counts c ≤ counts k + total counts a) (sym left.is) (Prim.omega (arith, there))
    ]

-- ---- levels

name_deep : (k : Kind) (m : Note) (b : Forest) → is_name_alone k b ≡ true → levels_at (lower variable_declarator) 0 (node k m b (absent nothing)) ≤ 1
name_deep (binding_name x) m nothing h = Prim.omega arith
name_deep (binding_name x) m (absent r) h = absurd cc
name_deep (binding_name x) m (node j i c r) h = absurd cc
name_deep k m b h = absurd cc

new_deep : (at : ℕ) (ts : List Tree) → are_names ts ≡ true → levels_at (lower declarators) at (row (map declarator_of ts)) ≤ 2
new_deep at [] h = Prim.omega arith
new_deep at (t ∷ ts) h =
    let here = name_deep t.kind t.note t.below (first_of_both (is_bare_name t) (are_names ts) h) in
    let later = new_deep (suc at) ts (second_of_both (is_bare_name t) (are_names ts) h) in
    Prim.omega (arith, here, later)

declarator_deep : (k : Kind) (a : Forest) → binds_name k a ≡ true → 2 ≤ one_each k + levels_at (lower k) 0 a
declarator_deep variable_declarator (node (binding_name x) n nothing value) h = Prim.omega arith
declarator_deep variable_declarator (node (binding_name x) n (absent r) value) h = absurd cc
declarator_deep variable_declarator (node (binding_name x) n (node j o c r) value) h = absurd cc
declarator_deep variable_declarator (node k n inner value) h = absurd cc
declarator_deep variable_declarator (absent r) h = absurd cc
declarator_deep variable_declarator nothing h = absurd cc
declarator_deep k a h = absurd cc

declarators_deep : (more : ℕ → ℕ) (at : ℕ) (t : Forest) → bind_names t ≡ true → AreFew (declared t) 2 (levels_at more at t)
declarators_deep more at nothing h = inl refl
declarators_deep more at (absent r) h = declarators_deep more (suc at) r h
declarators_deep more at (node k n a r) h = let here = declarator_deep k a (first_of_both (binds_name k a) (bind_names r) h) in inr (Prim.omega (arith, here))

alone_few : (ts : List Tree) (they bound : ℕ) → AreFew ts they bound → AreFew (ts ++ []) they bound
alone_few ts they bound few = subst (λ l. AreFew l they bound) (sym (append-nil ts)) few

var_deep : (more : ℕ → ℕ) (a : Forest) → has_names a ≡ true → AreFew (declared a) 2 (levels_at more 0 a)
var_deep more (node declarators n ds nothing) h = elim (alone_few (declared ds) 2 (levels_at (lower declarators) 0 ds) (declarators_deep (lower declarators) 0 ds h)) [
  | inl none ↦ inl none
  | inr few ↦ inr (Prim.omega (arith, few))
]
var_deep more (node declarators n ds (absent r)) h = absurd cc
var_deep more (node declarators n ds (node k m b r)) h = absurd cc
var_deep more (node k n ds r) h = absurd cc
var_deep more (absent r) h = absurd cc
var_deep more nothing h = absurd cc

one_var : (k : Kind) → is_var k ≡ true → one_each k ≡ 1
one_var (variable_declaration variable.Var) h = refl
one_var k h = absurd cc

node_deep : (k : Kind) (a : Forest) (v s : Bool) → is_var k ≡ v → (if v then has_names a else if s then vars_bind_names a else true) ≡ true
    → (vars_bind_names a ≡ true → AreFew (kept a) 3 (levels_at (lower k) 0 a)) → AreFew (if v then declared a else if s then kept a else []) 3 (one_each k + levels_at (lower k) 0 a)
node_deep k a true s is h below = let own = one_var k is in elim (var_deep (lower k) a h) [
  | inl none ↦ inl none
  | inr few ↦ inr (Prim.omega (arith, own, few))
]
node_deep k a false true is h below = elim (below h) [
  | inl none ↦ inl none
  | inr few ↦ inr (Prim.omega (arith, few))
]
node_deep k a false false is h below = inl refl

both_deep : (xs ys : List Tree) (more own b c : ℕ) → AreFew xs 3 (own + b) → AreFew ys 3 c → AreFew (xs ++ ys) 3 (max (more + own + b) c)
both_deep xs ys more own b c (inl none) (inl also) = inl (subst (λ z. z ++ ys ≡ []) (sym none) also)
both_deep xs ys more own b c (inl none) (inr few) = inr (Prim.omega (arith, few))
both_deep xs ys more own b c (inr few) others = inr (Prim.omega (arith, few))

kept_deep : (more : ℕ → ℕ) (at : ℕ) (t : Forest) → vars_bind_names t ≡ true → AreFew (kept t) 3 (levels_at more at t)
kept_deep more at nothing h = inl refl
kept_deep more at (absent r) h = kept_deep more (suc at) r h
kept_deep more at (node k n a r) h =
    let here = vars_bind_names_at k a (vars_bind_names a) in
    both_deep (kept_of k a (kept a)) (kept r) (more at) (one_each k) (levels_at (lower k) 0 a) (levels_at more (suc at) r)
    (node_deep k a (is_var k) (holds_statements k) refl (first_of_both here (vars_bind_names r) h) (kept_deep (lower k) 0 a)) (kept_deep more (suc at) r (second_of_both here (vars_bind_names r) h))

no_kind : {A : Type 0} → false ≡ true → A
no_kind e = absurd (true≢false (sym e))

pub one_statement : (k : Kind) → leaves_names_of k ≡ true → one_each k ≡ 1
one_statement (Kind.LabeledStatement l) h = refl
one_statement Kind.IfStatement h = refl
one_statement Kind.WithStatement h = refl
one_statement Kind.WhileStatement h = refl
one_statement Kind.DoWhileStatement h = refl
one_statement Kind.ForStatement h = refl
one_statement Kind.ForInStatement h = refl
one_statement Kind.ForOfStatement h = refl
one_statement Kind.SwitchStatement h = refl
one_statement Kind.TryStatement h = refl
one_statement k h = no_kind h

pub names_no_deeper : (k : Kind) (n m : Note) (a b : Forest) → NamesLeft k n a m b → levels_at (lower a_var) 0 b ≤ levels_at (lower k) 0 a
names_no_deeper k n m a b left =
    let own = one_statement k left.holds in
    elim (kept_deep (λ i. 0) 0 (alone k n a) left.plain) [
      | inl none ↦ absurd (left.some (sym left.kept_are ∙ none))
      | inr deep ↦
          let new = new_deep 0 left.names left.bare in
          subst (λ c. levels_at (lower a_var) 0 c ≤ levels_at (lower k) 0 a) (sym left.is) (Prim.omega (arith, own, deep, new))
    ]
