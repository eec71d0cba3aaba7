-- A declaration of the names that are kept of a statement weighs no more than it, and less where it is more than a declaration.
use Rattle.std.proofs.Common.{◌≡◌, ◌≤◌, ◌<◌, ◌⊎◌, inl, inr, ℕ, ◌+◌, List, [], ◌∷◌, ◌++◌, Bool, true, false, if◌then◌else◌, arith, refl, sym, subst}
use Rattle.std.specs.Prelude.{Option, Some, None, map}
use Rattle.js_syntax.specs.declared.node_kind.NodeKind.{NodeKind as Kind}
use Rattle.js_syntax.specs.declared.node_kind.NodeKind.TheVariants.{Declarators as declarators, VariableDeclarator as variable_declarator, VariableDeclaration as variable_declaration}
use Rattle.js_syntax.specs.declared.kind.VariableKind.TheVariants as variable
use Rattle.js_syntax.specs.Facts.{weight}
use Rattle.js_syntax.specs.Node.{Note, Forest, nothing, node, absent, Tree, row, forest_of, total}
use Rattle.js_tree.specs.Names.{Part, all_of, first_of, behind_first, Looked, looked, chosen, part_below, is_name, names_of}
use Rattle.scope_laws.proofs.Bindings.{same_value}
use Rattle.kept_names.specs.Kept.{is_var, holds_statements, declared_of, declared, kept_of, kept, declarator_of, declaration_of}

-- what their declarators weigh
abbrev pub weigh : List Tree → ℕ
weigh ts = total weight (row (map declarator_of ts))

weigh_joined : (xs ys : List Tree) → weigh (xs ++ ys) ≡ weigh xs + weigh ys
weigh_joined [] ys = Prim.omega arith
weigh_joined (x ∷ xs) ys = let later = weigh_joined xs ys in Prim.omega (arith, later)

-- ---- patterns

record Lighter (l : Looked) (bound : ℕ) : Type 0 where
  all : weigh l.all ≤ bound
  first : weigh l.first ≤ bound
  behind : weigh l.behind ≤ bound

chosen_lighter : (p : Option Part) (l : Looked) (bound : ℕ) → Lighter l bound → weigh (chosen p l) ≤ bound
chosen_lighter None l bound h = Prim.omega arith
chosen_lighter (Some all_of) l bound h = h.all
chosen_lighter (Some first_of) l bound h = h.first
chosen_lighter (Some behind_first) l bound h = h.behind

names_lighter : (named : Bool) (k : Kind) (n : Note) (a : Forest) (others : List Tree) → weigh others ≤ total weight a → weigh (if named then record { kind = k; note = n; below = a } ∷ [] else others) ≤ weight k + total weight a
names_lighter true k n a others h = Prim.omega arith
names_lighter false k n a others h = Prim.omega (arith, h)

looked_lighter : (t : Forest) → Lighter (looked t) (total weight t)
looked_lighter nothing = record { all = Prim.omega arith; first = Prim.omega arith; behind = Prim.omega arith }
looked_lighter (absent r) = let later = looked_lighter r in record { all = later.all; first = Prim.omega arith; behind = later.all }
looked_lighter (node k n a r) =
    let later = looked_lighter r in
    let l = looked a in
    let names = names_of (record { kind = k; note = n; below = a }) l in
    let here = names_lighter (is_name k) k n a (chosen (part_below k) l) (chosen_lighter (part_below k) l (total weight a) (looked_lighter a)) in
    let whole = weigh_joined names (looked r).all in
    let others = later.all in
    record { all = Prim.omega (arith, here, whole, others); first = Prim.omega (arith, here); behind = Prim.omega (arith, others) }

-- ---- declarators and statements

declared_lighter : (t : Forest) → weigh (declared t) ≤ total weight t
declared_lighter nothing = Prim.omega arith
declared_lighter (absent r) = declared_lighter r
declared_lighter (node k n a r) =
    let here = of_node k a (declared_lighter a) in
    let later = declared_lighter r in
    let whole = weigh_joined (declared_of k a (declared a)) (declared r) in
    Prim.omega (arith, here, later, whole)
  where
    of_node : (k : Kind) (a : Forest) → weigh (declared a) ≤ total weight a → weigh (declared_of k a (declared a)) ≤ total weight a
    of_node declarators a h = h
    of_node variable_declarator a h = (looked_lighter a).first
    of_node k a h = Prim.omega arith

var_weighs : (k : Kind) → is_var k ≡ true → weight k ≡ 2
var_weighs (variable_declaration variable.Var) h = refl
var_weighs k h = absurd cc

-- nothing is kept, or a declaration stands there
abbrev Spares : List Tree → ℕ → Type 0
Spares ts bound = (ts ≡ []) ⊎ (weigh ts + 2 ≤ bound)

of_node : (k : Kind) (a : Forest) → Spares (kept a) (total weight a) → (v s : Bool) → is_var k ≡ v → Spares (if v then declared a else if s then kept a else []) (weight k + total weight a)
of_node k a below true s is = let own = var_weighs k is in let names = declared_lighter a in inr (Prim.omega (arith, own, names))
of_node k a (inl none) false true is = inl none
of_node k a (inr more) false true is = inr (Prim.omega (arith, more))
of_node k a below false false is = inl refl

both : (xs ys : List Tree) (b c : ℕ) → Spares xs b → Spares ys c → Spares (xs ++ ys) (b + c)
both xs ys b c (inl none) (inl also) = inl (subst (λ z. z ++ ys ≡ []) (sym none) also)
both xs ys b c (inl none) (inr more) = inr (subst (λ z. weigh (z ++ ys) + 2 ≤ b + c) (sym none) (Prim.omega (arith, more)))
both xs ys b c (inr more) (inl none) = inr (subst (λ z. weigh (xs ++ z) + 2 ≤ b + c) (sym none) (let whole = weigh_joined xs [] in Prim.omega (arith, more, whole)))
both xs ys b c (inr more) (inr others) = let whole = weigh_joined xs ys in inr (Prim.omega (arith, more, others, whole))

kept_spares : (t : Forest) → Spares (kept t) (total weight t)
kept_spares nothing = inl refl
kept_spares (absent r) = kept_spares r
kept_spares (node k n a r) = both (kept_of k a (kept a)) (kept r) (weight k + total weight a) (total weight r) (of_node k a (kept_spares a) (is_var k) (holds_statements k) refl) (kept_spares r)

of_declaration : (ts : List Tree) (bound : ℕ) → Spares ts bound → total weight (row (declaration_of (map declarator_of ts) ∷ [])) ≤ bound
of_declaration [] bound h = Prim.omega arith
of_declaration (t ∷ ts) bound (inl none) = absurd cc
of_declaration (t ∷ ts) bound (inr more) = Prim.omega (arith, more)

pub weighs_no_more : (t : Forest) → total weight (row (declaration_of (map declarator_of (kept t)) ∷ [])) ≤ total weight t
weighs_no_more t = of_declaration (kept t) (total weight t) (kept_spares t)

-- of what lies further in
pub weighs_less : (k : Kind) (n : Note) (a : Forest) (y : Tree) → 1 ≤ weight k → is_var k ≡ false → declaration_of (map declarator_of (kept_of k a (kept a))) ≡ Some y → total weight (forest_of y) < total weight (node k n a nothing)
weighs_less k n a y heavy other is = go (is_var k) (holds_statements k) other is
  where
    less : (ts : List Tree) → Spares ts (total weight a) → declaration_of (map declarator_of ts) ≡ Some y → total weight (forest_of y) < total weight (node k n a nothing)
    less [] h e = absurd cc
    less (t ∷ ts) (inl none) e = absurd cc
    less (t ∷ ts) (inr more) e = subst (λ z. total weight (forest_of z) < total weight (node k n a nothing)) (same_value e) (Prim.omega (arith, more, heavy))

    go : (v s : Bool) → v ≡ false → declaration_of (map declarator_of (if v then declared a else if s then kept a else [])) ≡ Some y → total weight (forest_of y) < total weight (node k n a nothing)
    go true s h e = absurd cc
    go false true h e = less (kept a) (kept_spares a) e
    go false false h e = absurd cc
