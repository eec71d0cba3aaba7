-- What holds of each declaration of a row, as a list.
use Rattle.std.proofs.Common.{ℕ, List, ◌++◌, inl, inr, Option, refl, subst}
use Rattle.js_syntax.specs.declared.node_kind.NodeKind.{NodeKind as Kind}
use Rattle.js_syntax.specs.declared.node_kind.NodeKind.TheVariants.{BindingName as binding_name}
use Rattle.js_syntax.specs.Node.{Forest, Note, nothing, node, absent}
use Rattle.scope_laws.specs.Exact.{Among}
use Rattle.scope_laws.proofs.Among.{among_left, among_right}
use Rattle.scope_counts.specs.Counts.{Decl}
use Rattle.scope_counts.specs.Losing.{own_declaring, declaring}
use Rattle.scope_counts.specs.Scopes.{EachName, EachDeclaration}
use Rattle.scope_counts.proofs.Scopes.{each_joined}

if_name : (P : List ℕ → Option ℕ → Type 0) (n : Note) (k : Kind) → EachName P n k → (d : Decl) → Among d (own_declaring n k) → P d.name d.symbol
if_name P n (binding_name x) e d (inl h) = subst (λ (d : Decl). P d.name d.symbol) h e
if_name P n (binding_name x) e d (inr h) = absurd h
if_name P n k e d h = absurd h

name_if : (P : List ℕ → Option ℕ → Type 0) (n : Note) (k : Kind) → ((d : Decl) → Among d (own_declaring n k) → P d.name d.symbol) → EachName P n k
name_if P n (binding_name x) f = f _ (inl refl)
name_if P n k f = tt

pub declaring_each : (P : List ℕ → Option ℕ → Type 0) (t : Forest) → EachDeclaration P t → (d : Decl) → Among d (declaring t) → P d.name d.symbol
declaring_each P nothing e d h = absurd h
declaring_each P (absent t) e d h = declaring_each P t e d h
declaring_each P (node k n b t) e d h =
    each_joined (λ (d : Decl). P d.name d.symbol) (own_declaring n k ++ declaring b) (declaring t)
    (each_joined (λ (d : Decl). P d.name d.symbol) (own_declaring n k) (declaring b) (if_name P n k e.0) (declaring_each P b e.1)) (declaring_each P t e.2) d h

pub each_declaring : (P : List ℕ → Option ℕ → Type 0) (t : Forest) → ((d : Decl) → Among d (declaring t) → P d.name d.symbol) → EachDeclaration P t
each_declaring P nothing f = tt
each_declaring P (absent t) f = each_declaring P t f
each_declaring P (node k n b t) f = (
  name_if P n k (λ d h. f d (among_left d (own_declaring n k ++ declaring b) (declaring t) (among_left d (own_declaring n k) (declaring b) h))),
  each_declaring P b (λ d h. f d (among_left d (own_declaring n k ++ declaring b) (declaring t) (among_right d (own_declaring n k) (declaring b) h))),
  each_declaring P t (λ d h. f d (among_right d (own_declaring n k ++ declaring b) (declaring t) h)),
)
