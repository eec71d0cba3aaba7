-- A declaration of the names that are kept of a statement declares in every layer what the statement does.
use Rattle.std.proofs.Common.{◌≡◌, ◌∙◌, ℕ, suc, List, [], ◌∷◌, ◌++◌, Bool, true, false, if◌then◌else◌, refl, sym, ap₂}
use Rattle.std.specs.Prelude.{map}
use Rattle.std.proofs.lemmas.List.{append-nil}
use Rattle.js_syntax.specs.Class.{statement}
use Rattle.js_syntax.specs.declared.node_kind.NodeKind.{NodeKind as Kind}
use Rattle.js_syntax.specs.declared.node_kind.NodeKind.TheVariants.{BindingName as binding_name}
use Rattle.js_syntax.specs.Node.{Note, Forest, nothing, node, absent, Tree, row}
use Rattle.js_syntax.proofs.Truth.{first_of_both, second_of_both}
use Rattle.json_shape.specs.Shape.{Fits}
use Rattle.kept_names.specs.Kept.{kept, declarator_of, declaration_of}
use Rattle.scope_counts.specs.Counts.{Aims, naming_in, hoisted}
use Rattle.steps.specs.Allowed.Branches.{declares_none}
use Rattle.steps.specs.Fit.Enclosed.{is_enclosed}
use Rattle.steps.specs.VarNames.Declared.{without_vars, decls_if}
use Rattle.steps.proofs.VarNames.Again.{is_name_alone, is_bare_name, are_names, kept_are_names}
use Rattle.steps.proofs.VarNames.Layers.{if_joined, if_none}
use Rattle.steps.proofs.VarNames.Hoisted.{kept_declares}

one_name : (c : Aims) (k : Kind) (n : Note) (b : Forest) → is_name_alone k b ≡ true → hoisted (λ i. c) 0 (node k n b (absent nothing)) ++ [] ≡ decls_if c.naming (record { kind = k; note = n; below = b } ∷ [])
one_name c (binding_name x) n nothing h = go c.naming
  where
    go : (v : Bool) → (((if v then record { name = x; symbol = n.id } ∷ [] else []) ++ []) ++ []) ++ [] ≡ decls_if v (record { kind = binding_name x; note = n; below = nothing } ∷ [])
    go true = refl
    go false = refl
one_name c (binding_name x) n (absent r) h = absurd cc
one_name c (binding_name x) n (node j m d r) h = absurd cc
one_name c k n b h = absurd cc

their_names : (c : Aims) (at : ℕ) (ts : List Tree) → are_names ts ≡ true → hoisted (λ i. c) at (row (map declarator_of ts)) ≡ decls_if c.naming ts
their_names c at [] h = sym (if_none c.naming)
their_names c at (t ∷ ts) h =
    ap₂ (λ x y. x ++ y) (sym (append-nil _) ∙ one_name c t.kind t.note t.below (first_of_both (is_bare_name t) (are_names ts) h)) (their_names c (suc at) ts (second_of_both (is_bare_name t) (are_names ts) h))
    ∙ sym (if_joined c.naming (t ∷ []) ts)

declaration_of_names : (ts : List Tree) → are_names ts ≡ true → (aims : ℕ → Aims) (at : ℕ) → hoisted aims at (row (declaration_of (map declarator_of ts) ∷ [])) ≡ decls_if (aims at).variables ts
declaration_of_names [] h aims at = sym (if_none (aims at).variables)
declaration_of_names (t ∷ ts) h aims at =
    let inner = hoisted (λ i. naming_in (aims at).variables (aims at)) 0 (row (map declarator_of (t ∷ ts))) in
    append-nil (inner ++ []) ∙ append-nil inner ∙ their_names (naming_in (aims at).variables (aims at)) 0 (t ∷ ts) h

pub declared_in_layers : (t : Forest) → Fits statement t → declares_none (without_vars t) ≡ true → is_enclosed t ≡ true → (aims : ℕ → Aims) (at : ℕ) → ((i : ℕ) → (aims i).variables ≡ (aims at).variables)
    → hoisted aims at (row (declaration_of (map declarator_of (kept t)) ∷ [])) ≡ hoisted aims at t
declared_in_layers t fits h e aims at same =
    declaration_of_names (kept t) (kept_are_names t fits) aims at ∙ sym (kept_declares t fits h e aims at (aims at).variables same)
