-- A small program, by computing.
use Rattle.std.proofs.Common.{◌≡◌, ◌∙◌, ℕ, [], ◌∷◌, inl, inr, refl, sym, ap, arith}
use Rattle.scope_rules.specs.Site.{ReferenceSite, sites_of, bindings_among, references_among}
use Rattle.scope_laws.specs.Exact.{Among, IsNamed, Exact}
use Rattle.scope_laws.specs.Rows.{program, marked_program, table_with}
use Rattle.scope_laws.proofs.Bindings.{same_value}
use Rattle.scope_laws.proofs.Exact.{exact}

pub once : Exact (table_with (0 ∷ [])) marked_program
once = exact program

-- its only reference has the number 0
named : (id : ℕ) → IsNamed (bindings_among (sites_of marked_program)) (references_among (sites_of marked_program)) 0 id → id ≡ 0
named id n = only n.stands
  where
    only : Among n.reference (references_among (sites_of marked_program)) → id ≡ 0
    only (inl e) = same_value (sym n.has_id ∙ ap (λ (r : ReferenceSite). r.id) (sym e))
    only (inr h) = absurd h

pub another : Exact (table_with (0 ∷ 1 ∷ [])) marked_program → ⊥
another e = Prim.omega (arith, named 1 (((e.listed 0 _ refl).holds 1).0 (inr (inl refl))))

pub twice : Exact (table_with (0 ∷ 0 ∷ [])) marked_program → ⊥
twice e = (e.listed 0 _ refl).once.0 (inl refl)

pub never : Exact (table_with []) marked_program → ⊥
never e = ((e.listed 0 _ refl).holds 0).1 (((once.listed 0 _ refl).holds 0).0 (inl refl))
