-- A table whose only symbol lists a reference, and is left over.
use Rattle.std.proofs.Common.{[], inl, refl, arith}
use Rattle.scope_laws.specs.Exact.{Exact}
use Rattle.scope_match.specs.Matches.{Matches}
use Rattle.scope_match.specs.Leftover.{one_left, no_program}

pub left_matches : Matches one_left no_program
left_matches = record {
  marks = record { scopes = []; symbols = []; references = [] };
  are_marked = record { scopes = refl; references = refl; declarations = refl; symbols = refl; scopes_apart = tt; symbols_apart = tt; references_apart = tt };
  says = record {
    scopes = λ n h. absurd (Prim.omega (arith, h));
    symbols = λ n h. absurd (Prim.omega (arith, h));
    references = λ n h. absurd (Prim.omega (arith, h));
    unresolved = record { names = (tt, λ x. (λ k. k, λ k. k)); uses = (tt, λ x. (λ k. k, λ k. k)) };
  };
}

pub left_is_not_exact : Exact one_left no_program → ⊥
left_is_not_exact h = (((h.listed 0 _ refl).holds 0).0 (inl refl)).stands
