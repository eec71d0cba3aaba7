-- The private names of one more member.
use Rattle.std.proofs.Common.{◌≡◌, ◌≢◌, ◌∙◌, ◌⊎◌, inl, inr, ℕ, List, ◌++◌, append_assoc, refl, sym, ap}
use Rattle.js_syntax.specs.declared.node_kind.NodeKind.{NodeKind as Kind}
use Rattle.js_syntax.specs.declared.node_kind.NodeKind.TheVariants.{ClassBody as class_body, Members as members}
use Rattle.js_syntax.specs.Node.{Forest, node, Note}
use Rattle.form_rules.specs.Context.{private_of, privates_of}

-- what is found so far, and what is left to be found
pub found_so_far : (new old here rest left all : List (List ℕ)) → new ≡ old ++ here → left ≡ here ++ rest → old ++ left ≡ all → new ++ rest ≡ all
found_so_far new old here rest left all is split so_far = ap (λ xs. xs ++ rest) is ∙ append_assoc old here rest ∙ ap (λ xs. old ++ xs) (sym split) ∙ so_far

pub of_member : (k : Kind) (n : Note) (below rest : Forest) → k ≢ class_body → k ≢ members → privates_of (node k n below rest) ≡ private_of k below ++ privates_of rest
of_member class_body n below rest a b = absurd (a refl)
of_member members n below rest a b = absurd (b refl)
of_member k n below rest a b = refl

pub of_list : (k seen : Kind) (n : Note) (below rest : Forest) → seen ≡ k → (seen ≡ class_body) ⊎ (seen ≡ members) → privates_of (node k n below rest) ≡ privates_of below ++ privates_of rest
of_list k seen n below rest is (inl e) = ap (λ j. privates_of (node j n below rest)) (sym is ∙ e)
of_list k seen n below rest is (inr e) = ap (λ j. privates_of (node j n below rest)) (sym is ∙ e)
