-- The definition, tried on small expressions.
use Rattle.std.proofs.Common.{ℕ, List, [], ◌∷◌, refl}
use Rattle.js_syntax.specs.declared.node_kind.NodeKind.TheVariants.{ReferenceName as reference_name}
use Rattle.js_syntax.specs.Node.{Forest, Note, nothing, node}
use Rattle.form_rules.specs.Samples.{a, reads, one, function_a}
use Rattle.js_rebuilt.specs.Rebuilt.{Rebuilt, ends, stays, leaves, opened, built}
use Rattle.js_rebuilt.specs.Rows.{call_of_a, call_of_b, member, array, sequence, equals, and, negated, conditional}

pub array_rebuilt : Rebuilt (array (call_of_a ∷ one ∷ call_of_b ∷ [])) (sequence (call_of_a ∷ call_of_b ∷ []))
array_rebuilt = opened refl (opened refl (built (record { operation = refl; calls_none = refl; breaks_none = λ c p. refl }) (built (record { operation = refl; calls_none = refl; breaks_none = λ c p. refl }) (stays (leaves (stays ends))))))

pub comparison_rebuilt : Rebuilt (equals call_of_a call_of_b) (sequence (call_of_a ∷ call_of_b ∷ []))
comparison_rebuilt = opened refl (built (record { operation = refl; calls_none = refl; breaks_none = λ c p. refl }) (built (record { operation = refl; calls_none = refl; breaks_none = λ c p. refl }) (stays (stays ends))))

pub conditional_rebuilt : Rebuilt (conditional one member one) (sequence (one ∷ member ∷ []))
conditional_rebuilt = opened refl (built (record { operation = refl; calls_none = refl; breaks_none = λ c p. refl }) (built (record { operation = refl; calls_none = refl; breaks_none = λ c p. refl }) (stays (stays (leaves ends)))))

pub negation_rebuilt : Rebuilt (negated call_of_a) call_of_a
negation_rebuilt = opened refl (stays ends)

pub alternate_rebuilt : Rebuilt (conditional (reads a) call_of_a one) (and (reads a) call_of_a)
alternate_rebuilt = opened refl (built (record { operation = refl; calls_none = refl; breaks_none = λ c p. refl }) (stays (stays (leaves ends))))

pub sequence_rebuilt : Rebuilt (sequence (one ∷ call_of_a ∷ [])) call_of_a
sequence_rebuilt = opened refl (opened refl (leaves (stays ends)))

pub literal_rebuilt : Rebuilt (reads a) one
literal_rebuilt = leaves (built (record { operation = refl; calls_none = refl; breaks_none = λ c p. refl }) ends)

-- ---- what isn't

no_name : {x : List ℕ} {n : Note} {b r : Forest} → Rebuilt nothing (node (reference_name x) n b r) → ⊥
no_name (built may h) = absurd (cc may.operation)

pub name_comes : Rebuilt one (reads a) → ⊥
name_comes (leaves h) = no_name h
name_comes (opened is h) = no_name h
name_comes (built may h) = absurd (cc may.operation)

no_call : Rebuilt nothing call_of_a → ⊥
no_call (built may h) = absurd (cc may.calls_none)

pub call_comes_out : Rebuilt (function_a [] (call_of_a ∷ [])) call_of_a → ⊥
call_comes_out (leaves h) = no_call h
call_comes_out (opened is h) = absurd cc
call_comes_out (built may h) = absurd (cc may.calls_none)
