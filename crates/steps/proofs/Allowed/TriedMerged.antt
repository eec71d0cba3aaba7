-- Two imports that become one, tried on small programs.
use Rattle.std.proofs.Common.{◌≡◌, ◌==◌, ℕ, List, Bool, [], ◌∷◌, false, true≢false, codes, ap, refl}
use Rattle.js_syntax.specs.declared.node_kind.NodeKind.{NodeKind as Kind}
use Rattle.js_syntax.specs.declared.node_kind.NodeKind.TheVariants.{ImportDeclaration as import_declaration}
use Rattle.js_syntax.specs.Node.{Forest, Note, nothing, node, nowhere, joined}
use Rattle.form_rules.specs.Samples.{a_module, a, does}
use Rattle.scope_rules.specs.Samples.{b, imports}
use Rattle.steps.specs.Allowed.MergedImports.{WithoutImport, import_leaves, leaves_behind, MergesIn, merges_here, merges_behind, MergedImports, imports_merge}
use Rattle.steps.specs.Allowed.Edits.{Edit, merges}
use Rattle.steps.specs.Allowed.Rows.{call_of_a, call_of_eval, takes_from, takes_from_other, default_name, namespace_name, name_as}

pub names_together : Edit (a_module (takes_from (name_as a a ∷ []) ∷ takes_from (name_as b b ∷ []) ∷ [])) (a_module (takes_from (name_as a a ∷ name_as b b ∷ []) ∷ []))
names_together = merges _ _ (imports_merge nowhere nowhere _ _ (merges_here (codes "m") nowhere nowhere (name_as a a) (name_as b b) _ _ refl (import_leaves nowhere nowhere _)) refl)

pub default_comes_in_front : Edit (a_module (takes_from (name_as a a ∷ []) ∷ does call_of_a ∷ takes_from (default_name b ∷ []) ∷ [])) (a_module (takes_from (default_name b ∷ name_as a a ∷ []) ∷ does call_of_a ∷ []))
default_comes_in_front = merges _ _ (imports_merge nowhere nowhere _ _ (merges_here (codes "m") nowhere nowhere (name_as a a) (default_name b) _ _ refl (leaves_behind _ nowhere _ _ _ (import_leaves nowhere nowhere _))) refl)

pub second_default_is_named : Edit (a_module (imports a ∷ imports b ∷ [])) (a_module (takes_from (default_name a ∷ name_as (codes "default") b ∷ []) ∷ []))
second_default_is_named = merges _ _ (imports_merge nowhere nowhere _ _ (merges_here (codes "m") nowhere nowhere (default_name a) (default_name b) _ _ refl (import_leaves nowhere nowhere _)) refl)

pub default_beside_namespace : Edit (a_module (takes_from (namespace_name a ∷ []) ∷ imports b ∷ [])) (a_module (takes_from (default_name b ∷ namespace_name a ∷ []) ∷ []))
default_beside_namespace = merges _ _ (imports_merge nowhere nowhere _ _ (merges_here (codes "m") nowhere nowhere (namespace_name a) (default_name b) _ _ refl (import_leaves nowhere nowhere _)) refl)

only_of_module : (source : List ℕ) (names s : Forest) (k : Kind) (n : Note) (below : Forest) → WithoutImport source names (node k n below nothing) s → k ≡ import_declaration source
only_of_module source names _ _ _ _ (import_leaves n m _) = refl
only_of_module source names _ _ _ _ (leaves_behind k n below _ s out) = elim out [ ]

-- its first letter is the one of `n`
abbrev asks_for_other : Kind → Bool
asks_for_other (import_declaration (c ∷ more)) = c == 110
asks_for_other k = false

pub other_module_stays : (s : Forest) → MergesIn (joined (imports a) (takes_from_other (default_name b ∷ []))) s → ⊥
other_module_stays _ (merges_here source n m names later r s h out) = true≢false (ap asks_for_other (only_of_module (codes "m") later s (import_declaration (codes "n")) nowhere _ out))
other_module_stays _ (merges_behind k n below r s (merges_here source l m names later _ u h out)) = elim out [ ]
other_module_stays _ (merges_behind k n below r s (merges_behind l m c _ u h)) = elim h [ ]

pub evaluated_stays : (t : Forest) → MergedImports (a_module (imports a ∷ imports b ∷ does call_of_eval ∷ [])) t → ⊥
evaluated_stays _ (imports_merge n m r s h no_calls) = true≢false no_calls
