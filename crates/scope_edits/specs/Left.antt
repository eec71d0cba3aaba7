-- A program from which the only direct call of eval leaves.
use Rattle.std.specs.Prelude.{ℕ, List, [], ◌∷◌, map, codes}
use Rattle.js_syntax.specs.Node.{Forest}
use Rattle.form_rules.specs.Samples.{a_module, reads, does, block, function_a, calls}
use Rattle.scope_rules.specs.Site.{sites_of, found_in}
use Rattle.scope_rules.specs.Table.{Scoping, scoping_of}
use Rattle.scope_rules.specs.Mark.{marked, first_marks}

-- function a() { eval(); } { }
abbrev pub with_the_call : Forest
with_the_call = a_module (function_a [] (does (calls (reads (codes "eval"))) ∷ []) ∷ block [] ∷ [])

-- function a() { } { } with the marks that it had
abbrev pub without_the_call : Forest
without_the_call = marked (first_marks (0 ∷ [])) (a_module (function_a [] [] ∷ block [] ∷ []))

abbrev pub table_before : Scoping
table_before = scoping_of (found_in (sites_of with_the_call))

abbrev pub scope_flags : Scoping → List ℕ
scope_flags s = map (λ x. x.flags) s.scopes
