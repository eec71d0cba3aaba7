-- A small program with its table.
use Rattle.std.specs.Prelude.{ℕ, List, [], ◌∷◌, map}
use Rattle.js_syntax.specs.Node.{Forest}
use Rattle.form_rules.specs.Samples.{a_module, a, let_, reads, does}
use Rattle.scope_rules.specs.Site.{sites_of, found_in}
use Rattle.scope_rules.specs.Table.{Symbol, Scoping, scoping_of, symbols_declared}
use Rattle.scope_rules.specs.Mark.{marked, first_marks}

-- let a; a;
abbrev pub program : Forest
program = a_module (let_ a ∷ does (reads a) ∷ [])

abbrev pub marked_program : Forest
marked_program = marked (first_marks (symbols_declared (found_in (sites_of program)).bindings)) program

-- its table, where each symbol lists these references
abbrev pub listing : List ℕ → Symbol → Symbol
listing ids s = record { name = s.name; flags = s.flags; scope = s.scope; redeclarations = s.redeclarations; references = ids; is_pure = s.is_pure }

abbrev pub table_of : Scoping → List ℕ → Scoping
table_of s ids = record { scopes = s.scopes; symbols = map (listing ids) s.symbols; references = s.references; unresolved = s.unresolved }

abbrev pub table_with : List ℕ → Scoping
table_with ids = table_of (scoping_of (found_in (sites_of program))) ids
