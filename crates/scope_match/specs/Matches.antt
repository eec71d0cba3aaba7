-- Whether a table says at every node of a tree what the rules say, where its numbers are the ones that the nodes are marked
-- with. Of its entries that no node is marked with nothing is said.
use Rattle.std.specs.Prelude.{◌≡◌, ◌<◌, ◌++◌, ℕ, List, [], ◌∷◌, map, length, Some, option_map, slice_index_or}
use Rattle.js_syntax.specs.Node.{Forest}
use Rattle.scope_rules.specs.Site.{ScopeSite, BindingSite, ReferenceSite, Found, found_in, sites_of}
use Rattle.scope_rules.specs.Table.{Named, Unresolved, Scoping, scoping_of, symbols_declared}
use Rattle.scope_laws.specs.Exact.{NoneTwice}
use Rattle.scope_table.specs.Reading.{scope_at, symbol_at, reference_at}
use Rattle.scope_match.specs.Items.{SameItems}

-- ---- marks

-- what the nodes of a tree are marked with: the scopes, the symbols and the references of its table, each in order
pub record Marks : Type 0 where
  pub scopes : List ℕ
  pub symbols : List ℕ
  pub references : List ℕ

-- the mark of a number; one past the last mark, which a table has none of, stands for itself
abbrev pub mark_at : List ℕ → ℕ → ℕ
mark_at marks n = slice_index_or marks n n

pub record AreMarked (f : Found) (m : Marks) : Type 0 where
  -- each scope and each reference has its mark
  pub scopes : map (λ (s : ScopeSite). s.id) f.scopes ≡ map Some m.scopes
  pub references : map (λ (r : ReferenceSite). r.id) f.references ≡ map Some m.references
  -- each declaration has the mark of its symbol
  pub declarations : map (λ (b : BindingSite). b.id) f.bindings ≡ map (λ n. Some (mark_at m.symbols n)) (symbols_declared f.bindings)
  pub symbols : length m.symbols ≡ length (scoping_of f).symbols
  -- no two scopes have one mark, no two symbols, and no two references
  pub scopes_apart : NoneTwice m.scopes
  pub symbols_apart : NoneTwice m.symbols
  pub references_apart : NoneTwice m.references

-- ---- entries: `s` is the table that is asked, and `t` the one that the rules make, whose numbers stand for marks

abbrev pub marks_at : List ℕ → List ℕ → List ℕ
marks_at marks ns = map (mark_at marks) ns

abbrev pub named_by : List ℕ → Named → Named
named_by marks n = record { name = n.name; symbol = mark_at marks n.symbol }

-- at the mark of the scope of this number
pub record SameScope (m : Marks) (s t : Scoping) (number : ℕ) : Type 0 where
  pub stands : mark_at m.scopes number < length s.scopes
  pub parent : (scope_at s (mark_at m.scopes number)).parent ≡ option_map (mark_at m.scopes) (scope_at t number).parent
  pub flags : (scope_at s (mark_at m.scopes number)).flags ≡ (scope_at t number).flags
  pub bindings : SameItems (scope_at s (mark_at m.scopes number)).bindings (map (named_by m.symbols) (scope_at t number).bindings)

-- of the symbol of this number
pub record SameSymbol (m : Marks) (s t : Scoping) (number : ℕ) : Type 0 where
  pub stands : mark_at m.symbols number < length s.symbols
  pub name : (symbol_at s (mark_at m.symbols number)).name ≡ (symbol_at t number).name
  pub flags : (symbol_at s (mark_at m.symbols number)).flags ≡ (symbol_at t number).flags
  pub scope : (symbol_at s (mark_at m.symbols number)).scope ≡ mark_at m.scopes (symbol_at t number).scope
  pub redeclarations : (symbol_at s (mark_at m.symbols number)).redeclarations ≡ (symbol_at t number).redeclarations
  pub is_pure : (symbol_at s (mark_at m.symbols number)).is_pure ≡ (symbol_at t number).is_pure
  pub references : SameItems (symbol_at s (mark_at m.symbols number)).references (marks_at m.references (symbol_at t number).references)

-- of the reference of this number
pub record SameReference (m : Marks) (s t : Scoping) (number : ℕ) : Type 0 where
  pub stands : mark_at m.references number < length s.references
  pub scope : (reference_at s (mark_at m.references number)).scope ≡ mark_at m.scopes (reference_at t number).scope
  pub symbol : (reference_at s (mark_at m.references number)).symbol ≡ option_map (mark_at m.symbols) (reference_at t number).symbol
  pub flags : (reference_at s (mark_at m.references number)).flags ≡ (reference_at t number).flags

-- ---- names that nothing declares

-- a name with one of its references
pub record Use : Type 0 where
  pub name : List ℕ
  pub reference : ℕ

abbrev pub use_of : List ℕ → ℕ → Use
use_of x r = record { name = x; reference = r }

-- each name with each of its references
abbrev pub uses_in : List Unresolved → List Use
uses_in [] = []
uses_in (u ∷ us) = map (use_of u.name) u.references ++ uses_in us

abbrev pub use_by : List ℕ → Use → Use
use_by marks u = record { name = u.name; reference = mark_at marks u.reference }

pub record SameUnresolved (marks : List ℕ) (given wanted : List Unresolved) : Type 0 where
  pub names : SameItems (map (λ (u : Unresolved). u.name) given) (map (λ (u : Unresolved). u.name) wanted)
  -- a name has its references, each once
  pub uses : SameItems (uses_in given) (map (use_by marks) (uses_in wanted))

-- ---- the whole table

pub record SameTable (m : Marks) (s t : Scoping) : Type 0 where
  pub scopes : (n : ℕ) → n < length t.scopes → SameScope m s t n
  pub symbols : (n : ℕ) → n < length t.symbols → SameSymbol m s t n
  pub references : (n : ℕ) → n < length t.references → SameReference m s t n
  pub unresolved : SameUnresolved m.references s.unresolved t.unresolved

pub record MatchesFound (s : Scoping) (f : Found) : Type 0 where
  pub marks : Marks
  pub are_marked : AreMarked f marks
  pub says : SameTable marks s (scoping_of f)

abbrev pub Matches : Scoping → Forest → Type 0
Matches s t = MatchesFound s (found_in (sites_of t))
