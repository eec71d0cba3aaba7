-- The table that is made of what stands in a tree: its scopes, its symbols with the references to them, its references, and
-- the names that nothing declares.
use Rattle.std.specs.Prelude.{ℕ, suc, List, [], ◌∷◌, map, Bool, true, false, not, ◌&&◌, ◌||◌, nat_eq, Option, Some, None, option_and_then, if◌then◌else◌}
use Rattle.std.specs.Str.{bytes_eq}
use Rattle.std.specs.Int.RustNames.{bit_or}
use Rattle.js_syntax.specs.declared.scalar.Span.{Span}
use Rattle.scope_rules.specs.Site.{ScopeSite, BindingSite, ReferenceSite, Found}
use Rattle.scope_rules.specs.Binding.{Binding, declared_by, binding_of}

-- ---- symbols: the bindings, in order of their first declarations; a symbol's number is how many stand before it

abbrev pub same_flag : Bool → Bool → Bool
same_flag true b = b
same_flag false b = not b

abbrev pub same_binding : Binding → Binding → Bool
same_binding a b = nat_eq a.scope b.scope && same_flag a.is_own b.is_own && bytes_eq a.name b.name

abbrev pub is_among : Binding → List Binding → Bool
is_among b [] = false
is_among b (a ∷ rest) = same_binding a b || is_among b rest

-- those that don't stand among the ones before
abbrev pub new_behind : (seen : List Binding) → List Binding → List Binding
new_behind seen [] = []
new_behind seen (b ∷ bs) = if is_among b seen then new_behind seen bs else b ∷ new_behind (b ∷ seen) bs

abbrev pub symbols_of : List BindingSite → List Binding
symbols_of bs = new_behind [] (map declared_by bs)

abbrev pub number_from : ℕ → List Binding → Binding → Option ℕ
number_from n [] b = None
number_from n (a ∷ rest) b = if same_binding a b then Some n else number_from (suc n) rest b

abbrev pub symbol_of : List BindingSite → Binding → Option ℕ
symbol_of bs b = number_from 0 (symbols_of bs) b

abbrev pub symbol_used : List BindingSite → ReferenceSite → Option ℕ
symbol_used bs r = option_and_then (symbol_of bs) (binding_of bs r)

-- the one that a site declares
abbrev pub symbol_declared : List BindingSite → BindingSite → Option ℕ
symbol_declared bs s = symbol_of bs (declared_by s)

abbrev pub is_number : ℕ → Option ℕ → Bool
is_number n None = false
is_number n (Some m) = nat_eq m n

-- ---- what is said of a symbol

pub record Redeclaration : Type 0 where
  pub span : Span
  pub flags : ℕ
  -- whether it is a function's that is marked to have no side effects
  pub is_pure : Bool

abbrev pub redeclaration : BindingSite → Redeclaration
redeclaration s = record { span = s.span; flags = s.flags; is_pure = s.is_pure }

-- a symbol's declarations among some sites, in order, where `all` are those that number the symbols
abbrev pub declarations_of : (all : List BindingSite) → (symbol : ℕ) → List BindingSite → List Redeclaration
declarations_of all symbol [] = []
declarations_of all symbol (s ∷ ss) = if is_number symbol (symbol_declared all s) then redeclaration s ∷ declarations_of all symbol ss else declarations_of all symbol ss

-- a symbol has the bits of all its declarations
abbrev pub joined_bits : (so_far : ℕ) → List Redeclaration → ℕ
joined_bits so_far [] = so_far
joined_bits so_far (d ∷ ds) = joined_bits (bit_or so_far d.flags) ds

-- all declarations, where there is more than one
abbrev pub if_several : List Redeclaration → List Redeclaration
if_several (d ∷ e ∷ ds) = d ∷ e ∷ ds
if_several ds = []

-- whether the only declaration is that of a function that is marked to have no side effects
abbrev pub is_pure_alone : List Redeclaration → Bool
is_pure_alone (d ∷ []) = d.is_pure
is_pure_alone ds = false

-- the numbers of the references to a symbol, in order; the first of the references has the number `next`
abbrev pub references_to : (symbol : ℕ) → (next : ℕ) → List (Option ℕ) → List ℕ
references_to symbol next [] = []
references_to symbol next (used ∷ uses) = if is_number symbol used then next ∷ references_to symbol (suc next) uses else references_to symbol (suc next) uses

-- ---- the table

-- a name of a scope
pub record Named : Type 0 where
  pub name : List ℕ
  pub symbol : ℕ

pub record Scope : Type 0 where
  pub parent : Option ℕ
  pub flags : ℕ
  -- in order of declaration
  pub bindings : List Named

pub record Symbol : Type 0 where
  pub name : List ℕ
  pub flags : ℕ
  pub scope : ℕ
  pub redeclarations : List Redeclaration
  pub references : List ℕ
  pub is_pure : Bool

pub record Reference : Type 0 where
  pub scope : ℕ
  pub symbol : Option ℕ
  pub flags : ℕ

-- a name that nothing declares, with its references
pub record Unresolved : Type 0 where
  pub name : List ℕ
  pub references : List ℕ

pub record Scoping : Type 0 where
  pub scopes : List Scope
  pub symbols : List Symbol
  pub references : List Reference
  -- in order of their first references
  pub unresolved : List Unresolved

-- an own name that a parameter or a name of the body hides is none of its scope's names
abbrev pub is_hidden : List Binding → Binding → Bool
is_hidden all b = b.is_own && is_among (record { scope = b.scope; is_own = false; name = b.name }) all

abbrev pub names_from : (all : List Binding) → (scope next : ℕ) → List Binding → List Named
names_from all scope next [] = []
names_from all scope next (b ∷ bs) = if nat_eq b.scope scope && not (is_hidden all b) then record { name = b.name; symbol = next } ∷ names_from all scope (suc next) bs else names_from all scope (suc next) bs

abbrev pub scopes_from : (all : List Binding) → (next : ℕ) → List ScopeSite → List Scope
scopes_from all next [] = []
scopes_from all next (s ∷ ss) = record { parent = s.parent; flags = s.flags; bindings = names_from all next 0 all } ∷ scopes_from all (suc next) ss

abbrev pub symbol_at : List BindingSite → (uses : List (Option ℕ)) → (number : ℕ) → Binding → Symbol
symbol_at bs uses number b =
    let ds = declarations_of bs number bs in
    record { name = b.name; flags = joined_bits 0 ds; scope = b.scope; redeclarations = if_several ds; references = references_to number 0 uses; is_pure = is_pure_alone ds }

abbrev pub symbols_from : List BindingSite → (uses : List (Option ℕ)) → (next : ℕ) → List Binding → List Symbol
symbols_from bs uses next [] = []
symbols_from bs uses next (b ∷ rest) = symbol_at bs uses next b ∷ symbols_from bs uses (suc next) rest

abbrev pub reference_at : List BindingSite → ReferenceSite → Reference
reference_at bs r = record { scope = r.scope; symbol = symbol_used bs r; flags = r.flags }

-- ---- names that nothing declares, numbered as symbols are

-- the name of a reference that has no symbol
abbrev pub unless_bound : (symbol : Option ℕ) → List ℕ → Option (List ℕ)
unless_bound None x = Some x
unless_bound (Some n) x = None

abbrev pub unbound_name : List BindingSite → ReferenceSite → Option (List ℕ)
unbound_name bs r = unless_bound (symbol_used bs r) r.name

abbrev pub is_named : List (List ℕ) → List ℕ → Bool
is_named [] x = false
is_named (y ∷ ys) x = bytes_eq y x || is_named ys x

-- each name once
abbrev pub names_behind : (seen : List (List ℕ)) → List (Option (List ℕ)) → List (List ℕ)
names_behind seen [] = []
names_behind seen (None ∷ us) = names_behind seen us
names_behind seen (Some x ∷ us) = if is_named seen x then names_behind seen us else x ∷ names_behind (x ∷ seen) us

abbrev pub name_number : ℕ → List (List ℕ) → List ℕ → Option ℕ
name_number n [] x = None
name_number n (y ∷ ys) x = if bytes_eq y x then Some n else name_number (suc n) ys x

abbrev pub unresolved_from : (uses : List (Option ℕ)) → (next : ℕ) → List (List ℕ) → List Unresolved
unresolved_from uses next [] = []
unresolved_from uses next (x ∷ xs) = record { name = x; references = references_to next 0 uses } ∷ unresolved_from uses (suc next) xs

-- of names of which some are unbound
abbrev pub unresolved_among : List (Option (List ℕ)) → List Unresolved
unresolved_among us = let names = names_behind [] us in unresolved_from (map (λ u. option_and_then (name_number 0 names) u) us) 0 names

abbrev pub scoping_of : Found → Scoping
scoping_of f = record {
  scopes = scopes_from (symbols_of f.bindings) 0 f.scopes;
  symbols = symbols_from f.bindings (map (symbol_used f.bindings) f.references) 0 (symbols_of f.bindings);
  references = map (reference_at f.bindings) f.references;
  unresolved = unresolved_among (map (unbound_name f.bindings) f.references);
}

-- the symbol of each declaration, in order of places
abbrev pub number_or_none : Option ℕ → ℕ
number_or_none None = 0
number_or_none (Some n) = n

abbrev pub symbols_declared : List BindingSite → List ℕ
symbols_declared bs = map (λ s. number_or_none (symbol_declared bs s)) bs
