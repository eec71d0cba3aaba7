-- Whether a table tells what stands in a tree, whatever its nodes are marked with.
use Rattle.std.specs.Prelude.{◌≡◌, ◌↔◌, ◌⊎◌, ℕ, List, [], ◌∷◌, map, slice_get, Some}
use Rattle.js_syntax.specs.Node.{Forest}
use Rattle.scope_rules.specs.Site.{BindingSite, ReferenceSite, sites_of, bindings_among, references_among}
use Rattle.scope_rules.specs.Binding.{declared_by, binding_of}
use Rattle.scope_rules.specs.Table.{Symbol, Reference, Scoping}

-- ---- lists

-- it is the first of them, or stands behind it
abbrev pub Among : {X : Type 0} → X → List X → Type 0
Among x [] = ⊥
Among x (y ∷ ys) = (y ≡ x) ⊎ Among x ys

-- no item stands among those behind it
abbrev pub NoneTwice : {X : Type 0} → List X → Type 0
NoneTwice [] = Unit {0}
NoneTwice (x ∷ xs) = (Among x xs → ⊥) × NoneTwice xs

-- ---- the table

-- the reference's binding is that of a declaration which is marked with this symbol
pub record Names (bs : List BindingSite) (r : ReferenceSite) (symbol : ℕ) : Type 0 where
  pub declaration : BindingSite
  pub stands : Among declaration bs
  pub is_marked : declaration.id ≡ Some symbol
  pub binds : binding_of bs r ≡ Some (declared_by declaration)

-- a reference with this id names the symbol
pub record IsNamed (bs : List BindingSite) (rs : List ReferenceSite) (symbol id : ℕ) : Type 0 where
  pub reference : ReferenceSite
  pub stands : Among reference rs
  pub has_id : reference.id ≡ Some id
  pub names : Names bs reference symbol

-- the reference has an id, and the table an entry there, which has the symbol that the reference names, or none
pub record IsEntered (s : Scoping) (bs : List BindingSite) (r : ReferenceSite) : Type 0 where
  pub id : ℕ
  pub entry : Reference
  pub has_id : r.id ≡ Some id
  pub stands : slice_get s.references id ≡ Some entry
  pub names : (symbol : ℕ) → (entry.symbol ≡ Some symbol) ↔ Names bs r symbol

-- the declaration is marked with a symbol of the table, of the same name
pub record IsDeclared (s : Scoping) (b : BindingSite) : Type 0 where
  pub number : ℕ
  pub symbol : Symbol
  pub is_marked : b.id ≡ Some number
  pub stands : slice_get s.symbols number ≡ Some symbol
  pub same_name : symbol.name ≡ b.name

-- the symbol's list holds the ids of the references that name it, each once
pub record IsListed (bs : List BindingSite) (rs : List ReferenceSite) (number : ℕ) (symbol : Symbol) : Type 0 where
  pub once : NoneTwice symbol.references
  pub holds : (id : ℕ) → Among id symbol.references ↔ IsNamed bs rs number id

pub record ExactFor (s : Scoping) (bs : List BindingSite) (rs : List ReferenceSite) : Type 0 where
  -- no two references have one id
  pub own_ids : NoneTwice (map (λ (r : ReferenceSite). r.id) rs)
  pub entered : (r : ReferenceSite) → Among r rs → IsEntered s bs r
  pub declared : (b : BindingSite) → Among b bs → IsDeclared s b
  -- two declarations have one symbol exactly where they declare one binding
  pub one_symbol : (a b : BindingSite) → Among a bs → Among b bs → (a.id ≡ b.id) ↔ (declared_by a ≡ declared_by b)
  pub listed : (number : ℕ) (symbol : Symbol) → slice_get s.symbols number ≡ Some symbol → IsListed bs rs number symbol

abbrev pub Exact : Scoping → Forest → Type 0
Exact s t = ExactFor s (bindings_among (sites_of t)) (references_among (sites_of t))
