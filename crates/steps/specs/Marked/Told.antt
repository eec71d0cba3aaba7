-- What a walk goes by.
use Rattle.std.specs.Prelude.{◌≡◌, ◌≤◌, ℕ, List, Bool, true, false, ◌&&◌, ◌||◌, slice_get, Some}
use Rattle.js_syntax.specs.Class.{root}
use Rattle.js_syntax.specs.Node.{Forest}
use Rattle.js_effects.specs.Silence.{is_marked, may_have_effects}
use Rattle.json_shape.specs.Shape.{Fits}
use Rattle.min_pass.specs.Around.{outermost as asked_of_program}
use Rattle.min_pass.specs.Pass.{is_given}
use Rattle.scope_rules.specs.Site.{BindingSite}
use Rattle.scope_rules.specs.Table.{Reference, Scoping}
use Rattle.scope_laws.specs.Exact.{Among}
use Rattle.scope_laws.specs.Place.{Around}
use Rattle.scope_counts.specs.Exact.{count, lists_of}
use Rattle.scope_counts.specs.Scopes.{ExactButMarks}
use Rattle.steps.specs.Allowed.Places.{asked_at, surroundings_at}
use Rattle.steps.specs.Naming.Standing.{exported_declarations}
use Rattle.steps.specs.Marked.Flags.{FlagsTell}

-- what the program exports of its own scope has the mark of a symbol that is known to be exported
abbrev pub KnowsExports : (exported : ℕ → Bool) → Forest → Type 0
KnowsExports exported t = (d : BindingSite) → Among d (exported_declarations t) → d.layer.scope ≡ 0 → (symbol : ℕ) → d.id ≡ Some symbol → exported symbol ≡ true

-- Of a tree of the table of node types the table tells, but for marks, and so do its flags.
pub record IsTold (s : Scoping) (marked exported : ℕ → Bool) (t : Forest) : Type 0 where
  pub fits : Fits root t
  pub lists : ExactButMarks s marked t
  pub flags : FlagsTell s t
  pub exports : KnowsExports exported t

-- Each id that the symbol lists is marked, and it isn't exported.
pub record IsUnused (s : Scoping) (marked exported : ℕ → Bool) (symbol : ℕ) : Type 0 where
  pub listed : (id : ℕ) → 1 ≤ count id (lists_of s symbol) → marked id ≡ true
  pub unexported : exported symbol ≡ false

-- ---- names that are known to be bound

-- the reference has an entry, which has a symbol
pub record IsBound (s : Scoping) (id : ℕ) : Type 0 where
  pub entry : Reference
  pub stands : slice_get s.references id ≡ Some entry
  pub symbol : ℕ
  pub is : entry.symbol ≡ Some symbol

-- each reference that is said to be bound is
abbrev pub AreBound : Scoping → (bound : List Bool) → Type 0
AreBound s bound = (id : ℕ) → is_marked bound (Some id) ≡ true → IsBound s id

-- Nothing in a row has an effect, by what is known of names and of `this` at a place.
abbrev pub IsSilentAt : (bound : List Bool) → Around → Forest → Type 0
IsSilentAt bound a t = may_have_effects bound (surroundings_at a) t ≡ false

-- So it is with a declarator's value; inside of a `with` statement it may set a property of its object.
abbrev pub IsSilentValue : (bound : List Bool) → Around → (value : Forest) → Type 0
IsSilentValue bound a value = may_have_effects bound (surroundings_at a) value || (asked_at (asked_of_program true) a).in_with && is_given value ≡ false
