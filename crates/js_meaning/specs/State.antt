-- What a computation is, and the acts that all others are made of.
use Rattle.std.specs.Prelude.{ℕ, zero, suc, Bool, true, false, List, [], ◌∷◌, ◌++◌, Option, nat_eq, ◌&&◌, if◌then◌else◌}
use Rattle.std.specs.Str.{bytes_eq}
use Rattle.js_meaning.specs.Value.{Text, Slot, Value, error, ErrorKind, undef}
use Rattle.js_meaning.specs.Trace.{Event, Move, Ending}

-- Where a name's value stands: whether it is constant, and the value once it is initialised (9.1.1.1).
pub data Cell : Type 0 where
  cell : (constant : Bool) → Option Value → Cell

pub data Export : Type 0 where
  export : Text → Slot → Export

pub record State : Type 0 where
  -- how many more entries there may be
  pub budget : ℕ
  -- the number of the next cell or object
  pub fresh : ℕ
  pub store : ℕ → Cell
  pub globals : Text → Option Value
  -- by source and name
  pub imports : Text → Text → Option Value
  -- the own objects that the host saw, in order
  pub shown : List Value
  -- what the host has still to do
  pub moves : List Move
  pub exports : List Export
  pub stars : List Text

-- What is read or written (6.2.5): what a name is bound to; a global, and whether it was there; a property.
pub data Place : Type 0 where
  at_slot : Slot → Place
  at_global : Text → Bool → Place
  at_member : (object key : Value) → Place

-- How a node completes (6.2.4). An expression gives its value, and the receiver for a call of it.
pub data Completion : Type 0 where
  normal : Completion
  gives : (value receiver : Value) → Completion
  gives_all : List Value → Completion
  refers : Place → Completion
  breaks continues : Option Text → Completion
  returns throws : Value → Completion

-- The events that a computation adds, and how it went on: in a new state with a completion, or not at all.
pub data Out : Type 0 where
  goes : List Event → State → Completion → Out
  stops : List Event → Ending → Out

abbrev pub M : Type 0
M = State → Out

abbrev pub more : List Event → Out → Out
more es (goes fs s c) = goes (es ++ fs) s c
more es (stops fs e) = stops (es ++ fs) e

abbrev pub go_on : Out → (Completion → M) → Out
go_on (goes es s c) k = more es (k c s)
go_on (stops es e) k = stops es e

-- one after the other
unfoldable pub bind : M → (Completion → M) → M
bind m k s = go_on (m s) k

unfoldable pub done : Completion → M
done c s = goes [] s c

unfoldable pub stop : Ending → M
stop e s = stops [] e

-- nothing is said of what follows
abbrev pub unknown : M
unknown = stop Ending.uncovered

abbrev pub give : Value → M
give v = done (gives v undef)

unfoldable pub choose : Bool → M → M → M
choose true a b = a
choose false a b = b

-- after a statement: an abrupt completion ends the list (14.2.2)
abbrev pub if_normal : M → Completion → M
if_normal k normal = k
if_normal k (gives v r) = unknown
if_normal k (gives_all vs) = unknown
if_normal k (refers p) = unknown
if_normal k (breaks o) = done (breaks o)
if_normal k (continues o) = done (continues o)
if_normal k (returns v) = done (returns v)
if_normal k (throws v) = done (throws v)

abbrev pub seq : M → M → M
seq m k = bind m (if_normal k)

-- after an expression: its value, or what it throws (5.2.3.4)
abbrev pub if_gives : (Value → Value → M) → Completion → M
if_gives k (gives v r) = k v r
if_gives k (throws v) = done (throws v)
if_gives k _ = unknown

abbrev pub with_receiver : M → (Value → Value → M) → M
with_receiver m k = bind m (if_gives k)

abbrev pub with_value : M → (Value → M) → M
with_value m k = bind m (if_gives (λ v r. k v))

abbrev pub if_gives_all : (List Value → M) → Completion → M
if_gives_all k (gives_all vs) = k vs
if_gives_all k (throws v) = done (throws v)
if_gives_all k _ = unknown

abbrev pub with_all : M → (List Value → M) → M
with_all m k = bind m (if_gives_all k)

abbrev pub if_refers : (Place → M) → Completion → M
if_refers k (refers p) = k p
if_refers k (throws v) = done (throws v)
if_refers k _ = unknown

abbrev pub with_place : M → (Place → M) → M
with_place m k = bind m (if_refers k)

-- cells

abbrev pub put : (ℕ → Cell) → ℕ → Cell → ℕ → Cell
put f i c j = if nat_eq j i then c else f j

unfoldable pub alloc : Cell → (ℕ → M) → M
alloc c k s = k s.fresh (record s { fresh = suc s.fresh; store = put s.store s.fresh c })

unfoldable pub read : ℕ → (Cell → M) → M
read i k s = k (s.store i) s

unfoldable pub store : ℕ → Cell → M → M
store i c m s = m (record s { store = put s.store i c })

-- an object of its own: no other has its number
unfoldable pub identity : (ℕ → M) → M
identity k s = k s.fresh (record s { fresh = suc s.fresh })

-- throws an error of this kind (5.2.3.2)
abbrev pub raise : ErrorKind → M
raise e = identity (λ i. done (throws (error i e)))

-- globals and imports

unfoldable pub get_global : Text → (Option Value → M) → M
get_global x k s = k (s.globals x) s

abbrev pub put_global : (Text → Option Value) → Text → Option Value → Text → Option Value
put_global f x o y = if bytes_eq y x then o else f y

unfoldable pub set_global : Text → Option Value → M → M
set_global x o m s = m (record s { globals = put_global s.globals x o })

unfoldable pub get_import : Text → Text → (Option Value → M) → M
get_import source x k s = k (s.imports source x) s

abbrev pub put_import : (Text → Text → Option Value) → Text → Text → Option Value → Text → Text → Option Value
put_import f source x o r y = if bytes_eq r source && bytes_eq y x then o else f r y

unfoldable pub set_import : Text → Text → Option Value → M → M
set_import source x o m s = m (record s { imports = put_import s.imports source x o })

-- an entry costs one

abbrev pub spend_from : ℕ → M → M
spend_from zero m s = stops [] Ending.out
spend_from (suc n) m s = m (record s { budget = n })

unfoldable pub spend : M → M
spend m s = spend_from s.budget m s

-- the host's moves

unfoldable pub with_moves : (List Move → M) → M
with_moves k s = k s.moves s

unfoldable pub set_moves : List Move → M → M
set_moves ms m s = m (record s { moves = ms })

-- the exports

unfoldable pub with_exports : (List Export → List Text → M) → M
with_exports k s = k s.exports s.stars s

unfoldable pub set_exports : List Export → List Text → M → M
set_exports es stars m s = m (record s { exports = es; stars = stars })

unfoldable pub put_event : Event → M → M
put_event e m s = more (e ∷ []) (m s)
