-- What a rule is, and what it owes so that a hook may apply it.
use Rattle.std.specs.Prelude.{◌≡◌, ℕ, ◌+◌, ◌<◌, ◌≤◌, ◌||◌, Bool, length, nat_lt, Option, Some, None, is_some}
use Rattle.js_syntax.specs.Facts.{weight}
use Rattle.js_syntax.specs.Node.{Forest, Tree, forest_of, total}
use Rattle.scope_counts.specs.Counts.{ids}
use Rattle.scope_counts.specs.Edits.{Around, plug}
use Rattle.symbol_sets.specs.Numbers.{has}
use Rattle.min_context.specs.Edited.{Edited}
use Rattle.min_context.specs.IsTrue.{IsTrue}
use Rattle.min_context.specs.Seen.{Seen, still}
use Rattle.min_options.specs.declared.options.CompressOptions.{CompressOptions}
use Rattle.min_traverse.specs.Edits.{Edits}
use Rattle.min_traverse.specs.Moves.{IsHere, before}

-- ---- what the single edits owe

-- The context c became d while t became u: exactly what left is marked, and nothing else differs but the notes of a direct
-- `eval` that left and of another pass.
pub record MarksLeft (c d : Seen) (t u : Forest) : Type 0 where
  pub same : d ≡ record c { marked = d.marked; eval_dropped = d.eval_dropped; requested = d.requested }
  pub room : length d.marked ≡ length c.marked
  pub marks : (r : ℕ) → r < length c.marked → has d.marked r ≡ (has c.marked r || nat_lt (ids r u) (ids r t))

-- edits leave what the context tells true
abbrev pub Stays : (E : CompressOptions → Forest → Forest → Type 0) → Type 0
Stays E = (c d : Seen) (t u : Forest) → Edits (E c.options) t u → MarksLeft c d t u → IsTrue c t → IsTrue d u

-- ---- rules

-- what a node becomes, if anything else
abbrev pub Rule : Type 0
Rule = Seen → Tree → Option Tree

abbrev pub or_same : Tree → Option Tree → Tree
or_same x None = x
or_same x (Some y) = y

-- Where the context is true, what a rule does is a list of edits. It brings in no reference, and makes the program lighter.
pub record Lawful (E : CompressOptions → Forest → Forest → Type 0) (rule : Rule) : Type 0 where
  pub edits : (c : Seen) (a : Around) (x y : Tree) (r : Forest) → IsTrue (still c) (plug a (before x r)) → IsHere c a r → rule c x ≡ Some y → Edits (E c.options) (plug a (before x r)) (plug a (before y r))
  pub thins : (c : Seen) (x y : Tree) → rule c x ≡ Some y → (r : ℕ) → ids r (forest_of y) ≤ ids r (forest_of x)
  pub lighter : (c : Seen) (x y : Tree) → rule c x ≡ Some y → total weight (forest_of y) + 1 ≤ total weight (forest_of x)

-- what a walker asks beside is so again
abbrev pub Kept : {S : Type 0} → (S → Seen → Forest → Type 0) → S → Seen → Tree → S → Seen → Tree → Type 0
Kept Own s c x s' d y = (a : Around) (r : Forest) → IsHere c a r → IsTrue (still c) (plug a (before x r)) → Own s (still c) (plug a (before x r)) → Own s' (still d) (plug a (before y r))

-- the exact clause of a call: it did what the rule says, and answers whether that was anything
pub record Does (rule : Rule) (c : Seen) (x : Tree) (answer : Bool) (d : Seen) (y : Tree) : Type 0 where
  pub answers : answer ≡ is_some (rule c x)
  pub tree : y ≡ or_same x (rule c x)
  pub edited : Edited c x y (is_some (rule c x)) d

-- one rule, and where it has no answer another
abbrev pub or_else : Option Tree → Option Tree → Option Tree
or_else None o = o
or_else (Some x) o = Some x

abbrev pub either : Rule → Rule → Rule
either f g c x = or_else (f c x) (g c x)
