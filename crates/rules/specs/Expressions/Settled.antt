-- Where no rule on expressions, none on statements `if` and none on what never runs changes anything of a program.
use Rattle.std.specs.Prelude.{◌≡◌, None}
use Rattle.js_syntax.specs.Node.{Forest, Tree, node}
use Rattle.min_context.specs.Place.{Place, place_at, goes_on}
use Rattle.scope_counts.specs.Edits.{Around, plug}
use Rattle.rules.specs.Expressions.Uses.{spot_of}
use Rattle.rules.specs.Expressions.Known.{conditional_becomes, logical_becomes}
use Rattle.rules.specs.Expressions.Unused.{unused_becomes}
use Rattle.rules.specs.Expressions.Lists.{unused_list_becomes}
use Rattle.rules.specs.Expressions.Indirect.{indirect_becomes}
use Rattle.rules.specs.Expressions.OneSided.{one_sided_becomes}
use Rattle.rules.specs.Expressions.Sequences.{sequence_left}
use Rattle.rules.specs.Expressions.TwoSides.{two_sides_become}
use Rattle.rules.specs.Expressions.Objects.{object_left}
use Rattle.rules.specs.Expressions.Operations.{known_becomes}
use Rattle.rules.specs.Expressions.EmptyIfs.{test_left}
use Rattle.rules.specs.Expressions.EmptyAlternates.{is_last, alternate_left}
use Rattle.rules.specs.Expressions.Ifs.{if_becomes}
use Rattle.rules.specs.Expressions.Jumps.{list_reached}
use Rattle.rules.specs.Expressions.Untaken.{if_left}
use Rattle.rules.specs.Expressions.LeftNames.{if_named}

-- at one place
pub record IsSettledAt (p : Place) (x : Tree) : Type 0 where
  pub conditional : conditional_becomes (spot_of p) x.kind x.below ≡ None
  pub logical : logical_becomes (spot_of p) x.kind x.below ≡ None
  pub unused : unused_becomes (spot_of p) x.kind x.below ≡ None
  pub list : unused_list_becomes (spot_of p) x.note x.kind x.below ≡ None
  pub indirect : indirect_becomes (spot_of p) x.note x.kind x.below ≡ None
  pub one_sided : one_sided_becomes (spot_of p) x.note x.kind x.below ≡ None
  pub sequence : sequence_left (spot_of p) x.note x.kind x.below ≡ None
  pub two_sides : two_sides_become (spot_of p) x.note x.kind x.below ≡ None
  pub object : object_left (spot_of p) x.note x.kind x.below ≡ None
  pub known : known_becomes x.note x.kind x.below ≡ None
  pub statement : if_becomes x.note x.kind x.below ≡ None
  pub test : test_left x.note x.kind x.below ≡ None
  pub alternate : alternate_left (is_last p) x.note x.kind x.below ≡ None
  pub jumps : list_reached x.note x.kind x.below ≡ None
  pub untaken : if_left x.note x.kind x.below ≡ None
  pub names : if_named x.note x.kind x.below ≡ None

pub record IsSettled (t : Forest) : Type 0 where
  pub each : (a : Around) (x : Tree) (rest : Forest) → t ≡ plug a (node x.kind x.note x.below rest) → IsSettledAt (place_at a (goes_on rest)) x
