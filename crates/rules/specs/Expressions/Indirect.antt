-- Choices of which it is known which part counts, where it matters that this doesn't stand there itself, or where the test acts.
use Rattle.std.specs.Prelude.{Option, None, Some, if◌then◌else◌}
use Rattle.js_syntax.specs.declared.node_kind.NodeKind.{NodeKind as Kind}
use Rattle.js_syntax.specs.Node.{Forest, Tree, Note}
use Rattle.min_traverse.specs.Lawful.{Rule, or_else}
use Rattle.steps.specs.Allowed.IndirectChoice.{part_counts, behind_zero, behind_test}
use Rattle.steps.specs.Allowed.Uses.{matters}
use Rattle.rules.specs.Expressions.Uses.{Spot, spot_of}
use Rattle.rules.specs.Expressions.Lists.{new_note}

-- (0, part), if it matters that the part doesn't stand there itself
abbrev pub behind_if : Spot → (note : Note) → (part : Option Tree) → Option Tree
behind_if s n None = None
behind_if s n (Some z) = if matters s.used_as s.in_with z.kind z.below then Some (behind_zero (new_note n) (new_note n) (new_note n) z) else None

-- the test, part
abbrev pub test_and_part : (note : Note) → Kind → (parts : Forest) → Option Tree
test_and_part n k parts = behind_test (new_note n) (new_note n) k parts

abbrev pub indirect_becomes : Spot → (note : Note) → Kind → (parts : Forest) → Option Tree
indirect_becomes s n k parts = or_else (behind_if s n (part_counts k parts)) (test_and_part n k parts)

-- ---- as rules of a walk

abbrev pub fold_behind_zero : Rule
fold_behind_zero c x = behind_if (spot_of c.place) x.note (part_counts x.kind x.below)

abbrev pub fold_behind_test : Rule
fold_behind_test c x = test_and_part x.note x.kind x.below

abbrev pub fold_indirect : Rule
fold_indirect c x = indirect_becomes (spot_of c.place) x.note x.kind x.below
