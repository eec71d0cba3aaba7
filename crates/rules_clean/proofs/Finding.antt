-- Where a row has something dead, a node of it has.
use Rattle.std.proofs.Common.{◌≡◌, inl, inr, Bool, true, false, true≢false, refl, sym, ap}
use Rattle.std.proofs.lemmas.Bool.{and_parts, or_cases}
use Rattle.js_syntax.specs.declared.node_kind.NodeKind.{NodeKind as Kind}
use Rattle.js_syntax.specs.declared.kind.VariableKind.{VariableKind}
use Rattle.js_syntax.specs.Node.{Forest, Note, nothing, node, absent}
use Rattle.scope_counts.specs.Edits.{Around, here, behind, behind_none, under, plug}
use Rattle.steps.specs.Allowed.Arranged.{is_declarator, are_declarators}
use Rattle.rules.specs.DeadCode.Rules.{Facts, Where, declarator_goes, one_goes, item_has_dead, has_dead}
use Rattle.rules.proofs.DeadCode.Places.{is_row}
use Rattle.rules.specs.Imports.Rules as imports

wrong : {P : Type 0} → false ≡ true → P
wrong e = absurd (true≢false (sym e))

-- a node of a row, of which something is true
pub record OneOf (is_one : Kind → (below : Forest) → Bool) (row : Forest) : Type 0 where
  pub before : Around
  pub kind : Kind
  pub note : Note
  pub below : Forest
  pub rest : Forest
  pub in_row : is_row before ≡ true
  pub is : row ≡ plug before (node kind note below rest)
  pub holds : is_one kind below ≡ true

further : (is_one : Kind → (below : Forest) → Bool) (k : Kind) (n : Note) (below rest : Forest) → OneOf is_one rest → OneOf is_one (node k n below rest)
further is_one k n below rest o =
    record { before = behind k n below o.before; kind = o.kind; note = o.note; below = o.below; rest = o.rest; in_row = o.in_row; is = ap (λ t. node k n below t) o.is; holds = o.holds }

further_none : (is_one : Kind → (below : Forest) → Bool) (rest : Forest) → OneOf is_one rest → OneOf is_one (absent rest)
further_none is_one rest o =
    record { before = behind_none o.before; kind = o.kind; note = o.note; below = o.below; rest = o.rest; in_row = o.in_row; is = ap (λ t. absent t) o.is; holds = o.holds }

the_first : (is_one : Kind → (below : Forest) → Bool) (k : Kind) (n : Note) (below rest : Forest) → is_one k below ≡ true → OneOf is_one (node k n below rest)
the_first is_one k n below rest h = record { before = here; kind = k; note = n; below = below; rest = rest; in_row = refl; is = refl; holds = h }

module _ (f : Facts) (w : Where) where
  pub dead_item : (row : Forest) → has_dead f w row ≡ true → OneOf (item_has_dead f w) row
  dead_item nothing e = wrong e
  dead_item (absent rest) e = further_none (item_has_dead f w) rest (dead_item rest e)
  dead_item (node k n below rest) e = elim (or_cases (item_has_dead f w k below) (has_dead f w rest) e) [
    | inl h ↦ the_first (item_has_dead f w) k n below rest h
    | inr h ↦ further (item_has_dead f w) k n below rest (dead_item rest h)
  ]

  pub dead_declarator : (how : VariableKind) (row : Forest) → one_goes f w how row ≡ true → OneOf (declarator_goes f w how) row
  dead_declarator how nothing e = wrong e
  dead_declarator how (absent rest) e = further_none (declarator_goes f w how) rest (dead_declarator how rest e)
  dead_declarator how (node k n below rest) e = elim (or_cases (declarator_goes f w how k below) (one_goes f w how rest) e) [
    | inl h ↦ the_first (declarator_goes f w how) k n below rest h
    | inr h ↦ further (declarator_goes f w how) k n below rest (dead_declarator how rest h)
  ]

  pub unused_name : (row : Forest) → imports.one_goes f w row ≡ true → OneOf (imports.specifier_goes f w) row
  unused_name nothing e = wrong e
  unused_name (absent rest) e = further_none (imports.specifier_goes f w) rest (unused_name rest e)
  unused_name (node k n below rest) e = elim (or_cases (imports.specifier_goes f w k below) (imports.one_goes f w rest) e) [
    | inl h ↦ the_first (imports.specifier_goes f w) k n below rest h
    | inr h ↦ further (imports.specifier_goes f w) k n below rest (unused_name rest h)
  ]

-- each node of a list of declarators is one
pub declarator_of : (a : Around) (k : Kind) (n : Note) (below rest : Forest) → is_row a ≡ true → are_declarators (plug a (node k n below rest)) ≡ true → is_declarator k below ≡ true
declarator_of here k n below rest e h = (and_parts (is_declarator k below) (are_declarators rest) h).0
declarator_of (behind j m b a) k n below rest e h = declarator_of a k n below rest e (and_parts (is_declarator j b) (are_declarators (plug a (node k n below rest))) h).1
declarator_of (behind_none a) k n below rest e h = wrong h
declarator_of (under j m a r) k n below rest e h = wrong e
