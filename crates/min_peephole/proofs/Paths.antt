-- A path to a row of a tree, from inside out.
use Rattle.std.proofs.Common.{◌≡◌, ◌∙◌, Bool, true, false, ◌||◌, Option, refl, ap, subst}
use Rattle.js_syntax.specs.declared.node_kind.NodeKind.{NodeKind as Kind}
use Rattle.js_syntax.specs.Node.{Forest, Tree, Note, node, absent}
use Rattle.min_pass.specs.declared.around.Around.{Around as Asked}
use Rattle.min_pass.specs.declared.around.Row.{Row}
use Rattle.min_pass.specs.declared.around.Row.TheVariants.{Other as other}
use Rattle.min_pass.specs.Around.{row_below, is_with, is_class, outermost as asked_of_program}
use Rattle.scope_laws.specs.Place.{Around, first, behind as place_behind, behind_none as place_behind_none, under as place_under, placed, plug}
use Rattle.scope_laws.specs.Lists.{without}
use Rattle.steps.specs.Allowed.Edits.{Edit}
use Rattle.steps.specs.Allowed.Places.{asked_at}

pub data Path : Type 0 where
  top : Path
  behind : (path : Path) (kind : Kind) (note : Note) (below : Forest) → Path
  behind_none : (path : Path) → Path
  under : (path : Path) (kind : Kind) (note : Note) (rest : Forest) → Path

-- the tree with this row there
abbrev pub fill : Path → Forest → Forest
fill top t = t
fill (behind p k n below) t = fill p (node k n below t)
fill (behind_none p) t = fill p (absent t)
fill (under p k n rest) t = fill p (node k n t rest)

-- the place in the tree from the place in the row
abbrev pub around : Path → Around → Around
around top a = a
around (behind p k n below) a = around p (place_behind k n below a)
around (behind_none p) a = around p (place_behind_none a)
around (under p k n rest) a = around p (place_under k n a rest)

pub plugged : (p : Path) (a : Around) (x : Option Tree) → plug (around p a) x ≡ fill p (plug a x)
plugged top a x = refl
plugged (behind p k n below) a x = plugged p (place_behind k n below a) x
plugged (behind_none p) a x = plugged p (place_behind_none a) x
plugged (under p k n rest) a x = plugged p (place_under k n a rest) x

pub left_out : (p : Path) (a : Around) → without (around p a) ≡ fill p (without a)
left_out top a = refl
left_out (behind p k n below) a = left_out p (place_behind k n below a)
left_out (behind_none p) a = left_out p (place_behind_none a)
left_out (under p k n rest) a = left_out p (place_under k n a rest)

-- what is asked there
abbrev pub row_at : Path → Row
row_at top = other
row_at (behind p k n below) = row_at p
row_at (behind_none p) = row_at p
row_at (under p k n rest) = row_below (row_at p) k

abbrev pub with_at : Path → Bool
with_at top = false
with_at (behind p k n below) = with_at p
with_at (behind_none p) = with_at p
with_at (under p k n rest) = with_at p || is_with k

abbrev pub class_at : Path → Bool
class_at top = false
class_at (behind p k n below) = class_at p
class_at (behind_none p) = class_at p
class_at (under p k n rest) = class_at p || is_class k

abbrev pub asked_along : (knows : Bool) → Path → Asked
asked_along knows p = record { row = row_at p; in_with = with_at p; in_class = class_at p; knows_names = knows }

pub asked_there : (p : Path) (a : Around) → asked_at (asked_of_program true) (around p a) ≡ asked_at (asked_along true p) a
asked_there top a = refl
asked_there (behind p k n below) a = asked_there p (place_behind k n below a)
asked_there (behind_none p) a = asked_there p (place_behind_none a)
asked_there (under p k n rest) a = asked_there p (place_under k n a rest)

pub row_there : (p : Path) (rest : Forest) (row : Row) → row_at p ≡ row → (asked_at (asked_of_program true) (around p (first rest))).row ≡ row
row_there p rest row e = ap (λ (w : Asked). w.row) (asked_there p (first rest)) ∙ e

-- ---- edits there

pub leaves_there : (p : Path) (rest : Forest) (x : Option Tree) → Edit (plug (around p (first rest)) x) (without (around p (first rest))) → Edit (fill p (placed x rest)) (fill p rest)
leaves_there p rest x one = subst (λ u. Edit (fill p (placed x rest)) u) (left_out p (first rest)) (subst (λ t. Edit t (without (around p (first rest)))) (plugged p (first rest) x) one)
