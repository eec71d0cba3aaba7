-- Rows that differ in notes alone.
use Rattle.std.proofs.Common.{◌≡◌, subst}
use Rattle.std.specs.Prelude.{Bool, true, false, ℕ, suc, pos, negsuc, nat_le}
use Rattle.js_syntax.specs.declared.node_kind.NodeKind.{NodeKind as Kind}
use Rattle.js_syntax.specs.declared.operator.UnaryOperator.{UnaryOperator}
use Rattle.js_syntax.specs.declared.value.LiteralValue.{LiteralValue as Literal}
use Rattle.js_syntax.specs.Facts.{is_core}
use Rattle.js_syntax.specs.Node.{Note, Forest, nothing, node, absent, bare, nowhere}
use Rattle.js_meaning.specs.Operator.{largest}
use Rattle.js_meaning_near.specs.Near.{Row, fields, row_below}
use Rattle.js_meaning_near.specs.Fit.{Part, whole, others, IfCore}
use Rattle.js_meaning_near.specs.Avoid.{NodeInPlace, InPlace}

-- two rows of the same kinds, in the same places; where signs may differ, unary minus on a number may stand for a negative one
pub data Like : (signs : Bool) → Forest → Forest → Type 0 where
  alike_nothing : {g : Bool} → Like g nothing nothing
  alike_absent : {g : Bool} {c d : Forest} → Like g c d → Like g (absent c) (absent d)
  alike_node : {g : Bool} {k : Kind} {n m : Note} {a b c d : Forest} → Like g a b → Like g c d → Like g (node k n a c) (node k m b d)
  alike_signed : {i : ℕ} {n m l : Note} {c d : Forest} → nat_le (suc i) largest ≡ true → Like true c d
      → Like true (node (Kind.Literal (Literal.Number (negsuc i))) n nothing c) (node (Kind.UnaryExpression UnaryOperator.UnaryNegation) m (node (Kind.Literal (Literal.Number (pos (suc i)))) l nothing nothing) d)

abbrev pub Alike : Forest → Forest → Type 0
Alike = Like false

-- a row and what it is without its notes are alike
pub alike_bare : (a : Forest) → Alike a (bare a)
alike_bare nothing = alike_nothing
alike_bare (absent c) = alike_absent (alike_bare c)
alike_bare (node k n a c) = alike_node (alike_bare a) (alike_bare c)

pub alike_back : {a b : Forest} → Alike a b → Alike b a
alike_back alike_nothing = alike_nothing
alike_back (alike_absent r) = alike_absent (alike_back r)
alike_back (alike_node o r) = alike_node (alike_back o) (alike_back r)

-- so are rows that are the same without their notes
alike_nodes : {k l : Kind} {n m : Note} {a b c d : Forest} → k ≡ l → Alike a b → Alike c d → Alike (node k n a c) (node l m b d)
alike_nodes {k = k} {n = n} {m = m} {a = a} {b = b} {c = c} {d = d} e o r = subst (λ l. Alike (node k n a c) (node l m b d)) e (alike_node o r)

same_below : {k l : Kind} {a b c d : Forest} → node k nowhere a c ≡ node l nowhere b d → a ≡ b
same_below e = cc

same_rest : {k l : Kind} {a b c d : Forest} → node k nowhere a c ≡ node l nowhere b d → c ≡ d
same_rest e = cc

same_kind : {k l : Kind} {a b c d : Forest} → node k nowhere a c ≡ node l nowhere b d → k ≡ l
same_kind e = cc

same_absent : {c d : Forest} → absent c ≡ absent d → c ≡ d
same_absent e = cc

nothing_node : {k : Kind} {n : Note} {a c : Forest} → nothing ≡ node k n a c → ⊥
nothing_node e = cc

nothing_absent : {c : Forest} → nothing ≡ absent c → ⊥
nothing_absent e = cc

node_nothing : {k : Kind} {n : Note} {a c : Forest} → node k n a c ≡ nothing → ⊥
node_nothing e = cc

node_absent : {k : Kind} {n : Note} {a c d : Forest} → node k n a c ≡ absent d → ⊥
node_absent e = cc

absent_nothing : {c : Forest} → absent c ≡ nothing → ⊥
absent_nothing e = cc

absent_node : {k : Kind} {n : Note} {a c d : Forest} → absent d ≡ node k n a c → ⊥
absent_node e = cc

pub same_alike : (a b : Forest) → bare a ≡ bare b → Alike a b
same_alike nothing nothing e = alike_nothing
same_alike nothing (absent d) e = absurd (nothing_absent e)
same_alike nothing (node l m b d) e = absurd (nothing_node e)
same_alike (absent c) nothing e = absurd (absent_nothing e)
same_alike (absent c) (absent d) e = alike_absent (same_alike c d (same_absent e))
same_alike (absent c) (node l m b d) e = absurd (absent_node e)
same_alike (node k n a c) nothing e = absurd (node_nothing e)
same_alike (node k n a c) (absent d) e = absurd (node_absent e)
same_alike (node k n a c) (node l m b d) e = alike_nodes (same_kind e) (same_alike a b (same_below e)) (same_alike c d (same_rest e))

-- where one is in its place, so is the other
place_map : {F G : Part → Row → Type 0} (p : Row) (k : Kind) (core : Bool) → ((q : Part) (r : Row) → F q r → G q r) → IfCore core (NodeInPlace p k F) → IfCore core (NodeInPlace p k G)
place_map p k false g y = tt
place_map p (Kind.Function f pure) true g y = g others fields y
place_map p k true g y = (y.0, g whole (row_below k) y.1)

pub place_alike : (q : Part) (p : Row) {a b : Forest} → Alike a b → InPlace q p a → InPlace q p b
place_alike whole p alike_nothing y = tt
place_alike others p alike_nothing y = tt
place_alike others p (alike_absent r) y = place_alike whole p r y
place_alike others p (alike_node o r) y = place_alike whole p r y
place_alike whole p (alike_absent r) y = place_alike whole p r y
place_alike whole p (alike_node {k = k} o r) y = (place_map p k (is_core k) (λ q t z. place_alike q t o z) y.0, place_alike whole p r y.1)
