-- What holds node by node holds wherever a node stands.
use Rattle.std.proofs.Common.{true, false, refl, subst}
use Rattle.js_syntax.specs.declared.node_kind.NodeKind.TheVariants.{Statements as statements}
use Rattle.js_syntax.specs.Node.{Forest, Tree, nothing, node, absent}
use Rattle.min_context.specs.Above.{above_of}
use Rattle.min_context.specs.Place.{Place, Spot, goes_on, place_of, next_of, below, top, spot}
use Rattle.scope_counts.specs.Edits.{Around, here, behind, behind_none, under, plug}
use Rattle.rules.specs.DeadCode.Rules.{Facts}
use Rattle.rules.specs.DeadCode.Quiet.{EachNode, IsQuietAt, IsQuiet}

pub there : (Q : Place → Tree → Type 0) (s : Spot) (a : Around) (x : Tree) (rest : Forest) → EachNode Q s (plug a (node x.kind x.note x.below rest)) → Q (place_of (spot s a) (goes_on rest)) x
there Q s here x rest h = h.0
there Q s (behind k n b a) x rest h = there Q (next_of s true) a x rest h.2
there Q s (behind_none a) x rest h = there Q (next_of s false) a x rest h
there Q s (under k n a beside) x rest h = there Q (below (place_of s (goes_on beside)) (above_of k n)) a x rest h.1

-- what follows of two of each node
pub each_both : {P R Q : Place → Tree → Type 0} → ((p : Place) (x : Tree) → P p x → R p x → Q p x) → (s : Spot) (t : Forest) → EachNode P s t → EachNode R s t → EachNode Q s t
each_both f s nothing g h = tt
each_both f s (absent rest) g h = each_both f (next_of s false) rest g h
each_both f s (node k n inner rest) g h =
    (f (place_of s (goes_on rest)) (record { kind = k; note = n; below = inner }) g.0 h.0, each_both f (below (place_of s (goes_on rest)) (above_of k n)) inner g.1 h.1, each_both f (next_of s true) rest g.2 h.2)

pub quiet_nodes : (f : Facts) (t : Forest) → EachNode (IsQuietAt f) top t → IsQuiet f t
quiet_nodes f t h = record {
  lists = λ a n row rest is. (there (IsQuietAt f) top a (record { kind = statements; note = n; below = row }) rest (subst (λ u. EachNode (IsQuietAt f) top u) is h)).list refl;
  statements_stay = λ a x rest is. (there (IsQuietAt f) top a x rest (subst (λ u. EachNode (IsQuietAt f) top u) is h)).statement;
  declarations_stay = λ a x rest is. (there (IsQuietAt f) top a x rest (subst (λ u. EachNode (IsQuietAt f) top u) is h)).declaration;
}
