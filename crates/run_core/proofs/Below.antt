-- What a module does, by the row below its root.
use Rattle.std.proofs.Common.{◌≡◌, refl}
use Rattle.js_syntax.specs.Node.{Forest, Note, nothing, node, absent}
use Rattle.js_syntax.specs.declared.node_kind.NodeKind.{NodeKind as Kind}
use Rattle.js_syntax.specs.declared.scalar.SourceType.TheVariants as source_type
use Rattle.js_meaning.specs.Host.{Enter}
use Rattle.js_meaning.specs.Run.{program_does}
use Rattle.run_core.specs.Body.{module_body}

pub module_below : (E : Enter) (n : Note) (b : Forest) → program_does E (node (Kind.Program source_type.Module) n b nothing) ≡ module_body E b
module_below E n nothing = refl
module_below E n (absent r) = refl
module_below E n (node Kind.Statements m a nothing) = refl
module_below E n (node Kind.Statements m a (absent r)) = refl
module_below E n (node Kind.Statements m a (node k o b r)) = refl
module_below E n (node _ m a r) = refl

pub note_is_not_seen : (E : Enter) (k : Kind) (n m : Note) (b r : Forest) → module_body E (node k n b r) ≡ module_body E (node k m b r)
note_is_not_seen E Kind.Statements n m b nothing = refl
note_is_not_seen E Kind.Statements n m b (absent r) = refl
note_is_not_seen E Kind.Statements n m b (node k o c r) = refl
note_is_not_seen E _ n m b r = refl
