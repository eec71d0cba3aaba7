-- What `export default` does, by whether it declares a function.
use Rattle.std.proofs.Common.{◌≡◌, refl}
use Rattle.js_syntax.specs.declared.node_kind.NodeKind.{NodeKind as Kind}
use Rattle.js_syntax.specs.declared.kind.FunctionKind.TheVariants as function_kind
use Rattle.js_syntax.specs.Node.{Forest, Note, node}
use Rattle.js_meaning.specs.Value.{Env}
use Rattle.js_meaning.specs.Node.{Meaning}
use Rattle.js_meaning.specs.Meaning.{default_does}
use Rattle.run_statement.specs.Default.{is_function, default_by}

pub default_is : (k : Kind) (n : Note) (a r : Forest) (m : Meaning) (env : Env) → default_by (is_function k) m env ≡ default_does (node k n a r) m env
default_is (Kind.Function function_kind.Declaration pure) n a r m env = refl
default_is _ n a r m env = refl
