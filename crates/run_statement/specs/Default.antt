-- What `export default` does, by whether it declares a function.
use Rattle.std.specs.Prelude.{Bool, true, false}
use Rattle.js_syntax.specs.declared.node_kind.NodeKind.{NodeKind as Kind}
use Rattle.js_syntax.specs.declared.kind.FunctionKind.TheVariants as function_kind
use Rattle.js_meaning.specs.Value.{Env}
use Rattle.js_meaning.specs.State.{M, normal, done, with_value}
use Rattle.js_meaning.specs.Scope.{fill, look, default_name}
use Rattle.js_meaning.specs.Node.{Meaning, now}

abbrev pub is_function : Kind → Bool
is_function (Kind.Function function_kind.Declaration pure) = true
is_function _ = false

abbrev pub default_by : Bool → Meaning → Env → M
default_by true m env = done normal
default_by false m env = with_value (m now env) (λ v. fill (look env default_name) v (done normal))
