-- A call of a function without parameters and with an empty body does nothing but give a value.
use Rattle.std.proofs.Common.{◌≡◌, refl}
use Rattle.std.specs.Prelude.{Bool}
use Rattle.js_syntax.specs.declared.node_kind.NodeKind.{NodeKind as Kind}
use Rattle.js_syntax.specs.declared.kind.FunctionKind.TheVariants as function_kind
use Rattle.js_syntax.specs.Node.{Note, Forest, nothing, node}
use Rattle.js_meaning.specs.Value.{Text}
use Rattle.js_meaning.specs.Scope.{module_decls}
use Rattle.js_meaning.specs.Module.{entries, stars, requests}
use Rattle.js_meaning.specs.Kept.{Kept}
use Rattle.js_meaning_near.specs.Names.{Names, silent_function}
use Rattle.js_meaning_near.specs.Near.{SilentCode, items, module_of}
use Rattle.js_meaning_near.specs.Fit.{whole}
use Rattle.js_meaning_near.specs.Rewritten.{Rewritten}
use Rattle.js_meaning_near.specs.Purpose.{for_values}
use Rattle.js_meaning_near.specs.Known.{Knows, DeclaredOnce, empty_code}
use Rattle.js_meaning_near.proofs.Known.{function_place, loose_scope}
use Rattle.js_meaning_near.specs.Bodies.{no_items_more}
use Rattle.js_meaning_near.proofs.Bodies.{quiet_code}

pub empty_is_silent : (st : Names) (i j k l : Note) (x : Text) → SilentCode st (empty_code i j k l x)
empty_is_silent st i j k l x = quiet_code st i j k l x nothing nothing (tt, no_items_more)

-- so calls of it may go, wherever they stand
pub empty_calls : (n m o i j k l : Note) (pure : Bool) (x : Text) (r s : Forest) →
    let a : Forest = node (Kind.Function function_kind.Declaration pure) o (empty_code i j k l x) r in
    let b : Forest = node (Kind.Function function_kind.Declaration pure) o (empty_code i j k l x) s in
    DeclaredOnce x (module_decls b) → Rewritten (Knows x silent_function) whole for_values items r s → entries a ≡ entries b → stars a ≡ stars b → requests a ≡ requests b → Kept (module_of n m a) (module_of n m b)
empty_calls n m o i j k l pure x r s d t e f g = loose_scope n m x silent_function _ _ refl d (function_place refl (λ st h. empty_is_silent st i j k l x) (λ st h. ((tt, tt), ((tt, ((tt, tt), tt)), tt))) t) e f g
