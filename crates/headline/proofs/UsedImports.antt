-- A module without dead code and without a direct call of `eval` has no name of an import to which nothing refers.
use Rattle.std.proofs.Common.{◌≡◌, ◌∙◌, ℕ, suc, ◌==◌, Bool, true, false, ◌&&◌, if◌then◌else◌, Option, refl, sym, ap, subst, true≢false}
use Rattle.js_syntax.specs.Class.{root}
use Rattle.js_syntax.specs.declared.node_kind.NodeKind.{NodeKind as Kind}
use Rattle.js_syntax.specs.declared.kind.ClassKind.{ClassKind}
use Rattle.js_syntax.specs.declared.kind.ClassKind.TheVariants as class_kind
use Rattle.js_syntax.specs.declared.kind.FunctionKind.{FunctionKind}
use Rattle.js_syntax.specs.declared.kind.FunctionKind.TheVariants as function_kind
use Rattle.js_syntax.specs.declared.kind.VariableKind.{VariableKind}
use Rattle.js_syntax.specs.declared.kind.VariableKind.TheVariants as variable
use Rattle.js_syntax.proofs.Truth.{neither}
use Rattle.js_syntax.specs.Node.{Forest, Tree, nothing, node}
use Rattle.json_shape.specs.Shape.{Fits}
use Rattle.scope_rules.specs.Context.{has_second}
use Rattle.scope_rules.specs.Site.{scope_row}
use Rattle.scope_laws.specs.Place.{Around, first, behind, behind_none, under, plug}
use Rattle.steps.specs.Allowed.Exposure.{Exposure, in_code, in_block, declaring, shares, is_script_source, at_function_name, at_class_name, exposed_inside, exposed_of, exposed_at, exposure, is_script, evaluates_somewhere, IsOwnDeclarator}
use Rattle.steps.specs.Steps.{binds_import}
use Rattle.steps.specs.Allowed.UnusedImport.{an_imported}
use Rattle.headline.specs.Clean.{CleanBut, an_unused_import}
use Rattle.headline.specs.Lasting.{ImportsAreUsed}
use Rattle.headline.proofs.Rooted.{InProgram, in_program, is_inner, in_its_program}

-- nobody else may use what is declared there
record Unshared (e : Exposure) : Type 0 where
  outside : e.outside ≡ false
  variables : e.variables_shared ≡ false
  names : e.names_shared ≡ false
  declared : e.declared_shared ≡ false

either : (b : Bool) (e f : Exposure) → Unshared e → Unshared f → Unshared (if b then e else f)
either true e f g h = g
either false e f g h = h

and_false : (a b : Bool) → a ≡ false → (a && b) ≡ false
and_false true b h = absurd (true≢false h)
and_false false b h = refl

code : (e : Exposure) (strict : Bool) (row : Forest) → Unshared e → Unshared (in_code e false strict row)
code e strict row h = record { outside = refl; variables = refl; names = refl; declared = h.declared }

block : (e : Exposure) (strict : Bool) (row : Forest) → Unshared e → Unshared (in_block e strict row)
block e strict row h = record { outside = h.outside; variables = h.variables; names = refl; declared = h.declared }

declares : (e : Exposure) (shared : Bool) → shared ≡ false → Unshared e → Unshared (declaring e shared)
declares e shared s h = record { outside = h.outside; variables = h.variables; names = h.names; declared = s }

shared_so : (e : Exposure) (how : VariableKind) → Unshared e → shares e how ≡ false
shared_so e variable.Var h = h.variables
shared_so e how h = h.names

function_name : (e : Exposure) (how : FunctionKind) → Unshared e → Unshared (at_function_name e how)
function_name e function_kind.Declaration h = declares e e.names_shared h.names h
function_name e how h = declares e false refl h

class_name : (e : Exposure) (how : ClassKind) → Unshared e → Unshared (at_class_name e how)
class_name e class_kind.Declaration h = declares e e.names_shared h.names h
class_name e class_kind.Expression h = declares e false refl h

unshared_below : (e : Exposure) (k : Kind) (below : Forest) (at : ℕ) → Unshared e → Unshared (exposed_inside e k below at)
unshared_below e (Kind.Program source) below at h =
    let shared = and_false e.outside (is_script_source source) h.outside in
    record { outside = refl; variables = shared; names = shared; declared = h.declared }
unshared_below e (Kind.Function how pure) below at h = either (at == 0) _ _ (function_name e how h) (either (at == 1) _ _ (declares _ false refl (code e _ below h)) (code e _ below h))
unshared_below e (Kind.Class how) below at h = either (at == 0) _ _ (class_name e how h) (block e true below h)
unshared_below e Kind.StaticBlock below at h = code e e.strict below h
unshared_below e (Kind.PropertyDefinition is_static key) below at h = let k = Kind.PropertyDefinition is_static key in either (has_second below && at == 1) (in_block e e.strict (scope_row k below)) e (block e e.strict (scope_row k below) h) h
unshared_below e Kind.BlockStatement below at h = block e e.strict below h
unshared_below e Kind.SwitchStatement below at h = either (at == 1) (in_block e e.strict (scope_row Kind.SwitchStatement below)) e (block e e.strict (scope_row Kind.SwitchStatement below) h) h
unshared_below e Kind.WithStatement below at h = either (at == 1) (in_block e e.strict (scope_row Kind.WithStatement below)) e (block e e.strict (scope_row Kind.WithStatement below) h) h
unshared_below e Kind.CatchClause below at h = either (at == 0) _ _ (declares _ false refl (block e e.strict below h)) (block e e.strict below h)
unshared_below e Kind.ForStatement below at h = block e e.strict below h
unshared_below e Kind.ForInStatement below at h = block e e.strict below h
unshared_below e Kind.ForOfStatement below at h = block e e.strict below h
unshared_below e (Kind.VariableDeclaration how) below at h = declares e (shares e how) (shared_so e how h) h
unshared_below e (Kind.ImportDeclaration source) below at h = declares e e.names_shared h.names h
unshared_below e k below at h = h

unshared_at : (es : ℕ → Exposure) (at : ℕ) (a : Around) (x : Option Tree) → ((i : ℕ) → Unshared (es i)) → Unshared (exposed_at es at a x)
unshared_at es at (first rest) x h = h at
unshared_at es at (behind k n b a) x h = unshared_at es (suc at) a x h
unshared_at es at (behind_none a) x h = unshared_at es (suc at) a x h
unshared_at es at (under k n a rest) x h = unshared_at (exposed_inside (es at) k (plug a x)) 0 a x (λ i. unshared_below (es at) k (plug a x) i (h at))

own : (a : Around) (x : Option Tree) → InProgram a → is_script (plug a x) ≡ false → evaluates_somewhere (plug a x) ≡ false → IsOwnDeclarator a x
own a x (in_program source n b rest) script calls =
    let t = plug (under (Kind.Program source) n b rest) x in
    let there = unshared_at (exposed_inside (exposed_of t 0) (Kind.Program source) (plug b x)) 0 b x (λ i. record { outside = refl; variables = script; names = script; declared = script }) in
    neither (exposure a x).declared_shared (evaluates_somewhere t) there.declared calls

names_inner : (k : Kind) → binds_import k ≡ true → is_inner k ≡ true
names_inner (Kind.Program source) h = h
names_inner k h = refl

pub imports_used : (t : Forest) → Fits root t → is_script t ≡ false → evaluates_somewhere t ≡ false → CleanBut false false t → ImportsAreUsed t
imports_used t fits script calls clean a k n m x is binds imported free =
    let y = an_imported k n m x in
    let z : Tree = record { kind = k; note = n; below = node (Kind.BindingName x) m nothing nothing } in
    let stands = in_its_program a z (names_inner k binds) (subst (Fits root) is fits) in
    clean.nothing_is_dead a y is
    (an_unused_import a k n m x refl refl binds imported (own a y stands (ap is_script (sym is) ∙ script) (ap evaluates_somewhere (sym is) ∙ calls)) free)
