-- What a `try` around nothing becomes doesn't see notes.
use Rattle.std.proofs.Common.{◌≡◌, ◌∙◌, ◌&&◌, sym, ap₂, refl, subst}
use Rattle.js_syntax.specs.declared.node_kind.NodeKind.{NodeKind as Kind}
use Rattle.js_syntax.specs.declared.node_kind.NodeKind.TheVariants.{BlockStatement as block_statement}
use Rattle.js_syntax.specs.Node.{Forest, Tree, Note, nothing, node, absent, nowhere, bare}
use Rattle.steps.specs.Allowed.IdleTry.{has_no_loop_at, has_no_loop, IdleTry, finalizer_is_run, finalizer_is_run_alone, block_is_run}
use Rattle.steps.proofs.Owed.EmptyBlock.{bare_idles}
use Rattle.headline.proofs.RenotedIf.{declares_bare}

loops_bare : (t : Forest) → has_no_loop (bare t) ≡ has_no_loop t
loops_bare nothing = refl
loops_bare (absent rest) = loops_bare rest
loops_bare (node k n below rest) = ap₂ (λ x y. has_no_loop_at k x && y) (loops_bare below) (loops_bare rest)

try_bare : (n : Note) (x y : Tree) → IdleTry x y → (z : Tree) × IdleTry (record { kind = x.kind; note = n; below = bare x.below }) z
try_bare n _ _ (finalizer_is_run _ i j b c idle loops) = (_, finalizer_is_run n nowhere nowhere (bare b) (bare c) (bare_idles b ∙ idle) (loops_bare c ∙ loops))
try_bare n _ _ (finalizer_is_run_alone _ i h j k b d c idle none loops) =
    (_, finalizer_is_run_alone n nowhere nowhere nowhere k (bare b) (bare d) (bare c) (bare_idles b ∙ idle) (declares_bare (node k h d nothing) ∙ none) (loops_bare c ∙ loops))
try_bare n _ _ (block_is_run _ i h k b d idle none) = (_, block_is_run n nowhere nowhere k (bare b) (bare d) (bare_idles b ∙ idle) (declares_bare (node k h d nothing) ∙ none))

try_there : (n : Note) (k : Kind) (f : Forest) (z : Tree) → IdleTry (record { kind = k; note = n; below = bare f }) z → (y : Tree) × IdleTry (record { kind = k; note = n; below = f }) y
try_there n _ (node block_statement i b (absent (node block_statement j c nothing))) _ (finalizer_is_run _ _ _ _ _ idle loops) = (_, finalizer_is_run n i j b c (sym (bare_idles b) ∙ idle) (sym (loops_bare c) ∙ loops))
try_there n _ (node block_statement i b (node k h d (node block_statement j c nothing))) _ (finalizer_is_run_alone _ _ _ _ _ _ _ _ idle none loops) =
    (_, finalizer_is_run_alone n i h j k b d c (sym (bare_idles b) ∙ idle) (sym (declares_bare (node k h d nothing)) ∙ none) (sym (loops_bare c) ∙ loops))
try_there n _ (node block_statement i b (node k h d (absent nothing))) _ (block_is_run _ _ _ _ _ _ idle none) = (_, block_is_run n i h k b d (sym (bare_idles b) ∙ idle) (sym (declares_bare (node k h d nothing)) ∙ none))
try_there n k f z h = elim h [ ]

pub idle_try_as : (n : Note) (f : Forest) (x y : Tree) → bare f ≡ bare x.below → IdleTry x y → (z : Tree) × IdleTry (record { kind = x.kind; note = n; below = f }) z
idle_try_as n f x y e idle =
    let there = try_bare n x y idle in
    try_there n x.kind f there.0 (subst (λ t. IdleTry (record { kind = x.kind; note = n; below = t }) there.0) (sym e) there.1)
