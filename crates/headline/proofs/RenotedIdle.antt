-- Whether a statement does nothing doesn't see notes.
use Rattle.std.proofs.Common.{◌≡◌, false, not, ◌&&◌, ◌||◌, Some, None, refl, ap, ap₂}
use Rattle.std.specs.Str.{bytes_eq}
use Rattle.js_syntax.specs.declared.node_kind.NodeKind.{NodeKind as Kind}
use Rattle.js_syntax.specs.declared.node_kind.NodeKind.TheVariants.{Statements as statements, BlockStatement as block_statement, BreakStatement as break_statement, LabeledStatement as labeled_statement, WhileStatement as while_statement, ForStatement as for_statement, TryStatement as try_statement}
use Rattle.js_syntax.specs.Node.{Forest, nothing, node, absent, bare}
use Rattle.js_meaning.specs.Value.{Text}
use Rattle.steps.specs.Allowed.EmptyBlock.{is_idle}
use Rattle.steps.specs.Allowed.IdleStatement.{finalizer_idles, leaves_at_once, does_nothing}
use Rattle.steps.specs.Allowed.Untaken.{is_known}
use Rattle.steps.proofs.Owed.EmptyBlock.{bare_idles}
use Rattle.headline.proofs.RenotedKnown.{truth_bare}

finalizer_bare : (t : Forest) → finalizer_idles (bare t) ≡ finalizer_idles t
finalizer_bare nothing = refl
finalizer_bare (absent rest) = bare_idles rest
finalizer_bare (node k n below rest) = bare_idles rest

leaves_bare : (l : Text) (k : Kind) (t : Forest) → leaves_at_once l k (bare t) ≡ leaves_at_once l k t
leaves_bare l (labeled_statement m) nothing = refl
leaves_bare l (labeled_statement m) (absent rest) = refl
leaves_bare l (labeled_statement m) (node k n below rest) = ap (λ b. not (bytes_eq m l) && b) (leaves_bare l k below)
leaves_bare l block_statement nothing = refl
leaves_bare l block_statement (absent rest) = refl
leaves_bare l block_statement (node k n below rest) = leaves_bare l k below
leaves_bare l statements nothing = refl
leaves_bare l statements (absent rest) = refl
leaves_bare l statements (node k n below rest) = leaves_bare l k below
leaves_bare l (break_statement None) t = refl
leaves_bare l (break_statement (Some m)) t = refl
leaves_bare l k t = refl

pub idle_bare : (k : Kind) (t : Forest) → does_nothing k (bare t) ≡ does_nothing k t
idle_bare while_statement nothing = refl
idle_bare while_statement (absent rest) = refl
idle_bare while_statement (node t m d rest) = ap (is_known (Some false)) (truth_bare t m d)
idle_bare for_statement nothing = refl
idle_bare for_statement (absent nothing) = refl
idle_bare for_statement (absent (absent rest)) = refl
idle_bare for_statement (absent (node t m d rest)) = ap (is_known (Some false)) (truth_bare t m d)
idle_bare for_statement (node t m d rest) = refl
idle_bare try_statement nothing = refl
idle_bare try_statement (absent rest) = refl
idle_bare try_statement (node k n block rest) = ap₂ (λ b c. (is_idle k && b) && c) (bare_idles block) (finalizer_bare rest)
idle_bare (labeled_statement l) nothing = refl
idle_bare (labeled_statement l) (absent rest) = refl
idle_bare (labeled_statement l) (node k n below rest) = ap₂ (λ b c. b || c) (idle_bare k below) (leaves_bare l k below)
idle_bare k t = refl
