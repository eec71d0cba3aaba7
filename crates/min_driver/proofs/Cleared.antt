-- A tree without the empty statements of its lists is no deeper.
use Rattle.std.proofs.Common.{◌≡◌, ℕ, suc, ◌≤◌, Bool, true, false, if◌then◌else◌, refl, arith}
use Rattle.js_syntax.specs.declared.node_kind.NodeKind.{NodeKind as Kind}
use Rattle.js_syntax.specs.declared.node_kind.NodeKind.TheVariants.{VariableDeclaration as variable_declaration, Statements as statements, Declarators as declarators}
use Rattle.js_syntax.specs.Node.{Note, Forest, nothing, node, absent}
use Rattle.js_tree.specs.Count.{lower, levels_at, levels}
use Rattle.min_pass.specs.declared.around.Row.{Row}
use Rattle.min_pass.specs.declared.around.Row.TheVariants.{Items as items, OfItem as of_item, Declarators as item_declarators, Other as other}
use Rattle.min_pass.specs.Around.{row_below}
use Rattle.min_pass.specs.Pass.{is_empty_in, swept, cleared}

-- ---- in a list none stands lower than the others by its place

abbrev is_list : Row → Bool
is_list items = true
is_list row = false

abbrev IsLevel : (more : ℕ → ℕ) → Type 0
IsLevel more = (at : ℕ) → more at ≡ 0

level_below : (row : Row) (k : Kind) → is_list (row_below row k) ≡ true → IsLevel (lower k)
level_below row statements h = λ at. refl
level_below items (variable_declaration how) h = absurd cc
level_below of_item (variable_declaration how) h = absurd cc
level_below item_declarators (variable_declaration how) h = absurd cc
level_below other (variable_declaration how) h = absurd cc
level_below items declarators h = absurd cc
level_below of_item declarators h = absurd cc
level_below item_declarators declarators h = absurd cc
level_below other declarators h = absurd cc
level_below row k h = absurd cc

where_it_goes : (row : Row) (k : Kind) → is_empty_in row k ≡ true → is_list row ≡ true
where_it_goes items k h = refl
where_it_goes item_declarators k h = absurd cc
where_it_goes of_item k h = absurd cc
where_it_goes other k h = absurd cc

-- so that they may stand further on
moved : (more : ℕ → ℕ) → IsLevel more → (at later : ℕ) (t : Forest) → levels_at more at t ≡ levels_at more later t
moved more level at later nothing = refl
moved more level at later (absent rest) = moved more level (suc at) (suc later) rest
moved more level at later (node k n below rest) = Prim.omega (arith, level at, level later, moved more level (suc at) (suc later) rest)

-- ---- what is left

no_deeper : (b : Bool) (more : ℕ → ℕ) (at : ℕ) (k : Kind) (n : Note) (below rest below_left left : Forest) → (b ≡ true → IsLevel more)
    → levels_at (lower k) 0 below_left ≤ levels_at (lower k) 0 below → levels_at more (suc at) left ≤ levels_at more (suc at) rest
    → levels_at more at (if b then left else node k n below_left left) ≤ levels_at more at (node k n below rest)
no_deeper true more at k n below rest below_left left level inside later = Prim.omega (arith, moved more (level refl) at (suc at) left, later)
no_deeper false more at k n below rest below_left left level inside later = Prim.omega (arith, inside, later)

swept_levels : (row : Row) (more : ℕ → ℕ) (at : ℕ) (t : Forest) → (is_list row ≡ true → IsLevel more) → levels_at more at (swept row t) ≤ levels_at more at t
swept_levels row more at nothing level = Prim.omega arith
swept_levels row more at (absent rest) level = swept_levels row more (suc at) rest level
swept_levels row more at (node k n below rest) level =
    no_deeper (is_empty_in row k) more at k n below rest (swept (row_below row k) below) (swept row rest) (λ h. level (where_it_goes row k h))
    (swept_levels (row_below row k) (lower k) 0 below (level_below row k)) (swept_levels row more (suc at) rest level)

pub cleared_levels : (t : Forest) → levels (cleared t) ≤ levels t
cleared_levels t = swept_levels other (λ at. 0) 0 t (λ h. absurd cc)
