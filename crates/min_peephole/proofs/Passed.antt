-- What passes made of a program so far.
use Rattle.std.proofs.Common.{◌≡◌, ◌∙◌, ◌+◌, ◌≤◌, ◌<◌, ℕ, refl, arith}
use Rattle.js_syntax.specs.Facts.{weight}
use Rattle.js_syntax.specs.Node.{Tree, forest_of, total}
use Rattle.steps.specs.Allowed.Edits.{TreeEdits, no_tree_edit}
use Rattle.steps.proofs.Allowed.Composing.{tree_edits_compose}
use Rattle.min_context.specs.Seen.{Seen}
use Rattle.min_statements.specs.Walker.{Names}
use Rattle.min_peephole.specs.Between.{BetweenPasses}

pub record Passed (c : Seen) (x : Tree) (names : Names) (d : Seen) (y : Tree) (n : ℕ) : Type 0 where
  pub edits : TreeEdits (forest_of x) (forest_of y)
  pub between : BetweenPasses names d (forest_of y)
  pub few : n + total weight (forest_of y) ≤ total weight (forest_of x)
  pub none : n ≡ 0 → y ≡ x
  pub same : n ≡ 0 → d ≡ c
  pub options : d.options ≡ c.options

-- none yet
pub none_passed : (names : Names) (c : Seen) (x : Tree) → BetweenPasses names c (forest_of x) → Passed c x names c x 0
none_passed names c x b = record { edits = no_tree_edit (forest_of x); between = b; few = Prim.omega arith; none = λ e. refl; same = λ e. refl; options = refl }

-- and one more
pub one_more : (c : Seen) (x : Tree) (names later : Names) (d e : Seen) (y z : Tree) (n : ℕ) → Passed c x names d y n → TreeEdits (forest_of y) (forest_of z) → BetweenPasses later e (forest_of z)
    → total weight (forest_of z) < total weight (forest_of y) → e.options ≡ d.options → Passed c x later e z (n + 1)
one_more c x names later d e y z n p edits between lighter options = record {
  edits = tree_edits_compose p.edits edits;
  between = between;
  few = Prim.omega (arith, p.few, lighter);
  none = λ q. absurd (Prim.omega (arith, q));
  same = λ q. absurd (Prim.omega (arith, q));
  options = options ∙ p.options;
}
