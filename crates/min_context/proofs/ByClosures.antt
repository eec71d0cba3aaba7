-- From a call of a closure to what a clause says of it.
use Rattle.std.proofs.Common.{◌≡◌, subst, Result, Ok, Err}
use Rattle.std.specs.Prelude.{true}
use Rattle.std.specs.Borrow.{MutBor}
use Rattle.std.specs.Fn.{Once}
use Rattle.std.specs.declared.alloc.AllocError.{AllocError}
use Rattle.js_syntax.specs.Node.{Tree}
use Rattle.min_context.specs.Seen.{Seen}
use Rattle.min_context.specs.Replacing.{Makes, Refuses}

module _ {F : Type 0} {g : Once F (Tree × (MutBor Seen × Unit {0})) (Result Tree AllocError × (MutBor Seen × Unit {0}))} {f : F} {x : Tree} (s : MutBor Seen) {r : Result Tree AllocError} (o : MutBor Seen × Unit {0}) where
  pub makes : {c d : Seen} (x' : Tree) (y : Tree) → g.post f (x, (s, tt)) (r, o) → x ≡ x' → r ≡ Ok y → s.now ≡ c → d ≡ record o.0.now { requested = true } → Makes g f x' c y d
  makes x' y met same is shows leaves = record { shown = s; shows = shows; left = o.0; met = subst (λ z. g.post f (z, (s, tt)) (Ok y, o)) same (subst (λ q. g.post f (x, (s, tt)) (q, o)) is met); leaves = leaves }

  pub refuses : {c d : Seen} (x' : Tree) (e : AllocError) → g.post f (x, (s, tt)) (r, o) → x ≡ x' → r ≡ Err e → s.now ≡ c → d ≡ o.0.now → Refuses g f x' c e d
  refuses x' e met same is shows leaves = record { shown = s; shows = shows; left = o.0; met = subst (λ z. g.post f (z, (s, tt)) (Err e, o)) same (subst (λ q. g.post f (x, (s, tt)) (q, o)) is met); leaves = leaves }
