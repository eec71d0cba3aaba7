-- Where an item leaves a list of a module, what the module exports and asks for stays.
use Rattle.std.proofs.Common.{◌≡◌, ◌∙◌, [], ◌++◌, Bool, true, false, Some, None, refl, sym, ap, true≢false}
use Rattle.js_syntax.specs.declared.node_kind.NodeKind.{NodeKind as Kind}
use Rattle.js_syntax.specs.Node.{Note, Forest, Tree, node}
use Rattle.js_syntax.proofs.Truth.{first_of_both, second_of_both}
use Rattle.js_meaning.specs.Scope.{first_name}
use Rattle.js_meaning.specs.Module.{requests_of, requests, entries_of, entries, star_of, stars}
use Rattle.min_pass.specs.declared.around.Around.{Around as Asked}
use Rattle.min_pass.specs.declared.around.Row.TheVariants.{Items as items}
use Rattle.min_pass.specs.Around.{entered as asked_below}
use Rattle.scope_laws.specs.Place.{Around, first, behind, behind_none, under, plug}
use Rattle.scope_laws.specs.Lists.{without}
use Rattle.steps.specs.Allowed.Places.{asked_at}
use Rattle.steps.specs.KeepForm.Part.{is_statement}
use Rattle.steps.specs.KeepRuns.Formed.{is_plain, calm_at, calm, heads, is_formed}
use Rattle.steps.proofs.KeepRuns.Calm.{form_heads, form_below, form_behind, Alike, alike_absent, alike_same, alike_node, alike_function, alike_itself}
use Rattle.steps.proofs.KeepRuns.Exports.{entries_alike}
use Rattle.steps.proofs.Owed.CallWays.{not_still}

-- an item that exports nothing, and asks for no module
pub record Private (x : Tree) : Type 0 where
  pub entries : entries_of x.kind x.below ≡ []
  pub stars : star_of x.kind ≡ []
  pub requests : requests_of x.kind ≡ []

module _ (x : Tree) (statement : is_statement x.kind ≡ true) (no_plain : is_plain x.kind ≡ false) (private : Private x) where
  -- a function's name is no item
  named_still : (w : Asked) (k : Kind) (a : Around) → (asked_at (asked_below w k) a).row ≡ items → ((asked_below w k).row ≡ items → ⊥) → first_name (plug a (Some x)) ≡ first_name (without a)
  named_still w k (first rest) item list = absurd (list item)
  named_still w k (behind l n below a) item list = refl
  named_still w k (behind_none a) item list = refl
  named_still w k (under l n a rest) item list = refl

  not_calm : (k : Kind) (b : Bool) → is_plain k ≡ false → calm_at k b ≡ true → is_statement k ≡ true → ⊥
  not_calm (Kind.Function f pure) b n h s = true≢false (sym s)
  not_calm k b n h s = true≢false (sym (first_of_both (is_plain k) b h) ∙ n)

  -- in a row where names are declared it lies in functions
  alike_there : (w : Asked) (a : Around) → (asked_at w a).row ≡ items → calm (plug a (Some x)) ≡ true → is_formed (plug a (Some x)) ≡ true → Alike (plug a (Some x)) (without a)
  alike_there w (first rest) item h f = absurd (not_calm x.kind (calm x.below) no_plain (first_of_both (calm_at x.kind (calm x.below)) (calm rest) h) statement)
  alike_there w (behind k n below a) item h f = alike_same (alike_there w a item (second_of_both (calm_at k (calm below)) (calm (plug a (Some x))) h) (form_behind k below (plug a (Some x)) f))
  alike_there w (behind_none a) item h f = alike_absent (alike_there w a item h f)
  alike_there w (under k n a rest) item h f =
      alike_below w k n a rest item (first_of_both (calm_at k (calm (plug a (Some x)))) (calm rest) h) f (λ c. alike_there (asked_below w k) a item c (form_below k (plug a (Some x)) rest f))
    where
      alike_below : (w : Asked) (k : Kind) (n : Note) (a : Around) (rest : Forest) → (asked_at (asked_below w k) a).row ≡ items → calm_at k (calm (plug a (Some x))) ≡ true → is_formed (node k n (plug a (Some x)) rest) ≡ true → (calm (plug a (Some x)) ≡ true → Alike (plug a (Some x)) (without a))
          → Alike (node k n (plug a (Some x)) rest) (node k n (without a) rest)
      alike_below w (Kind.Function how pure) n a rest item h f below = alike_function (named_still w (Kind.Function how pure) a item (λ e. cc)) (alike_itself rest)
      alike_below w (Kind.ImportDeclaration source) n a rest item h f below = absurd (not_still x statement no_plain a (form_heads (Kind.ImportDeclaration source) (plug a (Some x)) rest f))
      alike_below w k n a rest item h f below = alike_node (λ i. i) (below (second_of_both (is_plain k) (calm (plug a (Some x))) h)) (alike_itself rest)

  entries_below : (w : Asked) (k : Kind) (a : Around) → (asked_at (asked_below w k) a).row ≡ items → heads k (plug a (Some x)) ≡ true → is_formed (plug a (Some x)) ≡ true → entries_of k (plug a (Some x)) ≡ entries_of k (without a)
  entries_below w (Kind.ExportNamedDeclaration None) a item h f = entries_alike (Kind.ExportNamedDeclaration None) (plug a (Some x)) (without a) (alike_there (asked_below w (Kind.ExportNamedDeclaration None)) a item h f)
  entries_below w (Kind.ExportNamedDeclaration (Some source)) a item h f = entries_alike (Kind.ExportNamedDeclaration (Some source)) (plug a (Some x)) (without a) (alike_there (asked_below w (Kind.ExportNamedDeclaration (Some source))) a item h f)
  entries_below w Kind.ExportDefaultDeclaration a item h f = entries_alike Kind.ExportDefaultDeclaration (plug a (Some x)) (without a) (alike_there (asked_below w Kind.ExportDefaultDeclaration) a item h f)
  entries_below w (Kind.ExportAllDeclaration (Some name) source) a item h f = refl
  entries_below w k a item h f = refl

  pub entries_left : (w : Asked) (a : Around) → (asked_at w a).row ≡ items → is_formed (plug a (Some x)) ≡ true → entries (plug a (Some x)) ≡ entries (without a)
  entries_left w (first rest) item f = ap (λ l. l ++ entries rest) private.entries
  entries_left w (behind k n below a) item f = ap (λ l. entries_of k below ++ l) (entries_left w a item (form_behind k below (plug a (Some x)) f))
  entries_left w (behind_none a) item f = entries_left w a item f
  entries_left w (under k n a rest) item f = ap (λ l. l ++ entries rest) (entries_below w k a item (form_heads k (plug a (Some x)) rest f) (form_below k (plug a (Some x)) rest f))

  pub stars_left : (a : Around) → stars (plug a (Some x)) ≡ stars (without a)
  stars_left (first rest) = ap (λ l. l ++ stars rest) private.stars
  stars_left (behind k n below a) = ap (λ l. star_of k ++ l) (stars_left a)
  stars_left (behind_none a) = stars_left a
  stars_left (under k n a rest) = refl

  pub requests_left : (a : Around) → requests (plug a (Some x)) ≡ requests (without a)
  requests_left (first rest) = ap (λ l. l ++ requests rest) private.requests
  requests_left (behind k n below a) = ap (λ l. requests_of k ++ l) (requests_left a)
  requests_left (behind_none a) = requests_left a
  requests_left (under k n a rest) = refl
