-- What the rule on imports takes out of a program is dead code, so that of a program without any it takes out nothing.
use Rattle.std.proofs.Common.{◌≡◌, ℕ, List, Bool, true, false, Some, sym, subst}
use Rattle.js_syntax.proofs.Truth.{not_true}
use Rattle.js_syntax.specs.declared.node_kind.NodeKind.{NodeKind as Kind}
use Rattle.js_syntax.specs.declared.node_kind.NodeKind.TheVariants.{BindingName as binding_name}
use Rattle.js_syntax.specs.Node.{Forest, Tree, Note, nothing, node}
use Rattle.min_context.specs.Place.{place_at, goes_on}
use Rattle.scope_counts.specs.Edits as counts
use Rattle.scope_counts.specs.Edits.{plug}
use Rattle.steps.specs.Allowed.UnusedImport.{an_imported}
use Rattle.headline.specs.Clean.{CleanBut, an_unused_import, a_repeated_import}
use Rattle.rules.specs.DeadCode.Rules.{Facts, where_of}
use Rattle.rules.specs.DeadCode.Knows.{Knows}
use Rattle.rules.proofs.DeadCode.Keeping.{Known}
use Rattle.rules.proofs.DeadCode.Places.{to, is_row}
use Rattle.rules.proofs.Expressions.Becoming.{none_of}
use Rattle.rules.specs.Imports.Rules.{pruned}
use Rattle.rules.specs.Imports.Quiet.{ImportsUsed}
use Rattle.rules.proofs.Imports.Pruned.{an_import_of, Goes, a_name, goes_view, prunes}
use Rattle.rules.proofs.Imports.Places.{an_import, in_import, name_plugged, name_there, name_declares}
use Rattle.rules.proofs.Imports.Leaving.{name_unused}
use Rattle.rules.proofs.Imports.Repeating.{once_without}
use Rattle.rules.proofs.Imports.Together.{rule_stays}
use Rattle.rules.proofs.Imports.Passing as passing
use Rattle.rules_clean.proofs.Finding.{unused_name}
use Rattle.rules_clean.proofs.Dying.{HasDead, clean_has_none, here_dead, variable_unkept}

module _ (f : Facts) where
  name_dead : (a d : counts.Around) (source : List ℕ) (n m : Note) (k : Kind) (l : Note) (below more rest : Forest) → is_row d ≡ true → f.keeps_imports ≡ false → Goes f (where_of (place_at a (goes_on rest))) k below → Known f (plug a (an_import source n m (plug d (node k l below more)) rest))
      → HasDead f (plug a (an_import source n m (plug d (node k l below more)) rest))
  name_dead a d source n m k l below more rest row named (a_name x j binds unused) h =
      let y = an_imported k l j x in
      let b = to a (in_import source n m d more rest) in
      let o = name_unused f h.marked (where_of (place_at a (goes_on rest))).scope b k l j x (subst (λ t. Knows f h.marked t) (sym (name_plugged a d source n m more rest y)) h.knows) binds
      (name_declares a d source n m more rest f h.marked (record { kind = k; note = l; below = node (binding_name x) j nothing nothing }) row h.knows) unused in
      subst (λ t. HasDead f t) (name_plugged a d source n m more rest y) (here_dead f b y (an_unused_import b k l j x (variable_unkept f (where_of (place_at a (goes_on rest))).scope j.id unused) named binds (name_there a d source n m more rest row) o.own o.free))

  -- of an import at a place
  import_dead : (a : counts.Around) (x y : Tree) (rest : Forest) → Known f (plug a (node x.kind x.note x.below rest)) → pruned f (where_of (place_at a (goes_on rest))) x ≡ Some y → HasDead f (plug a (node x.kind x.note x.below rest))
  import_dead a x y rest h is =
      let o = prunes f (where_of (place_at a (goes_on rest))) x y is in
      let old = an_import_of o.source o.note o.list_note o.names in
      let known : Known f (plug a (node old.kind old.note old.below rest)) = subst (λ (t : Tree). Known f (plug a (node t.kind t.note t.below rest))) (sym o.old) h in
      let d = unused_name f (where_of (place_at a (goes_on rest))) o.names o.goes in
      let goes = goes_view f (where_of (place_at a (goes_on rest))) d.kind d.below d.holds in
      subst (λ (t : Tree). HasDead f (plug a (node t.kind t.note t.below rest))) o.old
      (subst (λ t. HasDead f (plug a (an_import o.source o.note o.list_note t rest))) (sym d.is)
      (name_dead a d.before o.source o.note o.list_note d.kind d.note d.below d.rest rest d.in_row (not_true f.keeps_imports o.unkept) goes (subst (λ t. Known f (plug a (an_import o.source o.note o.list_note t rest))) d.is known)))

pub imports_rest : (f : Facts) (marked : ℕ → Bool) (t : Forest) → Knows f marked t → CleanBut f.keeps_unused f.keeps_imports t → ImportsUsed f t
imports_rest f marked t h clean =
    λ a x rest is. (
      none_of (pruned f (where_of (place_at a (goes_on rest))) x) (λ y e. clean_has_none f t clean (subst (λ u. HasDead f u) (sym is) (import_dead f a x y rest (subst (λ u. Known f u) is (record { marked = marked; knows = h })) e))),
      once_without t (λ b y stands repeated. clean.nothing_is_dead b (Some y) stands (a_repeated_import b y repeated)) a x rest is,
      rule_stays f marked t h clean.imports_are_together a x rest is,
      passing.rule_stays f marked t h clean.none_is_passed_on a x rest is,
    )
