-- In a program of which no name of an import goes none is unused.
use Rattle.std.proofs.Common.{◌≡◌, ◌∙◌, ◌+◌, ℕ, List, [], Bool, true, false, not, ◌&&◌, ◌||◌, if◌then◌else◌, Some, None, inl, refl, sym, ap, subst}
use Rattle.std.proofs.lemmas.Bool.{and_from}
use Rattle.js_syntax.specs.declared.node_kind.NodeKind.{NodeKind as Kind}
use Rattle.js_syntax.specs.declared.node_kind.NodeKind.TheVariants.{ImportDeclaration as import_declaration, Specifiers as specifiers, BindingName as binding_name}
use Rattle.js_syntax.specs.declared.kind.VariableKind.TheVariants as variable
use Rattle.js_syntax.specs.Node.{Forest, Tree, Note, nothing, node}
use Rattle.js_syntax.proofs.Truth.{first_of_neither, second_of_neither, first_of_either, second_of_either}
use Rattle.min_context.specs.Place.{place_at, goes_on}
use Rattle.scope_rules.specs.Context.{inside}
use Rattle.scope_rules.specs.ScopeFlags as scope_flag
use Rattle.scope_rules.specs.Site.{own_sites, opens_one, sites}
use Rattle.scope_rules.specs.Binding.{named_in}
use Rattle.scope_laws.specs.Place as places
use Rattle.scope_laws.specs.Place.{Around, first}
use Rattle.scope_laws.proofs.Bindings.{none_is_some}
use Rattle.scope_counts.specs.Edits as counts
use Rattle.scope_counts.specs.Edits.{here, behind, behind_none, under, plug}
use Rattle.scope_counts.specs.Scopes.{unmarked}
use Rattle.steps.specs.Steps.{binds_import}
use Rattle.steps.proofs.Naming.Sites.{binding_second}
use Rattle.steps.specs.Allowed.Exposure.{Exposure, exposure, is_script, evaluates_somewhere, IsOwnDeclarator}
use Rattle.steps.specs.Allowed.Free.{IsFree, FreeDeclarator}
use Rattle.steps.specs.Allowed.Imports.{IsImported}
use Rattle.steps.specs.Allowed.Places.{At}
use Rattle.steps.specs.Allowed.UnusedImport.{an_imported}
use Rattle.steps.specs.Marked.Flags.{Stand, scope_has}
use Rattle.steps.proofs.Marked.Telling.{stand_exposed}
use Rattle.rules.specs.DeadCode.Knows.{Knows}
use Rattle.rules.specs.DeadCode.Quiet.{TellsOnly, Exactly}
use Rattle.rules.specs.DeadCode.Rules.{Facts, Where, where_of, is_unlisted, is_global, variable_is_unused}
use Rattle.rules.proofs.DeadCode.Alive.{only_item, program_evaluates, variable_hidden}
use Rattle.rules.proofs.DeadCode.Idle.{find, unlisted}
use Rattle.rules.proofs.DeadCode.Leaving.{named_site}
use Rattle.rules.proofs.DeadCode.Numbers.{whole_stand}
use Rattle.rules.proofs.DeadCode.Places.{to, plugged, is_row}
use Rattle.rules.specs.Imports.Rules.{specifier_goes, one_goes, names_left}
use Rattle.rules.specs.Imports.Quiet.{ImportsUsed}
use Rattle.rules.proofs.Imports.Pruned.{wrong, an_import_of}
use Rattle.rules.proofs.Imports.LaidOut.{fits_listed}
use Rattle.rules.proofs.Imports.Places.{an_import, in_import, import_same, name_stands}
use Rattle.rules.proofs.Imports.Leaving.{layer_stays}
use Rattle.rules.proofs.Imports.Splitting.{name_in}

some_goes : (f : Facts) (w : Where) (c : counts.Around) (k : Kind) (n : Note) (b rest : Forest) → is_row c ≡ true → specifier_goes f w k b ≡ true → one_goes f w (plug c (node k n b rest)) ≡ true
some_goes f w here k n b rest e h = first_of_either (specifier_goes f w k b) (one_goes f w rest) h
some_goes f w (behind j m d c) k n b rest e h = second_of_either (specifier_goes f w j d) (one_goes f w (plug c (node k n b rest))) (some_goes f w c k n b rest e h)
some_goes f w (behind_none c) k n b rest e h = some_goes f w c k n b rest e h
some_goes f w (under j m c r) k n b rest e h = wrong e

not_pruned : (b : Bool) (y : Tree) → b ≡ true → (if b then Some y else None) ≡ None → ⊥
not_pruned true y e is = none_is_some (sym is)
not_pruned false y e is = wrong e

-- what is to hold of the program
record Good (f : Facts) (t : Forest) : Type 0 where
  knows : Knows f unmarked t
  exactly : Exactly f t
  used : ImportsUsed f t

module _ (f : Facts) where
  name_used : f.keeps_unused ≡ false → f.keeps_imports ≡ false → (a d : counts.Around) (source : List ℕ) (n l : Note) (more rest : Forest) → is_row d ≡ true → (k : Kind) (i j : Note) (x : List ℕ) → binds_import k ≡ true
      → let b = to a (in_import source n l d more rest) in
      Good f (places.plug b (an_imported k i j x)) → IsOwnDeclarator b (an_imported k i j x) → At b (an_imported k i j x) (FreeDeclarator (places.plug b (an_imported k i j x)) x) → ⊥
  name_used unkept named a d source n l more rest row k i j x binds g own free =
      let inner = in_import source n l d more rest in
      let b = to a inner in
      let below = node (binding_name x) j nothing nothing in
      let y : Tree = record { kind = k; note = i; below = below } in
      let t = places.plug b (Some y) in
      let w = where_of (place_at a (goes_on rest)) in
      let names = places.plug (to d (first more)) (Some y) in
      let list = node specifiers l names nothing in
      let whole = an_import source n l names rest in
      let here_ : Good f (plug a whole) = subst (λ v. Good f v) (plugged a inner (Some y)) g in
      let same = import_same a d source n l more rest f unmarked names here_.knows in
      let outer = whole_stand a whole in
      let shared : outer.exposure.names_shared ≡ false =
      ap (λ (r : Stand). r.exposure.declared_shared) (sym (name_stands a d source n l more rest (Some y) row)) ∙ ap (λ (e : Exposure). e.declared_shared) (stand_exposed b (Some y))
      ∙ first_of_neither (exposure b (Some y)).declared_shared (evaluates_somewhere t) own in
      let only : TellsOnly f.scoping (is_script t) outer = subst (λ v. TellsOnly f.scoping (is_script v) outer) (sym (plugged a inner (Some y))) (only_item f a (import_declaration source) n list rest here_.exactly) in
      let apart = variable_hidden f t outer w variable.Let g.knows.script only same shared (program_evaluates f t g.knows.outermost g.exactly.flags) (second_of_neither (exposure b (Some y)).declared_shared (evaluates_somewhere t) own) in
      let place = find b (Some y) (FreeDeclarator t x) free in
      let c = place.contexts place.at in
      let fs = inside c place.next k below in
      let site = named_site (fs 0) j x in
      let stands = place.bindings site (binding_second site (own_sites c i k below) (sites fs 0 (place.next + opens_one k below) below) [] (inl refl)) in
      let free_there = subst (λ r. IsFree t (named_in x r)) (sym (layer_stays c place.next k below binds)) place.holds_there in
      let unused = and_from (is_unlisted f j.id) (not (is_global f w.scope || scope_has f.scoping 0 scope_flag.direct_eval)) (unlisted f t g.knows unkept g.exactly site stands free_there) (ap not apart) in
      let goes = and_from (binds_import k) (variable_is_unused f w.scope j.id) binds unused in
      let one : one_goes f w names ≡ true = ap (λ v. one_goes f w v) (plugged d (first more) (Some y)) ∙ some_goes f w d k i below more row goes in
      not_pruned (not f.keeps_imports && one_goes f w names) (an_import_of source n l (names_left f w names)) (and_from (not f.keeps_imports) (one_goes f w names) (ap not named) one) (here_.used a (an_import_of source n l names) rest refl).0

pub no_unused_name : (f : Facts) (t : Forest) → Knows f unmarked t → Exactly f t → ImportsUsed f t → (a : Around) (k : Kind) (n m : Note) (x : List ℕ) → t ≡ places.plug a (an_imported k n m x) → f.keeps_unused ≡ false → f.keeps_imports ≡ false → binds_import k ≡ true → IsImported a
    → IsOwnDeclarator a (an_imported k n m x) → At a (an_imported k n m x) (FreeDeclarator t x) → ⊥
no_unused_name f t knows exactly used b k n m x is unkept named binds imported own free =
    let y = an_imported k n m x in
    let here_ : Good f (places.plug b y) = subst (λ v. Good f v) is (record { knows = knows; exactly = exactly; used = used }) in
    let i = name_in b (record { kind = k; note = n; below = node (binding_name x) m nothing nothing }) (fits_listed (places.plug b y) here_.knows.fits) imported in
    subst (λ c. Good f (places.plug c y) → IsOwnDeclarator c y → At c y (FreeDeclarator (places.plug c y) x) → ⊥) i.is (name_used f unkept named i.outer i.before i.source i.note i.list_note i.more i.rest i.in_row k n m x binds) here_ own
    (subst (λ v. At b y (FreeDeclarator v x)) is free)
