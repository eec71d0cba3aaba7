-- The export leaves a program's own list, and then the import, whose names nothing exports: the program sheds both.
use Rattle.std.proofs.Common.{◌≡◌, ◌∙◌, ℕ, suc, ◌+◌, List, [], ◌++◌, Bool, true, false, true≢false, not, ◌&&◌, append-nil, Some, refl, sym, ap, subst}
use Rattle.js_tree.specs.Count.{one_each}
use Rattle.js_syntax.specs.declared.node_kind.NodeKind.{NodeKind as Kind}
use Rattle.js_syntax.specs.declared.node_kind.NodeKind.TheVariants.{Program as program, Statements as statements, ImportDeclaration as import_declaration, Specifiers as specifiers, BindingName as binding_name}
use Rattle.js_syntax.specs.declared.scalar.SourceType.TheVariants as source_type
use Rattle.js_syntax.specs.Node.{Forest, Note, nothing, node, alone}
use Rattle.js_syntax.proofs.Truth.{first_of_both, both}
use Rattle.js_meaning_near.specs.Near.{module_of}
use Rattle.form_rules.specs.declared.sought.Sort.{Sort}
use Rattle.form_rules.specs.declared.sought.Sort.TheVariants.{Lexical as lexical}
use Rattle.form_rules.specs.declared.sought.Sought.{Sought}
use Rattle.form_rules.specs.declared.sought.Sought.TheVariants.{Nothing as none, Names as names_sought, Bound as bound, Scope as scope, Variables as variables, FunctionScope as function_scope, CatchScope as catch_scope}
use Rattle.form_rules.specs.Form.{IsWellFormed}
use Rattle.form_rules.specs.Rules.{Exported, is_exported}
use Rattle.form_rules.specs.Scope.{Declared, declared}
use Rattle.json_shape.specs.Shape.{Fits}
use Rattle.scope_rules.specs.Context.{Context, inside, outermost as outermost_context, body_of}
use Rattle.scope_rules.specs.Site.{opens_one, scope_count, sites}
use Rattle.scope_laws.specs.Place.{Around, plug}
use Rattle.scope_laws.specs.Lists.{without}
use Rattle.steps.specs.Steps.{binds_import, all_core}
use Rattle.steps.specs.Fit.Sensible.{IsSensibleModule}
use Rattle.steps.proofs.Fit.Sensible.{sensible, of_module}
use Rattle.steps.proofs.Owed.LeftRuns.{core_left}
use Rattle.steps.proofs.Owed.PassedFits.{left_fits}
use Rattle.steps.specs.Allowed.PassedExports.{AreFree, WithoutExport, PassesIn}
use Rattle.steps.specs.KeepForm.Layout.{IsLaidOut}
use Rattle.steps.specs.KeepForm.Sheds.{exports_none, Sheds, outermost}
use Rattle.steps.proofs.KeepForm.Form.{stays_well_formed}
use Rattle.steps.proofs.KeepForm.ShedNames.{none_declared}
use Rattle.steps.specs.Owed.Owed.{IsUnexported}
use Rattle.steps.specs.Owed.Seeking.{Within, AllRead, Seeks}
use Rattle.steps.proofs.Owed.MergedRows.{AreNames, no_names, a_name}
use Rattle.steps.proofs.Owed.PassedPlaces.{an_export, an_import, ExportIn, export_in, Listed, export_out, ImportIn, import_in, in_module, flat_holds, flat_item}
use Rattle.steps.proofs.Owed.PassedRows.{AreListed, none_listed, one_listed}
use Rattle.steps.proofs.Owed.RepeatedRuns.{is_flat}
use Rattle.steps.proofs.Owed.Seeking.{within_below, within_later, Declares, free_name}
use Rattle.steps.proofs.Owed.Shedding.{item_sheds}
use Rattle.steps.proofs.Owed.Unexported.{name_stands}

-- ---- the export declares no name

pub listed_declares : {listed : Forest} → AreListed listed → (s : Sought) (p : ℕ) → declared s p listed ≡ []
listed_declares none_listed s p = refl
listed_declares (one_listed exported n m x rest are) none p = listed_declares are none _
listed_declares (one_listed exported n m x rest are) (names_sought f) p = listed_declares are (names_sought f) _
listed_declares (one_listed exported n m x rest are) (bound f) p = listed_declares are (bound f) _
listed_declares (one_listed exported n m x rest are) (scope f) p = listed_declares are (scope f) _
listed_declares (one_listed exported n m x rest are) variables p = listed_declares are variables _
listed_declares (one_listed exported n m x rest are) function_scope p = listed_declares are function_scope _
listed_declares (one_listed exported n m x rest are) (catch_scope f) p = listed_declares are (catch_scope f) _

export_declares : {listed : Forest} → AreListed listed → (s : Sought) (n m : Note) → declared s 0 (alone (an_export listed n m).kind n (an_export listed n m).below) ≡ []
export_declares are none n m = ap (λ l. (l ++ []) ++ []) (listed_declares are none _)
export_declares are (names_sought f) n m = ap (λ l. (l ++ []) ++ []) (listed_declares are none _)
export_declares are (bound f) n m = ap (λ l. (l ++ []) ++ []) (listed_declares are none _)
export_declares are (scope f) n m = ap (λ l. (l ++ []) ++ []) (listed_declares are none _)
export_declares are variables n m = ap (λ l. (l ++ []) ++ []) (listed_declares are none _)
export_declares are function_scope n m = ap (λ l. (l ++ []) ++ []) (listed_declares are none _)
export_declares are (catch_scope f) n m = ap (λ l. (l ++ []) ++ []) (listed_declares are none _)

-- ---- none of the import's names is exported

module _ (t : Forest) (es : List Exported) (read : AllRead t es (body_of 0)) (f : Sort) (c : Context) (here : c.declaring.layer ≡ body_of 0) where
  abbrev Stands : ℕ → ℕ → Forest → Type 0
  Stands at next u = Within t (sites (λ i. c) at next u)

  names_out : {names : Forest} → AreNames names → AreFree t names → (at next p : ℕ) → Stands at next names → exports_none es (declared (bound f) p names) ≡ true
  names_out no_names free at next p within = refl
  names_out (a_name (Kind.ImportSpecifier imported) n m x rest binds are) free at next p within =
      let k = Kind.ImportSpecifier imported in
      let below = node (binding_name x) m nothing nothing in
      let d = name_stands t (inside c next k below) (next + 0) x m nothing (within_below t (λ i. c) at next k n below rest within) in
      both (not (is_exported x es)) (exports_none es (declared (bound f) _ rest))
      (first_of_both (not (is_exported x es)) true (free_name t es x (body_of 0) read (subst (Declares t x) here d) free.0))
      (names_out are free.1 (suc at) (next + scope_count (node k n below nothing)) _ (within_later t (λ i. c) at next k n below rest within))
  names_out (a_name Kind.ImportDefaultSpecifier n m x rest binds are) free at next p within =
      let k = Kind.ImportDefaultSpecifier in
      let below = node (binding_name x) m nothing nothing in
      let d = name_stands t (inside c next k below) (next + 0) x m nothing (within_below t (λ i. c) at next k n below rest within) in
      both (not (is_exported x es)) (exports_none es (declared (bound f) _ rest))
      (first_of_both (not (is_exported x es)) true (free_name t es x (body_of 0) read (subst (Declares t x) here d) free.0))
      (names_out are free.1 (suc at) (next + scope_count (node k n below nothing)) _ (within_later t (λ i. c) at next k n below rest within))
  names_out (a_name Kind.ImportNamespaceSpecifier n m x rest binds are) free at next p within =
      let k = Kind.ImportNamespaceSpecifier in
      let below = node (binding_name x) m nothing nothing in
      let d = name_stands t (inside c next k below) (next + 0) x m nothing (within_below t (λ i. c) at next k n below rest within) in
      both (not (is_exported x es)) (exports_none es (declared (bound f) _ rest))
      (first_of_both (not (is_exported x es)) true (free_name t es x (body_of 0) read (subst (Declares t x) here d) free.0))
      (names_out are free.1 (suc at) (next + scope_count (node k n below nothing)) _ (within_later t (λ i. c) at next k n below rest within))
  names_out (a_name k n m x rest binds are) free at next p within = absurd (true≢false (sym binds))

module _ (t : Forest) (source : List ℕ) (i j : Note) {names : Forest} (are : AreNames names) (free : AreFree t names) (c : Context) (next : ℕ) (here : c.block ≡ body_of 0) where
  abbrev list : Forest
  list = node specifiers j names nothing

  abbrev outer : Context
  outer = inside c next (import_declaration source) list 0

  import_out : (s : Sought) (es : List Exported) → Within t (sites (inside c next (import_declaration source) list) 0 (next + 0) list) → Seeks t s es c → exports_none es (declared s 0 (alone (import_declaration source) i list)) ≡ true
  import_out none es within seeks = ap (exports_none es) (ap (λ l. l ++ []) (none_declared (0 + one_each (import_declaration source)) list))
  import_out (names_sought f) es within seeks = ap (exports_none es) (ap (λ l. l ++ []) (none_declared (0 + one_each (import_declaration source)) list))
  import_out (bound f) es within seeks = ap (exports_none es) (ap (λ l. l ++ []) (none_declared (0 + one_each (import_declaration source)) list))
  import_out (scope f) es within seeks =
      let ds = λ (p : ℕ). declared (bound lexical) p names in
      subst (λ (l : List Declared). exports_none es l ≡ true) (sym (append-nil (ds _ ++ []) ∙ append-nil (ds _)))
      (names_out t es (subst (AllRead t es) here seeks.0) lexical (inside outer (next + 0) specifiers names 0) here are free 0 (next + 0 + 0) _
      (within_below t (inside c next (import_declaration source) list) 0 (next + 0) specifiers j names nothing within))
  import_out variables es within seeks = ap (exports_none es) (ap (λ l. l ++ []) (none_declared (0 + one_each (import_declaration source)) list))
  import_out function_scope es within seeks = absurd seeks
  import_out (catch_scope f) es within seeks = absurd seeks

-- ---- both leave

pub export_sheds : (n m : Note) {listed r s : Forest} → ExportIn listed r s → AreListed listed → IsLaidOut (module_of n m r) → Sheds outermost (module_of n m r) (module_of n m s)
export_sheds n m {listed = listed} {r = r} {s = s} e are laid =
    let x = an_export listed e.note e.list_note in
    let a = in_module n m e.around in
    subst (λ t. Sheds outermost (module_of n m r) (module_of n m t)) e.gone
    (subst (λ t. Sheds outermost (module_of n m t) (module_of n m (without e.around))) e.there
    (item_sheds a x refl (flat_item n m e.around e.flat)
    (flat_holds (inside (inside outermost_context 0 (program source_type.Module) (node statements m (plug e.around (Some x)) nothing) 0) 1 statements (plug e.around (Some x)) 0) x (IsUnexported (plug a (Some x)) x)
    (λ next z within right seeks. ap (exports_none z.exported) (export_declares are z.sought e.note e.list_note)) 0 1 e.around e.flat)
    (subst (λ t. IsLaidOut (module_of n m t)) (sym e.there) laid)))

pub import_sheds : (n m : Note) {names s z : Forest} (i : ImportIn names s z) → AreFree (module_of n m s) names → IsLaidOut (module_of n m s) → Sheds outermost (module_of n m s) (module_of n m (without i.around))
import_sheds n m {names = names} {s = s} i free laid =
    let x = an_import i.source names i.note i.list_note in
    let a = in_module n m i.around in
    let there = subst (λ t. AreFree (module_of n m t) names) (sym i.there) free in
    subst (λ t. Sheds outermost (module_of n m t) (module_of n m (without i.around))) i.there
    (item_sheds a x refl (flat_item n m i.around i.flat)
    (flat_holds (inside (inside outermost_context 0 (program source_type.Module) (node statements m (plug i.around (Some x)) nothing) 0) 1 statements (plug i.around (Some x)) 0) x (IsUnexported (plug a (Some x)) x)
    (λ next z within right seeks. import_out (plug a (Some x)) i.source i.note i.list_note i.names_are there _ next refl z.sought z.exported within seeks) 0 1 i.around i.flat)
    (subst (λ t. IsLaidOut (module_of n m t)) (sym i.there) laid))

-- ---- a module without the export is sensible

pub left_sensible : (n m : Note) {listed r s : Forest} → AreListed listed → WithoutExport listed r s → IsSensibleModule (module_of n m r) → IsSensibleModule (module_of n m s)
left_sensible n m {listed = listed} {r = r} {s = s} are out h =
    let e = export_in out in
    let x = an_export listed e.note e.list_note in
    let form = stays_well_formed (module_of n m r) (module_of n m s) (export_sheds n m e are h.sensible.laid_out) h.sensible.well_formed in
    let core = subst (λ t. all_core (module_of n m t) ≡ true) e.gone (core_left x (in_module n m e.around) (subst (λ t. all_core (module_of n m t) ≡ true) (sym e.there) h.core)) in
    of_module (module_of n m s) (record { note = n; list_note = m; items = s; is = refl }) core (sensible (module_of n m s) (left_fits n m out h.sensible.fits) form)
