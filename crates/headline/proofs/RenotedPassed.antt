-- Whether an import of a program may become an export from its module doesn't see notes.
use Rattle.std.proofs.Common.{◌≡◌, ◌∙◌, ℕ, List, true, false, ◌&&◌, ◌||◌, Some, None, refl, sym, ap, ap₂, subst}
use Rattle.std.specs.Str.{bytes_eq}
use Rattle.js_syntax.specs.declared.node_kind.NodeKind.{NodeKind as Kind}
use Rattle.js_syntax.specs.declared.node_kind.NodeKind.TheVariants.{Program as program, Statements as statements, ImportDeclaration as import_declaration, Specifiers as specifiers, ImportSpecifier as import_specifier, ImportDefaultSpecifier as import_default_specifier, ImportNamespaceSpecifier as import_namespace_specifier, BindingName as binding_name, ReferenceName as reference_name, ExportNamedDeclaration as export_named_declaration, ExportAllDeclaration as export_all_declaration, ExportSpecifier as export_specifier}
use Rattle.js_syntax.specs.declared.scalar.SourceType.TheVariants as source_type
use Rattle.js_syntax.specs.declared.value.ModuleName.{ModuleName}
use Rattle.js_syntax.specs.Node.{Forest, Note, nothing, node, absent, nowhere, bare}
use Rattle.scope_rules.specs.Binding.{Binding}
use Rattle.scope_laws.proofs.Notes.{unseen}
use Rattle.js_meaning_near.specs.Near.{module_of}
use Rattle.steps.specs.Allowed.Exposure.{evaluates_somewhere}
use Rattle.steps.specs.Allowed.Free.{IsFree}
use Rattle.steps.specs.Allowed.MergedImports.{are_names}
use Rattle.steps.specs.Allowed.PassedExports.{AreFree, Binds, binds_export, binds_default, binds_behind, lists, lists_each, Passes, passes_none, passes_one, may_pass, PassedOn, names_passed_on, namespace_passed_on, WithoutExport, export_leaves, leaves_behind, PassesIn, passes_here, passes_behind, PassedExports, exports_pass}
use Rattle.steps.specs.Allowed.Places.{has_node}
use Rattle.steps.proofs.Owed.ExposedBare.{bare_below}
use Rattle.headline.proofs.RenotedImports.{names_bare, as_node, as_nothing, as_import}
use Rattle.headline.proofs.RenotedSites.{free_as}

-- ---- whether an import's names pass

node_bare : (t : Forest) → has_node (bare t) ≡ has_node t
node_bare nothing = refl
node_bare (absent r) = node_bare r
node_bare (node k n b r) = refl

lists_bare : (t : Forest) (x : List ℕ) → lists (bare t) x ≡ lists t x
lists_bare nothing x = refl
lists_bare (absent r) x = lists_bare r x
lists_bare (node k n (node (reference_name y) m b s) r) x = ap (λ z. bytes_eq y x || z) (lists_bare r x)
lists_bare (node k n (node l m b s) r) x = lists_bare r x
lists_bare (node k n (absent s) r) x = lists_bare r x
lists_bare (node k n nothing r) x = lists_bare r x

each_bare : (listed names : Forest) → lists_each (bare listed) (bare names) ≡ lists_each listed names
each_bare listed nothing = refl
each_bare listed (absent r) = each_bare listed r
each_bare listed (node k n (node (binding_name x) m b s) r) = ap₂ (λ y z. y && z) (lists_bare listed x) (each_bare listed r)
each_bare listed (node k n (node l m b s) r) = each_bare listed r
each_bare listed (node k n (absent s) r) = each_bare listed r
each_bare listed (node k n nothing r) = each_bare listed r

may_bare : (names listed : Forest) → may_pass (bare names) (bare listed) ≡ may_pass names listed
may_bare names listed =
    ap (λ x. x && (are_names (bare names) && lists_each (bare listed) (bare names))) (node_bare names) ∙ ap₂ (λ x y. has_node names && (x && y)) (names_bare names) (each_bare listed names)

may_as : (names listed old gone : Forest) → bare old ≡ bare names → bare gone ≡ bare listed → may_pass names listed ≡ true → may_pass old gone ≡ true
may_as names listed old gone is be h = sym (may_bare old gone) ∙ ap₂ may_pass is be ∙ may_bare names listed ∙ h

-- ---- a name that stands in another node

record AsOne (f : Forest) (k l : Kind) (r : Forest) : Type 0 where
  note : Note
  name_note : Note
  rest : Forest
  is : f ≡ node k note (node l name_note nothing nothing) rest
  same_rest : bare rest ≡ r

as_one : (f : Forest) (k l : Kind) (r : Forest) → bare f ≡ node k nowhere (node l nowhere nothing nothing) r → AsOne f k l r
as_one f k l r e =
    let o = as_node f k (node l nowhere nothing nothing) r e in
    let q = as_node o.below l nothing nothing o.same_below in
    record {
      note = o.note;
      name_note = q.note;
      rest = o.rest;
      is = o.is ∙ ap (λ b. node k o.note b o.rest) (q.is ∙ ap₂ (node l q.note) (as_nothing q.below q.same_below) (as_nothing q.rest q.same_rest));
      same_rest = o.same_rest;
    }

-- ---- what it becomes

binds_as : {names : Forest} {x : List ℕ} {imported : ModuleName} → Binds names x imported → (f : Forest) → bare f ≡ bare names → Binds f x imported
binds_as (binds_export imported n m x rest exact) f e =
    let o = as_one f (import_specifier imported) (binding_name x) (bare rest) e in
    subst (λ t. Binds t x imported) (sym o.is) (binds_export imported o.note o.name_note x o.rest exact)
binds_as {imported = imported} (binds_default n m x rest) f e =
    let o = as_one f import_default_specifier (binding_name x) (bare rest) e in
    subst (λ t. Binds t x imported) (sym o.is) (binds_default o.note o.name_note x o.rest)
binds_as (binds_behind k n below rest x imported h) f e =
    let o = as_node f k (bare below) (bare rest) e in
    subst (λ t. Binds t x imported) (sym o.is) (binds_behind k o.note o.below o.rest x imported (binds_as h o.rest o.same_rest))

module _ (names old : Forest) (is : bare old ≡ bare names) where
  passes_as : {listed passed : Forest} → Passes names listed passed → (f : Forest) → bare f ≡ bare listed → (p : Forest) × Passes old f p
  passes_as passes_none f e = subst (λ t. (p : Forest) × Passes old t p) (sym (as_nothing f e)) (nothing, passes_none)
  passes_as (passes_one exported imported n m i x rest passed binds more) f e =
      let o = as_one f (export_specifier exported) (reference_name x) (bare rest) e in
      let w = passes_as more o.rest o.same_rest in
      subst (λ t. (p : Forest) × Passes old t p) (sym o.is) (_, passes_one exported imported o.note o.name_note i x o.rest w.0 (binds_as binds old is) w.1)

record On (source : List ℕ) (names listed : Forest) : Type 0 where
  kind : Kind
  below : Forest
  on : PassedOn source names listed kind below

on_as : {source : List ℕ} {names listed below : Forest} {k : Kind} → PassedOn source names listed k below → (old gone : Forest) → bare old ≡ bare names → bare gone ≡ bare listed → On source old gone
on_as {source = source} (names_passed_on names listed passed j may h) old gone is be =
    let w = passes_as names old is h gone be in
    record { kind = export_named_declaration (Some source); below = absent (node specifiers j w.0 nothing); on = names_passed_on old gone w.0 j (may_as names listed old gone is be may) w.1 }
on_as {source = source} (namespace_passed_on exported n m i j x) old gone is be =
    let a = as_one old import_namespace_specifier (binding_name x) nothing is in
    let b = as_one gone (export_specifier exported) (reference_name x) nothing be in
    let names_are : old ≡ node import_namespace_specifier a.note (node (binding_name x) a.name_note nothing nothing) nothing = a.is ∙ ap (node import_namespace_specifier a.note (node (binding_name x) a.name_note nothing nothing)) (as_nothing a.rest a.same_rest) in
    let listed_are : gone ≡ node (export_specifier exported) b.note (node (reference_name x) b.name_note nothing nothing) nothing = b.is ∙ ap (node (export_specifier exported) b.note (node (reference_name x) b.name_note nothing nothing)) (as_nothing b.rest b.same_rest) in
    subst (λ t. On source t gone) (sym names_are)
    (subst (λ t. On source (node import_namespace_specifier a.note (node (binding_name x) a.name_note nothing nothing) nothing) t) (sym listed_are)
    (record { kind = export_all_declaration (Some exported) source; below = nothing; on = namespace_passed_on exported a.note a.name_note b.note b.name_note x }))

-- ---- lists

record AsExport (f : Forest) (listed r : Forest) : Type 0 where
  note : Note
  list_note : Note
  listed_there : Forest
  rest : Forest
  is : f ≡ node (export_named_declaration None) note (absent (node specifiers list_note listed_there nothing)) rest
  same_listed : bare listed_there ≡ listed
  same_rest : bare rest ≡ r

as_absent : (f g : Forest) → bare f ≡ absent g → (h : Forest) × (f ≡ absent h) × (bare h ≡ g)
as_absent nothing g e = absurd cc
as_absent (absent s) g e = (s, refl, cc e)
as_absent (node k n b s) g e = absurd cc

as_export : (f : Forest) (listed r : Forest) → bare f ≡ node (export_named_declaration None) nowhere (absent (node specifiers nowhere listed nothing)) r → AsExport f listed r
as_export f listed r e =
    let o = as_node f (export_named_declaration None) (absent (node specifiers nowhere listed nothing)) r e in
    let a = as_absent o.below (node specifiers nowhere listed nothing) o.same_below in
    let l = as_node a.0 specifiers listed nothing a.2 in
    record {
      note = o.note;
      list_note = l.note;
      listed_there = l.below;
      rest = o.rest;
      is = o.is ∙ ap (λ b. node (export_named_declaration None) o.note b o.rest) (a.1 ∙ ap absent (l.is ∙ ap (node specifiers l.note l.below) (as_nothing l.rest l.same_rest)));
      same_listed = l.same_below;
      same_rest = o.same_rest;
    }

record Without (listed left f : Forest) : Type 0 where
  gone : Forest
  rest : Forest
  same : bare gone ≡ bare listed
  same_left : bare rest ≡ bare left
  out : WithoutExport gone f rest

without_as : {listed r s : Forest} → WithoutExport listed r s → (f : Forest) → bare f ≡ bare r → Without listed s f
without_as {listed = listed} (export_leaves n m rest) f e =
    let o = as_export f (bare listed) (bare rest) e in
    subst (λ t. Without listed rest t) (sym o.is) (record { gone = o.listed_there; rest = o.rest; same = o.same_listed; same_left = o.same_rest; out = export_leaves o.note o.list_note o.rest })
without_as {listed = listed} (leaves_behind k n b r s out) f e =
    let o = as_node f k (bare b) (bare r) e in
    let w = without_as out o.rest o.same_rest in
    subst (λ t. Without listed (node k n b s) t) (sym o.is)
    (record { gone = w.gone; rest = node k o.note o.below w.rest; same = w.same; same_left = ap₂ (node k nowhere) o.same_below w.same_left; out = leaves_behind k o.note o.below o.rest w.rest w.out })

record Passing (names left f : Forest) : Type 0 where
  names_there : Forest
  left_there : Forest
  now : Forest
  same_names : bare names_there ≡ bare names
  same_left : bare left_there ≡ bare left
  passes : PassesIn names_there f left_there now

passing_as : {names r s z : Forest} → PassesIn names r s z → (f : Forest) → bare f ≡ bare r → Passing names s f
passing_as {names = names} (passes_here source n m i listed k below r s on out) f e =
    let o = as_import f source (bare names) (bare r) e in
    let w = without_as out o.rest o.same_rest in
    let p = on_as on o.names_there w.gone o.same_names w.same in
    subst (λ t. Passing names (node (import_declaration source) n (node specifiers m names nothing) s) t) (sym o.is)
    (record {
      names_there = o.names_there;
      left_there = node (import_declaration source) o.note (node specifiers o.list_note o.names_there nothing) w.rest;
      now = node p.kind i p.below w.rest;
      same_names = o.same_names;
      same_left = ap₂ (λ t u. node (import_declaration source) nowhere (node specifiers nowhere t nothing) u) o.same_names w.same_left;
      passes = passes_here source o.note o.list_note i w.gone p.kind p.below o.rest w.rest p.on w.out;
    })
passing_as {names = names} (passes_behind k n b r s z h) f e =
    let o = as_node f k (bare b) (bare r) e in
    let g = passing_as h o.rest o.same_rest in
    subst (λ t. Passing names (node k n b s) t) (sym o.is)
    (record {
      names_there = g.names_there;
      left_there = node k o.note o.below g.left_there;
      now = node k o.note o.below g.now;
      same_names = g.same_names;
      same_left = ap₂ (node k nowhere) o.same_below g.same_left;
      passes = passes_behind k o.note o.below o.rest g.left_there g.now g.passes;
    })

-- ---- nothing refers to the names

module _ (v : Forest) where
  to_bare : (names : Forest) → AreFree v names → AreFree v (bare names)
  to_bare nothing h = tt
  to_bare (absent r) h = to_bare r h
  to_bare (node k n (node (binding_name x) m b s) r) h = (h.0, to_bare r h.1)
  to_bare (node k n (node l m b s) r) h = to_bare r h
  to_bare (node k n (absent s) r) h = to_bare r h
  to_bare (node k n nothing r) h = to_bare r h

  from_bare : (names : Forest) → AreFree v (bare names) → AreFree v names
  from_bare nothing h = tt
  from_bare (absent r) h = from_bare r h
  from_bare (node k n (node (binding_name x) m b s) r) h = (h.0, from_bare r h.1)
  from_bare (node k n (node l m b s) r) h = from_bare r h
  from_bare (node k n (absent s) r) h = from_bare r h
  from_bare (node k n nothing r) h = from_bare r h

free_all : (v w : Forest) → ((b : Binding) → IsFree v b → IsFree w b) → (names : Forest) → AreFree v names → AreFree w names
free_all v w f nothing h = tt
free_all v w f (absent r) h = free_all v w f r h
free_all v w f (node k n (node (binding_name x) m b s) r) h = (f _ h.0, free_all v w f r h.1)
free_all v w f (node k n (node l m b s) r) h = free_all v w f r h
free_all v w f (node k n (absent s) r) h = free_all v w f r h
free_all v w f (node k n nothing r) h = free_all v w f r h

-- ---- and programs

pub passed_as : (t u v : Forest) → bare t ≡ bare u → PassedExports u v → (w : Forest) × PassedExports t w
passed_as t _ _ e (exports_pass n m names r s z h free quiet) =
    let o = as_node t (program source_type.Module) (node statements nowhere (bare r) nothing) nothing e in
    let l = as_node o.below statements (bare r) nothing o.same_below in
    let is : t ≡ module_of o.note l.note l.below =
    o.is ∙ ap₂ (node (program source_type.Module) o.note) (l.is ∙ ap (node statements l.note l.below) (as_nothing l.rest l.same_rest)) (as_nothing o.rest o.same_rest) in
    let g = passing_as h l.below l.same_below in
    let old = module_of n m s in
    let left = module_of o.note l.note g.left_there in
    let same : bare left ≡ bare old = ap (λ b. node (program source_type.Module) nowhere (node statements nowhere b nothing) nothing) g.same_left in
    let still : AreFree left g.names_there = from_bare left g.names_there (subst (λ b. AreFree left b) (sym g.same_names) (to_bare left names (free_all old left (free_as left old same) names free))) in
    let shut : evaluates_somewhere (module_of o.note l.note l.below) ≡ false = unseen evaluates_somewhere bare_below (module_of o.note l.note l.below) (module_of n m r) (sym (ap bare is) ∙ e) ∙ quiet in
    subst (λ y. (w : Forest) × PassedExports y w) (sym is) (module_of o.note l.note g.now, exports_pass o.note l.note g.names_there l.below g.left_there g.now g.passes still shut)
