-- Whether imports of a program may come together doesn't see notes.
use Rattle.std.proofs.Common.{◌≡◌, ◌∙◌, ℕ, ◌+◌, ◌==◌, List, Bool, true, false, ◌&&◌, ◌||◌, nat_le, if◌then◌else◌, refl, sym, ap, ap₂, subst}
use Rattle.js_syntax.specs.declared.node_kind.NodeKind.{NodeKind as Kind}
use Rattle.js_syntax.specs.declared.node_kind.NodeKind.TheVariants.{Program as program, Statements as statements, ImportDeclaration as import_declaration, Specifiers as specifiers, BindingName as binding_name}
use Rattle.js_syntax.specs.declared.scalar.SourceType.TheVariants as source_type
use Rattle.js_syntax.specs.Node.{Forest, Note, nothing, node, absent, nowhere, bare, joined}
use Rattle.scope_laws.proofs.Notes.{unseen}
use Rattle.js_meaning_near.specs.Near.{module_of}
use Rattle.steps.specs.Steps.{binds_import}
use Rattle.steps.specs.Allowed.Exposure.{evaluates_somewhere}
use Rattle.steps.specs.Allowed.MergedImports.{is_one_name, are_names, is_default, is_namespace, is_named, how_many, go_together, may_merge, WithoutImport, import_leaves, leaves_behind, MergesIn, merges_here, merges_behind, MergedImports, imports_merge}
use Rattle.steps.proofs.Owed.ExposedBare.{bare_below}

-- ---- names

one_bare : (t : Forest) → is_one_name (bare t) ≡ is_one_name t
one_bare (node (binding_name x) n nothing nothing) = refl
one_bare (node (binding_name x) n nothing (absent r)) = refl
one_bare (node (binding_name x) n nothing (node k m b r)) = refl
one_bare (node (binding_name x) n (absent r) s) = refl
one_bare (node (binding_name x) n (node k m b r) s) = refl
one_bare (node k n b r) = refl
one_bare (absent r) = refl
one_bare nothing = refl

pub names_bare : (t : Forest) → are_names (bare t) ≡ are_names t
names_bare nothing = refl
names_bare (absent r) = refl
names_bare (node k n b r) = ap₂ (λ x y. binds_import k && (x && y)) (one_bare b) (names_bare r)

joined_bare : (t u : Forest) → bare (joined t u) ≡ joined (bare t) (bare u)
joined_bare nothing u = refl
joined_bare (absent r) u = ap absent (joined_bare r u)
joined_bare (node k n b r) u = ap (node k nowhere (bare b)) (joined_bare r u)

many_bare : (test : Kind → Bool) (t : Forest) → how_many test (bare t) ≡ how_many test t
many_bare test nothing = refl
many_bare test (absent r) = many_bare test r
many_bare test (node k n b r) = ap (λ m. (if test k then 1 else 0) + m) (many_bare test r)

go_bare : (t : Forest) → go_together (bare t) ≡ go_together t
go_bare t =
    ap₂ (λ (m n : ℕ). m == 0 || (m == 1 && (n == 0 && nat_le (how_many is_default (bare t)) 1))) (many_bare is_namespace t) (many_bare is_named t)
    ∙ ap (λ (m : ℕ). how_many is_namespace t == 0 || (how_many is_namespace t == 1 && (how_many is_named t == 0 && nat_le m 1))) (many_bare is_default t)

merge_bare : (names later : Forest) → may_merge (bare names) (bare later) ≡ may_merge names later
merge_bare names later =
    ap₂ (λ x y. x && (y && go_together (joined (bare names) (bare later)))) (names_bare names) (names_bare later)
    ∙ ap (λ x. are_names names && (are_names later && x)) (sym (ap go_together (joined_bare names later)) ∙ go_bare (joined names later))

merge_as : (names later old gone : Forest) → bare old ≡ bare names → bare gone ≡ bare later → may_merge names later ≡ true → may_merge old gone ≡ true
merge_as names later old gone is be h = sym (merge_bare old gone) ∙ ap₂ may_merge is be ∙ merge_bare names later ∙ h

-- ---- nodes that differ in notes alone

pub record AsNode (f : Forest) (k : Kind) (b r : Forest) : Type 0 where
  pub note : Note
  pub below : Forest
  pub rest : Forest
  pub is : f ≡ node k note below rest
  pub same_below : bare below ≡ b
  pub same_rest : bare rest ≡ r

pub as_node : (f : Forest) (k : Kind) (b r : Forest) → bare f ≡ node k nowhere b r → AsNode f k b r
as_node nothing k b r e = absurd cc
as_node (absent s) k b r e = absurd cc
as_node (node l n c s) k b r e =
    let kinds : l ≡ k = cc e in
    record { note = n; below = c; rest = s; is = ap (λ z. node z n c s) kinds; same_below = cc e; same_rest = cc e }

pub as_nothing : (f : Forest) → bare f ≡ nothing → f ≡ nothing
as_nothing nothing e = refl
as_nothing (absent s) e = absurd cc
as_nothing (node k n b s) e = absurd cc

-- an import with its list
pub record AsImport (f : Forest) (source : List ℕ) (names r : Forest) : Type 0 where
  pub note : Note
  pub list_note : Note
  pub names_there : Forest
  pub rest : Forest
  pub is : f ≡ node (import_declaration source) note (node specifiers list_note names_there nothing) rest
  pub same_names : bare names_there ≡ names
  pub same_rest : bare rest ≡ r

pub as_import : (f : Forest) (source : List ℕ) (names r : Forest) → bare f ≡ node (import_declaration source) nowhere (node specifiers nowhere names nothing) r → AsImport f source names r
as_import f source names r e =
    let o = as_node f (import_declaration source) (node specifiers nowhere names nothing) r e in
    let l = as_node o.below specifiers names nothing o.same_below in
    record {
      note = o.note;
      list_note = l.note;
      names_there = l.below;
      rest = o.rest;
      is = o.is ∙ ap (λ b. node (import_declaration source) o.note b o.rest) (l.is ∙ ap (node specifiers l.note l.below) (as_nothing l.rest l.same_rest));
      same_names = l.same_below;
      same_rest = o.same_rest;
    }

-- ---- lists

record Without (source : List ℕ) (names f : Forest) : Type 0 where
  gone : Forest
  left : Forest
  same : bare gone ≡ bare names
  out : WithoutImport source gone f left

without_as : {source : List ℕ} {names r s : Forest} → WithoutImport source names r s → (f : Forest) → bare f ≡ bare r → Without source names f
without_as {source = source} {names = names} (import_leaves n m rest) f e =
    let o = as_import f source (bare names) (bare rest) e in
    subst (λ t. Without source names t) (sym o.is) (record { gone = o.names_there; left = o.rest; same = o.same_names; out = import_leaves o.note o.list_note o.rest })
without_as {source = source} {names = names} (leaves_behind k n b r s out) f e =
    let o = as_node f k (bare b) (bare r) e in
    let w = without_as out o.rest o.same_rest in
    subst (λ t. Without source names t) (sym o.is) (record { gone = w.gone; left = node k o.note o.below w.left; same = w.same; out = leaves_behind k o.note o.below o.rest w.left w.out })

record Merging (f : Forest) : Type 0 where
  left : Forest
  merges : MergesIn f left

merges_as : {r s : Forest} → MergesIn r s → (f : Forest) → bare f ≡ bare r → Merging f
merges_as (merges_here source n m names later r s may out) f e =
    let o = as_import f source (bare names) (bare r) e in
    let w = without_as out o.rest o.same_rest in
    subst Merging (sym o.is) (record { left = _; merges = merges_here source o.note o.list_note o.names_there w.gone o.rest w.left (merge_as names later o.names_there w.gone o.same_names w.same may) w.out })
merges_as (merges_behind k n b r s h) f e =
    let o = as_node f k (bare b) (bare r) e in
    let g = merges_as h o.rest o.same_rest in
    subst Merging (sym o.is) (record { left = node k o.note o.below g.left; merges = merges_behind k o.note o.below o.rest g.left g.merges })

-- ---- and programs

pub merged_as : (t u v : Forest) → bare t ≡ bare u → MergedImports u v → (w : Forest) × MergedImports t w
merged_as t _ _ e (imports_merge n m r s h quiet) =
    let o = as_node t (program source_type.Module) (node statements nowhere (bare r) nothing) nothing e in
    let l = as_node o.below statements (bare r) nothing o.same_below in
    let is : t ≡ module_of o.note l.note l.below =
    o.is ∙ ap₂ (node (program source_type.Module) o.note) (l.is ∙ ap (node statements l.note l.below) (as_nothing l.rest l.same_rest)) (as_nothing o.rest o.same_rest) in
    let g = merges_as h l.below l.same_below in
    let shut : evaluates_somewhere (module_of o.note l.note l.below) ≡ false = unseen evaluates_somewhere bare_below (module_of o.note l.note l.below) (module_of n m r) (sym (ap bare is) ∙ e) ∙ quiet in
    subst (λ z. (w : Forest) × MergedImports z w) (sym is) (module_of o.note l.note g.left, imports_merge o.note l.note l.below g.left g.merges shut)
