-- What is unused by the table may leave.
use Rattle.std.proofs.Common.{◌≡◌, ◌∙◌, ◌+◌, ◌==◌, inl, ℕ, suc, List, [], ◌++◌, Bool, true, false, if◌then◌else◌, ◌&&◌, ◌||◌, Option, Some, true≢false, refl, sym, subst}
use Rattle.js_syntax.specs.declared.node_kind.NodeKind.TheVariants.{Function as function, VariableDeclaration as variable_declaration, VariableDeclarator as variable_declarator, Declarators as declarators, BindingName as binding_name}
use Rattle.js_syntax.specs.declared.kind.FunctionKind.TheVariants as function_kind
use Rattle.js_syntax.specs.declared.kind.VariableKind.{VariableKind}
use Rattle.js_syntax.specs.declared.kind.VariableKind.TheVariants as variable
use Rattle.js_syntax.specs.Node.{Forest, Tree, Note, nothing, node, absent}
use Rattle.min_pass.specs.Around.{is_with}
use Rattle.scope_rules.specs.Context.{Context, inside, outermost}
use Rattle.scope_rules.specs.Site.{Site, BindingSite, own_sites, opens_one, scope_count, sites, sites_of, bindings_among}
use Rattle.scope_rules.specs.Binding.{named_in, declared_by}
use Rattle.scope_rules.specs.ScopeFlags as scope_flag
use Rattle.scope_rules.specs.Table.{Scoping}
use Rattle.scope_laws.specs.Exact.{Among}
use Rattle.scope_laws.specs.Place.{Around, first, behind, behind_none, under, one_place, plug, there}
use Rattle.scope_laws.specs.Lists.{without}
use Rattle.scope_laws.proofs.Around.{stands_there}
use Rattle.scope_counts.specs.Losing.{MarksWhatLeft, Prunes}
use Rattle.scope_counts.specs.Scopes.{unmarked}
use Rattle.scope_counts.proofs.Tables.{marks_may_go}
use Rattle.js_syntax.specs.Class.{root}
use Rattle.json_shape.specs.Shape.{Fits}
use Rattle.scope_rules.specs.Site.{found_in}
use Rattle.scope_rules.specs.Mark.{marked, first_marks}
use Rattle.scope_rules.specs.Table.{scoping_of, symbols_declared}
use Rattle.scope_table.specs.Reading.{scope_at}
use Rattle.scope_laws.proofs.Marking.{bare_marked}
use Rattle.steps.proofs.Owed.FitsEdits.{renoted_fits}
use Rattle.steps.proofs.Marked.Numbered.{marked_told}
use Rattle.steps.specs.Naming.Standing.{is_export, exported_declarations}
use Rattle.steps.proofs.Naming.Sites.{InThree, in_first, in_second, in_third, binding_in, binding_left, binding_second, binding_third}
use Rattle.steps.specs.Allowed.Silent.{HoldsThere}
use Rattle.steps.specs.Allowed.Places.{in_class_at, IsItem, IsDeclarator, has_other, At}
use Rattle.steps.specs.Allowed.Free.{IsFree, Free, FreeDeclarator}
use Rattle.steps.specs.Allowed.UnusedFunction.{a_function, unused_function_leaves}
use Rattle.steps.specs.Allowed.UnusedDeclarator.{SilentDeclarator, a_declarator, unused_declarator_leaves}
use Rattle.steps.specs.Allowed.UnusedDeclaration.{SilentDeclaration, one_declarator, a_declaration, unused_declaration_leaves}
use Rattle.steps.specs.Allowed.Exposure.{is_script, evaluates_somewhere}
use Rattle.steps.specs.Allowed.Edits.{Edit, leaves, unused_function, unused_declarator, unused_declaration, TreeEdits}
use Rattle.steps.proofs.Owed.FitsEdits.{tree_edits_fit}
use Rattle.steps.proofs.Owed.Pruning.{pruned, prunes}
use Rattle.steps.proofs.Owed.Unseen.{layer_below}
use Rattle.steps.specs.Marked.Flags.{scope_has, is_sloppy_block, declares_in, stand}
use Rattle.steps.specs.Marked.Told.{KnowsExports, IsTold, IsUnused}
use Rattle.steps.proofs.Marked.Tables.{pruned_exact, edits_keep_marked, new_exact}
use Rattle.steps.proofs.Marked.Telling.{edits_told, flags_alone, function_hidden, declarator_hidden, declaration_hidden}
use Rattle.steps.proofs.Marked.Referring.{unreferred}
use Rattle.steps.proofs.Marked.Unexporting.{collected, all_collected, exports_collected, edits_export}

pub told_stays : (t u : Forest) → TreeEdits t u → (s : Scoping) (before after exported : ℕ → Bool) → MarksWhatLeft before t u after → IsTold s before exported t → IsTold s after exported u
told_stays t u edits s before after exported marks h = record {
  fits = tree_edits_fit t u edits h.fits;
  lists = edits_keep_marked t u edits h.fits s before after marks h.lists;
  flags = edits_told s t u edits h.fits h.flags;
  exports = λ d stands top symbol is. let w = edits_export t u edits h.fits d stands top in h.exports w.declaration w.stands w.is_outermost symbol (w.same_mark ∙ is);
}

pub told_first : (t : Forest) → Fits root t → (exported : ℕ → Bool) →
    let f = found_in (sites_of t) in
    let now = marked (first_marks (symbols_declared f.bindings)) t in
    KnowsExports exported now → IsTold (scoping_of f) unmarked exported now
told_first t fits exported known =
    let m = first_marks (symbols_declared (found_in (sites_of t)).bindings) in
    record { fits = renoted_fits t (marked m t) (sym (bare_marked m t)) fits; lists = new_exact t fits; flags = marked_told t fits; exports = known }

pub told_pruned : (t : Forest) (before now : Scoping) (marked exported : ℕ → Bool) → Prunes marked before now → ((n : ℕ) → (scope_at now n).flags ≡ (scope_at before n).flags) → IsTold before marked exported t → IsTold now unmarked exported t
told_pruned t before now marked exported prune same h = record { fits = h.fits; lists = marks_may_go marked before now t prune h.lists; flags = flags_alone t before now same h.flags; exports = h.exports }

-- ---- exported declarations are declarations

all_of : (all : Bool) (cs : ℕ → Context) (at next : ℕ) (t : Forest) (b : BindingSite) → Among b (bindings_among (collected all cs at next t)) → Among b (bindings_among (collected true cs at next t))
all_of all cs at next nothing b h = absurd h
all_of all cs at next (absent rest) b h = all_of all cs (suc at) next rest b h
all_of all cs at next (node k n below rest) b h =
    by all (binding_in b (if all then own_sites (cs at) n k below else []) (collected (all || is_export k) (inside (cs at) next k below) 0 (next + opens_one k below) below) (collected all cs (suc at) (next + scope_count (node k n below nothing)) rest) h)
    (λ g. all_of (all || is_export k) (inside (cs at) next k below) 0 (next + opens_one k below) below b g) (λ g. all_of all cs (suc at) (next + scope_count (node k n below nothing)) rest b g)
  where
    by : (a : Bool) → InThree b (bindings_among (if a then own_sites (cs at) n k below else [])) (bindings_among (collected (all || is_export k) (inside (cs at) next k below) 0 (next + opens_one k below) below))
        (bindings_among (collected all cs (suc at) (next + scope_count (node k n below nothing)) rest))
        → (Among b (bindings_among (collected (all || is_export k) (inside (cs at) next k below) 0 (next + opens_one k below) below)) → Among b (bindings_among (collected true (inside (cs at) next k below) 0 (next + opens_one k below) below)))
        → (Among b (bindings_among (collected all cs (suc at) (next + scope_count (node k n below nothing)) rest)) → Among b (bindings_among (collected true cs (suc at) (next + scope_count (node k n below nothing)) rest)))
        → Among b (bindings_among (collected true cs at next (node k n below rest)))
    by true (in_first g) f l =
        binding_left b (own_sites (cs at) n k below ++ collected true (inside (cs at) next k below) 0 (next + opens_one k below) below) (collected true cs (suc at) (next + scope_count (node k n below nothing)) rest)
        (binding_left b (own_sites (cs at) n k below) (collected true (inside (cs at) next k below) 0 (next + opens_one k below) below) g)
    by false (in_first g) f l = absurd g
    by a (in_second g) f l = binding_second b (own_sites (cs at) n k below) (collected true (inside (cs at) next k below) 0 (next + opens_one k below) below) (collected true cs (suc at) (next + scope_count (node k n below nothing)) rest) (f g)
    by a (in_third g) f l = binding_third b (own_sites (cs at) n k below) (collected true (inside (cs at) next k below) 0 (next + opens_one k below) below) (collected true cs (suc at) (next + scope_count (node k n below nothing)) rest) (l g)

exported_stands : (t : Forest) (b : BindingSite) → Among b (exported_declarations t) → Among b (bindings_among (sites_of t))
exported_stands t b h =
    subst (λ ss. Among b (bindings_among ss)) (all_collected (λ at. outermost) 0 0 t)
    (all_of false (λ at. outermost) 0 0 t b (subst (λ ss. Among b (bindings_among ss)) (sym (exports_collected (λ at. outermost) 0 0 t)) h))

-- ---- what is unused is free

module _ (s : Scoping) (marked exported : ℕ → Bool) where
  free : (t : Forest) → IsTold s marked exported t → (symbol : ℕ) → IsUnused s marked exported symbol → (d : BindingSite) → Among d (bindings_among (sites_of t)) → d.id ≡ Some symbol → IsFree t (declared_by d)
  free t h symbol unused d stands is =
      let exact = pruned_exact t h.fits marked s (pruned marked s) (prunes marked s) h.lists in
      record {
        unreferred = unreferred t h.fits s marked h.lists d stands symbol is unused.listed;
        unexported = λ e there top same. true≢false (sym (h.exports e there top symbol ((exact.one_symbol e d (exported_stands t e there) stands).1 same ∙ is)) ∙ unused.unexported);
      }

abbrev AllDeclared : List BindingSite → List Site → Type 0
AllDeclared all ss = (b : BindingSite) → Among b (bindings_among ss) → Among b all

holds_of_declared : (all : List BindingSite) (x : Option Tree) (holds : Bool → Context → ℕ → Type 0) (in_with : Bool) (cs : ℕ → Context) (at next : ℕ) (a : Around) → AllDeclared all (there cs at next a x)
    → ((w : Bool) (ds : ℕ → Context) (place before : ℕ) → AllDeclared all (sites ds place before (one_place x)) → holds w (ds place) before) → HoldsThere in_with cs at next a x holds
holds_of_declared all x holds in_with cs at next (first rest) m by = by in_with cs at next m
holds_of_declared all x holds in_with cs at next (behind k n below a) m by = holds_of_declared all x holds in_with cs (suc at) (next + scope_count (node k n below nothing)) a m by
holds_of_declared all x holds in_with cs at next (behind_none a) m by = holds_of_declared all x holds in_with cs (suc at) next a m by
holds_of_declared all x holds in_with cs at next (under k n a rest) m by = holds_of_declared all x holds (in_with || is_with k) (inside (cs at) next k (plug a x)) 0 (next + opens_one k (plug a x)) a m by

-- the site of the name that a row begins with
abbrev named_site : Context → Note → List ℕ → BindingSite
named_site c m x = record { id = m.id; name = x; layer = c.declaring.layer; flags = c.declaring.flags; is_pure = c.declaring.is_pure; span = m.span }

module _ (s : Scoping) (marked exported : ℕ → Bool) (a : Around) where
  pub function_leaves : (pure : Bool) (n m : Note) (x : List ℕ) (rest : Forest) → IsTold s marked exported (plug a (a_function pure n m x rest)) → IsItem a → (symbol : ℕ) → m.id ≡ Some symbol → IsUnused s marked exported symbol
      → (scope : ℕ) → (stand a (a_function pure n m x rest)).scope ≡ Some scope → is_script (plug a (a_function pure n m x rest)) && scope == 0 ≡ false → scope_has s scope scope_flag.direct_eval ≡ false
      → is_sloppy_block s scope ≡ false → Edit (plug a (a_function pure n m x rest)) (without a)
  function_leaves pure n m x rest h item symbol is unused scope here own evaluates sloppy =
      let y = a_function pure n m x rest in
      let v = plug a y in
      let below = node (binding_name x) m nothing rest in
      leaves a _ (unused_function (unused_function_leaves pure n m x rest item (function_hidden a _ s h.flags scope here own evaluates sloppy)
      (holds_of_declared (bindings_among (sites_of v)) y (Free v variable.Let x) false (λ at. outermost) 0 0 a (stands_there a y)
      (λ w cs place next all.
      let fs = inside (cs place) next (function function_kind.Declaration pure) below in
      let d = named_site (fs 0) m x in
      free s marked exported v h symbol unused d (all d (binding_second d (own_sites (cs place) n (function function_kind.Declaration pure) below) (sites fs 0 (next + 1) below) [] (inl refl))) is))))

  pub declarator_leaves : (n m : Note) (x : List ℕ) (value : Forest) → IsTold s marked exported (plug a (a_declarator n m x value)) → IsDeclarator a → has_other false a ≡ true
      → At a (a_declarator n m x value) (SilentDeclarator (plug a (a_declarator n m x value)) (node (binding_name x) m nothing value) (in_class_at a)) → (symbol : ℕ) → m.id ≡ Some symbol → IsUnused s marked exported symbol
      → (scope : ℕ) → (stand a (a_declarator n m x value)).declaring ≡ Some scope → is_script (plug a (a_declarator n m x value)) && scope == 0 ≡ false → evaluates_somewhere (plug a (a_declarator n m x value)) ≡ false
      → Edit (plug a (a_declarator n m x value)) (without a)
  declarator_leaves n m x value h declarator other silent symbol is unused scope here own evaluates =
      let y = a_declarator n m x value in
      let v = plug a y in
      let below = node (binding_name x) m nothing value in
      leaves a _ (unused_declarator (unused_declarator_leaves n m x value declarator other (declarator_hidden a _ s h.flags scope here own evaluates) silent
      (holds_of_declared (bindings_among (sites_of v)) y (FreeDeclarator v x) false (λ at. outermost) 0 0 a (stands_there a y)
      (λ w cs place next all.
      let fs = inside (cs place) next variable_declarator below in
      let d = named_site (fs 0) m x in
      free s marked exported v h symbol unused d (all d (binding_second d (own_sites (cs place) n variable_declarator below) (sites fs 0 (next + 0) below) [] (inl refl))) is))))

  pub declaration_leaves : (how : VariableKind) (n m l j : Note) (x : List ℕ) (value : Forest) → IsTold s marked exported (plug a (a_declaration how n m l j x value)) → IsItem a
      → At a (a_declaration how n m l j x value) (SilentDeclaration (plug a (a_declaration how n m l j x value)) how m l (node (binding_name x) j nothing value) (in_class_at a)) → (symbol : ℕ) → j.id ≡ Some symbol → IsUnused s marked exported symbol
      → (scope : ℕ) → declares_in (stand a (a_declaration how n m l j x value)) how ≡ Some scope → is_script (plug a (a_declaration how n m l j x value)) && scope == 0 ≡ false
      → evaluates_somewhere (plug a (a_declaration how n m l j x value)) ≡ false → Edit (plug a (a_declaration how n m l j x value)) (without a)
  declaration_leaves how n m l j x value h item silent symbol is unused scope here own evaluates =
      let y = a_declaration how n m l j x value in
      let v = plug a y in
      let below = node (binding_name x) j nothing value in
      let ds = node variable_declarator l below nothing in
      let whole = one_declarator m l below in
      leaves a _ (unused_declaration (unused_declaration_leaves how n m l j x value item (declaration_hidden how a _ s h.flags scope here own evaluates) silent
      (holds_of_declared (bindings_among (sites_of v)) y (Free v how x) false (λ at. outermost) 0 0 a (stands_there a y)
      (λ w cs place next all.
      let outer = inside (cs place) next (variable_declaration how) whole in
      let list = inside (outer 0) (next + 0) declarators ds in
      let fs = inside (list 0) (next + 0 + 0) variable_declarator below in
      let d = named_site (fs 0) j x in
      let stands = binding_second d (own_sites (cs place) n (variable_declaration how) whole) (sites outer 0 (next + 0) whole) []
      (binding_second d (own_sites (outer 0) m declarators ds) (sites list 0 (next + 0 + 0) ds) []
      (binding_second d (own_sites (list 0) l variable_declarator below) (sites fs 0 (next + 0 + 0 + 0) below) [] (inl refl))) in
      subst (λ r. IsFree v (named_in x r)) (layer_below (cs place) how) (free s marked exported v h symbol unused d (all d stands) is)))))
