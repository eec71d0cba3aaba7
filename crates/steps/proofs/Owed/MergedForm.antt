-- No rule of form is broken where two imports are one.
use Rattle.std.proofs.Common.{◌≡◌, ◌∙◌, ◌⊎◌, inl, inr, ℕ, suc, ◌+◌, List, [], ◌∷◌, ◌++◌, Bool, true, false, true≢false, ◌&&◌, ◌||◌, bytes_eq, codes, append-nil, refl, sym, ap, ap₂, subst}
use Rattle.std.specs.List.{AllByRecursion}
use Rattle.std.proofs.lemmas.Slice.Eq.{bytes_eq-Decides}
use Rattle.js_tree.specs.Count.{one_each, node_count}
use Rattle.js_syntax.specs.declared.node_kind.NodeKind.{NodeKind as Kind}
use Rattle.js_syntax.specs.declared.node_kind.NodeKind.TheVariants.{Program as program, Directive as directive, Statements as statements, ImportDeclaration as import_declaration, Specifiers as specifiers, BindingName as binding_name}
use Rattle.js_syntax.specs.declared.scalar.SourceType.{SourceType}
use Rattle.js_syntax.specs.declared.scalar.SourceType.TheVariants as source_type
use Rattle.js_syntax.specs.Node.{Forest, Note, nothing, node, absent, alone}
use Rattle.form_rules.specs.declared.rule.Break.{Break}
use Rattle.form_rules.specs.declared.sought.Sort.{Sort}
use Rattle.form_rules.specs.declared.sought.Sort.TheVariants as sort
use Rattle.form_rules.specs.declared.sought.Sort.TheVariants.{Lexical as lexical}
use Rattle.form_rules.specs.declared.sought.Sought.{Sought}
use Rattle.form_rules.specs.declared.sought.Sought.TheVariants.{Nothing as none_sought, Names as names, Bound as bound, Scope as scope, CatchScope as catch_scope}
use Rattle.form_rules.specs.Break.{least, unless}
use Rattle.form_rules.specs.Context as context
use Rattle.form_rules.specs.Context.{Context, has_use_strict, is_module, below_it, inside}
use Rattle.form_rules.specs.Name.{may_be_bound}
use Rattle.form_rules.specs.Scope.{Declared, sought_below, declared_here, declared, clashes_with_any, later_behind, later, clash, both_parameters, variable_of_catch}
use Rattle.form_rules.specs.Rules.{each_breaks, declared_places, at_top, exported_among, repeated_exports, locals_among, is_declared, undeclared, broken_at}
use Rattle.form_rules.specs.Form.{broken_in, broken, IsWellFormed}
use Rattle.js_syntax.proofs.Truth.{neither}
use Rattle.steps.specs.Steps.{binds_import}
use Rattle.steps.specs.KeepForm.Sheds.{items, Around, entered, outermost}
use Rattle.steps.specs.Allowed.MergedImports.{as_named, names_merged, WithoutImport, import_leaves, leaves_behind, MergesIn, merges_here, merges_behind, MergedImports, imports_merge}
use Rattle.steps.proofs.KeepForm.Rows.{itself}
use Rattle.steps.proofs.KeepForm.Rules.{first_empty, second_empty, both_empty, each_kept, no_places, no_names, is_kept}
use Rattle.steps.proofs.KeepForm.Fewer.{Fewer, none, both, beside, or_none, left_out, leave_out, SameName, none_later, none_exported_twice}
use Rattle.steps.proofs.KeepForm.Exports.{FewerExports, exported_by_fewer, exported_fewer, locals_by_fewer, locals_fewer, none_undeclared}
use Rattle.steps.proofs.KeepForm.Form.{form_kept, none_broken}
use Rattle.steps.proofs.Owed.Shuffled.{Shuffled, as_before, further_on, two_change, one_by_one, back}
use Rattle.steps.proofs.Owed.MergedRows.{AreNames, no_names as no_name, a_name, may, merged_are, Reads, merged, reordered}

-- ---- what is declared, wherever it stands

abbrev pub unplaced : List Declared → List Declared
unplaced [] = []
unplaced (d ∷ ds) = record { name = d.name; place = 0; sort = d.sort } ∷ unplaced ds

pub unplaced_joined : (ds es : List Declared) → unplaced (ds ++ es) ≡ unplaced ds ++ unplaced es
unplaced_joined [] es = refl
unplaced_joined (d ∷ ds) es = ap (λ l. record { name = d.name; place = 0; sort = d.sort } ∷ l) (unplaced_joined ds es)

here_anywhere : (s : Sought) (p q : ℕ) (k : Kind) → unplaced (declared_here s p k) ≡ unplaced (declared_here s q k)
here_anywhere (names f) p q (binding_name x) = refl
here_anywhere (bound f) p q (binding_name x) = refl
here_anywhere (catch_scope f) p q (binding_name x) = refl
here_anywhere s p q k = refl

pub anywhere : (s : Sought) (p q : ℕ) (t : Forest) → unplaced (declared s p t) ≡ unplaced (declared s q t)
anywhere s p q nothing = refl
anywhere s p q (absent t) = anywhere s p q t
anywhere s p q (node k n b t) =
    let inner = sought_below s k in
    let before = declared_here s p k ++ declared inner (p + one_each k) b in
    let now = declared_here s q k ++ declared inner (q + one_each k) b in
    unplaced_joined before (declared s (p + node_count (alone k n b)) t)
    ∙ ap₂ (λ xs ys. xs ++ ys)
    (unplaced_joined (declared_here s p k) (declared inner (p + one_each k) b)
    ∙ ap₂ (λ xs ys. xs ++ ys) (here_anywhere s p q k) (anywhere inner (p + one_each k) (q + one_each k) b)
    ∙ sym (unplaced_joined (declared_here s q k) (declared inner (q + one_each k) b)))
    (anywhere s (p + node_count (alone k n b)) (q + node_count (alone k n b)) t)
    ∙ sym (unplaced_joined now (declared s (q + node_count (alone k n b)) t))

pub one_first : (s : Sought) (k : Kind) (n : Note) (b t : Forest) → unplaced (declared s 0 (node k n b t)) ≡ unplaced (declared s 0 (node k n b nothing)) ++ unplaced (declared s 0 t)
one_first s k n b t =
    let own = declared_here s 0 k ++ declared (sought_below s k) (0 + one_each k) b in
    unplaced_joined own (declared s (0 + node_count (alone k n b)) t) ∙ ap₂ (λ xs ys. xs ++ ys) (sym (ap unplaced (append-nil own))) (anywhere s (0 + node_count (alone k n b)) 0 t)

abbrev IsLexical : Declared → Type 0
IsLexical d = d.sort ≡ lexical

abbrev of_names : List ℕ → Forest → List Declared
of_names source t = unplaced (declared (bound lexical) 0 t)

all_lexical : {t : Forest} → AreNames t → (p : ℕ) → AllByRecursion IsLexical (unplaced (declared (bound lexical) p t))
all_lexical no_name p = tt
all_lexical (a_name (Kind.ImportSpecifier imported) n m x rest h are) p = (refl, all_lexical are _)
all_lexical (a_name Kind.ImportDefaultSpecifier n m x rest h are) p = (refl, all_lexical are _)
all_lexical (a_name Kind.ImportNamespaceSpecifier n m x rest h are) p = (refl, all_lexical are _)
all_lexical (a_name k n m x rest h are) p = absurd (true≢false (sym h))

default_declares : (n : Note) (k : Kind) (below : Forest) → binds_import k ≡ true → of_names [] (node (as_named k) n below nothing) ≡ of_names [] (node k n below nothing)
default_declares n Kind.ImportDefaultSpecifier below h = refl
default_declares n k below h = refl

reads_declared : (f : Sort) → Reads IsLexical (λ t. unplaced (declared (scope f) 0 t)) of_names
reads_declared f = record {
  one_first = one_first (scope f);
  of_import = λ source n m all are. let inner = declared (bound lexical) 1 all in ap unplaced (append-nil (inner ++ []) ∙ append-nil inner) ∙ anywhere (bound lexical) 1 0 all;
  no_names = λ source. refl;
  name_first = λ source. one_first (bound lexical);
  default_same = λ source k n below h. default_declares n k below h;
  each = λ source all are. all_lexical are 0;
}

-- ---- names that clash

pub name_twice : (x y : List ℕ) → bytes_eq x y ≡ bytes_eq y x
name_twice x y = by (bytes_eq x y) (bytes_eq y x) refl refl
  where
    by : (b c : Bool) → bytes_eq x y ≡ b → bytes_eq y x ≡ c → bytes_eq x y ≡ bytes_eq y x
    by true c e f = e ∙ sym ((bytes_eq-Decides y x).1 (sym ((bytes_eq-Decides x y).0 e)))
    by false true e f = absurd (true≢false (sym ((bytes_eq-Decides x y).1 (sym ((bytes_eq-Decides y x).0 f))) ∙ e))
    by false false e f = e ∙ sym f

module _ (test : Sort → Sort → Bool) (either : (s : Sort) → test s lexical ≡ test lexical s) where
  seen_less : (ds seen before : List Declared) → ((d : Declared) → clashes_with_any test d before ≡ false → clashes_with_any test d seen ≡ false) → later_behind test before ds ≡ [] → later_behind test seen ds ≡ []
  seen_less [] seen before f h = refl
  seen_less (d ∷ ds) seen before f h =
      let parts = left_out (clashes_with_any test d before) d (later_behind test (d ∷ before) ds) h in
      leave_out (clashes_with_any test d seen) d (later_behind test (d ∷ seen) ds) (f d parts.0)
      (seen_less ds (d ∷ seen) (d ∷ before) (λ e g. let q = or_none (bytes_eq d.name e.name && test d.sort e.sort) (clashes_with_any test e before) g in neither (bytes_eq d.name e.name && test d.sort e.sort) (clashes_with_any test e seen) q.0 (f e q.1)) parts.1)

  other_way : (x y : Declared) → IsLexical x ⊎ IsLexical y → (bytes_eq x.name y.name && test x.sort y.sort) ≡ (bytes_eq y.name x.name && test y.sort x.sort)
  other_way x y h = ap₂ (λ b c. b && c) (name_twice x.name y.name) (turned h)
    where
      turned : IsLexical x ⊎ IsLexical y → test x.sort y.sort ≡ test y.sort x.sort
      turned (inl e) = ap (λ s. test s y.sort) e ∙ sym (either y.sort) ∙ sym (ap (λ s. test y.sort s) e)
      turned (inr e) = ap (λ s. test x.sort s) e ∙ either x.sort ∙ sym (ap (λ s. test s x.sort) e)

  none_clash : {xs ys : List Declared} → Shuffled IsLexical xs ys → (seen : List Declared) → later_behind test seen xs ≡ [] → later_behind test seen ys ≡ []
  none_clash as_before seen h = h
  none_clash (further_on {x = x} {xs = xs} {ys = ys} s) seen h =
      let parts = left_out (clashes_with_any test x seen) x (later_behind test (x ∷ seen) xs) h in
      leave_out (clashes_with_any test x seen) x (later_behind test (x ∷ seen) ys) parts.0 (none_clash s (x ∷ seen) parts.1)
  none_clash (two_change {x = x} {y = y} {xs = xs} links) seen h =
      let first = left_out (clashes_with_any test x seen) x (later_behind test (x ∷ seen) (y ∷ xs)) h in
      let second = left_out (clashes_with_any test y (x ∷ seen)) y (later_behind test (y ∷ x ∷ seen) xs) first.1 in
      let apart = or_none (bytes_eq x.name y.name && test x.sort y.sort) (clashes_with_any test y seen) second.0 in
      leave_out (clashes_with_any test y seen) y (later_behind test (y ∷ seen) (x ∷ xs)) apart.1
      (leave_out (clashes_with_any test x (y ∷ seen)) x (later_behind test (x ∷ y ∷ seen) xs)
      (neither (bytes_eq y.name x.name && test y.sort x.sort) (clashes_with_any test x seen) (sym (other_way x y links) ∙ apart.0) first.0)
      (seen_less xs (x ∷ y ∷ seen) (y ∷ x ∷ seen) (λ d g. changed d g) second.1))
    where
      changed : (d : Declared) → clashes_with_any test d (y ∷ x ∷ seen) ≡ false → clashes_with_any test d (x ∷ y ∷ seen) ≡ false
      changed d g =
          let one = or_none (bytes_eq y.name d.name && test y.sort d.sort) (clashes_with_any test d (x ∷ seen)) g in
          let two = or_none (bytes_eq x.name d.name && test x.sort d.sort) (clashes_with_any test d seen) one.1 in
          neither (bytes_eq x.name d.name && test x.sort d.sort) (clashes_with_any test d (y ∷ seen)) two.0 (neither (bytes_eq y.name d.name && test y.sort d.sort) (clashes_with_any test d seen) one.0 two.1)
  none_clash (one_by_one s q) seen h = none_clash q seen (none_clash s seen h)

pub unplaced_fewer : (ds : List Declared) → Fewer Declared SameName (unplaced ds) ds
unplaced_fewer [] = none
unplaced_fewer (d ∷ ds) = both (refl, refl) (unplaced_fewer ds)

pub placed_fewer : (ds : List Declared) → Fewer Declared SameName ds (unplaced ds)
placed_fewer [] = none
placed_fewer (d ∷ ds) = both (refl, refl) (placed_fewer ds)

clash_either : (s : Sort) → clash s lexical ≡ clash lexical s
clash_either sort.Lexical = refl
clash_either sort.Repeatable = refl
clash_either sort.Hoisted = refl
clash_either sort.Variable = refl
clash_either sort.Parameter = refl
clash_either sort.CatchParameter = refl

parameters_either : (s : Sort) → both_parameters s lexical ≡ both_parameters lexical s
parameters_either sort.Lexical = refl
parameters_either sort.Repeatable = refl
parameters_either sort.Hoisted = refl
parameters_either sort.Variable = refl
parameters_either sort.Parameter = refl
parameters_either sort.CatchParameter = refl

catch_either : (s : Sort) → variable_of_catch s lexical ≡ variable_of_catch lexical s
catch_either sort.Lexical = refl
catch_either sort.Repeatable = refl
catch_either sort.Hoisted = refl
catch_either sort.Variable = refl
catch_either sort.Parameter = refl
catch_either sort.CatchParameter = refl

-- ---- whether a name is declared

pub declared_unplaced : (x : List ℕ) (ds : List Declared) → is_declared x (unplaced ds) ≡ is_declared x ds
declared_unplaced x [] = refl
declared_unplaced x (d ∷ ds) = ap (λ b. bytes_eq d.name x || b) (declared_unplaced x ds)

or_turned : (a b c : Bool) → (a || (b || c)) ≡ (b || (a || c))
or_turned true true c = refl
or_turned true false c = refl
or_turned false b c = refl

declared_shuffled : (x : List ℕ) {ds es : List Declared} → Shuffled IsLexical ds es → is_declared x ds ≡ is_declared x es
declared_shuffled x as_before = refl
declared_shuffled x (further_on {x = d} s) = ap (λ b. bytes_eq d.name x || b) (declared_shuffled x s)
declared_shuffled x (two_change {x = d} {y = e} {xs = ds} links) = or_turned (bytes_eq d.name x) (bytes_eq e.name x) (is_declared x ds)
declared_shuffled x (one_by_one s q) = declared_shuffled x s ∙ declared_shuffled x q

-- ---- what is exported

left_exports : {source : List ℕ} {all r s : Forest} → WithoutImport source all r s → (p q : ℕ) → FewerExports (exported_among p s) (exported_among q r)
left_exports (import_leaves n m rest) p q = exported_fewer p _ (itself outermost rest)
left_exports (leaves_behind k n below r s out) p q = beside (exported_by_fewer outermost k p q below below (itself (entered outermost k below) below)) (left_exports out _ _)

merged_exports : {r s : Forest} → MergesIn r s → (p q : ℕ) → FewerExports (exported_among p s) (exported_among q r)
merged_exports (merges_here source n m all later r s h out) p q = left_exports out _ _
merged_exports (merges_behind k n below r s h) p q = beside (exported_by_fewer outermost k p q below below (itself (entered outermost k below) below)) (merged_exports h _ _)

left_locals : {source : List ℕ} {all r s : Forest} → WithoutImport source all r s → (p q : ℕ) → FewerExports (locals_among p s) (locals_among q r)
left_locals (import_leaves n m rest) p q = locals_fewer p _ (itself outermost rest)
left_locals (leaves_behind k n below r s out) p q = beside (locals_by_fewer outermost k p q below below (itself (entered outermost k below) below)) (left_locals out _ _)

merged_locals : {r s : Forest} → MergesIn r s → (p q : ℕ) → FewerExports (locals_among p s) (locals_among q r)
merged_locals (merges_here source n m all later r s h out) p q = left_locals out _ _
merged_locals (merges_behind k n below r s h) p q = beside (locals_by_fewer outermost k p q below below (itself (entered outermost k below) below)) (merged_locals h _ _)

-- ---- the rules that a program keeps

module _ (source : SourceType) (n m : Note) (r s : Forest) (h : MergesIn r s) where
  abbrev list : Forest → Forest
  list t = node statements m t nothing

  abbrev at_the_top : ℕ → Forest → List Declared
  at_the_top p t = declared (scope (at_top source)) (suc p) (list t)

  abbrev top : Context
  top = context.outermost source

  program_declares : (p : ℕ) (t : Forest) → unplaced (at_the_top p t) ≡ unplaced (declared (scope (at_top source)) 0 t)
  program_declares p t = ap unplaced (append-nil (declared (scope (at_top source)) (suc p + 0) t)) ∙ anywhere (scope (at_top source)) (suc p + 0) 0 t

  in_order : Shuffled IsLexical (unplaced (declared (scope (at_top source)) 0 r)) (unplaced (declared (scope (at_top source)) 0 s))
  in_order = back IsLexical (reordered (reads_declared (at_top source)) h)

  later_kept : (test : Sort → Sort → Bool) → ((s : Sort) → test s lexical ≡ test lexical s) → (p q : ℕ) → later test (at_the_top p r) ≡ [] → later test (at_the_top q s) ≡ []
  later_kept test either p q e =
      let old = none_later test none (unplaced_fewer (at_the_top p r)) e in
      let new = none_clash test either in_order [] (subst (λ l. later_behind test [] l ≡ []) (program_declares p r) old) in
      none_later test none (placed_fewer (at_the_top q s)) (subst (λ l. later_behind test [] l ≡ []) (sym (program_declares q s)) new)

  each_later : (rule : ℕ) (test : Sort → Sort → Bool) → ((s : Sort) → test s lexical ≡ test lexical s) → (p q : ℕ) → each_breaks rule (declared_places (later test (at_the_top p r))) ≡ [] → each_breaks rule (declared_places (later test (at_the_top q s))) ≡ []
  each_later rule test either p q e = ap (λ l. each_breaks rule (declared_places l)) (later_kept test either p q (no_names (later test (at_the_top p r)) (no_places rule (declared_places (later test (at_the_top p r))) e)))

  still_declared : (x : List ℕ) (p q : ℕ) → is_declared x (at_the_top p r) ≡ is_declared x (at_the_top q s)
  still_declared x p q =
      sym (declared_unplaced x (at_the_top p r)) ∙ ap (is_declared x) (program_declares p r) ∙ declared_shuffled x in_order ∙ ap (is_declared x) (sym (program_declares q s)) ∙ declared_unplaced x (at_the_top q s)

  exports_kept : (p q : ℕ) → each_breaks 7 (repeated_exports [] (exported_among (suc p) r)) ++ each_breaks 7 (undeclared (at_the_top p r) (locals_among (suc p) r)) ≡ []
      → each_breaks 7 (repeated_exports [] (exported_among (suc q) s)) ++ each_breaks 7 (undeclared (at_the_top q s) (locals_among (suc q) s)) ≡ []
  exports_kept p q e =
      each_kept (each_breaks 7 (repeated_exports [] (exported_among (suc p) r))) (each_breaks 7 (undeclared (at_the_top p r) (locals_among (suc p) r)))
      (each_breaks 7 (repeated_exports [] (exported_among (suc q) s))) (each_breaks 7 (undeclared (at_the_top q s) (locals_among (suc q) s)))
      (λ f. ap (each_breaks 7) (none_exported_twice none (merged_exports h (suc q) (suc p)) (no_places 7 (repeated_exports [] (exported_among (suc p) r)) f)))
      (λ f. ap (each_breaks 7) (none_undeclared (at_the_top q s) (at_the_top p r) (merged_locals h (suc q) (suc p)) (λ x g d. sym (still_declared x p q) ∙ d) (no_places 7 (undeclared (at_the_top p r) (locals_among (suc p) r)) f))) e

  program_kept : (p q : ℕ) → broken_at top (program source) p (list r) ≡ [] → broken_at top (program source) q (list s) ≡ []
  program_kept p q =
      each_kept _ _ _ _ (each_kept _ _ _ _ (each_kept _ _ _ _ (each_kept _ _ _ _ (each_kept _ _ _ _ (each_kept _ _ _ _ (each_kept _ _ _ _ (each_kept _ _ _ _ (each_kept _ _ _ _ (each_kept _ _ _ _ (each_kept _ _ _ _
      (each_later 1 clash clash_either p q) (each_later 2 both_parameters parameters_either p q)) (λ e. e)) (λ e. e)) (λ e. e)) (λ e. e)) (exports_kept p q)) (λ e. e)) (each_later 9 variable_of_catch catch_either p q)) (λ e. e)) (λ e. e)) (λ e. e)

-- ---- the names of an import may be bound

abbrev Bindable : Context → Declared → Type 0
Bindable c d = may_be_bound c.strict (is_module c.source) d.name ≡ true

module _ (d : Context) where
  abbrev around : Context
  around = below_it d

  name_unbroken : (x : List ℕ) (p : ℕ) → broken_at (below_it around) (binding_name x) p nothing ≡ [] → may_be_bound d.strict (is_module d.source) x ≡ true
  name_unbroken x p h = is_kept (may_be_bound d.strict (is_module d.source) x) p 5 (first_empty _ _ (first_empty _ _ (first_empty _ _ (first_empty _ _ (first_empty _ _ (first_empty _ _ (first_empty _ _ h)))))))

  name_keeps : (x : List ℕ) (p : ℕ) → may_be_bound d.strict (is_module d.source) x ≡ true → broken_at (below_it around) (binding_name x) p nothing ≡ []
  name_keeps x p h = by (may_be_bound d.strict (is_module d.source) x) h
    where
      by : (b : Bool) → b ≡ true → ((((((unless b p 5 ++ []) ++ []) ++ []) ++ []) ++ []) ++ []) ++ [] ≡ []
      by true e = refl
      by false e = absurd (true≢false (sym e))

  -- each name of such a list
  one_unbroken : (x : List ℕ) (m : Note) (p : ℕ) (more : List Break) → broken_in (λ i. below_it around) 0 p (node (binding_name x) m nothing nothing) ++ more ≡ [] → may_be_bound d.strict (is_module d.source) x ≡ true
  one_unbroken x m p more h =
      let name = broken_at (below_it around) (binding_name x) p nothing in
      name_unbroken x p (first_empty name [] (first_empty (name ++ []) [] (first_empty ((name ++ []) ++ []) more h)))

  names_unbroken : {t : Forest} → AreNames t → (at p : ℕ) → broken_in (λ i. around) at p t ≡ [] → (q : ℕ) → AllByRecursion (Bindable d) (unplaced (declared (bound lexical) q t))
  names_unbroken no_name at p h q = tt
  names_unbroken (a_name (Kind.ImportSpecifier imported) n m x rest b are) at p h q =
      let below = node (binding_name x) m nothing nothing in
      let inner = broken_in (λ i. below_it around) 0 (p + 1) below in
      let more = broken_in (λ i. around) (suc at) (p + node_count (node (Kind.ImportSpecifier imported) n below nothing)) rest in
      (one_unbroken x m (p + 1) more h, names_unbroken are (suc at) (p + node_count (node (Kind.ImportSpecifier imported) n below nothing)) (second_empty inner more h) (q + node_count (node (Kind.ImportSpecifier imported) n below nothing)))
  names_unbroken (a_name Kind.ImportDefaultSpecifier n m x rest b are) at p h q =
      let below = node (binding_name x) m nothing nothing in
      let inner = broken_in (λ i. below_it around) 0 (p + 1) below in
      let more = broken_in (λ i. around) (suc at) (p + node_count (node Kind.ImportDefaultSpecifier n below nothing)) rest in
      (one_unbroken x m (p + 1) more h, names_unbroken are (suc at) (p + node_count (node Kind.ImportDefaultSpecifier n below nothing)) (second_empty inner more h) (q + node_count (node Kind.ImportDefaultSpecifier n below nothing)))
  names_unbroken (a_name Kind.ImportNamespaceSpecifier n m x rest b are) at p h q =
      let below = node (binding_name x) m nothing nothing in
      let inner = broken_in (λ i. below_it around) 0 (p + 1) below in
      let more = broken_in (λ i. around) (suc at) (p + node_count (node Kind.ImportNamespaceSpecifier n below nothing)) rest in
      (one_unbroken x m (p + 1) more h, names_unbroken are (suc at) (p + node_count (node Kind.ImportNamespaceSpecifier n below nothing)) (second_empty inner more h) (q + node_count (node Kind.ImportNamespaceSpecifier n below nothing)))
  names_unbroken (a_name k n m x rest b are) at p h q = absurd (true≢false (sym b))

  one_keeps : (x : List ℕ) (p : ℕ) (more : List Break) → may_be_bound d.strict (is_module d.source) x ≡ true → more ≡ [] → ((broken_at (below_it around) (binding_name x) p nothing ++ []) ++ []) ++ more ≡ []
  one_keeps x p more h e = both_empty ((broken_at (below_it around) (binding_name x) p nothing ++ []) ++ []) more (both_empty (broken_at (below_it around) (binding_name x) p nothing ++ []) [] (both_empty (broken_at (below_it around) (binding_name x) p nothing) [] (name_keeps x p h) refl) refl) e

  names_keep : {t : Forest} → AreNames t → (at p q : ℕ) → AllByRecursion (Bindable d) (unplaced (declared (bound lexical) q t)) → broken_in (λ i. around) at p t ≡ []
  names_keep no_name at p q all = refl
  names_keep (a_name (Kind.ImportSpecifier imported) n m x rest b are) at p q all = one_keeps x _ _ all.0 (names_keep are (suc at) _ _ all.1)
  names_keep (a_name Kind.ImportDefaultSpecifier n m x rest b are) at p q all = one_keeps x _ _ all.0 (names_keep are (suc at) _ _ all.1)
  names_keep (a_name Kind.ImportNamespaceSpecifier n m x rest b are) at p q all = one_keeps x _ _ all.0 (names_keep are (suc at) _ _ all.1)
  names_keep (a_name k n m x rest b are) at p q all = absurd (true≢false (sym b))

-- an import whose names may be bound
import_unbroken : (d : Context) (source : List ℕ) (p : ℕ) (n m : Note) {all : Forest} → AreNames all
    → broken_at (below_it d) (import_declaration source) p (node specifiers m all nothing) ++ broken_in (inside (below_it d) (import_declaration source) (node specifiers m all nothing)) 0 (p + 1) (node specifiers m all nothing) ≡ []
    → (unless (is_module d.source) p 7 ≡ []) × AllByRecursion (Bindable d) (of_names source all)
import_unbroken d source p n m are h =
    (first_empty _ _ (first_empty _ _ (first_empty _ _ (first_empty _ _ (first_empty _ _ (first_empty _ _ h))))), names_unbroken (below_it d) are 0 _ (first_empty _ _ (second_empty _ _ h)) 0)

import_keeps : (d : Context) (source : List ℕ) (p : ℕ) (m : Note) {all : Forest} → AreNames all → unless (is_module d.source) p 7 ≡ [] → AllByRecursion (Bindable d) (of_names source all)
    → broken_at (below_it d) (import_declaration source) p (node specifiers m all nothing) ++ broken_in (inside (below_it d) (import_declaration source) (node specifiers m all nothing)) 0 (p + 1) (node specifiers m all nothing) ≡ []
import_keeps d source p m {all = all} are stands bind =
    both_empty _ _ (both_empty _ _ (both_empty _ _ (both_empty _ _ (both_empty _ _ (both_empty _ _ stands refl) refl) refl) refl) refl)
    (both_empty _ _ (names_keep (below_it d) are 0 _ 0 bind) refl)

each_shuffled : {X : Type 0} {P : X → Type 0} (Q : X → Type 0) {xs ys : List X} → Shuffled P xs ys → AllByRecursion Q xs → AllByRecursion Q ys
each_shuffled Q as_before all = all
each_shuffled Q (further_on s) all = (all.0, each_shuffled Q s all.1)
each_shuffled Q (two_change links) all = (all.1.0, (all.0, all.1.1))
each_shuffled Q (one_by_one s q) all = each_shuffled Q q (each_shuffled Q s all)

each_joined : {X : Type 0} (Q : X → Type 0) (xs ys : List X) → AllByRecursion Q xs → AllByRecursion Q ys → AllByRecursion Q (xs ++ ys)
each_joined Q [] ys a b = b
each_joined Q (x ∷ xs) ys a b = (a.0, each_joined Q xs ys a.1 b)

merged_bind : (d : Context) (source : List ℕ) {all later : Forest} → AreNames all → AreNames later → AllByRecursion (Bindable d) (of_names source all) → AllByRecursion (Bindable d) (of_names source later)
    → AllByRecursion (Bindable d) (of_names source (names_merged all later))
merged_bind d source {all = all} {later = later} a b f g = each_shuffled (Bindable d) (back IsLexical (merged (reads_declared lexical) source a b)) (each_joined (Bindable d) (of_names source all) (of_names source later) f g)

-- ---- a row, wherever it stands

abbrev in_items : Around
in_items = record { row = items; is_asked = false; is_deleted = false; is_labeled = false; exported = []; sought = none_sought }

module _ (d : Context) where
  abbrev pub here : Context
  here = below_it d

  abbrev pub broken_row : (at p : ℕ) → Forest → List Break
  broken_row at p t = broken_in (λ i. here) at p t

  pub moved : (i j p q : ℕ) (t : Forest) → broken_row i p t ≡ [] → broken_row j q t ≡ []
  moved i j p q t h = form_kept (itself in_items t) (λ i. here) (λ i. here) (λ i j e. refl) (λ i e. refl) i j p q (λ e. absurd cc) h

  pub one_moved : (i j p q : ℕ) (k : Kind) (n : Note) (b : Forest) → broken_at here k p b ++ broken_in (inside here k b) 0 (p + one_each k) b ≡ [] → broken_at here k q b ++ broken_in (inside here k b) 0 (q + one_each k) b ≡ []
  one_moved i j p q k n b h =
      first_empty (broken_at here k q b ++ broken_in (inside here k b) 0 (q + one_each k) b) [] (moved i j p q (node k n b nothing) (both_empty (broken_at here k p b ++ broken_in (inside here k b) 0 (p + one_each k) b) [] h refl))

  left_kept : {source : List ℕ} {all r s : Forest} → WithoutImport source all r s → (i j p q : ℕ) → broken_row i p r ≡ [] → broken_row j q s ≡ []
  left_kept (import_leaves n m rest) i j p q h = moved _ j _ q rest (second_empty _ _ h)
  left_kept (leaves_behind k n below r s out) i j p q h =
      both_empty (broken_at here k q below ++ broken_in (inside here k below) 0 (q + one_each k) below) (broken_row (suc j) (q + node_count (node k n below nothing)) s)
      (one_moved i j p q k n below (first_empty _ _ h)) (left_kept out (suc i) (suc j) _ _ (second_empty _ _ h))

  -- the names of an import that leaves might be bound
  left_bound : {source : List ℕ} {all r s : Forest} → AreNames all → WithoutImport source all r s → (i p : ℕ) → broken_row i p r ≡ [] → AllByRecursion (Bindable d) (of_names source all)
  left_bound {source = source} are (import_leaves n m rest) i p h = (import_unbroken d source p n m are (first_empty _ _ h)).1
  left_bound are (leaves_behind k n below r s out) i p h = left_bound are out (suc i) _ (second_empty _ _ h)

  row_kept : {r s : Forest} → MergesIn r s → (i j p q : ℕ) → broken_row i p r ≡ [] → broken_row j q s ≡ []
  row_kept (merges_here source n m all later r s h out) i j p q e =
      let known = may all later h in
      let old = import_unbroken d source p n m known.names_are (first_empty _ _ e) in
      let rest = second_empty _ _ e in
      both_empty _ _
      (import_keeps d source q m (merged_are known.names_are known.later_are) (ap (λ b. unless b q 7) (is_kept (is_module d.source) p 7 old.0)) (merged_bind d source known.names_are known.later_are old.1 (left_bound known.later_are out _ _ rest)))
      (left_kept out _ _ _ _ rest)
  row_kept (merges_behind k n below r s h) i j p q e =
      both_empty (broken_at here k q below ++ broken_in (inside here k below) 0 (q + one_each k) below) (broken_row (suc j) (q + node_count (node k n below nothing)) s)
      (one_moved i j p q k n below (first_empty _ _ e)) (row_kept h (suc i) (suc j) _ _ (second_empty _ _ e))

-- ---- a program

same_strict : {r s : Forest} → MergesIn r s → has_use_strict s ≡ has_use_strict r
same_strict (merges_here source n m all later r s h out) = refl
same_strict (merges_behind (directive written) n below r s h) = ap (λ b. bytes_eq written (codes "use strict") || b) (same_strict h)
same_strict (merges_behind k n below r s h) = refl

form_merged : (source : SourceType) (n m : Note) (r s : Forest) → MergesIn r s → IsWellFormed (node (program source) n (node statements m r nothing) nothing) → IsWellFormed (node (program source) n (node statements m s nothing) nothing)
form_merged source n m r s h whole =
    let top = context.outermost source in
    let old = node statements m r nothing in
    let new = node statements m s nothing in
    let inner = inside top (program source) old 0 in
    let all : broken (node (program source) n old nothing) ≡ [] = none_broken (broken (node (program source) n old nothing)) whole in
    let front = first_empty (broken_at top (program source) 0 old ++ broken_in (inside top (program source) old) 0 1 old) [] all in
    let own = first_empty (broken_at top (program source) 0 old) (broken_in (inside top (program source) old) 0 1 old) front in
    let below = second_empty (broken_at top (program source) 0 old) (broken_in (inside top (program source) old) 0 1 old) front in
    let row = first_empty (broken_in (λ i. below_it inner) 0 1 r) [] below in
    ap least
    (both_empty (broken_at top (program source) 0 new ++ broken_in (inside top (program source) new) 0 1 new) []
    (both_empty (broken_at top (program source) 0 new) (broken_in (inside top (program source) new) 0 1 new) (program_kept source n m r s h 0 0 own)
    (subst (λ b. broken_in (λ i. context.context top (is_module source || b) top.leaves top.members) 0 1 new ≡ []) (sym (same_strict h))
    (both_empty (broken_in (λ i. below_it inner) 0 1 s) [] (row_kept inner h 0 0 1 1 row) refl)))
    refl)

pub merged_well_formed : (t u : Forest) → MergedImports t u → IsWellFormed t → IsWellFormed u
merged_well_formed _ _ (imports_merge n m r s h unevaluated) whole = form_merged source_type.Module n m r s h whole
