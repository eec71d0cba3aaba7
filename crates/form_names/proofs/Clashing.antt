-- Declared names that clash, by the sorts that each name was declared with.
use Rattle.std.proofs.Common.{◌≡◌, ◌∙◌, ◌<◌, ◌≤◌, ◌+◌, ℕ, List, [], ◌∷◌, Bool, true, false, not, ◌&&◌, ◌||◌, Option, if◌then◌else◌, length, get_or, drop, drop_of_length-le, refl, sym, ap, subst}
use Rattle.std.specs.Str.{bytes_eq}
use Rattle.form_rules.specs.declared.rule.Break.{Break}
use Rattle.form_rules.specs.declared.sought.Sort.{Sort}
use Rattle.form_rules.specs.declared.sought.Sort.TheVariants.{Lexical as lexical, Repeatable as repeatable, Hoisted as hoisted, Variable as variable, Parameter as parameter, CatchParameter as catch_parameter}
use Rattle.form_rules.specs.Break.{unless, least, merged}
use Rattle.form_rules.specs.Scope.{Declared, clashes_with_any, later_behind}
use Rattle.form_rules.specs.Rules.{declared_places}
use Rattle.js_tree.proofs.Rows.{front_of}
use Rattle.form_names.specs.declared.sorts.Sorts.{Sorts}
use Rattle.form_names.specs.Sorts.{no_sorts, with_sort, or_if, any_clash}
use Rattle.form_names.proofs.Firsts.{IsFirst, first_of_none, first_if_more}

-- the sorts of a name among those seen so far
abbrev pub sorts_of : (seen : List Declared) → (name : List ℕ) → Sorts
sorts_of [] q = no_sorts
sorts_of (d ∷ ds) q = if bytes_eq d.name q then with_sort d.sort (sorts_of ds q) else sorts_of ds q

-- ---- a flag that is raised adds its test

pub raised : (flag test rest : Bool) → or_if true test rest ≡ test || or_if flag test rest
unfolding or_if
raised true true rest = refl
raised true false rest = refl
raised false test rest = refl

pub under : (more flag test rest : Bool) → or_if flag test (more || rest) ≡ more || or_if flag test rest
unfolding or_if
under true true true rest = refl
under false true true rest = refl
under more true false rest = refl
under more false test rest = refl

pub below : (more flag test with rest : Bool) → with ≡ more || rest → or_if flag test with ≡ more || or_if flag test rest
below more flag test with rest is = ap (or_if flag test) is ∙ under more flag test rest

with_sort_clashes : (test : Sort → Sort → Bool) (one sort : Sort) (s : Sorts) → any_clash test sort (with_sort one s) ≡ test one sort || any_clash test sort s
with_sort_clashes test lexical sort s = raised _ _ _
with_sort_clashes test repeatable sort s = below (test repeatable sort) _ _ _ _ (raised _ _ _)
with_sort_clashes test hoisted sort s = let under_it = below (test hoisted sort) in under_it _ _ _ _ (under_it _ _ _ _ (raised _ _ _))
with_sort_clashes test variable sort s = let under_it = below (test variable sort) in under_it _ _ _ _ (under_it _ _ _ _ (under_it _ _ _ _ (raised _ _ _)))
with_sort_clashes test parameter sort s = let under_it = below (test parameter sort) in under_it _ _ _ _ (under_it _ _ _ _ (under_it _ _ _ _ (under_it _ _ _ _ (raised _ _ _))))
with_sort_clashes test catch_parameter sort s =
    let under_it = below (test catch_parameter sort) in under_it _ _ _ _ (under_it _ _ _ _ (under_it _ _ _ _ (under_it _ _ _ _ (under_it _ _ _ _ (raised _ _ _)))))

no_sorts_clash : (test : Sort → Sort → Bool) (sort : Sort) → any_clash test sort no_sorts ≡ false
unfolding or_if
no_sorts_clash test sort = refl

where_named : (test : Sort → Sort → Bool) (one sort : Sort) (s : Sorts) (named : Bool) → (named && test one sort) || any_clash test sort s ≡ any_clash test sort (if named then with_sort one s else s)
where_named test one sort s true = sym (with_sort_clashes test one sort s)
where_named test one sort s false = refl

pub clashes_by_sorts : (test : Sort → Sort → Bool) (d : Declared) (seen : List Declared) → clashes_with_any test d seen ≡ any_clash test d.sort (sorts_of seen d.name)
clashes_by_sorts test d [] = sym (no_sorts_clash test d.sort)
clashes_by_sorts test d (e ∷ es) =
    ap (λ b. (bytes_eq e.name d.name && test e.sort d.sort) || b) (clashes_by_sorts test d es) ∙ where_named test e.sort d.sort (sorts_of es d.name) (bytes_eq e.name d.name)

-- ---- one more name

placed : (d : Declared) (ds : List Declared) (clashes : Bool) → declared_places (if clashes then d ∷ ds else ds) ≡ if clashes then d.place ∷ declared_places ds else declared_places ds
placed d ds true = refl
placed d ds false = refl

abbrev pub clashing : (test : Sort → Sort → Bool) → (seen found : List Declared) → List ℕ
clashing test seen found = declared_places (later_behind test seen found)

-- the new name's sorts are those of the map
pub clashing_more : (test : Sort → Sort → Bool) (rule : ℕ) (found : List Declared) (i : ℕ) (d : Declared) (seen : List Declared) (before : Sorts) (first next whole : Option Break)
    → i < length found → d ≡ get_or found i d → before ≡ sorts_of seen d.name → next ≡ merged first (least (unless (not (any_clash test d.sort before)) d.place rule))
    → IsFirst rule first whole (clashing test seen (drop i found)) → IsFirst rule next whole (clashing test (d ∷ seen) (drop (i + 1) found))
clashing_more test rule found i d seen before first next whole within at known is so_far =
    let breaks : clashes_with_any test d seen ≡ any_clash test d.sort before = clashes_by_sorts test d seen ∙ ap (any_clash test d.sort) (sym known) in
    let places : clashing test seen (drop i found) ≡ if any_clash test d.sort before then d.place ∷ clashing test (d ∷ seen) (drop (i + 1) found) else clashing test (d ∷ seen) (drop (i + 1) found) =
    ap (clashing test seen) (front_of found i d within at) ∙ placed d (later_behind test (d ∷ seen) (drop (i + 1) found)) (clashes_with_any test d seen)
    ∙ ap (λ b. if b then d.place ∷ clashing test (d ∷ seen) (drop (i + 1) found) else clashing test (d ∷ seen) (drop (i + 1) found)) breaks in
    first_if_more rule first next whole (any_clash test d.sort before) d.place (clashing test (d ∷ seen) (drop (i + 1) found)) is (subst (IsFirst rule first whole) places so_far)

pub clashing_none : (test : Sort → Sort → Bool) (rule : ℕ) (found : List Declared) (i : ℕ) (seen : List Declared) (first whole : Option Break)
    → length found ≤ i → IsFirst rule first whole (clashing test seen (drop i found)) → first ≡ whole
clashing_none test rule found i seen first whole past so_far = first_of_none rule first whole _ (ap (clashing test seen) (drop_of_length-le found past)) so_far
