-- Which names a row of nodes exports, wherever it stands; and that no two of them are the same.
use Rattle.std.proofs.Common.{◌≡◌, ◌∙◌, ℕ, List, [], ◌∷◌, ◌++◌, Bool, true, false, ◌||◌, bytes_eq, ◌+◌, Some, None, refl, sym, ap, ap₂, subst}
use Rattle.js_tree.specs.Count.{node_count}
use Rattle.js_syntax.specs.declared.node_kind.NodeKind.{NodeKind as Kind}
use Rattle.js_syntax.specs.declared.node_kind.NodeKind.TheVariants.{ExportNamedDeclaration as export_named_declaration, ExportAllDeclaration as export_all_declaration, ExportSpecifier as export_specifier, ForeignSpecifier as foreign_specifier}
use Rattle.js_syntax.specs.Node.{Forest, nothing, node, absent}
use Rattle.form_rules.specs.declared.sought.Sort.TheVariants.{Lexical as lexical}
use Rattle.form_rules.specs.declared.sought.Sought.TheVariants.{Scope as scope}
use Rattle.form_rules.specs.Scope.{Declared, declared}
use Rattle.form_rules.specs.Rules.{Exported, exports_of, text_of, named_by, first_below, behind, exported_by, exported_among, is_exported, repeated_exports}
use Rattle.js_syntax.proofs.Truth.{neither}
use Rattle.steps.proofs.KeepForm.Fewer.{or_none, left_out, leave_out}
use Rattle.steps.proofs.Owed.MergedForm.{unplaced, anywhere, name_twice}
use Rattle.steps.proofs.Owed.Shuffled.{Shuffled, as_before, further_on, two_change, one_by_one}

-- ---- names that differ from each other

abbrev pub Lacks : List (List ℕ) → List ℕ → Type 0
Lacks [] x = Unit {0}
Lacks (y ∷ ys) x = (bytes_eq y x ≡ false) × Lacks ys x

abbrev pub Distinct : List (List ℕ) → Type 0
Distinct [] = Unit {0}
Distinct (x ∷ xs) = Lacks xs x × Distinct xs

lacks_shuffled : {P : List ℕ → Type 0} {xs ys : List (List ℕ)} (x : List ℕ) → Shuffled P xs ys → Lacks xs x → Lacks ys x
lacks_shuffled x as_before h = h
lacks_shuffled x (further_on s) h = (h.0, lacks_shuffled x s h.1)
lacks_shuffled x (two_change p) h = (h.1.0, (h.0, h.1.1))
lacks_shuffled x (one_by_one s q) h = lacks_shuffled x q (lacks_shuffled x s h)

pub distinct_shuffled : {P : List ℕ → Type 0} {xs ys : List (List ℕ)} → Shuffled P xs ys → Distinct xs → Distinct ys
distinct_shuffled as_before h = h
distinct_shuffled (further_on {x = x} s) h = (lacks_shuffled x s h.0, distinct_shuffled s h.1)
distinct_shuffled (two_change {x = x} {y = y} p) h = ((name_twice x y ∙ h.0.0, h.1.0), (h.0.1, h.1.1))
distinct_shuffled (one_by_one s q) h = distinct_shuffled q (distinct_shuffled s h)

-- ---- names of exports

abbrev pub names_of : List Exported → List (List ℕ)
names_of [] = []
names_of (e ∷ es) = e.name ∷ names_of es

names_joined : (es fs : List Exported) → names_of (es ++ fs) ≡ names_of es ++ names_of fs
names_joined [] fs = refl
names_joined (e ∷ es) fs = ap (λ l. e.name ∷ l) (names_joined es fs)

-- each is under none of the names seen
abbrev Fresh : (seen es : List Exported) → Type 0
Fresh seen [] = Unit {0}
Fresh seen (e ∷ es) = (is_exported e.name seen ≡ false) × Fresh seen es

fresh_of : (d : Exported) (seen es : List Exported) → Fresh (d ∷ seen) es → Lacks (names_of es) d.name × Fresh seen es
fresh_of d seen [] h = (tt, tt)
fresh_of d seen (e ∷ es) h =
    let first = or_none (bytes_eq d.name e.name) (is_exported e.name seen) h.0 in
    let more = fresh_of d seen es h.1 in
    ((name_twice e.name d.name ∙ first.0, more.0), (first.1, more.1))

fresh_too : (d : Exported) (seen es : List Exported) → Lacks (names_of es) d.name → Fresh seen es → Fresh (d ∷ seen) es
fresh_too d seen [] h f = tt
fresh_too d seen (e ∷ es) h f = (neither (bytes_eq d.name e.name) (is_exported e.name seen) (name_twice d.name e.name ∙ h.0) f.0, fresh_too d seen es h.1 f.1)

all_apart : (seen es : List Exported) → repeated_exports seen es ≡ [] → Distinct (names_of es) × Fresh seen es
all_apart seen [] h = (tt, tt)
all_apart seen (e ∷ es) h =
    let parts = left_out (is_exported e.name seen) e.place (repeated_exports (e ∷ seen) es) h in
    let more = all_apart (e ∷ seen) es parts.1 in
    let fresh = fresh_of e seen es more.1 in
    ((fresh.0, more.0), (parts.0, fresh.1))

none_repeated : (seen es : List Exported) → Distinct (names_of es) → Fresh seen es → repeated_exports seen es ≡ []
none_repeated seen [] h f = refl
none_repeated seen (e ∷ es) h f = leave_out (is_exported e.name seen) e.place (repeated_exports (e ∷ seen) es) f.0 (none_repeated (e ∷ seen) es h.1 (fresh_too e seen es h.0 f.1))

fresh_first : (es : List Exported) → Fresh [] es
fresh_first [] = tt
fresh_first (e ∷ es) = (refl, fresh_first es)

-- ---- of a row

abbrev pub shown_by : Kind → Forest → List (List ℕ)
shown_by k below = names_of (exported_by k 0 below)

abbrev pub shown : Forest → List (List ℕ)
shown nothing = []
shown (absent rest) = shown rest
shown (node k n below rest) = shown_by k below ++ shown rest

abbrev declared_names : List Declared → List (List ℕ)
declared_names [] = []
declared_names (d ∷ ds) = d.name ∷ declared_names ds

of_declared : (p : ℕ) (ds : List Declared) → names_of (exports_of p ds) ≡ declared_names (unplaced ds)
of_declared p [] = refl
of_declared p (d ∷ ds) = ap (λ l. d.name ∷ l) (of_declared p ds)

pub named_anywhere : (p q : ℕ) (t : Forest) → names_of (named_by p t) ≡ names_of (named_by q t)
named_anywhere p q nothing = refl
named_anywhere p q (absent rest) = named_anywhere p q rest
named_anywhere p q (node (export_specifier exported) n below rest) = ap (λ l. text_of exported ∷ l) (named_anywhere p q rest)
named_anywhere p q (node (foreign_specifier local exported) n below rest) = ap (λ l. text_of exported ∷ l) (named_anywhere p q rest)
named_anywhere p q (node k n below rest) = named_anywhere p q rest

by_anywhere : (k : Kind) (p q : ℕ) (below : Forest) → names_of (exported_by k p below) ≡ names_of (exported_by k q below)
by_anywhere (export_named_declaration source) p q below =
    let list = first_below (behind below) in
    names_joined (exports_of p (declared (scope lexical) p below)) (named_by p list)
    ∙ ap₂ (λ l m. l ++ m)
    (of_declared p (declared (scope lexical) p below) ∙ ap declared_names (anywhere (scope lexical) p q below) ∙ sym (of_declared q (declared (scope lexical) q below)))
    (named_anywhere p q list)
    ∙ sym (names_joined (exports_of q (declared (scope lexical) q below)) (named_by q list))
by_anywhere (export_all_declaration None source) p q below = refl
by_anywhere (export_all_declaration (Some exported) source) p q below = refl
by_anywhere k p q below = refl

pub among_shown : (p : ℕ) (t : Forest) → names_of (exported_among p t) ≡ shown t
among_shown p nothing = refl
among_shown p (absent rest) = among_shown p rest
among_shown p (node k n below rest) =
    names_joined (exported_by k p below) (exported_among (p + node_count (node k n below nothing)) rest) ∙ ap₂ (λ l m. l ++ m) (by_anywhere k p 0 below) (among_shown (p + node_count (node k n below nothing)) rest)

-- a row exports no name twice
pub shown_apart : (p : ℕ) (t : Forest) → repeated_exports [] (exported_among p t) ≡ [] → Distinct (shown t)
shown_apart p t h = subst Distinct (among_shown p t) (all_apart [] (exported_among p t) h).0

pub none_shown_twice : (p : ℕ) (t : Forest) → Distinct (shown t) → repeated_exports [] (exported_among p t) ≡ []
none_shown_twice p t h = none_repeated [] (exported_among p t) (subst Distinct (sym (among_shown p t)) h) (fresh_first (exported_among p t))
