-- A declaration of names without initialisers declares them by `var`, in the same order, and nothing else.
use Rattle.std.proofs.Common.{◌≡◌, ◌∙◌, List, [], ◌∷◌, ◌++◌, Bool, true, false, ◌&&◌, if◌then◌else◌, refl, ap, ap₂}
use Rattle.std.specs.Prelude.{Option, Some, None, map}
use Rattle.std.proofs.lemmas.List.{append-nil}
use Rattle.js_syntax.specs.Class.{statement}
use Rattle.js_syntax.specs.declared.node_kind.NodeKind.{NodeKind as Kind}
use Rattle.js_syntax.specs.declared.node_kind.NodeKind.TheVariants.{BindingName as binding_name, Declarators as declarators_kind, VariableDeclarator as variable_declarator}
use Rattle.js_syntax.specs.Node.{Note, Forest, nothing, node, absent, Tree, row}
use Rattle.js_syntax.specs.Table.{Row, a_program, a_binding_name, fields_of}
use Rattle.js_syntax.proofs.Truth.{first_of_both, second_of_both, both}
use Rattle.js_tree.specs.Names.{Part, all_of, first_of, behind_first, Looked, looked, chosen, part_below, names_of}
use Rattle.js_meaning.specs.Scope as scope
use Rattle.js_meaning.specs.Scope.{bound_names, vars_of, var_names}
use Rattle.json_shape.specs.Shape.{Values, kind_in, one, places, these, Stand, Fits}
use Rattle.json_shape.proofs.Choice.{is_list_kind}
use Rattle.steps.proofs.Fit.Everywhere.{IsShown, everywhere, any_tree}
use Rattle.kept_names.specs.Kept.{is_var, holds_statements, declared_of, declared, kept_of, kept, declarator_of, declaration_of}
use Rattle.steps.specs.VarNames.Texts.{text_of, texts}
use Rattle.steps.proofs.VarNames.Statements.{statement_law}

-- ---- nothing lies below a name

abbrev is_bare : Kind → Forest → Bool
is_bare (binding_name x) nothing = true
is_bare (binding_name x) t = false
is_bare k t = true

abbrev bare : Forest → Bool
bare nothing = true
bare (absent r) = bare r
bare (node k n a r) = is_bare k a && (bare a && bare r)

bare_rows : (r : Row) (vs : Values (fields_of r)) (private : Bool) (a : Forest) → Stand (these (places private (fields_of r) vs)) a → is_bare (kind_in r vs) a ≡ true
bare_rows a_binding_name vs private nothing st = refl
bare_rows a_binding_name vs private (absent r) st = absurd st.0
bare_rows a_binding_name vs private (node k n b r) st = absurd st.0
bare_rows a_program vs private a st = refl
bare_rows r vs private a st = refl

bare_lists : (kind : Kind) (a : Forest) → is_list_kind kind ≡ true → is_bare kind a ≡ true
bare_lists (binding_name x) a h = absurd cc
bare_lists k a h = refl

shown : IsShown any_tree is_bare bare
shown =
    record {
      ends = refl;
      passes_none = λ r h. h;
      passes_node = λ k n a r h. h;
      given_behind_none = λ r h. h;
      given_below = λ k n a r h. refl;
      given_behind = λ k n a r h. refl;
      rows = λ r vs private n a rest g chosen st. bare_rows r vs private a st;
      lists = bare_lists;
      holes = λ a st. refl;
    }

-- ---- and so not below those that are kept

abbrev pub is_name_alone : Kind → Forest → Bool
is_name_alone (binding_name x) nothing = true
is_name_alone k b = false

abbrev pub is_bare_name : Tree → Bool
is_bare_name t = is_name_alone t.kind t.below

abbrev pub are_names : List Tree → Bool
are_names [] = true
are_names (t ∷ ts) = is_bare_name t && are_names ts

joined_names : (xs ys : List Tree) → are_names xs ≡ true → are_names ys ≡ true → are_names (xs ++ ys) ≡ true
joined_names [] ys h g = g
joined_names (x ∷ xs) ys h g =
    both (is_bare_name x) (are_names (xs ++ ys)) (first_of_both (is_bare_name x) (are_names xs) h)
    (joined_names xs ys (second_of_both (is_bare_name x) (are_names xs) h) g)

record AreNames (l : Looked) : Type 0 where
  all : are_names l.all ≡ true
  first : are_names l.first ≡ true
  behind : are_names l.behind ≡ true

chosen_names : (p : Option Part) (l : Looked) → AreNames l → are_names (chosen p l) ≡ true
chosen_names None l h = refl
chosen_names (Some all_of) l h = h.all
chosen_names (Some first_of) l h = h.first
chosen_names (Some behind_first) l h = h.behind

names_here : (k : Kind) (n : Note) (a : Forest) → is_bare k a ≡ true → AreNames (looked a) → are_names (names_of (record { kind = k; note = n; below = a }) (looked a)) ≡ true
names_here (binding_name x) n nothing h l = refl
names_here (binding_name x) n (absent r) h l = absurd cc
names_here (binding_name x) n (node j m b r) h l = absurd cc
names_here k n a h l = chosen_names (part_below k) (looked a) l

looked_names : (t : Forest) → bare t ≡ true → AreNames (looked t)
looked_names nothing h = record { all = refl; first = refl; behind = refl }
looked_names (absent r) h = let later = looked_names r h in record { all = later.all; first = refl; behind = later.all }
looked_names (node k n a r) h =
    let inner = second_of_both (is_bare k a) (bare a && bare r) h in
    let later = looked_names r (second_of_both (bare a) (bare r) inner) in
    let here = names_here k n a (first_of_both (is_bare k a) (bare a && bare r) h) (looked_names a (first_of_both (bare a) (bare r) inner)) in
    record { all = joined_names (names_of (record { kind = k; note = n; below = a }) (looked a)) (looked r).all here later.all; first = here; behind = later.all }

declared_here : (k : Kind) (a : Forest) → bare a ≡ true → are_names (declared a) ≡ true → are_names (declared_of k a (declared a)) ≡ true
declared_here declarators_kind a h inner = inner
declared_here variable_declarator a h inner = (looked_names a h).first
declared_here k a h inner = refl

declared_names : (t : Forest) → bare t ≡ true → are_names (declared t) ≡ true
declared_names nothing h = refl
declared_names (absent r) h = declared_names r h
declared_names (node k n a r) h =
    let inner = second_of_both (is_bare k a) (bare a && bare r) h in
    let below = first_of_both (bare a) (bare r) inner in
    joined_names (declared_of k a (declared a)) (declared r) (declared_here k a below (declared_names a below)) (declared_names r (second_of_both (bare a) (bare r) inner))

kept_here : (v s : Bool) (xs ys : List Tree) → are_names xs ≡ true → are_names ys ≡ true → are_names (if v then xs else if s then ys else []) ≡ true
kept_here true s xs ys h g = h
kept_here false true xs ys h g = g
kept_here false false xs ys h g = refl

kept_names : (t : Forest) → bare t ≡ true → are_names (kept t) ≡ true
kept_names nothing h = refl
kept_names (absent r) h = kept_names r h
kept_names (node k n a r) h =
    let inner = second_of_both (is_bare k a) (bare a && bare r) h in
    let below = first_of_both (bare a) (bare r) inner in
    joined_names (kept_of k a (kept a)) (kept r)
    (kept_here (is_var k) (holds_statements k) (declared a) (kept a) (declared_names a below) (kept_names a below))
    (kept_names r (second_of_both (bare a) (bare r) inner))

pub kept_are_names : (t : Forest) → Fits statement t → are_names (kept t) ≡ true
kept_are_names t fits = kept_names t (everywhere any_tree is_bare bare shown t (these (one statement ∷ [])) refl refl fits)

-- ---- a declaration of names

one_name : (t : Tree) → is_bare_name t ≡ true → (scope.names_of t.kind (bound_names t.below) ++ [] ≡ text_of t.kind) × (vars_of t.kind t.below (var_names t.below) ++ [] ≡ [])
one_name t h = of_kind t.kind t.below h
  where
    of_kind : (k : Kind) (b : Forest) → is_name_alone k b ≡ true → (scope.names_of k (bound_names b) ++ [] ≡ text_of k) × (vars_of k b (var_names b) ++ [] ≡ [])
    of_kind (binding_name x) nothing h = (refl, refl)
    of_kind (binding_name x) (absent r) h = absurd cc
    of_kind (binding_name x) (node j m c r) h = absurd cc
    of_kind k b h = absurd cc

pub their_names : (ts : List Tree) → are_names ts ≡ true → bound_names (row (map declarator_of ts)) ≡ texts ts
their_names [] h = refl
their_names (t ∷ ts) h = ap₂ (λ x y. x ++ y) (one_name t (first_of_both (is_bare_name t) (are_names ts) h)).0 (their_names ts (second_of_both (is_bare_name t) (are_names ts) h))

no_more : (ts : List Tree) → are_names ts ≡ true → var_names (row (map declarator_of ts)) ≡ []
no_more [] h = refl
no_more (t ∷ ts) h = ap₂ (λ x y. x ++ y) (one_name t (first_of_both (is_bare_name t) (are_names ts) h)).1 (no_more ts (second_of_both (is_bare_name t) (are_names ts) h))

declares_them : (ts : List Tree) → are_names ts ≡ true → var_names (row (declaration_of (map declarator_of ts) ∷ [])) ≡ texts ts
declares_them [] h = refl
declares_them (t ∷ ts) h =
    let names = bound_names (row (map declarator_of (t ∷ ts))) in
    let more = var_names (row (map declarator_of (t ∷ ts))) in
    ap (λ x. ((names ++ []) ++ (x ++ [])) ++ []) (no_more (t ∷ ts) h)
    ∙ append-nil ((names ++ []) ++ [])
    ∙ append-nil (names ++ [])
    ∙ append-nil names
    ∙ their_names (t ∷ ts) h

pub declared_again : (t : Forest) → Fits statement t → var_names (row (declaration_of (map declarator_of (kept t)) ∷ [])) ≡ var_names t
declared_again t fits =
    declares_them (kept t) (kept_are_names t fits)
    ∙ statement_law t fits
