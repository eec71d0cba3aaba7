-- A name that a program exports without declaring it there is one that a reference reads in the program's own scope.
use Rattle.std.proofs.Common.{◌≡◌, ◌∙◌, ◌⊎◌, inl, inr, ℕ, suc, ◌+◌, true, ◌||◌, List, [], ◌∷◌, ◌++◌, None, bytes_eq, refl, sym, ap, subst, true≢false}
use Rattle.std.proofs.lemmas.Bool.{or_cases}
use Rattle.std.proofs.lemmas.Slice.Eq.{bytes_eq-Decides}
use Rattle.js_syntax.specs.declared.node_kind.NodeKind.{NodeKind as Kind}
use Rattle.js_syntax.specs.declared.node_kind.NodeKind.TheVariants.{Statements as statements, Specifiers as specifiers, ExportNamedDeclaration as export_named_declaration, ExportSpecifier as export_specifier, ReferenceName as reference_name}
use Rattle.js_syntax.specs.Node.{Note, Forest, nothing, node, absent}
use Rattle.js_syntax.proofs.Truth.{or_false, or_associates}
use Rattle.js_tree.specs.Count.{node_count}
use Rattle.form_rules.specs.Rules.{Exported, is_exported, first_below, behind, local_of, locals_named, locals_by, locals_among}
use Rattle.scope_rules.specs.declared.layer.Layer.{Layer}
use Rattle.scope_rules.specs.Context.{Context, inside}
use Rattle.scope_rules.specs.Site.{Site, ReferenceSite, own_sites, opens_one, scope_count, sites, references_among}
use Rattle.scope_laws.specs.Exact.{Among}
use Rattle.steps.proofs.Naming.Sites.{reference_first, reference_second, reference_third}
use Rattle.steps.specs.KeepForm.Sheds.{Row, row_below}
use Rattle.steps.specs.KeepForm.Layout.{is_list_first, are_specifiers_first, stands_right, is_laid_out}
use Rattle.steps.proofs.KeepForm.Laid.{laid_absent, laid_right, laid_below, laid_behind}

-- a reference of these sites has this name, with these layers around it
pub record Reads (ss : List Site) (x : List ℕ) (ls : List Layer) : Type 0 where
  pub reference : ReferenceSite
  pub stands : Among reference (references_among ss)
  pub name : reference.name ≡ x
  pub layers : reference.layers ≡ ls

abbrev AllIn : List Layer → (ℕ → Context) → Type 0
AllIn ls cs = (i : ℕ) → (cs i).layers ≡ ls

either_exported : (x : List ℕ) (ds es : List Exported) → is_exported x (ds ++ es) ≡ true → (is_exported x ds ≡ true) ⊎ (is_exported x es ≡ true)
either_exported x ds es h = or_cases (is_exported x ds) (is_exported x es) (sym (appended ds) ∙ h)
  where
    appended : (ds : List Exported) → is_exported x (ds ++ es) ≡ is_exported x ds || is_exported x es
    appended [] = refl
    appended (d ∷ ds) = ap (λ b. bytes_eq d.name x || b) (appended ds) ∙ or_associates (bytes_eq d.name x) (is_exported x ds) (is_exported x es)

-- ---- in the parts of a row's sites

module _ (cs : ℕ → Context) (at next : ℕ) (k : Kind) (n : Note) (a r : Forest) (x : List ℕ) (ls : List Layer) where
  abbrev own : List Site
  own = own_sites (cs at) n k a

  abbrev below : List Site
  below = sites (inside (cs at) next k a) 0 (next + opens_one k a) a

  abbrev later : List Site
  later = sites cs (suc at) (next + scope_count (node k n a nothing)) r

  reads_here : Reads own x ls → Reads (sites cs at next (node k n a r)) x ls
  reads_here h = record { reference = h.reference; stands = reference_first h.reference own below later h.stands; name = h.name; layers = h.layers }

  reads_below : Reads below x ls → Reads (sites cs at next (node k n a r)) x ls
  reads_below h = record { reference = h.reference; stands = reference_second h.reference own below later h.stands; name = h.name; layers = h.layers }

  reads_later : Reads later x ls → Reads (sites cs at next (node k n a r)) x ls
  reads_later h = record { reference = h.reference; stands = reference_third h.reference own below later h.stands; name = h.name; layers = h.layers }

-- ---- the local name of a specifier

local_read : (x : List ℕ) (p : ℕ) (cs : ℕ → Context) (at next : ℕ) (t : Forest) → is_exported x (local_of p t) ≡ true → Reads (sites cs at next t) x (cs at).layers
local_read x p cs at next (node (reference_name y) n a r) h =
    reads_here cs at next (reference_name y) n a r x (cs at).layers (record {
      reference = _;
      stands = inl refl;
      name = (bytes_eq-Decides y x).0 (sym (or_false (bytes_eq y x)) ∙ h);
      layers = refl;
    })
local_read x p cs at next nothing h = absurd (true≢false (sym h))
local_read x p cs at next (absent r) h = absurd (true≢false (sym h))
local_read x p cs at next (node k n a r) h = absurd (true≢false (sym h))

module _ (x : List ℕ) (ls : List Layer) where
  specifier_read : (p : ℕ) (cs : ℕ → Context) (at next : ℕ) (k : Kind) (n : Note) (a r : Forest) → AllIn ls cs
      → (is_exported x (locals_named p r) ≡ true → Reads (sites cs (suc at) (next + scope_count (node k n a nothing)) r) x ls) → is_exported x (locals_named p (node k n a r)) ≡ true → Reads (sites cs at next (node k n a r)) x ls
  specifier_read p cs at next (export_specifier exported) n a r all later h = elim (either_exported x (local_of p a) (locals_named p r) h) [
    | inl e ↦
        reads_below cs at next (export_specifier exported) n a r x ls
        (subst (λ us. Reads (sites (inside (cs at) next (export_specifier exported) a) 0 (next + opens_one (export_specifier exported) a) a) x us) (all at)
        (local_read x p (inside (cs at) next (export_specifier exported) a) 0 (next + opens_one (export_specifier exported) a) a e))
    | inr e ↦ reads_later cs at next (export_specifier exported) n a r x ls (later e)
  ]
  specifier_read p cs at next k n a r all later h = reads_later cs at next k n a r x ls (later h)

  named_read : (p : ℕ) (cs : ℕ → Context) (at next : ℕ) (t : Forest) → AllIn ls cs → is_exported x (locals_named p t) ≡ true → Reads (sites cs at next t) x ls
  named_read p cs at next nothing all h = absurd (true≢false (sym h))
  named_read p cs at next (absent r) all h = named_read p cs (suc at) next r all h
  named_read p cs at next (node k n a r) all h = specifier_read p cs at next k n a r all (named_read p cs (suc at) (next + scope_count (node k n a nothing)) r all) h

  -- ---- an export

  list_read : (p : ℕ) (cs : ℕ → Context) (at next : ℕ) (t : Forest) → AllIn ls cs → are_specifiers_first t ≡ true → is_exported x (locals_named p (first_below t)) ≡ true → Reads (sites cs at next t) x ls
  list_read p cs at next (node specifiers n a r) all is h =
      reads_below cs at next specifiers n a r x ls (named_read p (inside (cs at) next specifiers a) 0 (next + opens_one specifiers a) a (λ i. all at) h)
  list_read p cs at next nothing all is h = absurd (true≢false (sym is))
  list_read p cs at next (absent r) all is h = absurd (true≢false (sym is))
  list_read p cs at next (node k n a r) all is h = absurd (true≢false (sym is))

  second_read : (p : ℕ) (cs : ℕ → Context) (next : ℕ) (t : Forest) → AllIn ls cs → are_specifiers_first (behind t) ≡ true → is_exported x (locals_named p (first_below (behind t))) ≡ true → Reads (sites cs 0 next t) x ls
  second_read p cs next nothing all is h = absurd (true≢false (sym is))
  second_read p cs next (absent r) all is h = list_read p cs 1 next r all is h
  second_read p cs next (node k n a r) all is h = reads_later cs 0 next k n a r x ls (list_read p cs 1 (next + scope_count (node k n a nothing)) r all is h)

  export_read : (p : ℕ) (row : Row) (c : Context) (next : ℕ) (k : Kind) (a : Forest) → c.layers ≡ ls → stands_right row k a ≡ true → is_exported x (locals_by k p a) ≡ true
      → Reads (sites (inside c next k a) 0 (next + opens_one k a) a) x ls
  export_read p row c next (export_named_declaration None) a is right h =
      second_read p (inside c next (export_named_declaration None) a) (next + opens_one (export_named_declaration None) a) a (λ i. is) right h
  export_read p row c next k a is right h = absurd (true≢false (sym h))

  items_read : (p : ℕ) (row : Row) (cs : ℕ → Context) (at next : ℕ) (t : Forest) → AllIn ls cs → is_laid_out row t ≡ true → is_exported x (locals_among p t) ≡ true → Reads (sites cs at next t) x ls
  items_read p row cs at next nothing all laid h = absurd (true≢false (sym h))
  items_read p row cs at next (absent r) all laid h = items_read p row cs (suc at) next r all (laid_absent row r laid) h
  items_read p row cs at next (node k n a r) all laid h = elim (either_exported x (locals_by k p a) (locals_among (p + node_count (node k n a nothing)) r) h) [
    | inl e ↦ reads_below cs at next k n a r x ls (export_read p row (cs at) next k a (all at) (laid_right row k n a r laid) e)
    | inr e ↦ reads_later cs at next k n a r x ls (items_read (p + node_count (node k n a nothing)) row cs (suc at) (next + scope_count (node k n a nothing)) r all (laid_behind row k n a r laid) e)
  ]

  -- what lies below a program is its list of items
  pub exported_is_read : (row : Row) (cs : ℕ → Context) (next : ℕ) (a : Forest) → AllIn ls cs → is_list_first a ≡ true → is_laid_out row a ≡ true → is_exported x (locals_among 0 (first_below a)) ≡ true → Reads (sites cs 0 next a) x ls
  exported_is_read row cs next (node statements n a r) all is laid h =
      reads_below cs 0 next statements n a r x ls
      (items_read 0 (row_below row statements) (inside (cs 0) next statements a) 0 (next + opens_one statements a) a (λ i. all 0) (laid_below row statements n a r laid) h)
  exported_is_read row cs next nothing all is laid h = absurd (true≢false (sym is))
  exported_is_read row cs next (absent r) all is laid h = absurd (true≢false (sym is))
  exported_is_read row cs next (node k n a r) all is laid h = absurd (true≢false (sym is))
