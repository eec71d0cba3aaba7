-- Where a statement is an item, a declaration of its names may stand, by the table of node types and by the rules of form.
use Rattle.std.proofs.Common.{◌≡◌, ◌∙◌, ℕ, ◌+◌, List, [], ◌∷◌, ◌++◌, Bool, true, false, not, ◌&&◌, ◌||◌, append-nil, refl, sym, ap, ap₂, subst, true≢false}
use Rattle.std.specs.Prelude.{Option, Some, None, map}
use Rattle.js_syntax.specs.Class.{Class, root, module_item, statement}
use Rattle.js_syntax.specs.declared.node_kind.NodeKind.{NodeKind as Kind}
use Rattle.js_syntax.specs.declared.node_kind.NodeKind.TheVariants.{Statements as statements, BindingName as binding_name}
use Rattle.js_syntax.specs.declared.node_type.NodeType.TheVariants as type
use Rattle.js_syntax.specs.Node.{Note, Forest, nothing, node, absent, Tree, row, alone, forest_of}
use Rattle.js_syntax.specs.Table.{Row as TableRow, a_program, an_if_statement, a_labeled_statement, a_with_statement, a_while_statement, a_do_while_statement, a_for_statement, a_for_in_statement, a_for_of_statement, a_switch_statement, a_try_statement, fields_of, type_of, stands}
use Rattle.js_syntax.proofs.Truth.{first_of_both, second_of_both, both}
use Rattle.form_rules.specs.Context.{Context, has_use_strict}
use Rattle.form_rules.specs.declared.sought.Sought.{Sought}
use Rattle.form_rules.specs.Form.{broken_in}
use Rattle.form_rules.specs.Scope.{declared, declared_here, sought_below}
use Rattle.js_tree.specs.Count.{one_each}
use Rattle.json_shape.specs.Shape.{Values, kind_in, first_of, IsOf, Stand, Fits}
use Rattle.kept_names.specs.Kept.{kept, declarator_of, declaration_of}
use Rattle.min_pass.specs.declared.around.Around.{Around as Asked}
use Rattle.min_pass.specs.declared.around.Row.{Row as AskedRow}
use Rattle.min_pass.specs.declared.around.Row.TheVariants as asked
use Rattle.min_pass.specs.declared.around.Row.TheVariants.{Items as items}
use Rattle.min_pass.specs.Around.{row_below as asked_row_below, entered as asked_entered, outermost as asked_of_program}
use Rattle.scope_laws.proofs.Bindings.{same_value}
use Rattle.scope_laws.specs.Place.{Around as Place, first, behind, behind_none, under, plug}
use Rattle.steps.specs.Allowed.Places.{asked_at, IsItem}
use Rattle.steps.specs.KeepForm.Layout.{is_parts, stands_right, is_laid_out}
use Rattle.steps.specs.KeepForm.Part.{a_var, leaves_names_of, NamesStay}
use Rattle.steps.specs.KeepForm.Sheds.{Row, parts, of_item, of_declarators, other, row_below, asked_below, Around, entered, outermost, Sheds, keeps_absent, keeps, leaves_names}
use Rattle.steps.specs.KeepForm.Sheds as shed
use Rattle.steps.specs.Owed.TakesPlace.{is_told_by_class, TakesPlace}
use Rattle.steps.specs.VarNames.Texts.{named, is_of_catch, may_keep}
use Rattle.steps.specs.VarNames.Declared.{AsStrict}
use Rattle.steps.proofs.KeepForm.Fitting.{fits_laid_out}
use Rattle.steps.proofs.KeepForm.Laid.{laid_absent, laid_right, laid_below, laid_behind}
use Rattle.steps.proofs.KeepForm.Rows.{itself, keeps_itself}
use Rattle.steps.proofs.Owed.FitsBecoming.{becoming_fits}
use Rattle.steps.proofs.Owed.FitsTaking.{as_if}
use Rattle.steps.proofs.Owed.PartForm.{keeps_all}
use Rattle.steps.proofs.Owed.Shedding.{Fit, fit_inside}
use Rattle.steps.proofs.VarNames.Again.{is_name_alone, is_bare_name, are_names, kept_are_names}
use Rattle.steps.proofs.VarNames.Alike.{found_alike}
use Rattle.steps.proofs.VarNames.Formed.{breaks_none}
use Rattle.steps.proofs.VarNames.Stands.{stands_there}

no_kind : {A : Type 0} → false ≡ true → A
no_kind e = absurd (true≢false (sym e))

-- ---- by the rules of form

unasked_inside : (row : AskedRow) (m : Row) (k : Kind) (a : Forest) → stands_right m k a ≡ true → asked_row_below row k ≡ items → asked_below m k ≡ false
unasked_inside row parts statements a right e = refl
unasked_inside row m statements a right e = absurd cc
unasked_inside items m (Kind.VariableDeclaration how) a right e = absurd cc
unasked_inside items m k a right e = absurd cc
unasked_inside asked.OfItem m Kind.Declarators a right e = absurd cc
unasked_inside asked.OfItem m k a right e = absurd cc
unasked_inside asked.Declarators m k a right e = absurd cc
unasked_inside asked.Other m k a right e = absurd cc

module _ (x y : Tree) (var : y.kind ≡ a_var) (stay : NamesStay x.kind x.note x.below y.note y.below) where
  stays_here : (z : Around) (rest : Forest) → z.row ≡ shed.items → z.is_asked ≡ false → Sheds z (node x.kind x.note x.below rest) (node y.kind y.note y.below rest)
  stays_here z rest listed unasked = subst (λ k. Sheds z (node x.kind x.note x.below rest) (node k y.note y.below rest)) (sym var) (leaves_names listed unasked stay (itself z rest))

  shed_there : (a : Place) (z : Around) (w : Asked) → Fit w.row z.row → (w.row ≡ items → z.is_asked ≡ false) → is_laid_out z.row (plug a (Some x)) ≡ true → (asked_at w a).row ≡ items → Sheds z (plug a (Some x)) (plug a (Some y))
  shed_there (first rest) z w fit unasked laid e = stays_here z rest (subst (λ r. Fit r z.row) e fit) (unasked e)
  shed_there (behind k n b a) z w fit unasked laid e = keeps (keeps_itself (row_below z.row k) b) (itself (entered z k b) b) (shed_there a z w fit unasked (laid_behind z.row k n b (plug a (Some x)) laid) e)
  shed_there (behind_none a) z w fit unasked laid e = keeps_absent (shed_there a z w fit unasked (laid_absent z.row (plug a (Some x)) laid) e)
  shed_there (under k n a rest) z w fit unasked laid e =
      let below = plug a (Some x) in
      let right = laid_right z.row k n below rest laid in
      keeps (keeps_all x y (row_below z.row k) a)
      (shed_there a (entered z k below) (asked_entered w k) (fit_inside w.row z.row k below right fit) (unasked_inside w.row z.row k below right) (laid_below z.row k n below rest laid) e)
      (itself z rest)

  names_shed : (a : Place) → IsItem a → Fits root (plug a (Some x)) → Sheds outermost (plug a (Some x)) (plug a (Some y))
  names_shed a item fits = shed_there a outermost (asked_of_program true) tt (λ e. absurd cc) (fits_laid_out (plug a (Some x)) fits) item

-- ---- declarators of names are laid out

one_laid : (k : Kind) (m : Note) (b : Forest) → is_name_alone k b ≡ true → is_laid_out other (node k m b (absent nothing)) ≡ true
one_laid (binding_name x) m nothing h = refl
one_laid (binding_name x) m (absent c) h = absurd cc
one_laid (binding_name x) m (node j i d c) h = absurd cc
one_laid k m b h = absurd cc

never_strict : (ts : List Tree) → has_use_strict (row (map declarator_of ts)) ≡ false
never_strict [] = refl
never_strict (t ∷ ts) = refl

all_laid : (ts : List Tree) → are_names ts ≡ true → is_laid_out of_declarators (row (map declarator_of ts)) ≡ true
all_laid [] h = refl
all_laid (t ∷ ts) h =
    let later = row (map declarator_of ts) in
    let name = node t.kind t.note t.below (absent nothing) in
    both (not (has_use_strict later)) (is_laid_out other name && is_laid_out of_declarators later) (ap not (never_strict ts))
    (both (is_laid_out other name) (is_laid_out of_declarators later) (one_laid t.kind t.note t.below (first_of_both (is_bare_name t) (are_names ts) h)) (all_laid ts (second_of_both (is_bare_name t) (are_names ts) h)))

-- ---- what stays

pub keeps_kind : (k : Kind) → leaves_names_of k ≡ true → may_keep k ≡ true
keeps_kind (Kind.LabeledStatement l) h = refl
keeps_kind Kind.IfStatement h = refl
keeps_kind Kind.WithStatement h = refl
keeps_kind Kind.WhileStatement h = refl
keeps_kind Kind.DoWhileStatement h = refl
keeps_kind Kind.ForStatement h = refl
keeps_kind Kind.ForInStatement h = refl
keeps_kind Kind.ForOfStatement h = refl
keeps_kind Kind.SwitchStatement h = refl
keeps_kind Kind.TryStatement h = refl
keeps_kind k h = no_kind h

record IsDeclared (ts : List Tree) (y : Tree) : Type 0 where
  var : y.kind ≡ a_var
  is : row (declaration_of (map declarator_of ts) ∷ []) ≡ forest_of y
  laid_out : is_laid_out of_item y.below ≡ true
  told : is_told_by_class y.kind ≡ true

is_declared : (ts : List Tree) (y : Tree) → are_names ts ≡ true → declaration_of (map declarator_of ts) ≡ Some y → IsDeclared ts y
is_declared [] y h e = absurd cc
is_declared (t ∷ ts) y h e = subst (IsDeclared (t ∷ ts)) (same_value e) (record { var = refl; is = refl; laid_out = both (is_laid_out of_declarators (row (map declarator_of (t ∷ ts)))) true (all_laid (t ∷ ts) h) refl; told = refl })

module _ (x y : Tree) (holds : leaves_names_of x.kind ≡ true) (fits : Fits statement (forest_of x)) (is : declaration_of (map declarator_of (kept (forest_of x))) ≡ Some y) where
  new : IsDeclared (kept (forest_of x)) y
  new = is_declared (kept (forest_of x)) y (kept_are_names (forest_of x) fits) is

  stays : NamesStay x.kind x.note x.below y.note y.below
  stays = record {
    holds = holds;
    declares = λ s p q calm.
        ap named (sym (append-nil (declared_here s p x.kind ++ declared (sought_below s x.kind) (p + one_each x.kind) x.below)))
        ∙ found_alike x y (keeps_kind x.kind holds) fits is s p q calm
        ∙ ap (λ k. named (declared s q (alone k y.note y.below))) new.var
        ∙ ap named (append-nil (declared_here s q a_var ++ declared (sought_below s a_var) (q + one_each a_var) y.below));
    keeps = λ f g i j p q same head h.
        ap (λ k. broken_in g j q (alone k y.note y.below)) (sym new.var)
        ∙ ap (broken_in g j q) (sym new.is)
        ∙ breaks_none (forest_of x) fits (λ z. f i) g i j p q (λ z. record { strict = ap (λ c. c.strict) (sym same); source = ap (λ c. c.source) (sym same) }) h (ap (λ c. c.is_head) same ∙ head);
    laid_out = new.laid_out;
  }

  pub names_sheds : (a : Place) → IsItem a → Fits root (plug a (Some x)) → Sheds outermost (plug a (Some x)) (plug a (Some y))
  names_sheds a item whole = names_shed x y new.var stays a item whole

  -- ---- by the table of node types

  takes_class : (c : Class) (r : TableRow) (vs : Values (fields_of r)) → leaves_names_of (kind_in r vs) ≡ true → stands c (type_of r) ≡ Some (first_of r) → stands c type.IfStatement ≡ Some an_if_statement
  takes_class statement r vs h stood = refl
  takes_class module_item r vs h stood = refl
  takes_class c a_labeled_statement vs h stood = absurd cc
  takes_class c an_if_statement vs h stood = stood
  takes_class c a_with_statement vs h stood = absurd cc
  takes_class c a_while_statement vs h stood = absurd cc
  takes_class c a_do_while_statement vs h stood = absurd cc
  takes_class c a_for_statement vs h stood = absurd cc
  takes_class c a_for_in_statement vs h stood = absurd cc
  takes_class c a_for_of_statement vs h stood = absurd cc
  takes_class c a_switch_statement vs h stood = absurd cc
  takes_class c a_try_statement vs h stood = absurd cc
  takes_class c a_program vs h stood = no_kind h
  takes_class c r vs h stood = no_kind h

  told_by_class : (k : Kind) → leaves_names_of k ≡ true → is_told_by_class k ≡ true
  told_by_class (Kind.LabeledStatement l) h = refl
  told_by_class Kind.IfStatement h = refl
  told_by_class Kind.WithStatement h = refl
  told_by_class Kind.WhileStatement h = refl
  told_by_class Kind.DoWhileStatement h = refl
  told_by_class Kind.ForStatement h = refl
  told_by_class Kind.ForInStatement h = refl
  told_by_class Kind.ForOfStatement h = refl
  told_by_class Kind.SwitchStatement h = refl
  told_by_class Kind.TryStatement h = refl
  told_by_class k h = no_kind h

  takes : TakesPlace x y
  takes = record {
    classes = λ c of. (as_if y.kind y.below c (takes_class c of.0.0 of.0.1 (sym (ap leaves_names_of of.0.4) ∙ holds) of.0.2) (stands_there (forest_of x) y fits is).0, tt);
    old_told = told_by_class x.kind holds;
    new_told = new.told;
  }

  pub names_fit : (a : Place) → Fits root (plug a (Some x)) → Fits root (plug a (Some y))
  names_fit a whole = becoming_fits a x y takes whole
