-- The flags of the table's scopes go on telling what is exposed.
use Rattle.std.specs.Prelude.{List, [], ◌∷◌, None, map}
use Rattle.std.proofs.Common.{◌≡◌, ◌∙◌, inl, inr, ℕ, suc, Bool, true, false, not, ◌&&◌, ◌||◌, ◌==◌, true≢false, if◌then◌else◌, Option, Some, refl, sym, ap, ap₂, subst}
use Rattle.js_syntax.specs.declared.node_kind.NodeKind.{NodeKind as Kind}
use Rattle.js_syntax.specs.declared.node_kind.NodeKind.TheVariants as kind
use Rattle.js_syntax.specs.declared.kind.FunctionKind.TheVariants as function_kind
use Rattle.js_syntax.specs.declared.kind.ClassKind.TheVariants as class_kind
use Rattle.js_syntax.specs.declared.kind.VariableKind.{VariableKind}
use Rattle.js_syntax.specs.declared.kind.VariableKind.TheVariants as variable
use Rattle.js_syntax.specs.Class.{root}
use Rattle.js_syntax.specs.Node.{Forest, Tree, Note, nothing, node, absent, row, joined, below_of, alone}
use Rattle.js_rebuilt.specs.Rebuilt.{is_operation, Rebuilt, ends, stays, leaves as leaves_whole, opened, built, absent_leaves, absent_comes}
use Rattle.json_shape.specs.Shape.{Fits}
use Rattle.scope_rules.specs.Table.{Scoping}
use Rattle.scope_laws.specs.Lists.{is_list}
use Rattle.scope_laws.specs.Place as places
use Rattle.scope_laws.specs.Place.{Around, first, under}
use Rattle.steps.specs.KeepForm.Part.{gives_way, declares_one}
use Rattle.steps.proofs.Fit.Modules.{fits_program}
use Rattle.steps.specs.Allowed.Edits.{Edit, TreeEdits, no_tree_edit, one_tree_edit}
use Rattle.steps.specs.Allowed.Exposure.{exposed_inside, exposed_at, exposure, is_script, function_is_exposed, evaluates_somewhere, shares, IsOwnFunction, IsOwnDeclarator, IsOwnDeclaration}
use Rattle.steps.specs.Owed.Kept.{is_program}
use Rattle.steps.proofs.Owed.FitsEdits.{edit_fits}
use Rattle.scope_rules.specs.ScopeFlags as scope_flag
use Rattle.scope_table.specs.Reading.{scope_at}
use Rattle.scope_laws.proofs.Bindings.{same_value}
use Rattle.js_syntax.proofs.Truth.{neither, first_of_both, second_of_both}
use Rattle.steps.specs.Marked.Flags.{has_bits, scope_has, is_sloppy_block, Stand, is_within, holds_variables, declares_in, declaring_inside, stand_inside, first_mark, stands_of, stand_at, stand, Tells, Told, FlagsTell}
use Rattle.steps.proofs.KeepForm.Asked.{idle_kinds, tested_kinds, tested_gives}
use Rattle.steps.proofs.Marked.Redeclaring.{redeclared_told, stands_within, out_of_declaration}
use Rattle.kept_names.specs.Kept.{declarator_of}
use Rattle.steps.specs.KeepForm.Part.{a_var}
use Rattle.steps.proofs.VarNames.Again.{is_name_alone, is_bare_name, are_names}
use Rattle.steps.proofs.VarNames.Left.{NamesLeft}
use Rattle.steps.proofs.Marked.Cuts.{Cuts, leaves, empties, empties_idle, tests, states, alternate, parts, rebuilds, names_left, inside, behind, behind_none, edit_cuts}
use Rattle.steps.proofs.Marked.Merged.{merged_told}
use Rattle.steps.proofs.Marked.Passed.{passes_told}
use Rattle.steps.proofs.Marked.Exposing.{holds_no_program, never, part_no_program, Thinner, thinner_itself, thinner_cuts, Less, less_inside, below_stays, less_beside}

-- ---- places: q is of the tree that is there now, p of the one before

record Fewer (q p : Stand) : Type 0 where
  less : Less q.exposure p.exposure
  scope : q.scope ≡ p.scope
  variables : q.variables ≡ p.variables
  declaring : q.declaring ≡ p.declaring

within_same : (k : Kind) (now below : Forest) → Thinner k now below → (at : ℕ) → is_within k now at ≡ is_within k below at
within_same (kind.PropertyDefinition is_static key) now below t at = ap (λ b. b && at == 1) (t.second refl)
within_same k now below t at = refl

declares_same : {q p : Stand} → Fewer q p → (how : VariableKind) → declares_in q how ≡ declares_in p how
declares_same f variable.Var = f.variables
declares_same f variable.Let = f.scope
declares_same f variable.Const = f.scope

declaring_same : {q p : Stand} → Fewer q p → (k : Kind) (at : ℕ) → declaring_inside q k at ≡ declaring_inside p k at
declaring_same f (kind.VariableDeclaration how) at = declares_same f how
declaring_same f (kind.ImportDeclaration source) at = f.scope
declaring_same f (kind.Function function_kind.Declaration pure) at = ap₂ (λ (a b : Option ℕ). if at == 0 then a else b) f.scope f.declaring
declaring_same f (kind.Class class_kind.Declaration) at = ap₂ (λ (a b : Option ℕ). if at == 0 then a else b) f.scope f.declaring
declaring_same f k at = f.declaring

fewer_inside : {q p : Stand} (k : Kind) (n : Note) (now below : Forest) → Thinner k now below → Fewer q p → (at : ℕ) → Fewer (stand_inside q k n now at) (stand_inside p k n below at)
fewer_inside k n now below t f at = record {
  less = less_inside k now below t f.less at;
  scope = ap₂ (λ (b : Bool) (o : Option ℕ). if b then n.id else o) (within_same k now below t at) f.scope;
  variables = ap (λ (o : Option ℕ). if holds_variables k at then n.id else o) f.variables;
  declaring = declaring_same f k at;
}

-- ---- families of places: in a list it doesn't matter which

abbrev Covers : (listed : Bool) → (qs ps : ℕ → Stand) → Type 0
Covers listed qs ps = (i j : ℕ) → (listed ≡ false → i ≡ j) → Fewer (qs i) (ps j)

list_inside : (k : Kind) → is_list k ≡ true → (p : Stand) (n : Note) (below : Forest) (at : ℕ) → stand_inside p k n below at ≡ p
list_inside kind.Statements l p n below at = refl
list_inside kind.Cases l p n below at = refl
list_inside kind.Declarators l p n below at = refl
list_inside kind.Parameters l p n below at = refl
list_inside kind.Members l p n below at = refl
list_inside kind.Elements l p n below at = refl
list_inside kind.Properties l p n below at = refl
list_inside kind.Expressions l p n below at = refl
list_inside kind.Arguments l p n below at = refl
list_inside kind.Quasis l p n below at = refl
list_inside kind.Specifiers l p n below at = refl
list_inside k l p n below at = never l

covers_by : {q p : Stand} (b : Bool) (k : Kind) (n : Note) (now below : Forest) → is_list k ≡ b → Thinner k now below → Fewer q p → Covers b (stand_inside q k n now) (stand_inside p k n below)
covers_by {q = q} {p = p} true k n now below s t f i j e = subst (λ (x : Stand). Fewer x (stand_inside p k n below j)) (sym (list_inside k s q n now i)) (subst (λ (x : Stand). Fewer q x) (sym (list_inside k s p n below j)) f)
covers_by {q = q} {p = p} false k n now below s t f i j e = subst (λ (m : ℕ). Fewer (stand_inside q k n now i) (stand_inside p k n below m)) (e refl) (fewer_inside k n now below t f i)

covers_inside : {q p : Stand} (k : Kind) (n : Note) (now below : Forest) → Thinner k now below → Fewer q p → Covers (is_list k) (stand_inside q k n now) (stand_inside p k n below)
covers_inside k n now below t f = covers_by (is_list k) k n now below refl t f

-- what a part of a node may stand for leaves its parts where it stands
plain_inside : (k : Kind) → gives_way k ≡ true → (p : Stand) (n : Note) (below : Forest) (at : ℕ) → stand_inside p k n below at ≡ p
plain_inside kind.IfStatement g p n below at = refl
plain_inside kind.TryStatement g p n below at = refl
plain_inside kind.ConditionalExpression g p n below at = refl
plain_inside (kind.LogicalExpression operator) g p n below at = refl
plain_inside (kind.UnaryExpression operator) g p n below at = refl
plain_inside (kind.BinaryExpression operator) g p n below at = refl
plain_inside k g p n below at = never g

-- and so does an operation
pub operation_inside : (k : Kind) → is_operation k ≡ true → (p : Stand) (n : Note) (below : Forest) (at : ℕ) → stand_inside p k n below at ≡ p
operation_inside (kind.Program source) g p n below at = absurd cc
operation_inside (kind.Function how pure) g p n below at = absurd cc
operation_inside (kind.Class how) g p n below at = absurd cc
operation_inside kind.StaticBlock g p n below at = absurd cc
operation_inside (kind.PropertyDefinition is_static key) g p n below at = absurd cc
operation_inside kind.BlockStatement g p n below at = absurd cc
operation_inside kind.SwitchStatement g p n below at = absurd cc
operation_inside kind.WithStatement g p n below at = absurd cc
operation_inside kind.CatchClause g p n below at = absurd cc
operation_inside kind.ForStatement g p n below at = absurd cc
operation_inside kind.ForInStatement g p n below at = absurd cc
operation_inside kind.ForOfStatement g p n below at = absurd cc
operation_inside (kind.VariableDeclaration how) g p n below at = absurd cc
operation_inside (kind.ImportDeclaration source) g p n below at = absurd cc
operation_inside k g p n below at = refl

-- ---- what is told stays told

module _ (s : Scoping) (script : Bool) where
  tells_less : {q p : Stand} → Fewer q p → Tells s script p → Tells s script q
  tells_less f h = record {
    scope = h.scope;
    scope_is = f.scope ∙ h.scope_is;
    variables = h.variables;
    variables_is = f.variables ∙ h.variables_is;
    declaring = h.declaring;
    declaring_is = f.declaring ∙ h.declaring_is;
    evaluates = λ e. h.evaluates (f.less.evaluates e);
    sloppy = λ e. h.sloppy (f.less.sloppy e);
    names = λ e. h.names (f.less.names e);
    variable_names = λ e. h.variable_names (f.less.variables e);
    declared = λ e. h.declared (f.less.declared e);
  }

  row_stays : (listed : Bool) (t : Forest) (qs ps : ℕ → Stand) (i j : ℕ) → Covers listed qs ps → (listed ≡ false → i ≡ j) → Told s script ps j t → Told s script qs i t
  row_stays listed nothing qs ps i j c f h = tt
  row_stays listed (absent rest) qs ps i j c f h = row_stays listed rest qs ps (suc i) (suc j) c (λ l. ap suc (f l)) h
  row_stays listed (node k n below rest) qs ps i j c f h = (
    tells_less (c i j f) h.0,
    row_stays (is_list k) below (stand_inside (qs i) k n below) (stand_inside (ps j) k n below) 0 0 (covers_inside k n below below (thinner_itself k below) (c i j f)) (λ l. refl) h.1,
    row_stays listed rest qs ps (suc i) (suc j) c (λ l. ap suc (f l)) h.2,
  )

  part_told : (p : Stand) (v : Forest) (l : Kind) (n : Note) (b w : Forest) (at : ℕ) → Told s script (λ i. p) at (joined v (node l n b w)) → Told s script (stand_inside p l n b) 0 b
  part_told p nothing l n b w at h = h.1
  part_told p (absent v) l n b w at h = part_told p v l n b w (suc at) h
  part_told p (node k m c v) l n b w at h = part_told p v l n b w (suc at) h.2

  -- at one place, at which a node stands, rows are rebuilt
  module _ (p : Stand) (here : Tells s script p) where
    abbrev There : Forest → Type 0
    There t = Told s script (λ i. p) 0 t

    anywhere : (t : Forest) (i j : ℕ) → Told s script (λ i. p) i t → Told s script (λ i. p) j t
    anywhere nothing i j h = tt
    anywhere (absent r) i j h = anywhere r (suc i) (suc j) h
    anywhere (node k n a r) i j h = (h.0, h.1, anywhere r (suc i) (suc j) h.2)

    both_told : (t u : Forest) → There t → There u → There (joined t u)
    both_told nothing u h g = g
    both_told (absent r) u h g = anywhere (joined r u) 0 1 (both_told r u (anywhere r 1 0 h) g)
    both_told (node k n a r) u h g = (h.0, h.1, anywhere (joined r u) 0 1 (both_told r u (anywhere r 1 0 h.2) g))

    before_told : (t u : Forest) → There (joined t u) → There t
    before_told nothing u h = tt
    before_told (absent r) u h = anywhere r 0 1 (before_told r u (anywhere (joined r u) 1 0 h))
    before_told (node k n a r) u h = (h.0, h.1, anywhere r 0 1 (before_told r u (anywhere (joined r u) 1 0 h.2)))

    after_told : (t u : Forest) → There (joined t u) → There u
    after_told nothing u h = h
    after_told (absent r) u h = after_told r u (anywhere (joined r u) 1 0 h)
    after_told (node k n a r) u h = after_told r u (anywhere (joined r u) 1 0 h.2)

    same_there : (k : Kind) (n : Note) (a : Forest) → is_operation k ≡ true → stand_inside p k n a ≡ (λ at. p)
    same_there k n a is = λ z. λ at. operation_inside k is p n a at z

    rebuilt_told : {t u : Forest} → Rebuilt t u → There t → There u
    rebuilt_told ends h = tt
    rebuilt_told (stays {r = r} {s = q} rest) h = (h.0, h.1, anywhere q 0 1 (rebuilt_told rest (anywhere r 1 0 h.2)))
    rebuilt_told (leaves_whole {r = r} rest) h = rebuilt_told rest (anywhere r 1 0 h.2)
    rebuilt_told (opened {k = k} {n = n} {a = a} {r = r} is rest) h =
        rebuilt_told rest (both_told a r (subst (λ (f : ℕ → Stand). Told s script f 0 a) (same_there k n a is) h.1) (anywhere r 1 0 h.2))
    rebuilt_told (built {l = l} {m = m} {b = b} {s = q} may rest) h =
        let below = rebuilt_told rest h in
        (here, subst (λ (f : ℕ → Stand). Told s script f 0 b) (sym (same_there l m b may.operation)) (before_told b q below), anywhere q 0 1 (after_told b q below))
    rebuilt_told (absent_leaves {r = r} rest) h = rebuilt_told rest (anywhere r 1 0 h)
    rebuilt_told (absent_comes {s = q} rest) h = anywhere q 0 1 (rebuilt_told rest h)

  -- names declare where `var` does
  in_var : Stand → Stand
  in_var p = record { exposure = exposed_inside p.exposure a_var nothing 0; scope = p.scope; variables = p.variables; declaring = p.variables }

  told_in_var : (p : Stand) → Tells s script p → Tells s script (in_var p)
  unfolding in_var
  told_in_var p h = record {
    scope = h.scope;
    scope_is = h.scope_is;
    variables = h.variables;
    variables_is = h.variables_is;
    declaring = h.variables;
    declaring_is = h.variables_is;
    evaluates = h.evaluates;
    sloppy = h.sloppy;
    names = h.names;
    variable_names = h.variable_names;
    declared = h.variable_names;
  }

  one_told : (q : Stand) → Tells s script q → (k : Kind) (n m : Note) (b rest : Forest) (at : ℕ) → is_name_alone k b ≡ true → Told s script (λ i. q) (suc at) rest
      → Told s script (λ i. q) at (node kind.VariableDeclarator n (node k m b (absent nothing)) rest)
  one_told q h (kind.BindingName x) n m nothing rest at is later = (h, (h, tt, tt), later)
  one_told q h (kind.BindingName x) n m (absent r) rest at is later = absurd cc
  one_told q h (kind.BindingName x) n m (node j i c r) rest at is later = absurd cc
  one_told q h k n m b rest at is later = absurd cc

  all_told : (q : Stand) → Tells s script q → (at : ℕ) (ts : List Tree) → are_names ts ≡ true → Told s script (λ i. q) at (row (map declarator_of ts))
  all_told q h at [] is = tt
  all_told q h at (t ∷ ts) is =
      one_told q h t.kind (record { span = t.note.span; id = None }) t.note t.below (row (map declarator_of ts)) at (first_of_both (is_bare_name t) (are_names ts) is) (all_told q h (suc at) ts (second_of_both (is_bare_name t) (are_names ts) is))

  names_told : (p : Stand) → Tells s script p → {k : Kind} {n m : Note} {a b : Forest} → NamesLeft k n a m b → Told s script (stand_inside p a_var m b) 0 b
  unfolding in_var
  names_told p h {m = m} made =
      let q = in_var p in
      let here = told_in_var p h in
      subst (λ b. Told s script (stand_inside p a_var m b) 0 b) (sym made.is) (here, all_told q here 0 made.names made.bare, tt)

  cuts_told : (listed : Bool) (t u : Forest) → Cuts listed t u → (qs ps : ℕ → Stand) (i j : ℕ) → Covers listed qs ps → (listed ≡ false → i ≡ j) → Told s script ps j t → Told s script qs i u
  cuts_told listed t u (leaves k n below rest plain) qs ps i j c f h = row_stays true rest qs ps i (suc j) c (λ l. absurd (true≢false l)) h.2
  cuts_told listed t u (empties r n m below rest) qs ps i j c f h = (tells_less (c i j f) h.0, tt, row_stays r rest qs ps (suc i) (suc j) c (λ l. ap suc (f l)) h.2)
  cuts_told listed t u (empties_idle r k n m below rest idle) qs ps i j c f h = (tells_less (c i j f) h.0, tt, row_stays r rest qs ps (suc i) (suc j) c (λ l. ap suc (f l)) h.2)
  cuts_told listed t u (tests r k l n m x b after rest tested) qs ps i j c f h =
      let whole = node l x b after in
      let same : stand_inside (ps j) k n whole ≡ (λ at. ps j) = λ z. λ at. plain_inside k (tested_gives k tested) (ps j) n whole at z in
      let inner = part_told (ps j) nothing l x b after 0 (subst (λ xs. Told s script xs 0 whole) same h.1) in (
        tells_less (c i j f) h.0,
        (
          tells_less (c i j f) h.0,
          row_stays (is_list l) b (stand_inside (qs i) l x b) (stand_inside (ps j) l x b) 0 0 (covers_inside l x b b (thinner_itself l b) (c i j f)) (λ e. refl) inner,
          tt,
        ),
        row_stays r rest qs ps (suc i) (suc j) c (λ e. ap suc (f e)) h.2,
      )
  cuts_told listed t u (states r how x k n m l j y o b rest none) qs ps i z c f h =
      let p = ps z in
      let given = stand_inside p (kind.VariableDeclaration how) n (declares_one m l j x (alone k y b)) 0 in
      let inner = redeclared_told s script b (stand_inside p k y b) (stand_inside given k y b) 0 (λ at. stands_within s script p given (out_of_declaration s script p how n (declares_one m l j x (alone k y b)) h.0) h.0 k y b at) h.1.1.1.2.1 in (
        tells_less (c i z f) h.0,
        (
          tells_less (c i z f) h.0,
          row_stays (is_list k) b (stand_inside (qs i) k y b) (stand_inside p k y b) 0 0 (covers_inside k y b b (thinner_itself k b) (c i z f)) (λ e. refl) inner,
          tt,
        ),
        row_stays r rest qs ps (suc i) (suc z) c (λ e. ap suc (f e)) h.2,
      )
  cuts_told listed t u (alternate y l m n o d b) qs ps i j c f h =
      let behind_first = c (suc i) (suc j) (λ e. ap suc (f e)) in (
        tells_less (c i j f) h.0,
        row_stays (is_list y) d (stand_inside (qs i) y m d) (stand_inside (ps j) y m d) 0 0 (covers_inside y m d d (thinner_itself y d) (c i j f)) (λ e. refl) h.1,
        (
          tells_less behind_first h.2.0,
          row_stays (is_list l) b (stand_inside (qs (suc i)) l n b) (stand_inside (ps (suc j)) l n b) 0 0 (covers_inside l n b b (thinner_itself l b) behind_first) (λ e. refl) h.2.1,
          tt,
        ),
      )
  cuts_told listed t u (parts r k l m n b v w rest gives unasked) qs ps i j c f h =
      let whole = joined v (node l n b w) in
      let same : stand_inside (ps j) k m whole ≡ (λ at. ps j) = λ z. λ at. plain_inside k gives (ps j) m whole at z in
      let inner = part_told (ps j) v l n b w 0 (subst (λ xs. Told s script xs 0 whole) same h.1) in (
        tells_less (c i j f) h.0,
        row_stays (is_list l) b (stand_inside (qs i) l n b) (stand_inside (ps j) l n b) 0 0 (covers_inside l n b b (thinner_itself l b) (c i j f)) (λ e. refl) inner,
        row_stays r rest qs ps (suc i) (suc j) c (λ e. ap suc (f e)) h.2,
      )
  cuts_told listed t u (rebuilds r k l n m a b rest made) qs ps i j c f h =
      let new = rebuilt_told (ps j) h.0 made.rebuilt (h.0, h.1, tt) in (
        tells_less (c i j f) new.0,
        row_stays (is_list l) b (stand_inside (qs i) l m b) (stand_inside (ps j) l m b) 0 0 (covers_inside l m b b (thinner_itself l b) (c i j f)) (λ e. refl) new.1,
        row_stays r rest qs ps (suc i) (suc j) c (λ e. ap suc (f e)) h.2,
      )
  cuts_told listed t u (names_left r k n m a b rest made) qs ps i j c f h =
      let here = tells_less (c i j f) h.0 in
      (here, names_told (qs i) here made, row_stays r rest qs ps (suc i) (suc j) c (λ e. ap suc (f e)) h.2)
  cuts_told listed t u (inside r k n below now rest called g) qs ps i j c f h = (
    tells_less (c i j f) h.0,
    cuts_told (is_list k) below now g (stand_inside (qs i) k n now) (stand_inside (ps j) k n below) 0 0 (covers_inside k n now below (thinner_cuts k below now g) (c i j f)) (λ l. refl) h.1,
    row_stays r rest qs ps (suc i) (suc j) c (λ l. ap suc (f l)) h.2,
  )
  cuts_told listed t u (behind r k n below rest now g) qs ps i j c f h = (
    tells_less (c i j f) h.0,
    row_stays (is_list k) below (stand_inside (qs i) k n below) (stand_inside (ps j) k n below) 0 0 (covers_inside k n below below (thinner_itself k below) (c i j f)) (λ l. refl) h.1,
    cuts_told r rest now g qs ps (suc i) (suc j) c (λ l. ap suc (f l)) h.2,
  )
  cuts_told listed t u (behind_none r rest now g) qs ps i j c f h = cuts_told r rest now g qs ps (suc i) (suc j) c (λ l. ap suc (f l)) h

-- ---- whole programs

script_first : (k : Kind) (n m : Note) (a b c d : Forest) → is_script (node k n a c) ≡ is_script (node k m b d)
script_first (kind.Program source) n m a b c d = refl
script_first k n m a b c d = refl

pub no_program : (k : Kind) (n : Note) (b rest : Forest) → gives_way k ≡ true → is_program (node k n b rest) ≡ false
no_program (kind.Program source) n b rest g = never g
no_program k n b rest g = refl

record SameRoot (t u : Forest) : Type 0 where
  script : is_script u ≡ is_script t
  mark : first_mark u ≡ first_mark t

root_stays : (listed : Bool) (t u : Forest) → Cuts listed t u → listed ≡ false → is_program t ≡ true → SameRoot t u
root_stays listed t u (leaves k n below rest plain) l e = absurd (true≢false l)
root_stays listed t u (empties r n m below rest) l e = never e
root_stays listed t u (empties_idle r k n m below rest idle) l e = never (idle_kinds (λ z. false ≡ is_program (node z n below rest)) refl refl refl refl refl (λ label. refl) k idle ∙ e)
root_stays listed t u (tests r k x n m i b after rest tested) l e = never (tested_kinds (λ z. false ≡ is_program (node z n (node x i b after) rest)) refl k tested ∙ e)
root_stays listed t u (states r how x k n m l j i o b rest none) q e = never e
root_stays listed t u (alternate y l i j o d b) m e =
    record { script = script_first y i i d d (node l j b (absent nothing)) (node l j b (node kind.EmptyStatement o nothing nothing)); mark = refl }
root_stays listed t u (parts r k x i j b v w rest gives unasked) l e = never (sym (no_program k i (joined v (node x j b w)) rest gives) ∙ e)
root_stays listed t u (rebuilds r k x n m a b rest made) l e = never (sym (part_no_program k n a rest made.old_unasked) ∙ e)
root_stays listed t u (names_left r k n m a b rest made) l e = never (sym (holds_no_program k n a rest made.holds) ∙ e)
root_stays listed t u (inside r k n below now rest called h) l e = record { script = script_first k n n now below rest rest; mark = refl }
root_stays listed t u (behind r k n below rest now h) l e = record { script = script_first k n n below below now rest; mark = refl }
root_stays listed t u (behind_none r rest now h) l e = never e

cut_told : (s : Scoping) (t u : Forest) → Cuts false t u → Fits root t → FlagsTell s t → FlagsTell s u
cut_told s t u c fits h =
    let is = fits_program t fits in
    let same = root_stays false t u c refl is in
    let first_same : (i j : ℕ) → i ≡ j → Fewer (stands_of u i) (stands_of t j) = λ i j f. subst (λ (m : ℕ). Fewer (stands_of u i) (stands_of t m)) f
    (record { less = less_beside (is_script u) (is_script t) (below_of u) (below_of t) same.script (below_stays false t u c refl is) i; scope = same.mark; variables = same.mark; declaring = same.mark }) in
    subst (λ b. Told s b (stands_of u) 0 u) (sym same.script) (cuts_told s (is_script t) false t u c (stands_of u) (stands_of t) 0 0 (λ i j f. first_same i j (f refl)) (λ l. refl) h)

edit_told : (s : Scoping) (t u : Forest) → Edit t u → Fits root t → FlagsTell s t → FlagsTell s u
edit_told s t u e fits h = elim (edit_cuts t u e fits) [
  | inl c ↦ cut_told s t u c fits h
  | inr (inl m) ↦ merged_told s t u m h
  | inr (inr p) ↦ passes_told s t u p h
]

pub edits_told : (s : Scoping) (t u : Forest) → TreeEdits t u → Fits root t → FlagsTell s t → FlagsTell s u
edits_told s t u (no_tree_edit v) fits h = h
edits_told s t u (one_tree_edit v w x e more) fits h = edits_told s w x more (edit_fits v w e fits) (edit_told s v w e fits h)

-- ---- by the flags alone

abbrev is_sloppy : ℕ → Bool
is_sloppy flags = not (has_bits flags scope_flag.strict_mode || has_bits flags scope_flag.top || has_bits flags scope_flag.function || has_bits flags scope_flag.class_static_block)

module _ (s now : Scoping) (script : Bool) (same : (n : ℕ) → (scope_at now n).flags ≡ (scope_at s n).flags) where
  same_tells : (p : Stand) → Tells s script p → Tells now script p
  same_tells p h = record {
    scope = h.scope;
    scope_is = h.scope_is;
    variables = h.variables;
    variables_is = h.variables_is;
    declaring = h.declaring;
    declaring_is = h.declaring_is;
    evaluates = λ e. ap (λ n. has_bits n scope_flag.direct_eval) (same h.scope) ∙ h.evaluates e;
    sloppy = λ e. ap is_sloppy (same h.scope) ∙ h.sloppy e;
    names = h.names;
    variable_names = h.variable_names;
    declared = h.declared;
  }

  same_told : (ps : ℕ → Stand) (at : ℕ) (t : Forest) → Told s script ps at t → Told now script ps at t
  same_told ps at nothing h = tt
  same_told ps at (absent rest) h = same_told ps (suc at) rest h
  same_told ps at (node k n below rest) h = (same_tells (ps at) h.0, same_told (stand_inside (ps at) k n below) 0 below h.1, same_told ps (suc at) rest h.2)

pub flags_alone : (t : Forest) (s now : Scoping) → ((n : ℕ) → (scope_at now n).flags ≡ (scope_at s n).flags) → FlagsTell s t → FlagsTell now t
flags_alone t s now same h = same_told s now (is_script t) same (stands_of t) 0 t h

-- ---- at a place

told_there : (s : Scoping) (script : Bool) (ps : ℕ → Stand) (at : ℕ) (a : Around) (x : Tree) → Told s script ps at (places.plug a (Some x)) → Tells s script (stand_at ps at a (Some x))
told_there s script ps at (first rest) x h = h.0
told_there s script ps at (places.behind k n below a) x h = told_there s script ps (suc at) a x h.2
told_there s script ps at (places.behind_none a) x h = told_there s script ps (suc at) a x h
told_there s script ps at (under k n a rest) x h = told_there s script (stand_inside (ps at) k n (places.plug a (Some x))) 0 a x h.1

pub told_at : (s : Scoping) (a : Around) (x : Tree) → FlagsTell s (places.plug a (Some x)) → Tells s (is_script (places.plug a (Some x))) (stand a (Some x))
told_at s a x h = told_there s (is_script (places.plug a (Some x))) (stands_of (places.plug a (Some x))) 0 a x h

stands_exposed : (ps : ℕ → Stand) (at : ℕ) (a : Around) (x : Option Tree) → (stand_at ps at a x).exposure ≡ exposed_at (λ i. (ps i).exposure) at a x
stands_exposed ps at (first rest) x = refl
stands_exposed ps at (places.behind k n below a) x = stands_exposed ps (suc at) a x
stands_exposed ps at (places.behind_none a) x = stands_exposed ps (suc at) a x
stands_exposed ps at (under k n a rest) x = stands_exposed (stand_inside (ps at) k n (places.plug a x)) 0 a x

pub stand_exposed : (a : Around) (x : Option Tree) → (stand a x).exposure ≡ exposure a x
stand_exposed a x = stands_exposed (stands_of (places.plug a x)) 0 a x

-- ---- what is hidden

same_number : (o : Option ℕ) (m n : ℕ) → o ≡ Some m → o ≡ Some n → m ≡ n
same_number o m n e f = same_value (sym e ∙ f)

unless : (x y : Bool) → (x ≡ true → y ≡ true) → y ≡ false → x ≡ false
unless true y f e = absurd (true≢false (sym (f refl) ∙ e))
unless false y f e = refl

pub function_hidden : (a : Around) (x : Tree) → (s : Scoping) → FlagsTell s (places.plug a (Some x)) → (n : ℕ) → (stand a (Some x)).scope ≡ Some n
    → is_script (places.plug a (Some x)) && n == 0 ≡ false → scope_has s n scope_flag.direct_eval ≡ false → is_sloppy_block s n ≡ false → IsOwnFunction a (Some x)
function_hidden a x s h n is shared evaluates sloppy =
    let t = told_at s a x h in
    let same : t.scope ≡ n = same_number (stand a (Some x)).scope t.scope n t.scope_is is in
    let e = (stand a (Some x)).exposure in
    subst (λ e. function_is_exposed e ≡ false) (stand_exposed a (Some x))
    (neither (e.names_shared || e.evaluates) e.in_sloppy_block
    (neither e.names_shared e.evaluates (unless e.names_shared (is_script (places.plug a (Some x)) && n == 0) (λ g. ap (λ m. is_script (places.plug a (Some x)) && m == 0) (sym same) ∙ t.names g) shared)
    (unless e.evaluates (scope_has s n scope_flag.direct_eval) (λ g. ap (λ m. scope_has s m scope_flag.direct_eval) (sym same) ∙ t.evaluates g) evaluates))
    (unless e.in_sloppy_block (is_sloppy_block s n) (λ g. ap (λ m. is_sloppy_block s m) (sym same) ∙ t.sloppy g) sloppy))

pub declarator_hidden : (a : Around) (x : Tree) → (s : Scoping) → FlagsTell s (places.plug a (Some x)) → (n : ℕ) → (stand a (Some x)).declaring ≡ Some n
    → is_script (places.plug a (Some x)) && n == 0 ≡ false → evaluates_somewhere (places.plug a (Some x)) ≡ false → IsOwnDeclarator a (Some x)
declarator_hidden a x s h n is shared none =
    let t = told_at s a x h in
    let same : t.declaring ≡ n = same_number (stand a (Some x)).declaring t.declaring n t.declaring_is is in
    let e = (stand a (Some x)).exposure in
    subst (λ e. e.declared_shared || evaluates_somewhere (places.plug a (Some x)) ≡ false) (stand_exposed a (Some x))
    (neither e.declared_shared (evaluates_somewhere (places.plug a (Some x)))
    (unless e.declared_shared (is_script (places.plug a (Some x)) && n == 0) (λ g. ap (λ m. is_script (places.plug a (Some x)) && m == 0) (sym same) ∙ t.declared g) shared) none)

shares_told : (s : Scoping) (script : Bool) (p : Stand) → Tells s script p → (how : VariableKind) (n : ℕ) → declares_in p how ≡ Some n → script && n == 0 ≡ false → shares p.exposure how ≡ false
shares_told s script p t variable.Var n is shared =
    let same = same_number p.variables t.variables n t.variables_is is in unless p.exposure.variables_shared (script && n == 0) (λ g. ap (λ m. script && m == 0) (sym same) ∙ t.variable_names g) shared
shares_told s script p t variable.Let n is shared = let same = same_number p.scope t.scope n t.scope_is is in unless p.exposure.names_shared (script && n == 0) (λ g. ap (λ m. script && m == 0) (sym same) ∙ t.names g) shared
shares_told s script p t variable.Const n is shared = let same = same_number p.scope t.scope n t.scope_is is in unless p.exposure.names_shared (script && n == 0) (λ g. ap (λ m. script && m == 0) (sym same) ∙ t.names g) shared

pub declaration_hidden : (how : VariableKind) (a : Around) (x : Tree) → (s : Scoping) → FlagsTell s (places.plug a (Some x)) → (n : ℕ) → declares_in (stand a (Some x)) how ≡ Some n
    → is_script (places.plug a (Some x)) && n == 0 ≡ false → evaluates_somewhere (places.plug a (Some x)) ≡ false → IsOwnDeclaration how a (Some x)
declaration_hidden how a x s h n is shared none =
    subst (λ e. shares e how || evaluates_somewhere (places.plug a (Some x)) ≡ false) (stand_exposed a (Some x))
    (neither (shares (stand a (Some x)).exposure how) (evaluates_somewhere (places.plug a (Some x))) (shares_told s (is_script (places.plug a (Some x))) (stand a (Some x)) (told_at s a x h) how n is shared) none)

none_evaluates : (s : Scoping) (t : Forest) → is_program t ≡ true → FlagsTell s t → (n : ℕ) → first_mark t ≡ Some n → scope_has s n scope_flag.direct_eval ≡ false → evaluates_somewhere t ≡ false
none_evaluates s (node k m below rest) e h n is none =
    let same : h.0.scope ≡ n = same_number m.id h.0.scope n h.0.scope_is is in
    unless (evaluates_somewhere (node k m below rest)) (scope_has s n scope_flag.direct_eval) (λ g. ap (λ i. scope_has s i scope_flag.direct_eval) (sym same) ∙ h.0.evaluates g) none
none_evaluates s (absent rest) e h n is none = never e
none_evaluates s nothing e h n is none = never e

pub no_eval : (t : Forest) → Fits root t → (s : Scoping) → FlagsTell s t → (n : ℕ) → first_mark t ≡ Some n → scope_has s n scope_flag.direct_eval ≡ false → evaluates_somewhere t ≡ false
no_eval t fits s h n is none = none_evaluates s t (fits_program t fits) h n is none
