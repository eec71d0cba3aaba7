-- What edits leave of a program exports no declaration that it did not.
use Rattle.std.specs.Prelude.{None, map}
use Rattle.std.proofs.Common.{◌≡◌, ◌∙◌, ◌<◌, ◌+◌, ◌==◌, ℕ, suc, List, [], ◌∷◌, ◌++◌, Bool, true, false, ◌&&◌, ◌||◌, true≢false, if◌then◌else◌, inl, inr, append-nil, refl, sym, ap, ap₂, subst, arith, Option, ◌⊎◌}
use Rattle.js_syntax.specs.declared.node_kind.NodeKind.{NodeKind as Kind}
use Rattle.js_syntax.specs.declared.node_kind.NodeKind.TheVariants as kind
use Rattle.js_syntax.specs.declared.kind.FunctionKind.{FunctionKind}
use Rattle.js_syntax.specs.declared.kind.FunctionKind.TheVariants as function_kind
use Rattle.js_syntax.specs.declared.kind.ClassKind.{ClassKind}
use Rattle.js_syntax.specs.declared.kind.ClassKind.TheVariants as class_kind
use Rattle.js_syntax.specs.declared.kind.MethodKind.{MethodKind}
use Rattle.js_syntax.specs.declared.kind.MethodKind.TheVariants as method_kind
use Rattle.js_syntax.specs.declared.kind.VariableKind.TheVariants as variable
use Rattle.js_syntax.specs.declared.scalar.SourceType.{SourceType}
use Rattle.js_syntax.specs.Class.{root}
use Rattle.js_syntax.specs.Node.{Forest, Note, nothing, node, absent, joined, alone, Tree, nowhere, row}
use Rattle.js_syntax.proofs.Truth.{first_of_both, second_of_both}
use Rattle.json_shape.specs.Shape.{Fits}
use Rattle.scope_rules.specs.declared.layer.Layer.{Layer}
use Rattle.scope_rules.specs.declared.layer.Role.{Role}
use Rattle.scope_rules.specs.Context.{Context, has_second, own_name_of, body_of, in_body, in_block, declares, at_function_name, at_parameters, in_function, at_class_name, below_it, used, of_method, inside, outermost}
use Rattle.scope_rules.specs.Binding.{same_layer}
use Rattle.scope_rules.specs.Site.{Site, scope_site, ScopeSite, BindingSite, own_sites, opens_one, scope_count, sites, bindings_among}
use Rattle.scope_laws.specs.Exact.{Among}
use Rattle.scope_laws.specs.Lists.{is_list}
use Rattle.scope_counts.specs.Counts.{Decl, no_part, aims_inside, hoisted, Aims}
use Rattle.scope_counts.specs.Sites.{decls_in}
use Rattle.scope_counts.proofs.Layers.{aims_at}
use Rattle.scope_counts.proofs.Counting.{hoisted_are}
use Rattle.scope_counts.proofs.Names.{same_layer_true}
use Rattle.scope_counts.proofs.Whole.{same_layer_same}
use Rattle.kept_names.specs.Kept.{declarator_of}
use Rattle.steps.specs.KeepForm.Part.{gives_way, declares_one, a_var}
use Rattle.steps.proofs.VarNames.Again.{is_name_alone, is_bare_name, are_names}
use Rattle.steps.proofs.VarNames.Left.{NamesLeft}
use Rattle.steps.specs.Naming.Standing.{is_export, exported_sites, exported_declarations}
use Rattle.steps.proofs.Naming.Sites.{InThree, in_first, in_second, in_third, binding_in, binding_left, binding_second, binding_third}
use Rattle.steps.proofs.Fit.Modules.{fits_program}
use Rattle.steps.specs.Allowed.Edits.{Edit, TreeEdits, no_tree_edit, one_tree_edit}
use Rattle.steps.specs.Owed.Kept.{is_program}
use Rattle.steps.specs.Owed.Part.{DeclaresNothing}
use Rattle.steps.proofs.Owed.FitsEdits.{edit_fits}
use Rattle.steps.specs.Marked.Exports.{IsMarkedAmong, WasExported}
use Rattle.steps.proofs.KeepForm.Asked.{idle_kinds, tested_kinds, tested_gives}
use Rattle.steps.proofs.Marked.Cuts.{Cuts, leaves, empties, empties_idle, tests, states, alternate, parts, rebuilds, inside as cut_inside, behind, behind_none, edit_cuts, names_left}
use Rattle.steps.proofs.Marked.Merged.{same_exports}
use Rattle.steps.proofs.Marked.Passed as passed
use Rattle.steps.proofs.Marked.Telling.{no_program}
use Rattle.steps.proofs.Marked.Exposing.{never, part_no_program, holds_no_program, thinner_cuts}

-- ---- contexts: what declares in the program's own scope now declared there before

record Ahead (q p : Context) : Type 0 where
  variables : q.variables.scope ≡ 0 → p.variables.scope ≡ 0
  block : q.block.scope ≡ 0 → p.block.scope ≡ 0
  declaring : q.declaring.layer.scope ≡ 0 → p.declaring.layer.scope ≡ 0

fresh : {P : Type 0} (n : ℕ) → 0 < n → n ≡ 0 → P
fresh n h e = absurd (Prim.omega (arith, h, e))

ahead_if : {q r p o : Context} (b : Bool) → Ahead q p → Ahead r o → Ahead (if b then q else r) (if b then p else o)
ahead_if true h g = h
ahead_if false h g = g

ahead_below : {q p : Context} → Ahead q p → Ahead (below_it q) (below_it p)
ahead_below h = record { variables = h.variables; block = h.block; declaring = h.declaring }

ahead_used : {q p : Context} (r o : Role) → Ahead q p → Ahead (used r q) (used o p)
ahead_used r o h = record { variables = h.variables; block = h.block; declaring = h.declaring }

ahead_method : {q p : Context} (how : MethodKind) → Ahead q p → Ahead (of_method q how) (of_method p how)
ahead_method method_kind.Constructor h = record { variables = h.variables; block = h.block; declaring = h.declaring }
ahead_method how h = ahead_below h

ahead_declares : {q p : Context} (l m : Layer) (flags : ℕ) (pure : Bool) → Ahead q p → (l.scope ≡ 0 → m.scope ≡ 0) → Ahead (declares q l flags pure) (declares p m flags pure)
ahead_declares l m flags pure h f = record { variables = h.variables; block = h.block; declaring = f }

module _ (q p : Context) (next other : ℕ) (some : 0 < next) (h : Ahead q p) where
  ahead_body : (s o : Bool) → Ahead (in_body q next s) (in_body p other o)
  ahead_body s o = record { variables = fresh next some; block = fresh next some; declaring = h.declaring }

  ahead_block : (s o : Bool) → Ahead (in_block q next s) (in_block p other o)
  ahead_block s o = record { variables = h.variables; block = fresh next some; declaring = h.declaring }

  ahead_function_name : (how : FunctionKind) (pure : Bool) → Ahead (at_function_name q next how pure) (at_function_name p other how pure)
  ahead_function_name function_kind.Declaration pure = ahead_declares q.block p.block _ pure h h.block
  ahead_function_name function_kind.Expression pure = ahead_declares (own_name_of next) (own_name_of other) _ false h (fresh next some)
  ahead_function_name function_kind.Arrow pure = ahead_declares (own_name_of next) (own_name_of other) _ false h (fresh next some)

  ahead_parameters : (how : FunctionKind) (s o : Bool) → Ahead (at_parameters q next how s) (at_parameters p other how o)
  ahead_parameters how s o = record { variables = fresh next some; block = fresh next some; declaring = fresh next some }

  ahead_code : (how : FunctionKind) (s o : Bool) → Ahead (in_function q next how s) (in_function p other how o)
  ahead_code how s o = record { variables = fresh next some; block = fresh next some; declaring = h.declaring }

  ahead_class_name : (how : ClassKind) → Ahead (at_class_name q next how) (at_class_name p other how)
  ahead_class_name class_kind.Declaration = ahead_declares q.block p.block _ false h h.block
  ahead_class_name class_kind.Expression = ahead_declares (body_of next) (body_of other) _ false h (fresh next some)

  ahead_inside : (k : Kind) (now below : Forest) → has_second now ≡ has_second below → (at : ℕ) → Ahead (inside q next k now at) (inside p other k below at)
  ahead_inside (kind.Program source) now below s at = ahead_body _ _
  ahead_inside (kind.Function how pure) now below s at = ahead_if (at == 0) (ahead_function_name how pure) (ahead_if (at == 1) (ahead_parameters how _ _) (ahead_code how _ _))
  ahead_inside (kind.Class how) now below s at = ahead_if (at == 0) (ahead_class_name how) (ahead_block true true)
  ahead_inside kind.StaticBlock now below s at = ahead_body _ _
  ahead_inside (kind.PropertyDefinition is_static key) now below s at =
      subst (λ (b : Bool). Ahead (if b && at == 1 then in_block q next q.strict else below_it q) (if has_second below && at == 1 then in_block p other p.strict else below_it p)) (sym s)
      (ahead_if (has_second below && at == 1) (ahead_block _ _) (ahead_below h))
  ahead_inside kind.BlockStatement now below s at = ahead_block _ _
  ahead_inside kind.SwitchStatement now below s at = ahead_if (at == 1) (ahead_block _ _) (ahead_below h)
  ahead_inside kind.WithStatement now below s at = ahead_if (at == 1) (ahead_block _ _) (ahead_below h)
  ahead_inside kind.CatchClause now below s at = ahead_if (at == 0) (ahead_declares (body_of next) (body_of other) _ false (ahead_block _ _) (fresh next some)) (ahead_block _ _)
  ahead_inside kind.ForStatement now below s at = ahead_block _ _
  ahead_inside kind.ForInStatement now below s at = ahead_if (at == 0) (ahead_used _ _ (ahead_block _ _)) (ahead_block _ _)
  ahead_inside kind.ForOfStatement now below s at = ahead_if (at == 0) (ahead_used _ _ (ahead_block _ _)) (ahead_block _ _)
  ahead_inside (kind.VariableDeclaration variable.Var) now below s at = ahead_declares q.variables p.variables _ false h h.variables
  ahead_inside (kind.VariableDeclaration variable.Let) now below s at = ahead_declares q.block p.block _ false h h.block
  ahead_inside (kind.VariableDeclaration variable.Const) now below s at = ahead_declares q.block p.block _ false h h.block
  ahead_inside (kind.ImportDeclaration source) now below s at = ahead_declares q.block p.block _ false h h.block
  ahead_inside (kind.MethodDefinition how is_static key) now below s at = ahead_if (at == 1) (ahead_method how h) (ahead_below h)
  ahead_inside (kind.AssignmentExpression operator) now below s at = ahead_if (at == 0) (ahead_used _ _ h) (ahead_below h)
  ahead_inside (kind.UpdateExpression operator prefix) now below s at = ahead_used _ _ h
  ahead_inside (kind.MemberExpression key optional) now below s at = ahead_if (at == 0) (ahead_used _ _ h) (ahead_below h)
  ahead_inside kind.ParenthesizedExpression now below s at = ahead_used _ _ h
  ahead_inside kind.Elements now below s at = ahead_used _ _ h
  ahead_inside kind.Properties now below s at = ahead_used _ _ h
  ahead_inside kind.TargetArray now below s at = ahead_used _ _ h
  ahead_inside kind.TargetObject now below s at = ahead_used _ _ h
  ahead_inside (kind.TargetProperty key) now below s at = ahead_if (at == 1) (ahead_used _ _ h) (ahead_below h)
  ahead_inside kind.TargetDefault now below s at = ahead_if (at == 0) (ahead_used _ _ h) (ahead_below h)
  ahead_inside kind.TargetRest now below s at = ahead_used _ _ h
  ahead_inside k now below s at = ahead_below h

  -- in a list it doesn't matter which place
  ahead_list : (k : Kind) (now below : Forest) → is_list k ≡ true → (i j : ℕ) → Ahead (inside q next k now i) (inside p other k below j)
  ahead_list kind.Statements now below l i j = ahead_below h
  ahead_list kind.Cases now below l i j = ahead_below h
  ahead_list kind.Declarators now below l i j = ahead_below h
  ahead_list kind.Parameters now below l i j = ahead_below h
  ahead_list kind.Members now below l i j = ahead_below h
  ahead_list kind.Elements now below l i j = ahead_used _ _ h
  ahead_list kind.Properties now below l i j = ahead_used _ _ h
  ahead_list kind.Expressions now below l i j = ahead_below h
  ahead_list kind.Arguments now below l i j = ahead_below h
  ahead_list kind.Quasis now below l i j = ahead_below h
  ahead_list kind.Specifiers now below l i j = ahead_below h
  ahead_list k now below l i j = never l

  -- and what a part may stand for leaves its parts where it stands
  ahead_part : (k : Kind) (whole : Forest) → gives_way k ≡ true → (at : ℕ) → Ahead q (inside p other k whole at)
  ahead_part kind.IfStatement whole g at = record { variables = h.variables; block = h.block; declaring = h.declaring }
  ahead_part kind.TryStatement whole g at = record { variables = h.variables; block = h.block; declaring = h.declaring }
  ahead_part kind.ConditionalExpression whole g at = record { variables = h.variables; block = h.block; declaring = h.declaring }
  ahead_part (kind.LogicalExpression operator) whole g at = record { variables = h.variables; block = h.block; declaring = h.declaring }
  ahead_part (kind.UnaryExpression operator) whole g at = record { variables = h.variables; block = h.block; declaring = h.declaring }
  ahead_part (kind.BinaryExpression operator) whole g at = record { variables = h.variables; block = h.block; declaring = h.declaring }
  ahead_part k whole g at = never g

abbrev Covers : (listed : Bool) → (qs ps : ℕ → Context) → Type 0
Covers listed qs ps = (i j : ℕ) → (listed ≡ false → i ≡ j) → Ahead (qs i) (ps j)

covers_by : (b : Bool) (k : Kind) (now below : Forest) (q p : Context) (next other : ℕ) → is_list k ≡ b → 0 < next → (is_list k ≡ false → has_second now ≡ has_second below) → Ahead q p → Covers b (inside q next k now) (inside p other k below)
covers_by true k now below q p next other l some s h i j f = ahead_list q p next other some h k now below l i j
covers_by false k now below q p next other l some s h i j f = subst (λ m. Ahead (inside q next k now i) (inside p other k below m)) (f refl) (ahead_inside q p next other some h k now below (s l) i)

-- ---- all sites of a row, or those below its exports

abbrev pub collected : (all : Bool) → (contexts : ℕ → Context) → (at next : ℕ) → Forest → List Site
collected all cs at next nothing = []
collected all cs at next (absent r) = collected all cs (suc at) next r
collected all cs at next (node k n a r) =
    (if all then own_sites (cs at) n k a else []) ++ collected (all || is_export k) (inside (cs at) next k a) 0 (next + opens_one k a) a ++ collected all cs (suc at) (next + scope_count (node k n a nothing)) r

pub all_collected : (cs : ℕ → Context) (at next : ℕ) (t : Forest) → collected true cs at next t ≡ sites cs at next t
all_collected cs at next nothing = refl
all_collected cs at next (absent r) = all_collected cs (suc at) next r
all_collected cs at next (node k n a r) =
    ap₂ (λ xs ys. own_sites (cs at) n k a ++ xs ++ ys) (all_collected (inside (cs at) next k a) 0 (next + opens_one k a) a) (all_collected cs (suc at) (next + scope_count (node k n a nothing)) r)

pub exports_collected : (cs : ℕ → Context) (at next : ℕ) (t : Forest) → collected false cs at next t ≡ exported_sites cs at next t
exports_collected cs at next nothing = refl
exports_collected cs at next (absent r) = exports_collected cs (suc at) next r
exports_collected cs at next (node k n a r) =
    ap₂ (λ xs ys. xs ++ ys) (below_it (is_export k) (all_collected (inside (cs at) next k a) 0 (next + opens_one k a) a) (exports_collected (inside (cs at) next k a) 0 (next + opens_one k a) a))
    (exports_collected cs (suc at) (next + scope_count (node k n a nothing)) r)
  where
    below_it : (b : Bool) → collected true (inside (cs at) next k a) 0 (next + opens_one k a) a ≡ sites (inside (cs at) next k a) 0 (next + opens_one k a) a
        → collected false (inside (cs at) next k a) 0 (next + opens_one k a) a ≡ exported_sites (inside (cs at) next k a) 0 (next + opens_one k a) a
        → collected b (inside (cs at) next k a) 0 (next + opens_one k a) a ≡ (if b then sites (inside (cs at) next k a) 0 (next + opens_one k a) a else exported_sites (inside (cs at) next k a) 0 (next + opens_one k a) a)
    below_it true e f = e
    below_it false e f = f

pub collected_declared : (all : Bool) (cs : ℕ → Context) (at next : ℕ) (t : Forest) (b : BindingSite) → Among b (bindings_among (collected all cs at next t)) → Among b (bindings_among (sites cs at next t))
collected_declared true cs at next t b h = subst (λ ss. Among b (bindings_among ss)) (all_collected cs at next t) h
collected_declared false cs at next nothing b h = h
collected_declared false cs at next (absent rest) b h = collected_declared false cs (suc at) next rest b h
collected_declared false cs at next (node k n below rest) b h =
    by (binding_in b [] (collected (false || is_export k) (inside (cs at) next k below) 0 (next + opens_one k below) below) (collected false cs (suc at) (next + scope_count (node k n below nothing)) rest) h)
    (λ g. collected_declared (false || is_export k) (inside (cs at) next k below) 0 (next + opens_one k below) below b g) (λ g. collected_declared false cs (suc at) (next + scope_count (node k n below nothing)) rest b g)
  where
    by : InThree b (bindings_among []) (bindings_among (collected (false || is_export k) (inside (cs at) next k below) 0 (next + opens_one k below) below)) (bindings_among (collected false cs (suc at) (next + scope_count (node k n below nothing)) rest))
        → (Among b (bindings_among (collected (false || is_export k) (inside (cs at) next k below) 0 (next + opens_one k below) below)) → Among b (bindings_among (sites (inside (cs at) next k below) 0 (next + opens_one k below) below)))
        → (Among b (bindings_among (collected false cs (suc at) (next + scope_count (node k n below nothing)) rest)) → Among b (bindings_among (sites cs (suc at) (next + scope_count (node k n below nothing)) rest)))
        → Among b (bindings_among (sites cs at next (node k n below rest)))
    by (in_first g) f l = absurd g
    by (in_second g) f l =
        binding_second b (own_sites (cs at) n k below) (sites (inside (cs at) next k below) 0 (next + opens_one k below) below) (sites cs (suc at) (next + scope_count (node k n below nothing)) rest) (f g)
    by (in_third g) f l =
        binding_third b (own_sites (cs at) n k below) (sites (inside (cs at) next k below) 0 (next + opens_one k below) below) (sites cs (suc at) (next + scope_count (node k n below nothing)) rest) (l g)

-- ---- a row that declares nothing around it

abbrev pub decl_of : BindingSite → Decl
decl_of b = record { name = b.name; symbol = b.id }

among_if : (i : Bool) (d e : Decl) (ds : List Decl) → Among d ds → Among d (if i then e ∷ ds else ds)
among_if true d e ds h = inr h
among_if false d e ds h = h

pub among_decls : (bs : List BindingSite) (b : BindingSite) → Among b bs → Among (decl_of b) (decls_in b.layer bs)
among_decls [] b h = absurd h
among_decls (a ∷ bs) b (inl h) =
    let is : same_layer a.layer b.layer ≡ true = ap (λ (c : BindingSite). same_layer c.layer b.layer) h ∙ same_layer_same b.layer in
    subst (λ i. Among (decl_of b) (if i then decl_of a ∷ decls_in b.layer bs else decls_in b.layer bs)) (sym is) (inl (ap decl_of h))
among_decls (a ∷ bs) b (inr h) = among_if (same_layer a.layer b.layer) (decl_of b) (decl_of a) (decls_in b.layer bs) (among_decls bs b h)

pub declares_none : (t : Forest) → DeclaresNothing t → (all : Bool) (cs : ℕ → Context) (at next : ℕ) (b : BindingSite) → b.layer.scope < next → Among b (bindings_among (collected all cs at next t)) → ⊥
declares_none t none all cs at next b some h =
    subst (Among (decl_of b)) (hoisted_are b.layer cs (λ i. aims_at b.layer (cs i)) at next t some (λ i. refl) ∙ none (λ i. aims_at b.layer (cs i)) at)
    (among_decls (bindings_among (sites cs at next t)) b (collected_declared all cs at next t b h))

statement_declares : (t : Forest) (o : Note) → DeclaresNothing t → DeclaresNothing (node kind.ExpressionStatement o t nothing)
statement_declares t o none aims at = append-nil (hoisted (aims_inside no_part (aims at) kind.ExpressionStatement t) 0 t) ∙ none (aims_inside no_part (aims at) kind.ExpressionStatement t) 0

-- what declares the same in every layer has a declaration of each name that the other one has
among_unless : (i : Bool) (d e : Decl) (ds : List Decl) → Among d (if i then e ∷ ds else ds) → ((i ≡ true) × (e ≡ d)) ⊎ Among d ds
among_unless true d e ds (inl is) = inl (refl, is)
among_unless true d e ds (inr h) = inr h
among_unless false d e ds h = inr h

pub record HasDecl (l : Layer) (d : Decl) (bs : List BindingSite) : Type 0 where
  pub site : BindingSite
  pub stands : Among site bs
  pub layer_is : site.layer ≡ l
  pub decl_is : decl_of site ≡ d

of_decls : (l : Layer) (d : Decl) (bs : List BindingSite) → Among d (decls_in l bs) → HasDecl l d bs
of_decls l d [] h = absurd h
of_decls l d (b ∷ bs) h = elim (among_unless (same_layer b.layer l) d (decl_of b) (decls_in l bs) h) [
  | inl here ↦ record { site = b; stands = inl refl; layer_is = same_layer_true b.layer l here.0; decl_is = here.1 }
  | inr later ↦ let it = of_decls l d bs later in record { site = it.site; stands = inr it.stands; layer_is = it.layer_is; decl_is = it.decl_is }
]

declared_by_both : (t u : Forest) (cs : ℕ → Context) (at next : ℕ) → ((aims : ℕ → Aims) → hoisted aims at t ≡ hoisted aims at u) → (b : BindingSite) → b.layer.scope < next
    → Among b (bindings_among (sites cs at next u)) → HasDecl b.layer (decl_of b) (bindings_among (sites cs at next t))
declared_by_both t u cs at next same b some h =
    let aims : ℕ → Aims = λ i. aims_at b.layer (cs i) in
    of_decls b.layer (decl_of b) (bindings_among (sites cs at next t))
    (subst (Among (decl_of b)) (hoisted_are b.layer cs aims at next u some (λ i. refl) ∙ sym (same aims) ∙ sym (hoisted_are b.layer cs aims at next t some (λ i. refl)))
    (among_decls (bindings_among (sites cs at next u)) b h))

-- ---- a declaration that is there now, in the program's own scope

module _ (e : BindingSite) (top : e.layer.scope ≡ 0) where
  abbrev Found : List Site → Type 0
  Found ss = IsMarkedAmong (bindings_among ss) e

  moved : (xs ys : List Site) → ((b : BindingSite) → Among b (bindings_among xs) → Among b (bindings_among ys)) → Found xs → Found ys
  moved xs ys f g = record { declaration = g.declaration; stands = f g.declaration g.stands; is_outermost = g.is_outermost; same_mark = g.same_mark; same_name = g.same_name }

  found_first : (xs ys zs : List Site) → Found xs → Found (xs ++ ys ++ zs)
  found_first xs ys zs = moved xs (xs ++ ys ++ zs) (λ b h. binding_left b (xs ++ ys) zs (binding_left b xs ys h))

  found_second : (xs ys zs : List Site) → Found ys → Found (xs ++ ys ++ zs)
  found_second xs ys zs = moved ys (xs ++ ys ++ zs) (λ b h. binding_second b xs ys zs h)

  found_third : (xs ys zs : List Site) → Found zs → Found (xs ++ ys ++ zs)
  found_third xs ys zs = moved zs (xs ++ ys ++ zs) (λ b h. binding_third b xs ys zs h)

  none_own : (b : Bool) (x : ScopeSite) → Among e (bindings_among ((if b then scope_site x ∷ [] else []) ++ [])) → ⊥
  none_own true x h = h
  none_own false x h = h

  own_found : (q p : Context) → Ahead q p → (n : Note) (k : Kind) (now below : Forest) → Among e (bindings_among (own_sites q n k now)) → Found (own_sites p n k below)
  own_found q p a n (kind.BindingName x) now below (inl is) =
      record { declaration = _; stands = inl refl; is_outermost = a.declaring (ap (λ (b : BindingSite). b.layer.scope) is ∙ top); same_mark = ap (λ (b : BindingSite). b.id) is; same_name = ap (λ (b : BindingSite). b.name) is }
  own_found q p a n (kind.BindingName x) now below (inr h) = absurd h
  own_found q p a n (kind.PropertyDefinition is_static key) now below h = absurd (none_own (has_second now) _ h)
  own_found q p a n k now below h = absurd h

  own_all : (all : Bool) (q p : Context) → Ahead q p → (n : Note) (k : Kind) (now below : Forest) → Among e (bindings_among (if all then own_sites q n k now else [])) → Found (if all then own_sites p n k below else [])
  own_all true q p a n k now below h = own_found q p a n k now below h
  own_all false q p a n k now below h = absurd h

  -- of a node
  at_node : (all : Bool) (q p : Context) → Ahead q p → (n : Note) (k : Kind) (now below : Forest) (xs ys zs ws : List Site) → (Among e (bindings_among xs) → Found zs) → (Among e (bindings_among ys) → Found ws)
      → Among e (bindings_among ((if all then own_sites q n k now else []) ++ xs ++ ys)) → Found ((if all then own_sites p n k below else []) ++ zs ++ ws)
  at_node all q p a n k now below xs ys zs ws f g h = by (binding_in e (if all then own_sites q n k now else []) xs ys h)
    where
      by : InThree e (bindings_among (if all then own_sites q n k now else [])) (bindings_among xs) (bindings_among ys) → Found ((if all then own_sites p n k below else []) ++ zs ++ ws)
      by (in_first i) = found_first (if all then own_sites p n k below else []) zs ws (own_all all q p a n k now below i)
      by (in_second i) = found_second (if all then own_sites p n k below else []) zs ws (f i)
      by (in_third i) = found_third (if all then own_sites p n k below else []) zs ws (g i)

  row_found : (all listed : Bool) (t : Forest) (qs ps : ℕ → Context) (i j next other : ℕ) → 0 < next → Covers listed qs ps → (listed ≡ false → i ≡ j) → Among e (bindings_among (collected all qs i next t)) → Found (collected all ps j other t)
  row_found all listed nothing qs ps i j next other some c f h = absurd h
  row_found all listed (absent rest) qs ps i j next other some c f h = row_found all listed rest qs ps (suc i) (suc j) next other some c (λ l. ap suc (f l)) h
  row_found all listed (node k n below rest) qs ps i j next other some c f h =
      at_node all (qs i) (ps j) (c i j f) n k below below (collected (all || is_export k) (inside (qs i) next k below) 0 (next + opens_one k below) below) (collected all qs (suc i) (next + scope_count (node k n below nothing)) rest)
      (collected (all || is_export k) (inside (ps j) other k below) 0 (other + opens_one k below) below) (collected all ps (suc j) (other + scope_count (node k n below nothing)) rest)
      (λ g. row_found (all || is_export k) (is_list k) below (inside (qs i) next k below) (inside (ps j) other k below) 0 0 (next + opens_one k below) (other + opens_one k below) (Prim.omega (arith, some))
      (covers_by (is_list k) k below below (qs i) (ps j) next other refl some (λ l. refl) (c i j f)) (λ l. refl) g)
      (λ g. row_found all listed rest qs ps (suc i) (suc j) (next + scope_count (node k n below nothing)) (other + scope_count (node k n below nothing)) (Prim.omega (arith, some)) c (λ l. ap suc (f l)) g) h

  -- of a part of a row
  part_found : (all : Bool) (v : Forest) (l : Kind) (n : Note) (b w : Forest) (q : Context) (ps : ℕ → Context) (at next other : ℕ) → 0 < next → ((i : ℕ) → Ahead q (ps i))
      → Among e (bindings_among ((if all then own_sites q n l b else []) ++ collected (all || is_export l) (inside q next l b) 0 (next + opens_one l b) b ++ [])) → Found (collected all ps at other (joined v (node l n b w)))
  part_found all nothing l n b w q ps at next other some c h =
      at_node all q (ps at) (c at) n l b b (collected (all || is_export l) (inside q next l b) 0 (next + opens_one l b) b) [] (collected (all || is_export l) (inside (ps at) other l b) 0 (other + opens_one l b) b)
      (collected all ps (suc at) (other + scope_count (node l n b nothing)) w)
      (λ g. row_found (all || is_export l) (is_list l) b (inside q next l b) (inside (ps at) other l b) 0 0 (next + opens_one l b) (other + opens_one l b) (Prim.omega (arith, some))
      (covers_by (is_list l) l b b q (ps at) next other refl some (λ e. refl) (c at)) (λ e. refl) g) (λ g. absurd g) h
  part_found all (absent v) l n b w q ps at next other some c h = part_found all v l n b w q ps (suc at) next other some c h
  part_found all (node k m x v) l n b w q ps at next other some c h =
      found_third (if all then own_sites (ps at) m k x else []) (collected (all || is_export k) (inside (ps at) other k x) 0 (other + opens_one k x) x) (collected all ps (suc at) (other + scope_count (node k m x nothing)) (joined v (node l n b w)))
      (part_found all v l n b w q ps (suc at) next (other + scope_count (node k m x nothing)) some c h)

  no_export : (all : Bool) (k : Kind) → gives_way k ≡ true → all || is_export k ≡ all
  no_export true k g = refl
  no_export false kind.IfStatement g = refl
  no_export false kind.TryStatement g = refl
  no_export false kind.ConditionalExpression g = refl
  no_export false (kind.LogicalExpression operator) g = refl
  no_export false (kind.UnaryExpression operator) g = refl
  no_export false (kind.BinaryExpression operator) g = refl
  no_export false k g = never g

  abbrev rest_only : (xs ys zs : List Site) → Among e (bindings_among xs) → Among e (bindings_among (xs ++ ys ++ zs))
  rest_only xs ys zs h = binding_left e (xs ++ ys) zs (binding_left e xs ys h)

  -- what becomes empty declares nothing then
  emptied_found : (all listed : Bool) (k : Kind) (n m : Note) (below rest : Forest) (qs ps : ℕ → Context) (i j next other : ℕ) → 0 < next → Covers listed qs ps → (listed ≡ false → i ≡ j)
      → Among e (bindings_among (collected all qs i next (node kind.EmptyStatement m nothing rest))) → Found (collected all ps j other (node k n below rest))
  emptied_found all r k n m below rest qs ps i j next other some c f h =
      by (binding_in e (if all then own_sites (qs i) m kind.EmptyStatement nothing else []) [] (collected all qs (suc i) (next + 0) rest) h)
    where
      none_empty : (a : Bool) → Among e (bindings_among (if a then own_sites (qs i) m kind.EmptyStatement nothing else [])) → ⊥
      none_empty true g = g
      none_empty false g = g

      by : InThree e (bindings_among (if all then own_sites (qs i) m kind.EmptyStatement nothing else [])) (bindings_among []) (bindings_among (collected all qs (suc i) (next + 0) rest)) → Found (collected all ps j other (node k n below rest))
      by (in_first g) = absurd (none_empty all g)
      by (in_second g) = absurd g
      by (in_third g) =
          found_third (if all then own_sites (ps j) n k below else []) (collected (all || is_export k) (inside (ps j) other k below) 0 (other + opens_one k below) below)
          (collected all ps (suc j) (other + scope_count (node k n below nothing)) rest)
          (row_found all r rest qs ps (suc i) (suc j) (next + 0) (other + scope_count (node k n below nothing)) (Prim.omega (arith, some)) c (λ l. ap suc (f l)) g)

  -- the last but one, behind which an alternate goes
  last_found : (all : Bool) (l : Kind) (m o : Note) (b : Forest) (qs ps : ℕ → Context) (i j next other : ℕ) → 0 < next → Covers false qs ps → i ≡ j → Among e (bindings_among (collected all qs i next (node l m b (absent nothing))))
      → Found (collected all ps j other (node l m b (node kind.EmptyStatement o nothing nothing)))
  last_found all l m o b qs ps i j next other some c f h =
      at_node all (qs i) (ps j) (c i j (λ l. f)) m l b b (collected (all || is_export l) (inside (qs i) next l b) 0 (next + opens_one l b) b) [] (collected (all || is_export l) (inside (ps j) other l b) 0 (other + opens_one l b) b)
      (collected all ps (suc j) (other + scope_count (node l m b nothing)) (node kind.EmptyStatement o nothing nothing))
      (λ g. row_found (all || is_export l) (is_list l) b (inside (qs i) next l b) (inside (ps j) other l b) 0 0 (next + opens_one l b) (other + opens_one l b) (Prim.omega (arith, some))
      (covers_by (is_list l) l b b (qs i) (ps j) next other refl some (λ e. refl) (c i j (λ l. f))) (λ e. refl) g)
      (λ g. absurd g) h

-- names export nothing
one_exports_none : (cs : ℕ → Context) (at next : ℕ) (k : Kind) (n m : Note) (b rest : Forest) → is_name_alone k b ≡ true → ((at next : ℕ) → collected false cs at next rest ≡ [])
    → collected false cs at next (node kind.VariableDeclarator n (node k m b (absent nothing)) rest) ≡ []
one_exports_none cs at next (kind.BindingName x) n m nothing rest h later = later _ _
one_exports_none cs at next (kind.BindingName x) n m (absent r) rest h later = absurd cc
one_exports_none cs at next (kind.BindingName x) n m (node j i c r) rest h later = absurd cc
one_exports_none cs at next k n m b rest h later = absurd cc

declarators_export_none : (cs : ℕ → Context) (ts : List Tree) → are_names ts ≡ true → (at next : ℕ) → collected false cs at next (row (map declarator_of ts)) ≡ []
declarators_export_none cs [] h at next = refl
declarators_export_none cs (t ∷ ts) h at next =
    one_exports_none cs at next t.kind (record { span = t.note.span; id = None }) t.note t.below (row (map declarator_of ts)) (first_of_both (is_bare_name t) (are_names ts) h) (declarators_export_none cs ts (second_of_both (is_bare_name t) (are_names ts) h))

no_exports_there : {k : Kind} {n m : Note} {a b : Forest} → NamesLeft k n a m b → (cs : ℕ → Context) (at next : ℕ) (e : BindingSite) → Among e (bindings_among (collected false cs at next (node a_var m b nothing))) → ⊥
no_exports_there {m = m} made cs at next e h =
    let inner : ℕ → Context = inside (inside (cs at) next a_var (node kind.Declarators nowhere (row (map declarator_of made.names)) nothing) 0) (next + 0) kind.Declarators (row (map declarator_of made.names)) in
    subst (λ ss. Among e (bindings_among ss)) (ap (λ b. collected false cs at next (node a_var m b nothing)) made.is ∙ ap (λ ss. (ss ++ []) ++ []) (declarators_export_none inner made.names made.bare 0 (next + 0 + 0))) h

left_alike : {k : Kind} {n m : Note} {a b : Forest} → NamesLeft k n a m b → (aims : Aims) → hoisted (λ q. aims) 0 (node k n a nothing) ≡ hoisted (λ q. aims) 0 (node a_var m b nothing)
left_alike made aims = made.same aims

-- what a declaration of names declares the statement declared
names_found : (e : BindingSite) (top : e.layer.scope ≡ 0) (all : Bool) {k : Kind} {n m : Note} {a b : Forest} → NamesLeft k n a m b → (q p : Context) (i j next other : ℕ) → 0 < next → Ahead q p
    → Among e (bindings_among (collected all (λ z. q) i next (node a_var m b nothing))) → Found e top (collected all (λ z. p) j other (node k n a nothing))
names_found e top true {k = k} {n = n} {m = m} {a = a} {b = b} made q p i j next other some h g =
    let new = node a_var m b nothing in
    let old = node k n a nothing in
    let it = declared_by_both old new (λ z. q) i next (λ aims. left_alike made (aims i)) e (Prim.omega (arith, some, top)) (collected_declared true (λ z. q) i next new e g) in
    let at_top : it.site.layer.scope ≡ 0 = ap (λ (l : Layer). l.scope) it.layer_is ∙ top in
    let there = row_found it.site at_top true true old (λ z. q) (λ z. p) i j next other some (λ x y f. h) (λ l. absurd (true≢false l)) (subst (λ ss. Among it.site (bindings_among ss)) (sym (all_collected (λ z. q) i next old)) it.stands) in
    record {
      declaration = there.declaration;
      stands = there.stands;
      is_outermost = there.is_outermost;
      same_mark = there.same_mark ∙ ap (λ (d : Decl). d.symbol) it.decl_is;
      same_name = there.same_name ∙ ap (λ (d : Decl). d.name) it.decl_is;
    }
names_found e top false made q p i j next other some h g = absurd (no_exports_there made (λ z. q) i next e g)

module _ (e : BindingSite) (top : e.layer.scope ≡ 0) where
  -- what declares nothing, in the place of a node
  replaced_found : (all listed : Bool) (k l : Kind) (n m : Note) (a b rest : Forest) → DeclaresNothing (node l m b nothing) → (qs ps : ℕ → Context) (i j next other : ℕ) → 0 < next → Covers listed qs ps → (listed ≡ false → i ≡ j)
      → Among e (bindings_among (collected all qs i next (node l m b rest))) → Found e top (collected all ps j other (node k n a rest))
  replaced_found all r k l n m a b rest nothing_declared qs ps i j next other some c f h =
      by (binding_in e (if all then own_sites (qs i) m l b else []) (collected (all || is_export l) (inside (qs i) next l b) 0 (next + opens_one l b) b) (collected all qs (suc i) (next + scope_count (node l m b nothing)) rest) h)
    where
      none : Among e (bindings_among ((if all then own_sites (qs i) m l b else []) ++ collected (all || is_export l) (inside (qs i) next l b) 0 (next + opens_one l b) b ++ [])) → ⊥
      none g = declares_none (node l m b nothing) nothing_declared all qs i next e (Prim.omega (arith, some, top)) g

      by : InThree e (bindings_among (if all then own_sites (qs i) m l b else [])) (bindings_among (collected (all || is_export l) (inside (qs i) next l b) 0 (next + opens_one l b) b)) (bindings_among (collected all qs (suc i) (next + scope_count (node l m b nothing)) rest))
          → Found e top (collected all ps j other (node k n a rest))
      by (in_first g) = absurd (none (rest_only e top (if all then own_sites (qs i) m l b else []) (collected (all || is_export l) (inside (qs i) next l b) 0 (next + opens_one l b) b) [] g))
      by (in_second g) = absurd (none (binding_second e (if all then own_sites (qs i) m l b else []) (collected (all || is_export l) (inside (qs i) next l b) 0 (next + opens_one l b) b) [] g))
      by (in_third g) =
          found_third e top (if all then own_sites (ps j) n k a else []) (collected (all || is_export k) (inside (ps j) other k a) 0 (other + opens_one k a) a) (collected all ps (suc j) (other + scope_count (node k n a nothing)) rest)
          (row_found e top all r rest qs ps (suc i) (suc j) (next + scope_count (node l m b nothing)) (other + scope_count (node k n a nothing)) (Prim.omega (arith, some)) c (λ d. ap suc (f d)) g)

  cuts_found : (all listed : Bool) (t u : Forest) → Cuts listed t u → (qs ps : ℕ → Context) (i j next other : ℕ) → 0 < next → Covers listed qs ps → (listed ≡ false → i ≡ j) → Among e (bindings_among (collected all qs i next u)) → Found e top (collected all ps j other t)
  cuts_found all listed t u (leaves k n below rest plain) qs ps i j next other some c f h =
      found_third e top (if all then own_sites (ps j) n k below else []) (collected (all || is_export k) (inside (ps j) other k below) 0 (other + opens_one k below) below) (collected all ps (suc j) (other + scope_count (node k n below nothing)) rest)
      (row_found e top all true rest qs ps i (suc j) next (other + scope_count (node k n below nothing)) some c (λ l. absurd (true≢false l)) h)
  cuts_found all listed t u (empties r n m below rest) qs ps i j next other some c f h = emptied_found e top all r kind.ExpressionStatement n m below rest qs ps i j next other some c f h
  cuts_found all listed t u (empties_idle r k n m below rest idle) qs ps i j next other some c f h = emptied_found e top all r k n m below rest qs ps i j next other some c f h
  cuts_found all listed t u (tests r k l n m y b after rest tested) qs ps i j next other some c f h =
      by (binding_in e (if all then own_sites (qs i) m kind.ExpressionStatement (node l y b nothing) else []) (collected (all || is_export kind.ExpressionStatement) (inside (qs i) next kind.ExpressionStatement (node l y b nothing)) 0 (next + opens_one kind.ExpressionStatement (node l y b nothing)) (node l y b nothing)) (collected all qs (suc i) (next + scope_count (node kind.ExpressionStatement m (node l y b nothing) nothing)) rest) h)
    where
      none_own_here : (a : Bool) → Among e (bindings_among (if a then own_sites (qs i) m kind.ExpressionStatement (node l y b nothing) else [])) → ⊥
      none_own_here true g = g
      none_own_here false g = g

      as_all : (a : Bool) → a || false ≡ a
      as_all true = refl
      as_all false = refl

      here_found : Among e (bindings_among (collected (all || is_export kind.ExpressionStatement) (inside (qs i) next kind.ExpressionStatement (node l y b nothing)) 0 (next + opens_one kind.ExpressionStatement (node l y b nothing)) (node l y b nothing))) → Found e top (collected (all || is_export k) (inside (ps j) other k (node l y b after)) 0 (other + opens_one k (node l y b after)) (node l y b after))
      here_found g =
          let gives = tested_gives k tested in
          subst (λ a. Found e top (collected a (inside (ps j) other k (node l y b after)) 0 (other + opens_one k (node l y b after)) (node l y b after))) (sym (no_export e top all k gives))
          (part_found e top all nothing l y b after (inside (qs i) next kind.ExpressionStatement (node l y b nothing) 0) (inside (ps j) other k (node l y b after)) 0 (next + opens_one kind.ExpressionStatement (node l y b nothing)) (other + opens_one k (node l y b after))
          (Prim.omega (arith, some)) (λ at. let there = ahead_part (qs i) (ps j) next other some (c i j f) k (node l y b after) gives at in record { variables = there.variables; block = there.block; declaring = there.declaring })
          (subst (λ a. Among e (bindings_among (collected a (inside (qs i) next kind.ExpressionStatement (node l y b nothing)) 0 (next + opens_one kind.ExpressionStatement (node l y b nothing)) (node l y b nothing)))) (as_all all) g))

      by : InThree e (bindings_among (if all then own_sites (qs i) m kind.ExpressionStatement (node l y b nothing) else [])) (bindings_among (collected (all || is_export kind.ExpressionStatement) (inside (qs i) next kind.ExpressionStatement (node l y b nothing)) 0 (next + opens_one kind.ExpressionStatement (node l y b nothing)) (node l y b nothing)))
          (bindings_among (collected all qs (suc i) (next + scope_count (node kind.ExpressionStatement m (node l y b nothing) nothing)) rest)) → Found e top (collected all ps j other (node k n (node l y b after) rest))
      by (in_first g) = absurd (none_own_here all g)
      by (in_second g) =
          found_second e top (if all then own_sites (ps j) n k (node l y b after) else []) (collected (all || is_export k) (inside (ps j) other k (node l y b after)) 0 (other + opens_one k (node l y b after)) (node l y b after)) (collected all ps (suc j) (other + scope_count (node k n (node l y b after) nothing)) rest)
          (here_found g)
      by (in_third g) =
          found_third e top (if all then own_sites (ps j) n k (node l y b after) else []) (collected (all || is_export k) (inside (ps j) other k (node l y b after)) 0 (other + opens_one k (node l y b after)) (node l y b after)) (collected all ps (suc j) (other + scope_count (node k n (node l y b after) nothing)) rest)
          (row_found e top all r rest qs ps (suc i) (suc j) (next + scope_count (node kind.ExpressionStatement m (node l y b nothing) nothing)) (other + scope_count (node k n (node l y b after) nothing)) (Prim.omega (arith, some)) c (λ a. ap suc (f a)) g)
  cuts_found all listed t u (states r how x k n m l j2 y o b rest none) qs ps i j next other some c f h =
      replaced_found all r (kind.VariableDeclaration how) kind.ExpressionStatement n o (declares_one m l j2 x (alone k y b)) (alone k y b) rest (statement_declares (alone k y b) o none) qs ps i j next other some c f h
  cuts_found all listed t u (alternate k l n m o below b) qs ps i j next other some c f h =
      at_node e top all (qs i) (ps j) (c i j f) n k below below (collected (all || is_export k) (inside (qs i) next k below) 0 (next + opens_one k below) below) (collected all qs (suc i) (next + scope_count (node k n below nothing)) (node l m b (absent nothing)))
      (collected (all || is_export k) (inside (ps j) other k below) 0 (other + opens_one k below) below) (collected all ps (suc j) (other + scope_count (node k n below nothing)) (node l m b (node kind.EmptyStatement o nothing nothing)))
      (λ g. row_found e top (all || is_export k) (is_list k) below (inside (qs i) next k below) (inside (ps j) other k below) 0 0 (next + opens_one k below) (other + opens_one k below) (Prim.omega (arith, some))
      (covers_by (is_list k) k below below (qs i) (ps j) next other refl some (λ l. refl) (c i j f)) (λ l. refl) g)
      (λ g. last_found e top all l m o b qs ps (suc i) (suc j) (next + scope_count (node k n below nothing)) (other + scope_count (node k n below nothing)) (Prim.omega (arith, some)) c (ap suc (f refl)) g) h
  cuts_found all listed t u (parts r k l m n b v w rest gives unasked) qs ps i j next other some c f h =
      let whole = joined v (node l n b w) in
      by whole refl (binding_in e (if all then own_sites (qs i) n l b else []) (collected (all || is_export l) (inside (qs i) next l b) 0 (next + opens_one l b) b) (collected all qs (suc i) (next + scope_count (node l n b nothing)) rest) h)
    where
      part : (x : Forest) → x ≡ joined v (node l n b w) → Among e (bindings_among ((if all then own_sites (qs i) n l b else []) ++ collected (all || is_export l) (inside (qs i) next l b) 0 (next + opens_one l b) b ++ []))
          → Found e top (collected (all || is_export k) (inside (ps j) other k x) 0 (other + opens_one k x) x)
      part x is g =
          subst (λ a. Found e top (collected a (inside (ps j) other k x) 0 (other + opens_one k x) x)) (sym (no_export e top all k gives))
          (subst (λ y. Found e top (collected all (inside (ps j) other k x) 0 (other + opens_one k x) y)) (sym is)
          (part_found e top all v l n b w (qs i) (inside (ps j) other k x) 0 next (other + opens_one k x) some (λ at. ahead_part (qs i) (ps j) next other some (c i j f) k x gives at) g))

      by : (x : Forest) → x ≡ joined v (node l n b w)
          → InThree e (bindings_among (if all then own_sites (qs i) n l b else [])) (bindings_among (collected (all || is_export l) (inside (qs i) next l b) 0 (next + opens_one l b) b)) (bindings_among (collected all qs (suc i) (next + scope_count (node l n b nothing)) rest))
          → Found e top (collected all ps j other (node k m x rest))
      by x is (in_first g) =
          found_second e top (if all then own_sites (ps j) m k x else []) (collected (all || is_export k) (inside (ps j) other k x) 0 (other + opens_one k x) x) (collected all ps (suc j) (other + scope_count (node k m x nothing)) rest)
          (part x is (rest_only e top (if all then own_sites (qs i) n l b else []) (collected (all || is_export l) (inside (qs i) next l b) 0 (next + opens_one l b) b) [] g))
      by x is (in_second g) =
          found_second e top (if all then own_sites (ps j) m k x else []) (collected (all || is_export k) (inside (ps j) other k x) 0 (other + opens_one k x) x) (collected all ps (suc j) (other + scope_count (node k m x nothing)) rest)
          (part x is (binding_second e (if all then own_sites (qs i) n l b else []) (collected (all || is_export l) (inside (qs i) next l b) 0 (next + opens_one l b) b) [] g))
      by x is (in_third g) =
          found_third e top (if all then own_sites (ps j) m k x else []) (collected (all || is_export k) (inside (ps j) other k x) 0 (other + opens_one k x) x) (collected all ps (suc j) (other + scope_count (node k m x nothing)) rest)
          (row_found e top all r rest qs ps (suc i) (suc j) (next + scope_count (node l n b nothing)) (other + scope_count (node k m x nothing)) (Prim.omega (arith, some)) c (λ a. ap suc (f a)) g)
  cuts_found all listed t u (rebuilds r k l n m a b rest made) qs ps i j next other some c f h =
      by (binding_in e (if all then own_sites (qs i) m l b else []) (collected (all || is_export l) (inside (qs i) next l b) 0 (next + opens_one l b) b) (collected all qs (suc i) (next + scope_count (node l m b nothing)) rest) h)
    where
      none : Among e (bindings_among ((if all then own_sites (qs i) m l b else []) ++ collected (all || is_export l) (inside (qs i) next l b) 0 (next + opens_one l b) b ++ [])) → ⊥
      none g = declares_none (node l m b nothing) made.declares all qs i next e (Prim.omega (arith, some, top)) g

      by : InThree e (bindings_among (if all then own_sites (qs i) m l b else [])) (bindings_among (collected (all || is_export l) (inside (qs i) next l b) 0 (next + opens_one l b) b)) (bindings_among (collected all qs (suc i) (next + scope_count (node l m b nothing)) rest))
          → Found e top (collected all ps j other (node k n a rest))
      by (in_first g) = absurd (none (rest_only e top (if all then own_sites (qs i) m l b else []) (collected (all || is_export l) (inside (qs i) next l b) 0 (next + opens_one l b) b) [] g))
      by (in_second g) = absurd (none (binding_second e (if all then own_sites (qs i) m l b else []) (collected (all || is_export l) (inside (qs i) next l b) 0 (next + opens_one l b) b) [] g))
      by (in_third g) =
          found_third e top (if all then own_sites (ps j) n k a else []) (collected (all || is_export k) (inside (ps j) other k a) 0 (other + opens_one k a) a) (collected all ps (suc j) (other + scope_count (node k n a nothing)) rest)
          (row_found e top all r rest qs ps (suc i) (suc j) (next + scope_count (node l m b nothing)) (other + scope_count (node k n a nothing)) (Prim.omega (arith, some)) c (λ d. ap suc (f d)) g)
  cuts_found all listed t u (names_left r k n m a b rest made) qs ps i j next other some c f h =
      by (binding_in e (if all then own_sites (qs i) m a_var b else []) (collected (all || is_export a_var) (inside (qs i) next a_var b) 0 (next + opens_one a_var b) b) (collected all qs (suc i) (next + scope_count (node a_var m b nothing)) rest) h)
    where
      here : Among e (bindings_among (collected all (λ z. qs i) i next (node a_var m b nothing))) → Found e top (collected all ps j other (node k n a rest))
      here g =
          let own = (if all then own_sites (ps j) n k a else []) ++ collected (all || is_export k) (inside (ps j) other k a) 0 (other + opens_one k a) a in
          let later = collected all ps (suc j) (other + scope_count (node k n a nothing)) rest in
          moved e top (own ++ []) (own ++ later) (λ d x. binding_left d own later (subst (λ ss. Among d (bindings_among ss)) (append-nil own) x))
          (names_found e top all made (qs i) (ps j) i j next other some (c i j f) g)

      by : InThree e (bindings_among (if all then own_sites (qs i) m a_var b else [])) (bindings_among (collected (all || is_export a_var) (inside (qs i) next a_var b) 0 (next + opens_one a_var b) b)) (bindings_among (collected all qs (suc i) (next + scope_count (node a_var m b nothing)) rest))
          → Found e top (collected all ps j other (node k n a rest))
      by (in_first g) = here (rest_only e top (if all then own_sites (qs i) m a_var b else []) (collected (all || is_export a_var) (inside (qs i) next a_var b) 0 (next + opens_one a_var b) b) [] g)
      by (in_second g) = here (binding_second e (if all then own_sites (qs i) m a_var b else []) (collected (all || is_export a_var) (inside (qs i) next a_var b) 0 (next + opens_one a_var b) b) [] g)
      by (in_third g) =
          found_third e top (if all then own_sites (ps j) n k a else []) (collected (all || is_export k) (inside (ps j) other k a) 0 (other + opens_one k a) a) (collected all ps (suc j) (other + scope_count (node k n a nothing)) rest)
          (row_found e top all r rest qs ps (suc i) (suc j) (next + scope_count (node a_var m b nothing)) (other + scope_count (node k n a nothing)) (Prim.omega (arith, some)) c (λ d. ap suc (f d)) g)
  cuts_found all listed t u (cut_inside r k n below now rest called x) qs ps i j next other some c f h =
      at_node e top all (qs i) (ps j) (c i j f) n k now below (collected (all || is_export k) (inside (qs i) next k now) 0 (next + opens_one k now) now) (collected all qs (suc i) (next + scope_count (node k n now nothing)) rest)
      (collected (all || is_export k) (inside (ps j) other k below) 0 (other + opens_one k below) below) (collected all ps (suc j) (other + scope_count (node k n below nothing)) rest)
      (λ g. cuts_found (all || is_export k) (is_list k) below now x (inside (qs i) next k now) (inside (ps j) other k below) 0 0 (next + opens_one k now) (other + opens_one k below) (Prim.omega (arith, some))
      (covers_by (is_list k) k now below (qs i) (ps j) next other refl some (thinner_cuts k below now x).second (c i j f)) (λ l. refl) g)
      (λ g. row_found e top all r rest qs ps (suc i) (suc j) (next + scope_count (node k n now nothing)) (other + scope_count (node k n below nothing)) (Prim.omega (arith, some)) c (λ l. ap suc (f l)) g) h
  cuts_found all listed t u (behind r k n below rest now x) qs ps i j next other some c f h =
      at_node e top all (qs i) (ps j) (c i j f) n k below below (collected (all || is_export k) (inside (qs i) next k below) 0 (next + opens_one k below) below) (collected all qs (suc i) (next + scope_count (node k n below nothing)) now)
      (collected (all || is_export k) (inside (ps j) other k below) 0 (other + opens_one k below) below) (collected all ps (suc j) (other + scope_count (node k n below nothing)) rest)
      (λ g. row_found e top (all || is_export k) (is_list k) below (inside (qs i) next k below) (inside (ps j) other k below) 0 0 (next + opens_one k below) (other + opens_one k below) (Prim.omega (arith, some))
      (covers_by (is_list k) k below below (qs i) (ps j) next other refl some (λ l. refl) (c i j f)) (λ l. refl) g)
      (λ g. cuts_found all r rest now x qs ps (suc i) (suc j) (next + scope_count (node k n below nothing)) (other + scope_count (node k n below nothing)) (Prim.omega (arith, some)) c (λ l. ap suc (f l)) g) h
  cuts_found all listed t u (behind_none r rest now x) qs ps i j next other some c f h = cuts_found all r rest now x qs ps (suc i) (suc j) next other some c (λ l. ap suc (f l)) h

  -- ---- whole programs

  ahead_outermost : Ahead outermost outermost
  ahead_outermost = record { variables = λ h. h; block = λ h. h; declaring = λ h. h }

  abbrev collected_exports : Forest → List Site
  collected_exports t = collected false (λ at. outermost) 0 0 t

  program_found : (source : SourceType) (n : Note) (now below rest left : Forest)
      → (Among e (bindings_among (collected false (inside outermost 0 (kind.Program source) now) 0 1 now)) → Found e top (collected false (inside outermost 0 (kind.Program source) below) 0 1 below))
      → (Among e (bindings_among (collected false (λ at. outermost) 1 (0 + scope_count (node (kind.Program source) n now nothing)) left)) → Found e top (collected false (λ at. outermost) 1 (0 + scope_count (node (kind.Program source) n below nothing)) rest))
      → Among e (bindings_among (collected_exports (node (kind.Program source) n now left))) → Found e top (collected_exports (node (kind.Program source) n below rest))
  program_found source n now below rest left f g h =
      at_node e top false outermost outermost ahead_outermost n (kind.Program source) now below (collected false (inside outermost 0 (kind.Program source) now) 0 1 now)
      (collected false (λ at. outermost) 1 (0 + scope_count (node (kind.Program source) n now nothing)) left) (collected false (inside outermost 0 (kind.Program source) below) 0 1 below)
      (collected false (λ at. outermost) 1 (0 + scope_count (node (kind.Program source) n below nothing)) rest) f g h

  covers_program : (source : SourceType) (now below : Forest) → Covers false (inside outermost 0 (kind.Program source) now) (inside outermost 0 (kind.Program source) below)
  covers_program source now below i j f = record { variables = λ h. refl; block = λ h. refl; declaring = λ h. refl }

  root_found : (listed : Bool) (t u : Forest) → Cuts listed t u → listed ≡ false → is_program t ≡ true → Among e (bindings_among (collected_exports u)) → Found e top (collected_exports t)
  root_found listed t u (leaves k n below rest plain) l is h = absurd (true≢false l)
  root_found listed t u (empties r n m below rest) l is h = never is
  root_found listed t u (empties_idle r k n m below rest idle) l is h = never (idle_kinds (λ z. false ≡ is_program (node z n below rest)) refl refl refl refl refl (λ label. refl) k idle ∙ is)
  root_found listed t u (tests r k x n m y b after rest tested) l is h = never (tested_kinds (λ z. false ≡ is_program (node z n (node x y b after) rest)) refl k tested ∙ is)
  root_found listed t u (states r how x k n m l j i o b rest none) q is h = never is
  root_found listed t u (alternate (kind.Program source) l n m o below b) z is h =
      program_found source n below below (node l m b (node kind.EmptyStatement o nothing nothing)) (node l m b (absent nothing))
      (λ g. row_found e top false false below (inside outermost 0 (kind.Program source) below) (inside outermost 0 (kind.Program source) below) 0 0 1 1 (Prim.omega arith) (covers_program source below below) (λ l. refl) g)
      (λ g. last_found e top false l m o b (λ at. outermost) (λ at. outermost) 1 1 (0 + scope_count (node (kind.Program source) n below nothing)) (0 + scope_count (node (kind.Program source) n below nothing)) (Prim.omega arith) (λ i j f. ahead_outermost) refl g) h
  root_found listed t u (alternate k l n m o below b) z is h = never is
  root_found listed t u (parts r k x m n b v w rest gives unasked) l is h = never (sym (no_program k m (joined v (node x n b w)) rest gives) ∙ is)
  root_found listed t u (rebuilds r k x n m a b rest made) l is h = never (sym (part_no_program k n a rest made.old_unasked) ∙ is)
  root_found listed t u (names_left r k n m a b rest made) l is h = never (sym (holds_no_program k n a rest made.holds) ∙ is)
  root_found listed t u (cut_inside r (kind.Program source) n below now rest called x) l is h =
      program_found source n now below rest rest (λ g. cuts_found false false below now x (inside outermost 0 (kind.Program source) now) (inside outermost 0 (kind.Program source) below) 0 0 1 1 (Prim.omega arith) (covers_program source now below) (λ l. refl) g)
      (λ g. row_found e top false false rest (λ at. outermost) (λ at. outermost) 1 1 (0 + scope_count (node (kind.Program source) n now nothing)) (0 + scope_count (node (kind.Program source) n below nothing)) (Prim.omega arith) (λ i j f. ahead_outermost) (λ l. refl) g) h
  root_found listed t u (cut_inside r k n below now rest called x) l is h = never is
  root_found listed t u (behind r (kind.Program source) n below rest now x) l is h =
      program_found source n below below rest now
      (λ g. row_found e top false false below (inside outermost 0 (kind.Program source) below) (inside outermost 0 (kind.Program source) below) 0 0 1 1 (Prim.omega arith) (covers_program source below below) (λ l. refl) g)
      (λ g. cuts_found false r rest now x (λ at. outermost) (λ at. outermost) 1 1 (0 + scope_count (node (kind.Program source) n below nothing)) (0 + scope_count (node (kind.Program source) n below nothing)) (Prim.omega arith) (λ i j f. ahead_outermost) (λ l. refl) g) h
  root_found listed t u (behind r k n below rest now x) l is h = never is
  root_found listed t u (behind_none r rest now x) l is h = never is

cut_exports : (t u : Forest) → Cuts false t u → Fits root t → (e : BindingSite) → Among e (exported_declarations u) → e.layer.scope ≡ 0 → WasExported t e
cut_exports t u c fits e h top =
    subst (λ ss. IsMarkedAmong (bindings_among ss) e) (exports_collected (λ at. outermost) 0 0 t)
    (root_found e top false t u c refl (fits_program t fits) (subst (λ ss. Among e (bindings_among ss)) (sym (exports_collected (λ at. outermost) 0 0 u)) h))

edit_exports : (t u : Forest) → Edit t u → Fits root t → (e : BindingSite) → Among e (exported_declarations u) → e.layer.scope ≡ 0 → WasExported t e
edit_exports t u edit fits e h top = elim (edit_cuts t u edit fits) [
  | inl c ↦ cut_exports t u c fits e h top
  | inr (inl m) ↦ record { declaration = e; stands = subst (Among e) (same_exports t u m) h; is_outermost = top; same_mark = refl; same_name = refl }
  | inr (inr p) ↦ record { declaration = e; stands = subst (Among e) (passed.same_exports t u p) h; is_outermost = top; same_mark = refl; same_name = refl }
]

pub edits_export : (t u : Forest) → TreeEdits t u → Fits root t → (e : BindingSite) → Among e (exported_declarations u) → e.layer.scope ≡ 0 → WasExported t e
edits_export t u (no_tree_edit v) fits e h top = record { declaration = e; stands = h; is_outermost = top; same_mark = refl; same_name = refl }
edits_export t u (one_tree_edit v w x edit more) fits e h top =
    let later = edits_export w x more (edit_fits v w edit fits) e h top in
    let first = edit_exports v w edit fits later.declaration later.stands later.is_outermost in
    record { declaration = first.declaration; stands = first.stands; is_outermost = first.is_outermost; same_mark = first.same_mark ∙ later.same_mark; same_name = first.same_name ∙ later.same_name }
