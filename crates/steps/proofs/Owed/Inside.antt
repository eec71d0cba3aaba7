-- Where the names of a row are declared, by the contexts that it stands in.
use Rattle.std.proofs.Common.{◌≡◌, ◌≤◌, ◌<◌, inl, inr, ℕ, suc, ◌+◌, Bool, true, false, not, ◌&&◌, ◌||◌, if◌then◌else◌, ◌==◌, [], ◌∷◌, ◌++◌, true≢false, refl, sym, ap, subst, arith}
use Rattle.std.proofs.lemmas.Bool.{and_parts}
use Rattle.js_syntax.specs.declared.node_kind.NodeKind.{NodeKind as Kind}
use Rattle.js_syntax.specs.Node.{Forest, nothing, node, absent, Note}
use Rattle.js_syntax.specs.declared.kind.VariableKind.{VariableKind}
use Rattle.js_syntax.specs.declared.kind.VariableKind.TheVariants as variable
use Rattle.js_syntax.specs.declared.kind.FunctionKind.{FunctionKind}
use Rattle.js_syntax.specs.declared.kind.FunctionKind.TheVariants as function_kind
use Rattle.js_syntax.specs.declared.kind.ClassKind.{ClassKind}
use Rattle.js_syntax.specs.declared.kind.ClassKind.TheVariants as class_kind
use Rattle.form_rules.specs.Context.{is_strict_function}
use Rattle.scope_rules.specs.declared.layer.Layer.{Layer}
use Rattle.scope_rules.specs.declared.layer.Role.TheVariants.{Write as write}
use Rattle.scope_rules.specs.Context.{Context, has_second, inside, body_of, in_block, below_it, used, declares, at_function_name, at_class_name, at_parameters, in_function, in_variables}
use Rattle.scope_rules.specs.Site.{Site, BindingSite, own_sites, opens_one, scope_count, sites, bindings_among}
use Rattle.scope_laws.specs.Exact.{Among}
use Rattle.steps.proofs.Naming.Lists.{either}
use Rattle.steps.proofs.Naming.Taking.{Kept, kept}
use Rattle.steps.proofs.Naming.Sites.{InThree, in_first, in_second, in_third, binding_in}
use Rattle.steps.specs.Fit.Enclosed.{is_binding, is_var, inherits, passes, closed, is_enclosed_at, is_enclosed}

-- ---- parts of a tree

module _ (k : Kind) (n : Note) (below rest : Forest) (h : is_enclosed (node k n below rest) ≡ true) where
  pub enclosed_here : is_enclosed_at k below ≡ true
  enclosed_here = (and_parts (is_enclosed_at k below) _ h).0

  pub enclosed_below : is_enclosed below ≡ true
  enclosed_below = (and_parts (is_enclosed below) (is_enclosed rest) (and_parts (is_enclosed_at k below) _ h).1).0

  pub enclosed_rest : is_enclosed rest ≡ true
  enclosed_rest = (and_parts (is_enclosed below) (is_enclosed rest) (and_parts (is_enclosed_at k below) _ h).1).1

-- ---- what a node itself declares

pub record Named (c : Context) (n : Note) (k : Kind) (b : BindingSite) : Type 0 where
  pub layer : b.layer ≡ c.declaring.layer
  pub id : b.id ≡ n.id
  pub is_name : is_binding k ≡ true

none_here : {P : Type 0} (b : BindingSite) (o : Bool) (s : Site) → Among b (bindings_among ((if o then s ∷ [] else []) ++ [])) → bindings_among (s ∷ []) ≡ [] → P
none_here b true s h e = absurd (subst (Among b) (sym_none s e) h)
  where
    sym_none : (s : Site) → bindings_among (s ∷ []) ≡ [] → bindings_among ((s ∷ []) ++ []) ≡ []
    sym_none s e = e
none_here b false s h e = absurd h

pub named : (c : Context) (n : Note) (k : Kind) (below : Forest) (b : BindingSite) → Among b (bindings_among (own_sites c n k below)) → Named c n k b
named c n (Kind.BindingName x) below b (inl e) = record { layer = ap (λ (s : BindingSite). s.layer) (sym e); id = ap (λ (s : BindingSite). s.id) (sym e); is_name = refl }
named c n (Kind.BindingName x) below b (inr h) = absurd h
named c n (Kind.PropertyDefinition is_static key) below b h = none_here b (has_second below) _ h refl
named c n k below b h = absurd h

-- ---- contexts whose layers lie in a range of scopes

pub record In (lo hi : ℕ) (l : Layer) : Type 0 where
  pub from : lo ≤ l.scope
  pub to : l.scope < hi

-- where `var` may be declared around, and where a name may be
pub record Within (lo hi : ℕ) (vars names : Bool) (c : Context) : Type 0 where
  pub block : In lo hi c.block
  pub variables : vars ≡ false → In lo hi c.variables
  pub declaring : names ≡ false → In lo hi c.declaring.layer

pub in_same : (lo hi hi' : ℕ) (l m : Layer) → hi ≤ hi' → m ≡ l → In lo hi l → In lo hi' m
in_same lo hi hi' l m h e i = record { from = Prim.omega (arith, i.from, ap (λ (x : Layer). x.scope) e); to = Prim.omega (arith, h, i.to, ap (λ (x : Layer). x.scope) e) }

pub in_more : (lo hi hi' : ℕ) (l : Layer) → hi ≤ hi' → In lo hi l → In lo hi' l
in_more lo hi hi' l h i = record { from = i.from; to = Prim.omega (arith, h, i.to) }

pub within_more : (lo hi hi' : ℕ) (vars names : Bool) (c : Context) → hi ≤ hi' → Within lo hi vars names c → Within lo hi' vars names c
within_more lo hi hi' vars names c h w = record { block = in_more lo hi hi' c.block h w.block; variables = λ e. in_more lo hi hi' c.variables h (w.variables e); declaring = λ e. in_more lo hi hi' c.declaring.layer h (w.declaring e) }

-- a layer of the new scope
own_layer : (lo next : ℕ) (l : Layer) → lo ≤ next → l.scope ≡ next → In lo (next + 1) l
own_layer lo next l h e = record { from = Prim.omega (arith, h, e); to = Prim.omega (arith, e) }

and_true : (b : Bool) → b && true ≡ false → b ≡ false
and_true true e = absurd (true≢false e)
and_true false e = refl

-- the parts of a node in whose scope they lie
module _ (lo next : ℕ) (vars names : Bool) (c : Context) (low : lo ≤ next) (w : Within lo next vars names c) where
  same_one : (d : Context) → d.block ≡ c.block → d.variables ≡ c.variables → d.declaring.layer ≡ c.declaring.layer → Within lo (next + 0) (vars && true) (names && true) d
  same_one d b v e = record {
    block = in_same lo next (next + 0) c.block d.block (Prim.omega arith) b w.block;
    variables = λ g. in_same lo next (next + 0) c.variables d.variables (Prim.omega arith) v (w.variables (and_true vars g));
    declaring = λ g. in_same lo next (next + 0) c.declaring.layer d.declaring.layer (Prim.omega arith) e (w.declaring (and_true names g));
  }

  same_more : (d : Context) → d.block ≡ c.block → d.variables ≡ c.variables → d.declaring.layer ≡ c.declaring.layer → Within lo (next + 1) (vars && true) (names && true) d
  same_more d b v e = record {
    block = in_same lo next (next + 1) c.block d.block (Prim.omega arith) b w.block;
    variables = λ g. in_same lo next (next + 1) c.variables d.variables (Prim.omega arith) v (w.variables (and_true vars g));
    declaring = λ g. in_same lo next (next + 1) c.declaring.layer d.declaring.layer (Prim.omega arith) e (w.declaring (and_true names g));
  }

  of_block : (strict : Bool) → Within lo (next + 1) (vars && true) (names && true) (in_block c next strict)
  of_block strict = record {
    block = own_layer lo next (body_of next) low refl;
    variables = λ g. in_more lo next (next + 1) c.variables (Prim.omega arith) (w.variables (and_true vars g));
    declaring = λ g. in_more lo next (next + 1) c.declaring.layer (Prim.omega arith) (w.declaring (and_true names g));
  }

  -- the first part declares anew
  of_body_name : (v : Bool) (d : Context) → d.block.scope ≡ next → (v ≡ false → In lo (next + 1) d.variables) → d.declaring.layer.scope ≡ next → Within lo (next + 1) v (names && false) d
  of_body_name v d b vs e = record { block = own_layer lo next d.block low b; variables = vs; declaring = λ g. own_layer lo next d.declaring.layer low e }

  of_function_name : (how : FunctionKind) (pure : Bool) → Within lo (next + 1) (vars && true) (names && false) (at_function_name c next how pure)
  of_function_name function_kind.Declaration pure = record {
    block = in_more lo next (next + 1) c.block (Prim.omega arith) w.block;
    variables = λ g. in_more lo next (next + 1) c.variables (Prim.omega arith) (w.variables (and_true vars g));
    declaring = λ g. in_more lo next (next + 1) c.block (Prim.omega arith) w.block;
  }
  of_function_name function_kind.Expression pure = record {
    block = in_more lo next (next + 1) c.block (Prim.omega arith) w.block;
    variables = λ g. in_more lo next (next + 1) c.variables (Prim.omega arith) (w.variables (and_true vars g));
    declaring = λ g. own_layer lo next _ low refl;
  }
  of_function_name function_kind.Arrow pure = record {
    block = in_more lo next (next + 1) c.block (Prim.omega arith) w.block;
    variables = λ g. in_more lo next (next + 1) c.variables (Prim.omega arith) (w.variables (and_true vars g));
    declaring = λ g. own_layer lo next _ low refl;
  }

  of_class_name : (how : ClassKind) → Within lo (next + 1) (vars && true) (names && false) (at_class_name c next how)
  of_class_name class_kind.Declaration = record {
    block = in_more lo next (next + 1) c.block (Prim.omega arith) w.block;
    variables = λ g. in_more lo next (next + 1) c.variables (Prim.omega arith) (w.variables (and_true vars g));
    declaring = λ g. in_more lo next (next + 1) c.block (Prim.omega arith) w.block;
  }
  of_class_name class_kind.Expression = record {
    block = in_more lo next (next + 1) c.block (Prim.omega arith) w.block;
    variables = λ g. in_more lo next (next + 1) c.variables (Prim.omega arith) (w.variables (and_true vars g));
    declaring = λ g. own_layer lo next (body_of next) low refl;
  }

  of_function : (how : FunctionKind) (pure strict z o : Bool)
      → Within lo (next + 1) (vars && (if z then true else false)) (names && (if z then false else if o then false else true)) (if z then at_function_name c next how pure else if o then at_parameters c next how strict else in_function c next how strict)
  of_function how pure strict true o = of_function_name how pure
  of_function how pure strict false true = record { block = own_layer lo next _ low refl; variables = λ g. own_layer lo next _ low refl; declaring = λ g. own_layer lo next _ low refl }
  of_function how pure strict false false = record {
    block = own_layer lo next (body_of next) low refl;
    variables = λ g. own_layer lo next (body_of next) low refl;
    declaring = λ g. in_more lo next (next + 1) c.declaring.layer (Prim.omega arith) (w.declaring (and_true names g));
  }

  of_class : (how : ClassKind) (z : Bool) → Within lo (next + 1) (vars && true) (names && (if z then false else true)) (if z then at_class_name c next how else in_block c next true)
  of_class how true = of_class_name how
  of_class how false = of_block true

  of_catch : (z : Bool) → Within lo (next + 1) (vars && true) (names && (if z then false else true)) (if z then declares (in_block c next c.strict) (body_of next) 16 false else in_block c next c.strict)
  of_catch true = of_body_name (vars && true) _ refl (λ g. in_more lo next (next + 1) c.variables (Prim.omega arith) (w.variables (and_true vars g))) refl
  of_catch false = of_block c.strict

  of_variables : (how : VariableKind) → is_var (Kind.VariableDeclaration how) && vars ≡ false → Within lo (next + 0) (vars && true) (names && false) (in_variables c how)
  of_variables variable.Var e = record {
    block = in_more lo next (next + 0) c.block (Prim.omega arith) w.block;
    variables = λ g. in_more lo next (next + 0) c.variables (Prim.omega arith) (w.variables (and_true vars g));
    declaring = λ g. in_more lo next (next + 0) c.variables (Prim.omega arith) (w.variables e);
  }
  of_variables variable.Let e = record {
    block = in_more lo next (next + 0) c.block (Prim.omega arith) w.block;
    variables = λ g. in_more lo next (next + 0) c.variables (Prim.omega arith) (w.variables (and_true vars g));
    declaring = λ g. in_more lo next (next + 0) c.block (Prim.omega arith) w.block;
  }
  of_variables variable.Const e = record {
    block = in_more lo next (next + 0) c.block (Prim.omega arith) w.block;
    variables = λ g. in_more lo next (next + 0) c.variables (Prim.omega arith) (w.variables (and_true vars g));
    declaring = λ g. in_more lo next (next + 0) c.block (Prim.omega arith) w.block;
  }

  of_field : (second first_there : Bool) → Within lo (next + (if second then 1 else 0)) (vars && true) (names && true) (if second && first_there then in_block c next c.strict else below_it c)
  of_field true true = of_block c.strict
  of_field true false = same_more (below_it c) refl refl refl
  of_field false b = same_one (below_it c) refl refl refl

  of_kept : (k : Kind) (below : Forest) (i : ℕ) → Kept (inside c next k below i) c → Within lo (next + 0) (vars && true) (names && true) (inside c next k below i)
  of_kept k below i h = same_one (inside c next k below i) h.block h.variables h.declares

  pub inside_within : (k : Kind) (below : Forest) (i : ℕ) → is_var k && vars ≡ false → Within lo (next + opens_one k below) (vars && passes k i) (names && inherits k i) (inside c next k below i)
  inside_within (Kind.Program source) below i e = record {
    block = own_layer lo next (body_of next) low refl;
    variables = λ g. own_layer lo next (body_of next) low refl;
    declaring = λ g. in_more lo next (next + 1) c.declaring.layer (Prim.omega arith) (w.declaring (and_true names g));
  }
  inside_within (Kind.Function how pure) below i e = of_function how pure (c.strict || is_strict_function below) (i == 0) (i == 1)
  inside_within (Kind.Class how) below i e = of_class how (i == 0)
  inside_within Kind.StaticBlock below i e = record {
    block = own_layer lo next (body_of next) low refl;
    variables = λ g. own_layer lo next (body_of next) low refl;
    declaring = λ g. in_more lo next (next + 1) c.declaring.layer (Prim.omega arith) (w.declaring (and_true names g));
  }
  inside_within (Kind.PropertyDefinition is_static key) below i e = of_field (has_second below) (i == 1)
  inside_within Kind.BlockStatement below i e = of_block c.strict
  inside_within Kind.SwitchStatement below i e = either (Within lo (next + 1) (vars && true) (names && true)) (i == 1) (in_block c next c.strict) (below_it c) (of_block c.strict) (same_more (below_it c) refl refl refl)
  inside_within Kind.WithStatement below i e = either (Within lo (next + 1) (vars && true) (names && true)) (i == 1) (in_block c next c.strict) (below_it c) (of_block c.strict) (same_more (below_it c) refl refl refl)
  inside_within Kind.CatchClause below i e = of_catch (i == 0)
  inside_within Kind.ForStatement below i e = of_block c.strict
  inside_within Kind.ForInStatement below i e = either (Within lo (next + 1) (vars && true) (names && true)) (i == 0) (used write (in_block c next c.strict)) (in_block c next c.strict) (of_block_used c.strict) (of_block c.strict)
    where
      of_block_used : (strict : Bool) → Within lo (next + 1) (vars && true) (names && true) (used write (in_block c next strict))
      of_block_used strict = let d = of_block strict in record { block = d.block; variables = d.variables; declaring = d.declaring }
  inside_within Kind.ForOfStatement below i e = either (Within lo (next + 1) (vars && true) (names && true)) (i == 0) (used write (in_block c next c.strict)) (in_block c next c.strict) (of_block_used c.strict) (of_block c.strict)
    where
      of_block_used : (strict : Bool) → Within lo (next + 1) (vars && true) (names && true) (used write (in_block c next strict))
      of_block_used strict = let d = of_block strict in record { block = d.block; variables = d.variables; declaring = d.declaring }
  inside_within (Kind.VariableDeclaration how) below i e = of_variables how e
  inside_within (Kind.ImportDeclaration source) below i e = record {
    block = in_more lo next (next + 0) c.block (Prim.omega arith) w.block;
    variables = λ g. in_more lo next (next + 0) c.variables (Prim.omega arith) (w.variables (and_true vars g));
    declaring = λ g. in_more lo next (next + 0) c.block (Prim.omega arith) w.block;
  }
  inside_within k below i e = of_kept k below i (kept c next k below i refl)

-- ---- rows

not_both : (a b : Bool) → not (a && b) ≡ true → b ≡ true → a ≡ false
not_both true true e g = absurd (true≢false (sym e))
not_both true false e g = absurd (true≢false (sym g))
not_both false b e g = refl

not_turned : (a b : Bool) → not (a && b) ≡ true → b && a ≡ false
not_turned true true e = absurd (true≢false (sym e))
not_turned true false e = refl
not_turned false true e = refl
not_turned false false e = refl

module _ (vars names : ℕ → Bool) (at : ℕ) (k : Kind) (n : Note) (below rest : Forest) (h : closed vars names at (node k n below rest) ≡ true) where
  pub closed_name : not (names at && is_binding k) ≡ true
  closed_name = (and_parts (not (names at && is_binding k)) _ h).0

  closed_more : (not (vars at && is_var k) && (closed (λ i. vars at && passes k i) (λ i. names at && inherits k i) 0 below && closed vars names (suc at) rest)) ≡ true
  closed_more = (and_parts (not (names at && is_binding k)) _ h).1

  pub closed_var : not (vars at && is_var k) ≡ true
  closed_var = (and_parts (not (vars at && is_var k)) _ closed_more).0

  pub closed_below : closed (λ i. vars at && passes k i) (λ i. names at && inherits k i) 0 below ≡ true
  closed_below = (and_parts (closed (λ i. vars at && passes k i) (λ i. names at && inherits k i) 0 below) _ (and_parts (not (vars at && is_var k)) _ closed_more).1).0

  pub closed_rest : closed vars names (suc at) rest ≡ true
  closed_rest = (and_parts (closed (λ i. vars at && passes k i) (λ i. names at && inherits k i) 0 below) _ (and_parts (not (vars at && is_var k)) _ closed_more).1).1

-- what a row declares lies in that range or in scopes of its own
pub names_inside : (lo : ℕ) (vars names : ℕ → Bool) (cs : ℕ → Context) (at next : ℕ) (t : Forest) → lo ≤ next → closed vars names at t ≡ true → ((i : ℕ) → at ≤ i → Within lo next (vars i) (names i) (cs i))
    → (b : BindingSite) → Among b (bindings_among (sites cs at next t)) → In lo (next + scope_count t) b.layer
names_inside lo vars names cs at next nothing low c w b h = absurd h
names_inside lo vars names cs at next (absent rest) low c w b h = names_inside lo vars names cs (suc at) next rest low c (λ i l. w i (Prim.omega (arith, l))) b h
names_inside lo vars names cs at next (node k n below rest) low c w b h =
    by (binding_in b (own_sites (cs at) n k below) (sites (inside (cs at) next k below) 0 (next + opens_one k below) below) (sites cs (suc at) (next + scope_count (node k n below nothing)) rest) h)
    (names_inside lo (λ i. vars at && passes k i) (λ i. names at && inherits k i) (inside (cs at) next k below) 0 (next + opens_one k below) below (Prim.omega (arith, low)) (closed_below vars names at k n below rest c)
    (λ i l. inside_within lo next (vars at) (names at) (cs at) low (w at (Prim.omega arith)) k below i (not_turned (vars at) (is_var k) (closed_var vars names at k n below rest c))) b)
    (names_inside lo vars names cs (suc at) (next + scope_count (node k n below nothing)) rest (Prim.omega (arith, low)) (closed_rest vars names at k n below rest c)
    (λ i l. within_more lo next (next + scope_count (node k n below nothing)) (vars i) (names i) (cs i) (Prim.omega arith) (w i (Prim.omega (arith, l)))) b)
  where
    by : InThree b (bindings_among (own_sites (cs at) n k below)) (bindings_among (sites (inside (cs at) next k below) 0 (next + opens_one k below) below)) (bindings_among (sites cs (suc at) (next + scope_count (node k n below nothing)) rest))
        → (Among b (bindings_among (sites (inside (cs at) next k below) 0 (next + opens_one k below) below)) → In lo ((next + opens_one k below) + scope_count below) b.layer)
        → (Among b (bindings_among (sites cs (suc at) (next + scope_count (node k n below nothing)) rest)) → In lo ((next + scope_count (node k n below nothing)) + scope_count rest) b.layer)
        → In lo (next + scope_count (node k n below rest)) b.layer
    by (in_first g) inner later =
        let m = named (cs at) n k below b g in
        let i = (w at (Prim.omega arith)).declaring (not_both (names at) (is_binding k) (closed_name vars names at k n below rest c) m.is_name) in
        in_same lo next (next + scope_count (node k n below rest)) (cs at).declaring.layer b.layer (Prim.omega arith) m.layer i
    by (in_second g) inner later = in_more lo ((next + opens_one k below) + scope_count below) (next + scope_count (node k n below rest)) b.layer (Prim.omega arith) (inner g)
    by (in_third g) inner later = in_more lo ((next + scope_count (node k n below nothing)) + scope_count rest) (next + scope_count (node k n below rest)) b.layer (Prim.omega arith) (later g)
