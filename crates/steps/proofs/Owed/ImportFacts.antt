-- What kinds bind names of imports, and what they have in common.
use Rattle.std.proofs.Common.{◌≡◌, ◌∙◌, inl, inr, ◌≤◌, ◌+◌, ℕ, List, [], ◌++◌, Bool, true, false, true≢false, None, arith, refl, sym, ap, subst}
use Rattle.js_syntax.specs.declared.node_kind.NodeKind.{NodeKind as Kind}
use Rattle.js_syntax.specs.declared.node_kind.NodeKind.TheVariants.{BindingName as binding_name}
use Rattle.js_syntax.specs.Facts.{weight}
use Rattle.js_syntax.specs.Node.{Forest, Note, nothing, node, alone}
use Rattle.json_shape.specs.Shape.{is_directive_kind}
use Rattle.js_tree.specs.Names.{eval_name, eval_of_call}
use Rattle.form_rules.specs.declared.sought.Sort.{Sort}
use Rattle.form_rules.specs.declared.sought.Sought.{Sought}
use Rattle.form_rules.specs.declared.sought.Sought.TheVariants.{Nothing as none, Names as names, Bound as bound, Scope as scope, Variables as variables, FunctionScope as function_scope, CatchScope as catch_scope}
use Rattle.form_rules.specs.Rules.{Exported}
use Rattle.form_rules.specs.Scope.{declared}
use Rattle.min_pass.specs.declared.around.Around.{Around as Asked}
use Rattle.scope_rules.specs.Context.{Context, inside}
use Rattle.scope_rules.specs.Site.{BindingSite, own_sites, opens_one, sites, bindings_among}
use Rattle.scope_rules.specs.Binding.{named_in}
use Rattle.scope_laws.specs.Exact.{Among}
use Rattle.steps.specs.Steps.{binds_import}
use Rattle.steps.proofs.Naming.Sites.{InThree, in_first, in_second, in_third, binding_in}
use Rattle.steps.specs.Allowed.Exposure.{Exposure}
use Rattle.steps.specs.Allowed.Changing.{may_change_at}
use Rattle.steps.specs.Allowed.Free.{IsFree}
use Rattle.steps.specs.KeepForm.Sheds.{exports_none}
use Rattle.steps.proofs.KeepForm.ShedNames.{none_declared}
use Rattle.steps.specs.Owed.Kept as kept
use Rattle.steps.specs.Owed.Owed.{IsOther}
use Rattle.steps.specs.Owed.Seeking.{Within, Seeks}
use Rattle.steps.specs.Owed.Unseen.{IsUnreferred}
use Rattle.steps.proofs.Owed.Focus.{is_program}
use Rattle.steps.proofs.Owed.Seeking.{free_name}
use Rattle.steps.proofs.Owed.Unexported.{name_stands}
use Rattle.steps.proofs.Owed.Unseen.{free_unreferred}

pub record Facts (k : Kind) (n : Note) (below : Forest) : Type 0 where
  pub weighs : 1 ≤ weight k
  pub no_directive : is_directive_kind k ≡ false
  pub other : IsOther (record { kind = k; note = n; below = below })
  pub no_program : is_program k ≡ false
  pub no_root : (rest : Forest) → kept.is_program (node k n below rest) ≡ false
  pub may_change : (evaluates : Bool) (w : Asked) (e : Exposure) → may_change_at evaluates w e k below ≡ true
  pub no_call : eval_of_call k below ≡ None
  pub no_name : (rest : Forest) → eval_name (node k n below rest) ≡ None
  -- it declares as the import says that it stands in
  pub declaring : (c : Context) (next : ℕ) → (inside c next k below 0).declaring.layer ≡ c.declaring.layer
  pub no_own : (c : Context) → bindings_among (own_sites c n k below) ≡ []

pub import_facts : (k : Kind) (n : Note) (below : Forest) → binds_import k ≡ true → Facts k n below
import_facts (Kind.ImportSpecifier imported) n below e = record {
  weighs = Prim.omega arith;
  no_directive = refl;
  other = record { counts = refl; lists = λ m. refl; begins = λ m. refl; calls = refl };
  no_program = refl;
  no_root = λ rest. refl;
  may_change = λ evaluates w e. refl;
  no_call = refl;
  no_name = λ rest. refl;
  declaring = λ c next. refl;
  no_own = λ c. refl;
}
import_facts Kind.ImportDefaultSpecifier n below e = record {
  weighs = Prim.omega arith;
  no_directive = refl;
  other = record { counts = refl; lists = λ m. refl; begins = λ m. refl; calls = refl };
  no_program = refl;
  no_root = λ rest. refl;
  may_change = λ evaluates w e. refl;
  no_call = refl;
  no_name = λ rest. refl;
  declaring = λ c next. refl;
  no_own = λ c. refl;
}
import_facts Kind.ImportNamespaceSpecifier n below e = record {
  weighs = Prim.omega arith;
  no_directive = refl;
  other = record { counts = refl; lists = λ m. refl; begins = λ m. refl; calls = refl };
  no_program = refl;
  no_root = λ rest. refl;
  may_change = λ evaluates w e. refl;
  no_call = refl;
  no_name = λ rest. refl;
  declaring = λ c next. refl;
  no_own = λ c. refl;
}
import_facts k n below e = absurd (true≢false (sym e))

-- ---- what it declares

module _ (x : List ℕ) (m : Note) where
  abbrev pub named : Forest
  named = node (binding_name x) m nothing nothing

  -- one name, as its context says
  pub declares_name : (k : Kind) (n : Note) → binds_import k ≡ true → (cs : ℕ → Context) (at next : ℕ) (b : BindingSite) → Among b (bindings_among (sites cs at next (node k n named nothing))) → (b.name ≡ x) × (b.layer ≡ (cs at).declaring.layer)
  declares_name k n e cs at next b g =
      of_three (import_facts k n named e) (binding_in b (own_sites (cs at) n k named) (sites fs 0 (next + opens_one k named) named) [] g)
    where
      fs : ℕ → Context
      fs = inside (cs at) next k named

      of_part : (fs 0).declaring.layer ≡ (cs at).declaring.layer → InThree b (bindings_among (own_sites (fs 0) m (binding_name x) nothing)) (bindings_among []) (bindings_among []) → (b.name ≡ x) × (b.layer ≡ (cs at).declaring.layer)
      of_part same (in_first (inl q)) = (ap (λ (s : BindingSite). s.name) (sym q), ap (λ (s : BindingSite). s.layer) (sym q) ∙ same)
      of_part same (in_first (inr q)) = absurd q
      of_part same (in_second q) = absurd q
      of_part same (in_third q) = absurd q

      of_three : Facts k n named → InThree b (bindings_among (own_sites (cs at) n k named)) (bindings_among (sites fs 0 (next + opens_one k named) named)) (bindings_among []) → (b.name ≡ x) × (b.layer ≡ (cs at).declaring.layer)
      of_three f (in_first q) = absurd (subst (λ bs. Among b bs) (f.no_own (cs at)) q)
      of_three f (in_second q) = of_part (f.declaring (cs at) next) (binding_in b (own_sites (fs 0) m (binding_name x) nothing) [] [] q)
      of_three f (in_third q) = absurd q

  pub imported_unreferred : (v : Forest) (k : Kind) (n : Note) → binds_import k ≡ true → (cs : ℕ → Context) (at next : ℕ) → IsFree v (named_in x (cs at).declaring.layer) → (b : BindingSite) → Among b (bindings_among (sites cs at next (node k n named nothing))) → IsUnreferred v b
  imported_unreferred v k n e cs at next free b g = let d = declares_name k n e cs at next b g in free_unreferred v b x (cs at).declaring.layer d.0 d.1 free

  -- ---- none that is exported

  module _ (t : Forest) (es : List Exported) (c : Context) (next : ℕ) where
    bound_out : (f : Sort) (k : Kind) (n : Note) → binds_import k ≡ true → Within t (sites (inside c next k named) 0 (next + opens_one k named) named) → IsFree t (named_in x c.declaring.layer) → Seeks t (bound f) es c
        → exports_none es (declared (bound f) 0 (alone k n named)) ≡ true
    bound_out f (Kind.ImportSpecifier imported) n e within free h = free_name t es x c.declaring.layer h (name_stands t (inside c next (Kind.ImportSpecifier imported) named) (next + 0) x m nothing within) free
    bound_out f Kind.ImportDefaultSpecifier n e within free h = free_name t es x c.declaring.layer h (name_stands t (inside c next Kind.ImportDefaultSpecifier named) (next + 0) x m nothing within) free
    bound_out f Kind.ImportNamespaceSpecifier n e within free h = free_name t es x c.declaring.layer h (name_stands t (inside c next Kind.ImportNamespaceSpecifier named) (next + 0) x m nothing within) free
    bound_out f k n e within free h = absurd (true≢false (sym e))

    pub imported_out : (s : Sought) (k : Kind) (n : Note) → binds_import k ≡ true → Within t (sites (inside c next k named) 0 (next + opens_one k named) named) → IsFree t (named_in x c.declaring.layer) → Seeks t s es c
        → exports_none es (declared s 0 (alone k n named)) ≡ true
    imported_out none k n e within free h = ap (exports_none es) (none_declared 0 (alone k n named))
    imported_out (names f) (Kind.ImportSpecifier imported) n e within free h = ap (exports_none es) (ap (λ ds. ds ++ []) (none_declared 1 named))
    imported_out (names f) Kind.ImportDefaultSpecifier n e within free h = ap (exports_none es) (ap (λ ds. ds ++ []) (none_declared 1 named))
    imported_out (names f) Kind.ImportNamespaceSpecifier n e within free h = ap (exports_none es) (ap (λ ds. ds ++ []) (none_declared 1 named))
    imported_out (names f) k n e within free h = absurd (true≢false (sym e))
    imported_out (bound f) k n e within free h = bound_out f k n e within free h
    imported_out (scope f) (Kind.ImportSpecifier imported) n e within free h = ap (exports_none es) (ap (λ ds. ds ++ []) (none_declared 1 named))
    imported_out (scope f) Kind.ImportDefaultSpecifier n e within free h = ap (exports_none es) (ap (λ ds. ds ++ []) (none_declared 1 named))
    imported_out (scope f) Kind.ImportNamespaceSpecifier n e within free h = ap (exports_none es) (ap (λ ds. ds ++ []) (none_declared 1 named))
    imported_out (scope f) k n e within free h = absurd (true≢false (sym e))
    imported_out variables (Kind.ImportSpecifier imported) n e within free h = ap (exports_none es) (ap (λ ds. ds ++ []) (none_declared 1 named))
    imported_out variables Kind.ImportDefaultSpecifier n e within free h = ap (exports_none es) (ap (λ ds. ds ++ []) (none_declared 1 named))
    imported_out variables Kind.ImportNamespaceSpecifier n e within free h = ap (exports_none es) (ap (λ ds. ds ++ []) (none_declared 1 named))
    imported_out variables k n e within free h = absurd (true≢false (sym e))
    imported_out function_scope k n e within free h = absurd h
    imported_out (catch_scope f) k n e within free h = absurd h
