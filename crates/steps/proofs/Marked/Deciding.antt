-- Whether flags tell is decided by computing.
use Rattle.std.proofs.Common.{◌≡◌, ◌∙◌, ◌↔◌, ℕ, suc, Bool, true, false, ◌&&◌, ◌==◌, Option, Some, None, refl, ap}
use Rattle.std.proofs.lemmas.Bool.{and_parts, and_from}
use Rattle.js_syntax.specs.Node.{Forest, nothing, node, absent}
use Rattle.scope_rules.specs.ScopeFlags as scope_flag
use Rattle.scope_rules.specs.Table.{Scoping}
use Rattle.steps.specs.Allowed.Exposure.{Exposure, is_script}
use Rattle.steps.specs.Marked.Flags.{scope_has, is_sloppy_block, Stand, stand_inside, stands_of, Tells, Told, FlagsTell}
use Rattle.steps.specs.Marked.Samples.{implies, numbers_tell, is_told, do_flags_tell}
use Rattle.steps.proofs.Marked.Exposing.{never}

implied : (b c : Bool) → implies b c ≡ true → b ≡ true → c ≡ true
implied true c h e = h
implied false c h e = never e

implying : (b c : Bool) → (b ≡ true → c ≡ true) → implies b c ≡ true
implying true c f = f refl
implying false c f = refl

module _ (s : Scoping) (script : Bool) where
  record Numbers (e : Exposure) (a b c : Option ℕ) : Type 0 where
    scope : ℕ
    scope_is : a ≡ Some scope
    variables : ℕ
    variables_is : b ≡ Some variables
    declaring : ℕ
    declaring_is : c ≡ Some declaring
    evaluates : e.evaluates ≡ true → scope_has s scope scope_flag.direct_eval ≡ true
    sloppy : e.in_sloppy_block ≡ true → is_sloppy_block s scope ≡ true
    names : e.names_shared ≡ true → script && scope == 0 ≡ true
    variable_names : e.variables_shared ≡ true → script && variables == 0 ≡ true
    declared : e.declared_shared ≡ true → script && declaring == 0 ≡ true

  numbers : (e : Exposure) (a b c : Option ℕ) → numbers_tell s script e a b c ≡ true → Numbers e a b c
  numbers e (Some n) (Some v) (Some d) h =
      let p = and_parts (implies e.evaluates (scope_has s n scope_flag.direct_eval)) _ h in
      let q = and_parts (implies e.in_sloppy_block (is_sloppy_block s n)) _ p.1 in
      let r = and_parts (implies e.names_shared (script && n == 0)) _ q.1 in
      let w = and_parts (implies e.variables_shared (script && v == 0)) (implies e.declared_shared (script && d == 0)) r.1 in
      record {
        scope = n;
        scope_is = refl;
        variables = v;
        variables_is = refl;
        declaring = d;
        declaring_is = refl;
        evaluates = implied e.evaluates _ p.0;
        sloppy = implied e.in_sloppy_block _ q.0;
        names = implied e.names_shared _ r.0;
        variable_names = implied e.variables_shared _ w.0;
        declared = implied e.declared_shared _ w.1;
      }
  numbers e (Some n) (Some v) None h = never h
  numbers e (Some n) None c h = never h
  numbers e None b c h = never h

  from_test : (p : Stand) → numbers_tell s script p.exposure p.scope p.variables p.declaring ≡ true → Tells s script p
  from_test p h =
      let t = numbers p.exposure p.scope p.variables p.declaring h in
      record {
        scope = t.scope;
        scope_is = t.scope_is;
        variables = t.variables;
        variables_is = t.variables_is;
        declaring = t.declaring;
        declaring_is = t.declaring_is;
        evaluates = t.evaluates;
        sloppy = t.sloppy;
        names = t.names;
        variable_names = t.variable_names;
        declared = t.declared;
      }

  to_test : (p : Stand) → Tells s script p → numbers_tell s script p.exposure p.scope p.variables p.declaring ≡ true
  to_test p t =
      let e = p.exposure in
      ap (λ o. numbers_tell s script e o p.variables p.declaring) t.scope_is
      ∙ ap (λ o. numbers_tell s script e (Some t.scope) o p.declaring) t.variables_is
      ∙ ap (λ o. numbers_tell s script e (Some t.scope) (Some t.variables) o) t.declaring_is
      ∙ and_from (implies e.evaluates (scope_has s t.scope scope_flag.direct_eval)) _ (implying e.evaluates _ t.evaluates)
      (and_from (implies e.in_sloppy_block (is_sloppy_block s t.scope)) _ (implying e.in_sloppy_block _ t.sloppy)
      (and_from (implies e.names_shared (script && t.scope == 0)) _ (implying e.names_shared _ t.names)
      (and_from (implies e.variables_shared (script && t.variables == 0)) _ (implying e.variables_shared _ t.variable_names) (implying e.declared_shared _ t.declared))))

  row_from : (ps : ℕ → Stand) (at : ℕ) (t : Forest) → is_told s script ps at t ≡ true → Told s script ps at t
  row_from ps at nothing h = tt
  row_from ps at (absent rest) h = row_from ps (suc at) rest h
  row_from ps at (node k n below rest) h =
      let p = and_parts (numbers_tell s script (ps at).exposure (ps at).scope (ps at).variables (ps at).declaring) _ h in
      let q = and_parts (is_told s script (stand_inside (ps at) k n below) 0 below) (is_told s script ps (suc at) rest) p.1 in
      (from_test (ps at) p.0, row_from (stand_inside (ps at) k n below) 0 below q.0, row_from ps (suc at) rest q.1)

  row_to : (ps : ℕ → Stand) (at : ℕ) (t : Forest) → Told s script ps at t → is_told s script ps at t ≡ true
  row_to ps at nothing h = refl
  row_to ps at (absent rest) h = row_to ps (suc at) rest h
  row_to ps at (node k n below rest) h =
      and_from (numbers_tell s script (ps at).exposure (ps at).scope (ps at).variables (ps at).declaring) _ (to_test (ps at) h.0)
      (and_from (is_told s script (stand_inside (ps at) k n below) 0 below) (is_told s script ps (suc at) rest) (row_to (stand_inside (ps at) k n below) 0 below h.1) (row_to ps (suc at) rest h.2))

pub decided : (s : Scoping) (t : Forest) → FlagsTell s t ↔ (do_flags_tell s t ≡ true)
decided s t = (row_to s (is_script t) (stands_of t) 0 t, row_from s (is_script t) (stands_of t) 0 t)
