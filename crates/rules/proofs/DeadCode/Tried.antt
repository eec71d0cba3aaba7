-- Computing shows whether flags tell only what is so.
use Rattle.std.proofs.Common.{◌≡◌, ◌∙◌, ◌==◌, ℕ, suc, Bool, true, false, ◌&&◌, Option, Some, None, true≢false, refl, sym, ap}
use Rattle.std.proofs.lemmas.Bool.{and_parts, and_from}
use Rattle.js_syntax.specs.Node.{Forest, nothing, node, absent}
use Rattle.scope_rules.specs.ScopeFlags as scope_flag
use Rattle.scope_rules.specs.Table.{Scoping}
use Rattle.scope_laws.proofs.Bindings.{same_value}
use Rattle.steps.specs.Allowed.Exposure.{is_script}
use Rattle.steps.specs.Marked.Flags.{scope_has, is_sloppy_block, Stand, stand_inside, stands_of}
use Rattle.rules.specs.DeadCode.Quiet.{TellsOnly, ToldOnly}
use Rattle.rules.specs.DeadCode.Samples.{implies, numbers_tell_only, is_told_only, do_flags_tell_only}

follows : (b c : Bool) → implies b c ≡ true → b ≡ true → c ≡ true
follows true c h e = h
follows false c h e = absurd (true≢false (sym e))

module _ (s : Scoping) (script : Bool) where
  tells_only : (p : Stand) (o v : Option ℕ) → p.scope ≡ o → p.variables ≡ v → numbers_tell_only s script p.exposure o v ≡ true → TellsOnly s script p
  tells_only p (Some n) (Some m) a b h =
      let e = p.exposure in
      let first = and_parts (implies (scope_has s n scope_flag.direct_eval) e.evaluates) (implies (is_sloppy_block s n) e.in_sloppy_block && (implies (script && n == 0) e.names_shared && implies (script && m == 0) e.variables_shared)) h in
      let second = and_parts (implies (is_sloppy_block s n) e.in_sloppy_block) (implies (script && n == 0) e.names_shared && implies (script && m == 0) e.variables_shared) first.1 in
      let third = and_parts (implies (script && n == 0) e.names_shared) (implies (script && m == 0) e.variables_shared) second.1 in
      record {
        evaluates = λ i is g. follows (scope_has s n scope_flag.direct_eval) e.evaluates first.0 (ap (λ j. scope_has s j scope_flag.direct_eval) (same_value (sym a ∙ is)) ∙ g);
        sloppy = λ i is g. follows (is_sloppy_block s n) e.in_sloppy_block second.0 (ap (λ j. is_sloppy_block s j) (same_value (sym a ∙ is)) ∙ g);
        names = λ g is. follows (script && n == 0) e.names_shared third.0 (ap (λ j. script && j == 0) (same_value (sym a ∙ is)) ∙ and_from script (0 == 0) g refl);
        variable_names = λ g is. follows (script && m == 0) e.variables_shared third.1 (ap (λ j. script && j == 0) (same_value (sym b ∙ is)) ∙ and_from script (0 == 0) g refl);
      }
  tells_only p (Some n) None a b h = absurd (true≢false (sym h))
  tells_only p None v a b h = absurd (true≢false (sym h))

  row_told_only : (ps : ℕ → Stand) (at : ℕ) (t : Forest) → is_told_only s script ps at t ≡ true → ToldOnly s script ps at t
  row_told_only ps at nothing h = tt
  row_told_only ps at (absent rest) h = row_told_only ps (suc at) rest h
  row_told_only ps at (node k n below rest) h =
      let inner = is_told_only s script (stand_inside (ps at) k n below) 0 below in
      let outer = is_told_only s script ps (suc at) rest in
      let first = and_parts (numbers_tell_only s script (ps at).exposure (ps at).scope (ps at).variables) (inner && outer) h in
      let second = and_parts inner outer first.1 in
      (tells_only (ps at) (ps at).scope (ps at).variables refl refl first.0, row_told_only (stand_inside (ps at) k n below) 0 below second.0, row_told_only ps (suc at) rest second.1)

pub told_only : (s : Scoping) (t : Forest) → do_flags_tell_only s t ≡ true → ToldOnly s (is_script t) (stands_of t) 0 t
told_only s t h = row_told_only s (is_script t) (stands_of t) 0 t h
