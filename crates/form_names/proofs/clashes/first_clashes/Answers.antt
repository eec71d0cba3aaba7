use Rattle.std.proofs.Common.{◌≡◌, ◌∙◌, ◌∷◌, ap}
use Rattle.form_rules.specs.Scope.{clash, both_parameters, variable_of_catch}
use Rattle.form_names.proofs.Clashing.{sorts_of, clashing_more, clashing_none}
use Rattle.form_names.proofs.clashes.first_clashes.Goals as goal

pub loop-declared-preserved : goal.loop-declared-preserved
loop-declared-preserved c =
    let found = c.args.found.now in
    let at = c.loop-declared.declared-index in
    let declared = c.declared-item.result in
    let seen = c.loop-declared.invariant.seen in
    let before : c.in_ok-before.before ≡ sorts_of seen declared.name =
    c.in_ok-before.ensures.before ∙ c.loop-declared.invariant.known c.name.result.now ∙ ap (sorts_of seen) c.name.ensures in
    record {
      seen = declared ∷ seen;
      known = λ q. cc (c.in_ok-before.ensures.after q, c.loop-declared.invariant.known q);
      lexical = clashing_more clash 1 found at declared seen c.in_ok-before.before _ _ _ c.loop-declared-test.true c.declared-item.is before c.with-first.ensures.lexical c.loop-declared.invariant.lexical;
      parameters = clashing_more both_parameters 2 found at declared seen c.in_ok-before.before _ _ _ c.loop-declared-test.true c.declared-item.is before c.with-first.ensures.parameters c.loop-declared.invariant.parameters;
      variables = clashing_more variable_of_catch 9 found at declared seen c.in_ok-before.before _ _ _ c.loop-declared-test.true c.declared-item.is before c.with-first.ensures.variables c.loop-declared.invariant.variables;
    }

pub returns : goal.returns
returns c =
    let found = c.args.found.now in
    let at = c.loop-declared.declared-index in
    let seen = c.loop-declared.invariant.seen in
    record {
      lexical = clashing_none clash 1 found at seen _ _ c.loop-declared-test.false c.loop-declared.invariant.lexical;
      parameters = clashing_none both_parameters 2 found at seen _ _ c.loop-declared-test.false c.loop-declared.invariant.parameters;
      variables = clashing_none variable_of_catch 9 found at seen _ _ c.loop-declared-test.false c.loop-declared.invariant.variables;
    }
