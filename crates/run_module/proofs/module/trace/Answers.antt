use Rattle.std.proofs.Common.{◌∙◌, ap, ap₂, sym, subst}
use Rattle.serde_json.specs.View.{view}
use Rattle.js_syntax.specs.Node.{forest_of}
use Rattle.js_meaning.specs.Run.{run}
use Rattle.run_text.specs.Text.{text_of}
use Rattle.run_module.specs.Answer.{Fails}
use Rattle.run_module.proofs.Causes.{script_fails}
use Rattle.run_module.proofs.module.trace.Goals as goal

pub returns-in_ok-text-in-Ok-clause-ok : goal.returns-in_ok-text-in-Ok-clause-ok
returns-in_ok-text-in-Ok-clause-ok c =
    let given = c.in-Ok.ensures.ok in
    record {
      program = forest_of c.args.program.now;
      input = given.0;
      read = c.requires.read;
      runs = c.requires.runs;
      asked = given.1;
      is = c.in_ok-text-in-Ok.ensures.text ∙ ap text_of (c.in_ok-trace-in-Ok.ensures.exact ∙ ap₂ (λ s n. run (forest_of c.args.program.now) s n) given.2 given.3);
    }

pub returns-in-Err-clause-err : goal.returns-in-Err-clause-err
returns-in-Err-clause-err c =
    subst (λ e. Fails e (view c.args.value.now)) (sym c.script_fault.ensures)
    (script_fails c.in-Err.error (view c.args.value.now) (forest_of c.args.program.now) c.requires.read c.requires.runs c.in-Err.ensures.err)
