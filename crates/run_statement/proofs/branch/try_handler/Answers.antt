use Rattle.std.proofs.Common.{◌∙◌, ap, sym}
use Rattle.std.proofs.lemmas.Result.{IfOk-weaker}
use Rattle.std.specs.Prelude.{Some}
use Rattle.js_meaning.specs.Node.{may}
use Rattle.js_meaning.specs.Statement.{try_does}
use Rattle.js_meaning.specs.Meaning.{eval}
use Rattle.run_plan.specs.Frame.{meaning}
use Rattle.js_syntax.specs.Node.{row}
use Rattle.run_plan.specs.Front.{front_of}
use Rattle.run_statement.proofs.branch.try_handler.Goals as goal

pub returns-in-Node : goal.returns-in-Node
unfolding may eval
returns-in-Node c =
    IfOk-weaker c.try_finalizer.result _ _ (λ p made E. made E ∙ ap (λ t. may (eval E (row c.in-Node.others.now)) (λ f r. try_does (meaning E c.args.block.now) (Some (meaning E t)) f c.args.env)) c.new.ensures ∙ ap (λ t. may (eval E t) (λ m r. may r (λ f r. try_does (meaning E c.args.block.now) m f c.args.env))) (sym (sym c.first_field.ensures ∙ ap front_of c.in-Node.is))) c.try_finalizer.ensures

pub returns-in-Absent : goal.returns-in-Absent
unfolding may eval
returns-in-Absent c =
    IfOk-weaker c.try_finalizer-in-Absent.result _ _ (λ p made E. made E ∙ ap (λ t. may (eval E t) (λ m r. may r (λ f r. try_does (meaning E c.args.block.now) m f c.args.env))) (sym (sym c.first_field.ensures ∙ ap front_of c.in-Absent.is))) c.try_finalizer-in-Absent.ensures
