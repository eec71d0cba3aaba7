use Rattle.std.proofs.Common.{◌∷◌, ◌∙◌, ap, sym, if◌then◌else◌}
use Rattle.js_meaning.specs.Value.{undef, given_own}
use Rattle.js_meaning.specs.Trace.{Ending}
use Rattle.js_meaning.specs.State.{gives, throws, stop}
use Rattle.js_meaning.specs.Show.{resolve, resolve_all}
use Rattle.js_meaning.specs.Host.{call_back, answered, play}
use Rattle.run_value.specs.ShownView.{given_of}
use Rattle.run_world.specs.World.{at, givens_of, move_of, moves_of}
use Rattle.run_operations.proofs.moves.make_move.Goals as goal

pub returns-in_ok-next-in-CallOwn : goal.returns-in_ok-next-in-CallOwn
unfolding play
returns-in_ok-next-in-CallOwn c = record {
  does = λ E.
      ap (λ f. at c.args.world.now (play E c.args.awaited (move_of f ∷ moves_of c.args.others.now))) c.in-CallOwn.is
      ∙ c.set_moves.ensures.does _
      ∙ ap (λ xs. at c.set_moves.new.self (resolve (given_own c.in-CallOwn.callee) (λ f. resolve (given_of c.in-CallOwn.this) (λ this. resolve_all (givens_of xs) (λ vs. call_back E c.args.awaited this vs f))))) (sym c.as_slice.ensures.value)
      ∙ c.in_ok-next-in-CallOwn.ensures E;
}

pub returns-then-branch : goal.returns-then-branch
unfolding play
returns-then-branch c = record {
  does = λ E.
      ap (λ f. at c.args.world.now (play E c.args.awaited (move_of f ∷ moves_of c.args.others.now))) c.in-SetGlobal.is
      ∙ c.in_ok-set_global_to-in-SetGlobal.ensures.does (play E c.args.awaited (moves_of c.args.others.now))
      ∙ ap (λ b. at c.set_global_to.new.world (if b then play E c.args.awaited (moves_of c.args.others.now) else stop Ending.host_stopped)) c.if-branch.true;
}

pub returns-else-branch : goal.returns-else-branch
unfolding play
returns-else-branch c = record {
  does = λ E.
      ap (λ f. at c.args.world.now (play E c.args.awaited (move_of f ∷ moves_of c.args.others.now))) c.in-SetGlobal.is
      ∙ c.in_ok-set_global_to-in-SetGlobal.ensures.does (play E c.args.awaited (moves_of c.args.others.now))
      ∙ ap (λ b. at c.set_global_to.new.world (if b then play E c.args.awaited (moves_of c.args.others.now) else stop Ending.host_stopped)) c.if-branch.false
      ∙ ap (λ m. at c.set_global_to.new.world m) (sym c.stopped.ensures);
}

pub returns-then-branch-2 : goal.returns-then-branch-2
unfolding play
returns-then-branch-2 c = record {
  does = λ E.
      ap (λ f. at c.args.world.now (play E c.args.awaited (move_of f ∷ moves_of c.args.others.now))) c.in-SetImport.is
      ∙ c.in_ok-set_import_to-in-SetImport.ensures.does (play E c.args.awaited (moves_of c.args.others.now))
      ∙ ap (λ b. at c.set_import_to.new.world (if b then play E c.args.awaited (moves_of c.args.others.now) else stop Ending.host_stopped)) c.if-branch-2.true;
}

pub returns-else-branch-2 : goal.returns-else-branch-2
unfolding play
returns-else-branch-2 c = record {
  does = λ E.
      ap (λ f. at c.args.world.now (play E c.args.awaited (move_of f ∷ moves_of c.args.others.now))) c.in-SetImport.is
      ∙ c.in_ok-set_import_to-in-SetImport.ensures.does (play E c.args.awaited (moves_of c.args.others.now))
      ∙ ap (λ b. at c.set_import_to.new.world (if b then play E c.args.awaited (moves_of c.args.others.now) else stop Ending.host_stopped)) c.if-branch-2.false
      ∙ ap (λ m. at c.set_import_to.new.world m) (sym c.stopped-else-branch-2.ensures);
}

pub returns-in_ok-value-in-Answer : goal.returns-in_ok-value-in-Answer
unfolding play
returns-in_ok-value-in-Answer c = record {
  does = λ E.
      ap (λ f. at c.args.world.now (play E c.args.awaited (move_of f ∷ moves_of c.args.others.now))) c.in-Answer.is
      ∙ c.in_ok-value-in-Answer.ensures.does (λ v. answered c.args.awaited (gives v undef) (play E c.args.awaited (moves_of c.args.others.now)))
      ∙ ap (λ m. at c.take_answer.new.world m) (c.answered.ensures E (moves_of c.args.others.now));
}

pub returns-in_ok-value-in-Refuse : goal.returns-in_ok-value-in-Refuse
unfolding play
returns-in_ok-value-in-Refuse c = record {
  does = λ E.
      ap (λ f. at c.args.world.now (play E c.args.awaited (move_of f ∷ moves_of c.args.others.now))) c.in-Refuse.is
      ∙ c.in_ok-value-in-Refuse.ensures.does (λ v. answered c.args.awaited (throws v) (play E c.args.awaited (moves_of c.args.others.now)))
      ∙ ap (λ m. at c.take_answer-in-Refuse.new.world m) (c.refused.ensures E (moves_of c.args.others.now));
}
