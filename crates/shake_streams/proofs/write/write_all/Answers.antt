use Rattle.std.proofs.Common.{rules}
use Rattle.shake_streams.proofs.Histories.{took_more, took_front}
use Rattle.shake_streams.proofs.Sending.{sent_more, sent_front}
use Rattle.shake_streams.proofs.write.write_all.Goals as goal

pub returns-in-Err-clause-front : goal.returns-in-Err-clause-front
returns-in-Err-clause-front g c =
    sent_front c.args.text.now c.pieces.sent _ _ _ c.pieces.invariant.sent c.in-Err.ensures.went

pub pieces-preserved : goal.pieces-preserved
pieces-preserved g c = record {
  within = search rules;
  sent = sent_more c.in-Ok.n c.args.text.now c.pieces.sent _ _ _ c.pieces.invariant.sent c.in-Ok.ensures.went;
  took = took_more _ _ _ c.args.text.now c.pieces.sent c.in-Ok.n c.pieces.invariant.took c.in-Ok.ensures.taken;
  later = search rules;
}

pub returns-in-Err-clause-took_front : goal.returns-in-Err-clause-took_front
returns-in-Err-clause-took_front g c =
    let front = took_front _ _ _ c.args.text.now c.pieces.sent c.pieces.invariant.took c.in-Err.ensures.taken in
    search (rules, front)
