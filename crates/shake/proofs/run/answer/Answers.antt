use Rattle.std.proofs.Common.{◌≡◌, ◌++◌, string_bytes, refl}
use Rattle.shake_streams.specs.Moves.{HasFailed, Known, SendsFront}
use Rattle.shake_streams.specs.Past.{with_bytes}
use Rattle.shake_streams.specs.Moves.{TakesFront}
use Rattle.shake.proofs.Answering.{refused, says_refusal, sent, sent_says}
use Rattle.shake.proofs.Running.{sent_follows, sent_tells, tells_refusal}
use Rattle.shake.proofs.run.answer.Goals as goal

pub returns-in-Ok-clause-answer : goal.returns-in-Ok-clause-answer
returns-in-Ok-clause-answer g c =
    sent c.args.command c.send.result c.args.bytes.items (string_bytes c.in-Ok.text) c.in-Ok.ensures.ok c.send.ensures.answer
    (λ text. Known (λ w. w ++ text) (g.K.Sink.written c.args.out.now) (g.K.Sink.written c.send.new.out))
    (λ text. SendsFront text (g.K.Sink.written c.args.out.now) (g.K.Sink.written c.send.new.out) × HasFailed (g.K.Sink.faults c.args.out.now) (g.K.Sink.faults c.send.new.out))
    (g.K.Sink.written c.send.new.out ≡ g.K.Sink.written c.args.out.now)
    c.send.ensures.sent c.send.ensures.front

pub returns-in-Ok-clause-line : goal.returns-in-Ok-clause-line
returns-in-Ok-clause-line g c = sent_says c.args.command c.send.result c.args.bytes.items _ _ _ _ c.send.ensures.answer c.send.ensures.line

pub returns-in-Ok-clause-follows : goal.returns-in-Ok-clause-follows
returns-in-Ok-clause-follows g c = sent_follows c.args.command c.send.result c.args.bytes.items (string_bytes c.in-Ok.text) _ _ c.in-Ok.ensures.ok c.send.ensures.answer c.send.ensures.took

pub returns-in-Ok-clause-told : goal.returns-in-Ok-clause-told
returns-in-Ok-clause-told g c = sent_tells c.args.command c.send.result c.args.bytes.items _ _ c.send.ensures.answer c.send.ensures.told

pub returns-in-Err-clause-answer : goal.returns-in-Err-clause-answer
returns-in-Err-clause-answer g c =
    refused c.args.command c.in-Err.error c.refuse.result c.args.bytes.items c.in-Err.ensures.err c.refuse.ensures.answer
    (λ text. Known (λ w. w ++ text) (g.K.Sink.written c.args.out.now) (g.K.Sink.written c.args.out.now))
    (λ text. SendsFront text (g.K.Sink.written c.args.out.now) (g.K.Sink.written c.args.out.now) × HasFailed (g.K.Sink.faults c.args.out.now) (g.K.Sink.faults c.args.out.now))
    (g.K.Sink.written c.args.out.now ≡ g.K.Sink.written c.args.out.now)
    refl

pub returns-in-Err-clause-line : goal.returns-in-Err-clause-line
returns-in-Err-clause-line g c = says_refusal c.args.command c.in-Err.error c.refuse.result c.args.bytes.items _ _ _ _ c.in-Err.ensures.err c.refuse.ensures.answer c.refuse.ensures.line

pub returns-in-Err-clause-follows : goal.returns-in-Err-clause-follows
returns-in-Err-clause-follows g c =
    refused c.args.command c.in-Err.error c.refuse.result c.args.bytes.items c.in-Err.ensures.err c.refuse.ensures.answer
    (λ text. g.K.Sink.taken c.args.out.now ≡ with_bytes (g.K.Sink.taken c.args.out.now) text)
    (λ text. TakesFront text (g.K.Sink.taken c.args.out.now) (g.K.Sink.taken c.args.out.now))
    (g.K.Sink.taken c.args.out.now ≡ g.K.Sink.taken c.args.out.now)
    refl

pub returns-in-Err-clause-told : goal.returns-in-Err-clause-told
returns-in-Err-clause-told g c = tells_refusal c.args.command c.in-Err.error c.refuse.result c.args.bytes.items _ _ c.in-Err.ensures.err c.refuse.ensures.answer c.refuse.ensures.told
