use Rattle.std.proofs.Common.{◌∙◌, arith}
use Rattle.form_names.proofs.Words.{word_read, no_word}
use Rattle.form_names.proofs.reserved.is_word_at.Goals as goal

pub returns-then-at-words : goal.returns-then-at-words
returns-then-at-words c = c.eq.ensures ∙ word_read (λ w. w.now) c.args.name.now c.args.words.now c.args.at _ (omega (arith, c.if-at-words.true))

pub returns : goal.returns
returns c = no_word (λ w. w.now) c.args.name.now c.args.words.now c.args.at (omega (arith, c.if-at-words.false))
