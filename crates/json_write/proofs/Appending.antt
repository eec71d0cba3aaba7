-- One call after another.
use Rattle.std.proofs.Common.{◌≡◌, ℕ, List, [], ◌∷◌, ◌++◌, Ok, ap, subst, ◌∙◌, append_assoc}
use Rattle.json.specs.Token.{Token, string}
use Rattle.json.specs.Written.{Written, Writes}
use Rattle.json_write.specs.Tokens.{IsAppended}

-- a token that was written
pub one : {E : Type 0} {old new : Written} {t : Token} → Writes {E = E} (Ok tt) old new t → IsAppended old new (t ∷ [])
one w = record { before = w.room.0; tokens = w.ok }

infixr 4 ◌then◌
pub ◌then◌ : {a b c : Written} {ts us : List Token} → IsAppended a b ts → IsAppended b c us → IsAppended a c (ts ++ us)
◌then◌ {a = a} {ts = ts} {us = us} first next = record {
  before = next.before ∙ first.before;
  tokens = next.tokens ∙ ap (λ l. l ++ us) first.tokens ∙ append_assoc a.tokens ts us;
}

-- a text that was written, by what it says
pub said : {E : Type 0} {old new : Written} {s t : List ℕ} → Writes {E = E} (Ok tt) old new (string s) → s ≡ t → IsAppended old new (string t ∷ [])
said {old = old} {new = new} w is = subst (λ r. IsAppended old new (string r ∷ [])) is (one w)

pub appended : {old new : Written} {ts us : List Token} → IsAppended old new ts → ts ≡ us → IsAppended old new us
appended {old = old} {new = new} a is = subst (IsAppended old new) is a
