-- A declaration of one name which nothing looks up does what a statement of its value does.
use Rattle.std.proofs.Common.{append-nil, ◌≡◌, refl, ap, subst}
use Rattle.js_syntax.specs.declared.node_kind.NodeKind.{NodeKind as Kind}
use Rattle.js_syntax.specs.declared.kind.VariableKind.{VariableKind}
use Rattle.js_syntax.specs.Node.{Note, Forest, nothing, node}
use Rattle.js_meaning.specs.Value.{Text, Env}
use Rattle.js_meaning.specs.State.{Out, goes, stops, Completion, normal, M, bind, go_on, done, if_normal, seq}
use Rattle.js_meaning.specs.Host.{Enter}
use Rattle.js_meaning.specs.Node.{Ask, itself, need, may, each}
use Rattle.js_meaning.specs.Meaning.{eval}
use Rattle.js_meaning_near.specs.Purpose.{Purpose, for_value, for_values}
use Rattle.js_meaning_near.specs.Names.{Names, Lone}
use Rattle.js_meaning_near.specs.Near.{meaning}
use Rattle.js_meaning_near.proofs.Worlds.{World}
use Rattle.js_meaning_near.proofs.Relations.{Envs, Means, SameAsk, same_run, SameCompletion, same_normal, same_gives, same_gives_all, same_refers, same_breaks, same_continues, same_returns, same_throws, Acts, envs_later}
use Rattle.js_meaning_near.proofs.Acts.{bind_acts, done_acts, unknown_acts, normal_acts, value_acts}
use Rattle.js_meaning_near.proofs.Scopes.{fill_old}
use Rattle.js_meaning_near.proofs.Rows.{same_now, Fields, fields_more, part}

-- ---- what ends so, and nothing behind it

ended : (o : Out) → go_on o done ≡ o
unfolding done
ended (goes es s c) = ap (λ l. goes l s c) (append-nil es)
ended (stops es e) = refl

bind_done : (k : M) → bind k done ≡ k
unfolding bind
bind_done k = λ i s. ended (k s) i

nothing_after : {w : World} {m k : M} → Acts w m k → Acts w (seq m (done normal)) k
nothing_after {w = w} {m = m} {k = k} a = subst (λ l. Acts w (seq m (done normal)) l) (bind_done k) (bind_acts a (λ w2 c d h s. ends s))
  where
    ends : {w2 : World} {c d : Completion} → SameCompletion w2 c d → Acts w2 (if_normal (done normal) c) (done d)
    ends same_normal = normal_acts
    ends (same_gives r q) = unknown_acts
    ends (same_gives_all r) = unknown_acts
    ends (same_refers r) = unknown_acts
    ends same_breaks = done_acts same_breaks
    ends same_continues = done_acts same_continues
    ends (same_returns r) = done_acts (same_returns r)
    ends (same_throws r) = done_acts (same_throws r)

-- ---- the declaration, and the statement

only_part : {st : Names} (E : Enter) (k z : Kind) (j l : Note) (b e : Forest) → Fields for_values st (eval E (node k j b nothing)) (eval E (node z l e nothing)) → Means (for_value itself) st (meaning E k b) (meaning E z e)
unfolding eval
only_part E k z j l b e (fields_more (part x) c) = x

pub value_left : {w : World} {st : Names} {e f : Env} {q z : Ask} {u : Purpose} (E : Enter) (how : VariableKind) (x : Text) (m i o j l : Note) (k g : Kind) (a b d : Forest) → Lone (st x)
    → Fields for_values st (eval E (node k j b nothing)) (eval E (node g l d nothing)) → Envs w st e f → SameAsk w u q z
    → Acts w (meaning E (Kind.VariableDeclaration how) (node Kind.Declarators m (node Kind.VariableDeclarator i (node (Kind.BindingName x) o a (node k j b nothing)) nothing) nothing) q e) (meaning E Kind.ExpressionStatement (node g l d nothing) z f)
unfolding eval need may each
value_left {e = e} {f = f} E how x m i o j l k g a b d lone parts r same_run =
    nothing_after (value_acts ((only_part E k g j l b d parts).mean r same_now) (λ w2 v u h s. fill_old v lone ((envs_later h r).at x) normal_acts))
value_left E how x m i o j l k g a b d lone parts r _ = unknown_acts
