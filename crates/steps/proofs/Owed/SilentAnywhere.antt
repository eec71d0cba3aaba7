-- What has no effects where neither names nor `this` are known is silent, whatever is known of the names around.
use Rattle.std.proofs.Common.{◌≡◌, Bool, true, false, not, ◌||◌, if◌then◌else◌, [], refl, sym, true≢false}
use Rattle.js_syntax.specs.declared.node_kind.NodeKind.{NodeKind as Kind}
use Rattle.js_syntax.specs.Node.{Forest, nothing, node, absent, Note, alone}
use Rattle.js_syntax.proofs.Truth.{first_of_neither, second_of_neither, neither}
use Rattle.js_effects.specs.Still.{is_value}
use Rattle.js_effects.specs.Silence.{runs_its_parts, anywhere, has_effect, may_have_effects}
use Rattle.js_meaning_near.specs.Names.{Names}
use Rattle.js_meaning_near.specs.Near.{Silent}
use Rattle.steps.specs.Names.{is_named, acts_at, may_act}
use Rattle.steps.proofs.KeepRuns.Silent.{silent}
use Rattle.steps.specs.Allowed.UnusedOperation.{acts}

idle : (v k r b c : Bool) → (if v || false then false else not r || b) ≡ false → (b ≡ false → c ≡ false) → (if v || k then false else not r || c) ≡ false
idle true k r b c e f = refl
idle false true r b c e f = refl
idle false false true b c e f = f e
idle false false false b c e f = absurd (true≢false e)

pub row_is_idle : (t : Forest) → may_have_effects [] anywhere t ≡ false → may_act [] t ≡ false
row_is_idle nothing e = refl
row_is_idle (absent rest) e = row_is_idle rest e
row_is_idle (node k n below rest) e =
    let here = has_effect [] anywhere k n below (may_have_effects [] anywhere below) in
    neither (acts_at [] k below (may_act [] below)) (may_act [] rest)
    (idle (is_value k) (is_named [] k below) (runs_its_parts k below) (may_have_effects [] anywhere below) (may_act [] below) (first_of_neither here (may_have_effects [] anywhere rest) e) (row_is_idle below))
    (row_is_idle rest (second_of_neither here (may_have_effects [] anywhere rest) e))

pub silent_anywhere : (st : Names) (k : Kind) (n : Note) (below : Forest) → acts k n below ≡ false → Silent st k below
silent_anywhere st k n below e = silent [] k n below (λ x h. absurd (true≢false (sym h))) (row_is_idle (alone k n below) e)
