-- Where nodes hold what they may hold, cases stand in switches.
use Rattle.std.proofs.Common.{◌≡◌, Bool, true, false, ◌&&◌}
use Rattle.js_syntax.specs.declared.node_kind.NodeKind.{NodeKind as Kind}
use Rattle.js_syntax.specs.declared.scalar.SourceType.{SourceType}
use Rattle.js_syntax.specs.Facts.{is_core}
use Rattle.js_syntax.specs.Node.{Note, Forest, nothing, node, absent}
use Rattle.steps.specs.KeepRuns.Formed.{is_switch, may_hold, holds_well, heads, is_formed}
use Rattle.js_meaning_near.specs.Near.{Row, fields, row_below, HoldsCases}
use Rattle.js_meaning_near.specs.Fit.{Part, whole, others, IfCore}
use Rattle.js_meaning_near.specs.Avoid.{NodeInPlace, InPlace}
use Rattle.js_syntax.proofs.Truth.{first_of_both, second_of_both}

cases_held : (above : Kind) → is_switch above ≡ true → HoldsCases (row_below above)
cases_held Kind.SwitchStatement h = tt
cases_held above h = absurd cc

node_in_place : (above k : Kind) (B : Part → Row → Type 0) → may_hold above k ≡ true → B whole (row_below k) → (B whole fields → B others fields) → NodeInPlace (row_below above) k B
node_in_place above (Kind.Function f pure) B h b drop = drop b
node_in_place above Kind.Cases B h b drop = (cases_held above h, b)
node_in_place above k B h b drop = (tt, b)

if_core : (b : Bool) (A : Type 0) → A → IfCore b A
if_core true A x = x
if_core false A x = tt

behind_first : (p : Row) (t : Forest) → InPlace whole p t → InPlace others p t
behind_first p nothing h = tt
behind_first p (absent r) h = h
behind_first p (node k n a r) h = h.1

pub in_place : (above : Kind) (t : Forest) → holds_well above t ≡ true → is_formed t ≡ true → InPlace whole (row_below above) t
in_place above nothing h g = tt
in_place above (absent r) h g = in_place above r h g
in_place above (node k n a r) h g =
    let here = first_of_both (holds_well k a && heads k a) (is_formed a && is_formed r) g in
    let further = second_of_both (holds_well k a && heads k a) (is_formed a && is_formed r) g in (
      if_core (is_core k) (NodeInPlace (row_below above) k (λ q p. InPlace q p a))
          (node_in_place above k (λ q p. InPlace q p a) (first_of_both (may_hold above k) (holds_well above r) h)
          (in_place k a (first_of_both (holds_well k a) (heads k a) here) (first_of_both (is_formed a) (is_formed r) further)) (behind_first fields a)),
      in_place above r (second_of_both (may_hold above k) (holds_well above r) h) (second_of_both (is_formed a) (is_formed r) further),
    )

pub program_in_place : (source : SourceType) (n : Note) (a : Forest) → holds_well (Kind.Program source) a ≡ true → is_formed a ≡ true → InPlace whole fields (node (Kind.Program source) n a nothing)
program_in_place source n a h g = ((tt, in_place (Kind.Program source) a h g), tt)
