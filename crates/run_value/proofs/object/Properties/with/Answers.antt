use Rattle.std.proofs.Common.{◌≡◌, ◌∙◌, ap, sym, arith, string_bytes}
use Rattle.run_value.specs.Place.{place_from}
use Rattle.run_value.proofs.Keys.{place_within, put_found, put_new}
use Rattle.run_value.proofs.object.Properties.with.Goals as goal

pub put_at-requires : goal.put_at-requires
put_at-requires c =
    let w = place_within 0 c.self.inside.keys.items (string_bytes c.args.key.value) c.in-Some.i (ap (λ ks. place_from 0 ks (string_bytes c.args.key.value)) (sym c.as_slice.ensures.value) ∙ sym c.in-Some.ensures) in
    omega (arith, w, c.self.invariant)

pub returns-in-Some : goal.returns-in-Some
returns-in-Some c =
    put_found _ _ _ _ _ _ _ c.self.invariant (ap (λ ks. place_from 0 ks (string_bytes c.args.key.value)) (sym c.as_slice.ensures.value) ∙ sym c.in-Some.ensures) c.self.view_is c.put_at.ensures

pub returns : goal.returns
returns c =
    put_new c.self.inside.keys.items _ c.self.inside.values.items _ c.args.key c.args.value _ c.self.invariant (ap (λ ks. place_from 0 ks (string_bytes c.args.key.value)) (sym c.as_slice.ensures.value) ∙ sym c.in-None.ensures) c.self.view_is c.in_ok-push-in-None.ensures.items c.in_ok-push-in-None-2.ensures.items
