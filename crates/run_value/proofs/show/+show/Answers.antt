use Rattle.std.proofs.Common.{ap, arith, refl}
use Rattle.js_meaning.specs.Value.{an_object, an_array}
use Rattle.run_value.specs.View.{value_of}
use Rattle.run_value.specs.Weight.{content_size}
use Rattle.run_value.proofs.Shows.{size_of_content, shows_content, shows_own}
use Rattle.run_value.proofs.show.+show.Goals as goal

pub show_content-show_values-requires : goal.show_content-show_values-requires
show_content-show_values-requires t c = (omega (arith, size_of_content c.parts.result.0.now c.parts.result.1.now, ap content_size c.parts.ensures), tt)

pub show_content-returns : goal.show_content-returns
show_content-returns t c =
    record { shown = shows_content c.parts.result.0.now c.in_ok-keys.keys.items c.parts.result.1.now c.in_ok-values.values.items _ _ _ _ c.parts.ensures c.in_ok-values.ensures.shown c.in_ok-keys.ensures c.new.ensures }

pub show_value-returns-in-Object : goal.show_value-returns-in-Object
show_value-returns-in-Object t c =
    record { shown = shows_own c.show_full.result _ _ c.in-Object.number an_object _ _ _ _ (ap value_of c.in-Object.is) c.deref.ensures (λ k. refl) c.show_full.ensures.shown }

pub show_value-returns-in-Array : goal.show_value-returns-in-Array
show_value-returns-in-Array t c =
    record { shown = shows_own c.show_full-in-Array.result _ _ c.in-Array.number an_array _ _ _ _ (ap value_of c.in-Array.is) c.deref-in-Array.ensures (λ k. refl) c.show_full-in-Array.ensures.shown }
