use Rattle.std.proofs.Common.{◌∙◌, ◌++◌, flat_map, ap, sym}
use Rattle.std.proofs.lemmas.List.Folds.{flat_map-map}
use Rattle.run_value.specs.Trace.{event_of, ending_of}
use Rattle.run_text.specs.Text.{event_data, ending_data, line_of}
use Rattle.run_text.proofs.trace.write_trace.Goals as goal

pub returns : goal.returns
returns c =
    let events = c.args.trace.now.events.all.items in
    let ending = line_of (ending_data (ending_of c.args.trace.now.ending)) in
    record {
      text = c.in_ok-add_ending.ensures ∙ ap (λ t. t ++ ending)
          (c.in_ok-add_events.ensures ∙ ap (λ t. t ++ flat_map (λ e. line_of (event_data (event_of e))) c.as_slice.result.now) c.new-text.ensures.bytes
          ∙ ap (flat_map (λ e. line_of (event_data (event_of e)))) c.as_slice.ensures.value ∙ sym (flat_map-map (λ e. line_of (event_data e)) event_of events));
    }
