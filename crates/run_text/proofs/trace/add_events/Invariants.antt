use Rattle.std.proofs.Common.{◌≡◌, ◌++◌, take, flat_map, string_bytes}
use Rattle.run_value.specs.Trace.{event_of}
use Rattle.run_text.specs.Text.{event_data, line_of}
use Rattle.run_text.proofs.trace.add_events.Given as goal

abbrev pub invariant-loop-event : goal.invariant-loop-event
invariant-loop-event l = string_bytes l.text ≡ string_bytes l.initial.text ++ flat_map (λ e. line_of (event_data (event_of e))) (take l.event-index l.events)
