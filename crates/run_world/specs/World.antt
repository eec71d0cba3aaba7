-- The state of a run in memory as the definitions have it.
use Rattle.std.specs.Prelude.{ℕ, List, [], ◌∷◌, Option, Some, None, Bool, true, map, string_bytes}
use denote.Ref.{Bor}
use Rattle.js_meaning.specs.Value as meant_value
use Rattle.js_meaning.specs.Value.{Text}
use Rattle.js_meaning.specs.Trace as meant_trace
use Rattle.js_meaning.specs.State as meant
use Rattle.js_meaning.specs.State.{M, Out, State, cell, export, at_slot, at_global, at_member, normal, gives, gives_all, refers, breaks, continues, returns, throws, put, put_global, put_import, more, done, stop}
use Rattle.js_syntax.specs.Node.{row}
use Rattle.js_meaning.specs.Host.{Task, called_back, Enter}
use Rattle.run_value.specs.declared.value.Value.{Value}
use Rattle.run_value.specs.Name.{slot_of}
use Rattle.run_value.specs.View.{value_of}
use Rattle.run_value.specs.declared.shown.Given.{Given}
use Rattle.run_value.specs.ShownView.{given_of}
use Rattle.run_value.specs.Trace.{event_of, ending_of}
use Rattle.run_world.specs.declared.world.Cell.{Cell}
use Rattle.run_world.specs.declared.world.Stored.{Stored}
use Rattle.run_world.specs.declared.world.Named.{Named}
use Rattle.run_world.specs.declared.world.Foreign.{Foreign}
use Rattle.run_world.specs.declared.world.Export.{Export}
use Rattle.run_world.specs.declared.world.Move.{Move}
use Rattle.run_world.specs.declared.world.Move.TheVariants.{CallOwn, SetGlobal, RemoveGlobal, SetImport, Answer, Refuse}
use Rattle.run_world.specs.declared.world.Place.{Place}
use Rattle.run_world.specs.declared.world.Place.TheVariants.{Slot as slot_place, Global as global_place, Member as member_place}
use Rattle.run_world.specs.declared.world.Completion.{Completion}
use Rattle.run_world.specs.declared.world.Completion.TheVariants.{Normal, Gives, GivesAll, Refers, Breaks, Continues, Returns, Throws}
use Rattle.run_world.specs.declared.world.Reply.{Reply}
use Rattle.run_world.specs.declared.world.Reply.TheVariants.{Completes, Stops}
use Rattle.run_world.specs.declared.world.Call.{Call}
use Rattle.run_world.specs.declared.world.Next.{Next}
use Rattle.run_world.specs.declared.world.Next.TheVariants.{Replies, CallsBack}
use Rattle.run_world.specs.declared.world.World.{World}

abbrev pub maybe_value : Option Value → Option meant_value.Value
maybe_value None = None
maybe_value (Some v) = Some (value_of v)

abbrev pub values_of : List Value → List meant_value.Value
values_of vs = map value_of vs

abbrev pub cell_of : Cell → meant.Cell
cell_of c = cell c.constant (maybe_value c.value)

-- what was stored last counts
abbrev pub stored : List Stored → ℕ → meant.Cell
stored [] = λ i. cell true None
stored (s ∷ ss) = put (stored ss) s.number (cell_of s.cell)

abbrev pub named_in : List Named → Text → Option meant_value.Value
named_in [] = λ x. None
named_in (n ∷ ns) = put_global (named_in ns) (string_bytes n.name.value) (maybe_value n.value)

abbrev pub foreign_in : List Foreign → Text → Text → Option meant_value.Value
foreign_in [] = λ source x. None
foreign_in (f ∷ fs) = put_import (foreign_in fs) (string_bytes f.source.value) (string_bytes f.name.value) (maybe_value f.value)

abbrev pub export_of : Export → meant.Export
export_of e = export e.name.now (slot_of e.slot)

abbrev pub givens_of : List Given → List meant_value.Given
givens_of gs = map given_of gs

abbrev pub maybe_given : Option Given → Option meant_value.Given
maybe_given None = None
maybe_given (Some g) = Some (given_of g)

abbrev pub move_of : Move → meant_trace.Move
move_of (CallOwn n this xs) = meant_trace.call_own n (given_of this) (givens_of xs.items)
move_of (SetGlobal x v) = meant_trace.set_global_to (string_bytes x.value) (given_of v)
move_of (RemoveGlobal x) = meant_trace.remove_global (string_bytes x.value)
move_of (SetImport source x v) = meant_trace.set_import_to (string_bytes source.value) (string_bytes x.value) (maybe_given v)
move_of (Answer v) = meant_trace.answer (given_of v)
move_of (Refuse v) = meant_trace.refuse (given_of v)

abbrev pub moves_of : List Move → List meant_trace.Move
moves_of ms = map move_of ms

abbrev pub place_of : Place → meant.Place
place_of (slot_place slot) = at_slot (slot_of slot)
place_of (global_place x there) = at_global x.now there
place_of (member_place object key) = at_member (value_of object) (value_of key)

abbrev pub label_of : Option (Bor (List ℕ)) → Option Text
label_of None = None
label_of (Some l) = Some l.now

abbrev pub completion_of : Completion → meant.Completion
completion_of Normal = normal
completion_of (Gives v r) = gives (value_of v) (value_of r)
completion_of (GivesAll vs) = gives_all (values_of vs.items)
completion_of (Refers p) = refers (place_of p)
completion_of (Breaks l) = breaks (label_of l)
completion_of (Continues l) = continues (label_of l)
completion_of (Returns v) = returns (value_of v)
completion_of (Throws v) = throws (value_of v)

abbrev pub replies : Reply → M
replies (Completes c) = done (completion_of c)
replies (Stops e) = stop (ending_of e)

abbrev pub call_of : Bool → Call → Task
call_of awaited c = called_back awaited c.kind (row c.below.now) c.env (value_of c.this) (values_of c.arguments.items)

abbrev pub goes : Enter → Next → M
goes E (Replies r) = replies r
goes E (CallsBack awaited c) = E (call_of awaited c)

abbrev pub state_of : World → State
state_of w = record {
  budget = w.budget;
  fresh = w.fresh;
  store = stored w.cells.items;
  globals = named_in w.globals.items;
  imports = foreign_in w.imports.items;
  shown = values_of w.seen.items;
  moves = moves_of w.moves.now;
  exports = map export_of w.exports.items;
  stars = map (λ s. s.now) w.stars.items;
}

abbrev pub trace_of : World → List meant_trace.Event
trace_of w = map event_of w.trace.items

-- what a computation does in a world, with the events so far
abbrev pub at : World → M → Out
at w m = more (trace_of w) (m (state_of w))
