-- So many of the first events are still to come, and no count has fallen.
use Rattle.std.proofs.Common.{◌-◌, ◌≤◌, []}
use Rattle.yarn_player.specs.Steps.{spot}
use Rattle.yarn_player.proofs.Shown.{IsShown}
use Rattle.yarn_player.proofs.run.play.Given as goal

abbrev pub invariant-loop : goal.invariant-loop
invariant-loop g l = record {
  shown : IsShown (spot l.initial.walk (g.I.Source.left l.initial.input) (g.O.Sink.written l.initial.out) (g.O.Sink.faults l.initial.out) []) l.limit
      (spot l.walk (g.I.Source.left l.input) (g.O.Sink.written l.out) (g.O.Sink.faults l.out) l.page.bytes.items) (l.limit - l.counter);
  input_count : g.I.Source.faults l.initial.input ≤ g.I.Source.faults l.input;
  output_count : g.O.Sink.faults l.initial.out ≤ g.O.Sink.faults l.out;
}
