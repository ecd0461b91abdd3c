use Rattle.std.proofs.Common.{◌≡◌, ◌≤◌, length, IsUtf8}
use Rattle.yarn_value.specs.Templates.{Opened, Digits, marks}
use Rattle.yarn_value.proofs.mark.hole.Given as goal

abbrev pub invariant-loop-digit : goal.invariant-loop-digit
invariant-loop-digit l = record {
  goes : marks l.holes Opened l.text ≡ marks l.holes (Digits l.number) l.rest;
  utf8 : IsUtf8 l.rest;
  shorter : length l.rest ≤ length l.text;
}

abbrev pub decreases-loop-digit : goal.decreases-loop-digit
decreases-loop-digit l = length l.rest
