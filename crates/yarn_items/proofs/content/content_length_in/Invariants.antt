use Rattle.std.proofs.Common.{◌≡◌, ◌+◌, drop, false}
use Rattle.yarn_items.specs.ContentForm.{in_content, content_length}
use Rattle.yarn_items.proofs.content.content_length_in.Given as goal

abbrev pub invariant-loop-at : goal.invariant-loop-at
invariant-loop-at l = content_length l.games (in_content false) l.bytes ≡ l.at + content_length l.games l.place (drop l.at l.bytes)
