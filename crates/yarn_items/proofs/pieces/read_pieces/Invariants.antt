use Rattle.std.proofs.Common.{◌≡◌, length, IsUtf8, string_bytes}
use Rattle.yarn_items.specs.Written.{written, joined}
use Rattle.yarn_items.proofs.pieces.read_pieces.Given as goal

abbrev pub invariant-loop-own : goal.invariant-loop-own
invariant-loop-own l =
    (written l.kind 0 l.bytes ≡ joined (string_bytes l.reading.text) l.reading.holes l.reading.literals (written l.kind (length l.reading.holes) l.rest)) ×
    IsUtf8 l.rest

abbrev pub decreases-loop-own : goal.decreases-loop-own
decreases-loop-own l = length l.rest
