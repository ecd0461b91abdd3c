use Rattle.std.proofs.Common.{string_bytes}
use Rattle.yarn_items.proofs.AnswerLemmas.{ends-answer}
use Rattle.yarn_items.proofs.pieces.read_pieces.Goals as goal

pub returns-in-Ends : goal.returns-in-Ends
returns-in-Ends c =
    let reading = c.loop-own.reading in
    let made = c.in_ok-read-in-Ends.ensures in
    ends-answer c.args.kind c.args.bytes.now (string_bytes reading.text) reading.holes reading.literals c.loop-own.rest.now c.in_ok-read-in-Ends.read c.loop-own.invariant.0
    c.in-Ends.ensures made.text made.holes made.literals made.rest c.loop-own.invariant.1
