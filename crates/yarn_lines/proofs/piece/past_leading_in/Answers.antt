use Rattle.yarn_lines.proofs.PieceLemmas.{past_leading-slice}
use Rattle.yarn_lines.proofs.piece.past_leading_in.Goals as goal

pub returns : goal.returns
returns c = past_leading-slice c.args.bytes.now c.leading_length.result c.leading_length.ensures.value
