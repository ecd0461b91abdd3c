use Rattle.std.proofs.Common.{arith}
use Rattle.std.proofs.lemmas.Grind.{common_steps}
use Rattle.yarn_lines.proofs.PieceLemmas.{pieces_of-cut, pieces_of-last}
use Rattle.yarn_lines.proofs.piece.first_piece.Goals as goal

pub returns-then-end-bytes-clause-pieces : goal.returns-then-end-bytes-clause-pieces
returns-then-end-bytes-clause-pieces c = grind (arith, common_steps, pieces_of-cut c.args.bytes.now)

pub returns-else-end-bytes-clause-pieces : goal.returns-else-end-bytes-clause-pieces
returns-else-end-bytes-clause-pieces c = grind (arith, common_steps, pieces_of-last c.args.bytes.now)
