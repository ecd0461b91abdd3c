use Rattle.std.proofs.Common.{rules}
use Rattle.yarn_player.proofs.FilledLemmas.{none_found}
use Rattle.yarn_player.proofs.filled.push_filled.Goals as goal

pub returns-then-is_none : goal.returns-then-is_none
returns-then-is_none c =
    let e = none_found c.as_bytes-own.result.now c.args.values.now c.memchr2.result c.memchr2.ensures c.if-is_none.ensures in
    search (rules, e)
