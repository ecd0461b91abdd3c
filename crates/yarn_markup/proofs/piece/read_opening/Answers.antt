use Rattle.std.proofs.lemmas.Result.{IfOk-weaker}
use Rattle.yarn_markup.specs.Steps.{IsMeaningAnswer, IsBracketAnswer}
use Rattle.yarn_markup.proofs.PieceLemmas.{no_opening, bracket_of_meaning}
use Rattle.yarn_markup.proofs.piece.read_opening.Goals as goal

pub returns-in-Some : goal.returns-in-Some
returns-in-Some c =
    let is = rw c.in-Some.is at c.in_ok-read.ensures in
    IfOk-weaker c.meaning_of.result (IsMeaningAnswer c.args.plural.now c.in-Some.read) (IsBracketAnswer c.args.plural.now c.args.inside.now)
    (bracket_of_meaning c.args.plural.now c.args.inside.now c.requires c.in-Some.read is) c.meaning_of.ensures

pub returns-in-None : goal.returns-in-None
returns-in-None c =
    let nothing = rw c.in-None.is at c.in_ok-read.ensures in
    no_opening c.args.plural.now c.args.inside.now c.requires nothing
