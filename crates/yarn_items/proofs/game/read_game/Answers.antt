use Rattle.std.proofs.Common.{Option, Some, None, refl, subst}
use Rattle.yarn_items.specs.declared.first.Kind.TheVariants.{Game}
use Rattle.yarn_items.specs.declared.text.TextRead.{TextRead}
use Rattle.yarn_items.specs.Written.{written, IsWrittenAnswer}
use Rattle.yarn_items.proofs.AnswerLemmas.{game-some, game-none}
use Rattle.yarn_items.proofs.game.read_game.Goals as goal

pub returns-in-Some : goal.returns-in-Some
returns-in-Some c =
    let is : IsWrittenAnswer (written Game 0 c.args.content.now) (Some c.in-Some.read) =
    subst (λ (o : Option TextRead). IsWrittenAnswer (written Game 0 c.args.content.now) o) c.in-Some.is c.in_ok-read.ensures in
    game-some c.args.content.now c.in-Some.read (record { text = c.in-Some.read.text; holes = c.in-Some.read.holes; literals = c.in-Some.read.literals }) is refl refl refl

pub returns-in-None : goal.returns-in-None
returns-in-None c =
    let is : IsWrittenAnswer (written Game 0 c.args.content.now) None =
    subst (λ (o : Option TextRead). IsWrittenAnswer (written Game 0 c.args.content.now) o) c.in-None.is c.in_ok-read.ensures in
    game-none c.args.content.now is
