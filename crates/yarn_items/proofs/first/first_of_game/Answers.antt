use Rattle.yarn_items.proofs.RunLemmas.{game-kept}
use Rattle.yarn_items.proofs.first.first_of_game.Goals as goal

pub returns-then-length-gt0 : goal.returns-then-length-gt0
returns-then-length-gt0 c =
    game-kept c.args.bytes.now c.game_length_in-length.result c.game_length_in-length.ensures.value c.if-length-gt0.true c.game_length_in-length.ensures.within c.requires
