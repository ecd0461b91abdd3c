-- The laws of lines of nodes that laws of trees need.
use Rattle.yarn_items.specs.Laws.{ItemsAreFound}
use Rattle.yarn_nodes.specs.Laws.{FilesStand, StandingIsRead, LinesAreNoted, MisplacedIsNoted, BlocksAreNoted, TitlesAreNoted}
use Rattle.yarn_nodes.proofs.LinesLemmas.{files_stand, standing_is_read}
use Rattle.yarn_nodes.proofs.NotedLemmas.{lines_are_noted}
use Rattle.yarn_nodes.proofs.PlaceLemmas.{misplaced_is_noted}
use Rattle.yarn_nodes.proofs.ShownLemmas.{blocks_are_noted}
use Rattle.yarn_nodes.proofs.TitleLemmas.{titles_are_noted}

pub record NodeLaws : Type 0 where
  pub stand : FilesStand
  pub read : StandingIsRead
  pub noted : LinesAreNoted
  pub placed : MisplacedIsNoted
  pub shown : BlocksAreNoted
  pub titled : TitlesAreNoted

pub node_laws : ItemsAreFound → NodeLaws
node_laws items_found = record {
  stand = files_stand items_found;
  read = standing_is_read items_found;
  noted = lines_are_noted items_found;
  placed = misplaced_is_noted items_found;
  shown = blocks_are_noted items_found;
  titled = titles_are_noted items_found;
}
