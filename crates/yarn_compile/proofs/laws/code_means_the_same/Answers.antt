use Rattle.yarn_tree.proofs.LawLemmas.{exactly}
use Rattle.yarn_tree.proofs.NodeLaws.{node_laws}
use Rattle.yarn_compile.proofs.AcceptedTexts.{texts_of_accepted}
use Rattle.yarn_compile.proofs.NodesFollow.{same_moments}
use Rattle.yarn_compile.proofs.laws.code_means_the_same.Goals as goal

pub returns : goal.returns
returns c =
    let read = exactly (node_laws c.items_are_found.ensures) in
    same_moments read (texts_of_accepted c.items_are_found.ensures read)
