-- Lines whose trees are built.
use Rattle.std.specs.Prelude.{All}
use Rattle.yarn_blocks.specs.Verdict.{IsShallow}
use Rattle.yarn_nodes.specs.declared.node.FileRead.{FileRead}
use Rattle.yarn_nodes.specs.declared.node.NodeLines.{NodeLines}

-- the body is a block that is nowhere too deep
abbrev pub HasShallowBody : NodeLines → Type 0
HasShallowBody node = IsShallow node.body

abbrev pub HasShallowBodies : FileRead → Type 0
HasShallowBodies read = All HasShallowBody read.file.nodes
