-- The base table of a project that is accepted (docs/language.md, Ids).
use Rattle.std.specs.Prelude.{◌≡◌, List, map}
use Rattle.yarn_base.specs.declared.SourceFile.{SourceFile}
use Rattle.yarn_value.specs.declared.signature.Signature.{Signature}
use Rattle.yarn_nodes.specs.declared.node.FileLines.{FileLines}
use Rattle.yarn_tree.specs.Reading.{Reads, reading_of}
use Rattle.yarn_tree.specs.Trees.{grown}
use Rattle.yarn_meaning.specs.Texts.{TellsAll, base_of, said_in_files}

-- the base table of the trees that are read has the text of each of their lines and options
abbrev pub BaseTells : Type 0
BaseTells = (signatures : List Signature) (sources : List SourceFile) (files : List FileLines) →
    reading_of signatures sources ≡ Reads files → TellsAll (base_of (map grown files)) (said_in_files (map grown files))
