-- What `strings` writes is a table that can be read back (docs/formats.md, Templates and string tables).
use Rattle.std.specs.Prelude.{◌≡◌, List, Ok, All}
use Rattle.yarn_base.specs.declared.SourceFile.{SourceFile}
use Rattle.yarn_value.specs.declared.base.BaseLine.{BaseLine}
use Rattle.yarn_value.specs.declared.signature.Signature.{Signature}
use Rattle.yarn_tree.specs.declared.tree.Project.{Project}
use Rattle.yarn_ids.specs.BaseLaws.{IsAcceptedOf, rows_of}
use Rattle.yarn_table.specs.Tables.{AreDistinct, IsTemplate, from_base, table_of}
use Rattle.yarn_table.specs.Written.{Names, AreTexts, table_text}

-- a table is written for it and read for it: ids differ, and each text is a template with its row's holes
pub record IsTaken (base : List BaseLine) : Type 0 where
  pub distinct : AreDistinct base
  pub templates : All IsTemplate base

-- what is written of it is read as the table of its own texts
abbrev pub IsReadBack : List BaseLine → Type 0
IsReadBack base = (names : Names) → AreTexts names base → table_of (table_text names base) base ≡ Ok (from_base base)

-- each accepted project's lines and options are such a base
abbrev pub TablesAreReadBack : Type 0
TablesAreReadBack = (signatures : List Signature) (sources : List SourceFile) (project : Project) → IsAcceptedOf signatures sources project →
    IsTaken (rows_of project) × IsReadBack (rows_of project)
