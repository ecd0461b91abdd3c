-- The ids of lines and options (docs/language.md, Ids).
use Rattle.std.specs.Prelude.{ℕ, List, [], ◌++◌, codes}
use Rattle.std.specs.Fmt.{decimal}
use Rattle.yarn_blocks.specs.declared.id_form.IdForm.{IdForm}
use Rattle.yarn_blocks.specs.declared.id_form.IdForm.TheVariants.{Empty, Own, Placed}

-- the id of a line that has none of its own: its node's title, and its place from 0 among what has an id in the node
abbrev pub line_id : List ℕ → ℕ → List ℕ
line_id title before = codes "line:" ++ (title ++ (codes "-" ++ decimal before))

-- the bytes of an id
abbrev pub id_bytes : IdForm → List ℕ
id_bytes Empty = []
id_bytes (Own tag) = tag
id_bytes (Placed title before) = line_id title before
