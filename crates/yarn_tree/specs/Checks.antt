-- The refusals that are found in the lines of nodes: too many of a kind, titles, names and ids
-- (docs/language.md, Refusals of a project).
use Rattle.std.specs.Prelude.{ℕ, ◌+◌, ◌-◌, List, [], ◌∷◌, ◌++◌, length, slice_get, nat_lt, nat_eq, Bool, true, false, not, ◌||◌, if◌then◌else◌, Option, Some, None, is_some, codes}
use Rattle.std.specs.List.{list_any}
use Rattle.yarn_base.specs.declared.Place.{Place}
use Rattle.yarn_lines.specs.Lines.{begins_with}
use Rattle.yarn_value.specs.declared.signature.Signature.{Signature}
use Rattle.yarn_value.specs.Signatures.{arity_of}
use Rattle.yarn_items.specs.Text.{is_id}
use Rattle.yarn_blocks.specs.declared.entry.Entry.{Entry}
use Rattle.yarn_blocks.specs.declared.tree.LineText.{LineText}
use Rattle.yarn_nodes.specs.declared.node.FileRead.{FileRead}
use Rattle.yarn_nodes.specs.declared.node.NodeLines.{NodeLines}
use Rattle.yarn_nodes.specs.declared.node.Titled.{Titled}
use Rattle.yarn_nodes.specs.declared.node.Note.{Note}
use Rattle.yarn_nodes.specs.declared.node.Note.TheVariants.{ManyHoles, TooMany}
use Rattle.yarn_nodes.specs.Entries.{said_by}
use Rattle.yarn_nodes.specs.Noted.{noted_as}
use Rattle.yarn_nodes.specs.Places.{or_later}
use Rattle.yarn_tree.specs.Places.{at_file, first_place, earliest}
use Rattle.yarn_tree.specs.Names.{NameAt, Sight, no_sight, sees_all, no_name, and_name}
use Rattle.yarn_tree.specs.Uses.{Use, Variable, Declaration, Title, Function, UseAt, uses_in}

-- what was noted of a file while its lines were read
abbrev pub noted_in : Note → FileRead → Option Place
noted_in note read = at_file read.number (noted_as note read.notes)

-- ---- too many

-- the line of the `---` of a node
abbrev pub begun_at : ℕ → Option NodeLines → Option Place
begun_at file None = None
begun_at file (Some node) = Some (record { file = file; line = node.line })

-- the node behind that many
abbrev pub extra_node : ℕ → List FileRead → Option Place
extra_node left [] = None
extra_node left (read ∷ reads) =
    or_later (begun_at read.number (slice_get read.file.nodes left)) (extra_node (left - length read.file.nodes) reads)

-- the variables that are used and declared
abbrev pub with_variable : Use → Place → List NameAt → List NameAt
with_variable (Variable name) place names = (name, place) ∷ names
with_variable (Declaration name) place names = (name, place) ∷ names
with_variable (Title title) place names = names
with_variable (Function name count) place names = names

abbrev pub variables_in : List UseAt → List NameAt
variables_in [] = []
variables_in (u ∷ uses) = with_variable u.is u.place (variables_in uses)

-- the first new name behind that many others
abbrev pub extra_name : ℕ → (List ℕ → Bool) → List NameAt → Option Place
extra_name left known [] = None
extra_name left known (x ∷ xs) =
    if known x.0 then extra_name left known xs
    else if nat_eq left 0 then Some x.1
    else extra_name (left - 1) (and_name x.0 known) xs

abbrev pub extra_variable : ℕ → List FileRead → Option Place
extra_variable most reads = extra_name most no_name (variables_in (uses_in reads))

-- the 17th substitution of a line, the 65th option of a group, the 65,537th node and the 65,537th variable
abbrev pub first_excess : List FileRead → Option Place
first_excess reads =
    earliest (first_place (noted_in ManyHoles) reads)
    (earliest (first_place (noted_in TooMany) reads)
    (earliest (extra_node 65536 reads) (extra_variable 65536 reads)))

-- ---- titles

abbrev pub titles_in : ℕ → List Titled → List NameAt
titles_in file [] = []
titles_in file (titled ∷ titles) = (titled.title, record { file = file; line = titled.line }) ∷ titles_in file titles

abbrev pub titles_of : List FileRead → List NameAt
titles_of [] = []
titles_of (read ∷ reads) = titles_in read.number read.titles ++ titles_of reads

abbrev pub titles_seen : List FileRead → Sight
titles_seen reads = sees_all no_sight (titles_of reads)

-- ---- names

-- the first use of a kind
abbrev pub first_use : (Use → Bool) → List UseAt → Option Place
first_use is [] = None
first_use is (u ∷ uses) = if is u.is then Some u.place else first_use is uses

abbrev pub is_reserved_name : List ℕ → Bool
is_reserved_name name = begins_with (codes "$Yarn.Internal.") name

abbrev pub is_reserved : Use → Bool
is_reserved (Variable name) = is_reserved_name name
is_reserved (Declaration name) = is_reserved_name name
is_reserved (Title title) = false
is_reserved (Function name count) = false

abbrev pub with_declaration : Use → Place → List NameAt → List NameAt
with_declaration (Declaration name) place names = (name, place) ∷ names
with_declaration (Variable name) place names = names
with_declaration (Title title) place names = names
with_declaration (Function name count) place names = names

abbrev pub declarations_in : List UseAt → List NameAt
declarations_in [] = []
declarations_in (u ∷ uses) = with_declaration u.is u.place (declarations_in uses)

abbrev pub declarations_seen : List FileRead → Sight
declarations_seen reads = sees_all no_sight (declarations_in (uses_in reads))

-- a jump to a title that isn't among these
abbrev pub is_unknown_title : (List ℕ → Bool) → Use → Bool
is_unknown_title known (Title title) = not (known title)
is_unknown_title known (Variable name) = false
is_unknown_title known (Declaration name) = false
is_unknown_title known (Function name count) = false

abbrev pub is_absent : Option ℕ → Bool
is_absent None = true
is_absent (Some n) = false

abbrev pub is_other_count : ℕ → Option ℕ → Bool
is_other_count count None = false
is_other_count count (Some n) = not (nat_eq n count)

abbrev pub is_unknown_function : List Signature → Use → Bool
is_unknown_function signatures (Function name count) = is_absent (arity_of signatures name)
is_unknown_function signatures (Variable name) = false
is_unknown_function signatures (Declaration name) = false
is_unknown_function signatures (Title title) = false

abbrev pub has_wrong_count : List Signature → Use → Bool
has_wrong_count signatures (Function name count) = is_other_count count (arity_of signatures name)
has_wrong_count signatures (Variable name) = false
has_wrong_count signatures (Declaration name) = false
has_wrong_count signatures (Title title) = false

-- ---- ids

abbrev pub and_id : Option LineText → Place → List NameAt → List NameAt
and_id (Some text) place names = (text.id, place) ∷ names
and_id None place names = names

abbrev pub ids_in : ℕ → List Entry → List NameAt
ids_in file [] = []
ids_in file (entry ∷ entries) = and_id (said_by entry.what) (record { file = file; line = entry.line }) (ids_in file entries)

abbrev pub ids_within : ℕ → List NodeLines → List NameAt
ids_within file [] = []
ids_within file (node ∷ nodes) = ids_in file node.body ++ ids_within file nodes

abbrev pub ids_of : List FileRead → List NameAt
ids_of [] = []
ids_of (read ∷ reads) = ids_within read.number read.file.nodes ++ ids_of reads

abbrev pub ids_seen : List FileRead → Sight
ids_seen reads = sees_all no_sight (ids_of reads)

-- the line has a hashtag that is an id
abbrev pub has_own : Option LineText → Bool
has_own (Some text) = list_any is_id text.tags
has_own None = false

abbrev pub own_in : List Entry → Bool
own_in [] = false
own_in (entry ∷ entries) = has_own (said_by entry.what) || own_in entries

-- a node whose ids may be those of other lines: it has an id of its own, or more lines than are counted here
abbrev pub is_own : NodeLines → Bool
is_own node = nat_lt 4294967295 (length node.body) || own_in node.body

abbrev pub own_within : List NodeLines → Bool
own_within [] = false
own_within (node ∷ nodes) = is_own node || own_within nodes

abbrev pub own_of : List FileRead → Bool
own_of [] = false
own_of (read ∷ reads) = own_within read.file.nodes || own_of reads
