-- What the words of a command say (docs/commands.md, Words): its word, its pairs in any order, and its names. A further
-- command is a row of each table here.
use Rattle.std.specs.Prelude.{◌≡◌, ℕ, List, [], ◌∷◌, ◌++◌, length, nat_eq, nat_lt, is_some, Bool, true, false, ◌&&◌, if◌then◌else◌, Option, Some, None, codes, ⊤}
use Rattle.std.specs.List.{All, list_all}
use Rattle.std.specs.Str.{bytes_eq}
use Rattle.yarn_cli.specs.declared.command.CommandKind.{CommandKind}
use Rattle.yarn_cli.specs.declared.command.CommandKind.TheVariants.{Check, Format, Strings, Tag, Play}
use Rattle.yarn_cli.specs.declared.command.CommandKind.TheVariants as kinds
use Rattle.yarn_cli.specs.declared.words.Form.{Form}
use Rattle.yarn_cli.specs.declared.words.Form.TheVariants.{Name, Number}
use Rattle.yarn_cli.specs.declared.command.Pair.{Pair}
use Rattle.yarn_cli.specs.Command.{Command, value_of}
use Rattle.yarn_cli.specs.Words.{is_name_word, number_in}

abbrev pub word_of : CommandKind → List ℕ
word_of Check = codes "check"
word_of Play = codes "play"
word_of Format = codes "format"
word_of Strings = codes "strings"
word_of Tag = codes "tag"
word_of kinds.List = codes "list"

-- a pair of a command: its name, and what may be given under it
pub record Row : Type 0 where
  pub name : List ℕ
  pub form : Form

abbrev pub rows_of : CommandKind → List Row
rows_of Play =
    record { name = codes "start"; form = Name }
    ∷ record { name = codes "limit"; form = Number 1 1000000000 }
    ∷ record { name = codes "vars"; form = Name }
    ∷ record { name = codes "save-vars"; form = Name } ∷ []
rows_of Format = []
rows_of Strings = []
rows_of Tag = record { name = codes "from"; form = Number 0 268435455 } ∷ []
rows_of kinds.List = []
rows_of Check = []

-- how many names the command has
abbrev pub is_count_of : CommandKind → ℕ → Bool
is_count_of Check n = nat_lt 0 n
is_count_of Play n = nat_lt 0 n
is_count_of Strings n = nat_lt 0 n
is_count_of Format n = nat_eq n 1
is_count_of Tag n = nat_eq n 1
is_count_of kinds.List n = nat_eq n 1

-- the word of a pair's name
abbrev pub dashed : List ℕ → List ℕ
dashed name = codes "--" ++ name

-- the row whose name the word spells
abbrev pub row_in : List ℕ → List Row → Option Row
row_in word [] = None
row_in word (row ∷ rows) = if bytes_eq word (dashed row.name) then Some row else row_in word rows

abbrev pub fits_form : Form → List ℕ → Bool
fits_form Name value = is_name_word value
fits_form (Number least most) value = is_some (number_in least most value)

abbrev pub fits_row : Option Row → List ℕ → Bool
fits_row None value = false
fits_row (Some row) value = fits_form row.form value

-- the command has a pair of that name, and the value may stand there
abbrev pub IsPairOf : CommandKind → Pair → Type 0
IsPairOf kind pair = fits_row (row_in (dashed pair.name) (rows_of kind)) pair.value ≡ true

-- no name stands twice
abbrev pub Once : List Pair → Type 0
Once [] = ⊤
Once (pair ∷ pairs) = (value_of pair.name pairs ≡ None) × Once pairs

abbrev pub are_names_of : CommandKind → List (List ℕ) → Bool
are_names_of kind names = is_count_of kind (length names) && list_all is_name_word names

-- each pair is two words: its name behind `--`, and its value
abbrev pub spelled_pairs : List Pair → List (List ℕ)
spelled_pairs [] = []
spelled_pairs (pair ∷ pairs) = dashed pair.name ∷ pair.value ∷ spelled_pairs pairs

-- the words of a command
abbrev pub spelled : Command → List (List ℕ)
spelled command = word_of command.kind ∷ (spelled_pairs command.pairs ++ command.names)

-- the words are those of the command, and the command may be given so
pub record CommandLine (words : List (List ℕ)) (command : Command) : Type 0 where
  pub split : words ≡ spelled command
  pub pairs : All (IsPairOf command.kind) command.pairs
  pub once : Once command.pairs
  pub names : are_names_of command.kind command.names ≡ true
