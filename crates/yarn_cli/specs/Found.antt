-- The command that is found of words, word by word (docs/commands.md, Words).
use Rattle.std.specs.Prelude.{ℕ, List, [], ◌∷◌, ◌++◌, is_none, ◌&&◌, if◌then◌else◌, Option, Some, None}
use Rattle.std.specs.Str.{bytes_eq}
use Rattle.yarn_cli.specs.declared.command.CommandKind.{CommandKind}
use Rattle.yarn_cli.specs.declared.command.CommandKind.TheVariants.{Check, Format, Strings, Tag, Play}
use Rattle.yarn_cli.specs.declared.command.CommandKind.TheVariants as kinds
use Rattle.yarn_cli.specs.declared.command.Pair.{Pair}
use Rattle.yarn_cli.specs.Command.{Command, value_of}
use Rattle.yarn_cli.specs.CommandLine.{Row, word_of, rows_of, row_in, fits_form, are_names_of}

-- the kind whose word it is
abbrev pub kind_of : List ℕ → Option CommandKind
kind_of word =
    if bytes_eq word (word_of Check) then Some Check
    else if bytes_eq word (word_of Play) then Some Play
    else if bytes_eq word (word_of Format) then Some Format
    else if bytes_eq word (word_of Strings) then Some Strings
    else if bytes_eq word (word_of Tag) then Some Tag
    else if bytes_eq word (word_of kinds.List) then Some kinds.List
    else None

-- the words left are the names
abbrev pub with_names : CommandKind → List Pair → List (List ℕ) → Option Command
with_names kind taken names =
    if are_names_of kind names then Some (record { kind = kind; pairs = taken; names = names }) else None

-- one more pair, where its name is new and its value fits
abbrev pub with_pair : List Pair → Row → List ℕ → Option (List Pair)
with_pair taken row value =
    if is_none (value_of row.name taken) && fits_form row.form value
    then Some (taken ++ record { name = row.name; value = value } ∷ []) else None

abbrev pub given : {A B : Type 0} → Option A → (A → Option B) → Option B
given None f = None
given (Some a) f = f a

-- either what no row gives, or what the pair gives
abbrev pub at_row : {B : Type 0} → Option Row → Option B → (Row → Option B) → Option B
at_row None otherwise row_gives = otherwise
at_row (Some row) otherwise row_gives = row_gives row

-- behind the pairs that were taken
abbrev pub found_behind : CommandKind → List Pair → List (List ℕ) → Option Command
found_behind kind taken [] = with_names kind taken []
found_behind kind taken (word ∷ []) = with_names kind taken (word ∷ [])
found_behind kind taken (word ∷ value ∷ words) =
    at_row (row_in word (rows_of kind)) (with_names kind taken (word ∷ value ∷ words))
    (λ row. given (with_pair taken row value) (λ more. found_behind kind more words))

abbrev pub command_of : List (List ℕ) → Option Command
command_of [] = None
command_of (word ∷ words) = given (kind_of word) (λ kind. found_behind kind [] words)
