-- The command that is found of words is the one that they say.
use Rattle.std.proofs.Common.{◌≡◌, if◌then◌else◌, ℕ, List, [], ◌∷◌, ◌++◌, length, Option, Some, None, Result, Ok, Err, IfOk, Bool, true, false, is_none, refl, sym, ap, subst, ◌∙◌}
use Rattle.std.proofs.lemmas.List.{append_assoc}
use Rattle.std.proofs.lemmas.List.Elements.{All-nil, All-cons, All-head, All-tail, All-append}
use Rattle.std.specs.List.{All}
use Rattle.std.specs.Str.{bytes_eq}
use Rattle.std.proofs.lemmas.Slice.Eq.{bytes_eq-Decides}
use Rattle.yarn_base.specs.declared.memory.Memory.{Memory}
use Rattle.yarn_cli.specs.declared.command.CommandKind.{CommandKind}
use Rattle.yarn_cli.specs.declared.command.CommandKind.TheVariants.{Check, Format, Strings, Tag, Play}
use Rattle.yarn_cli.specs.declared.command.CommandKind.TheVariants as kinds
use Rattle.yarn_cli.specs.declared.command.Pair.{Pair}
use Rattle.yarn_cli.specs.Command.{Command, value_of}
use Rattle.yarn_cli.specs.CommandLine.{Row, CommandLine, IsPairOf, Once, word_of, rows_of, row_in, dashed, fits_form, fits_row, is_count_of, are_names_of, spelled, spelled_pairs}
use Rattle.yarn_cli.specs.Found.{kind_of, with_names, with_pair, given, at_row, found_behind, command_of}
use Rattle.yarn_cli.specs.Laws.{WordsSay}
use Rattle.yarn_cli.specs.Words.{is_name_word}
use Rattle.yarn_cli.proofs.PairsLemmas.{row_in-name, row_in-no_name, Once-push, Once-free}

-- pairs that were taken
record AreTaken (kind : CommandKind) (taken : List Pair) : Type 0 where
  pub pairs : All (IsPairOf kind) taken
  pub once : Once taken

-- what words behind the pairs that were taken say
record IsLine (kind : CommandKind) (taken : List Pair) (words : List (List ℕ)) (command : Command) : Type 0 where
  pub more : List Pair
  pub split : words ≡ spelled_pairs more ++ command.names
  pub kind_is : command.kind ≡ kind
  pub pairs_are : command.pairs ≡ taken ++ more
  pub taken_are : AreTaken kind command.pairs
  pub names : are_names_of kind command.names ≡ true

append-nil : {A : Type 0} (xs : List A) → xs ++ [] ≡ xs
append-nil [] = refl
append-nil (x ∷ xs) = ap (λ l. x ∷ l) (append-nil xs)

names-line : (kind : CommandKind) (taken : List Pair) (words : List (List ℕ)) (command : Command) → AreTaken kind taken →
    with_names kind taken words ≡ Some command → IsLine kind taken words command
names-line kind taken words command are e = by_test (are_names_of kind words) refl
  where
    by_test : (t : Bool) → are_names_of kind words ≡ t → IsLine kind taken words command
    by_test true is =
        let h = rw is at e in
        let same : record { kind = kind; pairs = taken; names = words } ≡ command = cc in
        subst (λ (c : Command). IsLine kind taken words c) same (record {
          more = [];
          split = refl;
          kind_is = refl;
          pairs_are = sym (append-nil taken);
          taken_are = are;
          names = is;
        })
    by_test false is = let h = rw is at e in absurd cc

free-is : (o : Option (List ℕ)) → is_none o ≡ true → o ≡ None
free-is None is = refl
free-is (Some s) is = absurd cc

-- a pair that was put behind those that were taken
record IsPut (kind : CommandKind) (taken : List Pair) (row : Row) (value : List ℕ) (more : List Pair) : Type 0 where
  pub is : more ≡ taken ++ record { name = row.name; value = value } ∷ []
  pub taken_are : AreTaken kind more

pair-put : (kind : CommandKind) (taken more : List Pair) (row : Row) (value : List ℕ) → AreTaken kind taken →
    row_in (dashed row.name) (rows_of kind) ≡ Some row → with_pair taken row value ≡ Some more → IsPut kind taken row value more
pair-put kind taken more row value are row_is e = by_test (is_none (value_of row.name taken)) (fits_form row.form value) refl refl
  where
    pair : Pair
    pair = record { name = row.name; value = value }

    by_test : (a b : Bool) → is_none (value_of row.name taken) ≡ a → fits_form row.form value ≡ b → IsPut kind taken row value more
    by_test true true free fits =
        let h = rw (free, fits) at e in
        let same : taken ++ record { name = row.name; value = value } ∷ [] ≡ more = cc in
        let of_kind : IsPairOf kind (record { name = row.name; value = value }) = rw row_is fits in
        subst (λ (l : List Pair). IsPut kind taken row value l) same (record {
          is = refl;
          taken_are = record {
            pairs = All-append (IsPairOf kind) taken _ are.pairs (All-cons (IsPairOf kind) _ [] of_kind (All-nil (IsPairOf kind)));
            once = Once-push taken _ are.once (free-is (value_of row.name taken) free);
          };
        })
    by_test true false free fits = let h = rw (free, fits) at e in absurd cc
    by_test false b free fits = let h = rw free at e in absurd cc

pair-line : (kind : CommandKind) (taken more : List Pair) (row : Row) (word value : List ℕ) (words : List (List ℕ)) (command : Command) →
    word ≡ dashed row.name → IsPut kind taken row value more → IsLine kind more words command →
    IsLine kind taken (word ∷ value ∷ words) command
pair-line kind taken more row word value words command spells put line = record {
  more = record { name = row.name; value = value } ∷ line.more;
  split = ap (λ (w : List ℕ). w ∷ value ∷ words) spells ∙ ap (λ (l : List (List ℕ)). dashed row.name ∷ value ∷ l) line.split;
  kind_is = line.kind_is;
  pairs_are = line.pairs_are ∙ ap (λ (l : List Pair). l ++ line.more) put.is
      ∙ append_assoc taken (record { name = row.name; value = value } ∷ []) line.more;
  taken_are = line.taken_are;
  names = line.names;
}

from_given : {A B : Type 0} (Goal : Type 0) (o : Option A) (f : A → Option B) (b : B) →
    ((a : A) → o ≡ Some a → f a ≡ Some b → Goal) → given o f ≡ Some b → Goal
from_given Goal None f b later e = absurd cc
from_given Goal (Some a) f b later e = later a refl e

from_row : {B : Type 0} (Goal : Type 0) (o : Option Row) (missing : Option B) (f : Row → Option B) (b : B) →
    (missing ≡ Some b → Goal) → ((row : Row) → o ≡ Some row → f row ≡ Some b → Goal) → at_row o missing f ≡ Some b → Goal
from_row Goal None missing f b otherwise later e = otherwise e
from_row Goal (Some row) missing f b otherwise later e = later row refl e

line-only : (kind : CommandKind) (words : List (List ℕ)) (taken : List Pair) (command : Command) → AreTaken kind taken →
    found_behind kind taken words ≡ Some command → IsLine kind taken words command
line-only kind [] taken command are e = names-line kind taken [] command are e
line-only kind (word ∷ []) taken command are e = names-line kind taken (word ∷ []) command are e
line-only kind (word ∷ value ∷ words) taken command are e =
    from_row (IsLine kind taken (word ∷ value ∷ words) command) (row_in word (rows_of kind)) (with_names kind taken (word ∷ value ∷ words))
    (λ row. given (with_pair taken row value) (λ more. found_behind kind more words)) command
    (λ is. names-line kind taken (word ∷ value ∷ words) command are is)
    (λ row is found.
    from_given (IsLine kind taken (word ∷ value ∷ words) command) (with_pair taken row value) (λ more. found_behind kind more words) command
    (λ more pair later.
    let spells = row_in-name word (rows_of kind) row is in
    let put = pair-put kind taken more row value are (subst (λ (w : List ℕ). row_in w (rows_of kind) ≡ Some row) spells is) pair in
    pair-line kind taken more row word value words command spells put (line-only kind words more command put.taken_are later))
    found) e

none-taken : (kind : CommandKind) → AreTaken kind []
none-taken kind = record { pairs = All-nil (IsPairOf kind); once = tt }

-- the word is this command's, or one of the others'
this-or-other : (kind this : CommandKind) (word : List ℕ) (other : Option CommandKind) →
    (if bytes_eq word (word_of this) then Some this else other) ≡ Some kind → (other ≡ Some kind → word ≡ word_of kind) → word ≡ word_of kind
this-or-other kind this word other e of_other = by_test (bytes_eq word (word_of this)) refl
  where
    by_test : (b : Bool) → bytes_eq word (word_of this) ≡ b → word ≡ word_of kind
    by_test true is =
        let h = rw is at e in
        let same : this ≡ kind = cc in subst (λ (k : CommandKind). word ≡ word_of k) same ((bytes_eq-Decides word (word_of this)).0 is)
    by_test false is = of_other (rw is at e)

kind_of-word : (word : List ℕ) (kind : CommandKind) → kind_of word ≡ Some kind → word ≡ word_of kind
kind_of-word word kind e =
    this-or-other kind Check word _ e
    (λ e. this-or-other kind Play word _ e
    (λ e. this-or-other kind Format word _ e
    (λ e. this-or-other kind Strings word _ e
    (λ e. this-or-other kind Tag word _ e
    (λ e. this-or-other kind kinds.List word _ e (λ e. absurd cc))))))

of_word : (kind : CommandKind) → kind_of (word_of kind) ≡ Some kind
of_word Check = refl
of_word Play = refl
of_word Format = refl
of_word Strings = refl
of_word Tag = refl
of_word kinds.List = refl

line-command : (kind : CommandKind) (word : List ℕ) (words : List (List ℕ)) (command : Command) → word ≡ word_of kind →
    IsLine kind [] words command → CommandLine (word ∷ words) command
line-command kind word words command spells line = record {
  split = ap (λ (w : List ℕ). w ∷ words) (spells ∙ ap word_of (sym line.kind_is))
      ∙ ap (λ (l : List (List ℕ)). word_of command.kind ∷ l) (line.split ∙ ap (λ (p : List Pair). spelled_pairs p ++ command.names) (sym line.pairs_are));
  pairs = subst (λ (k : CommandKind). All (IsPairOf k) command.pairs) (sym line.kind_is) line.taken_are.pairs;
  once = line.taken_are.once;
  names = subst (λ (k : CommandKind). are_names_of k command.names ≡ true) (sym line.kind_is) line.names;
}

pub command-only : (words : List (List ℕ)) (command : Command) → command_of words ≡ Some command → CommandLine words command
command-only [] command e = absurd cc
command-only (word ∷ words) command e =
    from_given (CommandLine (word ∷ words) command) (kind_of word) (λ kind. found_behind kind [] words) command
    (λ kind is found. line-command kind word words command (kind_of-word word kind is) (line-only kind words [] command (none-taken kind) found)) e

-- names are found where no pair is left

names-first : (kind : CommandKind) (word : List ℕ) (words : List (List ℕ)) → are_names_of kind (word ∷ words) ≡ true → is_name_word word ≡ true
names-first kind word words is = by_test (is_count_of kind (length (word ∷ words))) (is_name_word word) refl refl
  where
    by_test : (a b : Bool) → is_count_of kind (length (word ∷ words)) ≡ a → is_name_word word ≡ b → is_name_word word ≡ true
    by_test true true count name = name
    by_test true false count name = let h = rw (count, name) at is in absurd cc
    by_test false b count name = let h = rw count at is in absurd cc

names-found : (kind : CommandKind) (taken : List Pair) (names : List (List ℕ)) → are_names_of kind names ≡ true →
    found_behind kind taken names ≡ Some (record { kind = kind; pairs = taken; names = names })
names-found kind taken [] is = rw is refl
names-found kind taken (name ∷ []) is = rw is refl
names-found kind taken (name ∷ other ∷ names) is =
    let none = row_in-no_name name (rows_of kind) (names-first kind name (other ∷ names) is) in rw none (rw is refl)

row-found : (o : Option Row) (value : List ℕ) → fits_row o value ≡ true → (row : Row) × (o ≡ Some row) × (fits_form row.form value ≡ true)
row-found None value is = absurd cc
row-found (Some row) value is = (row, refl, is)

pair-taken : (kind : CommandKind) (taken : List Pair) (row : Row) (pair : Pair) → dashed pair.name ≡ dashed row.name →
    value_of pair.name taken ≡ None → fits_form row.form pair.value ≡ true → with_pair taken row pair.value ≡ Some (taken ++ pair ∷ [])
pair-taken kind taken row pair spells free fits =
    let same : pair.name ≡ row.name = cc in
    let none : value_of row.name taken ≡ None = subst (λ (n : List ℕ). value_of n taken ≡ None) same free in
    let value : with_pair taken row pair.value ≡ Some (taken ++ record { name = row.name; value = pair.value } ∷ []) = rw (none, fits) refl in
    value ∙ ap (λ (n : List ℕ). Some (taken ++ record { name = n; value = pair.value } ∷ [])) (sym same)

line-found : (kind : CommandKind) (more taken : List Pair) (names : List (List ℕ)) → All (IsPairOf kind) more → Once (taken ++ more) →
    are_names_of kind names ≡ true →
    found_behind kind taken (spelled_pairs more ++ names) ≡ Some (record { kind = kind; pairs = taken ++ more; names = names })
line-found kind [] taken names fit once is =
    names-found kind taken names is
    ∙ ap (λ (p : List Pair). Some (record { kind = kind; pairs = p; names = names })) (sym (append-nil taken))
line-found kind (pair ∷ more) taken names fit once is =
    let row = row-found (row_in (dashed pair.name) (rows_of kind)) pair.value (All-head (IsPairOf kind) pair more fit) in
    let spells = row_in-name (dashed pair.name) (rows_of kind) row.0 row.1 in
    let put = pair-taken kind taken row.0 pair spells (Once-free taken pair more once) row.2 in
    let split : (taken ++ pair ∷ []) ++ more ≡ taken ++ pair ∷ more = append_assoc taken (pair ∷ []) more in
    let later = line-found kind more (taken ++ pair ∷ []) names (All-tail (IsPairOf kind) pair more fit) (subst Once (sym split) once) is in
    ap (λ (o : Option Row). at_row o (with_names kind taken (dashed pair.name ∷ pair.value ∷ (spelled_pairs more ++ names)))
    (λ r. given (with_pair taken r pair.value) (λ m. found_behind kind m (spelled_pairs more ++ names)))) row.1
    ∙ ap (λ (o : Option (List Pair)). given o (λ m. found_behind kind m (spelled_pairs more ++ names))) put
    ∙ later
    ∙ ap (λ (p : List Pair). Some (record { kind = kind; pairs = p; names = names })) split

pub command-found : (words : List (List ℕ)) (command : Command) → CommandLine words command → command_of words ≡ Some command
command-found words command line =
    ap command_of line.split
    ∙ ap (λ (o : Option CommandKind). given o (λ kind. found_behind kind [] (spelled_pairs command.pairs ++ command.names))) (of_word command.kind)
    ∙ line-found command.kind command.pairs [] command.names line.pairs line.once line.names

pub one_command : (words : List (List ℕ)) (a b : Command) → CommandLine words a → CommandLine words b → a ≡ b
one_command words a b one two =
    let first = command-found words a one in
    let second = command-found words b two in cc

pub no_command : (words : List (List ℕ)) → command_of words ≡ None → (command : Command) → CommandLine words command → ⊥
no_command words none command line = let found = command-found words command line in absurd cc

pub no_command-only : (words : List (List ℕ)) → ((command : Command) → CommandLine words command → ⊥) → command_of words ≡ None
no_command-only words none = by_found (command_of words) refl
  where
    by_found : (o : Option Command) → command_of words ≡ o → command_of words ≡ None
    by_found None is = is
    by_found (Some command) is = absurd (none command (command-only words command is))

-- what was found is what the words say
pub found-Says : (words : List (List ℕ)) (o : Option Command) → o ≡ command_of words → WordsSay words o
found-Says words None is = no_command words (sym is)
found-Says words (Some command) is = command-only words command (sym is)

pub read-Says : (words : List (List ℕ)) (r : Result (Option Command) Memory) → IfOk r (λ o. o ≡ command_of words) → IfOk r (WordsSay words)
read-Says words (Ok o) is = found-Says words o is
read-Says words (Err error) is = tt

-- the parts of a command that was found are one
pub found-parts : (kind : CommandKind) (words : List (List ℕ)) (pairs : List Pair) (names : List (List ℕ)) →
    found_behind kind pairs names ≡ found_behind kind [] words → found_behind kind pairs names ≡ with_names kind pairs names →
    are_names_of kind names ≡ true →
    CommandLine (spelled (record { kind = kind; pairs = pairs; names = names })) (record { kind = kind; pairs = pairs; names = names })
found-parts kind words pairs names so_far left are =
    let command : Command = record { kind = kind; pairs = pairs; names = names } in
    let named : with_names kind pairs names ≡ Some command = rw are refl in
    let line = line-only kind words [] command (none-taken kind) (sym so_far ∙ left ∙ named) in
    record { split = refl; pairs = line.taken_are.pairs; once = line.taken_are.once; names = are }
