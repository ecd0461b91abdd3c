-- Laws that tie the reading to what files stand for (docs/language.md, Nodes and Refusals of a project).
use Rattle.std.specs.Prelude.{◌≡◌, ◌↔◌, ◌≤◌, ℕ, ◌+◌, List, [], ◌∷◌, ◌++◌, length, false, All, IsUtf8, None, ⊤, ◌⊎◌, Option}
use Rattle.std.specs.List.{flat_map}
use Rattle.yarn_base.specs.declared.Place.{Place}
use Rattle.yarn_base.specs.declared.SourceFile.{SourceFile}
use Rattle.yarn_value.specs.declared.signature.Signature.{Signature}
use Rattle.yarn_lines.specs.Lines.{lines_of, pieces_in}
use Rattle.yarn_items.specs.declared.item.Mode.{Mode}
use Rattle.yarn_items.specs.declared.item.Mode.TheVariants.{InHeaders}
use Rattle.yarn_blocks.specs.Tree.{Stmts, deep_in, crowd_in}
use Rattle.yarn_blocks.specs.Block.{Block}
use Rattle.yarn_nodes.specs.declared.node.FileLines.{FileLines}
use Rattle.yarn_nodes.specs.declared.node.NodeLines.{NodeLines}
use Rattle.yarn_nodes.specs.Entries.{ItemAt}
use Rattle.yarn_nodes.specs.Ids.{HasIds, HasNoIds}
use Rattle.yarn_nodes.specs.Lines.{IsReadable, IsItems, HasLines}
use Rattle.yarn_nodes.specs.Laws.{AreBlocks, HasNoLine, HasFirstLine, IsNothing, HasFraction, HasLarge, HasManyHoles, IsMisplacedIn, IsFirstShown, IsWellTitled, IsBadTitleIn, HasFineTitles, titles_in as header_titles}
use Rattle.yarn_tree.specs.declared.refusal.RefusalKind.{RefusalKind}
use Rattle.yarn_tree.specs.declared.refusal.RefusalKind.TheVariants as kind
use Rattle.yarn_tree.specs.Names.{NameAt}
use Rattle.yarn_tree.specs.Places.{is_before}
use Rattle.yarn_tree.specs.Uses.{Use, Title, Variable, Declaration, Function, UseAt, uses_within}
use Rattle.yarn_tree.specs.Checks.{titles_in, variables_in, declarations_in, is_reserved, is_unknown_function, has_wrong_count, ids_within}
use Rattle.yarn_tree.specs.Project.{AllHaveLines, StandsFor, ProjectOf}
use Rattle.yarn_tree.specs.Reading.{Reads, Refuses, reading_of, file_reading_of}
use Rattle.yarn_tree.specs.declared.tree.File.{File}
use Rattle.yarn_tree.specs.declared.tree.Project.{Project}

-- What is accepted, in the words of the lines of nodes.

abbrev pub total : List SourceFile → ℕ
total [] = 0
total (source ∷ sources) = length source.bytes + total sources

-- at most 256 files, each of at most 4,194,304 bytes, and all of at most 33,554,432
pub record AreNotTooMuch (sources : List SourceFile) : Type 0 where
  pub few : length sources ≤ 256
  pub small : All (λ source. length source.bytes ≤ 4194304) sources
  pub light : total sources ≤ 33554432

abbrev pub nodes_of : List FileLines → List NodeLines
nodes_of files = flat_map (λ file. file.nodes) files

abbrev pub titles : List NodeLines → List (List ℕ)
titles [] = []
titles (node ∷ nodes) = node.title ∷ titles nodes

abbrev pub IsAmong : List (List ℕ) → List ℕ → Type 0
IsAmong [] x = ⊥
IsAmong (y ∷ ys) x = (y ≡ x) ⊎ IsAmong ys x

-- none is among those before it
abbrev pub AreDistinct : List (List ℕ) → Type 0
AreDistinct xs = (before behind : List (List ℕ)) (x : List ℕ) → xs ≡ before ++ x ∷ behind → IsAmong before x → ⊥

-- names without their places
abbrev pub names_in : List NameAt → List (List ℕ)
names_in [] = []
names_in (x ∷ xs) = x.0 ∷ names_in xs

-- the first name that is among those before it stands there
pub record IsAgainAt (xs : List NameAt) (place : Place) : Type 0 where
  pub before : List NameAt
  pub name : List ℕ
  pub behind : List NameAt
  pub cut : xs ≡ before ++ (name, place) ∷ behind
  pub differ : AreDistinct (names_in before)
  pub again : IsAmong (names_in before) name

-- at most so many different names
pub record AreFew (most : ℕ) (names : List (List ℕ)) : Type 0 where
  pub known : List (List ℕ)
  pub few : length known ≤ most
  pub all : All (IsAmong known) names

-- what the lines of files use, the first of which has that number
abbrev pub uses_from : ℕ → List FileLines → List UseAt
uses_from n [] = []
uses_from n (file ∷ files) = uses_within n file.nodes ++ uses_from (n + 1) files

-- the ids of the lines and the options of files, the first of which has that number
abbrev pub ids_from : ℕ → List FileLines → List NameAt
ids_from n [] = []
ids_from n (file ∷ files) = ids_within n file.nodes ++ ids_from (n + 1) files

-- a jump leads to one of these titles
abbrev pub IsKnown : List (List ℕ) → Use → Type 0
IsKnown known (Title title) = IsAmong known title
IsKnown known (Variable name) = ⊤
IsKnown known (Declaration name) = ⊤
IsKnown known (Function name count) = ⊤

-- what blocks show of nodes is nothing: no line is too deep, or no group too large
abbrev pub ShowsNothing : (Stmts → Option ℕ) → List NodeLines → Type 0
ShowsNothing shows nodes = All (λ node. (b : Stmts) → Block node.body [] b → shows b ≡ None) nodes

-- no number of a line has a fraction or is too large, and no line has more than 16 substitutions
pub record HasFineLines (source : SourceFile) : Type 0 where
  pub holes : HasNoLine HasManyHoles source
  pub fractions : HasNoLine HasFraction source
  pub large : HasNoLine HasLarge source

-- bodies are blocks, none of which is too deep or has a group that is too large, and nodes are few
pub record AreInLimits (files : List FileLines) : Type 0 where
  pub blocks : All AreBlocks files
  pub shallow : ShowsNothing (deep_in 0) (nodes_of files)
  pub small : ShowsNothing crowd_in (nodes_of files)
  pub few_nodes : length (nodes_of files) ≤ 65536
  pub few_variables : AreFew 65536 (names_in (variables_in (uses_from 0 files)))

-- titles, names and ids are fine
pub record AreNamedWell (signatures : List Signature) (files : List FileLines) : Type 0 where
  pub titled : All IsWellTitled (nodes_of files)
  pub titles_differ : AreDistinct (titles (nodes_of files))
  pub unreserved : All (λ u. is_reserved u.is ≡ false) (uses_from 0 files)
  pub declared_once : AreDistinct (names_in (declarations_in (uses_from 0 files)))
  pub known : All (λ u. IsKnown (titles (nodes_of files)) u.is) (uses_from 0 files)
  pub functions : All (λ u. is_unknown_function signatures u.is ≡ false) (uses_from 0 files)
  pub arguments : All (λ u. has_wrong_count signatures u.is ≡ false) (uses_from 0 files)
  pub ids_differ : AreDistinct (names_in (ids_from 0 files))

-- a project is read exactly where it isn't too much, the files have these lines, and they are accepted
pub record IsAccepted (signatures : List Signature) (sources : List SourceFile) (files : List FileLines) : Type 0 where
  pub light : AreNotTooMuch sources
  pub have : AllHaveLines sources files
  pub fine : All HasFineLines sources
  pub limits : AreInLimits files
  pub named : AreNamedWell signatures files

abbrev pub ReadExactly : Type 0
ReadExactly = (signatures : List Signature) (sources : List SourceFile) (files : List FileLines) →
    (reading_of signatures sources ≡ Reads files) ↔ IsAccepted signatures sources files

-- a file that is read alone is read exactly where it isn't too much, has these lines, and they are within the limits
pub record IsAcceptedAlone (source : SourceFile) (file : FileLines) : Type 0 where
  pub light : length source.bytes ≤ 4194304
  pub has : HasLines HasNoIds source file
  pub fine : HasFineLines source
  pub limits : AreInLimits (file ∷ [])

abbrev pub FileReadExactly : Type 0
FileReadExactly = (source : SourceFile) (file : FileLines) → (file_reading_of source ≡ Reads file) ↔ IsAcceptedAlone source file

-- files stand for at most one project
abbrev pub OneProject : Type 0
OneProject = (sources : List SourceFile) (a b : Project) → ProjectOf sources a → ProjectOf sources b → a ≡ b

-- a file stands for at most one tree, with ids and without
abbrev pub OneFile : Type 0
OneFile = (source : SourceFile) (a b : File) →
    (StandsFor HasIds source a → StandsFor HasIds source b → a ≡ b) × (StandsFor HasNoIds source a → StandsFor HasNoIds source b → a ≡ b)

-- Places of refusals. Each law says what stands before its kind in the order of refusals, and where the kind stands.

-- the first file with which files are too much
pub record IsTooMuchAt (sources : List SourceFile) (place : Place) : Type 0 where
  pub before : List SourceFile
  pub source : SourceFile
  pub behind : List SourceFile
  pub cut : sources ≡ before ++ source ∷ behind
  pub fine : AreNotTooMuch before
  pub much : AreNotTooMuch (before ++ source ∷ []) → ⊥
  pub file : place.file ≡ length before
  pub line : place.line ≡ 0

-- TooMuch stands there
abbrev pub TooMuchIsRight : Type 0
TooMuchIsRight = (signatures : List Signature) (sources : List SourceFile) (place : Place) →
    (reading_of signatures sources ≡ Refuses kind.TooMuch place) ↔ IsTooMuchAt sources place

-- the first file that isn't clear, and what stands there in it
pub record IsFirstOf {A : Type 0} (Clear : A → Type 0) (At : A → ℕ → Type 0) (files : List A) (place : Place) : Type 0 where
  pub before : List A
  pub file : A
  pub behind : List A
  pub cut : files ≡ before ++ file ∷ behind
  pub clear_before : All Clear before
  pub number : place.file ≡ length before
  pub at : At file place.line

-- each line of the file, as LFs cut it, is good
abbrev pub HasGoodLines : (List ℕ → Type 0) → SourceFile → Type 0
HasGoodLines Good source = All Good (pieces_in source.bytes)

-- the first line that isn't good, as LFs cut the file, has that number
pub record HasFirstOther (Good : List ℕ → Type 0) (source : SourceFile) (number : ℕ) : Type 0 where
  pub before : List (List ℕ)
  pub line : List ℕ
  pub behind : List (List ℕ)
  pub cut : pieces_in source.bytes ≡ before ++ line ∷ behind
  pub good_before : All Good before
  pub other : Good line → ⊥
  pub at : number ≡ length before + 1

-- the same in order of files
abbrev pub IsFirstOther : (List ℕ → Type 0) → List SourceFile → Place → Type 0
IsFirstOther Good = IsFirstOf (HasGoodLines Good) (HasFirstOther Good)

-- BadUtf8 stands at the first line that is no UTF-8
abbrev pub BadUtf8IsRight : Type 0
BadUtf8IsRight = (signatures : List Signature) (sources : List SourceFile) (place : Place) →
    (reading_of signatures sources ≡ Refuses kind.BadUtf8 place) ↔ (AreNotTooMuch sources × IsFirstOther IsUtf8 sources place)

-- files that aren't too much, each line of which is UTF-8
pub record AreUtf8 (sources : List SourceFile) : Type 0 where
  pub light : AreNotTooMuch sources
  pub utf8 : All (HasGoodLines IsUtf8) sources

-- at most 65,536 bytes
abbrev pub IsShort : List ℕ → Type 0
IsShort line = length line ≤ 65536

-- LineTooLong stands at the first line of more than 65,536 bytes
abbrev pub LineTooLongIsRight : Type 0
LineTooLongIsRight = (signatures : List Signature) (sources : List SourceFile) (place : Place) →
    (reading_of signatures sources ≡ Refuses kind.LineTooLong place) ↔ (AreUtf8 sources × IsFirstOther IsShort sources place)

-- the first line of that kind, in order of files and lines
abbrev pub IsFirstLine : (Mode → List ℕ → Type 0) → List SourceFile → Place → Type 0
IsFirstLine P = IsFirstOf (HasNoLine P) (HasFirstLine P)

-- files that aren't too much, each line of which is UTF-8 and not too long
pub record AreReadable (sources : List SourceFile) : Type 0 where
  pub light : AreNotTooMuch sources
  pub readable : All (λ source. IsReadable source.bytes) sources

-- BadLine stands at the first line that is no item in its mode
abbrev pub BadLineIsRight : Type 0
BadLineIsRight = (signatures : List Signature) (sources : List SourceFile) (place : Place) →
    (reading_of signatures sources ≡ Refuses kind.BadLine place) ↔ (AreReadable sources × IsFirstLine IsNothing sources place)

-- such files, each line of which is an item
pub record AreItems (sources : List SourceFile) : Type 0 where
  pub read : AreReadable sources
  pub items : All (HasNoLine IsNothing) sources

-- a file stands for lines of nodes whose bodies are blocks
abbrev pub IsStanding : SourceFile → Type 0
IsStanding source = (file : FileLines) × HasLines HasIds source file × AreBlocks file

-- BadStructure stands where the items of the first file that doesn't stand for these stop to be those of such a file
abbrev pub BadStructureIsRight : Type 0
BadStructureIsRight = (signatures : List Signature) (sources : List SourceFile) (place : Place) →
    (reading_of signatures sources ≡ Refuses kind.BadStructure place) ↔ (AreItems sources × IsFirstOf IsStanding IsMisplacedIn sources place)

-- files that aren't too much have these lines, whose bodies are blocks
pub record AreLined (sources : List SourceFile) (files : List FileLines) : Type 0 where
  pub light : AreNotTooMuch sources
  pub have : AllHaveLines sources files
  pub blocks : All AreBlocks files

-- the first that a block shows, in order of files and nodes
abbrev pub IsShownAt : (Stmts → Option ℕ) → List FileLines → Place → Type 0
IsShownAt shows = IsFirstOf (λ file. ShowsNothing shows file.nodes) (λ file number. IsFirstShown shows file.nodes number)

-- TooDeep stands at the first line of a statement of depth over 64
abbrev pub TooDeepIsRight : Type 0
TooDeepIsRight = (signatures : List Signature) (sources : List SourceFile) (place : Place) →
    (reading_of signatures sources ≡ Refuses kind.TooDeep place)
    ↔ ((files : List FileLines) × AreLined sources files × IsShownAt (deep_in 0) files place)

-- such lines, none of which is too deep
pub record AreShallow (sources : List SourceFile) (files : List FileLines) : Type 0 where
  pub lined : AreLined sources files
  pub shallow : ShowsNothing (deep_in 0) (nodes_of files)

-- the places of the `---` of nodes
abbrev pub begins_in : ℕ → List NodeLines → List Place
begins_in file [] = []
begins_in file (node ∷ nodes) = record { file = file; line = node.line } ∷ begins_in file nodes

-- the same of files, the first of which has that number
abbrev pub begins_from : ℕ → List FileLines → List Place
begins_from n [] = []
begins_from n (file ∷ files) = begins_in n file.nodes ++ begins_from (n + 1) files

-- behind that many places
pub record IsBehind (count : ℕ) (places : List Place) (place : Place) : Type 0 where
  pub before : List Place
  pub behind : List Place
  pub cut : places ≡ before ++ place ∷ behind
  pub many : length before ≡ count

-- so many different names
pub record AreSoMany (count : ℕ) (names : List (List ℕ)) : Type 0 where
  pub known : List (List ℕ)
  pub differ : AreDistinct known
  pub many : length known ≡ count
  pub all : All (IsAmong known) names
  pub used : All (IsAmong names) known

-- a new name behind that many others
pub record IsNewBehind (count : ℕ) (xs : List NameAt) (place : Place) : Type 0 where
  pub before : List NameAt
  pub name : List ℕ
  pub behind : List NameAt
  pub cut : xs ≡ before ++ (name, place) ∷ behind
  pub many : AreSoMany count (names_in before)
  pub new : IsAmong (names_in before) name → ⊥

-- the first line with more than 16 substitutions, the first 65th option of a group, the `---` of the 65,537th node, and
-- the first use of the 65,537th variable
pub data IsTooManyAt (sources : List SourceFile) (files : List FileLines) (place : Place) : Type 0 where
  substitutions : IsFirstLine HasManyHoles sources place → IsTooManyAt sources files place
  options : IsShownAt crowd_in files place → IsTooManyAt sources files place
  nodes : IsBehind 65536 (begins_from 0 files) place → IsTooManyAt sources files place
  variables : IsNewBehind 65536 (variables_in (uses_from 0 files)) place → IsTooManyAt sources files place

-- the earliest of the places of a kind
abbrev pub IsEarliest : (Place → Type 0) → Place → Type 0
IsEarliest At place = At place × ((other : Place) → At other → is_before other place ≡ false)

-- TooMany stands at the earliest of these
abbrev pub TooManyIsRight : Type 0
TooManyIsRight = (signatures : List Signature) (sources : List SourceFile) (place : Place) →
    (reading_of signatures sources ≡ Refuses kind.TooMany place)
    ↔ ((files : List FileLines) × AreShallow sources files × IsEarliest (IsTooManyAt sources files) place)

-- such lines, with none too many of a kind
pub record AreFewEnough (sources : List SourceFile) (files : List FileLines) : Type 0 where
  pub shallow : AreShallow sources files
  pub holes : All (HasNoLine HasManyHoles) sources
  pub small : ShowsNothing crowd_in (nodes_of files)
  pub few_nodes : length (nodes_of files) ≤ 65536
  pub few_variables : AreFew 65536 (names_in (variables_in (uses_from 0 files)))

-- Fraction stands at the first line with a number that has a fraction
abbrev pub FractionIsRight : Type 0
FractionIsRight = (signatures : List Signature) (sources : List SourceFile) (place : Place) →
    (reading_of signatures sources ≡ Refuses kind.Fraction place)
    ↔ ((files : List FileLines) × AreFewEnough sources files × IsFirstLine HasFraction sources place)

-- such lines, without fractions
pub record AreWhole (sources : List SourceFile) (files : List FileLines) : Type 0 where
  pub few : AreFewEnough sources files
  pub fractions : All (HasNoLine HasFraction) sources

-- NumberTooLarge stands at the first line with a number above 9223372036854775807
abbrev pub NumberTooLargeIsRight : Type 0
NumberTooLargeIsRight = (signatures : List Signature) (sources : List SourceFile) (place : Place) →
    (reading_of signatures sources ≡ Refuses kind.NumberTooLarge place)
    ↔ ((files : List FileLines) × AreWhole sources files × IsFirstLine HasLarge sources place)

-- such lines, whose numbers can be kept
pub record AreKept (sources : List SourceFile) (files : List FileLines) : Type 0 where
  pub whole : AreWhole sources files
  pub large : All (HasNoLine HasLarge) sources

-- BadTitle stands at the first second title of a node, title that is no name, or `---` behind no title
abbrev pub BadTitleIsRight : Type 0
BadTitleIsRight = (signatures : List Signature) (sources : List SourceFile) (place : Place) →
    (reading_of signatures sources ≡ Refuses kind.BadTitle place)
    ↔ ((files : List FileLines) × AreKept sources files × IsFirstOf HasFineTitles IsBadTitleIn sources place)

-- such lines, with one title for each node, which is a name
pub record AreTitled (sources : List SourceFile) (files : List FileLines) : Type 0 where
  pub kept : AreKept sources files
  pub titled : All IsWellTitled (nodes_of files)

-- the headers `title` of files, with their places, where the first of the files has that number
abbrev pub AreTitlePlaces : ℕ → List SourceFile → List NameAt → Type 0
AreTitlePlaces n [] places = places ≡ []
AreTitlePlaces n (source ∷ sources) places = (items : List ItemAt) × (later : List NameAt) × IsItems InHeaders (lines_of source.bytes).lines items
    × AreTitlePlaces (n + 1) sources later × (places ≡ titles_in n (header_titles items) ++ later)

-- DuplicateTitle stands at the first header `title` that has the value of an earlier one
abbrev pub DuplicateTitleIsRight : Type 0
DuplicateTitleIsRight = (signatures : List Signature) (sources : List SourceFile) (place : Place) →
    (reading_of signatures sources ≡ Refuses kind.DuplicateTitle place)
    ↔ ((files : List FileLines) × AreTitled sources files × ((places : List NameAt) × AreTitlePlaces 0 sources places × IsAgainAt places place))

-- such lines, with different titles
pub record AreTitledApart (sources : List SourceFile) (files : List FileLines) : Type 0 where
  pub are : AreTitled sources files
  pub titles_differ : AreDistinct (titles (nodes_of files))

-- the first use that breaks a rule
pub record IsFirstAgainst (Rule : Use → Type 0) (uses : List UseAt) (place : Place) : Type 0 where
  pub before : List UseAt
  pub u : UseAt
  pub behind : List UseAt
  pub cut : uses ≡ before ++ u ∷ behind
  pub kept_before : All (λ u. Rule u.is) before
  pub broken : Rule u.is → ⊥
  pub at : u.place ≡ place

-- ReservedName stands at the first use of a variable whose name begins with `$Yarn.Internal.`
abbrev pub ReservedNameIsRight : Type 0
ReservedNameIsRight = (signatures : List Signature) (sources : List SourceFile) (place : Place) →
    (reading_of signatures sources ≡ Refuses kind.ReservedName place)
    ↔ ((files : List FileLines) × AreTitledApart sources files × IsFirstAgainst (λ u. is_reserved u ≡ false) (uses_from 0 files) place)

-- such lines, without these variables
pub record AreUnreserved (sources : List SourceFile) (files : List FileLines) : Type 0 where
  pub titled : AreTitledApart sources files
  pub unreserved : All (λ u. is_reserved u.is ≡ false) (uses_from 0 files)

-- DuplicateDeclare stands at the first declaration of a variable that an earlier one declares
abbrev pub DuplicateDeclareIsRight : Type 0
DuplicateDeclareIsRight = (signatures : List Signature) (sources : List SourceFile) (place : Place) →
    (reading_of signatures sources ≡ Refuses kind.DuplicateDeclare place)
    ↔ ((files : List FileLines) × AreUnreserved sources files × IsAgainAt (declarations_in (uses_from 0 files)) place)

-- such lines, which declare each variable once
pub record AreDeclaredOnce (sources : List SourceFile) (files : List FileLines) : Type 0 where
  pub unreserved : AreUnreserved sources files
  pub declared_once : AreDistinct (names_in (declarations_in (uses_from 0 files)))

-- UnknownNode stands at the first jump to a title that no node has
abbrev pub UnknownNodeIsRight : Type 0
UnknownNodeIsRight = (signatures : List Signature) (sources : List SourceFile) (place : Place) →
    (reading_of signatures sources ≡ Refuses kind.UnknownNode place)
    ↔ ((files : List FileLines) × AreDeclaredOnce sources files × IsFirstAgainst (IsKnown (titles (nodes_of files))) (uses_from 0 files) place)

-- such lines, with a node for each jump
pub record HaveNodes (sources : List SourceFile) (files : List FileLines) : Type 0 where
  pub declared : AreDeclaredOnce sources files
  pub known : All (λ u. IsKnown (titles (nodes_of files)) u.is) (uses_from 0 files)

-- UnknownFunction stands at the first call of a function that is no builtin and has no signature
abbrev pub UnknownFunctionIsRight : Type 0
UnknownFunctionIsRight = (signatures : List Signature) (sources : List SourceFile) (place : Place) →
    (reading_of signatures sources ≡ Refuses kind.UnknownFunction place)
    ↔ ((files : List FileLines) × HaveNodes sources files × IsFirstAgainst (λ u. is_unknown_function signatures u ≡ false) (uses_from 0 files) place)

-- such lines, with a function for each call
pub record HaveFunctions (signatures : List Signature) (sources : List SourceFile) (files : List FileLines) : Type 0 where
  pub have : HaveNodes sources files
  pub functions : All (λ u. is_unknown_function signatures u.is ≡ false) (uses_from 0 files)

-- WrongArguments stands at the first call with another number of arguments than its function has
abbrev pub WrongArgumentsIsRight : Type 0
WrongArgumentsIsRight = (signatures : List Signature) (sources : List SourceFile) (place : Place) →
    (reading_of signatures sources ≡ Refuses kind.WrongArguments place)
    ↔ ((files : List FileLines) × HaveFunctions signatures sources files
    × IsFirstAgainst (λ u. has_wrong_count signatures u ≡ false) (uses_from 0 files) place)

-- such lines, whose calls have as many arguments as their functions
pub record HaveArguments (signatures : List Signature) (sources : List SourceFile) (files : List FileLines) : Type 0 where
  pub have : HaveFunctions signatures sources files
  pub arguments : All (λ u. has_wrong_count signatures u.is ≡ false) (uses_from 0 files)

-- DuplicateLineId stands at the first line or option whose id an earlier one has
abbrev pub DuplicateLineIdIsRight : Type 0
DuplicateLineIdIsRight = (signatures : List Signature) (sources : List SourceFile) (place : Place) →
    (reading_of signatures sources ≡ Refuses kind.DuplicateLineId place)
    ↔ ((files : List FileLines) × HaveArguments signatures sources files × IsAgainAt (ids_from 0 files) place)

-- Places of the refusals of a file that is read alone. It is file 0, the only one, and its lines have no ids.

-- a file that isn't too much, each line of which is UTF-8
pub record IsUtf8Alone (source : SourceFile) : Type 0 where
  pub light : length source.bytes ≤ 4194304
  pub utf8 : HasGoodLines IsUtf8 source

-- such a file, no line of which is too long
pub record IsReadableAlone (source : SourceFile) : Type 0 where
  pub light : length source.bytes ≤ 4194304
  pub readable : IsReadable source.bytes

-- such a file, each line of which is an item
pub record IsOfItemsAlone (source : SourceFile) : Type 0 where
  pub read : IsReadableAlone source
  pub items : HasNoLine IsNothing source

-- a file that isn't too much has these lines, whose bodies are blocks
pub record IsLinedAlone (source : SourceFile) (file : FileLines) : Type 0 where
  pub light : length source.bytes ≤ 4194304
  pub has : HasLines HasNoIds source file
  pub blocks : AreBlocks file

-- such lines, none of which is too deep
pub record IsShallowAlone (source : SourceFile) (file : FileLines) : Type 0 where
  pub lined : IsLinedAlone source file
  pub shallow : ShowsNothing (deep_in 0) (nodes_of (file ∷ []))

-- such lines, with none too many of a kind
pub record IsFewEnoughAlone (source : SourceFile) (file : FileLines) : Type 0 where
  pub shallow : IsShallowAlone source file
  pub holes : HasNoLine HasManyHoles source
  pub small : ShowsNothing crowd_in (nodes_of (file ∷ []))
  pub few_nodes : length (nodes_of (file ∷ [])) ≤ 65536
  pub few_variables : AreFew 65536 (names_in (variables_in (uses_from 0 (file ∷ []))))

-- such lines, without fractions
pub record IsWholeAlone (source : SourceFile) (file : FileLines) : Type 0 where
  pub few : IsFewEnoughAlone source file
  pub fractions : HasNoLine HasFraction source

-- what stands before a kind in the order of refusals, and where the kind stands
abbrev pub IsRefusedAlone : RefusalKind → SourceFile → Place → Type 0
IsRefusedAlone kind.TooMuch source place = (length source.bytes ≤ 4194304 → ⊥) × (place ≡ record { file = 0; line = 0 })
IsRefusedAlone kind.BadUtf8 source place = (length source.bytes ≤ 4194304) × IsFirstOther IsUtf8 (source ∷ []) place
IsRefusedAlone kind.LineTooLong source place = IsUtf8Alone source × IsFirstOther IsShort (source ∷ []) place
IsRefusedAlone kind.BadLine source place = IsReadableAlone source × IsFirstLine IsNothing (source ∷ []) place
IsRefusedAlone kind.BadStructure source place = IsOfItemsAlone source × IsFirstOf IsStanding IsMisplacedIn (source ∷ []) place
IsRefusedAlone kind.TooDeep source place = (file : FileLines) × IsLinedAlone source file × IsShownAt (deep_in 0) (file ∷ []) place
IsRefusedAlone kind.TooMany source place = (file : FileLines) × IsShallowAlone source file × IsEarliest (IsTooManyAt (source ∷ []) (file ∷ [])) place
IsRefusedAlone kind.Fraction source place = (file : FileLines) × IsFewEnoughAlone source file × IsFirstLine HasFraction (source ∷ []) place
IsRefusedAlone kind.NumberTooLarge source place = (file : FileLines) × IsWholeAlone source file × IsFirstLine HasLarge (source ∷ []) place
IsRefusedAlone kind.BadTitle source place = ⊥
IsRefusedAlone kind.DuplicateTitle source place = ⊥
IsRefusedAlone kind.ReservedName source place = ⊥
IsRefusedAlone kind.DuplicateDeclare source place = ⊥
IsRefusedAlone kind.UnknownNode source place = ⊥
IsRefusedAlone kind.UnknownFunction source place = ⊥
IsRefusedAlone kind.WrongArguments source place = ⊥
IsRefusedAlone kind.DuplicateLineId source place = ⊥

-- a file that is read alone is refused by a kind at a place exactly where the kind stands there; the kinds that speak of
-- titles, names, jumps, calls and ids are never told of it
abbrev pub FileRefusedExactly : Type 0
FileRefusedExactly = (source : SourceFile) (kind : RefusalKind) (place : Place) →
    (file_reading_of source ≡ Refuses kind place) ↔ IsRefusedAlone kind source place
