-- What it means for files that no kind so far has a place.
use Rattle.std.proofs.Common.{◌≡◌, ◌↔◌, ℕ, List, [], ◌∷◌, ◌++◌, Bool, true, false, Option, None, All, refl, sym, ap, ◌∙◌, subst}
use Rattle.yarn_base.specs.declared.Place.{Place}
use Rattle.yarn_base.specs.declared.SourceFile.{SourceFile}
use Rattle.yarn_value.specs.declared.signature.Signature.{Signature}
use Rattle.yarn_nodes.specs.declared.node.FileLines.{FileLines}
use Rattle.yarn_nodes.specs.declared.node.Note.{Note}
use Rattle.yarn_nodes.specs.declared.node.Note.TheVariants as note
use Rattle.yarn_nodes.specs.Laws.{HasNoLine, IsNothing, IsWellTitled}
use Rattle.yarn_tree.specs.declared.refusal.RefusalKind.TheVariants as kind
use Rattle.yarn_tree.specs.Checks.{first_excess, titles_of, titles_seen, first_use, is_reserved, declarations_in, declarations_seen, is_unknown_title, is_unknown_function, has_wrong_count, ids_of, ids_seen}
use Rattle.yarn_tree.specs.Laws.{AreDistinct, names_in, nodes_of, titles, uses_from, ids_from, IsKnown, IsFirstLine, AreReadable, AreItems, AreLined, AreShallow, AreFewEnough, AreWhole, AreKept, AreTitled, AreTitledApart, AreUnreserved, AreDeclaredOnce, HaveNodes, HaveFunctions, HaveArguments}
use Rattle.yarn_tree.specs.Names.{NameAt, no_sight, sees_all}
use Rattle.yarn_tree.specs.Places.{first_line}
use Rattle.yarn_tree.specs.Size.{too_much}
use Rattle.yarn_tree.specs.Splits.{bad_in, long_in}
use Rattle.yarn_tree.specs.Uses.{Use, UseAt, uses_in}
use Rattle.yarn_tree.proofs.FirstLemmas.{Pairs, pairs-same, all-of, Clears, none-clear, clear-none}
use Rattle.yarn_tree.proofs.KnownLemmas.{titles-all}
use Rattle.yarn_tree.proofs.LimitLemmas.{Tells, noted_of, line-tells, deep-tells, excess-tells, fractions-tell, large-tell, titles-clear}
use Rattle.yarn_tree.proofs.NodeLaws.{NodeLaws}
use Rattle.yarn_tree.proofs.ReadableLemmas.{readable-all, all-readable}
use Rattle.yarn_tree.proofs.RefusalLemmas.{Chain, NonePlaced, none-more, more-none}
use Rattle.yarn_tree.proofs.SightLemmas.{Knows, no_sight-distinct, distinct-no_sight, no_sight-knows}
use Rattle.yarn_tree.proofs.SizeLemmas.{not_too_much, none_too_much}
use Rattle.yarn_tree.proofs.SourceLemmas.{reads_from, files_from, noted_line, noted-lines, Stands, sources-stand, stand-sources, have-stand, stand-have}
use Rattle.yarn_tree.proofs.FirstUseLemmas.{uses-reads, ids-reads, none-kept, kept-none, known-decides}

-- a note that no file has
pub noted-none : (n : Note) (ids : Bool) (sources : List SourceFile) → (noted_of n ids sources ≡ None) ↔ All (λ source. noted_line n source ≡ None) sources
noted-none n ids sources =
    let Clear : SourceFile → Type 0 = λ source. noted_line n source ≡ None in
    let clears = pairs-same (Clears (noted_line n) Clear) (λ source. Unit {0}) (λ source is. (λ none. none, λ none. none)) sources (all-of (λ source. Unit {0}) (λ source. tt) sources) in
    let same = noted-lines n ids 0 sources in (
      λ none. none-clear (noted_line n) Clear 0 sources sources clears (sym same ∙ none),
      λ all. same ∙ clear-none (noted_line n) Clear 0 sources sources clears all,
    )

-- a name that comes again
again-none : (a b : List NameAt) (names : List (List ℕ)) → a ≡ b → names_in b ≡ names → ((sees_all no_sight a).again ≡ None) ↔ AreDistinct names
again-none a b names same are = (
  λ none. subst AreDistinct (ap names_in same ∙ are) (no_sight-distinct a none),
  λ differ. distinct-no_sight a (subst AreDistinct (sym (ap names_in same ∙ are)) differ),
)

-- the files of a project, line by line
abbrev pub lines_of_files : List SourceFile → List FileLines
lines_of_files sources = files_from true 0 sources

abbrev pub titles_known : List SourceFile → List ℕ → Bool
titles_known sources = (titles_seen (reads_from true 0 sources)).names

pub titles-known : (sources : List SourceFile) → Knows (titles_known sources) (titles (nodes_of (lines_of_files sources)))
titles-known sources = subst (Knows (titles_known sources)) (titles-all true 0 sources) (no_sight-knows (titles_of (reads_from true 0 sources)))

-- the first use of a kind
abbrev pub used : (Use → Bool) → List SourceFile → Option Place
used is sources = first_use is (uses_in (reads_from true 0 sources))

pub used-none : (is : Use → Bool) (Rule : Use → Type 0) (sources : List SourceFile) → ((u : Use) → (is u ≡ false) ↔ Rule u) →
    (used is sources ≡ None) ↔ All (λ u. Rule u.is) (uses_from 0 (lines_of_files sources))
used-none is Rule sources decides =
    let same = ap (first_use is) (uses-reads true 0 sources) in
    let uses = uses_from 0 (lines_of_files sources) in
    (λ none. none-kept is Rule decides uses (sym same ∙ none), λ all. same ∙ kept-none is Rule decides uses all)

-- kinds with their places, one more each time
module _ (s : List SourceFile) where
  abbrev pub to_lines : Chain
  to_lines = (kind.TooMuch, too_much 0 0 s) ∷ (kind.BadUtf8, first_line bad_in 0 s) ∷ (kind.LineTooLong, first_line long_in 0 s) ∷ []

  abbrev pub to_structure : Chain
  to_structure = to_lines ++ (kind.BadLine, noted_of note.Bad true s) ∷ []

  abbrev pub to_deep : Chain
  to_deep = to_structure ++ (kind.BadStructure, noted_of note.Misplaced true s) ∷ []

  abbrev pub to_many : Chain
  to_many = to_deep ++ (kind.TooDeep, noted_of note.TooDeep true s) ∷ []

  abbrev pub to_fraction : Chain
  to_fraction = to_many ++ (kind.TooMany, first_excess (reads_from true 0 s)) ∷ []

  abbrev pub to_large : Chain
  to_large = to_fraction ++ (kind.Fraction, noted_of note.Fraction true s) ∷ []

  abbrev pub to_title : Chain
  to_title = to_large ++ (kind.NumberTooLarge, noted_of note.TooLarge true s) ∷ []

  abbrev pub to_again : Chain
  to_again = to_title ++ (kind.BadTitle, noted_of note.Mistitled true s) ∷ []

  abbrev pub to_reserved : Chain
  to_reserved = to_again ++ (kind.DuplicateTitle, (titles_seen (reads_from true 0 s)).again) ∷ []

  abbrev pub to_declared : Chain
  to_declared = to_reserved ++ (kind.ReservedName, used is_reserved s) ∷ []

  abbrev pub to_node : Chain
  to_node = to_declared ++ (kind.DuplicateDeclare, (declarations_seen (reads_from true 0 s)).again) ∷ []

  abbrev pub to_function : Chain
  to_function = to_node ++ (kind.UnknownNode, used (is_unknown_title (titles_known s)) s) ∷ []

  abbrev pub to_arguments : List Signature → Chain
  to_arguments signatures = to_function ++ (kind.UnknownFunction, used (is_unknown_function signatures) s) ∷ []

  abbrev pub to_id : List Signature → Chain
  to_id signatures = to_arguments signatures ++ (kind.WrongArguments, used (has_wrong_count signatures) s) ∷ []

module _ (s : List SourceFile) where
  pub readable-none : NonePlaced (to_lines s) → AreReadable s
  readable-none none = record { light = not_too_much s none.0; readable = readable-all 0 s none.1.0 none.1.1.0 }

  pub none-readable : AreReadable s → NonePlaced (to_lines s)
  none-readable are = let read = all-readable 0 s are.readable in (none_too_much s are.light, (read.0, (read.1, tt)))

module _ (laws : NodeLaws) (s : List SourceFile) where
  pub nothing-tells : Tells (noted_of note.Bad true s) (All (HasNoLine IsNothing) s) (IsFirstLine IsNothing s)
  nothing-tells = line-tells note.Bad true s IsNothing (λ source. (laws.noted source).0)

  pub items-none : NonePlaced (to_structure s) → AreItems s
  items-none none =
      let both = more-none (to_lines s) kind.BadLine (noted_of note.Bad true s) none in
      record { read = readable-none s both.0; items = nothing-tells.none.0 both.1 }

  pub none-items : AreItems s → NonePlaced (to_structure s)
  none-items are = none-more (to_lines s) kind.BadLine (noted_of note.Bad true s) (none-readable s are.read) (nothing-tells.none.1 are.items)

  pub lined-none : NonePlaced (to_deep s) → AreLined s (lines_of_files s)
  lined-none none =
      let both = more-none (to_structure s) kind.BadStructure (noted_of note.Misplaced true s) none in
      let items = items-none both.0 in
      let bad = more-none (to_lines s) kind.BadLine (noted_of note.Bad true s) both.0 in
      let stand = sources-stand laws true 0 s items.read.readable ((noted-none note.Bad true s).0 bad.1) ((noted-none note.Misplaced true s).0 both.1) in
      let have = stand-have s (lines_of_files s) stand in
      record { light = items.read.light; have = have.0; blocks = have.1 }

  pub lined-stand : (files : List FileLines) → AreLined s files → Pairs (Stands true) s files
  lined-stand files are = have-stand s files are.have are.blocks

  pub lined-same : (files : List FileLines) → AreLined s files → lines_of_files s ≡ files
  lined-same files are = (stand-sources laws true 0 s files (lined-stand files are)).same

  pub none-lined : AreLined s (lines_of_files s) → NonePlaced (to_deep s)
  none-lined are =
      let read = stand-sources laws true 0 s (lines_of_files s) (lined-stand (lines_of_files s) are) in
      none-more (to_structure s) kind.BadStructure (noted_of note.Misplaced true s)
      (none-more (to_lines s) kind.BadLine (noted_of note.Bad true s) (none-readable s (record { light = are.light; readable = read.readable }))
      ((noted-none note.Bad true s).1 read.good))
      ((noted-none note.Misplaced true s).1 read.placed)

  abbrev files : List FileLines
  files = lines_of_files s

  abbrev uses : List UseAt
  uses = uses_from 0 (lines_of_files s)

  pub shallow-none : NonePlaced (to_many s) → AreShallow s (lines_of_files s)
  shallow-none none =
      let both = more-none (to_deep s) kind.TooDeep (noted_of note.TooDeep true s) none in
      let lined = lined-none both.0 in
      record { lined = lined; shallow = (deep-tells laws true s (lined-stand files lined)).none.0 both.1 }

  pub none-shallow : AreShallow s (lines_of_files s) → NonePlaced (to_many s)
  none-shallow are =
      none-more (to_deep s) kind.TooDeep (noted_of note.TooDeep true s) (none-lined are.lined)
      ((deep-tells laws true s (lined-stand files are.lined)).none.1 are.shallow)

  pub few-none : NonePlaced (to_fraction s) → AreFewEnough s (lines_of_files s)
  few-none none =
      let both = more-none (to_many s) kind.TooMany (first_excess (reads_from true 0 s)) none in
      let shallow = shallow-none both.0 in
      let few = (excess-tells laws true s (lined-stand files shallow.lined)).none.0 both.1 in
      record { shallow = shallow; holes = few.holes; small = few.small; few_nodes = few.few_nodes; few_variables = few.few_variables }

  pub none-few : AreFewEnough s (lines_of_files s) → NonePlaced (to_fraction s)
  none-few are =
      none-more (to_many s) kind.TooMany (first_excess (reads_from true 0 s)) (none-shallow are.shallow)
      ((excess-tells laws true s (lined-stand files are.shallow.lined)).none.1
      (record { holes = are.holes; small = are.small; few_nodes = are.few_nodes; few_variables = are.few_variables }))

  pub whole-none : NonePlaced (to_large s) → AreWhole s (lines_of_files s)
  whole-none none =
      let both = more-none (to_fraction s) kind.Fraction (noted_of note.Fraction true s) none in
      record { few = few-none both.0; fractions = (fractions-tell laws true s).none.0 both.1 }

  pub none-whole : AreWhole s (lines_of_files s) → NonePlaced (to_large s)
  none-whole are = none-more (to_fraction s) kind.Fraction (noted_of note.Fraction true s) (none-few are.few) ((fractions-tell laws true s).none.1 are.fractions)

  pub numbers-none : NonePlaced (to_title s) → AreKept s (lines_of_files s)
  numbers-none none =
      let both = more-none (to_large s) kind.NumberTooLarge (noted_of note.TooLarge true s) none in
      record { whole = whole-none both.0; large = (large-tell laws true s).none.0 both.1 }

  pub none-numbers : AreKept s (lines_of_files s) → NonePlaced (to_title s)
  none-numbers are = none-more (to_large s) kind.NumberTooLarge (noted_of note.TooLarge true s) (none-whole are.whole) ((large-tell laws true s).none.1 are.large)

  titles-fine : AreKept s (lines_of_files s) → (noted_of note.Mistitled true s ≡ None) ↔ All IsWellTitled (nodes_of (lines_of_files s))
  titles-fine kept = titles-clear laws true s (lined-stand files kept.whole.few.shallow.lined)

  pub titled-none : NonePlaced (to_again s) → AreTitled s (lines_of_files s)
  titled-none none =
      let both = more-none (to_title s) kind.BadTitle (noted_of note.Mistitled true s) none in
      let kept = numbers-none both.0 in
      record { kept = kept; titled = (titles-fine kept).0 both.1 }

  pub none-titled : AreTitled s (lines_of_files s) → NonePlaced (to_again s)
  none-titled are = none-more (to_title s) kind.BadTitle (noted_of note.Mistitled true s) (none-numbers are.kept) ((titles-fine are.kept).1 are.titled)

  titles-again : ((titles_seen (reads_from true 0 s)).again ≡ None) ↔ AreDistinct (titles (nodes_of (lines_of_files s)))
  titles-again = again-none (titles_of (reads_from true 0 s)) (titles_of (reads_from true 0 s)) (titles (nodes_of files)) refl (titles-all true 0 s)

  pub apart-none : NonePlaced (to_reserved s) → AreTitledApart s (lines_of_files s)
  apart-none none =
      let both = more-none (to_again s) kind.DuplicateTitle (titles_seen (reads_from true 0 s)).again none in
      record { are = titled-none both.0; titles_differ = titles-again.0 both.1 }

  pub none-apart : AreTitledApart s (lines_of_files s) → NonePlaced (to_reserved s)
  none-apart are = none-more (to_again s) kind.DuplicateTitle (titles_seen (reads_from true 0 s)).again (none-titled are.are) (titles-again.1 are.titles_differ)

  unreserved-uses : (used is_reserved s ≡ None) ↔ All (λ u. is_reserved u.is ≡ false) (uses_from 0 (lines_of_files s))
  unreserved-uses = used-none is_reserved (λ u. is_reserved u ≡ false) s (λ u. (λ is. is, λ is. is))

  pub unreserved-none : NonePlaced (to_declared s) → AreUnreserved s (lines_of_files s)
  unreserved-none none =
      let both = more-none (to_reserved s) kind.ReservedName (used is_reserved s) none in
      record { titled = apart-none both.0; unreserved = unreserved-uses.0 both.1 }

  pub none-unreserved : AreUnreserved s (lines_of_files s) → NonePlaced (to_declared s)
  none-unreserved are = none-more (to_reserved s) kind.ReservedName (used is_reserved s) (none-apart are.titled) (unreserved-uses.1 are.unreserved)

  declared-again : ((declarations_seen (reads_from true 0 s)).again ≡ None) ↔ AreDistinct (names_in (declarations_in (uses_from 0 (lines_of_files s))))
  declared-again =
      again-none (declarations_in (uses_in (reads_from true 0 s))) (declarations_in uses) (names_in (declarations_in uses)) (ap declarations_in (uses-reads true 0 s)) refl

  pub declared-none : NonePlaced (to_node s) → AreDeclaredOnce s (lines_of_files s)
  declared-none none =
      let both = more-none (to_declared s) kind.DuplicateDeclare (declarations_seen (reads_from true 0 s)).again none in
      record { unreserved = unreserved-none both.0; declared_once = declared-again.0 both.1 }

  pub none-declared : AreDeclaredOnce s (lines_of_files s) → NonePlaced (to_node s)
  none-declared are =
      none-more (to_declared s) kind.DuplicateDeclare (declarations_seen (reads_from true 0 s)).again (none-unreserved are.unreserved) (declared-again.1 are.declared_once)

  known-uses : (used (is_unknown_title (titles_known s)) s ≡ None) ↔ All (λ u. IsKnown (titles (nodes_of (lines_of_files s))) u.is) (uses_from 0 (lines_of_files s))
  known-uses =
      used-none (is_unknown_title (titles_known s)) (IsKnown (titles (nodes_of files))) s (known-decides (titles_known s) (titles (nodes_of files)) (titles-known s))

  pub nodes-none : NonePlaced (to_function s) → HaveNodes s (lines_of_files s)
  nodes-none none =
      let both = more-none (to_node s) kind.UnknownNode (used (is_unknown_title (titles_known s)) s) none in
      record { declared = declared-none both.0; known = known-uses.0 both.1 }

  pub none-nodes : HaveNodes s (lines_of_files s) → NonePlaced (to_function s)
  none-nodes are =
      none-more (to_node s) kind.UnknownNode (used (is_unknown_title (titles_known s)) s) (none-declared are.declared) (known-uses.1 are.known)

  module _ (signatures : List Signature) where
    function-uses : (used (is_unknown_function signatures) s ≡ None) ↔ All (λ u. is_unknown_function signatures u.is ≡ false) (uses_from 0 (lines_of_files s))
    function-uses = used-none (is_unknown_function signatures) (λ u. is_unknown_function signatures u ≡ false) s (λ u. (λ is. is, λ is. is))

    pub functions-none : NonePlaced (to_arguments s signatures) → HaveFunctions signatures s (lines_of_files s)
    functions-none none =
        let both = more-none (to_function s) kind.UnknownFunction (used (is_unknown_function signatures) s) none in
        record { have = nodes-none both.0; functions = function-uses.0 both.1 }

    pub none-functions : HaveFunctions signatures s (lines_of_files s) → NonePlaced (to_arguments s signatures)
    none-functions are =
        none-more (to_function s) kind.UnknownFunction (used (is_unknown_function signatures) s) (none-nodes are.have) (function-uses.1 are.functions)

    argument-uses : (used (has_wrong_count signatures) s ≡ None) ↔ All (λ u. has_wrong_count signatures u.is ≡ false) (uses_from 0 (lines_of_files s))
    argument-uses = used-none (has_wrong_count signatures) (λ u. has_wrong_count signatures u ≡ false) s (λ u. (λ is. is, λ is. is))

    pub arguments-none : NonePlaced (to_id s signatures) → HaveArguments signatures s (lines_of_files s)
    arguments-none none =
        let both = more-none (to_arguments s signatures) kind.WrongArguments (used (has_wrong_count signatures) s) none in
        record { have = functions-none both.0; arguments = argument-uses.0 both.1 }

    pub none-arguments : HaveArguments signatures s (lines_of_files s) → NonePlaced (to_id s signatures)
    none-arguments are =
        none-more (to_arguments s signatures) kind.WrongArguments (used (has_wrong_count signatures) s) (none-functions are.have) (argument-uses.1 are.arguments)

  pub ids-again : ((ids_seen (reads_from true 0 s)).again ≡ None) ↔ AreDistinct (names_in (ids_from 0 (lines_of_files s)))
  ids-again = again-none (ids_of (reads_from true 0 s)) (ids_from 0 files) (names_in (ids_from 0 files)) (ids-reads true 0 s) refl
