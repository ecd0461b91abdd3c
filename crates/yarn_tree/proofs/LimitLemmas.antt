-- What is noted of files that stand for their lines: what of these is too deep or too many, and numbers.
use Rattle.std.proofs.Common.{◌≡◌, ◌↔◌, ◌≤◌, ℕ, List, [], length, Bool, ◌⊎◌, inl, inr, Option, Some, None, All, IsUtf8, sym, ap, ◌∙◌, subst}
use Rattle.std.specs.List.{slice_get}
use Rattle.yarn_base.specs.declared.Place.{Place}
use Rattle.yarn_base.specs.declared.SourceFile.{SourceFile}
use Rattle.yarn_items.specs.declared.item.Mode.{Mode}
use Rattle.yarn_blocks.specs.Tree.{Stmts, deep_in, crowd_in}
use Rattle.yarn_blocks.specs.Block.{Block}
use Rattle.yarn_nodes.specs.declared.node.FileLines.{FileLines}
use Rattle.yarn_nodes.specs.declared.node.NodeLines.{NodeLines}
use Rattle.yarn_nodes.specs.declared.node.Note.{Note}
use Rattle.yarn_nodes.specs.declared.node.Note.TheVariants as note
use Rattle.yarn_nodes.specs.Laws.{HasNoLine, HasFirstLine, NotesFirst, HasManyHoles, HasFraction, HasLarge, IsFirstShown, NotesShown, IsWellTitled}
use Rattle.yarn_tree.specs.Checks.{noted_in, extra_node, extra_variable, extra_name, variables_in, first_excess}
use Rattle.yarn_tree.specs.Laws.{HasGoodLines, HasFirstOther, IsFirstOther, IsShort, nodes_of, ShowsNothing, IsShownAt, IsFirstOf, IsFirstLine, AreFew, names_in, uses_from, begins_from, IsBehind, IsNewBehind, IsTooManyAt, IsEarliest, substitutions, options, nodes, variables}
use Rattle.yarn_tree.specs.Names.{no_name}
use Rattle.yarn_tree.specs.Places.{first_place, first_line, earliest}
use Rattle.yarn_tree.specs.Splits.{bad_in, long_in}
use Rattle.yarn_tree.specs.Uses.{UseAt}
use Rattle.yarn_tree.proofs.CountLemmas.{extra-get, few-nodes, behind-decides}
use Rattle.yarn_tree.proofs.EarliestLemmas.{Finds, finds-one, finds-both, finds-same, found-least, earliest-none, none-earliest}
use Rattle.yarn_tree.proofs.FirstLemmas.{Pairs, pairs-same, pairs-weaker, all-of, Clears, Decides, decides-clears, none-clear, clear-none, first-found, found-first}
use Rattle.yarn_tree.proofs.KnownLemmas.{nodes-all, all-nodes}
use Rattle.yarn_tree.proofs.NodeLaws.{NodeLaws}
use Rattle.yarn_tree.proofs.PieceLemmas.{utf8-decides, short-decides}
use Rattle.yarn_tree.proofs.SourceLemmas.{reads_from, files_from, noted_line, noted-lines, Stands}
use Rattle.yarn_tree.proofs.FirstUseLemmas.{uses-reads}
use Rattle.yarn_tree.proofs.NewNameLemmas.{few-names, new-decides}

-- the place of what is noted of files
abbrev pub noted_of : Note → Bool → List SourceFile → Option Place
noted_of note ids sources = first_place (noted_in note) (reads_from ids 0 sources)

-- an option has no place exactly where that holds, and a place exactly where something stands there
pub record Tells (o : Option Place) (Clear : Type 0) (At : Place → Type 0) : Type 0 where
  pub none : (o ≡ None) ↔ Clear
  pub some : (place : Place) → (o ≡ Some place) ↔ At place

pub tells-same : (a b : Option Place) (Clear : Type 0) (At : Place → Type 0) → a ≡ b → Tells b Clear At → Tells a Clear At
tells-same a b Clear At same tells = subst (λ (o : Option Place). Tells o Clear At) (sym same) tells

-- the first place in order of files
pub first-tells : (line_in : SourceFile → Option ℕ) (Clear : SourceFile → Type 0) (At : SourceFile → ℕ → Type 0) →
    ((source : SourceFile) → Decides line_in Clear At source source) → (sources : List SourceFile) →
    Tells (first_line line_in 0 sources) (All Clear sources) (IsFirstOf Clear At sources)
first-tells line_in Clear At decides sources =
    let both = pairs-same (Decides line_in Clear At) (λ source. Unit {0}) (λ source is. decides source) sources (all-of (λ source. Unit {0}) (λ source. tt) sources) in
    let clears = decides-clears line_in Clear At sources sources both in
    record {
      none = (none-clear line_in Clear 0 sources sources clears, clear-none line_in Clear 0 sources sources clears);
      some = λ place. (first-found line_in Clear At sources sources place both, found-first line_in Clear At sources sources place both);
    }

-- the first line that is no UTF-8, and the first that is too long
pub utf8-tells : (sources : List SourceFile) → Tells (first_line bad_in 0 sources) (All (HasGoodLines IsUtf8) sources) (IsFirstOther IsUtf8 sources)
utf8-tells = first-tells bad_in (HasGoodLines IsUtf8) (HasFirstOther IsUtf8) utf8-decides

pub short-tells : (sources : List SourceFile) → Tells (first_line long_in 0 sources) (All (HasGoodLines IsShort) sources) (IsFirstOther IsShort sources)
short-tells = first-tells long_in (HasGoodLines IsShort) (HasFirstOther IsShort) short-decides

module _ {B : Type 0} (note : Note) (ids : Bool) (sources : List SourceFile) (ys : List B) (Clear : B → Type 0) (At : B → ℕ → Type 0)
    (decides : Pairs (Decides (noted_line note) Clear At) sources ys) where
  pub noted-tells : Tells (noted_of note ids sources) (All Clear ys) (λ place. IsFirstOf Clear At ys place)
  noted-tells =
      let same = noted-lines note ids 0 sources in
      let clears = decides-clears (noted_line note) Clear At sources ys decides in
      record {
        none = (
          λ none. none-clear (noted_line note) Clear 0 sources ys clears (sym same ∙ none),
          λ all. same ∙ clear-none (noted_line note) Clear 0 sources ys clears all,
        );
        some = λ place. (
          λ told. first-found (noted_line note) Clear At sources ys place decides (sym same ∙ told),
          λ at. same ∙ found-first (noted_line note) Clear At sources ys place decides at,
        );
      }

-- the first line of a kind
pub line-tells : (note : Note) (ids : Bool) (sources : List SourceFile) (P : Mode → List ℕ → Type 0) →
    ((source : SourceFile) → NotesFirst P source (noted_line note source)) → Tells (noted_of note ids sources) (All (HasNoLine P) sources) (IsFirstLine P sources)
line-tells note ids sources P noted =
    noted-tells note ids sources sources (HasNoLine P) (HasFirstLine P)
    (pairs-same (Decides (noted_line note) (HasNoLine P) (HasFirstLine P)) (λ source. Unit {0})
    (λ source is. record { none = (noted source).none; some = (noted source).some }) sources (all-of (λ source. Unit {0}) (λ source. tt) sources))

-- what the blocks of nodes show
pub shown-tells : (note : Note) (ids : Bool) (sources : List SourceFile) (files : List FileLines) (shows : Stmts → Option ℕ) → Pairs (Stands ids) sources files →
    ((source : SourceFile) (file : FileLines) → Stands ids source file → NotesShown shows file.nodes (noted_line note source)) →
    Tells (noted_of note ids sources) (ShowsNothing shows (nodes_of files)) (IsShownAt shows files)
shown-tells note ids sources files shows stand noted =
    let Clear : FileLines → Type 0 = λ file. ShowsNothing shows file.nodes in
    let At : FileLines → ℕ → Type 0 = λ file number. IsFirstShown shows file.nodes number in
    let Shows : NodeLines → Type 0 = λ node. (b : Stmts) → Block node.body [] b → shows b ≡ None in
    let tells = noted-tells note ids sources files Clear At
    (pairs-weaker (Stands ids) (Decides (noted_line note) Clear At)
    (λ source file stands. record { none = (noted source file stands).none; some = (noted source file stands).some }) sources files stand) in
    record {
      none = (λ none. nodes-all Shows files (tells.none.0 none), λ all. tells.none.1 (all-nodes Shows files all));
      some = tells.some;
    }

nodes-tell : (ids : Bool) (sources : List SourceFile) →
    Tells (extra_node 65536 (reads_from ids 0 sources)) (length (nodes_of (files_from ids 0 sources)) ≤ 65536) (IsBehind 65536 (begins_from 0 (files_from ids 0 sources)))
nodes-tell ids sources =
    let files = files_from ids 0 sources in
    tells-same (extra_node 65536 (reads_from ids 0 sources)) (slice_get (begins_from 0 files) 65536) _ _ (extra-get ids 65536 0 sources)
    (record { none = few-nodes 65536 0 files; some = behind-decides 65536 (begins_from 0 files) })

variables-tell : (ids : Bool) (sources : List SourceFile) →
    Tells (extra_variable 65536 (reads_from ids 0 sources)) (AreFew 65536 (names_in (variables_in (uses_from 0 (files_from ids 0 sources)))))
    (IsNewBehind 65536 (variables_in (uses_from 0 (files_from ids 0 sources))))
variables-tell ids sources =
    let names = variables_in (uses_from 0 (files_from ids 0 sources)) in
    tells-same (extra_variable 65536 (reads_from ids 0 sources)) (extra_name 65536 no_name names) _ _
    (ap (λ (uses : List UseAt). extra_name 65536 no_name (variables_in uses)) (uses-reads ids 0 sources))
    (record { none = few-names 65536 names; some = new-decides 65536 names })

module _ (laws : NodeLaws) (ids : Bool) (sources : List SourceFile) where
  pub fractions-tell : Tells (noted_of note.Fraction ids sources) (All (HasNoLine HasFraction) sources) (IsFirstLine HasFraction sources)
  fractions-tell = line-tells note.Fraction ids sources HasFraction (λ source. (laws.noted source).2)

  pub large-tell : Tells (noted_of note.TooLarge ids sources) (All (HasNoLine HasLarge) sources) (IsFirstLine HasLarge sources)
  large-tell = line-tells note.TooLarge ids sources HasLarge (λ source. (laws.noted source).3)

  holes-tell : Tells (noted_of note.ManyHoles ids sources) (All (HasNoLine HasManyHoles) sources) (IsFirstLine HasManyHoles sources)
  holes-tell = line-tells note.ManyHoles ids sources HasManyHoles (λ source. (laws.noted source).1)

  abbrev files : List FileLines
  files = files_from ids 0 sources

  module _ (stand : Pairs (Stands ids) sources (files_from ids 0 sources)) where
    pub deep-tells : Tells (noted_of note.TooDeep ids sources) (ShowsNothing (deep_in 0) (nodes_of (files_from ids 0 sources))) (IsShownAt (deep_in 0) (files_from ids 0 sources))
    deep-tells = shown-tells note.TooDeep ids sources files (deep_in 0) stand (λ source file stands. (laws.shown ids source file stands.0 stands.1).0)

    crowd-tells : Tells (noted_of note.TooMany ids sources) (ShowsNothing crowd_in (nodes_of files)) (IsShownAt crowd_in files)
    crowd-tells = shown-tells note.TooMany ids sources files crowd_in stand (λ source file stands. (laws.shown ids source file stands.0 stands.1).1)

    -- none is too many
    pub record NoneTooMany : Type 0 where
      pub holes : All (HasNoLine HasManyHoles) sources
      pub small : ShowsNothing crowd_in (nodes_of (files_from ids 0 sources))
      pub few_nodes : length (nodes_of (files_from ids 0 sources)) ≤ 65536
      pub few_variables : AreFew 65536 (names_in (variables_in (uses_from 0 (files_from ids 0 sources))))

    abbrev a : Option Place
    a = noted_of note.ManyHoles ids sources

    abbrev b : Option Place
    b = noted_of note.TooMany ids sources

    abbrev c : Option Place
    c = extra_node 65536 (reads_from ids 0 sources)

    abbrev d : Option Place
    d = extra_variable 65536 (reads_from ids 0 sources)

    excess-none : first_excess (reads_from ids 0 sources) ≡ None → NoneTooMany
    excess-none none =
        let first = earliest-none a (earliest b (earliest c d)) none in
        let second = earliest-none b (earliest c d) first.1 in
        let third = earliest-none c d second.1 in
        record {
          holes = holes-tell.none.0 first.0;
          small = crowd-tells.none.0 second.0;
          few_nodes = (nodes-tell ids sources).none.0 third.0;
          few_variables = (variables-tell ids sources).none.0 third.1;
        }

    none-excess : NoneTooMany → first_excess (reads_from ids 0 sources) ≡ None
    none-excess few =
        none-earliest a (earliest b (earliest c d)) (holes-tell.none.1 few.holes)
        (none-earliest b (earliest c d) (crowd-tells.none.1 few.small)
        (none-earliest c d ((nodes-tell ids sources).none.1 few.few_nodes) ((variables-tell ids sources).none.1 few.few_variables)))

    abbrev InLines : Place → Type 0
    InLines = IsFirstLine HasManyHoles sources

    abbrev InGroups : Place → Type 0
    InGroups = IsShownAt crowd_in files

    abbrev InNodes : Place → Type 0
    InNodes = IsBehind 65536 (begins_from 0 files)

    abbrev InNames : Place → Type 0
    InNames = IsNewBehind 65536 (variables_in (uses_from 0 files))

    abbrev Any : Place → Type 0
    Any p = InLines p ⊎ (InGroups p ⊎ (InNodes p ⊎ InNames p))

    any-many : (p : Place) → Any p → IsTooManyAt sources files p
    any-many p (inl at) = substitutions at
    any-many p (inr (inl at)) = options at
    any-many p (inr (inr (inl at))) = nodes at
    any-many p (inr (inr (inr at))) = variables at

    many-any : (p : Place) → IsTooManyAt sources files p → Any p
    many-any p (substitutions at) = inl at
    many-any p (options at) = inr (inl at)
    many-any p (nodes at) = inr (inr (inl at))
    many-any p (variables at) = inr (inr (inr at))

    excess-finds : Finds (first_excess (reads_from ids 0 sources)) (IsTooManyAt sources files)
    excess-finds =
        finds-same (first_excess (reads_from ids 0 sources)) Any (IsTooManyAt sources files) (λ p. (any-many p, many-any p))
        (finds-both InLines (λ p. InGroups p ⊎ (InNodes p ⊎ InNames p)) a (earliest b (earliest c d)) (finds-one a InLines holes-tell.some)
        (finds-both InGroups (λ p. InNodes p ⊎ InNames p) b (earliest c d) (finds-one b InGroups crowd-tells.some)
        (finds-both InNodes InNames c d (finds-one c InNodes (nodes-tell ids sources).some) (finds-one d InNames (variables-tell ids sources).some))))

    pub excess-tells : Tells (first_excess (reads_from ids 0 sources)) NoneTooMany (IsEarliest (IsTooManyAt sources (files_from ids 0 sources)))
    excess-tells = record {
      none = (excess-none, none-excess);
      some = λ place. (
        excess-finds.some place,
        found-least (first_excess (reads_from ids 0 sources)) (IsTooManyAt sources files) excess-finds place,
      );
    }

    -- titles
    pub titles-clear : (noted_of note.Mistitled ids sources ≡ None) ↔ All IsWellTitled (nodes_of (files_from ids 0 sources))
    titles-clear =
        let Clear : FileLines → Type 0 = λ file. All IsWellTitled file.nodes in
        let clears = pairs-weaker (Stands ids) (Clears (noted_line note.Mistitled) Clear) (λ source file stands. (laws.titled ids 0 source file stands.0 stands.1).well) sources files stand in
        let same = noted-lines note.Mistitled ids 0 sources in (
          λ none. nodes-all IsWellTitled files (none-clear (noted_line note.Mistitled) Clear 0 sources files clears (sym same ∙ none)),
          λ all. same ∙ clear-none (noted_line note.Mistitled) Clear 0 sources files clears (all-nodes IsWellTitled files all),
        )
