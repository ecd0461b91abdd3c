-- The laws that tie the reading to what files stand for.
use Rattle.std.proofs.Common.{◌≡◌, ◌↔◌, List, [], ◌∷◌, ◌++◌, Bool, true, false, All, refl, sym, ap, ◌∙◌, subst}
use Rattle.std.proofs.lemmas.List.Elements.{All-nil, All-cons, All-head, All-tail}
use Rattle.yarn_base.specs.declared.SourceFile.{SourceFile}
use Rattle.yarn_value.specs.declared.signature.Signature.{Signature}
use Rattle.yarn_blocks.specs.View.{stmts_of}
use Rattle.yarn_blocks.proofs.Injective.{one_tree}
use Rattle.yarn_blocks.proofs.Viable.{one_block}
use Rattle.yarn_nodes.specs.declared.node.FileLines.{FileLines}
use Rattle.yarn_nodes.specs.declared.node.NodeLines.{NodeLines}
use Rattle.yarn_nodes.specs.declared.node.Note.TheVariants as note
use Rattle.yarn_nodes.specs.Ids.{HasIds, HasNoIds}
use Rattle.yarn_nodes.specs.Laws.{naming, lines_read, AreBlocks, IsBlockBody, HasNoLine, HasManyHoles, HasFraction, HasLarge}
use Rattle.yarn_tree.specs.declared.refusal.RefusalKind.TheVariants as kind
use Rattle.yarn_tree.specs.declared.tree.File.{File}
use Rattle.yarn_tree.specs.declared.tree.Node.{Node}
use Rattle.yarn_tree.specs.declared.tree.Project.{Project}
use Rattle.yarn_tree.specs.Checks.{first_excess, ids_seen}
use Rattle.yarn_tree.specs.Laws.{HasFineLines, IsAccepted, IsAcceptedAlone, AreLined, AreShallow, AreFewEnough, AreWhole, AreKept, AreTitled, AreTitledApart, AreUnreserved, AreDeclaredOnce, HaveNodes, HaveArguments}
use Rattle.yarn_tree.specs.Places.{at_file}
use Rattle.yarn_tree.specs.Project.{IsNodeOf, AreNodesOf, IsFileOf, AreFilesOf, StandsFor, ProjectOf}
use Rattle.yarn_tree.specs.Reading.{Reads, reading_of, file_reading_of}
use Rattle.yarn_tree.specs.Size.{big_alone}
use Rattle.yarn_tree.specs.Splits.{bad_in, long_in}
use Rattle.yarn_tree.proofs.FirstLemmas.{Pairs, at-none, none-at}
use Rattle.yarn_tree.proofs.LimitLemmas.{noted_of, deep-tells, excess-tells, fractions-tell, large-tell}
use Rattle.yarn_tree.proofs.NodeLaws.{NodeLaws}
use Rattle.yarn_tree.proofs.ReadableLemmas.{CanBeRead, readable-found, readable-told}
use Rattle.yarn_tree.proofs.RefusalLemmas.{Chain, chained, NonePlaced, none-more, more-none, all-none, none-all}
use Rattle.yarn_tree.proofs.SizeLemmas.{alone_small, small-alone}
use Rattle.yarn_tree.proofs.SourceLemmas.{reads_from, NothingBad, NothingMisplaced, Stands, sources-stand, stand-sources, have-stand, stands-source}
use Rattle.yarn_tree.proofs.StageLemmas.{to_id, lines_of_files, noted-none, arguments-none, none-arguments, lined-same, ids-again}

-- all refusals of a project
abbrev all_places : List Signature → List SourceFile → Chain
all_places signatures sources = to_id sources signatures ++ (kind.DuplicateLineId, (ids_seen (reads_from true 0 sources)).again) ∷ []

pub the-reading : (signatures : List Signature) (sources : List SourceFile) →
    reading_of signatures sources ≡ chained (all_places signatures sources) (lines_of_files sources)
unfolding reading_of
the-reading signatures sources = refl

fine-lines : (sources : List SourceFile) → All (HasNoLine HasManyHoles) sources → All (HasNoLine HasFraction) sources → All (HasNoLine HasLarge) sources → All HasFineLines sources
fine-lines [] holes fractions large = All-nil HasFineLines
fine-lines (source ∷ sources) holes fractions large =
    All-cons HasFineLines source sources
    (record {
      holes = All-head (HasNoLine HasManyHoles) source sources holes;
      fractions = All-head (HasNoLine HasFraction) source sources fractions;
      large = All-head (HasNoLine HasLarge) source sources large;
    })
    (fine-lines sources (All-tail (HasNoLine HasManyHoles) source sources holes) (All-tail (HasNoLine HasFraction) source sources fractions)
    (All-tail (HasNoLine HasLarge) source sources large))

record LinesFine (sources : List SourceFile) : Type 0 where
  pub holes : All (HasNoLine HasManyHoles) sources
  pub fractions : All (HasNoLine HasFraction) sources
  pub large : All (HasNoLine HasLarge) sources

lines-fine : (sources : List SourceFile) → All HasFineLines sources → LinesFine sources
lines-fine [] all = record { holes = All-nil (HasNoLine HasManyHoles); fractions = All-nil (HasNoLine HasFraction); large = All-nil (HasNoLine HasLarge) }
lines-fine (source ∷ sources) all =
    let here = All-head HasFineLines source sources all in
    let rest = lines-fine sources (All-tail HasFineLines source sources all) in
    record {
      holes = All-cons (HasNoLine HasManyHoles) source sources here.holes rest.holes;
      fractions = All-cons (HasNoLine HasFraction) source sources here.fractions rest.fractions;
      large = All-cons (HasNoLine HasLarge) source sources here.large rest.large;
    }

-- the files of one project

node-block : (lines : NodeLines) (node : Node) → IsNodeOf lines node → IsBlockBody lines
node-block lines node is = (stmts_of node.body, is.body)

nodes-blocks : (lines : List NodeLines) (nodes : List Node) → AreNodesOf lines nodes → All IsBlockBody lines
nodes-blocks [] [] are = All-nil IsBlockBody
nodes-blocks [] (node ∷ nodes) are = absurd are
nodes-blocks (l ∷ lines) [] are = absurd are
nodes-blocks (l ∷ lines) (node ∷ nodes) are = All-cons IsBlockBody l lines (node-block l node are.0) (nodes-blocks lines nodes are.1)

files-blocks : (lines : List FileLines) (files : List File) → AreFilesOf lines files → All AreBlocks lines
files-blocks [] [] are = All-nil AreBlocks
files-blocks [] (file ∷ files) are = absurd are
files-blocks (l ∷ lines) [] are = absurd are
files-blocks (l ∷ lines) (file ∷ files) are = All-cons AreBlocks l lines (nodes-blocks l.nodes file.nodes are.0.nodes) (files-blocks lines files are.1)

one_node : (lines : NodeLines) (a b : Node) → IsNodeOf lines a → IsNodeOf lines b → a ≡ b
one_node lines a b x y =
    let title : a.title ≡ b.title = x.title ∙ sym y.title in
    let headers : a.headers ≡ b.headers = x.headers ∙ sym y.headers in
    let line : a.line ≡ b.line = x.line ∙ sym y.line in
    let end_line : a.end_line ≡ b.end_line = x.end_line ∙ sym y.end_line in
    let body : a.body ≡ b.body = one_tree a.body b.body (one_block x.body y.body) in
    ap (λ v. record { title = v; headers = a.headers; line = a.line; end_line = a.end_line; body = a.body }) title
    ∙ ap (λ v. record { title = b.title; headers = v; line = a.line; end_line = a.end_line; body = a.body }) headers
    ∙ ap (λ v. record { title = b.title; headers = b.headers; line = v; end_line = a.end_line; body = a.body }) line
    ∙ ap (λ v. record { title = b.title; headers = b.headers; line = b.line; end_line = v; body = a.body }) end_line
    ∙ ap (λ v. record { title = b.title; headers = b.headers; line = b.line; end_line = b.end_line; body = v }) body

one_nodes : (lines : List NodeLines) (a b : List Node) → AreNodesOf lines a → AreNodesOf lines b → a ≡ b
one_nodes [] [] [] x y = refl
one_nodes [] [] (n ∷ b) x y = absurd y
one_nodes [] (m ∷ a) b x y = absurd x
one_nodes (l ∷ lines) [] b x y = absurd x
one_nodes (l ∷ lines) (m ∷ a) [] x y = absurd y
one_nodes (l ∷ lines) (m ∷ a) (n ∷ b) x y = ap (λ (k : Node). k ∷ a) (one_node l m n x.0 y.0) ∙ ap (λ (k : List Node). n ∷ k) (one_nodes lines a b x.1 y.1)

file-same : (lines : FileLines) (a b : File) → IsFileOf lines a → IsFileOf lines b → a ≡ b
file-same lines a b x y =
    ap (λ v. record { name = v; tags = a.tags; nodes = a.nodes }) (x.name ∙ sym y.name)
    ∙ ap (λ v. record { name = b.name; tags = v; nodes = a.nodes }) (x.tags ∙ sym y.tags)
    ∙ ap (λ v. record { name = b.name; tags = b.tags; nodes = v }) (one_nodes lines.nodes a.nodes b.nodes x.nodes y.nodes)

files-same : (lines : List FileLines) (a b : List File) → AreFilesOf lines a → AreFilesOf lines b → a ≡ b
files-same [] [] [] x y = refl
files-same [] [] (n ∷ b) x y = absurd y
files-same [] (m ∷ a) b x y = absurd x
files-same (l ∷ lines) [] b x y = absurd x
files-same (l ∷ lines) (m ∷ a) [] x y = absurd y
files-same (l ∷ lines) (m ∷ a) (n ∷ b) x y = ap (λ (k : File). k ∷ a) (file-same l m n x.0 y.0) ∙ ap (λ (k : List File). n ∷ k) (files-same lines a b x.1 y.1)

module _ (laws : NodeLaws) where
  -- a project

  all-accepted : (signatures : List Signature) (sources : List SourceFile) → NonePlaced (all_places signatures sources) →
      IsAccepted signatures sources (lines_of_files sources)
  all-accepted signatures sources none =
      let both = more-none (to_id sources signatures) kind.DuplicateLineId (ids_seen (reads_from true 0 sources)).again none in
      let calls = arguments-none laws sources signatures both.0 in
      let declared = calls.have.have.declared in
      let apart = declared.unreserved.titled in
      let kept = apart.are.kept in
      let few = kept.whole.few in
      let lined = few.shallow.lined in
      record {
        light = lined.light;
        have = lined.have;
        fine = fine-lines sources few.holes kept.whole.fractions kept.large;
        limits = record { blocks = lined.blocks; shallow = few.shallow.shallow; small = few.small; few_nodes = few.few_nodes; few_variables = few.few_variables };
        named = record {
          titled = apart.are.titled;
          titles_differ = apart.titles_differ;
          unreserved = declared.unreserved.unreserved;
          declared_once = declared.declared_once;
          known = calls.have.have.known;
          functions = calls.have.functions;
          arguments = calls.arguments;
          ids_differ = (ids-again laws sources).0 both.1;
        };
      }

  accepted-calls : (signatures : List Signature) (sources : List SourceFile) (files : List FileLines) → IsAccepted signatures sources files → HaveArguments signatures sources files
  accepted-calls signatures sources files is =
      let limits = is.limits in
      let named = is.named in
      let fine = lines-fine sources is.fine in
      let lined : AreLined sources files = record { light = is.light; have = is.have; blocks = limits.blocks } in
      let shallow : AreShallow sources files = record { lined = lined; shallow = limits.shallow } in
      let few : AreFewEnough sources files =
      record { shallow = shallow; holes = fine.holes; small = limits.small; few_nodes = limits.few_nodes; few_variables = limits.few_variables } in
      let whole : AreWhole sources files = record { few = few; fractions = fine.fractions } in
      let kept : AreKept sources files = record { whole = whole; large = fine.large } in
      let titled : AreTitled sources files = record { kept = kept; titled = named.titled } in
      let apart : AreTitledApart sources files = record { are = titled; titles_differ = named.titles_differ } in
      let unreserved : AreUnreserved sources files = record { titled = apart; unreserved = named.unreserved } in
      let declared : AreDeclaredOnce sources files = record { unreserved = unreserved; declared_once = named.declared_once } in
      let nodes : HaveNodes sources files = record { declared = declared; known = named.known } in
      record { have = record { have = nodes; functions = named.functions }; arguments = named.arguments }

  accepted-all : (signatures : List Signature) (sources : List SourceFile) → IsAccepted signatures sources (lines_of_files sources) →
      NonePlaced (all_places signatures sources)
  accepted-all signatures sources is =
      none-more (to_id sources signatures) kind.DuplicateLineId (ids_seen (reads_from true 0 sources)).again
      (none-arguments laws sources signatures (accepted-calls signatures sources (lines_of_files sources) is)) ((ids-again laws sources).1 is.named.ids_differ)

  pub exactly : (signatures : List Signature) (sources : List SourceFile) (files : List FileLines) →
      (reading_of signatures sources ≡ Reads files) ↔ IsAccepted signatures sources files
  exactly signatures sources files = (
    λ reads.
        let all = all-none (all_places signatures sources) (lines_of_files sources) files (sym (the-reading signatures sources) ∙ reads) in
        subst (IsAccepted signatures sources) all.1 (all-accepted signatures sources all.0),
    λ is.
        let same = lined-same laws sources files (record { light = is.light; have = is.have; blocks = is.limits.blocks }) in
        the-reading signatures sources
        ∙ none-all (all_places signatures sources) (lines_of_files sources) (accepted-all signatures sources (subst (IsAccepted signatures sources) (sym same) is))
        ∙ ap Reads same,
  )

  have-one : (sources : List SourceFile) (a b : List FileLines) → Pairs (Stands true) sources a → Pairs (Stands true) sources b → a ≡ b
  have-one sources a b x y = sym (stand-sources laws true 0 sources a x).same ∙ (stand-sources laws true 0 sources b y).same

  pub one_project : (sources : List SourceFile) (a b : Project) → ProjectOf sources a → ProjectOf sources b → a ≡ b
  one_project sources a b x y =
      let lines : x.lines ≡ y.lines =
      have-one sources x.lines y.lines (have-stand sources x.lines x.have (files-blocks x.lines a.files x.are))
      (have-stand sources y.lines y.have (files-blocks y.lines b.files y.are)) in
      let are : AreFilesOf y.lines a.files = subst (λ (l : List FileLines). AreFilesOf l a.files) lines x.are in
      ap (λ (l : List File). record { files = l }) (files-same y.lines a.files b.files are y.are)

  one-of : (ids : Bool) (source : SourceFile) (a b : File) → StandsFor (naming ids) source a → StandsFor (naming ids) source b → a ≡ b
  one-of ids source a b x y =
      let one = stands-source laws ids 0 source x.lines (x.has, nodes-blocks x.lines.nodes a.nodes x.is.nodes) in
      let two = stands-source laws ids 0 source y.lines (y.has, nodes-blocks y.lines.nodes b.nodes y.is.nodes) in
      let lines : x.lines ≡ y.lines = sym one.same ∙ two.same in
      file-same y.lines a b (subst (λ (l : FileLines). IsFileOf l a) lines x.is) y.is

  pub one_file : (source : SourceFile) (a b : File) →
      (StandsFor HasIds source a → StandsFor HasIds source b → a ≡ b) × (StandsFor HasNoIds source a → StandsFor HasNoIds source b → a ≡ b)
  one_file source a b = (one-of true source a b, one-of false source a b)

-- a file alone
module _ (source : SourceFile) where
  abbrev alone : List SourceFile
  alone = source ∷ []

  abbrev pub to_limits : Chain
  to_limits =
      (kind.TooMuch, big_alone source) ∷ (kind.BadUtf8, at_file 0 (bad_in source)) ∷ (kind.LineTooLong, at_file 0 (long_in source))
      ∷ (kind.BadLine, noted_of note.Bad false (source ∷ [])) ∷ (kind.BadStructure, noted_of note.Misplaced false (source ∷ []))
      ∷ (kind.TooDeep, noted_of note.TooDeep false (source ∷ [])) ∷ (kind.TooMany, first_excess (reads_from false 0 (source ∷ [])))
      ∷ (kind.Fraction, noted_of note.Fraction false (source ∷ [])) ∷ (kind.NumberTooLarge, noted_of note.TooLarge false (source ∷ [])) ∷ []

  abbrev pub file_alone : FileLines
  file_alone = (lines_read false 0 source).file

  pub the-file_reading : file_reading_of source ≡ chained to_limits file_alone
  unfolding file_reading_of
  the-file_reading = refl

  module _ (laws : NodeLaws) where
    all-alone : NonePlaced to_limits → IsAcceptedAlone source file_alone
    all-alone none =
        let (much, (bad, (long, (nothing, (misplaced, (deep, (excess, (fraction, (large, end))))))))) = none in
        let readable = readable-found source.bytes (at-none 0 (bad_in source) bad) (at-none 0 (long_in source) long) in
        let stand = sources-stand laws false 0 alone (All-cons CanBeRead source [] readable (All-nil CanBeRead))
        ((noted-none note.Bad false alone).0 nothing) ((noted-none note.Misplaced false alone).0 misplaced) in
        let few = (excess-tells laws false alone stand).none.0 excess in
        let fractions = (fractions-tell laws false alone).none.0 fraction in
        let larges = (large-tell laws false alone).none.0 large in
        record {
          light = alone_small source much;
          has = stand.0.0;
          fine = record {
            holes = All-head (HasNoLine HasManyHoles) source [] few.holes;
            fractions = All-head (HasNoLine HasFraction) source [] fractions;
            large = All-head (HasNoLine HasLarge) source [] larges;
          };
          limits = record {
            blocks = All-cons AreBlocks file_alone [] stand.0.1 (All-nil AreBlocks);
            shallow = (deep-tells laws false alone stand).none.0 deep;
            small = few.small;
            few_nodes = few.few_nodes;
            few_variables = few.few_variables;
          };
        }

    alone-stands : (file : FileLines) → IsAcceptedAlone source file → Stands false source file
    alone-stands file is = (is.has, All-head AreBlocks file [] is.limits.blocks)

    alone-all : IsAcceptedAlone source file_alone → NonePlaced to_limits
    alone-all is =
        let stands = alone-stands file_alone is in
        let stand : Pairs (Stands false) alone (file_alone ∷ []) = (stands, tt) in
        let read = stands-source laws false 0 source file_alone stands in
        let told = readable-told source.bytes read.readable in
        let one = λ (P : SourceFile → Type 0) (p : P source). All-cons P source [] p (All-nil P) in (
          small-alone source is.light,
          (
            none-at 0 (bad_in source) told.0,
            (
              none-at 0 (long_in source) told.1,
              (
                (noted-none note.Bad false alone).1 (one NothingBad read.good),
                (
                  (noted-none note.Misplaced false alone).1 (one NothingMisplaced read.placed),
                  (
                    (deep-tells laws false alone stand).none.1 is.limits.shallow,
                    (
                      (excess-tells laws false alone stand).none.1
                          (record { holes = one (HasNoLine HasManyHoles) is.fine.holes; small = is.limits.small; few_nodes = is.limits.few_nodes; few_variables = is.limits.few_variables }),
                      (
                        (fractions-tell laws false alone).none.1 (one (HasNoLine HasFraction) is.fine.fractions),
                        (
                          (large-tell laws false alone).none.1 (one (HasNoLine HasLarge) is.fine.large),
                          tt,
                        ),
                      ),
                    ),
                  ),
                ),
              ),
            ),
          ),
        )

    pub file_exactly : (file : FileLines) → (file_reading_of source ≡ Reads file) ↔ IsAcceptedAlone source file
    file_exactly file = (
      λ reads.
          let all = all-none to_limits file_alone file (sym the-file_reading ∙ reads) in
          subst (IsAcceptedAlone source) all.1 (all-alone all.0),
      λ is.
          let same = (stands-source laws false 0 source file (alone-stands file is)).same in
          the-file_reading ∙ none-all to_limits file_alone (alone-all (subst (IsAcceptedAlone source) (sym same) is)) ∙ ap Reads same,
    )
