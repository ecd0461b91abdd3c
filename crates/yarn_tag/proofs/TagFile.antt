-- A tagged file is read: its lines are those of the file with ids, and they are within the limits.
use Rattle.std.proofs.Common.{◌≡◌, ◌≤◌, ℕ, suc, List, [], ◌∷◌, ◌++◌, length, map, nat_lt, Bool, true, false, cond, Option, Some, None, refl, sym, ap, ◌∙◌, subst, append-nil, arith}
use mathlib.Core.Path.{ap₂}
use Rattle.std.specs.List.{list_any, All}
use Rattle.std.proofs.lemmas.Bool.{ltb-false}
use Rattle.std.proofs.lemmas.List.Elements.{All-nil, All-cons, All-head, All-tail}
use Rattle.yarn_base.specs.declared.SourceFile.{SourceFile}
use Rattle.yarn_lines.specs.declared.line.RawLine.{RawLine}
use Rattle.yarn_lines.specs.Lines.{pieces_in, lines_of, mark_length, is_long}
use Rattle.yarn_lines.specs.Fault.{first_long}
use Rattle.yarn_expr.specs.declared.token.Token.{Token}
use Rattle.yarn_expr.specs.Literal.{is_fraction, is_large}
use Rattle.yarn_items.specs.declared.item.Mode.{Mode}
use Rattle.yarn_items.specs.declared.item.Mode.TheVariants.{InHeaders}
use Rattle.yarn_items.specs.declared.item.Item.{Item}
use Rattle.yarn_items.specs.Item.{IsItem}
use Rattle.yarn_items.specs.Laws.{ItemsAreFound, OneItem}
use Rattle.yarn_blocks.specs.Tree.{Stmts, deep_in, crowd_in}
use Rattle.yarn_blocks.specs.Block.{Block}
use Rattle.yarn_blocks.proofs.Viable.{one_block}
use Rattle.yarn_nodes.specs.declared.node.FileLines.{FileLines}
use Rattle.yarn_nodes.specs.declared.node.NodeLines.{NodeLines}
use Rattle.yarn_nodes.specs.Entries.{ItemAt}
use Rattle.yarn_nodes.specs.Finds.{next_mode, mode_behind, holes_in}
use Rattle.yarn_nodes.specs.Ids.{HasNoIds}
use Rattle.yarn_nodes.specs.Lines.{HasItem, IsItems, IsFile}
use Rattle.yarn_nodes.specs.Laws.{mode_past, NoLine, IsBlockBody, AreBlocks}
use Rattle.yarn_nodes.proofs.LinesLemmas.{item-found}
use Rattle.yarn_nodes.proofs.NotedLemmas.{mode-past}
use Rattle.yarn_tree.specs.Laws.{IsShort, ShowsNothing, nodes_of, AreFew, names_in, AreInLimits, IsAcceptedAlone}
use Rattle.yarn_tree.specs.Checks.{variables_in}
use Rattle.yarn_tree.specs.Uses.{UseAt, uses_within}
use Rattle.yarn_tree.specs.Trees.{grown_node}
use Rattle.yarn_tree.proofs.PieceLemmas.{none-good, short-good}
use Rattle.yarn_meaning.specs.Texts.{said_in_nodes}
use Rattle.yarn_tag.specs.declared.spoken.Spoken.{Spoken}
use Rattle.yarn_tag.specs.Tagged.{Becomes, lacks, spoken_of, spoken_in_nodes, too_long}
use Rattle.yarn_tag.specs.TagLaws.{SameNodes}
use Rattle.yarn_tag.proofs.TagEnds.{place-within}
use Rattle.yarn_tag.proofs.TagLines.{LinesPut, no_line, and_line, FileAgain, file-again}
use Rattle.yarn_tag.proofs.TagTree.{again_stmts, block-again, deep-again, crowd-again, body-uses}
use Rattle.yarn_tag.proofs.TagItems.{spoken_items, Marked, rising, marked, are-fine, item_with, put_on, item_again, mode-same, one-again, items-again, holes-same}
use Rattle.yarn_tag.proofs.TagNodes.{HaveBlocks, file-spoken, node_again, file_again, file-again as file-of-again, blocks-again, same-nodes, Told, told-items, each-told, none-lacks}

-- ---- lines that are fine

module _ (found : ItemsAreFound) (one : OneItem) (lacking : ℕ → Bool) (numbers : ℕ → ℕ) (Q : List Token → Item → Type 0)
    (kept : (tokens : List Token) (extra : List (List ℕ)) (own : Item) → Q tokens (item_with extra own) → Q tokens own) where
  abbrev Has : Mode → List ℕ → Type 0
  Has mode text = (tokens : List Token) × (own : Item) × (IsItem mode text tokens own × Q tokens own)

  past-item : (mode : Mode) (text : List ℕ) (own : Item) → HasItem mode text own → mode_past mode text ≡ next_mode mode own
  past-item mode text own has = sym (mode-past found mode text) ∙ ap (mode_behind mode) (item-found found mode text own has)

  one-fine : (mode : Mode) (a b : RawLine) (x : ItemAt) (tokens : List Token) → IsItem mode a.text tokens x.item →
      IsItem mode b.text tokens (item_with (put_on lacking numbers x.line) x.item) → (Has mode a.text → ⊥) → Has mode b.text → ⊥
  one-fine mode a b x tokens before after none h =
      let same = one mode b.text h.0 tokens h.1 (item_with (put_on lacking numbers x.line) x.item) h.2.0 after in
      let q : Q tokens (item_with (put_on lacking numbers x.line) x.item) =
      subst (λ (ts : List Token). Q ts (item_with (put_on lacking numbers x.line) x.item)) same.1 (subst (λ (i : Item). Q h.0 i) same.0 h.2.1) in
      none (tokens, x.item, (before, kept tokens (put_on lacking numbers x.line) x.item q))

  pub lines-fine : (mode : Mode) {lines others : List RawLine} (items : List ItemAt) → LinesPut lacking numbers lines others → IsItems mode lines items → Marked lacking items →
      NoLine Has mode lines → NoLine Has mode others
  lines-fine mode [] no_line is m none = tt
  lines-fine mode (x ∷ items) no_line is m none = absurd is
  lines-fine mode [] (and_line number indent text more) is m none = absurd is
  lines-fine mode (x ∷ items) (and_line {a} {b} {before} {after} number indent text more) is m none =
      let tokens = is.2.0 in
      let there = one-again lacking numbers mode a b.text x is.0 m.0 text tokens is.2.1 in
      let past_a : mode_past mode a.text ≡ next_mode mode x.item = past-item mode a.text x.item is.2 in
      let past_b : mode_past mode b.text ≡ next_mode mode (item_with (put_on lacking numbers x.line) x.item) = past-item mode b.text _ (tokens, there) in (
        one-fine mode a b x tokens is.2.1 there none.0,
        subst (λ (md : Mode). NoLine Has md after) (sym (past_b ∙ mode-same mode (put_on lacking numbers x.line) x.item))
            (lines-fine (next_mode mode x.item) items more is.3 m.1 (subst (λ (md : Mode). NoLine Has md before) past_a none.1)),
      )

-- ---- nodes within the limits

all-blocks : (nodes : List NodeLines) → All IsBlockBody nodes → HaveBlocks nodes
all-blocks [] all = tt
all-blocks (node ∷ nodes) all = (All-head IsBlockBody node nodes all, all-blocks nodes (All-tail IsBlockBody node nodes all))

blocks-all : (nodes : List NodeLines) → HaveBlocks nodes → All IsBlockBody nodes
blocks-all [] blocks = All-nil IsBlockBody
blocks-all (node ∷ nodes) blocks = All-cons IsBlockBody node nodes blocks.0 (blocks-all nodes blocks.1)

abbrev ShownNone : (Stmts → Option ℕ) → NodeLines → Type 0
ShownNone shows node = (b : Stmts) → Block node.body [] b → shows b ≡ None

module _ (extra : ℕ → List (List ℕ)) where
  shown-again : (shows : Stmts → Option ℕ) → ((b : Stmts) → shows (again_stmts extra b) ≡ shows b) → (nodes : List NodeLines) → HaveBlocks nodes →
      All (ShownNone shows) nodes → All (ShownNone shows) (map (node_again extra) nodes)
  shown-again shows same [] blocks all = All-nil (ShownNone shows)
  shown-again shows same (node ∷ nodes) blocks all =
      All-cons (ShownNone shows) (node_again extra node) (map (node_again extra) nodes)
      (λ b block.
      ap shows (one_block block (block-again extra blocks.0.1)) ∙ same blocks.0.0 ∙ All-head (ShownNone shows) node nodes all blocks.0.0 blocks.0.1)
      (shown-again shows same nodes blocks.1 (All-tail (ShownNone shows) node nodes all))

  length-again : (nodes : List NodeLines) → length (map (node_again extra) nodes) ≡ length nodes
  length-again [] = refl
  length-again (node ∷ nodes) = ap suc (length-again nodes)

  uses-again : (file : ℕ) (nodes : List NodeLines) → uses_within file (map (node_again extra) nodes) ≡ uses_within file nodes
  uses-again file [] = refl
  uses-again file (node ∷ nodes) = ap₂ (λ (a b : List UseAt). a ++ b) (body-uses extra file node.body) (uses-again file nodes)

  pub limits-again : (name : List ℕ) (file : FileLines) → AreInLimits (file ∷ []) → AreInLimits (file_again extra name file ∷ [])
  limits-again name file is = record {
    blocks = All-cons AreBlocks (file_again extra name file) [] (blocks-all (map (node_again extra) file.nodes) (blocks-again extra file.nodes blocks)) (All-nil AreBlocks);
    shallow = all_shown (deep_in 0) (deep-again extra 0) is.shallow;
    small = all_shown crowd_in (crowd-again extra) is.small;
    few_nodes = few;
    few_variables = subst (λ (us : List UseAt). AreFew 65536 (names_in (variables_in us))) (ap (λ (us : List UseAt). us ++ []) (sym (uses-again 0 file.nodes))) is.few_variables;
  }
    where
      blocks : HaveBlocks file.nodes
      blocks = all-blocks file.nodes (All-head AreBlocks file [] is.blocks)

      all_shown : (shows : Stmts → Option ℕ) → ((b : Stmts) → shows (again_stmts extra b) ≡ shows b) → ShowsNothing shows (nodes_of (file ∷ [])) →
          ShowsNothing shows (nodes_of (file_again extra name file ∷ []))
      all_shown shows same all =
          subst (λ (ns : List NodeLines). All (ShownNone shows) ns) (sym (append-nil (map (node_again extra) file.nodes)))
          (shown-again shows same file.nodes blocks (subst (λ (ns : List NodeLines). All (ShownNone shows) ns) (append-nil file.nodes) all))

      few : length (nodes_of (file_again extra name file ∷ [])) ≤ 65536
      few =
          let a = is.few_nodes in
          let b : length (nodes_of (file_again extra name file ∷ [])) ≡ length (nodes_of (file ∷ [])) =
          ap length (append-nil (map (node_again extra) file.nodes)) ∙ length-again file.nodes ∙ ap length (sym (append-nil file.nodes)) in
          omega (arith, a, b)

-- ---- the file

not_none : (n : ℕ) (o : Option ℕ) → o ≡ None → o ≡ Some n → ⊥
not_none n o none some = absurd cc

short-enough : (bytes : List ℕ) → too_long bytes ≡ None → (length bytes ≤ 4194304) × (first_long bytes ≡ None)
short-enough bytes is = of (nat_lt 4194304 (length bytes)) refl
  where
    of : (t : Bool) → nat_lt 4194304 (length bytes) ≡ t → (length bytes ≤ 4194304) × (first_long bytes ≡ None)
    of true t = absurd (not_none 0 (too_long bytes) is (ap (λ (b : Bool). cond b (Some 0) (first_long bytes)) t))
    of false t = (ltb-false 4194304 (length bytes) t, ap (λ (b : Bool). cond b (Some 0) (first_long bytes)) (sym t) ∙ is)

-- what a tagged file is
pub record IsTaggedFile (again : SourceFile) (lines : FileLines) : Type 0 where
  pub lines_again : FileLines
  pub accepted : IsAcceptedAlone again lines_again
  pub name : lines_again.name ≡ again.name
  pub tags : lines_again.tags ≡ lines.tags
  pub same : SameNodes (map grown_node lines.nodes) (map grown_node lines_again.nodes)
  pub none_lack : (k : ℕ) → lacks (spoken_in_nodes (map grown_node lines_again.nodes)) k ≡ false

pub tagged-file : ItemsAreFound → OneItem → (file again : SourceFile) (lines : FileLines) (taken : List ℕ → Bool) (start : ℕ) → IsAcceptedAlone file lines →
    Becomes file.bytes (lacks (spoken_in_nodes (map grown_node lines.nodes))) taken start 0 (lines_of file.bytes).lines again.bytes → too_long again.bytes ≡ None →
    IsTaggedFile again lines
tagged-file found one file again lines taken start is becomes short = record {
  lines_again = new;
  accepted = record {
    light = small.0;
    has = record {
      named = refl;
      items = items_with;
      readable = (put_lines.utf8, none-good is_long IsShort short-good 1 (pieces_in again.bytes) small.1);
      has_items = items-again lacking numbers InHeaders items put_lines.lines is.has.has_items marks;
      is_file = is_file;
    };
    fine = record {
      holes = lines-fine found one lacking numbers (λ ts i. nat_lt 16 (length (holes_in i)) ≡ true)
          (λ ts e i h. ap (λ hs. nat_lt 16 (length hs)) (sym (holes-same e i)) ∙ h) InHeaders items put_lines.lines is.has.has_items marks is.fine.holes;
      fractions = lines-fine found one lacking numbers (λ ts i. list_any is_fraction ts ≡ true) (λ ts e i h. h) InHeaders items put_lines.lines is.has.has_items marks is.fine.fractions;
      large = lines-fine found one lacking numbers (λ ts i. list_any is_large ts ≡ true) (λ ts e i h. h) InHeaders items put_lines.lines is.has.has_items marks is.fine.large;
    };
    limits = limits-again extra again.name lines is.limits;
  };
  name = refl;
  tags = refl;
  same = same-nodes extra lines.nodes blocks (each-told lacking numbers (said_in_nodes (map grown_node lines.nodes)) told);
  none_lack = λ k. ap (λ said. lacks said k) (file-spoken items_with new is_file (blocks-again extra lines.nodes blocks)) ∙ none-lacks lacking numbers items marks k;
}
  where
    items : List ItemAt
    items = is.has.items

    blocks : HaveBlocks lines.nodes
    blocks = all-blocks lines.nodes (All-head AreBlocks lines [] is.limits.blocks)

    lacking : ℕ → Bool
    lacking = lacks (spoken_in_nodes (map grown_node lines.nodes))

    spoken : spoken_in_nodes (map grown_node lines.nodes) ≡ spoken_items items
    spoken = file-spoken items lines is.has.is_file blocks

    marks : Marked lacking items
    marks =
        marked lacking InHeaders 1 (lines_of file.bytes).lines items (rising 1 (mark_length file.bytes) (pieces_in file.bytes)) is.has.has_items
        (λ j from. ap (λ said. lacks said j) spoken)

    put_lines : FileAgain lacking file.bytes again.bytes
    put_lines =
        file-again file.bytes again.bytes lacking taken start place-within is.has.readable.0
        (are-fine lacking InHeaders 1 (mark_length file.bytes) (pieces_in file.bytes) items is.has.has_items marks) becomes

    numbers : ℕ → ℕ
    numbers = put_lines.numbers

    extra : ℕ → List (List ℕ)
    extra = put_on lacking numbers

    new : FileLines
    new = file_again extra again.name lines

    items_with : List ItemAt
    items_with = map (item_again extra) items

    is_file : IsFile HasNoIds items_with new
    is_file = file-of-again extra again.name items lines is.has.is_file

    small : (length again.bytes ≤ 4194304) × (first_long again.bytes ≡ None)
    small = short-enough again.bytes short

    told : Told lacking (map spoken_of (said_in_nodes (map grown_node lines.nodes)))
    told = subst (λ (said : List Spoken). Told lacking said) (sym spoken) (told-items lacking items marks)
