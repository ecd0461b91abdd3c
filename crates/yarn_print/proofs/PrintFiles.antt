-- The file that a printed file stands for: the tree that was printed, with other numbers of lines.
use Rattle.std.proofs.Common.{◌≡◌, ℕ, suc, ◌+◌, List, [], ◌∷◌, ◌++◌, length, map, false, codes, refl, sym, ap, subst, ◌∙◌, append_assoc, IsUtf8, arith}
use Rattle.std.specs.List.{All}
use mathlib.Core.Path.{ap₂}
use Rattle.yarn_lines.specs.Lines.{begins_with, pieces_of, pieces_in, lines_from, lines_of}
use Rattle.yarn_items.specs.declared.item.Mode.TheVariants.{InHeaders, InBody}
use Rattle.yarn_items.specs.declared.item.Header.{Header}
use Rattle.yarn_items.specs.declared.item.Item.TheVariants as item
use Rattle.yarn_blocks.specs.declared.entry.Entry.{Entry}
use Rattle.yarn_blocks.specs.Tree.{Stmts}
use Rattle.yarn_blocks.specs.Block.{Block}
use Rattle.yarn_blocks.specs.Layout.{laid, stmts_without_lines}
use Rattle.yarn_blocks.specs.LayoutLaws.{what_in}
use Rattle.yarn_blocks.specs.View.{stmts_of}
use Rattle.yarn_blocks.proofs.Laid.{laid_stands, laid_keeps_lines}
use Rattle.yarn_blocks.proofs.Renumber.{lines_tell_nothing}
use Rattle.yarn_nodes.specs.declared.node.NodeLines.{NodeLines}
use Rattle.yarn_nodes.specs.Entries.{ItemAt}
use Rattle.yarn_nodes.specs.Finds.{next_mode}
use Rattle.yarn_nodes.specs.Ids.{HasNoIds}
use Rattle.yarn_nodes.specs.Lines.{IsItems, AreTags, no_tag, next_tag, AreHeaders, no_header, next_header, title_in, IsNode, AreNodes, no_node, first_node, IsFile}
use Rattle.yarn_tree.specs.declared.tree.Node.{Node}
use Rattle.yarn_tree.specs.declared.tree.File.{File}
use Rattle.yarn_tree.specs.Project.{IsNodeOf, AreNodesOf, StandsFor}
use Rattle.yarn_print.specs.Print.{ended, header_line, headers_text, node_text, file_tag_line, file_tags_text, nodes_text, print_of}
use Rattle.yarn_print.specs.PrintLaws.{LinesPrinted, PrintedAlone, IsSameNode, AreSameNodes, SameButLines, PrintedStands}
use Rattle.yarn_print.proofs.PrintAgain.{stmts_again, stmts_view}
use Rattle.yarn_print.proofs.PrintHeads.{printed-begins, printed-ends, printed-tag, printed-header}
use Rattle.yarn_print.proofs.PrintCut.{HasText, HaveTexts, have-texts, Line, piece_of, text_in, text-append, Fine, no_line, one_line, fine-append, pieces-in, utf8-lines, numbered, again-items, mark, no_mark_in, pieces_in-plain, lines_of-plain}
use Rattle.yarn_print.proofs.PrintBodies.{AreWhats, are-whats, placed, placed-same, body_lines, body-text, entries-on, no-ids, body-texts, body-fine}

number-append : (number : ℕ) (xs ys : List Line) → numbered number (xs ++ ys) ≡ numbered number xs ++ numbered (number + length xs) ys
number-append number [] ys = let e : number + 0 ≡ number = omega arith in rw e refl
number-append number (l ∷ xs) ys =
    let e : number + 1 + length xs ≡ number + suc (length xs) = omega arith in
    ap (λ m. record { line = number; indent = l.indent; item = l.item } ∷ m) (number-append (number + 1) xs ys ∙ ap (λ n. numbered (number + 1) xs ++ numbered n ys) e)

-- ---- hashtags of the file

abbrev tag_lines : List (List ℕ) → List Line
tag_lines [] = []
tag_lines (t ∷ tags) = record { indent = 0; text = file_tag_line t; item = item.FileTag t } ∷ tag_lines tags

tags-text : (tags : List (List ℕ)) → text_in (tag_lines tags) ≡ file_tags_text tags
tags-text [] = refl
tags-text (t ∷ tags) = ap (λ l. ended (file_tag_line t) ++ l) (tags-text tags)

tags-at : (number : ℕ) (tags : List (List ℕ)) → AreTags (numbered number (tag_lines tags)) tags
tags-at number [] = no_tag
tags-at number (t ∷ tags) = next_tag refl (tags-at (number + 1) tags)

tags-fine : {xs : List ItemAt} {tags : List (List ℕ)} → AreTags xs tags → (rest : List ItemAt) → HaveTexts InHeaders (xs ++ rest) →
    Fine InHeaders (tag_lines tags) InHeaders × HaveTexts InHeaders rest
tags-fine no_tag rest have = (no_line, have)
tags-fine (next_tag {x = x} {xs = xs} {t = t} is later) rest have =
    let h = subst (λ i. HasText InHeaders i × HaveTexts (next_mode InHeaders i) (xs ++ rest)) is have in
    let more = tags-fine later rest h.1 in
    (one_line (printed-tag h.0.text t h.0.printed.alone h.0.printed.has) more.0, more.1)

-- ---- headers

abbrev header_lines : List Header → List Line
header_lines [] = []
header_lines (h ∷ headers) = record { indent = 0; text = header_line h; item = item.Header h } ∷ header_lines headers

headers-text : (headers : List Header) → text_in (header_lines headers) ≡ headers_text headers
headers-text [] = refl
headers-text (h ∷ headers) = ap (λ l. ended (header_line h) ++ l) (headers-text headers)

headers-at : (number : ℕ) (headers : List Header) → AreHeaders (numbered number (header_lines headers)) headers
headers-at number [] = no_header
headers-at number (h ∷ headers) = next_header refl (headers-at (number + 1) headers)

headers-fine : {xs : List ItemAt} {headers : List Header} → AreHeaders xs headers → (rest : List ItemAt) → HaveTexts InHeaders (xs ++ rest) →
    Fine InHeaders (header_lines headers) InHeaders × HaveTexts InHeaders rest
headers-fine no_header rest have = (no_line, have)
headers-fine (next_header {x = x} {xs = xs} {h = own} is later) rest have =
    let h = subst (λ i. HasText InHeaders i × HaveTexts (next_mode InHeaders i) (xs ++ rest)) is have in
    let more = headers-fine later rest h.1 in
    (one_line (printed-header h.0.text own h.0.printed.alone h.0.printed.has) more.0, more.1)

-- ---- nodes

abbrev begin_line : Line
begin_line = record { indent = 0; text = codes "---"; item = item.BodyBegins }

abbrev end_line : Line
end_line = record { indent = 0; text = codes "==="; item = item.NodeEnds }

abbrev node_lines : List Header → List Entry → List ItemAt → List Line
node_lines headers entries inner = header_lines headers ++ (begin_line ∷ (body_lines entries inner ++ end_line ∷ []))

-- the printed lines of a node, on the lines from that number on, are a node, which stands for the same tree
record NodeAt (number : ℕ) (lines : List Line) (tree : Node) : Type 0 where
  node : NodeLines
  again : Node
  is_node : IsNode HasNoIds (numbered number lines) node
  is : IsNodeOf node again
  same : IsSameNode tree again

record NodeAgain (tree : Node) (rest : List ItemAt) : Type 0 where
  lines : List Line
  text : text_in lines ≡ node_text tree
  fine : Fine InHeaders lines InHeaders
  at : (number : ℕ) → NodeAt number lines tree
  left : HaveTexts InHeaders rest

node-text : (tree : Node) (inner : List ItemAt) → AreWhats inner (map what_in (laid 0 (stmts_of tree.body))) →
    text_in (node_lines tree.headers (laid 0 (stmts_of tree.body)) inner) ≡ node_text tree
node-text tree inner are =
    text-append (header_lines tree.headers) (begin_line ∷ (body_lines entries inner ++ end_line ∷ []))
    ∙ ap₂ (λ h l. h ++ (ended (codes "---") ++ l)) (headers-text tree.headers)
    (text-append (body_lines entries inner) (end_line ∷ []) ∙ ap (λ l. l ++ ended (codes "===")) (body-text entries inner are))
  where
    entries : List Entry
    entries = laid 0 (stmts_of tree.body)

node-at : (node : NodeLines) (tree : Node) (items inner : List ItemAt) → IsNode HasNoIds items node → IsNodeOf node tree →
    AreWhats inner (map what_in (laid 0 (stmts_of tree.body))) → (number : ℕ) → NodeAt number (node_lines tree.headers (laid 0 (stmts_of tree.body)) inner) tree
node-at node tree items inner is_node is are number = of (lines_tell_nothing entries (placed (first + 1) entries) stmts (placed-same (first + 1) entries) (laid_stands node.body stmts 0 is.body))
  where
    stmts : Stmts
    stmts = stmts_of tree.body

    entries : List Entry
    entries = laid 0 stmts

    first : ℕ
    first = number + length (header_lines tree.headers)

    last : ℕ
    last = first + 1 + length (body_lines entries inner)

    of : (c : Stmts) × (Block (placed (first + 1) entries) [] c × (stmts_without_lines stmts ≡ stmts_without_lines c)) → NodeAt number (node_lines tree.headers entries inner) tree
    of found = record {
      node = record { title = node.title; headers = tree.headers; line = first; end_line = last; body = placed (first + 1) entries };
      again = record { title = tree.title; headers = tree.headers; line = first; end_line = last; body = stmts_again found.0 };
      is_node = record {
        headers = numbered number (header_lines tree.headers);
        begins = record { line = first; indent = 0; item = item.BodyBegins };
        inner = numbered (first + 1) (body_lines entries inner);
        ends = record { line = last; indent = 0; item = item.NodeEnds };
        cut =
            number-append number (header_lines tree.headers) (begin_line ∷ (body_lines entries inner ++ end_line ∷ []))
            ∙ ap (λ l. numbered number (header_lines tree.headers) ++ (record { line = first; indent = 0; item = item.BodyBegins } ∷ l)) (number-append (first + 1) (body_lines entries inner) (end_line ∷ []));
        headed = headers-at number tree.headers;
        title = subst (λ (h : List Header). node.title ≡ title_in h) (sym is.headers) is_node.title;
        begun = (refl, refl);
        body = entries-on (first + 1) entries inner are;
        ids = no-ids node.title (first + 1) entries inner are;
        ended = (refl, refl);
      };
      is = record {
        title = is.title;
        headers = refl;
        line = refl;
        end_line = refl;
        body = subst (Block (placed (first + 1) entries) []) (sym (stmts_view found.0)) found.1.0;
      };
      same = record { title = refl; headers = refl; body = found.1.1 ∙ ap stmts_without_lines (sym (stmts_view found.0)) };
    }

node-again : LinesPrinted → PrintedAlone → (items rest : List ItemAt) (node : NodeLines) (tree : Node) → IsNode HasNoIds items node → IsNodeOf node tree →
    HaveTexts InHeaders (items ++ rest) → NodeAgain tree rest
node-again printed alone items rest node tree is_node is have = record {
  lines = node_lines tree.headers entries is_node.inner;
  text = node-text tree is_node.inner are;
  fine = fine-append (subst (λ h. Fine InHeaders (header_lines h) InHeaders) (sym is.headers) headed.0)
      (one_line printed-begins (fine-append (body-fine printed alone entries is_node.inner are inner.0) (one_line printed-ends no_line)));
  at = node-at node tree items is_node.inner is_node is are;
  left = (subst (λ i. HaveTexts (next_mode InBody i) rest) is_node.ended.0 inner.1.1);
}
  where
    entries : List Entry
    entries = laid 0 (stmts_of tree.body)

    whats : AreWhats is_node.inner (map what_in node.body)
    whats = are-whats node.title is_node.inner node.body is_node.body is_node.ids

    are : AreWhats is_node.inner (map what_in entries)
    are = subst (AreWhats is_node.inner) (sym (laid_keeps_lines node.body (stmts_of tree.body) 0 is.body)) whats

    behind : List ItemAt
    behind = is_node.begins ∷ (is_node.inner ++ is_node.ends ∷ [])

    whole : HaveTexts InHeaders (is_node.headers ++ (behind ++ rest))
    whole = subst (HaveTexts InHeaders) (ap (λ l. l ++ rest) is_node.cut ∙ append_assoc is_node.headers behind rest) have

    headed : Fine InHeaders (header_lines node.headers) InHeaders × HaveTexts InHeaders (behind ++ rest)
    headed = headers-fine is_node.headed (behind ++ rest) whole

    body : HaveTexts InBody ((is_node.inner ++ is_node.ends ∷ []) ++ rest)
    body = subst (λ i. HaveTexts (next_mode InHeaders i) ((is_node.inner ++ is_node.ends ∷ []) ++ rest)) is_node.begun.0 headed.1.1

    inner : HaveTexts InBody is_node.inner × HaveTexts InBody (is_node.ends ∷ rest)
    inner = body-texts is_node.inner (is_node.ends ∷ rest) (map what_in node.body) whats (subst (HaveTexts InBody) (append_assoc is_node.inner (is_node.ends ∷ []) rest) body)

record NodesAt (number : ℕ) (lines : List Line) (trees : List Node) : Type 0 where
  nodes : List NodeLines
  again : List Node
  are_nodes : AreNodes HasNoIds (numbered number lines) nodes
  are : AreNodesOf nodes again
  same : AreSameNodes trees again

record NodesAgain (trees : List Node) : Type 0 where
  lines : List Line
  text : text_in lines ≡ nodes_text trees
  fine : Fine InHeaders lines InHeaders
  at : (number : ℕ) → NodesAt number lines trees

nodes-again : LinesPrinted → PrintedAlone → {items : List ItemAt} {nodes : List NodeLines} → AreNodes HasNoIds items nodes → (trees : List Node) → AreNodesOf nodes trees →
    HaveTexts InHeaders items → NodesAgain trees
nodes-again printed alone no_node [] are have = record {
  lines = [];
  text = refl;
  fine = no_line;
  at = λ number. record { nodes = []; again = []; are_nodes = no_node; are = tt; same = tt };
}
nodes-again printed alone no_node (tree ∷ trees) are have = absurd are
nodes-again printed alone (first_node is later) [] are have = absurd are
nodes-again printed alone (first_node {items = items} {rest = rest} {node = node} is later) (tree ∷ trees) are have =
    of (node-again printed alone items rest node tree is are.0 have) (λ left. nodes-again printed alone later trees are.1 left)
  where
    both : (one : NodeAgain tree rest) (more : NodesAgain trees) (number : ℕ) → NodeAt number one.lines tree → NodesAt (number + length one.lines) more.lines trees →
        NodesAt number (one.lines ++ more.lines) (tree ∷ trees)
    both one more number first others = record {
      nodes = first.node ∷ others.nodes;
      again = first.again ∷ others.again;
      are_nodes = subst (λ l. AreNodes HasNoIds l (first.node ∷ others.nodes)) (sym (number-append number one.lines more.lines)) (first_node first.is_node others.are_nodes);
      are = (first.is, others.are);
      same = (first.same, others.same);
    }

    join : NodeAgain tree rest → NodesAgain trees → NodesAgain (tree ∷ trees)
    join one more = record {
      lines = one.lines ++ more.lines;
      text = text-append one.lines more.lines ∙ ap₂ (λ a b. a ++ b) one.text more.text;
      fine = fine-append one.fine more.fine;
      at = λ number. both one more number (one.at number) (more.at (number + length one.lines));
    }

    of : NodeAgain tree rest → (HaveTexts InHeaders rest → NodesAgain trees) → NodesAgain (tree ∷ trees)
    of one more = join one (more one.left)

-- ---- the law

pub printed_stands_law : LinesPrinted → PrintedAlone → PrintedStands
unfolding print_of
printed_stands_law printed_lines alone source printed file stands name bytes short = of (nodes.at (1 + length (tag_lines file.tags)))
  where
    items : List ItemAt
    items = stands.has.items

    is_file : IsFile HasNoIds items stands.lines
    is_file = stands.has.is_file

    have : HaveTexts InHeaders (is_file.front ++ is_file.rest)
    have = subst (HaveTexts InHeaders) is_file.cut (have-texts source.bytes items stands.has.readable.0 stands.has.has_items)

    tagged : Fine InHeaders (tag_lines stands.lines.tags) InHeaders × HaveTexts InHeaders is_file.rest
    tagged = tags-fine is_file.tagged is_file.rest have

    nodes : NodesAgain file.nodes
    nodes = nodes-again printed_lines alone is_file.are_nodes file.nodes stands.is.nodes tagged.1

    lines : List Line
    lines = tag_lines file.tags ++ nodes.lines

    fine : Fine InHeaders lines InHeaders
    fine = fine-append (subst (λ t. Fine InHeaders (tag_lines t) InHeaders) (sym stands.is.tags) tagged.0) nodes.fine

    text : printed.bytes ≡ text_in lines
    text = bytes ∙ sym (text-append (tag_lines file.tags) nodes.lines ∙ ap₂ (λ a b. a ++ b) (tags-text file.tags) nodes.text)

    plain : begins_with mark printed.bytes ≡ false
    plain = ap (begins_with mark) text ∙ no_mark_in fine

    cut : pieces_of printed.bytes ≡ map piece_of lines
    cut = ap pieces_of text ∙ pieces-in fine

    pieces : pieces_in printed.bytes ≡ map piece_of lines
    pieces = pieces_in-plain printed.bytes plain ∙ cut

    utf8 : All IsUtf8 (pieces_in printed.bytes)
    utf8 = subst (λ (l : List (List ℕ)). All IsUtf8 l) (sym pieces) (utf8-lines fine)

    has_items : IsItems InHeaders (lines_of printed.bytes).lines (numbered 1 lines)
    has_items = subst (λ l. IsItems InHeaders l (numbered 1 lines)) (sym (lines_of-plain printed.bytes plain ∙ ap (lines_from 1 0) cut)) (again-items fine 1 0)

    of : NodesAt (1 + length (tag_lines file.tags)) nodes.lines file.nodes → (again : File) × (StandsFor HasNoIds printed again × SameButLines file again)
    of at = (
      record { name = file.name; tags = file.tags; nodes = at.again },
      (
        record {
          lines = record { name = file.name; tags = file.tags; nodes = at.nodes };
          has = record {
            named = stands.is.name ∙ stands.has.named ∙ sym name;
            items = numbered 1 lines;
            readable = (utf8, short);
            has_items = has_items;
            is_file = record {
              front = numbered 1 (tag_lines file.tags);
              rest = numbered (1 + length (tag_lines file.tags)) nodes.lines;
              cut = number-append 1 (tag_lines file.tags) nodes.lines;
              tagged = tags-at 1 file.tags;
              are_nodes = at.are_nodes;
            };
          };
          is = record { name = refl; tags = refl; nodes = at.are };
        },
        record { name = refl; tags = refl; nodes = at.same },
      ),
    )
