use Rattle.std.proofs.Common.{◌≡◌, ◌+◌, ◌++◌, ◌∷◌, map, drop, ap, sym, ◌∙◌, drop-cons, arith, rules}
use Rattle.yarn_tree.specs.Trees.{node_tree, file_tree}
use Rattle.yarn_meaning.specs.First.{nodes_from}
use Rattle.yarn_cli.proofs.StringsLemmas.{titles-more}
use Rattle.yarn_cli.proofs.strings.titles_of.Goals as goal

pub loop-file-preserved : goal.loop-file-preserved
loop-file-preserved c =
    let files = c.args.files.now in
    let index = c.loop-file.file-index in
    let file = c.file-item.result in
    let rest = drop (index + 1) files in
    let cut : drop index files ≡ file ∷ rest = grind (arith, drop-cons) in
    titles-more c.loop-file.titles c.push_titles.new.titles index (index + 1) file rest (omega arith)
    (c.in_ok-push_titles.ensures ∙ ap (λ ns. c.loop-file.titles ++ map (λ node. node.title) (map node_tree ns)) c.as_slice.ensures)
    ∙ sym (ap (λ fs. c.loop-file.titles ++ map (λ placed. placed.node.title) (nodes_from index (map file_tree fs))) cut)
    ∙ c.loop-file.invariant
