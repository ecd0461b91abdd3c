use Rattle.std.proofs.Common.{◌≡◌, ◌+◌, ◌++◌, ◌∷◌, map, drop, ap, sym, ◌∙◌, drop-cons, arith, rules}
use Rattle.yarn_tree.specs.Trees.{file_tree}
use Rattle.yarn_meaning.specs.First.{nodes_from}
use Rattle.yarn_ids.specs.Base.{rows_from}
use Rattle.yarn_ids.proofs.BaseLemmas.{files_more}
use Rattle.yarn_ids.proofs.base.base_of.Goals as goal

pub loop-own-preserved : goal.loop-own-preserved
loop-own-preserved c =
    let files = c.args.project.now.files in
    let index = c.loop-own.own-index in
    let own = c.own-item.result in
    let rest = drop (index + 1) files in
    let cut : drop index files ≡ own ∷ rest = grind (arith, drop-cons) in
    files_more c.loop-own.node c.in_ok-node.node c.loop-own.file c.in_ok-file.file own rest c.loop-own.rows.items c.push_nodes.new.rows.items
    (grind (arith, c.in_ok-node.ensures.place)) (search rules) (grind (arith, c.in_ok-node.ensures.rows))
    ∙ sym (ap (λ fs. c.loop-own.rows.items ++ rows_from c.loop-own.node (nodes_from c.loop-own.file (map file_tree fs))) cut)
    ∙ c.loop-own.invariant
