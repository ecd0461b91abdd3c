use Rattle.std.proofs.Common.{◌≡◌, ℕ, List, Option, Some, None, map, ap, sym, ◌∙◌}
use Rattle.yarn_meaning.specs.First.{Placed, find}
use Rattle.yarn_tree.specs.Trees.{file_tree}
use Rattle.yarn_tree.specs.declared.tree.File.{File}
use Rattle.yarn_walker.specs.Titles.{placed}
use Rattle.yarn_walker.specs.declared.titles.Titles.{Titles}
use Rattle.yarn_cli.specs.Command.{start_of}
use Rattle.yarn_cli.specs.Messages.{no_node}
use Rattle.yarn_cli.specs.Playing.{vars_seen}
use Rattle.yarn_cli.proofs.PlayLemmas.{start-ends, found-ends, walk-begins}
use Rattle.yarn_cli.proofs.play.typed_walk.Goals as goal

-- the node of the start title is that of the map
there : (start title : List ℕ) (files all : List File) (found : Option Placed) → found ≡ find title (map file_tree files) → title ≡ start → files ≡ all →
    find start (map file_tree all) ≡ found
there start title files all found is same same_files =
    sym (is ∙ ap (λ (t : List ℕ). find t (map file_tree files)) same ∙ ap (λ (fs : List File). find start (map file_tree fs)) same_files)

pub returns-in_default-find-clause-goes_on : goal.returns-in_default-find-clause-goes_on
returns-in_default-find-clause-goes_on c =
    let command = c.args.command.now in
    let files = map file_tree c.args.files.now in
    start-ends command files c.args.typing.now.entries (find (start_of command) files) (vars_seen c.args.vars) c.unknown_start.result
    (there (start_of command) c.in-Ok.start c.in-Ok-new.titles.files.now c.args.files.now None c.in_default-find.ensures c.in-Ok.ensures c.in-Ok-new.ensures.files)
    c.unknown_start.ensures.cases (λ is. c.unknown_start.ensures.line is ∙ ap no_node (c.as_str.ensures.value ∙ c.in-Ok.ensures))

pub returns-in-Ok-store_of-clause-goes_on : goal.returns-in-Ok-store_of-clause-goes_on
returns-in-Ok-store_of-clause-goes_on c =
    let command = c.args.command.now in
    let files = map file_tree c.args.files.now in
    let walk = c.new-in-Ok-store_of in
    walk-begins command files c.args.typing.now.entries (vars_seen c.args.vars) walk.result c.in-Some.node c.in-Ok-store_of.store
    (ap (λ (t : Titles). map file_tree t.files.now) walk.ensures.titles ∙ ap (map file_tree) c.in-Ok-new.ensures.files) walk.ensures.seat walk.ensures.store
    (there (start_of command) c.in-Ok.start c.in-Ok-new.titles.files.now c.args.files.now (Some (placed c.in-Some.node)) c.in-Some.ensures c.in-Ok.ensures c.in-Ok-new.ensures.files)
    (c.in-Ok-store_of.ensures command)

pub returns-clause-goes_on : goal.returns-clause-goes_on
returns-clause-goes_on c =
    let command = c.args.command.now in
    let files = map file_tree c.args.files.now in
    found-ends command files c.args.typing.now.entries (find (start_of command) files) (placed c.in-Some.node) (vars_seen c.args.vars) c.in-Err.ended
    (there (start_of command) c.in-Ok.start c.in-Ok-new.titles.files.now c.args.files.now (Some (placed c.in-Some.node)) c.in-Some.ensures c.in-Ok.ensures c.in-Ok-new.ensures.files)
    (c.in-Err.ensures command)
