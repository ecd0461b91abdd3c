use Rattle.std.proofs.Common.{◌≡◌, ◌∙◌, sym, ap, ◌+◌, get_or, map, set, drop}
use Rattle.std.proofs.lemmas.List.{map-set}
use Rattle.yarn_check.specs.declared.coming.Coming.TheVariants as coming
use Rattle.yarn_check.specs.Views.{coming_of, cells_of}
use Rattle.yarn_check.specs.Pass.{Nothing}
use Rattle.yarn_check.proofs.Alike.{came_at, set_before}
use Rattle.yarn_check.proofs.node_walk.take_out.Goals as goal

pub returns-clause-came : goal.returns-clause-came
returns-clause-came c =
    let old = c.args.cells.now.items in
    let is : c.replace.result ≡ get_or old c.args.place c.replace.result = rw c.replace.ensures.value c.index_mut.ensures.value in
    came_at old c.args.place c.replace.result c.requires is

pub returns-clause-left : goal.returns-clause-left
returns-clause-left c =
    let old = c.args.cells.now.items in
    ap (drop (c.args.place + 1)) (map-set coming_of old c.args.place c.replace.new.dest) ∙ set_before (cells_of old) c.args.place (coming_of c.replace.new.dest)
