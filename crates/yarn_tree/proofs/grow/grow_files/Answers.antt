use Rattle.std.proofs.Common.{sym, subst}
use Rattle.yarn_tree.proofs.GrowLemmas.{FilesGrow, files_begin, files_grow}
use Rattle.yarn_tree.proofs.grow.grow_files.Goals as goal

pub loop-read-init : goal.loop-read-init
loop-read-init c =
    subst (λ rest. FilesGrow c.args.reads rest c.new-files.result.items) (sym c.into_iter-read-iterator.ensures.into_iter_gives.0)
    (subst (λ rest. FilesGrow c.args.reads rest c.new-files.result.items) (sym c.into_vec-read-items.ensures)
    (subst (λ files. FilesGrow c.args.reads c.args.reads files) (sym c.new-files.ensures.items) (files_begin c.args.reads c.requires)))

pub loop-read-preserved : goal.loop-read-preserved
loop-read-preserved c =
    files_grow c.args.reads c.next.new.self.rest.items c.loop-read.files.items c.push.new.self.items c.in-Some.read c.in_ok-grow_file.field-0
    (subst (λ rest. FilesGrow c.args.reads rest c.loop-read.files.items) c.in-Some.ensures.steps.0 c.loop-read.invariant)
    c.in_ok-grow_file.ensures c.in_ok-push.ensures.items
