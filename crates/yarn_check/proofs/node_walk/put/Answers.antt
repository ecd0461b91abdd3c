use Rattle.std.proofs.Common.{◌≡◌, arith, get_or}
use Rattle.yarn_check.specs.Views.{stack_of, coming_of}
use Rattle.yarn_check.proofs.CellLists.{put_is, put_far, put_back}
use Rattle.yarn_check.proofs.node_walk.put.Goals as goal
use Rattle.yarn_check.proofs.node_walk.put.Goals.{else-place-to-via-then-place-to+else-to-len, else-place-to-via-else-place-to}

pub returns-then-to-len-clause-whole : goal.returns-then-to-len-clause-whole
returns-then-to-len-clause-whole c =
    let f = put_is coming_of c.args.cells.now.items c.args.place c.args.goal.place (stack_of c.args.goal.stack.value) in
    let is : c.replace-came.result ≡ get_or c.args.cells.now.items c.args.goal.place c.replace-came.result = rw c.replace-came.ensures.value c.index_mut.ensures.value in
    f c.replace-came.new.dest c.replace-came.result c.and.result c.if-place-to.true (omega (arith, c.if-to-len.true, c.len.ensures)) is c.and.ensures

pub returns-else-place-to-clause-whole : goal.returns-else-place-to-clause-whole
returns-else-place-to-clause-whole c =
    let far = put_far coming_of c.args.cells.now.items c.args.place c.args.goal.place (stack_of c.args.goal.stack.value) in
    let back = put_back coming_of c.args.cells.now.items c.args.place c.args.goal.place (stack_of c.args.goal.stack.value) in
    elim c.else-place-to.branch [ else-place-to-via-then-place-to+else-to-len w ↦ far (omega (arith, w.if-to-len.false, w.len.ensures)) | else-place-to-via-else-place-to w ↦ back w.if-place-to.false ]
