use Rattle.std.proofs.Common.{◌≡◌, ◌++◌, subst}
use Rattle.yarn_code.specs.Format.{U32, number_bytes}
use Rattle.std.proofs.Common.{length, ◌<◌}
use Rattle.yarn_code.specs.Layout.{file_name}
use Rattle.yarn_code.proofs.WritingLemmas.{HasWritten-next, HasWritten-end, item_here, many_written}
use Rattle.yarn_code.proofs.EncodingLemmas.{file_written, item_of}
use Rattle.yarn_code.proofs.encoding.put_files.Goals as goal

pub loop-file-preserved : goal.loop-file-preserved
loop-file-preserved c =
    HasWritten-next file_name c.args.files.now c.as_slice-file-items.result.now c.loop-file.file-index c.file-item.result c.put_count.new.out c.loop-file.out c.put_text.new.out
    c.as_slice-file-items.ensures c.loop-file-test.true c.file-item.is c.loop-file.invariant
    (file_written c.file-item.result c.loop-file.out c.put_text.new.out (item_of (λ name. length name < 4294967296) c.args.files.now c.loop-file.file-index c.file-item.result (item_here c.args.files.now c.as_slice-file-items.result.now c.loop-file.file-index c.file-item.result c.as_slice-file-items.ensures c.loop-file-test.true c.file-item.is) c.requires.names) c.in_ok-put_text.ensures.utf8 c.in_ok-put_text.ensures.bytes)

pub returns : goal.returns
returns c =
    many_written file_name c.args.files.now c.args.out.now c.put_count.new.out c.loop-file.out c.requires.count
    (subst (λ k. c.put_count.new.out ≡ c.args.out.now ++ number_bytes U32 k) c.len.ensures c.in_ok-put_count.ensures)
    (HasWritten-end file_name c.args.files.now c.as_slice-file-items.result.now c.loop-file.file-index c.put_count.new.out c.loop-file.out c.as_slice-file-items.ensures c.loop-file-test.false c.loop-file.invariant)
