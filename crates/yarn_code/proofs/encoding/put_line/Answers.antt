use Rattle.std.proofs.Common.{arith}
use Rattle.yarn_code.proofs.EncodingLemmas.{line_written}
use Rattle.yarn_code.proofs.encoding.put_line.Goals as goal

pub returns : goal.returns
returns c p before field new =
    line_written p c.args.one.now before c.args.out.now c.put_text.new.out c.put_u8.new.out c.put_text-2.new.out c.put_u32.new.out c.put_u32-2.new.out c.put_u32-3.new.out
    c.requires.words.id c.requires.words.text (omega arith) (omega arith) c.requires.words.line field new
    c.in_ok-put_text.ensures.bytes c.in_ok-put_text.ensures.utf8 c.in_ok-put_u8.ensures c.in_ok-put_text-2.ensures.bytes c.in_ok-put_text-2.ensures.utf8
    c.in_ok-put_u32.ensures c.in_ok-put_u32-2.ensures c.in_ok-put_u32-3.ensures
