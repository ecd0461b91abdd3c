use Rattle.std.proofs.Common.{◌≡◌, ◌++◌, subst, arith}
use Rattle.yarn_code.specs.Format.{U32, number_bytes}
use Rattle.yarn_code.proofs.EncodingLemmas.{node_written}
use Rattle.yarn_code.proofs.encoding.put_node.Goals as goal

pub returns : goal.returns
returns c p before field new =
    node_written p c.args.one.now before c.args.out.now c.put_text.new.out c.put_u32.new.out c.put_count.new.out c.put_instructions.new.out
    c.requires.words.title c.requires.words.count (omega arith) field new
    c.in_ok-put_text.ensures.bytes c.in_ok-put_text.ensures.utf8 c.in_ok-put_u32.ensures
    (subst (λ k. c.put_count.new.out ≡ c.put_u32.new.out ++ number_bytes U32 k) c.len.ensures c.in_ok-put_count.ensures)
    c.in_ok-put_instructions.ensures
