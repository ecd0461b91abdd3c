use Rattle.std.proofs.Common.{◌≡◌, ◌++◌, subst}
use Rattle.yarn_code.specs.Format.{U8, number_bytes}
use Rattle.yarn_code.proofs.EncodingLemmas.{function_written, kind_written}
use Rattle.yarn_code.proofs.encoding.put_function.Goals as goal

pub returns : goal.returns
returns c before new =
    function_written c.args.one.now before c.args.out.now c.put_text.new.out c.put_u8.new.out c.put_kinds.new.out c.put_kind.new.out c.requires.name c.requires.field new
    c.in_ok-put_text.ensures.bytes c.in_ok-put_text.ensures.utf8
    (subst (λ k. c.put_u8.new.out ≡ c.put_text.new.out ++ number_bytes U8 k) c.len.ensures c.in_ok-put_u8.ensures)
    c.in_ok-put_kinds.ensures
    (kind_written c.args.one.now.result c.put_kinds.new.out c.put_kind.new.out c.in_ok-put_kind.ensures)
