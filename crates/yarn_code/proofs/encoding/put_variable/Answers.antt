use Rattle.std.proofs.Common.{◌≡◌, ◌++◌, subst}
use Rattle.yarn_value.specs.Values.{kind_of}
use Rattle.yarn_code.specs.Format.{U8, number_bytes}
use Rattle.yarn_code.specs.Layout.{number_of_kind}
use Rattle.yarn_code.proofs.EncodingLemmas.{variable_written, kind_written}
use Rattle.yarn_code.proofs.encoding.put_variable.Goals as goal

pub returns : goal.returns
returns c before new =
    variable_written c.args.one.now before c.args.out.now c.put_text.new.out c.put_kind.new.out c.put_value.new.out c.requires.name c.requires.field new
    c.in_ok-put_text.ensures.bytes c.in_ok-put_text.ensures.utf8
    (kind_written (kind_of c.args.one.now.initial) c.put_text.new.out c.put_kind.new.out
    (subst (λ k. c.put_kind.new.out ≡ c.put_text.new.out ++ number_bytes U8 (number_of_kind k)) c.kind.ensures c.in_ok-put_kind.ensures))
    c.in_ok-put_value.ensures
