use Rattle.std.proofs.Common.{◌≡◌, ◌++◌, map, OnOk, subst, sym, encode_utf8}
use Rattle.std.proofs.lemmas.Result.{on_ok_weaker}
use Rattle.yarn_value.specs.Templates.{part_of}
use Rattle.yarn_value.specs.TemplateSteps.{marks_in}
use Rattle.yarn_value.specs.TemplateReading.{built}
use Rattle.yarn_value.proofs.ReadingLemmas.{built-char}
use Rattle.yarn_value.proofs.reading.Builder.push.Goals as goal

pub returns-in-Char : goal.returns-in-Char
returns-in-Char c =
    subst (λ m. OnOk c.push_char.result (built c.args.self.now.pieces c.push_char.new.self ≡ built c.args.self.now.pieces c.args.self.now.run ++ map part_of (marks_in m))) (sym c.in-Char.is)
    (on_ok_weaker c.push_char.result (λ h. built-char c.args.self.now.pieces c.args.self.now.run c.push_char.new.self (encode_utf8 c.in-Char.c) h) c.push_char.ensures.ok)
