use Rattle.std.proofs.Common.{subst, Ok}
use Rattle.std.specs.Prelude.{string_bytes}
use Rattle.std.proofs.lemmas.Str.{IsUtf8-string_bytes}
use Rattle.yarn_base.specs.Part.{Pushes}
use Rattle.yarn_base.proofs.PartLemmas.{whole-fits}
use Rattle.yarn_base.proofs.text.Text.push_str.Goals as goal

pub invariant_of-self-then-branch : goal.invariant_of-self-then-branch
invariant_of-self-then-branch c =
    let pushed = subst (λ b. Pushes (Ok b) c.self.inside.from c.self.inside.len c.push_to_own.new.len (string_bytes c.self.inside.whole.value)
    (string_bytes c.push_to_own.new.whole.value) c.args.more.now) c.if-branch.true c.in_ok-push_to_own.ensures in
    whole-fits _ c.self.inside.from c.push_to_own.new.len pushed.0 pushed.3 (IsUtf8-string_bytes c.push_to_own.new.whole.value)
