use Rattle.std.proofs.Common.{◌≡◌, ◌≤◌, List, ℕ, length, ap, sym, ◌∙◌, arith}
use Rattle.std.specs.Str.{chars}
use Rattle.std.specs.List.{list_all}
use Rattle.yarn_markup.specs.Plain.{is_ordinary}
use Rattle.yarn_markup.proofs.PlainLemmas.{plain_markup, chars-short}
use Rattle.yarn_markup.proofs.markup.read_markup.Goals as goal

pub returns-then-is_ordinary : goal.returns-then-is_ordinary
returns-then-is_ordinary c =
    let all : list_all is_ordinary (chars c.args.text.now) ≡ _ = sym (ap (λ (l : List ℕ). list_all is_ordinary (chars l)) c.as_str.ensures.value) ∙ sym c.is_ordinary.ensures ∙ c.if-is_ordinary.true in
    plain_markup c.args.plural.now c.args.text.now c.in_ok-copy.field-0 c.new.result c.as_str.ensures.utf8 all c.in_ok-copy.ensures c.new.ensures

pub read_characters-requires : goal.read_characters-requires
read_characters-requires c =
    let same : c.as_slice.result.now ≡ chars c.args.text.now = c.as_slice.ensures.value ∙ c.in_ok-characters.ensures ∙ ap chars c.as_str-2.ensures.value in
    omega (arith, chars-short c.args.text.now c.as_str.ensures.utf8, ap length same, c.requires)
