use Rattle.std.proofs.Common.{length, take, drop, IsUtf8, sym, subst, ap, ◌∙◌, arith}
use Rattle.std.proofs.lemmas.List.{take_rest, length-drop}
use Rattle.yarn_items.specs.Hashtags.{with_tag, tags_of}
use Rattle.yarn_items.proofs.HashtagLemmas.{hashtag-none, hashtag-some, hashtag-behind}
use Rattle.yarn_items.proofs.Utf8Lemmas.{BeginsAscii, front-utf8, rest-utf8}
use Rattle.yarn_items.proofs.hashtags.tag_in.Goals as goal

pub returns-then-length-eq0 : goal.returns-then-length-eq0
returns-then-length-eq0 c = hashtag-none c.args.behind.now (sym c.tag_length_in-length.ensures.value ∙ c.if-length-eq0.true)

pub returns-else-length-eq0 : goal.returns-else-length-eq0
returns-else-length-eq0 c =
    let behind = c.args.behind.now in
    let n = c.tag_length_in-length.result in
    let rest = take_rest behind n in
    let begins : BeginsAscii (drop n behind) = rw c.tag_length_in-length.ensures.value (hashtag-behind behind) in (
      hashtag-some behind n c.tag_length_in-length.ensures.value (omega (arith, c.if-length-eq0.false)) ∙ ap (λ l. with_tag (take n behind) (tags_of l)) (sym rest),
      omega (arith, ap length rest, length-drop n behind),
      front-utf8 behind n begins c.requires,
      subst IsUtf8 (sym rest) (rest-utf8 behind n begins c.requires),
    )
