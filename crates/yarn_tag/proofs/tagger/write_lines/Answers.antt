use Rattle.std.proofs.Common.{◌++◌, List, ℕ, ap, ◌∙◌}
use Rattle.yarn_tag.specs.Sets.{has, has_line}
use Rattle.yarn_tag.proofs.PassLemmas.{becomes-all, none-left}
use Rattle.yarn_tag.proofs.TagLemmas.{range-to_end}
use Rattle.yarn_tag.proofs.tagger.write_lines.Goals as goal

pub returns : goal.returns
returns c =
    let found = c.in-Some-get.ensures.lookup.0 in
    let none = none-left _ _ _ c.in_ok-line.ensures.lines c.in_default.is in
    becomes-all c.args.bytes.now (has_line c.args.lacking.now) (has c.args.taken.now) c.args.start c.loop-tagger.tagger.at c.loop-tagger.tagger.next
    c.args.lines.lines c.loop-tagger.lines.lines c.loop-tagger.tagger.out c.extend_from_slice.new.self none
    (c.in_ok-extend_from_slice.ensures.ok ∙ ap (λ (l : List ℕ). c.loop-tagger.tagger.out ++ l) (found.2 ∙ range-to_end c.args.bytes.now c.loop-tagger.tagger.at found.0)) c.loop-tagger.invariant.becomes
