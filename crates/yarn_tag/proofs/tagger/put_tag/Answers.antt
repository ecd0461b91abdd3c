use Rattle.std.proofs.Common.{◌≡◌, ℕ, ◌+◌, ◌<◌, Option, SomeIff, drop, ap, subst, ◌∙◌}
use Rattle.yarn_tag.proofs.TagLemmas.{tag-put, range-to_end}
use Rattle.yarn_tag.proofs.tagger.put_tag.Goals as goal

pub returns : goal.returns
returns c =
    let end = c.text_end-end.result in
    let text = c.args.line.now.text in
    let same : c.in_ok-behind.behind ≡ c.args.line.now.at + end =
    (subst (λ (o : Option ℕ). SomeIff o (c.args.line.now.at + end < 18446744073709551616) (c.args.line.now.at + end)) c.in_ok-behind.ensures.ok_part c.checked_add.ensures).1 in
    let whole : c.as_bytes.result.now ≡ text = c.as_bytes.ensures.value ∙ c.as_str.ensures.value in
    let found = c.in-Some-get.ensures.lookup.0 in
    record {
      end = end;
      ends = record { is = c.text_end-end.ensures.value; of_line = c.text_end-end.ensures.line; of_offer = c.text_end-end.ensures.offer };
      to = same;
      written = tag-put c.args.out.now c.args.bytes.now text c.in-Some-get.rest.now c.in-Some.before.now c.extend_from_slice.new.self c.push_tag.new.out
          c.args.number c.args.at end c.in_ok-behind.behind (c.args.line.now.at + end) same c.in-Some.ensures.lookup.0.2 c.in_ok-extend_from_slice.ensures.ok
          (found.2 ∙ range-to_end c.as_bytes.result.now end found.0 ∙ ap (drop end) whole) c.in_ok-push_tag.ensures;
    }
