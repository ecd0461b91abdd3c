use Rattle.std.proofs.Common.{◌∙◌, sym, refl, inr}
use Rattle.csv.specs.Reading.{Reached, strip_bom}
use Rattle.yarn_table.proofs.records.open.Goals as goal

pub returns : goal.returns
unfolding Reached
returns c =
    let made = c.from_reader.ensures in
    let set = c.has_headers.ensures in
    record {
      trim = rw set at made.trim ∙ c.new.ensures.trim;
      ready = inr (inr (rw set at made.has_headers, made.headers));
      config = rw set at made.config ∙ c.new.ensures.config;
      strict = rw set at made.flexible ∙ c.new.ensures.flexible;
      width = made.expected;
      good = refl;
      rest = strip_bom (strip_bom c.args.bytes.now);
      source = rw c.without_mark.ensures at made.source;
      reached = (sym made.state, refl);
    }
