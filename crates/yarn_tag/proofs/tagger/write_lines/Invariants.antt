use Rattle.std.proofs.Common.{ℕ, List, ◌++◌, length}
use Rattle.yarn_tag.specs.Sets.{has, has_line}
use Rattle.yarn_tag.specs.Tagged.{Becomes, NeedsMore}
use Rattle.yarn_tag.proofs.tagger.write_lines.Given as goal

abbrev pub invariant-loop-tagger : goal.invariant-loop-tagger
invariant-loop-tagger l = record {
  becomes : (more : List ℕ) → Becomes l.bytes (has_line l.lacking) (has l.taken) l.tagger.next l.tagger.at l.lines.lines more →
      Becomes l.bytes (has_line l.lacking) (has l.taken) l.start 0 l.fn.lines.lines (l.tagger.out ++ more);
  needs : NeedsMore (has_line l.lacking) (has l.taken) l.tagger.next l.lines.lines → NeedsMore (has_line l.lacking) (has l.taken) l.start l.fn.lines.lines;
}

abbrev pub decreases-loop-tagger : goal.decreases-loop-tagger
decreases-loop-tagger l = length l.lines.lines
