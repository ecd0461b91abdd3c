-- A tagged file is tagged to itself, and is read as the same file but for its ids.
use Rattle.std.proofs.Common.{◌≡◌, ℕ, List, drop, map, Bool, false, Option, Some, None, Result, Ok, Err, refl, sym, ap, ◌∙◌, subst}
use Rattle.std.proofs.lemmas.Bool.{true≢false}
use Rattle.yarn_base.specs.declared.Place.{Place}
use Rattle.yarn_base.specs.declared.SourceFile.{SourceFile}
use Rattle.yarn_lines.specs.declared.line.RawLine.{RawLine}
use Rattle.yarn_lines.specs.Lines.{lines_of}
use Rattle.yarn_items.specs.Laws.{ItemsAreFound, OneItem}
use Rattle.yarn_nodes.specs.declared.node.FileLines.{FileLines}
use Rattle.yarn_tree.specs.declared.tree.File.{File}
use Rattle.yarn_tree.specs.declared.refusal.ProjectFault.TheVariants as fault
use Rattle.yarn_tree.specs.declared.refusal.RefusalKind.{RefusalKind}
use Rattle.yarn_tree.specs.Laws.{FileReadExactly}
use Rattle.yarn_tree.specs.Reading.{Reading, Reads, Refuses, IsFileRead, file_reading_of}
use Rattle.yarn_tree.specs.Trees.{file_tree, grown_node, grown}
use Rattle.yarn_tree.proofs.GrownLemmas.{nodes-grown, file-grown}
use Rattle.yarn_tag.specs.declared.spoken.Spoken.{Spoken}
use Rattle.yarn_tag.specs.declared.fault.TagFault.{TagFault}
use Rattle.yarn_tag.specs.declared.fault.TagFault.TheVariants.{Refused, IdsUsedUp, TooLong, Memory}
use Rattle.yarn_tag.specs.Tagged.{Becomes, rest, kept, tagged, NeedsMore, here, past_kept, past_tagged, lacks, has_id, spoken_in, spoken_in_nodes, too_long, IsReadAndTagged, IsTagAnswer}
use Rattle.yarn_tag.specs.TagLaws.{SameButIds, TaggedStands, TaggedOnce}
use Rattle.yarn_tag.proofs.TagFile.{IsTaggedFile, tagged-file}

-- where no line lacks an id, bytes stay
stays : {bytes : List ℕ} {lacking : ℕ → Bool} {taken : List ℕ → Bool} {next at : ℕ} {lines : List RawLine} {out : List ℕ} → ((k : ℕ) → lacking k ≡ false) →
    Becomes bytes lacking taken next at lines out → out ≡ drop at bytes
stays none rest = refl
stays none (kept {line} off more) = stays none more
stays none (tagged {line} n end on free ends more) = absurd (true≢false (sym on ∙ none line.number))

-- and no number is needed
needs-none : {lacking : ℕ → Bool} {taken : List ℕ → Bool} {next : ℕ} {lines : List RawLine} → ((k : ℕ) → lacking k ≡ false) → NeedsMore lacking taken next lines → ⊥
needs-none none (here {line = line} on free) = true≢false (sym on ∙ none line.number)
needs-none none (past_kept off more) = needs-none none more
needs-none none (past_tagged {line = line} n on free more) = true≢false (sym on ∙ none line.number)

-- one reading reads one thing
lines_in : FileLines → Reading FileLines → FileLines
lines_in other (Reads lines) = lines
lines_in other (Refuses kind place) = other

same-lines : (reading : Reading FileLines) (a b : FileLines) → reading ≡ Reads a → reading ≡ Reads b → a ≡ b
unfolding lines_in
same-lines reading a b one two = ap (lines_in a) (sym one ∙ two)

no-refusal : (reading : Reading FileLines) (a : FileLines) (kind : RefusalKind) (place : Place) → reading ≡ Reads a → reading ≡ Refuses kind place → ⊥
no-refusal reading a kind place one two = let both : Reads a ≡ Refuses kind place = sym one ∙ two in absurd cc

no_other : (line : ℕ) (o : Option ℕ) → o ≡ None → o ≡ Some line → ⊥
no_other line o none some = absurd cc

module _ (found : ItemsAreFound) (one : OneItem) (exactly : FileReadExactly) where
  -- what is read of a file that is tagged, and of the tagged file
  record Both (file again : SourceFile) : Type 0 where
    lines : FileLines
    read : file_reading_of file ≡ Reads lines
    is : IsTaggedFile again lines
    read_again : file_reading_of again ≡ Reads is.lines_again
    short : too_long again.bytes ≡ None

  both : (file again : SourceFile) (start : ℕ) → IsTagAnswer file start (Ok again.bytes) → Both file again
  both file again start answer = record {
    lines = lines;
    read = answer.read.1.0;
    is = is;
    read_again = (exactly again is.lines_again).1 is.accepted;
    short = answer.tagged.1;
  }
    where
      lines : FileLines
      lines = answer.read.0

      said : spoken_in answer.tree ≡ spoken_in_nodes (map grown_node lines.nodes)
      said = ap spoken_in_nodes (nodes-grown lines.nodes answer.tree.nodes answer.read.1.1.nodes)

      becomes : Becomes file.bytes (lacks (spoken_in_nodes (map grown_node lines.nodes))) (has_id (spoken_in answer.tree)) start 0 (lines_of file.bytes).lines again.bytes
      becomes = subst (λ (s : List Spoken). Becomes file.bytes (lacks s) (has_id (spoken_in answer.tree)) start 0 (lines_of file.bytes).lines again.bytes) said answer.tagged.0

      is : IsTaggedFile again lines
      is = tagged-file found one file again lines (has_id (spoken_in answer.tree)) start ((exactly file lines).0 answer.read.1.0) becomes answer.tagged.1

  -- ---- what is read

  same-tree : (file again : SourceFile) (b : Both file again) (before after : File) → again.name ≡ file.name → IsFileRead (file_reading_of file) (Ok before) →
      IsFileRead (file_reading_of again) (Ok after) → SameButIds (file_tree before) (file_tree after)
  same-tree file again b before after named first second =
      let one_side : file_tree before ≡ grown b.lines =
      file-grown first.0 before first.1.1 ∙ ap grown (same-lines (file_reading_of file) first.0 b.lines first.1.0 b.read) in
      let other_side : file_tree after ≡ grown b.is.lines_again =
      file-grown second.0 after second.1.1 ∙ ap grown (same-lines (file_reading_of again) second.0 b.is.lines_again second.1.0 b.read_again) in
      let read_name : b.lines.name ≡ file.name = ((exactly file b.lines).0 b.read).has.named in
      rw (one_side, other_side)
      (record { name = b.is.name ∙ named ∙ sym read_name; tags = b.is.tags; nodes = b.is.same })

  pub tagged_stands_law : TaggedStands
  tagged_stands_law file again start before (Ok after) answer named first second =
      same-tree file again (both file again start answer) before after named first second
  tagged_stands_law file again start before (Err (fault.Refused refusal)) answer named first second =
      let b = both file again start answer in
      no-refusal (file_reading_of again) b.is.lines_again refusal.kind refusal.place b.read_again second
  tagged_stands_law file again start before (Err fault.Memory) answer named first second = tt

  -- ---- tagging again

  -- no line or option lacks an id
  none-left : (file again : SourceFile) (b : Both file again) (other : ℕ) (answer : Result (List ℕ) TagFault) (r : IsReadAndTagged again other answer) → (k : ℕ) →
      lacks (spoken_in r.tree) k ≡ false
  none-left file again b other answer r k =
      ap (λ (s : List Spoken). lacks s k)
      (ap spoken_in_nodes
      (nodes-grown r.read.0.nodes r.tree.nodes r.read.1.1.nodes
      ∙ ap (λ (l : FileLines). map grown_node l.nodes) (same-lines (file_reading_of again) r.read.0 b.is.lines_again r.read.1.0 b.read_again)))
      ∙ b.is.none_lack k

  pub tagged_once_law : TaggedOnce
  tagged_once_law file again start other (Ok out) answer second =
      let b = both file again start answer in
      stays (none-left file again b other (Ok out) second) second.tagged.0
  tagged_once_law file again start other (Err (Refused refusal)) answer second =
      let b = both file again start answer in
      no-refusal (file_reading_of again) b.is.lines_again refusal.kind refusal.place b.read_again second
  tagged_once_law file again start other (Err IdsUsedUp) answer second =
      let b = both file again start answer in
      needs-none (none-left file again b other (Err IdsUsedUp) second) second.tagged
  tagged_once_law file again start other (Err (TooLong number)) answer second =
      let b = both file again start answer in
      let same = stays (none-left file again b other (Err (TooLong number)) second) second.tagged.1.0 in
      no_other number (too_long again.bytes) b.short (ap too_long (sym same) ∙ second.tagged.1.1)
  tagged_once_law file again start other (Err Memory) answer second = tt
