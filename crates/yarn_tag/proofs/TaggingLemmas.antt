-- What is answered tells the tagging that is computed from the lines of a file.
use Rattle.std.proofs.Common.{◌≡◌, ℕ, zero, suc, ◌+◌, ◌-◌, ◌≤◌, ◌<◌, List, [], ◌∷◌, ◌++◌, drop, slice_range, Bool, true, false, Some, None, Result, Ok, Err, ◌⊎◌, inl, inr, refl, sym, ap, ◌∙◌, append_assoc, eq-or-lt_of_le, arith}
use Rattle.yarn_base.specs.declared.SourceFile.{SourceFile}
use Rattle.yarn_lines.specs.declared.line.RawLine.{RawLine}
use Rattle.yarn_lines.specs.Lines.{lines_of}
use Rattle.yarn_nodes.specs.declared.node.FileLines.{FileLines}
use Rattle.yarn_tree.specs.declared.tree.File.{File}
use Rattle.yarn_tree.specs.Project.{IsFileOf}
use Rattle.yarn_tree.specs.Reading.{Reading, Reads, file_reading_of}
use Rattle.yarn_tree.specs.Scan.{end_of}
use Rattle.yarn_tree.specs.Trees.{NodeTree}
use Rattle.yarn_tree.proofs.GrownLemmas.{nodes-grown}
use Rattle.yarn_tag.specs.declared.spoken.Spoken.{Spoken}
use Rattle.yarn_tag.specs.declared.fault.TagFault.{TagFault}
use Rattle.yarn_tag.specs.declared.fault.TagFault.TheVariants as fault
use Rattle.yarn_tag.specs.Tagged.{id_of, IsNextFree, NoneFree, Becomes, rest, kept, tagged, NeedsMore, here, past_kept, past_tagged, lacks, has_id, spoken_in, spoken_in_nodes, tag_before, too_long, Tagged, IsUsedUp, IsTagAnswer}
use Rattle.yarn_tag.specs.Tagging.{Tagging, Tags, UsesUp, Exceeds, free_among, next_free, become, tagging, of_read, tagging_of, IsTold}

module _ (taken : List ℕ → Bool) where
  found-step : (count next n : ℕ) → (next ≡ n) ⊎ (next < n) → taken (id_of n) ≡ false → (next < n → taken (id_of next) ≡ true) →
      (next < n → free_among taken count (suc next) ≡ Some n) → free_among taken (suc count) next ≡ Some n
  found-step count next n (inl is) free below more = rw (ap (λ (k : ℕ). taken (id_of k)) is ∙ free) (ap (λ (k : ℕ). Some k) is)
  found-step count next n (inr less) free below more = rw (below less) (more less)

  found-among : (count next n : ℕ) → next ≤ n → n < next + count → taken (id_of n) ≡ false →
      ((m : ℕ) → next ≤ m → m < n → taken (id_of m) ≡ true) → free_among taken count next ≡ Some n
  found-among zero next n from to free below = absurd (omega arith)
  found-among (suc count) next n from to free below =
      found-step count next n (eq-or-lt_of_le from) free (λ less. below next (omega arith) less)
      (λ less. found-among count (suc next) n (omega arith) (omega arith) free (λ m at. below m (omega arith)))

  none-among : (count next : ℕ) → ((m : ℕ) → next ≤ m → m < next + count → taken (id_of m) ≡ true) → free_among taken count next ≡ None
  none-among zero next all = refl
  none-among (suc count) next all =
      rw (all next (omega arith) (omega arith)) (none-among count (suc next) (λ m from to. all m (omega arith) (omega arith)))

  free-found : (next n : ℕ) → IsNextFree taken next n → next_free taken next ≡ Some n
  free-found next n is =
      let from : next ≤ n = is.rises in
      let to : n ≤ 268435455 = is.fits in
      found-among (268435456 - next) next n from (omega arith) is.free is.skipped

  none-found : (next : ℕ) → NoneFree taken next → next_free taken next ≡ None
  none-found next none = none-among (268435456 - next) next (λ m from to. none m from (omega arith))

module _ (bytes : List ℕ) (lacking : ℕ → Bool) (taken : List ℕ → Bool) where
  tagged-told : (next at n end : ℕ) (line : RawLine) (lines : List RawLine) (out : List ℕ) → lacking line.number ≡ true →
      next_free taken next ≡ Some n → end ≡ end_of line.text → become bytes lacking taken (n + 1) (line.at + end) lines ≡ Some out →
      become bytes lacking taken next at (line ∷ lines) ≡ Some (slice_range bytes at (line.at + end) ++ (tag_before (drop end line.text) n ++ out))
  tagged-told next at n end line lines out is free ends more =
      let later : become bytes lacking taken (n + 1) (line.at + end_of line.text) lines ≡ Some out =
      ap (λ (e : ℕ). become bytes lacking taken (n + 1) (line.at + e) lines) (sym ends) ∙ more in
      rw (is, free, ends, later)
      (ap (λ (l : List ℕ). Some l) (append_assoc (slice_range bytes at (line.at + end_of line.text)) (tag_before (drop (end_of line.text) line.text) n) out))

  becomes-told : {next at : ℕ} {lines : List RawLine} {out : List ℕ} → Becomes bytes lacking taken next at lines out →
      become bytes lacking taken next at lines ≡ Some out
  becomes-told rest = refl
  becomes-told (kept is b) = rw is (becomes-told b)
  becomes-told {next} {at} (tagged {line = line} {lines = lines} {out = out} n end is free ends b) =
      tagged-told next at n end line lines out is (free-found taken next n free) ends.is (becomes-told b)

  needs-told : (next at : ℕ) (lines : List RawLine) → NeedsMore lacking taken next lines → become bytes lacking taken next at lines ≡ None
  needs-told next at [] m = elim m [ ]
  needs-told next at (line ∷ lines) (here is none) = rw (is, none-found taken next none) refl
  needs-told next at (line ∷ lines) (past_kept is m) = rw is (needs-told next at lines m)
  needs-told next at (line ∷ lines) (past_tagged n is free m) =
      rw (is, free-found taken next n free, needs-told (n + 1) (line.at + end_of line.text) lines m) refl

module _ (bytes : List ℕ) (said : List Spoken) (start : ℕ) where
  tags-told : (out : List ℕ) → Tagged bytes said start out → too_long out ≡ None → tagging bytes said start ≡ Tags out
  tags-told out b fits = rw (becomes-told bytes (lacks said) (has_id said) b, fits) refl

  exceeds-told : (out : List ℕ) (line : ℕ) → Tagged bytes said start out → too_long out ≡ Some line → tagging bytes said start ≡ Exceeds line
  exceeds-told out line b long = rw (becomes-told bytes (lacks said) (has_id said) b, long) refl

  uses_up-told : IsUsedUp bytes said start → tagging bytes said start ≡ UsesUp
  uses_up-told m = rw (needs-told bytes (lacks said) (has_id said) start 0 (lines_of bytes).lines m) refl

read-told : (bytes : List ℕ) (start : ℕ) (lines : FileLines) (tree : File) (reading : Reading FileLines) (answer : Tagging) →
    reading ≡ Reads lines → IsFileOf lines tree → tagging bytes (spoken_in tree) start ≡ answer → of_read bytes start reading ≡ Reads answer
read-told bytes start lines tree reading answer is of told =
    rw is
    (ap (λ (t : Tagging). Reads t) (ap (λ (nodes : List NodeTree). tagging bytes (spoken_in_nodes nodes) start) (sym (nodes-grown lines.nodes tree.nodes of.nodes)) ∙ told))

pub answer_told : (file : SourceFile) (start : ℕ) (answer : Result (List ℕ) TagFault) → IsTagAnswer file start answer →
    IsTold (tagging_of file start) answer
unfolding tagging_of
answer_told file start (Ok out) is =
    read-told file.bytes start is.read.0 is.tree (file_reading_of file) (Tags out) is.read.1.0 is.read.1.1
    (tags-told file.bytes (spoken_in is.tree) start out is.tagged.0 is.tagged.1)
answer_told file start (Err (fault.Refused refusal)) is = rw is refl
answer_told file start (Err fault.IdsUsedUp) is =
    read-told file.bytes start is.read.0 is.tree (file_reading_of file) UsesUp is.read.1.0 is.read.1.1
    (uses_up-told file.bytes (spoken_in is.tree) start is.tagged)
answer_told file start (Err (fault.TooLong line)) is =
    read-told file.bytes start is.read.0 is.tree (file_reading_of file) (Exceeds line) is.read.1.0 is.read.1.1
    (exceeds-told file.bytes (spoken_in is.tree) start is.tagged.0 line is.tagged.1.0 is.tagged.1.1)
answer_told file start (Err fault.Memory) is = tt
