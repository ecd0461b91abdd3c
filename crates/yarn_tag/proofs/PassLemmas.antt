-- A file is written with tags, line by line.
use Rattle.std.proofs.Common.{◌≡◌, ℕ, ◌+◌, List, [], ◌∷◌, ◌++◌, drop, slice_range, Bool, true, false, Option, Some, None, Result, Ok, Err, refl, sym, ap, ◌∙◌, subst, append_assoc}
use Rattle.yarn_base.specs.declared.SourceFile.{SourceFile}
use Rattle.yarn_lines.specs.declared.line.RawLine.{RawLine}
use Rattle.yarn_lines.specs.Lines.{lines_of}
use Rattle.yarn_lines.specs.Taking.{Takes}
use Rattle.yarn_tree.specs.declared.tree.File.{File}
use Rattle.yarn_tree.specs.Reading.{IsFileRead, file_reading_of}
use Rattle.yarn_tag.specs.declared.spoken.Spoken.{Spoken}
use Rattle.yarn_tag.specs.declared.fault.TagFault.{TagFault}
use Rattle.yarn_tag.specs.declared.fault.TagFault.TheVariants.{Refused, IdsUsedUp, TooLong, Memory}
use Rattle.yarn_tag.specs.declared.tagger.Tagger.{Tagger}
use Rattle.yarn_tag.specs.Sets.{IsPut, Passes, IsWritten, IsWithin}
use Rattle.yarn_tag.specs.Tagged.{Becomes, rest, kept, tagged, NeedsMore, past_kept, past_tagged, IsNextFree, tag_before, lacks, has_id, spoken_in, too_long, IsTagged, IsTagAnswer}

module _ (bytes : List ℕ) (lacking : ℕ → Bool) (taken : List ℕ → Bool) where
  pub passes-kept : (line : RawLine) (tagger : Tagger) → lacking line.number ≡ false → Passes bytes lacking taken line tagger tagger
  passes-kept line tagger is = record {
    becomes = λ lines more b. (more, (kept is b, refl));
    needs = λ lines n. past_kept is n;
  }

  pub passes-tagged : (line : RawLine) (before after : Tagger) (n behind : ℕ) → lacking line.number ≡ true → IsNextFree taken before.next n →
      IsPut bytes line n before.at before.out behind after.out → after.at ≡ behind → after.next ≡ n + 1 → Passes bytes lacking taken line before after
  passes-tagged line before after n behind is free put at next =
      let tag : List ℕ = tag_before (drop put.end line.text) n in
      let front : List ℕ = slice_range bytes before.at (line.at + put.end) in
      record {
        becomes = λ lines more b. (
          front ++ (tag ++ more),
          (
            tagged n put.end is free put.ends
                (subst (λ (m : ℕ). Becomes bytes lacking taken m (line.at + put.end) lines more) next
                (subst (λ (m : ℕ). Becomes bytes lacking taken after.next m lines more) (at ∙ put.to) b)),
            ap (λ (l : List ℕ). l ++ more) put.written ∙ append_assoc before.out (front ++ tag) more
                ∙ ap (λ (l : List ℕ). before.out ++ l) (append_assoc front tag more),
          ),
        );
        needs = λ lines m. past_tagged n is free (subst (λ (k : ℕ). NeedsMore lacking taken k lines) next m);
      }

  pub becomes-on : (start : ℕ) (all : List RawLine) (line : RawLine) (lines : List RawLine) (before after : Tagger) →
      Passes bytes lacking taken line before after →
      ((more : List ℕ) → Becomes bytes lacking taken before.next before.at (line ∷ lines) more → Becomes bytes lacking taken start 0 all (before.out ++ more)) →
      (more : List ℕ) → Becomes bytes lacking taken after.next after.at lines more → Becomes bytes lacking taken start 0 all (after.out ++ more)
  becomes-on start all line lines before after passes so more b =
      let p = passes.becomes lines more b in
      subst (λ (l : List ℕ). Becomes bytes lacking taken start 0 all l) (sym p.1.1) (so p.0 p.1.0)

  -- where no line is left, the rest of the bytes follows
  pub becomes-all : (start at next : ℕ) (all lines : List RawLine) (out new : List ℕ) → lines ≡ [] → new ≡ out ++ drop at bytes →
      ((more : List ℕ) → Becomes bytes lacking taken next at lines more → Becomes bytes lacking taken start 0 all (out ++ more)) →
      Becomes bytes lacking taken start 0 all new
  becomes-all start at next all lines out new none is so =
      subst (λ (l : List ℕ). Becomes bytes lacking taken start 0 all l) (sym is)
      (so (drop at bytes) (subst (λ (ls : List RawLine). Becomes bytes lacking taken next at ls (drop at bytes)) (sym none) rest))

pub none-left : (before after : List RawLine) (taken : Option RawLine) → Takes before (Ok taken) after → taken ≡ None → before ≡ []
none-left before after None takes is = takes.0
none-left before after (Some line) takes is = absurd (cc)

pub tagged-within : (bytes : List ℕ) (said : List Spoken) (start : ℕ) (out : List ℕ) (answer : Result (List ℕ) TagFault) →
    Becomes bytes (lacks said) (has_id said) start 0 (lines_of bytes).lines out → IsWithin out answer → IsTagged bytes said start answer
tagged-within bytes said start out (Ok same) b w = (subst (λ (l : List ℕ). Becomes bytes (lacks said) (has_id said) start 0 (lines_of bytes).lines l) (sym w.0) b, ap too_long w.0 ∙ w.1)
tagged-within bytes said start out (Err (TooLong line)) b w = (out, (b, w))
tagged-within bytes said start out (Err (Refused refusal)) b w = w
tagged-within bytes said start out (Err IdsUsedUp) b w = absurd w
tagged-within bytes said start out (Err Memory) b w = tt

pub tagged-fault : (bytes : List ℕ) (said : List Spoken) (start : ℕ) (fault : TagFault) →
    IsWritten bytes (lacks said) (has_id said) start (lines_of bytes).lines (Err fault) → IsTagged bytes said start (Err fault)
tagged-fault bytes said start (TooLong line) w = absurd w
tagged-fault bytes said start (Refused refusal) w = w
tagged-fault bytes said start IdsUsedUp w = w
tagged-fault bytes said start Memory w = tt

pub answered : (file : SourceFile) (start : ℕ) (tree : File) (answer : Result (List ℕ) TagFault) →
    IsFileRead (file_reading_of file) (Ok tree) → IsTagged file.bytes (spoken_in tree) start answer → IsTagAnswer file start answer
answered file start tree (Ok out) read is = record { tree = tree; read = read; tagged = is }
answered file start tree (Err (TooLong line)) read is = record { tree = tree; read = read; tagged = is }
answered file start tree (Err (Refused refusal)) read is = absurd is
answered file start tree (Err IdsUsedUp) read is = record { tree = tree; read = read; tagged = is }
answered file start tree (Err Memory) read is = tt
