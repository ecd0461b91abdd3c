-- What sets of ids and of lines hold, and the lines of a file one after the other, words of private functions.
use Rattle.std.specs.Prelude.{◌≡◌, ℕ, ◌+◌, List, ◌∷◌, ◌++◌, drop, slice_range, Bool, false, ◌||◌, is_some, nat_eq, Some, None, Result, Ok, Err, ⊤}
use Rattle.std.specs.Str.{bytes_eq}
use Rattle.std.specs.BTreeMap.{get, get_by}
use Rattle.std.specs.Cmp.Lexicographic.{slice_cmp}
use Rattle.std.specs.Ordering.{nat_cmp}
use Rattle.yarn_lines.specs.declared.line.RawLine.{RawLine}
use Rattle.yarn_tag.specs.declared.sets.Ids.{Ids}
use Rattle.yarn_tag.specs.declared.sets.LineSet.{LineSet}
use Rattle.yarn_tag.specs.declared.fault.TagFault.{TagFault}
use Rattle.yarn_tag.specs.declared.fault.TagFault.TheVariants.{Refused, IdsUsedUp, TooLong, Memory}
use Rattle.yarn_tag.specs.declared.tagger.Tagger.{Tagger}
use Rattle.yarn_tag.specs.Tagged.{Becomes, NeedsMore, IsEnd, tag_before, too_long}

abbrev pub has : Ids → List ℕ → Bool
has ids id = is_some (get_by (λ key. slice_cmp nat_cmp id key.now) ids.map)

abbrev pub no_id : List ℕ → Bool
no_id id = false

abbrev pub and_id : List ℕ → (List ℕ → Bool) → List ℕ → Bool
and_id id ids other = bytes_eq id other || ids other

abbrev pub has_line : LineSet → ℕ → Bool
has_line set line = is_some (get nat_cmp set.map line)

abbrev pub no_line : ℕ → Bool
no_line line = false

abbrev pub and_line : ℕ → (ℕ → Bool) → ℕ → Bool
and_line line lines other = nat_eq line other || lines other

-- the bytes up to the end of a line's text, and the tag of that number, are written
pub record IsPut (bytes : List ℕ) (line : RawLine) (n at : ℕ) (old : List ℕ) (behind : ℕ) (new : List ℕ) : Type 0 where
  pub end : ℕ
  pub ends : IsEnd line.text end
  pub to : behind ≡ line.at + end
  pub written : new ≡ old ++ (slice_range bytes at (line.at + end) ++ tag_before (drop end line.text) n)

-- what stands behind a line, and what the lines behind it make of that
pub record Passes (bytes : List ℕ) (lacking : ℕ → Bool) (taken : List ℕ → Bool) (line : RawLine) (before after : Tagger) : Type 0 where
  pub becomes : (lines : List RawLine) (more : List ℕ) → Becomes bytes lacking taken after.next after.at lines more →
      (whole : List ℕ) × (Becomes bytes lacking taken before.next before.at (line ∷ lines) whole × (after.out ++ more ≡ before.out ++ whole))
  pub needs : (lines : List RawLine) → NeedsMore lacking taken after.next lines → NeedsMore lacking taken before.next (line ∷ lines)

-- a line is passed, or no number is left for it
abbrev pub IsPassed : List ℕ → (ℕ → Bool) → (List ℕ → Bool) → RawLine → Tagger → Tagger → Result Unit TagFault → Type 0
IsPassed bytes lacking taken line before after (Ok _) = Passes bytes lacking taken line before after
IsPassed bytes lacking taken line before after (Err IdsUsedUp) = (lines : List RawLine) → NeedsMore lacking taken before.next (line ∷ lines)
IsPassed bytes lacking taken line before after (Err Memory) = ⊤
IsPassed bytes lacking taken line before after (Err (Refused refusal)) = ⊥
IsPassed bytes lacking taken line before after (Err (TooLong number)) = ⊥

-- what all lines make of the bytes behind the start
abbrev pub IsWritten : List ℕ → (ℕ → Bool) → (List ℕ → Bool) → ℕ → List RawLine → Result (List ℕ) TagFault → Type 0
IsWritten bytes lacking taken start lines (Ok out) = Becomes bytes lacking taken start 0 lines out
IsWritten bytes lacking taken start lines (Err IdsUsedUp) = NeedsMore lacking taken start lines
IsWritten bytes lacking taken start lines (Err Memory) = ⊤
IsWritten bytes lacking taken start lines (Err (Refused refusal)) = ⊥
IsWritten bytes lacking taken start lines (Err (TooLong line)) = ⊥

-- bytes are answered as they are, where neither they nor a line is too long
abbrev pub IsWithin : List ℕ → Result (List ℕ) TagFault → Type 0
IsWithin bytes (Ok out) = (out ≡ bytes) × (too_long bytes ≡ None)
IsWithin bytes (Err (TooLong line)) = too_long bytes ≡ Some line
IsWithin bytes (Err Memory) = ⊥
IsWithin bytes (Err IdsUsedUp) = ⊥
IsWithin bytes (Err (Refused refusal)) = ⊥
