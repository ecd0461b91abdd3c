-- What tagging gives, computed from the lines of a file (docs/language.md, Tags).
use Rattle.std.specs.Prelude.{ℕ, zero, suc, ◌+◌, ◌-◌, List, [], ◌∷◌, ◌++◌, drop, slice_range, Bool, if◌then◌else◌, map, Option, Some, None, Result, Ok, Err, ◌≡◌, ⊤}
use Rattle.yarn_base.specs.declared.SourceFile.{SourceFile}
use Rattle.yarn_lines.specs.declared.line.RawLine.{RawLine}
use Rattle.yarn_lines.specs.Lines.{lines_of}
use Rattle.yarn_nodes.specs.declared.node.FileLines.{FileLines}
use Rattle.yarn_tree.specs.Reading.{Reading, Reads, Refuses, file_reading_of}
use Rattle.yarn_tree.specs.Scan.{end_of}
use Rattle.yarn_tree.specs.Trees.{grown_node}
use Rattle.yarn_tag.specs.declared.spoken.Spoken.{Spoken}
use Rattle.yarn_tag.specs.declared.fault.TagFault.{TagFault}
use Rattle.yarn_tag.specs.declared.fault.TagFault.TheVariants as fault
use Rattle.yarn_tag.specs.Tagged.{id_of, lacks, has_id, spoken_in_nodes, tag_before, too_long}

-- the bytes with tags; or numbers are used up; or the place of what would be too long
pub data Tagging : Type 0 where
  Tags : List ℕ → Tagging
  UsesUp : Tagging
  Exceeds : ℕ → Tagging

-- the first number from that one on whose id isn't taken, among so many
abbrev pub free_among : (List ℕ → Bool) → ℕ → ℕ → Option ℕ
free_among taken zero next = None
free_among taken (suc count) next = if taken (id_of next) then free_among taken count (suc next) else Some next

-- the same, up to 268,435,455
abbrev pub next_free : (List ℕ → Bool) → ℕ → Option ℕ
next_free taken next = free_among taken (268435456 - next) next

abbrev pub at_number : Option ℕ → (ℕ → Option (List ℕ)) → Option (List ℕ)
at_number None after = None
at_number (Some n) after = after n

abbrev pub and_front : List ℕ → Option (List ℕ) → Option (List ℕ)
and_front front None = None
and_front front (Some rest) = Some (front ++ rest)

-- the bytes before a place, with the tag of a number
abbrev pub put : List ℕ → ℕ → RawLine → ℕ → List ℕ
put bytes at line n = slice_range bytes at (line.at + end_of line.text) ++ tag_before (drop (end_of line.text) line.text) n

-- what the bytes behind a place become, where these lines stand there; none where numbers are used up
abbrev pub become : List ℕ → (ℕ → Bool) → (List ℕ → Bool) → ℕ → ℕ → List RawLine → Option (List ℕ)
become bytes lacking taken next at [] = Some (drop at bytes)
become bytes lacking taken next at (line ∷ lines) =
    if lacking line.number then
    at_number (next_free taken next) (λ n. and_front (put bytes at line n) (become bytes lacking taken (n + 1) (line.at + end_of line.text) lines))
    else become bytes lacking taken next at lines

abbrev pub unless_long : List ℕ → Option ℕ → Tagging
unless_long out None = Tags out
unless_long out (Some line) = Exceeds line

abbrev pub within : Option (List ℕ) → Tagging
within None = UsesUp
within (Some out) = unless_long out (too_long out)

-- the tagging of bytes with these lines and options, from that number on
abbrev pub tagging : List ℕ → List Spoken → ℕ → Tagging
tagging bytes said start = within (become bytes (lacks said) (has_id said) start 0 (lines_of bytes).lines)

abbrev pub of_read : List ℕ → ℕ → Reading FileLines → Reading Tagging
of_read bytes start (Refuses kind place) = Refuses kind place
of_read bytes start (Reads lines) = Reads (tagging bytes (spoken_in_nodes (map grown_node lines.nodes)) start)

-- the tagging of a file, or why it is refused as it is read
unfoldable pub tagging_of : SourceFile → ℕ → Reading Tagging
tagging_of file start = of_read file.bytes start (file_reading_of file)

-- an answer tells the tagging
abbrev pub IsTold : Reading Tagging → Result (List ℕ) TagFault → Type 0
IsTold reading (Ok out) = reading ≡ Reads (Tags out)
IsTold reading (Err (fault.Refused refusal)) = reading ≡ Refuses refusal.kind refusal.place
IsTold reading (Err fault.IdsUsedUp) = reading ≡ Reads UsesUp
IsTold reading (Err (fault.TooLong line)) = reading ≡ Reads (Exceeds line)
IsTold reading (Err fault.Memory) = ⊤
