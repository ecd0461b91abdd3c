-- The bytes of a file in which each line and each option has an id of its own (docs/language.md, Tags).
use Rattle.std.specs.Prelude.{◌≡◌, ◌≤◌, ◌<◌, ℕ, ◌+◌, ◌/◌, ◌%◌, List, [], ◌∷◌, ◌++◌, length, drop, slice_range, nat_lt, nat_eq, Bool, true, false, ◌&&◌, if◌then◌else◌, is_none, Option, Some, None, Result, Ok, Err, ⊤, codes, map}
use Rattle.std.specs.List.{list_any}
use Rattle.std.specs.Str.{bytes_eq}
use Rattle.yarn_base.specs.declared.SourceFile.{SourceFile}
use Rattle.yarn_lines.specs.declared.line.RawLine.{RawLine}
use Rattle.yarn_lines.specs.Lines.{begins_with, lines_of}
use Rattle.yarn_lines.specs.Fault.{first_long}
use Rattle.yarn_expr.specs.declared.token.Token.{Token}
use Rattle.yarn_expr.specs.declared.tree.Expr.{Expr}
use Rattle.yarn_items.specs.declared.item.Said.{Said}
use Rattle.yarn_items.specs.Item.{IsLine, IsOffer}
use Rattle.yarn_items.specs.Text.{is_id}
use Rattle.yarn_blocks.specs.declared.tree.LineText.{LineText}
use Rattle.yarn_tree.specs.declared.tree.File.{File}
use Rattle.yarn_tree.specs.declared.refusal.ProjectFault.TheVariants as fault
use Rattle.yarn_tree.specs.End.{EndsAt}
use Rattle.yarn_tree.specs.Reading.{IsFileRead, IsFault, file_reading_of}
use Rattle.yarn_tree.specs.Scan.{end_of}
use Rattle.yarn_tree.specs.Trees.{NodeTree, node_tree}
use Rattle.yarn_meaning.specs.Texts.{said_in_nodes}
use Rattle.yarn_tag.specs.declared.spoken.Spoken.{Spoken}
use Rattle.yarn_tag.specs.declared.fault.TagFault.{TagFault}
use Rattle.yarn_tag.specs.declared.fault.TagFault.TheVariants.{Refused, IdsUsedUp, TooLong, Memory}

-- the first hashtag that is an id
abbrev pub own_id : List (List ℕ) → Option (List ℕ)
own_id [] = None
own_id (t ∷ ts) = if is_id t then Some t else own_id ts

-- the line of a line or an option, and its own id
abbrev pub spoken_of : LineText → Spoken
spoken_of text = record { line = text.line; id = own_id text.tags }

-- the lines and options of nodes and of a file, in order of the text
abbrev pub spoken_in_nodes : List NodeTree → List Spoken
spoken_in_nodes nodes = map spoken_of (said_in_nodes nodes)

abbrev pub spoken_in : File → List Spoken
spoken_in tree = spoken_in_nodes (map node_tree tree.nodes)

-- a line or an option without an id of its own is on that line
abbrev pub lacks : List Spoken → ℕ → Bool
lacks said line = list_any (λ s. nat_eq s.line line && is_none s.id) said

-- a hexadecimal digit, from `a` on in lower case
abbrev pub digit : ℕ → ℕ
digit d = if nat_lt d 10 then 48 + d else 87 + d

-- the seven last hexadecimal digits of a number
abbrev pub digits : ℕ → List ℕ
digits n = digit (n / 16777216 % 16) ∷ digit (n / 1048576 % 16) ∷ digit (n / 65536 % 16) ∷ digit (n / 4096 % 16)
    ∷ digit (n / 256 % 16) ∷ digit (n / 16 % 16) ∷ digit (n % 16) ∷ []

-- the id of a number
abbrev pub id_of : ℕ → List ℕ
id_of n = codes "line:" ++ digits n

abbrev pub is_own : List ℕ → Option (List ℕ) → Bool
is_own id None = false
is_own id (Some own) = bytes_eq own id

-- a line or an option has that id
abbrev pub has_id : List Spoken → List ℕ → Bool
has_id said id = list_any (λ s. is_own id s.id) said

-- the first number from that one on whose id isn't taken; at most 268,435,455
pub record IsNextFree (taken : List ℕ → Bool) (next n : ℕ) : Type 0 where
  pub rises : next ≤ n
  pub fits : n ≤ 268435455
  pub free : taken (id_of n) ≡ false
  pub skipped : (m : ℕ) → next ≤ m → m < n → taken (id_of m) ≡ true

-- the ids of all these numbers are taken
abbrev pub NoneFree : (List ℕ → Bool) → ℕ → Type 0
NoneFree taken next = (m : ℕ) → next ≤ m → m ≤ 268435455 → taken (id_of m) ≡ true

-- the text of a line that is said, or of an option, ends there before its comment
pub record IsEnd (text : List ℕ) (end : ℕ) : Type 0 where
  pub is : end ≡ end_of text
  pub of_line : (tokens : List Token) (said : Said) → IsLine text tokens said → EndsAt text end
  pub of_offer : (tokens : List Token) (said : Said) (asked : Option Expr) → IsOffer text tokens said asked → EndsAt text end

-- the tag of a number; a space more where a comment begins right behind it
abbrev pub tag_before : List ℕ → ℕ → List ℕ
tag_before rest n = codes " #" ++ (id_of n ++ (if begins_with (codes "//") rest then 32 ∷ [] else []))

-- what the bytes behind a place become, where these lines stand there and the next number is that one or a later one: each
-- line that lacks an id has a tag where its text ends, and all other bytes stay
pub data Becomes (bytes : List ℕ) (lacking : ℕ → Bool) (taken : List ℕ → Bool) : ℕ → ℕ → List RawLine → List ℕ → Type 0 where
  rest : {next at : ℕ} → Becomes bytes lacking taken next at [] (drop at bytes)
  kept : {next at : ℕ} {line : RawLine} {lines : List RawLine} {out : List ℕ} → lacking line.number ≡ false →
      Becomes bytes lacking taken next at lines out → Becomes bytes lacking taken next at (line ∷ lines) out
  tagged : {next at : ℕ} {line : RawLine} {lines : List RawLine} {out : List ℕ} (n end : ℕ) → lacking line.number ≡ true →
      IsNextFree taken next n → IsEnd line.text end → Becomes bytes lacking taken (n + 1) (line.at + end) lines out →
      Becomes bytes lacking taken next at (line ∷ lines) (slice_range bytes at (line.at + end) ++ (tag_before (drop end line.text) n ++ out))

-- a line that lacks an id, and no number is left for it
pub data NeedsMore (lacking : ℕ → Bool) (taken : List ℕ → Bool) : ℕ → List RawLine → Type 0 where
  here : {next : ℕ} {line : RawLine} {lines : List RawLine} → lacking line.number ≡ true → NoneFree taken next →
      NeedsMore lacking taken next (line ∷ lines)
  past_kept : {next : ℕ} {line : RawLine} {lines : List RawLine} → lacking line.number ≡ false →
      NeedsMore lacking taken next lines → NeedsMore lacking taken next (line ∷ lines)
  past_tagged : {next : ℕ} {line : RawLine} {lines : List RawLine} (n : ℕ) → lacking line.number ≡ true →
      IsNextFree taken next n → NeedsMore lacking taken (n + 1) lines → NeedsMore lacking taken next (line ∷ lines)

-- the place of what is too long: the file with line 0, and else the first line
abbrev pub too_long : List ℕ → Option ℕ
too_long bytes = if nat_lt 4194304 (length bytes) then Some 0 else first_long bytes

-- the bytes are these with tags, the first number being that one or a later one
abbrev pub Tagged : List ℕ → List Spoken → ℕ → List ℕ → Type 0
Tagged bytes said start out = Becomes bytes (lacks said) (has_id said) start 0 (lines_of bytes).lines out

-- numbers are used up
abbrev pub IsUsedUp : List ℕ → List Spoken → ℕ → Type 0
IsUsedUp bytes said start = NeedsMore (lacks said) (has_id said) start (lines_of bytes).lines

-- what is answered for the bytes of a file with these lines and options
abbrev pub IsTagged : List ℕ → List Spoken → ℕ → Result (List ℕ) TagFault → Type 0
IsTagged bytes said start (Ok out) = Tagged bytes said start out × (too_long out ≡ None)
IsTagged bytes said start (Err (Refused refusal)) = ⊥
IsTagged bytes said start (Err IdsUsedUp) = IsUsedUp bytes said start
IsTagged bytes said start (Err (TooLong line)) = (out : List ℕ) × (Tagged bytes said start out × (too_long out ≡ Some line))
IsTagged bytes said start (Err Memory) = ⊤

-- the file is read, and tagged
pub record IsReadAndTagged (file : SourceFile) (start : ℕ) (answer : Result (List ℕ) TagFault) : Type 0 where
  pub tree : File
  pub read : IsFileRead (file_reading_of file) (Ok tree)
  pub tagged : IsTagged file.bytes (spoken_in tree) start answer

-- the file is refused as it is read; else it is tagged
abbrev pub IsTagAnswer : SourceFile → ℕ → Result (List ℕ) TagFault → Type 0
IsTagAnswer file start (Err (Refused refusal)) = IsFault (file_reading_of file) (fault.Refused refusal)
IsTagAnswer file start (Err Memory) = ⊤
IsTagAnswer file start (Err IdsUsedUp) = IsReadAndTagged file start (Err IdsUsedUp)
IsTagAnswer file start (Err (TooLong line)) = IsReadAndTagged file start (Err (TooLong line))
IsTagAnswer file start (Ok out) = IsReadAndTagged file start (Ok out)
