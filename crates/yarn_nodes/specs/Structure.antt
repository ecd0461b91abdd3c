-- The first item that stands where it may not, and where a body is too deep or a group too large
-- (docs/language.md, Nodes, Structure of a body and Refusals of a project).
use Rattle.std.specs.Prelude.{ℕ, List, [], ◌∷◌, ◌++◌, Option, Some, None}
use Rattle.yarn_items.specs.declared.item.Mode.{Mode}
use Rattle.yarn_items.specs.declared.item.Mode.TheVariants.{InHeaders, InBody}
use Rattle.yarn_items.specs.declared.item.Item.{Item}
use Rattle.yarn_items.specs.declared.item.Item.TheVariants as item
use Rattle.yarn_blocks.specs.declared.entry.What.{What}
use Rattle.yarn_blocks.specs.declared.mark.Mark.{Mark}
use Rattle.yarn_blocks.specs.declared.verdict.Verdict.{Verdict}
use Rattle.yarn_blocks.specs.declared.verdict.Verdict.TheVariants as verdict
use Rattle.yarn_blocks.specs.Entries.{shape_of}
use Rattle.yarn_blocks.specs.Outline.{verdict_in}
use Rattle.yarn_nodes.specs.declared.structure.Stand.{Stand}
use Rattle.yarn_nodes.specs.declared.structure.Stand.TheVariants.{Front, Between, Headed, Inside}
use Rattle.yarn_nodes.specs.Places.{or_later}
use Rattle.yarn_nodes.specs.Entries.{ItemAt, what_at}

abbrev pub mode_of : Stand → Mode
mode_of Front = InHeaders
mode_of Between = InHeaders
mode_of Headed = InHeaders
mode_of Inside = InBody

-- where the file stands behind an item
abbrev pub header_behind : Stand → Stand
header_behind Front = Headed
header_behind Between = Headed
header_behind Headed = Headed
header_behind Inside = Inside

abbrev pub stand_behind : Stand → Item → Stand
stand_behind stand (item.FileTag tag) = stand
stand_behind stand (item.Header header) = header_behind stand
stand_behind stand item.BodyBegins = Inside
stand_behind stand item.NodeEnds = Between
stand_behind stand (item.Line said) = stand
stand_behind stand (item.Offer said asked) = stand
stand_behind stand (item.Command own tags) = stand
stand_behind stand (item.Game said) = stand

-- the mark of a line of a body
abbrev pub mark_on : ℕ → ℕ → What → Mark
mark_on line indent w = record { line = line; indent = indent; shape = shape_of w }

abbrev pub and_mark : List Mark → ℕ → ℕ → Option What → List Mark
and_mark marks line indent None = marks
and_mark marks line indent (Some w) = marks ++ mark_on line indent w ∷ []

-- the marks of the body that is open behind an item
abbrev pub marks_past : List Mark → ℕ → ℕ → Item → List Mark
marks_past marks line indent item.BodyBegins = []
marks_past marks line indent item.NodeEnds = []
marks_past marks line indent (item.FileTag tag) = marks
marks_past marks line indent (item.Header header) = marks
marks_past marks line indent (item.Line said) = and_mark marks line indent (what_at line [] (item.Line said))
marks_past marks line indent (item.Offer said asked) = and_mark marks line indent (what_at line [] (item.Offer said asked))
marks_past marks line indent (item.Command own tags) = and_mark marks line indent (what_at line [] (item.Command own tags))
marks_past marks line indent (item.Game said) = and_mark marks line indent (what_at line [] (item.Game said))

abbrev pub marks_behind : List Mark → ItemAt → List Mark
marks_behind marks x = marks_past marks x.line x.indent x.item

-- where a body that ends at that line stops to be the front of a block
abbrev pub body_fault : ℕ → Verdict → Option ℕ
body_fault end (verdict.Block excess) = None
body_fault end (verdict.Bad at line) = Some line
body_fault end verdict.Unfinished = Some end

-- the same of a body that the file's end cuts off
abbrev pub cut_fault : ℕ → Verdict → ℕ
cut_fault end (verdict.Block excess) = end
cut_fault end (verdict.Bad at line) = line
cut_fault end verdict.Unfinished = end

-- a hashtag of the file behind its front
abbrev pub tag_fault : Stand → ℕ → Option ℕ
tag_fault Front line = None
tag_fault Between line = Some line
tag_fault Headed line = Some line
tag_fault Inside line = Some line

-- a `===` among headers, and the fault of the body that it ends
abbrev pub end_fault : Stand → List Mark → ℕ → Option ℕ
end_fault Front marks line = Some line
end_fault Between marks line = Some line
end_fault Headed marks line = Some line
end_fault Inside marks line = body_fault line (verdict_in marks)

abbrev pub misplaced_at : Stand → List Mark → ℕ → Item → Option ℕ
misplaced_at stand marks line (item.FileTag tag) = tag_fault stand line
misplaced_at stand marks line item.NodeEnds = end_fault stand marks line
misplaced_at stand marks line (item.Header header) = None
misplaced_at stand marks line item.BodyBegins = None
misplaced_at stand marks line (item.Line said) = None
misplaced_at stand marks line (item.Offer said asked) = None
misplaced_at stand marks line (item.Command own tags) = None
misplaced_at stand marks line (item.Game said) = None

-- a file ends neither in a body nor behind headers that wait for theirs
abbrev pub misplaced_end : Stand → List Mark → ℕ → Option ℕ
misplaced_end Front marks end = None
misplaced_end Between marks end = None
misplaced_end Headed marks end = Some end
misplaced_end Inside marks end = Some (cut_fault end (verdict_in marks))

-- the first item that stands where it may not; the file's end has the place behind its lines
abbrev pub first_misplaced : Stand → List Mark → ℕ → List ItemAt → Option ℕ
first_misplaced stand marks end [] = misplaced_end stand marks end
first_misplaced stand marks end (x ∷ xs) =
    or_later (misplaced_at stand marks x.line x.item) (first_misplaced (stand_behind stand x.item) (marks_behind marks x) end xs)

-- the first line of a body that is too deep, and the first 65th option of a group
abbrev pub deep_in : Verdict → Option ℕ
deep_in (verdict.Block excess) = excess.too_deep
deep_in (verdict.Bad at line) = None
deep_in verdict.Unfinished = None

abbrev pub crowd_in : Verdict → Option ℕ
crowd_in (verdict.Block excess) = excess.too_many
crowd_in (verdict.Bad at line) = None
crowd_in verdict.Unfinished = None

-- what a `===` shows of the body that it ends
abbrev pub shown_at : (Verdict → Option ℕ) → List Mark → Item → Option ℕ
shown_at shows marks item.NodeEnds = shows (verdict_in marks)
shown_at shows marks (item.FileTag tag) = None
shown_at shows marks (item.Header header) = None
shown_at shows marks item.BodyBegins = None
shown_at shows marks (item.Line said) = None
shown_at shows marks (item.Offer said asked) = None
shown_at shows marks (item.Command own tags) = None
shown_at shows marks (item.Game said) = None

abbrev pub first_shown : (Verdict → Option ℕ) → List Mark → List ItemAt → Option ℕ
first_shown shows marks [] = None
first_shown shows marks (x ∷ xs) = or_later (shown_at shows marks x.item) (first_shown shows (marks_behind marks x) xs)
