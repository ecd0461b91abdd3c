-- What is found of the lines of a file: their items, the first line that is nothing in its mode, and the first with a
-- number that can't be kept (docs/language.md, Nodes and Refusals of a project).
use Rattle.std.specs.Prelude.{ℕ, List, [], ◌∷◌, length, nat_lt, Bool, true, false, if◌then◌else◌, Option, Some, None}
use Rattle.yarn_lines.specs.declared.line.RawLine.{RawLine}
use Rattle.yarn_expr.specs.declared.tree.Expr.{Expr}
use Rattle.yarn_items.specs.declared.item.Mode.{Mode}
use Rattle.yarn_items.specs.declared.item.Mode.TheVariants.{InHeaders, InBody}
use Rattle.yarn_items.specs.declared.item.Item.{Item}
use Rattle.yarn_items.specs.declared.item.Item.TheVariants as item
use Rattle.yarn_items.specs.declared.item.Found.{Found}
use Rattle.yarn_items.specs.Form.{found_of}
use Rattle.yarn_nodes.specs.Places.{or_later}
use Rattle.yarn_nodes.specs.Entries.{ItemAt}

-- the mode behind an item: `---` begins a body, and `===` goes back to headers
abbrev pub next_mode : Mode → Item → Mode
next_mode mode item.BodyBegins = InBody
next_mode mode item.NodeEnds = InHeaders
next_mode mode (item.FileTag t) = mode
next_mode mode (item.Header header) = mode
next_mode mode (item.Line said) = mode
next_mode mode (item.Offer said asked) = mode
next_mode mode (item.Command own tags) = mode
next_mode mode (item.Game said) = mode

-- the mode behind a line; what has no item leaves it
abbrev pub mode_behind : Mode → Option Found → Mode
mode_behind mode (Some found) = next_mode mode found.item
mode_behind mode None = mode

-- the items of the lines that have one
abbrev pub and_item : ℕ → ℕ → Option Found → List ItemAt → List ItemAt
and_item line indent (Some found) items = record { line = line; indent = indent; item = found.item } ∷ items
and_item line indent None items = items

abbrev pub items_from : Mode → List RawLine → List ItemAt
items_from mode [] = []
items_from mode (line ∷ lines) =
    and_item line.number line.indent (found_of mode line.text) (items_from (mode_behind mode (found_of mode line.text)) lines)

-- the first line of which what was found is so
abbrev pub told_at : (Option Found → Bool) → ℕ → Option Found → Option ℕ
told_at is line found = if is found then Some line else None

abbrev pub first_told : (Option Found → Bool) → Mode → List RawLine → Option ℕ
first_told is mode [] = None
first_told is mode (line ∷ lines) =
    or_later (told_at is line.number (found_of mode line.text)) (first_told is (mode_behind mode (found_of mode line.text)) lines)

abbrev pub is_nothing : Option Found → Bool
is_nothing None = true
is_nothing (Some found) = false

-- a number with a fraction
abbrev pub has_fraction : Option Found → Bool
has_fraction None = false
has_fraction (Some found) = found.literals.fraction

-- a number above 9223372036854775807
abbrev pub has_large : Option Found → Bool
has_large None = false
has_large (Some found) = found.literals.too_large

-- the expressions of the substitutions of a line
abbrev pub holes_in : Item → List Expr
holes_in (item.Line said) = said.holes
holes_in (item.Offer said asked) = said.holes
holes_in (item.Game said) = said.holes
holes_in (item.Command own tags) = []
holes_in (item.FileTag tag) = []
holes_in (item.Header header) = []
holes_in item.BodyBegins = []
holes_in item.NodeEnds = []

-- more than 16 substitutions
abbrev pub has_many_holes : Option Found → Bool
has_many_holes None = false
has_many_holes (Some found) = nat_lt 16 (length (holes_in found.item))
