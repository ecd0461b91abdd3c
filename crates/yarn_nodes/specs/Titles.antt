-- The first place where a node isn't titled well (docs/language.md, Nodes and Refusals of a project).
use Rattle.std.specs.Prelude.{ℕ, List, [], ◌∷◌, Bool, false, not, ◌&&◌, ◌||◌, if◌then◌else◌, Option, Some, None, codes}
use Rattle.std.specs.Str.{bytes_eq, chars}
use Rattle.yarn_base.specs.Name.{is_name_of}
use Rattle.yarn_items.specs.declared.item.Header.{Header}
use Rattle.yarn_items.specs.declared.item.Item.{Item}
use Rattle.yarn_items.specs.declared.item.Item.TheVariants as item
use Rattle.yarn_nodes.specs.Entries.{ItemAt}

abbrev pub is_title : Header → Bool
is_title header = bytes_eq header.key (codes "title")

-- a second title of a node, a title that is no name, and a `---` behind no title
abbrev pub is_mistitled : Bool → Item → Bool
is_mistitled titled (item.Header header) = is_title header && (titled || not (is_name_of (chars header.value)))
is_mistitled titled item.BodyBegins = not titled
is_mistitled titled item.NodeEnds = false
is_mistitled titled (item.FileTag tag) = false
is_mistitled titled (item.Line said) = false
is_mistitled titled (item.Offer said asked) = false
is_mistitled titled (item.Command own tags) = false
is_mistitled titled (item.Game said) = false

-- whether the node has a title behind an item
abbrev pub titled_behind : Bool → Item → Bool
titled_behind titled (item.Header header) = titled || is_title header
titled_behind titled item.BodyBegins = titled
titled_behind titled item.NodeEnds = false
titled_behind titled (item.FileTag tag) = titled
titled_behind titled (item.Line said) = titled
titled_behind titled (item.Offer said asked) = titled
titled_behind titled (item.Command own tags) = titled
titled_behind titled (item.Game said) = titled

abbrev pub first_mistitled : Bool → List ItemAt → Option ℕ
first_mistitled titled [] = None
first_mistitled titled (x ∷ xs) =
    if is_mistitled titled x.item then Some x.line else first_mistitled (titled_behind titled x.item) xs
