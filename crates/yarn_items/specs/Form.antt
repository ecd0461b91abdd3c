-- What is found of a line, as a function of its text (docs/language.md, Nodes and Body lines).
use Rattle.std.specs.Prelude.{ℕ, List, if◌then◌else◌, Option, None}
use Rattle.std.specs.List.{list_any}
use Rattle.yarn_items.specs.declared.item.Mode.{Mode}
use Rattle.yarn_items.specs.declared.item.Mode.TheVariants.{InHeaders, InBody}
use Rattle.yarn_items.specs.declared.item.Found.{Found}
use Rattle.yarn_items.specs.Item.{is_cr}
use Rattle.yarn_items.specs.Heading.{heading_found}
use Rattle.yarn_items.specs.Body.{body_found}

-- what a text without a carriage return is
abbrev pub form_of : Mode → List ℕ → Option Found
form_of InHeaders text = heading_found text
form_of InBody text = body_found text

-- a text with a carriage return is nothing
unfoldable pub found_of : Mode → List ℕ → Option Found
found_of mode text = if list_any is_cr text then None else form_of mode text
