-- Laws that tie what is found of a line to what the line is (docs/language.md, Nodes and Body lines).
use Rattle.std.specs.Prelude.{◌≡◌, ◌↔◌, ℕ, List, [], Some, None, true}
use Rattle.yarn_expr.specs.declared.token.Token.{Token}
use Rattle.yarn_items.specs.declared.item.Mode.{Mode}
use Rattle.yarn_items.specs.declared.item.Mode.TheVariants.{InBody}
use Rattle.yarn_items.specs.declared.item.Item.{Item}
use Rattle.yarn_items.specs.declared.item.Item.TheVariants as item
use Rattle.yarn_items.specs.declared.item.Found.{Found}
use Rattle.yarn_items.specs.Item.{IsItem, IsFound}
use Rattle.yarn_items.specs.Form.{found_of}
use Rattle.yarn_items.specs.Heading.{bare}
use Rattle.yarn_items.specs.Simple.{is_simple}

-- the item that is found is the one that the text is
abbrev pub ItemsAreFound : Type 0
ItemsAreFound = (mode : Mode) (text : List ℕ) (found : Found) → (found_of mode text ≡ Some found) ↔ IsFound mode text found

-- a line has at most one item, with the same tokens
abbrev pub OneItem : Type 0
OneItem = (mode : Mode) (text : List ℕ) (ts us : List Token) (a b : Item) → IsItem mode text ts a → IsItem mode text us b → (a ≡ b) × (ts ≡ us)

-- nothing is found exactly where the text is no item
abbrev pub NothingIsLeft : Type 0
NothingIsLeft = (mode : Mode) (text : List ℕ) →
    (found_of mode text ≡ None) ↔ ((tokens : List Token) (item : Item) → IsItem mode text tokens item → ⊥)

-- a line that is its own text is said as it stands
abbrev pub PlainLinesAreSaid : Type 0
PlainLinesAreSaid = (text : List ℕ) → is_simple text ≡ true → found_of InBody text ≡ Some (bare (item.Line (record { text = text; holes = []; tags = [] })))
