-- What is found of a text without a carriage return, beside what the text is.
use Rattle.std.proofs.Common.{◌≡◌, ℕ, List, [], Option, Some, sym, ap, ◌∙◌}
use Rattle.yarn_expr.specs.declared.token.Token.{Token}
use Rattle.yarn_items.specs.declared.item.Mode.{Mode}
use Rattle.yarn_items.specs.declared.item.Item.{Item}
use Rattle.yarn_items.specs.declared.item.Found.{Found}
use Rattle.yarn_items.specs.Item.{IsForm, literals_of}
use Rattle.yarn_items.specs.Heading.{bare}

-- an item with these tokens in its expressions
abbrev pub found_with : List Token → Item → Found
found_with tokens it = record { item = it; literals = literals_of tokens }

-- the text is the item that was found
pub record HasForm (mode : Mode) (text : List ℕ) (found : Found) : Type 0 where
  pub tokens : List Token
  pub is : IsForm mode text tokens found.item
  pub literals : found.literals ≡ literals_of tokens

-- an item without tokens
pub without : (it : Item) (tokens : List Token) (o : Option Found) → o ≡ Some (bare it) → tokens ≡ [] → o ≡ Some (found_with tokens it)
without it tokens o is none = is ∙ ap (λ ts. Some (found_with ts it)) (sym none)
