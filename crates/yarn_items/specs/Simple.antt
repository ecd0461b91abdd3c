-- The lines of a body that are their own text: the most of them, which are told at a look.
use Rattle.std.specs.Prelude.{ℕ, List, [], ◌∷◌, length, nat_eq, Bool, not, ◌&&◌, codes}
use Rattle.std.specs.List.{list_any}
use Rattle.std.specs.Str.{bytes_eq}
use Rattle.yarn_items.specs.Text.{trimmed}
use Rattle.yarn_items.specs.Item.{is_option}

-- a carriage return, and what a pair, a substitution, a hashtag, a comment or a condition begins with
abbrev pub is_special : ℕ → Bool
is_special b = list_any (λ c. nat_eq c b) (13 ∷ codes "\\{#/<")

-- a text between no blanks
abbrev pub is_bare : List ℕ → Bool
is_bare text = nat_eq (length (trimmed text)) (length text)

-- a text between no blanks, with no such byte, that neither begins an option nor ends the body
abbrev pub is_simple : List ℕ → Bool
is_simple text =
    not (list_any is_special text) && not (is_option text) && not (bytes_eq text (codes "===")) && not (bytes_eq text []) && is_bare text
