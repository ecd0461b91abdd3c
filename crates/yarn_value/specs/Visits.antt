-- How often a node was left (docs/language.md, The meaning).
use Rattle.std.specs.Prelude.{ℕ, ℤ, pos, int_lt, List, codes, ◌++◌, Option, Some, None}
use Rattle.yarn_value.specs.declared.value.Value.{Value}
use Rattle.yarn_value.specs.declared.value.Value.TheVariants.{Number, Str, Truth}
use Rattle.yarn_value.specs.declared.value.Kind.{Kind}
use Rattle.yarn_value.specs.declared.value.Kind.TheVariants as kind
use Rattle.yarn_value.specs.Pairs.{Pairs, value_under}

-- the variable that counts how often the node of that title was left
unfoldable pub count_name : List ℕ → List ℕ
count_name title = codes "$Yarn.Internal.Visiting." ++ title

abbrev pub number_in : Option Value → ℤ
number_in (Some (Number n)) = n
number_in (Some (Str text)) = pos 0
number_in (Some (Truth b)) = pos 0
number_in None = pos 0

-- how often the node of that title was left: 0 where no number is stored
abbrev pub visits : Pairs → List ℕ → ℤ
visits store title = number_in (value_under store (count_name title))

-- `visited` is a truth and `visited_count` a number
abbrev pub of_visits : Kind → ℤ → Value
of_visits kind.Truth count = Truth (int_lt (pos 0) count)
of_visits kind.Number count = Number count
of_visits kind.Str count = Number count
