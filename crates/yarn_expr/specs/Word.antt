-- What a word means in an expression: an operator, a negation, a literal, or a name.
-- Source: docs/language.md, Tokens and expressions.
use Rattle.std.specs.Prelude.{ℕ, List, Bool, true, false, codes, nat_eq, if◌then◌else◌, ◌||◌}
use Rattle.std.specs.Cmp.Lexicographic.{pointwise}
use Rattle.yarn_expr.specs.declared.word.WordMeaning.{WordMeaning}
use Rattle.yarn_expr.specs.declared.word.WordMeaning.TheVariants.{Operator, Negation, Literal, Name}
use Rattle.yarn_expr.specs.declared.tree.BinaryOp.TheVariants.{Lte, Gte, Lt, Gt, Eq, Neq, And, Or, Xor}

-- the word is spelled so
abbrev pub is_spelled : List ℕ → List ℕ → Bool
is_spelled word spelling = pointwise nat_eq word spelling

unfoldable pub meaning_of : List ℕ → WordMeaning
meaning_of w =
    if is_spelled w (codes "lte") then Operator Lte
    else if is_spelled w (codes "gte") then Operator Gte
    else if is_spelled w (codes "lt") then Operator Lt
    else if is_spelled w (codes "gt") then Operator Gt
    else if is_spelled w (codes "is") || is_spelled w (codes "eq") then Operator Eq
    else if is_spelled w (codes "neq") then Operator Neq
    else if is_spelled w (codes "and") then Operator And
    else if is_spelled w (codes "or") then Operator Or
    else if is_spelled w (codes "xor") then Operator Xor
    else if is_spelled w (codes "not") then Negation
    else if is_spelled w (codes "true") then Literal true
    else if is_spelled w (codes "false") then Literal false
    else Name

-- a word with a meaning of its own
abbrev pub is_no_name : WordMeaning → Bool
is_no_name (Operator op) = true
is_no_name Negation = true
is_no_name (Literal value) = true
is_no_name Name = false

-- a reserved word
abbrev pub is_reserved : List ℕ → Bool
is_reserved word = is_no_name (meaning_of word)
