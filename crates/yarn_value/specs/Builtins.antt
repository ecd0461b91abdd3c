-- The table of operators and builtins, and how a row is found by its name.
use Rattle.std.specs.Prelude.{ℕ, List, [], ◌∷◌, map, codes, Bool, true, ◌&&◌, nat_eq, if◌then◌else◌, Option, Some, None}
use Rattle.std.specs.List.{list_all}
use Rattle.std.specs.Ordering.{nat_cmp, is_lt}
use Rattle.std.specs.Cmp.Lexicographic.{pointwise, slice_cmp}
use Rattle.yarn_value.specs.declared.builtin.Builtin.{Builtin}
use Rattle.yarn_value.specs.declared.builtin.Param.{Param}
use Rattle.yarn_value.specs.declared.builtin.Param.TheVariants.{One}
use Rattle.yarn_value.specs.declared.value.Kind.{Kind}
use Rattle.yarn_value.specs.declared.value.Kind.TheVariants.{Number, Str, Truth}
use Rattle.yarn_value.specs.declared.operation.Op.{Op}
use Rattle.yarn_value.specs.declared.operation.Op.TheVariants.{Add, And, Concat, Div, Eq, Gt, Gte, Lt, Lte, Mul, Neg, Neq, Not, Or, Rem, Sub, Xor, TruthOf, NumberOf, TextOf}
use Rattle.yarn_value.specs.Rows.{first_of, second_of, result_of}

-- a row, whose name is seen as its bytes
pub record Row : Type 0 where
  pub name : List ℕ
  pub first : Option Param
  pub second : Option Param
  pub result : Kind
  pub op : Option Op

abbrev pub row_of : Builtin → Row
row_of row = record { name = row.name.now; first = row.first; second = row.second; result = row.result; op = row.op }

abbrev pub rows_of : List Builtin → List Row
rows_of = map row_of

-- the bytes of a name come before those of another
abbrev pub is_before : List ℕ → List ℕ → Bool
is_before a b = is_lt (slice_cmp nat_cmp a b)

-- each name comes before all later ones
abbrev pub is_rising : List Row → Bool
is_rising [] = true
is_rising (row ∷ rows) = list_all (λ later. is_before row.name later.name) rows && is_rising rows

-- the row of that name
abbrev pub row_named : List Row → List ℕ → Option Row
row_named [] name = None
row_named (row ∷ rows) name = if pointwise nat_eq row.name name then Some row else row_named rows name

-- a row that `apply` takes
abbrev pub applied : List ℕ → Op → Row
applied name op = record { name = name; first = first_of op; second = second_of op; result = result_of op; op = Some op }

-- a row on the visits of a node, which the store knows
abbrev pub on_visits : List ℕ → Kind → Row
on_visits name kind = record { name = name; first = Some (One Str); second = None; result = kind; op = None }

abbrev pub builtin_rows : List Row
builtin_rows =
    applied (codes "#add") Add
    ∷ applied (codes "#and") And
    ∷ applied (codes "#concat") Concat
    ∷ applied (codes "#div") Div
    ∷ applied (codes "#eq") Eq
    ∷ applied (codes "#gt") Gt
    ∷ applied (codes "#gte") Gte
    ∷ applied (codes "#lt") Lt
    ∷ applied (codes "#lte") Lte
    ∷ applied (codes "#mul") Mul
    ∷ applied (codes "#neg") Neg
    ∷ applied (codes "#neq") Neq
    ∷ applied (codes "#not") Not
    ∷ applied (codes "#or") Or
    ∷ applied (codes "#rem") Rem
    ∷ applied (codes "#sub") Sub
    ∷ applied (codes "#xor") Xor
    ∷ applied (codes "bool") TruthOf
    ∷ applied (codes "number") NumberOf
    ∷ applied (codes "string") TextOf
    ∷ on_visits (codes "visited") Truth
    ∷ on_visits (codes "visited_count") Number
    ∷ []

-- the row of the builtin of that name
unfoldable pub builtin_named : List ℕ → Option Row
builtin_named name = row_named builtin_rows name
