-- What a builtin gives on values of its row's kinds that fit.
use Rattle.std.proofs.Common.{◌≡◌, ℕ, pos, int_lt, List, [], ◌∷◌, map, nat_eq, codes, Bool, true, false, if◌then◌else◌, Option, Some, None, refl, sym, subst}
use Rattle.std.specs.Cmp.Lexicographic.{pointwise}
use Rattle.yarn_value.specs.declared.value.Value.{Value}
use Rattle.yarn_value.specs.declared.value.Value.TheVariants.{Number, Str, Truth}
use Rattle.yarn_value.specs.declared.value.Kind.TheVariants as kind
use Rattle.yarn_value.specs.declared.operation.Op.{Op}
use Rattle.yarn_value.specs.declared.operation.Op.TheVariants as op
use Rattle.yarn_value.specs.declared.builtin.Param.TheVariants.{One}
use Rattle.yarn_value.specs.Values.{kind_of}
use Rattle.yarn_value.specs.Numbers.{fits}
use Rattle.yarn_value.specs.Rows.{takes}
use Rattle.yarn_value.specs.Builtins.{Row, row_named, builtin_rows, applied, on_visits, builtin_named}
use Rattle.yarn_value.specs.Pairs.{Pairs, same_name, value_under}
use Rattle.yarn_value.specs.Evaluation.{Scope}
use Rattle.yarn_value.specs.Calls.{builtin_result}
use Rattle.yarn_value.specs.Visits.{count_name, number_in, visits}
use Rattle.yarn_code.specs.Fields.{IsFitting}
use Rattle.yarn_check.specs.Shaped.{AreFitting, StoreFits}
use Rattle.yarn_check.proofs.Operations.{IsMeant, of_truth, of_number, operation_gives}

-- ---- what holds of each row of a table holds of the one of a name

abbrev OfRows : (Row → Type 0) → List Row → Type 0
OfRows Q [] = Unit {0}
OfRows Q (row ∷ rows) = Q row × OfRows Q rows

one_is : (row other : Row) → Some row ≡ Some other → row ≡ other
one_is row other h = cc

of_named : (Q : Row → Type 0) (rows : List Row) (name : List ℕ) (row : Row) → OfRows Q rows → row_named rows name ≡ Some row → Q row
of_named Q [] name row all h = absurd cc
of_named Q (first ∷ rows) name row all h = by_test (of_named Q rows name row all.1) (pointwise nat_eq first.name name) h
  where
    by_test : (row_named rows name ≡ Some row → Q row) → (b : Bool) → (if b then Some first else row_named rows name) ≡ Some row → Q row
    by_test later true is = subst Q (one_is first row is) all.0
    by_test later false is = later is

-- each row of the language applies an operation, or is one of the two on visits
by_rows : (Q : Row → Type 0) → ((name : List ℕ) (o : Op) → Q (applied name o)) → ((name : List ℕ) → Q (on_visits name kind.Truth)) →
    ((name : List ℕ) → Q (on_visits name kind.Number)) →
    OfRows Q builtin_rows
by_rows Q applies visited count = (
  applies (codes "#add") op.Add,
  (
    applies (codes "#and") op.And,
    (
      applies (codes "#concat") op.Concat,
      (
        applies (codes "#div") op.Div,
        (
          applies (codes "#eq") op.Eq,
          (
            applies (codes "#gt") op.Gt,
            (
              applies (codes "#gte") op.Gte,
              (
                applies (codes "#lt") op.Lt,
                (
                  applies (codes "#lte") op.Lte,
                  (
                    applies (codes "#mul") op.Mul,
                    (
                      applies (codes "#neg") op.Neg,
                      (
                        applies (codes "#neq") op.Neq,
                        (
                          applies (codes "#not") op.Not,
                          (
                            applies (codes "#or") op.Or,
                            (
                              applies (codes "#rem") op.Rem,
                              (
                                applies (codes "#sub") op.Sub,
                                (
                                  applies (codes "#xor") op.Xor,
                                  (
                                    applies (codes "bool") op.TruthOf,
                                    (
                                      applies (codes "number") op.NumberOf,
                                      (
                                        applies (codes "string") op.TextOf,
                                        (visited (codes "visited"), (count (codes "visited_count"), tt)),
                                      ),
                                    ),
                                  ),
                                ),
                              ),
                            ),
                          ),
                        ),
                      ),
                    ),
                  ),
                ),
              ),
            ),
          ),
        ),
      ),
    ),
  ),
)

-- what holds of such rows holds of each builtin
of_builtin : (Q : Row → Type 0) → ((name : List ℕ) (o : Op) → Q (applied name o)) → ((name : List ℕ) → Q (on_visits name kind.Truth)) →
    ((name : List ℕ) → Q (on_visits name kind.Number)) →
    (name : List ℕ) (row : Row) → builtin_named name ≡ Some row → Q row
unfolding builtin_named
of_builtin Q applies visited count name row is = of_named Q builtin_rows name row (by_rows Q applies visited count) is

-- ---- the rows of builtins

-- ---- a value of a store that fits

abbrev pub FitsIf : Option Value → Type 0
FitsIf (Some value) = IsFitting value
FitsIf None = Unit {0}

pub under_fits : (ps : Pairs) (name : List ℕ) → StoreFits ps → FitsIf (value_under ps name)
under_fits [] name h = tt
under_fits (p ∷ ps) name h = by_test (under_fits ps name h.1) (same_name name p.0)
  where
    by_test : FitsIf (value_under ps name) → (b : Bool) → FitsIf (if b then Some p.1 else value_under ps name)
    by_test later true = h.0
    by_test later false = later

number_fits : (o : Option Value) → FitsIf o → fits (number_in o) ≡ true
number_fits (Some (Number n)) h = h
number_fits (Some (Str text)) h = refl
number_fits (Some (Truth b)) h = refl
number_fits None h = refl

visits_fit : (store : Pairs) (title : List ℕ) → StoreFits store → fits (visits store title) ≡ true
visits_fit store title h = number_fits (value_under store (count_name title)) (under_fits store (count_name title) h)

-- ---- the rows of builtins

abbrev GivesKind : Row → Type 0
GivesKind row = (scope : Scope) (store : Pairs) (args : List Value) → StoreFits store → AreFitting args → takes row.first row.second (map kind_of args) ≡ true →
    IsMeant row.result (builtin_result scope store row args)

applied_gives : (name : List ℕ) (o : Op) → GivesKind (applied name o)
applied_gives name o scope store args stored fit h = operation_gives o args h fit

-- the title of a node
text_taken : (args : List Value) → takes (Some (One kind.Str)) None (map kind_of args) ≡ true → (title : List ℕ) × (args ≡ Str title ∷ [])
text_taken [] h = absurd cc
text_taken (Str title ∷ []) h = (title, refl)
text_taken (Number n ∷ []) h = absurd cc
text_taken (Truth b ∷ []) h = absurd cc
text_taken (v ∷ w ∷ vs) h = absurd cc

visited_gives : (name : List ℕ) → GivesKind (on_visits name kind.Truth)
visited_gives name scope store args stored fit h =
    let taken = text_taken args h in
    subst (λ a. IsMeant kind.Truth (builtin_result scope store (on_visits name kind.Truth) a)) (sym taken.1) (of_truth (int_lt (pos 0) (visits store taken.0)))

count_gives : (name : List ℕ) → GivesKind (on_visits name kind.Number)
count_gives name scope store args stored fit h =
    let taken = text_taken args h in
    subst (λ a. IsMeant kind.Number (builtin_result scope store (on_visits name kind.Number) a)) (sym taken.1) (of_number (visits store taken.0) (visits_fit store taken.0 stored))

pub builtin_gives : (name : List ℕ) (row : Row) → builtin_named name ≡ Some row → GivesKind row
builtin_gives = of_builtin GivesKind applied_gives visited_gives count_gives
