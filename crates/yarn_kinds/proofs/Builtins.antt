-- A row of the table of operators and builtins gives its kind on values of the kinds that it takes.
use Rattle.std.proofs.Common.{◌≡◌, ℕ, List, [], ◌∷◌, map, nat_eq, codes, Bool, true, false, if◌then◌else◌, Ok, Err, Option, Some, None, refl, subst}
use Rattle.std.specs.Cmp.Lexicographic.{pointwise}
use Rattle.yarn_value.specs.declared.value.Value.{Value}
use Rattle.yarn_value.specs.declared.value.Value.TheVariants.{Number, Str, Truth}
use Rattle.yarn_value.specs.declared.value.Kind.{Kind}
use Rattle.yarn_value.specs.declared.value.Kind.TheVariants as kind
use Rattle.yarn_value.specs.declared.operation.Op.{Op}
use Rattle.yarn_value.specs.declared.operation.Op.TheVariants as op
use Rattle.yarn_value.specs.declared.builtin.Param.TheVariants.{One}
use Rattle.yarn_value.specs.Values.{kind_of}
use Rattle.yarn_value.specs.Rows.{takes, result_of}
use Rattle.yarn_value.specs.Builtins.{Row, row_named, builtin_rows, applied, on_visits, builtin_named}
use Rattle.yarn_value.specs.Operations.{Outcome, operation}
use Rattle.yarn_types.specs.Fits as fits
use Rattle.yarn_value.specs.Pairs.{Pairs}
use Rattle.yarn_value.specs.Tape.{Tape}
use Rattle.yarn_meaning.specs.Eval.{of_outcome, builtin_value}
use Rattle.yarn_value.specs.Evaluation.{Scope}
use Rattle.yarn_kinds.proofs.Evaluations.{IsOf}
use Rattle.yarn_kinds.proofs.Operations.{IsMeant, operation_gives}

pub of_meant : (k : Kind) (o : Option Outcome) (t : Tape) → IsMeant k o → IsOf k (of_outcome o t)
of_meant k (Some (Ok value)) t h = h
of_meant k (Some (Err fault)) t h = tt
of_meant k None t h = absurd h

-- ---- what holds of each row of a table holds of the one of a name

abbrev pub OfRows : (Row → Type 0) → List Row → Type 0
OfRows Q [] = Unit {0}
OfRows Q (row ∷ rows) = Q row × OfRows Q rows

one_is : (row other : Row) → Some row ≡ Some other → row ≡ other
one_is row other h = cc

of_named : (Q : Row → Type 0) (rows : List Row) (name : List ℕ) (row : Row) → OfRows Q rows → row_named rows name ≡ Some row → Q row
of_named Q [] name row all h = absurd cc
of_named Q (first ∷ rows) name row all h = by_test (of_named Q rows name row all.1) (pointwise nat_eq first.name name) h
  where
    by_test : (row_named rows name ≡ Some row → Q row) → (b : Bool) → (if b then Some first else row_named rows name) ≡ Some row → Q row
    by_test later true is = subst Q (one_is first row is) all.0
    by_test later false is = later is

-- each row of the language applies an operation, or is one of the two on visits
by_rows : (Q : Row → Type 0) → ((name : List ℕ) (o : Op) → Q (applied name o)) → ((name : List ℕ) → Q (on_visits name kind.Truth)) → ((name : List ℕ) → Q (on_visits name kind.Number)) →
    OfRows Q builtin_rows
by_rows Q applies visited count = (
  applies (codes "#add") op.Add,
  (
    applies (codes "#and") op.And,
    (
      applies (codes "#concat") op.Concat,
      (
        applies (codes "#div") op.Div,
        (
          applies (codes "#eq") op.Eq,
          (
            applies (codes "#gt") op.Gt,
            (
              applies (codes "#gte") op.Gte,
              (
                applies (codes "#lt") op.Lt,
                (
                  applies (codes "#lte") op.Lte,
                  (
                    applies (codes "#mul") op.Mul,
                    (
                      applies (codes "#neg") op.Neg,
                      (
                        applies (codes "#neq") op.Neq,
                        (
                          applies (codes "#not") op.Not,
                          (
                            applies (codes "#or") op.Or,
                            (
                              applies (codes "#rem") op.Rem,
                              (
                                applies (codes "#sub") op.Sub,
                                (
                                  applies (codes "#xor") op.Xor,
                                  (
                                    applies (codes "bool") op.TruthOf,
                                    (
                                      applies (codes "number") op.NumberOf,
                                      (
                                        applies (codes "string") op.TextOf,
                                        (visited (codes "visited"), (count (codes "visited_count"), tt)),
                                      ),
                                    ),
                                  ),
                                ),
                              ),
                            ),
                          ),
                        ),
                      ),
                    ),
                  ),
                ),
              ),
            ),
          ),
        ),
      ),
    ),
  ),
)

-- what holds of such rows holds of each builtin
pub of_builtin : (Q : Row → Type 0) → ((name : List ℕ) (o : Op) → Q (applied name o)) → ((name : List ℕ) → Q (on_visits name kind.Truth)) → ((name : List ℕ) → Q (on_visits name kind.Number)) →
    (name : List ℕ) (row : Row) → builtin_named name ≡ Some row → Q row
unfolding builtin_named
of_builtin Q applies visited count name row is = of_named Q builtin_rows name row (by_rows Q applies visited count) is

-- ---- the rows of builtins

abbrev pub GivesKind : Row → Type 0
GivesKind row = (scope : Scope) (store : Pairs) (args : List Value) (t : Tape) → takes row.first row.second (map kind_of args) ≡ true → IsOf row.result (builtin_value scope store row.op row.result args t)

applied_gives : (name : List ℕ) (o : Op) → GivesKind (applied name o)
applied_gives name o scope store args t h = of_meant (result_of o) (operation o args) t (operation_gives o args h)

-- the title of a node
pub text_taken : (args : List Value) → takes (Some (One kind.Str)) None (map kind_of args) ≡ true → (title : List ℕ) × (args ≡ Str title ∷ [])
text_taken [] h = absurd cc
text_taken (Str title ∷ []) h = (title, refl)
text_taken (Number n ∷ []) h = absurd cc
text_taken (Truth b ∷ []) h = absurd cc
text_taken (v ∷ w ∷ vs) h = absurd cc

visited_gives : (name : List ℕ) → GivesKind (on_visits name kind.Truth)
visited_gives name scope store args t h = let taken = text_taken args h in rw taken.1 refl

count_gives : (name : List ℕ) → GivesKind (on_visits name kind.Number)
count_gives name scope store args t h = let taken = text_taken args h in rw taken.1 refl

pub builtin_gives : (name : List ℕ) (row : Row) → builtin_named name ≡ Some row → GivesKind row
builtin_gives = of_builtin GivesKind applied_gives visited_gives count_gives
