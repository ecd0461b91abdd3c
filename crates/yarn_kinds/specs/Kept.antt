-- What a run keeps: the kinds of its variables, and counts that are numbers (docs/meaning.md, Kinds).
use Rattle.std.specs.Prelude.{◌≡◌, ℕ, List, [], ◌∷◌, ◌++◌, Bool, true, false, All, map}
use Rattle.yarn_base.specs.declared.SourceFile.{SourceFile}
use Rattle.yarn_value.specs.declared.value.Value.{Value}
use Rattle.yarn_value.specs.declared.value.Value.TheVariants.{Number, Str, Truth}
use Rattle.yarn_value.specs.declared.value.Kind.{Kind}
use Rattle.yarn_value.specs.declared.value.Kind.TheVariants as kind
use Rattle.yarn_value.specs.declared.signature.Signature.{Signature}
use Rattle.yarn_expr.specs.declared.tree.Expr.{Expr}
use Rattle.yarn_nodes.specs.declared.node.FileLines.{FileLines}
use Rattle.yarn_blocks.specs.Tree.{Stmts}
use Rattle.yarn_tree.specs.Trees.{NodeTree, FileTree, grown}
use Rattle.yarn_tree.specs.Checks.{is_reserved_name}
use Rattle.yarn_types.specs.declared.typed.TypedName.{TypedName}
use Rattle.yarn_types.specs.Names.{Appearance}
use Rattle.yarn_types.specs.Typings.{kinds_in}
use Rattle.yarn_types.specs.Units.{Title, Condition, fits_asked}
use Rattle.yarn_code.specs.Moments.{State, Moment}
use Rattle.yarn_value.specs.Pairs.{Pairs}
use Rattle.yarn_value.specs.Tape.{Tape}
use Rattle.yarn_meaning.specs.Eval.{stored, eval}
use Rattle.yarn_value.specs.Evaluation.{Scope, Gives}
use Rattle.yarn_value.specs.Visits.{count_name, visits}
use Rattle.yarn_meaning.specs.Does.{does_all}
use Rattle.yarn_meaning.specs.First.{first_of}
use Rattle.yarn_meaning.specs.Variables.{variables_of, first_store}
use Rattle.yarn_kinds.specs.Typed.{variables_in, FitsUnits, IsTyped, Keeps, AreAccepted}
use Rattle.yarn_infer.specs.Units.{stmts_units}
use Rattle.yarn_code.specs.Kinds.{HasKind, Holds, KeepsKinds}

-- ---- one expression

-- a condition that fits gives a truth
abbrev pub Conditions : Type 0
Conditions = (scope : Scope) (variables : List Appearance) (kinds : List Kind) (store : Pairs) (e : Expr) (tape left : Tape) (value : Value) →
    Keeps variables kinds store → fits_asked scope.functions variables kinds (Condition e) ≡ true →
    eval scope store e tape ≡ Gives value left → (b : Bool) × (value ≡ Truth b)

-- a jump's expression that fits gives a text
abbrev pub Titles : Type 0
Titles = (scope : Scope) (variables : List Appearance) (kinds : List Kind) (store : Pairs) (e : Expr) (tape left : Tape) (value : Value) →
    Keeps variables kinds store → fits_asked scope.functions variables kinds (Title e) ≡ true →
    eval scope store e tape ≡ Gives value left → (text : List ℕ) × (value ≡ Str text)

-- ---- a run

-- the store has each variable in its kind, and the counts of these titles are numbers
pub record IsSound (entries : List TypedName) (titles : List (List ℕ)) (store : Pairs) : Type 0 where
  pub keeps : Keeps (variables_in entries) (kinds_in entries) store
  pub counts : All (λ title. HasKind store (count_name title) kind.Number) titles

-- so are the store of each moment and the last one
pub record AreSound (entries : List TypedName) (titles : List (List ℕ)) (moments : List Moment) (st : State) : Type 0 where
  pub shown : All (λ m. IsSound entries titles m.state.store) moments
  pub left : IsSound entries titles st.store

-- statements that fit keep that, where no variable of the typing is a count
abbrev pub StatementsKeep : Type 0
StatementsKeep = (scope : Scope) (entries : List TypedName) (titles : List (List ℕ)) (b : Stmts) (st : State) →
    All (λ entry. is_reserved_name entry.name ≡ false) entries → FitsUnits scope.functions entries (stmts_units 0 b) → IsSound entries titles st.store →
    AreSound entries titles (does_all scope b st).moments (does_all scope b st).state

-- a run of files that fit keeps it
abbrev pub RunsKeep : Type 0
RunsKeep = (signatures : List Signature) (entries : List TypedName) (titles : List (List ℕ)) (files : List FileTree) (start : List ℕ) (st : State) (k : ℕ) →
    IsTyped signatures entries files → IsSound entries titles st.store →
    AreSound entries titles (first_of signatures files start st k).moments (first_of signatures files start st k).state

-- ---- the beginning of a run

-- the state with the variables with which a run of the files begins
abbrev pub beginning : List TypedName → List FileTree → State → State
beginning entries files st = record { store = first_store st.store entries files; answers = st.answers; tape = st.tape }

abbrev pub titles_within : List NodeTree → List (List ℕ)
titles_within [] = []
titles_within (n ∷ ns) = n.title ∷ titles_within ns

abbrev pub titles_of : List FileTree → List (List ℕ)
titles_of [] = []
titles_of (f ∷ fs) = titles_within f.nodes ++ titles_of fs

-- a store that holds the variables of files that fit is sound, with the counts of all their nodes
abbrev pub HeldIsSound : Type 0
HeldIsSound = (signatures : List Signature) (entries : List TypedName) (files : List FileTree) (store : Pairs) →
    IsTyped signatures entries files → Holds (variables_of entries files) store → IsSound entries (titles_of files) store

-- ---- counts

-- a count that is a number is the number of visits
abbrev pub CountIsStored : Type 0
CountIsStored = (store : Pairs) (title : List ℕ) → HasKind store (count_name title) kind.Number → stored store (count_name title) ≡ Number (visits store title)

-- ---- accepted projects

-- each moment of a run of an accepted project is sound, from a store in which each variable that is there has its kind
abbrev pub AcceptedIsSound : Type 0
AcceptedIsSound = (signatures : List Signature) (sources : List SourceFile) (lines : List FileLines) (entries : List TypedName) (start : List ℕ) (st : State) (k : ℕ) →
    AreAccepted signatures sources lines entries → KeepsKinds (variables_of entries (map grown lines)) st.store →
    AreSound entries (titles_of (map grown lines))
    (first_of signatures (map grown lines) start (beginning entries (map grown lines) st) k).moments
    (first_of signatures (map grown lines) start (beginning entries (map grown lines) st) k).state

-- the store with which a run of an accepted project begins holds the variables, where each one that is given has its kind
abbrev pub BegunHolds : Type 0
BegunHolds = (signatures : List Signature) (sources : List SourceFile) (lines : List FileLines) (entries : List TypedName) (pairs : Pairs) →
    AreAccepted signatures sources lines entries → KeepsKinds (variables_of entries (map grown lines)) pairs →
    Holds (variables_of entries (map grown lines)) (first_store pairs entries (map grown lines))
