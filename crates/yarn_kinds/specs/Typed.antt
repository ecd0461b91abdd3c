-- Projects that are accepted, with their one typing (docs/language.md, Typing and Refusals of a project).
use Rattle.std.specs.Prelude.{◌≡◌, ℕ, List, map, true, false, All, Some}
use Rattle.yarn_base.specs.declared.SourceFile.{SourceFile}
use Rattle.yarn_value.specs.declared.value.Value.{Value}
use Rattle.yarn_value.specs.declared.value.Kind.{Kind}
use Rattle.yarn_value.specs.declared.signature.Signature.{Signature}
use Rattle.yarn_value.specs.Values.{kind_of}
use Rattle.yarn_value.specs.Pairs.{Pairs}
use Rattle.yarn_value.specs.Tape.{Tape}
use Rattle.yarn_value.specs.Evaluation.{Scope, Gives}
use Rattle.yarn_expr.specs.declared.tree.Expr.{Expr}
use Rattle.yarn_nodes.specs.declared.node.FileLines.{FileLines}
use Rattle.yarn_tree.specs.Checks.{is_reserved_name}
use Rattle.yarn_tree.specs.Reading.{Reads, reading_of}
use Rattle.yarn_tree.specs.Trees.{FileTree, grown}
use Rattle.yarn_types.specs.declared.typed.TypedName.{TypedName}
use Rattle.yarn_types.specs.Names.{Appearance, appearance}
use Rattle.yarn_types.specs.Fits.{kind_of_variable}
use Rattle.yarn_types.specs.Fits as fits
use Rattle.yarn_types.specs.Typings.{kinds_in}
use Rattle.yarn_types.specs.Units.{UnitAt, fits_all}
use Rattle.yarn_infer.specs.Units.{units_of}
use Rattle.yarn_infer.specs.Typings.{Typed, kinding_of}
use Rattle.yarn_code.specs.Kinds.{HasKind}
use Rattle.yarn_code.specs.Fields.{IsFunctionField, AreUnique, function_names}
use Rattle.yarn_meaning.specs.Eval.{eval}

-- ---- one expression

-- the store has a value of its kind for each variable of a typing
abbrev pub Keeps : List Appearance → List Kind → Pairs → Type 0
Keeps variables kinds store = (name : List ℕ) (kind : Kind) → kind_of_variable variables kinds name ≡ Some kind → HasKind store name kind

-- the value of an expression is of the kind that the typing gives it
abbrev pub Kinds : Type 0
Kinds = (scope : Scope) (variables : List Appearance) (kinds : List Kind) (store : Pairs) (e : Expr) (kind : Kind)
    (tape left : Tape) (value : Value) →
    Keeps variables kinds store → fits.kind_of scope.functions variables kinds e ≡ Some kind →
    eval scope store e tape ≡ Gives value left → kind_of value ≡ kind

-- ---- a typing

-- the variables of a typing; their places are of no matter here
abbrev pub variables_in : List TypedName → List Appearance
variables_in = map (λ entry. appearance entry.name (record { file = 0; line = 0 }))

-- the typing fits these lines
abbrev pub FitsUnits : List Signature → List TypedName → List UnitAt → Type 0
FitsUnits signatures entries units = fits_all signatures (variables_in entries) (kinds_in entries) units ≡ true

-- the typing fits the files, and no variable of it is a count
pub record IsTyped (signatures : List Signature) (entries : List TypedName) (files : List FileTree) : Type 0 where
  pub fits : FitsUnits signatures entries (units_of files)
  pub unreserved : All (λ entry. is_reserved_name entry.name ≡ false) entries

-- ---- accepted projects

-- no name comes again, and each is a name that neither expressions nor builtins have
pub record AreProper (signatures : List Signature) : Type 0 where
  pub each : All IsFunctionField signatures
  pub differ : AreUnique (function_names signatures)

-- files that are accepted with these signatures, the lines that are read of them, and their one typing
pub record AreAccepted (signatures : List Signature) (sources : List SourceFile) (lines : List FileLines) (entries : List TypedName) : Type 0 where
  pub proper : AreProper signatures
  pub read : reading_of signatures sources ≡ Reads lines
  pub typed : kinding_of signatures (units_of (map grown lines)) ≡ Typed entries

-- an accepted project is typed so
abbrev pub AcceptedIsTyped : Type 0
AcceptedIsTyped = (signatures : List Signature) (sources : List SourceFile) (lines : List FileLines) (entries : List TypedName) →
    AreAccepted signatures sources lines entries → IsTyped signatures entries (map grown lines)
