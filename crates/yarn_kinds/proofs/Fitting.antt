-- The lines of trees fit a typing: what the lines ask, by the trees.
use Rattle.std.specs.Prelude.{◌≡◌, List, true, false, All, Option, Some, None, ⊤}
use Rattle.yarn_value.specs.declared.signature.Signature.{Signature}
use Rattle.yarn_value.specs.Values.{kind_of}
use Rattle.yarn_expr.specs.declared.tree.Expr.{Expr}
use Rattle.yarn_blocks.specs.declared.entry.Simple.{Simple}
use Rattle.yarn_blocks.specs.declared.entry.Simple.TheVariants as simple
use Rattle.yarn_blocks.specs.Tree.{Stmt, Leaf, Group, Choice, Stmts, Nil, Cons, Options, NoOptions, AndOption, Clauses, NoClauses, AndClause, Last, NoElse, ElseOf}
use Rattle.yarn_tree.specs.Trees.{FileTree}
use Rattle.yarn_types.specs.declared.typed.TypedName.{TypedName}
use Rattle.yarn_types.specs.Typings.{kinds_in}
use Rattle.yarn_types.specs.Units.{Asked, Values, ValuesIf, Value, Condition, Title, Set, Declare, fits_asked}
use Rattle.yarn_kinds.specs.Typed.{variables_in}

-- what an option line asks
abbrev pub offer_asks : List Expr → Option Expr → Asked
offer_asks holes None = Values holes
offer_asks holes (Some e) = ValuesIf holes e

module _ (signatures : List Signature) (entries : List TypedName) where
  -- the typing fits what one line asks
  abbrev pub FitsLine : Asked → Type 0
  FitsLine asked = fits_asked signatures (variables_in entries) (kinds_in entries) asked ≡ true

  abbrev pub FitsSimple : Simple → Type 0
  FitsSimple (simple.Line text) = FitsLine (Values text.holes)
  FitsSimple (simple.Set head name op e) = FitsLine (Set name op e)
  FitsSimple (simple.Declare head name value kind) = FitsLine (Declare name (kind_of value) kind)
  FitsSimple (simple.Jump head title) = ⊤
  FitsSimple (simple.JumpTo head e) = FitsLine (Title e)
  FitsSimple (simple.Stop head) = ⊤
  FitsSimple (simple.Call head e) = FitsLine (Value e)
  FitsSimple (simple.Command text) = FitsLine (Values text.holes)

  -- an option line and a clause line count by themselves
  abbrev mutual
    pub FitsAll : Stmts → Type 0
    FitsAll Nil = ⊤
    FitsAll (Cons s b) = FitsOne s × FitsAll b

    pub FitsOne : Stmt → Type 0
    FitsOne (Leaf s) = FitsSimple s
    FitsOne (Group os) = FitsOptions os
    FitsOne (Choice cs last e) = FitsClauses cs × FitsLast last

    pub FitsOptions : Options → Type 0
    FitsOptions NoOptions = ⊤
    FitsOptions (AndOption n body os) = FitsLine (offer_asks n.text.holes n.condition) × FitsAll body × FitsOptions os

    pub FitsClauses : Clauses → Type 0
    FitsClauses NoClauses = ⊤
    FitsClauses (AndClause n body cs) = FitsLine (Condition n.condition) × FitsAll body × FitsClauses cs

    pub FitsLast : Last → Type 0
    FitsLast NoElse = ⊤
    FitsLast (ElseOf head body) = FitsAll body

  -- the bodies of files fit
  abbrev pub FitsFiles : List FileTree → Type 0
  FitsFiles files = All (λ file. All (λ node. FitsAll node.body) file.nodes) files
