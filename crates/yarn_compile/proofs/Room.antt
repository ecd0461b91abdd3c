-- The statements of a body have room on the stack, and groups are neither empty nor too large.
use Rattle.std.proofs.Common.{ℕ, suc, ◌+◌, ◌<◌, ◌≤◌, max, arith, List, [], ◌∷◌, length, map, Option, Some, None}
use Rattle.yarn_expr.specs.declared.tree.Expr.{Expr}
use Rattle.yarn_expr.specs.declared.tree.BinaryOp.{BinaryOp}
use Rattle.yarn_blocks.specs.declared.entry.Simple.{Simple}
use Rattle.yarn_blocks.specs.declared.entry.Simple.TheVariants as simple
use Rattle.yarn_blocks.specs.Tree as T
use Rattle.yarn_blocks.specs.Tree.{Leaf, Group, Choice, Nil, Cons, NoOptions, AndOption, NoClauses, AndClause, NoElse, ElseOf, Offered}
use Rattle.yarn_compile.proofs.ExpressionShapes.{needs, need}

abbrev pub needs_of : List Expr → ℕ
needs_of es = needs (map need es)

pub needs-length : (es : List Expr) → length es < suc (needs_of es)
needs-length [] = omega arith
needs-length (e ∷ es) = omega (arith, needs-length es)

pub needs-positive : (es : List Expr) → 1 ≤ needs_of es
needs-positive [] = omega arith
needs-positive (e ∷ es) = omega (arith, needs-positive es)

abbrev pub set_need : Option BinaryOp → Expr → ℕ
set_need None e = need e
set_need (Some op) e = suc (need e)

-- how much room a line takes
abbrev pub simple_need : Simple → ℕ
simple_need (simple.Line text) = needs_of text.holes
simple_need (simple.Command text) = needs_of text.holes
simple_need (simple.Set head name op e) = set_need op e
simple_need (simple.Declare head name value kind) = 0
simple_need (simple.Jump head title) = 2
simple_need (simple.JumpTo head e) = max (need e) 3
simple_need (simple.Stop head) = 2
simple_need (simple.Call head e) = need e

-- the substitutions and the condition of an option
abbrev pub offered_need : List Expr → Option Expr → ℕ
offered_need holes None = needs_of holes
offered_need holes (Some e) = max (needs_of holes) (length holes + need e)

pub offered-positive : (holes : List Expr) (c : Option Expr) → 1 ≤ offered_need holes c
offered-positive holes None = needs-positive holes
offered-positive holes (Some c) = omega (arith, needs-positive holes)

abbrev pub option_count : T.Options → ℕ
option_count NoOptions = 0
option_count (AndOption n body os) = suc (option_count os)

-- on a stack of so many entries
abbrev mutual
  pub HasRoom : ℕ → T.Stmts → Type 0
  HasRoom depth Nil = Unit {0}
  HasRoom depth (Cons s b) = HasRoomOne depth s × HasRoom depth b

  pub HasRoomOne : ℕ → T.Stmt → Type 0
  HasRoomOne depth (Leaf s) = (depth + 3 ≤ 2048) × (depth + simple_need s ≤ 2048)
  HasRoomOne depth (Group os) = (1 ≤ option_count os) × (option_count os ≤ 64) × HasRoomOptions depth os
  HasRoomOne depth (Choice cs last e) = HasRoomClauses depth cs × HasRoomLast depth last

  pub HasRoomOptions : ℕ → T.Options → Type 0
  HasRoomOptions depth NoOptions = Unit {0}
  HasRoomOptions depth (AndOption n body os) = (suc depth + offered_need n.text.holes n.condition ≤ 2048) × HasRoom (suc depth) body × HasRoomOptions depth os

  pub HasRoomClauses : ℕ → T.Clauses → Type 0
  HasRoomClauses depth NoClauses = Unit {0}
  HasRoomClauses depth (AndClause n body cs) = (depth + need n.condition ≤ 2048) × HasRoom depth body × HasRoomClauses depth cs

  pub HasRoomLast : ℕ → T.Last → Type 0
  HasRoomLast depth NoElse = Unit {0}
  HasRoomLast depth (ElseOf head body) = HasRoom depth body
