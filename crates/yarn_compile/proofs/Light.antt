-- The statements of a block are light where its entries are, and light statements have room.
use Rattle.std.proofs.Common.{◌≤◌, List, [], ◌∷◌, ◌++◌, length, Option, Some, None, subst, arith}
use Rattle.yarn_expr.specs.declared.tree.Expr.{Expr}
use Rattle.yarn_blocks.specs.declared.entry.Entry.{Entry}
use Rattle.yarn_blocks.specs.declared.entry.Simple.{Simple}
use Rattle.yarn_blocks.specs.declared.entry.Simple.TheVariants as simple
use Rattle.yarn_blocks.specs.declared.entry.What.{What}
use Rattle.yarn_blocks.specs.declared.entry.What.TheVariants as what
use Rattle.yarn_blocks.specs.declared.tree.Head.{Head}
use Rattle.yarn_blocks.specs.Block.{Block, empty, statement, option, choice, Tail, ends, otherwise, next}
use Rattle.yarn_blocks.specs.Tree as T
use Rattle.yarn_blocks.specs.Tree.{Leaf, Group, Choice, Nil, Cons, NoOptions, AndOption, NoClauses, AndClause, NoElse, ElseOf, Offered, and_option, over_64, behind_64, deep_in, deep_one, deep_options, deep_clauses, deep_last, crowd_in, crowd_one, crowd_options, crowd_clauses, crowd_last}
use Rattle.yarn_compile.proofs.Parts.{Each, each_front, each_back}
use Rattle.yarn_expr.proofs.Levels.{levels}
use Rattle.yarn_compile.proofs.Room.{option_count}

abbrev pub LightExpr : Expr → Type 0
LightExpr e = levels e ≤ 64

-- substitutions
abbrev pub LightAll : List Expr → Type 0
LightAll es = (length es ≤ 16) × Each LightExpr es

abbrev pub LightIf : Option Expr → Type 0
LightIf None = Unit {0}
LightIf (Some e) = LightExpr e

abbrev pub LightSimple : Simple → Type 0
LightSimple (simple.Line text) = LightAll text.holes
LightSimple (simple.Command text) = LightAll text.holes
LightSimple (simple.Set head name op e) = LightExpr e
LightSimple (simple.Declare head name v k) = Unit {0}
LightSimple (simple.Jump head title) = Unit {0}
LightSimple (simple.JumpTo head e) = LightExpr e
LightSimple (simple.Stop head) = Unit {0}
LightSimple (simple.Call head e) = LightExpr e

abbrev pub LightWhat : What → Type 0
LightWhat (what.Statement s) = LightSimple s
LightWhat (what.Offer text asked) = LightAll text.holes × LightIf asked
LightWhat (what.If head e) = LightExpr e
LightWhat (what.ElseIf head e) = LightExpr e
LightWhat (what.Else head) = Unit {0}
LightWhat (what.EndIf head) = Unit {0}

abbrev pub LightEntry : Entry → Type 0
LightEntry x = LightWhat x.what

abbrev mutual
  pub Light : T.Stmts → Type 0
  Light Nil = Unit {0}
  Light (Cons s b) = LightOne s × Light b

  pub LightOne : T.Stmt → Type 0
  LightOne (Leaf s) = LightSimple s
  LightOne (Group os) = (1 ≤ option_count os) × LightOptions os
  LightOne (Choice cs last e) = LightClauses cs × LightLast last

  pub LightOptions : T.Options → Type 0
  LightOptions NoOptions = Unit {0}
  LightOptions (AndOption n body os) = (LightAll n.text.holes × LightIf n.condition) × Light body × LightOptions os

  pub LightClauses : T.Clauses → Type 0
  LightClauses NoClauses = Unit {0}
  LightClauses (AndClause n body cs) = LightExpr n.condition × Light body × LightClauses cs

  pub LightLast : T.Last → Type 0
  LightLast NoElse = Unit {0}
  LightLast (ElseOf head body) = Light body

-- ---- the statements of a block

and_light : (n : Offered) (body b : T.Stmts) → LightAll n.text.holes × LightIf n.condition → Light body → Light b → Light (and_option n body b)
and_light n body Nil own inner rest = ((omega arith, (own, inner, tt)), tt)
and_light n body (Cons (Leaf m) b) own inner rest = ((omega arith, (own, inner, tt)), rest)
and_light n body (Cons (Group os) b) own inner rest = ((omega arith, (own, inner, rest.0.1)), rest.1)
and_light n body (Cons (Choice cs last e) b) own inner rest = ((omega arith, (own, inner, tt)), rest)

mutual
  pub block_light : {xs behind : List Entry} {b : T.Stmts} → Block xs behind b → Each LightEntry xs → Light b
  block_light empty h = tt
  block_light (statement {x = x} {n = n} {xs = xs} {b = b} w r) h = (subst LightWhat w h.0, block_light r h.1)
  block_light (option {x = x} {n = n} {run = run} {xs = xs} {body = body} {b = b} w e first r) h =
      and_light n body b (subst LightWhat w h.0) (block_light first (each_front LightEntry run xs h.1)) (block_light r (each_back LightEntry run xs h.1))
  block_light (choice {x = x} {n = n} {e = e} {xs = xs} {rest = rest} {ys = ys} {b = b} {c = c} {cs = cs} {last = last} w first more r) h =
      let tail = tail_light more (each_front LightEntry rest ys (each_back LightEntry xs (rest ++ ys) h.1)) in
      (((subst LightWhat w h.0, block_light first (each_front LightEntry xs (rest ++ ys) h.1), tail.0), tail.1), block_light r (each_back LightEntry rest ys (each_back LightEntry xs (rest ++ ys) h.1)))

  tail_light : {xs behind : List Entry} {cs : T.Clauses} {last : T.Last} {e : Head} → Tail xs behind cs last e → Each LightEntry xs → LightClauses cs × LightLast last
  tail_light (ends {x = x} {e = e} w) h = (tt, tt)
  tail_light (otherwise {x = x} {y = y} {n = n} {e = e} {xs = xs} {b = b} w first v) h = (tt, block_light first (each_front LightEntry xs (y ∷ []) h.1))
  tail_light (next {x = x} {n = n} {xs = xs} {rest = rest} {b = b} {cs = cs} {last = last} w first more) h =
      let tail = tail_light more (each_back LightEntry xs rest h.1) in
      ((subst LightWhat w h.0, block_light first (each_front LightEntry xs rest h.1), tail.0), tail.1)
