-- The texts of the lines, options and commands of a tree are templates.
use Rattle.std.proofs.Common.{List, [], ◌∷◌, ◌++◌, length, subst}
use Rattle.std.specs.List.{AllByRecursion}
use Rattle.yarn_blocks.specs.declared.entry.Entry.{Entry}
use Rattle.yarn_blocks.specs.declared.entry.Simple.{Simple}
use Rattle.yarn_blocks.specs.declared.entry.Simple.TheVariants as simple
use Rattle.yarn_blocks.specs.declared.entry.What.{What}
use Rattle.yarn_blocks.specs.declared.entry.What.TheVariants as what
use Rattle.yarn_blocks.specs.declared.tree.Head.{Head}
use Rattle.yarn_blocks.specs.declared.tree.LineText.{LineText}
use Rattle.yarn_blocks.specs.Block.{Block, empty, statement, option, choice, Tail, ends, otherwise, next}
use Rattle.yarn_blocks.specs.Tree as T
use Rattle.yarn_blocks.specs.Tree.{Leaf, Group, Choice, Nil, Cons, NoOptions, AndOption, NoClauses, AndClause, NoElse, ElseOf, Offered, and_option}
use Rattle.yarn_code.specs.Fields.{IsText}

-- the text is a template for its substitutions
abbrev pub HasTemplate : LineText → Type 0
HasTemplate text = IsText text.text (length text.holes)

abbrev pub SimpleText : Simple → Type 0
SimpleText (simple.Line text) = HasTemplate text
SimpleText (simple.Command text) = HasTemplate text
SimpleText (simple.Set head name op e) = Unit {0}
SimpleText (simple.Declare head name v k) = Unit {0}
SimpleText (simple.Jump head title) = Unit {0}
SimpleText (simple.JumpTo head e) = Unit {0}
SimpleText (simple.Stop head) = Unit {0}
SimpleText (simple.Call head e) = Unit {0}

-- so is each text of the statements
abbrev mutual
  pub AreTexts : T.Stmts → Type 0
  AreTexts Nil = Unit {0}
  AreTexts (Cons s b) = TextsOfOne s × AreTexts b

  pub TextsOfOne : T.Stmt → Type 0
  TextsOfOne (Leaf s) = SimpleText s
  TextsOfOne (Group os) = TextsOfOptions os
  TextsOfOne (Choice cs last e) = TextsOfClauses cs × TextsOfLast last

  pub TextsOfOptions : T.Options → Type 0
  TextsOfOptions NoOptions = Unit {0}
  TextsOfOptions (AndOption n body os) = HasTemplate n.text × AreTexts body × TextsOfOptions os

  pub TextsOfClauses : T.Clauses → Type 0
  TextsOfClauses NoClauses = Unit {0}
  TextsOfClauses (AndClause n body cs) = AreTexts body × TextsOfClauses cs

  pub TextsOfLast : T.Last → Type 0
  TextsOfLast NoElse = Unit {0}
  TextsOfLast (ElseOf head body) = AreTexts body

-- ---- the statements of a block

abbrev pub WhatText : What → Type 0
WhatText (what.Statement s) = SimpleText s
WhatText (what.Offer text asked) = HasTemplate text
WhatText (what.If head e) = Unit {0}
WhatText (what.ElseIf head e) = Unit {0}
WhatText (what.Else head) = Unit {0}
WhatText (what.EndIf head) = Unit {0}

abbrev pub EntryText : Entry → Type 0
EntryText x = WhatText x.what

module _ {A : Type 0} (P : A → Type 0) where
  pub all_front : (a b : List A) → AllByRecursion P (a ++ b) → AllByRecursion P a
  all_front [] b h = tt
  all_front (x ∷ a) b h = (h.0, all_front a b h.1)

  pub all_back : (a b : List A) → AllByRecursion P (a ++ b) → AllByRecursion P b
  all_back [] b h = h
  all_back (x ∷ a) b h = all_back a b h.1

and_texts : (n : Offered) (body b : T.Stmts) → HasTemplate n.text → AreTexts body → AreTexts b → AreTexts (and_option n body b)
and_texts n body Nil own inner more = ((own, inner, tt), tt)
and_texts n body (Cons (Leaf m) b) own inner more = ((own, inner, tt), more)
and_texts n body (Cons (Group os) b) own inner more = ((own, inner, more.0), more.1)
and_texts n body (Cons (Choice cs last e) b) own inner more = ((own, inner, tt), more)

mutual
  pub block_texts : {xs behind : List Entry} {b : T.Stmts} → Block xs behind b → AllByRecursion EntryText xs → AreTexts b
  block_texts empty h = tt
  block_texts (statement {x = x} {n = n} {xs = xs} {b = b} w r) h = (subst WhatText w h.0, block_texts r h.1)
  block_texts (option {x = x} {n = n} {run = run} {xs = xs} {body = body} {b = b} w e first r) h =
      and_texts n body b (subst WhatText w h.0) (block_texts first (all_front EntryText run xs h.1)) (block_texts r (all_back EntryText run xs h.1))
  block_texts (choice {x = x} {n = n} {e = e} {xs = xs} {rest = rest} {ys = ys} {b = b} {c = c} {cs = cs} {last = last} w first more r) h =
      let behind = all_back EntryText xs (rest ++ ys) h.1 in
      let tail = tail_texts more (all_front EntryText rest ys behind) in
      (((block_texts first (all_front EntryText xs (rest ++ ys) h.1), tail.0), tail.1), block_texts r (all_back EntryText rest ys behind))

  tail_texts : {xs behind : List Entry} {cs : T.Clauses} {last : T.Last} {e : Head} → Tail xs behind cs last e → AllByRecursion EntryText xs →
      TextsOfClauses cs × TextsOfLast last
  tail_texts (ends {x = x} {e = e} w) h = (tt, tt)
  tail_texts (otherwise {x = x} {y = y} {n = n} {e = e} {xs = xs} {b = b} w first v) h = (tt, block_texts first (all_front EntryText xs (y ∷ []) h.1))
  tail_texts (next {x = x} {n = n} {xs = xs} {rest = rest} {b = b} {cs = cs} {last = last} w first more) h =
      let tail = tail_texts more (all_back EntryText xs rest h.1) in
      ((block_texts first (all_front EntryText xs rest h.1), tail.0), tail.1)
