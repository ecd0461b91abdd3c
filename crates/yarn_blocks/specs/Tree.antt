-- The statements of a body as plain data, which of them are too deep, and where a group has too many options.
-- Source: docs/language.md, Structure of a body and Refusals of a project.
use Rattle.std.specs.Prelude.{ℕ, ◌+◌, nat_lt, nat_eq, if◌then◌else◌, Option, Some, None}
use Rattle.std.specs.Option.{option_or}
use Rattle.yarn_expr.specs.declared.tree.Expr.{Expr}
use Rattle.yarn_blocks.specs.declared.tree.Head.{Head}
use Rattle.yarn_blocks.specs.declared.tree.LineText.{LineText}
use Rattle.yarn_blocks.specs.declared.entry.Simple.{Simple}
use Rattle.yarn_blocks.specs.Entries.{line_of}

-- the line of an option
pub record Offered : Type 0 where
  pub text : LineText
  pub condition : Option Expr

-- the line of an `if` or an `elseif`
pub record Asked : Type 0 where
  pub head : Head
  pub condition : Expr

mutual
  pub data Stmt : Type 0 where
    Leaf : Simple → Stmt
    Group : Options → Stmt
    -- the clauses, the `else`, the `endif`
    Choice : Clauses → Last → Head → Stmt

  pub data Stmts : Type 0 where
    Nil : Stmts
    Cons : Stmt → Stmts → Stmts

  pub data Options : Type 0 where
    NoOptions : Options
    AndOption : Offered → Stmts → Options → Options

  pub data Clauses : Type 0 where
    NoClauses : Clauses
    AndClause : Asked → Stmts → Clauses → Clauses

  pub data Last : Type 0 where
    NoElse : Last
    ElseOf : Head → Stmts → Last

-- one list behind another
abbrev pub stmts_then : Stmts → Stmts → Stmts
stmts_then Nil b = b
stmts_then (Cons s a) b = Cons s (stmts_then a b)

abbrev pub options_then : Options → Options → Options
options_then NoOptions b = b
options_then (AndOption n body a) b = AndOption n body (options_then a b)

abbrev pub clauses_then : Clauses → Clauses → Clauses
clauses_then NoClauses b = b
clauses_then (AndClause n body a) b = AndClause n body (clauses_then a b)

-- a list with an option in front, which joins the group there
abbrev pub and_option : Offered → Stmts → Stmts → Stmts
and_option n body Nil = Cons (Group (AndOption n body NoOptions)) Nil
and_option n body (Cons (Leaf m) b) = Cons (Group (AndOption n body NoOptions)) (Cons (Leaf m) b)
and_option n body (Cons (Group os) b) = Cons (Group (AndOption n body os)) b
and_option n body (Cons (Choice cs last e) b) = Cons (Group (AndOption n body NoOptions)) (Cons (Choice cs last e) b)

-- a line at this depth, where the depth is over 64
abbrev pub over_64 : ℕ → ℕ → Option ℕ
over_64 depth line = if nat_lt 64 depth then Some line else None

-- the first line of a statement of depth over 64, where the statements have this depth; a clause line has the depth of its `if`
abbrev mutual
  pub deep_in : ℕ → Stmts → Option ℕ
  deep_in depth Nil = None
  deep_in depth (Cons s b) = option_or (deep_one depth s) (deep_in depth b)

  pub deep_one : ℕ → Stmt → Option ℕ
  deep_one depth (Leaf s) = over_64 depth (line_of s)
  deep_one depth (Group os) = deep_options depth os
  deep_one depth (Choice cs last e) = option_or (deep_clauses depth cs) (option_or (deep_last depth last) (over_64 depth e.line))

  pub deep_options : ℕ → Options → Option ℕ
  deep_options depth NoOptions = None
  deep_options depth (AndOption n body os) = option_or (over_64 depth n.text.line) (option_or (deep_in (depth + 1) body) (deep_options depth os))

  pub deep_clauses : ℕ → Clauses → Option ℕ
  deep_clauses depth NoClauses = None
  deep_clauses depth (AndClause n body cs) = option_or (over_64 depth n.head.line) (option_or (deep_in (depth + 1) body) (deep_clauses depth cs))

  pub deep_last : ℕ → Last → Option ℕ
  deep_last depth NoElse = None
  deep_last depth (ElseOf n body) = option_or (over_64 depth n.line) (deep_in (depth + 1) body)

-- the line of an option before which so many stand in its group, where it is the 65th
abbrev pub behind_64 : ℕ → ℕ → Option ℕ
behind_64 before line = if nat_eq before 64 then Some line else None

-- the line of the first 65th option of a group
abbrev mutual
  pub crowd_in : Stmts → Option ℕ
  crowd_in Nil = None
  crowd_in (Cons s b) = option_or (crowd_one s) (crowd_in b)

  pub crowd_one : Stmt → Option ℕ
  crowd_one (Leaf s) = None
  crowd_one (Group os) = crowd_options 0 os
  crowd_one (Choice cs last e) = option_or (crowd_clauses cs) (crowd_last last)

  -- these options, where so many stand before them in their group
  pub crowd_options : ℕ → Options → Option ℕ
  crowd_options before NoOptions = None
  crowd_options before (AndOption n body os) = option_or (behind_64 before n.text.line) (option_or (crowd_in body) (crowd_options (before + 1) os))

  pub crowd_clauses : Clauses → Option ℕ
  crowd_clauses NoClauses = None
  crowd_clauses (AndClause n body cs) = option_or (crowd_in body) (crowd_clauses cs)

  pub crowd_last : Last → Option ℕ
  crowd_last NoElse = None
  crowd_last (ElseOf n body) = crowd_in body
