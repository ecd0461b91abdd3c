-- How many statements are at most done.
use Rattle.std.specs.Prelude.{ℕ, suc, ◌+◌}
use Rattle.yarn_blocks.specs.Tree.{Stmt, Leaf, Group, Choice, Stmts, Nil, Cons, Clauses, NoClauses, AndClause, Last, NoElse, ElseOf}

abbrev mutual
  pub weight : Stmts → ℕ
  weight Nil = 0
  weight (Cons s b) = suc (weight_one s + weight b)

  pub weight_one : Stmt → ℕ
  weight_one (Leaf s) = 0
  weight_one (Group os) = 0
  weight_one (Choice cs last e) = weight_clauses cs + weight_last last

  pub weight_clauses : Clauses → ℕ
  weight_clauses NoClauses = 0
  weight_clauses (AndClause n body cs) = weight body + weight_clauses cs

  pub weight_last : Last → ℕ
  weight_last NoElse = 0
  weight_last (ElseOf head body) = weight body
