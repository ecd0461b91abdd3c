-- The code of statements is as long as their sizes say.
use Rattle.std.proofs.Common.{◌≡◌, ℕ, ◌+◌, List, [], ◌∷◌, ◌++◌, length, is_some, refl, arith, length-append}
use Rattle.yarn_blocks.specs.Tree as T
use Rattle.yarn_blocks.specs.Tree.{Leaf, Group, Choice, Nil, Cons, NoOptions, AndOption, NoClauses, AndClause, NoElse, ElseOf, Offered}
use Rattle.yarn_meaning.specs.Does.{group_line}
use Rattle.yarn_code.specs.declared.program.Instr.TheVariants as code
use Rattle.yarn_code.specs.Parts.{coded}
use Rattle.yarn_compile.specs.Code.{Terms, expr_code, exprs_code, condition_code, head_size, heads_size, ask_size, size, size_all, bodies_size, clauses_size, last_size, head_code, heads_code, ask_code, stmt_code, stmts_code, bodies_code, clauses_code, last_code}

module _ (terms : Terms) (title : List ℕ) where
  pub length-head : (label : ℕ) (n : Offered) → length (head_code terms title label n) ≡ head_size terms n
  length-head label n =
      let add = coded n.text.line (code.AddOption (length n.text.holes) n.text.id label (is_some n.condition)) in
      omega (arith, length-append (exprs_code terms n.text.line n.text.holes) (condition_code terms n.text.line n.condition ++ add ∷ []), length-append (condition_code terms n.text.line n.condition) (add ∷ []))

  pub length-heads : (bodies : ℕ) (os : T.Options) → length (heads_code terms title bodies os) ≡ heads_size terms os
  length-heads bodies NoOptions = refl
  length-heads bodies (AndOption n body os) =
      let next : ℕ = bodies + (size_all terms title body + 1) in
      omega (arith, length-append (head_code terms title bodies n) (heads_code terms title next os), length-head bodies n, length-heads next os)

  pub length-ask : (otherwise : ℕ) (n : T.Asked) → length (ask_code terms title otherwise n) ≡ ask_size terms n
  length-ask otherwise n = length-append (expr_code terms n.head.line n.condition) (coded n.head.line (code.JumpIfFalse otherwise) ∷ coded n.head.line code.Pop ∷ [])

  mutual
    pub length-stmt : (at : ℕ) (s : T.Stmt) → length (stmt_code terms title at s) ≡ size terms title s
    length-stmt at (Leaf s) = refl
    length-stmt at (Group os) =
        let first : ℕ = at + heads_size terms os + 2 in
        let end : ℕ = at + heads_size terms os + 2 + bodies_size terms title os in
        let bodies = bodies_code terms title first end os in
        let line = group_line os in
        omega (
          arith,
          length-append (heads_code terms title first os) (coded line code.ShowOptions ∷ coded line code.Jump ∷ (bodies ++ coded line code.Pop ∷ [])),
          length-append bodies (coded line code.Pop ∷ []),
          length-heads first os,
          length-bodies first end os,
        )
    length-stmt at (Choice cs last e) =
        let middle : ℕ = at + clauses_size terms title cs in
        let end : ℕ = at + clauses_size terms title cs + last_size terms title last in
        omega (arith, length-append (clauses_code terms title at end cs) (last_code terms title middle last), length-clauses at end cs, length-last middle last)

    pub length-stmts : (at : ℕ) (b : T.Stmts) → length (stmts_code terms title at b) ≡ size_all terms title b
    length-stmts at Nil = refl
    length-stmts at (Cons s b) =
        let next : ℕ = at + size terms title s in
        omega (arith, length-append (stmt_code terms title at s) (stmts_code terms title next b), length-stmt at s, length-stmts next b)

    pub length-bodies : (at end : ℕ) (os : T.Options) → length (bodies_code terms title at end os) ≡ bodies_size terms title os
    length-bodies at end NoOptions = refl
    length-bodies at end (AndOption n body os) =
        let rest = bodies_code terms title (at + (size_all terms title body + 1)) end os in
        omega (arith, length-append (stmts_code terms title at body) (coded n.text.line (code.JumpTo end) ∷ rest), length-stmts at body, length-bodies (at + (size_all terms title body + 1)) end os)

    pub length-clauses : (at end : ℕ) (cs : T.Clauses) → length (clauses_code terms title at end cs) ≡ clauses_size terms title cs
    length-clauses at end NoClauses = refl
    length-clauses at end (AndClause n body cs) =
        let otherwise : ℕ = at + ask_size terms n + size_all terms title body + 1 in
        let stmts = stmts_code terms title (at + ask_size terms n) body in
        let next : ℕ = at + ask_size terms n + size_all terms title body + 2 in
        let rest = coded n.head.line (code.JumpTo end) ∷ coded n.head.line code.Pop ∷ clauses_code terms title next end cs in
        omega (arith, length-append (ask_code terms title otherwise n) (stmts ++ rest), length-append stmts rest, length-ask otherwise n, length-stmts (at + ask_size terms n) body, length-clauses next end cs)

    pub length-last : (at : ℕ) (last : T.Last) → length (last_code terms title at last) ≡ last_size terms title last
    length-last at NoElse = refl
    length-last at (ElseOf head body) = length-stmts at body
