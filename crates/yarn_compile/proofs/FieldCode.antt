-- The code of fine statements has fine operands.
use Rattle.std.proofs.Common.{◌≡◌, ℕ, ◌+◌, ◌≤◌, List, [], ◌∷◌, ◌++◌, length, map, pos, Option, Some, None, is_some, refl, Bool, true, false}
use Rattle.yarn_expr.specs.declared.tree.BinaryOp.{BinaryOp}
use Rattle.yarn_expr.specs.declared.tree.Expr.{Expr}
use Rattle.yarn_blocks.specs.declared.entry.Simple.{Simple}
use Rattle.yarn_blocks.specs.declared.entry.Simple.TheVariants as simple
use Rattle.yarn_blocks.specs.declared.tree.LineText.{LineText}
use Rattle.yarn_blocks.specs.Tree as T
use Rattle.yarn_blocks.specs.Tree.{Leaf, Group, Choice, Nil, Cons, NoOptions, AndOption, NoClauses, AndClause, NoElse, ElseOf, Offered, Asked}
use Rattle.yarn_tree.specs.Trees.{NodeTree}
use Rattle.yarn_code.specs.declared.program.Instr.{Instr}
use Rattle.yarn_code.specs.declared.program.Instr.TheVariants as code
use Rattle.yarn_code.specs.declared.program.Coded.{Coded}
use Rattle.yarn_code.specs.Parts.{coded}
use Rattle.yarn_code.specs.Fields.{HasOperands}
use Rattle.yarn_meaning.specs.Does.{group_line}
use Rattle.yarn_compile.specs.Code.{Terms, expr_code, exprs_code, condition_code, exit_code, stop_code, end_code, store_code, set_code, simple_code, size, size_all, heads_size, bodies_size, clauses_size, last_size, ask_size, head_code, heads_code, ask_code, stmt_code, stmts_code, bodies_code, clauses_code, last_code, body_code}
use Rattle.yarn_compile.proofs.Parts.{Each, each_append}
use Rattle.yarn_compile.proofs.Texts.{HasTemplate, SimpleText, AreTexts, TextsOfOne, TextsOfOptions, TextsOfClauses, TextsOfLast}
use Rattle.yarn_compile.proofs.FieldFunctions.{IsShortCall}
use Rattle.yarn_compile.proofs.FieldExpressions.{FineInstr, FineCoded, FineCode, FineExpr}
use Rattle.yarn_compile.proofs.FieldItems.{FineIf}
use Rattle.yarn_compile.proofs.FieldTrees.{FineSimple, FineOffered, FineAll, FineOne, FineOptions, FineClauses, FineLast}

then_fine : (a b : List Coded) → FineCode a → FineCode b → FineCode (a ++ b)
then_fine = each_append FineCoded

module _ (terms : Terms) where
  exprs_fine : (line : ℕ) (es : List Expr) → Each FineExpr es → FineCode (exprs_code terms line es)
  exprs_fine line [] h = tt
  exprs_fine line (e ∷ es) h = then_fine (expr_code terms line e) (exprs_code terms line es) (h.0.codes terms line) (exprs_fine line es h.1)

  condition_fine : (line : ℕ) (o : Option Expr) → FineIf o → FineCode (condition_code terms line o)
  condition_fine line None h = tt
  condition_fine line (Some e) h = h.codes terms line

  exit_fine : (title : List ℕ) (line : ℕ) → FineCode (exit_code terms title line)
  exit_fine title line = (tt, (refl, (tt, (tt, (tt, tt)))))

  stop_fine : (title : List ℕ) (line : ℕ) → FineCode (stop_code terms title line)
  stop_fine title line = (tt, (refl, (tt, (tt, (tt, (tt, tt))))))

  set_fine : (line : ℕ) (name : List ℕ) (op : Option BinaryOp) (e : Expr) → FineExpr e → FineCode (set_code terms line name op e)
  set_fine line name None e h = h.codes terms line
  set_fine line name (Some op) e h = (tt, then_fine (expr_code terms line e) _ (h.codes terms line) (tt, tt))

  simple_fine : (title : List ℕ) (s : Simple) → FineSimple s → SimpleText s → FineCode (simple_code terms title s)
  simple_fine title (simple.Line text) h is = then_fine (exprs_code terms text.line text.holes) _ (exprs_fine text.line text.holes h) (is.few, tt)
  simple_fine title (simple.Command text) h is = then_fine (exprs_code terms text.line text.holes) _ (exprs_fine text.line text.holes h) (is, tt)
  simple_fine title (simple.Set head name op e) h is = then_fine (set_code terms head.line name op e) _ (set_fine head.line name op e h.1) (tt, (tt, tt))
  simple_fine title (simple.Declare head name v kind) h is = tt
  simple_fine title (simple.Jump head to) h is =
      then_fine (exit_code terms title head.line) (coded head.line (code.PushString to) ∷ coded head.line code.RunNode ∷ [])
      (exit_fine title head.line) (h, (tt, tt))
  simple_fine title (simple.JumpTo head e) h is =
      then_fine (expr_code terms head.line e) (exit_code terms title head.line ++ coded head.line code.RunNode ∷ []) (h.codes terms head.line)
      (then_fine (exit_code terms title head.line) (coded head.line code.RunNode ∷ []) (exit_fine title head.line) (tt, tt))
  simple_fine title (simple.Stop head) h is = stop_fine title head.line
  simple_fine title (simple.Call head e) h is = then_fine (expr_code terms head.line e) _ (h.codes terms head.line) (tt, tt)

  module _ (title : List ℕ) where
    head_fine : (label : ℕ) (n : Offered) → FineOffered n → HasTemplate n.text → FineCode (head_code terms title label n)
    head_fine label n h is =
        then_fine (exprs_code terms n.text.line n.text.holes) _ (exprs_fine n.text.line n.text.holes h.0)
        (then_fine (condition_code terms n.text.line n.condition) _ (condition_fine n.text.line n.condition h.1) (is.few, tt))

    heads_fine : (bodies : ℕ) (os : T.Options) → FineOptions os → TextsOfOptions os → FineCode (heads_code terms title bodies os)
    heads_fine bodies NoOptions h is = tt
    heads_fine bodies (AndOption n body os) h is =
        then_fine (head_code terms title bodies n) (heads_code terms title (bodies + (size_all terms title body + 1)) os)
        (head_fine bodies n h.0 is.0) (heads_fine (bodies + (size_all terms title body + 1)) os h.2 is.2)

    ask_fine : (otherwise : ℕ) (n : Asked) → FineExpr n.condition → FineCode (ask_code terms title otherwise n)
    ask_fine otherwise n h = then_fine (expr_code terms n.head.line n.condition) _ (h.codes terms n.head.line) (tt, (tt, tt))

    mutual
      stmt_fine : (at : ℕ) (s : T.Stmt) → FineOne s → TextsOfOne s → FineCode (stmt_code terms title at s)
      stmt_fine at (Leaf s) h is = simple_fine title s h is
      stmt_fine at (Group os) h is =
          let to : ℕ = at + heads_size terms os + 2 in
          let end : ℕ = at + heads_size terms os + 2 + bodies_size terms title os in
          then_fine (heads_code terms title to os) _ (heads_fine to os h is)
          (tt, (tt, then_fine (bodies_code terms title to end os) _ (bodies_fine to end os h is) (tt, tt)))
      stmt_fine at (Choice cs last e) h is =
          let end : ℕ = at + clauses_size terms title cs + last_size terms title last in
          then_fine (clauses_code terms title at end cs) (last_code terms title (at + clauses_size terms title cs) last)
          (clauses_fine at end cs h.0 is.0) (last_fine (at + clauses_size terms title cs) last h.1 is.1)

      stmts_fine : (at : ℕ) (b : T.Stmts) → FineAll b → AreTexts b → FineCode (stmts_code terms title at b)
      stmts_fine at Nil h is = tt
      stmts_fine at (Cons s b) h is =
          then_fine (stmt_code terms title at s) (stmts_code terms title (at + size terms title s) b) (stmt_fine at s h.0 is.0)
          (stmts_fine (at + size terms title s) b h.1 is.1)

      bodies_fine : (at end : ℕ) (os : T.Options) → FineOptions os → TextsOfOptions os → FineCode (bodies_code terms title at end os)
      bodies_fine at end NoOptions h is = tt
      bodies_fine at end (AndOption n body os) h is =
          then_fine (stmts_code terms title at body) _ (stmts_fine at body h.1 is.1)
          (tt, bodies_fine (at + (size_all terms title body + 1)) end os h.2 is.2)

      clauses_fine : (at end : ℕ) (cs : T.Clauses) → FineClauses cs → TextsOfClauses cs → FineCode (clauses_code terms title at end cs)
      clauses_fine at end NoClauses h is = tt
      clauses_fine at end (AndClause n body cs) h is =
          then_fine (ask_code terms title (at + ask_size terms n + size_all terms title body + 1) n) _
          (ask_fine (at + ask_size terms n + size_all terms title body + 1) n h.0)
          (then_fine (stmts_code terms title (at + ask_size terms n) body) _ (stmts_fine (at + ask_size terms n) body h.1 is.0)
          (tt, (tt, clauses_fine (at + ask_size terms n + size_all terms title body + 2) end cs h.2 is.1)))

      last_fine : (at : ℕ) (last : T.Last) → FineLast last → TextsOfLast last → FineCode (last_code terms title at last)
      last_fine at NoElse h is = tt
      last_fine at (ElseOf head body) h is = stmts_fine at body h is

  pub code_fine : (n : NodeTree) → FineAll n.body → AreTexts n.body → FineCode (body_code terms n)
  code_fine n h is =
      then_fine (stmts_code terms n.title 0 n.body) (end_code terms n.title n.end_line) (stmts_fine n.title 0 n.body h is) (stop_fine n.title n.end_line)

-- with at most 16 arguments, a call's operands are as they may be, too
operands_from : (i : Instr) → FineInstr i → IsShortCall i → HasOperands i
operands_from (code.CallFunc count name) h short = short
operands_from (code.JumpTo label) h short = h
operands_from code.Jump h short = h
operands_from (code.RunLine count id) h short = h
operands_from (code.RunCommand count text) h short = h
operands_from (code.AddOption count id label conditional) h short = h
operands_from code.ShowOptions h short = h
operands_from (code.PushString text) h short = h
operands_from (code.PushFloat number) h short = h
operands_from (code.PushBool b) h short = h
operands_from code.PushNull h short = h
operands_from (code.JumpIfFalse label) h short = h
operands_from code.Pop h short = h
operands_from (code.PushVariable name) h short = h
operands_from (code.StoreVariable name) h short = h
operands_from code.Stop h short = h
operands_from code.RunNode h short = h

pub all_operands : (cs : List Coded) → FineCode cs → Each (λ (c : Coded). IsShortCall c.instr) cs → Each (λ (c : Coded). HasOperands c.instr) cs
all_operands [] h short = tt
all_operands (c ∷ cs) h short = (operands_from c.instr h.0 short.0, all_operands cs h.1 short.1)
