-- The code of a project (docs/instructions.md, The code of a project).
use Rattle.std.specs.Prelude.{ℕ, ◌+◌, pos, List, [], ◌∷◌, ◌++◌, length, map, codes, if◌then◌else◌, Option, Some, None, is_some}
use Rattle.yarn_value.specs.declared.value.Kind.{Kind}
use Rattle.yarn_value.specs.declared.value.Kind.TheVariants as kind
use Rattle.yarn_value.specs.declared.signature.Signature.{Signature}
use Rattle.yarn_value.specs.Builtins.{Row, builtin_named}
use Rattle.yarn_value.specs.Signatures.{signature_named}
use Rattle.yarn_value.specs.Pairs.{Pairs}
use Rattle.yarn_value.specs.Visits.{count_name}
use Rattle.yarn_expr.specs.declared.tree.UnaryOp.{UnaryOp}
use Rattle.yarn_expr.specs.declared.tree.UnaryOp.TheVariants.{Neg, Not}
use Rattle.yarn_expr.specs.declared.tree.BinaryOp.{BinaryOp}
use Rattle.yarn_expr.specs.declared.tree.BinaryOp.TheVariants.{Mul, Div, Rem, Add, Sub, Lte, Gte, Lt, Gt, Eq, Neq, And, Or, Xor}
use Rattle.yarn_expr.specs.declared.tree.Expr.{Expr}
use Rattle.yarn_expr.specs.declared.tree.Expr.TheOpen.{Expr-F}
use Rattle.yarn_expr.specs.declared.tree.Expr.TheFolds.{fold-Expr}
use Rattle.yarn_blocks.specs.declared.entry.Simple.{Simple}
use Rattle.yarn_blocks.specs.declared.entry.Simple.TheVariants as simple
use Rattle.yarn_blocks.specs.Tree as T
use Rattle.yarn_blocks.specs.Tree.{Leaf, Group, Choice, Nil, Cons, NoOptions, AndOption, NoClauses, AndClause, NoElse, ElseOf, Offered}
use Rattle.yarn_tree.specs.Trees.{NodeTree, FileTree}
use Rattle.yarn_types.specs.declared.typed.TypedName.{TypedName}
use Rattle.yarn_types.specs.Fits.{kind_step, kind_of_variable}
use Rattle.yarn_types.specs.Typings.{kinds_in}
use Rattle.yarn_code.specs.declared.program.Instr.{Instr}
use Rattle.yarn_code.specs.declared.program.Instr.TheVariants as code
use Rattle.yarn_code.specs.declared.program.Coded.{Coded}
use Rattle.yarn_code.specs.declared.program.CodeNode.{CodeNode}
use Rattle.yarn_code.specs.declared.program.Variable.{Variable}
use Rattle.yarn_code.specs.declared.program.Program.{Program}
use Rattle.yarn_code.specs.Parts.{coded, variable}
use Rattle.yarn_meaning.specs.Does.{group_line}
use Rattle.yarn_meaning.specs.First.{Placed, nodes_from}
use Rattle.yarn_meaning.specs.Variables.{variables_of}
use Rattle.yarn_kinds.specs.Typed.{variables_in}
use Rattle.yarn_compile.specs.Base.{names_of, base_rows}

-- ---- the names of operators

abbrev pub unary_name : UnaryOp → List ℕ
unary_name Neg = codes "#neg"
unary_name Not = codes "#not"

-- `+` joins texts, and adds numbers
abbrev pub plus_name : Option Kind → List ℕ
plus_name (Some kind.Str) = codes "#concat"
plus_name (Some kind.Number) = codes "#add"
plus_name (Some kind.Truth) = codes "#add"
plus_name None = codes "#add"

-- the name of an operator whose left side has that kind
abbrev pub binary_name : BinaryOp → Option Kind → List ℕ
binary_name Mul left = codes "#mul"
binary_name Div left = codes "#div"
binary_name Rem left = codes "#rem"
binary_name Add left = plus_name left
binary_name Sub left = codes "#sub"
binary_name Lte left = codes "#lte"
binary_name Gte left = codes "#gte"
binary_name Lt left = codes "#lt"
binary_name Gt left = codes "#gt"
binary_name Eq left = codes "#eq"
binary_name Neq left = codes "#neq"
binary_name And left = codes "#and"
binary_name Or left = codes "#or"
binary_name Xor left = codes "#xor"

-- what the code of statements needs to know of their project
pub record Terms : Type 0 where
  pub signatures : List Signature
  pub entries : List TypedName

-- ---- expressions

-- the code of an expression, and its kind
pub record TypedCode : Type 0 where
  pub kind : Option Kind
  pub code : List Coded

abbrev pub typed_code : Option Kind → List Coded → TypedCode
typed_code kind code = record { kind = kind; code = code }

abbrev pub kinds_of_all : List TypedCode → List (Option Kind)
kinds_of_all = map (λ part. part.kind)

-- the codes of parts, one behind the other
abbrev pub code_of_all : List TypedCode → List Coded
code_of_all [] = []
code_of_all (part ∷ parts) = part.code ++ code_of_all parts

module _ (terms : Terms) where
  -- the kind of a variable
  abbrev pub kind_of_name : List ℕ → Option Kind
  kind_of_name name = kind_of_variable (variables_in terms.entries) (kinds_in terms.entries) name

  -- the kind of a node of an expression, whose parts have these kinds
  abbrev pub kind_of_node : Expr-F (Option Kind) → Option Kind
  kind_of_node = kind_step terms.signatures (variables_in terms.entries) (kinds_in terms.entries)

  -- one node, with the code of each part in its place; all instructions are of that line
  abbrev pub code_step : ℕ → Expr-F TypedCode → TypedCode
  code_step line (Expr-F.Number n) = typed_code (kind_of_node (Expr-F.Number n)) (coded line (code.PushFloat n) ∷ [])
  code_step line (Expr-F.Str text) = typed_code (kind_of_node (Expr-F.Str text)) (coded line (code.PushString text) ∷ [])
  code_step line (Expr-F.Truth b) = typed_code (kind_of_node (Expr-F.Truth b)) (coded line (code.PushBool b) ∷ [])
  code_step line (Expr-F.Variable name) = typed_code (kind_of_node (Expr-F.Variable name)) (coded line (code.PushVariable name) ∷ [])
  code_step line (Expr-F.Group inner) = typed_code (kind_of_node (Expr-F.Group inner.kind)) inner.code
  code_step line (Expr-F.Unary op inner) =
      typed_code (kind_of_node (Expr-F.Unary op inner.kind)) (inner.code ++ coded line (code.CallFunc 1 (unary_name op)) ∷ [])
  code_step line (Expr-F.Binary op left right) =
      typed_code (kind_of_node (Expr-F.Binary op left.kind right.kind))
      (left.code ++ (right.code ++ coded line (code.CallFunc 2 (binary_name op left.kind)) ∷ []))
  code_step line (Expr-F.Call name args) =
      typed_code (kind_of_node (Expr-F.Call name (kinds_of_all args)))
      (code_of_all args ++ coded line (code.CallFunc (length args) name) ∷ [])

  abbrev pub typed_expr : ℕ → Expr → TypedCode
  typed_expr line = fold-Expr TypedCode (code_step line)

  -- an expression on that line: its value is pushed
  abbrev pub expr_code : ℕ → Expr → List Coded
  expr_code line e = (typed_expr line e).code

  -- the values of expressions are pushed, the last one on top
  abbrev pub exprs_code : ℕ → List Expr → List Coded
  exprs_code line [] = []
  exprs_code line (e ∷ es) = expr_code line e ++ exprs_code line es

  -- the condition of an option
  abbrev pub condition_code : ℕ → Option Expr → List Coded
  condition_code line None = []
  condition_code line (Some e) = expr_code line e

  -- ---- how a node is left

  -- adds 1 to the count of the node
  abbrev pub exit_code : List ℕ → ℕ → List Coded
  exit_code title line =
      coded line (code.PushVariable (count_name title)) ∷ coded line (code.PushFloat (pos 1)) ∷ coded line (code.CallFunc 2 (codes "#add"))
      ∷ coded line (code.StoreVariable (count_name title)) ∷ coded line code.Pop ∷ []

  -- `stop`
  abbrev pub stop_code : List ℕ → ℕ → List Coded
  stop_code title line = exit_code title line ++ coded line code.Stop ∷ []

  -- the end of a body
  abbrev pub end_code : List ℕ → ℕ → List Coded
  end_code title line = stop_code title line

  -- ---- statements that are one line

  -- the top is stored
  abbrev pub store_code : ℕ → List ℕ → List Coded
  store_code line name = coded line (code.StoreVariable name) ∷ coded line code.Pop ∷ []

  -- what is set: the expression, or the operator on the variable and the expression
  abbrev pub set_code : ℕ → List ℕ → Option BinaryOp → Expr → List Coded
  set_code line name None e = expr_code line e
  set_code line name (Some op) e =
      coded line (code.PushVariable name) ∷ (expr_code line e ++ coded line (code.CallFunc 2 (binary_name op (kind_of_name name))) ∷ [])

  -- in the node of that title
  abbrev pub simple_code : List ℕ → Simple → List Coded
  simple_code title (simple.Line text) =
      exprs_code text.line text.holes ++ coded text.line (code.RunLine (length text.holes) text.id) ∷ []
  simple_code title (simple.Command text) =
      exprs_code text.line text.holes ++ coded text.line (code.RunCommand (length text.holes) text.text) ∷ []
  simple_code title (simple.Set head name op e) = set_code head.line name op e ++ store_code head.line name
  simple_code title (simple.Declare head name value kind) = []
  simple_code title (simple.Jump head to) =
      exit_code title head.line ++ coded head.line (code.PushString to) ∷ coded head.line code.RunNode ∷ []
  simple_code title (simple.JumpTo head e) = expr_code head.line e ++ (exit_code title head.line ++ coded head.line code.RunNode ∷ [])
  simple_code title (simple.Stop head) = stop_code title head.line
  simple_code title (simple.Call head e) = expr_code head.line e ++ coded head.line code.Pop ∷ []

  -- ---- how many instructions statements have, wherever they stand

  -- an option before its body: its substitutions, its condition and its ADD_OPTION
  abbrev pub head_size : Offered → ℕ
  head_size n = length (exprs_code n.text.line n.text.holes) + length (condition_code n.text.line n.condition) + 1

  abbrev pub heads_size : T.Options → ℕ
  heads_size NoOptions = 0
  heads_size (AndOption n body os) = head_size n + heads_size os

  -- a condition, its JUMP_IF_FALSE and its POP
  abbrev pub ask_size : T.Asked → ℕ
  ask_size n = length (expr_code n.head.line n.condition) + 2

  module _ (title : List ℕ) where
    abbrev mutual
      pub size : T.Stmt → ℕ
      size (Leaf s) = length (simple_code title s)
      size (Group os) = heads_size os + 2 + bodies_size os + 1
      size (Choice cs last e) = clauses_size cs + last_size last

      pub size_all : T.Stmts → ℕ
      size_all Nil = 0
      size_all (Cons s b) = size s + size_all b

      -- the bodies of options, each with its jump to the end
      pub bodies_size : T.Options → ℕ
      bodies_size NoOptions = 0
      bodies_size (AndOption n body os) = size_all body + 1 + bodies_size os

      -- clauses, each with its jump to the end and the POP behind it
      pub clauses_size : T.Clauses → ℕ
      clauses_size NoClauses = 0
      clauses_size (AndClause n body cs) = ask_size n + size_all body + 2 + clauses_size cs

      pub last_size : T.Last → ℕ
      last_size NoElse = 0
      last_size (ElseOf head body) = size_all body

    -- ---- statements

    -- an option before its body, which stands at the label
    abbrev pub head_code : ℕ → Offered → List Coded
    head_code label n =
        exprs_code n.text.line n.text.holes
        ++ (condition_code n.text.line n.condition
        ++ coded n.text.line (code.AddOption (length n.text.holes) n.text.id label (is_some n.condition)) ∷ [])

    -- options before their bodies, of which the first stands at that place
    abbrev pub heads_code : ℕ → T.Options → List Coded
    heads_code bodies NoOptions = []
    heads_code bodies (AndOption n body os) = head_code bodies n ++ heads_code (bodies + (size_all body + 1)) os

    -- a condition; where it is false, it goes on at that place
    abbrev pub ask_code : ℕ → T.Asked → List Coded
    ask_code otherwise n =
        expr_code n.head.line n.condition ++ coded n.head.line (code.JumpIfFalse otherwise) ∷ coded n.head.line code.Pop ∷ []

    -- the code that stands from a place on; a group and an `if` end at a place that all their bodies jump to
    abbrev mutual
      pub stmt_code : ℕ → T.Stmt → List Coded
      stmt_code at (Leaf s) = simple_code title s
      stmt_code at (Group os) =
          heads_code (at + heads_size os + 2) os
          ++ coded (group_line os) code.ShowOptions ∷ coded (group_line os) code.Jump
          ∷ (bodies_code (at + heads_size os + 2) (at + heads_size os + 2 + bodies_size os) os ++ coded (group_line os) code.Pop ∷ [])
      stmt_code at (Choice cs last e) =
          clauses_code at (at + clauses_size cs + last_size last) cs ++ last_code (at + clauses_size cs) last

      pub stmts_code : ℕ → T.Stmts → List Coded
      stmts_code at Nil = []
      stmts_code at (Cons s b) = stmt_code at s ++ stmts_code (at + size s) b

      pub bodies_code : ℕ → ℕ → T.Options → List Coded
      bodies_code at end NoOptions = []
      bodies_code at end (AndOption n body os) =
          stmts_code at body ++ coded n.text.line (code.JumpTo end) ∷ bodies_code (at + (size_all body + 1)) end os

      pub clauses_code : ℕ → ℕ → T.Clauses → List Coded
      clauses_code at end NoClauses = []
      clauses_code at end (AndClause n body cs) =
          ask_code (at + ask_size n + size_all body + 1) n
          ++ (stmts_code (at + ask_size n) body
          ++ coded n.head.line (code.JumpTo end) ∷ coded n.head.line code.Pop
          ∷ clauses_code (at + ask_size n + size_all body + 2) end cs)

      pub last_code : ℕ → T.Last → List Coded
      last_code at NoElse = []
      last_code at (ElseOf head body) = stmts_code at body

  -- ---- nodes

  abbrev pub body_code : NodeTree → List Coded
  body_code node = stmts_code node.title 0 node.body ++ end_code node.title node.end_line

  abbrev pub node_code : Placed → CodeNode
  node_code n = record { title = n.node.title; file = n.file; code = body_code n.node }

  abbrev pub nodes_code : List FileTree → List CodeNode
  nodes_code files = map node_code (nodes_from 0 files)

  -- ---- host functions

  -- a signature is put last, where none of its name is there
  abbrev pub with_signature : List Signature → Option Signature → List Signature
  with_signature known None = known
  with_signature known (Some one) = if is_some (signature_named known one.name) then known else known ++ one ∷ []

  -- a name that is called: a builtin adds nothing
  abbrev pub with_called : List Signature → Option Row → List ℕ → List Signature
  with_called known (Some row) name = known
  with_called known None name = with_signature known (signature_named terms.signatures name)

  abbrev pub with_function : List Signature → Instr → List Signature
  with_function known (code.CallFunc count name) = with_called known (builtin_named name) name
  with_function known _ = known

  abbrev pub functions_after : List Signature → List Coded → List Signature
  functions_after known [] = known
  functions_after known (c ∷ cs) = functions_after (with_function known c.instr) cs

  -- the host functions that are called, by first use
  abbrev pub functions_in : List Signature → List CodeNode → List Signature
  functions_in known [] = known
  functions_in known (n ∷ ns) = functions_in (functions_after known n.code) ns

  -- ---- the program

  abbrev pub variables_for : Pairs → List Variable
  variables_for [] = []
  variables_for (v ∷ pairs) = variable v.0 v.1 ∷ variables_for pairs

  abbrev pub program_of : List FileTree → Program
  program_of files = record {
    files = names_of files;
    variables = variables_for (variables_of terms.entries files);
    functions = functions_in [] (nodes_code files);
    nodes = nodes_code files;
    lines = base_rows files;
  }

abbrev pub terms_of : List Signature → List TypedName → List FileTree → Terms
terms_of signatures entries files = record {
  signatures = signatures;
  entries = entries;
}

abbrev pub code_of : List Signature → List TypedName → List FileTree → Program
code_of signatures entries files = program_of (terms_of signatures entries files) files
