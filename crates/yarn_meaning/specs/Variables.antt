-- The variables of a project and the values with which they begin (docs/language.md, The meaning).
use Rattle.std.specs.Prelude.{unwrap_or, ℕ, pos, List, [], ◌∷◌, ◌++◌, Bool, true, false, if◌then◌else◌, Option, Some, None}
use Rattle.yarn_value.specs.declared.value.Value.{Value}
use Rattle.yarn_value.specs.declared.value.Value.TheVariants.{Number, Str, Truth}
use Rattle.yarn_value.specs.declared.value.Kind.{Kind}
use Rattle.yarn_value.specs.declared.value.Kind.TheVariants as kind
use Rattle.yarn_value.specs.Values.{kind_of}
use Rattle.yarn_value.specs.Rows.{same_kind}
use Rattle.yarn_blocks.specs.declared.entry.Simple.{Simple}
use Rattle.yarn_blocks.specs.declared.entry.Simple.TheVariants as simple
use Rattle.yarn_blocks.specs.Tree.{Stmt, Leaf, Group, Choice, Stmts, Nil, Cons, Options, NoOptions, AndOption, Clauses, NoClauses, AndClause, Last, NoElse, ElseOf}
use Rattle.yarn_tree.specs.Trees.{NodeTree, FileTree}
use Rattle.yarn_types.specs.declared.typed.TypedName.{TypedName}
use Rattle.yarn_value.specs.Pairs.{with_missing, value_under, Pairs}
use Rattle.yarn_value.specs.Visits.{count_name}

-- ---- what is declared, in order of the text

abbrev pub declared_by : Simple → Pairs
declared_by (simple.Declare head name value kind) = (name, value) ∷ []
declared_by (simple.Line text) = []
declared_by (simple.Set head name op e) = []
declared_by (simple.Jump head title) = []
declared_by (simple.JumpTo head e) = []
declared_by (simple.Stop head) = []
declared_by (simple.Call head e) = []
declared_by (simple.Command text) = []

abbrev mutual
  pub declared_in : Stmts → Pairs
  declared_in Nil = []
  declared_in (Cons s b) = declared_in_one s ++ declared_in b

  pub declared_in_one : Stmt → Pairs
  declared_in_one (Leaf s) = declared_by s
  declared_in_one (Group os) = declared_in_options os
  declared_in_one (Choice cs last e) = declared_in_clauses cs ++ declared_in_last last

  pub declared_in_options : Options → Pairs
  declared_in_options NoOptions = []
  declared_in_options (AndOption n body os) = declared_in body ++ declared_in_options os

  pub declared_in_clauses : Clauses → Pairs
  declared_in_clauses NoClauses = []
  declared_in_clauses (AndClause n body cs) = declared_in body ++ declared_in_clauses cs

  pub declared_in_last : Last → Pairs
  declared_in_last NoElse = []
  declared_in_last (ElseOf n body) = declared_in body

abbrev pub declared_in_nodes : List NodeTree → Pairs
declared_in_nodes [] = []
declared_in_nodes (n ∷ ns) = declared_in n.body ++ declared_in_nodes ns

abbrev pub declared_in_files : List FileTree → Pairs
declared_in_files [] = []
declared_in_files (f ∷ fs) = declared_in_nodes f.nodes ++ declared_in_files fs

-- ---- the variables with their first values

-- with which a variable of that kind begins, unless it is declared
abbrev pub plain_value : Kind → Value
plain_value kind.Number = Number (pos 0)
plain_value kind.Str = Str []
plain_value kind.Truth = Truth false

abbrev pub first_value : Pairs → TypedName → Value
first_value declared entry = unwrap_or (value_under declared entry.name) (plain_value entry.kind)

abbrev pub typed_pairs : Pairs → List TypedName → Pairs
typed_pairs declared [] = []
typed_pairs declared (entry ∷ entries) = (entry.name, first_value declared entry) ∷ typed_pairs declared entries

-- a count of visits for each node
abbrev pub counts_in : List NodeTree → Pairs
counts_in [] = []
counts_in (n ∷ ns) = (count_name n.title, Number (pos 0)) ∷ counts_in ns

abbrev pub counts_of : List FileTree → Pairs
counts_of [] = []
counts_of (f ∷ fs) = counts_in f.nodes ++ counts_of fs

-- the typed variables in order of their first appearance, and then the counts in order of the project
abbrev pub variables_of : List TypedName → List FileTree → Pairs
variables_of entries files = typed_pairs (declared_in_files files) entries ++ counts_of files

-- ---- the store with which a run begins

-- the pairs that are given, and then each variable that they lack
abbrev pub first_store : Pairs → List TypedName → List FileTree → Pairs
first_store pairs entries files = with_missing pairs (variables_of entries files)

-- a value of another kind
abbrev pub is_other_kind : Value → Option Value → Bool
is_other_kind value None = false
is_other_kind value (Some there) = if same_kind (kind_of there) (kind_of value) then false else true

-- the first of these variables whose value in the store is of another kind
abbrev pub first_other : Pairs → Pairs → Option (List ℕ)
first_other store [] = None
first_other store (p ∷ ps) = if is_other_kind p.1 (value_under store p.0) then Some p.0 else first_other store ps
