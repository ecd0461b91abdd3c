-- What the lines of bodies use: variables, declarations, titles of nodes, and functions, in order of the text.
use Rattle.std.specs.Prelude.{ℕ, List, [], ◌∷◌, ◌++◌, length, Option, Some, None}
use Rattle.yarn_base.specs.declared.Place.{Place}
use Rattle.yarn_expr.specs.declared.tree.Expr.{Expr}
use Rattle.yarn_expr.specs.declared.tree.Expr.TheOpen.{Expr-F}
use Rattle.yarn_expr.specs.declared.tree.Expr.TheFolds.{fold-Expr}
use Rattle.yarn_blocks.specs.declared.entry.Entry.{Entry}
use Rattle.yarn_blocks.specs.declared.entry.What.{What}
use Rattle.yarn_blocks.specs.declared.entry.What.TheVariants as what
use Rattle.yarn_blocks.specs.declared.entry.Simple.{Simple}
use Rattle.yarn_blocks.specs.declared.entry.Simple.TheVariants as simple
use Rattle.yarn_nodes.specs.declared.node.NodeLines.{NodeLines}
use Rattle.yarn_nodes.specs.declared.node.FileRead.{FileRead}
use Rattle.yarn_tree.specs.declared.uses.Used.{Used}
use Rattle.yarn_tree.specs.declared.uses.Used.TheVariants as used
use Rattle.yarn_tree.specs.declared.uses.UsedAt.{UsedAt}

pub data Use : Type 0 where
  Variable : List ℕ → Use
  -- a variable that is declared
  Declaration : List ℕ → Use
  -- the node of that title
  Title : List ℕ → Use
  -- a function with so many arguments
  Function : List ℕ → ℕ → Use

pub record UseAt : Type 0 where
  pub is : Use
  pub place : Place

-- ---- of expressions

abbrev pub joined : List (List Use) → List Use
joined [] = []
joined (us ∷ uses) = us ++ joined uses

abbrev pub uses_step : Expr-F (List Use) → List Use
uses_step (Expr-F.Number n) = []
uses_step (Expr-F.Str text) = []
uses_step (Expr-F.Truth b) = []
uses_step (Expr-F.Variable name) = Variable name ∷ []
uses_step (Expr-F.Group e) = e
uses_step (Expr-F.Unary op e) = e
uses_step (Expr-F.Binary op l r) = l ++ r
uses_step (Expr-F.Call name es) = Function name (length es) ∷ joined es

abbrev pub uses_of : Expr → List Use
uses_of = fold-Expr (List Use) uses_step

abbrev pub uses_of_all : List Expr → List Use
uses_of_all [] = []
uses_of_all (e ∷ es) = uses_of e ++ uses_of_all es

abbrev pub uses_of_asked : Option Expr → List Use
uses_of_asked None = []
uses_of_asked (Some e) = uses_of e

-- ---- of lines

abbrev pub uses_of_simple : Simple → List Use
uses_of_simple (simple.Line text) = uses_of_all text.holes
uses_of_simple (simple.Set head name op e) = Variable name ∷ uses_of e
uses_of_simple (simple.Declare head name value kind) = Declaration name ∷ []
uses_of_simple (simple.Jump head title) = Title title ∷ []
uses_of_simple (simple.JumpTo head e) = uses_of e
uses_of_simple (simple.Stop head) = []
uses_of_simple (simple.Call head e) = uses_of e
uses_of_simple (simple.Command text) = uses_of_all text.holes

abbrev pub uses_of_what : What → List Use
uses_of_what (what.Statement s) = uses_of_simple s
uses_of_what (what.Offer text asked) = uses_of_all text.holes ++ uses_of_asked asked
uses_of_what (what.If head e) = uses_of e
uses_of_what (what.ElseIf head e) = uses_of e
uses_of_what (what.Else head) = []
uses_of_what (what.EndIf head) = []

abbrev pub at_place : Place → List Use → List UseAt
at_place place [] = []
at_place place (u ∷ us) = record { is = u; place = place } ∷ at_place place us

abbrev pub uses_in_body : ℕ → List Entry → List UseAt
uses_in_body file [] = []
uses_in_body file (entry ∷ entries) = at_place (record { file = file; line = entry.line }) (uses_of_what entry.what) ++ uses_in_body file entries

abbrev pub uses_within : ℕ → List NodeLines → List UseAt
uses_within file [] = []
uses_within file (node ∷ nodes) = uses_in_body file node.body ++ uses_within file nodes

abbrev pub uses_in : List FileRead → List UseAt
uses_in [] = []
uses_in (read ∷ reads) = uses_within read.number read.file.nodes ++ uses_in reads

-- ---- what the code's references stand for

abbrev pub use_of : Used → Use
use_of (used.Variable name) = Variable name.now
use_of (used.Declaration name) = Declaration name.now
use_of (used.Title title) = Title title.now
use_of (used.Function name count) = Function name.now count

abbrev pub use_at : UsedAt → UseAt
use_at u = record { is = use_of u.used; place = u.place }
