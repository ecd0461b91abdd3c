-- The canonical content of a command. Source: docs/language.md, Canonical text.
use Rattle.std.specs.Prelude.{ℕ, List, [], ◌++◌, codes, Option, Some, None}
use Rattle.yarn_expr.specs.declared.tree.BinaryOp.{BinaryOp}
use Rattle.yarn_expr.specs.declared.tree.BinaryOp.TheVariants.{Mul, Div, Rem, Add, Sub}
use Rattle.yarn_expr.specs.declared.tree.Expr.{Expr}
use Rattle.yarn_expr.specs.declared.tree.Expr.TheVariants as expr
use Rattle.yarn_expr.specs.Print.{canonical}
use Rattle.yarn_value.specs.declared.value.Value.{Value}
use Rattle.yarn_value.specs.declared.value.Value.TheVariants as value
use Rattle.yarn_value.specs.declared.value.Kind.{Kind}
use Rattle.yarn_commands.specs.declared.command.Command.{Command}
use Rattle.yarn_commands.specs.declared.command.Command.TheVariants as command
use Rattle.yarn_commands.specs.Command.{kind_text}

-- what stands between a variable and the expression that it is set to. No content has another operator
abbrev pub assign_text : Option BinaryOp → List ℕ
assign_text (Some Add) = codes " += "
assign_text (Some Sub) = codes " -= "
assign_text (Some Mul) = codes " *= "
assign_text (Some Div) = codes " /= "
assign_text (Some Rem) = codes " %= "
assign_text _ = codes " to "

-- a value is written as a literal; a number below 0 has a `-` before its digits
abbrev pub literal : Value → Expr
literal (value.Number n) = expr.Number n
literal (value.Str text) = expr.Str text
literal (value.Truth b) = expr.Truth b

abbrev pub as_text : Option Kind → List ℕ
as_text None = []
as_text (Some k) = codes " as " ++ kind_text k

-- the text of a command for the game stands elsewhere
abbrev pub content_text : Command → List ℕ
content_text (command.If e) = codes "if " ++ canonical e
content_text (command.ElseIf e) = codes "elseif " ++ canonical e
content_text command.Else = codes "else"
content_text command.EndIf = codes "endif"
content_text (command.Set name op e) = codes "set " ++ (name ++ (assign_text op ++ canonical e))
content_text (command.Declare name v k) = codes "declare " ++ (name ++ (codes " = " ++ (canonical (literal v) ++ as_text k)))
content_text (command.Jump name) = codes "jump " ++ name
content_text (command.JumpTo e) = codes "jump {" ++ (canonical e ++ codes "}")
content_text command.Stop = codes "stop"
content_text (command.Call e) = codes "call " ++ canonical e
content_text command.Game = []
