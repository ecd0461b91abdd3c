-- The expressions of commands are no deeper than 64.
use Rattle.std.proofs.Common.{◌≡◌, ℕ, ◌≤◌, List, [], ◌∷◌, sym, subst, arith}
use Rattle.yarn_expr.specs.declared.token.Token.{Token}
use Rattle.yarn_expr.specs.declared.tree.Expr.{Expr}
use Rattle.yarn_expr.proofs.Levels.{levels, levels-tree}
use Rattle.yarn_commands.specs.Command.{IsExpression, IsMeant, IsCommand}
use Rattle.yarn_commands.specs.declared.word.FirstWord.{FirstWord}
use Rattle.yarn_commands.specs.declared.word.FirstWord.TheVariants as word
use Rattle.yarn_commands.specs.declared.command.Command.{Command}
use Rattle.yarn_commands.specs.declared.command.Command.TheVariants as command

pub expression_light : {piece : List ℕ} {tokens : List Token} {e : Expr} → IsExpression piece tokens e → levels e ≤ 64
expression_light {e = e} h = subst (λ x. levels x ≤ 64) (sym h.is) (omega (arith, levels-tree h.tree, h.has.expression.shallow))

-- the expressions of a command are no deeper than 64
abbrev pub LightCommand : Command → Type 0
LightCommand (command.If e) = levels e ≤ 64
LightCommand (command.ElseIf e) = levels e ≤ 64
LightCommand (command.Set name op e) = levels e ≤ 64
LightCommand (command.JumpTo e) = levels e ≤ 64
LightCommand (command.Call e) = levels e ≤ 64
LightCommand command.Else = Unit {0}
LightCommand command.EndIf = Unit {0}
LightCommand (command.Declare name v k) = Unit {0}
LightCommand (command.Jump title) = Unit {0}
LightCommand command.Stop = Unit {0}
LightCommand command.Game = Unit {0}

meant_light : (w : FirstWord) (cs : List ℕ) (tokens : List Token) (c : Command) → IsMeant w cs tokens c → LightCommand c
meant_light word.If cs tokens (command.If e) h = expression_light h
meant_light word.ElseIf cs tokens (command.ElseIf e) h = expression_light h
meant_light word.Set cs tokens (command.Set name op e) h = expression_light h.expression
meant_light word.Jump cs tokens (command.JumpTo e) h = expression_light h.expression
meant_light word.Call cs tokens (command.Call e) h = expression_light h.1
meant_light w cs tokens command.Else h = tt
meant_light w cs tokens command.EndIf h = tt
meant_light w cs tokens (command.Declare name v k) h = tt
meant_light w cs tokens (command.Jump title) h = tt
meant_light w cs tokens command.Stop h = tt
meant_light w cs tokens command.Game h = tt
meant_light w cs tokens (command.If e) h = absurd h
meant_light w cs tokens (command.ElseIf e) h = absurd h
meant_light w cs tokens (command.Set name op e) h = absurd h
meant_light w cs tokens (command.JumpTo e) h = absurd h
meant_light w cs tokens (command.Call e) h = absurd h

pub command_light : (cs : List ℕ) (tokens : List Token) (c : Command) → IsCommand cs tokens c → LightCommand c
command_light [] tokens c h = absurd h
command_light (x ∷ xs) tokens c h = meant_light _ _ tokens c h
