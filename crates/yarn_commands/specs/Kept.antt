-- Whether the literals of a command can be kept. Source: docs/language.md, Refusals of a project.
use Rattle.std.specs.Prelude.{◌≡◌, ℕ, List, false}
use Rattle.std.specs.List.{list_any}
use Rattle.yarn_expr.specs.declared.token.Token.{Token}
use Rattle.yarn_expr.specs.Literal.{is_fraction, is_large}
use Rattle.yarn_commands.specs.declared.command.Command.{Command}
use Rattle.yarn_commands.specs.Command.{IsCommand}

-- the content is this command, and its literals can be kept
pub record IsKept (content : List ℕ) (c : Command) : Type 0 where
  pub tokens : List Token
  pub is : IsCommand content tokens c
  pub no_fraction : list_any is_fraction tokens ≡ false
  pub no_large : list_any is_large tokens ≡ false
