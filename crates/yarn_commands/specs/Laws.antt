-- Laws that tie what is found of characters to what the characters say.
use Rattle.std.specs.Prelude.{◌≡◌, ◌↔◌, ℕ, List, Some}
use Rattle.yarn_commands.specs.declared.read.Found.{Found}
use Rattle.yarn_commands.specs.declared.read.Part.{Part}
use Rattle.yarn_commands.specs.Command.{IsCommand, IsExpression}
use Rattle.yarn_commands.specs.Reading.{content as content_of, expression as expression_of}

-- a command is found exactly where the content is it, with its tokens
abbrev pub CommandsAreFound : Type 0
CommandsAreFound = (content : List ℕ) (found : Found) → (content_of content ≡ Some found) ↔ IsCommand content found.tokens found.command

-- an expression is found exactly where the piece is it, with its tokens
abbrev pub ExpressionsAreFound : Type 0
ExpressionsAreFound = (piece : List ℕ) (part : Part) → (expression_of piece ≡ Some part) ↔ IsExpression piece part.tokens part.expr
