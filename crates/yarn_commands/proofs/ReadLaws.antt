-- What is found of characters is what they say.
use Rattle.std.proofs.Common.{◌≡◌, ℕ, List, Option, Some, sym, ap, ◌∙◌}
use Rattle.yarn_expr.specs.declared.token.Token.{Token}
use Rattle.yarn_commands.specs.declared.command.Command.{Command}
use Rattle.yarn_commands.specs.declared.read.Found.{Found}
use Rattle.yarn_commands.specs.Command.{IsCommand}
use Rattle.yarn_commands.specs.Laws.{CommandsAreFound, ExpressionsAreFound}
use Rattle.yarn_commands.specs.Reading.{content}
use Rattle.yarn_commands.proofs.Only.{expression-only, content-only}
use Rattle.yarn_commands.proofs.Sound.{expression-sound, content-sound}

pub commands_law : CommandsAreFound
commands_law cs f = (content-sound cs f, content-only cs f.tokens f.command)

pub expressions_law : ExpressionsAreFound
expressions_law cs p = (expression-sound cs p, expression-only cs p.tokens p.expr)

some-same : {X : Type 0} (o : Option X) (x y : X) → o ≡ Some x → o ≡ Some y → x ≡ y
some-same o x y e f = let both = sym e ∙ f in cc

pub one_law : (cs : List ℕ) (ts us : List Token) (c d : Command) → IsCommand cs ts c → IsCommand cs us d → (c ≡ d) × (ts ≡ us)
one_law cs ts us c d is other =
    let same = some-same (content cs) _ _ (content-only cs ts c is) (content-only cs us d other) in
    (ap (λ (f : Found). f.command) same, ap (λ (f : Found). f.tokens) same)
