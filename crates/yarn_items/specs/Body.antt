-- What a line is in a body, as a function of its text (docs/language.md, Body lines, Texts, and Texts and commands).
use Rattle.std.specs.Prelude.{◌≡◌, ℕ, List, [], drop, Bool, true, false, ◌||◌, if◌then◌else◌, Option, Some, None, codes, IsUtf8}
use Rattle.std.specs.Str.{bytes_eq, chars}
use Rattle.yarn_lines.specs.Lines.{past_leading}
use Rattle.yarn_expr.specs.declared.tree.Expr.{Expr}
use Rattle.yarn_commands.specs.declared.command.Command.{Command}
use Rattle.yarn_commands.specs.declared.command.Command.TheVariants as command
use Rattle.yarn_commands.specs.declared.read.Found.{Found as CommandFound}
use Rattle.yarn_commands.specs.FirstWord.{is_for_game}
use Rattle.yarn_commands.specs.Reading.{content}
use Rattle.yarn_items.specs.declared.item.Item.TheVariants as item
use Rattle.yarn_items.specs.declared.item.Literals.{Literals}
use Rattle.yarn_items.specs.declared.item.Found.{Found}
use Rattle.yarn_items.specs.declared.offer.Asked.{Asked}
use Rattle.yarn_items.specs.Text.{has_fine_ids}
use Rattle.yarn_items.specs.Item.{is_option, is_command, literals_of}
use Rattle.yarn_items.specs.Hashtags.{tags_of}
use Rattle.yarn_items.specs.TextForm.{TextFound, text_found, GameFound, game_found}
use Rattle.yarn_items.specs.ContentForm.{Content, content_found}
use Rattle.yarn_items.specs.Heading.{bare}

-- ---- lines

-- the line with that text and these hashtags
abbrev pub line_with : List ℕ → List Expr → Literals → Option (List (List ℕ)) → Option Found
line_with own holes literals None = None
line_with own holes literals (Some tags) =
    if has_fine_ids tags then Some (record { item = item.Line (record { text = own; holes = holes; tags = tags }); literals = literals }) else None

-- a text that no line has
abbrev pub is_no_text : List ℕ → Bool
is_no_text own = bytes_eq own [] || bytes_eq own (codes "===")

abbrev pub line_behind : List ℕ → List Expr → Literals → List ℕ → Option Found
line_behind own holes literals rest = if is_no_text own then None else line_with own holes literals (tags_of rest)

abbrev pub line_of : Option TextFound → Option Found
line_of None = None
line_of (Some t) = line_behind t.text t.holes (literals_of t.tokens) t.rest

-- a text that is neither an option nor a command
abbrev pub line_found : List ℕ → Option Found
line_found text = line_of (text_found text)

-- ---- options

-- a condition, and what follows it
pub record Condition : Type 0 where
  pub asked : Option Expr
  pub literals : Literals
  pub rest : List ℕ

abbrev pub no_condition : List ℕ → Condition
no_condition rest = record { asked = None; literals = literals_of []; rest = rest }

-- the command is a condition
abbrev pub condition_is : Command → Literals → List ℕ → Option Condition
condition_is (command.If e) literals rest = Some (record { asked = Some e; literals = literals; rest = rest })
condition_is _ literals rest = None

abbrev pub condition_of : Option CommandFound → List ℕ → Option Condition
condition_of None rest = None
condition_of (Some found) rest = condition_is found.command (literals_of found.tokens) rest

abbrev pub condition_in : Option Content → Option Condition
condition_in None = None
condition_in (Some c) = condition_of (content (chars c.own)) c.rest

-- the condition behind a text, where one begins
abbrev pub condition_found : List ℕ → Option Condition
condition_found rest = if is_command rest then condition_in (content_found false (drop 2 rest)) else Some (no_condition rest)

-- literals of two parts
abbrev pub both_of : Literals → Literals → Literals
both_of a b = record { fraction = a.fraction || b.fraction; too_large = a.too_large || b.too_large }

-- the option with that text, that condition and these hashtags
abbrev pub offer_with : List ℕ → List Expr → Literals → Option Expr → Option (List (List ℕ)) → Option Found
offer_with own holes literals asked None = None
offer_with own holes literals asked (Some tags) =
    if has_fine_ids tags then Some (record { item = item.Offer (record { text = own; holes = holes; tags = tags }) asked; literals = literals }) else None

abbrev pub offer_asked : List ℕ → List Expr → Literals → Option Condition → Option Found
offer_asked own holes literals None = None
offer_asked own holes literals (Some c) = offer_with own holes (both_of literals c.literals) c.asked (tags_of c.rest)

abbrev pub offer_behind : List ℕ → List Expr → Literals → List ℕ → Option Found
offer_behind own holes literals rest = if bytes_eq own [] then None else offer_asked own holes literals (condition_found rest)

abbrev pub offer_of : Option TextFound → Option Found
offer_of None = None
offer_of (Some t) = offer_behind t.text t.holes (literals_of t.tokens) t.rest

-- what stands behind a `->`
abbrev pub offer_found : List ℕ → Option Found
offer_found bytes = offer_of (text_found bytes)

-- ---- commands

abbrev pub is_game : Command → Bool
is_game command.Game = true
is_game _ = false

abbrev pub game_with : Option GameFound → List (List ℕ) → Option Found
game_with None tags = None
game_with (Some t) tags = Some (record { item = item.Game (record { text = t.text; holes = t.holes; tags = tags }); literals = literals_of t.tokens })

-- the command that the content is, with these hashtags
abbrev pub command_with : List ℕ → List (List ℕ) → Option CommandFound → Option Found
command_with own tags None = None
command_with own tags (Some found) =
    if is_game found.command then game_with (game_found own) tags
    else Some (record { item = item.Command found.command tags; literals = literals_of found.tokens })

abbrev pub command_tagged : List ℕ → Option (List (List ℕ)) → Option Found
command_tagged own None = None
command_tagged own (Some tags) = command_with own tags (content (chars own))

abbrev pub command_of : Option Content → Option Found
command_of None = None
command_of (Some c) = command_tagged c.own (tags_of c.rest)

-- what stands behind a `<<`
abbrev pub command_found : List ℕ → Option Found
command_found bytes = command_of (content_found (is_for_game (chars (past_leading bytes))) bytes)

-- ---- all

-- what a text without a carriage return is
abbrev pub body_found : List ℕ → Option Found
body_found text =
    if bytes_eq text (codes "===") then Some (bare item.NodeEnds)
    else if is_option text then offer_found (drop 2 text)
    else if is_command text then command_found (drop 2 text)
    else line_found text

-- ---- what the code has

pub record IsAsked (c : Condition) (asked : Asked) : Type 0 where
  pub condition : asked.condition ≡ c.asked
  pub literals : asked.literals ≡ c.literals
  pub rest : asked.rest.now ≡ c.rest
  pub utf8 : IsUtf8 c.rest

abbrev pub IsAskedAnswer : Option Condition → Option Asked → Type 0
IsAskedAnswer None None = Unit {0}
IsAskedAnswer (Some c) (Some asked) = IsAsked c asked
IsAskedAnswer _ _ = ⊥
