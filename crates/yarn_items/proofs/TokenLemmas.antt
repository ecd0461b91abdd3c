-- The tokens of an item are those that stand in its text.
use Rattle.std.proofs.Common.{◌≡◌, ℕ, List, [], ◌++◌, drop, Option, Some, None, chars, sym, ap, ◌∙◌}
use Rattle.yarn_lines.specs.Lines.{past_leading}
use Rattle.yarn_expr.specs.declared.token.Token.{Token}
use Rattle.yarn_expr.specs.declared.tree.Expr.{Expr}
use Rattle.yarn_commands.specs.declared.command.Command.{Command}
use Rattle.yarn_commands.specs.FirstWord.{is_for_game}
use Rattle.yarn_commands.proofs.Only as only
use Rattle.yarn_items.specs.declared.item.Mode.{Mode}
use Rattle.yarn_items.specs.declared.item.Mode.TheVariants.{InHeaders, InBody}
use Rattle.yarn_items.specs.declared.item.Said.{Said}
use Rattle.yarn_items.specs.declared.item.Item.{Item}
use Rattle.yarn_items.specs.declared.item.Item.TheVariants as item
use Rattle.yarn_items.specs.Content.{HasContent}
use Rattle.yarn_items.specs.Item.{IsOffer, IsCommandLine, IsGameLine, IsForm}
use Rattle.yarn_items.specs.TextForm.{TextFound, text_found, GameFound, game_found}
use Rattle.yarn_items.specs.ContentForm.{Content, content_found}
use Rattle.yarn_items.proofs.ContentLemmas.{content-found}
use Rattle.yarn_items.proofs.LineLemmas.{line-text}
use Rattle.yarn_items.proofs.OfferLemmas.{command_tokens, content_tokens, condition_tokens, asks, offer-text}
use Rattle.yarn_items.proofs.TextLaws.{pieces-are-game-texts}

abbrev line_tokens : Option TextFound → List Token
line_tokens None = []
line_tokens (Some t) = t.tokens

abbrev offer_tokens : Option TextFound → List Token
offer_tokens None = []
offer_tokens (Some t) = t.tokens ++ condition_tokens t.rest

abbrev found_tokens : Option GameFound → List Token
found_tokens None = []
found_tokens (Some t) = t.tokens

abbrev game_tokens : Option Content → List Token
game_tokens None = []
game_tokens (Some c) = found_tokens (game_found c.own)

-- the content behind a `<<`
abbrev content_at : List ℕ → Option Content
content_at bytes = content_found (is_for_game (chars (past_leading bytes))) bytes

-- the tokens of a text that is an item so
abbrev pub tokens_in : Mode → List ℕ → Item → List Token
tokens_in mode text (item.Line said) = line_tokens (text_found text)
tokens_in mode text (item.Offer said asked) = offer_tokens (text_found (drop 2 text))
tokens_in mode text (item.Command own tags) = content_tokens (content_at (drop 2 text))
tokens_in mode text (item.Game said) = game_tokens (content_at (drop 2 text))
tokens_in mode text _ = []

offer-tokens : (text : List ℕ) (tokens : List Token) (said : Said) (asked : Option Expr) → IsOffer text tokens said asked →
    offer_tokens (text_found (drop 2 text)) ≡ tokens
offer-tokens text tokens said asked h =
    let c = asks said.tags h.conditioned h.tagged in
    ap (λ l. offer_tokens (text_found (drop 2 l))) h.split ∙ ap offer_tokens (offer-text text tokens said asked h c.stops)
    ∙ ap (λ ts. h.of_text ++ ts) c.own ∙ sym h.all

content-is : (text own rest : List ℕ) (has : HasContent text own rest) → content_at (drop 2 text) ≡ Some (record { own = own; rest = rest })
content-is text own rest has =
    ap (λ l. content_at (drop 2 l)) has.split ∙ content-found (is_for_game (chars (past_leading has.bytes))) has.bytes has.inside rest has.to_end
    ∙ ap (λ own. Some (record { own = own; rest = rest })) (sym has.own)

command-tokens : (text : List ℕ) (tokens : List Token) (own : Command) (tags : List (List ℕ)) → IsCommandLine text tokens own tags →
    content_tokens (content_at (drop 2 text)) ≡ tokens
command-tokens text tokens own tags h =
    ap content_tokens (content-is text h.content h.rest h.has) ∙ ap command_tokens (only.content-only (chars h.content) tokens own h.is)

game-tokens : (text : List ℕ) (tokens : List Token) (said : Said) → IsGameLine text tokens said → game_tokens (content_at (drop 2 text)) ≡ tokens
game-tokens text tokens said h =
    ap game_tokens (content-is text h.content h.rest h.has)
    ∙ ap found_tokens (pieces-are-game-texts h.content h.pieces tokens said.holes h.read h.held)

body-tokens : (text : List ℕ) (tokens : List Token) (it : Item) → IsForm InBody text tokens it → tokens_in InBody text it ≡ tokens
body-tokens text tokens item.NodeEnds is = sym is.1
body-tokens text tokens item.BodyBegins is = absurd is
body-tokens text tokens (item.FileTag tag) is = absurd is
body-tokens text tokens (item.Header header) is = absurd is
body-tokens text tokens (item.Line said) is = ap line_tokens (line-text text tokens said is)
body-tokens text tokens (item.Offer said asked) is = offer-tokens text tokens said asked is
body-tokens text tokens (item.Command own tags) is = command-tokens text tokens own tags is
body-tokens text tokens (item.Game said) is = game-tokens text tokens said is

heading-tokens : (text : List ℕ) (tokens : List Token) (it : Item) → IsForm InHeaders text tokens it → tokens_in InHeaders text it ≡ tokens
heading-tokens text tokens item.NodeEnds is = sym is.1
heading-tokens text tokens item.BodyBegins is = sym is.1
heading-tokens text tokens (item.FileTag tag) is = sym is.1
heading-tokens text tokens (item.Header header) is = sym is.1
heading-tokens text tokens (item.Line said) is = absurd is
heading-tokens text tokens (item.Offer said asked) is = absurd is
heading-tokens text tokens (item.Command own tags) is = absurd is
heading-tokens text tokens (item.Game said) is = absurd is

pub tokens-are : (mode : Mode) (text : List ℕ) (tokens : List Token) (it : Item) → IsForm mode text tokens it → tokens_in mode text it ≡ tokens
tokens-are InHeaders text tokens it is = heading-tokens text tokens it is
tokens-are InBody text tokens it is = body-tokens text tokens it is
