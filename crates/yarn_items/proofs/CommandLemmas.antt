-- What is found behind a `<<`: a command, or a command for the game.
use Rattle.std.proofs.Common.{◌≡◌, ℕ, List, [], ◌++◌, Bool, true, false, Option, Some, None, codes, chars, refl, sym, ap, ◌∙◌, subst}
use Rattle.yarn_lines.specs.Lines.{past_leading}
use Rattle.yarn_expr.specs.declared.token.Token.{Token}
use Rattle.yarn_commands.specs.declared.command.Command.{Command}
use Rattle.yarn_commands.specs.declared.command.Command.TheVariants as command
use Rattle.yarn_commands.specs.declared.read.Found.{Found as CommandFound}
use Rattle.yarn_commands.specs.FirstWord.{is_for_game}
use Rattle.yarn_commands.specs.Command.{IsCommand}
use Rattle.yarn_commands.specs.Reading.{content}
use Rattle.yarn_commands.proofs.Sound.{content-sound}
use Rattle.yarn_commands.proofs.Only as only
use Rattle.yarn_commands.proofs.GameTokens.{game-tokens}
use Rattle.yarn_items.specs.declared.item.Mode.TheVariants.{InBody}
use Rattle.yarn_items.specs.declared.item.Said.{Said}
use Rattle.yarn_items.specs.declared.item.Item.TheVariants as item
use Rattle.yarn_items.specs.declared.item.Found.{Found}
use Rattle.yarn_items.specs.Text.{Tags}
use Rattle.yarn_items.specs.Content.{HasContent}
use Rattle.yarn_items.specs.Item.{IsCommandLine, IsGameLine}
use Rattle.yarn_items.specs.Hashtags.{tags_of}
use Rattle.yarn_items.specs.TextForm.{GameFound, game_found}
use Rattle.yarn_items.specs.ContentForm.{Content, content_found}
use Rattle.yarn_items.specs.Body.{is_game, game_with, command_with, command_tagged, command_of, command_found}
use Rattle.yarn_items.proofs.TagsLemmas.{tags-found, tags-only}
use Rattle.yarn_items.proofs.FormLemmas.{found_with, HasForm}
use Rattle.yarn_items.proofs.ContentLemmas.{content-found, content-only}
use Rattle.yarn_items.proofs.TextLaws.{game-texts-are-pieces, pieces-are-game-texts}

-- Which commands are for the game.

not-game : (k : Command) → (k ≡ command.Game → ⊥) → is_game k ≡ false
not-game command.Game other = absurd (other refl)
not-game _ other = refl

game-is : (k : Command) → is_game k ≡ true → k ≡ command.Game
game-is command.Game is = refl
game-is _ is = absurd cc

no-game : (k : Command) → is_game k ≡ false → k ≡ command.Game → ⊥
no-game k not is = let h : true ≡ false = sym (ap is_game is) ∙ not in absurd cc

-- Commands are found.

-- the content of a line, and its hashtags
has-content : (text own rest : List ℕ) (tags : List (List ℕ)) (has : HasContent text own rest) → Tags rest tags →
    command_found has.bytes ≡ command_with own tags (content (chars own))
has-content text own rest tags has tagged =
    ap command_of (content-found (is_for_game (chars (past_leading has.bytes))) has.bytes has.inside rest has.to_end)
    ∙ ap (λ l. command_tagged l (tags_of rest)) (sym has.own) ∙ ap (command_tagged own) (tags-found tagged)

other-found : (own : List ℕ) (tags : List (List ℕ)) (k : Command) (tokens : List Token) → (k ≡ command.Game → ⊥) →
    command_with own tags (Some (record { command = k; tokens = tokens })) ≡ Some (found_with tokens (item.Command k tags))
other-found own tags k tokens other = rw (not-game k other) refl

pub command-found : (text : List ℕ) (tokens : List Token) (own : Command) (tags : List (List ℕ)) (h : IsCommandLine text tokens own tags) →
    command_found h.has.bytes ≡ Some (found_with tokens (item.Command own tags))
command-found text tokens own tags h =
    has-content text h.content h.rest tags h.has h.tagged ∙ ap (command_with h.content tags) (only.content-only (chars h.content) tokens own h.is)
    ∙ other-found h.content tags own tokens h.no_game

pub game-found : (text : List ℕ) (tokens : List Token) (said : Said) (h : IsGameLine text tokens said) →
    command_found h.has.bytes ≡ Some (found_with tokens (item.Game said))
game-found text tokens said h =
    has-content text h.content h.rest said.tags h.has h.tagged ∙ ap (command_with h.content said.tags) (only.content-only (chars h.content) [] command.Game h.is)
    ∙ ap (λ o. game_with o said.tags) (pieces-are-game-texts h.content h.pieces tokens said.holes h.read h.held)
    ∙ ap (λ own. Some (found_with tokens (item.Game (record { text = own; holes = said.holes; tags = said.tags })))) (sym h.own)

-- Only commands are found.

game-only : (text own rest : List ℕ) (tags : List (List ℕ)) (f : Found) → HasContent text own rest → IsCommand (chars own) [] command.Game → Tags rest tags →
    (o : Option GameFound) → game_found own ≡ o → game_with o tags ≡ Some f → HasForm InBody text f
game-only text own rest tags f has is tagged None read told = absurd cc
game-only text own rest tags f has is tagged (Some t) read told =
    let said : Said = record { text = t.text; holes = t.holes; tags = tags } in
    let same : found_with t.tokens (item.Game said) ≡ f = cc in
    let pieces = game-texts-are-pieces own t read in
    let line : IsGameLine text t.tokens said =
    record { content = own; rest = rest; has = has; is = is; pieces = pieces.pieces; read = pieces.read; own = pieces.own; held = pieces.held; tagged = tagged } in
    subst (HasForm InBody text) same (record { tokens = t.tokens; is = line; literals = refl })

other-only : (text own rest : List ℕ) (tags : List (List ℕ)) (k : Command) (tokens : List Token) (f : Found) → HasContent text own rest → IsCommand (chars own) tokens k →
    Tags rest tags → is_game k ≡ false → found_with tokens (item.Command k tags) ≡ f → HasForm InBody text f
other-only text own rest tags k tokens f has is tagged other same =
    let line : IsCommandLine text tokens k tags = record { content = own; rest = rest; has = has; is = is; no_game = no-game k other; tagged = tagged } in
    subst (HasForm InBody text) same (record { tokens = tokens; is = line; literals = refl })

with-only : (text own rest : List ℕ) (tags : List (List ℕ)) (f : Found) → HasContent text own rest → Tags rest tags → (o : Option CommandFound) → content (chars own) ≡ o →
    command_with own tags o ≡ Some f → HasForm InBody text f
with-only text own rest tags f has tagged None read told = absurd cc
with-only text own rest tags f has tagged (Some found) read told = by_game (is_game found.command) refl
  where
    is : IsCommand (chars own) found.tokens found.command
    is = content-sound (chars own) found read

    as_game : found.command ≡ command.Game → IsCommand (chars own) [] command.Game
    as_game same =
        let game = subst (IsCommand (chars own) found.tokens) same is in
        subst (λ ts. IsCommand (chars own) ts command.Game) (game-tokens (chars own) found.tokens game) game

    by_game : (t : Bool) → is_game found.command ≡ t → HasForm InBody text f
    by_game true t = game-only text own rest tags f has (as_game (game-is found.command t)) tagged (game_found own) refl (rw t at told)
    by_game false t =
        let whole : Some (found_with found.tokens (item.Command found.command tags)) ≡ Some f = rw t at told in
        other-only text own rest tags found.command found.tokens f has is tagged t cc

tagged-only : (text own rest : List ℕ) (f : Found) → HasContent text own rest → (o : Option (List (List ℕ))) → tags_of rest ≡ o →
    command_tagged own o ≡ Some f → HasForm InBody text f
tagged-only text own rest f has None tagged told = absurd cc
tagged-only text own rest f has (Some tags) tagged told = with-only text own rest tags f has (tags-only rest tags tagged) (content (chars own)) refl told

pub command-only : (text bytes : List ℕ) (f : Found) → text ≡ codes "<<" ++ bytes → command_found bytes ≡ Some f → HasForm InBody text f
command-only text bytes f split is = by_content (content_found games bytes) refl is
  where
    games : Bool
    games = is_for_game (chars (past_leading bytes))

    by_content : (o : Option Content) → content_found games bytes ≡ o → command_of o ≡ Some f → HasForm InBody text f
    by_content None read told = absurd cc
    by_content (Some c) read told =
        let own = content-only games bytes c read in
        let has : HasContent text c.own c.rest = record { bytes = bytes; inside = own.inside; split = split; to_end = own.is; own = own.trims } in
        tagged-only text c.own c.rest f has (tags_of c.rest) refl told
