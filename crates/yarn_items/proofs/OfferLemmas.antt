-- What is found behind a `->`: an option, and its condition.
use Rattle.std.proofs.Common.{◌≡◌, ℕ, List, [], ◌++◌, length, take, drop, Bool, true, false, if◌then◌else◌, Option, Some, None, inr, codes, bytes_eq, chars, refl, sym, ap, ◌∙◌, subst}
use Rattle.std.proofs.lemmas.List.{take-append-drop}
use Rattle.std.proofs.lemmas.List.Folds.{list_any-append}
use Rattle.std.proofs.lemmas.Slice.Eq.{bytes_eq-Decides}
use Rattle.yarn_lines.specs.Lines.{past_leading, begins_with}
use Rattle.yarn_expr.specs.declared.token.Token.{Token}
use Rattle.yarn_expr.specs.declared.tree.Expr.{Expr}
use Rattle.yarn_expr.specs.Literal.{is_fraction, is_large}
use Rattle.yarn_commands.specs.declared.command.Command.{Command}
use Rattle.yarn_commands.specs.declared.command.Command.TheVariants as command
use Rattle.yarn_commands.specs.declared.read.Found.{Found as CommandFound}
use Rattle.yarn_commands.specs.Command.{IsCommand}
use Rattle.yarn_commands.specs.Reading.{content}
use Rattle.yarn_commands.proofs.Sound.{content-sound}
use Rattle.yarn_commands.proofs.Only as only
use Rattle.yarn_items.specs.declared.item.Mode.TheVariants.{InBody}
use Rattle.yarn_items.specs.declared.item.Said.{Said}
use Rattle.yarn_items.specs.declared.item.Item.TheVariants as item
use Rattle.yarn_items.specs.declared.item.Found.{Found}
use Rattle.yarn_items.specs.Text.{Tags, trimmed, has_fine_ids}
use Rattle.yarn_items.specs.Content.{HasCondition}
use Rattle.yarn_items.specs.Item.{is_command, IsCondition, no_condition as plain_end, condition, IsOffer, literals_of}
use Rattle.yarn_items.specs.Hashtags.{tags_of}
use Rattle.yarn_items.specs.TextForm.{TextFound, text_found, Stops, HasPieces}
use Rattle.yarn_items.specs.ContentForm.{Content, content_found}
use Rattle.yarn_items.specs.Body.{Condition, no_condition, condition_is, condition_of, condition_in, condition_found, both_of, offer_with, offer_asked, offer_behind, offer_of, offer_found}
use Rattle.yarn_items.proofs.TagsLemmas.{tags-found, tags-only}
use Rattle.yarn_items.proofs.FormLemmas.{found_with, HasForm}
use Rattle.yarn_items.proofs.ContentLemmas.{content-found, content-only}
use Rattle.yarn_items.proofs.LineLemmas.{after, unlike, alike}
use Rattle.yarn_items.proofs.TextLaws.{texts-are-pieces, pieces-are-texts}

-- Conditions.

-- the tokens of a condition, where one begins there
abbrev pub command_tokens : Option CommandFound → List Token
command_tokens None = []
command_tokens (Some found) = found.tokens

abbrev pub content_tokens : Option Content → List Token
content_tokens None = []
content_tokens (Some c) = command_tokens (content (chars c.own))

abbrev pub condition_tokens : List ℕ → List Token
condition_tokens rest = if is_command rest then content_tokens (content_found false (drop 2 rest)) else []

-- a condition is found, with these hashtags behind it
pub record Asks (rest : List ℕ) (tokens : List Token) (asked : Option Expr) (tags : List (List ℕ)) : Type 0 where
  pub stops : Stops (past_leading rest)
  pub behind : List ℕ
  pub found : condition_found (past_leading rest) ≡ Some (record { asked = asked; literals = literals_of tokens; rest = behind })
  pub tagged : tags_of behind ≡ Some tags
  pub own : condition_tokens (past_leading rest) ≡ tokens

asks-none : (rest : List ℕ) (tags : List (List ℕ)) → Tags rest tags → Asks rest [] None tags
asks-none rest tags is =
    let ends = after is in
    record { stops = ends.stops; behind = past_leading rest; found = rw ends.no_command refl; tagged = tags-found ends.tagged; own = rw ends.no_command refl }

asks-some : (bytes inside rest : List ℕ) (tokens : List Token) (e : Expr) (tags : List (List ℕ)) →
    content_found false bytes ≡ Some (record { own = trimmed inside; rest = rest }) → IsCommand (chars (trimmed inside)) tokens (command.If e) →
    tags_of rest ≡ Some tags → Asks (codes "<<" ++ bytes) tokens (Some e) tags
asks-some bytes inside rest tokens e tags found is tagged = record {
  stops = inr (inr (inr refl));
  behind = rest;
  found = ap condition_in found ∙ ap (λ o. condition_of o rest) (only.content-only (chars (trimmed inside)) tokens (command.If e) is);
  tagged = tagged;
  own = ap content_tokens found ∙ ap command_tokens (only.content-only (chars (trimmed inside)) tokens (command.If e) is);
}

pub asks : {rest behind : List ℕ} {tokens : List Token} {asked : Option Expr} → (tags : List (List ℕ)) → IsCondition rest tokens asked behind → Tags behind tags →
    Asks rest tokens asked tags
asks tags (plain_end {rest = rest}) is = asks-none rest tags is
asks tags (condition {bytes = bytes} {content = own} {rest = rest} {tokens = tokens} {e = e} has asked) is =
    let read = content-found false has.bytes has.inside rest has.to_end in
    let made = asks-some has.bytes has.inside rest tokens e tags read (subst (λ l. IsCommand (chars l) tokens (command.If e)) has.own asked) (tags-found is) in
    subst (λ l. Asks l tokens (Some e) tags) (sym has.split) made

pub begins-split : (front text : List ℕ) → begins_with front text ≡ true → text ≡ front ++ drop (length front) text
begins-split front text is =
    sym (take-append-drop (length front) text) ∙ ap (λ l. l ++ drop (length front) text) ((bytes_eq-Decides (take (length front) text) front).0 is)

-- a condition that was found
record IsAsking (rest : List ℕ) (c : Condition) : Type 0 where
  pub tokens : List Token
  pub is : IsCondition rest tokens c.asked c.rest
  pub literals : c.literals ≡ literals_of tokens

asking-is : (bytes own rest : List ℕ) (k : Command) (tokens : List Token) (c : Condition) → HasCondition bytes own rest → IsCommand (chars own) tokens k →
    condition_is k (literals_of tokens) rest ≡ Some c → IsAsking bytes c
asking-is bytes own rest (command.If e) tokens c has is told =
    let same : ◌≡◌ {A = Condition} (record { asked = Some e; literals = literals_of tokens; rest = rest }) c = cc in
    subst (IsAsking bytes) same (record { tokens = tokens; is = condition has is; literals = refl })
asking-is bytes own rest _ tokens c has is told = absurd cc

asking-of : (bytes own rest : List ℕ) (c : Condition) → HasCondition bytes own rest → (o : Option CommandFound) → content (chars own) ≡ o →
    condition_of o rest ≡ Some c → IsAsking bytes c
asking-of bytes own rest c has None read told = absurd cc
asking-of bytes own rest c has (Some found) read told = asking-is bytes own rest found.command found.tokens c has (content-sound (chars own) found read) told

asking-in : (rest : List ℕ) (c : Condition) → is_command rest ≡ true → (o : Option Content) → content_found false (drop 2 rest) ≡ o →
    condition_in o ≡ Some c → IsAsking rest c
asking-in rest c begins None read told = absurd cc
asking-in rest c begins (Some found) read told =
    let own = content-only false (drop 2 rest) found read in
    let has : HasCondition rest found.own found.rest = record { bytes = drop 2 rest; inside = own.inside; split = begins-split (codes "<<") rest begins; to_end = own.is; own = own.trims } in
    asking-of rest found.own found.rest c has (content (chars found.own)) refl told

asking : (rest : List ℕ) (c : Condition) → condition_found rest ≡ Some c → IsAsking rest c
asking rest c is = by_command (is_command rest) refl
  where
    by_command : (t : Bool) → is_command rest ≡ t → IsAsking rest c
    by_command true t = asking-in rest c t (content_found false (drop 2 rest)) refl (rw t at is)
    by_command false t =
        let told : Some (no_condition rest) ≡ Some c = rw t at is in
        let same : no_condition rest ≡ c = cc in
        subst (IsAsking rest) same (record { tokens = []; is = plain_end; literals = refl })

-- Options are found.

literals-more : (a b : List Token) → both_of (literals_of a) (literals_of b) ≡ literals_of (a ++ b)
literals-more a b = rw (list_any-append is_fraction a b, list_any-append is_large a b) refl

pub offer-text : (text : List ℕ) (tokens : List Token) (said : Said) (asked : Option Expr) (h : IsOffer text tokens said asked) → Stops (past_leading h.rest) →
    text_found h.bytes ≡ Some (record { text = said.text; holes = said.holes; tokens = h.of_text; rest = past_leading h.rest })
offer-text text tokens said asked h stops =
    pieces-are-texts h.bytes h.rest h.pieces h.of_text said.holes h.read h.held stops
    ∙ ap (λ own. Some (record { text = own; holes = said.holes; tokens = h.of_text; rest = past_leading h.rest })) (sym h.own)

with-offer : (said : Said) (asked : Option Expr) (a b : List Token) (rest behind : List ℕ) → (said.text ≡ [] → ⊥) →
    condition_found rest ≡ Some (record { asked = asked; literals = literals_of b; rest = behind }) → tags_of behind ≡ Some said.tags →
    has_fine_ids said.tags ≡ true → offer_behind said.text said.holes (literals_of a) rest ≡ Some (found_with (a ++ b) (item.Offer said asked))
with-offer said asked a b rest behind some found tagged ids =
    rw (unlike said.text [] some, found, tagged, ids) (ap (λ l. Some (record { item = item.Offer said asked; literals = l })) (literals-more a b))

pub offer-found : (text : List ℕ) (tokens : List Token) (said : Said) (asked : Option Expr) (h : IsOffer text tokens said asked) →
    offer_found h.bytes ≡ Some (found_with tokens (item.Offer said asked))
offer-found text tokens said asked h =
    let c = asks said.tags h.conditioned h.tagged in
    ap offer_of (offer-text text tokens said asked h c.stops)
    ∙ with-offer said asked h.of_text h.of_condition (past_leading h.rest) c.behind h.some c.found c.tagged h.ids
    ∙ ap (λ ts. Some (found_with ts (item.Offer said asked))) (sym h.all)

-- Only options are found.

made-offer : (text bytes : List ℕ) (t : TextFound) (c : Condition) (a : IsAsking t.rest c) (tags : List (List ℕ)) → text ≡ codes "->" ++ bytes → HasPieces bytes t →
    bytes_eq t.text [] ≡ false → tags_of c.rest ≡ Some tags → has_fine_ids tags ≡ true →
    IsOffer text (t.tokens ++ a.tokens) (record { text = t.text; holes = t.holes; tags = tags }) c.asked
made-offer text bytes t c a tags split has some tagged ids = record {
  bytes = bytes;
  split = split;
  pieces = has.pieces;
  rest = t.rest;
  read = has.read;
  own = has.own;
  of_text = t.tokens;
  held = has.held;
  of_condition = a.tokens;
  behind = c.rest;
  conditioned = a.is;
  all = refl;
  tagged = tags-only c.rest tags tagged;
  some = alike t.text [] some;
  ids = ids;
}

pub offer-only : (text bytes : List ℕ) (f : Found) → text ≡ codes "->" ++ bytes → offer_found bytes ≡ Some f → HasForm InBody text f
offer-only text bytes f split is = by_text (text_found bytes) refl is
  where
    by_ids : (t : TextFound) (c : Condition) (tags : List (List ℕ)) → HasPieces bytes t → bytes_eq t.text [] ≡ false → IsAsking t.rest c → tags_of c.rest ≡ Some tags →
        (b : Bool) → has_fine_ids tags ≡ b → offer_with t.text t.holes (both_of (literals_of t.tokens) c.literals) c.asked (Some tags) ≡ Some f → HasForm InBody text f
    by_ids t c tags has some a tagged true ids told =
        let said : Said = record { text = t.text; holes = t.holes; tags = tags } in
        let literals = both_of (literals_of t.tokens) c.literals in
        let whole : Some (record { item = item.Offer said c.asked; literals = literals }) ≡ Some f = rw ids at told in
        let same : ◌≡◌ {A = Found} (record { item = item.Offer said c.asked; literals = literals }) f = cc in
        subst (HasForm InBody text) same (record {
          tokens = t.tokens ++ a.tokens;
          is = made-offer text bytes t c a tags split has some tagged ids;
          literals = ap (both_of (literals_of t.tokens)) a.literals ∙ literals-more t.tokens a.tokens;
        })
    by_ids t c tags has some a tagged false ids told = let h = rw ids at told in absurd cc

    by_tags : (t : TextFound) (c : Condition) → HasPieces bytes t → bytes_eq t.text [] ≡ false → IsAsking t.rest c → (o : Option (List (List ℕ))) → tags_of c.rest ≡ o →
        offer_with t.text t.holes (both_of (literals_of t.tokens) c.literals) c.asked o ≡ Some f → HasForm InBody text f
    by_tags t c has some a None tagged told = absurd cc
    by_tags t c has some a (Some tags) tagged told = by_ids t c tags has some a tagged (has_fine_ids tags) refl told

    by_condition : (t : TextFound) → HasPieces bytes t → bytes_eq t.text [] ≡ false → (o : Option Condition) → condition_found t.rest ≡ o →
        offer_asked t.text t.holes (literals_of t.tokens) o ≡ Some f → HasForm InBody text f
    by_condition t has some None asked told = absurd cc
    by_condition t has some (Some c) asked told = by_tags t c has some (asking t.rest c asked) (tags_of c.rest) refl told

    by_some : (t : TextFound) → HasPieces bytes t → (b : Bool) → bytes_eq t.text [] ≡ b →
        offer_behind t.text t.holes (literals_of t.tokens) t.rest ≡ Some f → HasForm InBody text f
    by_some t has true none told = let h = rw none at told in absurd cc
    by_some t has false some told = by_condition t has some (condition_found t.rest) refl (rw some at told)

    by_text : (o : Option TextFound) → text_found bytes ≡ o → offer_of o ≡ Some f → HasForm InBody text f
    by_text None read told = absurd cc
    by_text (Some t) read told = by_some t (texts-are-pieces bytes t read) (bytes_eq t.text []) refl told
