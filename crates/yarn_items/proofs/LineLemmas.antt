-- What is found of a text that is neither an option nor a command: a line.
use Rattle.std.proofs.Common.{◌≡◌, ℕ, List, [], ◌∷◌, ◌++◌, Bool, true, false, Option, Some, None, inl, inr, codes, bytes_eq, refl, sym, ap, ◌∙◌, subst}
use Rattle.std.proofs.lemmas.Bool.{or_parts, or_from, false_from_ne_true}
use Rattle.std.proofs.lemmas.Slice.Eq.{bytes_eq-Decides}
use Rattle.yarn_lines.specs.Lines.{is_blank, past_leading, begins_with}
use Rattle.yarn_expr.specs.declared.token.Token.{Token}
use Rattle.yarn_items.specs.declared.item.Mode.TheVariants.{InBody}
use Rattle.yarn_items.specs.declared.item.Said.{Said}
use Rattle.yarn_items.specs.declared.item.Item.TheVariants as item
use Rattle.yarn_items.specs.declared.item.Found.{Found}
use Rattle.yarn_items.specs.Text.{Char, no_piece, char, no_more, past_char, Tags, no_tag, comment, blank, tag, has_fine_ids}
use Rattle.yarn_items.specs.Item.{is_option, is_command, IsLine, literals_of}
use Rattle.yarn_items.specs.Hashtags.{tags_of}
use Rattle.yarn_items.specs.TextForm.{TextFound, text_found, Stops, HasPieces}
use Rattle.yarn_items.specs.Body.{line_with, is_no_text, line_behind, line_of, line_found}
use Rattle.yarn_items.proofs.Utf8Lemmas.{begins-first}
use Rattle.yarn_items.proofs.TagsLemmas.{tags-found, tags-only}
use Rattle.yarn_items.proofs.FormLemmas.{found_with, HasForm}
use Rattle.yarn_items.proofs.TextLaws.{texts-are-pieces, pieces-are-texts}

-- What stands behind a text, without the blanks before it.

pub record After (bytes : List ℕ) (tags : List (List ℕ)) : Type 0 where
  pub tagged : Tags (past_leading bytes) tags
  pub stops : Stops (past_leading bytes)
  pub no_command : is_command (past_leading bytes) ≡ false

after-comment : (bytes : List ℕ) → begins_with (codes "//") bytes ≡ true → After bytes []
after-comment [] is = absurd cc
after-comment (b ∷ bytes) is =
    let same : b ≡ 47 = begins-first 47 b (codes "/") bytes is in
    subst (λ x. After (x ∷ bytes) []) (sym same) (made bytes (subst (λ x. begins_with (codes "//") (x ∷ bytes) ≡ true) same is))
  where
    made : (bytes : List ℕ) → begins_with (codes "//") (47 ∷ bytes) ≡ true → After (47 ∷ bytes) []
    made bytes is = record { tagged = comment is; stops = inr (inr (inl is)); no_command = refl }

after-tag : (bytes : List ℕ) (tags : List (List ℕ)) → Tags (35 ∷ bytes) tags → After (35 ∷ bytes) tags
after-tag bytes tags is = record { tagged = is; stops = inr (inl refl); no_command = refl }

after-blank : (b : ℕ) (bytes : List ℕ) (tags : List (List ℕ)) → is_blank b ≡ true → After bytes tags → After (b ∷ bytes) tags
after-blank b bytes tags is later = record { tagged = rw is later.tagged; stops = rw is later.stops; no_command = rw is later.no_command }

pub after : {bytes : List ℕ} {tags : List (List ℕ)} → Tags bytes tags → After bytes tags
after no_tag = record { tagged = no_tag; stops = inl refl; no_command = refl }
after (comment {bytes = bytes} is) = after-comment bytes is
after (blank {b = b} {bytes = bytes} {tags = tags} is later) = after-blank b bytes tags is (after later)
after (tag {c = c} {own = own} {bytes = bytes} {tags = tags} is ends later) = after-tag ((c ∷ own) ++ bytes) ((c ∷ own) ∷ tags) (tag is ends later)

-- Lines are found.

pub unlike : (text other : List ℕ) → (text ≡ other → ⊥) → bytes_eq text other ≡ false
unlike text other differs = false_from_ne_true (bytes_eq text other) (λ e. differs ((bytes_eq-Decides text other).0 e))

pub alike : (text other : List ℕ) → bytes_eq text other ≡ false → text ≡ other → ⊥
alike text other unlike e = let h : true ≡ false = sym ((bytes_eq-Decides text other).1 e) ∙ unlike in absurd cc

-- the end of a body has its own text
end-text : text_found (codes "===") ≡ Some (record { text = codes "==="; holes = []; tokens = []; rest = [] })
end-text =
    pieces-are-texts (codes "===") [] (Char 61 ∷ Char 61 ∷ Char 61 ∷ []) [] [] (char refl refl (char refl refl (char refl refl no_piece)))
    (past_char (past_char (past_char no_more))) (inl refl)

with-line : (said : Said) (tokens : List Token) (rest : List ℕ) → (said.text ≡ [] → ⊥) → (said.text ≡ codes "===" → ⊥) →
    tags_of rest ≡ Some said.tags → has_fine_ids said.tags ≡ true →
    line_behind said.text said.holes (literals_of tokens) rest ≡ Some (found_with tokens (item.Line said))
with-line said tokens rest some no_end tagged ids =
    let text : is_no_text said.text ≡ false = or_from (bytes_eq said.text []) (bytes_eq said.text (codes "===")) (unlike said.text [] some) (unlike said.text (codes "===") no_end) in
    rw (text, tagged, ids) refl

-- the text of a line, as it is found
pub line-text : (text : List ℕ) (tokens : List Token) (said : Said) (h : IsLine text tokens said) →
    text_found text ≡ Some (record { text = said.text; holes = said.holes; tokens = tokens; rest = past_leading h.rest })
line-text text tokens said h =
    pieces-are-texts text h.rest h.pieces tokens said.holes h.read h.held (after h.tagged).stops
    ∙ ap (λ own. Some (record { text = own; holes = said.holes; tokens = tokens; rest = past_leading h.rest })) (sym h.own)

pub line-no_end : (text : List ℕ) (tokens : List Token) (said : Said) → IsLine text tokens said → bytes_eq text (codes "===") ≡ false
line-no_end text tokens said h = unlike text (codes "===") (λ same.
    let e : ◌≡◌ {A = Option TextFound} (Some (record { text = said.text; holes = said.holes; tokens = tokens; rest = past_leading h.rest }))
    (Some (record { text = codes "==="; holes = []; tokens = []; rest = [] })) =
    sym (line-text text tokens said h) ∙ ap text_found same ∙ end-text in
    let one : ◌≡◌ {A = TextFound} (record { text = said.text; holes = said.holes; tokens = tokens; rest = past_leading h.rest })
    (record { text = codes "==="; holes = []; tokens = []; rest = [] }) = cc in
    h.no_end (ap (λ (t : TextFound). t.text) one))

pub line-found : (text : List ℕ) (tokens : List Token) (said : Said) → IsLine text tokens said → line_found text ≡ Some (found_with tokens (item.Line said))
line-found text tokens said h =
    let ends = after h.tagged in
    ap line_of (line-text text tokens said h) ∙ with-line said tokens (past_leading h.rest) h.some h.no_end (tags-found ends.tagged) h.ids

-- Only lines are found.

made-line : (text : List ℕ) (t : TextFound) (tags : List (List ℕ)) → HasPieces text t → is_option text ≡ false → is_command text ≡ false →
    is_no_text t.text ≡ false → tags_of t.rest ≡ Some tags → has_fine_ids tags ≡ true →
    IsLine text t.tokens (record { text = t.text; holes = t.holes; tags = tags })
made-line text t tags has no_option no_command some tagged ids =
    let parts = or_parts (bytes_eq t.text []) (bytes_eq t.text (codes "===")) some in
    record {
      pieces = has.pieces;
      rest = t.rest;
      read = has.read;
      own = has.own;
      held = has.held;
      tagged = tags-only t.rest tags tagged;
      some = alike t.text [] parts.0;
      no_end = alike t.text (codes "===") parts.1;
      ids = ids;
      no_option = no_option;
      no_command = no_command;
    }

pub line-only : (text : List ℕ) (f : Found) → is_option text ≡ false → is_command text ≡ false → line_found text ≡ Some f → HasForm InBody text f
line-only text f no_option no_command is = by_text (text_found text) refl is
  where
    by_ids : (t : TextFound) (tags : List (List ℕ)) → HasPieces text t → is_no_text t.text ≡ false → tags_of t.rest ≡ Some tags →
        (b : Bool) → has_fine_ids tags ≡ b → line_with t.text t.holes (literals_of t.tokens) (Some tags) ≡ Some f → HasForm InBody text f
    by_ids t tags has some tagged true ids told =
        let said : Said = record { text = t.text; holes = t.holes; tags = tags } in
        let whole : Some (found_with t.tokens (item.Line said)) ≡ Some f = rw ids at told in
        let same : found_with t.tokens (item.Line said) ≡ f = cc in
        subst (HasForm InBody text) same (record { tokens = t.tokens; is = made-line text t tags has no_option no_command some tagged ids; literals = refl })
    by_ids t tags has some tagged false ids told = let h = rw ids at told in absurd cc

    by_tags : (t : TextFound) → HasPieces text t → is_no_text t.text ≡ false → (o : Option (List (List ℕ))) → tags_of t.rest ≡ o →
        line_with t.text t.holes (literals_of t.tokens) o ≡ Some f → HasForm InBody text f
    by_tags t has some None tagged told = absurd cc
    by_tags t has some (Some tags) tagged told = by_ids t tags has some tagged (has_fine_ids tags) refl told

    by_some : (t : TextFound) → HasPieces text t → (b : Bool) → is_no_text t.text ≡ b →
        line_behind t.text t.holes (literals_of t.tokens) t.rest ≡ Some f → HasForm InBody text f
    by_some t has true none told = let h = rw none at told in absurd cc
    by_some t has false some told = by_tags t has some (tags_of t.rest) refl (rw some at told)

    by_text : (o : Option TextFound) → text_found text ≡ o → line_of o ≡ Some f → HasForm InBody text f
    by_text None read told = absurd cc
    by_text (Some t) read told = by_some t (texts-are-pieces text t read) (is_no_text t.text) refl told
