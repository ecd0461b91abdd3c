-- An option is printed as a line that is it again.
use Rattle.std.proofs.Common.{◌≡◌, ℕ, ◌+◌, List, [], ◌∷◌, ◌++◌, Bool, false, Option, Some, None, codes, refl, sym, ap, subst, ◌∙◌, arith, append_assoc}
use Rattle.std.specs.Str.{chars}
use Rattle.std.proofs.lemmas.Str.{scalars-chars}
use Rattle.yarn_expr.specs.declared.token.Token.{Token}
use Rattle.yarn_expr.specs.declared.tree.Expr.{Expr}
use Rattle.yarn_commands.specs.declared.command.Command.TheVariants as command
use Rattle.yarn_commands.specs.Print.{content_text}
use Rattle.yarn_commands.proofs.Printed.{command-again}
use Rattle.yarn_lines.specs.Lines.{past_leading}
use Rattle.yarn_items.specs.declared.item.Said.{Said}
use Rattle.yarn_items.specs.declared.item.Item.TheVariants as item
use Rattle.yarn_items.specs.Content as content
use Rattle.yarn_items.specs.Text.{Piece, Char, Pair, Hole, Pieces, no_piece, pair, hole, char, AreHoles, no_more, past_char, past_pair, at_hole, begins_other, begins_pair, pair_text, hole_text, kept_from, trimmed, Tags}
use Rattle.yarn_items.specs.Item.{IsCondition, no_condition, condition, IsOffer}
use Rattle.yarn_print.specs.Print.{text_printed, asked_text, tags_text}
use Rattle.yarn_print.proofs.Quiet.{OnlyBreaks, Fits, fits-append}
use Rattle.yarn_print.proofs.Tight.{ends_solid-behind, without_trailing-solid, past_leading-solid, Solid}
use Rattle.yarn_print.proofs.Cuts.{BeginsLow, fits-behind, fits-words}
use Rattle.yarn_print.proofs.PrintText.{FromPieces, from_pieces, ReadBack, read_back, fits-printed, solid-printed}
use Rattle.yarn_print.proofs.PrintTags.{AreFine, fine-tags, free_tags, printed_tags, ends_with_tags, tags_low, fits-tags}
use Rattle.yarn_print.proofs.PrintLine.{IsAgain, IsSaid, said-from, tight-solid}
use Rattle.yarn_print.proofs.PrintCommand.{content-parts, clean-fits, told-command, trimmed-before, without_trailing-blank}

-- ---- one more blank behind a text

pieces-behind : {text rest : List ℕ} {pieces : List Piece} → (c : ℕ) (more : List ℕ) → begins_pair (c ∷ more) ≡ false → begins_other (c ∷ more) ≡ false → rest ≡ c ∷ more → Pieces text pieces rest → Pieces text (pieces ++ Char c ∷ []) more
pieces-behind c more no_pair no_other is no_piece = subst (λ l. Pieces l (Char c ∷ []) more) (sym is) (char no_pair no_other no_piece)
pieces-behind c more no_pair no_other is (pair e later) = pair e (pieces-behind c more no_pair no_other is later)
pieces-behind c more no_pair no_other is (hole to later) = hole to (pieces-behind c more no_pair no_other is later)
pieces-behind c more no_pair no_other is (char one two later) = char one two (pieces-behind c more no_pair no_other is later)

kept-behind : (c k : ℕ) (pieces : List Piece) → kept_from k (pieces ++ Char c ∷ []) ≡ kept_from k pieces ++ c ∷ []
kept-behind c k [] = refl
kept-behind c k (Char d ∷ pieces) = ap (λ l. d ∷ l) (kept-behind c k pieces)
kept-behind c k (Pair d ∷ pieces) = ap (λ l. pair_text d ++ l) (kept-behind c k pieces) ∙ sym (append_assoc (pair_text d) (kept_from k pieces) (c ∷ []))
kept-behind c k (Hole inside ∷ pieces) = ap (λ l. hole_text k ++ l) (kept-behind c (k + 1) pieces) ∙ sym (append_assoc (hole_text k) (kept_from (k + 1) pieces) (c ∷ []))

holes-behind : {pieces : List Piece} {ts : List Token} {es : List Expr} → (c : ℕ) → AreHoles pieces ts es → AreHoles (pieces ++ Char c ∷ []) ts es
holes-behind c no_more = past_char no_more
holes-behind c (past_char later) = past_char (holes-behind c later)
holes-behind c (past_pair later) = past_pair (holes-behind c later)
holes-behind c (at_hole x later) = at_hole x (holes-behind c later)

trimmed-front : (text : List ℕ) → Solid text → trimmed (32 ∷ text) ≡ text
trimmed-front text s = ap past_leading (without_trailing-solid (32 ∷ text) (ends_solid-behind (32 ∷ []) text s.ends)) ∙ past_leading-solid text s.begins

trimmed-both : (text : List ℕ) → Solid text → trimmed (32 ∷ (text ++ 32 ∷ [])) ≡ text
trimmed-both text s = ap past_leading (without_trailing-blank (32 ∷ text)) ∙ trimmed-front text s

-- ---- conditions

condition-low : {rest behind : List ℕ} {tokens : List Token} {asked : Option Expr} {tags : List (List ℕ)} → IsCondition rest tokens asked behind → Tags behind tags → BeginsLow rest
condition-low no_condition tagged = tags_low tagged
condition-low (condition has is) tagged = subst BeginsLow (sym has.split) (omega arith)

-- what follows a condition
condition-behind : {rest behind : List ℕ} {tokens : List Token} {asked : Option Expr} → (test : ℕ → Bool) → IsCondition rest tokens asked behind → Fits test rest → Fits test behind
condition-behind test no_condition whole = whole
condition-behind test (condition {bytes = bytes} has is) whole = (content-parts test bytes has.split has.to_end whole).behind

-- what is printed of a condition
record AskedAgain (test : ℕ → Bool) (e : Expr) (more : List ℕ) : Type 0 where
  tokens : List Token
  is : IsCondition (codes "<<" ++ (content_text (command.If e) ++ (codes ">>" ++ more))) tokens (Some e) more
  fits : Fits test (asked_text (Some e))

asked-again : {rest behind : List ℕ} {tokens : List Token} {asked : Option Expr} → (test : ℕ → Bool) → OnlyBreaks test → (e : Expr) (more : List ℕ) → asked ≡ Some e → IsCondition rest tokens asked behind → Fits test rest → AskedAgain test e more
asked-again test only e more same no_condition whole = absurd cc
asked-again test only e more same (condition {bytes = bytes} {content = own} {tokens = tokens} {e = a} has is) whole =
    let parts = content-parts test bytes has.split has.to_end whole in
    let fits : Fits test own = subst (Fits test) (sym has.own) parts.fits in
    let eq : a ≡ e = cc in
    subst (λ (x : Expr). AskedAgain test x more) eq (again fits)
  where
    no_game : command.If a ≡ command.Game → ⊥
    no_game eq = absurd cc

    again : Fits test own → AskedAgain test a more
    again fits =
        let told = told-command test only (chars own) tokens (command.If a) (clean-fits test own only fits) no_game is in
        let kept = command-again (chars own) tokens (command.If a) (scalars-chars own fits.utf8) no_game is in
        let text = content_text (command.If a) in
        record {
          tokens = kept.tokens;
          is = condition (record {
            bytes = text ++ (codes ">>" ++ more);
            inside = text ++ [];
            split = refl;
            to_end = told.passes.in_content (codes ">>" ++ more) [] more content.ends;
            own = trimmed-before text false told.solid;
          }) kept.is;
          fits = fits-append test (codes " <<") (text ++ codes ">>") (fits-words test (codes " <<") only refl refl) (fits-append test text (codes ">>") told.fits (fits-words test (codes ">>") only refl refl));
        }

-- ---- options

-- the text of an option is printed with blanks around it
record OfferParts (bytes : List ℕ) (said : Said) (rest : List ℕ) : Type 0 where
  pieces : List Piece
  tokens : List Token
  read : Pieces bytes pieces rest
  own : said.text ≡ trimmed (kept_from 0 pieces)
  held : AreHoles pieces tokens said.holes

offer-plain : (test : ℕ → Bool) (said : Said) (tags : List (List ℕ)) → IsSaid test said → Solid said.text → OfferParts (32 ∷ (text_printed false said.text said.holes ++ tags_text tags)) said (tags_text tags)
offer-plain test said tags own s = of (read_back (tags_text tags) own.table (free_tags tags))
  where
    of : ReadBack 0 said.text said.holes (tags_text tags) → OfferParts (32 ∷ (text_printed false said.text said.holes ++ tags_text tags)) said (tags_text tags)
    of r = record {
      pieces = Char 32 ∷ r.pieces;
      tokens = r.tokens;
      read = char (unpaired (text_printed false said.text said.holes ++ tags_text tags)) refl r.read;
      own = sym (ap (λ l. trimmed (32 ∷ l)) r.own ∙ trimmed-front said.text s);
      held = past_char r.held;
    }
      where
        unpaired : (bytes : List ℕ) → begins_pair (32 ∷ bytes) ≡ false
        unpaired [] = refl
        unpaired (b ∷ bytes) = refl

offer-asked : (test : ℕ → Bool) (said : Said) (more : List ℕ) → IsSaid test said → Solid said.text → OfferParts (32 ∷ (text_printed false said.text said.holes ++ 32 ∷ 60 ∷ 60 ∷ more)) said (60 ∷ 60 ∷ more)
offer-asked test said more own s = of (read_back (32 ∷ 60 ∷ 60 ∷ more) own.table refl)
  where
    unpaired : (bytes : List ℕ) → begins_pair (32 ∷ bytes) ≡ false
    unpaired [] = refl
    unpaired (b ∷ bytes) = refl

    of : ReadBack 0 said.text said.holes (32 ∷ 60 ∷ 60 ∷ more) → OfferParts (32 ∷ (text_printed false said.text said.holes ++ 32 ∷ 60 ∷ 60 ∷ more)) said (60 ∷ 60 ∷ more)
    of r = record {
      pieces = Char 32 ∷ (r.pieces ++ Char 32 ∷ []);
      tokens = r.tokens;
      read = char (unpaired (text_printed false said.text said.holes ++ 32 ∷ 60 ∷ 60 ∷ more)) refl (pieces-behind 32 (60 ∷ 60 ∷ more) refl refl refl r.read);
      own = sym (ap (λ l. trimmed (32 ∷ l)) (kept-behind 32 0 r.pieces ∙ ap (λ l. l ++ 32 ∷ []) r.own) ∙ trimmed-both said.text s);
      held = past_char (holes-behind 32 r.held);
    }

pub again-offer : (test : ℕ → Bool) → OnlyBreaks test → (line : List ℕ) (tokens : List Token) (said : Said) (asked : Option Expr) → Fits test line → IsOffer line tokens said asked →
    IsAgain test (codes "-> " ++ (text_printed false said.text said.holes ++ (asked_text asked ++ tags_text said.tags))) (item.Offer said asked)
again-offer test only line tokens said asked whole is = by_asked asked refl
  where
    bytes : Fits test is.bytes
    bytes = fits-behind test 62 is.bytes (omega arith) (fits-behind test 45 (62 ∷ is.bytes) (omega arith) (subst (Fits test) is.split whole))

    from : FromPieces test [] 0 is.pieces said.holes is.rest
    from = from_pieces test only [] 0 is.read is.held (condition-low is.conditioned is.tagged) bytes

    own : IsSaid test said
    own = said-from test said is.pieces is.rest is.own from

    fine : AreFine said.tags
    fine = fine-tags is.tagged

    s : Solid said.text
    s = tight-solid own.tight is.some

    text : List ℕ
    text = text_printed false said.text said.holes

    printed : Fits test text
    printed = fits-printed only own.table own.fits

    solid : Solid text
    solid = solid-printed own.table s

    tags : Fits test (tags_text said.tags)
    tags = fits-tags test only is.tagged (condition-behind test is.conditioned from.behind)

    arrow : Fits test (codes "-> ")
    arrow = fits-words test (codes "-> ") only refl refl

    by_asked : (o : Option Expr) → asked ≡ o → IsAgain test (codes "-> " ++ (text ++ (asked_text o ++ tags_text said.tags))) (item.Offer said o)
    by_asked None same =
        let p = offer-plain test said said.tags own s in
        record {
          tokens = p.tokens ++ [];
          form = record {
            bytes = 32 ∷ (text ++ tags_text said.tags);
            split = refl;
            pieces = p.pieces;
            rest = tags_text said.tags;
            read = p.read;
            own = p.own;
            of_text = p.tokens;
            held = p.held;
            of_condition = [];
            behind = tags_text said.tags;
            conditioned = no_condition;
            all = refl;
            tagged = printed_tags fine;
            some = is.some;
            ids = is.ids;
          };
          fits = fits-append test (codes "-> ") (text ++ tags_text said.tags) arrow (fits-append test text (tags_text said.tags) printed tags);
          solid = record { begins = refl; ends = ends_solid-behind (codes "-> ") (text ++ tags_text said.tags) (ends_with_tags text solid.ends fine) };
          no_comment = refl;
        }
    by_asked (Some e) same = of (asked-again test only e (tags_text said.tags) same is.conditioned from.behind)
      where
        ct : List ℕ
        ct = content_text (command.If e)

        of : AskedAgain test e (tags_text said.tags) → IsAgain test (codes "-> " ++ (text ++ (asked_text (Some e) ++ tags_text said.tags))) (item.Offer said (Some e))
        of a =
            let behind = ct ++ (codes ">>" ++ tags_text said.tags) in
            let p = offer-asked test said behind own s in
            let split : (ct ++ codes ">>") ++ tags_text said.tags ≡ behind = append_assoc ct (codes ">>") (tags_text said.tags) in
            record {
              tokens = p.tokens ++ a.tokens;
              form = record {
                bytes = 32 ∷ (text ++ 32 ∷ 60 ∷ 60 ∷ behind);
                split = ap (λ l. codes "-> " ++ (text ++ 32 ∷ 60 ∷ 60 ∷ l)) split;
                pieces = p.pieces;
                rest = 60 ∷ 60 ∷ behind;
                read = p.read;
                own = p.own;
                of_text = p.tokens;
                held = p.held;
                of_condition = a.tokens;
                behind = tags_text said.tags;
                conditioned = a.is;
                all = refl;
                tagged = printed_tags fine;
                some = is.some;
                ids = is.ids;
              };
              fits = fits-append test (codes "-> ") (text ++ (asked_text (Some e) ++ tags_text said.tags)) arrow (fits-append test text (asked_text (Some e) ++ tags_text said.tags) printed (fits-append test (asked_text (Some e)) (tags_text said.tags) a.fits tags));
              solid = record {
                begins = refl;
                ends = ends_solid-behind (codes "-> " ++ text) (asked_text (Some e) ++ tags_text said.tags) (ends_with_tags (asked_text (Some e)) (ends_solid-behind (codes " <<" ++ ct) (codes ">>") refl) fine);
              };
              no_comment = refl;
            }
