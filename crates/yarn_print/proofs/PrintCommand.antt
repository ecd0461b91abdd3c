-- A command is printed as a line that is it again.
use Rattle.std.proofs.Common.{◌≡◌, ◌≢◌, ℕ, List, [], ◌∷◌, ◌++◌, Bool, true, false, ◌&&◌, nat_lt, if◌then◌else◌, codes, refl, sym, ap, ◌∙◌, subst, arith, append_assoc, append-nil}
use Rattle.std.specs.List.{list_all}
use Rattle.std.specs.Str.{chars}
use Rattle.std.proofs.lemmas.Bool.{and_from}
use Rattle.std.proofs.lemmas.List.Folds.{list_all-append}
use Rattle.std.proofs.lemmas.Str.{chars-append, chars-encodes, scalars-chars}
use Rattle.yarn_base.specs.Name.{continues_name}
use Rattle.yarn_expr.specs.declared.token.Token.{Token}
use Rattle.yarn_expr.specs.Tokens.{front, past, text_of}
use Rattle.yarn_expr.proofs.Marks.{is_letter, letters-continue}
use Rattle.yarn_expr.proofs.Runs.{next_is, front-append}
use Rattle.yarn_expr.proofs.Shown.{are_ascii, ascii-spelt, ascii-scalar}
use Rattle.yarn_commands.specs.FirstWord.{first_word_of, may_begin_game, is_for_game}
use Rattle.yarn_commands.specs.declared.command.Command.{Command}
use Rattle.yarn_commands.specs.declared.command.Command.TheVariants as command
use Rattle.yarn_commands.specs.Command.{IsCommand}
use Rattle.yarn_commands.specs.Print.{content_text}
use Rattle.yarn_commands.proofs.Printed.{command-again}
use Rattle.yarn_lines.specs.Lines as lines
use Rattle.yarn_lines.specs.Lines.{past_leading, without_trailing}
use Rattle.yarn_items.specs.declared.item.Item.TheVariants as item
use Rattle.yarn_items.specs.Content.{ToEnd, HasContent}
use Rattle.yarn_items.specs.Content as content
use Rattle.yarn_items.specs.Text.{trimmed}
use Rattle.yarn_items.specs.Item.{IsCommandLine}
use Rattle.yarn_print.specs.Print.{tags_text, wants_blank, content_line}
use Rattle.yarn_print.proofs.Quiet.{OnlyBreaks, Fits, fits-append, utf8-ascii, no_name}
use Rattle.yarn_print.proofs.Tight.{ends_solid, ends_solid-behind, begins-front, past_leading-solid, trimmed-solid, Solid}
use Rattle.yarn_print.proofs.Cuts.{fits-cut, fits-behind, fits-trimmed, fits-words}
use Rattle.yarn_print.proofs.Facts.{free-chars}
use Rattle.yarn_print.proofs.PrintText.{brace-split}
use Rattle.yarn_print.proofs.PrintTags.{AreFine, fine-tags, printed_tags, ends_with_tags, fits-tags}
use Rattle.yarn_print.proofs.PrintLine.{IsAgain}
use Rattle.yarn_print.proofs.ContentTexts.{Told, Clean, clean-past, meant-told}

-- ---- the parts of a line with a content

pub end-split : {games q : Bool} {bytes inside rest : List ℕ} → ToEnd games q bytes inside rest → bytes ≡ inside ++ 62 ∷ 62 ∷ rest
end-split content.ends = refl
end-split (content.quote later) = ap (λ l. 34 ∷ l) (end-split later)
end-split (content.skipped {c = c} later) = ap (λ l. 92 ∷ c ∷ l) (end-split later)
end-split (content.passed {own = own} {more = more} {inside = inside} {rest = rest} to later) =
    ap (λ l. 123 ∷ l) (brace-split to ∙ ap (λ l. own ++ 125 ∷ l) (end-split later) ∙ sym (append_assoc own (125 ∷ inside) (62 ∷ 62 ∷ rest)))
end-split (content.other {c = c} is later) = ap (λ l. c ∷ l) (end-split later)

pub record Parts (test : ℕ → Bool) (inside rest : List ℕ) : Type 0 where
  pub fits : Fits test (trimmed inside)
  pub behind : Fits test rest

pub content-parts : {games q : Bool} {bytes inside rest : List ℕ} → (test : ℕ → Bool) (text : List ℕ) → text ≡ codes "<<" ++ bytes → ToEnd games q bytes inside rest → Fits test text → Parts test inside rest
content-parts {bytes = bytes} {inside = inside} {rest = rest} test text split to whole =
    let line : Fits test (60 ∷ 60 ∷ bytes) = subst (Fits test) split whole in
    let all = fits-behind test 60 bytes (omega arith) (fits-behind test 60 (60 ∷ bytes) (omega arith) line) in
    let parts = fits-cut test inside 62 (62 ∷ rest) (omega arith) (subst (Fits test) (end-split to) all) in
    let behind = fits-behind test 62 rest (omega arith) (fits-behind test 62 (62 ∷ rest) (omega arith) parts.1) in
    record { fits = fits-trimmed test inside parts.0; behind = behind }

-- ---- the first word

pub chars-words : (w rest : List ℕ) → are_ascii w ≡ true → chars (w ++ rest) ≡ w ++ chars rest
chars-words w rest ascii =
    chars-append w rest (utf8-ascii w ascii) ∙ ap (λ l. l ++ chars rest) (ap chars (ascii-spelt w ascii) ∙ chars-encodes w (ascii-scalar w ascii))

-- a byte below 128 ends a name
pub ends-name : (b : ℕ) (rest : List ℕ) → nat_lt b 128 ≡ true → continues_name b ≡ false → next_is continues_name (chars (b ∷ rest)) ≡ false
ends-name b rest low unmet = ap (next_is continues_name) (chars-words (b ∷ []) rest (and_from (nat_lt b 128) true low refl)) ∙ unmet

word-begins : (x : ℕ) (w rest : List ℕ) → are_ascii (x ∷ w) ≡ true → list_all is_letter (x ∷ w) ≡ true → next_is continues_name (chars rest) ≡ false →
    is_for_game (chars ((x ∷ w) ++ rest)) ≡ may_begin_game (first_word_of (x ∷ w))
word-begins x w rest ascii letters ends =
    let all = letters-continue (x ∷ w) letters in
    let first : text_of (front continues_name ((x ∷ w) ++ chars rest)) ≡ x ∷ w = ap text_of (front-append continues_name (x ∷ w) (chars rest) all ends) ∙ sym (ascii-spelt (x ∷ w) ascii) in
    ap is_for_game (chars-words (x ∷ w) rest ascii) ∙ ap (λ l. may_begin_game (first_word_of l)) first

blank-ends : (rest : List ℕ) → next_is continues_name (chars (32 ∷ rest)) ≡ false
blank-ends rest = ends-name 32 rest refl (no_name 32 refl refl refl)

-- what closes a content ends a name
abbrev pub closing : Bool → List ℕ
closing wants = if wants then codes " >>" else codes ">>"

pub closing-ends : (wants : Bool) (rest : List ℕ) → next_is continues_name (chars (closing wants ++ rest)) ≡ false
closing-ends true rest = blank-ends (62 ∷ 62 ∷ rest)
closing-ends false rest = ends-name 62 (62 ∷ rest) refl (no_name 62 refl refl refl)

-- whether the line may be one for the game
abbrev for_game : Command → Bool
for_game command.Stop = true
for_game _ = false

first-word : (c : Command) (wants : Bool) (rest : List ℕ) → c ≢ command.Game → is_for_game (chars (content_text c ++ (closing wants ++ rest))) ≡ for_game c
unfolding first_word_of
first-word (command.If e) wants rest own = word-begins 105 (codes "f") _ refl refl (blank-ends _)
first-word (command.ElseIf e) wants rest own = word-begins 101 (codes "lseif") _ refl refl (blank-ends _)
first-word command.Else wants rest own = word-begins 101 (codes "lse") _ refl refl (closing-ends wants rest)
first-word command.EndIf wants rest own = word-begins 101 (codes "ndif") _ refl refl (closing-ends wants rest)
first-word (command.Set name o e) wants rest own = word-begins 115 (codes "et") _ refl refl (blank-ends _)
first-word (command.Declare name v k) wants rest own = word-begins 100 (codes "eclare") _ refl refl (blank-ends _)
first-word (command.Jump name) wants rest own = word-begins 106 (codes "ump") _ refl refl (blank-ends _)
first-word (command.JumpTo e) wants rest own = word-begins 106 (codes "ump") _ refl refl (blank-ends _)
first-word command.Stop wants rest own = word-begins 115 (codes "top") _ refl refl (closing-ends wants rest)
first-word (command.Call e) wants rest own = word-begins 99 (codes "all") _ refl refl (blank-ends _)
first-word command.Game wants rest own = absurd (own refl)

-- ---- the line

pub without_trailing-blank : (bytes : List ℕ) → without_trailing (bytes ++ 32 ∷ []) ≡ without_trailing bytes
without_trailing-blank [] = refl
without_trailing-blank (b ∷ bytes) = by_test (without_trailing-blank bytes) (list_all lines.is_blank (b ∷ bytes)) refl
  where
    same : list_all lines.is_blank ((b ∷ bytes) ++ 32 ∷ []) ≡ (list_all lines.is_blank (b ∷ bytes) && true)
    same = list_all-append lines.is_blank (b ∷ bytes) (32 ∷ [])

    by_test : without_trailing (bytes ++ 32 ∷ []) ≡ without_trailing bytes → (t : Bool) → list_all lines.is_blank (b ∷ bytes) ≡ t →
        without_trailing ((b ∷ bytes) ++ 32 ∷ []) ≡ without_trailing (b ∷ bytes)
    by_test later true t = let whole : list_all lines.is_blank ((b ∷ bytes) ++ 32 ∷ []) ≡ true = same ∙ ap (λ x. x && true) t in rw (whole, t) refl
    by_test later false t = let whole : list_all lines.is_blank ((b ∷ bytes) ++ 32 ∷ []) ≡ false = same ∙ ap (λ x. x && true) t in rw (whole, t) (ap (λ l. b ∷ l) later)

-- what stands inside before `>>`
abbrev pub before_end : Bool → List ℕ
before_end wants = if wants then 32 ∷ [] else []

pub trimmed-before : (bytes : List ℕ) (wants : Bool) → Solid bytes → bytes ≡ trimmed (bytes ++ before_end wants)
trimmed-before bytes true s = sym (ap past_leading (without_trailing-blank bytes) ∙ trimmed-solid bytes s.begins s.ends)
trimmed-before bytes false s = sym (ap trimmed (append-nil bytes) ∙ trimmed-solid bytes s.begins s.ends)

closing-end : (games wants : Bool) (rest : List ℕ) → ToEnd games false (closing wants ++ rest) (before_end wants) rest
closing-end true true rest = content.other refl content.ends
closing-end true false rest = content.ends
closing-end false true rest = content.other refl content.ends
closing-end false false rest = content.ends

-- the content is read up to its end
command-end : (c : Command) (wants : Bool) (rest : List ℕ) (test : ℕ → Bool) → Told test (content_text c) → ToEnd (for_game c) false (content_text c ++ (closing wants ++ rest)) (content_text c ++ before_end wants) rest
command-end command.Stop wants rest test t = content.other refl (content.other refl (content.other refl (content.other refl (closing-end true wants rest))))
command-end (command.If e) wants rest test t = t.passes.in_content _ _ rest (closing-end false wants rest)
command-end (command.ElseIf e) wants rest test t = t.passes.in_content _ _ rest (closing-end false wants rest)
command-end command.Else wants rest test t = t.passes.in_content _ _ rest (closing-end false wants rest)
command-end command.EndIf wants rest test t = t.passes.in_content _ _ rest (closing-end false wants rest)
command-end (command.Set name o e) wants rest test t = t.passes.in_content _ _ rest (closing-end false wants rest)
command-end (command.Declare name v k) wants rest test t = t.passes.in_content _ _ rest (closing-end false wants rest)
command-end (command.Jump name) wants rest test t = t.passes.in_content _ _ rest (closing-end false wants rest)
command-end (command.JumpTo e) wants rest test t = t.passes.in_content _ _ rest (closing-end false wants rest)
command-end (command.Call e) wants rest test t = t.passes.in_content _ _ rest (closing-end false wants rest)
command-end command.Game wants rest test t = t.passes.in_content _ _ rest (closing-end false wants rest)

pub fits-closing : (test : ℕ → Bool) (wants : Bool) → OnlyBreaks test → Fits test (closing wants)
fits-closing test true only = fits-words test (codes " >>") only refl refl
fits-closing test false only = fits-words test (codes ">>") only refl refl

pub closing-solid : (wants : Bool) → ends_solid (closing wants) ≡ true
closing-solid true = refl
closing-solid false = refl

-- a line of a content
pub fits-line : (test : ℕ → Bool) (content : List ℕ) (tags : List (List ℕ)) → OnlyBreaks test → Fits test content → Fits test (tags_text tags) → Fits test (content_line content tags)
fits-line test content tags only own behind =
    let wants = wants_blank content in
    fits-append test (codes "<<") (content ++ (closing wants ++ tags_text tags)) (fits-words test (codes "<<") only refl refl)
    (fits-append test content (closing wants ++ tags_text tags) own (fits-append test (closing wants) (tags_text tags) (fits-closing test wants only) behind))

pub solid-line : (content : List ℕ) (tags : List (List ℕ)) → AreFine tags → Solid (content_line content tags)
solid-line content tags fine =
    let wants = wants_blank content in
    record { begins = refl; ends = ends_solid-behind (codes "<<" ++ content) (closing wants ++ tags_text tags) (ends_with_tags (closing wants) (closing-solid wants) fine) }

pub told-command : (test : ℕ → Bool) → OnlyBreaks test → (cs : List ℕ) (tokens : List Token) (c : Command) → Clean test cs → c ≢ command.Game → IsCommand cs tokens c → Told test (content_text c)
told-command test only [] tokens c clean own is = absurd is
told-command test only (x ∷ xs) tokens c clean own is =
    meant-told test only (text_of (front continues_name (x ∷ xs))) (past continues_name (x ∷ xs)) tokens c (clean-past test continues_name (x ∷ xs) clean) own is

pub clean-fits : (test : ℕ → Bool) (bytes : List ℕ) → OnlyBreaks test → Fits test bytes → Clean test (chars bytes)
clean-fits test bytes only f = record { scalar = scalars-chars bytes f.utf8; free = free-chars test bytes only f.utf8 f.free }

pub again-command : (test : ℕ → Bool) → OnlyBreaks test → (line : List ℕ) (tokens : List Token) (own : Command) (tags : List (List ℕ)) → Fits test line → IsCommandLine line tokens own tags →
    IsAgain test (content_line (content_text own) tags) (item.Command own tags)
again-command test only line tokens own tags whole is =
    let has = is.has in
    let parts = content-parts test line has.split has.to_end whole in
    let fits : Fits test is.content = subst (Fits test) (sym has.own) parts.fits in
    let told = told-command test only (chars is.content) tokens own (clean-fits test is.content only fits) is.no_game is.is in
    let kept = command-again (chars is.content) tokens own (scalars-chars is.content fits.utf8) is.no_game is.is in
    let text = content_text own in
    let wants = wants_blank text in
    let bytes = text ++ (closing wants ++ tags_text tags) in
    let begins : past_leading bytes ≡ bytes = past_leading-solid bytes (begins-front text (closing wants ++ tags_text tags) told.solid.begins) in
    let games : is_for_game (chars (past_leading bytes)) ≡ for_game own = ap (λ l. is_for_game (chars l)) begins ∙ first-word own wants (tags_text tags) is.no_game in
    let fine = fine-tags is.tagged in
    record {
      tokens = kept.tokens;
      form = record {
        content = text;
        rest = tags_text tags;
        has = record {
          bytes = bytes;
          inside = text ++ before_end wants;
          split = refl;
          to_end = subst (λ g. ToEnd g false bytes (text ++ before_end wants) (tags_text tags)) (sym games) (command-end own wants (tags_text tags) test told);
          own = trimmed-before text wants told.solid;
        };
        is = kept.is;
        no_game = is.no_game;
        tagged = printed_tags fine;
      };
      fits = fits-line test text tags only told.fits (fits-tags test only is.tagged parts.behind);
      solid = solid-line text tags fine;
      no_comment = refl;
    }
