-- A command for the game is printed as a line that is it again.
use Rattle.std.proofs.Common.{◌≡◌, ℕ, List, [], ◌∷◌, ◌++◌, Bool, true, false, nat_eq, inl, inr, IsUtf8, refl, sym, ap, subst, ◌∙◌, arith, append_assoc}
use Rattle.std.specs.List.{list_all}
use Rattle.std.specs.Str.{chars}
use Rattle.std.proofs.lemmas.Bool.{and_parts, or_parts, eqb-true}
use Rattle.std.proofs.lemmas.Str.{chars-nil}
use Rattle.yarn_base.specs.Name.{continues_name}
use Rattle.yarn_expr.specs.declared.token.Token.{Token}
use Rattle.yarn_expr.specs.declared.tree.Expr.{Expr}
use Rattle.yarn_expr.proofs.Runs.{next_is}
use Rattle.yarn_commands.specs.FirstWord.{is_for_game}
use Rattle.yarn_commands.specs.declared.command.Command.TheVariants as command
use Rattle.yarn_commands.specs.Command.{IsCommand}
use Rattle.yarn_lines.specs.Lines.{is_blank, past_leading, without_trailing}
use Rattle.yarn_items.specs.declared.item.Said.{Said}
use Rattle.yarn_items.specs.declared.item.Item.TheVariants as item
use Rattle.yarn_items.specs.Content.{ToEnd}
use Rattle.yarn_items.specs.Content as content
use Rattle.yarn_items.specs.Item.{IsGameLine}
use Rattle.yarn_print.specs.Print.{tags_text, wants_blank, content_line, game_printed, last_of}
use Rattle.yarn_print.proofs.Quiet.{OnlyBreaks, Fits, no_name}
use Rattle.yarn_print.proofs.Tight.{IsTight, tight-trimmed, begins_solid, begins-front, past_leading-solid, Solid}
use Rattle.yarn_print.proofs.Cuts.{fits-cut}
use Rattle.yarn_print.proofs.PrintText.{ends-alike}
use Rattle.yarn_print.proofs.PrintTags.{AreFine, fine-tags, printed_tags, fits-tags}
use Rattle.yarn_print.proofs.PrintLine.{IsAgain, tight-solid}
use Rattle.yarn_print.proofs.PrintCommand.{Parts, content-parts, end-split, ends-name, closing, closing-ends, before_end, trimmed-before, fits-line, solid-line}
use Rattle.yarn_print.proofs.PrintGame.{IsGame, ended, last_back, paired, quoted, put, plain, from_game, game_back, fits-game, last-game, begins-game, IsClosing, behind_blank, bare, game-end, game-pair, game-char, game-hole}
use Rattle.yarn_print.proofs.GameWord.{for-game, first-stays, Shared, Fork, shared-behind, command-shared}

-- ---- blanks around a content

leading-through : (xs : List ℕ) (c : ℕ) (ys : List ℕ) → is_blank c ≡ false → past_leading (xs ++ c ∷ ys) ≡ past_leading xs ++ c ∷ ys
leading-through [] c ys is = rw is refl
leading-through (x ∷ xs) c ys is = by_test (leading-through xs c ys is) (is_blank x) refl
  where
    by_test : past_leading (xs ++ c ∷ ys) ≡ past_leading xs ++ c ∷ ys → (t : Bool) → is_blank x ≡ t → past_leading (x ∷ (xs ++ c ∷ ys)) ≡ past_leading (x ∷ xs) ++ c ∷ ys
    by_test later true t = rw t later
    by_test later false t = rw t refl

all-blank : (bytes : List ℕ) → list_all is_blank bytes ≡ true → without_trailing bytes ≡ []
all-blank [] all = refl
all-blank (b ∷ bytes) all = rw all refl

-- blanks at the front and at the end may be left out in either order
trimmed-other : (bytes : List ℕ) → without_trailing (past_leading bytes) ≡ past_leading (without_trailing bytes)
trimmed-other [] = refl
trimmed-other (b ∷ bytes) = by_blank (trimmed-other bytes) (is_blank b) refl
  where
    by_all : without_trailing (past_leading bytes) ≡ past_leading (without_trailing bytes) → is_blank b ≡ true → (t : Bool) → list_all is_blank bytes ≡ t →
        without_trailing (past_leading (b ∷ bytes)) ≡ past_leading (without_trailing (b ∷ bytes))
    by_all later is true t = rw (is, t) (later ∙ ap past_leading (all-blank bytes t))
    by_all later is false t = rw (is, t) (rw is later)

    by_blank : without_trailing (past_leading bytes) ≡ past_leading (without_trailing bytes) → (t : Bool) → is_blank b ≡ t → without_trailing (past_leading (b ∷ bytes)) ≡ past_leading (without_trailing (b ∷ bytes))
    by_blank later true t = by_all later t (list_all is_blank bytes) refl
    by_blank later false t = rw t (rw t refl)

-- the blanks at the end
record Trail (bytes : List ℕ) : Type 0 where
  blanks : List ℕ
  all : list_all is_blank blanks ≡ true
  is : bytes ≡ without_trailing bytes ++ blanks

trail : (bytes : List ℕ) → Trail bytes
trail [] = record { blanks = []; all = refl; is = refl }
trail (b ∷ bytes) = by_test (trail bytes) (list_all is_blank (b ∷ bytes)) refl
  where
    by_test : Trail bytes → (t : Bool) → list_all is_blank (b ∷ bytes) ≡ t → Trail (b ∷ bytes)
    by_test later true t = record { blanks = b ∷ bytes; all = t; is = rw t refl }
    by_test later false t = record { blanks = later.blanks; all = later.all; is = rw t (ap (λ l. b ∷ l) later.is) }

blank-name : (b : ℕ) (more : List ℕ) → is_blank b ≡ true → next_is continues_name (chars (b ∷ more)) ≡ false
blank-name b more is = by_test (nat_eq b 32) refl
  where
    by_test : (t : Bool) → nat_eq b 32 ≡ t → next_is continues_name (chars (b ∷ more)) ≡ false
    by_test true t = subst (λ x. next_is continues_name (chars (x ∷ more)) ≡ false) (sym (eqb-true b 32 t)) (ends-name 32 more refl (no_name 32 refl refl refl))
    by_test false t =
        let tab : nat_eq b 9 ≡ true = rw t at is in
        subst (λ x. next_is continues_name (chars (x ∷ more)) ≡ false) (sym (eqb-true b 9 tab)) (ends-name 9 more refl (no_name 9 refl refl refl))

blanks-name : (blanks rest : List ℕ) → list_all is_blank blanks ≡ true → next_is continues_name (chars (blanks ++ 62 ∷ 62 ∷ rest)) ≡ false
blanks-name [] rest all = ends-name 62 (62 ∷ rest) refl (no_name 62 refl refl refl)
blanks-name (b ∷ blanks) rest all = blank-name b (blanks ++ 62 ∷ 62 ∷ rest) (and_parts (is_blank b) (list_all is_blank blanks) all).0

-- an end is read behind the blanks at the front too
record Stripped (inside rest : List ℕ) : Type 0 where
  bytes : List ℕ
  to_end : ToEnd true false bytes inside rest

stripped : {q : Bool} {bytes inside rest : List ℕ} → q ≡ false → ToEnd true q bytes inside rest → Stripped (past_leading inside) rest
stripped {bytes = bytes} is content.ends = record { bytes = bytes; to_end = content.ends }
stripped {q} {bytes = bytes} is (content.quote {inside = inside} {rest = rest} later) = record { bytes = bytes; to_end = subst (λ (x : Bool). ToEnd true x bytes (34 ∷ inside) rest) is (content.quote later) }
stripped {q} {bytes = bytes} is (content.skipped {c = c} {inside = inside} {rest = rest} later) = record { bytes = bytes; to_end = subst (λ (x : Bool). ToEnd true x bytes (92 ∷ c ∷ inside) rest) is (content.skipped later) }
stripped {q} {bytes = bytes} is (content.passed {own = own} {inside = inside} {rest = rest} to later) = record { bytes = bytes; to_end = subst (λ (x : Bool). ToEnd true x bytes (123 ∷ (own ++ 125 ∷ inside)) rest) is (content.passed to later) }
stripped {q} {bytes = bytes} is (content.other {c = c} {inside = inside} {rest = rest} on later) = by_test (stripped is later) (is_blank c) refl
  where
    by_test : Stripped (past_leading inside) rest → (t : Bool) → is_blank c ≡ t → Stripped (past_leading (c ∷ inside)) rest
    by_test behind true t = rw t behind
    by_test behind false t = rw t (record { bytes = bytes; to_end = subst (λ (x : Bool). ToEnd true x bytes (c ∷ inside) rest) is (content.other on later) })

-- ---- the line

closing-for : (text rest : List ℕ) → IsClosing (last_of 0 text) (closing (wants_blank text) ++ rest) (before_end (wants_blank text)) rest
closing-for text rest = by_test (wants_blank text) refl
  where
    by_test : (t : Bool) → wants_blank text ≡ t → IsClosing (last_of 0 text) (closing t ++ rest) (before_end t) rest
    by_test true t = behind_blank
    by_test false t = let parts = or_parts (nat_eq (last_of 0 text) 62) (nat_eq (last_of 0 text) 92) t in bare parts.0 parts.1

-- what is printed of a content is the content up to the first substitution
game-shared : {test : ℕ → Bool} {q : Bool} {k : ℕ} {raw text : List ℕ} {es : List Expr} → IsGame test q k raw text es → Shared raw (game_printed false text es)
game-shared ended = inl refl
game-shared last_back = inl refl
game-shared (paired {c = c} {raw = raw} {text = text} {es = es} later) =
    subst (λ l. Shared (92 ∷ c ∷ raw) l) (sym (game-pair c text es)) (shared-behind 92 (c ∷ raw) (c ∷ game_printed false text es) (shared-behind c raw (game_printed false text es) (game-shared later)))
game-shared (quoted {raw = raw} {text = text} {es = es} later) =
    subst (λ l. Shared (34 ∷ raw) l) (sym (game-char 34 text es refl refl)) (shared-behind 34 raw (game_printed false text es) (game-shared later))
game-shared (put {k = k} {text = text} {e = e} {es = es} inside f later) = inr (record { before = []; one = _; two = _; first = refl; second = game-hole k text e es })
game-shared (plain {c = c} {raw = raw} {text = text} {es = es} quote back opens ends later) =
    subst (λ l. Shared (c ∷ raw) l) (sym (game-char c text es back opens)) (shared-behind c raw (game_printed false text es) (game-shared later))

pub again-game : (test : ℕ → Bool) → OnlyBreaks test → (line : List ℕ) (tokens : List Token) (said : Said) → Fits test line → IsGameLine line tokens said →
    IsAgain test (content_line (game_printed false said.text said.holes) said.tags) (item.Game said)
again-game test only line tokens said whole is = of (stripped refl (subst (λ (g : Bool). ToEnd g false is.has.bytes inside is.rest) games is.has.to_end))
  where
    inside : List ℕ
    inside = is.has.inside

    parts : Parts test inside is.rest
    parts = content-parts test line is.has.split is.has.to_end whole

    fits : Fits test is.content
    fits = subst (Fits test) (sym is.has.own) parts.fits

    other : is.content ≡ without_trailing (past_leading inside)
    other = is.has.own ∙ sym (trimmed-other inside)

    t : Trail (past_leading inside)
    t = trail (past_leading inside)

    -- what stands behind the blanks at the front
    ahead : past_leading is.has.bytes ≡ is.content ++ (t.blanks ++ 62 ∷ 62 ∷ is.rest)
    ahead =
        ap past_leading (end-split is.has.to_end) ∙ leading-through inside 62 (62 ∷ is.rest) refl ∙ ap (λ l. l ++ 62 ∷ 62 ∷ is.rest) t.is
        ∙ append_assoc (without_trailing (past_leading inside)) t.blanks (62 ∷ 62 ∷ is.rest) ∙ ap (λ l. l ++ (t.blanks ++ 62 ∷ 62 ∷ is.rest)) (sym other)

    games : is_for_game (chars (past_leading is.has.bytes)) ≡ true
    games = ap (λ l. is_for_game (chars l)) ahead ∙ first-stays is.content (t.blanks ++ 62 ∷ 62 ∷ is.rest) fits.utf8 (blanks-name t.blanks is.rest t.all) ∙ for-game (chars is.content) is.is

    some : is.content ≡ [] → ⊥
    some none = subst (λ l. IsCommand l [] command.Game) (ap chars none ∙ chars-nil) is.is

    raw_solid : Solid is.content
    raw_solid = tight-solid (subst IsTight (sym is.has.own) (tight-trimmed inside)) some

    text : List ℕ
    text = game_printed false said.text said.holes

    fine : AreFine said.tags
    fine = fine-tags is.tagged

    of : Stripped (past_leading inside) is.rest → IsAgain test (content_line text said.tags) (item.Game said)
    of s =
        let own = from_game test only [] 0 is.content is.pieces tokens said.holes s.to_end other is.read is.held fits in
        let g : IsGame test false 0 is.content said.text said.holes = subst (λ l. IsGame test false 0 is.content l said.holes) (sym is.own) own in
        let r = game_back g in
        let printed = fits-game only g fits in
        let begins : begins_solid text ≡ true = begins-game g ∙ raw_solid.begins in
        let solid : Solid text = record { begins = begins; ends = ends-alike text is.content (last-game 0 g) raw_solid.ends begins } in
        let shared = game-shared g in
        let front : (f : Fork is.content text) → IsUtf8 f.before = λ f. (fits-cut test f.before 123 f.one (omega arith) (subst (Fits test) f.first fits)).0.utf8 in
        let command = command-shared is.content text shared front is.is in
        let wants = wants_blank text in
        let bytes = text ++ (closing wants ++ tags_text said.tags) in
        let same : past_leading bytes ≡ bytes = past_leading-solid bytes (begins-front text (closing wants ++ tags_text said.tags) begins) in
        let again : is_for_game (chars (past_leading bytes)) ≡ true =
        ap (λ l. is_for_game (chars l)) same ∙ first-stays text (closing wants ++ tags_text said.tags) printed.utf8 (closing-ends wants (tags_text said.tags)) ∙ for-game (chars text) command in
        let end = game-end 0 (closing wants ++ tags_text said.tags) (before_end wants) (tags_text said.tags) g (closing-for text (tags_text said.tags)) in
        record {
          tokens = r.tokens;
          form = record {
            content = text;
            rest = tags_text said.tags;
            has = record {
              bytes = bytes;
              inside = text ++ before_end wants;
              split = refl;
              to_end = subst (λ (x : Bool). ToEnd x false bytes (text ++ before_end wants) (tags_text said.tags)) (sym again) end;
              own = trimmed-before text wants solid;
            };
            is = command;
            pieces = r.pieces;
            read = r.read;
            own = sym r.own;
            held = r.held;
            tagged = printed_tags fine;
          };
          fits = fits-line test text said.tags only printed (fits-tags test only is.tagged parts.behind);
          solid = solid-line text said.tags fine;
          no_comment = refl;
        }
