-- The first word of a command for the game: it is the same in what is printed of the command.
use Rattle.std.proofs.Common.{◌≡◌, ℕ, List, [], ◌∷◌, ◌++◌, Bool, true, false, ◌||◌, if◌then◌else◌, codes, ◌⊎◌, inl, inr, IsUtf8, refl, sym, ap, subst, ◌∙◌}
use Rattle.std.specs.Str.{chars}
use Rattle.std.proofs.lemmas.Str.{chars-append}
use Rattle.yarn_base.specs.Name.{continues_name}
use Rattle.yarn_expr.specs.declared.token.Token.{Token}
use Rattle.yarn_expr.specs.Tokens.{is_blank, front, past, text_of}
use Rattle.yarn_expr.specs.Word.{is_spelled}
use Rattle.yarn_expr.proofs.Runs.{next_is}
use Rattle.yarn_commands.specs.FirstWord.{first_word_of, may_begin_game, is_for_game}
use Rattle.yarn_commands.specs.declared.command.Command.{Command}
use Rattle.yarn_commands.specs.declared.command.Command.TheVariants as command
use Rattle.yarn_commands.specs.Command.{IsBlank, IsMeant, IsCommand}
use Rattle.yarn_print.proofs.Quiet.{no_name}
use Rattle.yarn_print.proofs.PrintCommand.{chars-words}

-- what holds of both sides of a test holds of what it gives, for two functions
either : {A : Type 0} {X : Type 1} (f : A → X) (g : A → Bool) (P : X → Bool → Type 0) (b : Bool) (x y : A) → P (f x) (g x) → P (f y) (g y) → P (f (if b then x else y)) (g (if b then x else y))
either f g P true x y one two = one
either f g P false x y one two = two

-- such a word may begin a command for the game, and what follows it matters only in whether it is blank
abbrev Begins : (List ℕ → List Token → Command → Type 0) → Bool → Type 0
Begins Meant may = (cs : List ℕ) → Meant cs [] command.Game → (may ≡ true) × ((ds : List ℕ) → ((IsBlank cs → ⊥) → IsBlank ds → ⊥) → Meant ds [] command.Game)

abbrev BeginsWith : List ℕ → Type 0
BeginsWith w = Begins (IsMeant (first_word_of w)) (may_begin_game (first_word_of w))

if-begins : BeginsWith (codes "if")
unfolding first_word_of
if-begins cs h = absurd h

elseif-begins : BeginsWith (codes "elseif")
unfolding first_word_of
elseif-begins cs h = absurd h

else-begins : BeginsWith (codes "else")
unfolding first_word_of
else-begins cs h = absurd h

endif-begins : BeginsWith (codes "endif")
unfolding first_word_of
endif-begins cs h = absurd h

set-begins : BeginsWith (codes "set")
unfolding first_word_of
set-begins cs h = absurd h

declare-begins : BeginsWith (codes "declare")
unfolding first_word_of
declare-begins cs h = absurd h

jump-begins : BeginsWith (codes "jump")
unfolding first_word_of
jump-begins cs h = absurd h

stop-begins : BeginsWith (codes "stop")
unfolding first_word_of
stop-begins cs h = (refl, λ ds more. (more h.0, refl))

call-begins : BeginsWith (codes "call")
unfolding first_word_of
call-begins cs h = absurd h

left_out-begins : BeginsWith (codes "enum")
unfolding first_word_of
left_out-begins cs h = absurd h

other-begins : BeginsWith []
unfolding first_word_of
other-begins cs h = (refl, λ ds more. refl)

word-begins : (w : List ℕ) → BeginsWith w
unfolding first_word_of
word-begins w =
    either IsMeant may_begin_game Begins (is_spelled w (codes "if")) _ _ if-begins
    (either IsMeant may_begin_game Begins (is_spelled w (codes "elseif")) _ _ elseif-begins
    (either IsMeant may_begin_game Begins (is_spelled w (codes "else")) _ _ else-begins
    (either IsMeant may_begin_game Begins (is_spelled w (codes "endif")) _ _ endif-begins
    (either IsMeant may_begin_game Begins (is_spelled w (codes "set")) _ _ set-begins
    (either IsMeant may_begin_game Begins (is_spelled w (codes "declare")) _ _ declare-begins
    (either IsMeant may_begin_game Begins (is_spelled w (codes "jump")) _ _ jump-begins
    (either IsMeant may_begin_game Begins (is_spelled w (codes "stop")) _ _ stop-begins
    (either IsMeant may_begin_game Begins (is_spelled w (codes "call")) _ _ call-begins
    (either IsMeant may_begin_game Begins ((is_spelled w (codes "enum") || is_spelled w (codes "case")) || is_spelled w (codes "endenum")) _ _ left_out-begins other-begins)))))))))

-- a content that is a command for the game may be one by its first word
pub for-game : (cs : List ℕ) → IsCommand cs [] command.Game → is_for_game cs ≡ true
for-game [] is = absurd is
for-game (x ∷ xs) is = (word-begins (text_of (front continues_name (x ∷ xs))) (past continues_name (x ∷ xs)) is).0

-- so is one with the same first word
command-from : (cs ds : List ℕ) → IsCommand cs [] command.Game → front continues_name cs ≡ front continues_name ds → ((IsBlank (past continues_name cs) → ⊥) → IsBlank (past continues_name ds) → ⊥) → (ds ≡ [] → ⊥) →
    IsCommand ds [] command.Game
command-from [] ds is same more some = absurd is
command-from (x ∷ xs) [] is same more some = absurd (some refl)
command-from (x ∷ xs) (y ∷ ys) is same more some =
    let meant = (word-begins (text_of (front continues_name (x ∷ xs))) (past continues_name (x ∷ xs)) is).1 (past continues_name (y ∷ ys)) more in
    subst (λ l. IsMeant (first_word_of (text_of l)) (past continues_name (y ∷ ys)) [] command.Game) same meant

-- ---- texts that are the same up to a substitution

pub front-stays : (p : ℕ → Bool) (xs ys : List ℕ) → next_is p ys ≡ false → front p (xs ++ ys) ≡ front p xs
front-stays p [] [] unmet = refl
front-stays p [] (y ∷ ys) unmet = rw unmet refl
front-stays p (x ∷ xs) ys unmet = by_test (front-stays p xs ys unmet) (p x) refl
  where
    by_test : front p (xs ++ ys) ≡ front p xs → (t : Bool) → p x ≡ t → front p (x ∷ (xs ++ ys)) ≡ front p (x ∷ xs)
    by_test later true t = rw t (ap (λ l. x ∷ l) later)
    by_test later false t = rw t refl

-- what follows that ends a name changes nothing
pub first-stays : (text more : List ℕ) → IsUtf8 text → next_is continues_name (chars more) ≡ false → is_for_game (chars (text ++ more)) ≡ is_for_game (chars text)
first-stays text more utf8 unmet =
    ap is_for_game (chars-append text more utf8) ∙ ap (λ l. may_begin_game (first_word_of (text_of l))) (front-stays continues_name (chars text) (chars more) unmet)

record Stays (p : ℕ → Bool) (xs ys : List ℕ) : Type 0 where
  before : List ℕ
  is : past p (xs ++ 123 ∷ ys) ≡ before ++ 123 ∷ ys

stays : (p : ℕ → Bool) (xs ys : List ℕ) → p 123 ≡ false → Stays p xs ys
stays p [] ys unmet = record { before = []; is = rw unmet refl }
stays p (x ∷ xs) ys unmet = by_test (stays p xs ys unmet) (p x) refl
  where
    by_test : Stays p xs ys → (t : Bool) → p x ≡ t → Stays p (x ∷ xs) ys
    by_test later true t = record { before = later.before; is = rw t later.is }
    by_test later false t = record { before = x ∷ xs; is = rw t refl }

some : (xs ys : List ℕ) → xs ++ 123 ∷ ys ≡ [] → ⊥
some [] ys is = absurd cc
some (x ∷ xs) ys is = absurd cc

brace-stops : continues_name 123 ≡ false
brace-stops = no_name 123 refl refl refl

not_blank : (xs ys : List ℕ) → IsBlank (past continues_name (xs ++ 123 ∷ ys)) → ⊥
not_blank xs ys blank =
    let one = stays continues_name xs ys brace-stops in
    let two = stays is_blank one.before ys refl in
    some two.before ys (sym two.is ∙ ap (past is_blank) (sym one.is) ∙ blank)

-- the two are the same up to a `{` in both
pub record Fork (a b : List ℕ) : Type 0 where
  pub before : List ℕ
  pub one : List ℕ
  pub two : List ℕ
  pub first : a ≡ before ++ 123 ∷ one
  pub second : b ≡ before ++ 123 ∷ two

abbrev pub Shared : List ℕ → List ℕ → Type 0
Shared a b = (a ≡ b) ⊎ Fork a b

pub shared-behind : (c : ℕ) (a b : List ℕ) → Shared a b → Shared (c ∷ a) (c ∷ b)
shared-behind c a b (inl same) = inl (ap (λ l. c ∷ l) same)
shared-behind c a b (inr f) = inr (record { before = c ∷ f.before; one = f.one; two = f.two; first = ap (λ l. c ∷ l) f.first; second = ap (λ l. c ∷ l) f.second })

chars-fork : (before one : List ℕ) → IsUtf8 before → chars (before ++ 123 ∷ one) ≡ chars before ++ 123 ∷ chars one
chars-fork before one utf8 = chars-append before (123 ∷ one) utf8 ∙ ap (λ l. chars before ++ l) (chars-words (123 ∷ []) one refl)

front-fork : (before one : List ℕ) → IsUtf8 before → front continues_name (chars (before ++ 123 ∷ one)) ≡ front continues_name (chars before)
front-fork before one utf8 = ap (front continues_name) (chars-fork before one utf8) ∙ front-stays continues_name (chars before) (123 ∷ chars one) brace-stops

pub command-shared : (a b : List ℕ) → Shared a b → ((f : Fork a b) → IsUtf8 f.before) → IsCommand (chars a) [] command.Game → IsCommand (chars b) [] command.Game
command-shared a b (inl same) utf8 is = subst (λ l. IsCommand (chars l) [] command.Game) same is
command-shared a b (inr f) utf8 is =
    let words = utf8 f in
    let ahead = chars-fork f.before f.two words in
    let again : IsCommand (chars (f.before ++ 123 ∷ f.two)) [] command.Game =
    command-from (chars (f.before ++ 123 ∷ f.one)) (chars (f.before ++ 123 ∷ f.two)) (subst (λ l. IsCommand (chars l) [] command.Game) f.first is)
    (front-fork f.before f.one words ∙ sym (front-fork f.before f.two words))
    (λ other blank. not_blank (chars f.before) (chars f.two) (subst (λ l. IsBlank (past continues_name l)) ahead blank))
    (λ none. some (chars f.before) (chars f.two) (sym ahead ∙ none)) in
    subst (λ l. IsCommand (chars l) [] command.Game) (sym f.second) again
