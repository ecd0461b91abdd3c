-- Tokens of short texts are short, and those that are variables are names behind a `$`.
use Rattle.std.proofs.Common.{◌≡◌, ℕ, zero, suc, ◌+◌, ◌≤◌, List, [], ◌∷◌, ◌++◌, length, Bool, true, false, ◌==◌, ◌&&◌, Option, Some, None, refl, sym, ap, ◌∙◌, subst, arith, length-append}
use Rattle.std.specs.Prelude.{encode_utf8_all, encode_utf8, IsUtf8}
use Rattle.std.specs.List.{list_all}
use Rattle.std.specs.Str.{chars, all_scalars}
use Rattle.std.proofs.lemmas.Bool.{and_parts, and_from}
use Rattle.std.proofs.lemmas.Bool.Decides.{nat_tests}
use Rattle.std.proofs.lemmas.Str.{encodes-append, chars-encodes, scalars-chars, encodes-chars}
use Rattle.yarn_base.specs.Name.{starts_name, continues_name, is_name_of, is_variable_of}
use Rattle.yarn_expr.specs.declared.token.Token.{Token}
use Rattle.yarn_expr.specs.declared.token.Token.TheVariants as token
use Rattle.yarn_expr.specs.declared.token.Sign.{Sign}
use Rattle.yarn_expr.specs.Tokens.{is_blank, is_digit, front, past, Next, text_of, digit_next, behind_point, after_digits, number_token, Quoted, with_char, is_escaped, quoted, string_of, name_next, variable_token, word_token, two_signs, one_sign, signed, sign_after, sign_token, next_token, with_token, tokens_at, tokens, tokens_of}
use Rattle.yarn_expr.proofs.Runs.{AllOf}
use Rattle.yarn_expr.proofs.Steps.{bind_some}
use Rattle.yarn_expr.proofs.TextTokens.{IsVariable, IsToken, AllTokens, scalars-past, past-starts, next-read, tokens_of-read}
use Rattle.yarn_commands.specs.Command.{StandsNext}
use Rattle.yarn_compile.proofs.Parts.{Each}

-- ---- how many bytes characters take

abbrev pub size : List ℕ → ℕ
size cs = length (encode_utf8_all cs)

size_tail : (c : ℕ) (cs : List ℕ) → size cs ≤ size (c ∷ cs)
size_tail c cs = omega (arith, length-append (encode_utf8 c) (encode_utf8_all cs))

size_more : (c : ℕ) (cs ds : List ℕ) → size cs ≤ size ds → size (c ∷ cs) ≤ size (c ∷ ds)
size_more c cs ds h = omega (arith, h, length-append (encode_utf8 c) (encode_utf8_all cs), length-append (encode_utf8 c) (encode_utf8_all ds))

size_append : (a b : List ℕ) → size (a ++ b) ≡ size a + size b
size_append a b = ap length (encodes-append a b) ∙ length-append (encode_utf8_all a) (encode_utf8_all b)

size_front : (p : ℕ → Bool) (cs : List ℕ) → size (front p cs) ≤ size cs
size_front p [] = omega arith
size_front p (c ∷ cs) = by_test (size_front p cs) (p c) refl
  where
    by_test : size (front p cs) ≤ size cs → (b : Bool) → p c ≡ b → size (front p (c ∷ cs)) ≤ size (c ∷ cs)
    by_test more true is = rw is (size_more c (front p cs) cs more)
    by_test more false is = rw is (omega arith)

size_past : (p : ℕ → Bool) (cs : List ℕ) → size (past p cs) ≤ size cs
size_past p [] = omega arith
size_past p (c ∷ cs) = by_test (size_past p cs) (p c) refl
  where
    by_test : size (past p cs) ≤ size cs → (b : Bool) → p c ≡ b → size (past p (c ∷ cs)) ≤ size (c ∷ cs)
    by_test more true is = rw is (omega (arith, more, size_tail c cs))
    by_test more false is = rw is (omega arith)

-- ---- tokens are short

abbrev IsShort : ℕ → Token → Type 0
IsShort most (token.Number digits) = Unit {0}
IsShort most (token.Fraction digits) = Unit {0}
IsShort most (token.Str text) = length text ≤ most
IsShort most (token.Variable name) = Unit {0}
IsShort most (token.Word w) = length w ≤ most
IsShort most (token.Sign s) = Unit {0}

-- a token that is short, and short characters behind it
abbrev IsWithin : ℕ → Next → Type 0
IsWithin most n = IsShort most n.token × (size n.rest ≤ most)

point_short : (cs digits : List ℕ) → behind_point cs ≡ Some digits → size digits ≤ size cs
point_short [] digits e = absurd cc
point_short (c ∷ cs) digits e = by_test ((c == 46) && digit_next cs) refl
  where
    by_test : (b : Bool) → ((c == 46) && digit_next cs) ≡ b → size digits ≤ size (c ∷ cs)
    by_test true is = let f = rw is at e in let same : cs ≡ digits = cc in subst (λ l. size l ≤ size (c ∷ cs)) same (size_tail c cs)
    by_test false is = let f = rw is at e in absurd cc

number_short : (most : ℕ) (cs : List ℕ) → size cs ≤ most → IsWithin most (number_token cs)
unfolding number_token
number_short most cs h = by_point (behind_point (past is_digit cs)) refl
  where
    by_point : (o : Option (List ℕ)) → behind_point (past is_digit cs) ≡ o → IsWithin most (after_digits (front is_digit cs) (past is_digit cs) o)
    by_point None e = (tt, omega (arith, h, size_past is_digit cs))
    by_point (Some digits) e = (tt, omega (arith, h, size_past is_digit cs, point_short (past is_digit cs) digits e, size_past is_digit digits))

-- a string and what follows it take no more than its characters
abbrev AreWithin : ℕ → Quoted → Type 0
AreWithin most q = (size q.body ≤ most) × (size q.rest ≤ most)

char_within : (x : ℕ) (xs : List ℕ) (o : Option Quoted) (q : Quoted) → with_char x o ≡ Some q → ((p : Quoted) → o ≡ Some p → AreWithin (size xs) p) →
    AreWithin (size (x ∷ xs)) q
char_within x xs None q e more = absurd cc
char_within x xs (Some p) q e more =
    let same : ◌≡◌ {A = Quoted} (record { body = x ∷ p.body; rest = p.rest }) q = cc in
    let m = more p refl in
    subst (λ (r : Quoted). AreWithin (size (x ∷ xs)) r) same (size_more x p.body xs m.0, omega (arith, m.1, size_tail x xs))

wider : (few most : ℕ) (q : Quoted) → few ≤ most → AreWithin few q → AreWithin most q
wider few most q h w = (omega (arith, h, w.0), omega (arith, h, w.1))

quoted_within : (k : ℕ) (cs : List ℕ) → length cs ≤ k → (q : Quoted) → quoted cs ≡ Some q → AreWithin (size cs) q
unfolding quoted
quoted_within k [] le q e = absurd cc
quoted_within k (c ∷ []) le q e = by_quote (c == 34) refl
  where
    by_quote : (b : Bool) → (c == 34) ≡ b → AreWithin (size (c ∷ [])) q
    by_quote true is = let f = rw is at e in let same : ◌≡◌ {A = Quoted} (record { body = []; rest = [] }) q = cc in
        subst (λ (r : Quoted). AreWithin (size (c ∷ [])) r) same (omega arith, omega arith)
    by_quote false is = let f = rw is at e in absurd cc
quoted_within zero (c ∷ d ∷ cs) le q e = absurd (omega arith)
quoted_within (suc k) (c ∷ d ∷ cs) le q e = by_quote (quoted_within k) (c == 34) refl
  where
    by_escape : ((ds : List ℕ) → length ds ≤ k → (p : Quoted) → quoted ds ≡ Some p → AreWithin (size ds) p) → (c == 34) ≡ false → (b : Bool) →
        ((c == 92) && is_escaped d) ≡ b → AreWithin (size (c ∷ d ∷ cs)) q
    by_escape more plain true is = wider (size (d ∷ cs)) (size (c ∷ d ∷ cs)) q (size_tail c (d ∷ cs)) (char_within d cs (quoted cs) q (rw (plain, is) at e) (more cs (omega arith)))
    by_escape more plain false is = char_within c (d ∷ cs) (quoted (d ∷ cs)) q (rw (plain, is) at e) (more (d ∷ cs) (omega arith))

    by_quote : ((ds : List ℕ) → length ds ≤ k → (p : Quoted) → quoted ds ≡ Some p → AreWithin (size ds) p) → (b : Bool) → (c == 34) ≡ b →
        AreWithin (size (c ∷ d ∷ cs)) q
    by_quote more true is = let f = rw is at e in let same : ◌≡◌ {A = Quoted} (record { body = []; rest = d ∷ cs }) q = cc in
        subst (λ (r : Quoted). AreWithin (size (c ∷ d ∷ cs)) r) same (omega arith, size_tail c (d ∷ cs))
    by_quote more false is = by_escape more is ((c == 92) && is_escaped d) refl

string_short : (most : ℕ) (cs : List ℕ) → size cs ≤ most → (o : Option Quoted) → quoted cs ≡ o → (n : Next) → string_of o ≡ Some n → IsWithin most n
string_short most cs h None is n e = absurd cc
string_short most cs h (Some q) is n e =
    let same : ◌≡◌ {A = Next} (record { token = token.Str (text_of q.body); rest = q.rest }) n = cc in
    subst (λ (r : Next). IsWithin most r) same (wider (size cs) most q h (quoted_within (length cs) cs (omega arith) q is))

variable_short : (most : ℕ) (cs : List ℕ) → size cs ≤ most → (n : Next) → variable_token cs ≡ Some n → IsWithin most n
variable_short most cs h n e = by_name (name_next cs) refl
  where
    by_name : (b : Bool) → name_next cs ≡ b → IsWithin most n
    by_name true is =
        let f = rw is at e in
        let same : ◌≡◌ {A = Next} (record { token = token.Variable (text_of (36 ∷ front continues_name cs)); rest = past continues_name cs }) n = cc in
        subst (λ (r : Next). IsWithin most r) same (tt, omega (arith, h, size_past continues_name cs))
    by_name false is = let f = rw is at e in absurd cc

word_short : (most c : ℕ) (cs : List ℕ) → size (c ∷ cs) ≤ most → IsWithin most (word_token c cs)
word_short most c cs h = (
  omega (arith, h, size_more c (front continues_name cs) cs (size_front continues_name cs)),
  omega (arith, h, size_tail c cs, size_past continues_name cs),
)

signed_short : (most : ℕ) (cs : List ℕ) (o : Option Sign) (n : Next) → size cs ≤ most → signed cs o ≡ Some n → IsWithin most n
signed_short most cs None n h e = absurd cc
signed_short most cs (Some s) n h e = let same : ◌≡◌ {A = Next} (record { token = token.Sign s; rest = cs }) n = cc in subst (λ (r : Next). IsWithin most r) same (tt, h)

sign_short : (most : ℕ) (cs : List ℕ) (n : Next) → size cs ≤ most → sign_token cs ≡ Some n → IsWithin most n
sign_short most [] n h e = absurd cc
sign_short most (c ∷ []) n h e = signed_short most [] (one_sign c) n (omega arith) e
sign_short most (c ∷ d ∷ cs) n h e = by_two (two_signs c d) e
  where
    by_two : (o : Option Sign) → sign_after c d cs o ≡ Some n → IsWithin most n
    by_two None e = signed_short most (d ∷ cs) (one_sign c) n (omega (arith, h, size_tail c (d ∷ cs))) e
    by_two (Some s) e = signed_short most cs (Some s) n (omega (arith, h, size_tail c (d ∷ cs), size_tail d cs)) e

next_short : (most c : ℕ) (cs : List ℕ) (n : Next) → size (c ∷ cs) ≤ most → next_token (c ∷ cs) ≡ Some n → IsWithin most n
unfolding next_token
next_short most c cs n h e = by_digit (is_digit c) refl
  where
    tail : size cs ≤ most
    tail = omega (arith, h, size_tail c cs)

    by_name : is_digit c ≡ false → (c == 34) ≡ false → (c == 36) ≡ false → (b : Bool) → starts_name c ≡ b → IsWithin most n
    by_name digit quote dollar true is =
        let f = rw (digit, quote, dollar, is) at e in
        let same : word_token c cs ≡ n = cc in
        subst (λ (r : Next). IsWithin most r) same (word_short most c cs h)
    by_name digit quote dollar false is = sign_short most (c ∷ cs) n h (rw (digit, quote, dollar, is) at e)

    by_dollar : is_digit c ≡ false → (c == 34) ≡ false → (b : Bool) → (c == 36) ≡ b → IsWithin most n
    by_dollar digit quote true is = variable_short most cs tail n (rw (digit, quote, is) at e)
    by_dollar digit quote false is = by_name digit quote is (starts_name c) refl

    by_quote : is_digit c ≡ false → (b : Bool) → (c == 34) ≡ b → IsWithin most n
    by_quote digit true is = string_short most cs tail (quoted cs) refl n (rw (digit, is) at e)
    by_quote digit false is = by_dollar digit is (c == 36) refl

    by_digit : (b : Bool) → is_digit c ≡ b → IsWithin most n
    by_digit true is = let f = rw is at e in let same : number_token (c ∷ cs) ≡ n = cc in subst (λ (r : Next). IsWithin most r) same (number_short most (c ∷ cs) h)
    by_digit false is = by_quote is (c == 34) refl

with_token_some : (t : Token) (o : Option (List Token)) (ts : List Token) → with_token t o ≡ Some ts →
    (us : List Token) × (o ≡ Some us) × (t ∷ us ≡ ts)
with_token_some t None ts e = absurd cc
with_token_some t (Some us) ts e = (us, refl, cc)

tokens_short : (most k : ℕ) (cs : List ℕ) (ts : List Token) → size cs ≤ most → tokens k cs ≡ Some ts → Each (IsShort most) ts
unfolding tokens
tokens_short most zero cs ts h e = absurd cc
tokens_short most (suc k) cs ts h e = by_start (tokens_short most k) (past is_blank cs) refl e
  where
    by_start : ((ds : List ℕ) (us : List Token) → size ds ≤ most → tokens k ds ≡ Some us → Each (IsShort most) us) → (start : List ℕ) →
        past is_blank cs ≡ start → tokens_at (tokens k) start ≡ Some ts → Each (IsShort most) ts
    by_start more [] at f = let same : ◌≡◌ {A = List Token} [] ts = cc in subst (Each (IsShort most)) same tt
    by_start more (c ∷ ds) at f =
        let n = bind_some (next_token (c ∷ ds)) _ ts f in
        let us = with_token_some n.0.token (tokens k n.0.rest) ts n.2 in
        let short : size (c ∷ ds) ≤ most = subst (λ l. size l ≤ most) at (omega (arith, h, size_past is_blank cs)) in
        let read = next_short most c ds n.0 short n.1 in
        subst (Each (IsShort most)) us.2 (read.0, more n.0.rest us.0 read.1 us.1)

-- ---- characters of a short text

pub record AreChars (cs : List ℕ) : Type 0 where
  pub scalar : all_scalars cs ≡ true
  pub short : size cs ≤ 65536

-- a text of at most 65,536 bytes
pub record IsFine (bytes : List ℕ) : Type 0 where
  pub utf8 : IsUtf8 bytes
  pub short : length bytes ≤ 65536

pub chars_of : (bytes : List ℕ) → IsFine bytes → AreChars (chars bytes)
chars_of bytes h = record { scalar = scalars-chars bytes h.utf8; short = omega (arith, h.short, ap length (encodes-chars bytes h.utf8)) }

scalars_parts : (a b : List ℕ) → all_scalars (a ++ b) ≡ true → (all_scalars a ≡ true) × (all_scalars b ≡ true)
scalars_parts [] b h = (refl, h)
scalars_parts (c ∷ a) b h =
    let both = and_parts _ (all_scalars (a ++ b)) h in
    let more = scalars_parts a b both.1 in
    (and_from _ (all_scalars a) both.0 more.0, more.1)

pub chars_parts : (a b : List ℕ) → AreChars (a ++ b) → AreChars a × AreChars b
chars_parts a b h =
    let both = scalars_parts a b h.scalar in (
      record { scalar = both.0; short = omega (arith, h.short, size_append a b) },
      record { scalar = both.1; short = omega (arith, h.short, size_append a b) },
    )

pub chars_past : (p : ℕ → Bool) (cs : List ℕ) → AreChars cs → AreChars (past p cs)
chars_past p cs h = record { scalar = scalars-past p cs h.scalar; short = omega (arith, h.short, size_past p cs) }

-- ---- fine tokens

abbrev pub IsVariableName : List ℕ → Type 0
IsVariableName name = is_variable_of (chars name) ≡ true

abbrev pub FineToken : Token → Type 0
FineToken (token.Number digits) = Unit {0}
FineToken (token.Fraction digits) = Unit {0}
FineToken (token.Str text) = length text ≤ 65536
FineToken (token.Variable name) = IsVariableName name
FineToken (token.Word w) = length w ≤ 65536
FineToken (token.Sign s) = Unit {0}

continues_all : (cs : List ℕ) → AllOf continues_name cs → list_all continues_name cs ≡ true
continues_all [] h = refl
continues_all (c ∷ cs) h = and_from (continues_name c) (list_all continues_name cs) h.0 (continues_all cs h.1)

name_from : (cs : List ℕ) → name_next cs ≡ true → AllOf continues_name cs → is_name_of cs ≡ true
name_from [] starts all = absurd cc
name_from (c ∷ cs) starts all = and_from (starts_name c) (list_all continues_name cs) starts (continues_all cs all.1)

variable_named : (name : List ℕ) → IsVariable name → IsVariableName name
variable_named name h =
    let same : chars name ≡ 36 ∷ h.others = ap chars h.spelt ∙ chars-encodes (36 ∷ h.others) h.scalar in
    ap is_variable_of same ∙ name_from h.others h.starts h.continues

fine_from : (t : Token) → IsToken t → IsShort 65536 t → FineToken t
fine_from (token.Number digits) is short = tt
fine_from (token.Fraction digits) is short = tt
fine_from (token.Str text) is short = short
fine_from (token.Variable name) is short = variable_named name is
fine_from (token.Word w) is short = short
fine_from (token.Sign s) is short = tt

all_fine : (ts : List Token) → AllTokens ts → Each (IsShort 65536) ts → Each FineToken ts
all_fine [] is short = tt
all_fine (t ∷ ts) is short = (fine_from t is.0 short.0, all_fine ts is.1 short.1)

-- the tokens of a short text are fine
pub tokens_fine : (cs : List ℕ) (ts : List Token) → AreChars cs → tokens_of cs ≡ Some ts → Each FineToken ts
unfolding tokens_of
tokens_fine cs ts h e = all_fine ts (tokens_of-read cs ts h.scalar e) (tokens_short 65536 (suc (length cs)) cs ts h.short e)

none_next : (n : Next) → next_token [] ≡ Some n → ⊥
unfolding next_token
none_next n e = cc

-- a token that stands next is fine, and so is what follows it
pub next_fine : (cs : List ℕ) (t : Token) (rest : List ℕ) → AreChars cs → StandsNext cs t rest → FineToken t × AreChars rest
next_fine cs t rest h stands = by_start (past is_blank cs) refl stands
  where
    n : Next
    n = record { token = t; rest = rest }

    by_start : (start : List ℕ) → past is_blank cs ≡ start → next_token start ≡ Some n → FineToken t × AreChars rest
    by_start [] at e = absurd (none_next n e)
    by_start (c ∷ ds) at e =
        let own = subst AreChars at (chars_past is_blank cs h) in
        let read = next-read c ds n (past-starts is_blank cs ds c at) own.scalar e in
        let short = next_short 65536 c ds n own.short e in
        (fine_from t read.0 short.0, record { scalar = read.1; short = short.1 })
