-- The strings among the tokens of a text: none of their bytes passes a test that none of the text's characters passes.
use Rattle.std.proofs.Common.{◌≡◌, ℕ, zero, suc, ◌≤◌, List, [], ◌∷◌, ◌++◌, length, Bool, true, false, ◌==◌, ◌&&◌, Option, Some, None, refl, ◌∙◌, subst, arith}
use Rattle.std.specs.List.{list_any}
use Rattle.std.specs.Str.{all_scalars}
use Rattle.std.proofs.lemmas.Bool.{or_parts, or_from}
use Rattle.yarn_base.specs.Name.{starts_name, continues_name}
use Rattle.yarn_expr.specs.declared.token.Token.{Token}
use Rattle.yarn_expr.specs.declared.token.Token.TheVariants as token
use Rattle.yarn_expr.specs.declared.token.Sign.{Sign}
use Rattle.yarn_expr.specs.Tokens.{is_blank, is_digit, front, past, Next, text_of, digit_next, behind_point, after_digits, number_token, Quoted, with_char, is_escaped, quoted, string_of, name_next, variable_token, word_token, two_signs, one_sign, signed, sign_after, sign_token, next_token, with_token, tokens_at, tokens, tokens_of}
use Rattle.yarn_expr.proofs.Steps.{bind_some}
use Rattle.yarn_expr.proofs.TextTokens.{IsToken, AllTokens, tokens_of-read}
use Rattle.yarn_print.proofs.Quiet.{OnlyBreaks, IsFree, free-encodes}

-- so is the string that a token is
abbrev pub IsFreeToken : (ℕ → Bool) → Token → Type 0
IsFreeToken test (token.Str text) = IsFree test text
IsFreeToken test (token.Number digits) = Unit {0}
IsFreeToken test (token.Fraction digits) = Unit {0}
IsFreeToken test (token.Variable name) = Unit {0}
IsFreeToken test (token.Word w) = Unit {0}
IsFreeToken test (token.Sign s) = Unit {0}

-- a token of a text none of whose characters passes the test
pub record IsOwn (test : ℕ → Bool) (t : Token) : Type 0 where
  pub is : IsToken t
  pub free : IsFreeToken test t

abbrev pub AreOwn : (ℕ → Bool) → List Token → Type 0
AreOwn test [] = Unit {0}
AreOwn test (t ∷ ts) = IsOwn test t × AreOwn test ts

abbrev AreFree : (ℕ → Bool) → List Token → Type 0
AreFree test [] = Unit {0}
AreFree test (t ∷ ts) = IsFreeToken test t × AreFree test ts

pub own-append : (test : ℕ → Bool) (ts us : List Token) → AreOwn test (ts ++ us) → AreOwn test ts × AreOwn test us
own-append test [] us all = (tt, all)
own-append test (t ∷ ts) us all = let both = own-append test ts us all.1 in ((all.0, both.0), both.1)

own-from : (test : ℕ → Bool) (ts : List Token) → AllTokens ts → AreFree test ts → AreOwn test ts
own-from test [] all free = tt
own-from test (t ∷ ts) all free = (record { is = all.0; free = free.0 }, own-from test ts all.1 free.1)

-- a token that was read, and characters behind it
abbrev IsRead : (ℕ → Bool) → Next → Type 0
IsRead test n = IsFreeToken test n.token × IsFree test n.rest

free-tail : (test : ℕ → Bool) (c : ℕ) (cs : List ℕ) → IsFree test (c ∷ cs) → IsFree test cs
free-tail test c cs h = (or_parts (test c) (list_any test cs) h).1

free-head : (test : ℕ → Bool) (c : ℕ) (cs ds : List ℕ) → IsFree test (c ∷ cs) → IsFree test ds → IsFree test (c ∷ ds)
free-head test c cs ds h k = or_from (test c) (list_any test ds) (or_parts (test c) (list_any test cs) h).0 k

pub free-past : (test : ℕ → Bool) (p : ℕ → Bool) (cs : List ℕ) → IsFree test cs → IsFree test (past p cs)
free-past test p [] h = refl
free-past test p (c ∷ cs) h = by_test (free-past test p cs (free-tail test c cs h)) (p c) refl
  where
    by_test : IsFree test (past p cs) → (b : Bool) → p c ≡ b → IsFree test (past p (c ∷ cs))
    by_test more true is = rw is more
    by_test more false is = rw is h

-- numbers
point-free : (test : ℕ → Bool) (cs digits : List ℕ) → behind_point cs ≡ Some digits → IsFree test cs → IsFree test digits
point-free test [] digits e h = cc
point-free test (c ∷ cs) digits e h = by_test ((c == 46) && digit_next cs) refl
  where
    by_test : (b : Bool) → ((c == 46) && digit_next cs) ≡ b → IsFree test digits
    by_test true is = let f = rw is at e in let same : cs ≡ digits = cc in subst (λ l. IsFree test l) same (free-tail test c cs h)
    by_test false is = let f = rw is at e in cc

number-free : (test : ℕ → Bool) (cs : List ℕ) → IsFree test cs → IsRead test (number_token cs)
unfolding number_token
number-free test cs h = by_point (behind_point (past is_digit cs)) refl
  where
    by_point : (o : Option (List ℕ)) → behind_point (past is_digit cs) ≡ o → IsRead test (after_digits (front is_digit cs) (past is_digit cs) o)
    by_point None e = (tt, free-past test is_digit cs h)
    by_point (Some digits) e = (tt, free-past test is_digit digits (point-free test (past is_digit cs) digits e (free-past test is_digit cs h)))

-- strings
abbrev AreFreeParts : (ℕ → Bool) → Quoted → Type 0
AreFreeParts test q = IsFree test q.body × IsFree test q.rest

with_char-free : (test : ℕ → Bool) (x : ℕ) (xs : List ℕ) (o : Option Quoted) (q : Quoted) → IsFree test (x ∷ xs) → with_char x o ≡ Some q → ((p : Quoted) → o ≡ Some p → AreFreeParts test p) → AreFreeParts test q
with_char-free test x xs None q h e more = cc
with_char-free test x xs (Some p) q h e more =
    let same : ◌≡◌ {A = Quoted} (record { body = x ∷ p.body; rest = p.rest }) q = cc in
    let m = more p refl in
    subst (λ (r : Quoted). AreFreeParts test r) same (free-head test x xs p.body h m.0, m.1)

quoted-free : (test : ℕ → Bool) (k : ℕ) (cs : List ℕ) → length cs ≤ k → IsFree test cs → (q : Quoted) → quoted cs ≡ Some q → AreFreeParts test q
unfolding quoted
quoted-free test k [] le h q e = cc
quoted-free test k (c ∷ []) le h q e = by_quote (c == 34) refl
  where
    by_quote : (b : Bool) → (c == 34) ≡ b → AreFreeParts test q
    by_quote true is = let f = rw is at e in let same : ◌≡◌ {A = Quoted} (record { body = []; rest = [] }) q = cc in subst (λ (r : Quoted). AreFreeParts test r) same (refl, refl)
    by_quote false is = let f = rw is at e in cc
quoted-free test zero (c ∷ d ∷ cs) le h q e = absurd (omega arith)
quoted-free test (suc k) (c ∷ d ∷ cs) le h q e = by_quote (quoted-free test k) (c == 34) refl
  where
    later : IsFree test (d ∷ cs)
    later = free-tail test c (d ∷ cs) h

    by_escape : ((ds : List ℕ) → length ds ≤ k → IsFree test ds → (p : Quoted) → quoted ds ≡ Some p → AreFreeParts test p) → (c == 34) ≡ false → (b : Bool) → ((c == 92) && is_escaped d) ≡ b → AreFreeParts test q
    by_escape more plain true is = with_char-free test d cs (quoted cs) q later (rw (plain, is) at e) (more cs (omega arith) (free-tail test d cs later))
    by_escape more plain false is = with_char-free test c (d ∷ cs) (quoted (d ∷ cs)) q h (rw (plain, is) at e) (more (d ∷ cs) (omega arith) later)

    by_quote : ((ds : List ℕ) → length ds ≤ k → IsFree test ds → (p : Quoted) → quoted ds ≡ Some p → AreFreeParts test p) → (b : Bool) → (c == 34) ≡ b → AreFreeParts test q
    by_quote more true is = let f = rw is at e in let same : ◌≡◌ {A = Quoted} (record { body = []; rest = d ∷ cs }) q = cc in subst (λ (r : Quoted). AreFreeParts test r) same (refl, later)
    by_quote more false is = by_escape more is ((c == 92) && is_escaped d) refl

string-free : (test : ℕ → Bool) → OnlyBreaks test → (cs : List ℕ) → IsFree test cs → (o : Option Quoted) → quoted cs ≡ o → (n : Next) → string_of o ≡ Some n → IsRead test n
string-free test only cs h None is n e = cc
string-free test only cs h (Some q) is n e =
    let same : ◌≡◌ {A = Next} (record { token = token.Str (text_of q.body); rest = q.rest }) n = cc in
    let both = quoted-free test (length cs) cs (omega arith) h q is in
    subst (λ (r : Next). IsRead test r) same (free-encodes test q.body only ∙ both.0, both.1)

-- names
variable-free : (test : ℕ → Bool) (cs : List ℕ) → IsFree test cs → (n : Next) → variable_token cs ≡ Some n → IsRead test n
variable-free test cs h n e = by_name (name_next cs) refl
  where
    by_name : (b : Bool) → name_next cs ≡ b → IsRead test n
    by_name true is =
        let f = rw is at e in
        let same : ◌≡◌ {A = Next} (record { token = token.Variable (text_of (36 ∷ front continues_name cs)); rest = past continues_name cs }) n = cc in
        subst (λ (r : Next). IsRead test r) same (tt, free-past test continues_name cs h)
    by_name false is = let f = rw is at e in cc

-- signs
signed-free : (test : ℕ → Bool) (cs : List ℕ) (o : Option Sign) (n : Next) → IsFree test cs → signed cs o ≡ Some n → IsRead test n
signed-free test cs None n h e = cc
signed-free test cs (Some s) n h e = let same : ◌≡◌ {A = Next} (record { token = token.Sign s; rest = cs }) n = cc in subst (λ (r : Next). IsRead test r) same (tt, h)

sign-free : (test : ℕ → Bool) (cs : List ℕ) (n : Next) → IsFree test cs → sign_token cs ≡ Some n → IsRead test n
sign-free test [] n h e = cc
sign-free test (c ∷ []) n h e = signed-free test [] (one_sign c) n refl e
sign-free test (c ∷ d ∷ cs) n h e = by_two (two_signs c d) e
  where
    later : IsFree test (d ∷ cs)
    later = free-tail test c (d ∷ cs) h

    by_two : (o : Option Sign) → sign_after c d cs o ≡ Some n → IsRead test n
    by_two None e = signed-free test (d ∷ cs) (one_sign c) n later e
    by_two (Some s) e = signed-free test cs (Some s) n (free-tail test d cs later) e

pub next-free : (test : ℕ → Bool) → OnlyBreaks test → (c : ℕ) (cs : List ℕ) (n : Next) → IsFree test (c ∷ cs) → next_token (c ∷ cs) ≡ Some n → IsRead test n
unfolding next_token
next-free test only c cs n h e = by_digit (is_digit c) refl
  where
    tail : IsFree test cs
    tail = free-tail test c cs h

    by_name : is_digit c ≡ false → (c == 34) ≡ false → (c == 36) ≡ false → (b : Bool) → starts_name c ≡ b → IsRead test n
    by_name digit quote dollar true is =
        let f = rw (digit, quote, dollar, is) at e in
        let same : word_token c cs ≡ n = cc in
        subst (λ (r : Next). IsRead test r) same (tt, free-past test continues_name cs tail)
    by_name digit quote dollar false is = sign-free test (c ∷ cs) n h (rw (digit, quote, dollar, is) at e)

    by_dollar : is_digit c ≡ false → (c == 34) ≡ false → (b : Bool) → (c == 36) ≡ b → IsRead test n
    by_dollar digit quote true is = variable-free test cs tail n (rw (digit, quote, is) at e)
    by_dollar digit quote false is = by_name digit quote is (starts_name c) refl

    by_quote : is_digit c ≡ false → (b : Bool) → (c == 34) ≡ b → IsRead test n
    by_quote digit true is = string-free test only cs tail (quoted cs) refl n (rw (digit, is) at e)
    by_quote digit false is = by_dollar digit is (c == 36) refl

    by_digit : (b : Bool) → is_digit c ≡ b → IsRead test n
    by_digit true is = let f = rw is at e in let same : number_token (c ∷ cs) ≡ n = cc in subst (λ (r : Next). IsRead test r) same (number-free test (c ∷ cs) h)
    by_digit false is = by_quote is (c == 34) refl

with_token-some : (t : Token) (o : Option (List Token)) (ts : List Token) → with_token t o ≡ Some ts → (us : List Token) × (o ≡ Some us) × (t ∷ us ≡ ts)
with_token-some t None ts e = cc
with_token-some t (Some us) ts e = (us, refl, cc)

tokens-free : (test : ℕ → Bool) → OnlyBreaks test → (k : ℕ) (cs : List ℕ) (ts : List Token) → IsFree test cs → tokens k cs ≡ Some ts → AreFree test ts
unfolding tokens
tokens-free test only zero cs ts h e = cc
tokens-free test only (suc k) cs ts h e = by_start (tokens-free test only k) (past is_blank cs) refl e
  where
    by_start : ((ds : List ℕ) (us : List Token) → IsFree test ds → tokens k ds ≡ Some us → AreFree test us) → (start : List ℕ) → past is_blank cs ≡ start → tokens_at (tokens k) start ≡ Some ts → AreFree test ts
    by_start more [] at e' = let same : ◌≡◌ {A = List Token} [] ts = cc in subst (AreFree test) same tt
    by_start more (c ∷ ds) at e' =
        let n = bind_some (next_token (c ∷ ds)) _ ts e' in
        let us = with_token-some n.0.token (tokens k n.0.rest) ts n.2 in
        let own = subst (λ l. IsFree test l) at (free-past test is_blank cs h) in
        let read = next-free test only c ds n.0 own n.1 in
        subst (AreFree test) us.2 (read.0, more n.0.rest us.0 read.1 us.1)

-- the tokens of a text
pub tokens_of-own : (test : ℕ → Bool) → OnlyBreaks test → (cs : List ℕ) (ts : List Token) → all_scalars cs ≡ true → IsFree test cs → tokens_of cs ≡ Some ts → AreOwn test ts
unfolding tokens_of
tokens_of-own test only cs ts scalar h e = own-from test ts (tokens_of-read cs ts scalar e) (tokens-free test only (suc (length cs)) cs ts h e)
