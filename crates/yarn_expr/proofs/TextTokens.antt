-- What is known of a token because some text has it.
use Rattle.std.proofs.Common.{◌≡◌, ℕ, zero, suc, ◌≤◌, List, [], ◌∷◌, ◌++◌, length, Bool, true, false, ◌==◌, ◌&&◌, Option, Some, None, encode_utf8_all, IsUtf8, refl, sym, ap, ◌∙◌, subst, arith}
use Rattle.std.proofs.lemmas.Bool.{and_parts, and_from}
use Rattle.std.proofs.lemmas.Bool.Decides.{nat_tests}
use Rattle.std.specs.Str.{all_scalars}
use Rattle.unicode_ident.specs.Ident.{is_xid_start}
use Rattle.unicode_ident.proofs.IdentLemmas.{is_xid_continue-ascii, is_xid_start-is_xid_continue}
use Rattle.yarn_base.specs.Name.{starts_name, continues_name}
use Rattle.yarn_expr.specs.declared.token.Token.{Token}
use Rattle.yarn_expr.specs.declared.token.Token.TheVariants as token
use Rattle.yarn_expr.specs.declared.token.Sign.{Sign}
use Rattle.yarn_expr.specs.Tokens.{is_blank, is_digit, front, past, Next, text_of, digit_next, behind_point, after_digits, number_token, Quoted, with_char, is_escaped, quoted, string_of, name_next, variable_token, word_token, two_signs, one_sign, signed, sign_after, sign_token, next_token, with_token, tokens_at, tokens, tokens_of}
use Rattle.yarn_expr.proofs.NextTokens.{IsWordOf}
use Rattle.yarn_expr.proofs.Runs.{AllOf, front-AllOf}
use Rattle.yarn_expr.proofs.Steps.{bind_some}

-- a name or a reserved word
pub record IsWord (bytes : List ℕ) : Type 0 where
  pub first : ℕ
  pub others : List ℕ
  pub word : IsWordOf first others
  pub scalar : all_scalars (first ∷ others) ≡ true
  pub spelt : bytes ≡ encode_utf8_all (first ∷ others)

-- `$` and a name
pub record IsVariable (bytes : List ℕ) : Type 0 where
  pub others : List ℕ
  pub starts : name_next others ≡ true
  pub continues : AllOf continues_name others
  pub scalar : all_scalars (36 ∷ others) ≡ true
  pub spelt : bytes ≡ encode_utf8_all (36 ∷ others)

abbrev pub IsToken : Token → Type 0
IsToken (token.Number digits) = Unit {0}
IsToken (token.Fraction digits) = Unit {0}
IsToken (token.Str text) = IsUtf8 text
IsToken (token.Variable name) = IsVariable name
IsToken (token.Word w) = IsWord w
IsToken (token.Sign s) = Unit {0}

abbrev pub AllTokens : List Token → Type 0
AllTokens [] = Unit {0}
AllTokens (t ∷ ts) = IsToken t × AllTokens ts

pub AllTokens-append : (ts us : List Token) → AllTokens (ts ++ us) → AllTokens ts × AllTokens us
AllTokens-append [] us all = (tt, all)
AllTokens-append (t ∷ ts) us all = let both = AllTokens-append ts us all.1 in ((all.0, both.0), both.1)

-- a token that was read, and characters behind it
abbrev IsRead : Next → Type 0
IsRead n = IsToken n.token × (all_scalars n.rest ≡ true)

scalars-tail : (c : ℕ) (cs : List ℕ) → all_scalars (c ∷ cs) ≡ true → all_scalars cs ≡ true
scalars-tail c cs h = (and_parts _ (all_scalars cs) h).1

scalars-head : (c : ℕ) (cs ds : List ℕ) → all_scalars (c ∷ cs) ≡ true → all_scalars ds ≡ true → all_scalars (c ∷ ds) ≡ true
scalars-head c cs ds h k = and_from _ _ (and_parts _ (all_scalars cs) h).0 k

scalars-front : (p : ℕ → Bool) (cs : List ℕ) → all_scalars cs ≡ true → all_scalars (front p cs) ≡ true
scalars-front p [] h = refl
scalars-front p (c ∷ cs) h = by_test (scalars-head c cs (front p cs) h (scalars-front p cs (scalars-tail c cs h))) (p c) refl
  where
    by_test : all_scalars (c ∷ front p cs) ≡ true → (b : Bool) → p c ≡ b → all_scalars (front p (c ∷ cs)) ≡ true
    by_test more true is = rw is more
    by_test more false is = rw is refl

pub scalars-past : (p : ℕ → Bool) (cs : List ℕ) → all_scalars cs ≡ true → all_scalars (past p cs) ≡ true
scalars-past p [] h = refl
scalars-past p (c ∷ cs) h = by_test (scalars-past p cs (scalars-tail c cs h)) (p c) refl
  where
    by_test : all_scalars (past p cs) ≡ true → (b : Bool) → p c ≡ b → all_scalars (past p (c ∷ cs)) ≡ true
    by_test more true is = rw is more
    by_test more false is = rw is h

pub past-starts : (p : ℕ → Bool) (cs ds : List ℕ) (c : ℕ) → past p cs ≡ c ∷ ds → p c ≡ false
past-starts p [] ds c e = cc
past-starts p (x ∷ cs) ds c e = by_test (past-starts p cs ds c) (p x) refl
  where
    by_test : (past p cs ≡ c ∷ ds → p c ≡ false) → (b : Bool) → p x ≡ b → p c ≡ false
    by_test more true is = more (rw is at e)
    by_test more false is = let f = rw is at e in let same : x ≡ c = cc in ap p (sym same) ∙ is

-- numbers
point-scalars : (cs digits : List ℕ) → behind_point cs ≡ Some digits → all_scalars cs ≡ true → all_scalars digits ≡ true
point-scalars [] digits e h = cc
point-scalars (c ∷ cs) digits e h = by_test ((c == 46) && digit_next cs) refl
  where
    by_test : (b : Bool) → ((c == 46) && digit_next cs) ≡ b → all_scalars digits ≡ true
    by_test true is = let f = rw is at e in let same : cs ≡ digits = cc in subst (λ l. all_scalars l ≡ true) same (scalars-tail c cs h)
    by_test false is = let f = rw is at e in cc

number-read : (cs : List ℕ) → all_scalars cs ≡ true → IsRead (number_token cs)
unfolding number_token
number-read cs h = by_point (behind_point (past is_digit cs)) refl
  where
    by_point : (o : Option (List ℕ)) → behind_point (past is_digit cs) ≡ o → IsRead (after_digits (front is_digit cs) (past is_digit cs) o)
    by_point None e = (tt, scalars-past is_digit cs h)
    by_point (Some digits) e = (tt, scalars-past is_digit digits (point-scalars (past is_digit cs) digits e (scalars-past is_digit cs h)))

-- strings
abbrev AreScalars : Quoted → Type 0
AreScalars q = (all_scalars q.body ≡ true) × (all_scalars q.rest ≡ true)

with_char-scalars : (x : ℕ) (xs : List ℕ) (o : Option Quoted) (q : Quoted) → all_scalars (x ∷ xs) ≡ true → with_char x o ≡ Some q → ((p : Quoted) → o ≡ Some p → AreScalars p) → AreScalars q
with_char-scalars x xs None q h e more = cc
with_char-scalars x xs (Some p) q h e more =
    let same : ◌≡◌ {A = Quoted} (record { body = x ∷ p.body; rest = p.rest }) q = cc in
    let m = more p refl in
    subst (λ (r : Quoted). AreScalars r) same (scalars-head x xs p.body h m.0, m.1)

quoted-scalars : (k : ℕ) (cs : List ℕ) → length cs ≤ k → all_scalars cs ≡ true → (q : Quoted) → quoted cs ≡ Some q → AreScalars q
unfolding quoted
quoted-scalars k [] le h q e = cc
quoted-scalars k (c ∷ []) le h q e = by_quote (c == 34) refl
  where
    by_quote : (b : Bool) → (c == 34) ≡ b → AreScalars q
    by_quote true is = let f = rw is at e in let same : ◌≡◌ {A = Quoted} (record { body = []; rest = [] }) q = cc in subst (λ (r : Quoted). AreScalars r) same (refl, refl)
    by_quote false is = let f = rw is at e in cc
quoted-scalars zero (c ∷ d ∷ cs) le h q e = absurd (omega arith)
quoted-scalars (suc k) (c ∷ d ∷ cs) le h q e = by_quote (quoted-scalars k) (c == 34) refl
  where
    later : all_scalars (d ∷ cs) ≡ true
    later = scalars-tail c (d ∷ cs) h

    by_escape : ((ds : List ℕ) → length ds ≤ k → all_scalars ds ≡ true → (p : Quoted) → quoted ds ≡ Some p → AreScalars p) → (c == 34) ≡ false → (b : Bool) → ((c == 92) && is_escaped d) ≡ b → AreScalars q
    by_escape more plain true is = with_char-scalars d cs (quoted cs) q later (rw (plain, is) at e) (more cs (omega arith) (scalars-tail d cs later))
    by_escape more plain false is = with_char-scalars c (d ∷ cs) (quoted (d ∷ cs)) q h (rw (plain, is) at e) (more (d ∷ cs) (omega arith) later)

    by_quote : ((ds : List ℕ) → length ds ≤ k → all_scalars ds ≡ true → (p : Quoted) → quoted ds ≡ Some p → AreScalars p) → (b : Bool) → (c == 34) ≡ b → AreScalars q
    by_quote more true is = let f = rw is at e in let same : ◌≡◌ {A = Quoted} (record { body = []; rest = d ∷ cs }) q = cc in subst (λ (r : Quoted). AreScalars r) same (refl, later)
    by_quote more false is = by_escape more is ((c == 92) && is_escaped d) refl

string-read : (cs : List ℕ) → all_scalars cs ≡ true → (o : Option Quoted) → quoted cs ≡ o → (n : Next) → string_of o ≡ Some n → IsRead n
string-read cs h None is n e = cc
string-read cs h (Some q) is n e =
    let same : ◌≡◌ {A = Next} (record { token = token.Str (text_of q.body); rest = q.rest }) n = cc in
    let both = quoted-scalars (length cs) cs (omega arith) h q is in
    subst (λ (r : Next). IsRead r) same ((q.body, (both.0, refl)), both.1)

-- names: what starts a name may continue one
starts-continues : (c : ℕ) → starts_name c ≡ true → continues_name c ≡ true
starts-continues c starts = by_start (is_xid_start c) refl
  where
    by_low : (is_xid_start c) ≡ false → (b : Bool) → (c == 95) ≡ b → continues_name c ≡ true
    by_low other true is = let same : c ≡ 95 = low c is in rw same (rw (is_xid_continue-ascii 95 (omega arith)) refl)
      where
        low : (c : ℕ) → (c == 95) ≡ true → c ≡ 95
        low c e = grind (arith, nat_tests)
    by_low other false is = let f = rw (other, is) at starts in cc

    by_start : (b : Bool) → is_xid_start c ≡ b → continues_name c ≡ true
    by_start true is = let continues = is_xid_start-is_xid_continue c is in rw continues refl
    by_start false is = by_low is (c == 95) refl

name_next-front : (cs : List ℕ) → name_next cs ≡ true → name_next (front continues_name cs) ≡ true
name_next-front [] e = e
name_next-front (c ∷ cs) e = let continues = starts-continues c e in rw continues e

variable-read : (cs : List ℕ) → all_scalars (36 ∷ cs) ≡ true → (n : Next) → variable_token cs ≡ Some n → IsRead n
variable-read cs h n e = by_name (name_next cs) refl
  where
    by_name : (b : Bool) → name_next cs ≡ b → IsRead n
    by_name true is =
        let f = rw is at e in
        let same : ◌≡◌ {A = Next} (record { token = token.Variable (text_of (36 ∷ front continues_name cs)); rest = past continues_name cs }) n = cc in
        let tail = scalars-tail 36 cs h in
        subst (λ (r : Next). IsRead r) same (
          record {
            others = front continues_name cs;
            starts = name_next-front cs is;
            continues = front-AllOf continues_name cs;
            scalar = scalars-head 36 cs (front continues_name cs) h (scalars-front continues_name cs tail);
            spelt = refl;
          },
          scalars-past continues_name cs tail,
        )
    by_name false is = let f = rw is at e in cc

word-read : (c : ℕ) (cs : List ℕ) → is_digit c ≡ false → (c == 34) ≡ false → (c == 36) ≡ false → is_blank c ≡ false → starts_name c ≡ true → all_scalars (c ∷ cs) ≡ true → IsRead (word_token c cs)
word-read c cs digit quote dollar blank starts h =
    let tail = scalars-tail c cs h in (
      record {
        first = c;
        others = front continues_name cs;
        word = record { digit = digit; quote = quote; dollar = dollar; blank = blank; starts = starts; continues = front-AllOf continues_name cs };
        scalar = scalars-head c cs (front continues_name cs) h (scalars-front continues_name cs tail);
        spelt = refl;
      },
      scalars-past continues_name cs tail,
    )

-- signs
signed-read : (cs : List ℕ) (o : Option Sign) (n : Next) → all_scalars cs ≡ true → signed cs o ≡ Some n → IsRead n
signed-read cs None n h e = cc
signed-read cs (Some s) n h e = let same : ◌≡◌ {A = Next} (record { token = token.Sign s; rest = cs }) n = cc in subst (λ (r : Next). IsRead r) same (tt, h)

sign-read : (cs : List ℕ) (n : Next) → all_scalars cs ≡ true → sign_token cs ≡ Some n → IsRead n
sign-read [] n h e = cc
sign-read (c ∷ []) n h e = signed-read [] (one_sign c) n refl e
sign-read (c ∷ d ∷ cs) n h e = by_two (two_signs c d) e
  where
    later : all_scalars (d ∷ cs) ≡ true
    later = scalars-tail c (d ∷ cs) h

    by_two : (o : Option Sign) → sign_after c d cs o ≡ Some n → IsRead n
    by_two None e = signed-read (d ∷ cs) (one_sign c) n later e
    by_two (Some s) e = signed-read cs (Some s) n (scalars-tail d cs later) e

pub next-read : (c : ℕ) (cs : List ℕ) (n : Next) → is_blank c ≡ false → all_scalars (c ∷ cs) ≡ true → next_token (c ∷ cs) ≡ Some n → IsRead n
unfolding next_token
next-read c cs n blank h e = by_digit (is_digit c) refl
  where
    by_name : is_digit c ≡ false → (c == 34) ≡ false → (c == 36) ≡ false → (b : Bool) → starts_name c ≡ b → IsRead n
    by_name digit quote dollar true is =
        let f = rw (digit, quote, dollar, is) at e in
        let same : word_token c cs ≡ n = cc in
        subst (λ (r : Next). IsRead r) same (word-read c cs digit quote dollar blank is h)
    by_name digit quote dollar false is = sign-read (c ∷ cs) n h (rw (digit, quote, dollar, is) at e)

    by_dollar : is_digit c ≡ false → (c == 34) ≡ false → (b : Bool) → (c == 36) ≡ b → IsRead n
    by_dollar digit quote true is =
        let same : c ≡ 36 = at c is in
        variable-read cs (subst (λ x. all_scalars (x ∷ cs) ≡ true) same h) n (rw (digit, quote, is) at e)
      where
        at : (c : ℕ) → (c == 36) ≡ true → c ≡ 36
        at c e = grind (arith, nat_tests)
    by_dollar digit quote false is = by_name digit quote is (starts_name c) refl

    by_quote : is_digit c ≡ false → (b : Bool) → (c == 34) ≡ b → IsRead n
    by_quote digit true is = string-read cs (scalars-tail c cs h) (quoted cs) refl n (rw (digit, is) at e)
    by_quote digit false is = by_dollar digit is (c == 36) refl

    by_digit : (b : Bool) → is_digit c ≡ b → IsRead n
    by_digit true is = let f = rw is at e in let same : number_token (c ∷ cs) ≡ n = cc in subst (λ (r : Next). IsRead r) same (number-read (c ∷ cs) h)
    by_digit false is = by_quote is (c == 34) refl

with_token-some : (t : Token) (o : Option (List Token)) (ts : List Token) → with_token t o ≡ Some ts → (us : List Token) × (o ≡ Some us) × (t ∷ us ≡ ts)
with_token-some t None ts e = cc
with_token-some t (Some us) ts e = (us, refl, cc)

tokens-read : (k : ℕ) (cs : List ℕ) (ts : List Token) → all_scalars cs ≡ true → tokens k cs ≡ Some ts → AllTokens ts
unfolding tokens
tokens-read zero cs ts h e = cc
tokens-read (suc k) cs ts h e = by_start (tokens-read k) (past is_blank cs) refl e
  where
    by_start : ((ds : List ℕ) (us : List Token) → all_scalars ds ≡ true → tokens k ds ≡ Some us → AllTokens us) → (start : List ℕ) → past is_blank cs ≡ start → tokens_at (tokens k) start ≡ Some ts → AllTokens ts
    by_start more [] at e' = let same : ◌≡◌ {A = List Token} [] ts = cc in subst AllTokens same tt
    by_start more (c ∷ ds) at e' =
        let n = bind_some (next_token (c ∷ ds)) _ ts e' in
        let us = with_token-some n.0.token (tokens k n.0.rest) ts n.2 in
        let scalar = subst (λ l. all_scalars l ≡ true) at (scalars-past is_blank cs h) in
        let read = next-read c ds n.0 (past-starts is_blank cs ds c at) scalar n.1 in
        subst AllTokens us.2 (read.0, more n.0.rest us.0 read.1 us.1)

-- the tokens of a text
pub tokens_of-read : (cs : List ℕ) (ts : List Token) → all_scalars cs ≡ true → tokens_of cs ≡ Some ts → AllTokens ts
unfolding tokens_of
tokens_of-read cs ts h e = tokens-read (suc (length cs)) cs ts h e
