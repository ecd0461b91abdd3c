-- The token at the front, where it is known which one was written there.
use Rattle.std.proofs.Common.{◌≡◌, ℕ, ◌<◌, List, [], ◌∷◌, ◌++◌, Bool, true, false, not, ◌==◌, ◌&&◌, ◌||◌, Some, None, IsUtf8, refl, sym, ap, ◌∙◌}
use Rattle.std.proofs.lemmas.Bool.{and_parts}
use Rattle.std.proofs.lemmas.Str.{encodes-chars}
use Rattle.std.specs.Char.{is_ascii_alphabetic}
use Rattle.std.specs.Str.{chars}
use Rattle.unicode_ident.proofs.IdentLemmas.{is_xid_start-ascii}
use Rattle.yarn_base.specs.Name.{starts_name, continues_name}
use Rattle.yarn_expr.specs.declared.token.Token.TheVariants as token
use Rattle.yarn_expr.specs.declared.token.Sign.{Sign}
use Rattle.yarn_expr.specs.Print.{escape}
use Rattle.yarn_expr.specs.Tokens.{is_blank, is_digit, text_of, past, behind_point, after_digits, number_token, string_of, name_next, two_signs, one_sign, next_token}
use Rattle.yarn_expr.proofs.Relexed.{quoted-escape}
use Rattle.yarn_expr.proofs.Runs.{AllOf, front-append, past-append, Stops}

-- a character that begins a sign
pub record BeginsSign (c : ℕ) : Type 0 where
  pub digit : is_digit c ≡ false
  pub quote : (c == 34) ≡ false
  pub dollar : (c == 36) ≡ false
  pub blank : is_blank c ≡ false
  pub name : starts_name c ≡ false

-- the same as one test
abbrev pub begins_sign : ℕ → Bool
begins_sign c = not (is_digit c) && (not (c == 34) && (not (c == 36) && (not (is_blank c) && not (is_ascii_alphabetic c || (c == 95)))))

not_so : (b : Bool) → not b ≡ true → b ≡ false
not_so true h = sym h
not_so false h = refl

pub begins_sign-BeginsSign : (c : ℕ) → c < 128 → begins_sign c ≡ true → BeginsSign c
begins_sign-BeginsSign c lt is =
    let first = and_parts _ _ is in
    let second = and_parts _ _ first.1 in
    let third = and_parts _ _ second.1 in
    let fourth = and_parts _ _ third.1 in
    record { digit = not_so _ first.0; quote = not_so _ second.0; dollar = not_so _ third.0; blank = not_so _ fourth.0; name = rw (is_xid_start-ascii c lt) (not_so _ fourth.1) }

-- a sign of one character, before a character with which it is none
pub sign-next : (c d : ℕ) (s : Sign) → BeginsSign c → two_signs c d ≡ None → one_sign c ≡ Some s → (rest : List ℕ) → next_token (c ∷ d ∷ rest) ≡ Some (record { token = token.Sign s; rest = d ∷ rest })
unfolding next_token
sign-next c d s b alone is rest = rw (b.digit, b.quote, b.dollar, b.name) (rw alone (rw is refl))

-- the same before anything
pub sign-alone : (c : ℕ) (s : Sign) → BeginsSign c → ((d : ℕ) → two_signs c d ≡ None) → one_sign c ≡ Some s → (rest : List ℕ) → next_token (c ∷ rest) ≡ Some (record { token = token.Sign s; rest = rest })
unfolding next_token
sign-alone c s b alone is [] = rw (b.digit, b.quote, b.dollar, b.name) (rw is refl)
sign-alone c s b alone is (d ∷ rest) = sign-next c d s b (alone d) is rest

pub two-next : (c d : ℕ) (s : Sign) → BeginsSign c → two_signs c d ≡ Some s → (rest : List ℕ) → next_token (c ∷ d ∷ rest) ≡ Some (record { token = token.Sign s; rest = rest })
unfolding next_token
two-next c d s b is rest = rw (b.digit, b.quote, b.dollar, b.name) (rw is refl)

-- the characters of a word
pub record IsWordOf (c : ℕ) (cs : List ℕ) : Type 0 where
  pub digit : is_digit c ≡ false
  pub quote : (c == 34) ≡ false
  pub dollar : (c == 36) ≡ false
  pub blank : is_blank c ≡ false
  pub starts : starts_name c ≡ true
  pub continues : AllOf continues_name cs

pub word-next : (c : ℕ) (cs rest : List ℕ) → IsWordOf c cs → Stops rest → next_token (c ∷ (cs ++ rest)) ≡ Some (record { token = token.Word (text_of (c ∷ cs)); rest = rest })
unfolding next_token
word-next c cs rest w ends =
    rw (w.digit, w.quote, w.dollar, w.starts) (
    ap (λ l. Some (record { token = token.Word (text_of (c ∷ l)); rest = past continues_name (cs ++ rest) })) (front-append continues_name cs rest w.continues ends.name)
    ∙ ap (λ l. Some (record { token = token.Word (text_of (c ∷ cs)); rest = l })) (past-append continues_name cs rest w.continues ends.name)
    )

pub variable-next : (cs rest : List ℕ) → name_next cs ≡ true → AllOf continues_name cs → Stops rest → next_token (36 ∷ (cs ++ rest)) ≡ Some (record { token = token.Variable (text_of (36 ∷ cs)); rest = rest })
unfolding next_token
variable-next [] rest starts continues ends = cc
variable-next (c ∷ cs) rest starts continues ends =
    rw starts (
    ap (λ l. Some (record { token = token.Variable (text_of (36 ∷ l)); rest = past continues_name (c ∷ (cs ++ rest)) })) (front-append continues_name (c ∷ cs) rest continues ends.name)
    ∙ ap (λ l. Some (record { token = token.Variable (text_of (36 ∷ c ∷ cs)); rest = l })) (past-append continues_name (c ∷ cs) rest continues ends.name)
    )

number-plain : (ds rest : List ℕ) → AllOf is_digit ds → Stops rest → number_token (ds ++ rest) ≡ record { token = token.Number (text_of ds); rest = rest }
unfolding number_token
number-plain ds rest digits ends =
    ap (λ l. after_digits l (past is_digit (ds ++ rest)) (behind_point (past is_digit (ds ++ rest)))) (front-append is_digit ds rest digits ends.digit)
    ∙ ap (λ l. after_digits ds l (behind_point l)) (past-append is_digit ds rest digits ends.digit) ∙ ap (λ o. after_digits ds rest o) ends.point

pub number-next : (c : ℕ) (ds rest : List ℕ) → AllOf is_digit (c ∷ ds) → Stops rest → next_token (c ∷ (ds ++ rest)) ≡ Some (record { token = token.Number (text_of (c ∷ ds)); rest = rest })
unfolding next_token
number-next c ds rest digits ends = let first = digits.0 in rw first (ap Some (number-plain (c ∷ ds) rest digits ends))

pub string-next : (text rest : List ℕ) → IsUtf8 text → next_token (34 ∷ (escape (chars text) ++ 34 ∷ rest)) ≡ Some (record { token = token.Str text; rest = rest })
unfolding next_token
string-next text rest utf8 = ap string_of (quoted-escape (chars text) rest) ∙ ap (λ l. Some (record { token = token.Str l; rest = rest })) (encodes-chars text utf8)
