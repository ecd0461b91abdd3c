-- What the loops of the tokenizer keep.
use Rattle.std.proofs.Common.{IsTrue, ◌≡◌, ℕ, zero, suc, ◌≤◌, ◌<◌, List, [], ◌∷◌, ◌++◌, length, Bool, true, false, Option, Some, None, ◌&&◌, ◌==◌, encode_utf8, encode_utf8_all, refl, sym, ap, ◌∙◌, arith, append_assoc, append-nil}
use Rattle.std.proofs.lemmas.Str.{encodes-append}
use Rattle.yarn_base.specs.Name.{starts_name, continues_name}
use Rattle.yarn_expr.specs.declared.token.Token.{Token}
use Rattle.yarn_expr.specs.declared.token.Token.TheVariants as token
use Rattle.yarn_expr.specs.declared.token.Sign.{Sign}
use Rattle.yarn_expr.specs.Reading.{◌>>=◌}
use Rattle.yarn_expr.specs.Tokens.{is_blank, is_digit, front, past, Next, text_of, digit_next, behind_point, after_digits, number_token, Quoted, with_char, is_escaped, quoted, string_of, name_next, variable_token, word_token, two_signs, one_sign, signed, sign_after, sign_token, next_token, with_token, tokens_at, tokens, tokens_of}
use Rattle.yarn_expr.proofs.Scanned.{past-shorter}

-- a part of a string that was read, before the rest of it
abbrev pub before : List ℕ → Option Quoted → Option Quoted
before read None = None
before read (Some q) = Some (record { body = read ++ q.body; rest = q.rest })

pub record IsQuoting (whole rest body : List ℕ) : Type 0 where
  pub read : List ℕ
  pub bytes : body ≡ encode_utf8_all read
  pub same : quoted whole ≡ before read (quoted rest)

pub IsQuoting-start : (whole : List ℕ) → IsQuoting whole whole []
IsQuoting-start whole = record { read = []; bytes = refl; same = all_of (quoted whole) }
  where
    all_of : (o : Option Quoted) → o ≡ before [] o
    all_of None = refl
    all_of (Some q) = refl

pub IsQuoting-step : (whole rest after body : List ℕ) (c : ℕ) → IsQuoting whole rest body → quoted rest ≡ with_char c (quoted after) → IsQuoting whole after (body ++ encode_utf8 c)
IsQuoting-step whole rest after body c so_far step = record {
  read = so_far.read ++ c ∷ [];
  bytes = ap (λ l. l ++ encode_utf8 c) so_far.bytes ∙ ap (λ l. encode_utf8_all so_far.read ++ l) (sym (append-nil (encode_utf8 c))) ∙ sym (encodes-append so_far.read (c ∷ []));
  same = so_far.same ∙ ap (before so_far.read) step ∙ regrouped (quoted after);
}
  where
    regrouped : (o : Option Quoted) → before so_far.read (with_char c o) ≡ before (so_far.read ++ c ∷ []) o
    regrouped None = refl
    regrouped (Some q) = ap (λ l. Some (record { body = l; rest = q.rest })) (sym (append_assoc so_far.read (c ∷ []) q.body))

pub IsQuoting-closed : (whole rest after body : List ℕ) → IsQuoting whole rest body → quoted rest ≡ Some (record { body = []; rest = after }) →
    string_of (quoted whole) ≡ Some (record { token = token.Str body; rest = after })
IsQuoting-closed whole rest after body so_far closed =
    ap string_of (so_far.same ∙ ap (before so_far.read) closed)
    ∙ ap (λ l. Some (record { token = token.Str l; rest = after })) (ap encode_utf8_all (append-nil so_far.read) ∙ sym so_far.bytes)

pub IsQuoting-open : (whole rest body : List ℕ) → IsQuoting whole rest body → quoted rest ≡ None → string_of (quoted whole) ≡ None
IsQuoting-open whole rest body so_far none = ap string_of (so_far.same ∙ ap (before so_far.read) none)

-- each token takes a character
quoted-shorter : (k : ℕ) (cs : List ℕ) → length cs ≤ k → (q : Quoted) → quoted cs ≡ Some q → length q.rest < length cs
unfolding quoted
quoted-shorter k [] le q e = cc
quoted-shorter k (c ∷ []) le q e = by_quote (c == 34) refl
  where
    by_quote : (b : Bool) → (c == 34) ≡ b → length q.rest < 1
    by_quote true is = let f = rw is at e in let same : ◌≡◌ {A = Quoted} (record { body = []; rest = [] }) q = cc in let r = ap (λ (p : Quoted). length p.rest) same in omega (arith, r)
    by_quote false is = let f = rw is at e in cc
quoted-shorter zero (c ∷ d ∷ cs) le q e = absurd (omega arith)
quoted-shorter (suc k) (c ∷ d ∷ cs) le q e = by_quote (quoted-shorter k) (c == 34) refl
  where
    with_char-some : (x : ℕ) (o : Option Quoted) → with_char x o ≡ Some q → (p : Quoted) × (o ≡ Some p) × (q.rest ≡ p.rest)
    with_char-some x None h = cc
    with_char-some x (Some p) h = let same : ◌≡◌ {A = Quoted} (record { body = x ∷ p.body; rest = p.rest }) q = cc in (p, refl, sym (ap (λ (r : Quoted). r.rest) same))

    by_escape : ((ds : List ℕ) → length ds ≤ k → (p : Quoted) → quoted ds ≡ Some p → length p.rest < length ds) → (c == 34) ≡ false → (b : Bool) → ((c == 92) && is_escaped d) ≡ b → length q.rest < length (c ∷ d ∷ cs)
    by_escape shorter plain true is = let f = with_char-some d (quoted cs) (rw (plain, is) at e) in let lt = shorter cs (omega arith) f.0 f.1 in omega (arith, lt, ap length f.2)
    by_escape shorter plain false is = let f = with_char-some c (quoted (d ∷ cs)) (rw (plain, is) at e) in let lt = shorter (d ∷ cs) (omega arith) f.0 f.1 in omega (arith, lt, ap length f.2)

    by_quote : ((ds : List ℕ) → length ds ≤ k → (p : Quoted) → quoted ds ≡ Some p → length p.rest < length ds) → (b : Bool) → (c == 34) ≡ b → length q.rest < length (c ∷ d ∷ cs)
    by_quote shorter true is = let f = rw is at e in let same : ◌≡◌ {A = Quoted} (record { body = []; rest = d ∷ cs }) q = cc in let r = ap (λ (p : Quoted). length p.rest) same in omega (arith, r)
    by_quote shorter false is = by_escape shorter is ((c == 92) && is_escaped d) refl

number-shorter : (c : ℕ) (cs : List ℕ) → is_digit c ≡ true → length (number_token (c ∷ cs)).rest < length (c ∷ cs)
unfolding number_token
number-shorter c cs is = rw is (by_point (behind_point (past is_digit cs)) refl)
  where
    by_point : (o : Option (List ℕ)) → behind_point (past is_digit cs) ≡ o → length (after_digits (c ∷ front is_digit cs) (past is_digit cs) o).rest < length (c ∷ cs)
    by_point None at = let h = past-shorter is_digit cs in omega arith
    by_point (Some digits) at = let h = past-shorter is_digit cs in let k = past-shorter is_digit digits in let m = point-shorter (past is_digit cs) digits at in omega (arith, h, k, m)
      where
        point-shorter : (ds digits : List ℕ) → behind_point ds ≡ Some digits → length digits < length ds
        point-shorter [] digits h = cc
        point-shorter (d ∷ ds) digits h = by_test ((d == 46) && digit_next ds) refl
          where
            by_test : (b : Bool) → ((d == 46) && digit_next ds) ≡ b → length digits < length (d ∷ ds)
            by_test true is = let f = rw is at h in let same : ds ≡ digits = cc in omega (arith, ap length same)
            by_test false is = let f = rw is at h in cc

signed-shorter : (cs : List ℕ) (o : Option Sign) (n : Next) → signed cs o ≡ Some n → length n.rest ≤ length cs
signed-shorter cs None n e = cc
signed-shorter cs (Some s) n e = let same : ◌≡◌ {A = Next} (record { token = token.Sign s; rest = cs }) n = cc in let r = ap (λ (p : Next). length p.rest) same in omega (arith, r)

sign-shorter : (cs : List ℕ) (n : Next) → sign_token cs ≡ Some n → length n.rest < length cs
sign-shorter [] n e = cc
sign-shorter (c ∷ []) n e = let h = signed-shorter [] (one_sign c) n e in omega (arith, h)
sign-shorter (c ∷ d ∷ cs) n e = by_two (two_signs c d) e
  where
    by_two : (o : Option Sign) → sign_after c d cs o ≡ Some n → length n.rest < length (c ∷ d ∷ cs)
    by_two None e = let h = signed-shorter (d ∷ cs) (one_sign c) n e in omega (arith, h)
    by_two (Some s) e = let h = signed-shorter cs (Some s) n e in omega (arith, h)

pub next_token-shorter : (cs : List ℕ) (n : Next) → next_token cs ≡ Some n → length n.rest < length cs
unfolding next_token
next_token-shorter [] n e = cc
next_token-shorter (c ∷ cs) n e = by_digit (is_digit c) refl
  where
    at_string : (o : Option Quoted) → quoted cs ≡ o → string_of o ≡ Some n → length n.rest < length (c ∷ cs)
    at_string None is h = cc
    at_string (Some q) is h = let same : ◌≡◌ {A = Next} (record { token = token.Str (text_of q.body); rest = q.rest }) n = cc in let r = ap (λ (p : Next). length p.rest) same in
        let lt = quoted-shorter (length cs) cs (omega arith) q is in omega (arith, r, lt)

    at_name : (b : Bool) → name_next cs ≡ b → variable_token cs ≡ Some n → length n.rest < length (c ∷ cs)
    at_name true is h = let f = rw is at h in let same : ◌≡◌ {A = Next} (record { token = token.Variable (text_of (36 ∷ front continues_name cs)); rest = past continues_name cs }) n = cc in
        let r = ap (λ (p : Next). length p.rest) same in let k = past-shorter continues_name cs in omega (arith, r, k)
    at_name false is h = let f = rw is at h in cc

    by_name : is_digit c ≡ false → (c == 34) ≡ false → (c == 36) ≡ false → (b : Bool) → starts_name c ≡ b → length n.rest < length (c ∷ cs)
    by_name a b' d true is = let f = rw (a, b', d, is) at e in let same : word_token c cs ≡ n = cc in let r = ap (λ (p : Next). length p.rest) same in let k = past-shorter continues_name cs in omega (arith, r, k)
    by_name a b' d false is = sign-shorter (c ∷ cs) n (rw (a, b', d, is) at e)

    by_dollar : is_digit c ≡ false → (c == 34) ≡ false → (b : Bool) → (c == 36) ≡ b → length n.rest < length (c ∷ cs)
    by_dollar a b' true is = at_name (name_next cs) refl (rw (a, b', is) at e)
    by_dollar a b' false is = by_name a b' is (starts_name c) refl

    by_quote : is_digit c ≡ false → (b : Bool) → (c == 34) ≡ b → length n.rest < length (c ∷ cs)
    by_quote a true is = at_string (quoted cs) refl (rw (a, is) at e)
    by_quote a false is = by_dollar a is (c == 36) refl

    by_digit : (b : Bool) → is_digit c ≡ b → length n.rest < length (c ∷ cs)
    by_digit true is = let f = rw is at e in let same : number_token (c ∷ cs) ≡ n = cc in let r = ap (λ (p : Next). length p.rest) same in let k = number-shorter c cs is in omega (arith, r, k)
    by_digit false is = by_quote is (c == 34) refl

-- tokens that were read, before those that are read on
abbrev pub ahead : List Token → Option (List Token) → Option (List Token)
ahead all None = None
ahead all (Some ts) = Some (all ++ ts)

pub record IsTokenizing (whole rest : List ℕ) (all : List Token) : Type 0 where
  pub steps : ℕ
  pub same : tokens_of whole ≡ ahead all (tokens steps rest)
  pub enough : length rest < steps

pub IsTokenizing-start : (whole : List ℕ) → IsTokenizing whole whole []
unfolding tokens_of
IsTokenizing-start whole = record { steps = suc (length whole); same = all_of (tokens (suc (length whole)) whole); enough = omega arith }
  where
    all_of : (o : Option (List Token)) → o ≡ ahead [] o
    all_of None = refl
    all_of (Some ts) = refl

pub IsTokenizing-end : (whole rest : List ℕ) (all : List Token) → IsTokenizing whole rest all → past is_blank rest ≡ [] → tokens_of whole ≡ Some all
unfolding tokens
IsTokenizing-end whole rest all so_far none = so_far.same ∙ at_end so_far.steps so_far.enough
  where
    at_end : (k : ℕ) → length rest < k → ahead all (tokens k rest) ≡ Some all
    at_end zero lt = absurd (omega arith)
    at_end (suc k) lt = rw none (ap Some (append-nil all))

tokens_at-some : (more : List ℕ → Option (List Token)) (cs : List ℕ) → (cs ≡ [] → ⊥) → tokens_at more cs ≡ (next_token cs >>= λ n. with_token n.token (more n.rest))
tokens_at-some more [] some = absurd (some refl)
tokens_at-some more (c ∷ cs) some = refl

pub IsTokenizing-none : (whole rest start : List ℕ) (all : List Token) → IsTokenizing whole rest all → start ≡ past is_blank rest → (start ≡ [] → ⊥) → next_token start ≡ None → tokens_of whole ≡ None
unfolding tokens
IsTokenizing-none whole rest start all so_far at some none = so_far.same ∙ at_step so_far.steps
  where
    at_step : (k : ℕ) → ahead all (tokens k rest) ≡ None
    at_step zero = refl
    at_step (suc k) = rw (← at) (ap (ahead all) (tokens_at-some (tokens k) start some) ∙ rw none refl)

pub IsTokenizing-step : (whole rest start : List ℕ) (all : List Token) (n : Next) → IsTokenizing whole rest all → start ≡ past is_blank rest → (start ≡ [] → ⊥) → next_token start ≡ Some n → IsTokenizing whole n.rest (all ++ n.token ∷ [])
unfolding tokens
IsTokenizing-step whole rest start all n so_far at some next = one_less so_far.steps so_far.same so_far.enough
  where
    regrouped : (o : Option (List Token)) → ahead all (with_token n.token o) ≡ ahead (all ++ n.token ∷ []) o
    regrouped None = refl
    regrouped (Some ts) = ap Some (sym (append_assoc all (n.token ∷ []) ts))

    one_less : (k : ℕ) → tokens_of whole ≡ ahead all (tokens k rest) → length rest < k → IsTokenizing whole n.rest (all ++ n.token ∷ [])
    one_less zero same lt = absurd (omega arith)
    one_less (suc k) same lt = record {
      steps = k;
      same = (let more : tokens (suc k) rest ≡ with_token n.token (tokens k n.rest) = rw (← at) (tokens_at-some (tokens k) start some ∙ rw next refl) in same ∙ ap (ahead all) more ∙ regrouped (tokens k n.rest));
      enough = omega (arith, next_token-shorter start n next, ap length at, past-shorter is_blank rest);
    }

pub step-shorter : (rest start : List ℕ) (n : Next) → start ≡ past is_blank rest → next_token start ≡ Some n → length n.rest < length rest
step-shorter rest start n at next = omega (arith, next_token-shorter start n next, ap length at, past-shorter is_blank rest)

-- what a test for an empty text tells
pub from_empty : (start rest : List ℕ) → start ≡ rest → (IsTrue true → start ≡ []) × (start ≡ [] → IsTrue true) → rest ≡ []
from_empty start rest at test = sym at ∙ test.0 refl

pub from_some : (start : List ℕ) → (IsTrue false → start ≡ []) × (start ≡ [] → IsTrue false) → start ≡ [] → ⊥
from_some start test none = let h = test.1 none in cc
