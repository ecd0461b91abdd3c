-- The tokens of a text that begins with a token, or with a blank.
use Rattle.std.proofs.Common.{◌≡◌, ℕ, zero, suc, ◌≤◌, ◌<◌, List, [], ◌∷◌, ◌++◌, length, Bool, true, false, Option, Some, None, refl, ap, ◌∙◌, arith}
use Rattle.std.proofs.Common.{◌==◌}
use Rattle.unicode_ident.proofs.IdentLemmas.{is_xid_start-ascii}
use Rattle.yarn_base.specs.Name.{starts_name}
use Rattle.yarn_expr.specs.declared.token.Token.TheVariants as token
use Rattle.yarn_expr.specs.declared.token.Sign.TheVariants as sign
use Rattle.yarn_expr.specs.Print.{escape}
use Rattle.yarn_expr.specs.Reading.{◌>>=◌}
use Rattle.yarn_expr.specs.Tokens.{Quoted, quoted, with_char, is_escaped, is_blank, past, Next, next_token, with_token, tokens_at, tokens, tokens_of}
use Rattle.yarn_expr.proofs.Scanned.{past-shorter}
use Rattle.yarn_expr.proofs.Tokenizing.{next_token-shorter}

-- any bound above the number of characters gives the same tokens
pub tokens-bound : (j k : ℕ) (cs : List ℕ) → length cs < j → length cs < k → tokens j cs ≡ tokens k cs
unfolding tokens
tokens-bound zero k cs lt le = absurd (omega arith)
tokens-bound (suc j) zero cs lt le = absurd (omega arith)
tokens-bound (suc j) (suc k) cs lt le = by_start (tokens-bound j k) (past is_blank cs) refl
  where
    by_next : ((ds : List ℕ) → length ds < j → length ds < k → tokens j ds ≡ tokens k ds) → (start : List ℕ) → length start ≤ length cs → (o : Option Next) → next_token start ≡ o →
        (o >>= λ n. with_token n.token (tokens j n.rest)) ≡ (o >>= λ n. with_token n.token (tokens k n.rest))
    by_next same start less None is = refl
    by_next same start less (Some n) is = let h = next_token-shorter start n is in ap (with_token n.token) (same n.rest (omega arith) (omega arith))

    by_start : ((ds : List ℕ) → length ds < j → length ds < k → tokens j ds ≡ tokens k ds) → (start : List ℕ) → past is_blank cs ≡ start → tokens_at (tokens j) start ≡ tokens_at (tokens k) start
    by_start same [] is = refl
    by_start same (c ∷ ds) is = by_next same (c ∷ ds) (omega (arith, past-shorter is_blank cs, ap length is)) (next_token (c ∷ ds)) refl

-- a blank in front changes nothing
pub tokens_of-blank : (c : ℕ) (cs : List ℕ) → is_blank c ≡ true → tokens_of (c ∷ cs) ≡ tokens_of cs
unfolding tokens_of tokens
tokens_of-blank c cs is =
    let start : tokens (suc (suc (length cs))) (c ∷ cs) ≡ tokens (suc (suc (length cs))) cs = rw is refl in
    start ∙ tokens-bound (suc (suc (length cs))) (suc (length cs)) cs (omega arith) (omega arith)

-- a token in front is the first one
pub tokens_of-token : (c : ℕ) (cs : List ℕ) (n : Next) → is_blank c ≡ false → next_token (c ∷ cs) ≡ Some n → tokens_of (c ∷ cs) ≡ with_token n.token (tokens_of n.rest)
unfolding tokens_of tokens
tokens_of-token c cs n is next =
    let shorter = next_token-shorter (c ∷ cs) n next in
    let start : tokens (suc (length (c ∷ cs))) (c ∷ cs) ≡ with_token n.token (tokens (length (c ∷ cs)) n.rest) = rw is (rw next refl) in
    start ∙ ap (with_token n.token) (tokens-bound (length (c ∷ cs)) (suc (length n.rest)) n.rest (omega arith) (omega arith))

-- a string that was written with its escapes is read back
quoted-plain : (c : ℕ) (cs : List ℕ) (q : Quoted) → is_escaped c ≡ false → quoted cs ≡ Some q → quoted (c ∷ cs) ≡ with_char c (quoted cs)
unfolding quoted
quoted-plain c [] q is e = cc
quoted-plain c (d ∷ cs) q is e = by_quote (c == 34) refl
  where
    by_backslash : (c == 34) ≡ false → (b : Bool) → (c == 92) ≡ b → quoted (c ∷ d ∷ cs) ≡ with_char c (quoted (d ∷ cs))
    by_backslash plain true same = let f = rw (plain, same) at is in cc
    by_backslash plain false other = rw (plain, other) refl

    by_quote : (b : Bool) → (c == 34) ≡ b → quoted (c ∷ d ∷ cs) ≡ with_char c (quoted (d ∷ cs))
    by_quote true same = let f = rw same at is in cc
    by_quote false other = by_backslash other (c == 92) refl

pub quoted-escape : (cs rest : List ℕ) → quoted (escape cs ++ 34 ∷ rest) ≡ Some (record { body = cs; rest = rest })
unfolding quoted
quoted-escape [] [] = refl
quoted-escape [] (c ∷ rest) = refl
quoted-escape (c ∷ cs) rest = by_test (quoted-escape cs rest) (is_escaped c) refl
  where
    by_test : quoted (escape cs ++ 34 ∷ rest) ≡ Some (record { body = cs; rest = rest }) → (b : Bool) → is_escaped c ≡ b → quoted (escape (c ∷ cs) ++ 34 ∷ rest) ≡ Some (record { body = c ∷ cs; rest = rest })
    by_test more true is = rw (is, is) (ap (with_char c) more)
    by_test more false is = rw is (quoted-plain c (escape cs ++ 34 ∷ rest) _ is more ∙ ap (with_char c) more)

-- a bracket is a token of its own
starts_name-open : starts_name 40 ≡ false
starts_name-open = rw (is_xid_start-ascii 40 (omega arith)) refl

pub next_token-open : (rest : List ℕ) → next_token (40 ∷ rest) ≡ Some (record { token = token.Sign sign.Open; rest = rest })
unfolding next_token
next_token-open [] = rw starts_name-open refl
next_token-open (c ∷ rest) = rw starts_name-open refl
