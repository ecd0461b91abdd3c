-- Bytes that were written, and the tokens that they are. Parts are joined from the left.
use Rattle.std.proofs.Common.{◌≡◌, ℕ, ◌<◌, List, [], ◌∷◌, ◌++◌, Bool, true, false, ◌&&◌, nat_lt, Option, Some, None, encode_utf8_all, refl, sym, ap, ◌∙◌, subst, arith, append_assoc, ltb-true}
use Rattle.std.proofs.lemmas.Bool.{and_parts, and_from}
use Rattle.std.proofs.lemmas.List.Folds.{list_any-append}
use Rattle.std.proofs.lemmas.Str.{encode_ascii, encodes-append}
use Rattle.std.specs.List.{list_any}
use Rattle.std.specs.Str.{all_scalars}
use lib.Utf8.{low_scalar}
use Rattle.yarn_expr.specs.declared.token.Token.{Token}
use Rattle.yarn_expr.specs.Literal.{is_fraction, is_large}
use Rattle.yarn_expr.specs.Tokens.{is_blank, Next, next_token, with_token, tokens_of}
use Rattle.yarn_expr.proofs.Relexed.{tokens_of-token}
use Rattle.yarn_expr.proofs.Runs.{Stops}
use Rattle.yarn_expr.proofs.Tokenizing.{ahead}

pub with-ahead : (t : Token) (o : Option (List Token)) → with_token t o ≡ ahead (t ∷ []) o
with-ahead t None = refl
with-ahead t (Some ts) = refl

pub ahead-append : (xs ys : List Token) (o : Option (List Token)) → ahead xs (ahead ys o) ≡ ahead (xs ++ ys) o
ahead-append xs ys None = refl
ahead-append xs ys (Some ts) = ap Some (sym (append_assoc xs ys ts))

-- one token at the front
pub one : (c : ℕ) (cs : List ℕ) (n : Next) → is_blank c ≡ false → next_token (c ∷ cs) ≡ Some n → tokens_of (c ∷ cs) ≡ ahead (n.token ∷ []) (tokens_of n.rest)
one c cs n blank next = tokens_of-token c cs n blank next ∙ with-ahead n.token (tokens_of n.rest)

-- no token is a literal that can't be kept
pub record AreKept (ts : List Token) : Type 0 where
  pub no_fraction : list_any is_fraction ts ≡ false
  pub no_large : list_any is_large ts ≡ false

pub AreKept-append : (ts us : List Token) → AreKept ts → AreKept us → AreKept (ts ++ us)
AreKept-append ts us k l = record {
  no_fraction = (let a = k.no_fraction in let b = l.no_fraction in list_any-append is_fraction ts us ∙ rw (a, b) refl);
  no_large = (let a = k.no_large in let b = l.no_large in list_any-append is_large ts us ∙ rw (a, b) refl);
}

-- before anything that ends a name and a number
pub record IsShown (bytes : List ℕ) (ts : List Token) : Type 0 where
  pub letters : List ℕ
  pub scalar : all_scalars letters ≡ true
  pub spelt : bytes ≡ encode_utf8_all letters
  pub kept : AreKept ts
  pub lexed : (rest : List ℕ) → Stops rest → tokens_of (letters ++ rest) ≡ ahead ts (tokens_of rest)

-- before anything
pub record IsFree (bytes : List ℕ) (ts : List Token) : Type 0 where
  pub letters : List ℕ
  pub scalar : all_scalars letters ≡ true
  pub spelt : bytes ≡ encode_utf8_all letters
  pub kept : AreKept ts
  pub lexed : (rest : List ℕ) → tokens_of (letters ++ rest) ≡ ahead ts (tokens_of rest)

-- before anything, and itself what ends a name and a number
pub record IsBetween (bytes : List ℕ) (ts : List Token) : Type 0 where
  pub letters : List ℕ
  pub scalar : all_scalars letters ≡ true
  pub spelt : bytes ≡ encode_utf8_all letters
  pub kept : AreKept ts
  pub lexed : (rest : List ℕ) → tokens_of (letters ++ rest) ≡ ahead ts (tokens_of rest)
  pub stops : (rest : List ℕ) → Stops (letters ++ rest)

-- before what ends a name and a number, and itself such
pub record IsNext (bytes : List ℕ) (ts : List Token) : Type 0 where
  pub letters : List ℕ
  pub scalar : all_scalars letters ≡ true
  pub spelt : bytes ≡ encode_utf8_all letters
  pub kept : AreKept ts
  pub lexed : (rest : List ℕ) → Stops rest → tokens_of (letters ++ rest) ≡ ahead ts (tokens_of rest)
  pub stops : (rest : List ℕ) → Stops (letters ++ rest)

pub scalars-append : (cs ds : List ℕ) → all_scalars cs ≡ true → all_scalars ds ≡ true → all_scalars (cs ++ ds) ≡ true
scalars-append [] ds p q = q
scalars-append (c ∷ cs) ds p q = let both = and_parts _ (all_scalars cs) p in and_from _ _ both.0 (scalars-append cs ds both.1 q)

pub spelt-append : (a b cs ds : List ℕ) → a ≡ encode_utf8_all cs → b ≡ encode_utf8_all ds → a ++ b ≡ encode_utf8_all (cs ++ ds)
spelt-append a b cs ds p q = ap (λ l. l ++ b) p ∙ ap (λ l. encode_utf8_all cs ++ l) q ∙ sym (encodes-append cs ds)

pub free-then : (a b : List ℕ) (ts us : List Token) → IsFree a ts → IsShown b us → IsShown (a ++ b) (ts ++ us)
free-then a b ts us f s = record {
  letters = f.letters ++ s.letters;
  scalar = scalars-append f.letters s.letters f.scalar s.scalar;
  spelt = spelt-append a b f.letters s.letters f.spelt s.spelt;
  kept = AreKept-append ts us f.kept s.kept;
  lexed = λ rest ends. ap tokens_of (append_assoc f.letters s.letters rest) ∙ f.lexed (s.letters ++ rest) ∙ ap (ahead ts) (s.lexed rest ends) ∙ ahead-append ts us (tokens_of rest);
}

pub between-then : (a b : List ℕ) (ts us : List Token) → IsBetween a ts → IsShown b us → IsNext (a ++ b) (ts ++ us)
between-then a b ts us f s = record {
  letters = f.letters ++ s.letters;
  scalar = scalars-append f.letters s.letters f.scalar s.scalar;
  spelt = spelt-append a b f.letters s.letters f.spelt s.spelt;
  kept = AreKept-append ts us f.kept s.kept;
  lexed = λ rest ends. ap tokens_of (append_assoc f.letters s.letters rest) ∙ f.lexed (s.letters ++ rest) ∙ ap (ahead ts) (s.lexed rest ends) ∙ ahead-append ts us (tokens_of rest);
  stops = λ rest. subst Stops (sym (append_assoc f.letters s.letters rest)) (f.stops (s.letters ++ rest));
}

pub shown-then : (a b : List ℕ) (ts us : List Token) → IsShown a ts → IsNext b us → IsShown (a ++ b) (ts ++ us)
shown-then a b ts us s n = record {
  letters = s.letters ++ n.letters;
  scalar = scalars-append s.letters n.letters s.scalar n.scalar;
  spelt = spelt-append a b s.letters n.letters s.spelt n.spelt;
  kept = AreKept-append ts us s.kept n.kept;
  lexed = λ rest ends. ap tokens_of (append_assoc s.letters n.letters rest) ∙ s.lexed (n.letters ++ rest) (n.stops rest) ∙ ap (ahead ts) (n.lexed rest ends) ∙ ahead-append ts us (tokens_of rest);
}

pub next-alone : (a : List ℕ) (ts : List Token) → IsBetween a ts → IsNext a ts
next-alone a ts f = record { letters = f.letters; scalar = f.scalar; spelt = f.spelt; kept = f.kept; lexed = λ rest ends. f.lexed rest; stops = f.stops }

pub nothing-shown : IsShown [] []
nothing-shown = record { letters = []; scalar = refl; spelt = refl; kept = record { no_fraction = refl; no_large = refl }; lexed = λ rest ends. all_of (tokens_of rest) }
  where
    all_of : (o : Option (List Token)) → o ≡ ahead [] o
    all_of None = refl
    all_of (Some ts) = refl

-- bytes that are characters by themselves
abbrev pub are_ascii : List ℕ → Bool
are_ascii [] = true
are_ascii (c ∷ cs) = nat_lt c 128 && are_ascii cs

pub ascii-spelt : (cs : List ℕ) → are_ascii cs ≡ true → cs ≡ encode_utf8_all cs
ascii-spelt [] e = refl
ascii-spelt (c ∷ cs) e =
    let both = and_parts _ (are_ascii cs) e in
    ap (λ l. c ∷ l) (ascii-spelt cs both.1) ∙ ap (λ l. l ++ encode_utf8_all cs) (sym (encode_ascii c (ltb-true _ _ both.0)))

pub ascii-scalar : (cs : List ℕ) → are_ascii cs ≡ true → all_scalars cs ≡ true
ascii-scalar [] e = refl
ascii-scalar (c ∷ cs) e =
    let both = and_parts _ (are_ascii cs) e in
    let lt : c < 128 = ltb-true _ _ both.0 in
    and_from _ _ (low_scalar c (omega arith)) (ascii-scalar cs both.1)
