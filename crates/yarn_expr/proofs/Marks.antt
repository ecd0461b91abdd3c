-- The signs and words that the printer writes, and their tokens.
use Rattle.std.proofs.Common.{◌≡◌, ℕ, ◌<◌, List, [], ◌∷◌, ◌++◌, Bool, true, false, ◌&&◌, ◌||◌, ◌==◌, nat_lt, Some, None, refl, sym, ap, ◌∙◌, arith, ltb-true}
use Rattle.std.specs.Prelude.{codes}
use Rattle.std.proofs.lemmas.Bool.{and_parts}
use Rattle.std.specs.Char.{is_ascii_alphanumeric}
use Rattle.std.specs.List.{list_all}
use Rattle.unicode_ident.proofs.IdentLemmas.{is_xid_start-ascii, is_xid_continue-ascii}
use Rattle.yarn_base.specs.Name.{continues_name}
use Rattle.yarn_expr.specs.declared.token.Token.{Token}
use Rattle.yarn_expr.specs.declared.token.Token.TheVariants as token
use Rattle.yarn_expr.specs.declared.token.Sign.{Sign}
use Rattle.yarn_expr.specs.declared.token.Sign.TheVariants as sign
use Rattle.yarn_expr.specs.declared.tree.UnaryOp.{UnaryOp}
use Rattle.yarn_expr.specs.declared.tree.UnaryOp.TheVariants.{Neg, Not}
use Rattle.yarn_expr.specs.declared.tree.BinaryOp.{BinaryOp}
use Rattle.yarn_expr.specs.declared.tree.BinaryOp.TheVariants.{Mul, Div, Rem, Add, Sub, Lte, Gte, Lt, Gt, Eq, Neq, And, Or, Xor}
use Rattle.yarn_expr.specs.Print.{operator_text, prefix_text, truth_text}
use Rattle.yarn_expr.specs.Tokens.{is_blank, is_digit, two_signs, one_sign, next_token, tokens_of}
use Rattle.yarn_expr.proofs.NextTokens.{begins_sign, begins_sign-BeginsSign, sign-next, sign-alone, two-next, IsWordOf, word-next}
use Rattle.yarn_expr.proofs.Only.{opening, closing, comma}
use Rattle.yarn_expr.proofs.Relexed.{tokens_of-blank}
use Rattle.yarn_expr.proofs.Runs.{AllOf, Stops, stops-at}
use Rattle.yarn_expr.proofs.Shown.{one, AreKept, IsShown, IsFree, IsBetween, are_ascii, ascii-spelt, ascii-scalar}
use Rattle.yarn_expr.proofs.Tokenizing.{ahead}
use Rattle.yarn_expr.proofs.Printed.{operator_token, prefix_token}

pub between-ascii : (bytes : List ℕ) (ts : List Token) → are_ascii bytes ≡ true → AreKept ts → ((rest : List ℕ) → tokens_of (bytes ++ rest) ≡ ahead ts (tokens_of rest)) → ((rest : List ℕ) → Stops (bytes ++ rest)) → IsBetween bytes ts
between-ascii bytes ts ascii kept lexed stops = record { letters = bytes; scalar = ascii-scalar bytes ascii; spelt = ascii-spelt bytes ascii; kept = kept; lexed = lexed; stops = stops }

free-ascii : (bytes : List ℕ) (ts : List Token) → are_ascii bytes ≡ true → AreKept ts → ((rest : List ℕ) → tokens_of (bytes ++ rest) ≡ ahead ts (tokens_of rest)) → IsFree bytes ts
free-ascii bytes ts ascii kept lexed = record { letters = bytes; scalar = ascii-scalar bytes ascii; spelt = ascii-spelt bytes ascii; kept = kept; lexed = lexed }

sign-kept : (s : Sign) → AreKept (token.Sign s ∷ [])
sign-kept s = record { no_fraction = refl; no_large = refl }

pub word-kept : (w : List ℕ) → AreKept (token.Word w ∷ [])
word-kept w = record { no_fraction = refl; no_large = refl }

-- a blank and brackets end names and numbers
ends_at : (c : ℕ) → c < 128 → is_digit c ≡ false → (c == 46) ≡ false → (is_ascii_alphanumeric c || (c == 95)) ≡ false → (rest : List ℕ) → Stops (c ∷ rest)
ends_at c lt digit point name rest = stops-at c rest digit point (rw (is_xid_continue-ascii c lt) (rw name point))

pub blank-stops : (rest : List ℕ) → Stops (32 ∷ rest)
blank-stops rest = ends_at 32 (omega arith) refl refl refl rest

alone : (c : ℕ) (s : Sign) → c < 128 → begins_sign c ≡ true → ((d : ℕ) → two_signs c d ≡ None) → one_sign c ≡ Some s → (rest : List ℕ) → tokens_of (c ∷ rest) ≡ ahead (token.Sign s ∷ []) (tokens_of rest)
alone c s lt begins single is rest =
    let b = begins_sign-BeginsSign c lt begins in
    one c rest (record { token = token.Sign s; rest = rest }) b.blank (sign-alone c s b single is rest)

pub open-between : IsBetween (codes "(") (opening ∷ [])
open-between = between-ascii (40 ∷ []) (opening ∷ []) refl (sign-kept sign.Open) (alone 40 sign.Open (omega arith) refl (λ d. refl) refl) (ends_at 40 (omega arith) refl refl refl)

pub open-free : IsFree (codes "(") (opening ∷ [])
open-free = free-ascii (40 ∷ []) (opening ∷ []) refl (sign-kept sign.Open) (alone 40 sign.Open (omega arith) refl (λ d. refl) refl)

pub close-between : IsBetween (codes ")") (closing ∷ [])
close-between = between-ascii (41 ∷ []) (closing ∷ []) refl (sign-kept sign.Close) (alone 41 sign.Close (omega arith) refl (λ d. refl) refl) (ends_at 41 (omega arith) refl refl refl)

pub comma-between : IsBetween (codes ", ") (comma ∷ [])
comma-between =
    between-ascii (44 ∷ 32 ∷ []) (comma ∷ []) refl (sign-kept sign.Comma) (λ rest. alone 44 sign.Comma (omega arith) refl (λ d. refl) refl (32 ∷ rest) ∙ ap (ahead (comma ∷ [])) (tokens_of-blank 32 rest refl))
    (λ rest. ends_at 44 (omega arith) refl refl refl (32 ∷ rest))

-- one token between two blanks
spaced : (c : ℕ) (cs rest : List ℕ) (t : Token) → is_blank c ≡ false → next_token (c ∷ cs) ≡ Some (record { token = t; rest = 32 ∷ rest }) → tokens_of (32 ∷ c ∷ cs) ≡ ahead (t ∷ []) (tokens_of rest)
spaced c cs rest t blank next = tokens_of-blank 32 (c ∷ cs) refl ∙ one c cs (record { token = t; rest = 32 ∷ rest }) blank next ∙ ap (ahead (t ∷ [])) (tokens_of-blank 32 rest refl)

spaced-sign : (c : ℕ) (s : Sign) → nat_lt c 128 ≡ true → begins_sign c ≡ true → two_signs c 32 ≡ None → one_sign c ≡ Some s → IsBetween (32 ∷ c ∷ 32 ∷ []) (token.Sign s ∷ [])
spaced-sign c s small begins single is =
    let lt : c < 128 = ltb-true _ _ small in
    let b = begins_sign-BeginsSign c lt begins in
    between-ascii (32 ∷ c ∷ 32 ∷ []) (token.Sign s ∷ []) (rw small refl) (sign-kept s) (λ rest. spaced c (32 ∷ rest) rest (token.Sign s) b.blank (sign-next c 32 s b single is rest)) (λ rest. blank-stops (c ∷ 32 ∷ rest))

spaced-two : (c d : ℕ) (s : Sign) → nat_lt c 128 ≡ true → nat_lt d 128 ≡ true → begins_sign c ≡ true → two_signs c d ≡ Some s → IsBetween (32 ∷ c ∷ d ∷ 32 ∷ []) (token.Sign s ∷ [])
spaced-two c d s small low begins is =
    let lt : c < 128 = ltb-true _ _ small in
    let b = begins_sign-BeginsSign c lt begins in
    between-ascii (32 ∷ c ∷ d ∷ 32 ∷ []) (token.Sign s ∷ []) (rw (small, low) refl) (sign-kept s) (λ rest. spaced c (d ∷ 32 ∷ rest) rest (token.Sign s) b.blank (two-next c d s b is (32 ∷ rest))) (λ rest. blank-stops (c ∷ d ∷ 32 ∷ rest))

-- letters that are plain
abbrev pub is_letter : ℕ → Bool
is_letter c = nat_lt c 128 && is_ascii_alphanumeric c

pub letters-continue : (cs : List ℕ) → list_all is_letter cs ≡ true → AllOf continues_name cs
letters-continue [] e = tt
letters-continue (c ∷ cs) e =
    let both = and_parts _ (list_all is_letter cs) e in
    let parts = and_parts _ _ both.0 in
    let letter = parts.1 in
    (rw (is_xid_continue-ascii c (ltb-true _ _ parts.0)) (rw letter refl), letters-continue cs both.1)

and-word : IsWordOf 97 (110 ∷ 100 ∷ [])
and-word = record { digit = refl; quote = refl; dollar = refl; blank = refl; starts = rw (is_xid_start-ascii 97 (omega arith)) refl; continues = letters-continue (110 ∷ 100 ∷ []) refl }

or-word : IsWordOf 111 (114 ∷ [])
or-word = record { digit = refl; quote = refl; dollar = refl; blank = refl; starts = rw (is_xid_start-ascii 111 (omega arith)) refl; continues = letters-continue (114 ∷ []) refl }

xor-word : IsWordOf 120 (111 ∷ 114 ∷ [])
xor-word = record { digit = refl; quote = refl; dollar = refl; blank = refl; starts = rw (is_xid_start-ascii 120 (omega arith)) refl; continues = letters-continue (111 ∷ 114 ∷ []) refl }

not-word : IsWordOf 110 (111 ∷ 116 ∷ [])
not-word = record { digit = refl; quote = refl; dollar = refl; blank = refl; starts = rw (is_xid_start-ascii 110 (omega arith)) refl; continues = letters-continue (111 ∷ 116 ∷ []) refl }

true-word : IsWordOf 116 (114 ∷ 117 ∷ 101 ∷ [])
true-word = record { digit = refl; quote = refl; dollar = refl; blank = refl; starts = rw (is_xid_start-ascii 116 (omega arith)) refl; continues = letters-continue (114 ∷ 117 ∷ 101 ∷ []) refl }

false-word : IsWordOf 102 (97 ∷ 108 ∷ 115 ∷ 101 ∷ [])
false-word = record { digit = refl; quote = refl; dollar = refl; blank = refl; starts = rw (is_xid_start-ascii 102 (omega arith)) refl; continues = letters-continue (97 ∷ 108 ∷ 115 ∷ 101 ∷ []) refl }

-- a word of plain letters, as its bytes
pub ascii-next : (c : ℕ) (cs rest : List ℕ) → IsWordOf c cs → are_ascii (c ∷ cs) ≡ true → Stops rest → next_token (c ∷ (cs ++ rest)) ≡ Some (record { token = token.Word (c ∷ cs); rest = rest })
ascii-next c cs rest w ascii ends = word-next c cs rest w ends ∙ ap (λ l. Some (record { token = token.Word l; rest = rest })) (sym (ascii-spelt (c ∷ cs) ascii))

pub spaced-word : (c : ℕ) (cs : List ℕ) → IsWordOf c cs → are_ascii (c ∷ cs) ≡ true → are_ascii (32 ∷ c ∷ (cs ++ 32 ∷ [])) ≡ true → ((rest : List ℕ) → (32 ∷ c ∷ (cs ++ 32 ∷ [])) ++ rest ≡ 32 ∷ c ∷ (cs ++ 32 ∷ rest)) →
    IsBetween (32 ∷ c ∷ (cs ++ 32 ∷ [])) (token.Word (c ∷ cs) ∷ [])
spaced-word c cs w ascii all same =
    between-ascii (32 ∷ c ∷ (cs ++ 32 ∷ [])) (token.Word (c ∷ cs) ∷ []) all (word-kept (c ∷ cs))
    (λ rest. ap tokens_of (same rest) ∙ spaced c (cs ++ 32 ∷ rest) rest (token.Word (c ∷ cs)) w.blank (ascii-next c cs (32 ∷ rest) w ascii (blank-stops rest)))
    (λ rest. blank-stops (c ∷ ((cs ++ 32 ∷ []) ++ rest)))

pub operator-between : (op : BinaryOp) → IsBetween (operator_text op) (operator_token op ∷ [])
operator-between Mul = spaced-sign 42 sign.Star refl refl refl refl
operator-between Div = spaced-sign 47 sign.Slash refl refl refl refl
operator-between Rem = spaced-sign 37 sign.Percent refl refl refl refl
operator-between Add = spaced-sign 43 sign.Plus refl refl refl refl
operator-between Sub = spaced-sign 45 sign.Minus refl refl refl refl
operator-between Lte = spaced-two 60 61 sign.AtMost refl refl refl refl
operator-between Gte = spaced-two 62 61 sign.AtLeast refl refl refl refl
operator-between Lt = spaced-sign 60 sign.Less refl refl refl refl
operator-between Gt = spaced-sign 62 sign.More refl refl refl refl
operator-between Eq = spaced-two 61 61 sign.Equal refl refl refl refl
operator-between Neq = spaced-two 33 61 sign.NotEqual refl refl refl refl
operator-between And = spaced-word 97 (110 ∷ 100 ∷ []) and-word refl refl (λ rest. refl)
operator-between Or = spaced-word 111 (114 ∷ []) or-word refl refl (λ rest. refl)
operator-between Xor = spaced-word 120 (111 ∷ 114 ∷ []) xor-word refl refl (λ rest. refl)

pub prefix-free : (op : UnaryOp) → IsFree (prefix_text op) (prefix_token op ∷ [])
prefix-free Neg = free-ascii (45 ∷ []) (token.Sign sign.Minus ∷ []) refl (sign-kept sign.Minus) (alone 45 sign.Minus (omega arith) refl (λ d. refl) refl)
prefix-free Not =
    free-ascii (110 ∷ 111 ∷ 116 ∷ 32 ∷ []) (token.Word (codes "not") ∷ []) refl (word-kept (codes "not"))
    (λ rest. one 110 (111 ∷ 116 ∷ 32 ∷ rest) (record { token = token.Word (codes "not"); rest = 32 ∷ rest }) refl (ascii-next 110 (111 ∷ 116 ∷ []) (32 ∷ rest) not-word refl (blank-stops rest))
    ∙ ap (ahead (token.Word (codes "not") ∷ [])) (tokens_of-blank 32 rest refl))

pub plain-word : (c : ℕ) (cs : List ℕ) → IsWordOf c cs → are_ascii (c ∷ cs) ≡ true → IsShown (c ∷ cs) (token.Word (c ∷ cs) ∷ [])
plain-word c cs w ascii = record {
  letters = c ∷ cs;
  scalar = ascii-scalar (c ∷ cs) ascii;
  spelt = ascii-spelt (c ∷ cs) ascii;
  kept = word-kept (c ∷ cs);
  lexed = λ rest ends. one c (cs ++ rest) (record { token = token.Word (c ∷ cs); rest = rest }) w.blank (ascii-next c cs rest w ascii ends);
}

pub truth-shown : (b : Bool) → IsShown (truth_text b) (token.Word (truth_text b) ∷ [])
truth-shown true = plain-word 116 (114 ∷ 117 ∷ 101 ∷ []) true-word refl
truth-shown false = plain-word 102 (97 ∷ 108 ∷ 115 ∷ 101 ∷ []) false-word refl
