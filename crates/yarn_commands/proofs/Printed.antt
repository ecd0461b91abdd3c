-- What is written of a command is that command, where any content is.
use Rattle.std.proofs.Common.{◌≡◌, ◌≢◌, ℕ, zero, suc, ◌<◌, ◌^◌, List, [], ◌∷◌, ◌++◌, Bool, true, false, pos, negsuc, neg_ℤ, unwrap_or, Option, Some, None, ◌⊎◌, inl, inr, IsUtf8, encode_utf8_all, refl, sym, ap, ◌∙◌, subst, arith, append-nil}
use Rattle.std.specs.Prelude.{codes, Result, Ok, Err, IfOk}
use Rattle.std.specs.Fmt.{decimal}
use Rattle.std.specs.List.{list_all}
use Rattle.std.specs.Str.{chars, all_scalars}
use Rattle.std.proofs.lemmas.Bool.{and_parts, and_from}
use Rattle.std.proofs.lemmas.Str.{chars-append, chars-encodes, scalars-chars}
use Rattle.unicode_ident.proofs.IdentLemmas.{is_xid_start-ascii}
use Rattle.yarn_base.specs.Name.{continues_name}
use Rattle.yarn_expr.specs.declared.token.Token.{Token}
use Rattle.yarn_expr.specs.declared.token.Token.TheVariants as token
use Rattle.yarn_expr.specs.declared.token.Sign.TheVariants as sign
use Rattle.yarn_expr.specs.declared.tree.UnaryOp.TheVariants.{Neg}
use Rattle.yarn_expr.specs.declared.tree.BinaryOp.{BinaryOp}
use Rattle.yarn_expr.specs.declared.tree.BinaryOp.TheVariants as op
use Rattle.yarn_expr.specs.declared.tree.Expr.{Expr}
use Rattle.yarn_expr.specs.Piece.{StandsFor}
use Rattle.yarn_expr.specs.Plain.{number_of}
use Rattle.yarn_expr.specs.Print.{canonical, truth_text, string_text, text_step}
use Rattle.yarn_expr.specs.Tokens.{is_blank, front, past, text_of, next_token, tokens, tokens_of}
use Rattle.yarn_expr.specs.Word.{is_spelled}
use Rattle.yarn_expr.proofs.Layers.{at_number, at_string, at_truth}
use Rattle.yarn_expr.proofs.Marks.{is_letter, letters-continue, blank-stops, ascii-next, spaced-word, plain-word, prefix-free, truth-shown}
use Rattle.yarn_expr.proofs.NextTokens.{IsWordOf, variable-next}
use Rattle.yarn_expr.proofs.Printed.{number_of-small, number_of-decimal}
use Rattle.yarn_expr.proofs.Relexed.{tokens_of-blank}
use Rattle.yarn_expr.proofs.Runs.{next_is, front-append, past-append, Stops, stops-nil}
use Rattle.yarn_expr.proofs.Shown.{AreKept, IsShown, IsNext, are_ascii, ascii-spelt, ascii-scalar, free-then, between-then, shown-then}
use Rattle.yarn_expr.proofs.TextLaw.{word-shown, number-shown, string-shown, fits, shown, written_law}
use Rattle.yarn_expr.proofs.TextTokens.{IsVariable, IsToken, AllTokens, AllTokens-append, next-read, scalars-past, past-starts, tokens_of-read}
use Rattle.yarn_expr.proofs.Tokenizing.{ahead}
use Rattle.yarn_value.specs.declared.value.Value.{Value}
use Rattle.yarn_value.specs.declared.value.Value.TheVariants as value
use Rattle.yarn_value.specs.declared.value.Kind.{Kind}
use Rattle.yarn_value.specs.declared.value.Kind.TheVariants as kind
use Rattle.yarn_commands.specs.FirstWord.{first_word_of}
use Rattle.yarn_commands.specs.declared.word.FirstWord.{FirstWord}
use Rattle.yarn_commands.specs.declared.word.FirstWord.TheVariants as word
use Rattle.yarn_commands.specs.declared.command.Command.{Command}
use Rattle.yarn_commands.specs.declared.command.Command.TheVariants as command
use Rattle.yarn_commands.specs.Command.{StandsNext, IsExpression, sign_text, HasSign, HasTo, IsAssigned, IsSet, truth_of, literal_of, negative_of, IsValue, kind_text, said, IsDeclare, IsJumpTo, is_call, IsMeant, IsCommand}
use Rattle.yarn_commands.specs.Kept.{IsKept}
use Rattle.yarn_commands.specs.Print.{assign_text, literal, as_text, content_text}

-- ---- the characters of what is written

chars-ascii : (w : List ℕ) → are_ascii w ≡ true → chars w ≡ w
chars-ascii w ascii = ap chars (ascii-spelt w ascii) ∙ chars-encodes w (ascii-scalar w ascii)

utf8-ascii : (w : List ℕ) → are_ascii w ≡ true → IsUtf8 w
utf8-ascii w ascii = (w, (ascii-scalar w ascii, sym (ascii-spelt w ascii)))

chars-behind : (w rest : List ℕ) → are_ascii w ≡ true → chars (w ++ rest) ≡ w ++ chars rest
chars-behind w rest ascii = chars-append w rest (utf8-ascii w ascii) ∙ ap (λ l. l ++ chars rest) (chars-ascii w ascii)

nothing : tokens_of [] ≡ Some []
unfolding tokens_of tokens
nothing = refl

shown-alone : (bytes : List ℕ) (ts : List Token) → IsShown bytes ts → tokens_of (chars bytes) ≡ Some ts
shown-alone bytes ts s =
    let letters : chars bytes ≡ s.letters = ap chars s.spelt ∙ chars-encodes s.letters s.scalar in
    ap tokens_of (letters ∙ sym (append-nil s.letters)) ∙ s.lexed [] stops-nil ∙ ap (ahead ts) nothing ∙ ap Some (append-nil ts)

-- a content that begins with a word of plain letters, behind which its name ends
begun : (x : ℕ) (w rest : List ℕ) (ts : List Token) (c : Command) → are_ascii (x ∷ w) ≡ true → list_all is_letter (x ∷ w) ≡ true → next_is continues_name (chars rest) ≡ false →
    IsMeant (first_word_of (x ∷ w)) (chars rest) ts c → IsCommand (chars ((x ∷ w) ++ rest)) ts c
begun x w rest ts c ascii letters ends meant =
    let all = letters-continue (x ∷ w) letters in
    let first : text_of (front continues_name ((x ∷ w) ++ chars rest)) ≡ x ∷ w = ap text_of (front-append continues_name (x ∷ w) (chars rest) all ends) ∙ sym (ascii-spelt (x ∷ w) ascii) in
    let behind : past continues_name ((x ∷ w) ++ chars rest) ≡ chars rest = past-append continues_name (x ∷ w) (chars rest) all ends in
    let P : List ℕ → Type 0 = λ l. IsMeant (first_word_of l) (chars rest) ts c in
    let Q : List ℕ → Type 0 = λ l. IsMeant (first_word_of (text_of (front continues_name ((x ∷ w) ++ chars rest)))) l ts c in
    let R : List ℕ → Type 0 = λ l. IsCommand l ts c in
    subst R (sym (chars-behind (x ∷ w) rest ascii)) (subst Q (sym behind) (subst P (sym first) meant))

-- the same where a blank ends it
begun-blank : (x : ℕ) (w rest : List ℕ) (ts : List Token) (c : Command) → are_ascii (x ∷ w) ≡ true → list_all is_letter (x ∷ w) ≡ true →
    IsMeant (first_word_of (x ∷ w)) (32 ∷ chars rest) ts c → IsCommand (chars ((x ∷ w) ++ 32 ∷ rest)) ts c
begun-blank x w rest ts c ascii letters meant =
    let blank = chars-behind (32 ∷ []) rest refl in
    let ends : next_is continues_name (chars (32 ∷ rest)) ≡ false = ap (next_is continues_name) blank ∙ (blank-stops (chars rest)).name in
    let P : List ℕ → Type 0 = λ l. IsMeant (first_word_of (x ∷ w)) l ts c in
    begun x w (32 ∷ rest) ts c ascii letters ends (subst P (sym blank) meant)

-- the content is the command, and its literals can be kept
kept-as : (content : List ℕ) (ts : List Token) (c : Command) → AreKept ts → IsCommand content ts c → IsKept content c
kept-as content ts c kept is = record { tokens = ts; is = is; no_fraction = kept.no_fraction; no_large = kept.no_large }

none-kept : AreKept []
none-kept = record { no_fraction = refl; no_large = refl }

-- ---- expressions

pub record Again (piece : List ℕ) (e : Expr) : Type 0 where
  pub tokens : List Token
  pub expression : IsExpression piece tokens e
  pub kept : AreKept tokens
  pub utf8 : IsUtf8 (canonical e)

pub again : (e : Expr) (cs : List ℕ) (ts : List Token) → all_scalars cs ≡ true → IsExpression cs ts e → Again (chars (canonical e)) e
again e cs ts scalar x =
    let stands : StandsFor cs e = record { tokens = ts; tree = x.tree; has = x.has; is = x.is } in
    let P : List ℕ → Type 0 = λ l. StandsFor l e in
    let k = written_law e (canonical e) (encode_utf8_all cs) refl (cs, (scalar, refl)) (subst P (sym (chars-encodes cs scalar)) stands) in
    record { tokens = k.tokens; expression = record { tree = k.tree; has = k.has; is = k.is }; kept = record { no_fraction = k.no_fraction; no_large = k.no_large }; utf8 = is-utf8 }
  where
    is-utf8 : IsUtf8 (canonical e)
    is-utf8 =
        let spelled = x.has.expression.spelled in
        let s = shown x.tree (fits x.tree ts spelled (tokens_of-read cs ts scalar x.has.lexed)) in
        (s.letters, (s.scalar, sym (ap canonical x.is ∙ s.spelt)))

-- a blank in front changes nothing
blank-again : (piece : List ℕ) (e : Expr) → Again piece e → Again (32 ∷ piece) e
blank-again piece e a = let x = a.expression in record {
  tokens = a.tokens;
  expression = record { tree = x.tree; has = record { lexed = tokens_of-blank 32 piece refl ∙ x.has.lexed; expression = x.has.expression }; is = x.is };
  kept = a.kept;
  utf8 = a.utf8;
}

-- ---- what some text has

scalars-behind : (xs ys : List ℕ) → all_scalars (xs ++ ys) ≡ true → all_scalars ys ≡ true
scalars-behind [] ys h = h
scalars-behind (x ∷ xs) ys h = scalars-behind xs ys (and_parts _ (all_scalars (xs ++ ys)) h).1

scalars-front : (xs ys : List ℕ) → all_scalars (xs ++ ys) ≡ true → all_scalars xs ≡ true
scalars-front [] ys h = refl
scalars-front (x ∷ xs) ys h = let both = and_parts _ (all_scalars (xs ++ ys)) h in and_from _ _ both.0 (scalars-front xs ys both.1)

next-scalars : (cs : List ℕ) (t : Token) (rest : List ℕ) → all_scalars cs ≡ true → StandsNext cs t rest → IsToken t × (all_scalars rest ≡ true)
unfolding next_token
next-scalars cs t rest scalar stands = at (past is_blank cs) refl stands
  where
    at : (start : List ℕ) → past is_blank cs ≡ start → next_token start ≡ Some (record { token = t; rest = rest }) → IsToken t × (all_scalars rest ≡ true)
    at [] is e = cc
    at (c ∷ ds) is e =
        let P : List ℕ → Type 0 = λ l. all_scalars l ≡ true in
        next-read c ds (record { token = t; rest = rest }) (past-starts is_blank cs ds c is) (subst P is (scalars-past is_blank cs scalar)) e

assigns-scalars : (o : Option BinaryOp) (cs rest : List ℕ) → all_scalars cs ≡ true → HasTo o cs rest ⊎ HasSign o cs rest → all_scalars rest ≡ true
assigns-scalars o cs rest scalar (inl to) = (next-scalars cs (token.Word (codes "to")) rest scalar to.1).1
assigns-scalars o cs rest scalar (inr s) =
    let P : List ℕ → Type 0 = λ l. all_scalars l ≡ true in
    scalars-behind s.sign rest (subst P s.stands (scalars-past is_blank cs scalar))

-- the name of a variable, and the characters of what it is set to
assigned-facts : (cs name : List ℕ) (o : Option BinaryOp) (rest : List ℕ) → all_scalars cs ≡ true → IsAssigned cs name o rest → IsVariable name × (all_scalars rest ≡ true)
assigned-facts cs name o rest scalar a =
    let v = next-scalars cs (token.Variable name) a.behind scalar a.variable in
    (v.0, assigns-scalars o a.behind rest v.1 a.assigns)

-- ---- a variable and what stands behind it

to-word : IsWordOf 116 (111 ∷ [])
to-word = record { digit = refl; quote = refl; dollar = refl; blank = refl; starts = rw (is_xid_start-ascii 116 (omega arith)) refl; continues = letters-continue (111 ∷ []) refl }

-- what is written between a variable and its expression
pub record IsSetting (text : List ℕ) (o : Option BinaryOp) : Type 0 where
  pub ascii : are_ascii text ≡ true
  pub stops : (rest : List ℕ) → Stops (text ++ rest)
  pub assigns : (rest : List ℕ) → HasTo o (text ++ rest) (32 ∷ rest) ⊎ HasSign o (text ++ rest) (32 ∷ rest)

setting : (o : Option BinaryOp) (sign : List ℕ) → sign_text o ≡ Some sign → IsSetting (assign_text o) o
setting None sign e = record { ascii = refl; stops = λ rest. blank-stops _; assigns = λ rest. inl (refl, ascii-next 116 (111 ∷ []) (32 ∷ rest) to-word refl (blank-stops rest)) }
setting (Some op.Add) sign e = record { ascii = refl; stops = λ rest. blank-stops _; assigns = λ rest. inr (record { sign = codes "+="; spelled = refl; stands = refl }) }
setting (Some op.Sub) sign e = record { ascii = refl; stops = λ rest. blank-stops _; assigns = λ rest. inr (record { sign = codes "-="; spelled = refl; stands = refl }) }
setting (Some op.Mul) sign e = record { ascii = refl; stops = λ rest. blank-stops _; assigns = λ rest. inr (record { sign = codes "*="; spelled = refl; stands = refl }) }
setting (Some op.Div) sign e = record { ascii = refl; stops = λ rest. blank-stops _; assigns = λ rest. inr (record { sign = codes "/="; spelled = refl; stands = refl }) }
setting (Some op.Rem) sign e = record { ascii = refl; stops = λ rest. blank-stops _; assigns = λ rest. inr (record { sign = codes "%="; spelled = refl; stands = refl }) }
setting (Some _) sign e = cc

equal-setting : IsSetting (codes " = ") None
equal-setting = record { ascii = refl; stops = λ rest. blank-stops _; assigns = λ rest. inr (record { sign = codes "="; spelled = refl; stands = refl }) }

has-sign : (o : Option BinaryOp) (cs rest : List ℕ) → HasTo o cs rest ⊎ HasSign o cs rest → (sign : List ℕ) × (sign_text o ≡ Some sign)
has-sign o cs rest (inl to) = (codes "=", ap sign_text to.0)
has-sign o cs rest (inr s) = (s.sign, s.spelled)

assigned-again : (name text more : List ℕ) (o : Option BinaryOp) → IsVariable name → IsSetting text o → IsAssigned (32 ∷ chars (name ++ (text ++ more))) name o (32 ∷ chars more)
assigned-again name text more o v s =
    let tail = text ++ chars more in
    let utf8 : IsUtf8 name = (36 ∷ v.others, (v.scalar, sym v.spelt)) in
    let letters : chars name ≡ 36 ∷ v.others = ap chars v.spelt ∙ chars-encodes (36 ∷ v.others) v.scalar in
    let all : chars (name ++ (text ++ more)) ≡ 36 ∷ (v.others ++ tail) = chars-append name (text ++ more) utf8 ∙ ap (λ l. l ++ chars (text ++ more)) letters ∙ ap (λ l. 36 ∷ (v.others ++ l)) (chars-behind text more s.ascii) in
    let P : List ℕ → Type 0 = λ l. IsAssigned (32 ∷ l) name o (32 ∷ chars more) in
    subst P (sym all) (
    record {
      behind = tail;
      variable = variable-next v.others tail v.starts v.continues (s.stops (chars more)) ∙ ap (λ l. Some (record { token = token.Variable l; rest = tail })) (sym v.spelt);
      assigns = s.assigns (chars more);
    }
    )

-- ---- values

pub record ValueShown (v : Value) : Type 0 where
  pub own : List Token
  pub is : IsValue own v
  pub shown : IsShown (canonical (literal v)) own

-- what is written of one kind of literal is shown as the literal
as-literal : (v : Value) (bytes : List ℕ) (ts : List Token) → canonical (literal v) ≡ bytes → IsShown bytes ts → IsShown (canonical (literal v)) ts
as-literal v bytes ts same s = let P : List ℕ → Type 0 = λ l. IsShown l ts in subst P (sym same) s

numbered : (n : ℕ) → n < 2 ^ 63 → ValueShown (value.Number (pos n))
numbered n lt = record {
  own = token.Number (decimal n) ∷ [];
  is = ap (λ o. Some (value.Number (pos (unwrap_or o 0)))) (number_of-decimal n lt);
  shown = as-literal (value.Number (pos n)) (decimal n) _ (at_number (List ℕ) text_step (pos n)) (number-shown n lt);
}

negative : (n : ℕ) → n < 2 ^ 63 → ValueShown (value.Number (neg_ℤ (pos n)))
negative zero lt = numbered 0 lt
negative (suc n) lt = record {
  own = token.Sign sign.Minus ∷ token.Number (decimal (suc n)) ∷ [];
  is = (refl, ap (λ o. Some (value.Number (neg_ℤ (pos (unwrap_or o 0))))) (number_of-decimal (suc n) lt));
  shown = as-literal (value.Number (negsuc n)) (codes "-" ++ decimal (suc n)) _ (at_number (List ℕ) text_step (negsuc n)) (free-then (codes "-") (decimal (suc n)) (token.Sign sign.Minus ∷ []) (token.Number (decimal (suc n)) ∷ []) (prefix-free Neg) (number-shown (suc n) lt));
}

truth : (b : Bool) → ValueShown (value.Truth b)
truth true = record { own = token.Word (codes "true") ∷ []; is = refl; shown = as-literal (value.Truth true) (truth_text true) _ (at_truth (List ℕ) text_step true) (truth-shown true) }
truth false = record { own = token.Word (codes "false") ∷ []; is = refl; shown = as-literal (value.Truth false) (truth_text false) _ (at_truth (List ℕ) text_step false) (truth-shown false) }

truth_of-shown : (w : List ℕ) (v : Value) → truth_of w ≡ Some v → ValueShown v
truth_of-shown w v e = by_true (is_spelled w (codes "true")) refl
  where
    by_false : is_spelled w (codes "true") ≡ false → (b : Bool) → is_spelled w (codes "false") ≡ b → ValueShown v
    by_false t true is = let h = rw (t, is) at e in let same : value.Truth false ≡ v = cc in subst ValueShown same (truth false)
    by_false t false is = let h = rw (t, is) at e in cc

    by_true : (b : Bool) → is_spelled w (codes "true") ≡ b → ValueShown v
    by_true true is = let h = rw is at e in let same : value.Truth true ≡ v = cc in subst ValueShown same (truth true)
    by_true false is = by_false is (is_spelled w (codes "false")) refl

literal-shown : (t : Token) (v : Value) → IsToken t → literal_of t ≡ Some v → ValueShown v
literal-shown (token.Number digits) v is e = let same : value.Number (pos (unwrap_or (number_of digits) 0)) ≡ v = cc in subst ValueShown same (numbered (unwrap_or (number_of digits) 0) (number_of-small digits))
literal-shown (token.Fraction digits) v is e = let same : value.Number (pos 0) ≡ v = cc in subst ValueShown same (numbered 0 (omega arith))
literal-shown (token.Str text) v is e = let same : value.Str text ≡ v = cc in subst ValueShown same (record { own = token.Str text ∷ []; is = refl; shown = as-literal (value.Str text) (string_text text) _ (at_string (List ℕ) text_step text) (string-shown text is) })
literal-shown (token.Word w) v is e = truth_of-shown w v e
literal-shown (token.Variable name) v is e = cc
literal-shown (token.Sign s) v is e = cc

negative-shown : (t : Token) (v : Value) → negative_of t ≡ Some v → ValueShown v
negative-shown (token.Number digits) v e = let same : value.Number (neg_ℤ (pos (unwrap_or (number_of digits) 0))) ≡ v = cc in subst ValueShown same (negative (unwrap_or (number_of digits) 0) (number_of-small digits))
negative-shown (token.Fraction digits) v e = let same : value.Number (pos 0) ≡ v = cc in subst ValueShown same (numbered 0 (omega arith))
negative-shown (token.Str text) v e = cc
negative-shown (token.Word w) v e = cc
negative-shown (token.Variable name) v e = cc
negative-shown (token.Sign s) v e = cc

value-shown : (own : List Token) (v : Value) → AllTokens own → IsValue own v → ValueShown v
value-shown (t ∷ []) v all is = literal-shown t v all.0 is
value-shown (m ∷ t ∷ []) v all is = negative-shown t v is.1
value-shown [] v all is = absurd is
value-shown (t ∷ u ∷ x ∷ ts) v all is = absurd is

-- ---- kinds

as-word : IsWordOf 97 (115 ∷ [])
as-word = record { digit = refl; quote = refl; dollar = refl; blank = refl; starts = rw (is_xid_start-ascii 97 (omega arith)) refl; continues = letters-continue (115 ∷ []) refl }

number-word : IsWordOf 110 (codes "umber")
number-word = record { digit = refl; quote = refl; dollar = refl; blank = refl; starts = rw (is_xid_start-ascii 110 (omega arith)) refl; continues = letters-continue (codes "umber") refl }

string-word : IsWordOf 115 (codes "tring")
string-word = record { digit = refl; quote = refl; dollar = refl; blank = refl; starts = rw (is_xid_start-ascii 115 (omega arith)) refl; continues = letters-continue (codes "tring") refl }

bool-word : IsWordOf 98 (codes "ool")
bool-word = record { digit = refl; quote = refl; dollar = refl; blank = refl; starts = rw (is_xid_start-ascii 98 (omega arith)) refl; continues = letters-continue (codes "ool") refl }

kind-shown : (k : Kind) → IsShown (kind_text k) (token.Word (kind_text k) ∷ [])
kind-shown kind.Number = plain-word 110 (codes "umber") number-word refl
kind-shown kind.Str = plain-word 115 (codes "tring") string-word refl
kind-shown kind.Truth = plain-word 98 (codes "ool") bool-word refl

as-next : (k : Kind) → IsNext (codes " as " ++ kind_text k) (said (Some k))
as-next k = between-then (codes " as ") (kind_text k) (token.Word (codes "as") ∷ []) (token.Word (kind_text k) ∷ []) (spaced-word 97 (115 ∷ []) as-word refl refl (λ rest. refl)) (kind-shown k)

declared-shown : (bytes : List ℕ) (own : List Token) (k : Option Kind) → IsShown bytes own → IsShown (bytes ++ as_text k) (own ++ said k)
declared-shown bytes own (Some k) s = shown-then bytes (codes " as " ++ kind_text k) own (said (Some k)) s (as-next k)
declared-shown bytes own None s =
    let P : List ℕ → Type 0 = λ l. IsShown l (own ++ []) in
    let Q : List Token → Type 0 = λ l. IsShown bytes l in
    subst P (sym (append-nil bytes)) (subst Q (sym (append-nil own)) s)

-- ---- commands

set-again : (cs : List ℕ) (ts : List Token) (name : List ℕ) (o : Option BinaryOp) (e : Expr) → all_scalars cs ≡ true → IsSet cs ts name o e → IsKept (chars (content_text (command.Set name o e))) (command.Set name o e)
unfolding first_word_of
set-again cs ts name o e scalar x =
    let f = assigned-facts cs name o x.piece scalar x.assigned in
    let a = blank-again _ e (again e x.piece ts f.1 x.expression) in
    let h = has-sign o x.assigned.behind x.piece x.assigned.assigns in
    kept-as _ a.tokens (command.Set name o e) a.kept (
    begun-blank 115 (101 ∷ 116 ∷ []) (name ++ (assign_text o ++ canonical e)) a.tokens (command.Set name o e) refl refl
    (record { piece = 32 ∷ chars (canonical e); assigned = assigned-again name (assign_text o) (canonical e) o f.0 (setting o h.0 h.1); expression = a.expression })
    )

declare-again : (cs : List ℕ) (ts : List Token) (name : List ℕ) (v : Value) (k : Option Kind) → all_scalars cs ≡ true → IsDeclare cs ts name v k → IsKept (chars (content_text (command.Declare name v k))) (command.Declare name v k)
unfolding first_word_of
declare-again cs ts name v k scalar x =
    let f = assigned-facts cs name None x.piece scalar x.assigned in
    let d = x.declared in
    let all = tokens_of-read x.piece ts f.1 x.lexed in
    let P : List Token → Type 0 = λ l. AllTokens l in
    let s = value-shown d.own v (AllTokens-append d.own (said k) (subst P d.split all)).0 d.is in
    let bytes = canonical (literal v) ++ as_text k in
    let shown = declared-shown (canonical (literal v)) s.own k s.shown in
    kept-as _ (s.own ++ said k) (command.Declare name v k) shown.kept (
    begun-blank 100 (codes "eclare") (name ++ (codes " = " ++ bytes)) (s.own ++ said k) (command.Declare name v k) refl refl
    (
    record {
      piece = 32 ∷ chars bytes;
      assigned = assigned-again name (codes " = ") bytes None f.0 equal-setting;
      lexed = tokens_of-blank 32 (chars bytes) refl ∙ shown-alone bytes (s.own ++ said k) shown;
      declared = record { own = s.own; is = s.is; split = refl };
    }
    )
    )

jump-again : (cs name : List ℕ) → all_scalars cs ≡ true → tokens_of cs ≡ Some (token.Word name ∷ []) → IsKept (chars (content_text (command.Jump name))) (command.Jump name)
unfolding first_word_of
jump-again cs name scalar lexed =
    let all = tokens_of-read cs (token.Word name ∷ []) scalar lexed in
    let again = tokens_of-blank 32 (chars name) refl ∙ shown-alone name (token.Word name ∷ []) (word-shown name all.0) in
    kept-as _ [] (command.Jump name) none-kept (begun-blank 106 (codes "ump") name [] (command.Jump name) refl refl (again, refl))

jump_to-again : (cs : List ℕ) (ts : List Token) (e : Expr) → all_scalars cs ≡ true → IsJumpTo cs ts e → IsKept (chars (content_text (command.JumpTo e))) (command.JumpTo e)
unfolding first_word_of
jump_to-again cs ts e scalar x =
    let P : List ℕ → Type 0 = λ l. all_scalars l ≡ true in
    let inner = scalars-front x.piece (125 ∷ []) (scalars-behind (123 ∷ []) (x.piece ++ 125 ∷ []) (subst P x.braces (scalars-past is_blank cs scalar))) in
    let a = again e x.piece ts inner x.expression in
    let text = 123 ∷ (canonical e ++ 125 ∷ []) in
    let braces : chars text ≡ 123 ∷ (chars (canonical e) ++ 125 ∷ []) =
    chars-behind (123 ∷ []) (canonical e ++ 125 ∷ []) refl ∙ ap (λ l. 123 ∷ l) (chars-append (canonical e) (125 ∷ []) a.utf8 ∙ ap (λ l. chars (canonical e) ++ l) (chars-ascii (125 ∷ []) refl)) in
    let Q : List ℕ → Type 0 = λ l. IsJumpTo (32 ∷ l) a.tokens e in
    kept-as _ a.tokens (command.JumpTo e) a.kept (
    begun-blank 106 (codes "ump") text a.tokens (command.JumpTo e) refl refl
    (subst Q (sym braces) (record { piece = chars (canonical e); braces = refl; expression = a.expression }))
    )

if-again : (cs : List ℕ) (ts : List Token) (e : Expr) → all_scalars cs ≡ true → IsExpression cs ts e → IsKept (chars (content_text (command.If e))) (command.If e)
unfolding first_word_of
if-again cs ts e scalar x =
    let a = blank-again _ e (again e cs ts scalar x) in
    kept-as _ a.tokens (command.If e) a.kept (begun-blank 105 (codes "f") (canonical e) a.tokens (command.If e) refl refl a.expression)

elseif-again : (cs : List ℕ) (ts : List Token) (e : Expr) → all_scalars cs ≡ true → IsExpression cs ts e → IsKept (chars (content_text (command.ElseIf e))) (command.ElseIf e)
unfolding first_word_of
elseif-again cs ts e scalar x =
    let a = blank-again _ e (again e cs ts scalar x) in
    kept-as _ a.tokens (command.ElseIf e) a.kept (begun-blank 101 (codes "lseif") (canonical e) a.tokens (command.ElseIf e) refl refl a.expression)

call-again : (cs : List ℕ) (ts : List Token) (e : Expr) → all_scalars cs ≡ true → is_call e ≡ true → IsExpression cs ts e → IsKept (chars (content_text (command.Call e))) (command.Call e)
unfolding first_word_of
call-again cs ts e scalar is x =
    let a = blank-again _ e (again e cs ts scalar x) in
    kept-as _ a.tokens (command.Call e) a.kept (begun-blank 99 (codes "all") (canonical e) a.tokens (command.Call e) refl refl (is, a.expression))

-- one word alone
no-chars : chars [] ≡ []
unfolding chars
no-chars = refl

alone-again : (x : ℕ) (w : List ℕ) (c : Command) → are_ascii (x ∷ w) ≡ true → list_all is_letter (x ∷ w) ≡ true → IsMeant (first_word_of (x ∷ w)) [] [] c → IsKept (chars (x ∷ w)) c
alone-again x w c ascii letters meant =
    let P : List ℕ → Type 0 = λ l. IsMeant (first_word_of (x ∷ w)) l [] c in
    let Q : List ℕ → Type 0 = λ l. IsCommand (chars l) [] c in
    kept-as _ [] c none-kept (subst Q (append-nil (x ∷ w)) (begun x w [] [] c ascii letters (ap (next_is continues_name) no-chars) (subst P (sym no-chars) meant)))

else-again : IsKept (chars (codes "else")) command.Else
unfolding first_word_of
else-again = alone-again 101 (codes "lse") command.Else refl refl (refl, refl)

endif-again : IsKept (chars (codes "endif")) command.EndIf
unfolding first_word_of
endif-again = alone-again 101 (codes "ndif") command.EndIf refl refl (refl, refl)

stop-again : IsKept (chars (codes "stop")) command.Stop
unfolding first_word_of
stop-again = alone-again 115 (codes "top") command.Stop refl refl (refl, refl)

meant-again : (w : FirstWord) (cs : List ℕ) (ts : List Token) (c : Command) → all_scalars cs ≡ true → c ≢ command.Game → IsMeant w cs ts c → IsKept (chars (content_text c)) c
meant-again word.If cs ts (command.If e) scalar own h = if-again cs ts e scalar h
meant-again word.ElseIf cs ts (command.ElseIf e) scalar own h = elseif-again cs ts e scalar h
meant-again word.Else cs ts command.Else scalar own h = else-again
meant-again word.EndIf cs ts command.EndIf scalar own h = endif-again
meant-again word.Set cs ts (command.Set name o e) scalar own h = set-again cs ts name o e scalar h
meant-again word.Declare cs ts (command.Declare name v k) scalar own h = declare-again cs ts name v k scalar h
meant-again word.Jump cs ts (command.Jump name) scalar own h = jump-again cs name scalar h.0
meant-again word.Jump cs ts (command.JumpTo e) scalar own h = jump_to-again cs ts e scalar h
meant-again word.Stop cs ts command.Stop scalar own h = stop-again
meant-again word.Stop cs ts command.Game scalar own h = absurd (own refl)
meant-again word.Call cs ts (command.Call e) scalar own h = call-again cs ts e scalar h.0 h.1
meant-again word.Other cs ts command.Game scalar own h = absurd (own refl)
meant-again _ cs ts _ scalar own h = absurd h

pub command-again : (cs : List ℕ) (ts : List Token) (c : Command) → all_scalars cs ≡ true → c ≢ command.Game → IsCommand cs ts c → IsKept (chars (content_text c)) c
command-again [] ts c scalar own h = absurd h
command-again (x ∷ xs) ts c scalar own h = meant-again (first_word_of (text_of (front continues_name (x ∷ xs)))) (past continues_name (x ∷ xs)) ts c (scalars-past continues_name (x ∷ xs) scalar) own h

pub again_law : {E : Type 0} (c : Command) (r : Result (List ℕ) E) → IfOk r (λ t. t ≡ content_text c) →
    IfOk r (λ t. (content : List ℕ) (ts : List Token) → IsUtf8 content → c ≢ command.Game → IsCommand (chars content) ts c → IsKept (chars t) c)
again_law c (Ok t) h = λ content ts utf8 own is. subst (λ l. IsKept (chars l) c) (sym h) (command-again (chars content) ts c (scalars-chars content utf8) own is)
again_law c (Err e) h = tt
