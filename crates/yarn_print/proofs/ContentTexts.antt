-- The contents of commands that are printed: no scanner stops within them.
use Rattle.std.proofs.Common.{◌≡◌, ◌≢◌, ℕ, zero, suc, ◌<◌, ◌^◌, List, [], ◌∷◌, ◌++◌, Bool, true, false, ◌||◌, pos, negsuc, neg_ℤ, unwrap_or, if◌then◌else◌, Option, Some, None, ◌⊎◌, inl, inr, codes, refl, sym, subst, arith, append-nil}
use Rattle.std.specs.Fmt.{decimal}
use Rattle.std.specs.Str.{all_scalars}
use Rattle.std.proofs.lemmas.Bool.{and_parts, and_from}
use Rattle.yarn_expr.specs.declared.token.Token.{Token}
use Rattle.yarn_expr.specs.declared.token.Token.TheVariants as token
use Rattle.yarn_expr.specs.declared.tree.BinaryOp.{BinaryOp}
use Rattle.yarn_expr.specs.declared.tree.BinaryOp.TheVariants as op
use Rattle.yarn_expr.specs.declared.tree.Expr.{Expr}
use Rattle.yarn_expr.specs.Plain.{number_of}
use Rattle.yarn_expr.specs.Print.{canonical, truth_text, string_text, text_step}
use Rattle.yarn_expr.specs.Tokens.{is_blank, past, next_token, tokens_of}
use Rattle.yarn_expr.specs.Word.{is_spelled}
use Rattle.yarn_expr.proofs.Layers.{at_number, at_string, at_truth}
use Rattle.yarn_expr.proofs.Printed.{number_of-small}
use Rattle.yarn_expr.proofs.TextTokens.{IsVariable, IsToken, next-read, scalars-past, past-starts}
use Rattle.yarn_value.specs.declared.value.Value.{Value}
use Rattle.yarn_value.specs.declared.value.Value.TheVariants as value
use Rattle.yarn_value.specs.declared.value.Kind.{Kind}
use Rattle.yarn_value.specs.declared.value.Kind.TheVariants as kind
use Rattle.yarn_commands.specs.FirstWord.{first_word_of}
use Rattle.yarn_commands.specs.declared.command.Command.{Command}
use Rattle.yarn_commands.specs.declared.command.Command.TheVariants as command
use Rattle.yarn_commands.specs.Command.{StandsNext, IsExpression, HasSign, HasTo, IsAssigned, IsSet, truth_of, literal_of, negative_of, IsValue, kind_text, said, IsDeclare, IsJumpTo, IsMeant}
use Rattle.yarn_commands.specs.Print.{assign_text, literal, as_text, content_text}
use Rattle.yarn_items.specs.Content as content
use Rattle.yarn_print.proofs.Quiet.{OnlyBreaks, IsFree, free-parts, Fits, fits-append, Passes, passes-append, Quiet, quiet-append, quiet-words}
use Rattle.yarn_print.proofs.FreeTokens.{IsOwn, AreOwn, own-append, next-free, free-past, tokens_of-own}
use Rattle.yarn_print.proofs.Tight.{begins_solid, ends_solid, ends_solid-behind, Solid}
use Rattle.yarn_print.proofs.Facts.{Well, well-decimal, well-string, well-truth, well-variable, well-word, well-expression}
use Rattle.yarn_print.proofs.Cuts.{fits-words}

-- what ends a content
pub record Ending (test : ℕ → Bool) (bytes : List ℕ) : Type 0 where
  pub fits : Fits test bytes
  pub passes : Passes bytes
  pub ends : ends_solid bytes ≡ true

pub record Told (test : ℕ → Bool) (bytes : List ℕ) : Type 0 where
  pub fits : Fits test bytes
  pub passes : Passes bytes
  pub solid : Solid bytes

well-ends : (test : ℕ → Bool) (bytes : List ℕ) → Well test bytes → Ending test bytes
well-ends test bytes w = record { fits = w.quiet.fits; passes = w.quiet.passes; ends = w.solid.ends }

quiet-then : (test : ℕ → Bool) (a b : List ℕ) → Quiet test a → Ending test b → Ending test (a ++ b)
quiet-then test a b q e = record { fits = fits-append test a b q.fits e.fits; passes = passes-append a b q.passes e.passes; ends = ends_solid-behind a b e.ends }

told-from : (test : ℕ → Bool) (bytes : List ℕ) → Ending test bytes → begins_solid bytes ≡ true → Told test bytes
told-from test bytes e begins = record { fits = e.fits; passes = e.passes; solid = record { begins = begins; ends = e.ends } }

-- ---- what some text has

-- characters none of which passes the test
pub record Clean (test : ℕ → Bool) (cs : List ℕ) : Type 0 where
  pub scalar : all_scalars cs ≡ true
  pub free : IsFree test cs

pub clean-past : (test : ℕ → Bool) (p : ℕ → Bool) (cs : List ℕ) → Clean test cs → Clean test (past p cs)
clean-past test p cs c = record { scalar = scalars-past p cs c.scalar; free = free-past test p cs c.free }

scalars-parts : (xs ys : List ℕ) → all_scalars (xs ++ ys) ≡ true → (all_scalars xs ≡ true) × (all_scalars ys ≡ true)
scalars-parts [] ys h = (refl, h)
scalars-parts (x ∷ xs) ys h =
    let both = and_parts _ (all_scalars (xs ++ ys)) h in
    let more = scalars-parts xs ys both.1 in
    (and_from _ _ both.0 more.0, more.1)

clean-parts : (test : ℕ → Bool) (xs ys : List ℕ) → Clean test (xs ++ ys) → Clean test xs × Clean test ys
clean-parts test xs ys c =
    let one = scalars-parts xs ys c.scalar in
    let two = free-parts test xs ys c.free in
    (record { scalar = one.0; free = two.0 }, record { scalar = one.1; free = two.1 })

next-facts : (test : ℕ → Bool) → OnlyBreaks test → (cs : List ℕ) (t : Token) (rest : List ℕ) → Clean test cs → StandsNext cs t rest → IsToken t × Clean test rest
unfolding next_token
next-facts test only cs t rest clean stands = at (past is_blank cs) refl stands
  where
    at : (start : List ℕ) → past is_blank cs ≡ start → next_token start ≡ Some (record { token = t; rest = rest }) → IsToken t × Clean test rest
    at [] is e = cc
    at (c ∷ ds) is e =
        let own : Clean test (c ∷ ds) = subst (λ l. Clean test l) is (clean-past test is_blank cs clean) in
        let read = next-read c ds (record { token = t; rest = rest }) (past-starts is_blank cs ds c is) own.scalar e in
        let free = next-free test only c ds (record { token = t; rest = rest }) own.free e in
        (read.0, record { scalar = read.1; free = free.1 })

assigned-facts : (test : ℕ → Bool) → OnlyBreaks test → (cs name : List ℕ) (o : Option BinaryOp) (rest : List ℕ) → Clean test cs → IsAssigned cs name o rest → IsVariable name × Clean test rest
assigned-facts test only cs name o rest clean a =
    let v = next-facts test only cs (token.Variable name) a.behind clean a.variable in
    (v.0, behind a.behind v.1 a.assigns)
  where
    behind : (start : List ℕ) → Clean test start → HasTo o start rest ⊎ HasSign o start rest → Clean test rest
    behind start own (inl to) = (next-facts test only start (token.Word (codes "to")) rest own to.1).1
    behind start own (inr s) = (clean-parts test s.sign rest (subst (λ l. Clean test l) s.stands (clean-past test is_blank start own))).1

clean-own : (test : ℕ → Bool) → OnlyBreaks test → (cs : List ℕ) (ts : List Token) → Clean test cs → tokens_of cs ≡ Some ts → AreOwn test ts
clean-own test only cs ts c lexed = tokens_of-own test only cs ts c.scalar c.free lexed

clean-expression : (test : ℕ → Bool) → OnlyBreaks test → (cs : List ℕ) (ts : List Token) (e : Expr) → Clean test cs → IsExpression cs ts e → Well test (canonical e)
clean-expression test only cs ts e c x = well-expression test only cs ts e c.scalar c.free x

-- ---- values

as-literal : (test : ℕ → Bool) (v : Value) (bytes : List ℕ) → canonical (literal v) ≡ bytes → Well test bytes → Well test (canonical (literal v))
as-literal test v bytes same w = let P : List ℕ → Type 0 = λ l. Well test l in subst P (sym same) w

numbered : (test : ℕ → Bool) → OnlyBreaks test → (n : ℕ) → n < 2 ^ 63 → Well test (canonical (literal (value.Number (pos n))))
numbered test only n lt = as-literal test (value.Number (pos n)) (decimal n) (at_number (List ℕ) text_step (pos n)) (well-decimal test only n (omega arith))

negative : (test : ℕ → Bool) → OnlyBreaks test → (n : ℕ) → n < 2 ^ 63 → Well test (canonical (literal (value.Number (neg_ℤ (pos n)))))
negative test only zero lt = numbered test only 0 lt
negative test only (suc n) lt =
    let w = well-decimal test only (suc n) (omega arith) in
    as-literal test (value.Number (negsuc n)) (codes "-" ++ decimal (suc n)) (at_number (List ℕ) text_step (negsuc n)) (record {
      quiet = quiet-append test (codes "-") (decimal (suc n)) (quiet-words test (codes "-") only refl refl) w.quiet;
      solid = record { begins = refl; ends = ends_solid-behind (codes "-") (decimal (suc n)) w.solid.ends };
    })

truth : (test : ℕ → Bool) → OnlyBreaks test → (b : Bool) → Well test (canonical (literal (value.Truth b)))
truth test only b = as-literal test (value.Truth b) (truth_text b) (at_truth (List ℕ) text_step b) (well-truth test only b)

truth_of-well : (test : ℕ → Bool) → OnlyBreaks test → (w : List ℕ) (v : Value) → truth_of w ≡ Some v → Well test (canonical (literal v))
truth_of-well test only w v e = by_true (is_spelled w (codes "true")) refl
  where
    found : (b : Bool) → value.Truth b ≡ v → Well test (canonical (literal v))
    found b same = subst (λ (x : Value). Well test (canonical (literal x))) same (truth test only b)

    by_false : is_spelled w (codes "true") ≡ false → (b : Bool) → is_spelled w (codes "false") ≡ b → Well test (canonical (literal v))
    by_false t true is = let h = rw (t, is) at e in found false cc
    by_false t false is = let h = rw (t, is) at e in cc

    by_true : (b : Bool) → is_spelled w (codes "true") ≡ b → Well test (canonical (literal v))
    by_true true is = let h = rw is at e in found true cc
    by_true false is = by_false is (is_spelled w (codes "false")) refl

same-value : (test : ℕ → Bool) (v w : Value) → v ≡ w → Well test (canonical (literal v)) → Well test (canonical (literal w))
same-value test v w same well = subst (λ (x : Value). Well test (canonical (literal x))) same well

literal-well : (test : ℕ → Bool) → OnlyBreaks test → (t : Token) (v : Value) → IsOwn test t → literal_of t ≡ Some v → Well test (canonical (literal v))
literal-well test only (token.Number digits) v own e = same-value test (value.Number (pos (unwrap_or (number_of digits) 0))) v (cc) (numbered test only (unwrap_or (number_of digits) 0) (number_of-small digits))
literal-well test only (token.Fraction digits) v own e = same-value test (value.Number (pos 0)) v (cc) (numbered test only 0 (omega arith))
literal-well test only (token.Str text) v own e =
    same-value test (value.Str text) v (cc) (as-literal test (value.Str text) (string_text text) (at_string (List ℕ) text_step text) (well-string test only text own.is own.free))
literal-well test only (token.Word w) v own e = truth_of-well test only w v e
literal-well test only (token.Variable name) v own e = cc
literal-well test only (token.Sign s) v own e = cc

negative-well : (test : ℕ → Bool) → OnlyBreaks test → (t : Token) (v : Value) → negative_of t ≡ Some v → Well test (canonical (literal v))
negative-well test only (token.Number digits) v e = same-value test (value.Number (neg_ℤ (pos (unwrap_or (number_of digits) 0)))) v (cc) (negative test only (unwrap_or (number_of digits) 0) (number_of-small digits))
negative-well test only (token.Fraction digits) v e = same-value test (value.Number (pos 0)) v (cc) (numbered test only 0 (omega arith))
negative-well test only (token.Str text) v e = cc
negative-well test only (token.Word w) v e = cc
negative-well test only (token.Variable name) v e = cc
negative-well test only (token.Sign s) v e = cc

value-well : (test : ℕ → Bool) → OnlyBreaks test → (own : List Token) (v : Value) → AreOwn test own → IsValue own v → Well test (canonical (literal v))
value-well test only (t ∷ []) v all is = literal-well test only t v all.0 is
value-well test only (m ∷ t ∷ []) v all is = negative-well test only t v is.1
value-well test only [] v all is = absurd is
value-well test only (t ∷ u ∷ x ∷ ts) v all is = absurd is

-- ---- commands

quiet-assign : (test : ℕ → Bool) → OnlyBreaks test → (o : Option BinaryOp) → Quiet test (assign_text o)
quiet-assign test only None = quiet-words test (codes " to ") only refl refl
quiet-assign test only (Some op.Add) = quiet-words test (codes " += ") only refl refl
quiet-assign test only (Some op.Sub) = quiet-words test (codes " -= ") only refl refl
quiet-assign test only (Some op.Mul) = quiet-words test (codes " *= ") only refl refl
quiet-assign test only (Some op.Div) = quiet-words test (codes " /= ") only refl refl
quiet-assign test only (Some op.Rem) = quiet-words test (codes " %= ") only refl refl
quiet-assign test only (Some _) = quiet-words test (codes " to ") only refl refl

-- the last part of a content
words-end : (test : ℕ → Bool) → (w : List ℕ) → Quiet test w → ends_solid w ≡ true → Ending test w
words-end test w q ends = record { fits = q.fits; passes = q.passes; ends = ends }

kind-end : (test : ℕ → Bool) → OnlyBreaks test → (k : Kind) → Ending test (codes " as " ++ kind_text k)
kind-end test only kind.Number = words-end test (codes " as number") (quiet-words test (codes " as number") only refl refl) refl
kind-end test only kind.Str = words-end test (codes " as string") (quiet-words test (codes " as string") only refl refl) refl
kind-end test only kind.Truth = words-end test (codes " as bool") (quiet-words test (codes " as bool") only refl refl) refl

value-end : (test : ℕ → Bool) → OnlyBreaks test → (bytes : List ℕ) (k : Option Kind) → Well test bytes → Ending test (bytes ++ as_text k)
value-end test only bytes (Some k) w = quiet-then test bytes (codes " as " ++ kind_text k) w.quiet (kind-end test only k)
value-end test only bytes None w = subst (λ l. Ending test l) (sym (append-nil bytes)) (well-ends test bytes w)

-- a word of a command, and what follows it
word-then : (test : ℕ → Bool) → (b : ℕ) (w rest : List ℕ) → Quiet test (b ∷ w) → begins_solid (b ∷ w) ≡ true → Ending test rest → Told test ((b ∷ w) ++ rest)
word-then test b w rest q begins e = told-from test ((b ∷ w) ++ rest) (quiet-then test (b ∷ w) rest q e) begins

one-word : (test : ℕ → Bool) → (b : ℕ) (w : List ℕ) → Quiet test (b ∷ w) → begins_solid (b ∷ w) ≡ true → ends_solid (b ∷ w) ≡ true → Told test (b ∷ w)
one-word test b w q begins ends = told-from test (b ∷ w) (words-end test (b ∷ w) q ends) begins

set-told : (test : ℕ → Bool) → OnlyBreaks test → (cs : List ℕ) (ts : List Token) (name : List ℕ) (o : Option BinaryOp) (e : Expr) → Clean test cs → IsSet cs ts name o e → Told test (content_text (command.Set name o e))
set-told test only cs ts name o e clean x =
    let f = assigned-facts test only cs name o x.piece clean x.assigned in
    let w = clean-expression test only x.piece ts e f.1 x.expression in
    let v = well-variable test only name f.0 in
    word-then test 115 (codes "et ") (name ++ (assign_text o ++ canonical e)) (quiet-words test (codes "set ") only refl refl) refl
    (quiet-then test name (assign_text o ++ canonical e) v.quiet (quiet-then test (assign_text o) (canonical e) (quiet-assign test only o) (well-ends test (canonical e) w)))

declare-told : (test : ℕ → Bool) → OnlyBreaks test → (cs : List ℕ) (ts : List Token) (name : List ℕ) (v : Value) (k : Option Kind) → Clean test cs → IsDeclare cs ts name v k → Told test (content_text (command.Declare name v k))
declare-told test only cs ts name v k clean x =
    let f = assigned-facts test only cs name None x.piece clean x.assigned in
    let d = x.declared in
    let own = (own-append test d.own (said k) (subst (λ (l : List Token). AreOwn test l) d.split (clean-own test only x.piece ts f.1 x.lexed))).0 in
    let w = value-well test only d.own v own d.is in
    let n = well-variable test only name f.0 in
    word-then test 100 (codes "eclare ") (name ++ (codes " = " ++ (canonical (literal v) ++ as_text k))) (quiet-words test (codes "declare ") only refl refl) refl
    (quiet-then test name (codes " = " ++ (canonical (literal v) ++ as_text k)) n.quiet
    (quiet-then test (codes " = ") (canonical (literal v) ++ as_text k) (quiet-words test (codes " = ") only refl refl) (value-end test only (canonical (literal v)) k w)))

jump-told : (test : ℕ → Bool) → OnlyBreaks test → (cs name : List ℕ) → Clean test cs → tokens_of cs ≡ Some (token.Word name ∷ []) → Told test (content_text (command.Jump name))
jump-told test only cs name clean lexed =
    let own = clean-own test only cs (token.Word name ∷ []) clean lexed in
    word-then test 106 (codes "ump ") name (quiet-words test (codes "jump ") only refl refl) refl (well-ends test name (well-word test only name own.0.is))

jump_to-told : (test : ℕ → Bool) → OnlyBreaks test → (cs : List ℕ) (ts : List Token) (e : Expr) → Clean test cs → IsJumpTo cs ts e → Told test (content_text (command.JumpTo e))
jump_to-told test only cs ts e clean x =
    let braced : Clean test ((123 ∷ []) ++ (x.piece ++ 125 ∷ [])) = subst (λ l. Clean test l) x.braces (clean-past test is_blank cs clean) in
    let inner = (clean-parts test x.piece (125 ∷ []) (clean-parts test (123 ∷ []) (x.piece ++ 125 ∷ []) braced).1).0 in
    let w = clean-expression test only x.piece ts e inner x.expression in
    let close : Ending test (125 ∷ []) = record { fits = fits-words test (125 ∷ []) only refl refl; passes = record { in_content = λ more inside rest end. content.other refl end }; ends = refl } in
    word-then test 106 (codes "ump {") (canonical e ++ 125 ∷ []) (quiet-words test (codes "jump {") only refl refl) refl (quiet-then test (canonical e) (125 ∷ []) w.quiet close)

-- ---- what a first word makes of what follows it

-- what holds of both sides of a test holds of what it gives
pub either : {A : Type 0} {X : Type 1} (f : A → X) (P : X → Type 0) (b : Bool) (x y : A) → P (f x) → P (f y) → P (f (if b then x else y))
either f P true x y one two = one
either f P false x y one two = two

abbrev pub IsTold : (ℕ → Bool) → (List ℕ → List Token → Command → Type 0) → Type 0
IsTold test Meant = (cs : List ℕ) (ts : List Token) (c : Command) → Clean test cs → c ≢ command.Game → Meant cs ts c → Told test (content_text c)

if-told : (test : ℕ → Bool) → OnlyBreaks test → IsTold test (IsMeant (first_word_of (codes "if")))
unfolding first_word_of
if-told test only cs ts (command.If e) clean own h = word-then test 105 (codes "f ") (canonical e) (quiet-words test (codes "if ") only refl refl) refl (well-ends test (canonical e) (clean-expression test only cs ts e clean h))
if-told test only cs ts _ clean own h = absurd h

elseif-told : (test : ℕ → Bool) → OnlyBreaks test → IsTold test (IsMeant (first_word_of (codes "elseif")))
unfolding first_word_of
elseif-told test only cs ts (command.ElseIf e) clean own h = word-then test 101 (codes "lseif ") (canonical e) (quiet-words test (codes "elseif ") only refl refl) refl (well-ends test (canonical e) (clean-expression test only cs ts e clean h))
elseif-told test only cs ts _ clean own h = absurd h

else-told : (test : ℕ → Bool) → OnlyBreaks test → IsTold test (IsMeant (first_word_of (codes "else")))
unfolding first_word_of
else-told test only cs ts command.Else clean own h = one-word test 101 (codes "lse") (quiet-words test (codes "else") only refl refl) refl refl
else-told test only cs ts _ clean own h = absurd h

endif-told : (test : ℕ → Bool) → OnlyBreaks test → IsTold test (IsMeant (first_word_of (codes "endif")))
unfolding first_word_of
endif-told test only cs ts command.EndIf clean own h = one-word test 101 (codes "ndif") (quiet-words test (codes "endif") only refl refl) refl refl
endif-told test only cs ts _ clean own h = absurd h

set_word-told : (test : ℕ → Bool) → OnlyBreaks test → IsTold test (IsMeant (first_word_of (codes "set")))
unfolding first_word_of
set_word-told test only cs ts (command.Set name o e) clean own h = set-told test only cs ts name o e clean h
set_word-told test only cs ts _ clean own h = absurd h

declare_word-told : (test : ℕ → Bool) → OnlyBreaks test → IsTold test (IsMeant (first_word_of (codes "declare")))
unfolding first_word_of
declare_word-told test only cs ts (command.Declare name v k) clean own h = declare-told test only cs ts name v k clean h
declare_word-told test only cs ts _ clean own h = absurd h

jump_word-told : (test : ℕ → Bool) → OnlyBreaks test → IsTold test (IsMeant (first_word_of (codes "jump")))
unfolding first_word_of
jump_word-told test only cs ts (command.Jump name) clean own h = jump-told test only cs name clean h.0
jump_word-told test only cs ts (command.JumpTo e) clean own h = jump_to-told test only cs ts e clean h
jump_word-told test only cs ts _ clean own h = absurd h

stop-told : (test : ℕ → Bool) → OnlyBreaks test → IsTold test (IsMeant (first_word_of (codes "stop")))
unfolding first_word_of
stop-told test only cs ts command.Stop clean own h = one-word test 115 (codes "top") (quiet-words test (codes "stop") only refl refl) refl refl
stop-told test only cs ts command.Game clean own h = absurd (own refl)
stop-told test only cs ts _ clean own h = absurd h

call-told : (test : ℕ → Bool) → OnlyBreaks test → IsTold test (IsMeant (first_word_of (codes "call")))
unfolding first_word_of
call-told test only cs ts (command.Call e) clean own h = word-then test 99 (codes "all ") (canonical e) (quiet-words test (codes "call ") only refl refl) refl (well-ends test (canonical e) (clean-expression test only cs ts e clean h.1))
call-told test only cs ts _ clean own h = absurd h

left_out-told : (test : ℕ → Bool) → OnlyBreaks test → IsTold test (IsMeant (first_word_of (codes "enum")))
unfolding first_word_of
left_out-told test only cs ts c clean own h = absurd h

other-told : (test : ℕ → Bool) → OnlyBreaks test → IsTold test (IsMeant (first_word_of []))
unfolding first_word_of
other-told test only cs ts command.Game clean own h = absurd (own refl)
other-told test only cs ts _ clean own h = absurd h

pub meant-told : (test : ℕ → Bool) → OnlyBreaks test → (w : List ℕ) → IsTold test (IsMeant (first_word_of w))
unfolding first_word_of
meant-told test only w =
    either IsMeant (IsTold test) (is_spelled w (codes "if")) _ _ (if-told test only)
    (either IsMeant (IsTold test) (is_spelled w (codes "elseif")) _ _ (elseif-told test only)
    (either IsMeant (IsTold test) (is_spelled w (codes "else")) _ _ (else-told test only)
    (either IsMeant (IsTold test) (is_spelled w (codes "endif")) _ _ (endif-told test only)
    (either IsMeant (IsTold test) (is_spelled w (codes "set")) _ _ (set_word-told test only)
    (either IsMeant (IsTold test) (is_spelled w (codes "declare")) _ _ (declare_word-told test only)
    (either IsMeant (IsTold test) (is_spelled w (codes "jump")) _ _ (jump_word-told test only)
    (either IsMeant (IsTold test) (is_spelled w (codes "stop")) _ _ (stop-told test only)
    (either IsMeant (IsTold test) (is_spelled w (codes "call")) _ _ (call-told test only)
    (either IsMeant (IsTold test) ((is_spelled w (codes "enum") || is_spelled w (codes "case")) || is_spelled w (codes "endenum")) _ _ (left_out-told test only) (other-told test only))))))))))
