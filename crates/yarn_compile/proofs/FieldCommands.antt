-- What a command of a short text has: fine expressions, names behind a `$`, fitting values and a short title.
use Rattle.std.proofs.Common.{◌≡◌, ℕ, ◌≤◌, List, [], ◌∷◌, ◌++◌, length, pos, Option, Some, None, refl, sym, ap, ◌∙◌, subst, arith, Bool, true, false, ◌||◌, if◌then◌else◌, inl, inr}
use Rattle.std.specs.Prelude.{codes, unwrap_or, neg_ℤ, ◌⊎◌}
use Rattle.std.proofs.lemmas.Option.{same_Some}
use Rattle.yarn_base.specs.Name.{continues_name}
use Rattle.yarn_value.specs.declared.value.Value.{Value}
use Rattle.yarn_value.specs.declared.value.Value.TheVariants as value
use Rattle.yarn_value.specs.declared.value.Kind.{Kind}
use Rattle.yarn_expr.specs.declared.token.Token.{Token}
use Rattle.yarn_expr.specs.declared.token.Token.TheVariants as token
use Rattle.yarn_expr.specs.declared.tree.BinaryOp.{BinaryOp}
use Rattle.yarn_expr.specs.declared.tree.Expr.{Expr}
use Rattle.yarn_expr.specs.Plain.{number_of}
use Rattle.yarn_expr.specs.Tokens.{is_blank, front, past, text_of, tokens_of}
use Rattle.yarn_expr.specs.Word.{is_spelled}
use Rattle.yarn_commands.specs.Command.{HasTo, HasSign, IsAssigned, truth_of, literal_of, negative_of, IsValue, said, IsSet, IsDeclare, IsJumpTo, IsMeant, IsCommand}
use Rattle.yarn_commands.specs.FirstWord.{first_word_of}
use Rattle.yarn_commands.specs.declared.command.Command.{Command}
use Rattle.yarn_commands.specs.declared.command.Command.TheVariants as command
use Rattle.yarn_code.specs.Fields.{IsFitting}
use Rattle.yarn_compile.proofs.Parts.{Each, each_front}
use Rattle.yarn_compile.proofs.FieldCharacters.{AreChars, chars_parts, chars_past, IsVariableName, FineToken, tokens_fine, next_fine}
use Rattle.yarn_compile.proofs.FieldExpressions.{number_small, negative_small, FineExpr, expression_fine}

abbrev pub FineCommand : Command → Type 0
FineCommand (command.If e) = FineExpr e
FineCommand (command.ElseIf e) = FineExpr e
FineCommand command.Else = Unit {0}
FineCommand command.EndIf = Unit {0}
FineCommand (command.Set name op e) = IsVariableName name × FineExpr e
FineCommand (command.Declare name v k) = IsVariableName name × IsFitting v
FineCommand (command.Jump title) = length title ≤ 65536
FineCommand (command.JumpTo e) = FineExpr e
FineCommand command.Stop = Unit {0}
FineCommand (command.Call e) = FineExpr e
FineCommand command.Game = Unit {0}

-- ---- values

truth_fits : (w : List ℕ) (v : Value) → truth_of w ≡ Some v → IsFitting v
truth_fits w v e = by_true (is_spelled w (codes "true")) refl
  where
    by_false : is_spelled w (codes "true") ≡ false → (b : Bool) → is_spelled w (codes "false") ≡ b → IsFitting v
    by_false other true is = let f = rw (other, is) at e in subst IsFitting (same_Some _ v f) tt
    by_false other false is = let f = rw (other, is) at e in absurd cc

    by_true : (b : Bool) → is_spelled w (codes "true") ≡ b → IsFitting v
    by_true true is = let f = rw is at e in subst IsFitting (same_Some _ v f) tt
    by_true false is = by_false is (is_spelled w (codes "false")) refl

literal_fits : (t : Token) (v : Value) → FineToken t → literal_of t ≡ Some v → IsFitting v
literal_fits (token.Number digits) v h e = subst IsFitting (same_Some (value.Number (pos (unwrap_or (number_of digits) 0))) v e) (number_small digits)
literal_fits (token.Fraction digits) v h e = subst IsFitting (same_Some (value.Number (pos 0)) v e) refl
literal_fits (token.Str text) v h e = subst IsFitting (same_Some (value.Str text) v e) h
literal_fits (token.Word w) v h e = truth_fits w v e
literal_fits (token.Variable name) v h e = absurd cc
literal_fits (token.Sign s) v h e = absurd cc

negative_fits : (t : Token) (v : Value) → negative_of t ≡ Some v → IsFitting v
negative_fits (token.Number digits) v e =
    subst IsFitting (same_Some (value.Number (neg_ℤ (pos (unwrap_or (number_of digits) 0)))) v e) (negative_small (unwrap_or (number_of digits) 0) (number_small digits))
negative_fits (token.Fraction digits) v e = subst IsFitting (same_Some (value.Number (pos 0)) v e) refl
negative_fits (token.Str text) v e = absurd cc
negative_fits (token.Word w) v e = absurd cc
negative_fits (token.Variable name) v e = absurd cc
negative_fits (token.Sign s) v e = absurd cc

value_fits : (ts : List Token) (v : Value) → Each FineToken ts → IsValue ts v → IsFitting v
value_fits [] v h is = absurd is
value_fits (t ∷ []) v h is = literal_fits t v h.0 is
value_fits (m ∷ t ∷ []) v h is = negative_fits t v is.1
value_fits (m ∷ t ∷ u ∷ ts) v h is = absurd is

-- ---- what is assigned

assigned_fine : (cs name rest : List ℕ) (op : Option BinaryOp) → AreChars cs → IsAssigned cs name op rest → IsVariableName name × AreChars rest
assigned_fine cs name rest op h is =
    let first = next_fine cs (token.Variable name) is.behind h is.variable in
    (first.0, by_sign first.1 is.assigns)
  where
    by_sign : AreChars is.behind → HasTo op is.behind rest ⊎ HasSign op is.behind rest → AreChars rest
    by_sign own (inl to) = (next_fine is.behind (token.Word (codes "to")) rest own to.1).1
    by_sign own (inr sign) = (chars_parts sign.sign rest (subst AreChars sign.stands (chars_past is_blank is.behind own))).1

-- ---- commands

word_short : (name : List ℕ) → Each FineToken (token.Word name ∷ []) → length name ≤ 65536
word_short name h = h.0

-- the expression between braces
between : (piece : List ℕ) → AreChars (123 ∷ (piece ++ 125 ∷ [])) → AreChars piece
between piece h = (chars_parts piece (125 ∷ []) (chars_parts (123 ∷ []) (piece ++ 125 ∷ []) h).1).0

set_fine : (cs : List ℕ) (ts : List Token) (name : List ℕ) (o : Option BinaryOp) (e : Expr) → AreChars cs → IsSet cs ts name o e →
    FineCommand (command.Set name o e)
set_fine cs ts name o e own h =
    let assigned = assigned_fine cs name h.piece o own h.assigned in
    (assigned.0, expression_fine assigned.1 h.expression)

declare_fine : (cs : List ℕ) (ts : List Token) (name : List ℕ) (v : Value) (k : Option Kind) → AreChars cs → IsDeclare cs ts name v k →
    FineCommand (command.Declare name v k)
declare_fine cs ts name v k own h =
    let assigned = assigned_fine cs name h.piece None own h.assigned in
    let all = subst (Each FineToken) h.declared.split (tokens_fine h.piece ts assigned.1 h.lexed) in
    (assigned.0, value_fits h.declared.own v (each_front FineToken h.declared.own (said k) all) h.declared.is)

jump_to_fine : (cs : List ℕ) (ts : List Token) (e : Expr) → AreChars cs → IsJumpTo cs ts e → FineExpr e
jump_to_fine cs ts e own h = expression_fine (between h.piece (subst AreChars h.braces (chars_past is_blank cs own))) h.expression

-- ---- what a first word makes of what follows it

-- what holds of both sides of a test holds of what it gives
either : {A : Type 0} {X : Type 1} (f : A → X) (P : X → Type 0) (b : Bool) (x y : A) → P (f x) → P (f y) → P (f (if b then x else y))
either f P true x y one two = one
either f P false x y one two = two

abbrev MeansFine : (List ℕ → List Token → Command → Type 0) → Type 0
MeansFine Meant = (cs : List ℕ) (ts : List Token) (c : Command) → AreChars cs → Meant cs ts c → FineCommand c

if_fine : MeansFine (IsMeant (first_word_of (codes "if")))
unfolding first_word_of
if_fine cs ts (command.If e) own h = expression_fine own h
if_fine cs ts _ own h = absurd h

elseif_fine : MeansFine (IsMeant (first_word_of (codes "elseif")))
unfolding first_word_of
elseif_fine cs ts (command.ElseIf e) own h = expression_fine own h
elseif_fine cs ts _ own h = absurd h

else_fine : MeansFine (IsMeant (first_word_of (codes "else")))
unfolding first_word_of
else_fine cs ts command.Else own h = tt
else_fine cs ts _ own h = absurd h

endif_fine : MeansFine (IsMeant (first_word_of (codes "endif")))
unfolding first_word_of
endif_fine cs ts command.EndIf own h = tt
endif_fine cs ts _ own h = absurd h

set_word_fine : MeansFine (IsMeant (first_word_of (codes "set")))
unfolding first_word_of
set_word_fine cs ts (command.Set name o e) own h = set_fine cs ts name o e own h
set_word_fine cs ts _ own h = absurd h

declare_word_fine : MeansFine (IsMeant (first_word_of (codes "declare")))
unfolding first_word_of
declare_word_fine cs ts (command.Declare name v k) own h = declare_fine cs ts name v k own h
declare_word_fine cs ts _ own h = absurd h

jump_word_fine : MeansFine (IsMeant (first_word_of (codes "jump")))
unfolding first_word_of
jump_word_fine cs ts (command.Jump name) own h = word_short name (tokens_fine cs (token.Word name ∷ []) own h.0)
jump_word_fine cs ts (command.JumpTo e) own h = jump_to_fine cs ts e own h
jump_word_fine cs ts _ own h = absurd h

stop_fine : MeansFine (IsMeant (first_word_of (codes "stop")))
unfolding first_word_of
stop_fine cs ts command.Stop own h = tt
stop_fine cs ts command.Game own h = tt
stop_fine cs ts _ own h = absurd h

call_fine : MeansFine (IsMeant (first_word_of (codes "call")))
unfolding first_word_of
call_fine cs ts (command.Call e) own h = expression_fine own h.1
call_fine cs ts _ own h = absurd h

left_out_fine : MeansFine (IsMeant (first_word_of (codes "enum")))
unfolding first_word_of
left_out_fine cs ts c own h = absurd h

other_fine : MeansFine (IsMeant (first_word_of []))
unfolding first_word_of
other_fine cs ts command.Game own h = tt
other_fine cs ts _ own h = absurd h

meant_fine : (w : List ℕ) → MeansFine (IsMeant (first_word_of w))
unfolding first_word_of
meant_fine w =
    either IsMeant MeansFine (is_spelled w (codes "if")) _ _ if_fine
    (either IsMeant MeansFine (is_spelled w (codes "elseif")) _ _ elseif_fine
    (either IsMeant MeansFine (is_spelled w (codes "else")) _ _ else_fine
    (either IsMeant MeansFine (is_spelled w (codes "endif")) _ _ endif_fine
    (either IsMeant MeansFine (is_spelled w (codes "set")) _ _ set_word_fine
    (either IsMeant MeansFine (is_spelled w (codes "declare")) _ _ declare_word_fine
    (either IsMeant MeansFine (is_spelled w (codes "jump")) _ _ jump_word_fine
    (either IsMeant MeansFine (is_spelled w (codes "stop")) _ _ stop_fine
    (either IsMeant MeansFine (is_spelled w (codes "call")) _ _ call_fine
    (either IsMeant MeansFine ((is_spelled w (codes "enum") || is_spelled w (codes "case")) || is_spelled w (codes "endenum")) _ _ left_out_fine other_fine)))))))))

-- the command that short characters are
pub command_fine : (cs : List ℕ) (ts : List Token) (c : Command) → AreChars cs → IsCommand cs ts c → FineCommand c
command_fine [] ts c own h = absurd h
command_fine (x ∷ xs) ts c own h = meant_fine (text_of (front continues_name (x ∷ xs))) (past continues_name (x ∷ xs)) ts c (chars_past continues_name (x ∷ xs) own) h
