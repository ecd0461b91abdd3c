-- What a content means is what is read of it.
use Rattle.std.proofs.Common.{◌≡◌, ℕ, ◌<◌, List, [], ◌∷◌, ◌++◌, length, Bool, true, false, ◌==◌, Option, Some, None, ◌⊎◌, inl, inr, refl, sym, ap, ◌∙◌, arith}
use Rattle.std.specs.Prelude.{codes}
use Rattle.yarn_base.specs.Name.{continues_name}
use Rattle.yarn_expr.specs.declared.token.Token.{Token}
use Rattle.yarn_expr.specs.declared.token.Token.TheVariants as token
use Rattle.yarn_expr.specs.declared.token.Sign.{Sign}
use Rattle.yarn_expr.specs.declared.tree.BinaryOp.{BinaryOp}
use Rattle.yarn_expr.specs.declared.tree.BinaryOp.TheVariants as op
use Rattle.yarn_expr.specs.declared.tree.Expr.{Expr}
use Rattle.yarn_expr.specs.Reading.{◌>>=◌, read_all}
use Rattle.yarn_expr.specs.Tokens.{is_blank, front, past, text_of, Next, two_signs, one_sign, signed, sign_after, sign_token, next_token, with_token, tokens_at, tokens, tokens_of}
use Rattle.yarn_expr.proofs.NextTokens.{begins_sign, begins_sign-BeginsSign, BeginsSign}
use Rattle.yarn_expr.proofs.Only.{only}
use Rattle.yarn_value.specs.declared.value.Value.{Value}
use Rattle.yarn_value.specs.declared.value.Kind.{Kind}
use Rattle.yarn_value.specs.declared.value.Kind.TheVariants as kind
use Rattle.yarn_commands.specs.FirstWord.{first_word_of}
use Rattle.yarn_commands.specs.declared.word.FirstWord.{FirstWord}
use Rattle.yarn_commands.specs.declared.word.FirstWord.TheVariants as word
use Rattle.yarn_commands.specs.declared.command.Command.{Command}
use Rattle.yarn_commands.specs.declared.command.Command.TheVariants as command
use Rattle.yarn_commands.specs.declared.read.Found.{Found}
use Rattle.yarn_commands.specs.Command.{IsBlank, IsExpression, sign_text, HasSign, HasTo, IsSet, literal_of, negative_of, IsValue, said, IsDeclared, IsDeclare, IsJumpTo, is_call, IsMeant, IsCommand}
use Rattle.yarn_commands.specs.Reading.{whole, expression, is_empty, is_blank_only, alone, Assigned, sign_at, to_next, sign_or_to, assignment, set_value, set_at, set, kind_at, valued, value_at, declaration, declare_here, declare_value, declare_at, declare, named, jump_name, jump_at, jump, call_of, call, stop, behind, content}
use Rattle.yarn_commands.proofs.Braces.{eq_is, before_brace-append}
use Rattle.yarn_commands.proofs.Sound.{sign_at-sound}

-- what is found of a command
abbrev found : Command → List Token → Found
found c ts = record { command = c; tokens = ts }

pub expression-only : (cs : List ℕ) (ts : List Token) (e : Expr) → IsExpression cs ts e → expression cs ≡ Some (record { expr = e; tokens = ts })
unfolding expression
expression-only cs ts e x =
    ap (λ o. o >>= λ us. read_all us >>= λ a. Some (record { expr = a; tokens = us })) x.has.lexed
    ∙ ap (λ o. o >>= λ a. Some (record { expr = a; tokens = ts })) (only ts x.tree x.has.expression)
    ∙ ap (λ a. Some (record { expr = a; tokens = ts })) (sym x.is)

alone-only : (c : Command) (cs : List ℕ) → IsBlank cs → alone c cs ≡ Some (whole c)
alone-only c cs blank = rw blank refl

-- ---- set

-- a character that begins a sign begins no word
signed-no_word : (cs : List ℕ) (o : Option Sign) (n : Next) (w rest : List ℕ) → signed cs o ≡ Some n → n ≡ record { token = token.Word w; rest = rest } → ⊥
signed-no_word cs None n w rest e same = cc
signed-no_word cs (Some s) n w rest e same =
    let all : ◌≡◌ {A = Next} (record { token = token.Sign s; rest = cs }) n = cc in
    let both = ap (λ (m : Next). m.token) (all ∙ same) in
    cc

sign_token-no_word : (cs : List ℕ) (w rest : List ℕ) → sign_token cs ≡ Some (record { token = token.Word w; rest = rest }) → ⊥
sign_token-no_word [] w rest e = cc
sign_token-no_word (c ∷ []) w rest e = signed-no_word [] (one_sign c) _ w rest e refl
sign_token-no_word (c ∷ d ∷ cs) w rest e = by_two (two_signs c d) e
  where
    by_two : (o : Option Sign) → sign_after c d cs o ≡ Some (record { token = token.Word w; rest = rest }) → ⊥
    by_two None h = signed-no_word (d ∷ cs) (one_sign c) _ w rest h refl
    by_two (Some s) h = signed-no_word cs (Some s) _ w rest h refl

begins-no_word : (c : ℕ) (cs w rest : List ℕ) → BeginsSign c → next_token (c ∷ cs) ≡ Some (record { token = token.Word w; rest = rest }) → ⊥
unfolding next_token
begins-no_word c cs w rest b e = sign_token-no_word (c ∷ cs) w rest (rw (b.digit, b.quote, b.dollar, b.name) at e)

ascii-no_word : (c : ℕ) (cs start w rest : List ℕ) → c < 128 → begins_sign c ≡ true → start ≡ c ∷ cs → next_token start ≡ Some (record { token = token.Word w; rest = rest }) → ⊥
ascii-no_word c cs start w rest small begins is e = begins-no_word c cs w rest (begins_sign-BeginsSign c small begins) (sym (ap next_token is) ∙ e)

sign-no_word : (o : Option BinaryOp) (sign behind start w rest : List ℕ) → sign_text o ≡ Some sign → start ≡ sign ++ behind → next_token start ≡ Some (record { token = token.Word w; rest = rest }) → ⊥
sign-no_word None sign behind start w rest e is = let same : codes "=" ≡ sign = cc in ascii-no_word 61 behind start w rest (omega arith) refl (is ∙ ap (λ l. l ++ behind) (sym same))
sign-no_word (Some op.Add) sign behind start w rest e is = let same : codes "+=" ≡ sign = cc in ascii-no_word 43 (61 ∷ behind) start w rest (omega arith) refl (is ∙ ap (λ l. l ++ behind) (sym same))
sign-no_word (Some op.Sub) sign behind start w rest e is = let same : codes "-=" ≡ sign = cc in ascii-no_word 45 (61 ∷ behind) start w rest (omega arith) refl (is ∙ ap (λ l. l ++ behind) (sym same))
sign-no_word (Some op.Mul) sign behind start w rest e is = let same : codes "*=" ≡ sign = cc in ascii-no_word 42 (61 ∷ behind) start w rest (omega arith) refl (is ∙ ap (λ l. l ++ behind) (sym same))
sign-no_word (Some op.Div) sign behind start w rest e is = let same : codes "/=" ≡ sign = cc in ascii-no_word 47 (61 ∷ behind) start w rest (omega arith) refl (is ∙ ap (λ l. l ++ behind) (sym same))
sign-no_word (Some op.Rem) sign behind start w rest e is = let same : codes "%=" ≡ sign = cc in ascii-no_word 37 (61 ∷ behind) start w rest (omega arith) refl (is ∙ ap (λ l. l ++ behind) (sym same))
sign-no_word (Some _) sign behind start w rest e is = cc

to-no_sign : (start w rest : List ℕ) → next_token start ≡ Some (record { token = token.Word w; rest = rest }) → sign_at start ≡ None
to-no_sign start w rest e = at (sign_at start) refl
  where
    at : (o : Option Assigned) → sign_at start ≡ o → o ≡ None
    at None is = refl
    at (Some a) is = let s = sign_at-sound start a is in absurd (sign-no_word a.op s.0 a.rest start w rest s.1 s.2 e)

sign-only : (o : Option BinaryOp) (sign rest start : List ℕ) → sign_text o ≡ Some sign → start ≡ sign ++ rest → sign_at start ≡ Some (record { op = o; rest = rest })
sign-only None sign rest start e is = let same : codes "=" ≡ sign = cc in ap sign_at (is ∙ ap (λ l. l ++ rest) (sym same))
sign-only (Some op.Add) sign rest start e is = let same : codes "+=" ≡ sign = cc in ap sign_at (is ∙ ap (λ l. l ++ rest) (sym same))
sign-only (Some op.Sub) sign rest start e is = let same : codes "-=" ≡ sign = cc in ap sign_at (is ∙ ap (λ l. l ++ rest) (sym same))
sign-only (Some op.Mul) sign rest start e is = let same : codes "*=" ≡ sign = cc in ap sign_at (is ∙ ap (λ l. l ++ rest) (sym same))
sign-only (Some op.Div) sign rest start e is = let same : codes "/=" ≡ sign = cc in ap sign_at (is ∙ ap (λ l. l ++ rest) (sym same))
sign-only (Some op.Rem) sign rest start e is = let same : codes "%=" ≡ sign = cc in ap sign_at (is ∙ ap (λ l. l ++ rest) (sym same))
sign-only (Some _) sign rest start e is = cc

assignment-only : (o : Option BinaryOp) (cs rest : List ℕ) → HasTo o cs rest ⊎ HasSign o cs rest → assignment cs ≡ Some (record { op = o; rest = rest })
unfolding assignment
assignment-only o cs rest (inl to) =
    let start = past is_blank cs in
    let none = to.0 in
    ap (sign_or_to start) (to-no_sign start (codes "to") rest to.1)
    ∙ ap to_next to.1
    ∙ ap (λ x. Some (record { op = x; rest = rest })) (sym none)
assignment-only o cs rest (inr s) = let start = past is_blank cs in ap (sign_or_to start) (sign-only o s.sign rest start s.spelled s.stands)

set-only : (cs : List ℕ) (ts : List Token) (name : List ℕ) (o : Option BinaryOp) (e : Expr) → IsSet cs ts name o e → set cs ≡ Some (found (command.Set name o e) ts)
unfolding set set_value
set-only cs ts name o e x =
    let a = x.assigned in
    ap (λ n. n >>= λ m. set_at m.token m.rest) a.variable
    ∙ ap (λ b. b >>= λ d. expression d.rest >>= λ p. Some (found (command.Set name d.op p.expr) p.tokens)) (assignment-only o a.behind x.piece a.assigns)
    ∙ ap (λ b. b >>= λ p. Some (found (command.Set name o p.expr) p.tokens)) (expression-only x.piece ts e x.expression)

-- ---- declare

kind_at-only : (v : Value) (k : Option Kind) → kind_at v (said k) ≡ Some (record { value = v; kind = k })
kind_at-only v None = refl
kind_at-only v (Some kind.Number) = refl
kind_at-only v (Some kind.Str) = refl
kind_at-only v (Some kind.Truth) = refl

valued-only : (o : Option Value) (v : Value) (k : Option Kind) → o ≡ Some v → valued o (said k) ≡ Some (record { value = v; kind = k })
valued-only o v k is = ap (λ x. valued x (said k)) is ∙ kind_at-only v k

plain-only : (t : Token) (v : Value) (k : Option Kind) → literal_of t ≡ Some v → value_at t (said k) ≡ Some (record { value = v; kind = k })
plain-only (token.Number digits) v k is = valued-only (literal_of (token.Number digits)) v k is
plain-only (token.Fraction digits) v k is = valued-only (literal_of (token.Fraction digits)) v k is
plain-only (token.Str text) v k is = valued-only (literal_of (token.Str text)) v k is
plain-only (token.Word w) v k is = valued-only (literal_of (token.Word w)) v k is
plain-only (token.Variable name) v k is = cc
plain-only (token.Sign s) v k is = cc

value-only : (own : List Token) (v : Value) (k : Option Kind) → IsValue own v → declaration (own ++ said k) ≡ Some (record { value = v; kind = k })
value-only (t ∷ []) v k is = plain-only t v k is
value-only (m ∷ t ∷ []) v k is = ap (λ x. declaration (x ∷ t ∷ said k)) is.0 ∙ valued-only (negative_of t) v k is.1
value-only [] v k is = absurd is
value-only (t ∷ u ∷ x ∷ ts) v k is = absurd is

declaration-only : (ts : List Token) (v : Value) (k : Option Kind) → IsDeclared ts v k → declaration ts ≡ Some (record { value = v; kind = k })
declaration-only ts v k d = ap declaration d.split ∙ value-only d.own v k d.is

declare-only : (cs : List ℕ) (ts : List Token) (name : List ℕ) (v : Value) (k : Option Kind) → IsDeclare cs ts name v k → declare cs ≡ Some (found (command.Declare name v k) ts)
unfolding declare
declare-only cs ts name v k x =
    let a = x.assigned in
    ap (λ n. n >>= λ m. declare_at m.token m.rest) a.variable
    ∙ ap (λ b. b >>= λ d. declare_value name d.op d.rest) (assignment-only None a.behind x.piece a.assigns)
    ∙ ap (λ b. b >>= declare_here name) x.lexed
    ∙ ap (λ b. b >>= λ d. Some (found (command.Declare name d.value d.kind) ts)) (declaration-only ts v k x.declared)

-- ---- jump and call

brace-none : (rest : List ℕ) → next_token (123 ∷ rest) ≡ None
unfolding next_token
brace-none rest = let b = begins_sign-BeginsSign 123 (omega arith) refl in let name = b.name in rw name (at rest)
  where
    at : (cs : List ℕ) → sign_token (123 ∷ cs) ≡ None
    at [] = refl
    at (c ∷ cs) = refl

brace-lexed : (cs rest : List ℕ) → past is_blank cs ≡ 123 ∷ rest → tokens_of cs ≡ None
unfolding tokens_of tokens
brace-lexed cs rest begins =
    ap (tokens_at (tokens (length cs))) begins
    ∙ ap (λ o. o >>= λ n. with_token n.token (tokens (length cs) n.rest)) (brace-none rest)

jump_name-only : (cs name : List ℕ) → tokens_of cs ≡ Some (token.Word name ∷ []) → jump cs ≡ Some (whole (command.Jump name))
unfolding jump
jump_name-only cs name lexed = at (past is_blank cs) refl
  where
    plain : jump_name cs ≡ Some (whole (command.Jump name))
    plain = ap (λ o. o >>= named) lexed

    at : (start : List ℕ) → past is_blank cs ≡ start → jump_at cs start ≡ Some (whole (command.Jump name))
    at [] is = plain
    at (c ∷ rest) is = by_test (c == 123) refl
      where
        by_test : (b : Bool) → (c == 123) ≡ b → jump_at cs (c ∷ rest) ≡ Some (whole (command.Jump name))
        by_test true brace = let none = brace-lexed cs rest (is ∙ ap (λ x. x ∷ rest) (eq_is c 123 brace)) in cc
        by_test false other = rw other plain

jump_to-only : (cs : List ℕ) (ts : List Token) (e : Expr) → IsJumpTo cs ts e → jump cs ≡ Some (found (command.JumpTo e) ts)
unfolding jump
jump_to-only cs ts e x =
    ap (jump_at cs) x.braces
    ∙ ap (λ o. o >>= λ i. expression i >>= λ p. Some (found (command.JumpTo p.expr) p.tokens)) (before_brace-append x.piece)
    ∙ ap (λ o. o >>= λ p. Some (found (command.JumpTo p.expr) p.tokens)) (expression-only x.piece ts e x.expression)

call-only : (cs : List ℕ) (ts : List Token) (e : Expr) → is_call e ≡ true → IsExpression cs ts e → call cs ≡ Some (found (command.Call e) ts)
unfolding call
call-only cs ts e is x = ap (λ o. o >>= call_of) (expression-only cs ts e x) ∙ rw is refl

-- ---- all commands

stop-game : (cs : List ℕ) → ¬ IsBlank cs → Some (stop (is_blank_only cs)) ≡ Some (whole command.Game)
stop-game cs more = at (past is_blank cs) refl
  where
    at : (start : List ℕ) → past is_blank cs ≡ start → Some (stop (is_empty start)) ≡ Some (whole command.Game)
    at [] is = absurd (more is)
    at (c ∷ rest) is = refl

-- a command without literals
bare : (o : Option Found) (c : Command) (ts : List Token) → o ≡ Some (whole c) → ts ≡ [] → o ≡ Some (found c ts)
bare o c ts is none = is ∙ ap (λ l. Some (found c l)) (sym none)

behind-only : (w : FirstWord) (cs : List ℕ) (ts : List Token) (c : Command) → IsMeant w cs ts c → behind w cs ≡ Some (found c ts)
unfolding behind
behind-only word.If cs ts (command.If e) h = ap (λ o. o >>= λ p. Some (found (command.If p.expr) p.tokens)) (expression-only cs ts e h)
behind-only word.ElseIf cs ts (command.ElseIf e) h = ap (λ o. o >>= λ p. Some (found (command.ElseIf p.expr) p.tokens)) (expression-only cs ts e h)
behind-only word.Else cs ts command.Else h = bare _ command.Else ts (alone-only command.Else cs h.0) h.1
behind-only word.EndIf cs ts command.EndIf h = bare _ command.EndIf ts (alone-only command.EndIf cs h.0) h.1
behind-only word.Set cs ts (command.Set name o e) h = set-only cs ts name o e h
behind-only word.Declare cs ts (command.Declare name v k) h = declare-only cs ts name v k h
behind-only word.Jump cs ts (command.Jump name) h = bare _ (command.Jump name) ts (jump_name-only cs name h.0) h.1
behind-only word.Jump cs ts (command.JumpTo e) h = jump_to-only cs ts e h
behind-only word.Stop cs ts command.Stop h = let blank = h.0 in bare _ command.Stop ts (ap (λ l. Some (stop (is_empty l))) blank) h.1
behind-only word.Stop cs ts command.Game h = bare _ command.Game ts (stop-game cs h.0) h.1
behind-only word.Call cs ts (command.Call e) h = call-only cs ts e h.0 h.1
behind-only word.Other cs ts command.Game h = bare _ command.Game ts refl h
behind-only _ cs ts _ h = absurd h

pub content-only : (cs : List ℕ) (ts : List Token) (c : Command) → IsCommand cs ts c → content cs ≡ Some (found c ts)
unfolding content
content-only [] ts c h = absurd h
content-only (x ∷ xs) ts c h = behind-only (first_word_of (text_of (front continues_name (x ∷ xs)))) (past continues_name (x ∷ xs)) ts c h
