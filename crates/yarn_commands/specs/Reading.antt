-- The command that a content is, read once from the left.
use Rattle.std.specs.Prelude.{ℕ, List, [], ◌∷◌, codes, ◌==◌, Bool, true, false, if◌then◌else◌, Option, Some, None}
use Rattle.yarn_base.specs.Name.{continues_name}
use Rattle.yarn_expr.specs.declared.token.Token.{Token}
use Rattle.yarn_expr.specs.declared.token.Token.TheVariants as token
use Rattle.yarn_expr.specs.declared.token.Sign.TheVariants as sign
use Rattle.yarn_expr.specs.declared.tree.BinaryOp.{BinaryOp}
use Rattle.yarn_expr.specs.declared.tree.BinaryOp.TheVariants.{Mul, Div, Rem, Add, Sub}
use Rattle.yarn_expr.specs.Reading.{◌>>=◌, read_all}
use Rattle.yarn_expr.specs.Tokens.{is_blank, front, past, text_of, Next, next_token, tokens_of}
use Rattle.yarn_expr.specs.Word.{is_spelled}
use Rattle.yarn_value.specs.declared.value.Value.{Value}
use Rattle.yarn_value.specs.declared.value.Kind.{Kind}
use Rattle.yarn_value.specs.declared.value.Kind.TheVariants as kind
use Rattle.yarn_commands.specs.FirstWord.{first_word_of}
use Rattle.yarn_commands.specs.declared.word.FirstWord.{FirstWord}
use Rattle.yarn_commands.specs.declared.word.FirstWord.TheVariants as word
use Rattle.yarn_commands.specs.declared.command.Command.{Command}
use Rattle.yarn_commands.specs.declared.command.Command.TheVariants as command
use Rattle.yarn_commands.specs.declared.read.Found.{Found}
use Rattle.yarn_commands.specs.declared.read.Part.{Part}
use Rattle.yarn_commands.specs.declared.declaration.Declaration.{Declaration}
use Rattle.yarn_commands.specs.Command.{literal_of, negative_of, is_call}

-- a command without literals
abbrev pub whole : Command → Found
whole c = record { command = c; tokens = [] }

-- an expression with its tokens
unfoldable pub expression : List ℕ → Option Part
expression cs = do
  ts ← tokens_of cs
  e ← read_all ts
  Some (record { expr = e; tokens = ts })

-- nothing but blanks stands there
abbrev pub is_empty : List ℕ → Bool
is_empty [] = true
is_empty (c ∷ cs) = false

abbrev pub is_blank_only : List ℕ → Bool
is_blank_only cs = is_empty (past is_blank cs)

abbrev pub alone : Command → List ℕ → Option Found
alone c cs = if is_blank_only cs then Some (whole c) else None

-- what stands between a variable and its value, and then the rest
pub record Assigned : Type 0 where
  pub op : Option BinaryOp
  pub rest : List ℕ

abbrev pub arithmetic : ℕ → Option BinaryOp
arithmetic c =
    if c == 43 then Some Add
    else if c == 45 then Some Sub
    else if c == 42 then Some Mul
    else if c == 47 then Some Div
    else if c == 37 then Some Rem
    else None

abbrev pub with_operator : List ℕ → Option BinaryOp → Option Assigned
with_operator cs None = None
with_operator cs (Some op) = Some (record { op = Some op; rest = cs })

abbrev pub operator_sign : ℕ → List ℕ → Option Assigned
operator_sign c [] = None
operator_sign c (d ∷ cs) = if d == 61 then with_operator cs (arithmetic c) else None

abbrev pub sign_at : List ℕ → Option Assigned
sign_at [] = None
sign_at (c ∷ cs) = if c == 61 then Some (record { op = None; rest = cs }) else operator_sign c cs

abbrev pub is_to : Token → Bool
is_to (token.Word w) = is_spelled w (codes "to")
is_to _ = false

abbrev pub to_here : Next → Option Assigned
to_here n = if is_to n.token then Some (record { op = None; rest = n.rest }) else None

abbrev pub to_next : Option Next → Option Assigned
to_next o = o >>= to_here

abbrev pub sign_or_to : List ℕ → Option Assigned → Option Assigned
sign_or_to cs (Some a) = Some a
sign_or_to cs None = to_next (next_token cs)

unfoldable pub assignment : List ℕ → Option Assigned
assignment cs = sign_or_to (past is_blank cs) (sign_at (past is_blank cs))

-- set $x to e, behind the variable
unfoldable pub set_value : List ℕ → List ℕ → Option Found
set_value name cs = do
  a ← assignment cs
  part ← expression a.rest
  Some (record { command = command.Set name a.op part.expr; tokens = part.tokens })

abbrev pub set_at : Token → List ℕ → Option Found
set_at (token.Variable name) cs = set_value name cs
set_at _ cs = None

unfoldable pub set : List ℕ → Option Found
set cs = next_token (past is_blank cs) >>= λ n. set_at n.token n.rest

-- the value and the kind of a declare
abbrev pub kind_of_word : List ℕ → Option Kind
kind_of_word w =
    if is_spelled w (codes "number") then Some kind.Number
    else if is_spelled w (codes "string") then Some kind.Str
    else if is_spelled w (codes "bool") then Some kind.Truth
    else None

abbrev pub with_kind : Value → Option Kind → Option Declaration
with_kind v None = None
with_kind v (Some k) = Some (record { value = v; kind = Some k })

abbrev pub as_kind : Value → List ℕ → List ℕ → Option Declaration
as_kind v w k = if is_spelled w (codes "as") then with_kind v (kind_of_word k) else None

abbrev pub kind_at : Value → List Token → Option Declaration
kind_at v [] = Some (record { value = v; kind = None })
kind_at v (token.Word w ∷ token.Word k ∷ []) = as_kind v w k
kind_at v _ = None

abbrev pub valued : Option Value → List Token → Option Declaration
valued None ts = None
valued (Some v) ts = kind_at v ts

abbrev pub value_at : Token → List Token → Option Declaration
value_at (token.Sign sign.Minus) (t ∷ ts) = valued (negative_of t) ts
value_at t ts = valued (literal_of t) ts

abbrev pub declaration : List Token → Option Declaration
declaration [] = None
declaration (t ∷ ts) = value_at t ts

-- declare $x = v, behind the sign or the `to`
abbrev pub declare_here : List ℕ → List Token → Option Found
declare_here name ts = declaration ts >>= λ d. Some (record { command = command.Declare name d.value d.kind; tokens = ts })

abbrev pub declare_value : List ℕ → Option BinaryOp → List ℕ → Option Found
declare_value name None cs = tokens_of cs >>= declare_here name
declare_value name (Some op) cs = None

abbrev pub declare_at : Token → List ℕ → Option Found
declare_at (token.Variable name) cs = assignment cs >>= λ a. declare_value name a.op a.rest
declare_at _ cs = None

unfoldable pub declare : List ℕ → Option Found
declare cs = next_token (past is_blank cs) >>= λ n. declare_at n.token n.rest

-- what stands before a last `}`
abbrev pub before_brace : List ℕ → Option (List ℕ)
before_brace [] = None
before_brace (c ∷ []) = if c == 125 then Some [] else None
before_brace (c ∷ d ∷ cs) = before_brace (d ∷ cs) >>= λ l. Some (c ∷ l)

abbrev pub jump_to : List ℕ → Option Found
jump_to cs = do
  inner ← before_brace cs
  part ← expression inner
  Some (record { command = command.JumpTo part.expr; tokens = part.tokens })

abbrev pub named : List Token → Option Found
named (token.Word name ∷ []) = Some (whole (command.Jump name))
named _ = None

abbrev pub jump_name : List ℕ → Option Found
jump_name cs = tokens_of cs >>= named

abbrev pub jump_at : List ℕ → List ℕ → Option Found
jump_at cs [] = jump_name cs
jump_at cs (c ∷ rest) = if c == 123 then jump_to rest else jump_name cs

unfoldable pub jump : List ℕ → Option Found
jump cs = jump_at cs (past is_blank cs)

abbrev pub call_of : Part → Option Found
call_of part = if is_call part.expr then Some (record { command = command.Call part.expr; tokens = part.tokens }) else None

unfoldable pub call : List ℕ → Option Found
call cs = expression cs >>= call_of

abbrev pub stop : Bool → Found
stop true = whole command.Stop
stop false = whole command.Game

-- what stands behind the first word, by that word
unfoldable pub behind : FirstWord → List ℕ → Option Found
behind word.If cs = expression cs >>= λ part. Some (record { command = command.If part.expr; tokens = part.tokens })
behind word.ElseIf cs = expression cs >>= λ part. Some (record { command = command.ElseIf part.expr; tokens = part.tokens })
behind word.Else cs = alone command.Else cs
behind word.EndIf cs = alone command.EndIf cs
behind word.Set cs = set cs
behind word.Declare cs = declare cs
behind word.Jump cs = jump cs
behind word.Stop cs = Some (stop (is_blank_only cs))
behind word.Call cs = call cs
behind word.LeftOut cs = None
behind word.Other cs = Some (whole command.Game)

unfoldable pub content : List ℕ → Option Found
content [] = None
content (c ∷ cs) = behind (first_word_of (text_of (front continues_name (c ∷ cs)))) (past continues_name (c ∷ cs))
