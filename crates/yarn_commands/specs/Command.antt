-- Which content is which command, by cases on its first word, with the tokens of its expression or its value.
-- Source: docs/language.md, Body lines and Texts and commands. The blanks are this project's own.
use Rattle.std.specs.Prelude.{◌≡◌, ℕ, pos, neg_ℤ, List, [], ◌∷◌, ◌++◌, codes, unwrap_or, Bool, true, false, if◌then◌else◌, Option, Some, None, ◌⊎◌}
use Rattle.yarn_base.specs.Name.{continues_name}
use Rattle.yarn_expr.specs.declared.token.Token.{Token}
use Rattle.yarn_expr.specs.declared.token.Token.TheVariants as token
use Rattle.yarn_expr.specs.declared.token.Sign.TheVariants as sign
use Rattle.yarn_expr.specs.declared.tree.BinaryOp.{BinaryOp}
use Rattle.yarn_expr.specs.declared.tree.BinaryOp.TheVariants.{Mul, Div, Rem, Add, Sub}
use Rattle.yarn_expr.specs.declared.tree.Expr.{Expr, Call'}
use Rattle.yarn_expr.specs.Plain.{Tree, number_of, expr_of}
use Rattle.yarn_expr.specs.Piece.{HasTree}
use Rattle.yarn_expr.specs.Tokens.{is_blank, front, past, text_of, next_token, tokens_of}
use Rattle.yarn_expr.specs.Word.{is_spelled}
use Rattle.yarn_value.specs.declared.value.Value.{Value}
use Rattle.yarn_value.specs.declared.value.Value.TheVariants as value
use Rattle.yarn_value.specs.declared.value.Kind.{Kind}
use Rattle.yarn_value.specs.declared.value.Kind.TheVariants as kind
use Rattle.yarn_commands.specs.FirstWord.{first_word_of}
use Rattle.yarn_commands.specs.declared.word.FirstWord.{FirstWord}
use Rattle.yarn_commands.specs.declared.word.FirstWord.TheVariants as word
use Rattle.yarn_commands.specs.declared.command.Command.{Command}
use Rattle.yarn_commands.specs.declared.command.Command.TheVariants as command

-- nothing but blanks
abbrev pub IsBlank : List ℕ → Type 0
IsBlank cs = past is_blank cs ≡ []

-- behind blanks stands this token, as long as it can be, and behind it the rest
abbrev pub StandsNext : List ℕ → Token → List ℕ → Type 0
StandsNext cs t rest = next_token (past is_blank cs) ≡ Some (record { token = t; rest = rest })

-- the piece has these tokens, and they are this expression, which is their tree without the digits
pub record IsExpression (piece : List ℕ) (tokens : List Token) (e : Expr) : Type 0 where
  pub tree : Tree
  pub has : HasTree piece tokens tree
  pub is : e ≡ expr_of tree

-- ---- set

-- the sign that sets a variable with this operator. None of them begins another one, so the longest that fits is the one that fits
abbrev pub sign_text : Option BinaryOp → Option (List ℕ)
sign_text None = Some (codes "=")
sign_text (Some Add) = Some (codes "+=")
sign_text (Some Sub) = Some (codes "-=")
sign_text (Some Mul) = Some (codes "*=")
sign_text (Some Div) = Some (codes "/=")
sign_text (Some Rem) = Some (codes "%=")
sign_text (Some _) = None

pub record HasSign (op : Option BinaryOp) (cs rest : List ℕ) : Type 0 where
  pub sign : List ℕ
  pub spelled : sign_text op ≡ Some sign
  pub stands : past is_blank cs ≡ sign ++ rest

abbrev pub HasTo : Option BinaryOp → List ℕ → List ℕ → Type 0
HasTo op cs rest = (op ≡ None) × StandsNext cs (token.Word (codes "to")) rest

-- a variable, behind it the word `to` or a sign, and then the rest
pub record IsAssigned (cs name : List ℕ) (op : Option BinaryOp) (rest : List ℕ) : Type 0 where
  pub behind : List ℕ
  pub variable : StandsNext cs (token.Variable name) behind
  pub assigns : HasTo op behind rest ⊎ HasSign op behind rest

pub record IsSet (cs : List ℕ) (tokens : List Token) (name : List ℕ) (op : Option BinaryOp) (e : Expr) : Type 0 where
  pub piece : List ℕ
  pub assigned : IsAssigned cs name op piece
  pub expression : IsExpression piece tokens e

-- ---- declare

abbrev pub truth_of : List ℕ → Option Value
truth_of w =
    if is_spelled w (codes "true") then Some (value.Truth true)
    else if is_spelled w (codes "false") then Some (value.Truth false)
    else None

-- the value of a literal. A fraction and a number that is too large stand for 0 here, and are refused elsewhere
abbrev pub literal_of : Token → Option Value
literal_of (token.Number digits) = Some (value.Number (pos (unwrap_or (number_of digits) 0)))
literal_of (token.Fraction digits) = Some (value.Number (pos 0))
literal_of (token.Str text) = Some (value.Str text)
literal_of (token.Word w) = truth_of w
literal_of (token.Variable name) = None
literal_of (token.Sign s) = None

-- the value of a number behind a `-`
abbrev pub negative_of : Token → Option Value
negative_of (token.Number digits) = Some (value.Number (neg_ℤ (pos (unwrap_or (number_of digits) 0))))
negative_of (token.Fraction digits) = Some (value.Number (pos 0))
negative_of (token.Str text) = None
negative_of (token.Word w) = None
negative_of (token.Variable name) = None
negative_of (token.Sign s) = None

-- a literal, or `-` and a number
abbrev pub IsValue : List Token → Value → Type 0
IsValue (t ∷ []) v = literal_of t ≡ Some v
IsValue (m ∷ t ∷ []) v = (m ≡ token.Sign sign.Minus) × (negative_of t ≡ Some v)
IsValue _ v = ⊥

abbrev pub kind_text : Kind → List ℕ
kind_text kind.Number = codes "number"
kind_text kind.Str = codes "string"
kind_text kind.Truth = codes "bool"

-- nothing, or the word `as` and the word of a kind
abbrev pub said : Option Kind → List Token
said None = []
said (Some k) = token.Word (codes "as") ∷ token.Word (kind_text k) ∷ []

pub record IsDeclared (tokens : List Token) (v : Value) (k : Option Kind) : Type 0 where
  pub own : List Token
  pub is : IsValue own v
  pub split : tokens ≡ own ++ said k

pub record IsDeclare (cs : List ℕ) (tokens : List Token) (name : List ℕ) (v : Value) (k : Option Kind) : Type 0 where
  pub piece : List ℕ
  pub assigned : IsAssigned cs name None piece
  pub lexed : tokens_of piece ≡ Some tokens
  pub declared : IsDeclared tokens v k

-- ---- jump and call

-- an expression between a `{` and the `}` that ends the content
pub record IsJumpTo (cs : List ℕ) (tokens : List Token) (e : Expr) : Type 0 where
  pub piece : List ℕ
  pub braces : past is_blank cs ≡ 123 ∷ (piece ++ 125 ∷ [])
  pub expression : IsExpression piece tokens e

-- a call of a function
abbrev pub is_call : Expr → Bool
is_call (Call' name shape arguments) = true
is_call _ = false

-- ---- all commands

-- what stands behind the first word makes it the command
abbrev pub IsMeant : FirstWord → List ℕ → List Token → Command → Type 0
IsMeant word.If cs tokens (command.If e) = IsExpression cs tokens e
IsMeant word.ElseIf cs tokens (command.ElseIf e) = IsExpression cs tokens e
IsMeant word.Else cs tokens command.Else = IsBlank cs × (tokens ≡ [])
IsMeant word.EndIf cs tokens command.EndIf = IsBlank cs × (tokens ≡ [])
IsMeant word.Set cs tokens (command.Set name op e) = IsSet cs tokens name op e
IsMeant word.Declare cs tokens (command.Declare name v k) = IsDeclare cs tokens name v k
IsMeant word.Jump cs tokens (command.Jump name) = (tokens_of cs ≡ Some (token.Word name ∷ [])) × (tokens ≡ [])
IsMeant word.Jump cs tokens (command.JumpTo e) = IsJumpTo cs tokens e
IsMeant word.Stop cs tokens command.Stop = IsBlank cs × (tokens ≡ [])
IsMeant word.Stop cs tokens command.Game = ¬ IsBlank cs × (tokens ≡ [])
IsMeant word.Call cs tokens (command.Call e) = (is_call e ≡ true) × IsExpression cs tokens e
IsMeant word.Other cs tokens command.Game = tokens ≡ []
IsMeant _ cs tokens _ = ⊥

-- The characters of a content are the command. An empty content is none. The first word is the longest
-- run of name characters at the front; it may be empty.
abbrev pub IsCommand : List ℕ → List Token → Command → Type 0
IsCommand [] tokens c = ⊥
IsCommand (x ∷ xs) tokens c = IsMeant (first_word_of (text_of (front continues_name (x ∷ xs)))) (past continues_name (x ∷ xs)) tokens c
