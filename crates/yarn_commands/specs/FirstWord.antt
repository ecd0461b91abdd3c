-- What the first word of a content says that it is. Source: docs/language.md, Body lines and Texts and commands.
use Rattle.std.specs.Prelude.{ℕ, List, codes, Bool, true, false, if◌then◌else◌, ◌||◌}
use Rattle.yarn_base.specs.Name.{continues_name}
use Rattle.yarn_expr.specs.Tokens.{front, text_of}
use Rattle.yarn_expr.specs.Word.{is_spelled}
use Rattle.yarn_commands.specs.declared.word.FirstWord.{FirstWord}
use Rattle.yarn_commands.specs.declared.word.FirstWord.TheVariants.{If, ElseIf, Else, EndIf, Set, Declare, Jump, Stop, Call, LeftOut, Other}

unfoldable pub first_word_of : List ℕ → FirstWord
first_word_of w =
    if is_spelled w (codes "if") then If
    else if is_spelled w (codes "elseif") then ElseIf
    else if is_spelled w (codes "else") then Else
    else if is_spelled w (codes "endif") then EndIf
    else if is_spelled w (codes "set") then Set
    else if is_spelled w (codes "declare") then Declare
    else if is_spelled w (codes "jump") then Jump
    else if is_spelled w (codes "stop") then Stop
    else if is_spelled w (codes "call") then Call
    else if is_spelled w (codes "enum") || is_spelled w (codes "case") || is_spelled w (codes "endenum") then LeftOut
    else Other

-- whether a command that begins with such a word may be for the game
abbrev pub may_begin_game : FirstWord → Bool
may_begin_game Stop = true
may_begin_game Other = true
may_begin_game _ = false

-- the same of what begins with these characters: their first word is the longest run of name characters at the front
abbrev pub is_for_game : List ℕ → Bool
is_for_game cs = may_begin_game (first_word_of (text_of (front continues_name cs)))
