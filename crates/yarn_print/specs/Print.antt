-- The canonical text of a file (docs/language.md, Canonical text).
use Rattle.std.specs.Prelude.{ℕ, zero, suc, List, [], ◌∷◌, ◌++◌, Bool, true, false, ◌&&◌, ◌||◌, nat_eq, if◌then◌else◌, codes, Option, Some, None}
use Rattle.std.specs.List.{list_any, flat_map}
use Rattle.yarn_expr.specs.declared.tree.Expr.{Expr}
use Rattle.yarn_expr.specs.Print.{canonical}
use Rattle.yarn_commands.specs.declared.command.Command.{Command}
use Rattle.yarn_commands.specs.declared.command.Command.TheVariants as command
use Rattle.yarn_commands.specs.Print.{content_text}
use Rattle.yarn_items.specs.declared.item.Header.{Header}
use Rattle.yarn_items.specs.Text.{is_kept}
use Rattle.yarn_blocks.specs.declared.tree.Head.{Head}
use Rattle.yarn_blocks.specs.declared.tree.LineText.{LineText}
use Rattle.yarn_blocks.specs.declared.entry.Entry.{Entry}
use Rattle.yarn_blocks.specs.declared.entry.What.{What}
use Rattle.yarn_blocks.specs.declared.entry.What.TheVariants as what
use Rattle.yarn_blocks.specs.declared.entry.Simple.{Simple}
use Rattle.yarn_blocks.specs.declared.entry.Simple.TheVariants as simple
use Rattle.yarn_blocks.specs.Layout.{laid}
use Rattle.yarn_blocks.specs.View.{stmts_of}
use Rattle.yarn_tree.specs.declared.tree.Node.{Node}
use Rattle.yarn_tree.specs.declared.tree.File.{File}

-- `#`, `/`, `<` and `>`, which a text has only behind a `\`
abbrev pub is_marked : ℕ → Bool
is_marked b = list_any (λ e. nat_eq e b) (codes "#/<>")

abbrev pub spelled : ℕ → List ℕ
spelled b = if is_marked b then 92 ∷ b ∷ [] else b ∷ []

-- a substitution
abbrev pub hole_printed : Expr → List ℕ
hole_printed e = 123 ∷ (canonical e ++ 125 ∷ [])

abbrev pub begins_kept_pair : List ℕ → Bool
begins_kept_pair (b ∷ c ∷ bytes) = nat_eq b 92 && is_kept c
begins_kept_pair bytes = false

-- The text of a line, from the text that string tables have and the expressions for its `{k}`. A pair that string tables
-- have stays, and no other has one of the four. In a `{k}` or outside.
abbrev pub text_printed : Bool → List ℕ → List Expr → List ℕ
text_printed true [] es = []
text_printed true (c ∷ bytes) es = text_printed (if nat_eq c 125 then false else true) bytes es
text_printed false [] es = []
text_printed false (b ∷ []) es = spelled b
text_printed false (b ∷ c ∷ bytes) [] =
    if begins_kept_pair (b ∷ c ∷ bytes) then b ∷ c ∷ text_printed false bytes [] else spelled b ++ text_printed false (c ∷ bytes) []
text_printed false (b ∷ c ∷ bytes) (e ∷ es) =
    if begins_kept_pair (b ∷ c ∷ bytes) then b ∷ c ∷ text_printed false bytes (e ∷ es)
    else if nat_eq b 123 then hole_printed e ++ text_printed true (c ∷ bytes) es
    else spelled b ++ text_printed false (c ∷ bytes) (e ∷ es)

-- The content of a command for the game in the same way: a `\` and the next character stay, and so does all else.
abbrev pub game_printed : Bool → List ℕ → List Expr → List ℕ
game_printed true [] es = []
game_printed true (c ∷ bytes) es = game_printed (if nat_eq c 125 then false else true) bytes es
game_printed false [] es = []
game_printed false (b ∷ []) es = b ∷ []
game_printed false (b ∷ c ∷ bytes) [] = b ∷ game_printed false (c ∷ bytes) []
game_printed false (b ∷ c ∷ bytes) (e ∷ es) =
    if nat_eq b 92 then b ∷ c ∷ game_printed false bytes (e ∷ es)
    else if nat_eq b 123 then hole_printed e ++ game_printed true (c ∷ bytes) es
    else b ∷ game_printed false (c ∷ bytes) (e ∷ es)

-- a blank, `#` and the hashtag
abbrev pub tag_text : List ℕ → List ℕ
tag_text tag = 32 ∷ 35 ∷ tag

abbrev pub tags_text : List (List ℕ) → List ℕ
tags_text tags = flat_map tag_text tags

-- a content that ends with `>` or `\` has a blank before its `>>`
abbrev pub last_of : ℕ → List ℕ → ℕ
last_of b [] = b
last_of b (c ∷ bytes) = last_of c bytes

abbrev pub wants_blank : List ℕ → Bool
wants_blank content = nat_eq (last_of 0 content) 62 || nat_eq (last_of 0 content) 92

abbrev pub content_line : List ℕ → List (List ℕ) → List ℕ
content_line content tags = codes "<<" ++ (content ++ ((if wants_blank content then codes " >>" else codes ">>") ++ tags_text tags))

abbrev pub command_line : Command → Head → List ℕ
command_line own head = content_line (content_text own) head.tags

abbrev pub line_text : LineText → List ℕ
line_text text = text_printed false text.text text.holes

abbrev pub asked_text : Option Expr → List ℕ
asked_text None = []
asked_text (Some e) = codes " <<" ++ (content_text (command.If e) ++ codes ">>")

abbrev pub simple_text : Simple → List ℕ
simple_text (simple.Line text) = line_text text ++ tags_text text.tags
simple_text (simple.Set head name op e) = command_line (command.Set name op e) head
simple_text (simple.Declare head name value kind) = command_line (command.Declare name value kind) head
simple_text (simple.Jump head title) = command_line (command.Jump title) head
simple_text (simple.JumpTo head e) = command_line (command.JumpTo e) head
simple_text (simple.Stop head) = command_line command.Stop head
simple_text (simple.Call head e) = command_line (command.Call e) head
simple_text (simple.Command text) = content_line (game_printed false text.text text.holes) text.tags

-- a line of a body without the blanks before it
abbrev pub what_text : What → List ℕ
what_text (what.Statement s) = simple_text s
what_text (what.Offer text asked) = codes "-> " ++ (line_text text ++ (asked_text asked ++ tags_text text.tags))
what_text (what.If head e) = command_line (command.If e) head
what_text (what.ElseIf head e) = command_line (command.ElseIf e) head
what_text (what.Else head) = command_line command.Else head
what_text (what.EndIf head) = command_line command.EndIf head

-- a line and its end
abbrev pub ended : List ℕ → List ℕ
ended line = line ++ 10 ∷ []

abbrev pub blanks : ℕ → List ℕ
blanks zero = []
blanks (suc n) = 32 ∷ blanks n

abbrev pub entry_text : Entry → List ℕ
entry_text x = ended (blanks x.indent ++ what_text x.what)

abbrev pub entries_text : List Entry → List ℕ
entries_text xs = flat_map entry_text xs

abbrev pub value_text : List ℕ → List ℕ
value_text [] = []
value_text (b ∷ value) = 32 ∷ b ∷ value

-- `key: value`, and `key:` where the value is empty
abbrev pub header_line : Header → List ℕ
header_line header = header.key ++ 58 ∷ value_text header.value

abbrev pub file_tag_line : List ℕ → List ℕ
file_tag_line tag = 35 ∷ tag

abbrev pub headers_text : List Header → List ℕ
headers_text headers = flat_map (λ h. ended (header_line h)) headers

abbrev pub node_text : Node → List ℕ
node_text node = headers_text node.headers ++ (ended (codes "---") ++ (entries_text (laid 0 (stmts_of node.body)) ++ ended (codes "===")))

abbrev pub file_tags_text : List (List ℕ) → List ℕ
file_tags_text tags = flat_map (λ t. ended (file_tag_line t)) tags

abbrev pub nodes_text : List Node → List ℕ
nodes_text nodes = flat_map node_text nodes

-- the hashtags of the file, one a line, and its nodes
unfoldable pub print_of : File → List ℕ
print_of file = file_tags_text file.tags ++ nodes_text file.nodes
