-- Accepted lines are light: each expression has at most 64 levels, and a line has at most 16 substitutions.
use Rattle.std.proofs.Common.{◌≡◌, ℕ, ◌≤◌, List, [], ◌∷◌, length, Option, Some, subst}
use Rattle.std.proofs.lemmas.Option.{same_Some}
use Rattle.yarn_expr.specs.declared.token.Token.{Token}
use Rattle.yarn_expr.specs.declared.tree.Expr.{Expr}
use Rattle.yarn_commands.specs.declared.command.Command.{Command}
use Rattle.yarn_commands.specs.declared.command.Command.TheVariants as command
use Rattle.yarn_items.specs.declared.item.Mode.{Mode}
use Rattle.yarn_items.specs.declared.item.Mode.TheVariants.{InHeaders, InBody}
use Rattle.yarn_items.specs.declared.item.Item.{Item}
use Rattle.yarn_items.specs.declared.item.Item.TheVariants as item
use Rattle.yarn_items.specs.Text.{Piece, AreHoles, no_more, past_char, past_pair, at_hole}
use Rattle.yarn_items.specs.Item.{IsCondition, no_condition, condition, IsForm}
use Rattle.yarn_blocks.specs.declared.entry.Entry.{Entry}
use Rattle.yarn_blocks.specs.declared.entry.What.{What}
use Rattle.yarn_nodes.specs.Entries.{ItemAt, command_at, what_at, id_in, said_by, AreEntries}
use Rattle.yarn_nodes.specs.Finds.{holes_in}
use Rattle.yarn_compile.proofs.Parts.{Each}
use Rattle.yarn_commands.proofs.Shallow.{expression_light, LightCommand, command_light}
use Rattle.yarn_compile.proofs.Light.{LightExpr, LightAll, LightIf, LightWhat, LightEntry}

holes_light : {pieces : List Piece} {tokens : List Token} {es : List Expr} → AreHoles pieces tokens es → Each LightExpr es
holes_light no_more = tt
holes_light (past_char more) = holes_light more
holes_light (past_pair more) = holes_light more
holes_light (at_hole h more) = (expression_light h, holes_light more)

condition_light : {bytes : List ℕ} {tokens : List Token} {asked : Option Expr} {rest : List ℕ} → IsCondition bytes tokens asked rest → LightIf asked
condition_light no_condition = tt
condition_light (condition {content = content} {tokens = tokens} {e = e} has is) = command_light _ tokens (command.If e) is

abbrev pub LightItem : Item → Type 0
LightItem (item.Line said) = LightAll said.holes
LightItem (item.Offer said asked) = LightAll said.holes × LightIf asked
LightItem (item.Game said) = LightAll said.holes
LightItem (item.Command own tags) = LightCommand own
LightItem (item.FileTag tag) = Unit {0}
LightItem (item.Header header) = Unit {0}
LightItem item.BodyBegins = Unit {0}
LightItem item.NodeEnds = Unit {0}

pub item_light : (mode : Mode) (text : List ℕ) (tokens : List Token) (i : Item) → IsForm mode text tokens i → length (holes_in i) ≤ 16 → LightItem i
item_light InBody text tokens (item.Line said) h few = (few, holes_light h.held)
item_light InBody text tokens (item.Offer said asked) h few = ((few, holes_light h.held), condition_light h.conditioned)
item_light InBody text tokens (item.Game said) h few = (few, holes_light h.held)
item_light InBody text tokens (item.Command own tags) h few = command_light _ tokens own h.is
item_light InHeaders text tokens (item.Line said) h few = absurd h
item_light InHeaders text tokens (item.Offer said asked) h few = absurd h
item_light InHeaders text tokens (item.Game said) h few = absurd h
item_light InHeaders text tokens (item.Command own tags) h few = absurd h
item_light mode text tokens (item.FileTag tag) h few = tt
item_light mode text tokens (item.Header header) h few = tt
item_light mode text tokens item.BodyBegins h few = tt
item_light mode text tokens item.NodeEnds h few = tt

-- ---- entries

command_what : (line : ℕ) (tags : List (List ℕ)) (c : Command) (w : What) → command_at line tags c ≡ Some w → LightCommand c → LightWhat w
command_what line tags (command.If e) w is h = subst LightWhat (same_Some _ w is) h
command_what line tags (command.ElseIf e) w is h = subst LightWhat (same_Some _ w is) h
command_what line tags command.Else w is h = subst LightWhat (same_Some _ w is) tt
command_what line tags command.EndIf w is h = subst LightWhat (same_Some _ w is) tt
command_what line tags (command.Set name op e) w is h = subst LightWhat (same_Some _ w is) h
command_what line tags (command.Declare name v k) w is h = subst LightWhat (same_Some _ w is) tt
command_what line tags (command.Jump title) w is h = subst LightWhat (same_Some _ w is) tt
command_what line tags (command.JumpTo e) w is h = subst LightWhat (same_Some _ w is) h
command_what line tags command.Stop w is h = subst LightWhat (same_Some _ w is) tt
command_what line tags (command.Call e) w is h = subst LightWhat (same_Some _ w is) h
command_what line tags command.Game w is h = absurd cc

item_what : (line : ℕ) (id : List ℕ) (i : Item) (w : What) → what_at line id i ≡ Some w → LightItem i → LightWhat w
item_what line id (item.Line said) w is h = subst LightWhat (same_Some _ w is) h
item_what line id (item.Offer said asked) w is h = subst LightWhat (same_Some _ w is) h
item_what line id (item.Command own tags) w is h = command_what line tags own w is h
item_what line id (item.Game said) w is h = subst LightWhat (same_Some _ w is) h
item_what line id (item.FileTag tag) w is h = absurd cc
item_what line id (item.Header header) w is h = absurd cc
item_what line id item.BodyBegins w is h = absurd cc
item_what line id item.NodeEnds w is h = absurd cc

pub entries_light : (items : List ItemAt) (entries : List Entry) → AreEntries items entries → Each (λ (x : ItemAt). LightItem x.item) items → Each LightEntry entries
entries_light [] [] is h = tt
entries_light [] (entry ∷ entries) is h = absurd is
entries_light (x ∷ items) [] is h = absurd is
entries_light (x ∷ items) (entry ∷ entries) is h = (item_what x.line (id_in (said_by entry.what)) x.item entry.what is.0.is h.0, entries_light items entries is.1 h.1)
