-- What is printed of a line of a body is the same item, and stands on a line by itself.
use Rattle.std.proofs.Common.{◌≡◌, ℕ, List, [], Bool, nat_eq, Some, ap, subst}
use Rattle.yarn_expr.specs.declared.token.Token.{Token}
use Rattle.yarn_commands.specs.declared.command.Command.{Command}
use Rattle.yarn_commands.specs.declared.command.Command.TheVariants as command
use Rattle.yarn_commands.specs.Print.{content_text}
use Rattle.yarn_items.specs.declared.item.Mode.TheVariants.{InBody}
use Rattle.yarn_items.specs.declared.item.Item.{Item}
use Rattle.yarn_items.specs.declared.item.Item.TheVariants as item
use Rattle.yarn_items.specs.Item.{IsForm}
use Rattle.yarn_blocks.specs.declared.entry.What.{What}
use Rattle.yarn_blocks.specs.declared.entry.What.TheVariants as what
use Rattle.yarn_blocks.specs.declared.entry.Simple.TheVariants as simple
use Rattle.yarn_nodes.specs.Entries.{text_at, head_at, command_at, what_at}
use Rattle.yarn_print.specs.Print.{content_line, what_text}
use Rattle.yarn_print.specs.PrintLaws.{LinesPrinted, PrintedAlone}
use Rattle.yarn_print.proofs.Quiet.{OnlyBreaks, only-feeds, only-returns, Fits}
use Rattle.yarn_print.proofs.Tight.{solid-trimmed, solid-some}
use Rattle.yarn_print.proofs.PrintLine.{IsAgain, again-line}
use Rattle.yarn_print.proofs.PrintOffer.{again-offer}
use Rattle.yarn_print.proofs.PrintCommand.{again-command}
use Rattle.yarn_print.proofs.PrintGameLine.{again-game}

-- what is printed of a command that isn't for the game
command-line : (line : ℕ) (tags : List (List ℕ)) (c : Command) (w : What) → command_at line tags c ≡ Some w → content_line (content_text c) tags ≡ what_text w
command-line line tags (command.If e) w is = let same : what.If (head_at line tags) e ≡ w = cc in ap what_text same
command-line line tags (command.ElseIf e) w is = let same : what.ElseIf (head_at line tags) e ≡ w = cc in ap what_text same
command-line line tags command.Else w is = let same : what.Else (head_at line tags) ≡ w = cc in ap what_text same
command-line line tags command.EndIf w is = let same : what.EndIf (head_at line tags) ≡ w = cc in ap what_text same
command-line line tags (command.Set name op e) w is = let same : what.Statement (simple.Set (head_at line tags) name op e) ≡ w = cc in ap what_text same
command-line line tags (command.Declare name value kind) w is = let same : what.Statement (simple.Declare (head_at line tags) name value kind) ≡ w = cc in ap what_text same
command-line line tags (command.Jump title) w is = let same : what.Statement (simple.Jump (head_at line tags) title) ≡ w = cc in ap what_text same
command-line line tags (command.JumpTo e) w is = let same : what.Statement (simple.JumpTo (head_at line tags) e) ≡ w = cc in ap what_text same
command-line line tags command.Stop w is = let same : what.Statement (simple.Stop (head_at line tags)) ≡ w = cc in ap what_text same
command-line line tags (command.Call e) w is = let same : what.Statement (simple.Call (head_at line tags) e) ≡ w = cc in ap what_text same
command-line line tags command.Game w is = absurd cc

-- any line of a body
pub again-what : (test : ℕ → Bool) → OnlyBreaks test → (text : List ℕ) (line : ℕ) (id : List ℕ) (tokens : List Token) (own : Item) (w : What) → Fits test text → IsForm InBody text tokens own → what_at line id own ≡ Some w →
    IsAgain test (what_text w) own
again-what test only text line id tokens (item.Line said) w fits form is =
    let same : what.Statement (simple.Line (text_at line id said)) ≡ w = cc in
    subst (λ (x : What). IsAgain test (what_text x) (item.Line said)) same (again-line test only text tokens said fits form)
again-what test only text line id tokens (item.Offer said asked) w fits form is =
    let same : what.Offer (text_at line id said) asked ≡ w = cc in
    subst (λ (x : What). IsAgain test (what_text x) (item.Offer said asked)) same (again-offer test only text tokens said asked fits form)
again-what test only text line id tokens (item.Command own tags) w fits form is =
    subst (λ l. IsAgain test l (item.Command own tags)) (command-line line tags own w is) (again-command test only text tokens own tags fits form)
again-what test only text line id tokens (item.Game said) w fits form is =
    let same : what.Statement (simple.Command (text_at line [] said)) ≡ w = cc in
    subst (λ (x : What). IsAgain test (what_text x) (item.Game said)) same (again-game test only text tokens said fits form)
again-what test only text line id tokens (item.FileTag tag) w fits form is = absurd cc
again-what test only text line id tokens (item.Header header) w fits form is = absurd cc
again-what test only text line id tokens item.BodyBegins w fits form is = absurd cc
again-what test only text line id tokens item.NodeEnds w fits form is = absurd cc

pub lines-printed : LinesPrinted
lines-printed text line id own w utf8 has is =
    let a = again-what (λ b. nat_eq b 13) only-returns text line id has.0 own w (record { utf8 = utf8; free = has.1.0 }) has.1.1 is in
    (a.tokens, (a.fits.free, a.form))

pub printed-alone : PrintedAlone
printed-alone text line id own w alone has is =
    let a = again-what (λ b. nat_eq b 10) only-feeds text line id has.0 own w (record { utf8 = alone.utf8; free = alone.one }) has.1.1 is in
    record {
      one = a.fits.free;
      bare = solid-trimmed (what_text w) a.solid;
      some = solid-some (what_text w) a.solid;
      counts = a.no_comment;
      utf8 = a.fits.utf8;
    }
