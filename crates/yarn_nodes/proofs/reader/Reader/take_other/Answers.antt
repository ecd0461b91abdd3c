use Rattle.std.proofs.Common.{◌≡◌, ◌∙◌, sym, ap, Some, None}
use Rattle.std.proofs.lemmas.Result.{on_ok_weaker}
use Rattle.yarn_items.specs.declared.item.Mode.{Mode}
use Rattle.yarn_items.specs.Form.{found_of}
use Rattle.yarn_nodes.specs.declared.node.Notes.{Notes}
use Rattle.yarn_nodes.specs.declared.reader.Reader.{Reader}
use Rattle.yarn_nodes.specs.Reading.{read_on, item_taken, found_noted}
use Rattle.yarn_nodes.specs.Structure.{mode_of}
use Rattle.yarn_nodes.proofs.ReaderLemmas.{item-read, nothing-read}
use Rattle.yarn_nodes.proofs.reader.Reader.take_other.Goals as goal

pub returns-in-Some : goal.returns-in-Some
returns-in-Some c =
    let reader = c.args.self.now in
    let line = c.args.line in
    let found : found_of (mode_of reader.stand) line.text ≡ Some c.in-Some.found =
    ap (λ (m : Mode). found_of m line.text) (sym c.mode.ensures) ∙ sym c.in_ok-found.ensures ∙ c.in-Some.is in
    let noted : found_noted reader.notes line.number (Some c.in-Some.found) ≡ c.note_found.new.self =
    ap (found_noted reader.notes line.number) (sym c.in-Some.is) ∙ sym c.note_found.ensures in
    on_ok_weaker c.take_item.result
    (λ same. λ number name end lines. item-read reader line c.in-Some.found found number name end lines
    ∙ ap (λ (notes : Notes). read_on (item_taken (record reader { notes = notes })
    (record { line = line.number; indent = line.indent; item = c.in-Some.found.item })) number name end lines) noted
    ∙ ap (λ (next : Reader). read_on next number name end lines) (sym same)) c.take_item.ensures

pub returns-in-None : goal.returns-in-None
returns-in-None c =
    let reader = c.args.self.now in
    let line = c.args.line in
    let found : found_of (mode_of reader.stand) line.text ≡ None =
    ap (λ (m : Mode). found_of m line.text) (sym c.mode.ensures) ∙ sym c.in_ok-found.ensures ∙ c.in-None.is in
    let noted : found_noted reader.notes line.number None ≡ c.note_found.new.self =
    ap (found_noted reader.notes line.number) (sym c.in-None.is) ∙ sym c.note_found.ensures in
    λ number name end lines. nothing-read reader line found number name end lines
    ∙ ap (λ (notes : Notes). read_on (record reader { notes = notes }) number name end lines) noted
