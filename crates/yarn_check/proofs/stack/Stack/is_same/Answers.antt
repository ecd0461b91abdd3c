use Rattle.std.proofs.Common.{◌≡◌, true, false, sym, ◌∙◌, map, ap, ◌&&◌, nat_eq}
use Rattle.std.specs.Cmp.Lexicographic.{pointwise}
use Rattle.yarn_check.specs.Pass.{same_entry}
use Rattle.yarn_check.specs.Views.{entry_of}
use Rattle.yarn_check.proofs.CellLists.{both_reversed}
use Rattle.yarn_check.proofs.stack.Stack.is_same.Goals as goal

pub returns-then-same_entries : goal.returns-then-same_entries
returns-then-same_entries c =
    let a = map entry_of c.args.self.now.entries.items in
    let b = map entry_of c.args.other.now.entries.items in
    let e = both_reversed a b in
    let first : pointwise same_entry (map entry_of c.as_slice.result.now) (map entry_of c.as_slice-2.result.now) ≡ true = cc in
    let moved : pointwise same_entry a b ≡ true = cc in
    c.eq.ensures ∙ ap (λ t. t && pointwise nat_eq c.args.self.now.pending c.args.other.now.pending) (sym (sym e ∙ moved))

pub returns-else-same_entries : goal.returns-else-same_entries
returns-else-same_entries c =
    let a = map entry_of c.args.self.now.entries.items in
    let b = map entry_of c.args.other.now.entries.items in
    let e = both_reversed a b in
    let first : pointwise same_entry (map entry_of c.as_slice.result.now) (map entry_of c.as_slice-2.result.now) ≡ false = cc in
    let moved : pointwise same_entry a b ≡ false = cc in
    c.if-same_entries.false ∙ ap (λ t. t && pointwise nat_eq c.args.self.now.pending c.args.other.now.pending) (sym (sym e ∙ moved))
