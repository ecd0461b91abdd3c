use Rattle.std.proofs.Common.{◌≡◌, ◌∙◌, List, ℕ, Some, None, ap, sym}
use Rattle.std.specs.List.{zip}
use Rattle.yarn_value.specs.Templates.{Form}
use Rattle.yarn_table.specs.Gathering.{missing_among, read_among, refused_among}
use Rattle.yarn_table.proofs.GatheringLemmas.{tells_missing, tells_refused, tells_table}
use Rattle.yarn_table.proofs.gathered.Gathered.finish.Goals as goal

pub returns-in-Some-first_missing : goal.returns-in-Some-first_missing
returns-in-Some-first_missing c = λ base rows is.
    let found = rw (c.in-Some-first_missing.is, c.as_slice.ensures.keys, c.as_slice-2.ensures.value) at c.first_missing.ensures in
    tells_missing base rows c.args.self is c.in_ok-copy.field-0 c.in_default.is (ap (λ id. Some id) c.in_ok-copy.ensures ∙ found)

pub returns-in-Some-first_refused : goal.returns-in-Some-first_refused
returns-in-Some-first_refused c = λ base rows is.
    let all = rw (c.in_default-first_missing.is, c.as_slice.ensures.keys, c.as_slice-2.ensures.value) at c.first_missing.ensures in
    let found = rw (c.in-Some-first_refused.is, c.as_slice-3.ensures.keys, c.as_slice-4.ensures.value) at c.first_refused.ensures in
    tells_refused base rows c.args.self is c.in_ok-copy-2.field-0 c.in_default.is all (ap (λ id. Some id) c.in_ok-copy-2.ensures ∙ found)

pub returns : goal.returns
returns c = λ base rows is.
    let all = rw (c.in_default-first_missing.is, c.as_slice.ensures.keys, c.as_slice-2.ensures.value) at c.first_missing.ensures in
    let good = rw (c.in_default-first_refused.is, c.as_slice-3.ensures.keys, c.as_slice-4.ensures.value) at c.first_refused.ensures in
    let made : c.new.result ≡ zip c.args.self.ids.keys c.in_ok-templates_in.field-0.items = c.new.ensures ∙ ap (λ ids. zip ids.keys c.in_ok-templates_in.field-0.items) c.ids.view_is in
    let read : c.in_ok-templates_in.field-0.items ≡ read_among c.args.self.held.items = c.in_ok-templates_in.ensures in
    tells_table base rows c.args.self is c.new.result c.in_default.is all good (made ∙ ap (λ forms. zip c.args.self.ids.keys forms) read)
