use Rattle.std.proofs.Common.{◌≡◌, Ok, [], subst, sym, ◌∙◌, ◌&&◌, rules}
use Rattle.std.specs.Str.{chars}
use Rattle.std.proofs.lemmas.Result.{err_from_is_err_and}
use Rattle.yarn_base.specs.Name.{is_name_of}
use Rattle.yarn_code.specs.Decoding.{Stopped, is_free}
use Rattle.yarn_code.specs.Format.{times}
use Rattle.yarn_code.specs.FormatReading.{text_at}
use Rattle.yarn_code.specs.Layout.{instructions}
use Rattle.yarn_code.proofs.BeginLemmas.{node_begins, behind_code}
use Rattle.yarn_code.proofs.ReadLoops.{then_ok, then_stops}
use Rattle.yarn_code.proofs.decoding.read_node.Goals as goal

pub returns-in_err-code-clause-value : goal.returns-in_err-code-clause-value
returns-in_err-code-clause-value c =
    let title : text_at (λ t. is_name_of (chars t) && is_free c.args.titles.now t) c.args.bytes.now ≡ Ok (c.in_ok-name.name.now, c.in_ok-name.rest.now) = search rules in
    let first = node_begins c.args.files (is_free c.args.titles.now) c.args.bytes.now c.in_ok-name.name.now c.in_ok-name.rest.now c.in_ok-file.file c.in_ok-file.rest.now c.in_ok-count.count c.in_ok-count.rest.now title c.in_ok-file.ensures c.in_ok-count.ensures in
    let stop = c.in_err-code.field-0.0 in
    let p = err_from_is_err_and c.from_residual-in_err-code.result c.from_residual-in_err-code.ensures.1 in
    rw (p.1, p.2) (subst (Stopped stop) (sym first) (then_stops (times c.in_ok-count.count instructions []) (behind_code c.in_ok-name.name.now c.in_ok-file.file) c.in_ok-count.rest.now stop c.in_err-code.ensures))

pub returns-clause-value : goal.returns-clause-value
returns-clause-value c =
    let title : text_at (λ t. is_name_of (chars t) && is_free c.args.titles.now t) c.args.bytes.now ≡ Ok (c.in_ok-name.name.now, c.in_ok-name.rest.now) = search rules in
    let first = node_begins c.args.files (is_free c.args.titles.now) c.args.bytes.now c.in_ok-name.name.now c.in_ok-name.rest.now c.in_ok-file.file c.in_ok-file.rest.now c.in_ok-count.count c.in_ok-count.rest.now title c.in_ok-file.ensures c.in_ok-count.ensures in
    let name_is : c.in_ok-title.title ≡ c.in_ok-name.name.now = c.in_ok-title.ensures in
    rw name_is (first ∙ then_ok (times c.in_ok-count.count instructions []) (behind_code c.in_ok-name.name.now c.in_ok-file.file) c.in_ok-count.rest.now c.in_ok-code.code c.in_ok-code.rest.now c.in_ok-code.ensures)
