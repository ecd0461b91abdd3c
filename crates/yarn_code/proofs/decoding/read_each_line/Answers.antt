use Rattle.std.proofs.Common.{◌≡◌, ◌++◌, ◌∷◌, [], Ok, subst, sym, rules}
use Rattle.std.proofs.lemmas.Result.{err_from_is_err_and}
use Rattle.yarn_code.specs.Decoding.{Stopped, is_free}
use Rattle.yarn_code.specs.Fields.{ids_of}
use Rattle.yarn_code.specs.Format.{times}
use Rattle.yarn_code.specs.FormatReading.{read}
use Rattle.yarn_code.specs.Layout.{base_line, is_new}
use Rattle.yarn_code.proofs.ReadLoops.{begins, ends, goes_on}
use Rattle.yarn_code.proofs.NameLemmas.{none_taken, one_taken, ids-push, base_line_as}
use Rattle.yarn_code.proofs.decoding.read_each_line.Goals as goal

pub loop-init : goal.loop-init
loop-init c =
    let none : c.new-lines.result.items ≡ [] = search rules in
    (begins (base_line c.args.files c.args.nodes) c.args.count c.new-lines.result.items c.args.bytes.now none, subst (λ l. is_free c.new-ids.result ≡ is_new (ids_of l)) (sym none) (none_taken (is_free c.new-ids.result) c.new-ids.ensures))

pub returns-in_err-one : goal.returns-in_err-one
returns-in_err-one c =
    let p = err_from_is_err_and c.from_residual.result c.from_residual.ensures.1 in
    let stop = c.in_err-one.field-0.0 in
    rw (p.1, p.2) (ends (base_line c.args.files c.args.nodes) c.loop.lines.items c.args.count c.loop.counter c.loop.rest.now stop (read (times c.args.count (base_line c.args.files c.args.nodes) []) c.args.bytes.now) c.loop-test.true (subst (λ f. Stopped stop (read f c.loop.rest.now)) (base_line_as c.args.files c.args.nodes c.loop.lines.items (is_free c.loop.ids) c.loop.invariant.1) c.in_err-one.ensures.value) c.loop.invariant.0)

pub loop-preserved : goal.loop-preserved
loop-preserved c =
    let one = c.in_ok-one.one in
    let more : c.push.new.self.items ≡ c.loop.lines.items ++ one ∷ [] = c.in_ok-push.ensures.items in
    let reads = goes_on (base_line c.args.files c.args.nodes) c.loop.lines.items c.args.count c.loop.counter c.loop.rest.now one c.in_ok-one.after.now (read (times c.args.count (base_line c.args.files c.args.nodes) []) c.args.bytes.now) c.loop-test.true (subst (λ f. read f c.loop.rest.now ≡ Ok (one, c.in_ok-one.after.now)) (base_line_as c.args.files c.args.nodes c.loop.lines.items (is_free c.loop.ids) c.loop.invariant.1) c.in_ok-one.ensures.value) c.loop.invariant.0 in
    let known = one_taken (ids_of c.loop.lines.items) one.id (is_free c.loop.ids) (is_free c.read_line.new.ids) c.loop.invariant.1 c.in_ok-one.ensures.taken in
    rw more (reads, subst (λ l. is_free c.read_line.new.ids ≡ is_new l) (sym (ids-push c.loop.lines.items one)) known)
