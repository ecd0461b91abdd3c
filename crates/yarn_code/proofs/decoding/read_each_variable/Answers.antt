use Rattle.std.proofs.Common.{◌≡◌, ◌++◌, ◌∷◌, [], Ok, subst, sym, rules}
use Rattle.std.proofs.lemmas.Result.{err_from_is_err_and}
use Rattle.yarn_code.specs.Decoding.{Stopped, is_free}
use Rattle.yarn_code.specs.Fields.{names_of}
use Rattle.yarn_code.specs.Format.{times}
use Rattle.yarn_code.specs.FormatReading.{read}
use Rattle.yarn_code.specs.Layout.{variable, is_new}
use Rattle.yarn_code.proofs.ReadLoops.{begins, ends, goes_on}
use Rattle.yarn_code.proofs.NameLemmas.{none_taken, one_taken, names-push, variable_as}
use Rattle.yarn_code.proofs.decoding.read_each_variable.Goals as goal

pub loop-init : goal.loop-init
loop-init c =
    let none : c.new-variables.result.items ≡ [] = search rules in
    (begins variable c.args.count c.new-variables.result.items c.args.bytes.now none, subst (λ l. is_free c.new-names.result ≡ is_new (names_of l)) (sym none) (none_taken (is_free c.new-names.result) c.new-names.ensures))

pub returns-in_err-one : goal.returns-in_err-one
returns-in_err-one c =
    let p = err_from_is_err_and c.from_residual.result c.from_residual.ensures.1 in
    let stop = c.in_err-one.field-0.0 in
    rw (p.1, p.2) (ends variable c.loop.variables.items c.args.count c.loop.counter c.loop.rest.now stop (read (times c.args.count variable []) c.args.bytes.now) c.loop-test.true (subst (λ f. Stopped stop (read f c.loop.rest.now)) (variable_as c.loop.variables.items (is_free c.loop.names) c.loop.invariant.1) c.in_err-one.ensures.value) c.loop.invariant.0)

pub loop-preserved : goal.loop-preserved
loop-preserved c =
    let one = c.in_ok-one.one in
    let more : c.push.new.self.items ≡ c.loop.variables.items ++ one ∷ [] = c.in_ok-push.ensures.items in
    let reads = goes_on variable c.loop.variables.items c.args.count c.loop.counter c.loop.rest.now one c.in_ok-one.after.now (read (times c.args.count variable []) c.args.bytes.now) c.loop-test.true (subst (λ f. read f c.loop.rest.now ≡ Ok (one, c.in_ok-one.after.now)) (variable_as c.loop.variables.items (is_free c.loop.names) c.loop.invariant.1) c.in_ok-one.ensures.value) c.loop.invariant.0 in
    let known = one_taken (names_of c.loop.variables.items) one.name (is_free c.loop.names) (is_free c.read_variable.new.names) c.loop.invariant.1 c.in_ok-one.ensures.taken in
    rw more (reads, subst (λ l. is_free c.read_variable.new.names ≡ is_new l) (sym (names-push c.loop.variables.items one)) known)
