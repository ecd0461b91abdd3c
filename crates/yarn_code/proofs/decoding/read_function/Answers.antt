use Rattle.std.proofs.Common.{◌≡◌, ℕ, Bool, List, Ok, [], subst, sym, ◌∙◌, ◌&&◌, rules}
use Rattle.std.proofs.lemmas.Result.{err_from_is_err_and}
use Rattle.yarn_value.specs.declared.value.Kind.{Kind}
use Rattle.yarn_code.specs.Decoding.{Stopped, is_free}
use Rattle.yarn_code.specs.Format.{Ends, U8, times}
use Rattle.yarn_code.specs.FormatReading.{number_at, text_at, read}
use Rattle.yarn_code.specs.Layout.{is_few, is_host_name, kinds, kind_field, function_with}
use Rattle.yarn_code.proofs.BeginLemmas.{function_begins, behind_params}
use Rattle.yarn_code.proofs.ReadLoops.{then_ok, then_stops, stops_behind}
use Rattle.yarn_code.proofs.decoding.read_function.Goals as goal

pub returns-in_err-params-clause-value : goal.returns-in_err-params-clause-value
returns-in_err-params-clause-value c =
    let title : text_at (λ t. is_host_name t && is_free c.args.names.now t) c.args.bytes.now ≡ Ok (c.in_ok-name.name.now, c.in_ok-name.rest.now) = search rules in
    let first = function_begins (is_free c.args.names.now) c.args.bytes.now c.in_ok-name.name.now c.in_ok-name.rest.now c.in_ok-count.count c.in_ok-count.rest.now title c.in_ok-count.ensures in
    let stop = c.in_err-params.field-0.0 in
    let p = err_from_is_err_and c.from_residual-in_err-params.result c.from_residual-in_err-params.ensures.1 in
    rw (p.1, p.2) (subst (Stopped stop) (sym first) (then_stops (times c.in_ok-count.count kinds []) (behind_params c.in_ok-name.name.now) c.in_ok-count.rest.now stop c.in_err-params.ensures))

pub returns-in_err-result-clause-value : goal.returns-in_err-result-clause-value
returns-in_err-result-clause-value c =
    let title : text_at (λ t. is_host_name t && is_free c.args.names.now t) c.args.bytes.now ≡ Ok (c.in_ok-name.name.now, c.in_ok-name.rest.now) = search rules in
    let first = function_begins (is_free c.args.names.now) c.args.bytes.now c.in_ok-name.name.now c.in_ok-name.rest.now c.in_ok-count.count c.in_ok-count.rest.now title c.in_ok-count.ensures in
    let stop = c.in_err-result.field-0.0 in
    let p = err_from_is_err_and c.from_residual-in_err-result.result c.from_residual-in_err-result.ensures.1 in
    let last = then_stops kind_field (λ result. Ends (record { name = c.in_ok-name.name.now; params = c.in_ok-params.params; result = result })) c.in_ok-params.rest.now stop c.in_err-result.ensures in
    rw (p.1, p.2) (subst (Stopped stop) (sym first) (stops_behind (times c.in_ok-count.count kinds []) (behind_params c.in_ok-name.name.now) c.in_ok-count.rest.now c.in_ok-params.params c.in_ok-params.rest.now stop c.in_ok-params.ensures last))

function_read : (free : List ℕ → Bool) (bytes name r1 : List ℕ) (count : ℕ) (r2 : List ℕ) (params : List Kind) (r3 : List ℕ) (result : Kind) (r4 : List ℕ) → text_at (λ t. is_host_name t && free t) bytes ≡ Ok (name, r1)
    → number_at U8 is_few r1 ≡ Ok (count, r2) → read (times count kinds []) r2 ≡ Ok (params, r3) → read kind_field r3 ≡ Ok (result, r4)
    → read (function_with free) bytes ≡ Ok (record { name = name; params = params; result = result }, r4)
function_read free bytes name r1 count r2 params r3 result r4 t n p k =
    function_begins free bytes name r1 count r2 t n
    ∙ then_ok (times count kinds []) (behind_params name) r2 params r3 p
    ∙ then_ok kind_field (λ r. Ends (record { name = name; params = params; result = r })) r3 result r4 k

pub returns-clause-value : goal.returns-clause-value
returns-clause-value c =
    let title : text_at (λ t. is_host_name t && is_free c.args.names.now t) c.args.bytes.now ≡ Ok (c.in_ok-name.name.now, c.in_ok-name.rest.now) = search rules in
    let name_is : c.in_ok-text.text ≡ c.in_ok-name.name.now = c.in_ok-text.ensures in
    rw name_is (function_read (is_free c.args.names.now) c.args.bytes.now c.in_ok-name.name.now c.in_ok-name.rest.now c.in_ok-count.count c.in_ok-count.rest.now c.in_ok-params.params c.in_ok-params.rest.now c.in_ok-result.result c.in_ok-result.rest.now title c.in_ok-count.ensures c.in_ok-params.ensures c.in_ok-result.ensures)
