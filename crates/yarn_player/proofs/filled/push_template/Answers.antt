use Rattle.std.proofs.Common.{◌≡◌, length, rules}
use Rattle.yarn_player.proofs.FilledLemmas.{by_template, no_template}
use Rattle.yarn_player.proofs.filled.push_template.Goals as goal

pub returns-in_ok-extend_from_slice-in-Ok : goal.returns-in_ok-extend_from_slice-in-Ok
returns-in_ok-extend_from_slice-in-Ok c =
    let all : c.in_ok-holes.holes ≡ length c.args.values.now = search rules in
    let e = by_template c.args.text.now c.args.values.now c.in_ok-holes.holes c.in-Ok.template.parts all c.in-Ok.ensures.parts in
    search (rules, e)

pub returns-in_ok-extend_from_slice-in-Err-NotTemplate : goal.returns-in_ok-extend_from_slice-in-Err-NotTemplate
returns-in_ok-extend_from_slice-in-Err-NotTemplate c =
    let all : c.in_ok-holes.holes ≡ length c.args.values.now = search rules in
    let no = rw c.in-Err-NotTemplate.field-0-is at c.in-Err-NotTemplate.ensures.parts in
    let e = no_template c.args.text.now c.args.values.now c.in_ok-holes.holes all no in
    search (rules, e)
