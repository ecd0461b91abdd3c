use Rattle.std.proofs.Common.{refl, arith}
use Rattle.yarn_host.proofs.NameLemmas.{place_of-bound, reply_test}
use Rattle.yarn_host.proofs.AskLemmas.{replies_at, fails_at, loses_at, loses_reply_at, judged_reply}
use Rattle.yarn_host.proofs.table.Table.ask_at.Goals as goal

pub reply_kind-kind-requires : goal.reply_kind-kind-requires
reply_kind-kind-requires g c = place_of-bound c.args.self.now.signatures c.args.name.now c.args.at c.requires

pub call_in-requires : goal.call_in-requires
call_in-requires g c =
    omega (arith, place_of-bound c.args.self.now.signatures c.args.name.now c.args.at c.requires, c.args.self.now.paired)

pub returns-in-Ok-note : goal.returns-in-Ok-note
returns-in-Ok-note g c =
    let t = c.args.self.now in
    judged_reply c.judged.result c.in-Ok-note.value _ _ _ c.args.name.now c.args.args.now
    (reply_test t.signatures c.args.name.now c.args.at c.reply_kind-kind.result c.in-Ok-note.value c.requires c.reply_kind-kind.ensures)
    c.judged.ensures.ok c.judged.ensures.err
    (replies_at _ t.signatures t.functions.items _ t.tape _ c.args.name.now c.args.args.now c.args.at t.paired c.requires c.in-Ok-call_in.value _ _ _ c.in-Ok-call_in.ensures c.in-Ok-note.ensures.value c.in-Ok.ensures c.in-Ok-copy_values.ensures c.in-Ok-note.ensures.tape)

pub returns-in-Ok-call_in : goal.returns-in-Ok-call_in
returns-in-Ok-call_in g c =
    let t = c.args.self.now in
    loses_reply_at _ t.signatures t.functions.items _ t.tape _ c.args.name.now c.args.args.now c.args.at t.paired c.requires c.in-Ok-call_in.value c.in-Ok-call_in.ensures c.in-Err.ensures.err

pub returns-in-Err-Failed : goal.returns-in-Err-Failed
returns-in-Err-Failed g c =
    let t = c.args.self.now in
    fails_at _ t.signatures t.functions.items _ t.tape _ c.args.name.now c.args.args.now c.args.at t.paired c.requires (rw c.in-Err-Failed.field-0-is at c.in-Err-Failed.ensures) refl

pub returns : goal.returns
returns g c =
    let t = c.args.self.now in
    loses_at _ t.signatures t.functions.items _ t.tape _ c.args.name.now c.args.args.now c.args.at t.paired c.requires (rw c.in-Err-Memory.field-0-is at c.in-Err-Memory.ensures) refl
