use Rattle.std.proofs.Common.{◌≡◌, ◌++◌, ◌∷◌, [], codes, ap, ◌∙◌}
use Rattle.std.specs.Fmt.{decimal}
use Rattle.yarn_code.specs.declared.program.Instr.TheVariants as code
use Rattle.yarn_code.specs.Listing.{spaced}
use Rattle.yarn_code.proofs.CodedLemmas.{OnOk-map}
use Rattle.yarn_code.proofs.WordLemmas.{told_words}
use Rattle.yarn_code.proofs.instruction_words.put_instr.Goals as goal

pub returns-in_ok-text-in-PushString : goal.returns-in_ok-text-in-PushString
returns-in_ok-text-in-PushString c =
    OnOk-map c.put_named-in-PushString.result
    (λ is. told_words c.args.instr.now (code.PushString c.in-PushString.text) c.args.out.now c.put_named-in-PushString.new.out c.in-PushString.is
    (is ∙ ap (λ q. c.args.out.now ++ spaced (codes "PUSH_STRING" ∷ q ∷ [])) (c.as_str-in-PushString.ensures.value ∙ c.in_ok-text-in-PushString.ensures)))
    c.put_named-in-PushString.ensures

pub returns-in-CallFunc : goal.returns-in-CallFunc
returns-in-CallFunc c =
    OnOk-map c.put_counted-in-CallFunc.result
    (λ is. told_words c.args.instr.now (code.CallFunc c.in-CallFunc.count c.in-CallFunc.name) c.args.out.now c.put_counted-in-CallFunc.new.out c.in-CallFunc.is
    (is ∙ ap (λ q. c.args.out.now ++ spaced (codes "CALL_FUNC" ∷ decimal c.in-CallFunc.count ∷ q ∷ [])) c.as_str-in-CallFunc.ensures.value))
    c.put_counted-in-CallFunc.ensures
