use Rattle.std.proofs.Common.{refl, subst, arith}
use Rattle.yarn_code.specs.declared.program.Instr.TheVariants as code
use Rattle.yarn_code.specs.Fields.{HasOperands, HasWords}
use Rattle.yarn_code.specs.Layout.{any, is_short, is_template}
use Rattle.yarn_code.proofs.CodedLemmas.{OnOk-map, bare_written, label_written, named_written, counted_written, option_written, bool_written, float_written, short_passes, short_word, template_passes}
use Rattle.yarn_code.proofs.encoded_code.put_coded.Goals as goal

pub returns-in-JumpTo : goal.returns-in-JumpTo
returns-in-JumpTo c = OnOk-map c.put_label.result (label_written c.args.one.now 0 code.JumpTo c.in-JumpTo.label c.args.out.now c.put_label.new.out refl (omega arith) refl c.in-JumpTo.is c.requires.words (subst HasWords c.in-JumpTo.is c.requires.words.operands)) c.put_label.ensures

pub returns-in-Jump : goal.returns-in-Jump
returns-in-Jump c = OnOk-map c.put_head.result (bare_written c.args.one.now 1 code.Jump c.args.out.now c.put_head.new.out refl (omega arith) refl c.in-Jump.is c.requires.words) c.put_head.ensures

pub returns-in-RunLine : goal.returns-in-RunLine
returns-in-RunLine c = OnOk-map c.put_counted.result (counted_written c.args.one.now 2 (λ n. any) code.RunLine c.in-RunLine.count c.in-RunLine.id c.args.out.now c.put_counted.new.out refl (omega arith) refl c.in-RunLine.is c.requires.words (subst HasOperands c.in-RunLine.is c.requires.operands) (subst HasWords c.in-RunLine.is c.requires.words.operands) refl) c.put_counted.ensures

pub returns-in-RunCommand : goal.returns-in-RunCommand
returns-in-RunCommand c = let operands = (subst HasOperands c.in-RunCommand.is c.requires.operands) in OnOk-map c.put_counted-in-RunCommand.result (counted_written c.args.one.now 3 is_template code.RunCommand c.in-RunCommand.count c.in-RunCommand.text c.args.out.now c.put_counted-in-RunCommand.new.out refl (omega arith) refl c.in-RunCommand.is c.requires.words operands.few (subst HasWords c.in-RunCommand.is c.requires.words.operands) (template_passes c.in-RunCommand.text c.in-RunCommand.count operands)) c.put_counted-in-RunCommand.ensures

pub returns-in_ok-put_u32-in-AddOption : goal.returns-in_ok-put_u32-in-AddOption
returns-in_ok-put_u32-in-AddOption c = let words = (subst HasWords c.in-AddOption.is c.requires.words.operands) in OnOk-map c.put_truth.result (option_written c.args.one.now c.in-AddOption.count c.in-AddOption.label c.in-AddOption.id c.in-AddOption.conditional c.args.out.now c.put_counted-in-AddOption.new.out c.put_u32.new.out c.put_truth.new.out c.in-AddOption.is c.requires.words (subst HasOperands c.in-AddOption.is c.requires.operands) words.0 words.1 c.in_ok-put_counted-in-AddOption.ensures c.in_ok-put_u32-in-AddOption.ensures) c.put_truth.ensures

pub returns-in-ShowOptions : goal.returns-in-ShowOptions
returns-in-ShowOptions c = OnOk-map c.put_head-in-ShowOptions.result (bare_written c.args.one.now 5 code.ShowOptions c.args.out.now c.put_head-in-ShowOptions.new.out refl (omega arith) refl c.in-ShowOptions.is c.requires.words) c.put_head-in-ShowOptions.ensures

pub returns-in-PushString : goal.returns-in-PushString
returns-in-PushString c = OnOk-map c.put_named.result (named_written c.args.one.now 6 is_short code.PushString c.in-PushString.text c.args.out.now c.put_named.new.out refl (omega arith) refl c.in-PushString.is c.requires.words (short_word c.in-PushString.text (subst HasOperands c.in-PushString.is c.requires.operands)) (short_passes c.in-PushString.text (subst HasOperands c.in-PushString.is c.requires.operands))) c.put_named.ensures

pub returns-in_ok-put_head-in-PushFloat : goal.returns-in_ok-put_head-in-PushFloat
returns-in_ok-put_head-in-PushFloat c = OnOk-map c.put_i64.result (float_written c.args.one.now c.in-PushFloat.number c.args.out.now c.put_head-in-PushFloat.new.out c.put_i64.new.out c.in-PushFloat.is c.requires.words (subst HasOperands c.in-PushFloat.is c.requires.operands) c.in_ok-put_head-in-PushFloat.ensures) c.put_i64.ensures

pub returns-in_ok-put_head-in-PushBool : goal.returns-in_ok-put_head-in-PushBool
returns-in_ok-put_head-in-PushBool c = OnOk-map c.put_truth-in-PushBool.result (bool_written c.args.one.now c.in-PushBool.value c.args.out.now c.put_head-in-PushBool.new.out c.put_truth-in-PushBool.new.out c.in-PushBool.is c.requires.words c.in_ok-put_head-in-PushBool.ensures) c.put_truth-in-PushBool.ensures

pub returns-in-PushNull : goal.returns-in-PushNull
returns-in-PushNull c = OnOk-map c.put_head-in-PushNull.result (bare_written c.args.one.now 9 code.PushNull c.args.out.now c.put_head-in-PushNull.new.out refl (omega arith) refl c.in-PushNull.is c.requires.words) c.put_head-in-PushNull.ensures

pub returns-in-JumpIfFalse : goal.returns-in-JumpIfFalse
returns-in-JumpIfFalse c = OnOk-map c.put_label-in-JumpIfFalse.result (label_written c.args.one.now 10 code.JumpIfFalse c.in-JumpIfFalse.label c.args.out.now c.put_label-in-JumpIfFalse.new.out refl (omega arith) refl c.in-JumpIfFalse.is c.requires.words (subst HasWords c.in-JumpIfFalse.is c.requires.words.operands)) c.put_label-in-JumpIfFalse.ensures

pub returns-in-Pop : goal.returns-in-Pop
returns-in-Pop c = OnOk-map c.put_head-in-Pop.result (bare_written c.args.one.now 11 code.Pop c.args.out.now c.put_head-in-Pop.new.out refl (omega arith) refl c.in-Pop.is c.requires.words) c.put_head-in-Pop.ensures

pub returns-in-CallFunc : goal.returns-in-CallFunc
returns-in-CallFunc c = OnOk-map c.put_counted-in-CallFunc.result (counted_written c.args.one.now 12 (λ n. any) code.CallFunc c.in-CallFunc.count c.in-CallFunc.name c.args.out.now c.put_counted-in-CallFunc.new.out refl (omega arith) refl c.in-CallFunc.is c.requires.words (subst HasOperands c.in-CallFunc.is c.requires.operands) (subst HasWords c.in-CallFunc.is c.requires.words.operands) refl) c.put_counted-in-CallFunc.ensures

pub returns-in-PushVariable : goal.returns-in-PushVariable
returns-in-PushVariable c = OnOk-map c.put_named-in-PushVariable.result (named_written c.args.one.now 13 any code.PushVariable c.in-PushVariable.name c.args.out.now c.put_named-in-PushVariable.new.out refl (omega arith) refl c.in-PushVariable.is c.requires.words (subst HasWords c.in-PushVariable.is c.requires.words.operands) refl) c.put_named-in-PushVariable.ensures

pub returns-in-StoreVariable : goal.returns-in-StoreVariable
returns-in-StoreVariable c = OnOk-map c.put_named-in-StoreVariable.result (named_written c.args.one.now 14 any code.StoreVariable c.in-StoreVariable.name c.args.out.now c.put_named-in-StoreVariable.new.out refl (omega arith) refl c.in-StoreVariable.is c.requires.words (subst HasWords c.in-StoreVariable.is c.requires.words.operands) refl) c.put_named-in-StoreVariable.ensures

pub returns-in-Stop : goal.returns-in-Stop
returns-in-Stop c = OnOk-map c.put_head-in-Stop.result (bare_written c.args.one.now 15 code.Stop c.args.out.now c.put_head-in-Stop.new.out refl (omega arith) refl c.in-Stop.is c.requires.words) c.put_head-in-Stop.ensures

pub returns-in-RunNode : goal.returns-in-RunNode
returns-in-RunNode c = OnOk-map c.put_head-in-RunNode.result (bare_written c.args.one.now 16 code.RunNode c.args.out.now c.put_head-in-RunNode.new.out refl (omega arith) refl c.in-RunNode.is c.requires.words) c.put_head-in-RunNode.ensures
