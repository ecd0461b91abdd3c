-- The line on the error sink (docs/commands.md, Statuses).
use Rattle.std.specs.Prelude.{ℕ, List, [], ◌∷◌, ◌++◌, slice_get, codes}
use Rattle.std.specs.Fmt.{decimal}
use Rattle.yarn_cli.specs.Command.{or_default}
use Rattle.yarn_value.specs.declared.fault.RunFault.{RunFault}
use Rattle.yarn_value.specs.declared.fault.RunFault.TheVariants as run
use Rattle.yarn_code.specs.Moments.{FaultPlace}
use Rattle.yarn_check.specs.Faults.{CheckFault}
use Rattle.yarn_check.specs.Faults as check
use Rattle.yarn_tree.specs.declared.refusal.RefusalKind.{RefusalKind}
use Rattle.yarn_tree.specs.declared.refusal.RefusalKind.TheVariants.{TooMuch, BadUtf8, LineTooLong, BadLine, BadStructure, TooDeep, TooMany, Fraction, NumberTooLarge, BadTitle, DuplicateTitle, ReservedName, DuplicateDeclare, UnknownNode, UnknownFunction, WrongArguments, DuplicateLineId}

abbrev pub kind_text : RefusalKind → List ℕ
kind_text TooMuch = codes "TooMuch"
kind_text BadUtf8 = codes "BadUtf8"
kind_text LineTooLong = codes "LineTooLong"
kind_text BadLine = codes "BadLine"
kind_text BadStructure = codes "BadStructure"
kind_text TooDeep = codes "TooDeep"
kind_text TooMany = codes "TooMany"
kind_text Fraction = codes "Fraction"
kind_text NumberTooLarge = codes "NumberTooLarge"
kind_text BadTitle = codes "BadTitle"
kind_text DuplicateTitle = codes "DuplicateTitle"
kind_text ReservedName = codes "ReservedName"
kind_text DuplicateDeclare = codes "DuplicateDeclare"
kind_text UnknownNode = codes "UnknownNode"
kind_text UnknownFunction = codes "UnknownFunction"
kind_text WrongArguments = codes "WrongArguments"
kind_text DuplicateLineId = codes "DuplicateLineId"

-- the name of the file at a place of the list, from 0; no list has a file behind its end
abbrev pub name_at : List (List ℕ) → ℕ → List ℕ
name_at names file = or_default [] (slice_get names file)

-- no list of kinds fits, and more than one does
abbrev pub no_typing : List ℕ
no_typing = codes "NoTyping"

abbrev pub many_typings : List ℕ → List ℕ
many_typings name = codes "ManyTypings " ++ name

-- `FILE:LINE: NAME`
abbrev pub refused : List ℕ → List ℕ → ℕ → List ℕ
refused file name line = file ++ (codes ":" ++ (decimal line ++ (codes ": " ++ (name ++ 10 ∷ []))))

-- the name of a fault, with its value
abbrev pub fault_text : RunFault → List ℕ
fault_text run.Overflow = codes "Overflow"
fault_text run.DivideByZero = codes "DivideByZero"
fault_text run.Inexact = codes "Inexact"
fault_text run.TextTooLong = codes "TextTooLong"
fault_text run.BadNumber = codes "BadNumber"
fault_text run.BadBool = codes "BadBool"
fault_text run.NoOpenOption = codes "NoOpenOption"
fault_text (run.UnknownNode title) = codes "UnknownNode " ++ title

-- `FILE:LINE: NODE: FAULT`
abbrev pub faulted : List ℕ → FaultPlace → List ℕ
faulted file fault =
    file ++ (codes ":" ++ (decimal fault.line ++ (codes ": " ++ (fault.node ++ (codes ": " ++ (fault_text fault.fault ++ 10 ∷ []))))))

-- `FILE: FAULT`
abbrev pub file_refused : List ℕ → List ℕ → List ℕ
file_refused file fault = file ++ (codes ": " ++ (fault ++ 10 ∷ []))

abbrev pub too_much : List ℕ
too_much = codes "TooMuch"

abbrev pub bad_vars : ℕ → List ℕ
bad_vars line = codes "BadVars " ++ decimal line

abbrev pub bad_variable : List ℕ → List ℕ
bad_variable name = codes "BadVariable " ++ name

-- the faults of a program file

abbrev pub newer_format : List ℕ
newer_format = codes "NewerFormat"

abbrev pub bad_program : ℕ → List ℕ
bad_program at = codes "BadProgram " ++ decimal at

-- the name of a fault with the places of a node and of an instruction in it
abbrev pub with_places : List ℕ → ℕ → ℕ → List ℕ
with_places fault node place = fault ++ (codes " " ++ (decimal node ++ (codes " " ++ decimal place)))

abbrev pub with_name : List ℕ → List ℕ → List ℕ
with_name fault name = fault ++ (codes " " ++ name)

abbrev pub check_text : CheckFault → List ℕ
check_text (check.BadLabel node place) = with_places (codes "BadLabel") node place
check_text (check.BackwardJump node place) = with_places (codes "BackwardJump") node place
check_text (check.UnknownVariable name) = with_name (codes "UnknownVariable") name
check_text (check.UnknownFunction name) = with_name (codes "UnknownFunction") name
check_text (check.UnknownLine id) = with_name (codes "UnknownLine") id
check_text (check.NoShape node place) = with_places (codes "NoShape") node place
check_text (check.TooManyDeep node place) = with_places (codes "TooManyDeep") node place

abbrev pub waiting : List ℕ
waiting = codes "waiting for a choice" ++ 10 ∷ []

abbrev pub event_limit : List ℕ
event_limit = codes "event limit" ++ 10 ∷ []

abbrev pub no_node : List ℕ → List ℕ
no_node title = codes "no node " ++ (title ++ 10 ∷ [])

abbrev pub cannot_read : List ℕ → List ℕ
cannot_read name = codes "cannot read " ++ (name ++ 10 ∷ [])

abbrev pub cannot_write : List ℕ → List ℕ
cannot_write name = codes "cannot write " ++ (name ++ 10 ∷ [])

-- the transcript can't be written, and the answers can't be read
abbrev pub output : List ℕ
output = codes "output"

abbrev pub input : List ℕ
input = codes "input"

abbrev pub usage : List ℕ
usage = codes "usage: yarn check|format|strings|tag|compile|list|play|run|resume|demo" ++ 10 ∷ []
