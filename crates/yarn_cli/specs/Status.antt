-- The number of a status (docs/commands.md, Statuses).
use Rattle.std.specs.Prelude.{ℕ}
use Rattle.yarn_cli.specs.declared.status.Status.{Status}
use Rattle.yarn_cli.specs.declared.status.Status.TheVariants.{Done, RunFault, RefusedProject, WaitsChoice, EventLimit, Usage, ReadFault, WriteFault, OutOfMemory, RefusedVars, RefusedProgram, UnknownStart}

abbrev pub code_of : Status → ℕ
code_of Done = 0
code_of RunFault = 1
code_of RefusedProject = 2
code_of WaitsChoice = 3
code_of EventLimit = 4
code_of Usage = 5
code_of ReadFault = 6
code_of WriteFault = 7
code_of OutOfMemory = 8
code_of RefusedVars = 9
code_of RefusedProgram = 10
code_of UnknownStart = 12
