-- What `list` has to do (docs/commands.md, list): read last to first.
use Rattle.std.specs.Prelude.{ℕ, List, [], length, nat_lt, if◌then◌else◌, Option, Some, None}
use Rattle.yarn_base.specs.declared.SourceFile.{SourceFile}
use Rattle.yarn_base.specs.Outside.{Named}
use Rattle.yarn_code.specs.declared.program.Program.{Program}
use Rattle.yarn_code.specs.Decoded.{Decoding, Decodes, Newer, BadAt, decoding_of}
use Rattle.yarn_code.specs.ListingText.{listing_of}
use Rattle.yarn_check.specs.Faults.{CheckFault}
use Rattle.yarn_check.specs.Told.{whole_fault}
use Rattle.yarn_cli.specs.declared.status.Status.TheVariants.{RefusedProgram}
use Rattle.yarn_cli.specs.Command.{Command}
use Rattle.yarn_cli.specs.Messages.{name_at, bad_program, check_text, file_refused, newer_format}
use Rattle.yarn_cli.specs.Outcome.{Outcome, of_done, of_one}

-- a program file is refused for that fault
abbrev pub of_program_refused : List ℕ → List ℕ → Outcome
of_program_refused name fault = record { status = RefusedProgram; out = []; err = file_refused name fault }

-- the listing of a program without a fault
abbrev pub of_judged : List ℕ → Program → Option CheckFault → Outcome
of_judged name program None = of_done (listing_of program)
of_judged name program (Some fault) = of_program_refused name (check_text fault)

-- a program that was read is checked
abbrev pub of_decoded : List ℕ → Decoding → Outcome
of_decoded name (Decodes program) = of_judged name program (whole_fault program)
of_decoded name Newer = of_program_refused name newer_format
of_decoded name (BadAt at) = of_program_refused name (bad_program at)

-- a file that is too long is bad at the first byte that is too many
abbrev pub decoding_within : List ℕ → Decoding
decoding_within bytes = if nat_lt 1073741824 (length bytes) then BadAt 1073741824 else decoding_of bytes

-- the listing of the program that a file holds, or its refusal
abbrev pub of_listed : SourceFile → Outcome
of_listed file = of_decoded file.name (decoding_within file.bytes)

-- `list`: the listing of its one program
abbrev pub of_list : Command → Named → Outcome
of_list command named = of_one of_listed (name_at command.names 0) (named (name_at command.names 0))
