-- How a command ended, before its line is said.
use Rattle.std.specs.Io.KnownBytes.{append_known}
use Rattle.std.specs.Prelude.{◌≡◌, ◌⊎◌, ℕ, List, [], Result, Ok, Err, Option, string_bytes}
use Rattle.std.specs.declared.alloc.AllocError.{AllocError}
use Rattle.std.specs.declared.alloc.Global.{Global}
use Rattle.std.specs.declared.string.String.{String}
use Rattle.yarn_cli.specs.declared.message.Ended.{Ended}
use Rattle.yarn_cli.specs.declared.status.Status.{Status}
use Rattle.yarn_cli.specs.declared.status.Status.TheVariants.{OutOfMemory, RefusedProgram}
use Rattle.yarn_base.specs.Outside.{Named}
use Rattle.yarn_cli.specs.Messages.{cannot_read}
use Rattle.yarn_cli.specs.Outcome.{Outcome}
use Rattle.yarn_cli.specs.Sources.{IsUnread}

-- the status with its line, or want of memory
abbrev pub Tells : Status → Result (String Global) AllocError → Ended → Type 0
Tells status (Ok line) ended = (ended.status ≡ status) × (string_bytes ended.line ≡ string_bytes line)
Tells status (Err error) ended = ended.status ≡ OutOfMemory

-- the status and the line are the outcome's
pub record Says (outcome : Outcome) (ended : Ended) : Type 0 where
  pub status_is : ended.status ≡ outcome.status
  pub err_is : string_bytes ended.line ≡ outcome.err

-- the outcome is that line and nothing else, at the status of a refused program; or there was no memory
pub record IsRefusal (outcome : Outcome) (ended : Ended) : Type 0 where
  pub cases : (ended.status ≡ RefusedProgram) ⊎ (ended.status ≡ OutOfMemory)
  pub told : ended.status ≡ RefusedProgram → outcome ≡ record { status = RefusedProgram; out = []; err = string_bytes ended.line }

-- the line names the file that can't be read
pub record SaysUnread (names : List (List ℕ)) (told : Option Named) (latest : Option (List ℕ)) (ended : Ended) : Type 0 where
  pub name : List ℕ
  pub unread : IsUnread names told latest name
  pub line_is : string_bytes ended.line ≡ cannot_read name

-- and so is what was written
pub record GivesSoFar (outcome : Outcome) (ended : Ended) (out_old out_new : Option (List ℕ)) : Type 0 where
  pub says : Says outcome ended
  pub out_is : out_new ≡ append_known out_old outcome.out
