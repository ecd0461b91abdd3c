-- The stand that an answer of `play` names.
use Rattle.yarn_code.specs.Moments.{Stand, Ended, Limit, Waits, Faults}
use Rattle.yarn_walker.specs.Faults.{fault_of}
use Rattle.yarn_player.specs.declared.ends.PlayEnd.{PlayEnd}
use Rattle.yarn_player.specs.declared.ends.PlayEnd.TheVariants as named

abbrev pub stand_of : PlayEnd → Stand
stand_of named.Ended = Ended
stand_of named.Limit = Limit
stand_of named.Waits = Waits
stand_of (named.Faults f) = Faults (fault_of f)
