-- What holds of every tape (docs/guide-hosts.md, What the tape tells).
use Rattle.std.specs.Prelude.{◌++◌}
use Rattle.yarn_value.specs.Tape.{Tape}
use Rattle.yarn_host.specs.Hosts.{Hosts}
use Rattle.yarn_host.specs.Tape.{Course, Replied, TapeTells}

-- two courses, one after the other, are one course, and what they added is added in this order
abbrev pub CoursesCompose : Type 0
CoursesCompose = (old mid new : Hosts) (added more : Tape) (course : Course) →
    TapeTells old mid added Replied → TapeTells mid new more course → TapeTells old new (added ++ more) course
