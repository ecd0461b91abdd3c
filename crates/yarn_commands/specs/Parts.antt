-- What the code's parts are on lists.
use Rattle.std.specs.Str.{chars}
use Rattle.yarn_commands.specs.declared.assign.Assigned.{Assigned}
use Rattle.yarn_commands.specs.Reading as reading

abbrev pub assigned_of : Assigned → reading.Assigned
assigned_of assigned = record { op = assigned.op; rest = chars assigned.rest.now }
