-- The first name that is one too many, behind those that a room holds, a word of private functions.
use Rattle.std.specs.Prelude.{List, Option}
use Rattle.yarn_base.specs.declared.Place.{Place}
use Rattle.yarn_tree.specs.declared.variables.Room.{Room}
use Rattle.yarn_tree.specs.Names.{NameAt, has}
use Rattle.yarn_tree.specs.Checks.{extra_name}

abbrev pub extra_in : Room → List NameAt → Option Place
extra_in room xs = extra_name room.left (has room.names) xs
