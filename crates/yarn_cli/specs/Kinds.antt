-- The line for a project whose variables have not one kind each.
use Rattle.std.specs.Prelude.{◌≡◌, ℕ, List}
use Rattle.yarn_types.specs.declared.fault.TypeFault.{TypeFault}
use Rattle.yarn_types.specs.declared.fault.TypeFault.TheVariants as fault
use Rattle.yarn_cli.specs.Messages.{name_at, refused, no_typing, many_typings}

abbrev pub SaysFault : List (List ℕ) → TypeFault → List ℕ → Type 0
SaysFault names (fault.NoTyping place) line = line ≡ refused (name_at names place.file) no_typing place.line
SaysFault names (fault.ManyTypings name place) line = line ≡ refused (name_at names place.file) (many_typings name) place.line
SaysFault names fault.Memory line = ⊥
