-- The replies of host functions (docs/language.md, The meaning).
use Rattle.std.specs.Prelude.{List}
use Rattle.yarn_value.specs.declared.reply.Reply.{Reply}

-- the replies that host functions give, in order
abbrev pub Tape : Type 0
Tape = List Reply
