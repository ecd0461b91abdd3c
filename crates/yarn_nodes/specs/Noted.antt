-- What is noted of a file, by kind.
use Rattle.std.specs.Prelude.{ℕ, Option}
use Rattle.yarn_nodes.specs.declared.node.Note.{Note}
use Rattle.yarn_nodes.specs.declared.node.Note.TheVariants as note
use Rattle.yarn_nodes.specs.declared.node.Notes.{Notes}

abbrev pub noted_as : Note → Notes → Option ℕ
noted_as note.Bad notes = notes.bad
noted_as note.ManyHoles notes = notes.many_holes
noted_as note.Misplaced notes = notes.misplaced
noted_as note.TooDeep notes = notes.too_deep
noted_as note.TooMany notes = notes.too_many
noted_as note.Fraction notes = notes.fraction
noted_as note.TooLarge notes = notes.too_large
noted_as note.Mistitled notes = notes.mistitled
