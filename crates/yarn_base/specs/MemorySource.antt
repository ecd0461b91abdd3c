-- What a source in memory means: the bytes left, its faults, the reads made and those that are to fail.
use Rattle.std.specs.Prelude.{ℕ, List, drop}
use Rattle.yarn_base.specs.declared.memory_source.MemorySource.{MemorySource}

abbrev pub left_in : MemorySource → List ℕ
left_in s = drop s.at s.bytes

abbrev pub source_faults : MemorySource → ℕ
source_faults s = s.faults

-- how many bytes a read gives at most
abbrev pub source_piece : MemorySource → ℕ
source_piece s = s.piece

-- how many reads were called since the object was made
abbrev pub source_reads : MemorySource → ℕ
source_reads s = s.calls.made

-- the numbers, from 1, of the reads that are to fail
abbrev pub source_failing : MemorySource → List ℕ
source_failing s = s.calls.failing
