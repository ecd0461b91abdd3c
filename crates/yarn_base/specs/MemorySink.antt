-- What a sink in memory means: the bytes written, its faults, the writes made and those that are to fail.
use Rattle.std.specs.Prelude.{ℕ, List}
use Rattle.yarn_base.specs.declared.memory_sink.MemorySink.{MemorySink}

abbrev pub written_in : MemorySink → List ℕ
written_in s = s.bytes

abbrev pub sink_faults : MemorySink → ℕ
sink_faults s = s.faults

-- how many writes were called since the object was made
abbrev pub sink_writes : MemorySink → ℕ
sink_writes s = s.calls.made

-- the numbers, from 1, of the writes that are to fail
abbrev pub sink_failing : MemorySink → List ℕ
sink_failing s = s.calls.failing
