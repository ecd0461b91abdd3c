-- What files in memory mean: what stands under each name, the calls made and those that are to fail.
use Rattle.std.specs.Prelude.{◌≡◌, ℕ, List, [], Option, None}
use Rattle.yarn_base.specs.Outside.{Named}
use Rattle.yarn_base.specs.StoredFiles.{file_of}
use Rattle.yarn_base.specs.declared.memory_files.MemoryFiles.{MemoryFiles}

abbrev pub stored_in : MemoryFiles → Named
stored_in m = file_of m.files.items

-- how often a read failed
abbrev pub read_faults_in : MemoryFiles → ℕ
read_faults_in m = m.read_faults

-- the name of the latest read that failed
abbrev pub latest_fault_in : MemoryFiles → Option (List ℕ)
latest_fault_in m = m.latest_fault

-- how often a write failed
abbrev pub write_faults_in : MemoryFiles → ℕ
write_faults_in m = m.write_faults

-- how many reads were called since the object was made
abbrev pub reads_made : MemoryFiles → ℕ
reads_made m = m.reads.made

-- the numbers, from 1, of the reads that are to fail
abbrev pub failing_reads : MemoryFiles → List ℕ
failing_reads m = m.reads.failing

-- how many writes were called since the object was made
abbrev pub writes_made : MemoryFiles → ℕ
writes_made m = m.writes.made

-- the numbers, from 1, of the writes that are to fail
abbrev pub failing_writes : MemoryFiles → List ℕ
failing_writes m = m.writes.failing

-- no file, no fault and no call yet, and no call that is to fail
pub record IsNew (m : MemoryFiles) : Type 0 where
  pub empty : stored_in m ≡ (λ name. None)
  pub read_faults : read_faults_in m ≡ 0
  pub write_faults : write_faults_in m ≡ 0
  pub latest_fault : latest_fault_in m ≡ None
  pub no_read : reads_made m ≡ 0
  pub no_failing_read : failing_reads m ≡ []
  pub no_write : writes_made m ≡ 0
  pub no_failing_write : failing_writes m ≡ []

-- files, counts and the latest fault are as before
pub record SameFiles (old new : MemoryFiles) : Type 0 where
  pub files : stored_in new ≡ stored_in old
  pub read_faults : read_faults_in new ≡ read_faults_in old
  pub write_faults : write_faults_in new ≡ write_faults_in old
  pub latest_fault : latest_fault_in new ≡ latest_fault_in old

-- the reads made, and those that are to fail, are as before
pub record SameReads (old new : MemoryFiles) : Type 0 where
  pub made : reads_made new ≡ reads_made old
  pub failing : failing_reads new ≡ failing_reads old

-- the writes made, and those that are to fail, are as before
pub record SameWrites (old new : MemoryFiles) : Type 0 where
  pub made : writes_made new ≡ writes_made old
  pub failing : failing_writes new ≡ failing_writes old
