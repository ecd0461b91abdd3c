-- Files in memory, as the names see them.
use Rattle.std.specs.Prelude.{ℕ, suc, List, [], ◌∷◌, nat_eq, if◌then◌else◌, Option, Some, None, option_map}
use Rattle.std.specs.Cmp.Lexicographic.{pointwise}
use Rattle.yarn_base.specs.declared.memory_files.StoredFile.{StoredFile}

-- the bytes of the first file of that name
abbrev pub file_of : List StoredFile → List ℕ → Option (List ℕ)
file_of [] name = None
file_of (file ∷ files) name = if pointwise nat_eq name file.name then Some file.bytes else file_of files name

-- where the first file of that name stands
abbrev pub place_of : List StoredFile → List ℕ → Option ℕ
place_of [] name = None
place_of (file ∷ files) name = if pointwise nat_eq name file.name then Some 0 else option_map suc (place_of files name)
