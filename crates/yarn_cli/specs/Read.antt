-- What reading the source files gives: of a file that is longer than a source may be, one byte more than that.
use Rattle.std.specs.Prelude.{◌≡◌, ℕ, List, [], ◌∷◌, ◌++◌, ◌+◌, map, take, Option, Some, IfSome, option_map, ⊤}
use Rattle.yarn_base.specs.declared.SourceFile.{SourceFile}
use Rattle.yarn_base.specs.Causes.{Rose}
use Rattle.yarn_base.specs.Outside.{Named}
use Rattle.yarn_cli.specs.declared.read.AllRead.{AllRead}
use Rattle.yarn_cli.specs.declared.read.AllRead.TheVariants as read
use Rattle.yarn_cli.specs.Sources.{Sources, Found, source_of, sources_of, IsUnread}

-- no more of a file is read than tells that it is too long
abbrev pub cut : SourceFile → SourceFile
cut file = record { name = file.name; bytes = take (4194304 + 1) file.bytes }

-- the file is what was read under the name
abbrev pub IsSource : Option Named → List ℕ → SourceFile → Type 0
IsSource told name file = IfSome told (λ named. option_map (λ bytes. cut (source_of name bytes)) (named name) ≡ Some file)

-- the file that stands under the name was put last
pub record IsAdded (told : Option Named) (name : List ℕ) (old new : List SourceFile) : Type 0 where
  pub file : SourceFile
  pub source : IsSource told name file
  pub is : new ≡ old ++ file ∷ []

-- the files are those under the names, as they are read
pub record AreCut (sources : Sources) (files : List SourceFile) : Type 0 where
  pub whole : List SourceFile
  pub found : sources ≡ Found whole
  pub are : files ≡ map cut whole

abbrev pub AreSources : Option Named → List (List ℕ) → List SourceFile → Type 0
AreSources told names files = IfSome told (λ named. AreCut (sources_of named names) files)

-- all files are what stands under the names, or the read of one failed
abbrev pub IsRead : Option Named → List (List ℕ) → Option (List ℕ) → ℕ → ℕ → AllRead → Type 0
IsRead told names latest before now (read.Sources files) = AreSources told names files
IsRead told names latest before now (read.Unread name) = IsUnread names told latest name.now × Rose before now
IsRead told names latest before now read.Memory = ⊤
