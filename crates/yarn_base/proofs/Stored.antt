-- A file that is put under a name, among the files in memory.
use Rattle.std.proofs.Common.{◌≡◌, ℕ, ◌<◌, suc, List, [], ◌∷◌, ◌++◌, length, Bool, true, false, cond, nat_eq, Option, Some, None, option_map, slice_set, refl, ◌∙◌, arith}
use mathlib.Core.Path.{fun_ext}
use Rattle.std.specs.Cmp.Lexicographic.{pointwise, nat_list_eq_equiv}
use Rattle.yarn_base.specs.Outside.{put}
use Rattle.yarn_base.specs.StoredFiles.{file_of, place_of}
use Rattle.yarn_base.specs.declared.memory_files.StoredFile.{StoredFile}

abbrev same : List ℕ → List ℕ → Bool
same = pointwise nat_eq

abbrev file_with : List ℕ → List ℕ → StoredFile
file_with name bytes = record { name = name; bytes = bytes }

-- two names that differ aren't both a third
apart : (other mine name : List ℕ) → same name mine ≡ false → same other mine ≡ true → same other name ≡ false
apart other mine name differ is =
    nat_list_eq_equiv.congr other mine name is ∙ nat_list_eq_equiv.symm mine name ∙ differ

-- two names that are a third's are alike to every other
alike : (other mine name : List ℕ) → same name mine ≡ true → same other name ≡ same other mine
alike other mine name is =
    nat_list_eq_equiv.symm other name ∙ nat_list_eq_equiv.congr name mine other is ∙ nat_list_eq_equiv.symm mine other

-- two tests that aren't both true may be made in either order
either_order : {A : Type 0} (a b : Bool) (x y z : A) → (a ≡ true → b ≡ false) → cond a x (cond b y z) ≡ cond b y (cond a x z)
either_order true b x y z not_both = rw (not_both refl) refl
either_order false b x y z not_both = refl

-- a test twice is a test once
once : {A : Type 0} (a b : Bool) (x y z : A) → a ≡ b → cond a x z ≡ cond a x (cond b y z)
once true b x y z e = refl
once false b x y z e = rw (← e) refl

none_behind : (o : Option ℕ) → option_map suc o ≡ None → o ≡ None
none_behind None e = refl
none_behind (Some k) e = cc

some_behind : (o : Option ℕ) (i : ℕ) → option_map suc o ≡ Some i → (k : ℕ) × (o ≡ Some k) × (i ≡ suc k)
some_behind None i e = absurd cc
some_behind (Some k) i e = (k, refl, cc)

pub file_of-push : (files : List StoredFile) (name bytes other : List ℕ) → place_of files name ≡ None →
    file_of (files ++ file_with name bytes ∷ []) other ≡ put (file_of files) name bytes other
file_of-push [] name bytes other none = refl
file_of-push (file ∷ files) name bytes other none = by_test (file_of-push files name bytes other) (same name file.name) refl
  where
    by_test : (place_of files name ≡ None → file_of (files ++ file_with name bytes ∷ []) other ≡ put (file_of files) name bytes other) →
        (b : Bool) → same name file.name ≡ b →
        file_of ((file ∷ files) ++ file_with name bytes ∷ []) other ≡ put (file_of (file ∷ files)) name bytes other
    by_test later true is = let never = rw is at none in absurd cc
    by_test later false is =
        rw (later (none_behind (place_of files name) (rw is at none)))
        (either_order (same other file.name) (same other name) (Some file.bytes) (Some bytes) (file_of files other) (apart other file.name name is))

pub file_of-set : (files : List StoredFile) (i : ℕ) (name bytes other : List ℕ) → place_of files name ≡ Some i →
    file_of (slice_set files i (file_with name bytes)) other ≡ put (file_of files) name bytes other
file_of-set [] i name bytes other found = absurd cc
file_of-set (file ∷ files) i name bytes other found = by_test (λ k. file_of-set files k name bytes other) (same name file.name) refl
  where
    by_test : ((k : ℕ) → place_of files name ≡ Some k → file_of (slice_set files k (file_with name bytes)) other ≡ put (file_of files) name bytes other) →
        (b : Bool) → same name file.name ≡ b →
        file_of (slice_set (file ∷ files) i (file_with name bytes)) other ≡ put (file_of (file ∷ files)) name bytes other
    by_test later true is =
        let here : i ≡ 0 = let at = rw is at found in cc in
        rw here (once (same other name) (same other file.name) (Some bytes) (Some file.bytes) (file_of files other) (alike other file.name name is))
    by_test later false is =
        let behind = some_behind (place_of files name) i (rw is at found) in
        rw (behind.2, later behind.0 behind.1)
        (either_order (same other file.name) (same other name) (Some file.bytes) (Some bytes) (file_of files other) (apart other file.name name is))

pub place_of-bound : (files : List StoredFile) (i : ℕ) (name : List ℕ) → place_of files name ≡ Some i → i < length files
place_of-bound [] i name found = absurd cc
place_of-bound (file ∷ files) i name found = by_test (λ k. place_of-bound files k name) (same name file.name) refl
  where
    by_test : ((k : ℕ) → place_of files name ≡ Some k → k < length files) → (b : Bool) → same name file.name ≡ b → i < length (file ∷ files)
    by_test later true is = let here : i ≡ 0 = let at = rw is at found in cc in omega arith
    by_test later false is =
        let behind = some_behind (place_of files name) i (rw is at found) in
        omega (arith, later behind.0 behind.1)

pub stored-push : (files : List StoredFile) (name bytes : List ℕ) → place_of files name ≡ None →
    file_of (files ++ file_with name bytes ∷ []) ≡ put (file_of files) name bytes
stored-push files name bytes none = fun_ext (λ other. file_of-push files name bytes other none)

pub stored-set : (files : List StoredFile) (i : ℕ) (name bytes : List ℕ) → place_of files name ≡ Some i →
    file_of (slice_set files i (file_with name bytes)) ≡ put (file_of files) name bytes
stored-set files i name bytes found = fun_ext (λ other. file_of-set files i name bytes other found)
