-- A file that is too long is refused for its length, so the first bytes of each file tell how the whole is read.
use Rattle.std.proofs.Common.{◌≡◌, ℕ, ◌+◌, ◌<◌, ◌≤◌, List, [], ◌∷◌, length, map, take, Option, Some, None, nat_lt, Bool, true, false, refl, sym, ap, ◌∙◌, arith, length-take, take_all}
use Rattle.std.proofs.lemmas.Bool.Decides.{nat_tests}
use Rattle.yarn_base.specs.declared.Place.{Place}
use Rattle.yarn_base.specs.declared.SourceFile.{SourceFile}
use Rattle.yarn_tree.specs.Reading.{reading_of, file_reading_of}
use Rattle.yarn_tree.specs.Size.{is_big, is_too_much, too_much}
use Rattle.yarn_tag.specs.Tagging.{tagging_of}
use Rattle.yarn_cli.specs.Read.{cut}

lt-true : (a b : ℕ) → a < b → nat_lt a b ≡ true
lt-true a b lt = grind (arith, nat_tests)

-- the first bytes tell that a file is too long
cut-big : (file : SourceFile) → is_big file ≡ true → is_big (cut file) ≡ true
cut-big file is =
    let longer : 4194304 < length file.bytes = grind (arith, nat_tests) in
    let lt : 4194304 < length (take (4194304 + 1) file.bytes) = omega (arith, longer, length-take (4194304 + 1) file.bytes) in
    lt-true 4194304 (length (take (4194304 + 1) file.bytes)) lt

-- and otherwise they are all
cut-small : (file : SourceFile) → is_big file ≡ false → cut file ≡ file
cut-small file is =
    let le : length file.bytes ≤ 4194304 = grind (arith, nat_tests) in
    let shorter : length file.bytes ≤ 4194304 + 1 = omega (arith, le) in
    ap (λ (b : List ℕ). record { name = file.name; bytes = b }) (take_all (4194304 + 1) file.bytes shorter)

big-much : (before sum : ℕ) (file : SourceFile) → is_big file ≡ true → is_too_much before sum file ≡ true
big-much before sum file is = by_test (nat_lt 255 before) refl
  where
    by_test : (t : Bool) → nat_lt 255 before ≡ t → is_too_much before sum file ≡ true
    by_test true many = rw many refl
    by_test false many = rw (many, is) refl

too_much-first : (before sum : ℕ) (file : SourceFile) (files : List SourceFile) → is_too_much before sum file ≡ true →
    too_much before sum (file ∷ files) ≡ Some (record { file = before; line = 0 })
too_much-first before sum file files is = rw is refl

too_much-cut : (before sum : ℕ) (files : List SourceFile) → too_much before sum (map cut files) ≡ too_much before sum files
too_much-cut before sum [] = refl
too_much-cut before sum (file ∷ files) =
    by_test (too_much-cut (before + 1) (sum + length file.bytes) files) (is_big file) refl
  where
    -- a file that is all there, and files that are too much where others are
    with_file : (others : List SourceFile) → too_much (before + 1) (sum + length file.bytes) others ≡ too_much (before + 1) (sum + length file.bytes) files →
        (t : Bool) → is_too_much before sum file ≡ t → too_much before sum (file ∷ others) ≡ too_much before sum (file ∷ files)
    with_file others later true is = rw is refl
    with_file others later false is = rw is later

    by_test : too_much (before + 1) (sum + length file.bytes) (map cut files) ≡ too_much (before + 1) (sum + length file.bytes) files →
        (t : Bool) → is_big file ≡ t → too_much before sum (map cut (file ∷ files)) ≡ too_much before sum (file ∷ files)
    by_test later true big =
        too_much-first before sum (cut file) (map cut files) (big-much before sum (cut file) (cut-big file big))
        ∙ sym (too_much-first before sum file files (big-much before sum file big))
    by_test later false small =
        ap (λ (f : SourceFile). too_much before sum (f ∷ map cut files)) (cut-small file small)
        ∙ with_file (map cut files) later (is_too_much before sum file) refl

-- where no file is too much, all of each is read
cut-fine : (before sum : ℕ) (files : List SourceFile) → too_much before sum files ≡ None → map cut files ≡ files
cut-fine before sum [] e = refl
cut-fine before sum (file ∷ files) e =
    by_test (cut-fine (before + 1) (sum + length file.bytes) files) (is_too_much before sum file) (is_big file) refl refl
  where
    by_test : (too_much (before + 1) (sum + length file.bytes) files ≡ None → map cut files ≡ files) →
        (t b : Bool) → is_too_much before sum file ≡ t → is_big file ≡ b → map cut (file ∷ files) ≡ file ∷ files
    by_test later true b much big = let h = rw much at e in absurd cc
    by_test later false true much big = let h = big-much before sum file big in absurd cc
    by_test later false false much small =
        ap (λ (f : SourceFile). f ∷ map cut files) (cut-small file small)
        ∙ ap (λ (l : List SourceFile). file ∷ l) (later (rw much at e))

pub reading-cut : (files : List SourceFile) → reading_of [] (map cut files) ≡ reading_of [] files
unfolding reading_of
reading-cut files = by_place (too_much 0 0 files) refl
  where
    by_place : (o : Option Place) → too_much 0 0 files ≡ o → reading_of [] (map cut files) ≡ reading_of [] files
    by_place None is = ap (reading_of []) (cut-fine 0 0 files is)
    by_place (Some place) is = rw (too_much-cut 0 0 files, is) refl

pub file_reading-cut : (file : SourceFile) → file_reading_of (cut file) ≡ file_reading_of file
unfolding file_reading_of
file_reading-cut file = by_test (is_big file) refl
  where
    by_test : (t : Bool) → is_big file ≡ t → file_reading_of (cut file) ≡ file_reading_of file
    by_test true is = let short = cut-big file is in rw (short, is) refl
    by_test false is = ap file_reading_of (cut-small file is)

-- a file that is too long is refused before it is tagged
pub tagging-cut : (file : SourceFile) (start : ℕ) → tagging_of (cut file) start ≡ tagging_of file start
unfolding tagging_of file_reading_of
tagging-cut file start = by_test (is_big file) refl
  where
    by_test : (t : Bool) → is_big file ≡ t → tagging_of (cut file) start ≡ tagging_of file start
    by_test true is = let short = cut-big file is in rw (short, is) refl
    by_test false is = ap (λ (f : SourceFile). tagging_of f start) (cut-small file is)
