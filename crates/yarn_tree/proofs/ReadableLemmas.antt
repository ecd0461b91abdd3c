-- Files whose lines can be read.
use Rattle.std.proofs.Common.{◌≡◌, ℕ, ◌+◌, List, [], ◌∷◌, None, All, IsUtf8, refl}
use Rattle.std.proofs.lemmas.List.Elements.{All-nil, All-cons, All-head, All-tail}
use Rattle.yarn_base.specs.declared.SourceFile.{SourceFile}
use Rattle.yarn_lines.specs.Lines.{pieces_in, is_long}
use Rattle.yarn_lines.specs.Fault.{is_bad, first_bad, first_long}
use Rattle.yarn_nodes.specs.Lines.{IsReadable}
use Rattle.yarn_tree.specs.Laws.{IsShort}
use Rattle.yarn_tree.specs.Places.{at_file, first_line}
use Rattle.yarn_tree.specs.Splits.{bad_in, long_in}
use Rattle.yarn_tree.proofs.FirstLemmas.{or-none, none-or, at-none, none-at}
use Rattle.yarn_tree.proofs.PieceLemmas.{none-good, good-none, utf8-good, short-good}

pub readable-found : (bytes : List ℕ) → first_bad bytes ≡ None → first_long bytes ≡ None → IsReadable bytes
readable-found bytes good short = (none-good is_bad IsUtf8 utf8-good 1 (pieces_in bytes) good, none-good is_long IsShort short-good 1 (pieces_in bytes) short)

pub readable-told : (bytes : List ℕ) → IsReadable bytes → (first_bad bytes ≡ None) × (first_long bytes ≡ None)
readable-told bytes is = (good-none is_bad IsUtf8 utf8-good 1 (pieces_in bytes) is.0, good-none is_long IsShort short-good 1 (pieces_in bytes) is.1)

abbrev pub CanBeRead : SourceFile → Type 0
CanBeRead source = IsReadable source.bytes

pub readable-all : (n : ℕ) (sources : List SourceFile) → first_line bad_in n sources ≡ None → first_line long_in n sources ≡ None → All CanBeRead sources
readable-all n [] good short = All-nil CanBeRead
readable-all n (source ∷ sources) good short =
    let a = or-none (at_file n (bad_in source)) (first_line bad_in (n + 1) sources) good in
    let b = or-none (at_file n (long_in source)) (first_line long_in (n + 1) sources) short in
    All-cons CanBeRead source sources
    (readable-found source.bytes (at-none n (bad_in source) a.0) (at-none n (long_in source) b.0)) (readable-all (n + 1) sources a.1 b.1)

pub all-readable : (n : ℕ) (sources : List SourceFile) → All CanBeRead sources → (first_line bad_in n sources ≡ None) × (first_line long_in n sources ≡ None)
all-readable n [] all = (refl, refl)
all-readable n (source ∷ sources) all =
    let here = readable-told source.bytes (All-head CanBeRead source sources all) in
    let rest = all-readable (n + 1) sources (All-tail CanBeRead source sources all) in
    (none-or _ _ (none-at n (bad_in source) here.0) rest.0, none-or _ _ (none-at n (long_in source) here.1) rest.1)
