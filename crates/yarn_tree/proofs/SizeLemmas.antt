-- What isn't too much.
use Rattle.std.proofs.Common.{◌≡◌, ◌≤◌, ℕ, ◌+◌, List, [], ◌∷◌, length, Bool, true, false, cond, ◌||◌, nat_lt, Some, None, All, refl, ap, arith}
use Rattle.std.proofs.lemmas.Bool.{ltb-false, le-ltb}
use Rattle.std.proofs.lemmas.List.Elements.{All-nil, All-cons, All-head, All-tail}
use Rattle.yarn_base.specs.declared.SourceFile.{SourceFile}
use Rattle.yarn_tree.specs.Laws.{total, AreNotTooMuch}
use Rattle.yarn_tree.specs.Size.{is_big, is_too_much, too_much, big_alone}
use Rattle.yarn_tree.specs.Splits.{IsSmall, AreFine}

or-false : (a b : Bool) → (a || b) ≡ false → (a ≡ false) × (b ≡ false)
or-false true b is = absurd cc
or-false false b is = (refl, is)

pub is_fine : (before sum : ℕ) (source : SourceFile) → is_too_much before sum source ≡ false →
    (before ≤ 255) × IsSmall source × (sum + length source.bytes ≤ 33554432)
is_fine before sum source is =
    let first = or-false (nat_lt 255 before) (is_big source || nat_lt 33554432 (sum + length source.bytes)) is in
    let second = or-false (is_big source) (nat_lt 33554432 (sum + length source.bytes)) first.1 in
    (ltb-false 255 before first.0, ltb-false 4194304 (length source.bytes) second.0, ltb-false 33554432 (sum + length source.bytes) second.1)

past : (before sum : ℕ) (source : SourceFile) (sources : List SourceFile) → too_much before sum (source ∷ sources) ≡ None →
    (is_too_much before sum source ≡ false) × (too_much (before + 1) (sum + length source.bytes) sources ≡ None)
past before sum source sources none = by_test (is_too_much before sum source) refl
  where
    by_test : (t : Bool) → is_too_much before sum source ≡ t →
        (is_too_much before sum source ≡ false) × (too_much (before + 1) (sum + length source.bytes) sources ≡ None)
    by_test true is = let h = rw is at none in absurd cc
    by_test false is = (is, rw is at none)

few : (before sum : ℕ) (sources : List SourceFile) → before ≤ 256 → too_much before sum sources ≡ None → before + length sources ≤ 256
few before sum [] at none = omega arith
few before sum (source ∷ sources) at none =
    let here = past before sum source sources none in
    let fine = is_fine before sum source here.0 in
    let next : before + 1 ≤ 256 = omega (arith, fine.0) in
    let rest = few (before + 1) (sum + length source.bytes) sources next here.1 in
    omega (arith, rest)

small : (before sum : ℕ) (sources : List SourceFile) → too_much before sum sources ≡ None → All IsSmall sources
small before sum [] none = All-nil IsSmall
small before sum (source ∷ sources) none =
    let here = past before sum source sources none in
    let fine = is_fine before sum source here.0 in
    All-cons IsSmall source sources fine.1 (small (before + 1) (sum + length source.bytes) sources here.1)

pub are_fine : (sources : List SourceFile) → too_much 0 0 sources ≡ None → AreFine sources
are_fine sources none = record { few = let all = few 0 0 sources (omega arith) none in omega arith; small = small 0 0 sources none }

pub alone_small : (source : SourceFile) → big_alone source ≡ None → IsSmall source
alone_small source none = by_test (is_big source) refl
  where
    by_test : (t : Bool) → is_big source ≡ t → IsSmall source
    by_test true is = let h = rw is at none in absurd cc
    by_test false is = ltb-false 4194304 (length source.bytes) is

light : (before sum : ℕ) (sources : List SourceFile) → sum ≤ 33554432 → too_much before sum sources ≡ None → sum + total sources ≤ 33554432
light before sum [] le none = omega arith
light before sum (source ∷ sources) le none =
    let here = past before sum source sources none in
    let fine = is_fine before sum source here.0 in
    let rest = light (before + 1) (sum + length source.bytes) sources fine.2 here.1 in
    omega (arith, rest)

pub not_too_much : (sources : List SourceFile) → too_much 0 0 sources ≡ None → AreNotTooMuch sources
not_too_much sources none =
    let fine = are_fine sources none in
    record { few = fine.few; small = fine.small; light = let h = light 0 0 sources (omega arith) none in omega arith }

fine-test : (before sum : ℕ) (source : SourceFile) → before ≤ 255 → IsSmall source → sum + length source.bytes ≤ 33554432 → is_too_much before sum source ≡ false
fine-test before sum source few small light =
    let a : nat_lt 255 before ≡ false = le-ltb 255 before few in
    let b : nat_lt 4194304 (length source.bytes) ≡ false = le-ltb 4194304 (length source.bytes) small in
    let c : nat_lt 33554432 (sum + length source.bytes) ≡ false = le-ltb 33554432 (sum + length source.bytes) light in
    rw (a, b, c) refl

fine-none : (before sum : ℕ) (sources : List SourceFile) → before + length sources ≤ 256 → All IsSmall sources → sum + total sources ≤ 33554432 →
    too_much before sum sources ≡ None
fine-none before sum [] few small light = refl
fine-none before sum (source ∷ sources) few small light =
    let here : is_too_much before sum source ≡ false =
    fine-test before sum source (omega arith) (All-head IsSmall source sources small) (omega arith) in
    rw here (fine-none (before + 1) (sum + length source.bytes) sources (omega arith) (All-tail IsSmall source sources small) (omega arith))

pub none_too_much : (sources : List SourceFile) → AreNotTooMuch sources → too_much 0 0 sources ≡ None
none_too_much sources fine =
    let few : 0 + length sources ≤ 256 = omega (arith, fine.few) in
    let light : 0 + total sources ≤ 33554432 = omega (arith, fine.light) in
    fine-none 0 0 sources few fine.small light

pub small-alone : (source : SourceFile) → IsSmall source → big_alone source ≡ None
small-alone source small =
    let e : is_big source ≡ false = le-ltb 4194304 (length source.bytes) small in
    ap (λ (t : Bool). cond t (Some (record { file = 0; line = 0 })) None) e
