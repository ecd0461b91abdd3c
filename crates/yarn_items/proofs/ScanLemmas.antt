-- The pieces of a text are its first piece and the pieces behind it.
use Rattle.std.proofs.Common.{◌≡◌, ℕ, zero, suc, ◌≤◌, ◌<◌, List, [], ◌∷◌, length, Bool, true, false, nat_eq, Option, Some, None, refl, sym, ap, ◌∙◌, arith}
use Rattle.yarn_items.specs.declared.brace.Place.TheVariants.{Outside}
use Rattle.yarn_items.specs.declared.first.Kind.{Kind}
use Rattle.yarn_items.specs.declared.first.Kind.TheVariants.{Line, Game}
use Rattle.yarn_items.specs.Brace.{Cut, to_brace}
use Rattle.yarn_items.specs.Text.{Piece, Char, begins_pair, begins_other}
use Rattle.yarn_items.specs.Scan.{Front, Begins, Ends, Broken, hole_front, pair_front, front_of, with_piece, go_on, scan_within, scan}
use Rattle.yarn_items.proofs.BraceLemmas.{brace-only, brace-shorter}

pair-shorter : (bytes : List ℕ) (p : Piece) (rest : List ℕ) → pair_front bytes ≡ Begins p rest → length rest ≤ length bytes
pair-shorter [] p rest is = let same : [] ≡ rest = cc in omega (arith, ap length same)
pair-shorter (c ∷ bytes) p rest is = let same : bytes ≡ rest = cc in omega (arith, ap length same)

hole-shorter : (bytes : List ℕ) (p : Piece) (rest : List ℕ) → hole_front (to_brace Outside bytes) ≡ Begins p rest → length rest ≤ length bytes
hole-shorter bytes p rest is = of (to_brace Outside bytes) refl is
  where
    of : (o : Option Cut) → to_brace Outside bytes ≡ o → hole_front o ≡ Begins p rest → length rest ≤ length bytes
    of None found told = absurd cc
    of (Some cut) found told = let same : cut.rest ≡ rest = cc in omega (arith, ap length same, brace-shorter (brace-only Outside bytes cut found))

pub front-shorter : (kind : Kind) (bytes : List ℕ) (p : Piece) (rest : List ℕ) → front_of kind bytes ≡ Begins p rest → length rest < length bytes
front-shorter Line [] p rest is = absurd cc
front-shorter Line (b ∷ bytes) p rest is = of (begins_pair (b ∷ bytes)) (nat_eq b 123) (begins_other (b ∷ bytes)) refl refl refl
  where
    of : (t h o : Bool) → begins_pair (b ∷ bytes) ≡ t → nat_eq b 123 ≡ h → begins_other (b ∷ bytes) ≡ o → length rest < length (b ∷ bytes)
    of true h o i j k = omega (arith, pair-shorter bytes p rest (rw i at is))
    of false true o i j k = omega (arith, hole-shorter bytes p rest (rw (i, j) at is))
    of false false true i j k = let told = rw (i, k, j) at is in absurd cc
    of false false false i j k = let told : Begins (Char b) bytes ≡ Begins p rest = rw (i, k, j) at is in let same : bytes ≡ rest = cc in omega (arith, ap length same)
front-shorter Game [] p rest is = absurd cc
front-shorter Game (b ∷ bytes) p rest is = of (nat_eq b 92) (nat_eq b 123) refl refl
  where
    of : (t h : Bool) → nat_eq b 92 ≡ t → nat_eq b 123 ≡ h → length rest < length (b ∷ bytes)
    of true h i j = omega (arith, pair-shorter bytes p rest (rw i at is))
    of false true i j = omega (arith, hole-shorter bytes p rest (rw (i, j) at is))
    of false false i j = let told : Begins (Char b) bytes ≡ Begins p rest = rw (i, j) at is in let same : bytes ≡ rest = cc in omega (arith, ap length same)

front-none : (kind : Kind) → front_of kind [] ≡ Ends
front-none Line = refl
front-none Game = refl

one-more : (kind : Kind) (n : ℕ) → scan_within (suc n) kind [] ≡ Some (record { pieces = []; rest = [] })
one-more kind n = ap (go_on (λ rest. scan_within n kind rest) []) (front-none kind)

scan-within : (kind : Kind) (n m : ℕ) (bytes : List ℕ) → length bytes ≤ n → length bytes ≤ m → scan_within n kind bytes ≡ scan_within m kind bytes
scan-within kind zero zero bytes h k = refl
scan-within kind zero (suc m) [] h k = sym (one-more kind m)
scan-within kind zero (suc m) (b ∷ bytes) h k = absurd (omega (arith, h))
scan-within kind (suc n) zero [] h k = one-more kind n
scan-within kind (suc n) zero (b ∷ bytes) h k = absurd (omega (arith, k))
scan-within kind (suc n) (suc m) bytes h k = of (scan-within kind n m) (front_of kind bytes) refl
  where
    of : ((rest : List ℕ) → length rest ≤ n → length rest ≤ m → scan_within n kind rest ≡ scan_within m kind rest) →
        (f : Front) → front_of kind bytes ≡ f → go_on (λ rest. scan_within n kind rest) bytes f ≡ go_on (λ rest. scan_within m kind rest) bytes f
    of later (Begins p rest) is = let less = front-shorter kind bytes p rest is in ap (with_piece p) (later rest (omega (arith, h, less)) (omega (arith, k, less)))
    of later Ends is = refl
    of later Broken is = refl

pub scan-step : (kind : Kind) (bytes : List ℕ) → scan kind bytes ≡ go_on (scan kind) bytes (front_of kind bytes)
unfolding scan
scan-step kind bytes =
    scan-within kind (length bytes) (suc (length bytes)) bytes (omega arith) (omega arith) ∙ of (front_of kind bytes) refl
  where
    of : (f : Front) → front_of kind bytes ≡ f →
        go_on (λ rest. scan_within (length bytes) kind rest) bytes f ≡ go_on (λ rest. scan_within (length rest) kind rest) bytes f
    of (Begins p rest) is = let less = front-shorter kind bytes p rest is in
        ap (with_piece p) (scan-within kind (length bytes) (length rest) rest (omega (arith, less)) (omega arith))
    of Ends is = refl
    of Broken is = refl

pub scan-begins : (kind : Kind) (bytes rest : List ℕ) (p : Piece) → front_of kind bytes ≡ Begins p rest → scan kind bytes ≡ with_piece p (scan kind rest)
scan-begins kind bytes rest p is = scan-step kind bytes ∙ ap (go_on (scan kind) bytes) is

pub scan-ends : (kind : Kind) (bytes : List ℕ) → front_of kind bytes ≡ Ends → scan kind bytes ≡ Some (record { pieces = []; rest = bytes })
scan-ends kind bytes is = scan-step kind bytes ∙ ap (go_on (scan kind) bytes) is

pub scan-breaks : (kind : Kind) (bytes : List ℕ) → front_of kind bytes ≡ Broken → scan kind bytes ≡ None
scan-breaks kind bytes is = scan-step kind bytes ∙ ap (go_on (scan kind) bytes) is
