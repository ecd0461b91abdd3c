-- What holds of the parts that formats spell one after another, and of a spelled instruction.
use Rattle.std.proofs.Common.{◌≡◌, ℕ, zero, suc, ◌+◌, ◌-◌, ◌^◌, ◌<◌, ◌≤◌, Bool, true, false, List, [], ◌∷◌, ◌++◌, length, slice_get, Option, Some, None, pos, negsuc, refl, sym, ap, subst, arith, length-append, ltb, nat_lt}
use Rattle.std.specs.Int.{w64, cast_signed}
use mir.Val.{sel}
use Rattle.std.specs.List.{AllByRecursion}
use Rattle.std.proofs.lemmas.Bool.{ltb-false}
use Rattle.std.proofs.lemmas.Bool.Decides.{nat_tests}
use Rattle.std.proofs.lemmas.List.Elements.{All-from_recursion}
use Rattle.yarn_value.specs.Numbers.{fits}
use Rattle.yarn_code.specs.declared.program.Instr.{Instr}
use Rattle.yarn_code.specs.declared.program.Instr.TheVariants as code
use Rattle.yarn_code.specs.declared.program.Coded.{Coded}
use Rattle.yarn_code.specs.Fields.{HasOperands, HasWords, IsCodedWords}
use Rattle.yarn_code.specs.Format.{Format, ◌>>=◌, Ends, Number, Text, number_bytes, text_bytes, IsSpelled, times}
use Rattle.yarn_code.specs.Layout.{is_few, is_short, many, operand_fields, operands_at, coded}
use Rattle.yarn_code.specs.Opcodes.{Opcode, opcodes}
use Rattle.yarn_code.proofs.EncodingLemmas.{item_of}

-- some bytes spell the value
abbrev pub HasSpelling : {A : Type 0} → Format A → A → Type 0
HasSpelling f x = (bytes : List ℕ) × IsSpelled f bytes x

pub spelled_parts : {A B : Type 0} (f : Format A) (g : A → Format B) (bytes : List ℕ) (y : B) → IsSpelled (f >>= g) bytes y → (x : A) × HasSpelling f x × HasSpelling (g x) y
spelled_parts (Ends a) g bytes y p = (a, ([], (refl, refl)), (bytes, p))
spelled_parts (Number size test next) g bytes y (n, rest, is, at, p) =
    let s = spelled_parts (next n) g rest y p in
    (s.0, (number_bytes size n ++ s.1.0, (n, s.1.0, is, refl, s.1.1)), s.2)
spelled_parts (Text test next) g bytes y (t, rest, is, at, p) =
    let s = spelled_parts (next t) g rest y p in
    (s.0, (text_bytes t ++ s.1.0, (t, s.1.0, is, refl, s.1.1)), s.2)

-- what one more part keeps holds of all, and they are as many as they have to be
pub times_hold : {A : Type 0} (part : List A → Format A) (Holds : List A → Type 0) → ((front : List A) (x : A) → Holds front → HasSpelling (part front) x → Holds (front ++ x ∷ []))
    → (n : ℕ) (before xs : List A) → HasSpelling (times n part before) xs → Holds before → Holds xs × (length xs ≡ length before + n)
times_hold part Holds step zero before xs h base = (subst Holds (sym h.1.1) base, omega (arith, ap length h.1.1))
times_hold part Holds step (suc n) before xs h base =
    let s = spelled_parts (part before) (λ one. times n part (before ++ one ∷ [])) h.0 xs h.1 in
    let r = times_hold part Holds step n (before ++ s.0 ∷ []) xs s.2 (step before s.0 base s.1) in
    (r.0, omega (arith, r.1, length-append before (s.0 ∷ [])))

pub many_hold : {A : Type 0} (part : List A → Format A) (Holds : List A → Type 0) → ((front : List A) (x : A) → Holds front → HasSpelling (part front) x → Holds (front ++ x ∷ []))
    → (xs : List A) → HasSpelling (many part) xs → Holds [] → Holds xs × (length xs < 4294967296)
many_hold part Holds step xs (bytes, (n, rest, is, at, p)) base =
    let r = times_hold part Holds step n [] xs (rest, p) base in
    (r.0, omega (arith, r.1, is.small))

-- ---- fields

pub few_is : (n : ℕ) → is_few n ≡ true → n ≤ 16
few_is n e = grind (arith, nat_tests)

pub short_is : (t : List ℕ) → is_short t ≡ true → length t ≤ 65536
short_is t e = grind (arith, nat_tests)

high_fits : (n : ℕ) → 2 ^ 63 ≤ n → n < 2 ^ 64 → nat_lt (2 ^ 64 - suc n) (2 ^ 63) ≡ true
high_fits n le lt = grind (arith, nat_tests)

pub signed_fits : (n : ℕ) → n < 2 ^ 64 → fits (cast_signed w64 n) ≡ true
signed_fits n lt = by_test (ltb n (2 ^ 63)) refl
  where
    by_test : (t : Bool) → ltb n (2 ^ 63) ≡ t → fits (sel t (pos n) (negsuc (2 ^ 64 - suc n))) ≡ true
    by_test true e = e
    by_test false e = high_fits n (ltb-false _ _ e) lt

-- ---- instructions

abbrev IsGood : Instr → Type 0
IsGood i = HasOperands i × HasWords i

abbrev IsGoodRow : Opcode → Type 0
IsGoodRow row = (i : Instr) → HasSpelling (operand_fields row.operands) i → IsGood i

bare : (instr i : Instr) → IsGood instr → HasSpelling (Ends instr) i → IsGood i
bare instr i good h = subst IsGood (sym h.1.1) good

rows_good : AllByRecursion IsGoodRow opcodes
rows_good = (
  λ i h. subst IsGood (sym h.1.4.1) (tt, h.1.2.small),
  (
    λ i h. bare code.Jump i (tt, tt) h,
    (
      λ i h. subst IsGood (sym h.1.4.4.1) (few_is h.1.0 h.1.2.passes, h.1.4.2.short),
      (
        λ i h. subst IsGood (sym h.1.4.4.1) (record { few = few_is h.1.0 h.1.2.passes; template = h.1.4.2.passes }, h.1.4.2.short),
        (
          λ i h. subst IsGood (sym h.1.4.4.4.4.1) (few_is h.1.0 h.1.2.passes, (h.1.4.2.short, h.1.4.4.2.small)),
          (
            λ i h. bare code.ShowOptions i (tt, tt) h,
            (
              λ i h. subst IsGood (sym h.1.4.1) (short_is h.1.0 h.1.2.passes, tt),
              (
                λ i h. subst IsGood (sym h.1.4.1) (signed_fits h.1.0 h.1.2.small, tt),
                (
                  λ i h. subst IsGood (sym h.1.4.1) (tt, tt),
                  (
                    λ i h. bare code.PushNull i (tt, tt) h,
                    (
                      λ i h. subst IsGood (sym h.1.4.1) (tt, h.1.2.small),
                      (
                        λ i h. bare code.Pop i (tt, tt) h,
                        (
                          λ i h. subst IsGood (sym h.1.4.4.1) (few_is h.1.0 h.1.2.passes, h.1.4.2.short),
                          (
                            λ i h. subst IsGood (sym h.1.4.1) (tt, h.1.2.short),
                            (
                              λ i h. subst IsGood (sym h.1.4.1) (tt, h.1.2.short),
                              (
                                λ i h. bare code.Stop i (tt, tt) h,
                                (
                                  λ i h. bare code.RunNode i (tt, tt) h,
                                  (
                                      tt
                                      ),
                                ),
                              ),
                            ),
                          ),
                        ),
                      ),
                    ),
                  ),
                ),
              ),
            ),
          ),
        ),
      ),
    ),
  ),
)

operands_hold : (number : ℕ) (i : Instr) → HasSpelling (operands_at (slice_get opcodes number)) i → IsGood i
operands_hold number i h = by_row (slice_get opcodes number) refl h
  where
    by_row : (row : Option Opcode) → slice_get opcodes number ≡ row → HasSpelling (operands_at row) i → IsGood i
    by_row None e h = bare code.Stop i (tt, tt) h
    by_row (Some row) e h = item_of IsGoodRow opcodes number row e (All-from_recursion IsGoodRow opcodes rows_good) i h

-- the operands of an instruction are as they may be, and its numbers are of 32 bits
abbrev pub IsGoodCoded : Coded → Type 0
IsGoodCoded c = HasOperands c.instr × IsCodedWords c

pub coded_holds : (c : Coded) → HasSpelling coded c → IsGoodCoded c
unfolding coded
coded_holds c (bytes, (number, r1, is, at, (line, r2, small, at', p))) =
    let s = spelled_parts (operands_at (slice_get opcodes number)) (λ instr. Ends (record { line = line; instr = instr })) r2 c p in
    let good = operands_hold number s.0 s.1 in
    subst IsGoodCoded (sym s.2.1.1) (good.0, record { line = small.small; operands = good.1 })
