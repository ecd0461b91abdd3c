-- A text that is all of its string.
use Rattle.std.proofs.Common.{◌≡◌, ℕ, ◌+◌, ◌≤◌, List, length, sym, subst, arith, IsUtf8}
use Rattle.std.proofs.Math.Seq.{take-length}
use Rattle.yarn_base.specs.Part.{cut}

pub whole-cut : (bytes : List ℕ) (from len : ℕ) → from ≡ 0 → len ≡ length bytes → cut from len bytes ≡ bytes
whole-cut bytes from len start all = rw (start, all) (take-length bytes)

pub whole-fits : (bytes : List ℕ) (from len : ℕ) → from ≡ 0 → len ≡ length bytes → IsUtf8 bytes →
    (from + len ≤ length bytes) × IsUtf8 (cut from len bytes)
whole-fits bytes from len start all utf8 = (omega arith, subst IsUtf8 (sym (whole-cut bytes from len start all)) utf8)
