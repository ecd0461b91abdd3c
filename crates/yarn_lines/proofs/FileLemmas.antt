-- What the lines of a text tell of its file.
use Rattle.std.proofs.Common.{◌≡◌, ℕ, List, drop, Result, Ok, Err, IsUtf8}
use Rattle.yarn_lines.specs.Lines.{Lines, mark_length}
use Rattle.yarn_lines.specs.Fault.{Splits, SplitsText}
use Rattle.yarn_lines.specs.declared.line.LineFault.{LineFault}
use Rattle.yarn_lines.specs.declared.line.LineFault.TheVariants.{BadUtf8, LineTooLong, Memory}
use Rattle.yarn_lines.proofs.Utf8Lemmas.{first_bad-none}

-- what holds of the text behind the mark holds of the file
pub splits-text : (bytes text : List ℕ) (start : ℕ) (result : Result Lines LineFault) → text ≡ drop (mark_length bytes) bytes →
    start ≡ mark_length bytes → IsUtf8 text → SplitsText start text result → Splits bytes result
splits-text bytes text start (Ok lines) is place utf8 split =
    (rw is at (first_bad-none text 1 utf8), rw is at split.0, rw (is, place) at split.1)
splits-text bytes text start (Err (BadUtf8 number)) is place utf8 split = absurd split
splits-text bytes text start (Err (LineTooLong number)) is place utf8 split = (rw is at (first_bad-none text 1 utf8), rw is at split)
splits-text bytes text start (Err Memory) is place utf8 split = tt
