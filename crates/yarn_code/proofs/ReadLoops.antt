-- Reading one format behind another, and parts one after another, as a loop does.
use Rattle.std.proofs.Common.{◌≡◌, ℕ, suc, ◌-◌, ◌+◌, ◌≤◌, ◌<◌, List, [], ◌∷◌, ◌++◌, Ok, Err, refl, sym, ap, ◌∙◌, arith}
use Rattle.yarn_code.specs.declared.fault.Stop.{Stop}
use Rattle.yarn_code.specs.declared.fault.Stop.TheVariants as stops
use Rattle.yarn_code.specs.Decoding.{Stopped}
use Rattle.yarn_code.specs.Format.{Format, ◌>>=◌, times}
use Rattle.yarn_code.specs.FormatReading.{Read, read, and_then, any_text}
use Rattle.yarn_code.specs.Layout.{file_name}
use Rattle.yarn_code.proofs.FormatLemmas.{read-then}

-- the first format is read
pub then_ok : {A B : Type 0} (f : Format A) (g : A → Format B) (bytes : List ℕ) (x : A) (rest : List ℕ) → read f bytes ≡ Ok (x, rest) → read (f >>= g) bytes ≡ read (g x) rest
then_ok f g bytes x rest e = read-then f g bytes ∙ ap (λ r. and_then r (λ y. read (g y.0) y.1)) e

-- the first format is refused
pub then_err : {A B : Type 0} (f : Format A) (g : A → Format B) (bytes : List ℕ) (left : ℕ) → read f bytes ≡ Err left → read (f >>= g) bytes ≡ Err left
then_err f g bytes left e = read-then f g bytes ∙ ap (λ r. and_then r (λ y. read (g y.0) y.1)) e

-- a reader that stopped in the first format
pub then_stops : {A B : Type 0} (f : Format A) (g : A → Format B) (bytes : List ℕ) (stop : Stop) → Stopped stop (read f bytes) → Stopped stop (read (f >>= g) bytes)
then_stops f g bytes stops.Memory e = tt
then_stops f g bytes (stops.Left left) e = then_err f g bytes left e

-- a reader that stopped behind the first format
pub stops_behind : {A B : Type 0} (f : Format A) (g : A → Format B) (bytes : List ℕ) (x : A) (rest : List ℕ) (stop : Stop) → read f bytes ≡ Ok (x, rest) → Stopped stop (read (g x) rest) → Stopped stop (read (f >>= g) bytes)
stops_behind f g bytes x rest stops.Memory e s = tt
stops_behind f g bytes x rest (stops.Left left) e s = then_ok f g bytes x rest e ∙ s

pub begins : {A : Type 0} (part : List A → Format A) (count : ℕ) (before : List A) (bytes : List ℕ) → before ≡ [] → read (times (count - 0) part before) bytes ≡ read (times count part []) bytes
begins part count before bytes none =
    let k : count - 0 ≡ count = omega arith in
    ap (λ n. read (times n part before) bytes) k ∙ ap (λ l. read (times count part l) bytes) none

pub goes_on : {A : Type 0} (part : List A → Format A) (before : List A) (count i : ℕ) (bytes : List ℕ) (one : A) (after : List ℕ) (total : Read (List A)) → i < count → read (part before) bytes ≡ Ok (one, after)
    → read (times (count - i) part before) bytes ≡ total → read (times (count - (i + 1)) part (before ++ one ∷ [])) after ≡ total
goes_on part before count i bytes one after total lt h so_far =
    let k : count - i ≡ suc (count - (i + 1)) = omega arith in
    sym (then_ok (part before) (λ x. times (count - (i + 1)) part (before ++ x ∷ [])) bytes one after h) ∙ ap (λ n. read (times n part before) bytes) (sym k) ∙ so_far

pub ends : {A : Type 0} (part : List A → Format A) (before : List A) (count i : ℕ) (bytes : List ℕ) (stop : Stop) (total : Read (List A)) → i < count → Stopped stop (read (part before) bytes)
    → read (times (count - i) part before) bytes ≡ total → Stopped stop total
ends part before count i bytes stops.Memory total lt s so_far = tt
ends part before count i bytes (stops.Left left) total lt s so_far =
    let k : count - i ≡ suc (count - (i + 1)) = omega arith in
    sym so_far ∙ ap (λ n. read (times n part before) bytes) k ∙ then_err (part before) (λ x. times (count - (i + 1)) part (before ++ x ∷ [])) bytes left s

pub is_done : {A : Type 0} (part : List A → Format A) (before : List A) (count i : ℕ) (bytes : List ℕ) (total : Read (List A)) → count ≤ i
    → read (times (count - i) part before) bytes ≡ total → total ≡ Ok (before, bytes)
is_done part before count i bytes total le so_far =
    let k : count - i ≡ 0 = omega arith in
    sym so_far ∙ ap (λ n. read (times n part before) bytes) k

-- any text
pub text_read : (bytes text rest : List ℕ) → any_text bytes ≡ Ok (text, rest) → read (file_name []) bytes ≡ Ok (text, rest)
text_read bytes text rest e = rw e refl

pub text_stops : (bytes : List ℕ) (stop : Stop) → Stopped stop (any_text bytes) → Stopped stop (read (file_name []) bytes)
text_stops bytes stops.Memory e = tt
text_stops bytes (stops.Left left) e = rw e refl
