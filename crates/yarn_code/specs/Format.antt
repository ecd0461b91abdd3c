-- Formats: fields one after another, of which each may depend on those before it (docs/formats.md, Program files).
use Rattle.std.specs.Prelude.{◌≡◌, ◌≢◌, ◌<◌, ◌+◌, ◌^◌, ℕ, zero, suc, List, [], ◌∷◌, ◌++◌, length, Bool, true, ◌⊎◌}
use Rattle.std.specs.Str.{IsUtf8}
use Rattle.std.specs.Int.{Width, w8, w32, w64, to_be_bytes}

-- a number has 1, 4 or 8 bytes
pub data Size : Type 0 where
  U8 : Size
  U32 : Size
  U64 : Size

abbrev pub width : Size → Width
width U8 = w8
width U32 = w32
width U64 = w64

abbrev pub limit : Size → ℕ
limit U8 = 2 ^ 8
limit U32 = 2 ^ 32
limit U64 = 2 ^ 64

-- A value, where no field is left; or a field that passes a test, and what comes after it.
pub data Format (A : Type 0) : Type 0 where
  Ends : A → Format A
  Number : Size → (ℕ → Bool) → (ℕ → Format A) → Format A
  Text : (List ℕ → Bool) → (List ℕ → Format A) → Format A

-- the fields of one format, and behind them those of another, which its value decides
infixl 10 ◌>>=◌
abbrev pub ◌>>=◌ : {A B : Type 0} → Format A → (A → Format B) → Format B
(Ends a) >>= after = after a
(Number size test next) >>= after = Number size test (λ n. next n >>= after)
(Text test next) >>= after = Text test (λ text. next text >>= after)

-- as many of a part; each may depend on those before it
abbrev pub times : {A : Type 0} → ℕ → (List A → Format A) → List A → Format (List A)
times zero part before = Ends before
times (suc n) part before = part before >>= λ one. times n part (before ++ one ∷ [])

-- ---- fields

-- the highest byte first
abbrev pub number_bytes : Size → ℕ → List ℕ
number_bytes size n = to_be_bytes (width size) n

-- its length, and its bytes
abbrev pub text_bytes : List ℕ → List ℕ
text_bytes text = number_bytes U32 (length text) ++ text

pub record IsNumber (size : Size) (test : ℕ → Bool) (n : ℕ) : Type 0 where
  pub small : n < limit size
  pub passes : test n ≡ true

pub record IsText (test : List ℕ → Bool) (text : List ℕ) : Type 0 where
  pub short : length text < 2 ^ 32
  pub utf8 : IsUtf8 text
  pub passes : test text ≡ true

-- no such field stands at the front
abbrev pub NoNumber : Size → (ℕ → Bool) → List ℕ → Type 0
NoNumber size test bytes = (n : ℕ) (rest : List ℕ) → IsNumber size test n → bytes ≡ number_bytes size n ++ rest → ⊥

abbrev pub NoText : (List ℕ → Bool) → List ℕ → Type 0
NoText test bytes = (text rest : List ℕ) → IsText test text → bytes ≡ text_bytes text ++ rest → ⊥

-- ---- what bytes spell

-- all of the bytes are the fields of the format, with that value
abbrev pub IsSpelled : {A : Type 0} → Format A → List ℕ → A → Type 0
IsSpelled (Ends a) bytes x = (bytes ≡ []) × (x ≡ a)
IsSpelled (Number size test next) bytes x =
    (n : ℕ) × (rest : List ℕ) × IsNumber size test n × (bytes ≡ number_bytes size n ++ rest) × IsSpelled (next n) rest x
IsSpelled (Text test next) bytes x =
    (text : List ℕ) × (rest : List ℕ) × IsText test text × (bytes ≡ text_bytes text ++ rest) × IsSpelled (next text) rest x

-- The bytes before that place are fields of the format, and at it no field stands as it has to be; or the format ends
-- there, and bytes follow.
abbrev pub IsBadAt : {A : Type 0} → Format A → List ℕ → ℕ → Type 0
IsBadAt (Ends a) bytes at = (at ≡ 0) × (bytes ≢ [])
IsBadAt (Number size test next) bytes at =
    ((at ≡ 0) × NoNumber size test bytes)
    ⊎ ((n : ℕ) × (rest : List ℕ) × IsNumber size test n × (bytes ≡ number_bytes size n ++ rest)
    × (more : ℕ) × (at ≡ length (number_bytes size n) + more) × IsBadAt (next n) rest more)
IsBadAt (Text test next) bytes at =
    ((at ≡ 0) × NoText test bytes)
    ⊎ ((text : List ℕ) × (rest : List ℕ) × IsText test text × (bytes ≡ text_bytes text ++ rest)
    × (more : ℕ) × (at ≡ length (text_bytes text) + more) × IsBadAt (next text) rest more)
