-- Quoted strings, over the bytes of a text.
use Rattle.std.specs.Prelude.{◌≡◌, ℕ, List, [], ◌∷◌, ◌++◌, nat_eq, if◌then◌else◌, Option, Some, None}

-- what stands behind the backslash: `\\`, `\"`, `\n` and `\r`; other bytes stand for themselves
abbrev pub letter : ℕ → Option ℕ
letter b =
    if nat_eq b 92 then Some 92
    else if nat_eq b 34 then Some 34
    else if nat_eq b 10 then Some 110
    else if nat_eq b 13 then Some 114
    else None

abbrev pub spelled : ℕ → Option ℕ → List ℕ
spelled b None = b ∷ []
spelled b (Some l) = 92 ∷ l ∷ []

abbrev pub escaped : ℕ → List ℕ
escaped b = spelled b (letter b)

abbrev pub escape : List ℕ → List ℕ
escape [] = []
escape (b ∷ bs) = escaped b ++ escape bs

-- a text between two quotes
abbrev pub quoted : List ℕ → List ℕ
quoted text = 34 ∷ (escape text ++ 34 ∷ [])

-- the bytes are the quoted string of some text
abbrev pub IsQuoted : List ℕ → Type 0
IsQuoted bytes = (text : List ℕ) × (bytes ≡ quoted text)

-- the same behind the first quote
abbrev pub IsBody : List ℕ → Type 0
IsBody bytes = (text : List ℕ) × (bytes ≡ escape text ++ 34 ∷ [])

-- two texts have two quoted strings, so what is read from the quoted string of a text is that text
abbrev pub QuotedOnce : Type 0
QuotedOnce = (a b : List ℕ) → quoted a ≡ quoted b → a ≡ b
