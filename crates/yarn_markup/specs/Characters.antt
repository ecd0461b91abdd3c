-- The characters that markup tells apart, and runs of them, over the Unicode scalar values of a text (docs/language.md, Markup).
use Rattle.std.specs.Prelude.{ℕ, ◌+◌, nat_eq, List, [], ◌∷◌, Bool, false, not, ◌||◌, if◌then◌else◌}
use Rattle.std.specs.List.{list_all}
use Rattle.unicode_ident.specs.Ident.{is_xid_continue}

-- a space or a tab
abbrev pub is_blank : ℕ → Bool
is_blank c = nat_eq c 32 || nat_eq c 9

-- neither a blank nor one of `[`, `]`, `/`, `"`, `=`
abbrev pub is_word : ℕ → Bool
is_word c = not (is_blank c || (nat_eq c 91 || (nat_eq c 93 || (nat_eq c 47 || (nat_eq c 34 || nat_eq c 61)))))

-- a character that stands for itself behind a backslash: `\`, `[` or `]`
abbrev pub is_escaped : ℕ → Bool
is_escaped c = nat_eq c 92 || (nat_eq c 91 || nat_eq c 93)

-- how many characters at the front pass the test
abbrev pub run_length : (ℕ → Bool) → List ℕ → ℕ
run_length p [] = 0
run_length p (c ∷ cs) = if p c then run_length p cs + 1 else 0

-- what follows the blanks at the front
abbrev pub past_blanks : List ℕ → List ℕ
past_blanks [] = []
past_blanks (c ∷ cs) = if is_blank c then past_blanks cs else c ∷ cs

-- one character or more that may continue an identifier
abbrev pub is_property_name : List ℕ → Bool
is_property_name [] = false
is_property_name (c ∷ cs) = list_all is_xid_continue (c ∷ cs)
