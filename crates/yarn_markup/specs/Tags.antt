-- What stands between the brackets of a tag, and what follows it, over the characters of a text (docs/language.md, Markup).
use Rattle.std.specs.Prelude.{◌≡◌, ℕ, nat_eq, List, [], ◌∷◌, ◌++◌, take, drop, Bool, true, false, not, ◌&&◌, ◌||◌, if◌then◌else◌, Option, Some, None, encode_utf8, encode_utf8_all}
use Rattle.yarn_base.specs.Name.{is_name_of}
use Rattle.yarn_markup.specs.declared.marked.Property.{Property}
use Rattle.yarn_markup.specs.declared.tag.Tag.{Tag}
use Rattle.yarn_markup.specs.Characters.{is_blank, is_word, run_length, past_blanks, is_property_name}

-- ---- values

-- a text that is read, and the characters that follow it
pub record Cut : Type 0 where
  pub own : List ℕ
  pub rest : List ℕ

-- the text with these bytes before it
abbrev pub before : List ℕ → Option Cut → Option Cut
before front None = None
before front (Some cut) = Some (record { own = front ++ cut.own; rest = cut.rest })

-- the character ends the quoted string; behind a backslash it doesn't
abbrev pub ends_quoted : Bool → ℕ → Bool
ends_quoted skips c = not skips && nat_eq c 34

-- the character is a backslash that isn't itself behind one
abbrev pub skips_next : Bool → ℕ → Bool
skips_next skips c = not skips && nat_eq c 92

-- what the character of a quoted string stands for: a backslash is left out before `"` and `\`, and stays before any other
abbrev pub quoted_char : Bool → ℕ → List ℕ
quoted_char false c = if nat_eq c 92 then [] else encode_utf8 c
quoted_char true c = if nat_eq c 34 || nat_eq c 92 then encode_utf8 c else 92 ∷ encode_utf8 c

-- the text of a quoted string, from behind its first quote or from behind a backslash in it; None where it doesn't end
abbrev pub quoted : Bool → List ℕ → Option Cut
quoted skips [] = None
quoted skips (c ∷ cs) =
    if ends_quoted skips c then Some (record { own = []; rest = cs })
    else before (quoted_char skips c) (quoted (skips_next skips c) cs)

-- one character or more of a word
abbrev pub unless_empty : List ℕ → List ℕ → Option Cut
unless_empty [] rest = None
unless_empty (c ∷ cs) rest = Some (record { own = encode_utf8_all (c ∷ cs); rest = rest })

abbrev pub word : List ℕ → Option Cut
word text = let n = run_length is_word text in unless_empty (take n text) (drop n text)

-- the value at the front: a quoted string or a word
abbrev pub value_at : List ℕ → Option Cut
value_at [] = None
value_at (c ∷ cs) = if nat_eq c 34 then quoted false cs else word (c ∷ cs)

-- ---- properties

pub record Found : Type 0 where
  pub property : Property
  pub rest : List ℕ

abbrev pub with_value : List ℕ → Option Cut → Option Found
with_value name None = None
with_value name (Some cut) = Some (record { property = record { name = encode_utf8_all name; value = cut.own }; rest = cut.rest })

-- the property of that name where `=` and a value follow it
abbrev pub assigned : List ℕ → List ℕ → Option Found
assigned name [] = None
assigned name (c ∷ cs) = if nat_eq c 61 then with_value name (value_at cs) else None

abbrev pub assigned_name : List ℕ → List ℕ → Option Found
assigned_name name rest = if is_property_name name then assigned name rest else None

abbrev pub named_property : List ℕ → Option Found
named_property text = let n = run_length is_word text in assigned_name (take n text) (drop n text)

-- the property at the front, with the blanks before it, of which there is one at least
abbrev pub property_at : List ℕ → Option Found
property_at [] = None
property_at (c ∷ cs) = if is_blank c then named_property (past_blanks cs) else None

-- all properties at the front, and what follows them
pub data Properties : List ℕ → List Property → List ℕ → Type 0 where
  none : {text : List ℕ} → property_at text ≡ None → Properties text [] text
  more : {text rest : List ℕ} {properties : List Property} (found : Found) → property_at text ≡ Some found →
      Properties found.rest properties rest → Properties text (found.property ∷ properties) rest

-- ---- tags

-- the name of a tag, with the property of its shorthand where it has one
pub record Head : Type 0 where
  pub name : List ℕ
  pub properties : List Property
  pub shorthand : Bool
  pub rest : List ℕ

abbrev pub head_of : List ℕ → List ℕ → Option Found → Head
head_of name rest None = record { name = encode_utf8_all name; properties = []; shorthand = false; rest = rest }
head_of name rest (Some found) = record { name = encode_utf8_all name; properties = found.property ∷ []; shorthand = true; rest = found.rest }

abbrev pub head_named : List ℕ → List ℕ → Option Head
head_named name rest = if is_name_of name then Some (head_of name rest (assigned name rest)) else None

-- the name at the front
abbrev pub head_at : List ℕ → Option Head
head_at text = let n = run_length is_word text in head_named (take n text) (drop n text)

-- what follows the `]` at the front
abbrev pub past_bracket : List ℕ → Option (List ℕ)
past_bracket [] = None
past_bracket (c ∷ cs) = if nat_eq c 93 then Some cs else None

-- how a tag ends, with a `/` before its `]` or without, and what follows it
pub record End : Type 0 where
  pub lone : Bool
  pub rest : List ℕ

abbrev pub end_with : Bool → Option (List ℕ) → Option End
end_with lone None = None
end_with lone (Some rest) = Some (record { lone = lone; rest = rest })

abbrev pub end_in : List ℕ → Option End
end_in [] = None
end_in (c ∷ cs) = if nat_eq c 47 then end_with true (past_bracket (past_blanks cs)) else end_with false (past_bracket (c ∷ cs))

abbrev pub end_at : List ℕ → Option End
end_at text = end_in (past_blanks text)

-- the characters behind a `[` are that tag, which ends with a `/` or not, and the rest
pub record IsTag (text : List ℕ) (tag : Tag) (lone : Bool) (rest : List ℕ) : Type 0 where
  pub head : Head
  pub further : List Property
  pub behind : List ℕ
  pub begins : head_at (past_blanks text) ≡ Some head
  pub goes : Properties head.rest further behind
  pub ends : end_at behind ≡ Some (record { lone = lone; rest = rest })
  pub own : tag ≡ record { name = head.name; properties = head.properties ++ further; shorthand = head.shorthand }

-- ---- closing tags

-- a tag that closes the latest open attribute of its name, or one without a name that closes all
pub record Close : Type 0 where
  pub name : Option (List ℕ)
  pub rest : List ℕ

abbrev pub close_with : Option (List ℕ) → Option (List ℕ) → Option Close
close_with name None = None
close_with name (Some rest) = Some (record { name = name; rest = rest })

abbrev pub close_named : List ℕ → List ℕ → Option Close
close_named name rest =
    if is_name_of name then close_with (Some (encode_utf8_all name)) (past_bracket (past_blanks rest)) else None

abbrev pub close_name : List ℕ → Option Close
close_name text = let n = run_length is_word text in close_named (take n text) (drop n text)

abbrev pub close_of : List ℕ → Option (List ℕ) → Option Close
close_of text None = close_name text
close_of text (Some rest) = Some (record { name = None; rest = rest })

abbrev pub behind_slash : List ℕ → Option Close
behind_slash text = close_of text (past_bracket text)

abbrev pub close_in : List ℕ → Option Close
close_in [] = None
close_in (c ∷ cs) = if nat_eq c 47 then behind_slash (past_blanks cs) else None

-- the closing tag that the characters behind a `[` are
abbrev pub close_at : List ℕ → Option Close
close_at text = close_in (past_blanks text)
