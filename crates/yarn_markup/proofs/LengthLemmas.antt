-- What follows a piece is shorter than the text that begins with it.
use Rattle.std.proofs.Common.{◌≡◌, ℕ, ◌+◌, ◌-◌, ◌<◌, ◌≤◌, List, [], ◌∷◌, length, take, drop, Bool, true, false, cond, nat_eq, Option, Some, None, refl, sym, ap, ◌∙◌, subst, arith, length-drop, encode_utf8, encode_utf8_all, codes}
use Rattle.std.specs.List.{starts_with}
use Rattle.yarn_base.specs.Name.{is_name_of}
use Rattle.yarn_plural.specs.declared.table.PluralTable.{PluralTable}
use Rattle.yarn_plural.specs.declared.table.Form.{Form}
use Rattle.yarn_markup.specs.declared.marked.Property.{Property}
use Rattle.yarn_markup.specs.declared.tag.Tag.{Tag}
use Rattle.yarn_markup.specs.declared.kind.Kind.{Kind}
use Rattle.yarn_markup.specs.declared.kind.Kind.TheVariants.{NoMarkup, Select, Counted, Other}
use Rattle.yarn_markup.specs.declared.piece.Piece.{Piece}
use Rattle.yarn_markup.specs.Characters.{is_blank, is_word, is_escaped, run_length, past_blanks}
use Rattle.yarn_markup.specs.Tags.{Cut, before, Found, assigned, Head, head_of, head_named, head_at, past_bracket, End, end_with, end_in, end_at, IsTag, Close, close_with, close_named, close_name, close_of, behind_slash, close_in, close_at, Properties, none, more, property_at}
use Rattle.yarn_markup.specs.Choice.{choice_of}
use Rattle.yarn_markup.specs.Pieces.{Front, Nothing, Character, Bracket, behind_backslash, front, Step, step_to, past_end, ended, verbatim, verbatim_step, is_bare, selected_piece, plural_piece, meaning, kind_of, IsBracketed, closes, tag, IsPiece, character, bracket}
use Rattle.yarn_markup.proofs.ReadingLemmas.{rest_of, rest_of-before, left_of, past_blanks-short, assigned-short, property_shorter}

-- ---- the front

abbrev front_rest : Front → List ℕ
front_rest Nothing = []
front_rest (Character c rest) = rest
front_rest (Bracket inside) = inside

backslash-short : (cs : List ℕ) → length (front_rest (behind_backslash cs)) ≤ length cs
backslash-short [] = omega arith
backslash-short (c ∷ cs) = by_escape (is_escaped c)
  where
    by_escape : (b : Bool) → length (front_rest (cond b (Character c cs) (Character 92 (c ∷ cs)))) ≤ length (c ∷ cs)
    by_escape true = omega arith
    by_escape false = omega arith

front-short : (c : ℕ) (cs : List ℕ) → length (front_rest (front (c ∷ cs))) ≤ length cs
front-short c cs = by_first (nat_eq c 92) (nat_eq c 91)
  where
    by_first : (a b : Bool) → length (front_rest (cond a (behind_backslash cs) (cond b (Bracket cs) (Character c cs)))) ≤ length cs
    by_first true b = backslash-short cs
    by_first false true = omega arith
    by_first false false = omega arith

-- the front of a text that isn't empty leaves less than the text
front-shorter : (text : List ℕ) (f : Front) → front text ≡ f → (f ≡ Nothing → ⊥) → length (front_rest f) < length text
front-shorter [] f e some = absurd (some (sym e))
front-shorter (c ∷ cs) f e some = omega (arith, front-short c cs, ap (λ (x : Front). length (front_rest x)) e)

-- ---- closing tags

abbrev bracket_rest : Option (List ℕ) → List ℕ
bracket_rest None = []
bracket_rest (Some rest) = rest

abbrev close_rest : Option Close → List ℕ
close_rest None = []
close_rest (Some close) = close.rest

past_bracket-short : (text : List ℕ) → length (bracket_rest (past_bracket text)) ≤ length text
past_bracket-short [] = omega arith
past_bracket-short (c ∷ cs) = by_bracket (nat_eq c 93)
  where
    by_bracket : (b : Bool) → length (bracket_rest (cond b (Some cs) None)) ≤ length (c ∷ cs)
    by_bracket true = omega arith
    by_bracket false = omega arith

close_with-rest : (name : Option (List ℕ)) (o : Option (List ℕ)) → close_rest (close_with name o) ≡ bracket_rest o
close_with-rest name None = refl
close_with-rest name (Some rest) = refl

close_named-short : (name rest : List ℕ) → length (close_rest (close_named name rest)) ≤ length rest
close_named-short name rest = by_name (is_name_of name)
  where
    by_name : (b : Bool) → length (close_rest (cond b (close_with (Some (encode_utf8_all name)) (past_bracket (past_blanks rest))) None)) ≤ length rest
    by_name true = omega (arith, past_bracket-short (past_blanks rest), past_blanks-short rest, ap length (close_with-rest (Some (encode_utf8_all name)) (past_bracket (past_blanks rest))))
    by_name false = omega arith

close_name-short : (text : List ℕ) → length (close_rest (close_name text)) ≤ length text
close_name-short text =
    let n = run_length is_word text in
    omega (arith, close_named-short (take n text) (drop n text), length-drop n text)

close_of-short : (text : List ℕ) (o : Option (List ℕ)) → length (bracket_rest o) ≤ length text → length (close_rest (close_of text o)) ≤ length text
close_of-short text None h = close_name-short text
close_of-short text (Some rest) h = h

close_in-short : (text : List ℕ) → length (close_rest (close_in text)) ≤ length text
close_in-short [] = omega arith
close_in-short (c ∷ cs) = by_slash (nat_eq c 47)
  where
    by_slash : (b : Bool) → length (close_rest (cond b (behind_slash (past_blanks cs)) None)) ≤ length (c ∷ cs)
    by_slash true = omega (arith, close_of-short (past_blanks cs) (past_bracket (past_blanks cs)) (past_bracket-short (past_blanks cs)), past_blanks-short cs)
    by_slash false = omega arith

close_at-short : (text : List ℕ) (close : Close) → close_at text ≡ Some close → length close.rest ≤ length text
close_at-short text close e = omega (arith, close_in-short (past_blanks text), past_blanks-short text, ap (λ (o : Option Close). length (close_rest o)) e)

-- ---- tags

abbrev head_rest : Option Head → List ℕ
head_rest None = []
head_rest (Some head) = head.rest

head_of-short : (name rest : List ℕ) (o : Option Found) → length (left_of o) ≤ length rest → length (head_of name rest o).rest ≤ length rest
head_of-short name rest None h = omega arith
head_of-short name rest (Some found) h = h

head_named-short : (name rest : List ℕ) → length (head_rest (head_named name rest)) ≤ length rest
head_named-short name rest = by_name (is_name_of name)
  where
    by_name : (b : Bool) → length (head_rest (cond b (Some (head_of name rest (assigned name rest))) None)) ≤ length rest
    by_name true = head_of-short name rest (assigned name rest) (assigned-short name rest)
    by_name false = omega arith

head_at-short : (text : List ℕ) (head : Head) → head_at text ≡ Some head → length head.rest ≤ length text
head_at-short text head e =
    let n = run_length is_word text in
    omega (arith, head_named-short (take n text) (drop n text), length-drop n text, ap (λ (o : Option Head). length (head_rest o)) e)

properties-short : {text rest : List ℕ} {ps : List Property} → Properties text ps rest → length rest ≤ length text
properties-short (none e) = omega arith
properties-short {text = text} (more found e goes) = omega (arith, properties-short goes, property_shorter text found e)

abbrev end_rest : Option End → List ℕ
end_rest None = []
end_rest (Some end) = end.rest

end_with-rest : (lone : Bool) (o : Option (List ℕ)) → end_rest (end_with lone o) ≡ bracket_rest o
end_with-rest lone None = refl
end_with-rest lone (Some rest) = refl

end_in-short : (text : List ℕ) → length (end_rest (end_in text)) ≤ length text
end_in-short [] = omega arith
end_in-short (c ∷ cs) = by_slash (nat_eq c 47)
  where
    by_slash : (b : Bool) → length (end_rest (cond b (end_with true (past_bracket (past_blanks cs))) (end_with false (past_bracket (c ∷ cs))))) ≤ length (c ∷ cs)
    by_slash true = omega (arith, past_bracket-short (past_blanks cs), past_blanks-short cs, ap length (end_with-rest true (past_bracket (past_blanks cs))))
    by_slash false = omega (arith, past_bracket-short (c ∷ cs), ap length (end_with-rest false (past_bracket (c ∷ cs))))

end_at-short : (text : List ℕ) (end : End) → end_at text ≡ Some end → length end.rest ≤ length text
end_at-short text end e = omega (arith, end_in-short (past_blanks text), past_blanks-short text, ap (λ (o : Option End). length (end_rest o)) e)

tag-short : {text rest : List ℕ} {own : Tag} {lone : Bool} → IsTag text own lone rest → length rest ≤ length text
tag-short {text = text} {rest = rest} {lone = lone} is =
    omega (arith, head_at-short (past_blanks text) is.head is.begins, past_blanks-short text, properties-short is.goes, end_at-short is.behind (record { lone = lone; rest = rest }) is.ends)

-- ---- meanings

abbrev step_rest : Option Step → List ℕ
step_rest None = []
step_rest (Some step) = step.rest

step_to-short : (rest : List ℕ) (o : Option Piece) → length (step_rest (step_to rest o)) ≤ length rest
step_to-short rest None = omega arith
step_to-short rest (Some piece) = omega arith

past_end-short : (text : List ℕ) → length (bracket_rest (past_end text)) ≤ length text
past_end-short text = by_end (starts_with nat_eq text (codes "[/nomarkup]"))
  where
    by_end : (b : Bool) → length (bracket_rest (cond b (Some (drop 11 text)) None)) ≤ length text
    by_end true = omega (arith, length-drop 11 text)
    by_end false = omega arith

ended-short : (o : Option (List ℕ)) (further : Option Cut) (n : ℕ) → length (bracket_rest o) ≤ n → length (rest_of further) ≤ n → length (rest_of (ended o further)) ≤ n
ended-short None further n h g = g
ended-short (Some rest) further n h g = h

verbatim-short : (text : List ℕ) → length (rest_of (verbatim text)) ≤ length text
verbatim-short [] = omega arith
verbatim-short (c ∷ cs) =
    ended-short (past_end (c ∷ cs)) (before (encode_utf8 c) (verbatim cs)) (length (c ∷ cs)) (past_end-short (c ∷ cs))
    (omega (arith, verbatim-short cs, ap length (rest_of-before (encode_utf8 c) (verbatim cs))))

verbatim_step-rest : (o : Option Cut) → step_rest (verbatim_step o) ≡ rest_of o
verbatim_step-rest None = refl
verbatim_step-rest (Some cut) = refl

step_if-short : (b : Bool) (o : Option Step) (n : ℕ) → length (step_rest o) ≤ n → length (step_rest (cond b o None)) ≤ n
step_if-short true o n h = h
step_if-short false o n h = omega arith

meaning-short : (plural : PluralTable) (kind : Kind) (own : Tag) (lone : Bool) (behind : List ℕ) → length (step_rest (meaning plural kind own lone behind)) ≤ length behind
meaning-short plural NoMarkup own lone behind =
    step_if-short (is_bare own.properties lone) (verbatim_step (verbatim behind)) (length behind)
    (omega (arith, verbatim-short behind, ap length (verbatim_step-rest (verbatim behind))))
meaning-short plural Select own lone behind =
    step_if-short lone (step_to behind (selected_piece (choice_of own))) (length behind) (step_to-short behind (selected_piece (choice_of own)))
meaning-short plural (Counted form) own lone behind =
    step_if-short lone (step_to behind (plural_piece plural form (choice_of own))) (length behind) (step_to-short behind (plural_piece plural form (choice_of own)))
meaning-short plural Other own lone behind = omega arith

-- ---- pieces

bracketed-short : (plural : PluralTable) (inside : List ℕ) (piece : Piece) (rest : List ℕ) → IsBracketed plural inside piece rest → length rest ≤ length inside
bracketed-short plural inside piece rest (closes close e) = close_at-short inside close e
bracketed-short plural inside piece rest (tag own lone behind step n is m) =
    omega (arith, tag-short is, meaning-short plural (kind_of own.name) own lone behind, ap (λ (o : Option Step). length (step_rest o)) m)

pub piece-shorter : (plural : PluralTable) (text : List ℕ) (piece : Piece) (rest : List ℕ) → IsPiece plural text piece rest → length rest < length text
piece-shorter plural text piece rest (character c behind e) = front-shorter text (Character c behind) e (λ h. absurd cc)
piece-shorter plural text piece rest (bracket inside own after e is) =
    omega (arith, front-shorter text (Bracket inside) e (λ h. absurd cc), bracketed-short plural inside own after is)

pub no_characters : (text : List ℕ) → length text ≡ 0 → text ≡ []
no_characters [] e = refl
no_characters (c ∷ cs) e = absurd (omega arith)
