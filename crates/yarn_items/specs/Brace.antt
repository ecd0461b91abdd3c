-- Where a substitution ends: at the first `}` outside a quoted string (docs/language.md, Texts).
use Rattle.std.specs.Prelude.{◌≡◌, ℕ, List, [], ◌∷◌, Bool, true, false, not, ◌&&◌, if◌then◌else◌, nat_eq, Option, Some, None}
use Rattle.yarn_items.specs.declared.brace.Place.{Place}
use Rattle.yarn_items.specs.declared.brace.Place.TheVariants.{Outside, Quoted, Skipping}

-- a character that neither ends a substitution nor begins or ends a quoted string, nor skips another one; in a quoted string or outside
abbrev pub is_plain : Bool → ℕ → Bool
is_plain quoted c = not (nat_eq c 34) && (if quoted then not (nat_eq c 92) else not (nat_eq c 125))

-- What stands before that `}`, and what follows it. In a quoted string a `\` skips the next character.
pub data ToBrace : Bool → List ℕ → List ℕ → List ℕ → Type 0 where
  closes : {rest : List ℕ} → ToBrace false (125 ∷ rest) [] rest
  quote : {quoted : Bool} {bytes inside rest : List ℕ} → ToBrace (not quoted) bytes inside rest → ToBrace quoted (34 ∷ bytes) (34 ∷ inside) rest
  skipped : {c : ℕ} {bytes inside rest : List ℕ} → ToBrace true bytes inside rest → ToBrace true (92 ∷ c ∷ bytes) (92 ∷ c ∷ inside) rest
  plain : {quoted : Bool} {c : ℕ} {bytes inside rest : List ℕ} → is_plain quoted c ≡ true →
      ToBrace quoted bytes inside rest → ToBrace quoted (c ∷ bytes) (c ∷ inside) rest

-- what stands before the `}`, and what follows it
pub record Cut : Type 0 where
  pub inside : List ℕ
  pub rest : List ℕ

-- the character belongs to what stands before the `}`
abbrev pub with_byte : ℕ → Option Cut → Option Cut
with_byte c None = None
with_byte c (Some cut) = Some (record { inside = c ∷ cut.inside; rest = cut.rest })

-- the character ends the substitution
abbrev pub is_end : Place → ℕ → Bool
is_end Outside c = nat_eq c 125
is_end Quoted c = false
is_end Skipping c = false

-- the place behind the character
abbrev pub place_behind : Place → ℕ → Place
place_behind Outside c = if nat_eq c 34 then Quoted else Outside
place_behind Quoted c = if nat_eq c 34 then Outside else if nat_eq c 92 then Skipping else Quoted
place_behind Skipping c = Quoted

-- the same as a function, from such a place on
abbrev pub to_brace : Place → List ℕ → Option Cut
to_brace place [] = None
to_brace place (c ∷ bytes) =
    if is_end place c then Some (record { inside = []; rest = bytes }) else with_byte c (to_brace (place_behind place c) bytes)
