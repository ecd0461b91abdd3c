-- The content of a command: what stands between `<<` and its `>>` (docs/language.md, Texts and commands).
use Rattle.std.specs.Prelude.{◌≡◌, ℕ, List, [], ◌∷◌, ◌++◌, Bool, true, false, not, ◌&&◌, ◌||◌, nat_eq, codes}
use Rattle.std.specs.Str.{chars}
use Rattle.yarn_commands.specs.FirstWord.{is_for_game}
use Rattle.yarn_lines.specs.Lines.{begins_with, past_leading}
use Rattle.yarn_items.specs.Brace.{ToBrace}
use Rattle.yarn_items.specs.Text.{trimmed}

-- the front of the bytes neither ends a content nor begins or ends a quoted string, nor skips a character, nor begins a
-- substitution, which only a command for the game may have; in a quoted string or outside
abbrev pub goes_on : Bool → Bool → List ℕ → Bool
goes_on games quoted [] = false
goes_on games quoted (c ∷ bytes) =
    not (nat_eq c 34) && not (nat_eq c 92) && not (games && nat_eq c 123) && (quoted || not (begins_with (codes ">>") (c ∷ bytes)))

-- What stands before the first `>>` outside a quoted string, and what follows it. A `\` skips the next character. In what
-- may be a command for the game a substitution is passed whole, also in a quoted string.
pub data ToEnd : Bool → Bool → List ℕ → List ℕ → List ℕ → Type 0 where
  ends : {games : Bool} {rest : List ℕ} → ToEnd games false (62 ∷ 62 ∷ rest) [] rest
  quote : {games quoted : Bool} {bytes inside rest : List ℕ} →
      ToEnd games (not quoted) bytes inside rest → ToEnd games quoted (34 ∷ bytes) (34 ∷ inside) rest
  skipped : {games quoted : Bool} {c : ℕ} {bytes inside rest : List ℕ} →
      ToEnd games quoted bytes inside rest → ToEnd games quoted (92 ∷ c ∷ bytes) (92 ∷ c ∷ inside) rest
  passed : {quoted : Bool} {bytes own more inside rest : List ℕ} → ToBrace false bytes own more →
      ToEnd true quoted more inside rest → ToEnd true quoted (123 ∷ bytes) (123 ∷ (own ++ 125 ∷ inside)) rest
  other : {games quoted : Bool} {c : ℕ} {bytes inside rest : List ℕ} → goes_on games quoted (c ∷ bytes) ≡ true →
      ToEnd games quoted bytes inside rest → ToEnd games quoted (c ∷ bytes) (c ∷ inside) rest

-- `<<`, that content between blanks, `>>`, and that rest of the line; its first word tells whether it may be for the game
pub record HasContent (text content rest : List ℕ) : Type 0 where
  pub bytes : List ℕ
  pub inside : List ℕ
  pub split : text ≡ codes "<<" ++ bytes
  pub to_end : ToEnd (is_for_game (chars (past_leading bytes))) false bytes inside rest
  pub own : content ≡ trimmed inside

-- `<<`, the content of a condition between blanks, `>>`, and that rest of the line
pub record HasCondition (text content rest : List ℕ) : Type 0 where
  pub bytes : List ℕ
  pub inside : List ℕ
  pub split : text ≡ codes "<<" ++ bytes
  pub to_end : ToEnd false false bytes inside rest
  pub own : content ≡ trimmed inside
