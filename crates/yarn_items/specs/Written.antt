-- A text as it is written from some place on, before the blanks around it are left out.
use Rattle.std.specs.Prelude.{◌≡◌, ℕ, ◌+◌, ◌<◌, List, [], ◌∷◌, ◌++◌, length, false, ◌||◌, Option, Some, None, IsUtf8}
use Rattle.std.specs.Str.{chars}
use Rattle.yarn_expr.specs.declared.tree.Expr.{Expr}
use Rattle.yarn_commands.specs.declared.read.Part.{Part}
use Rattle.yarn_commands.specs.Reading.{expression}
use Rattle.yarn_items.specs.declared.item.Literals.{Literals}
use Rattle.yarn_items.specs.declared.first.Kind.{Kind}
use Rattle.yarn_items.specs.declared.first.Kind.TheVariants.{Line, Game}
use Rattle.yarn_items.specs.declared.first.First.{First}
use Rattle.yarn_items.specs.declared.first.First.TheVariants as first
use Rattle.yarn_items.specs.declared.text.TextRead.{TextRead}
use Rattle.yarn_items.specs.Text.{Piece, kept_from, hole_text}
use Rattle.yarn_items.specs.Game.{game_text_from}
use Rattle.yarn_items.specs.Item.{literals_of}
use Rattle.yarn_items.specs.Scan.{Ends, front_of, Scan, scan}
use Rattle.yarn_items.specs.Holes.{Held, held_in}

pub record Written : Type 0 where
  pub text : List ℕ
  pub holes : List Expr
  pub literals : Literals
  pub rest : List ℕ

abbrev pub text_by : Kind → ℕ → List Piece → List ℕ
text_by Line k pieces = kept_from k pieces
text_by Game k pieces = game_text_from k pieces

abbrev pub written_with : Kind → ℕ → Scan → Option Held → Option Written
written_with kind k read None = None
written_with kind k read (Some held) = Some (record { text = text_by kind k read.pieces; holes = held.holes; literals = literals_of held.tokens; rest = read.rest })

abbrev pub written_of : Kind → ℕ → Option Scan → Option Written
written_of kind k None = None
written_of kind k (Some read) = written_with kind k read (held_in read.pieces)

-- where so many substitutions stand before it
unfoldable pub written : Kind → ℕ → List ℕ → Option Written
written kind k bytes = written_of kind k (scan kind bytes)

abbrev pub no_literals : Literals
no_literals = record { fraction = false; too_large = false }

abbrev pub both_literals : Literals → Literals → Literals
both_literals a b = record { fraction = a.fraction || b.fraction; too_large = a.too_large || b.too_large }

-- what stands before a text, and the text
abbrev pub joined : List ℕ → List Expr → Literals → Option Written → Option Written
joined text holes literals None = None
joined text holes literals (Some later) =
    Some (record { text = text ++ later.text; holes = holes ++ later.holes; literals = both_literals literals later.literals; rest = later.rest })

-- a substitution before a text, where so many stand before both
abbrev pub with_hole : ℕ → Option Part → Option Written → Option Written
with_hole k None later = None
with_hole k (Some part) later = joined (hole_text k) (part.expr ∷ []) (literals_of part.tokens) later

-- a look at the front tells that much of how the text is written
abbrev pub IsFirst : Kind → List ℕ → First → Type 0
IsFirst kind bytes (first.Kept own rest) =
    ((k : ℕ) → written kind k bytes ≡ joined own.now [] no_literals (written kind k rest.now)) × (length rest.now < length bytes) × IsUtf8 own.now × IsUtf8 rest.now
IsFirst kind bytes (first.Hole inside rest) =
    ((k : ℕ) → written kind k bytes ≡ with_hole k (expression (chars inside.now)) (written kind (k + 1) rest.now)) ×
    (length rest.now < length bytes) × IsUtf8 inside.now × IsUtf8 rest.now
IsFirst kind bytes first.Ends = front_of kind bytes ≡ Ends
IsFirst kind bytes first.Broken = (k : ℕ) → written kind k bytes ≡ None

-- the code has what is written
pub record IsWritten (w : Written) (read : TextRead) : Type 0 where
  pub text : read.text ≡ w.text
  pub holes : read.holes ≡ w.holes
  pub literals : read.literals ≡ w.literals
  pub rest : read.rest.now ≡ w.rest
  pub utf8 : IsUtf8 w.rest

abbrev pub IsWrittenAnswer : Option Written → Option TextRead → Type 0
IsWrittenAnswer None None = Unit {0}
IsWrittenAnswer (Some w) (Some read) = IsWritten w read
IsWrittenAnswer _ _ = ⊥
